-- Who joins receives every message that is published after its admission.
use Rattle.ring_rules.proofs.invariants.KeptLook.{look_up}
use Rattle.ring_rules.proofs.invariants.KeptBegin.{begins_other}
use Rattle.ring_rules.proofs.walks.Put.{oldest_pushed}
use Rattle.std.proofs.Common.{◌≡◌, ◌≢◌, ℕ, ◌<◌, ◌≤◌, Bool, true, false, List, [], ◌∷◌, length, get_or, Some, refl, sym, ap, subst, ◌∙◌, ⊎_elim, arith}
use Rattle.std.proofs.lemmas.Bool.{cases_eq, cases_lt}
use Rattle.std.proofs.lemmas.List.{length-set, length_push, get_or_append_left}
use Rattle.ring_names.specs.declared.numbers.CreditSpec.{CreditSpec}
use Rattle.group_view.specs.Change.{AreOpeningNames}
use Rattle.ring_rules.specs.Refusal.{is_empty}
use Rattle.ring_rules.specs.Rows.{Row, no_row, taken_row}
use Rattle.ring_rules.specs.Machine.{Waiting, Up, World, Member, Link, no_member, no_link, no_packet, row_at, numbers_at, member_at, link_at, right, runs_phase, is_waiting, oldest}
use Rattle.ring_rules.specs.Step.{copied, size, log_of, pushed, popped, next_packet, published, taker, begun, begin_from, with_current, stopped, moved_to, with_member, with_link, look_at, opened_link, joiner, opening}
use Rattle.ring_rules.specs.Act.{Act, IsRun, last}
use Rattle.ring_rules.specs.Lawful.{row_of, JoinsInTime}
use Rattle.ring_rules.proofs.events.WhatRefuses.{MayBegin}
use Rattle.ring_rules.proofs.rings.Lists.{at_set, get_or_beyond}
use Rattle.ring_rules.proofs.invariants.Kept.{Inv, set_alike, WaitersStay}
use Rattle.ring_rules.proofs.invariants.KeptTake.{taker_beyond}
use Rattle.ring_rules.proofs.invariants.KeptCast.{gained_rows}
use Rattle.ring_rules.proofs.invariants.KeptOpen.{out_member}
use Rattle.ring_rules.proofs.invariants.KeptAdmit.{CanJoin, joined_state, JoinFirst, came, was, join_row, join_old, join_log, join_first}
use Rattle.ring_rules.proofs.walks.Take.{row_at-taker}
use Rattle.ring_rules.proofs.events.First.{first_row, first_none_waits}
use Rattle.ring_rules.proofs.runs.OwnLogs.{IsLogged, joiner_rows, opening_logged, run_knowing, begun_at}
use Rattle.ring_rules.proofs.invariants.Happens.{IsGood, opening_good}
use Rattle.ring_rules.proofs.invariants.Moves.{copy_move, Move, cast_move, put_move, take_move, begin_move, current_move, stop_move, way_move, look_move, open_move, mark_move, erase_move, sync_move, join_move, act_moves}

-- ---- what changes nothing of it

-- a row keeps where it begins, or is one of which nothing is known
pub data RowKept (r r' : Row) : Type 0 where
  same_base : r'.base ≡ r.base → r'.born ≡ r.born → RowKept r r'
  no_base : r' ≡ no_row → RowKept r r'

pub record Alike (w w' : World) : Type 0 where
  pub rows : (q p : ℕ) → RowKept (row_of w q p) (row_of w' q p)
  pub logs : (p : ℕ) → length (log_of w p) ≤ length (log_of w' p)
  pub waits : WaitersStay w w'
  pub links : (q s : ℕ) → (member_at w q).phase ≡ Waiting → (member_at w q).current ≡ Some s → oldest (link_at w' s) ≡ oldest (link_at w s)

alike_joins : (w w' : World) → Alike w w' → JoinsInTime w → JoinsInTime w'
alike_joins w w' k h = record {
  base = λ q p. by_row q p (k.rows q p);
  born = λ q p. by_born q p (k.rows q p);
  first = λ q p s waits current.
      let same : member_at w' q ≡ member_at w q = k.waits q waits in
      let was : (member_at w q).phase ≡ Waiting = sym (ap (λ a. a.phase) same) ∙ waits in
      let takes : (member_at w q).current ≡ Some s = sym (ap (λ a. a.current) same) ∙ current in
      omega (arith, ap (λ j. (numbers_at j p).got) (k.links q s was takes), ap (λ a. (row_at a p).born) same, h.first q p s was takes);
}
  where
    by_row : (q p : ℕ) → RowKept (row_of w q p) (row_of w' q p) → (row_of w' q p).base ≤ (row_of w' q p).born
    by_row q p (same_base a b) = omega (arith, a, b, h.base q p)
    by_row q p (no_base e) = omega (arith, ap (λ (r : Row). r.base) e)

    by_born : (q p : ℕ) → RowKept (row_of w q p) (row_of w' q p) → (row_of w' q p).born ≤ length (log_of w' p)
    by_born q p (same_base a b) = omega (arith, b, h.born q p, k.logs p)
    by_born q p (no_base e) = omega (arith, ap (λ (r : Row). r.born) e)

stays_kept : (r : Row) → RowKept r r
stays_kept r = same_base refl refl

-- a member that doesn't wait is written
set_same : (w : World) (x : ℕ) (m : Member) → x < size w → is_waiting m.phase ≡ false → ((p : ℕ) → RowKept (row_at (member_at w x) p) (row_at m p)) → length (log_of w x) ≤ length m.log → Alike w (with_member w x m)
set_same w x m lt e rows log = record {
  rows = λ q p. at_set (λ i a. RowKept (row_of w i p) (row_at a p)) w.members x q m no_member lt (rows p) (λ _. stays_kept (row_of w q p));
  logs = λ p. at_set (λ i a. length (log_of w i) ≤ length a.log) w.members x p m no_member lt log (λ _. omega arith);
  waits = λ q k. set_alike w x q m lt e k;
  links = λ q s _ _. refl;
}

-- a link is written, whose first packet stays where somebody waits for it
link_same : (w : World) (o : ℕ) (l : Link) → o < length w.links → (is_empty (link_at w o).packets ≡ false → oldest l ≡ oldest (link_at w o)) → Inv w → Alike w (with_link w o l)
link_same w o l lt first inv = record {
  rows = λ q p. stays_kept (row_of w q p);
  logs = λ p. omega arith;
  waits = λ q k. refl;
  links = λ q s waits current. at_set (λ i a. is_empty (link_at w i).packets ≡ false → oldest a ≡ oldest (link_at w i)) w.links o s l no_link lt first (λ _ _. refl) (inv.waiting.first q s waits current);
}

-- ---- steps

-- where a member joins, the numbers are within the logs
pub record IsHere (w : World) : Type 0 where
  pub good : IsGood w
  pub logged : IsLogged w

-- a first take
begin_joins : (w : World) (y s : ℕ) → (member_at w y).phase ≡ Waiting → (member_at w y).current ≡ Some s → y < size w → s < length w.links → (link_at w s).receiver ≡ y → Inv w → JoinsInTime w → JoinsInTime (begin_from w y s)
begin_joins w y s waits current lt there to inv h = record {
  base = λ q p. at_set (λ i a. (row_at a p).base ≤ (row_at a p).born) w.members y q b no_member lt (begun_base p) (λ _. h.base q p);
  born = λ q p. omega (arith, log_same p, at_set (λ i a. (row_at a p).born ≤ length (log_of w p)) w.members y q b no_member lt (begun_born p) (λ _. h.born q p));
  first = λ q p t waits2 current2.
      let same : member_at (begin_from w y s) q ≡ member_at w q = set_alike w y q b lt refl waits2 in
      let was : (member_at w q).phase ≡ Waiting = sym (ap (λ a. a.phase) same) ∙ waits2 in
      let takes : (member_at w q).current ≡ Some t = sym (ap (λ a. a.current) same) ∙ current2 in
      let old : oldest (link_at (begin_from w y s) t) ≡ oldest (link_at w t) =
      at_set (λ i l. i ≢ s → oldest l ≡ oldest (link_at w i)) w.links s t (popped (link_at w s)) no_link there (λ d. absurd (d refl)) (λ _ _. refl)
      (λ is. begins_other w y s lt q waits2 (sym (inv.waiting.mine q t was takes) ∙ ap (λ j. (link_at w j).receiver) is ∙ to)) in
      omega (arith, ap (λ j. (numbers_at j p).got) old, ap (λ a. (row_at a p).born) same, h.first q p t was takes);
}
  where
    b : Member
    b = begun (size w) (member_at w y) (oldest (link_at w s))

    log_same : (p : ℕ) → length (log_of (begin_from w y s) p) ≡ length (log_of w p)
    log_same p = at_set (λ i a. length a.log ≡ length (log_of w i)) w.members y p b no_member lt refl (λ _. refl)

    begun_base : (p : ℕ) → (row_at b p).base ≤ (row_at b p).born
    begun_base p = begun_at (λ (r : Row). r.base ≤ r.born) w y s p (λ _. h.first y p s waits current) (λ _. omega arith)

    begun_born : (p : ℕ) → (row_at b p).born ≤ length (log_of w p)
    begun_born p = begun_at (λ (r : Row). r.born ≤ length (log_of w p)) w y s p (λ _. h.born y p) (λ _. omega arith)

-- an admission
join_joins : (w : World) (m : ℕ) (name : List ℕ) → CanJoin w m → IsLogged w → JoinsInTime w → JoinsInTime (joined_state w m name)
join_joins w m name j l h = record {
  base = λ q p. ⊎_elim
      (λ (is : q ≡ size w). omega (arith, ap (λ i. (row_of w1 i p).base) is, ap (λ (r : Row). r.base) (join_row w m name j p), joiner_rows w name p (λ r. r.base ≡ 0) refl (λ _. refl)))
      (λ (d : q ≢ size w). omega (arith, ap (λ (r : Row). r.base) (join_old w m name j q p d), ap (λ (r : Row). r.born) (join_old w m name j q p d), h.base q p))
      (cases_eq q (size w));
  born = λ q p. ⊎_elim
      (λ (is : q ≡ size w). omega (arith, log_same p, ap (λ i. (row_of w1 i p).born) is, ap (λ (r : Row). r.born) (join_row w m name j p), joiner_rows w name p (λ r. r.born ≤ length (log_of w p)) (omega arith) (λ _. omega arith)))
      (λ (d : q ≢ size w). omega (arith, log_same p, ap (λ (r : Row). r.born) (join_old w m name j q p d), h.born q p))
      (cases_eq q (size w));
  first = λ q p s waits current. by_first q p s (join_first w m name j q s waits current);
}
  where
    w1 : World
    w1 = joined_state w m name

    log_same : (p : ℕ) → length (log_of w1 p) ≡ length (log_of w p)
    log_same p = ap length (join_log w m name j p)

    joiner_born : (p : ℕ) → (row_at (joiner w name) p).born ≡ length (log_of w p)
    joiner_born p = joiner_rows w name p (λ r. r.born ≡ length (log_of w p)) refl (λ ge. sym (ap (λ a. length a.log) (get_or_beyond w.members p no_member (omega arith))))

    by_first : (q p s : ℕ) → JoinFirst w m name q s → (numbers_at (oldest (link_at w1 s)) p).got ≤ (row_of w1 q p).born
    by_first q p s (came is reads) =
        let within : (row_of w m p).got ≤ length (log_of w p) = (l.within.rows m p).got in
        let born : (row_at (joiner w name) p).born ≡ length (log_of w p) = joiner_born p in
        omega (arith, reads p, within, born, ap (λ i. (row_of w1 i p).born) is, ap (λ (r : Row). r.born) (join_row w m name j p))
    by_first q p s (was d waits current same) =
        omega (arith, ap (λ k. (numbers_at k p).got) same, ap (λ (r : Row). r.born) (join_old w m name j q p d), h.first q p s waits current)

-- a step changes nothing of it, at once or in two parts; but for a first take and an admission
pub data Stays (w w' : World) : Type 0 where
  once : Alike w w' → Stays w w'
  twice : (w1 : World) → Alike w w1 → Alike w1 w' → Stays w w'
  begins : (y s : ℕ) → MayBegin w y s → w' ≡ begin_from w y s → Stays w w'
  joins : (m : ℕ) (name : List ℕ) → CanJoin w m → IsHere w → w' ≡ joined_state w m name → Stays w w'

-- each step
pub move_stays : (w w' : World) → IsGood w → Move IsHere w w' → Stays w w'
move_stays w w' g (cast_move x m lt up e) = once (subst (Alike w) (sym e)
    (set_same w x (published x m (member_at w x)) lt (ap is_waiting up) (λ p. gained_rows m RowKept x p (member_at w x) stays_kept (same_base refl refl)) (omega (arith, length_push (log_of w x) m))))
move_stays w w' g (put_move x o up out e) = once (subst (Alike w) (sym e)
    (link_same w o (pushed (link_at w o) (next_packet (member_at w x) (link_at w o).sending)) (g.inv.linked.out_lt x o (ap runs_phase up) out) (λ some. oldest_pushed (link_at w o) _ some) g.inv))
move_stays w w' g (take_move y s m e) = once (subst (Alike w) (sym e) (record {
  rows = λ q p. at_set (λ i a. RowKept (row_of w i p) (row_at a p)) w.members y q (taker w y s) no_member m.is_member (taken_kept p) (λ _. stays_kept (row_of w q p));
  logs = λ p. at_set (λ i a. length (log_of w i) ≤ length a.log) w.members y p (taker w y s) no_member m.is_member (omega arith) (λ _. omega arith);
  waits = λ q k. set_alike w y q (taker w y s) m.is_member (ap is_waiting m.up) k;
  links = λ q t waits current. at_set (λ i l. i ≢ s → oldest l ≡ oldest (link_at w i)) w.links s t (popped (link_at w s)) no_link (g.inv.current.lt y s (ap runs_phase m.up) m.current) (λ d. absurd (d refl)) (λ _ _. refl)
      (λ is. apart q waits (sym (g.inv.waiting.mine q t waits current) ∙ ap (λ j. (link_at w j).receiver) is ∙ g.inv.current.receiver y s (ap runs_phase m.up) m.current));
}))
  where
    apart : (q : ℕ) → (member_at w q).phase ≡ Waiting → q ≢ y
    apart q e2 is = let bad : Up ≡ Waiting = sym m.up ∙ ap (λ i. (member_at w i).phase) (sym is) ∙ e2 in cc

    taken_kept : (p : ℕ) → RowKept (row_at (member_at w y) p) (row_at (taker w y s) p)
    taken_kept p = ⊎_elim
        (λ (pl : p < size w). subst (RowKept (row_at (member_at w y) p)) (sym (row_at-taker w y s p pl)) (by_own _))
        (λ (ge : size w ≤ p). no_base (taker_beyond w y s p ge))
        (cases_lt p (size w))
      where
        by_own : (own : Bool) → RowKept (row_at (member_at w y) p) (taken_row own (log_of w p) (row_at (member_at w y) p) (numbers_at (oldest (link_at w s)) p))
        by_own true = same_base refl refl
        by_own false = same_base refl refl
move_stays w w' g (begin_move y s m e) = begins y s m e
move_stays w w' g (current_move y c lt up k e) = once (subst (Alike w) (sym e) (set_same w y (with_current c (member_at w y)) lt (ap is_waiting up) (λ p. stays_kept (row_of w y p)) (omega arith)))
move_stays w w' g (copy_move x m lt up e) = once (subst (Alike w) (sym e) (set_same w x (copied m (member_at w x)) lt (ap is_waiting up) (λ p. stays_kept (row_of w x p)) (omega arith)))
move_stays w w' g (stop_move x lt rx e) = once (subst (Alike w) (sym e) (set_same w x (stopped (member_at w x)) lt refl (λ p. stays_kept (row_of w x p)) (omega arith)))
move_stays w w' g (way_move s l lt k e) = once (subst (Alike w) (sym e) (link_same w s l lt (λ _. ap (λ ks. get_or ks 0 no_packet) k.packets) g.inv))
move_stays w w' g (look_move x v m e) = once (subst (Alike w) (sym e) (set_same w x (moved_to w x v) m.is_member (ap is_waiting m.up) (λ p. stays_kept (row_of w x p)) (omega arith)))
move_stays w w' g (open_move x v m moves e) = twice w1 looked (subst (Alike w1) (sym e) (record {
  rows = opened.rows;
  logs = opened.logs;
  waits = opened.waits;
  links = λ q s waits current. ap oldest (get_or_append_left w.links (opened_link w1 x (right w v x) ∷ []) no_link s (waiting_link q s waits current));
}))
  where
    w1 : World
    w1 = look_at w x v

    looked : Alike w w1
    looked = set_same w x (moved_to w x v) m.is_member (ap is_waiting m.up) (λ p. stays_kept (row_of w x p)) (omega arith)

    lt1 : x < size w1
    lt1 = omega (arith, m.is_member, length-set w.members x (moved_to w x v))

    opened : Alike w1 (with_member w1 x (out_member w1 x))
    opened = set_same w1 x (out_member w1 x) lt1 (ap is_waiting (look_up w x v m.is_member m.up)) (λ p. stays_kept (row_of w1 x p)) (omega arith)

    waiting_link : (q s : ℕ) → (member_at w1 q).phase ≡ Waiting → (member_at w1 q).current ≡ Some s → s < length w.links
    waiting_link q s waits current =
        let same : member_at w1 q ≡ member_at w q = set_alike w x q (moved_to w x v) m.is_member (ap is_waiting m.up) waits in
        g.inv.current.lt q s (ap runs_phase (sym (ap (λ a. a.phase) same) ∙ waits)) (sym (ap (λ a. a.current) same) ∙ current)
move_stays w w' g (mark_move d rest live e) = once (subst (Alike w) (sym e) (record { rows = λ q p. stays_kept (row_of w q p); logs = λ p. omega arith; waits = λ q _. refl; links = λ q s _ _. refl }))
move_stays w w' g (erase_move x d m e) = once (subst (Alike w) (sym e) (record { rows = λ q p. stays_kept (row_of w q p); logs = λ p. omega arith; waits = λ q _. refl; links = λ q s _ _. refl }))
move_stays w w' g (sync_move x m e) = once (subst (Alike w) (sym e) (record { rows = λ q p. stays_kept (row_of w q p); logs = λ p. omega arith; waits = λ q _. refl; links = λ q s _ _. refl }))
move_stays w w' g (join_move m name j here e) = joins m name j here e

move_joins : (w w' : World) → IsGood w → Move IsHere w w' → JoinsInTime w → JoinsInTime w'
move_joins w w' g k h = by_stays (move_stays w w' g k)
  where
    by_stays : Stays w w' → JoinsInTime w'
    by_stays (once a) = alike_joins w w' a h
    by_stays (twice w1 a b) = alike_joins w1 w' b (alike_joins w w1 a h)
    by_stays (begins y s m e) = subst JoinsInTime (sym e) (begin_joins w y s m.waits m.current m.is_member (g.inv.current.lt y s (ap runs_phase m.waits) m.current) (g.inv.current.receiver y s (ap runs_phase m.waits) m.current) g.inv h)
    by_stays (joins m name j here e) = subst JoinsInTime (sym e) (join_joins w m name j here.logged h)

-- ---- runs

opening_joins : (credit : CreditSpec) (names : List (List ℕ)) → JoinsInTime (opening credit names)
opening_joins credit names = record {
  base = λ q p. omega (arith, ap (λ (r : Row). r.base) (first_row credit names q p));
  born = λ q p. omega (arith, ap (λ (r : Row). r.born) (first_row credit names q p));
  first = λ q p s waits. absurd (first_none_waits credit names q waits);
}

-- in every state of every run
pub run_joins_in_time : (credit : CreditSpec) (names : List (List ℕ)) (es : List Act) → AreOpeningNames names → IsRun (opening credit names) es → JoinsInTime (last (opening credit names) es)
run_joins_in_time credit names es are r =
    run_knowing JoinsInTime (λ w e g q l h. act_moves IsHere JoinsInTime move_joins w e g (record { good = g; logged = l }) q h) (opening credit names) es (opening_good credit names are) r (opening_logged credit names) (opening_joins credit names)
