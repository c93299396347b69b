-- What a member has forgotten isn't above the got that it sent last. For each one that sent something the state is kept in which
-- it has still the rows of its last put: what it takes since then goes from its link, and nothing else. That is a good state too.
use Rattle.std.proofs.Common.{◌≡◌, ◌≢◌, ℕ, ◌+◌, ◌<◌, ◌≤◌, Bool, true, false, nat_eq, List, [], ◌∷◌, ◌++◌, length, get_or, set, Option, Some, None, refl, sym, ap, subst, ◌∙◌, ⊎_elim, if◌then◌else◌, arith}
use Rattle.queue_mirror.specs.Mirror.{MirrorState}
use Rattle.std.proofs.lemmas.Bool.{false≢true, cases_eq, cases_lt}
use Rattle.std.proofs.lemmas.List.{length-set, length_push, get_or-set_other, get_or-set_same, get_or_append_left, get_or_push}
use Rattle.queue_core.specs.declared.message.Message.{Message}
use Rattle.ring_names.specs.declared.numbers.CreditSpec.{CreditSpec}
use Rattle.group_view.specs.View.{Group, is_dead}
use Rattle.group_view.specs.Change.{AreOpeningNames, marked}
use Rattle.ring_rules.specs.declared.numbers.Numbers.{Numbers}
use Rattle.ring_rules.specs.Rows.{Row, regained, taken_row}
use Rattle.ring_rules.specs.Refusal.{is_empty}
use Rattle.ring_rules.specs.View.{is_live, right_of}
use Rattle.ring_rules.specs.Machine.{Waiting, Up, Stopped, Moved, Halted, Packet, Member, Link, World, no_packet, no_link, no_member, no_sending, row_at, numbers_at, member_at, link_at, view_in, newest, runs, runs_phase, is_kept, is_waiting, oldest}
use Rattle.ring_rules.specs.Step.{copied, copied_at, size, log_of, put_on, pushed, popped, next_packet, publish_at, published, take_from, taker, begun, begin_from, is_owned, current_is, with_current, leave_link, finished, stop_at, stopped, end_out, ended, with_member, with_link, with_view, look_at, moved_to, open_to, opened_link, joiner, come_to, opening}
use Rattle.group_view.proofs.Syncing.{Unsynced}
use Rattle.ring_rules.specs.Event.{send_to, refreshed, erased_view, admit_refusal, synced_view}
use Rattle.ring_rules.specs.Act.{Act, refusal, effect, IsRun, last}
use Rattle.ring_rules.specs.Compact.{HasSentForgot}
use Rattle.ring_rules.proofs.events.WhatRefuses.{MayTake, MayBegin, IsPickable, MayLook, IsSameWay}
use Rattle.ring_rules.proofs.rings.Lists.{at_set, get_or_beyond}
use Rattle.group_view.proofs.Rings.{nat_eq-is}
use Rattle.ring_rules.proofs.walks.Packets.{reads_got, line_of_packet}
use Rattle.ring_rules.proofs.runs.Apart.{forgot_below, first_below}
use Rattle.ring_rules.proofs.walks.Take.{take_row}
use Rattle.ring_rules.proofs.invariants.Kept.{Inv, set_alike}
use Rattle.ring_rules.proofs.invariants.KeptCast.{gained_rows}
use Rattle.ring_rules.proofs.invariants.KeptAdmit.{CanJoin, receivers}
use Rattle.ring_rules.proofs.invariants.FromLeft.{IsGood}
use Rattle.ring_rules.proofs.invariants.Happens.{copied_good, opening_good, cast_good, put_good, take_good, begin_good, way_good, current_good, nothing_pickable, stop_good, refresh_good, mark_good, erase_good, sync_there, sync_good, admit_good, can_join, door_pickable, right_in_come}
use Rattle.ring_rules.proofs.events.Cases.{each_act}
use Rattle.ring_rules.proofs.events.First.{first_each, first_link}
use Rattle.ring_rules.proofs.events.Leaves.{come_each}
use Rattle.ring_rules.proofs.runs.LinesKept.{come_was}
use Rattle.ring_rules.proofs.runs.OwnLogs.{IsLogged, run_knowing, opening_logged, still_logged}
use Rattle.ring_rules.proofs.events.Parts.{member_still, view_still}
use Rattle.ring_rules.proofs.compact.PacketGone.{pop_good}
use Rattle.ring_rules.proofs.compact.OtherLog.{with_log, log_good}
use Rattle.ring_rules.proofs.compact.OtherRows.{like_copied, Like, like_same, like_link, like_phase, like_version, like_out, like_current, like_newest, like_view, like_kept, like_member, like_me, like_one, like_viewed, like_my_look, like_taker, like_begun, like_come, like_refreshed, like_rows, like_current_is, like_end}

-- a state in which x has the got that it sent last on o, and not less than it has forgotten
pub record Frozen (w : World) (x o : ℕ) : Type 0 where
  pub world : World
  pub good : IsGood world
  pub like : Like w world x
  pub got : (p : ℕ) → (row_at (member_at world x) p).got ≡ (numbers_at (link_at w o).sending.sent p).got
  pub forgot : (p : ℕ) → 1 ≤ p → p < size w → (row_at (member_at w x) p).forgot ≤ (row_at (member_at world x) p).got

-- what x sent on o
abbrev pub Sent : World → ℕ → ℕ → Type 0
Sent w x o = (member_at w x).phase ≡ Up → (member_at w x).out ≡ Some o → (link_at w o).sending.fresh ≡ false → Frozen w x o

-- each has such a state, and who waits sends nowhere
pub record HoldsBack (w : World) : Type 0 where
  pub frozen : (x o : ℕ) → Sent w x o
  pub silent : (x : ℕ) → (member_at w x).phase ≡ Waiting → (member_at w x).out ≡ None

-- who is up is there
up_there : (w : World) (x : ℕ) → (member_at w x).phase ≡ Up → x < size w
up_there w x up = ⊎_elim (λ (lt : x < size w). lt) (λ (ge : size w ≤ x). let bad : Stopped ≡ Up = sym (ap (λ a. a.phase) (get_or_beyond w.members x no_member ge)) ∙ up in absurd (cc)) (cases_lt x (size w))

-- one member, and the others
split : (w : World) (a : ℕ) → ((o : ℕ) → Sent w a o) → ((x o : ℕ) → x ≢ a → Sent w x o) → (x o : ℕ) → Sent w x o
split w a mine others x o = ⊎_elim (λ (is : x ≡ a). subst (λ k. Sent w k o) (sym is) (mine o)) (λ (ne : x ≢ a). others x o ne) (cases_eq x a)

other_way : {a x : ℕ} → x ≢ a → a ≢ x
other_way ne is = ne (sym is)

-- it goes on where x has the same
carry : (w w' v' : World) (x o : ℕ) (f : Frozen w x o) → IsLogged w → IsGood v' → Like w' v' x → ((p : ℕ) → (row_at (member_at w' x) p).forgot ≡ (row_at (member_at w x) p).forgot) → ((p : ℕ) → (row_at (member_at v' x) p).got ≡ (row_at (member_at f.world x) p).got) → (link_at w' o).sending ≡ (link_at w o).sending → Frozen w' x o
carry w w' v' x o f lg good like forgot got sends = record {
  world = v';
  good = good;
  like = like;
  got = λ p. got p ∙ f.got p ∙ ap (λ a. (numbers_at a.sent p).got) (sym sends);
  forgot = λ p some _. ⊎_elim
      (λ (lt : p < size w). omega (arith, f.forgot p some lt, forgot p, got p))
      (λ (ge : size w ≤ p).
      let none : length (log_of w p) ≡ 0 = ap (λ a. length a.log) (get_or_beyond w.members p no_member ge) in
      omega (arith, (lg.within.rows x p).forgot, none, forgot p))
      (cases_lt p (size w));
}

-- and begins anew where x has just sent what it has
renewed : (w : World) (x o : ℕ) → IsGood w → (member_at w x).phase ≡ Up → ((p : ℕ) → (numbers_at (link_at w o).sending.sent p).got ≡ (row_at (member_at w x) p).got) → Frozen w x o
renewed w x o g up same = record {
  world = w;
  good = g;
  like = like_same w x;
  got = λ p. sym (same p);
  forgot = λ p some lt. forgot_below w x x p g.inv.is_ring (g.inv.walks p some lt) up up;
}

-- ---- conditions in both

module _ (w v : World) (x : ℕ) (h : Like w v x) where
  both_take : (y s : ℕ) → MayTake w y s → MayTake v y s
  both_take y s m = record {
    is_member = omega (arith, h.many, m.is_member);
    up = like_phase w v x h y ∙ m.up;
    current = like_current w v x h y ∙ m.current;
    has = ap (λ (l : Link). is_empty l.packets) (like_link w v x h s) ∙ m.has;
    version = let a : (oldest (link_at v s)).version ≡ (oldest (link_at w s)).version = ap (λ (l : Link). (oldest l).version) (like_link w v x h s) in omega (arith, a, like_version w v x h y, m.version);
  }

  both_begin : (y s : ℕ) → MayBegin w y s → MayBegin v y s
  both_begin y s m = record {
    is_member = omega (arith, h.many, m.is_member);
    waits = like_phase w v x h y ∙ m.waits;
    current = like_current w v x h y ∙ m.current;
    has = ap (λ (l : Link). is_empty l.packets) (like_link w v x h s) ∙ m.has;
    version = let a : (oldest (link_at v s)).version ≡ (oldest (link_at w s)).version = ap (λ (l : Link). (oldest l).version) (like_link w v x h s) in omega (arith, a, like_version w v x h y, m.version);
    late = omega (arith, like_version w v x h y, m.late);
  }

  both_pick : (y : ℕ) (c : Option ℕ) → IsPickable w y c → IsPickable v y c
  both_pick y c k = record {
    lt = λ s e. let n : length v.links ≡ length w.links = ap length h.links in omega (arith, n, k.lt s e);
    receiver = λ s e. ap (λ (l : Link). l.receiver) (like_link w v x h s) ∙ k.receiver s e;
    kept_yet = λ s e. like_kept w v x h s (member_at v y).version ∙ ap (is_kept w (link_at w s)) (like_version w v x h y) ∙ k.kept_yet s e;
    opened = λ s e. let a : (link_at v s).opened ≡ (link_at w s).opened = ap (λ (l : Link). l.opened) (like_link w v x h s) in omega (arith, a, like_version w v x h y, k.opened s e);
  }

  both_look : (y u : ℕ) → MayLook w y u → MayLook v y u
  both_look y u m = record {
    is_member = omega (arith, h.many, m.is_member);
    up = like_phase w v x h y ∙ m.up;
    later = omega (arith, like_version w v x h y, m.later);
    upto = omega (arith, like_newest w v x h, m.upto);
  }

  both_there : (y : ℕ) → y < size w → y < size v
  both_there y lt = omega (arith, h.many, lt)

  both_links : (s : ℕ) → s < length w.links → s < length v.links
  both_links s lt = let n : length v.links ≡ length w.links = ap length h.links in omega (arith, n, lt)

-- a link that is written with the same sending side
same_sending : (w : World) (s : ℕ) (l : Link) → l.sending ≡ (link_at w s).sending → s < length w.links → (o : ℕ) → (link_at (with_link w s l) o).sending ≡ (link_at w o).sending
same_sending w s l e lt o = at_set (λ i a. a.sending ≡ (link_at w i).sending) w.links s o l no_link lt e (λ _. refl)

-- a member that is written with its rows has them
same_rows : (w : World) (y : ℕ) (m : Member) → y < size w → m.rows ≡ (member_at w y).rows → (z : ℕ) → (member_at (with_member w y m) z).rows ≡ (member_at w z).rows
same_rows w y m lt e z = at_set (λ i a. a.rows ≡ (member_at w i).rows) w.members y z m no_member lt e (λ _. refl)

same_out : (w : World) (y : ℕ) (m : Member) → y < size w → m.out ≡ (member_at w y).out → (z : ℕ) → (member_at (with_member w y m) z).out ≡ (member_at w z).out
same_out w y m lt e z = at_set (λ i a. a.out ≡ (member_at w i).out) w.members y z m no_member lt e (λ _. refl)

same_phase : (w : World) (y : ℕ) (m : Member) → y < size w → m.phase ≡ (member_at w y).phase → (z : ℕ) → (member_at (with_member w y m) z).phase ≡ (member_at w z).phase
same_phase w y m lt e z = at_set (λ i a. a.phase ≡ (member_at w i).phase) w.members y z m no_member lt e (λ _. refl)

-- who waits after a member is written that doesn't wait sends nowhere
still_silent : (w : World) (y : ℕ) (m : Member) → y < size w → is_waiting m.phase ≡ false → HoldsBack w → (z : ℕ) → (member_at (with_member w y m) z).phase ≡ Waiting → (member_at (with_member w y m) z).out ≡ None
still_silent w y m lt e h z k = let a = set_alike w y z m lt e k in ap (λ b. b.out) a ∙ h.silent z (sym (ap (λ b. b.phase) a) ∙ k)

-- ---- single events

-- a publish
cast_holds : (w : World) (a : ℕ) (m : Message) → a < size w → (member_at w a).phase ≡ Up → IsLogged w → HoldsBack w → HoldsBack (publish_at w a m)
cast_holds w a m lt up lg h = record {
  frozen = split w' a
      (λ o up2 out fresh.
      let f : Frozen w a o = h.frozen a o up (sym (ap (λ b. b.out) here) ∙ out) fresh in
      let v : World = f.world in
      let l : Member = with_log ((member_at w a).log ++ m ∷ []) (member_at v a) in
      let there : a < size v = both_there w v a f.like a lt in
      carry w w' (with_member v a l) a o f lg
      (log_good v a ((member_at w a).log ++ m ∷ []) there (f.like.phase ∙ up) f.good)
      (like_me w v a f.like (published a m (member_at w a)) l lt (record { phase = f.like.phase; version = f.like.version; log = refl; out = f.like.out; current = f.like.current }))
      (λ p. ap (λ b. (row_at b p).forgot) here ∙ gained_rows m (λ r r'. r'.forgot ≡ r.forgot) a p (member_at w a) (λ r. refl) refl)
      (λ p. ap (λ b. (row_at b p).got) (get_or-set_same v.members a l no_member there)) refl)
      (λ x o ne up2 out fresh.
      let same : member_at w' x ≡ member_at w x = get_or-set_other w.members a x (published a m (member_at w a)) no_member ne in
      let f : Frozen w x o = h.frozen x o (sym (ap (λ b. b.phase) same) ∙ up2) (sym (ap (λ b. b.out) same) ∙ out) fresh in
      let v : World = f.world in
      carry w w' (publish_at v a m) x o f lg
      (cast_good v a m (both_there w v x f.like a lt) (like_phase w v x f.like a ∙ up) f.good)
      (like_member w v x f.like a (published a m (member_at w a)) (published a m (member_at v a)) (other_way ne) lt (ap (published a m) (f.like.others a (other_way ne))))
      (λ p. ap (λ b. (row_at b p).forgot) same)
      (λ p. ap (λ b. (row_at b p).got) (get_or-set_other v.members a x (published a m (member_at v a)) no_member ne)) refl);
  silent = still_silent w a (published a m (member_at w a)) lt (ap is_waiting up) h;
}
  where
    w' : World
    w' = publish_at w a m

    here : member_at w' a ≡ published a m (member_at w a)
    here = get_or-set_same w.members a (published a m (member_at w a)) no_member lt

-- a put
put_holds : (w : World) (a o1 : ℕ) → (member_at w a).phase ≡ Up → (member_at w a).out ≡ Some o1 → IsGood w → IsLogged w → HoldsBack w → HoldsBack (put_on w a o1)
put_holds w a o1 up out1 g lg h = record {
  frozen = split w' a
      (λ o up2 out fresh.
      let is : o1 ≡ o = (let both : Some o1 ≡ Some o = sym out1 ∙ out in cc) in
      subst (λ j. Frozen w' a j) is
      (renewed w' a o1 (put_good w a o1 up out1 g) up
      (λ p. ap (λ (l : Link). (numbers_at l.sending.sent p).got) (get_or-set_same w.links o1 new no_link lt) ∙ line_of_packet (λ j. j.got) (λ r. r.got) (member_at w a) (link_at w o1).sending p reads_got)))
      (λ x o ne up2 out fresh.
      let d : o ≢ o1 = λ is. ne (sym (g.inv.linked.out_from x o (ap runs_phase up2) out) ∙ ap (λ j. (link_at w j).sender) is ∙ g.inv.linked.out_from a o1 rx out1) in
      let same : link_at w' o ≡ link_at w o = get_or-set_other w.links o1 o new no_link d in
      let f : Frozen w x o = h.frozen x o up2 out (sym (ap (λ (l : Link). l.sending.fresh) same) ∙ fresh) in
      let v : World = f.world in
      carry w w' (put_on v a o1) x o f lg
      (put_good v a o1 (like_phase w v x f.like a ∙ up) (like_out w v x f.like a ∙ out1) f.good)
      (like_one w v x f.like o1 new (pushed (link_at v o1) (next_packet (member_at v a) (link_at v o1).sending))
      (ap (λ (l : Link). pushed l (next_packet (member_at v a) l.sending)) (like_link w v x f.like o1) ∙ ap (λ b. pushed (link_at w o1) (next_packet b (link_at w o1).sending)) (f.like.others a (other_way ne))))
      (λ p. refl) (λ p. refl) (ap (λ (l : Link). l.sending) same));
  silent = h.silent;
}
  where
    w' : World
    w' = put_on w a o1

    rx : runs w a ≡ true
    rx = ap runs_phase up

    lt : o1 < length w.links
    lt = g.inv.linked.out_lt a o1 rx out1

    new : Link
    new = pushed (link_at w o1) (next_packet (member_at w a) (link_at w o1).sending)

-- what a take will have forgotten isn't above what the taker has got before it
taken_below : (v : World) (y s p : ℕ) → IsGood v → MayTake v y s → 1 ≤ p → p < size v → (log : List Message) (r : Row) → (taken_row (is_owned (view_in v (member_at v y).version) y (link_at v s).sender p) log r (numbers_at (oldest (link_at v s)) p)).forgot ≤ (row_at (member_at v y) p).got
taken_below v y s p g m some lt log r = by_own (is_owned (view_in v (member_at v y).version) y (link_at v s).sender p) refl
  where
    k : Numbers
    k = numbers_at (oldest (link_at v s)) p

    ry : runs v y ≡ true
    ry = ap runs_phase m.up

    v2 : World
    v2 = take_from v y s

    g2 : IsGood v2
    g2 = take_good v y s m g

    row2 : row_at (member_at v2 y) p ≡ taken_row (is_owned (view_in v (member_at v y).version) y (link_at v s).sender p) (log_of v p) (row_at (member_at v y) p) k
    row2 = take_row v y s p m.is_member lt

    up2 : (member_at v2 y).phase ≡ Up
    up2 = same_phase v y (taker v y s) m.is_member refl y ∙ m.up

    below : (row_at (member_at v2 y) p).forgot ≤ (row_at (member_at v2 y) p).got
    below = forgot_below v2 y y p g2.inv.is_ring (g2.inv.walks p some (omega (arith, length-set v.members y (taker v y s)))) up2 up2

    by_packets : (ks : List Packet) → (link_at v s).packets ≡ ks → k.forgot ≤ (row_at (member_at v y) p).got
    by_packets [] e = absurd (false≢true (sym m.has ∙ ap is_empty e))
    by_packets (j ∷ js) e =
        subst (λ i. (numbers_at i p).forgot ≤ (row_at (member_at v y) p).got) (sym (ap (λ is. get_or is 0 no_packet) e))
        (first_below v y s p j js g.inv.is_ring (g.inv.walks p some lt) m.up (g.inv.current.lt y s ry m.current) (g.inv.current.receiver y s ry m.current) (g.inv.current.kept_yet y s ry m.current) e)

    by_own : (b : Bool) → is_owned (view_in v (member_at v y).version) y (link_at v s).sender p ≡ b → (taken_row b log r k).forgot ≤ (row_at (member_at v y) p).got
    by_own true e =
        let row : row_at (member_at v2 y) p ≡ taken_row true (log_of v p) (row_at (member_at v y) p) k = row2 ∙ ap (λ b. taken_row b (log_of v p) (row_at (member_at v y) p) k) e in
        let a : (row_at (member_at v2 y) p).forgot ≡ k.got = ap (λ i. i.forgot) row in
        let b : (row_at (member_at v2 y) p).got ≡ (row_at (member_at v y) p).got = ap (λ i. i.got) row in
        omega (arith, a, b, below)
    by_own false e = by_packets (link_at v s).packets refl

-- a take
take_holds : (w : World) (y s : ℕ) → MayTake w y s → IsGood w → IsLogged w → HoldsBack w → HoldsBack (take_from w y s)
take_holds w y s m g lg h = record {
  frozen = split w' y
      (λ o up2 out fresh.
      let f : Frozen w y o = h.frozen y o m.up (sym (same_out w y t m.is_member refl y) ∙ out) (sym (ap (λ a. a.fresh) (same_sending w s (popped (link_at w s)) refl lt o)) ∙ fresh) in
      let v : World = f.world in
      let to : (link_at v s).receiver ≡ y = ap (λ (l : Link). l.receiver) (like_link w v y f.like s) ∙ g.inv.current.receiver y s ry m.current in
      record {
        world = with_link v s (popped (link_at v s));
        good = pop_good v y s (f.like.phase ∙ m.up) (both_links w v y f.like s lt) to f.good;
        like = like_one (with_member w y t) v y (like_rows w v y t f.like m.is_member (record { phase = refl; version = refl; log = refl; out = refl; current = refl })) s (popped (link_at w s)) (popped (link_at v s)) (ap popped (like_link w v y f.like s));
        got = λ p. f.got p ∙ ap (λ a. (numbers_at a.sent p).got) (sym (same_sending w s (popped (link_at w s)) refl lt o));
        forgot = λ p some l.
            let pl : p < size w = omega (arith, length-set w.members y t) in
            let row : (row_at (member_at w' y) p).forgot ≡ (taken_row (is_owned (view_in w (member_at w y).version) y (link_at w s).sender p) (log_of w p) (row_at (member_at w y) p) (numbers_at (oldest (link_at w s)) p)).forgot = ap (λ a. a.forgot) (take_row w y s p m.is_member pl) in
            let both : (taken_row (is_owned (view_in v (member_at v y).version) y (link_at v s).sender p) (log_of w p) (row_at (member_at w y) p) (numbers_at (oldest (link_at v s)) p)).forgot ≡ (taken_row (is_owned (view_in w (member_at w y).version) y (link_at w s).sender p) (log_of w p) (row_at (member_at w y) p) (numbers_at (oldest (link_at w s)) p)).forgot =
            ap (λ (k : Link). (taken_row (is_owned (view_in v (member_at v y).version) y k.sender p) (log_of w p) (row_at (member_at w y) p) (numbers_at (oldest k) p)).forgot) (like_link w v y f.like s)
            ∙ ap (λ u. (taken_row (is_owned (view_in v u) y (link_at w s).sender p) (log_of w p) (row_at (member_at w y) p) (numbers_at (oldest (link_at w s)) p)).forgot) f.like.version
            ∙ ap (λ gr. (taken_row (is_owned gr y (link_at w s).sender p) (log_of w p) (row_at (member_at w y) p) (numbers_at (oldest (link_at w s)) p)).forgot) (like_view w v y f.like (member_at w y).version) in
            omega (arith, row, both, taken_below v y s p f.good (both_take w v y f.like y s m) some (omega (arith, f.like.many, pl)) (log_of w p) (row_at (member_at w y) p));
      })
      (λ x o ne up2 out fresh.
      let same : member_at w' x ≡ member_at w x = get_or-set_other w.members y x t no_member ne in
      let f : Frozen w x o = h.frozen x o (sym (ap (λ b. b.phase) same) ∙ up2) (sym (ap (λ b. b.out) same) ∙ out) (sym (ap (λ a. a.fresh) (same_sending w s (popped (link_at w s)) refl lt o)) ∙ fresh) in
      let v : World = f.world in
      carry w w' (take_from v y s) x o f lg
      (take_good v y s (both_take w v x f.like y s m) f.good)
      (like_one (with_member w y t) (with_member v y (taker v y s)) x (like_member w v x f.like y t (taker v y s) (other_way ne) m.is_member (like_taker w v x f.like y s (other_way ne))) s (popped (link_at w s)) (popped (link_at v s)) (ap popped (like_link w v x f.like s)))
      (λ p. ap (λ b. (row_at b p).forgot) same)
      (λ p. ap (λ b. (row_at b p).got) (get_or-set_other v.members y x (taker v y s) no_member ne)) (same_sending w s (popped (link_at w s)) refl lt o));
  silent = still_silent w y t m.is_member (ap is_waiting m.up) h;
}
  where
    w' : World
    w' = take_from w y s

    t : Member
    t = taker w y s

    ry : runs w y ≡ true
    ry = ap runs_phase m.up

    lt : s < length w.links
    lt = g.inv.current.lt y s ry m.current

-- a first take
begin_holds : (w : World) (y s : ℕ) → MayBegin w y s → IsGood w → IsLogged w → HoldsBack w → HoldsBack (begin_from w y s)
begin_holds w y s m g lg h = record {
  frozen = split w' y
      (λ o up2 out fresh. let bad : None ≡ Some o = sym (h.silent y m.waits) ∙ sym (same_out w y t m.is_member refl y) ∙ out in absurd (cc))
      (λ x o ne up2 out fresh.
      let same : member_at w' x ≡ member_at w x = get_or-set_other w.members y x t no_member ne in
      let f : Frozen w x o = h.frozen x o (sym (ap (λ b. b.phase) same) ∙ up2) (sym (ap (λ b. b.out) same) ∙ out) (sym (ap (λ a. a.fresh) (same_sending w s (popped (link_at w s)) refl lt o)) ∙ fresh) in
      let v : World = f.world in
      let tv : Member = begun (size v) (member_at v y) (oldest (link_at v s)) in
      carry w w' (begin_from v y s) x o f lg
      (begin_good v y s (both_begin w v x f.like y s m) f.good)
      (like_one (with_member w y t) (with_member v y tv) x (like_member w v x f.like y t tv (other_way ne) m.is_member (like_begun w v x f.like y s (other_way ne))) s (popped (link_at w s)) (popped (link_at v s)) (ap popped (like_link w v x f.like s)))
      (λ p. ap (λ b. (row_at b p).forgot) same)
      (λ p. ap (λ b. (row_at b p).got) (get_or-set_other v.members y x tv no_member ne)) (same_sending w s (popped (link_at w s)) refl lt o));
  silent = still_silent w y t m.is_member refl h;
}
  where
    w' : World
    w' = begin_from w y s

    t : Member
    t = begun (size w) (member_at w y) (oldest (link_at w s))

    ry : runs w y ≡ true
    ry = ap runs_phase m.waits

    lt : s < length w.links
    lt = g.inv.current.lt y s ry m.current

-- another current link
pick_holds : (w : World) (y : ℕ) (c : Option ℕ) → y < size w → (member_at w y).phase ≡ Up → IsPickable w y c → IsLogged w → HoldsBack w → HoldsBack (current_is w y c)
pick_holds w y c lt up k lg h = record {
  frozen = λ x o up2 out fresh.
      let f : Frozen w x o = h.frozen x o (sym (same_phase w y m lt refl x) ∙ up2) (sym (same_out w y m lt refl x) ∙ out) fresh in
      let v : World = f.world in
      let there : y < size v = both_there w v x f.like y lt in
      carry w (current_is w y c) (current_is v y c) x o f lg
      (current_good v y c there (like_phase w v x f.like y ∙ up) (both_pick w v x f.like y c k) f.good)
      (like_current_is w v x y c f.like lt)
      (λ p. ap (λ rs. (row_at (record (member_at w x) { rows = rs }) p).forgot) (same_rows w y m lt refl x))
      (λ p. ap (λ rs. (row_at (record (member_at v x) { rows = rs }) p).got) (same_rows v y (with_current c (member_at v y)) there refl x)) refl;
  silent = still_silent w y m lt (ap is_waiting up) h;
}
  where
    m : Member
    m = with_current c (member_at w y)

-- a copy that is done
copied_holds : (w : World) (y : ℕ) (m : MirrorState) → y < size w → (member_at w y).phase ≡ Up → IsLogged w → HoldsBack w → HoldsBack (copied_at w y m)
copied_holds w y m lt up lg h = record {
  frozen = λ x o up2 out fresh.
      let f : Frozen w x o = h.frozen x o (sym (same_phase w y (copied m (member_at w y)) lt refl x) ∙ up2) (sym (same_out w y (copied m (member_at w y)) lt refl x) ∙ out) fresh in
      let v : World = f.world in
      let there : y < size v = both_there w v x f.like y lt in
      carry w (copied_at w y m) (copied_at v y m) x o f lg
      (copied_good v y m there (like_phase w v x f.like y ∙ up) f.good)
      (like_copied w v x y m f.like lt)
      (λ p. ap (λ rs. (row_at (record (member_at w x) { rows = rs }) p).forgot) (same_rows w y (copied m (member_at w y)) lt refl x))
      (λ p. ap (λ rs. (row_at (record (member_at v x) { rows = rs }) p).got) (same_rows v y (copied m (member_at v y)) there refl x)) refl;
  silent = still_silent w y (copied m (member_at w y)) lt (ap is_waiting up) h;
}

-- a link goes the same way, with the same sending side
way_holds : (w : World) (s : ℕ) (change : Link → Link) → ((l : Link) → IsSameWay l (change l)) → ((l : Link) → (change l).sending ≡ l.sending) → s < length w.links → IsLogged w → HoldsBack w → HoldsBack (with_link w s (change (link_at w s)))
way_holds w s change way sends lt lg h = record {
  frozen = λ x o up2 out fresh.
      let same : (link_at (with_link w s (change (link_at w s))) o).sending ≡ (link_at w o).sending = same_sending w s (change (link_at w s)) (sends (link_at w s)) lt o in
      let f : Frozen w x o = h.frozen x o up2 out (sym (ap (λ a. a.fresh) same) ∙ fresh) in
      let v : World = f.world in
      carry w (with_link w s (change (link_at w s))) (with_link v s (change (link_at v s))) x o f lg
      (way_good v s (change (link_at v s)) (both_links w v x f.like s lt) (way (link_at v s)) f.good)
      (like_one w v x f.like s (change (link_at w s)) (change (link_at v s)) (ap change (like_link w v x f.like s)))
      (λ p. refl) (λ p. refl) same;
  silent = h.silent;
}

-- the end of a link was taken
leave_holds : (w : World) (y s : ℕ) → y < size w → (member_at w y).phase ≡ Up → s < length w.links → IsLogged w → IsLogged (current_is w y None) → HoldsBack w → HoldsBack (leave_link w y s)
leave_holds w y s yl up lt lg lg2 h =
    way_holds (current_is w y None) s finished (λ l. record { sender = refl; receiver = refl; opened = refl; packets = refl }) (λ l. refl) lt lg2 (pick_holds w y None yl up (nothing_pickable w y) lg h)

-- ---- a stop

end_members : (w : World) (out : Option ℕ) → (end_out Halted w out).members ≡ w.members
end_members w None = refl
end_members w (Some o) = refl

end_sending : (w : World) (out : Option ℕ) → ((o : ℕ) → out ≡ Some o → o < length w.links) → (j : ℕ) → (link_at (end_out Halted w out) j).sending ≡ (link_at w j).sending
end_sending w None lt j = refl
end_sending w (Some o) lt j = same_sending w o (ended Halted (link_at w o)) refl (lt o refl) j

-- a stop
stop_holds : (w : World) (a : ℕ) → a < size w → runs w a ≡ true → Inv w → IsLogged w → HoldsBack w → HoldsBack (end_out Halted (stop_at w a) (member_at w a).out)
stop_holds w a lt ra inv lg h = record {
  frozen = split w' a
      (λ o up2 out fresh. let bad : Stopped ≡ Up = sym (ap (λ b. b.phase) (at_end a ∙ get_or-set_same w.members a (stopped (member_at w a)) no_member lt)) ∙ up2 in absurd (cc))
      (λ x o ne up2 out fresh.
      let same : member_at w' x ≡ member_at w x = at_end x ∙ get_or-set_other w.members a x (stopped (member_at w a)) no_member ne in
      let f : Frozen w x o = h.frozen x o (sym (ap (λ b. b.phase) same) ∙ up2) (sym (ap (λ b. b.out) same) ∙ out) (sym (ap (λ b. b.fresh) (end_sending w1 (member_at w a).out (λ j e. inv.linked.out_lt a j ra e) o)) ∙ fresh) in
      let v : World = f.world in
      let v1 : World = stop_at v a in
      carry w w' (end_out Halted v1 (member_at v a).out) x o f lg
      (stop_good v a (both_there w v x f.like a lt) (ap runs_phase (like_phase w v x f.like a) ∙ ra) f.good)
      (subst (λ k. Like w' (end_out Halted v1 k) x) (sym (like_out w v x f.like a))
      (like_end w1 v1 x (member_at w a).out
      (like_member w v x f.like a (stopped (member_at w a)) (stopped (member_at v a)) (other_way ne) lt (ap stopped (f.like.others a (other_way ne))))))
      (λ p. ap (λ b. (row_at b p).forgot) same)
      (λ p. ap (λ ms. (row_at (get_or ms x no_member) p).got) (end_members v1 (member_at v a).out) ∙ ap (λ b. (row_at b p).got) (get_or-set_other v.members a x (stopped (member_at v a)) no_member ne)) (end_sending w1 (member_at w a).out (λ j e. inv.linked.out_lt a j ra e) o));
  silent = λ z e. ap (λ b. b.out) (at_end z) ∙ still_silent w a (stopped (member_at w a)) lt refl h z (sym (ap (λ b. b.phase) (at_end z)) ∙ e);
}
  where
    w1 : World
    w1 = stop_at w a

    w' : World
    w' = end_out Halted w1 (member_at w a).out

    at_end : (z : ℕ) → member_at w' z ≡ member_at w1 z
    at_end z = ap (λ ms. get_or ms z no_member) (end_members w1 (member_at w a).out)

-- ---- a view more

view_holds : (w : World) (g : Group) → ((v : World) (x : ℕ) → Like w v x → IsGood v → IsGood (with_view v g)) → IsLogged w → HoldsBack w → HoldsBack (with_view w g)
view_holds w g good lg h = record {
  frozen = λ x o up out fresh.
      let f : Frozen w x o = h.frozen x o up out fresh in
      carry w (with_view w g) (with_view f.world g) x o f lg (good f.world x f.like f.good) (like_viewed w f.world x f.like g) (λ p. refl) (λ p. refl) refl;
  silent = h.silent;
}

-- ---- sending on

-- who opens a link has sent what it has
opened_sent : (w : World) (a z : ℕ) → a < size w → (o : ℕ) → (member_at (open_to w a z) a).out ≡ Some o → (p : ℕ) → (numbers_at (link_at (open_to w a z) o).sending.sent p).got ≡ (row_at (member_at (open_to w a z) a) p).got
opened_sent w a z lt o e p =
    let here : member_at (open_to w a z) a ≡ record (member_at w a) { out = Some (length w.links) } = get_or-set_same w.members a (record (member_at w a) { out = Some (length w.links) }) no_member lt in
    let is : length w.links ≡ o = (let both : Some (length w.links) ≡ Some o = sym (ap (λ b. b.out) here) ∙ e in cc) in
    ap (λ (l : Link). (numbers_at l.sending.sent p).got) (get_or_push w.links (opened_link w a z) no_link o is)
    ∙ line_of_packet (λ j. j.got) (λ r. r.got) (member_at w a) no_sending p reads_got
    ∙ ap (λ b. (row_at b p).got) (sym here)

-- the others stay
sends_other : (w : World) (a z : ℕ) (out : Option ℕ) (x : ℕ) → x ≢ a → member_at (send_to w a z out) x ≡ member_at w x
sends_other w a z None x ne = get_or-set_other w.members a x (record (member_at w a) { out = Some (length w.links) }) no_member ne
sends_other w a z (Some o) x ne = by_receiver (nat_eq (link_at w o).receiver z)
  where
    by_receiver : (b : Bool) → member_at (if b then w else open_to (with_link w o (ended Moved (link_at w o))) a z) x ≡ member_at w x
    by_receiver true = refl
    by_receiver false = get_or-set_other w.members a x (record (member_at w a) { out = Some (length (set w.links o (ended Moved (link_at w o)))) }) no_member ne

-- its phase too
sends_phase : (w : World) (a z : ℕ) (out : Option ℕ) → a < size w → (member_at (send_to w a z out) a).phase ≡ (member_at w a).phase
sends_phase w a z None lt = ap (λ b. b.phase) (get_or-set_same w.members a (record (member_at w a) { out = Some (length w.links) }) no_member lt)
sends_phase w a z (Some o) lt = by_receiver (nat_eq (link_at w o).receiver z)
  where
    by_receiver : (b : Bool) → (member_at (if b then w else open_to (with_link w o (ended Moved (link_at w o))) a z) a).phase ≡ (member_at w a).phase
    by_receiver true = refl
    by_receiver false = ap (λ b. b.phase) (get_or-set_same w.members a (record (member_at w a) { out = Some (length (set w.links o (ended Moved (link_at w o)))) }) no_member lt)

refreshed_phase : (w : World) (a ver : ℕ) → a < size w → (member_at (refreshed w a ver) a).phase ≡ (member_at w a).phase
refreshed_phase w a ver lt =
    sends_phase (look_at w a ver) a (right_of (view_in w ver) a) (member_at w a).out (omega (arith, lt, length-set w.members a (moved_to w a ver))) ∙ same_phase w a (moved_to w a ver) lt refl a

-- and what was sent on the links that are there
sends_sending : (w : World) (a z : ℕ) (out : Option ℕ) → ((o : ℕ) → out ≡ Some o → o < length w.links) → (j : ℕ) → j < length w.links → (link_at (send_to w a z out) j).sending ≡ (link_at w j).sending
sends_sending w a z None lt j l = ap (λ (k : Link). k.sending) (get_or_append_left w.links (opened_link w a z ∷ []) no_link j l)
sends_sending w a z (Some o) lt j l = by_receiver (nat_eq (link_at w o).receiver z)
  where
    w2 : World
    w2 = with_link w o (ended Moved (link_at w o))

    by_receiver : (b : Bool) → (link_at (if b then w else open_to w2 a z) j).sending ≡ (link_at w j).sending
    by_receiver true = refl
    by_receiver false =
        ap (λ (k : Link). k.sending) (get_or_append_left w2.links (opened_link w2 a z ∷ []) no_link j (omega (arith, length-set w.links o (ended Moved (link_at w o)))))
        ∙ same_sending w o (ended Moved (link_at w o)) refl (lt o refl) j

-- who refreshes: either its out link stays, or it has just sent what it has
sends_mine : (w : World) (a ver : ℕ) → a < size w → IsGood (refreshed w a ver) → ((o1 : ℕ) → (member_at w a).out ≡ Some o1 → nat_eq (link_at w o1).receiver (right_of (view_in w ver) a) ≡ true → (o : ℕ) → Sent (look_at w a ver) a o) → (o : ℕ) → Sent (refreshed w a ver) a o
sends_mine w a ver lt g stays o = by_out (member_at w a).out refl g
  where
    w1 : World
    w1 = look_at w a ver

    z : ℕ
    z = right_of (view_in w ver) a

    there : a < size w1
    there = omega (arith, length-set w.members a (moved_to w a ver))

    by_receiver : (o1 : ℕ) → (member_at w a).out ≡ Some o1 → (b : Bool) → nat_eq (link_at w o1).receiver z ≡ b → IsGood (if b then w1 else open_to (with_link w1 o1 (ended Moved (link_at w1 o1))) a z) → Sent (if b then w1 else open_to (with_link w1 o1 (ended Moved (link_at w1 o1))) a z) a o
    by_receiver o1 e true t g2 up out fresh = stays o1 e t o up out fresh
    by_receiver o1 e false t g2 up out fresh = renewed _ a o g2 up (opened_sent (with_link w1 o1 (ended Moved (link_at w1 o1))) a z there o out)

    by_out : (out : Option ℕ) → (member_at w a).out ≡ out → IsGood (send_to w1 a z out) → Sent (send_to w1 a z out) a o
    by_out None e g2 up out fresh = renewed _ a o g2 up (opened_sent w1 a z there o out)
    by_out (Some o1) e g2 up out fresh = by_receiver o1 e (nat_eq (link_at w o1).receiver z) refl g2 up out fresh

-- a whole refresh
refresh_holds : (w : World) (a ver : ℕ) → MayLook w a ver → IsGood w → IsLogged w → HoldsBack w → HoldsBack (refreshed w a ver)
refresh_holds w a ver m g lg h = record {
  frozen = split w' a
      (sends_mine w a ver m.is_member (refresh_good w a ver m g)
      (λ o1 e t o up2 out fresh.
      let f : Frozen w a o = h.frozen a o m.up (sym (same_out w a (moved_to w a ver) m.is_member refl a) ∙ out) fresh in
      let v : World = f.world in
      let v1 : World = look_at v a ver in
      let there : a < size v = both_there w v a f.like a m.is_member in
      let stays : refreshed v a ver ≡ v1 =
      ap (λ gr. send_to v1 a (right_of gr a) (member_at v a).out) (like_view w v a f.like ver)
      ∙ ap (λ k. send_to v1 a z k) (f.like.out ∙ e)
      ∙ ap (λ b. if b then v1 else open_to (with_link v1 o1 (ended Moved (link_at v1 o1))) a z) (ap (λ (l : Link). nat_eq l.receiver z) (like_link w v a f.like o1) ∙ t) in
      carry w w1 v1 a o f lg
      (subst IsGood stays (refresh_good v a ver (both_look w v a f.like a ver m) f.good))
      (like_my_look w v a f.like ver m.is_member)
      (λ p. ap (λ rs. (row_at (record (member_at w a) { rows = rs }) p).forgot) (same_rows w a (moved_to w a ver) m.is_member refl a))
      (λ p. ap (λ rs. (row_at (record (member_at v a) { rows = rs }) p).got) (same_rows v a (moved_to v a ver) there refl a)) refl))
      (λ x o ne up2 out fresh.
      let same : member_at w' x ≡ member_at w x = stays_other x ne in
      let upx : (member_at w x).phase ≡ Up = sym (ap (λ b. b.phase) same) ∙ up2 in
      let outx : (member_at w x).out ≡ Some o = sym (ap (λ b. b.out) same) ∙ out in
      let sends : (link_at w' o).sending ≡ (link_at w o).sending = sends_sending w1 a z (member_at w a).out (λ o2 e. g.inv.linked.out_lt a o2 (ap runs_phase m.up) e) o (g.inv.linked.out_lt x o (ap runs_phase upx) outx) in
      let f : Frozen w x o = h.frozen x o upx outx (sym (ap (λ b. b.fresh) sends) ∙ fresh) in
      let v : World = f.world in
      carry w w' (refreshed v a ver) x o f lg
      (refresh_good v a ver (both_look w v x f.like a ver m) f.good)
      (like_refreshed w v x a ver f.like (other_way ne) m.is_member)
      (λ p. ap (λ b. (row_at b p).forgot) same)
      (λ p. ap (λ b. (row_at b p).got) (sends_other (look_at v a ver) a (right_of (view_in v ver) a) (member_at v a).out x ne ∙ get_or-set_other v.members a x (moved_to v a ver) no_member ne)) sends);
  silent = λ y e. ⊎_elim
      (λ (is : y ≡ a). let bad : Waiting ≡ Up = sym e ∙ ap (λ k. (member_at w' k).phase) is ∙ refreshed_phase w a ver m.is_member ∙ m.up in absurd (cc))
      (λ (ne : y ≢ a). ap (λ b. b.out) (stays_other y ne) ∙ h.silent y (sym (ap (λ b. b.phase) (stays_other y ne)) ∙ e))
      (cases_eq y a);
}
  where
    w1 : World
    w1 = look_at w a ver

    z : ℕ
    z = right_of (view_in w ver) a

    w' : World
    w' = refreshed w a ver

    stays_other : (x : ℕ) → x ≢ a → member_at w' x ≡ member_at w x
    stays_other x ne = sends_other w1 a z (member_at w a).out x ne ∙ get_or-set_other w.members a x (moved_to w a ver) no_member ne

-- a mark, or an erasure
mark_holds : (w : World) (a : ℕ) (gr : Group) → a < size w → (member_at w a).phase ≡ Up → IsGood w → ((v : World) (x : ℕ) → Like w v x → IsGood v → IsGood (with_view v gr)) → IsLogged w → HoldsBack w → HoldsBack (refreshed (with_view w gr) a (newest w + 1))
mark_holds w a gr lt up g good lg h =
    let more : length (w.views ++ gr ∷ []) ≡ length w.views + 1 = length_push w.views gr in
    let some : 0 < length w.views = g.inv.is_ring.some in
    refresh_holds (with_view w gr) a (newest w + 1) (record { is_member = lt; up = up; later = omega (arith, g.inv.is_ring.held a); upto = omega arith })
    (good w a (like_same w a) g) (still_logged w (with_view w gr) (view_still w gr) lg) (view_holds w gr good lg h)

-- ---- an admission

admit_holds : (w : World) (a : ℕ) (name : List ℕ) → a < size w → (member_at w a).phase ≡ Up → admit_refusal w name ≡ None → IsGood w → IsLogged w → HoldsBack w → HoldsBack (refreshed (come_to w a name) a (newest w + 1))
admit_holds w a name lt up r g lg h = record {
  frozen = split w' a
      (sends_mine c a ver there (admit_good w a name j g)
      (λ o1 e t o.
      let out : (member_at w a).out ≡ Some o1 = sym (ap (λ b. b.out) was) ∙ e in
      let is : (link_at w o1).receiver ≡ size w = nat_eq-is (link_at w o1).receiver z t ∙ right_in_come w a name j in
      let less : (link_at w o1).receiver < size w = receivers w a name j o1 (g.inv.linked.out_lt a o1 (ap runs_phase up) out) in
      absurd (omega (arith, is, less))))
      (λ x o ne up2 out fresh.
      let at_come : member_at w' x ≡ member_at c x = stays_other x ne in
      let xl : x < size w = come_each w a name x (λ i k. k.phase ≡ Up → i < size w) (λ bad. cc) (λ l _. l) (λ _ bad. cc) (sym (ap (λ b. b.phase) at_come) ∙ up2) in
      let same : member_at w' x ≡ member_at w x = at_come ∙ get_or_append_left w.members (joiner w name ∷ []) no_member x xl in
      let upx : (member_at w x).phase ≡ Up = sym (ap (λ b. b.phase) same) ∙ up2 in
      let outx : (member_at w x).out ≡ Some o = sym (ap (λ b. b.out) same) ∙ out in
      let sends : (link_at w' o).sending ≡ (link_at w o).sending = sends_sending c1 a z (member_at c a).out (λ o2 e. g.inv.linked.out_lt a o2 (ap runs_phase up) (sym (ap (λ b. b.out) was) ∙ e)) o (g.inv.linked.out_lt x o (ap runs_phase upx) outx) in
      let f : Frozen w x o = h.frozen x o upx outx (sym (ap (λ b. b.fresh) sends) ∙ fresh) in
      let v : World = f.world in
      let cv : World = come_to v a name in
      let av : a < size v = both_there w v x f.like a lt in
      let rv : admit_refusal v name ≡ None = subst (λ vs. admit_refusal (record w { views = vs }) name ≡ None) (sym f.like.views) r in
      carry w w' (refreshed cv a (newest v + 1)) x o f lg
      (admit_good v a name (can_join v a name av (like_phase w v x f.like a ∙ up) rv f.good) f.good)
      (subst (λ n. Like w' (refreshed cv a (n + 1)) x) (sym (like_newest w v x f.like)) (like_refreshed c cv x a ver (like_come w v x a name f.like xl) (other_way ne) there))
      (λ p. ap (λ b. (row_at b p).forgot) same)
      (λ p. ap (λ b. (row_at b p).got)
      (sends_other (look_at cv a (newest v + 1)) a (right_of (view_in cv (newest v + 1)) a) (member_at cv a).out x ne
      ∙ get_or-set_other cv.members a x (moved_to cv a (newest v + 1)) no_member ne
      ∙ get_or_append_left v.members (joiner v name ∷ []) no_member x (both_there w v x f.like x xl))) sends);
  silent = λ y e. ⊎_elim
      (λ (is : y ≡ a). let bad : Waiting ≡ Up = sym e ∙ ap (λ k. (member_at w' k).phase) is ∙ refreshed_phase c a ver there ∙ ap (λ b. b.phase) was ∙ up in absurd (cc))
      (λ (ne : y ≢ a). ap (λ b. b.out) (stays_other y ne) ∙ come_each w a name y (λ i k. k.phase ≡ Waiting → k.out ≡ None) (λ _. refl) (λ _. h.silent y) (λ _ bad. cc) (sym (ap (λ b. b.phase) (stays_other y ne)) ∙ e))
      (cases_eq y a);
}
  where
    j : CanJoin w a
    j = can_join w a name lt up r g

    c : World
    c = come_to w a name

    ver : ℕ
    ver = newest w + 1

    c1 : World
    c1 = look_at c a ver

    z : ℕ
    z = right_of (view_in c ver) a

    w' : World
    w' = refreshed c a ver

    was : member_at c a ≡ member_at w a
    was = come_was w a name lt

    there : a < size c
    there = omega (arith, lt, length_push w.members (joiner w name))

    stays_other : (x : ℕ) → x ≢ a → member_at w' x ≡ member_at c x
    stays_other x ne = sends_other c1 a z (member_at c a).out x ne ∙ get_or-set_other c.members a x (moved_to c a ver) no_member ne

-- ---- every state of every run

-- the newest view with a mark more is the same in both
same_marked : (w v : World) (x d : ℕ) → Like w v x → marked (view_in v (newest v)) d ≡ marked (view_in w (newest w)) d
same_marked w v x d h = ap (λ n. marked (view_in v n) d) (like_newest w v x h) ∙ ap (λ g. marked g d) (like_view w v x h (newest w))

-- and with an erasure more
same_erased : (w v : World) (x d : ℕ) → Like w v x → erased_view v d ≡ erased_view w d
same_erased w v x d h = ap (λ vs. erased_view (record w { views = vs }) d) h.views

-- and with a registration more
same_synced : (w v : World) (x d : ℕ) → Like w v x → synced_view v d ≡ synced_view w d
same_synced w v x d h = ap (λ vs. synced_view (record w { views = vs }) d) h.views

-- one event more
act_holds : (w : World) (e : Act) → IsGood w → IsLogged w → HoldsBack w → refusal w e ≡ None → HoldsBack (effect w e)
act_holds w e g lg h r = each_act HoldsBack w e g (record {
  casts = λ x m u _. cast_holds w x m u.lt u.up lg h;
  puts = λ x o u out _. put_holds w x o u.up out g lg h;
  takes = λ y s u m. take_holds w y s m g lg h;
  begins = λ y s u m. begin_holds w y s m g lg h;
  leaves = λ y s u current _. leave_holds w y s u.lt u.up (g.inv.current.lt y s (ap runs_phase u.up) current) lg (still_logged w (current_is w y None) (member_still w y (with_current None (member_at w y)) refl refl refl) lg) h;
  gains = λ x o u out _. way_holds w o (λ l. record l { flow = regained l.flow }) (λ l. record { sender = refl; receiver = refl; opened = refl; packets = refl }) (λ l. refl) (g.inv.linked.out_lt x o (ap runs_phase u.up) out) lg h;
  stops = λ x u. stop_holds w x u.lt u.runs_on g.inv lg h;
  marks = λ x d u m. mark_holds w x (marked (view_in w (newest w)) d) u.lt u.up g
      (λ v y k gv. subst (λ gr. IsGood (with_view v gr)) (same_marked w v y d k)
      (mark_good v d (like_phase w v y k d ∙ m.rests) (ap (λ gr. is_live gr d) (ap (view_in v) (like_newest w v y k) ∙ like_view w v y k (newest w)) ∙ m.lives) gv)) lg h;
  erases = λ x d u m. mark_holds w x (erased_view w d) u.lt u.up g
      (λ v y k gv. subst (λ gr. IsGood (with_view v gr)) (same_erased w v y d k)
      (erase_good v d (ap (λ (gr : Group). is_dead gr.entries d) (ap (view_in v) (like_newest w v y k) ∙ like_view w v y k (newest w)) ∙ m.dead) gv)) lg h;
  syncs = λ x u m. mark_holds w x (synced_view w x) u.lt u.up g
      (λ v y k gv. subst (λ gr. IsGood (with_view v gr)) (same_synced w v y x k)
      (sync_good v x (subst (λ gr. Unsynced gr.entries x) (sym (ap (view_in v) (like_newest w v y k) ∙ like_view w v y k (newest w))) (sync_there w x m g)) gv)) lg h;
  admits = λ x name u may. admit_holds w x name u.lt u.up may g lg h;
  refreshes = λ x v u m. refresh_holds w x v m g lg h;
  picks = λ y s u none door upto. pick_holds w y (Some s) u.lt u.up (door_pickable w y s door upto g) lg h;
  refuses = h;
}) (λ x m u _. copied_holds w x m u.lt u.up lg h) r

-- nothing was put yet, and nobody waits
opening_holds : (credit : CreditSpec) (names : List (List ℕ)) → HoldsBack (opening credit names)
opening_holds credit names = record {
  frozen = λ x o up out fresh.
      let unsent : (link_at (opening credit names) o).sending.fresh ≡ true = first_link credit names o (λ l. l.sending.fresh ≡ true) (λ i. refl) refl in
      absurd (false≢true (sym fresh ∙ unsent));
  silent = λ x e. absurd (first_each credit names x (λ a. a.phase ≡ Waiting → ⊥) (λ _ _ k. cc) (λ k. cc) e);
}

-- so in every state of every run of a ring with these names
pub reached_holds : (credit : CreditSpec) (names : List (List ℕ)) (es : List Act) → AreOpeningNames names → IsRun (opening credit names) es → HoldsBack (last (opening credit names) es)
reached_holds credit names es are r = run_knowing HoldsBack (λ w e g q lg k. act_holds w e g lg k q) (opening credit names) es (opening_good credit names are) r (opening_logged credit names) (opening_holds credit names)

-- and nobody has forgotten more than it sent last
pub reached_sent_forgot : (credit : CreditSpec) (names : List (List ℕ)) (es : List Act) → AreOpeningNames names → IsRun (opening credit names) es → HasSentForgot (last (opening credit names) es)
reached_sent_forgot credit names es are r x o p up out sent some lt =
    let f : Frozen (last (opening credit names) es) x o = (reached_holds credit names es are r).frozen x o up out sent in
    omega (arith, f.got p, f.forgot p some lt)
