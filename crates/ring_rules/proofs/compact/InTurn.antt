-- Each packet goes on exactly where the one before it on its link ended.
use Rattle.std.proofs.Common.{◌≡◌, ℕ, zero, suc, ◌+◌, ◌<◌, ◌≤◌, Bool, true, false, nat_eq, List, [], ◌∷◌, ◌++◌, length, drop, get_or, set, Option, Some, None, refl, sym, ap, subst, ◌∙◌, ⊎_elim, if◌then◌else◌, arith}
use Rattle.std.proofs.lemmas.Bool.{false≢true, cases_lt}
use Rattle.std.proofs.lemmas.List.{length-set, length_push}
use Rattle.ring_names.specs.declared.numbers.CreditSpec.{CreditSpec}
use Rattle.std.proofs.lemmas.List.{get_or_append_left, get_or_push}
use Rattle.group_view.specs.View.{Group}
use Rattle.group_view.specs.Change.{AreOpeningNames, marked}
use Rattle.ring_rules.specs.declared.numbers.Numbers.{Numbers}
use Rattle.ring_rules.specs.Rows.{Row, no_row, no_numbers, lo_of}
use Rattle.ring_rules.specs.Refusal.{is_empty}
use Rattle.ring_rules.specs.View.{right_of}
use Rattle.ring_rules.specs.Machine.{Up, Moved, Halted, Packet, Member, Sending, Link, World, no_packet, no_link, no_member, no_sending, row_at, numbers_at, member_at, link_at, view_in, newest, runs, runs_phase, oldest}
use Rattle.ring_rules.specs.Step.{copied, copied_at, size, next_lines, next_packet, put_on, pushed, popped, gain_on, publish_at, published, take_from, taker, begun, begin_from, current_is, with_current, leave_link, stop_at, stopped, end_out, ended, with_member, with_link, with_view, look_at, moved_to, open_to, opened_link, joiner, come_to, opening}
use Rattle.ring_rules.specs.Event.{send_to, refreshed, erased_view, synced_view}
use Rattle.ring_rules.specs.Act.{Act, refusal, effect, IsRun, last}
use Rattle.ring_rules.specs.Compact.{passed, GoesOnFrom, IsInTurn, GoesInTurn}
use Rattle.ring_rules.proofs.events.WhatRefuses.{MayTake, MayBegin}
use Rattle.ring_rules.proofs.rings.Lists.{at_set, get_or_beyond}
use Rattle.ring_rules.proofs.events.Composed.{end_composed}
use Rattle.ring_rules.proofs.walks.Packets.{reads_got, line_of_packet}
use Rattle.ring_rules.proofs.invariants.Kept.{Inv}
use Rattle.ring_rules.proofs.invariants.KeptAdmit.{CanJoin}
use Rattle.ring_rules.proofs.invariants.FromLeft.{IsGood}
use Rattle.ring_rules.proofs.invariants.Happens.{opening_good, mark_good, erase_good, sync_there, sync_good, can_join}
use Rattle.ring_rules.proofs.events.Cases.{each_act}
use Rattle.ring_rules.proofs.events.First.{first_link}
use Rattle.ring_rules.proofs.runs.Lines.{Still}
use Rattle.ring_rules.proofs.runs.LinesKept.{copied_still, OwnedStays, cast_still, gain_still, end_still, stop_still, leave_still, look_still, mark_still, owned_stays, come_owned, come_was}
use Rattle.ring_rules.proofs.events.Leaves.{come_each}
use Rattle.ring_rules.proofs.runs.NeverFalls.{take_rises, begin_rises}
use Rattle.ring_rules.proofs.runs.OwnLogs.{IsLogged, run_knowing, opening_logged}

-- ---- lists

-- the next packet, of single lines
lines_go_on : (fresh : Bool) (rows : List Row) (last : List Numbers) (p : ℕ) → (get_or last p no_numbers).got ≤ (get_or rows p no_row).got → (get_or (next_lines fresh rows last) p no_numbers).lo ≡ lo_of fresh (get_or (next_lines fresh rows last) p no_numbers).forgot (get_or last p no_numbers)
lines_go_on true [] last p h = refl
lines_go_on false [] last p h = omega (arith, h)
lines_go_on fresh (a ∷ rows) [] zero h = refl
lines_go_on fresh (a ∷ rows) (k ∷ last) zero h = refl
lines_go_on fresh (a ∷ rows) [] (suc p) h = lines_go_on fresh rows [] p h
lines_go_on fresh (a ∷ rows) (k ∷ last) (suc p) h = lines_go_on fresh rows last p h

-- so it goes on from what was sent last
pub next_goes_on : (y : Member) (s : Sending) → ((p : ℕ) → (numbers_at s.sent p).got ≤ (row_at y p).got) → GoesOnFrom s (next_packet y s)
next_goes_on y s h p = lines_go_on s.fresh y.rows s.sent.numbers p (h p)

-- a packet joins
turn_push : (b : Sending) (ks : List Packet) (s : Sending) (j : Packet) → IsInTurn b ks s → GoesOnFrom s j → IsInTurn b (ks ++ j ∷ []) (passed j)
turn_push b [] s j h n = (subst (λ a. GoesOnFrom a j) h n, refl)
turn_push b (k ∷ ks) s j h n = (h.0, turn_push (passed k) ks s j h.1 n)

-- the oldest one is taken
turn_drop : (b : Sending) (ks : List Packet) (s : Sending) → is_empty ks ≡ false → IsInTurn b ks s → IsInTurn (passed (get_or ks 0 no_packet)) (drop 1 ks) s
turn_drop b [] s some h = absurd (false≢true (sym some))
turn_drop b (k ∷ ks) s some h = h.1

-- ---- what is kept

-- each link goes in turn, and nobody has sent more than it has got
pub record IsTurned (w : World) : Type 0 where
  pub turn : GoesInTurn w
  pub behind : (x o p : ℕ) → runs w x ≡ true → (member_at w x).out ≡ Some o → (numbers_at (link_at w o).sending.sent p).got ≤ (row_at (member_at w x) p).got

-- what leaves the packets where they are, and gives nobody an out link
still_turned : (w w' : World) → Still w w' → ((x o : ℕ) → (member_at w' x).out ≡ Some o → (member_at w x).out ≡ Some o) → IsTurned w → IsTurned w'
still_turned w w' k outs h = record {
  turn = λ s. subst (λ a. IsInTurn a (link_at w' s).packets (link_at w' s).sending) (sym (k.lines s).had)
      (subst (λ a. IsInTurn (link_at w s).had a (link_at w' s).sending) (sym (k.lines s).packets)
      (subst (λ a. IsInTurn (link_at w s).had (link_at w s).packets a) (sym (k.lines s).sending) (h.turn s)));
  behind = λ x o p r e.
      let old : (numbers_at (link_at w o).sending.sent p).got ≤ (row_at (member_at w x) p).got = h.behind x o p (k.runs_less x r) (outs x o e) in
      let same : (numbers_at (link_at w' o).sending.sent p).got ≡ (numbers_at (link_at w o).sending.sent p).got = ap (λ a. (numbers_at a.sent p).got) (k.lines o).sending in
      omega (arith, same, old, k.got x p);
}

-- who is written keeps its out link
same_outs : (w : World) (x : ℕ) (m : Member) (ls : List Link) → x < size w → m.out ≡ (member_at w x).out → (y o : ℕ) → (member_at (record w { members = set w.members x m; links = ls }) y).out ≡ Some o → (member_at w y).out ≡ Some o
same_outs w x m ls lt same y o = at_set (λ i a. a.out ≡ Some o → (member_at w i).out ≡ Some o) w.members x y m no_member lt (λ e. sym same ∙ e) (λ _ e. e)

-- ---- single events

-- a put
put_turned : (w : World) (x o : ℕ) → (member_at w x).phase ≡ Up → (member_at w x).out ≡ Some o → Inv w → IsTurned w → IsTurned (put_on w x o)
put_turned w x o up out inv h = record {
  turn = λ s. at_set (λ i a. IsInTurn a.had a.packets a.sending) w.links o s new no_link lt
      (turn_push (link_at w o).had (link_at w o).packets (link_at w o).sending k (h.turn o) (next_goes_on (member_at w x) (link_at w o).sending (λ p. h.behind x o p rx out))) (λ _. h.turn s);
  behind = λ z s p r e. at_set (λ i a. (member_at w z).out ≡ Some i → (numbers_at a.sending.sent p).got ≤ (row_at (member_at w z) p).got) w.links o s new no_link lt
      (λ c. let same : z ≡ x = sym (inv.linked.out_from z o r c) ∙ inv.linked.out_from x o rx out in
      subst (λ q. (numbers_at k p).got ≤ (row_at (member_at w q) p).got) (sym same)
      (omega (arith, line_of_packet (λ j. j.got) (λ a. a.got) (member_at w x) (link_at w o).sending p reads_got)))
      (λ _ c. h.behind z s p r c) e;
}
  where
    rx : runs w x ≡ true
    rx = ap runs_phase up

    lt : o < length w.links
    lt = inv.linked.out_lt x o rx out

    k : Packet
    k = next_packet (member_at w x) (link_at w o).sending

    new : Link
    new = pushed (link_at w o) k

-- a take, or a first one: y is written with rows of which none is lower, and the oldest packet of s is gone
written_turned : (w : World) (y s : ℕ) (m : Member) → y < size w → s < length w.links → is_empty (link_at w s).packets ≡ false → m.out ≡ (member_at w y).out → runs_phase m.phase ≡ runs w y
    → ((q p : ℕ) → (row_at (member_at w q) p).got ≤ (row_at (member_at (with_member w y m) q) p).got) → IsTurned w → IsTurned (with_link (with_member w y m) s (popped (link_at w s)))
written_turned w y s m yl lt has out runs_same rises h = record {
  turn = λ t. at_set (λ i a. IsInTurn a.had a.packets a.sending) w.links s t (popped (link_at w s)) no_link lt
      (turn_drop (link_at w s).had (link_at w s).packets (link_at w s).sending has (h.turn s)) (λ _. h.turn t);
  behind = λ z o p r e.
      let ran : runs w z ≡ true = at_set (λ i a. runs_phase a.phase ≡ true → runs w i ≡ true) w.members y z m no_member yl (λ k. sym runs_same ∙ k) (λ _ k. k) r in
      let old : (numbers_at (link_at w o).sending.sent p).got ≤ (row_at (member_at w z) p).got = h.behind z o p ran (same_outs w y m w.links yl out z o e) in
      let same : (link_at (with_link w s (popped (link_at w s))) o).sending ≡ (link_at w o).sending = at_set (λ i a. a.sending ≡ (link_at w i).sending) w.links s o (popped (link_at w s)) no_link lt refl (λ _. refl) in
      let line : (numbers_at (link_at (with_link w s (popped (link_at w s))) o).sending.sent p).got ≡ (numbers_at (link_at w o).sending.sent p).got = ap (λ a. (numbers_at a.sent p).got) same in
      omega (arith, line, old, rises z p);
}

-- a take
take_turned : (w : World) (y s : ℕ) → MayTake w y s → Inv w → IsLogged w → IsTurned w → IsTurned (take_from w y s)
take_turned w y s m inv lg h = written_turned w y s (taker w y s) m.is_member (inv.current.lt y s (ap runs_phase m.up) m.current) m.has refl refl (λ q p. (take_rises w y s m inv lg).got q p) h

-- a first take
begin_turned : (w : World) (y s : ℕ) → MayBegin w y s → Inv w → IsLogged w → IsTurned w → IsTurned (begin_from w y s)
begin_turned w y s m inv lg h =
    written_turned w y s (begun (size w) (member_at w y) (oldest (link_at w s))) m.is_member (inv.current.lt y s (ap runs_phase m.waits) m.current) m.has refl (sym (ap runs_phase m.waits))
    (λ q p. (begin_rises w y s m.is_member (λ j. inv.joining.rows y j m.waits) lg).got q p) h

-- the end of a link was taken
leave_turned : (w : World) (y s : ℕ) → y < size w → s < length w.links → (member_at w y).current ≡ Some s → IsTurned w → IsTurned (leave_link w y s)
leave_turned w y s yl lt c h = still_turned w (leave_link w y s) (leave_still w y s yl lt c) (same_outs w y (with_current None (member_at w y)) (leave_link w y s).links yl refl) h

-- a stop
stop_turned : (w : World) (x : ℕ) → x < size w → runs w x ≡ true → Inv w → IsTurned w → IsTurned (end_out Halted (stop_at w x) (member_at w x).out)
stop_turned w x lt rx inv h = end_composed IsTurned Halted (stop_at w x) (member_at w x).out
    (λ o e now. still_turned (stop_at w x) (with_link (stop_at w x) o (ended Halted (link_at w o))) (end_still (stop_at w x) o Halted (inv.linked.out_lt x o rx e)) (λ y j k. k) now)
    (still_turned w (stop_at w x) (stop_still w x lt) (same_outs w x (stopped (member_at w x)) w.links lt refl) h)

-- another current link
pick_turned : (w : World) (y : ℕ) (c : Option ℕ) → y < size w → IsTurned w → IsTurned (current_is w y c)
pick_turned w y c yl h = record {
  turn = h.turn;
  behind = λ z o p r e. at_set (λ i a. runs_phase a.phase ≡ true → a.out ≡ Some o → (numbers_at (link_at w o).sending.sent p).got ≤ (row_at a p).got) w.members y z (with_current c (member_at w y)) no_member yl
      (h.behind y o p) (λ _. h.behind z o p) r e;
}

-- ---- a refresh

-- the out links of those that run are there
abbrev SendsWithin : World → Type 0
SendsWithin w = (x o : ℕ) → runs w x ≡ true → (member_at w x).out ≡ Some o → o < length w.links

sends_within : (w : World) → Inv w → SendsWithin w
sends_within w inv x o r e = inv.linked.out_lt x o r e

-- a link opens
open_turned : (w : World) (x z : ℕ) → x < size w → SendsWithin w → IsTurned w → IsTurned (open_to w x z)
open_turned w x z lt within h = record { turn = turns; behind = behinds }
  where
    new : Link
    new = opened_link w x z

    k : Packet
    k = next_packet (member_at w x) no_sending

    ls : List Link
    ls = w.links ++ new ∷ []

    turns : (s : ℕ) → IsInTurn (get_or ls s no_link).had (get_or ls s no_link).packets (get_or ls s no_link).sending
    turns s = ⊎_elim
        (λ (l : s < length w.links). subst (λ (a : Link). IsInTurn a.had a.packets a.sending) (sym (get_or_append_left w.links (new ∷ []) no_link s l)) (h.turn s))
        (λ (ge : length w.links ≤ s). ⊎_elim
        (λ (l : s < length w.links + 1). subst (λ (a : Link). IsInTurn a.had a.packets a.sending) (sym (get_or_push w.links new no_link s (omega arith))) (next_goes_on (member_at w x) no_sending (λ p. omega arith), refl))
        (λ (g : length w.links + 1 ≤ s). subst (λ (a : Link). IsInTurn a.had a.packets a.sending) (sym (get_or_beyond ls s no_link (omega (arith, length_push w.links new)))) refl)
        (cases_lt s (length w.links + 1)))
        (cases_lt s (length w.links))

    behinds : (y o p : ℕ) → runs (open_to w x z) y ≡ true → (member_at (open_to w x z) y).out ≡ Some o → (numbers_at (get_or ls o no_link).sending.sent p).got ≤ (row_at (member_at (open_to w x z) y) p).got
    behinds y o p = at_set (λ i a. runs_phase a.phase ≡ true → a.out ≡ Some o → (numbers_at (get_or ls o no_link).sending.sent p).got ≤ (row_at a p).got) w.members x y (record (member_at w x) { out = Some (length w.links) }) no_member lt
        (λ _ e. let is : length w.links ≡ o = cc in
        subst (λ (a : Link). (numbers_at a.sending.sent p).got ≤ (row_at (member_at w x) p).got) (sym (get_or_push w.links new no_link o is))
        (omega (arith, line_of_packet (λ j. j.got) (λ a. a.got) (member_at w x) no_sending p reads_got)))
        (λ _ r e. subst (λ (a : Link). (numbers_at a.sending.sent p).got ≤ (row_at (member_at w y) p).got) (sym (get_or_append_left w.links (new ∷ []) no_link o (within y o r e))) (h.behind y o p r e))

-- a whole refresh
refresh_turned : (w : World) (x v : ℕ) → x < size w → (member_at w x).version ≤ v → OwnedStays w x v → SendsWithin w → (runs w x ≡ true) → IsTurned w → IsTurned (refreshed w x v)
refresh_turned w x v lt later same outs rx h = by_out (member_at w x).out refl
  where
    w1 : World
    w1 = look_at w x v

    z : ℕ
    z = right_of (view_in w v) x

    looked : IsTurned w1
    looked = still_turned w w1 (look_still w x v lt later same) (same_outs w x (moved_to w x v) w.links lt refl) h

    there : x < size w1
    there = omega (arith, length-set w.members x (moved_to w x v))

    inside : SendsWithin w1
    inside y o r e = outs y o
        (at_set (λ i a. runs_phase a.phase ≡ true → runs w i ≡ true) w.members x y (moved_to w x v) no_member lt (λ k. k) (λ _ k. k) r)
        (same_outs w x (moved_to w x v) w.links lt refl y o e)

    by_receiver : (o : ℕ) → (member_at w x).out ≡ Some o → (b : Bool) → IsTurned (if b then w1 else open_to (with_link w1 o (ended Moved (link_at w o))) x z)
    by_receiver o e true = looked
    by_receiver o e false =
        let many : length (set w.links o (ended Moved (link_at w o))) ≡ length w.links = length-set w.links o (ended Moved (link_at w o)) in
        open_turned (with_link w1 o (ended Moved (link_at w o))) x z there (λ y j r c. let k : j < length w.links = inside y j r c in omega arith)
        (still_turned w1 (with_link w1 o (ended Moved (link_at w o))) (end_still w1 o Moved (outs x o rx e)) (λ y j k. k) looked)

    by_out : (o : Option ℕ) → (member_at w x).out ≡ o → IsTurned (send_to w1 x z o)
    by_out None e = open_turned w1 x z there inside looked
    by_out (Some o) e = by_receiver o e (nat_eq (link_at w o).receiver z)

-- a mark, or an erasure
mark_turned : (w : World) (x : ℕ) (g : Group) → x < size w → (member_at w x).phase ≡ Up → IsGood w → IsGood (with_view w g) → IsTurned w → IsTurned (refreshed (with_view w g) x (newest w + 1))
mark_turned w x g lt up good after h =
    let held : (member_at w x).version ≤ newest w = good.inv.is_ring.held x in
    let more : length (w.views ++ g ∷ []) ≡ length w.views + 1 = length_push w.views g in
    let some : 0 < length w.views = good.inv.is_ring.some in
    refresh_turned (with_view w g) x (newest w + 1) lt (omega arith)
    (owned_stays (with_view w g) x (newest w + 1) after (ap runs_phase up) (omega arith) (omega arith))
    (sends_within (with_view w g) after.inv) (ap runs_phase up)
    (still_turned w (with_view w g) (mark_still w g good.inv.is_ring) (λ y o e. e) h)

-- a whole admission
admit_turned : (w : World) (m : ℕ) (name : List ℕ) → CanJoin w m → IsGood w → IsTurned w → IsTurned (refreshed (come_to w m name) m (newest w + 1))
admit_turned w m name j good h =
    let was_m : member_at (come_to w m name) m ≡ member_at w m = come_was w m name j.is_member in
    refresh_turned (come_to w m name) m (newest w + 1) (omega (arith, j.is_member, length_push w.members (joiner w name))) (omega (arith, ap (λ a. a.version) was_m, j.inv.is_ring.held m))
    (come_owned w m name j good)
    (λ y o. come_each w m name y (λ i a. runs_phase a.phase ≡ true → a.out ≡ Some o → o < length w.links) (λ _ bad. cc) (λ _ r e. j.inv.linked.out_lt y o r e) (λ _ bad. absurd (false≢true bad)))
    (ap (λ a. runs_phase a.phase) was_m ∙ ap runs_phase j.up)
    (record {
      turn = h.turn;
      behind = λ y o p. come_each w m name y (λ i a. runs_phase a.phase ≡ true → a.out ≡ Some o → (numbers_at (link_at w o).sending.sent p).got ≤ (row_at a p).got)
          (λ _ bad. cc) (λ _. h.behind y o p) (λ _ bad. absurd (false≢true bad));
    })

-- ---- every state of every run

-- one event more
act_turned : (w : World) (e : Act) → IsGood w → IsLogged w → IsTurned w → refusal w e ≡ None → IsTurned (effect w e)
act_turned w e g lg h r = each_act IsTurned w e g (record {
  casts = λ x m u _. still_turned w (publish_at w x m) (cast_still w x m u.lt) (same_outs w x (published x m (member_at w x)) w.links u.lt refl) h;
  puts = λ x o u out _. put_turned w x o u.up out g.inv h;
  takes = λ y s u m. take_turned w y s m g.inv lg h;
  begins = λ y s u m. begin_turned w y s m g.inv lg h;
  leaves = λ y s u current _. leave_turned w y s u.lt (g.inv.current.lt y s (ap runs_phase u.up) current) current h;
  gains = λ x o u out _. still_turned w (gain_on w o) (gain_still w o (g.inv.linked.out_lt x o (ap runs_phase u.up) out)) (λ y j k. k) h;
  stops = λ x u. stop_turned w x u.lt u.runs_on g.inv h;
  marks = λ x d u m. mark_turned w x (marked (view_in w (newest w)) d) u.lt u.up g (mark_good w d m.rests m.lives g) h;
  erases = λ x d u m. mark_turned w x (erased_view w d) u.lt u.up g (erase_good w d m.dead g) h;
  syncs = λ x u m. mark_turned w x (synced_view w x) u.lt u.up g (sync_good w x (sync_there w x m g) g) h;
  admits = λ x name u may. admit_turned w x name (can_join w x name u.lt u.up may g) g h;
  refreshes = λ x v u m.
      let rx : runs w x ≡ true = ap runs_phase u.up in
      refresh_turned w x v u.lt m.later (owned_stays w x v g rx m.later m.upto) (sends_within w g.inv) rx h;
  picks = λ y s u none door upto. pick_turned w y (Some s) u.lt h;
  refuses = h;
}) (λ x m u _. still_turned w (copied_at w x m) (copied_still w x m u.lt) (same_outs w x (copied m (member_at w x)) w.links u.lt refl) h) r

-- nothing was put yet
opening_turned : (credit : CreditSpec) (names : List (List ℕ)) → IsTurned (opening credit names)
opening_turned credit names = record {
  turn = λ s. first_link credit names s (λ a. IsInTurn a.had a.packets a.sending) (λ i. refl) refl;
  behind = λ x o p r e. first_link credit names o (λ a. (numbers_at a.sending.sent p).got ≤ (row_at (member_at (opening credit names) x) p).got) (λ i. omega arith) (omega arith);
}

-- so in every state of every run of a ring with these names
pub reached_turned : (credit : CreditSpec) (names : List (List ℕ)) (es : List Act) → AreOpeningNames names → IsRun (opening credit names) es → IsTurned (last (opening credit names) es)
reached_turned credit names es are r =
    run_knowing IsTurned (λ w e g q lg h. act_turned w e g lg h q) (opening credit names) es (opening_good credit names are) r (opening_logged credit names) (opening_turned credit names)
