-- What has come round to a publisher every running member counts as received.
use Rattle.std.proofs.Common.{◌≡◌, ℕ, ◌≤◌, true, false, List, ◌++◌, refl, subst, ◌∙◌, arith, ◌<◌, Bool, Some, sym, ap, set, get_or, length}
use Rattle.std.proofs.lemmas.Bool.{false≢true}
use Rattle.std.proofs.lemmas.List.{length-set}
use Rattle.ring_names.specs.declared.numbers.CreditSpec.{CreditSpec}
use Rattle.group_view.specs.Ring.{rotated, is_in}
use Rattle.group_view.specs.Change.{AreOpeningNames}
use Rattle.group_view.proofs.Rings.{is_in-rotated, in_first}
use Rattle.group_view.proofs.Neighbours.{in-filter}
use Rattle.ring_rules.specs.Machine.{Phase, Waiting, Up, Stopped, World, Member, no_member, row_at, numbers_at, member_at, link_at, newest, ring, runs, runs_phase, oldest}
use Rattle.ring_rules.proofs.walks.CountedWalk.{numbers, counted, only, no_but, is_early, retired_by, stopped_from, running_from}
use Rattle.ring_rules.specs.OpenLinks.{number, own_number, first_packet}
use Rattle.ring_rules.specs.Step.{copied, size, published, taker, begun, with_current, stopped, moved_to, with_member, look_at, opening}
use Rattle.ring_rules.specs.Act.{Act, IsRun, last}
use Rattle.ring_rules.specs.Lawful.{row_of, ConfirmedEverywhere}
use Rattle.ring_rules.proofs.rings.Lists.{at_set}
use Rattle.ring_rules.proofs.walks.Put.{runs_phase-Up, number_up}
use Rattle.ring_rules.proofs.invariants.Kept.{Inv}
use Rattle.ring_rules.proofs.invariants.KeptOpen.{out_member}
use Rattle.ring_rules.proofs.invariants.KeptAdmit.{join_rests}
use Rattle.ring_rules.proofs.events.First.{first_row}
use Rattle.ring_rules.specs.Rows.{Row}
use Rattle.ring_rules.proofs.rings.Falling.{falls_across, each_in_round, rises_first}
use Rattle.ring_rules.proofs.invariants.Happens.{IsGood, opening_good, reached_good}
use Rattle.ring_rules.proofs.walks.Twice.{gots, forgots, Edits}
use Rattle.ring_rules.proofs.invariants.TwiceKept.{stop_edits}
use Rattle.ring_rules.proofs.walks.Agreed.{AllFrom, all_from_at, all_from_each, all_from_kept}
use Rattle.ring_rules.proofs.invariants.Moves.{copy_move, Move, cast_move, put_move, take_move, begin_move, current_move, stop_move, way_move, look_move, open_move, mark_move, erase_move, sync_move, join_move, run_moves}
use Rattle.ring_rules.proofs.walks.MoveEdits.{move_edits}

-- each running member stands in the walk of each origin
pub runs_in_walk : (w : World) (q p : ℕ) → Inv w → runs w q ≡ true → is_in q (running_from w p) ≡ true
runs_in_walk w q p h r = in-filter (runs w) q (rotated p (ring w)) (is_in-rotated q p (ring w) ∙ h.is_ring.stands q (newest w) r (h.is_ring.held q) (omega arith)) r

-- each running member's number stands in the round
pub number_in_gots : (w : World) (q p : ℕ) → Inv w → runs w q ≡ true → is_in (number (λ k. k.got) (λ r. r.got) w p q) (gots w p) ≡ true
number_in_gots w q p h r =
    each_in_round (λ q. numbers (λ k. (numbers_at k p).got) (only (is_early (stopped_from w p)) (counted w q)) w.links)
    (λ q. numbers (λ k. (numbers_at k p).got) (counted w q) w.links)
    (λ q. numbers (λ k. (numbers_at k p).got) (no_but (is_early (stopped_from w p)) (counted w q)) w.links)
    (number (λ k. k.got) (λ r. r.got) w p) q (running_from w p) (runs_in_walk w q p h r)

pub number_in_forgots : (w : World) (q p : ℕ) → Inv w → runs w q ≡ true → is_in (number (λ k. k.forgot) (λ r. r.forgot) w p q) (forgots w p) ≡ true
number_in_forgots w q p h r =
    each_in_round (λ q. numbers (λ k. (numbers_at k p).forgot) (only (is_early (stopped_from w p)) (counted w q)) w.links)
    (λ q. numbers (λ k. (numbers_at k p).forgot) (counted w q) w.links)
    (λ q. numbers (λ k. (numbers_at k p).forgot) (no_but (is_early (stopped_from w p)) (counted w q)) w.links)
    (number (λ k. k.forgot) (λ r. r.forgot) w p) q (running_from w p) (runs_in_walk w q p h r)

-- ---- publishers that have stopped

-- what a publisher had forgotten at its stop nobody has still to receive
abbrev pub StoppedConfirms : World → Type 0
StoppedConfirms w = (p : ℕ) → 1 ≤ p → p < size w → runs w p ≡ false → AllFrom (row_of w p p).forgot (gots w p)

-- of one that runs it is so by its walk
running_confirms : (w : World) (p : ℕ) → IsGood w → 1 ≤ p → p < size w → runs w p ≡ true → AllFrom (row_of w p p).forgot (gots w p)
running_confirms w p g some lt rp = by_phase (member_at w p).phase refl rp
  where
    by_phase : (f : Phase) → (member_at w p).phase ≡ f → runs_phase f ≡ true → AllFrom (row_of w p p).forgot (gots w p)
    by_phase Waiting e r = all_from_each (row_of w p p).forgot (gots w p) (λ a i. omega (arith, (g.inv.joining.rows p p e).1))
    by_phase Stopped e r = absurd (false≢true r)
    by_phase Up e r = all_from_each (row_of w p p).forgot (gots w p)
        (λ a i. subst (λ b. b ≤ a) (number_up (λ k. k.forgot) (λ r. r.forgot) w p p e)
        (falls_across a (number (λ k. k.forgot) (λ r. r.forgot) w p p) (gots w p) (forgots w p ++ retired_by w p (running_from w p)) (g.inv.walks p some lt) i
        (in_first (number (λ k. k.forgot) (λ r. r.forgot) w p p) (forgots w p) (retired_by w p (running_from w p)) (number_in_forgots w p p g.inv rp))))

-- so of each
pub all_confirms : (w : World) (p : ℕ) → IsGood w → StoppedConfirms w → 1 ≤ p → p < size w → AllFrom (row_of w p p).forgot (gots w p)
all_confirms w p g h some lt = by_runs (runs w p) refl
  where
    by_runs : (b : Bool) → runs w p ≡ b → AllFrom (row_of w p p).forgot (gots w p)
    by_runs true r = running_confirms w p g some lt r
    by_runs false r = h p some lt r

-- ---- steps

-- as much of it has come round as before
abbrev pub KeepsForgot : World → World → ℕ → Type 0
KeepsForgot w w' p = (row_of w' p p).forgot ≡ (row_of w p p).forgot

-- what a step does, seen from one that doesn't run after it
pub record MovedOn (w w' : World) (p : ℕ) : Type 0 where
  pub pl : p < size w
  pub edits : Edits w w' p
  pub forgot : KeepsForgot w w' p

-- where nobody stops, who doesn't run after it didn't before
record Rested (w w' : World) (p : ℕ) : Type 0 where
  pl : p < size w
  rests : runs w p ≡ false
  forgot : KeepsForgot w w' p

-- a member that runs is written, whatever happens to links
written_rests : (w w' : World) (x p : ℕ) (m : Member) → w'.members ≡ set w.members x m → x < size w → runs_phase m.phase ≡ true → p < size w' → runs w' p ≡ false → Rested w w' p
written_rests w w' x p m e lt rm pl r =
    let now : member_at w' p ≡ member_at (with_member w x m) p = ap (λ ms. get_or ms p no_member) e in
    let k : (runs w p ≡ false) × ((row_of (with_member w x m) p p).forgot ≡ (row_of w p p).forgot) =
    at_set (λ i a. runs_phase a.phase ≡ false → (runs w i ≡ false) × ((row_at a i).forgot ≡ (row_of w i i).forgot)) w.members x p m no_member lt (λ q. absurd (false≢true (sym q ∙ rm))) (λ _ q. (q, refl))
    (sym (ap (λ (a : Member). runs_phase a.phase) now) ∙ r) in
    record { pl = omega (arith, pl, ap length e, length-set w.members x m); rests = k.0; forgot = ap (λ (a : Member). (row_at a p).forgot) now ∙ k.1 }

-- nobody is
unwritten_rests : (w w' : World) (p : ℕ) → w'.members ≡ w.members → p < size w' → runs w' p ≡ false → Rested w w' p
unwritten_rests w w' p e pl r =
    let now : member_at w' p ≡ member_at w p = ap (λ ms. get_or ms p no_member) e in
    record { pl = omega (arith, pl, ap length e); rests = sym (ap (λ (a : Member). runs_phase a.phase) now) ∙ r; forgot = ap (λ (a : Member). (row_at a p).forgot) now }

pub moved_on : (w w' : World) (p : ℕ) → IsGood w → Move IsGood w w' → 1 ≤ p → p < size w' → runs w' p ≡ false → MovedOn w w' p
moved_on w w' p g k some pl r = by_move k
  where
    rest : Rested w w' p → MovedOn w w' p
    rest a = record { pl = a.pl; edits = move_edits IsGood w w' p g k some a.pl a.rests; forgot = a.forgot }

    written : (u : World) (x : ℕ) (m : Member) → u.members ≡ set w.members x m → w' ≡ u → x < size w → runs_phase m.phase ≡ true → MovedOn w w' p
    written u x m same e lt rm = rest (written_rests w w' x p m (ap (λ (a : World). a.members) e ∙ same) lt rm pl r)

    unwritten : (u : World) → u.members ≡ w.members → w' ≡ u → MovedOn w w' p
    unwritten u same e = rest (unwritten_rests w w' p (ap (λ (a : World). a.members) e ∙ same) pl r)

    by_move : Move IsGood w w' → MovedOn w w' p
    by_move (cast_move x m lt up e) = written _ x (published x m (member_at w x)) refl e lt (ap runs_phase up)
    by_move (put_move x o up out e) = unwritten _ refl e
    by_move (take_move y s m e) = written _ y (taker w y s) refl e m.is_member (ap runs_phase m.up)
    by_move (begin_move y s m e) = written _ y (begun (size w) (member_at w y) (oldest (link_at w s))) refl e m.is_member refl
    by_move (current_move y c lt up q e) = written _ y (with_current c (member_at w y)) refl e lt (ap runs_phase up)
    by_move (copy_move x m lt up e) = written _ x (copied m (member_at w x)) refl e lt (ap runs_phase up)
    by_move (stop_move x lt rx e) = subst (λ u. p < size u → MovedOn w u p) (sym e) (λ pl.
        let l2 : p < size w = omega (arith, pl, length-set w.members x (stopped (member_at w x))) in
        record {
          pl = l2;
          edits = stop_edits w x p lt g.inv rx (g.inv.origins p some l2);
          forgot = at_set (λ i a. (row_at a i).forgot ≡ (row_of w i i).forgot) w.members x p (stopped (member_at w x)) no_member lt refl (λ _. refl);
        }) pl
    by_move (way_move s l lt q e) = unwritten _ refl e
    by_move (look_move x v m e) = written _ x (moved_to w x v) refl e m.is_member (ap runs_phase m.up)
    by_move (open_move x v m moves e) =
        let w1 : World = look_at w x v in
        let l1 : x < size w1 = omega (arith, m.is_member, length-set w.members x (moved_to w x v)) in
        let up1 : (member_at w1 x).phase ≡ Up = at_set (λ i a. i ≡ x → a.phase ≡ Up) w.members x x (moved_to w x v) no_member m.is_member (λ _. m.up) (λ d k. absurd (d k)) refl in
        let a = written_rests w1 w' x p (out_member w1 x) (ap (λ (u : World). u.members) e) l1 (ap runs_phase up1) pl r in
        let b = written_rests w w1 x p (moved_to w x v) refl m.is_member (ap runs_phase m.up) a.pl a.rests in
        rest (record { pl = b.pl; rests = b.rests; forgot = a.forgot ∙ b.forgot })
    by_move (mark_move d rest live e) = unwritten _ refl e
    by_move (erase_move x d m e) = unwritten _ refl e
    by_move (sync_move x m e) = unwritten _ refl e
    by_move (join_move m name j gw e) =
        let k = join_rests w m name j p (subst (λ u. p < size u) e pl) (subst (λ u. runs u p ≡ false) e r) in
        rest (record { pl = k.0; rests = k.1.0; forgot = ap (λ u. (row_of u p p).forgot) e ∙ ap (λ a. (row_at a p).forgot) k.1.1 })

-- one step more
move_confirms : (w w' : World) → IsGood w → Move IsGood w w' → StoppedConfirms w → StoppedConfirms w'
move_confirms w w' g k h p some lt r =
    let m : MovedOn w w' p = moved_on w w' p g k some lt r in
    subst (λ c. AllFrom c (gots w' p)) (sym m.forgot)
    (all_from_kept (row_of w p p).forgot (gots w p) (gots w' p) (rises_first (gots w p) (forgots w p ++ retired_by w p (running_from w p)) (g.inv.walks p some m.pl)) m.edits.first (all_confirms w p g h some m.pl))

-- nobody has stopped in the opening
opening_confirms : (credit : CreditSpec) (names : List (List ℕ)) → StoppedConfirms (opening credit names)
opening_confirms credit names p some lt r =
    all_from_each (row_of (opening credit names) p p).forgot (gots (opening credit names) p) (λ a i. omega (arith, ap (λ (k : Row). k.forgot) (first_row credit names p p)))

-- ---- the law

pub good_confirmed : (w : World) → IsGood w → StoppedConfirms w → ConfirmedEverywhere w
good_confirmed w g h = record {
  up = λ q p some lt up. subst (λ a. (row_of w p p).forgot ≤ a) (number_up (λ k. k.got) (λ r. r.got) w p q up)
      (all_from_at (row_of w p p).forgot (number (λ k. k.got) (λ r. r.got) w p q) (gots w p) (all_confirms w p g h some lt) (number_in_gots w q p g.inv (runs_phase-Up w q up)));
  waits = λ q p s some lt waits current.
      subst (λ a. (row_of w p p).forgot ≤ a) (number_waits q p s waits current)
      (all_from_at (row_of w p p).forgot (number (λ k. k.got) (λ r. r.got) w p q) (gots w p) (all_confirms w p g h some lt) (number_in_gots w q p g.inv (ap runs_phase waits)));
}
  where
    number_waits : (q p s : ℕ) → (member_at w q).phase ≡ Waiting → (member_at w q).current ≡ Some s → number (λ k. k.got) (λ r. r.got) w p q ≡ (numbers_at (oldest (link_at w s)) p).got
    number_waits q p s waits current = ap (λ f. own_number (λ k. k.got) (λ r. r.got) w p f (member_at w q)) waits ∙ ap (λ c. (numbers_at (first_packet w c) p).got) current

-- in every state of every run
pub run_stopped_confirms : (credit : CreditSpec) (names : List (List ℕ)) (es : List Act) → AreOpeningNames names → IsRun (opening credit names) es → StoppedConfirms (last (opening credit names) es)
run_stopped_confirms credit names es are r = run_moves StoppedConfirms move_confirms (opening credit names) es (opening_good credit names are) r (opening_confirms credit names)

-- the law in every state of every run
pub run_confirmed_everywhere : (credit : CreditSpec) (names : List (List ℕ)) (es : List Act) → AreOpeningNames names → IsRun (opening credit names) es → ConfirmedEverywhere (last (opening credit names) es)
run_confirmed_everywhere credit names es are r = good_confirmed (last (opening credit names) es) (reached_good credit names es are r) (run_stopped_confirms credit names es are r)
