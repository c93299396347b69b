-- The length that a log had at a member's admission is kept.
use Rattle.std.proofs.Common.{◌≡◌, ℕ, ◌≤◌, Bool, true, false, List, get_or, refl, sym, ap, ◌∙◌, arith}
use Rattle.ring_names.specs.declared.numbers.CreditSpec.{CreditSpec}
use Rattle.group_view.specs.Change.{AreOpeningNames}
use Rattle.ring_rules.proofs.events.Leaves.{come_member}
use Rattle.ring_rules.specs.Rows.{Row, no_row, taken_row}
use Rattle.ring_rules.specs.Machine.{World, no_member, row_at, numbers_at, member_at, link_at, view_in, oldest}
use Rattle.ring_rules.specs.Step.{size, log_of, published, is_owned, taker, begun, stopped, stop_at, open_to, opening}
use Rattle.ring_rules.specs.Act.{Act, IsRun, last}
use Rattle.ring_rules.specs.Lawful.{row_of, KeepsBorn}
use Rattle.ring_rules.proofs.rings.Lists.{at_set}
use Rattle.ring_rules.proofs.invariants.Happens.{IsGood, reached_good}
use Rattle.ring_rules.proofs.events.Parts.{Part, cast_part, put_part, take_part, begin_part, come_part, gain_part, stop_part, open_part, still_part, run_keeps, IsSameRows, member_same}
use Rattle.ring_rules.proofs.runs.OwnLogs.{IsLogged, begun_at, taker_row, published_at, part_logged, run_logged}
use Rattle.ring_rules.proofs.runs.NeverFalls.{part_rises, open_same}

same_born : (w w' : World) → IsSameRows w w' → KeepsBorn w w'
same_born w w' k q p _ _ = ap (λ rs. (get_or rs p no_row).born) (k.rows q)

part_born : (w w' : World) → Part IsGood w w' → IsLogged w → KeepsBorn w w'
part_born w w' (cast_part x m some lt e) l = λ q p ql pl.
    ap (λ a. (row_of a q p).born) e
    ∙ at_set (λ k z. (row_at z p).born ≡ (row_of w k p).born) w.members x q (published x m (member_at w x)) no_member lt
    (published_at (λ (r : Row). r.born ≡ (row_of w x p).born) w x p m (l.sized x some lt) (λ is. ap (λ k. (row_of w x k).born) (sym is)) (λ _. refl))
    (λ _. refl)
part_born w w' (put_part x o lt free e) l = λ q p ql pl. ap (λ a. (row_of a q p).born) e
part_born w w' (take_part y s some m lt g e) l = λ q p ql pl.
    ap (λ a. (row_of a q p).born) e
    ∙ at_set (λ k z. (row_at z p).born ≡ (row_of w k p).born) w.members y q (taker w y s) no_member m.is_member
    (taker_row (λ (r : Row). r.born ≡ (row_of w y p).born) w y s p (λ _. by_own p (is_owned (view_in w (member_at w y).version) y (link_at w s).sender p)) (λ ge. absurd (omega (arith, ge, pl))))
    (λ _. refl)
  where
    by_own : (p : ℕ) (own : Bool) → (taken_row own (log_of w p) (row_of w y p) (numbers_at (oldest (link_at w s)) p)).born ≡ (row_of w y p).born
    by_own p true = refl
    by_own p false = refl
part_born w w' (begin_part y s some m lt none e) l = λ q p ql pl.
    ap (λ a. (row_of a q p).born) e
    ∙ at_set (λ k z. (row_at z p).born ≡ (row_of w k p).born) w.members y q (begun (size w) (member_at w y) (oldest (link_at w s))) no_member m.is_member
    (begun_at (λ (r : Row). r.born ≡ (row_of w y p).born) w y s p (λ _. refl) (λ ge. absurd (omega (arith, ge, pl))))
    (λ _. refl)
part_born w w' (come_part m name e) l = λ q p ql pl.
    ap (λ a. (row_of a q p).born) e
    ∙ come_member w m name q (λ i a. i ≡ q → (row_at a p).born ≡ (row_of w q p).born) (λ is. absurd (omega (arith, is, ql))) (λ _. refl) refl
part_born w w' (gain_part o lt some e) l = λ q p ql pl. ap (λ a. (row_of a q p).born) e
part_born w w' (stop_part x lt e) l = λ q p ql pl. ap (λ a. (row_of a q p).born) e ∙ same_born w (stop_at w x) (member_same w x (stopped (member_at w x)) refl refl) q p ql pl
part_born w w' (open_part x z e) l = λ q p ql pl. ap (λ a. (row_of a q p).born) e ∙ same_born w (open_to w x z) (open_same w x z) q p ql pl
part_born w w' (still_part k) l = same_born w w' k.same

record IsBorn (w w' : World) : Type 0 where
  pub more : size w ≤ size w'
  pub born : KeepsBorn w w'
  pub logged : IsLogged w'

part_later : (w0 w w' : World) → Part IsGood w w' → IsBorn w0 w → IsBorn w0 w'
part_later w0 w w' k h = record {
  more = omega (arith, h.more, (part_rises w w' k h.logged).more);
  born = λ q p ql pl. part_born w w' k h.logged q p (omega (arith, ql, h.more)) (omega (arith, pl, h.more)) ∙ h.born q p ql pl;
  logged = part_logged IsGood w w' k h.logged;
}

-- from each state of a run to each later one
pub run_keeps_born : (credit : CreditSpec) (names : List (List ℕ)) (es later : List Act) → AreOpeningNames names → IsRun (opening credit names) es → IsRun (last (opening credit names) es) later → KeepsBorn (last (opening credit names) es) (last (last (opening credit names) es) later)
run_keeps_born credit names es later are r k =
    let w : World = last (opening credit names) es in
    (run_keeps (IsBorn w) (part_later w) w later (reached_good credit names es are r) k (record { more = omega arith; born = λ q p _ _. refl; logged = run_logged credit names es are r })).born
