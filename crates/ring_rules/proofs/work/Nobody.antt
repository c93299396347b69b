-- Nobody stands at id 0: no entry of the newest view has it, so nobody runs there.
use Rattle.std.proofs.Common.{◌≡◌, ℕ, zero, suc, ◌<◌, ◌≤◌, Bool, true, false, nat_eq, List, length, refl, sym, ap, ◌∙◌, arith}
use Rattle.std.proofs.lemmas.Bool.{false≢true}
use Rattle.std.proofs.lemmas.Bool.Decides.{nat_tests}
use Rattle.std.specs.List.{range_with_len}
use Rattle.ring_names.specs.declared.numbers.CreditSpec.{CreditSpec}
use Rattle.group_view.specs.Ring.{is_in}
use Rattle.group_view.specs.declared.entry.Mark.TheVariants.{Dead, Erased}
use Rattle.group_view.specs.View.{Group, ids}
use Rattle.group_view.specs.Change.{AreOpeningNames}
use Rattle.group_view.proofs.Groups.{ids-remarked_group}
use Rattle.group_view.proofs.Syncing.{same_ring_registered}
use Rattle.group_view.proofs.Joining.{ids-admitted, not_in_after_other}
use Rattle.ring_rules.proofs.invariants.Newest.{NewestAfter, newest_stays, newest_marked, newest_erased, newest_synced, newest_admitted, newest_after}
use Rattle.ring_rules.specs.Machine.{World, view_in, newest, ring}
use Rattle.ring_rules.specs.Step.{size, opening}
use Rattle.ring_rules.specs.Act.{Act, IsRun, last}
use Rattle.ring_rules.proofs.invariants.Opening.{opening_ids, range_in}
use Rattle.ring_rules.proofs.invariants.Happens.{IsGood, opening_good, newest_is, ring_below}
use Rattle.ring_rules.proofs.invariants.Moves.{Move, run_moves}

-- no entry of the newest view has the id 0
abbrev pub NobodyAtZero : World → Type 0
NobodyAtZero w = is_in 0 (ring w) ≡ false

zero_not : (n : ℕ) → 1 ≤ n → nat_eq 0 n ≡ false
zero_not n l = grind (arith, nat_tests)

move_nobody : (w w' : World) → IsGood w → Move IsGood w w' → NobodyAtZero w → NobodyAtZero w'
move_nobody w w' g k h = by_newest (newest_after IsGood w w' g k)
  where
    v : Group
    v = view_in w (newest w)

    by_newest : NewestAfter w w' → NobodyAtZero w'
    by_newest (newest_stays sizes is) = ap (λ (a : Group). is_in 0 (ids a.entries)) is ∙ h
    by_newest (newest_marked d live sizes is) = ap (λ (a : Group). is_in 0 (ids a.entries)) is ∙ ap (is_in 0) (ids-remarked_group Dead v d) ∙ h
    by_newest (newest_erased x d m sizes is) = ap (λ (a : Group). is_in 0 (ids a.entries)) is ∙ ap (is_in 0) (ids-remarked_group Erased v d) ∙ h
    by_newest (newest_synced x m sizes is) = ap (λ (a : Group). is_in 0 (ids a.entries)) is ∙ ap (is_in 0) (same_ring_registered v x).same_ids ∙ h
    by_newest (newest_admitted m name j sizes is) =
        ap (λ (a : Group). is_in 0 (ids a.entries)) is ∙ ap (is_in 0) (ids-admitted v m name j.may)
        ∙ not_in_after_other m v.next_id 0 (ids v.entries) (zero_not v.next_id (omega (arith, (newest_is w g.views).numbered))) h

opening_nobody : (credit : CreditSpec) (names : List (List ℕ)) → NobodyAtZero (opening credit names)
opening_nobody credit names = ap (is_in 0) (opening_ids 1 names) ∙ none (is_in 0 (range_with_len 1 (length names))) refl
  where
    none : (b : Bool) → is_in 0 (range_with_len 1 (length names)) ≡ b → b ≡ false
    none false e = refl
    none true e = absurd (let k = (range_in 1 (length names) 0 e).0 in omega (arith, k))

-- ---- who stands in the newest view

-- nobody at 0 is there
some_in : (w : World) → NobodyAtZero w → (k : ℕ) → is_in k (ring w) ≡ true → 1 ≤ k
some_in w none zero e = absurd (false≢true (sym none ∙ e))
some_in w none (suc k) e = omega arith

-- so it is one of the members
pub ring_members : (w : World) → IsGood w → NobodyAtZero w → (q : ℕ) → is_in q (ring w) ≡ true → (1 ≤ q) × (q < size w)
ring_members w g none q i = (some_in w none q i, ring_below w g q i)

-- in every state of every run
pub reached_nobody : (credit : CreditSpec) (names : List (List ℕ)) (es : List Act) → AreOpeningNames names → IsRun (opening credit names) es → NobodyAtZero (last (opening credit names) es)
reached_nobody credit names es are r = run_moves NobodyAtZero move_nobody (opening credit names) es (opening_good credit names are) r (opening_nobody credit names)
