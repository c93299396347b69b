use Rattle.std.proofs.Common.{◌≡◌, ◌<◌, ℕ, Bool, true, false, cond, List, [], ◌∷◌, Some, refl, ap, subst, arith}
use Rattle.std.specs.Prelude.{slice_get}
use Rattle.std.specs.Bool.{OnTrue}
use Rattle.std.specs.List.{sum_by}
use Rattle.std.proofs.lemmas.List.Sums.{sum_by-cons}
use Rattle.group_view.specs.declared.entry.Entry.{Entry}
use Rattle.group_view.specs.Kept.{changes_of}
use Rattle.group_view.proofs.tests.begins_synced.Goals as goal

-- a synchronised entry stands for two changes at least
two_changes : (e : Entry) (es : List Entry) → Some e ≡ slice_get es 0 → OnTrue e.synced (1 < sum_by changes_of es)
two_changes e [] h = cc
two_changes e (x ∷ es) h = by_synced e.synced refl
  where
    synced_changes : Bool → ℕ
    synced_changes b = cond b 1 0

    by_synced : (b : Bool) → e.synced ≡ b → OnTrue b (1 < sum_by changes_of (x ∷ es))
    by_synced false s = tt
    by_synced true s =
        let is : e ≡ x = cc in
        let one : synced_changes x.synced ≡ synced_changes true = ap synced_changes (subst (λ (y : Entry). y.synced ≡ true) is s) in
        omega (arith, one, sum_by-cons changes_of x es)

pub returns-in-Some : goal.returns-in-Some
returns-in-Some c = two_changes c.in-Some.first.now c.args.entries.now c.in-Some.ensures.value
