-- A round in which nobody has done anything.
use Rattle.std.proofs.Common.{◌≡◌, ℕ, zero, suc, List, [], ◌∷◌, length, refl, sym, subst, arith}
use Rattle.std.specs.Prelude.{slice_index_or}
use Rattle.std.specs.List.{All}
use Rattle.ring_rules.specs.declared.event.Client.{Client}
use Rattle.ring_parties.specs.Turns.{HasTaken, HaveTaken, tasks_at}

none_at : (done : List ℕ) (i : ℕ) → All (λ n. n ≡ 0) done → slice_index_or done i 0 ≡ 0
none_at [] i h = refl
none_at (d ∷ ds) zero h = h 0 0 (omega arith)
none_at (d ∷ ds) (suc i) h = none_at ds i (λ k e l. h (suc k) e (omega (arith, l)))

none_done : (turns : ℕ) (tasks : List Client) → HasTaken turns tasks 0 []
none_done turns tasks = record {
  few = omega arith;
  within = omega arith;
  answers = refl;
  each = λ k d l. absurd (omega (arith, l));
  begins = λ _. tt;
}

pub nothing_taken : (turns : ℕ) (names : List (List ℕ)) (tasks : List (List Client)) (done : List ℕ) → length done ≡ length names → All (λ n. n ≡ 0) done
    → HaveTaken turns names tasks done []
nothing_taken turns names tasks done count none = record {
  count = count;
  each = λ i l. subst (λ d. HasTaken turns (tasks_at tasks i) d []) (sym (none_at done i none)) (none_done turns (tasks_at tasks i));
  nobody_else = λ name others. refl;
}
