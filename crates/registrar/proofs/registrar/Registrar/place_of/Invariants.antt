use Rattle.std.proofs.Common.{◌≡◌, ℕ, ◌<◌, Some}
use Rattle.registrar.specs.Registry.{name_in}
use Rattle.registrar.proofs.registrar.Registrar.place_of.Given as goal

abbrev pub invariant-loop-place : goal.invariant-loop-place
invariant-loop-place g l = (k : ℕ) → k < l.place → name_in l.self k ≡ Some l.name → ⊥
