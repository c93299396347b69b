use Rattle.std.proofs.Common.{◌≡◌, ℕ, ◌<◌, Some}
use Rattle.gm_member.specs.Shown.{held_of, in_name_of}
use Rattle.gm_member.proofs.member.Member.place_of.Given as goal

abbrev pub invariant-loop-place : goal.invariant-loop-place
invariant-loop-place g l = (k : ℕ) → k < l.place → in_name_of (held_of l.self) k ≡ Some l.name → ⊥
