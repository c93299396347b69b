use Rattle.std.proofs.Common.{suc, arith}
use Rattle.std.proofs.lemmas.Bool.{false≢true}
use Rattle.std.proofs.lemmas.Grind.{common_steps}
use Rattle.ring_world.proofs.quiet.all_rest.Goals as goal

pub returns-then-not-is_resting : goal.returns-then-not-is_resting
returns-then-not-is_resting c = (λ f. absurd (false≢true f), λ h. grind (arith, common_steps, c.is_resting.ensures, h (suc c.loop-place.place)))
