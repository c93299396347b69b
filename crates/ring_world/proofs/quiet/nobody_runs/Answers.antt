use Rattle.std.proofs.Common.{suc, arith}
use Rattle.std.proofs.lemmas.Bool.{false≢true}
use Rattle.std.proofs.lemmas.Grind.{common_steps}
use Rattle.ring_world.proofs.code.ShownParts.{read_member}
use Rattle.ring_world.proofs.quiet.nobody_runs.Goals as goal

pub returns-then-is_running : goal.returns-then-is_running
returns-then-is_running c = (λ f. absurd (false≢true f), λ h. grind (arith, common_steps, read_member, h (suc c.loop-place.place)))
