use Rattle.std.proofs.Common.{◌↔◌, IsTrue, subst}
use Rattle.ring_rules.specs.Quiet.{IsQuiet}
use Rattle.ring_world.proofs.code.Running.{running_placed}
use Rattle.ring_world.proofs.world.World.quiet.Goals as goal

pub is_quiet-requires : goal.is_quiet-requires
is_quiet-requires c = running_placed c.self.inside c.self.invariant

pub returns : goal.returns
returns c = subst (λ seen. IsTrue c.is_quiet.result ↔ IsQuiet seen.ring) c.self.view_is c.is_quiet.ensures
