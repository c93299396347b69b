use Rattle.std.proofs.Common.{◌<◌, subst, sym, arith}
use Rattle.std.proofs.lemmas.List.{length-map}
use Rattle.ring_rules.specs.Step.{size}
use Rattle.ring_world.specs.Reached.{state_of}
use Rattle.ring_world.specs.Shows.{member_of}
use Rattle.ring_world.proofs.code.Running.{running_placed}
use Rattle.ring_world.proofs.world.World.heard_by.Goals as goal

pub heard_at-requires-clause-placed : goal.heard_at-requires-clause-placed
heard_at-requires-clause-placed c =
    let a = c.self.inside in
    let there : c.args.by.0 < size (state_of a) = subst (λ seen. c.args.by.0 < size seen.ring) (sym c.self.view_is) c.requires.by_there in
    record {
      placed = running_placed a c.self.invariant;
      place = omega (arith, there, c.requires.by_some, length-map a.ring.members.items member_of);
    }
