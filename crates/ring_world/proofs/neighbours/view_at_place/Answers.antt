use Rattle.std.proofs.Common.{◌≤◌, length, sym, subst}
use Rattle.ring_world.proofs.code.Found.{version_some, version_within}
use Rattle.ring_world.proofs.neighbours.view_at_place.Goals as goal

pub view_of-requires-clause-some : goal.view_of-requires-clause-some
view_of-requires-clause-some c = version_some c.args.ring.now c.args.place c.index.result.now c.requires.placed c.requires.place c.index.ensures c.requires.up

pub view_of-requires-clause-within : goal.view_of-requires-clause-within
view_of-requires-clause-within c =
    subst (λ vs. c.index.result.now.version ≤ length vs) (sym c.deref.ensures.value) (version_within c.args.ring.now c.args.place c.index.result.now c.requires.placed c.requires.place c.index.ensures)
