use Rattle.std.proofs.Common.{bytes_eq}
use Rattle.ring_world.specs.Shows.{member_of}
use Rattle.ring_world.proofs.code.ShownParts.{position_map}
use Rattle.ring_world.proofs.places.place_of.Goals as goal

pub returns-clause-place : goal.returns-clause-place
returns-clause-place c = rw (position_map (λ m. bytes_eq m.name c.args.name.now) member_of c.args.members.now) c.first_named.ensures.place
