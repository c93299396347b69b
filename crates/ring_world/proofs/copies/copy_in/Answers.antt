use Rattle.std.proofs.Common.{◌≡◌, ◌∙◌}
use Rattle.ring_world.proofs.code.OfCopies.{in_found}
use Rattle.ring_world.proofs.copies.copy_in.Goals as goal

pub returns-clause-found : goal.returns-clause-found
returns-clause-found c = c.first_taken_by.ensures ∙ in_found c.args.id c.args.copies.now
