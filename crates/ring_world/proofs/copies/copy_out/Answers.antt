use Rattle.std.proofs.Common.{◌≡◌, ◌∙◌}
use Rattle.ring_world.proofs.code.OfCopies.{out_found}
use Rattle.ring_world.proofs.copies.copy_out.Goals as goal

pub returns-clause-found : goal.returns-clause-found
returns-clause-found c = c.first_put_by.ensures ∙ out_found c.args.id c.args.copies.now
