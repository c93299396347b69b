use Rattle.ordered_link.proofs.Rings.{loads_put, ended_put}
use Rattle.ordered_link.proofs.laws.every_ring_link_ends_once.Goals as goal

pub returns-clause-loads : goal.returns-clause-loads
returns-clause-loads T c out is = loads_put out is

pub returns-clause-ended : goal.returns-clause-ended
returns-clause-ended T c out is = ended_put out is
