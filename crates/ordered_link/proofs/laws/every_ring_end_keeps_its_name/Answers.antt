use Rattle.ordered_link.proofs.Rings.{run_named, ends_named, named_ends}
use Rattle.ordered_link.proofs.laws.every_ring_end_keeps_its_name.Goals as goal

pub returns-clause-kept : goal.returns-clause-kept
returns-clause-kept T c out out' link link' steps are = run_named steps out out' link link' are

pub returns-clause-one : goal.returns-clause-one
returns-clause-one T c out link ends = ends_named out link ends

pub returns-clause-ends : goal.returns-clause-ends
returns-clause-ends T c out link name size slots = named_ends out link name size slots
