use Rattle.std.proofs.Common.{rules, append_assoc}
use Rattle.ring_report.proofs.members.push_count.Goals as goal

pub returns : goal.returns
returns c = simp append_assoc (search rules)
