use Rattle.std.proofs.Common.{rules, append_assoc}
use Rattle.ringplay.proofs.cause.numbered.Goals as goal

pub returns : goal.returns
returns c = simp append_assoc (search rules)
