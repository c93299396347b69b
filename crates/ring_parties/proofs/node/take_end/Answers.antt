use Rattle.std.proofs.Common.{rules}
use Rattle.ring_parties.proofs.standing.Takes.{end_refusal, not_done}
use Rattle.ring_parties.proofs.node.take_end.Goals as goal

pub returns-in_err-take_end : goal.returns-in_err-take_end
returns-in_err-take_end c = not_done _ _ _ _ c.in_err-take_end.field-0.0 c.from_residual.result c.from_residual.ensures.1
    (λ r x. end_refusal c.args.node.now c.take_end.new.self c.in_err-take_end.field-0.0 r x c.requires.ready c.requires.alone.alone c.in_err-take_end.ensures.takes.looks c.in_err-take_end.ensures.takes.fault) (search rules)
