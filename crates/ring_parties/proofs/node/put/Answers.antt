use Rattle.std.proofs.Common.{rules}
use Rattle.ring_parties.proofs.standing.Shown.{puts_shown, put_fault}
use Rattle.ring_parties.proofs.standing.Takes.{not_done}
use Rattle.ring_parties.proofs.node.put.Goals as goal

pub returns : goal.returns
returns c = record {
  judged = search rules;
  ok = puts_shown c.args.node.now c.put.new.self _ c.in_ok-put.ensures.puts.packet c.in_ok-put.ensures.puts.ok;
  err = search rules;
}

pub returns-in_err-put : goal.returns-in_err-put
returns-in_err-put c = not_done _ _ _ _ c.in_err-put.field-0.0 c.from_residual.result c.from_residual.ensures.1
    (λ r x. put_fault c.args.node.now c.put.new.self c.in_err-put.field-0.0 r x c.requires.ready c.in_err-put.ensures.puts.looks c.in_err-put.ensures.puts.fault) (search rules)
