use Rattle.ring_script.specs.Load.{asked_in, settled_at, turned_at}
use Rattle.ring_script.proofs.LoadLines.{with_last}
use Rattle.ring_script.proofs.load.push_block.Goals as goal

pub returns-clause-block : goal.returns-clause-block
returns-clause-block c =
    with_last c.push_turned.result c.args.lines.now.items c.push_asked.new.lines.items c.push_settled.new.lines.items c.push_turned.new.lines.items
    (asked_in c.args.blocks c.args.seed c.args.block) (settled_at c.args.block) (turned_at c.args.blocks c.args.block)
    c.in_ok-push_asked.ensures.asked c.in_ok-push_settled.ensures.settled c.push_turned.ensures.turned
