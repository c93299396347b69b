use Rattle.queue_core.specs.Shown.{item_of}
use Rattle.queue_sync.proofs.Aside.{some_stands, none_stands}
use Rattle.queue_sync.proofs.receiver.is_behind_all.Goals as goal

pub returns-in-Some : goal.returns-in-Some
returns-in-Some c = some_stands c.args.at.0 c.args.aside.now.queue.items (item_of c.in-Some.field-0) c.in-Some.ensures

pub returns-in-None : goal.returns-in-None
returns-in-None c = none_stands c.args.at.0 c.args.aside.now.queue.items c.in-None.ensures
