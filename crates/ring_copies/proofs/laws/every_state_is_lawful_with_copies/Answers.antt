use Rattle.std.proofs.Common.{map}
use Rattle.ring_copies.specs.Events.{sort_of}
use Rattle.ring_copies.proofs.Runs.{lawful_with_copies}
use Rattle.ring_copies.proofs.laws.every_state_is_lawful_with_copies.Goals as goal

pub returns : goal.returns
returns c = λ credit names events are run. lawful_with_copies credit names are (map sort_of events) run
