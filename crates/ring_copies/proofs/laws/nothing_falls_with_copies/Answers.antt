use Rattle.std.proofs.Common.{map}
use Rattle.ring_copies.specs.Events.{sort_of}
use Rattle.ring_copies.proofs.Runs.{goes_on_with_copies}
use Rattle.ring_copies.proofs.laws.nothing_falls_with_copies.Goals as goal

pub returns : goal.returns
returns c = λ credit names earlier later are run more. goes_on_with_copies credit names are (map sort_of earlier) (map sort_of later) run more
