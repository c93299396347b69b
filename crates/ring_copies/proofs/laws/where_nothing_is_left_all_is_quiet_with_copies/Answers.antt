use Rattle.std.proofs.Common.{◌≡◌, length, map, arith}
use Rattle.std.proofs.lemmas.List.{length-map}
use Rattle.ring_rules.specs.Step.{opening}
use Rattle.ring_copies.specs.Events.{sort_of}
use Rattle.ring_copies.specs.Runs.{last, without_copies}
use Rattle.ring_copies.proofs.Alone.{nothing_left}
use Rattle.ring_copies.proofs.Quiet.{quiet_reached}
use Rattle.ring_copies.proofs.laws.where_nothing_is_left_all_is_quiet_with_copies.Goals as goal

pub returns : goal.returns
returns c = λ credit names events are few run none. let many : length (map sort_of events) ≡ length events = length-map events sort_of in quiet_reached credit names are (map sort_of events) (omega (arith, many, few)) run (nothing_left (last (without_copies (opening credit names)) events) none)
