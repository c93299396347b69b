use Rattle.std.proofs.Common.{◌≡◌, length, map, subst, arith}
use Rattle.std.proofs.lemmas.List.{length-map}
use Rattle.ring_rules.specs.Step.{opening}
use Rattle.ring_rules.specs.QueueLaws.{QueueIsRight}
use Rattle.ring_copies.specs.Events.{sort_of}
use Rattle.ring_copies.specs.Runs.{last, without_copies}
use Rattle.ring_copies.proofs.Runs.{queue_right_with_copies}
use Rattle.ring_copies.proofs.laws.every_queue_is_right_with_copies.Goals as goal

pub returns : goal.returns
returns c = λ credit names events are few run. let many : length (map sort_of events) ≡ length events = length-map events sort_of in subst (λ n. QueueIsRight n (last (without_copies (opening credit names)) events).ring) many (queue_right_with_copies credit names are (map sort_of events) (omega (arith, many, few)) run)
