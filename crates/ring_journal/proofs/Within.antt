-- The numbers of a run are within the limits of a journal.
use Rattle.std.proofs.Common.{List, get_or, arith}
use Rattle.std.specs.Prelude.{All}
use Rattle.ring_rules.specs.declared.event.Client.{Client}
use Rattle.ring_rules.specs.declared.event.Client.TheVariants as client
use Rattle.ring_rules.specs.declared.event.Event.{Event}
use Rattle.ring_rules.specs.declared.event.Event.TheVariants as event
use Rattle.ring_rules.specs.Bounded.{IsBounded}
use Rattle.ring_script.specs.Vocabulary.{asked_phrase, IsFitPosition, HasNameablePositions}
use Rattle.ring_journal.specs.Written.{IsFitNumber, IsWithin}

-- the versions and the numbers of refusals of a run are small, so its positions alone matter
asked_within : (c : Client) → IsFitPosition (asked_phrase c).further → IsFitNumber (asked_phrase c).further
asked_within (client.Ack by at) h = h
asked_within (client.Requeue by at) h = h
asked_within c h = tt

event_within : (e : Event) → HasNameablePositions e → IsBounded e → IsWithin e
event_within (event.Ack by at) h b = (tt, h)
event_within (event.Requeue by at) h b = (tt, h)
event_within (event.Refresh by version) h b = (tt, (b.0, omega (arith, b.1)))
event_within (event.Refuse code inner) h b = ((omega (arith, b.0), omega (arith, b.1)), asked_within inner h)
event_within e h b = (tt, tt)

pub all_within : (es : List Event) → All HasNameablePositions es → All IsBounded es → All IsWithin es
all_within es h b = λ k d l. event_within (get_or es k d) (h k d l) (b k d l)
