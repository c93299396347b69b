-- What is asked of a state, whatever ring it is of.
use Rattle.std.specs.Prelude.{ℕ, ◌+◌, Bool, true, false, List, take, count_by}
use Rattle.queue_core.specs.declared.message.Message.{Message}
use Rattle.queue_core.specs.declared.message.Message.TheVariants.{Cast, Queue}
use Rattle.queue_core.specs.declared.op.Op.{Op}
use Rattle.queue_core.specs.declared.op.Op.TheVariants.{Publish}
use Rattle.ring_names.specs.declared.numbers.MemberId.{MemberId}
use Rattle.ring_rules.specs.declared.shown.Counts.{Counts}

-- ids go from 1
abbrev pub id_of : ℕ → MemberId
id_of i = record { 0 = i + 1 }

-- whether a message is a client's own multicast
abbrev pub is_cast : Message → Bool
is_cast (Cast body) = true
is_cast (Queue o) = false

-- whether an operation publishes a message
abbrev pub is_publishing : Op → Bool
is_publishing (Publish at body) = true
is_publishing o = false

-- whether a message is a publish of the queue
abbrev pub is_publish : Message → Bool
is_publish (Cast body) = false
is_publish (Queue o) = is_publishing o

-- how many casts and publishes stand in a log, and how many of them are confirmed, as so many messages have come round
abbrev pub counts_in : ℕ → List Message → Counts
counts_in forgot log = record {
  casts = count_by is_cast log;
  casts_confirmed = count_by is_cast (take forgot log);
  publishes = count_by is_publish log;
  publishes_confirmed = count_by is_publish (take forgot log);
}
