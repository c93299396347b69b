-- Runs of a ring with copies of its queue.
use Rattle.std.specs.Prelude.{◌≡◌, ◌≢◌, Bool, true, List, map, Option, None}
use Rattle.ring_names.specs.declared.reason.Reason.{Reason}
use Rattle.ring_rules.specs.declared.event.Event.{Event}
use Rattle.ring_copies.specs.Copies.{CopyWorld}
use Rattle.ring_copies.specs.Events.{sort_of}
pub use Rattle.ring_copies.specs.Events.{without_copies}
use Rattle.ring_copies.specs.Events as sorted
use Rattle.ring_copies.specs.Work as work

-- the first failing condition of an event, if one fails
abbrev pub refusal : CopyWorld → Event → Option Reason
refusal W e = sorted.refusal W (sort_of e)

-- the state after an event
abbrev pub effect : CopyWorld → Event → CopyWorld
effect W e = sorted.effect W (sort_of e)

-- each event is enabled where the earlier ones leave the ring and its copies
abbrev pub IsRun : CopyWorld → List Event → Type 0
IsRun W events = sorted.IsRun W (map sort_of events)

-- the state after all of them
abbrev pub last : CopyWorld → List Event → CopyWorld
last W events = sorted.last W (map sort_of events)

-- whether an event is one of repair
abbrev pub is_repair : CopyWorld → Event → Bool
is_repair W e = work.is_repair_with_copies W (sort_of e)

-- each of these follows on the earlier ones, and may happen
abbrev pub AreRepairs : CopyWorld → List Event → Type 0
AreRepairs W events = work.AreRepairsWithCopies W (map sort_of events)

-- no event of repair is enabled
abbrev pub NothingLeft : CopyWorld → Type 0
NothingLeft W = (e : Event) → is_repair W e ≡ true → refusal W e ≢ None
