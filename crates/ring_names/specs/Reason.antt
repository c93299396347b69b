-- The refusals and their numbers.
use Rattle.std.specs.Prelude.{ℕ}
use Rattle.ring_names.specs.declared.reason.Reason.{Reason}
use Rattle.ring_names.specs.declared.reason.Reason.TheVariants.{UnknownMember, AlreadyDead, NotDead, NameTaken, TooManyMembers, AlreadySynced, Stopped, Waiting, ViewTooOld, NoCredit, NothingNew, NothingToTake, NoLinkAtDoor, AwaitingAnswer, NotStopped, NotNeighbour, LinkNotEnded, NotOwner, NotRetired, ViewOutOfRange, NotMaster, NoMaster, QueueEmpty, UnknownPosition, NotDelivered, AlreadySyncing, NotStarted, StillMissing, NoSyncLink, MarkNotSeen, LinkFull, NoGrant, NoOutLink, NoCurrentLink, EndNext, AlreadyStarted, PacketNext, HasCurrentLink, NotRefused}

-- the number of a refusal
abbrev pub code_of : Reason → ℕ
code_of UnknownMember = 6
code_of AlreadyDead = 7
code_of NotDead = 8
code_of NameTaken = 9
code_of TooManyMembers = 10
code_of AlreadySynced = 11
code_of Stopped = 12
code_of Waiting = 13
code_of (ViewTooOld a b) = 14
code_of NoCredit = 15
code_of NothingNew = 16
code_of NothingToTake = 17
code_of NoLinkAtDoor = 18
code_of AwaitingAnswer = 19
code_of NotStopped = 20
code_of NotNeighbour = 21
code_of LinkNotEnded = 22
code_of NotOwner = 23
code_of (NotRetired a b) = 24
code_of (ViewOutOfRange a b c) = 25
code_of NotMaster = 26
code_of NoMaster = 27
code_of QueueEmpty = 28
code_of UnknownPosition = 29
code_of NotDelivered = 30
code_of AlreadySyncing = 31
code_of NotStarted = 32
code_of (StillMissing a) = 33
code_of NoSyncLink = 34
code_of MarkNotSeen = 35
code_of LinkFull = 36
code_of NoGrant = 37
code_of NoOutLink = 38
code_of NoCurrentLink = 39
code_of EndNext = 40
code_of AlreadyStarted = 41
code_of PacketNext = 42
code_of HasCurrentLink = 43
code_of NotRefused = 44
