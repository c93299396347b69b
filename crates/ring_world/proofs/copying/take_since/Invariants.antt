use Rattle.std.proofs.Common.{◌≡◌, ◌++◌, take}
use Rattle.queue_laws.specs.Part.{ops}
use Rattle.ring_world.proofs.copying.take_since.Given as goal

abbrev pub invariant-loop-message : goal.invariant-loop-message
invariant-loop-message l = l.taken ≡ record l.initial.taken { since = l.initial.taken.since ++ ops (take l.message-index l.messages) }
