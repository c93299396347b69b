use Rattle.std.proofs.Common.{◌≡◌, ◌++◌, take}
use Rattle.queue_laws.specs.Part.{ops}
use Rattle.ring_world.proofs.operations.push_operations.Given as goal

abbrev pub invariant-loop-message : goal.invariant-loop-message
invariant-loop-message l = l.all.items ≡ l.initial.all.items ++ ops (take l.message-index l.messages)
