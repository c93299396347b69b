use Rattle.std.proofs.Common.{◌≡◌, ◌++◌, take}
use Rattle.std.specs.List.{flat_map}
use Rattle.ring_report.specs.Report.{heard_line}
use Rattle.ring_report.proofs.members.push_messages.Given as goal

abbrev pub invariant-loop-message : goal.invariant-loop-message
invariant-loop-message l = l.out.items ≡ l.initial.out.items ++ flat_map (heard_line l.origin) (take l.message-index l.messages)
