use Rattle.std.proofs.Common.{◌≡◌, length}
use Rattle.gm_member.specs.Shown.{ends_of}
use Rattle.ring_parties.specs.Parties.{shown_of}
use Rattle.ring_parties.proofs.node.drop_old_ins.Given as goal

abbrev pub invariant-loop-left : goal.invariant-loop-left
invariant-loop-left l = record {
  held : (shown_of l.node).held ≡ (shown_of l.initial.node).held;
  ends : (shown_of l.node).ends ≡ record (shown_of l.initial.node).ends { old_ins = (shown_of l.node).ends.old_ins };
}

abbrev pub decreases-loop-left : goal.decreases-loop-left
decreases-loop-left l = length (ends_of l.node).old_ins
