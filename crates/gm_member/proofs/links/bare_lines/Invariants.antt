use Rattle.std.proofs.Common.{◌≡◌, map, take}
use Rattle.gm_member.specs.Packets.{emptied}
use Rattle.gm_member.proofs.links.bare_lines.Given as goal

abbrev pub invariant-loop-line : goal.invariant-loop-line
invariant-loop-line l = l.bare.items ≡ map emptied (take l.line-index l.fn.lines)
