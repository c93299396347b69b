use Rattle.ordered_link.proofs.Rings.{fresh_ring_keeps}
use Rattle.ordered_link.proofs.laws.every_ring_link_keeps_its_order.Goals as goal

pub returns : goal.returns
returns T c n out out' link link' steps = fresh_ring_keeps n out out' link link' steps
