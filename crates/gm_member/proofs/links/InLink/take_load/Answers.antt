use Rattle.std.proofs.Common.{refl, subst}
use Rattle.ordered_link.specs.declared.item.Item.{Item}
use Rattle.activity.specs.declared.packet.Load.{Load}
use Rattle.gm_member.proofs.links.InLink.take_load.Goals as goal

pub returns-clause-ok : goal.returns-clause-ok
returns-clause-ok g c = (
  c.in-Some.end,
  c.peek.follows.lender-at-none,
  c.take.new.self,
  c.in-Some.is,
  c.peek.follows.holds-at-none.0,
  subst (λ (x : Item Load). g.I.LinkIn.takes c.peek.follows.lender-at-none x c.take.new.self) c.in-Some-Load.field-0-is c.in-Some-Load.ensures.some.0,
  c.in-Some-Load.ensures.some.1,
  refl,
)
