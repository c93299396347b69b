use Rattle.std.proofs.Common.{◌≡◌, map, sym, ap, subst, ◌∙◌}
use Rattle.group_view.specs.Ring.{AreDistinct}
use Rattle.activity.specs.Packets.{origins}
use Rattle.gm_member.specs.Packets.{emptied}
use Rattle.gm_member.proofs.Noting.{origins_emptied}
use Rattle.gm_member.proofs.links.numbers_of.Goals as goal

pub invariant_of-result : goal.invariant_of-result
invariant_of-result c =
    let bare : origins c.from_vec.result ≡ origins c.args.packet.now.lines = ap origins (c.from_vec.ensures ∙ c.in_ok-lines.ensures ∙ ap (map emptied) c.lines.ensures.lines) ∙ origins_emptied c.args.packet.now.lines in
    subst AreDistinct (sym bare) c.lines.ensures.distinct
