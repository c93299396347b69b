use Rattle.std.proofs.Common.{◌+◌, ap, ◌∙◌, map}
use Rattle.activity.specs.Packets.{line_of}
use Rattle.gm_member.specs.Packets.{places}
use Rattle.gm_member.proofs.Putting.{lines_are, both_ok}
use Rattle.gm_member.proofs.links.OutLink.packet.Goals as goal

pub returns-clause-said : goal.returns-clause-said
returns-clause-said g c =
    let l = c.args.self.now in
    both_ok c.diff.result
    (λ k is lines.
    ap (λ x. record { view = x.view; first = x.first; lines = map (λ p. line_of k.lines (p + 1)) places }) is
    ∙ ap (λ ls. record { view = c.args.version; first = l.fresh; lines = ls }) (lines_are l.fresh c.args.tables.now l.sent k.lines lines))
    c.diff.ensures.packet c.diff.ensures.lines
