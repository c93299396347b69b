use Rattle.std.proofs.Common.{sym, ◌∙◌}
use Rattle.activity.specs.Plan.{owns}
use Rattle.gm_member.proofs.Accepting.{changes_kept}
use Rattle.gm_member.proofs.news.arrivals.Goals as goal

pub returns-clause-plan : goal.returns-clause-plan
returns-clause-plan c =
    c.in_ok-changes.ensures
    ∙ sym (changes_kept (owns c.args.view.now c.args.id.0 c.args.from.0) c.args.tables.now c.make_room.new.self c.in_ok-make_room.ensures.kept (c.args.packet.now).lines)
