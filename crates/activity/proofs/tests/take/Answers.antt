use Rattle.std.proofs.Common.{sym, ◌∙◌}
use Rattle.activity.specs.Plan.{owns}
use Rattle.activity.proofs.Lines.{changes_kept}
use Rattle.activity.proofs.tests.take.Goals as goal

pub apply-requires-clause-planned : goal.apply-requires-clause-planned
apply-requires-clause-planned c = (
  owns c.args.view.now 2 1,
  c.deref-2.ensures.value ∙ c.in_ok-changes.ensures ∙ sym (changes_kept (owns c.args.view.now 2 1) c.args.tables.now c.make_room.new.self c.args.packet.lines c.in_ok-make_room.ensures.kept),
)
