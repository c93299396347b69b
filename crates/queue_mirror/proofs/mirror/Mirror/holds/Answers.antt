use Rattle.std.proofs.Common.{ap, sym, ◌∙◌}
use Rattle.std.specs.List.{list_any}
use Rattle.queue_core.specs.Queue.{is_at}
use Rattle.queue_mirror.specs.Seen.{MirrorSeen}
use Rattle.queue_mirror.proofs.Held.{delivered_held}
use Rattle.queue_mirror.proofs.mirror.Mirror.holds.Goals as goal

pub returns-in_default-2 : goal.returns-in_default-2
returns-in_default-2 c =
    delivered_held c.args.at.0 c.self.inside.queue.queue.items (sym c.in_default.is ∙ c.delivered.ensures)
    ∙ ap (λ (m : MirrorSeen). list_any (is_at c.args.at.0) m.mirror.queue.items) c.self.view_is
