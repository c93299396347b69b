use Rattle.std.proofs.Common.{◌∙◌, ap, map}
use Rattle.group_view.specs.declared.entry.Mark.TheVariants.{Dead}
use Rattle.group_view.specs.Change.{with_mark}
use Rattle.group_view.proofs.Lists.{map_agree}
use Rattle.group_view.proofs.Marks.{mark-dated, dated_by_mark}
use Rattle.group_view.proofs.ring.mark_dead.Goals as goal

pub returns : goal.returns
returns c =
    c.set_mark.ensures
    ∙ ap (map (with_mark Dead c.args.dead.0)) (c.date_right_of.ensures ∙ map_agree _ _ (λ e. dated_by_mark c.args.version c.args.dead.0 c.args.entries.now e c.requires) c.args.entries.now)
    ∙ mark-dated Dead c.args.dead.0 c.args.version c.args.entries.now (map (with_mark Dead c.args.dead.0) c.args.entries.now) c.args.entries.now
