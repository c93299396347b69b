use Rattle.std.proofs.Common.{◌∙◌, ap, drop}
use Rattle.group_view.specs.Parts.{place_of}
use Rattle.group_view.proofs.Cuts.{drop_one}
use Rattle.group_view.proofs.ring.others.Goals as goal

pub returns-clause-after : goal.returns-clause-after
returns-clause-after c = c.split_at.ensures.back ∙ ap (drop 1) c.cut_at.ensures.from ∙ drop_one (place_of c.args.entries.now c.args.id.0) c.args.entries.now
