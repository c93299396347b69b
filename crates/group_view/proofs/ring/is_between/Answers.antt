use Rattle.std.proofs.Common.{◌∙◌, ap, false}
use Rattle.std.specs.Prelude.{unwrap_or}
use Rattle.std.specs.Option.{option_or}
use Rattle.group_view.specs.Ring.{before, after}
use Rattle.group_view.specs.View.{ids}
use Rattle.group_view.specs.Parts.{comes_before}
use Rattle.group_view.proofs.Cuts.{comes_in, ids-take, ids-drop_more}
use Rattle.group_view.proofs.ring.is_between.Goals as goal

pub returns : goal.returns
returns c =
    c.unwrap_or.ensures
    ∙ ap (λ o. unwrap_or o false) c.or.ensures
    ∙ ap (λ o. unwrap_or (option_or o c.comes_first-2.result) false) (c.comes_first.ensures ∙ ap (λ es. comes_before c.args.x.0 c.args.to.0 (ids es)) c.others.ensures.after ∙ ap (comes_before c.args.x.0 c.args.to.0) (ids-drop_more c.args.entries.now c.args.from.0))
    ∙ ap (λ o. unwrap_or (option_or (comes_before c.args.x.0 c.args.to.0 (after c.args.from.0 (ids c.args.entries.now))) o) false) (c.comes_first-2.ensures ∙ ap (λ es. comes_before c.args.x.0 c.args.to.0 (ids es)) c.others.ensures.before ∙ ap (comes_before c.args.x.0 c.args.to.0) (ids-take c.args.entries.now c.args.from.0))
    ∙ comes_in c.args.x.0 c.args.to.0 (after c.args.from.0 (ids c.args.entries.now)) (before c.args.from.0 (ids c.args.entries.now))
