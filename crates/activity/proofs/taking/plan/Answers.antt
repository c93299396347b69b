use Rattle.std.proofs.Common.{◌++◌, ◌∷◌, [], take, sym, ap, ◌∙◌}
use Rattle.std.specs.List.{cons_option}
use Rattle.std.proofs.lemmas.List.Elements.{filter_map-append}
use Rattle.activity.specs.Kept.{kept_of}
use Rattle.activity.specs.Plan.{change_of, changes_of, owns}
use Rattle.activity.proofs.Lists.{take_next}
use Rattle.activity.proofs.taking.plan.Goals as goal

pub loop-line-preserved : goal.loop-line-preserved
loop-line-preserved c =
    let own = owns c.args.view.now c.args.me.0 c.args.sender.0 in
    let lines = c.lines-line-items.result.now in
    c.in_ok-push_change.ensures
    ∙ ap (λ xs. xs ++ cons_option c.line_change.result []) c.loop-line.invariant
    ∙ ap (λ o. changes_of own c.args.tables.now (take c.loop-line.line-index lines) ++ cons_option o [])
    (c.line_change.ensures ∙ ap (λ b. change_of b (kept_of c.args.tables.now c.line-item.result.origin.0) c.line-item.result) (c.owns-own.ensures ∙ ap (λ l. own l.origin.0) c.line.view_is))
    ∙ sym (filter_map-append (λ x. change_of (own x.origin.0) (kept_of c.args.tables.now x.origin.0) x) (take c.loop-line.line-index lines) (c.line-item.result ∷ []))
    ∙ ap (changes_of own c.args.tables.now) (sym (take_next lines c.loop-line.line-index c.line-item.result c.loop-line-test.true c.line-item.is))
