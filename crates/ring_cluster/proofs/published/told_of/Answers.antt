use Rattle.std.proofs.Common.{◌∷◌, ◌++◌, [], length, map, take, sym, ap, ◌∙◌}
use Rattle.std.proofs.lemmas.List.{take_more, length-map}
use Rattle.ring_rules.specs.Published.{published_in}
use Rattle.ring_cluster.specs.Published.{told_with}
use Rattle.ring_cluster.proofs.published.told_of.Goals as goal

pub push_told-requires-clause-many : goal.push_told-requires-clause-many
push_told-requires-clause-many c =
    sym (length-map c.loop-event.all.items (λ v. told_with v.items))
    ∙ ap length c.loop-event.invariant
    ∙ length-map c.args.names.now (λ name. published_in name (take c.loop-event.event-index c.args.events.now))

pub loop-event-preserved : goal.loop-event-preserved
loop-event-preserved c =
    let k = c.loop-event.event-index in
    let events = c.args.events.now in
    c.in_ok-push_told.ensures (take k events) c.loop-event.invariant
    ∙ ap (λ es. map (λ name. published_in name es) c.args.names.now)
    (ap (λ e. take k events ++ e ∷ []) c.event-item.is ∙ sym (take_more events k c.event-item.result c.loop-event-test.true))
