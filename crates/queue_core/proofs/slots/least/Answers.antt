use Rattle.std.proofs.Common.{rules, tests, ap, sym, ◌∙◌, Some}
use Rattle.std.specs.Prelude.{option_map}
use Rattle.std.proofs.lemmas.Iterator.Consumers.{YieldsList-from_deque}
use Rattle.std.proofs.lemmas.Iterator.Search.{find_from_yields_List}
use Rattle.queue_core.specs.Queue.{Item, is_ready}
use Rattle.queue_core.specs.Shown.{or_empty}
use Rattle.queue_core.proofs.Places.{least_first}
use Rattle.queue_core.proofs.slots.least.Goals as goal

pub returns-in-Some : goal.returns-in-Some
returns-in-Some c =
    let found = find_from_yields_List (λ (i : Item). is_ready i) _ _ c.find.result c.find.ensures.ran (YieldsList-from_deque c.args.slots.now.items cc) (λ x b q k. search (rules, tests)) in
    ap (λ n. or_empty (Some n)) (ap (λ (i : Item). i.at) c.held.ensures)
    ∙ ap or_empty (sym (least_first c.args.slots.now.items ∙ ap (option_map (λ (i : Item). i.at)) (sym found ∙ ap (option_map (λ s. s.now)) c.in-Some.is)))

pub returns-in-None : goal.returns-in-None
returns-in-None c =
    let found = find_from_yields_List (λ (i : Item). is_ready i) _ _ c.find.result c.find.ensures.ran (YieldsList-from_deque c.args.slots.now.items cc) (λ x b q k. search (rules, tests)) in
    ap or_empty (sym (least_first c.args.slots.now.items ∙ ap (option_map (λ (i : Item). i.at)) (sym found ∙ ap (option_map (λ s. s.now)) c.in-None.is)))
