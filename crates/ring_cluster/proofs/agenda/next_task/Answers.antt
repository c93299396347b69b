use Rattle.std.proofs.Common.{◌≡◌, List, [], ◌∷◌, None, bytes_eq, sym, subst, ◌∙◌}
use Rattle.std.specs.Prelude.{MatchOption, IfSome}
use Rattle.std.specs.List.{position}
use Rattle.ring_rules.specs.declared.event.Client.{Client}
use Rattle.ring_cluster.specs.Agendas.{Plan, IsAskedOf}
use Rattle.ring_cluster.proofs.lists.Plans.{found_tasks, found_plan, found_name}
use Rattle.ring_cluster.proofs.agenda.next_task.Goals as goal

pub returns-in-None-clause-next : goal.returns-in-None-clause-next
returns-in-None-clause-next c =
    let at : c.place_of.result ≡ position (λ (a : Plan). bytes_eq a.name c.args.name.now) c.args.agendas.now = c.place_of.ensures.place in
    found_tasks c.args.agendas.now c.args.name.now None (sym c.in-None.is ∙ at)

pub returns-in-Some-clause-next : goal.returns-in-Some-clause-next
returns-in-Some-clause-next c =
    let at : c.place_of.result ≡ position (λ (a : Plan). bytes_eq a.name c.args.name.now) c.args.agendas.now = c.place_of.ensures.place in
    subst (λ ts. MatchOption c.head.result (ts ≡ []) (λ task. (rest : List Client) × (ts ≡ task.now ∷ rest)))
    (sym (found_plan c.args.agendas.now c.args.name.now c.in-Some.place c.index-agendas-place.result (sym c.in-Some.is ∙ at) c.index-agendas-place.is))
    c.head.ensures.next

pub returns-in-Some-clause-asked : goal.returns-in-Some-clause-asked
returns-in-Some-clause-asked c =
    let at : c.place_of.result ≡ position (λ (a : Plan). bytes_eq a.name c.args.name.now) c.args.agendas.now = c.place_of.ensures.place in
    subst (λ name. IfSome c.head.result (λ task. IsAskedOf name task.now))
    (found_name c.args.agendas.now c.args.name.now c.in-Some.place c.index-agendas-place.result (sym c.in-Some.is ∙ at) c.index-agendas-place.is)
    c.head.ensures.asked
