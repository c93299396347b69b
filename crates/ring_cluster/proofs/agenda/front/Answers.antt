use Rattle.std.proofs.Common.{◌≡◌, None, bytes_eq, sym, subst, ◌∙◌}
use Rattle.std.specs.List.{position}
use Rattle.ring_cluster.specs.Agendas.{Plan, IsFront, tasks_in}
use Rattle.ring_cluster.proofs.lists.Plans.{found_tasks, found_plan, found_name}
use Rattle.ring_cluster.proofs.lists.Struck.{front_none}
use Rattle.ring_cluster.proofs.agenda.front.Goals as goal

pub returns-in-None : goal.returns-in-None
returns-in-None c =
    let at : c.place_of.result ≡ position (λ (a : Plan). bytes_eq a.name c.args.name.now) c.args.agendas.now = c.place_of.ensures.place in
    front_none c.args.name.now (tasks_in c.args.agendas.now c.args.name.now) (found_tasks c.args.agendas.now c.args.name.now None (sym c.in-None.is ∙ at))

pub returns-in-Some : goal.returns-in-Some
returns-in-Some c =
    let at : c.place_of.result ≡ position (λ (a : Plan). bytes_eq a.name c.args.name.now) c.args.agendas.now = c.place_of.ensures.place in
    subst (λ name. IsFront name (tasks_in c.args.agendas.now c.args.name.now) c.front.result.now)
    (found_name c.args.agendas.now c.args.name.now c.in-Some.place c.index-agendas-place.result (sym c.in-Some.is ∙ at) c.index-agendas-place.is)
    (subst (λ ts. IsFront (c.index-agendas-place.result).name ts c.front.result.now)
    (sym (found_plan c.args.agendas.now c.args.name.now c.in-Some.place c.index-agendas-place.result (sym c.in-Some.is ∙ at) c.index-agendas-place.is))
    c.front.ensures)
