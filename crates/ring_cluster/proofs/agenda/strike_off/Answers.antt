use Rattle.std.proofs.Common.{◌≡◌, None, drop, bytes_eq, length, nat_lt, sym, ap, ◌∙◌}
use Rattle.std.specs.List.{position}
use Rattle.ring_cluster.specs.Agendas.{Plan}
use Rattle.ring_cluster.proofs.lists.Plans.{found_with, found_tasks, found_plan, found_written}
use Rattle.ring_cluster.proofs.agenda.strike_off.Goals as goal

pub returns-in-Some : goal.returns-in-Some
returns-in-Some c =
    let at : c.place_of.result ≡ position (λ (a : Plan). bytes_eq a.name c.args.name.now) c.args.agendas.now.items = c.place_of.ensures.place ∙ ap (position (λ (a : Plan). bytes_eq a.name c.args.name.now)) c.deref.ensures.value in
    record {
      done = found_written c.args.agendas.now.items c.args.name.now c.in-Some.place c.index_mut.result.now (sym c.in-Some.is ∙ at) c.index_mut.ensures.value c.pop.new.self (drop 1) c.pop.ensures.done;
      had = c.pop.ensures.had ∙ ap (λ ts. nat_lt 0 (length ts)) (sym (found_plan c.args.agendas.now.items c.args.name.now c.in-Some.place c.index_mut.result.now (sym c.in-Some.is ∙ at) c.index_mut.ensures.value));
    }

pub returns-in-None : goal.returns-in-None
returns-in-None c =
    let at : c.place_of.result ≡ position (λ (a : Plan). bytes_eq a.name c.args.name.now) c.args.agendas.now.items = c.place_of.ensures.place ∙ ap (position (λ (a : Plan). bytes_eq a.name c.args.name.now)) c.deref.ensures.value in
    record {
      done = sym (found_with c.args.agendas.now.items c.args.name.now _ None (sym c.in-None.is ∙ at));
      had = ap (λ ts. nat_lt 0 (length ts)) (sym (found_tasks c.args.agendas.now.items c.args.name.now None (sym c.in-None.is ∙ at)));
    }
