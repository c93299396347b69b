use Rattle.std.proofs.Common.{◌≡◌, None, ◌∷◌, ◌++◌, [], bytes_eq, is_some, sym, ap, subst, ◌∙◌}
use Rattle.std.specs.List.{position}
use Rattle.std.proofs.lemmas.Result.{on_ok_weaker}
use Rattle.ring_rules.specs.Event.{asked_of}
use Rattle.ring_cluster.specs.Agendas.{Plan}
use Rattle.ring_cluster.proofs.lists.Plans.{place_is, found_name, found_written, given_with, given_begins}
use Rattle.ring_cluster.proofs.agenda.give_task.Goals as goal

pub push-requires-clause-asked : goal.push-requires-clause-asked
push-requires-clause-asked c =
    let at : c.place_of.result ≡ position (λ (a : Plan). bytes_eq a.name (asked_of c.args.task)) c.args.agendas.now.items =
    subst (λ n. c.place_of.result ≡ position (λ (a : Plan). bytes_eq a.name n) c.args.agendas.now.items) c.by.ensures
    (c.place_of.ensures.place ∙ ap (position (λ (a : Plan). bytes_eq a.name c.by.result.now)) c.deref.ensures.value) in
    sym (found_name c.args.agendas.now.items (asked_of c.args.task) c.in-Some.place c.index_mut.result.now (sym c.in-Some.is ∙ at) c.index_mut.ensures.value)

pub returns-in_default-clause-ok : goal.returns-in_default-clause-ok
returns-in_default-clause-ok c =
    let at : c.place_of.result ≡ position (λ (a : Plan). bytes_eq a.name (asked_of c.args.task)) c.args.agendas.now.items =
    subst (λ n. c.place_of.result ≡ position (λ (a : Plan). bytes_eq a.name n) c.args.agendas.now.items) c.by.ensures
    (c.place_of.ensures.place ∙ ap (position (λ (a : Plan). bytes_eq a.name c.by.result.now)) c.deref.ensures.value) in
    on_ok_weaker c.begin.result
    (λ is. is ∙ sym (given_begins c.args.agendas.now.items c.args.task (place_is c.args.agendas.now.items (asked_of c.args.task) None (sym c.in_default.is ∙ at))))
    c.begin.ensures.ok

pub returns-clause-ok : goal.returns-clause-ok
returns-clause-ok c =
    let at : c.place_of.result ≡ position (λ (a : Plan). bytes_eq a.name (asked_of c.args.task)) c.args.agendas.now.items =
    subst (λ n. c.place_of.result ≡ position (λ (a : Plan). bytes_eq a.name n) c.args.agendas.now.items) c.by.ensures
    (c.place_of.ensures.place ∙ ap (position (λ (a : Plan). bytes_eq a.name c.by.result.now)) c.deref.ensures.value) in
    on_ok_weaker c.push.result
    (λ is. found_written c.args.agendas.now.items (asked_of c.args.task) c.in-Some.place c.index_mut.result.now (sym c.in-Some.is ∙ at) c.index_mut.ensures.value c.push.new.self (λ ts. ts ++ c.args.task ∷ []) is
    ∙ sym (given_with c.args.agendas.now.items c.args.task (ap is_some (place_is c.args.agendas.now.items (asked_of c.args.task) _ (sym c.in-Some.is ∙ at)))))
    c.push.ensures.ok
