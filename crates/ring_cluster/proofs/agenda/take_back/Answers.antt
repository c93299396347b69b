use Rattle.std.proofs.Common.{◌≡◌, bytes_eq, sym, ap, subst, ◌∙◌}
use Rattle.std.specs.Prelude.{Some, None, is_some}
use Rattle.std.specs.List.{position}
use Rattle.ring_cluster.specs.Agendas.{Plan, names_of, place_among}
use Rattle.ring_cluster.proofs.lists.Plans.{taken_back, given_found, set_less}
use Rattle.ring_cluster.proofs.agenda.take_back.Goals as goal

pub returns-in-Some-clause-back : goal.returns-in-Some-clause-back
returns-in-Some-clause-back c = λ plans t is of had.
    let at : c.place_of.result ≡ position (λ (a : Plan). bytes_eq a.name c.args.name.now) c.args.agendas.now.items = c.place_of.ensures.place ∙ ap (position (λ (a : Plan). bytes_eq a.name c.args.name.now)) c.deref.ensures.value in
    taken_back plans c.args.agendas.now.items t c.in-Some.place c.index_mut.result.now c.take_back.new.self is
    (ap (λ n. is_some (place_among (names_of plans) n)) of ∙ sym had ∙ c.if-not-had_one.false)
    (subst (λ n. Some c.in-Some.place ≡ position (λ (a : Plan). bytes_eq a.name n) c.args.agendas.now.items) (sym of) (sym c.in-Some.is ∙ at))
    c.index_mut.ensures.value c.take_back.ensures.back

pub returns-in-None-clause-back : goal.returns-in-None-clause-back
returns-in-None-clause-back c = λ plans t is of had.
    let at : c.place_of.result ≡ position (λ (a : Plan). bytes_eq a.name c.args.name.now) c.args.agendas.now.items = c.place_of.ensures.place ∙ ap (position (λ (a : Plan). bytes_eq a.name c.args.name.now)) c.deref.ensures.value in
    absurd (given_found plans c.args.agendas.now.items t is
    (ap (λ n. is_some (place_among (names_of plans) n)) of ∙ sym had ∙ c.if-not-had_one.false)
    (subst (λ n. None ≡ position (λ (a : Plan). bytes_eq a.name n) c.args.agendas.now.items) (sym of) (sym c.in-None.is ∙ at)))

pub returns-in-Some-clause-less : goal.returns-in-Some-clause-less
returns-in-Some-clause-less c =
    let at : c.place_of.result ≡ position (λ (a : Plan). bytes_eq a.name c.args.name.now) c.args.agendas.now.items = c.place_of.ensures.place ∙ ap (position (λ (a : Plan). bytes_eq a.name c.args.name.now)) c.deref.ensures.value in
    set_less c.args.agendas.now.items c.in-Some.place c.take_back.result c.index_mut.result.now c.take_back.new.self c.args.name.now (sym c.in-Some.is ∙ at) c.index_mut.ensures.value c.take_back.ensures.less
