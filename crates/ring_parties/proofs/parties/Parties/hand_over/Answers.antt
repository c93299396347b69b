use Rattle.std.proofs.Common.{◌≡◌, ◌-◌, [], ◌∷◌, Some, refl, sym, ap, subst, ◌∙◌, arith}
use Rattle.ring_parties.specs.Behind.{behind}
use Rattle.ring_parties.specs.Parties.{PartiesSeen, parties, in_seen}
use Rattle.ring_parties.specs.Standing.{StandSomewhere}
use Rattle.ring_parties.proofs.standing.Nodes.{same_shown, same_keeps}
use Rattle.ring_parties.proofs.deposits.Delivered.{sender_place}
use Rattle.ring_parties.proofs.deposits.Handing.{handed_on}
use Rattle.ring_parties.proofs.events.After.{here_after}
use Rattle.ring_parties.proofs.events.Closing.{known_handed}
use Rattle.ring_parties.proofs.parties.Parties.hand_over.Goals as goal

pub deposit-requires : goal.deposit-requires
deposit-requires c =
    let h = subst (λ q. StandSomewhere q.all) (sym c.self.view_is) c.requires in
    let v = c.in-Some.ensures.value in
    let e : c.self.inside.pending_deposit ≡ Some c.in-Some.field-0 = cc in
    let known = known_handed h.0 h.1 h.2 c.self.inside.members.items c.self.inside.registrar c.self.inside.pending_deposit c.in-Some.field-0 e h.3 in
    record { here = here_after h.0 h.1 h.2 c.self.inside.members.items c.self.inside.registrar (behind c.self.inside.pending_deposit) h.3; from = known.0; to = known.1 }

pub overflow_sub-name : goal.overflow_sub-name
overflow_sub-name c =
    let v = c.in-Some.ensures.value in
    let e : c.self.inside.pending_deposit ≡ Some c.in-Some.field-0 = cc in
    let from = (sender_place c.self.inside c.args.self.now c.self.view_is c.requires c.in-Some.field-0 e).0 in
    omega (arith, from)

pub index_mut-party-requires : goal.index_mut-party-requires
index_mut-party-requires c =
    let v = c.in-Some.ensures.value in
    let e : c.self.inside.pending_deposit ≡ Some c.in-Some.field-0 = cc in
    let within = (sender_place c.self.inside c.args.self.now c.self.view_is c.requires c.in-Some.field-0 e).1 in
    omega (arith, within)

pub returns-in-Ok-clause-same : goal.returns-in-Ok-clause-same
returns-in-Ok-clause-same c =
    let v = c.in-Some.ensures.value in
    let e : c.self.inside.pending_deposit ≡ Some c.in-Some.field-0 = cc in
    let within = (sender_place c.self.inside c.args.self.now c.self.view_is c.requires c.in-Some.field-0 e).1 in
    let ns = c.self.inside.members.items in
    let party = record c.index_mut-party.result.now { control = c.deposit.new.control } in
    ap (λ ms. record (parties ns c.deposit.new.registrar (behind c.take.new.self)) { nodes = ms }) (same_shown ns (c.in-Some.field-0.name.from.0 - 1) c.index_mut-party.result.now party within c.index_mut-party.ensures.value refl)
    ∙ ap (λ l. parties ns c.deposit.new.registrar (behind l)) c.take.ensures.after
    ∙ handed_on ns c.self.inside.registrar c.deposit.new.registrar c.in-Some.field-0 c.in-Ok.ensures.ok
    ∙ ap (λ l. parties ns c.self.inside.registrar (behind l)) (sym e)
    ∙ ap (λ (q : PartiesSeen). q.all) c.self.view_is

pub returns-in-Ok-clause-keeps : goal.returns-in-Ok-clause-keeps
returns-in-Ok-clause-keeps c =
    let v = c.in-Some.ensures.value in
    let e : c.self.inside.pending_deposit ≡ Some c.in-Some.field-0 = cc in
    let within = (sender_place c.self.inside c.args.self.now c.self.view_is c.requires c.in-Some.field-0 e).1 in
    same_keeps c.self.inside.members.items (c.in-Some.field-0.name.from.0 - 1) c.index_mut-party.result.now (record c.index_mut-party.result.now { control = c.deposit.new.control }) within c.index_mut-party.ensures.value refl
    ∙ ap (λ (q : PartiesSeen). q.keeps) c.self.view_is

pub returns-in-Err-clause-same : goal.returns-in-Err-clause-same
returns-in-Err-clause-same c =
    let v = c.in-Some.ensures.value in
    let e : c.self.inside.pending_deposit ≡ Some c.in-Some.field-0 = cc in
    let within = (sender_place c.self.inside c.args.self.now c.self.view_is c.requires c.in-Some.field-0 e).1 in
    let ns = c.self.inside.members.items in
    let party = record c.index_mut-party.result.now { control = c.deposit.new.control } in
    ap (λ ms. record (parties ns c.deposit.new.registrar (record { name = c.in-Some.field-0.name; end = Some (in_seen c.in-Err.link) } ∷ [])) { nodes = ms }) (same_shown ns (c.in-Some.field-0.name.from.0 - 1) c.index_mut-party.result.now party within c.index_mut-party.ensures.value refl)
    ∙ ap (λ r. parties ns r (record { name = c.in-Some.field-0.name; end = Some (in_seen c.in-Err.link) } ∷ [])) c.in-Err.ensures.err
    ∙ ap (λ n. parties ns c.self.inside.registrar (record { name = c.in-Some.field-0.name; end = Some (in_seen n) } ∷ [])) c.in-Err.ensures.back
    ∙ ap (λ l. parties ns c.self.inside.registrar (behind l)) (sym e)
    ∙ ap (λ (q : PartiesSeen). q.all) c.self.view_is

pub returns-in-Err-clause-keeps : goal.returns-in-Err-clause-keeps
returns-in-Err-clause-keeps c =
    let v = c.in-Some.ensures.value in
    let e : c.self.inside.pending_deposit ≡ Some c.in-Some.field-0 = cc in
    let within = (sender_place c.self.inside c.args.self.now c.self.view_is c.requires c.in-Some.field-0 e).1 in
    same_keeps c.self.inside.members.items (c.in-Some.field-0.name.from.0 - 1) c.index_mut-party.result.now (record c.index_mut-party.result.now { control = c.deposit.new.control }) within c.index_mut-party.ensures.value refl
    ∙ ap (λ (q : PartiesSeen). q.keeps) c.self.view_is
