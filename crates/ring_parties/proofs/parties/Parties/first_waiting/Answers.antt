use Rattle.std.proofs.Common.{is_some, cond, map, sym, ap, ◌∙◌}
use Rattle.ring_parties.specs.Behind.{behind}
use Rattle.ring_parties.specs.Parties.{PartiesSeen, shown_of, deposit_shown}
use Rattle.ring_parties.specs.Refused.{first_for}
use Rattle.ring_parties.proofs.deposits.Waiting.{first_behind}
use Rattle.ring_parties.proofs.parties.Parties.first_waiting.Goals as goal

pub returns-in-Some : goal.returns-in-Some
returns-in-Some c =
    let h = (shown_of c.args.node.now).held in
    let found = sym c.in-Some.is ∙ c.first_deposited.ensures in
    found
    ∙ ap (λ o. cond (is_some o) (first_for h (map deposit_shown c.self.inside.registrar.links)) (first_for h (behind c.self.inside.pending_deposit))) found
    ∙ sym (first_behind h (map deposit_shown c.self.inside.registrar.links) (behind c.self.inside.pending_deposit))
    ∙ ap (λ (q : PartiesSeen). first_for h q.all.deposits) c.self.view_is

pub returns-in-None : goal.returns-in-None
returns-in-None c =
    let h = (shown_of c.args.node.now).held in
    c.first_pending.ensures
    ∙ ap (λ o. cond (is_some o) (first_for h (map deposit_shown c.self.inside.registrar.links)) (first_for h (behind c.self.inside.pending_deposit))) (sym c.in-None.is ∙ c.first_deposited.ensures)
    ∙ sym (first_behind h (map deposit_shown c.self.inside.registrar.links) (behind c.self.inside.pending_deposit))
    ∙ ap (λ (q : PartiesSeen). first_for h q.all.deposits) c.self.view_is
