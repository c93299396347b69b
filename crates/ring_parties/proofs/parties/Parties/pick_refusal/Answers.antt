use Rattle.std.proofs.Common.{sym, ap, ◌∙◌}
use Rattle.gm_member.specs.Held.{pick_refused}
use Rattle.ring_parties.specs.Parties.{Shown, shown_in}
use Rattle.ring_parties.specs.Refused.{with_deposits}
use Rattle.ring_parties.proofs.deposits.Delivered.{shown_is}
use Rattle.ring_parties.proofs.deposits.Waiting.{none_at_door, some_at_door}
use Rattle.ring_parties.proofs.parties.Parties.pick_refusal.Goals as goal

pub returns-then-is_no_link : goal.returns-then-is_no_link
returns-then-is_no_link c =
    let ps = (c.args.self.now).all.deposits in
    c.waiting_refusal.ensures
    ∙ sym (none_at_door (shown_in c.index.result.now).held ps (sym c.pick_refusal-refusal.ensures ∙ c.is_no_link.ensures.none c.if-is_no_link.true))
    ∙ ap (λ (m : Shown). pick_refused (with_deposits m.held ps)) (shown_is c.self.inside c.args.self.now c.self.view_is c.args.i c.requires c.index.result.now c.index.ensures)

pub returns : goal.returns
returns c =
    let ps = (c.args.self.now).all.deposits in
    c.pick_refusal-refusal.ensures
    ∙ sym (some_at_door (shown_in c.index.result.now).held ps (λ e. c.is_no_link.ensures.other c.if-is_no_link.false (c.pick_refusal-refusal.ensures ∙ e)))
    ∙ ap (λ (m : Shown). pick_refused (with_deposits m.held ps)) (shown_is c.self.inside c.args.self.now c.self.view_is c.args.i c.requires c.index.result.now c.index.ensures)
