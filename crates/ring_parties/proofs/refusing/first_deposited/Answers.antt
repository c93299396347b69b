use Rattle.std.proofs.Common.{◌+◌, Some, cond, drop, map, sym, ap, ◌∙◌}
use Rattle.ring_parties.specs.Parties.{shown_of, deposit_shown}
use Rattle.ring_parties.specs.Refused.{first_for}
use Rattle.ring_parties.proofs.deposits.Waiting.{first_here}
use Rattle.ring_parties.proofs.refusing.first_deposited.Goals as goal

pub returns-then-comes_for : goal.returns-then-comes_for
returns-then-comes_for c =
    let h = (shown_of c.args.node.now).held in
    sym (c.loop-place.invariant
    ∙ first_here h c.args.registrar.now.links c.loop-place.place c.in-Some.name (sym c.name_at.ensures ∙ c.in-Some.is)
    ∙ ap (λ b. cond b (Some c.in-Some.name.view) (first_for h (drop (c.loop-place.place + 1) (map deposit_shown c.args.registrar.now.links)))) (sym c.comes_for.ensures ∙ c.if-comes_for.true))

pub loop-place-preserved : goal.loop-place-preserved
loop-place-preserved c =
    let h = (shown_of c.args.node.now).held in
    c.loop-place.invariant
    ∙ first_here h c.args.registrar.now.links c.loop-place.place c.in-Some.name (sym c.name_at.ensures ∙ c.in-Some.is)
    ∙ ap (λ b. cond b (Some c.in-Some.name.view) (first_for h (drop (c.loop-place.place + 1) (map deposit_shown c.args.registrar.now.links)))) (sym c.comes_for.ensures ∙ c.if-comes_for.false)
