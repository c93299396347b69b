use Rattle.std.proofs.Common.{sym, subst}
use Rattle.ring_parties.specs.Parties.{shown_of}
use Rattle.ring_parties.specs.Looking.{HasLooked, to_deposit, pending_shown, replaced_seen, tidied}
use Rattle.ring_parties.proofs.standing.Looked.{looks_shown}
use Rattle.ring_parties.proofs.looking.look.Goals as goal

pub returns-in-Ok-clause-ok : goal.returns-in-Ok-clause-ok
returns-in-Ok-clause-ok c =
    subst (λ b. HasLooked c.args.view (shown_of c.args.node.now) b (pending_shown c.hand_on.result.opened) (replaced_seen c.hand_on.result.replaced)) (sym c.hand_on.ensures.node)
    (subst (λ o. HasLooked c.args.view (shown_of c.args.node.now) (tidied (shown_of c.refresh.new.self)) o (replaced_seen c.hand_on.result.replaced)) (sym c.hand_on.ensures.opened)
    (subst (λ l. HasLooked c.args.view (shown_of c.args.node.now) (tidied (shown_of c.refresh.new.self)) (to_deposit c.in-Ok.requests.items) l) (sym c.hand_on.ensures.replaced)
    (record { looks = looks_shown c.args.node.now c.refresh.new.self c.args.view c.in-Ok.requests.items c.requires.ready c.in-Ok.ensures.reads.ok c.in-Ok.ensures.reads.links c.in-Ok.ensures.reads.moves })))
