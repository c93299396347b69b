use Rattle.std.proofs.Common.{false, sym, subst}
use Rattle.ordered_link.specs.declared.ring.RingOut.{RingOut}
use Rattle.ordered_link.specs.RingSteps.{IsFreshRingPair}
use Rattle.activity.specs.declared.packet.Load.{Load}
use Rattle.rtrb.specs.Ring.{known_free}
use Rattle.gm_member.proofs.Ready.{ready_sound}
use Rattle.ring_parties.specs.Parties.{shown_of}
use Rattle.ring_parties.specs.Looking.{HasLooked, to_deposit, pending_shown, replaced_seen, tidied, without_question}
use Rattle.ring_parties.proofs.standing.Looked.{looks_asked}
use Rattle.ring_parties.proofs.looking.read_answer.Goals as goal

pub returns : goal.returns
returns c =
    let sound = ready_sound (λ n o i. IsFreshRingPair n o i) (λ (o : RingOut Load). known_free o.items) (λ (o : RingOut Load). o.ended) c.args.node.now c.requires.spare in
    subst (λ b. HasLooked c.args.view (without_question (shown_of c.args.node.now)) b (pending_shown c.hand_on.result.opened) (replaced_seen c.hand_on.result.replaced)) (sym c.hand_on.ensures.node)
    (subst (λ o. HasLooked c.args.view (without_question (shown_of c.args.node.now)) (tidied (shown_of c.answer.new.self)) o (replaced_seen c.hand_on.result.replaced)) (sym c.hand_on.ensures.opened)
    (subst (λ l. HasLooked c.args.view (without_question (shown_of c.args.node.now)) (tidied (shown_of c.answer.new.self)) (to_deposit c.in-Ok.requests.items) l) (sym c.hand_on.ensures.replaced)
    (record { looks = looks_asked false c.args.node.now c.answer.new.self c.args.view c.in-Ok.requests.items c.requires.ready (c.in-Ok.ensures.ok sound) c.in-Ok.ensures.links (c.in-Ok.ensures.moves sound) })))
