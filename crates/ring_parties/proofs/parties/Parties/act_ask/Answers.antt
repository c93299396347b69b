use Rattle.std.proofs.Common.{◌≡◌, ◌+◌, [], set, sym, ap, subst, ◌∙◌, rules, refl}
use Rattle.registrar.specs.Handled.{with_view}
use Rattle.ring_parties.specs.Behind.{behind}
use Rattle.ring_parties.specs.Parties.{parties, shown_of, shown_in}
use Rattle.ring_parties.specs.Acting.{LooksAt, viewing}
use Rattle.ring_parties.specs.Looking.{HasLooked, pending_shown, replaced_seen, view_for}
use Rattle.ring_parties.specs.Refused.{office_of}
use Rattle.ring_parties.proofs.standing.Nodes.{at_read, written_shown}
use Rattle.ring_parties.proofs.events.Acted.{follow_acts}
use Rattle.ring_parties.proofs.events.Refusing.{view_for_same}
use Rattle.ring_parties.proofs.deposits.Delivered.{still_kept, seen_as, inside, unchanged, bare, here, id_is, is_ready, ask_is}
use Rattle.ring_parties.proofs.parties.Parties.act_ask.Goals as goal

pub ask-requires-clause-ready : goal.ask-requires-clause-ready
ask-requires-clause-ready c = is_ready c.self.inside c.args.self.now c.self.view_is c.requires.may.standing c.args.i c.requires.may.within c.index_mut-party.result.now c.index_mut-party.ensures.value

pub ask-requires-clause-here : goal.ask-requires-clause-here
ask-requires-clause-here c = here c.self.inside c.args.self.now c.self.view_is c.requires.may.standing

pub returns-in-Err-clause-judged : goal.returns-in-Err-clause-judged
returns-in-Err-clause-judged c =
    let is = ask_is c.self.inside c.args.self.now c.self.view_is c.requires.may.delivered c.requires.may.standing c.args.i c.requires.may.within c.index_mut-party.result.now c.index_mut-party.ensures.value c.args.what in
    record { enabled = search rules; reason = λ r x. is ∙ c.in-Err.ensures.judged.reason r x }

pub returns-in-Err-clause-err : goal.returns-in-Err-clause-err
returns-in-Err-clause-err c =
    ap (λ r. seen_as (set c.self.inside.members.items c.args.i (record c.index_mut-party.result.now { node = c.ask.new.node })) r c.self.inside.pending_deposit) c.in-Err.ensures.err.1
    ∙ unchanged c.self.inside c.args.self.now c.self.view_is c.args.i c.requires.may.within c.index_mut-party.result.now c.ask.new.node c.index_mut-party.ensures.value c.in-Err.ensures.err.0

pub returns-in-Ok-clause-judged : goal.returns-in-Ok-clause-judged
returns-in-Ok-clause-judged c =
    let is = ask_is c.self.inside c.args.self.now c.self.view_is c.requires.may.delivered c.requires.may.standing c.args.i c.requires.may.within c.index_mut-party.result.now c.index_mut-party.ensures.value c.args.what in
    record { enabled = is ∙ c.in-Ok.ensures.judged.enabled; reason = search rules }

pub returns-in-Ok-clause-ok : goal.returns-in-Ok-clause-ok
returns-in-Ok-clause-ok c =
    let looked = c.in-Ok.looked in
    let l = inside c.self.inside c.args.self.now c.self.view_is c.args.i c.requires.may.within in
    let old = bare c.self.inside c.args.self.now c.self.view_is c.requires.may.delivered in
    let ns = c.self.inside.members.items in
    let ns' = set ns c.args.i (record c.index_mut-party.result.now { node = c.ask.new.node }) in
    let r = c.self.inside.registrar in
    let v = view_for r (c.args.i + 1) c.args.what in
    let id : c.index_mut-party.result.now.node.id.0 ≡ c.args.i + 1 = id_is c.self.inside c.args.self.now c.self.view_is c.requires.may.standing c.args.i c.requires.may.within c.index_mut-party.result.now c.index_mut-party.ensures.value in
    let has_looked = subst (λ x. HasLooked (view_for r x c.args.what) (shown_in c.index_mut-party.result.now) (shown_of c.ask.new.node) (pending_shown looked.opened) (replaced_seen looked.replaced)) id c.in-Ok.ensures.ok in
    let follows = c.in-Ok.ensures.registrar ∙ ap (λ x. with_view r (view_for r x c.args.what)) id in
    subst (λ p. LooksAt (view_for (office_of p) (c.args.i + 1) c.args.what) c.args.i (viewing (view_for (office_of p) (c.args.i + 1) c.args.what) p) (parties ns' c.ask.new.registrar (behind looked.opened)) (replaced_seen looked.replaced)) (sym old)
    (subst (λ g. LooksAt g c.args.i (viewing g (parties ns r [])) (parties ns' c.ask.new.registrar (behind looked.opened)) (replaced_seen looked.replaced)) (sym (view_for_same ns r (c.args.i + 1) c.args.what))
    (follow_acts v c.args.i ns ns' r c.ask.new.registrar looked.opened (replaced_seen looked.replaced)
    (at_read (λ a b. HasLooked v a b (pending_shown looked.opened) (replaced_seen looked.replaced)) ns c.args.i c.index_mut-party.result.now (record c.index_mut-party.result.now { node = c.ask.new.node }) l c.index_mut-party.ensures.value has_looked)
    (written_shown ns c.args.i (record c.index_mut-party.result.now { node = c.ask.new.node }) l) follows))

pub returns-in-Ok-clause-keeps : goal.returns-in-Ok-clause-keeps
returns-in-Ok-clause-keeps c = still_kept c.self.inside c.args.self.now c.self.view_is c.args.i c.requires.may.within c.index_mut-party.result.now (record c.index_mut-party.result.now { node = c.ask.new.node }) c.index_mut-party.ensures.value refl
