use Rattle.std.proofs.Common.{set, ap, subst, ◌∙◌, sym}
use Rattle.ring_rules.specs.Kind.{kind_of}
use Rattle.ring_parties.specs.Parties.{node_at, shown_in, keeps_in}
use Rattle.ring_parties.specs.Keeps.{keeps_at, kept_after}
use Rattle.ring_parties.specs.Acting.{DoesAlone}
use Rattle.ring_rules.proofs.code.Errors.{OnErr_of}
use Rattle.ring_parties.proofs.standing.Nodes.{at_read, written_shown}
use Rattle.ring_parties.proofs.events.Acted.{alone_acts, alone_kept}
use Rattle.ring_parties.proofs.deposits.Delivered.{inside, as_before, keeps_is, shown_is, then_kept, none_behind, bare, asks_nothing, is_ready, is_booked}
use Rattle.ring_parties.proofs.parties.Parties.act_alone.Goals as goal

pub do_alone-requires-clause-free : goal.do_alone-requires-clause-free
do_alone-requires-clause-free c = asks_nothing c.self.inside c.args.self.now c.self.view_is c.requires.may.standing c.args.i c.requires.may.within c.index_mut.result.now c.index_mut.ensures.value

pub do_alone-requires-clause-ready : goal.do_alone-requires-clause-ready
do_alone-requires-clause-ready c = is_ready c.self.inside c.args.self.now c.self.view_is c.requires.may.standing c.args.i c.requires.may.within c.index_mut.result.now c.index_mut.ensures.value

pub do_alone-requires-clause-booked : goal.do_alone-requires-clause-booked
do_alone-requires-clause-booked c = is_booked c.self.inside c.args.self.now c.self.view_is c.args.i c.requires.may.within c.requires.may.booked c.index_mut.result.now c.index_mut.ensures.value

pub returns-in_err-do_alone-clause-err : goal.returns-in_err-do_alone-clause-err
returns-in_err-do_alone-clause-err c = OnErr_of c.from_residual.result (as_before c.self.inside c.args.self.now c.self.view_is c.args.i c.requires.may.within c.index_mut.result.now c.do_alone.new.party c.index_mut.ensures.value c.in_err-do_alone.ensures.err c.in_err-do_alone.ensures.err_keeps)

pub returns-clause-ok : goal.returns-clause-ok
returns-clause-ok c = λ d.
    let k = kind_of c.args.event.now in
    let ns = c.self.inside.members.items in
    let ns' = set ns c.args.i c.do_alone.new.party in
    let l = inside c.self.inside c.args.self.now c.self.view_is c.args.i c.requires.may.within in
    let old = bare c.self.inside c.args.self.now c.self.view_is c.requires.may.delivered in
    let new = none_behind c.self.inside c.args.self.now c.self.view_is c.requires.may.delivered ns' c.self.inside.registrar in
    let keeps = keeps_is c.self.inside c.args.self.now c.self.view_is c.args.i c.requires.may.within c.index_mut.result.now c.index_mut.ensures.value in
    let does = at_read (DoesAlone k (keeps_at (c.args.self.now).keeps c.args.i)) ns c.args.i c.index_mut.result.now c.do_alone.new.party l c.index_mut.ensures.value
    (subst (λ x. DoesAlone k x (shown_in c.index_mut.result.now) (shown_in c.do_alone.new.party)) keeps c.in_ok-do_alone.ensures.ok) in
    rw (old, new)
    (alone_acts k (keeps_at (c.args.self.now).keeps c.args.i) c.args.i d ns ns' c.self.inside.registrar does (written_shown ns c.args.i c.do_alone.new.party l))

pub returns-clause-keeps : goal.returns-clause-keeps
returns-clause-keeps c =
    let k = kind_of c.args.event.now in
    let q = (c.args.self.now).all in
    let x = c.index_mut.result.now in
    let keeps = keeps_is c.self.inside c.args.self.now c.self.view_is c.args.i c.requires.may.within x c.index_mut.ensures.value in
    let shown = shown_is c.self.inside c.args.self.now c.self.view_is c.args.i c.requires.may.within x c.index_mut.ensures.value in
    then_kept c.self.inside c.args.self.now c.self.view_is c.args.i c.requires.may.within x c.do_alone.new.party (kept_after k (node_at q c.args.i) (keeps_at (c.args.self.now).keeps c.args.i)) c.index_mut.ensures.value
    (c.in_ok-do_alone.ensures.keeps ∙ ap (λ m. kept_after k m (keeps_in x)) shown ∙ ap (kept_after k (node_at q c.args.i)) keeps)
    ∙ sym (alone_kept k c.args.i q (c.args.self.now).keeps c.requires.alone)
