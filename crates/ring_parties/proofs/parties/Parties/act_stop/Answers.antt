use Rattle.std.proofs.Common.{set, sym, ap, subst, ◌∙◌, arith, refl}
use Rattle.ring_rules.proofs.code.Errors.{OnErr_of}
use Rattle.ring_parties.specs.Keeps.{keeps_at}
use Rattle.ring_parties.specs.Parties.{Shown, shown_of}
use Rattle.ring_parties.specs.Acting.{IsReady, Halts}
use Rattle.ring_parties.proofs.standing.Nodes.{at_read, written_shown}
use Rattle.ring_parties.proofs.events.Acted.{stop_acts}
use Rattle.ring_parties.proofs.deposits.Delivered.{seen_as, as_before, still_kept, inside, none_behind, bare, here, few, asks_nothing, is_ready, unheard}
use Rattle.ring_parties.proofs.parties.Parties.act_stop.Goals as goal

pub stop_refusal-requires : goal.stop_refusal-requires
stop_refusal-requires c = asks_nothing c.self.inside c.args.self.now c.self.view_is c.requires.standing c.args.i c.requires.within c.index.result.now c.index.ensures

pub overflow_cast-i : goal.overflow_cast-i
overflow_cast-i c = omega (arith, few c.self.inside c.args.self.now c.self.view_is c.requires.standing, inside c.self.inside c.args.self.now c.self.view_is c.args.i c.requires.within)

pub overflow_add-i : goal.overflow_add-i
overflow_add-i c = omega (arith, few c.self.inside c.args.self.now c.self.view_is c.requires.standing, inside c.self.inside c.args.self.now c.self.view_is c.args.i c.requires.within)

pub notify-requires-clause-here : goal.notify-requires-clause-here
notify-requires-clause-here c = here c.self.inside c.args.self.now c.self.view_is c.requires.standing

pub notify-requires-clause-allowed : goal.notify-requires-clause-allowed
notify-requires-clause-allowed c = unheard c.self.inside c.args.self.now c.self.view_is c.requires.delivered c.requires.standing c.args.i c.requires.within c.index.result.now c.index.ensures (sym c.stop_refusal.ensures ∙ c.in_default.is)

pub stop-requires-clause-ready : goal.stop-requires-clause-ready
stop-requires-clause-ready c = subst IsReady (sym c.be_alone.ensures.same) (is_ready c.self.inside c.args.self.now c.self.view_is c.requires.standing c.args.i c.requires.within c.index_mut-party.result.now c.index_mut-party.ensures.value)

pub returns-in_default-be_alone-clause-err : goal.returns-in_default-be_alone-clause-err
returns-in_default-be_alone-clause-err c =
    as_before c.self.inside c.args.self.now c.self.view_is c.args.i c.requires.within c.index_mut-party.result.now (record c.index_mut-party.result.now { node = c.be_alone.new.node }) c.index_mut-party.ensures.value c.be_alone.ensures.same refl

pub returns-clause-ok : goal.returns-clause-ok
returns-clause-ok c = λ d.
    let l = inside c.self.inside c.args.self.now c.self.view_is c.args.i c.requires.within in
    let stops = at_read Halts c.self.inside.members.items c.args.i c.index_mut-party.result.now (record c.index_mut-party.result.now { node = c.stop.new.node }) l c.index_mut-party.ensures.value (subst (λ (s : Shown). Halts s (shown_of c.stop.new.node)) c.be_alone.ensures.same c.in-Ok-stop.ensures.tries.ok) in
    let old = bare c.self.inside c.args.self.now c.self.view_is c.requires.delivered in
    let new = none_behind c.self.inside c.args.self.now c.self.view_is c.requires.delivered (set c.self.inside.members.items c.args.i (record c.index_mut-party.result.now { node = c.stop.new.node })) c.notify.new.registrar in
    rw (old, new)
    (stop_acts (keeps_at (c.args.self.now).keeps c.args.i) c.args.i d c.self.inside.members.items (set c.self.inside.members.items c.args.i (record c.index_mut-party.result.now { node = c.stop.new.node })) c.self.inside.registrar c.notify.new.registrar stops (written_shown c.self.inside.members.items c.args.i (record c.index_mut-party.result.now { node = c.stop.new.node }) l) c.in_ok-notify.ensures.ok)

pub returns-clause-keeps : goal.returns-clause-keeps
returns-clause-keeps c = still_kept c.self.inside c.args.self.now c.self.view_is c.args.i c.requires.within c.index_mut-party.result.now (record c.index_mut-party.result.now { node = c.stop.new.node }) c.index_mut-party.ensures.value refl

pub returns-in_err-notify-clause-err : goal.returns-in_err-notify-clause-err
returns-in_err-notify-clause-err c =
    let party = record c.index_mut-party.result.now { node = c.be_alone.new.node; control = c.notify.new.control } in
    OnErr_of c.from_residual.result
    (ap (λ r. seen_as (set c.self.inside.members.items c.args.i party) r c.self.inside.pending_deposit) c.in_err-notify.ensures.err
    ∙ as_before c.self.inside c.args.self.now c.self.view_is c.args.i c.requires.within c.index_mut-party.result.now party c.index_mut-party.ensures.value c.be_alone.ensures.same refl)
