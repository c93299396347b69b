use Rattle.std.proofs.Common.{◌+◌, set, sym, ap, subst, ◌∙◌, refl}
use Rattle.std.specs.Prelude.{map}
use Rattle.std.specs.List.{filter}
use Rattle.registrar.specs.Handled.{without_links}
use Rattle.ring_parties.specs.Parties.{deposit_shown}
use Rattle.ring_parties.specs.Standing.{StandAfter}
use Rattle.ring_parties.specs.Acting.{waits_at, Collects}
use Rattle.ring_parties.specs.Refused.{NothingWaits}
use Rattle.ring_parties.proofs.standing.Nodes.{read_shown, at_read, written_shown}
use Rattle.ring_parties.proofs.deposits.Gathers.{stand_then, nothing_waits}
use Rattle.ring_parties.proofs.deposits.Delivered.{still_kept, seen_as, inside, unchanged, none_behind, bare, here, of_ring, asks_nothing, is_ready, known}
use Rattle.ring_parties.proofs.parties.Parties.collect.Goals as goal

pub collect-requires-clause-free : goal.collect-requires-clause-free
collect-requires-clause-free c = asks_nothing c.self.inside c.args.self.now c.self.view_is c.requires.standing c.args.i c.requires.within c.index_mut-party.result.now c.index_mut-party.ensures.value

pub collect-requires-clause-ready : goal.collect-requires-clause-ready
collect-requires-clause-ready c = is_ready c.self.inside c.args.self.now c.self.view_is c.requires.standing c.args.i c.requires.within c.index_mut-party.result.now c.index_mut-party.ensures.value

pub collect-requires-clause-here : goal.collect-requires-clause-here
collect-requires-clause-here c = here c.self.inside c.args.self.now c.self.view_is c.requires.standing

pub collect-requires-clause-ring : goal.collect-requires-clause-ring
collect-requires-clause-ring c = of_ring c.self.inside c.args.self.now c.self.view_is c.requires.delivered c.requires.standing

pub collect-requires-clause-known : goal.collect-requires-clause-known
collect-requires-clause-known c = known c.self.inside c.args.self.now c.self.view_is c.requires.delivered c.requires.standing c.args.i c.requires.within c.index_mut-party.result.now c.index_mut-party.ensures.value

pub returns-in_err-collect-clause-standing : goal.returns-in_err-collect-clause-standing
returns-in_err-collect-clause-standing c = λ credit names events h.
    let same = ap (λ r. seen_as (set c.self.inside.members.items c.args.i (record c.index_mut-party.result.now { node = c.collect.new.node })) r c.self.inside.pending_deposit) c.in_err-collect.ensures.err.1
    ∙ unchanged c.self.inside c.args.self.now c.self.view_is c.args.i c.requires.within c.index_mut-party.result.now c.collect.new.node c.index_mut-party.ensures.value c.in_err-collect.ensures.err.0 in
    subst (λ q. StandAfter credit names events q.all) (sym same) h

pub returns-clause-standing : goal.returns-clause-standing
returns-clause-standing c = λ credit names events h.
    let l = inside c.self.inside c.args.self.now c.self.view_is c.args.i c.requires.within in
    let after = at_read (λ a b. Collects a b (filter (waits_at a.held.id) (map deposit_shown c.self.inside.registrar.links))) c.self.inside.members.items c.args.i c.index_mut-party.result.now (record c.index_mut-party.result.now { node = c.collect.new.node }) l c.index_mut-party.ensures.value c.in_ok-collect.ensures.ok in
    let left = c.in_ok-collect.ensures.registrar ∙ ap (λ m. without_links c.self.inside.registrar m.held.id) (sym (read_shown c.self.inside.members.items c.args.i c.index_mut-party.result.now l c.index_mut-party.ensures.value)) in
    let others = written_shown c.self.inside.members.items c.args.i (record c.index_mut-party.result.now { node = c.collect.new.node }) l in
    rw (none_behind c.self.inside c.args.self.now c.self.view_is c.requires.delivered (set c.self.inside.members.items c.args.i (record c.index_mut-party.result.now { node = c.collect.new.node })) c.collect.new.registrar)
    (stand_then credit names events c.self.inside.members.items c.self.inside.registrar (subst (StandAfter credit names events) (bare c.self.inside c.args.self.now c.self.view_is c.requires.delivered) h) (set c.self.inside.members.items c.args.i (record c.index_mut-party.result.now { node = c.collect.new.node })) c.collect.new.registrar c.args.i l after others left)

pub returns-clause-none : goal.returns-clause-none
returns-clause-none c = λ up.
    let h = c.requires.standing in
    let l = inside c.self.inside c.args.self.now c.self.view_is c.args.i c.requires.within in
    let after = at_read (λ a b. Collects a b (filter (waits_at a.held.id) (map deposit_shown c.self.inside.registrar.links))) c.self.inside.members.items c.args.i c.index_mut-party.result.now (record c.index_mut-party.result.now { node = c.collect.new.node }) l c.index_mut-party.ensures.value c.in_ok-collect.ensures.ok in
    let left = c.in_ok-collect.ensures.registrar ∙ ap (λ m. without_links c.self.inside.registrar m.held.id) (sym (read_shown c.self.inside.members.items c.args.i c.index_mut-party.result.now l c.index_mut-party.ensures.value)) in
    let others = written_shown c.self.inside.members.items c.args.i (record c.index_mut-party.result.now { node = c.collect.new.node }) l in
    subst (NothingWaits (c.args.i + 1)) (sym (none_behind c.self.inside c.args.self.now c.self.view_is c.requires.delivered (set c.self.inside.members.items c.args.i (record c.index_mut-party.result.now { node = c.collect.new.node })) c.collect.new.registrar))
    (nothing_waits h.0 h.1 h.2 c.self.inside.members.items c.self.inside.registrar (subst (StandAfter h.0 h.1 h.2) (bare c.self.inside c.args.self.now c.self.view_is c.requires.delivered) h.3) (set c.self.inside.members.items c.args.i (record c.index_mut-party.result.now { node = c.collect.new.node })) c.collect.new.registrar c.args.i l after others left)

pub returns-in_err-collect-clause-keeps : goal.returns-in_err-collect-clause-keeps
returns-in_err-collect-clause-keeps c = still_kept c.self.inside c.args.self.now c.self.view_is c.args.i c.requires.within c.index_mut-party.result.now (record c.index_mut-party.result.now { node = c.collect.new.node }) c.index_mut-party.ensures.value refl

pub returns-clause-keeps : goal.returns-clause-keeps
returns-clause-keeps c = still_kept c.self.inside c.args.self.now c.self.view_is c.args.i c.requires.within c.index_mut-party.result.now (record c.index_mut-party.result.now { node = c.collect.new.node }) c.index_mut-party.ensures.value refl
