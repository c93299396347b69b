use Rattle.std.proofs.Common.{◌≡◌, suc, ◌≤◌, ◌∷◌, length, map, get_or, set, ap, sym, subst, ◌∙◌, arith}
use Rattle.std.proofs.lemmas.List.{with_items_is}
use Rattle.ring_rules.specs.Machine.{no_member, oldest}
use Rattle.group_view.specs.Since.{no_group}
use Rattle.ring_world.specs.Shows.{world_of, member_of, member_in, link_of}
use Rattle.ring_rules.specs.Step.{taken, is_owned}
use Rattle.ring_world.proofs.code.Found.{version_some, version_within}
use Rattle.ring_world.proofs.code.Taken.{take_ring, same_ring, few_rows, logs_of}
use Rattle.ring_rules.proofs.code.Errors.{OnErr_of}
use Rattle.ring_world.proofs.taking.take.Goals as goal

pub view_of-view-requires-clause-some : goal.view_of-view-requires-clause-some
view_of-view-requires-clause-some c = version_some c.args.ring.now c.args.place c.index.result.now c.requires.up.placed c.requires.up.place c.index.ensures c.requires.up.up

pub view_of-view-requires-clause-within : goal.view_of-view-requires-clause-within
view_of-view-requires-clause-within c =
    subst (λ vs. c.index.result.now.version ≤ length vs) (sym c.deref.ensures.value) (version_within c.args.ring.now c.args.place c.index.result.now c.requires.up.placed c.requires.up.place c.index.ensures)

pub take_packet-requires-clause-rows : goal.take_packet-requires-clause-rows
take_packet-requires-clause-rows c =
    subst (λ ss. length (member_in ss c.args.place).rows ≤ suc (length ss)) (sym c.deref_mut.ensures.value) (few_rows c.args.ring.now c.args.place c.requires.up.placed c.requires.up.place)

pub returns-clause-ok : goal.returns-clause-ok
returns-clause-ok c =
    let r = c.args.ring.now in
    let place = c.args.place in
    let v = c.view_of-view.result.now in
    let l = c.index_mut-link.result.now in
    let many : length c.take_packet.new.members ≡ r.members.len = omega (arith, c.take_packet.auto.members, c.deref_mut.ensures.len, ap length c.deref_mut.ensures.value, r.members.ok.0) in
    ap (λ ss. record (world_of r) { members = no_member ∷ map member_of ss; links = map link_of (set r.links.items c.args.current c.take_packet.new.link) }) (with_items_is r.members c.take_packet.new.members many)
    ∙ take_ring r place c.args.current c.index.result.now l c.take_packet.new.link v c.take_packet.new.members c.requires.up.place c.index.ensures
    (c.view_of-view.ensures ∙ ap (λ vs. get_or (no_group ∷ vs) c.index.result.now.version no_group) c.deref.ensures.value)
    c.requires.current c.index_mut-link.ensures.value
    (subst (λ ss. map member_of c.take_packet.new.members ≡ set (map member_of ss) place (taken (suc (length ss)) (is_owned v (suc place) l.sender) (logs_of ss) (member_in ss place) (oldest (link_of l)))) c.deref_mut.ensures.value c.in_ok-take_packet.ensures.members)
    c.in_ok-take_packet.ensures.link

pub returns-in_err-take_packet-clause-err : goal.returns-in_err-take_packet-clause-err
returns-in_err-take_packet-clause-err c =
    let r = c.args.ring.now in
    let many : length c.take_packet.new.members ≡ r.members.len = omega (arith, c.take_packet.auto.members, c.deref_mut.ensures.len, ap length c.deref_mut.ensures.value, r.members.ok.0) in
    let same = ap (λ ss. record (world_of r) { members = no_member ∷ map member_of ss; links = map link_of (set r.links.items c.args.current c.take_packet.new.link) }) (with_items_is r.members c.take_packet.new.members many)
    ∙ same_ring r c.args.current c.index_mut-link.result.now c.take_packet.new.link c.take_packet.new.members c.requires.current c.index_mut-link.ensures.value
    (subst (λ ss. map member_of c.take_packet.new.members ≡ map member_of ss) c.deref_mut.ensures.value c.in_err-take_packet.ensures.err_members) c.in_err-take_packet.ensures.err_link in
    OnErr_of c.from_residual.result same
