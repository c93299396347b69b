use Rattle.std.proofs.Common.{◌≡◌, suc, ◌≤◌, ◌∷◌, length, map, set, ap, sym, subst, ◌∙◌, arith}
use Rattle.std.proofs.lemmas.List.{with_items_is}
use Rattle.ring_rules.specs.Machine.{no_member, oldest}
use Rattle.ring_world.specs.Shows.{world_of, member_of, member_in, link_of}
use Rattle.ring_rules.specs.Step.{begun}
use Rattle.ring_world.proofs.code.Taken.{begin_ring, same_ring, few_rows}
use Rattle.ring_rules.proofs.code.Errors.{OnErr_of}
use Rattle.ring_world.proofs.taking.begin.Goals as goal

pub take_first-requires-clause-rows : goal.take_first-requires-clause-rows
take_first-requires-clause-rows c =
    subst (λ ss. length (member_in ss c.args.place).rows ≤ suc (length ss)) (sym c.deref_mut.ensures.value) (few_rows c.args.ring.now c.args.place c.requires.runs.placed c.requires.runs.place)

pub returns-clause-ok : goal.returns-clause-ok
returns-clause-ok c =
    let r = c.args.ring.now in
    let place = c.args.place in
    let l = c.index_mut-link.result.now in
    let many : length c.take_first.new.members ≡ r.members.len = omega (arith, c.take_first.auto.members, c.deref_mut.ensures.len, ap length c.deref_mut.ensures.value, r.members.ok.0) in
    ap (λ ss. record (world_of r) { members = no_member ∷ map member_of ss; links = map link_of (set r.links.items c.args.current c.take_first.new.link) }) (with_items_is r.members c.take_first.new.members many)
    ∙ begin_ring r place c.args.current l c.take_first.new.link c.take_first.new.members c.requires.current c.index_mut-link.ensures.value
    (subst (λ ss. map member_of c.take_first.new.members ≡ set (map member_of ss) place (begun (suc (length ss)) (member_in ss place) (oldest (link_of l)))) c.deref_mut.ensures.value c.in_ok-take_first.ensures.members)
    c.in_ok-take_first.ensures.link

pub returns-in_err-take_first-clause-err : goal.returns-in_err-take_first-clause-err
returns-in_err-take_first-clause-err c =
    let r = c.args.ring.now in
    let many : length c.take_first.new.members ≡ r.members.len = omega (arith, c.take_first.auto.members, c.deref_mut.ensures.len, ap length c.deref_mut.ensures.value, r.members.ok.0) in
    let same = ap (λ ss. record (world_of r) { members = no_member ∷ map member_of ss; links = map link_of (set r.links.items c.args.current c.take_first.new.link) }) (with_items_is r.members c.take_first.new.members many)
    ∙ same_ring r c.args.current c.index_mut-link.result.now c.take_first.new.link c.take_first.new.members c.requires.current c.index_mut-link.ensures.value
    (subst (λ ss. map member_of c.take_first.new.members ≡ map member_of ss) c.deref_mut.ensures.value c.in_err-take_first.ensures.err_members) c.in_err-take_first.ensures.err_link in
    OnErr_of c.from_residual.result same
