use Rattle.std.proofs.Common.{◌≡◌, suc, ◌+◌, ◌<◌, ◌∷◌, [], map, None, ap, sym, subst, ◌∙◌, arith}
use Rattle.std.proofs.lemmas.Grind.{common_steps}
use Rattle.std.proofs.lemmas.List.{length-map, map-append}
use Rattle.group_view.specs.Change.{admit_refusal as group_refusal}
use Rattle.ring_rules.specs.Machine.{no_member, newest}
use Rattle.ring_rules.specs.Step.{size, with_view, admitted_view}
use Rattle.ring_rules.specs.Event.{refreshed}
use Rattle.ring_world.specs.Shows.{world_of, member_of}
use Rattle.ring_world.proofs.code.Joins.{with_joiner, admitted_state}
use Rattle.ring_rules.proofs.code.Looks.{nobody_refuses_admitting}
use Rattle.ring_world.proofs.joining.admit.Goals as goal

pub after_admitting-requires : goal.after_admitting-requires
after_admitting-requires c =
    let w = world_of c.args.ring.now in
    let x = suc c.args.place in
    subst (λ m. group_refusal c.newest_view.result.now.entries m c.args.name.now ≡ None) (sym c.id_at.ensures)
    (subst (λ g. group_refusal g.entries x c.args.name.now ≡ None) (sym c.newest_view.ensures)
    (nobody_refuses_admitting w x c.args.name.now (c.requires.ready.ready.lives x c.requires.up) c.requires.enabled))

pub change-requires-clause-more : goal.change-requires-clause-more
change-requires-clause-more c = c.requires.ready.ready.admits (suc c.args.place) c.args.name.now c.requires.up c.requires.enabled

pub returns-clause-ok : goal.returns-clause-ok
returns-clause-ok c =
    let r = c.args.ring.now in
    let w = world_of r in
    let x = suc c.args.place in
    let u = world_of c.change.new.ring in
    let j = c.in_ok-joiner.joiner in
    let before : world_of (record r { members = c.reserve.new.self }) ≡ w = ap (λ ss. record w { members = no_member ∷ map member_of ss }) c.reserve.ensures.items in
    let lt : x < size w = omega (arith, length-map r.members.items member_of, c.requires.ready.place) in
    let next : c.in_ok-next.next ≡ admitted_view w x c.args.name.now = grind (arith, common_steps) in
    let after : u ≡ refreshed (with_view w c.in_ok-next.next) x (newest w + 1) = subst (λ z. u ≡ refreshed (with_view z c.in_ok-next.next) x (newest z + 1)) before c.in_ok-change.ensures.ok in
    ap (λ ss. record u { members = no_member ∷ map member_of ss }) c.push_reserved.ensures.items
    ∙ ap (λ ms. record u { members = no_member ∷ ms }) (map-append member_of c.change.new.ring.members.items (j ∷ []))
    ∙ ap (with_joiner u) c.in_ok-joiner.ensures
    ∙ admitted_state w u x c.args.name.now c.in_ok-next.next lt next after
