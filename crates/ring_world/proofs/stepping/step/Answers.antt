use Rattle.std.proofs.Common.{◌≡◌, suc, List, length, map, Some, ap, sym, subst, ◌∙◌, arith}
use Rattle.std.proofs.lemmas.List.{with_items_is}
use Rattle.ring_rules.specs.Kind.{kind_of, shown_kind}
use Rattle.ring_rules.specs.Event.{by_of, id_of}
use Rattle.ring_copies.specs.Copies.{CopyLink, CopyWorld}
use Rattle.ring_copies.specs.Events.{sort_of, done_in}
use Rattle.ring_world.specs.Shows.{world_of}
use Rattle.ring_world.specs.Copied.{copy_of, state_in, reads_kind, IsThen}
use Rattle.ring_world.proofs.stepping.step.Goals as goal

pub step_at-requires-clause-then : goal.step_at-requires-clause-then
step_at-requires-clause-then c =
    let r = c.args.ring.now in
    let e = c.args.event.now in
    let cs = c.args.copies.now in
    let x = suc c.in-Some.place in
    let many : length c.make_room.new.copies ≡ cs.len = omega (arith, c.make_room.auto.copies, c.deref_mut.ensures.len, ap length c.deref_mut.ensures.value, cs.ok.0) in
    let same = ap (map copy_of) (with_items_is cs c.make_room.new.copies many) ∙ c.in_ok-make_room-in-Some.ensures.same ∙ ap (map copy_of) c.deref_mut.ensures.value in
    subst (λ (ds : List CopyLink). IsThen (done_in (record { ring = world_of r; copies = ds }) (sort_of e) x).ring x (reads_kind (shown_kind (kind_of e)))) (sym same)
    (c.requires.then x (c.in-Some.ensures.place ∙ ap (id_of (world_of r)) c.by.ensures))
