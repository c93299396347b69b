use Rattle.std.proofs.Common.{◌≡◌, suc, ◌≤◌, ◌∷◌, true, false, Some, None, get_or, map, length, sym, ap, subst, ◌∙◌, arith}
use Rattle.std.proofs.lemmas.Bool.{false≢true}
use Rattle.ring_copies.specs.Copies.{is_blocked_at, let_go}
use Rattle.group_view.specs.Since.{no_group}
use Rattle.ring_world.specs.Shows.{world_of}
use Rattle.ring_world.specs.Copied.{copy_of, after_flags, followed_copy}
use Rattle.ring_world.proofs.code.Found.{version_within, same_version}
use Rattle.ring_world.proofs.code.Steps.{halted_all, read_all}
use Rattle.ring_world.proofs.stepping.after.Goals as goal
use Rattle.ring_world.proofs.stepping.after.Goals.{then-stops-via-then-stops, then-stops-via-else-stops+then-not-reads}

pub returns-then-stops : goal.returns-then-stops
returns-then-stops c =
    let w = world_of c.args.ring.now in
    let x = suc c.args.place in
    let cs = map copy_of c.args.copies.now in
    c.follow.ensures
    ∙ ap (λ b. map (followed_copy c.args.stops None b c.id_at-id.result) cs) c.is_blocked-blocked.ensures
    ∙ ap (λ y. map (followed_copy c.args.stops None (is_blocked_at w x) y) cs) c.id_at-id.ensures
    ∙ halted_all c.args.stops c.args.reads (is_blocked_at w x) w x cs none
  where
    none : c.args.stops ≡ false → c.args.reads ≡ false
    none h = elim c.then-stops.branch [ then-stops-via-then-stops v ↦ absurd (false≢true (sym h ∙ v.if-stops.true)) | then-stops-via-else-stops+then-not-reads v ↦ v.if-not-reads.true ]

pub view_of-requires-clause-some : goal.view_of-requires-clause-some
view_of-requires-clause-some c = omega (arith, same_version c.args.ring.now c.args.place c.index.result.now c.requires.placed.place c.index.ensures, c.requires.placed.placed.from_one (suc c.args.place) (c.requires.runs c.if-not-reads.false))

pub view_of-requires-clause-within : goal.view_of-requires-clause-within
view_of-requires-clause-within c = subst (λ vs. c.index.result.now.version ≤ length vs) (sym c.deref.ensures.value) (version_within c.args.ring.now c.args.place c.index.result.now c.requires.placed.placed c.requires.placed.place c.index.ensures)

pub returns : goal.returns
returns c =
    let w = world_of c.args.ring.now in
    let x = suc c.args.place in
    let cs = map copy_of c.args.copies.now in
    let g = c.view_of.result.now in
    let is = c.view_of.ensures
    ∙ ap (λ vs. get_or (no_group ∷ vs) c.index.result.now.version no_group) c.deref.ensures.value
    ∙ ap (λ v. get_or (no_group ∷ c.args.ring.now.views.items) v no_group) (same_version c.args.ring.now c.args.place c.index.result.now c.requires.placed.place c.index.ensures) in
    c.follow-2.ensures
    ∙ ap (λ b. map (followed_copy false (Some g) b c.id_at-id.result) cs) c.is_blocked-blocked.ensures
    ∙ ap (λ y. map (followed_copy false (Some g) (is_blocked_at w x) y) cs) c.id_at-id.ensures
    ∙ read_all g (is_blocked_at w x) w x cs is
    ∙ ap (λ b. let_go (is_blocked_at w x) x (after_flags b true w x cs)) (sym c.if-stops.false)
    ∙ ap (λ b. let_go (is_blocked_at w x) x (after_flags c.args.stops b w x cs)) (sym c.if-not-reads.false)
