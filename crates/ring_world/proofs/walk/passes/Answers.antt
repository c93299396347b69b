use Rattle.std.proofs.Common.{◌≤◌, ◌∷◌, suc, length, get_or, max, ap, sym, subst, ◌∙◌}
use Rattle.group_view.specs.Since.{no_group}
use Rattle.ring_world.specs.Walking.{is_from_left}
use Rattle.ring_rules.specs.Machine.{member_at}
use Rattle.ring_world.specs.Shows.{world_of, link_of}
use Rattle.ring_world.proofs.code.Found.{tested_some, tested_within, same_version}
use Rattle.ring_world.proofs.walk.passes.Goals as goal

pub view_of-requires-clause-some : goal.view_of-requires-clause-some
view_of-requires-clause-some c = subst (λ n. 1 ≤ n) (sym c.max-version.ensures) (tested_some c.args.ring.now c.args.place c.index.result.now c.args.link.now.opened c.requires.runs.placed c.requires.runs.place c.index.ensures c.requires.runs.runs)

pub view_of-requires-clause-within : goal.view_of-requires-clause-within
view_of-requires-clause-within c =
    subst (λ vs. c.max-version.result ≤ length vs) (sym c.deref.ensures.value) (subst (λ n. n ≤ length c.args.ring.now.views.items) (sym c.max-version.ensures)
    (tested_within c.args.ring.now c.args.place c.index.result.now c.args.link.now.opened c.requires.runs.placed c.requires.runs.place c.index.ensures c.requires.opened))

pub returns : goal.returns
unfolding Rattle.ring_rules.specs.View.left_by
returns c =
    c.comes_from_left.ensures
    ∙ ap (λ v. is_from_left v c.id_at.result (link_of c.args.link.now)) (c.view_of.ensures ∙ ap (λ vs. get_or (no_group ∷ vs) c.max-version.result no_group) c.deref.ensures.value)
    ∙ ap (λ n. is_from_left (get_or (no_group ∷ c.args.ring.now.views.items) n no_group) c.id_at.result (link_of c.args.link.now)) (c.max-version.ensures ∙ ap (λ n. max n c.args.link.now.opened) (same_version c.args.ring.now c.args.place c.index.result.now c.requires.runs.place c.index.ensures))
    ∙ ap (λ i. is_from_left (get_or (no_group ∷ c.args.ring.now.views.items) (max ((member_at (world_of c.args.ring.now) (suc c.args.place)).version) c.args.link.now.opened) no_group) i (link_of c.args.link.now)) c.id_at.ensures
