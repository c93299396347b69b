use Rattle.std.proofs.Common.{◌≡◌, suc, ◌-◌, ◌<◌, Some, sym, ap, subst, ◌∙◌, arith}
use Rattle.ring_rules.specs.Event.{id_of}
use Rattle.ring_rules.specs.Machine.{member_at}
use Rattle.ring_rules.specs.Step.{size}
use Rattle.ring_world.specs.Reached.{state_of}
use Rattle.ring_world.proofs.code.HeldLaws.{name_found}
use Rattle.ring_world.proofs.world.World.name_of.Goals as goal

pub returns-clause-found : goal.returns-clause-found
returns-clause-found c =
    let a = c.self.inside in
    let x = c.args.id.0 in
    let is : suc (x - 1) ≡ x = omega (arith, c.requires.some) in
    subst (λ seen. id_of seen.ring c.name_at.result.now ≡ Some x) c.self.view_is
    (ap (id_of (state_of a)) (c.name_at.ensures ∙ ap (λ k. (member_at (state_of a) k).name) is)
    ∙ name_found a x c.self.invariant c.requires.some (subst (λ seen. x < size seen.ring) (sym c.self.view_is) c.requires.there))
