use Rattle.std.proofs.Common.{◌≡◌, ◌+◌, ◌-◌, subst, arith}
use Rattle.ring_rules.specs.declared.kind.LinkStep.TheVariants as step
use Rattle.ring_cluster.specs.Seen.{state_of}
use Rattle.ring_cluster.specs.Turns.{MayStep}
use Rattle.ring_cluster.proofs.rounds.Asking.{steps_nowhere}
use Rattle.ring_cluster.proofs.driver.next_step.Goals as goal

pub returns : goal.returns
returns c =
    let w = state_of c.args.cluster.now in
    let back : c.args.id.0 - 1 + 1 ≡ c.args.id.0 = omega (arith, c.requires.0) in
    steps_nowhere w c.args.id.0
    (subst (λ y. MayStep w y step.Pick → ⊥) back (c.may_step.ensures.may_not c.if-may_step.false))
    (subst (λ y. MayStep w y step.Take → ⊥) back (c.may_step-2.ensures.may_not c.if-may_step-2.false))
    (subst (λ y. MayStep w y step.TakeEnd → ⊥) back (c.may_step-3.ensures.may_not c.if-may_step-3.false))
    (subst (λ y. MayStep w y step.Gain → ⊥) back (c.may_step-4.ensures.may_not c.if-may_step-4.false))
    (subst (λ y. MayStep w y step.Put → ⊥) back (c.may_step-5.ensures.may_not c.if-may_step-5.false))
