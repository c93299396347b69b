use Rattle.std.proofs.Common.{◌≡◌, None, refl, sym, subst, ◌∙◌, arith, rules}
use Rattle.std.proofs.lemmas.Grind.{common_steps}
use Rattle.ring_copies.specs.Runs.{refusal}
use Rattle.ring_world.specs.Reached.{with_copies, seen_of}
use Rattle.ring_world.specs.Copied.{state_in}
use Rattle.ring_world.proofs.code.Steps.{no_reason}
use Rattle.ring_world.proofs.code.Running.{running_ready, running_copied, running_then, running_more}
use Rattle.ring_world.proofs.code.HeldLaws.{lawful_more}
use Rattle.ring_world.proofs.code.HeldQueue.{mirrors_more, confirmed_more}
use Rattle.ring_world.proofs.world.World.apply.Goals as goal

pub happen-requires-clause-enabled : goal.happen-requires-clause-enabled
happen-requires-clause-enabled c = subst (λ seen. refusal (with_copies seen) c.args.event.now ≡ None) (sym c.self.view_is) (no_reason _ c.in_default.field-0 (sym c.enabled.ensures ∙ c.in_default.is))

pub happen-requires-clause-ready : goal.happen-requires-clause-ready
happen-requires-clause-ready c = running_ready c.self.inside c.self.invariant

pub happen-requires-clause-copied : goal.happen-requires-clause-copied
happen-requires-clause-copied c = running_copied c.self.inside c.self.invariant

pub happen-requires-clause-then : goal.happen-requires-clause-then
happen-requires-clause-then c = running_then c.self.inside c.args.event.now c.self.invariant (subst (λ seen. refusal (with_copies seen) c.args.event.now ≡ None) (sym c.self.view_is) (no_reason _ c.in_default.field-0 (sym c.enabled.ensures ∙ c.in_default.is)))

pub invariant_of-self-2 : goal.invariant_of-self-2
invariant_of-self-2 c =
    let may = subst (λ seen. refusal (with_copies seen) c.args.event.now ≡ None) (sym c.self.view_is) (no_reason _ c.in_default.field-0 (sym c.enabled.ensures ∙ c.in_default.is)) in
    running_more (seen_of c.self.inside) c.self.inside.applied _ c.args.event.now c.self.invariant.reached may (grind (arith, common_steps)) (grind (arith, common_steps)) refl (omega arith)

pub returns-clause-lawful : goal.returns-clause-lawful
returns-clause-lawful c =
    let may = subst (λ seen. refusal (with_copies seen) c.args.event.now ≡ None) (sym c.self.view_is) (no_reason _ c.in_default.field-0 (sym c.enabled.ensures ∙ c.in_default.is)) in
    lawful_more (seen_of c.self.inside) _ c.self.inside.applied c.args.event.now c.self.invariant.reached may (grind (arith, common_steps))

pub returns-clause-mirrors : goal.returns-clause-mirrors
returns-clause-mirrors c =
    let may = subst (λ seen. refusal (with_copies seen) c.args.event.now ≡ None) (sym c.self.view_is) (no_reason _ c.in_default.field-0 (sym c.enabled.ensures ∙ c.in_default.is)) in
    mirrors_more (seen_of c.self.inside) (state_in c.happen.new.ring c.happen.new.copies.items) c.self.inside.applied c.args.event.now c.self.invariant.reached c.self.invariant.few may (grind (arith, common_steps))

pub returns-clause-confirmed : goal.returns-clause-confirmed
returns-clause-confirmed c =
    let may = subst (λ seen. refusal (with_copies seen) c.args.event.now ≡ None) (sym c.self.view_is) (no_reason _ c.in_default.field-0 (sym c.enabled.ensures ∙ c.in_default.is)) in
    confirmed_more (seen_of c.self.inside) (state_in c.happen.new.ring c.happen.new.copies.items) c.self.inside.applied c.args.event.now c.self.invariant.reached c.self.invariant.few may (grind (arith, common_steps))
