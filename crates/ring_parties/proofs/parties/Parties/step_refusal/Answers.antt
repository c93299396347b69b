use Rattle.std.proofs.Common.{◌≡◌, ℕ, ◌+◌, List, Option, refl, ap, sym, subst, ◌∙◌}
use Rattle.ring_names.specs.declared.reason.Reason.{Reason}
use Rattle.ring_rules.specs.declared.kind.LinkStep.{LinkStep}
use Rattle.ring_rules.specs.declared.kind.LinkStep.TheVariants as step
use Rattle.ring_rules.specs.Kind.{Steps, step_event}
use Rattle.ring_rules.specs.Event.{refused_as}
use Rattle.ring_rules.proofs.events.Kinds.{step_kind}
use Rattle.ring_parties.specs.Acting.{step_refused}
use Rattle.ring_parties.specs.Parties.{Parties}
use Rattle.ring_parties.specs.States.{state}
use Rattle.ring_parties.specs.Refused.{IsRefusalAt, IsRefusedAs}
use Rattle.ring_parties.proofs.events.Kinds.{told_as}
use Rattle.ring_parties.proofs.events.Refusals.{IsOwn}
use Rattle.ring_parties.proofs.events.Reads.{step_reads, pick_reads}
use Rattle.ring_parties.proofs.deposits.Delivered.{shown_is, asks_nothing}
use Rattle.ring_parties.proofs.parties.Parties.step_refusal.Goals as goal

-- a step is refused as it is whoever does it
told : (i : ℕ) (s : LinkStep) (q : Parties) (r : Option Reason) → IsRefusedAs i (Steps s) q r → (by : List ℕ) → IsRefusalAt i (step_event s by) q r
told i s q r h by = told_as i (step_event s by) q r (subst (λ k. IsRefusedAs i k q r) (sym (step_kind s by)) h)

-- one that is no pick needs no more
own_step : (s : LinkStep) (x : ℕ) (q : Parties) → (s ≡ step.Pick → ⊥) → IsOwn (Steps s) x q
own_step step.Pick x q other = absurd (other refl)
own_step s x q other = tt

pub own_step_refusal-requires : goal.own_step_refusal-requires
own_step_refusal-requires c = asks_nothing c.self.inside c.args.self.now c.self.view_is c.requires.standing c.args.i c.requires.within c.index.result.now c.index.ensures

pub returns-in-Pick : goal.returns-in-Pick
returns-in-Pick c = told c.args.i c.args.step (c.args.self.now).all _ (λ credit names events s lt.
    c.pick_refusal.ensures ∙ pick_reads credit names events (c.args.self.now).all s c.args.i lt ∙ ap (λ k. refused_as (state credit names events) (c.args.i + 1) (Steps k)) (sym c.in-Pick.is))

pub returns-in_default : goal.returns-in_default
returns-in_default c = told c.args.i c.args.step (c.args.self.now).all _ (λ credit names events s lt.
    c.own_step_refusal.ensures
    ∙ ap (step_refused c.args.step) (shown_is c.self.inside c.args.self.now c.self.view_is c.args.i c.requires.within c.index.result.now c.index.ensures)
    ∙ step_reads credit names events (c.args.self.now).all s c.args.i lt c.args.step (own_step c.args.step (c.args.i + 1) (c.args.self.now).all c.in_default.not-Pick))
