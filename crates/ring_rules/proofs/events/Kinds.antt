-- By whom an event happens and of which kind it is: one that a client asks, and a step. What a kind tells of its event, and
-- what is read of a kind.
use Rattle.std.proofs.Common.{◌≡◌, ℕ, List, Some, refl, sym, ap, subst}
use Rattle.ring_rules.specs.declared.event.Event.{Event}
use Rattle.ring_rules.specs.declared.event.Event.TheVariants.{Admit, Refuse}
use Rattle.ring_rules.specs.declared.event.Client.{Client}
use Rattle.ring_rules.specs.declared.event.Client.TheVariants as client
use Rattle.ring_rules.specs.declared.kind.LinkStep.{LinkStep}
use Rattle.ring_rules.specs.declared.kind.LinkStep.TheVariants as step
use Rattle.ring_rules.specs.declared.kind.ViewChange.TheVariants as change
use Rattle.ring_rules.specs.declared.kind.Kind.{Kind as ShownKind}
use Rattle.ring_rules.specs.declared.kind.Kind.TheVariants as shown
use Rattle.ring_rules.specs.Kind.{Saying, Own, Kind, Says, Steps, Copying, Changes, Stops, Reads, Tells, kind_of, own_body_of, shown_kind, step_event}
use Rattle.ring_rules.specs.Event.{event_of, asked_of, by_of}

-- ---- what a client asks

-- by whose event it is done
pub event_by : (c : Client) → by_of (event_of c) ≡ asked_of c
event_by (client.Cast by body) = refl
event_by c = refl

-- ---- a step on the links

-- by whose event it is done
pub step_by : (s : LinkStep) (by : List ℕ) → by_of (step_event s by) ≡ by
step_by step.Pick by = refl
step_by step.Take by = refl
step_by step.TakeEnd by = refl
step_by step.Gain by = refl
step_by step.Put by = refl

-- and of which kind that is
pub step_kind : (s : LinkStep) (by : List ℕ) → kind_of (step_event s by) ≡ Steps s
step_kind step.Pick by = refl
step_kind step.Take by = refl
step_kind step.TakeEnd by = refl
step_kind step.Gain by = refl
step_kind step.Put by = refl

-- ---- what a kind tells of its event

-- an event of the kind of an admission is one
pub admits : (e : Event) (name : List ℕ) → kind_of e ≡ Changes (change.Admit name) → e ≡ Admit (by_of e) name
admits (Admit by newcomer) name h = let same : newcomer ≡ name = cc in ap (Admit by) same
admits e name h = cc

-- only a refusal tells
pub only_refuses : (e : Event) → shown_kind (kind_of e) ≡ shown.Tells → ((code : ℕ) (inner : Client) → e ≡ Refuse code inner → ⊥) → ⊥
only_refuses (Refuse code inner) s other = other code inner refl
only_refuses e s other = cc

-- ---- what a member says of its own

-- where there is a body, a message with it is said
pub own_says : (k : Kind) (body : List ℕ) → own_body_of k ≡ Some body → k ≡ Says (Own body)
own_says (Says (Own other)) body h = let same : other ≡ body = cc in ap (λ b. Says (Own b)) same
own_says k body h = cc

-- ---- what is read of a kind

-- the kinds of which this is read
abbrev pub IsOf : ShownKind → Kind → Type 0
IsOf shown.Says k = (s : Saying) × (k ≡ Says s)
IsOf (shown.Links s) k = k ≡ Steps s
IsOf (shown.Copies s) k = k ≡ Copying s
IsOf (shown.Changes c) k = k ≡ Changes c
IsOf shown.Stops k = k ≡ Stops
IsOf (shown.Reads version) k = k ≡ Reads version
IsOf shown.Tells k = (code : ℕ) × (inner : Client) × (k ≡ Tells code inner)

is_of : (k : Kind) → IsOf (shown_kind k) k
is_of (Says s) = (s, refl)
is_of (Steps s) = refl
is_of (Copying s) = refl
is_of (Changes c) = refl
is_of Stops = refl
is_of (Reads version) = refl
is_of (Tells code inner) = (code, inner, refl)

pub kind_read : (k : Kind) (s : ShownKind) → s ≡ shown_kind k → IsOf s k
kind_read k s e = subst (λ t. IsOf t k) (sym e) (is_of k)
