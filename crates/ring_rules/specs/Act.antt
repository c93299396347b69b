-- What members do in the ring: their events, and what a copy of the queue makes of a mirror.
use Rattle.std.specs.Prelude.{◌≡◌, ℕ, List, [], ◌∷◌, Option, None, ⊤}
use Rattle.queue_mirror.specs.Mirror.{MirrorState}
use Rattle.ring_names.specs.declared.reason.Reason.{Reason}
use Rattle.ring_rules.specs.Machine.{World}
use Rattle.ring_rules.specs.Step.{copied_at}
use Rattle.ring_rules.specs.Event.{Event, Kind, kind_of, by_of, id_of, of_member, at_found, up_refusal, missing_refusal, refused_as, done_as}

-- what a member does: an event of this kind; or its mirror becomes this one, which a copy of the master's queue has made
pub data Deed : Type 0 where
  OfKind : Kind → Deed
  Copies : MirrorState → Deed

-- and who does it
pub record Act : Type 0 where
  pub by : List ℕ
  pub deed : Deed

-- an event is one
abbrev pub act_of : Event → Act
act_of e = record { by = by_of e; deed = OfKind (kind_of e) }

-- the first failing condition of what member x does: a copy makes a mirror that misses nothing, of a member that is up
abbrev pub deed_refusal : World → ℕ → Deed → Option Reason
deed_refusal w x (OfKind k) = refused_as w x k
deed_refusal w x (Copies m) = up_refusal w x (missing_refusal m.missing)

-- what it does
abbrev pub deed_done : World → ℕ → Deed → World
deed_done w x (OfKind k) = done_as w x k
deed_done w x (Copies m) = copied_at w x m

-- the first failing condition of an act, if one fails
abbrev pub refusal : World → Act → Option Reason
refusal w a = of_member (id_of w a.by) (λ x. deed_refusal w x a.deed)

-- the state after it
abbrev pub effect : World → Act → World
effect w a = at_found (id_of w a.by) w (λ x. deed_done w x a.deed)

-- each act is enabled where the earlier ones leave the ring
abbrev pub IsRun : World → List Act → Type 0
IsRun w [] = ⊤
IsRun w (a ∷ acts) = (refusal w a ≡ None) × IsRun (effect w a) acts

-- the state after all of them
abbrev pub last : World → List Act → World
last w [] = w
last w (a ∷ acts) = last (effect w a) acts

-- what is known of a mirror that a copy makes, C, is known where member x's is one
abbrev pub DeedIs : (ℕ → MirrorState → Type 0) → ℕ → Deed → Type 0
DeedIs C x (OfKind k) = ⊤
DeedIs C x (Copies m) = C x m
