-- What a member does by itself, by its kind; and whatever is of a kind is refused alike.
use Rattle.std.proofs.Common.{◌≡◌, ℕ, ◌+◌, true, List, Option, refl, sym, ap, ◌∙◌, arith}
use Rattle.ring_names.specs.declared.reason.Reason.{Reason}
use Rattle.ring_rules.specs.declared.event.Event.{Event}
use Rattle.ring_rules.specs.declared.kind.LinkStep.{LinkStep}
use Rattle.ring_rules.specs.declared.kind.Kind.{Kind as ShownKind}
use Rattle.ring_rules.specs.declared.kind.Kind.TheVariants as shown
use Rattle.ring_rules.specs.Kind.{Saying, Kind, Says, kind_of, shown_kind}
use Rattle.ring_rules.specs.Machine.{World, member_at}
use Rattle.ring_rules.specs.Event.{id_of, by_of, refused_as}
use Rattle.ring_rules.proofs.events.Found.{refused_there}
use Rattle.ring_parties.specs.Parties.{Parties, PartiesSeen}
use Rattle.ring_parties.specs.States.{state}
use Rattle.ring_parties.specs.Acting.{is_alone}
use Rattle.ring_parties.specs.Refused.{IsRefusalAt, IsRefusalBy, IsRefusedAs, IsRefusedBy}
use Rattle.ring_parties.proofs.events.After.{lawful_after}

-- what a member does by itself is that it says something, or a step
pub alone_read : (s : ShownKind) → is_alone s ≡ true → (s ≡ shown.Says → ⊥) → ((l : LinkStep) → s ≡ shown.Links l → ⊥) → ⊥
alone_read shown.Says a says links = says refl
alone_read (shown.Links l) a says links = links l refl
alone_read s a says links = cc

-- and what it says is there
pub says_read : (k : Kind) → shown_kind k ≡ shown.Says → (s : Saying) × (k ≡ Says s)
says_read (Says s) e = (s, refl)
says_read k e = cc

-- an event is refused as its kind
pub told_as : (i : ℕ) (e : Event) (q : Parties) (r : Option Reason) → IsRefusedAs i (kind_of e) q r → IsRefusalAt i e q r
told_as i e q r h credit names events s at =
    h credit names events s at.0
    ∙ sym (refused_there (state credit names events) (i + 1) e (ap (id_of (state credit names events)) at.1 ∙ (lawful_after credit names events s.journal).fit.named (i + 1) (omega arith) at.0))

-- by all that the parties keep
pub told_by : (i : ℕ) (e : Event) (p : PartiesSeen) (r : Option Reason) → IsRefusedBy i (kind_of e) p r → IsRefusalBy i e p r
told_by i e p r h credit names events s keeps at =
    h credit names events s keeps at.0
    ∙ sym (refused_there (state credit names events) (i + 1) e (ap (id_of (state credit names events)) at.1 ∙ (lawful_after credit names events s.journal).fit.named (i + 1) (omega arith) at.0))

-- what is told whatever they keep
pub told_anyhow : (i : ℕ) (e : Event) (p : PartiesSeen) (r : Option Reason) → IsRefusalAt i e p.all r → IsRefusalBy i e p r
told_anyhow i e p r h credit names events s keeps at = h credit names events s at

-- and a kind as the events by which it is done
pub as_told : (i : ℕ) (done : List ℕ → Event) (k : Kind) (p : PartiesSeen) (r : Option Reason) → ((by : List ℕ) → (by_of (done by) ≡ by) × (kind_of (done by) ≡ k)) → ((by : List ℕ) → IsRefusalBy i (done by) p r) → IsRefusedBy i k p r
as_told i done k p r are told credit names events s keeps lt =
    let w : World = state credit names events in
    let by : List ℕ = (member_at w (i + 1)).name in
    told by credit names events s keeps (lt, (are by).0)
    ∙ refused_there w (i + 1) (done by) (ap (id_of w) (are by).0 ∙ (lawful_after credit names events s.journal).fit.named (i + 1) (omega arith) lt)
    ∙ ap (refused_as w (i + 1)) (are by).1
