-- Why an event is refused, by what the parties show.
use Rattle.std.specs.Prelude.{◌≡◌, ℕ, ◌+◌, ◌-◌, ◌<◌, ◌&&◌, ◌||◌, Bool, cond, not, nat_le, bytes_eq, List, [], ◌∷◌, length, Option, Some, None, map, option_map, position, is_some}
use Rattle.std.specs.List.{filter}
use Rattle.ring_names.specs.declared.reason.Reason.{Reason}
use Rattle.ring_names.specs.declared.reason.Reason.TheVariants as reason
use Rattle.ring_names.specs.declared.numbers.CreditSpec.{CreditSpec}
use Rattle.group_view.specs.View.{Group}
use Rattle.group_view.specs.Change.{is_taken, most_entries}
use Rattle.ring_rules.specs.declared.event.Event.{Event}
use Rattle.ring_rules.specs.declared.event.Client.{Client}
use Rattle.ring_rules.specs.declared.kind.ViewChange.TheVariants as change
use Rattle.ring_rules.specs.Kind.{Kind, Changes, Reads, Tells}
use Rattle.ring_rules.specs.Refusal.{refuse_if, or_else}
use Rattle.ring_rules.specs.Step.{size}
use Rattle.ring_rules.specs.Kind.{kind_of}
use Rattle.ring_rules.specs.Event.{event_of, refusal, refused_as, is_told}
use Rattle.registrar.specs.declared.waiting_link.WaitingLink.{WaitingLink}
use Rattle.registrar.specs.Registry.{Registry}
use Rattle.registrar.specs.Asked.{mark_refusal, erase_refusal, synced_refusal}
use Rattle.activity.specs.Kept.{got_of}
use Rattle.gm_member.specs.Packets.{known_at}
use Rattle.gm_member.specs.Held.{Held, at_some, up_refused, first_at_door, is_for, collected_held}
use Rattle.ring_parties.specs.Ends.{InSeen}
use Rattle.ring_parties.specs.Parties.{Shown, Keeps, Deposit, Parties, PartiesSeen, node_at}
use Rattle.ring_parties.specs.States.{state, IsEventIn}
use Rattle.ring_parties.specs.Keeps.{KeepsStand}
use Rattle.ring_parties.specs.Standing.{StandAfter}
use Rattle.ring_parties.specs.Acting.{waits_at, received, alone_refused, look_refused, newest_of}

-- the id of the member of that name
abbrev pub id_named : Parties → List ℕ → Option ℕ
id_named q name = option_map (λ i. i + 1) (position (λ m. bytes_eq m.held.name name) q.nodes)

-- no link waits for x
abbrev pub NothingWaits : ℕ → Parties → Type 0
NothingWaits x q = filter (waits_at x) q.deposits ≡ []

-- a link that waits at the registrar, by what it shows
abbrev pub waiting_link_of : Deposit → WaitingLink InSeen
waiting_link_of d = record { name = d.name; link = d.end }

-- what the registrar keeps, by what the parties show
abbrev pub office_of : Parties → Registry InSeen
office_of q = record { views = q.views; stopped = q.stopped; links = map waiting_link_of q.deposits }

-- why a member doesn't have d marked dead by the registrar that keeps r; where nobody has the name of the one to be marked, as such
abbrev pub mark_refused : {I : Type 0} → Registry I → Shown → Option ℕ → Option Reason
mark_refused r m None = up_refused m.held (Some reason.UnknownMember)
mark_refused r m (Some d) = up_refused m.held (mark_refusal r m.held.id d m.held.view.version (is_some m.held.current || is_some (first_at_door m.held)))

-- why it doesn't have p erased by it
abbrev pub erase_refused : {I : Type 0} → Registry I → Shown → Option ℕ → Option Reason
erase_refused r m None = up_refused m.held (Some reason.UnknownMember)
erase_refused r m (Some p) = up_refused m.held
    (erase_refusal r m.held.id p (got_of (known_at m.held.known (p - 1))) (known_at m.held.known (p - 1)).retired m.held.view.version)

-- why it isn't registered by it as synchronised, where its party keeps that
abbrev pub synced_refused : {I : Type 0} → Registry I → Keeps → Shown → Option Reason
synced_refused r keeps m = up_refused m.held (synced_refusal r m.held.id keeps.mirror.missing)

-- why nobody is admitted under a name, by the newest view
abbrev pub admission_refused : Group → List ℕ → Option Reason
admission_refused g name =
    or_else (refuse_if (is_taken g.entries name) reason.NameTaken) (refuse_if (nat_le most_entries (length g.entries)) reason.TooManyMembers)

-- why a member doesn't do what a client asks, where this is the newest view: of such a kind
abbrev pub asked_refused : Group → Keeps → Kind → Shown → Option Reason
asked_refused g keeps (Changes (change.Admit name)) m = up_refused m.held (admission_refused g name)
asked_refused g keeps k m = alone_refused k keeps m

-- and by what the client asks
abbrev pub client_refused : Group → Keeps → Client → Shown → Option Reason
client_refused g keeps inner m = asked_refused g keeps (kind_of (event_of inner)) m

-- why it doesn't tell the client so with this number
abbrev pub telling_refused : Group → Keeps → ℕ → Client → Shown → Option Reason
telling_refused g keeps code inner m = refuse_if (not (is_told code (client_refused g keeps inner m))) reason.NotRefused

-- why it doesn't do what makes no view, where this is the newest
abbrev pub own_refused : Group → Keeps → Kind → Shown → Option Reason
own_refused g keeps (Reads version) m = look_refused g.version m version
own_refused g keeps (Tells code inner) m = telling_refused g keeps code inner m
own_refused g keeps k m = alone_refused k keeps m

-- the first failing condition of what the member at place i, whose party keeps that, does of a kind
abbrev pub act_refused : Kind → Keeps → ℕ → Parties → Option Reason
act_refused (Changes (change.Mark dead)) keeps i q = mark_refused (office_of q) (node_at q i) (id_named q dead)
act_refused (Changes (change.Erase origin)) keeps i q = erase_refused (office_of q) (node_at q i) (id_named q origin)
act_refused (Changes (change.Admit name)) keeps i q = up_refused (node_at q i).held (admission_refused (newest_of q) name)
act_refused (Changes change.Register) keeps i q = synced_refused (office_of q) keeps (node_at q i)
act_refused k keeps i q = own_refused (newest_of q) keeps k (node_at q i)

-- the id of the one that is to be marked or erased
abbrev pub marked_in : Kind → Parties → ℕ
marked_in (Changes (change.Mark dead)) q = at_some (id_named q dead) 0 (λ d. d)
marked_in (Changes (change.Erase origin)) q = at_some (id_named q origin) 0 (λ d. d)
marked_in k q = 0

-- ---- before the member has collected what waits for it

-- h, with those of these links at its door that wait for it and that it keeps
abbrev pub with_deposits : Held → List Deposit → Held
with_deposits h ps = collected_held h (map (received h) (filter (waits_at h.id) ps))

-- whether a link waits for the member, and comes from its left neighbour, which was that already when the link opened
abbrev pub comes_for : Held → Deposit → Bool
comes_for h d = waits_at h.id d && is_for h.view h.id (received h d)

-- in which version of its sender's view the first of these links opened that does
abbrev pub first_for : Held → List Deposit → Option ℕ
first_for h [] = None
first_for h (d ∷ ps) = cond (comes_for h d) (Some d.name.view) (first_for h ps)

-- wherever these parties stand, this is the first failing condition of an event of the member at a place
abbrev pub IsRefusalAt : ℕ → Event → Parties → Option Reason → Type 0
IsRefusalAt i e q r = (credit : CreditSpec) (names : List (List ℕ)) (events : List Event) → StandAfter credit names events q → IsEventIn (state credit names events) i e → r ≡ refusal (state credit names events) e

-- the same by all that they keep
abbrev pub IsRefusalBy : ℕ → Event → PartiesSeen → Option Reason → Type 0
IsRefusalBy i e p r = (credit : CreditSpec) (names : List (List ℕ)) (events : List Event) → StandAfter credit names events p.all → KeepsStand (state credit names events) p.keeps → IsEventIn (state credit names events) i e → r ≡ refusal (state credit names events) e

-- wherever they stand, this is the first failing condition of what the member at a place does of a kind
abbrev pub IsRefusedAs : ℕ → Kind → Parties → Option Reason → Type 0
IsRefusedAs i k q r = (credit : CreditSpec) (names : List (List ℕ)) (events : List Event) → StandAfter credit names events q → i + 1 < size (state credit names events) → r ≡ refused_as (state credit names events) (i + 1) k

-- the same by all that they keep
abbrev pub IsRefusedBy : ℕ → Kind → PartiesSeen → Option Reason → Type 0
IsRefusedBy i k p r = (credit : CreditSpec) (names : List (List ℕ)) (events : List Event) → StandAfter credit names events p.all → KeepsStand (state credit names events) p.keeps → i + 1 < size (state credit names events) → r ≡ refused_as (state credit names events) (i + 1) k
