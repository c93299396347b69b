-- When a member stands in a state of the ring.
use Rattle.std.specs.Prelude.{◌≡◌, ℕ, zero, suc, ◌+◌, ◌<◌, ◌≤◌, ◌∷◌, ◌++◌, Bool, false, ◌&&◌, cond, nat_eq, List, [], length, map, Option, Some, None, option_map, Ok}
use Rattle.std.specs.List.{filter, range_with_len}
use Rattle.queue_core.specs.declared.message.Message.{Message}
use Rattle.ring_names.specs.declared.numbers.CreditSpec.{CreditSpec}
use Rattle.credit_flow.specs.Link.{oldest as oldest_grant}
use Rattle.group_view.specs.View.{Group, as_id}
use Rattle.group_view.specs.Change.{AreOpeningNames, marked}
use Rattle.ring_rules.specs.declared.event.Event.{Event}
use Rattle.ring_rules.specs.declared.numbers.Numbers.{Numbers}
use Rattle.ring_rules.specs.Rows.{Row, most_members, messages_between}
use Rattle.ring_rules.specs.declared.phase.Phase.TheVariants.{Waiting}
use Rattle.ring_rules.specs.Refusal.{is_empty}
use Rattle.ring_rules.specs.View.{right_of}
use Rattle.ring_rules.specs.Compact.{has_line}
use Rattle.ring_rules.specs.Machine.{World, Packet, Sending, row_at, numbers_at, member_at, link_at, view_in, newest, is_waiting, oldest}
use Rattle.ring_rules.specs.OpenLinks.{is_door_link, passes}
use Rattle.ring_rules.specs.Step.{size, log_of, is_owned, next_packet, admitted_view, opening}
use Rattle.ring_rules.specs.Event.{Saying, Says, kind_of, message_of, id_of, by_of, erased_view, synced_view, refusal, effect, IsRun, last}
use Rattle.gm_member.specs.declared.taken.Taken.{Taken}
use Rattle.activity.specs.Kept.{Kept}
use Rattle.activity.specs.LastSent.{LastSent}
use Rattle.activity.specs.Packets.{LineSeen}
use Rattle.gm_member.specs.Packets.{PacketById, places}
use Rattle.gm_member.specs.News.{taken_of}
use Rattle.gm_member.specs.Held.{Held, Outgoing, Incoming, fresh_in, sends_to}

-- what is kept of an origin with this log, by a row of the ring: the messages that were received and aren't forgotten, and
-- the number behind which the member receives
abbrev pub kept_by : List Message → Row → Kept
kept_by log r = record { forgot = r.forgot; messages = messages_between r.forgot r.got log; retired = r.retired; base = r.base }

-- what numbers of the ring tell
abbrev pub last_sent_in : Numbers → LastSent
last_sent_in k = record { got = k.got; forgot = k.forgot }

-- what the member of an id keeps of each origin
abbrev pub known_in : World → ℕ → List Kept
known_in w x = map (λ p. kept_by (log_of w (p + 1)) (row_at (member_at w x) (p + 1))) places

-- the link at place o, as its sender has it
abbrev pub outgoing_in : World → ℕ → Outgoing
outgoing_in w o = record {
  to = (link_at w o).receiver;
  opened = (link_at w o).opened;
  fresh = (link_at w o).sending.fresh;
  last_sent = map (λ p. last_sent_in (numbers_at (link_at w o).sending.sent (p + 1))) places;
  credit = (link_at w o).flow.sender;
}

-- the link at place s, as its receiver has it
abbrev pub incoming_in : World → ℕ → Incoming
incoming_in w s = record { from = (link_at w s).sender; opened = (link_at w s).opened; counted = (link_at w s).flow.receiver }

-- whether a link stands open to x at its door
abbrev pub waits_for : World → ℕ → ℕ → Bool
waits_for w x s = is_door_link w x s && passes w x (link_at w s)

-- the links at x's door, in order of opening
abbrev pub door_links : World → ℕ → List ℕ
door_links w x = filter (waits_for w x) (range_with_len 0 (length w.links))

-- as x has them
abbrev pub door_in : World → ℕ → List Incoming
door_in w x = map (incoming_in w) (door_links w x)

-- what the member of an id holds in a state
abbrev pub held_in : World → ℕ → Held
held_in w x = record {
  id = x;
  name = (member_at w x).name;
  phase = (member_at w x).phase;
  view = view_in w (member_at w x).version;
  known = known_in w x;
  out = option_map (outgoing_in w) (member_at w x).out;
  current = option_map (incoming_in w) (member_at w x).current;
  door = door_in w x;
  asks = false;
  initial = w.initial;
  more = w.more;
}

-- a member that holds h stands at the id x, and no link waits for it at the registrar
abbrev pub Stands : World → ℕ → Held → Type 0
Stands w x h = h ≡ held_in w x

-- the line that stands for what a packet says of the origin at place p, behind a packet that said this, or as the first
abbrev pub line_for : Bool → List Message → ℕ → Numbers → Numbers → Option LineSeen
line_for fresh log p k before = cond (has_line fresh k before)
    (Some (record { origin = as_id (p + 1); lo = k.lo; messages = messages_between k.lo k.got log; forgot = k.forgot })) None

-- the lines that stand for a packet of the ring, behind what passed before it on its link
abbrev pub lines_in : World → Sending → Packet → List (Option LineSeen)
lines_in w before k = map (λ p. line_for before.fresh (log_of w (p + 1)) p (numbers_at k (p + 1)) (numbers_at before.sent (p + 1))) places

-- P holds of every state of a run, and id there, at which a member that holds h stands
abbrev pub WhereItStands : Held → (World → ℕ → Type 0) → Type 0
WhereItStands h P = (credit : CreditSpec) (names : List (List ℕ)) (events : List Event) (x : ℕ)
    → AreOpeningNames names → IsRun (opening credit names) events
    → 1 ≤ x → x < size (last (opening credit names) events) → Stands (last (opening credit names) events) x h
    → P (last (opening credit names) events) x

-- the event is enabled, and a member that holds h stands at the id x after it
abbrev pub StepsTo : World → ℕ → Event → Held → Type 0
StepsTo w x e h = (refusal w e ≡ None) × Stands (effect w e) x h

-- a view is what marking the member of a name makes of the newest
abbrev pub IsMarkedView : World → List ℕ → Group → Type 0
IsMarkedView w dead v = (d : ℕ) × (id_of w dead ≡ Some d) × (v ≡ marked (view_in w (newest w)) d)

-- what erasing the member of a name makes of it
abbrev pub IsErasedView : World → List ℕ → Group → Type 0
IsErasedView w origin v = (p : ℕ) × (id_of w origin ≡ Some p) × (v ≡ erased_view w p)

-- what registering the member of an id as synchronised makes of it
abbrev pub IsRegisteredView : World → ℕ → Group → Type 0
IsRegisteredView w x v = v ≡ synced_view w x

-- what admitting a member of a name makes of it, by the member of an id
abbrev pub IsAdmittedView : World → ℕ → List ℕ → Group → Type 0
IsAdmittedView w by newcomer v = v ≡ admitted_view w by newcomer

-- The member of this id, which has this name and this view, waits for its first packet, and no link stands at its door.
pub record WaitsThere (w : World) (x : ℕ) (name : List ℕ) (v : Group) : Type 0 where
  pub named : (member_at w x).name ≡ name
  pub waits : (member_at w x).phase ≡ Waiting
  pub looks : v ≡ view_in w (member_at w x).version
  pub nothing : door_links w x ≡ []

-- in every state of a run in which it so waits, a member that holds h stands at that id
abbrev pub StandsWhereItWaits : CreditSpec → List ℕ → ℕ → Group → Held → Type 0
StandsWhereItWaits credit name x v h = (names : List (List ℕ)) (events : List Event)
    → AreOpeningNames names → IsRun (opening credit names) events
    → WaitsThere (last (opening credit names) events) x name v → Stands (last (opening credit names) events) x h

-- By this event the member of this id, which has this name, says just this message in a state.
pub record SaysIn (w : World) (x : ℕ) (name : List ℕ) (m : Message) (e : Event) : Type 0 where
  pub by : by_of e ≡ name
  pub saying : Saying
  pub kind : kind_of e ≡ Says saying
  pub message : message_of w x saying ≡ Ok m

-- A packet stands for one of the ring, behind what passed before it on its link: its version and its lines.
pub record StandsFor (w : World) (before : Sending) (k : PacketById) (packet : Packet) : Type 0 where
  pub view : k.view ≡ packet.version
  pub lines : k.lines ≡ lines_in w before packet

-- a packet stands for the one that x puts next on its out link
abbrev pub IsPutPacket : World → ℕ → PacketById → Type 0
IsPutPacket w x k = (o : ℕ) → (member_at w x).out ≡ Some o → StandsFor w (link_at w o).sending k (next_packet (member_at w x) (link_at w o).sending)

-- a packet stands for the oldest on the link that x takes from
abbrev pub IsNextPacket : World → ℕ → PacketById → Type 0
IsNextPacket w x k = (s : ℕ) → (member_at w x).current ≡ Some s → (is_empty (link_at w s).packets ≡ false) × StandsFor w (link_at w s).had k (oldest (link_at w s))

-- a grant is the oldest under way on the link on which x sends
abbrev pub IsNextGrant : World → ℕ → ℕ → Type 0
IsNextGrant w x amount = (o : ℕ) → (member_at w x).out ≡ Some o → (is_empty (link_at w o).flow.grants ≡ false) × (oldest_grant (link_at w o).flow.grants ≡ amount)

-- the end is next on the link that x takes from
abbrev pub IsNextEnd : World → ℕ → Type 0
IsNextEnd w x = (s : ℕ) → (member_at w x).current ≡ Some s → ((link_at w s).packets ≡ []) × ((link_at w s).ending ≡ None → ⊥)

-- what a take at x from link s brings, from the logs themselves: of the origins at the places below n
abbrev pub taken_below : ℕ → World → ℕ → ℕ → List Taken
taken_below zero w x s = []
taken_below (suc p) w x s =
    taken_below p w x s
    ++ taken_of (is_owned (view_in w (member_at w x).version) x (link_at w s).sender (p + 1)) p (log_of w (p + 1)) (row_at (member_at w x) (p + 1)).got (numbers_at (oldest (link_at w s)) (p + 1))

-- all that a take at x brings: the first one nothing, where x waits
abbrev pub taken_in : World → Option ℕ → ℕ → List Taken
taken_in w None x = []
taken_in w (Some s) x = cond (is_waiting (member_at w x).phase) [] (taken_below most_members w x s)

-- the link that a member opens to itself by reading a view: where it is left alone there, and doesn't send to itself yet
abbrev pub own_link : Held → Group → List Incoming
own_link h v = cond (sends_to h.out (right_of v h.id)) [] (cond (nat_eq (right_of v h.id) h.id) (fresh_in h.initial h.more h.id v.version ∷ []) [])

-- what it holds once that link has come to its door, where it holds h' before
abbrev pub with_own_link : Held → Group → Held → Held
with_own_link h v h' = record h' { door = h'.door ++ own_link h v }
