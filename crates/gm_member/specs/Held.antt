-- What a member of a ring holds, and what its steps do to it.
use Rattle.std.specs.Prelude.{ℕ, ◌+◌, ◌-◌, ◌++◌, Bool, true, false, cond, ◌&&◌, ◌||◌, nat_eq, nat_le, nat_lt, List, [], map, take, drop, position, slice_set, slice_index_or, Option, Some, None, option_map, is_some}
use Rattle.std.specs.List.{filter, list_all}
use Rattle.queue_core.specs.declared.message.Message.{Message}
use Rattle.ring_names.specs.declared.numbers.CreditSpec.{CreditSpec}
use Rattle.ring_names.specs.declared.reason.Reason.{Reason}
use Rattle.ring_names.specs.declared.reason.Reason.TheVariants as reason
use Rattle.credit_flow.specs.Credit.{Credit, Counted, full_credit, none_taken, is_blocked, sent, gained, took}
use Rattle.group_view.specs.View.{Group, entry_in}
use Rattle.ring_rules.specs.Refusal.{refuse_if, or_else}
use Rattle.ring_rules.specs.View.{left_of, right_of}
use Rattle.ring_rules.specs.declared.phase.Phase.{Phase}
use Rattle.ring_rules.specs.declared.phase.Phase.TheVariants.{Waiting, Up, Stopped}
use Rattle.ring_rules.specs.Machine.{is_waiting}
use Rattle.ring_rules.specs.Step.{is_owned}
use Rattle.ring_rules.specs.Event.{is_stopped, version_refusal}
use Rattle.activity.specs.Kept.{Kept, no_kept, joined}
use Rattle.activity.specs.LastSent.{LastSent, never_sent}
use Rattle.activity.specs.Packets.{LineSeen}
use Rattle.activity.specs.Diff.{next_line, is_last_sent}
use Rattle.activity.specs.Plan.{accepted, begun}
use Rattle.gm_member.specs.Packets.{PacketById, places, known_at, last_sent_at, line_at, last_sent_now}

-- The link on which a member sends: to whom it goes, the version at which it was opened, whether no packet was put on it yet,
-- the numbers last sent of each origin that a ring may have, and its credit.
pub record Outgoing : Type 0 where
  pub to : ℕ
  pub opened : ℕ
  pub fresh : Bool
  pub last_sent : List LastSent
  pub credit : Credit

-- A link to a member: from whom it comes, the version at which it was opened, and the loads counted on it.
pub record Incoming : Type 0 where
  pub from : ℕ
  pub opened : ℕ
  pub counted : Counted

-- What a member holds: its id and name, where it stands, its view, what it keeps of each origin that a ring may have, the link on which
-- it sends, the one from which it takes, those at its door, the oldest first, whether a question of its own is open, and the
-- credit with which links open.
pub record Held : Type 0 where
  pub id : ℕ
  pub name : List ℕ
  pub phase : Phase
  pub view : Group
  pub known : List Kept
  pub out : Option Outgoing
  pub current : Option Incoming
  pub door : List Incoming
  pub asks : Bool
  pub initial : ℕ
  pub more : ℕ

-- a link beyond those at the door
abbrev pub no_incoming : Incoming
no_incoming = record { from = 0; opened = 0; counted = none_taken 0 0 }

-- the link at a place of the door
abbrev pub door_at : List Incoming → ℕ → Incoming
door_at door i = slice_index_or door i no_incoming

-- what is made of what is there; d where nothing is
abbrev pub at_some : {A B : Type 0} → Option A → B → (A → B) → B
at_some None d f = d
at_some (Some a) d f = f a

-- ---- founding and joining

-- nothing was sent
abbrev pub nothing_sent : List LastSent
nothing_sent = map (λ (_ : ℕ). never_sent) places

-- a link of x to z opens in a version, on which nothing was put
abbrev pub fresh_out : ℕ → ℕ → ℕ → ℕ → Outgoing
fresh_out initial more z version = record { to = z; opened = version; fresh = true; last_sent = nothing_sent; credit = full_credit initial more }

-- a link from s opens in a version, from which nothing was taken
abbrev pub fresh_in : ℕ → ℕ → ℕ → ℕ → Incoming
fresh_in initial more s version = record { from = s; opened = version; counted = none_taken initial more }

-- a member of a ring's opening, which has published, heard and sent nothing: it sends to its right neighbour and takes from its left
abbrev pub founded : CreditSpec → List ℕ → ℕ → Group → Held
founded credit name id view = record {
  id = id;
  name = name;
  phase = Up;
  view = view;
  known = map (λ (_ : ℕ). no_kept) places;
  out = Some (fresh_out credit.initial credit.more (right_of view id) view.version);
  current = Some (fresh_in credit.initial credit.more (left_of view id) view.version);
  door = [];
  asks = false;
  initial = credit.initial;
  more = credit.more;
}

-- a member that joins: it waits for the first packet of its left neighbour in the view in which it was admitted
abbrev pub joining_held : CreditSpec → List ℕ → ℕ → Group → Held
joining_held credit name id view = record {
  id = id;
  name = name;
  phase = Waiting;
  view = view;
  known = map (λ (_ : ℕ). no_kept) places;
  out = None;
  current = Some (fresh_in credit.initial credit.more (left_of view id) view.version);
  door = [];
  asks = false;
  initial = credit.initial;
  more = credit.more;
}

-- ---- conditions

-- a member acts that hasn't stopped and has no question open
abbrev pub active_refused : Held → Option Reason → Option Reason
active_refused h later = or_else (refuse_if (is_stopped h.phase) reason.Stopped) (or_else (refuse_if h.asks reason.AwaitingAnswer) later)

-- and doesn't wait
abbrev pub up_refused : Held → Option Reason → Option Reason
up_refused h later =
    or_else (refuse_if (is_stopped h.phase) reason.Stopped)
    (or_else (refuse_if (is_waiting h.phase) reason.Waiting)
    (or_else (refuse_if h.asks reason.AwaitingAnswer) later))

-- the conditions on what is there, and their number where nothing is
abbrev pub on_some : {A : Type 0} → Option A → Reason → (A → Option Reason) → Option Reason
on_some None missing later = Some missing
on_some (Some a) missing later = later a

-- ---- publishing

-- a message joins the member's own log (gm's `broadcast`)
abbrev pub published_held : Held → Message → Held
published_held h m = record h { known = slice_set h.known (h.id - 1) (joined m (known_at h.known (h.id - 1))) }

-- ---- putting

-- whether the numbers of each origin equal those last sent
abbrev pub has_nothing_new : List Kept → Outgoing → Bool
has_nothing_new known o = list_all (λ p. is_last_sent (known_at known p) (last_sent_at o.last_sent p)) places

-- something is put only on a link with credit, and only where some number differs from those last sent
abbrev pub out_refused : List Kept → Outgoing → Option Reason
out_refused known o = or_else (refuse_if (is_blocked o.credit) reason.NoCredit) (refuse_if (has_nothing_new known o) reason.NothingNew)

-- a member puts on the link on which it sends
abbrev pub put_refused : Held → Option Reason
put_refused h = up_refused h (on_some h.out reason.NoOutLink (out_refused h.known))

-- the numbers of each origin
abbrev pub all_last_sent : List Kept → List LastSent
all_last_sent known = map (λ p. last_sent_now (known_at known p)) places

-- they are the last sent once a packet is put, and one credit is spent
abbrev pub put_on : List Kept → Outgoing → Outgoing
put_on known o = record o { fresh = false; last_sent = all_last_sent known; credit = sent o.credit }

-- the member after it has put a packet
abbrev pub put_held : Held → Held
put_held h = record h { out = option_map (put_on h.known) h.out }

-- the lines of the next packet
abbrev pub lines_on : List Kept → Outgoing → List (Option LineSeen)
lines_on known o = map (λ p. next_line o.fresh (p + 1) (known_at known p) (last_sent_at o.last_sent p)) places

-- the next packet of a member whose view is of this version
abbrev pub packet_on : ℕ → List Kept → Outgoing → PacketById
packet_on version known o = record { view = version; first = o.fresh; lines = lines_on known o }

-- ---- taking

-- a member takes only from a link
abbrev pub take_refused : Held → Option Reason → Option Reason
take_refused h later = active_refused h (on_some h.current reason.NoCurrentLink (λ _. later))

-- whether the member answers for the origin at a place against a sender: it is the member, or stands between the two
abbrev pub owns : Held → ℕ → ℕ → Bool
owns h from p = is_owned h.view h.id from (p + 1)

-- what is kept after the lines of a packet from a sender
abbrev pub all_accepted : (ℕ → Bool) → List Kept → List (Option LineSeen) → List Kept
all_accepted own known lines = map (λ p. accepted (own p) (known_at known p) (line_at lines p)) places

-- a load is counted
abbrev pub counted_in : Incoming → Incoming
counted_in c = record c { counted = took c.counted }

-- a packet is taken from a link
abbrev pub took_from : Held → PacketById → Incoming → Held
took_from h k c = record h { known = all_accepted (owns h c.from) h.known k.lines; current = Some (counted_in c) }

-- what a member that waits begins with, by the lines of its first packet
abbrev pub all_begun : List (Option LineSeen) → List Kept
all_begun lines = map (λ p. begun (line_at lines p)) places

-- it takes that packet from a link, and is up
abbrev pub began_from : Held → PacketById → Incoming → Held
began_from h k c = record h { phase = Up; known = all_begun k.lines; current = Some (counted_in c) }

-- the member after it has taken a packet from the link that it takes from: where it waited, its first one
abbrev pub took_held : Held → PacketById → Held
took_held h k = at_some h.current h (λ c. cond (is_waiting h.phase) (began_from h k c) (took_from h k c))

-- ---- gaining

-- a member gains credit only on a link on which it sends
abbrev pub gain_refused : Held → Option Reason
gain_refused h = up_refused h (on_some h.out reason.NoOutLink (λ _. None))

-- a grant becomes credit (credit_flow's `handle_bump_msg`)
abbrev pub gained_on : ℕ → Outgoing → Outgoing
gained_on amount o = record o { credit = gained o.credit amount }

-- of the link on which the member sends
abbrev pub gained_held : Held → ℕ → Held
gained_held h amount = record h { out = option_map (gained_on amount) h.out }

-- ---- the end of a link, and stopping

-- the member has taken its link to its end
abbrev pub ended_held : Held → Held
ended_held h = record h { current = None }

-- it has stopped
abbrev pub stopped_held : Held → Held
stopped_held h = record h { phase = Stopped }

-- ---- views

-- since when y's left neighbour in a view has been it
abbrev pub since_of : Group → ℕ → ℕ
since_of v y = (entry_in v.entries y).since

-- a link comes from y's left neighbour in a view, which was that already when the link opened
abbrev pub is_for : Group → ℕ → Incoming → Bool
is_for v y l = nat_eq l.from (left_of v y) && nat_le (since_of v y) l.opened

-- one at y's door stays there where it does, or is newer than the view
abbrev pub stays : Group → ℕ → Incoming → Bool
stays v y l = nat_lt v.version l.opened || is_for v y l

-- what stays of the link that y takes from
abbrev pub kept_in : Group → ℕ → Option Incoming → Option Incoming
kept_in v y link = at_some link None (λ l. cond (is_for v y l) (Some l) None)

-- what stays at the door
abbrev pub kept_door : Group → ℕ → List Incoming → List Incoming
kept_door v y door = filter (stays v y) door

-- the member has another view
abbrev pub looked_held : Held → Group → Held
looked_held h v = record h { view = v; current = kept_in v h.id h.current; door = kept_door v h.id h.door }

-- whether it sends to z
abbrev pub sends_to : Option Outgoing → ℕ → Bool
sends_to out z = at_some out false (λ o. nat_eq o.to z)

-- the link that it opens to z, with its first packet
abbrev pub first_out : Held → ℕ → Outgoing
first_out h z = put_on h.known (fresh_out h.initial h.more z h.view.version)

-- the link on which it sends, where it has to send to z
abbrev pub out_to : Held → ℕ → Option Outgoing
out_to h z = cond (sends_to h.out z) h.out (Some (first_out h z))

-- and sends on to its right neighbour in it
abbrev pub refreshed_held : Held → Group → Held
refreshed_held h v = record (looked_held h v) { out = out_to (looked_held h v) (right_of v h.id) }

-- a member reads no view older than its own
abbrev pub refresh_refused : Held → ℕ → Option Reason
refresh_refused h version = up_refused h (refuse_if (nat_lt version h.view.version) (reason.ViewOutOfRange version h.view.version h.view.version))

-- the first link at the door that comes from the left neighbour
abbrev pub first_at_door : Held → Option ℕ
first_at_door h = position (is_for h.view h.id) h.door

-- the member takes from a link at its door only where it takes from none, and where the link isn't newer than its view
abbrev pub pick_refused : Held → Option Reason
pick_refused h =
    up_refused h (or_else (refuse_if (is_some h.current) reason.HasCurrentLink)
    (on_some (first_at_door h) reason.NoLinkAtDoor (λ i. version_refusal (door_at h.door i).opened h.view.version)))

-- all but the one at a place
abbrev pub without : {A : Type 0} → ℕ → List A → List A
without i xs = take i xs ++ drop (i + 1) xs

-- the member takes from the link at a place of its door
abbrev pub picked_at : Held → ℕ → Held
picked_at h i = record h { current = Some (door_at h.door i); door = without i h.door }

-- from the first that it may
abbrev pub picked_held : Held → Held
picked_held h = at_some (first_at_door h) h (picked_at h)

-- ---- questions

-- the member asks the registrar only where no question of its own is open
abbrev pub ask_refused : Held → Option Reason
ask_refused h = up_refused h None

-- its question is open
abbrev pub asking_held : Held → Held
asking_held h = record h { asks = true }

-- it is closed
abbrev pub answered_held : Held → Held
answered_held h = record h { asks = false }

-- links come to its door: those that may yet be taken from
abbrev pub collected_held : Held → List Incoming → Held
collected_held h links = record h { door = h.door ++ filter (stays h.view h.id) links }
