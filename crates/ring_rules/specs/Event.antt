-- The events of the ring: when one may happen, and what it does.
use Rattle.std.specs.Prelude.{◌≡◌, ℕ, ◌+◌, Bool, true, false, ◌&&◌, ◌||◌, not, nat_eq, nat_le, nat_lt, bytes_eq, if◌then◌else◌, List, [], ◌∷◌, length, drop, position, option_map, is_some, Option, Some, None, Result, Ok, Err, ⊤}
use Rattle.std.specs.List.{list_all, filter, range_with_len}
use Rattle.queue_core.specs.declared.message.Message.{Message}
use Rattle.queue_core.specs.declared.message.Message.TheVariants as message
use Rattle.queue_core.specs.declared.op.Op.{Op}
use Rattle.queue_core.specs.declared.op.Op.TheVariants as op
use Rattle.queue_core.specs.Shown.{as_position}
use Rattle.queue_mirror.specs.Mirror.{MirrorState}
use Rattle.queue_mirror.specs.Master.{lead_refusal, or_refused, get_of, pop_of, ack_of, requeue_of, depth_of, start_of}
pub use Rattle.queue_mirror.specs.Master.{start_refusal}
use Rattle.ring_names.specs.declared.reason.Reason.{Reason}
use Rattle.ring_names.specs.declared.reason.Reason.TheVariants as reason
use Rattle.ring_names.specs.Reason.{code_of}
use Rattle.credit_flow.specs.Credit.{is_blocked}
use Rattle.ring_rules.specs.Rows.{is_sent}
use Rattle.ring_rules.specs.Refusal.{refuse_if, or_else, is_empty}
use Rattle.group_view.specs.View.{Group, entry_in, is_dead, is_alias}
use Rattle.group_view.specs.Change.{marked, erased, registered, is_taken, most_entries}
use Rattle.promotion.specs.Elect.{installed}
use Rattle.ring_rules.specs.View.{is_live, left_of, right_of}
use Rattle.ring_rules.specs.Machine.{Phase, Waiting, Up, Stopped, Member, Sending, Moved, Halted, Link, World, row_at, numbers_at, member_at, link_at, view_in, newest, is_waiting, oldest}
use Rattle.ring_rules.specs.Step.{size, publish_at, put_on, gain_on, take_from, begin_from, current_is, leave_link, stop_at, end_out, with_view, come_to, look_at, open_to, with_link, ended}
pub use Rattle.ring_rules.specs.declared.event.Event.{Event}
pub use Rattle.ring_rules.specs.declared.event.Event.TheVariants.{Cast, Publish, Get, Pop, Ack, Requeue, Depth, Start, Sync, Put, Take, TakeEnd, Gain, Stop, Mark, Refresh, Admit, Pick, Erase, Synced, SyncPut, SyncTake, SyncGain, Refuse}
use Rattle.ring_rules.specs.declared.event.Client.{Client}
use Rattle.ring_rules.specs.declared.event.Client.TheVariants as client
pub use Rattle.ring_rules.specs.Kind.{QueueSaying, Publishes, Does, Marks, Saying, Own, OfQueue, Kind, Says, Steps, Copying, Changes, Stops, Reads, Tells, kind_of}
use Rattle.ring_rules.specs.declared.kind.Asking.TheVariants as asking
use Rattle.ring_rules.specs.declared.kind.CopyStep.TheVariants as copying
use Rattle.ring_rules.specs.declared.kind.LinkStep.TheVariants as step
use Rattle.ring_rules.specs.declared.kind.ViewChange.TheVariants as change

-- ---- conditions

-- the id of the member of that name
abbrev pub id_of : World → List ℕ → Option ℕ
id_of w name = option_map (λ i. i + 1) (position (λ y. bytes_eq y.name name) (drop 1 w.members))

-- the conditions after the acting member is known
abbrev pub of_member : Option ℕ → (ℕ → Option Reason) → Option Reason
of_member None later = Some reason.UnknownMember
of_member (Some x) later = later x

-- whether a member has stopped
abbrev pub is_stopped : Phase → Bool
is_stopped Waiting = false
is_stopped Up = false
is_stopped Stopped = true

-- a member acts that hasn't stopped
abbrev pub running_refusal : World → ℕ → Option Reason → Option Reason
running_refusal w x later = or_else (refuse_if (is_stopped (member_at w x).phase) reason.Stopped) later

-- and doesn't wait
abbrev pub up_refusal : World → ℕ → Option Reason → Option Reason
up_refusal w x later = running_refusal w x (or_else (refuse_if (is_waiting (member_at w x).phase) reason.Waiting) later)

-- the conditions on a link that a member has, and their number where it has none
abbrev pub on_link : Option ℕ → Reason → (ℕ → Option Reason) → Option Reason
on_link None missing later = Some missing
on_link (Some s) missing later = later s

-- whether the numbers of each origin equal those last sent
abbrev pub has_nothing_new : ℕ → Member → Sending → Bool
has_nothing_new n y s = list_all (λ p. is_sent (row_at y p) (numbers_at s.sent p)) (range_with_len 0 n)

-- x puts a packet on its out link o only where that has credit, and where there is something new
abbrev pub put_refusal : World → ℕ → ℕ → Option Reason
put_refusal w x o =
    or_else (refuse_if (is_blocked (link_at w o).flow.sender) reason.NoCredit)
    (refuse_if (has_nothing_new (size w) (member_at w x) (link_at w o).sending) reason.NothingNew)

-- whether a link holds no item: no packet, and no end
abbrev pub holds_nothing : Link → Bool
holds_nothing l = is_empty l.packets && not (is_some l.ending)

-- the first packet is of a version that the member has
abbrev pub version_refusal : ℕ → ℕ → Option Reason
version_refusal need have = refuse_if (nat_lt have need) (reason.ViewTooOld need have)

-- y takes a packet from its current link s only where an item stands there, the next one is a packet, and its version is one that y has
abbrev pub take_refusal : World → ℕ → ℕ → Option Reason
take_refusal w y s =
    or_else (refuse_if (holds_nothing (link_at w s)) reason.NothingToTake)
    (or_else (refuse_if (is_empty (link_at w s).packets) reason.EndNext)
    (version_refusal (oldest (link_at w s)).version (member_at w y).version))

-- and the end only where it is the next item
abbrev pub end_refusal : World → ℕ → Option Reason
end_refusal w s =
    or_else (refuse_if (holds_nothing (link_at w s)) reason.NothingToTake)
    (refuse_if (not (is_empty (link_at w s).packets)) reason.PacketNext)

-- x gains credit on its out link o only where a grant is under way
abbrev pub gain_refusal : World → ℕ → Option Reason
gain_refusal w o = refuse_if (is_empty (link_at w o).flow.grants) reason.NoGrant

-- ---- picking a link

-- since when the left neighbour that a member has in its view has been it
abbrev pub since : World → ℕ → ℕ
since w y = (entry_in (view_in w (member_at w y).version).entries y).since

-- y's left neighbour in its view
abbrev pub left_neighbour : World → ℕ → ℕ
left_neighbour w y = left_of (view_in w (member_at w y).version) y

-- A link stands at y's door that goes to y, isn't taken to its end, and comes from y's left neighbour, opened when that one
-- was it already. A link that y once had for its current one and left doesn't come back so: it was taken to its end, or
-- it was opened before that.
abbrev pub is_at_door : World → ℕ → Link → Bool
is_at_door w y l = nat_eq l.receiver y && (not l.over && (nat_eq l.sender (left_neighbour w y) && nat_le (since w y) l.opened))

-- the oldest of them
abbrev pub at_door : World → ℕ → Option ℕ
at_door w y = position (is_at_door w y) w.links

-- y picks the link that stands first at its door only where there is one, and where it was opened in a version that y has
abbrev pub pick_refusal : World → ℕ → Option Reason
pick_refusal w y = on_link (at_door w y) reason.NoLinkAtDoor (λ s. version_refusal (link_at w s).opened (member_at w y).version)

-- ---- marking

-- whether d is x's left or right neighbour in x's view
abbrev pub is_neighbour : World → ℕ → ℕ → Bool
is_neighbour w x d = nat_eq d (left_neighbour w x) || nat_eq d (right_of (view_in w (member_at w x).version) x)

-- d is x's left neighbour, and x has a current link or could pick one
abbrev pub is_still_taken : World → ℕ → ℕ → Bool
is_still_taken w x d = nat_eq d (left_neighbour w x) && (is_some (member_at w x).current || is_some (at_door w x))

-- x has d marked dead only where d is a neighbour, is live in the newest view, and has stopped, and where x has taken to its end what came from d
abbrev pub mark_refusal : World → ℕ → ℕ → Option Reason
mark_refusal w x d =
    or_else (refuse_if (not (is_neighbour w x d)) reason.NotNeighbour)
    (or_else (refuse_if (not (is_live (view_in w (newest w)) d)) reason.AlreadyDead)
    (or_else (refuse_if (not (is_stopped (member_at w d).phase)) reason.NotStopped)
    (refuse_if (is_still_taken w x d) reason.LinkNotEnded)))

-- ---- erasing

-- what x has got of p, and what it has retired
abbrev pub not_retired : World → ℕ → ℕ → Reason
not_retired w x p = reason.NotRetired (row_at (member_at w x) p).got (row_at (member_at w x) p).retired

-- x has p erased only where p is dead in the newest view, x answers for it as dead in x's view, and all that x has got of it
-- has come round, and the acknowledgement too
abbrev pub erase_refusal : World → ℕ → ℕ → Option Reason
erase_refusal w x p =
    or_else (refuse_if (not (is_dead (view_in w (newest w)).entries p)) reason.NotDead)
    (or_else (refuse_if (not (is_alias (view_in w (member_at w x).version).entries x p)) reason.NotOwner)
    (refuse_if (not (nat_eq (row_at (member_at w x) p).got (row_at (member_at w x) p).retired)) (not_retired w x p)))

-- the view in which p is erased, and a master is elected where none stands
abbrev pub erased_view : World → ℕ → Group
erased_view w p = installed (erased (view_in w (newest w)) p)

-- ---- registering

-- a mirror that misses nothing
abbrev pub missing_refusal : Option ℕ → Option Reason
missing_refusal None = Some (reason.StillMissing None)
missing_refusal (Some n) = refuse_if (not (nat_eq n 0)) (reason.StillMissing (Some n))

-- x is registered as synchronised only where it isn't yet in the newest view, and where its mirror misses nothing
abbrev pub synced_refusal : World → ℕ → Option Reason
synced_refusal w x = or_else (refuse_if (entry_in (view_in w (newest w)).entries x).synced reason.AlreadySynced) (missing_refusal (member_at w x).mirror.missing)

-- the view in which it is, and a master is elected where none stands
abbrev pub synced_view : World → ℕ → Group
synced_view w x = installed (registered (view_in w (newest w)) x)

-- ---- admitting

-- one of this name is admitted only where no entry, of any mark, has the name, and where there is room
abbrev pub admit_refusal : World → List ℕ → Option Reason
admit_refusal w name =
    or_else (refuse_if (is_taken (view_in w (newest w)).entries name) reason.NameTaken)
    (refuse_if (nat_le most_entries (length (view_in w (newest w)).entries)) reason.TooManyMembers)

-- ---- refreshing

-- x reads the view of version v only where that isn't older than its own, and is there
abbrev pub refresh_refusal : World → ℕ → ℕ → Option Reason
refresh_refusal w x v =
    refuse_if (nat_lt v (member_at w x).version || nat_lt (newest w) v) (reason.ViewOutOfRange v (member_at w x).version (newest w))

-- a link opens to z where there is no out link, or where that goes elsewhere, which then ends
abbrev pub send_to : World → ℕ → ℕ → Option ℕ → World
send_to w x z None = open_to w x z
send_to w x z (Some o) = if nat_eq (link_at w o).receiver z then w else open_to (with_link w o (ended Moved (link_at w o))) x z

-- x has view v: its current link stays where that is kept, and it sends to its right neighbour
abbrev pub refreshed : World → ℕ → ℕ → World
refreshed w x v = send_to (look_at w x v) x (right_of (view_in w v) x) (member_at w x).out

-- ---- the queue

-- the operation by which the member x does it, by its mirror, by its view, and by whether it has started; or the first
-- condition that fails
abbrev pub asked_op : MirrorState → Group → ℕ → Bool → QueueSaying → Result Op Reason
asked_op m g x started (Publishes body) = or_refused (lead_refusal g x started) (Ok (op.Publish (as_position m.queue.next) body))
asked_op m g x started (Does asking.Get) = get_of m g x started
asked_op m g x started (Does asking.Pop) = pop_of m g x started
asked_op m g x started (Does (asking.Ack at)) = ack_of m g x started at
asked_op m g x started (Does (asking.Requeue at)) = requeue_of m g x started at
asked_op m g x started (Does asking.Depth) = depth_of m g x started
asked_op m g x started (Does asking.Start) = start_of m g x started
asked_op m g x started (Marks target) = or_refused (lead_refusal g x started) (Ok (op.SyncMark target))

-- the same in a state
abbrev pub op_as : World → ℕ → QueueSaying → Result Op Reason
op_as w x q = asked_op (member_at w x).mirror (view_in w (member_at w x).version) x (member_at w x).started q

-- and of an event of this kind; no other does anything to a queue
abbrev pub op_by : World → ℕ → Kind → Result Op Reason
op_by w x (Says (OfQueue q)) = op_as w x q
op_by w x k = Err reason.NotMaster

-- of an event
abbrev pub op_at : World → Event → ℕ → Result Op Reason
op_at w e x = op_by w x (kind_of e)

-- why it isn't published
abbrev pub op_refusal : Result Op Reason → Option Reason
op_refusal (Ok o) = None
op_refusal (Err r) = Some r

-- it is published
abbrev pub op_done : World → ℕ → Result Op Reason → World
op_done w x (Ok o) = publish_at w x (message.Queue o)
op_done w x (Err r) = w

-- ---- what a member says

-- an operation as a message
abbrev pub queue_message : Result Op Reason → Result Message Reason
queue_message (Ok o) = Ok (message.Queue o)
queue_message (Err r) = Err r

-- the message that it publishes, or the first condition that fails
abbrev pub message_of : World → ℕ → Saying → Result Message Reason
message_of w x (Own body) = Ok (message.Cast body)
message_of w x (OfQueue q) = queue_message (op_as w x q)

-- that condition
abbrev pub saying_refusal : World → ℕ → Saying → Option Reason
saying_refusal w x (Own body) = None
saying_refusal w x (OfQueue q) = op_refusal (op_as w x q)

-- it is published
abbrev pub said : World → ℕ → Saying → World
said w x (Own body) = publish_at w x (message.Cast body)
said w x (OfQueue q) = op_done w x (op_as w x q)

-- a member may publish what it may say
abbrev pub MayPublish : World → ℕ → Message → Type 0
MayPublish w x m = (s : Saying) × (message_of w x s ≡ Ok m)

-- ---- events

-- the event that a client asked for
abbrev pub event_of : Client → Event
event_of (client.Cast by body) = Cast by body
event_of (client.Publish by body) = Publish by body
event_of (client.Get by) = Get by
event_of (client.Pop by) = Pop by
event_of (client.Ack by at) = Ack by at
event_of (client.Requeue by at) = Requeue by at
event_of (client.Sync by target) = Sync by target
event_of (client.Stop by) = Stop by
event_of (client.Admit by name) = Admit by name

-- the name of the member of which it was asked
abbrev pub asked_of : Client → List ℕ
asked_of (client.Cast by body) = by
asked_of (client.Publish by body) = by
asked_of (client.Get by) = by
asked_of (client.Pop by) = by
asked_of (client.Ack by at) = by
asked_of (client.Requeue by at) = by
asked_of (client.Sync by target) = by
asked_of (client.Stop by) = by
asked_of (client.Admit by name) = by

-- the name of the member that acts
abbrev pub by_of : Event → List ℕ
by_of (Cast by body) = by
by_of (Publish by body) = by
by_of (Get by) = by
by_of (Pop by) = by
by_of (Ack by at) = by
by_of (Requeue by at) = by
by_of (Depth by) = by
by_of (Start by) = by
by_of (Sync by target) = by
by_of (Put by) = by
by_of (Take by) = by
by_of (TakeEnd by) = by
by_of (Gain by) = by
by_of (Stop by) = by
by_of (Mark by dead) = by
by_of (Refresh by version) = by
by_of (Admit by name) = by
by_of (Pick by) = by
by_of (Erase by origin) = by
by_of (Synced by) = by
by_of (SyncPut by) = by
by_of (SyncTake by) = by
by_of (SyncGain by) = by
by_of (Refuse code inner) = asked_of inner

-- whether a client asks for what a master says of its queue; else the master does it by itself
abbrev pub is_asked_of_master : QueueSaying → Bool
is_asked_of_master (Does asking.Depth) = false
is_asked_of_master (Does asking.Start) = false
is_asked_of_master q = true

-- whether a client asks for an event of this kind; the others a member does by itself
abbrev pub is_asked_kind : Kind → Bool
is_asked_kind (Says (Own body)) = true
is_asked_kind (Says (OfQueue q)) = is_asked_of_master q
is_asked_kind Stops = true
is_asked_kind (Copying (copying.Open target)) = true
is_asked_kind (Changes (change.Admit name)) = true
is_asked_kind (Tells code inner) = true
is_asked_kind k = false

-- for an event
abbrev pub is_asked : Event → Bool
is_asked e = is_asked_kind (kind_of e)

-- whether the registrar has a part in it: it hears of a stop, and makes the view of a change
abbrev pub is_registered_kind : Kind → Bool
is_registered_kind Stops = true
is_registered_kind (Changes c) = true
is_registered_kind k = false

-- in an event
abbrev pub is_registered : Event → Bool
is_registered e = is_registered_kind (kind_of e)

-- whether only a member that is up does it; else one that waits does it too
abbrev pub is_for_up_kind : Kind → Bool
is_for_up_kind (Steps step.Take) = false
is_for_up_kind (Steps step.TakeEnd) = false
is_for_up_kind Stops = false
is_for_up_kind k = true

-- such an event
abbrev pub is_for_up : Event → Bool
is_for_up e = is_for_up_kind (kind_of e)

-- the conditions on the phase of the acting member, and then the others
abbrev pub phase_refusal : Bool → World → ℕ → Option Reason → Option Reason
phase_refusal true w x later = up_refusal w x later
phase_refusal false w x later = running_refusal w x later

-- these others, of an event of this kind of member x; a refusal has none. A ring by itself has no copies: a step on one waits
-- for them, and no client is told so.
abbrev pub further_as : World → ℕ → Kind → Option Reason
further_as w x (Says s) = saying_refusal w x s
further_as w x (Steps step.Put) = on_link (member_at w x).out reason.NoOutLink (put_refusal w x)
further_as w x (Steps step.Take) = on_link (member_at w x).current reason.NoCurrentLink (take_refusal w x)
further_as w x (Steps step.TakeEnd) = on_link (member_at w x).current reason.NoCurrentLink (end_refusal w)
further_as w x (Steps step.Gain) = on_link (member_at w x).out reason.NoOutLink (gain_refusal w)
further_as w x (Steps step.Pick) = or_else (refuse_if (is_some (member_at w x).current) reason.HasCurrentLink) (pick_refusal w x)
further_as w x (Copying s) = Some reason.Waiting
further_as w x (Changes (change.Mark dead)) = of_member (id_of w dead) (mark_refusal w x)
further_as w x (Changes (change.Erase origin)) = of_member (id_of w origin) (erase_refusal w x)
further_as w x (Changes (change.Admit name)) = admit_refusal w name
further_as w x (Changes change.Register) = synced_refusal w x
further_as w x Stops = None
further_as w x (Reads version) = refresh_refusal w x version
further_as w x (Tells code inner) = None

-- of an event
abbrev pub further_refusal : World → Event → ℕ → Option Reason
further_refusal w e x = further_as w x (kind_of e)

-- the first failing condition of an event of this kind that member x does
abbrev pub doing_as : World → ℕ → Kind → Option Reason
doing_as w x k = phase_refusal (is_for_up_kind k) w x (further_as w x k)

-- of an event
abbrev pub doing_refusal : World → Event → ℕ → Option Reason
doing_refusal w e x = doing_as w x (kind_of e)

-- whether a client is told that the member waits for its state, or hasn't started as master: it isn't, its command stays
abbrev pub is_passing : Reason → Bool
is_passing reason.Waiting = true
is_passing reason.NotStarted = true
is_passing r = false

-- whether a client is refused with this number
abbrev pub is_told : ℕ → Option Reason → Bool
is_told code None = false
is_told code (Some r) = nat_eq (code_of r) code && not (is_passing r)

-- the same where a refusal is told: only where what the client asked for is refused with its number
abbrev pub refused_as : World → ℕ → Kind → Option Reason
refused_as w x (Tells code inner) = refuse_if (not (is_told code (doing_refusal w (event_of inner) x))) reason.NotRefused
refused_as w x k = doing_as w x k

-- of an event of member x
abbrev pub refused_at : World → Event → ℕ → Option Reason
refused_at w e x = refused_as w x (kind_of e)

-- the first failing condition of an event, if one fails
abbrev pub refusal : World → Event → Option Reason
refusal w e = of_member (id_of w (by_of e)) (refused_at w e)

-- what happens at an id or a link that was found; nothing where none was
abbrev pub at_found : Option ℕ → World → (ℕ → World) → World
at_found None w f = w
at_found (Some x) w f = f x

-- a take of a member that is up, or its first one
abbrev pub taken_by : Phase → World → ℕ → ℕ → World
taken_by Waiting w y s = begin_from w y s
taken_by Up w y s = take_from w y s
taken_by Stopped w y s = w

-- what member x does by an event of this kind; a refusal leaves the ring as it is, and stands in the journal
abbrev pub done_as : World → ℕ → Kind → World
done_as w x (Says s) = said w x s
done_as w x (Steps step.Put) = at_found (member_at w x).out w (put_on w x)
done_as w x (Steps step.Take) = at_found (member_at w x).current w (taken_by (member_at w x).phase w x)
done_as w x (Steps step.TakeEnd) = at_found (member_at w x).current w (leave_link w x)
done_as w x (Steps step.Gain) = at_found (member_at w x).out w (gain_on w)
done_as w x (Steps step.Pick) = at_found (at_door w x) w (λ s. current_is w x (Some s))
done_as w x (Copying s) = w
done_as w x (Changes (change.Mark dead)) = at_found (id_of w dead) w (λ d. refreshed (with_view w (marked (view_in w (newest w)) d)) x (newest w + 1))
done_as w x (Changes (change.Erase origin)) = at_found (id_of w origin) w (λ p. refreshed (with_view w (erased_view w p)) x (newest w + 1))
done_as w x (Changes (change.Admit name)) = refreshed (come_to w x name) x (newest w + 1)
done_as w x (Changes change.Register) = refreshed (with_view w (synced_view w x)) x (newest w + 1)
done_as w x Stops = end_out Halted (stop_at w x) (member_at w x).out
done_as w x (Reads version) = refreshed w x version
done_as w x (Tells code inner) = w

-- by an event
abbrev pub done_at : World → Event → ℕ → World
done_at w e x = done_as w x (kind_of e)

-- the state after an event
abbrev pub effect : World → Event → World
effect w e = at_found (id_of w (by_of e)) w (done_at w e)

-- each event is enabled where the earlier ones leave the ring
abbrev pub IsRun : World → List Event → Type 0
IsRun w [] = ⊤
IsRun w (e ∷ es) = (refusal w e ≡ None) × IsRun (effect w e) es

-- the state after all of them
abbrev pub last : World → List Event → World
last w [] = w
last w (e ∷ es) = last (effect w e) es

-- ---- what was refused

-- whether it is a refusal
abbrev pub is_refusal : Event → Bool
is_refusal (Refuse code inner) = true
is_refusal e = false

-- the refusals among these events, in their order
abbrev pub refusals_of : List Event → List Event
refusals_of events = filter is_refusal events
