-- What a party keeps of its queue beside its member, and what an event of that member makes of it.
use Rattle.std.specs.Prelude.{◌≡◌, ℕ, ◌+◌, ◌-◌, ◌<◌, ◌≤◌, ◌++◌, ◌∷◌, false, ◌||◌, cond, List, [], length, map, Option, Some, None, Result, Ok, Err, slice_index_or, slice_set}
use Rattle.std.specs.List.{list_any, flat_map, sum_by}
use Rattle.queue_core.specs.declared.message.Message.{Message}
use Rattle.queue_core.specs.declared.message.Message.TheVariants as message
use Rattle.queue_core.specs.declared.op.Op.{Op}
use Rattle.queue_core.specs.declared.op.Op.TheVariants as op
use Rattle.confirm_book.specs.declared.kind.Kind.{Kind as MessageKind}
use Rattle.confirm_book.specs.declared.kind.Kind.TheVariants as message_kind
use Rattle.confirm_book.specs.Book.{new_ledger, without_room, book_in, published as published_in, came_round}
use Rattle.queue_mirror.specs.Mirror.{founding, joining, apply_ops, is_tell}
use Rattle.queue_laws.specs.Part.{ops_of}
use Rattle.queue_laws.specs.Starting.{is_start}
use Rattle.ring_names.specs.declared.reason.Reason.{Reason}
use Rattle.ring_rules.specs.declared.kind.LinkStep.TheVariants as step
use Rattle.ring_rules.specs.declared.kind.ViewChange.TheVariants as change
use Rattle.ring_rules.specs.Kind.{Own, OfQueue, Saying, Kind, Says, Steps, Changes}
use Rattle.ring_rules.specs.Machine.{World, member_at, row_at}
use Rattle.ring_rules.specs.Step.{size, log_of}
use Rattle.ring_rules.specs.Event.{asked_op, op_refusal, queue_message}
use Rattle.activity.specs.Packets.{LineSeen}
use Rattle.gm_member.specs.declared.taken.Taken.{Taken}
use Rattle.activity.specs.Kept.{Kept}
use Rattle.gm_member.specs.Held.{Held, at_some, took_held}
use Rattle.gm_member.specs.News.{news_of}
use Rattle.gm_member.specs.Packets.{PacketById, places, line_at, known_at}
use Rattle.ring_parties.specs.Ends.{PacketShown, InSeen}
use Rattle.ring_parties.specs.Parties.{Shown, Keeps, Parties, node_at}

-- what is beyond the last
abbrev pub no_keeps : Keeps
no_keeps = record { mirror = founding; started = false; told = 0; book = new_ledger 0 }

-- what the party of one that joins keeps first
abbrev pub joining_keeps : Keeps
joining_keeps = record { mirror = joining; started = false; told = 0; book = new_ledger 0 }

-- the party at a place
abbrev pub keeps_at : List Keeps → ℕ → Keeps
keeps_at ks i = slice_index_or ks i no_keeps

-- ---- messages

-- the kind of an operation
abbrev pub kind_of_op : Op → MessageKind
kind_of_op (op.Publish at body) = message_kind.Publish
kind_of_op o = message_kind.Other

-- the kind of a message, as a book tells them apart
abbrev pub kind_of_message : Message → MessageKind
kind_of_message (message.Cast body) = message_kind.Cast
kind_of_message (message.Queue o) = kind_of_op o

-- ---- in a state of the ring

-- the kinds of the messages that the member of an id has published
abbrev pub kinds_of : World → ℕ → List MessageKind
kinds_of w x = map kind_of_message (log_of w x)

-- up to which number they have come round to it
abbrev pub round_of : World → ℕ → ℕ
round_of w x = (row_at (member_at w x) x).forgot

-- what the member of an id has of the queue, and the book of its messages
abbrev pub keeps_of : World → ℕ → Keeps
keeps_of w x = record {
  mirror = (member_at w x).mirror;
  started = (member_at w x).started;
  told = (member_at w x).told;
  book = book_in (round_of w x) (kinds_of w x);
}

-- The parties keep what their members have in a state.
pub record KeepsStand (w : World) (ks : List Keeps) : Type 0 where
  pub count : length ks + 1 ≡ size w
  pub each : (x : ℕ) → 1 ≤ x → x < size w → keeps_at ks (x - 1) ≡ keeps_of w x

-- ---- what a member says

-- the message that it publishes, by what its party keeps, or the first condition that fails
abbrev pub said_by : Saying → Held → Keeps → Result Message Reason
said_by (Own body) h k = Ok (message.Cast body)
said_by (OfQueue s) h k = queue_message (asked_op k.mirror h.view h.id k.started s)

-- that condition
abbrev pub saying_refused : Saying → Held → Keeps → Option Reason
saying_refused (Own body) h k = None
saying_refused (OfQueue s) h k = op_refusal (asked_op k.mirror h.view h.id k.started s)

-- what is kept once a member, whose view is of a version, has published a message
abbrev pub publishing : Message → ℕ → Keeps → Keeps
publishing m version k = record {
  mirror = apply_ops k.mirror (ops_of m);
  started = k.started || list_any is_start (ops_of m);
  told = cond (list_any is_tell (ops_of m)) version k.told;
  book = published_in (kind_of_message m) k.book;
}

-- and once it has said what it says
abbrev pub having_said : Result Message Reason → ℕ → Keeps → Keeps
having_said (Ok m) version k = publishing m version k
having_said (Err r) version k = k

-- ---- what a packet brings

-- a packet, as a member takes it
abbrev pub as_taken : PacketShown → PacketById
as_taken k = record { view = k.view; first = false; lines = k.lines }

-- what a member keeps of its own messages
abbrev pub own_known : Held → Kept
own_known h = known_at h.known (h.id - 1)

-- up to which number its messages have come round once it has taken the first of these items
abbrev pub round_first : Held → List (Option PacketShown) → ℕ
round_first h (Some k ∷ items) = (own_known (took_held h (as_taken k))).forgot
round_first h items = 0

-- once it has taken the next packet of its link
abbrev pub round_next : Shown → ℕ
round_next m = round_first m.held (at_some m.ends.link [] (λ (n : InSeen). n.items))

-- the operations among messages that were taken, in order
abbrev pub ops_taken : List Taken → List Op
ops_taken taken = flat_map (λ (t : Taken). ops_of t.message) taken

-- those that the first of these items brings a member
abbrev pub ops_first : Held → List (Option PacketShown) → List Op
ops_first h (Some k ∷ items) = ops_taken (news_of h (as_taken k))
ops_first h items = []

-- those that the next packet of its link brings it
abbrev pub ops_next : Shown → List Op
ops_next m = ops_first m.held (at_some m.ends.link [] (λ (n : InSeen). n.items))

-- how many messages lines have, of the origins that a ring may have
abbrev pub messages_on : List (Option LineSeen) → ℕ
messages_on lines = sum_by (λ p. at_some (line_at lines p) 0 (λ (l : LineSeen). length l.messages)) places

-- ---- events

-- what is kept once the member has done something of this kind
abbrev pub kept_after : Kind → Shown → Keeps → Keeps
kept_after (Says s) m k = having_said (said_by s m.held k) m.held.view.version k
kept_after (Steps step.Take) m k = record k { mirror = apply_ops k.mirror (ops_next m); book = without_room (came_round (round_next m) k.book) }
kept_after kind m k = k

-- by all parties, once the member at a place has done it
abbrev pub all_kept_after : Kind → ℕ → Parties → List Keeps → List Keeps
all_kept_after (Changes (change.Admit name)) i q ks = ks ++ joining_keeps ∷ []
all_kept_after kind i q ks = slice_set ks i (kept_after kind (node_at q i) (keeps_at ks i))
