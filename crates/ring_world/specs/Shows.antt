-- What the structs show.
use Rattle.std.specs.Prelude.{ℕ, ◌-◌, ◌<◌, ◌≤◌, Bool, true, List, [], ◌∷◌, map, length, slice_index_or, vec_len, vec_capacity, ◌&&◌, ◌||◌, cond, not, nat_eq, nat_le, Option, Some, None, false}
use Rattle.std.specs.List.{flat_map}
use Rattle.queue_core.specs.declared.message.Message.{Message}
use Rattle.queue_core.specs.declared.message.Message.TheVariants.{Cast, Queue}
use Rattle.queue_core.specs.declared.op.Op.{Op}
use Rattle.queue_mirror.specs.Mirror.{apply_op, apply_ops, is_tell}
use Rattle.queue_laws.specs.Part.{ops}
use Rattle.queue_laws.specs.Starting.{is_start}
use Rattle.ring_names.specs.declared.numbers.CreditSpec.{CreditSpec}
use Rattle.ring_rules.specs.Rows.{Row, Flow, no_row, full_flow, regained, brought}
use Rattle.group_view.specs.Since.{no_group}
use Rattle.ring_world.specs.declared.plain_member.KnownOrigin.{KnownOrigin}
use Rattle.ring_world.specs.declared.plain_member.PlainMember.{PlainMember}
use Rattle.ring_world.specs.declared.plain_member.Brought.{Brought}
use Rattle.ring_world.specs.declared.plain_link.Packet as plain
use Rattle.ring_world.specs.declared.plain_link.PlainLink.{PlainLink}
use Rattle.ring_world.specs.declared.state.Ring.{Ring}
use Rattle.group_view.specs.View.{Group}
use Rattle.ring_rules.specs.Machine.{Packet, Member, Sending, Link, World, no_member, no_link, no_sending, row_at, numbers_at}
use Rattle.ring_rules.specs.Step.{is_owned, pushed, next_lines}

-- a row
abbrev pub row_of : KnownOrigin → Row
row_of r = record { got = r.got; forgot = r.forgot; retired = r.retired; heard = r.heard.items; base = r.base; born = r.born }

-- a member
abbrev pub member_of : PlainMember → Member
member_of n = record {
  name = n.name;
  phase = n.phase;
  version = n.version;
  log = n.log.items;
  rows = map row_of n.rows.items;
  out = n.out;
  current = n.current;
  mirror = n.mirror.mirror;
  started = n.started;
  told = n.told;
  whole = n.whole;
}

-- a packet
abbrev pub packet_of : plain.Packet → Packet
packet_of k = record { version = k.version; numbers = k.numbers.items }

-- the credit of a link
abbrev pub flow_of : PlainLink → Flow
flow_of l = record { sender = l.outgoing; receiver = l.incoming; grants = l.grants.items }

-- the operation that a message is, if it is one
abbrev pub operation_in : Message → Option Op
operation_in (Cast body) = None
operation_in (Queue o) = Some o

-- a member whose mirror takes an operation that it has published, if there is one
abbrev pub followed : Option Op → Member → Member
followed None y = y
followed (Some o) y = record y {
  mirror = apply_op y.mirror o;
  started = y.started || is_start o;
  told = cond (is_tell o) y.version y.told;
}

-- a link
abbrev pub link_of : PlainLink → Link
link_of l = record {
  sender = l.sender;
  receiver = l.receiver;
  opened = l.opened;
  packets = map packet_of l.packets.items;
  ending = l.ending;
  over = l.over;
  sending = record { fresh = l.fresh; sent = packet_of l.sent };
  had = record { fresh = l.untaken; sent = packet_of l.had };
  flow = flow_of l;
}

-- a state of the ring; before its members and views stands nobody
abbrev pub world_of : Ring → World
world_of r = record {
  members = no_member ∷ map member_of r.members.items;
  links = map link_of r.links.items;
  views = no_group ∷ r.views.items;
  initial = r.credit.initial;
  more = r.credit.more;
}

-- what stands at a place, as the structs show it
abbrev pub row_in : List KnownOrigin → ℕ → Row
row_in rows p = slice_index_or (map row_of rows) p no_row

-- the member at a place
abbrev pub member_in : List PlainMember → ℕ → Member
member_in members i = slice_index_or (map member_of members) i no_member

-- the link at a place
abbrev pub link_in : List PlainLink → ℕ → Link
link_in links i = slice_index_or (map link_of links) i no_link

-- how many messages more a row has room for
abbrev pub room_of : KnownOrigin → ℕ
room_of r = vec_capacity r.heard - vec_len r.heard

-- what a packet brings of one origin, and whether the taker answers for it
pub record News : Type 0 where
  pub own : Bool
  pub messages : List Message

-- what is brought of an origin beyond those of the packet
abbrev pub no_news : News
no_news = record { own = true; messages = [] }

-- what the struct shows of it
abbrev pub news_of : Brought → News
news_of b = record { own = b.own; messages = b.messages.items }

-- the news of an origin
abbrev pub news_in : List Brought → ℕ → News
news_in news p = slice_index_or (map news_of news) p no_news

-- each row has room for its news
abbrev pub HasRoom : List KnownOrigin → List Brought → Type 0
HasRoom rows news = (k : ℕ) → k < length rows → length (news_in news k).messages ≤ slice_index_or (map room_of rows) k 0

-- the queue's operations among the news of all origins
abbrev pub operations_in : List News → List Op
operations_in ns = flat_map (λ n. ops n.messages) ns

-- a member with these rows, whose mirror has taken these operations
abbrev pub with_news : Member → List Row → List Op → Member
with_news y rows l = record y { rows = rows; mirror = apply_ops y.mirror l }

-- the oldest grant under way on the link has come to its sender
abbrev pub gained_on : Link → Link
gained_on l = record l { flow = regained l.flow }

-- whether a link stands at the door of a member with this left neighbour since then
abbrev pub stands_at_door : ℕ → ℕ → ℕ → Link → Bool
stands_at_door y left since l = nat_eq l.receiver y && (not l.over && (nat_eq l.sender left && nat_le since l.opened))

-- what a packet from s brings y of the origin p, in y's view; the members stand by id
abbrev pub news_at : Group → List Member → ℕ → ℕ → Packet → ℕ → News
news_at v ms y s k p = record {
  own = is_owned v y s p;
  messages = brought (is_owned v y s p) (slice_index_or ms p no_member).log (row_at (slice_index_or ms y no_member) p) (numbers_at k p);
}

-- a member with this view and this current link, and one that sends on this link
abbrev pub looked : ℕ → Option ℕ → Member → Member
looked v s y = record y { version = v; current = s }

-- one that sends on this link
abbrev pub with_out : Option ℕ → Member → Member
with_out o y = record y { out = o }

-- the next packet of a member in version v, on a link whose sending side is this
abbrev pub packet_in : ℕ → Member → Sending → Packet
packet_in v y s = record { version = v; numbers = next_lines s.fresh y.rows s.sent.numbers }

-- a link opens in version v, with its whole credit and nothing on it
abbrev pub link_new : CreditSpec → ℕ → ℕ → ℕ → Link
link_new credit x z v =
    record { sender = x; receiver = z; opened = v; packets = []; ending = None; over = false; sending = no_sending; had = no_sending; flow = full_flow credit.initial credit.more }

-- and with its first packet of these rows
abbrev pub link_opened : CreditSpec → ℕ → ℕ → ℕ → List Row → Link
link_opened credit x z v rows = pushed (link_new credit x z v) (record { version = v; numbers = next_lines true rows [] })
