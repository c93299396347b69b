-- What the parties of a cluster show: its members with the ends of their links, and its registrar with the links that wait there.
use Rattle.std.specs.Prelude.{◌≡◌, ℕ, ◌++◌, Bool, false, List, [], map, slice_index_or, slice_set, Option, Some, None, option_map}
use Rattle.ordered_link.specs.declared.grant.Grant.{Grant}
use Rattle.ordered_link.specs.declared.item.Item.{Item}
use Rattle.ordered_link.specs.declared.item.Item.TheVariants as item
use Rattle.rtrb.specs.Ring.{sent, received as got, known_items, known_free}
use Rattle.ordered_link.specs.declared.ends.LinkOut.{Ghosts}
use Rattle.ordered_link.specs.Names.{out_pair, in_pair}
use Rattle.ordered_link.specs.declared.ring.RingOut.{RingOut}
use Rattle.ordered_link.specs.declared.ring.RingIn.{RingIn}
use Rattle.ordered_link.specs.RingSteps.{RingPuts, RingGains}
use Rattle.confirm_book.specs.Book.{Ledger, without_room}
use Rattle.group_view.specs.declared.link.LinkName.{LinkName}
use Rattle.group_view.specs.View.{Group}
use Rattle.group_view.specs.Since.{no_group}
use Rattle.queue_mirror.specs.Mirror.{MirrorState}
use Rattle.ring_rules.specs.declared.phase.Phase.TheVariants as phase
use Rattle.registrar.specs.Registry.{Registry}
use Rattle.registrar.specs.declared.waiting_link.WaitingLink.{WaitingLink}
use Rattle.activity.specs.declared.packet.Load.{Load}
use Rattle.gm_member.specs.declared.member.Member.{Member}
use Rattle.gm_member.specs.Packets.{packet_by_id}
use Rattle.gm_member.specs.Loads.{packet_seen}
use Rattle.gm_member.specs.Held.{Held}
use Rattle.gm_member.specs.Shown.{Ends, held_of, ends_of, with_in as with_end}
use Rattle.ring_parties.specs.declared.party.Party.{Party}
use Rattle.ring_parties.specs.Ends.{PacketShown, OutSeen, InSeen}

-- what a ring's out end shows as the end of a link
abbrev pub ring_out : Ghosts (RingOut Load) Load
ring_out = record { free = λ e. known_free e.items; ended = λ e. e.ended; grants = λ e. known_items e.back; puts = RingPuts; gains = RingGains; looked = λ a b. b ≡ a }

-- a member over ring pairs
abbrev pub ANode : Type 0
ANode = Member (RingOut Load) (RingIn Load) ring_out

-- ---- what ends show

-- an item of a link
abbrev pub content : Item Load → Option PacketShown
content (item.Load x) = Some (record { view = (packet_seen x).view; lines = (packet_by_id (packet_seen x)).lines })
content (item.End reason stamp) = None

-- the credit of grants
abbrev pub amounts : List Grant → List ℕ
amounts grants = map (λ (g : Grant). g.amount) grants

-- and of one that waits
abbrev pub amount_of : Option Grant → Option ℕ
amount_of grant = option_map (λ (g : Grant). g.amount) grant

-- an out end
abbrev pub out_seen : RingOut Load → OutSeen
out_seen o = record { put = map content (sent o.items); gained = amounts (got o.back); back = amounts (known_items o.back); initial = o.initial; free = known_free o.items; ended = o.ended; ring = out_pair o }

-- an in end
abbrev pub in_seen : RingIn Load → InSeen
in_seen n = record { taken = map content (got n.items); items = map content (known_items n.items); given = amounts (sent n.back); late = amount_of n.late; initial = n.initial; free = known_free n.back; ring = in_pair n }

-- what the ends that a member has show
abbrev pub EndsSeen : Type 0
EndsSeen = Ends OutSeen InSeen

-- ends that were replaced, with the names of their links
abbrev pub named_out : LinkName × RingOut Load → LinkName × OutSeen
named_out old = (old.0, out_seen old.1)

-- ends that were left
abbrev pub named_in : LinkName × RingIn Load → LinkName × InSeen
named_in old = (old.0, in_seen old.1)

-- what they show
abbrev pub ends_seen : Ends (RingOut Load) (RingIn Load) → EndsSeen
ends_seen e = record {
  out = option_map out_seen e.out;
  returned = e.returned;
  link = option_map in_seen e.link;
  door = map (option_map in_seen) e.door;
  old_outs = map named_out e.old_outs;
  old_ins = map named_in e.old_ins;
}

-- ---- members

-- What a member shows: what it holds, and its ends.
pub record Shown : Type 0 where
  pub held : Held
  pub ends : EndsSeen

-- what this one shows
abbrev pub shown_of : ANode → Shown
shown_of m = record { held = held_of m; ends = ends_seen (ends_of m) }

-- what the member of a party shows
abbrev pub shown_in : Party → Shown
shown_in p = shown_of p.node

-- what a member shows that isn't there, for places beyond the last
abbrev pub no_shown : Shown
no_shown = record {
  held = record { id = 0; name = []; phase = phase.Stopped; view = no_group; known = []; out = None; current = None; door = []; asks = false; initial = 0; more = 0 };
  ends = record { out = None; returned = None; link = None; door = []; old_outs = []; old_ins = [] };
}

-- ---- the queue

-- What a party keeps of its queue beside its member: the mirror, whether it has started as a master, the version that its view had
-- when it last told how many messages there are, and the book of what the member has published, but for its room.
pub record Keeps : Type 0 where
  pub mirror : MirrorState
  pub started : Bool
  pub told : ℕ
  pub book : Ledger

-- what this one keeps
abbrev pub keeps_in : Party → Keeps
keeps_in p = record { mirror = p.mirror.mirror; started = p.started; told = p.told; book = without_room p.book }

-- ---- the registrar

-- A link that waits for its receiver: its name, and its end, where it isn't lent.
pub record Deposit : Type 0 where
  pub name : LinkName
  pub end : Option InSeen

-- one that stands at the registrar
abbrev pub deposit_shown : WaitingLink (RingIn Load) → Deposit
deposit_shown s = record { name = s.name; end = option_map in_seen s.link }

-- a link whose end isn't there
abbrev pub no_deposit : LinkName → Deposit
no_deposit name = record { name = name; end = None }

-- ---- all of them

-- The members by their places, which are their ids less one; the views by version, and the ids of those that gave notice that they
-- stopped; and the links that wait for their receivers, the oldest first.
pub record Parties : Type 0 where
  pub nodes : List Shown
  pub views : List Group
  pub stopped : List ℕ
  pub deposits : List Deposit

-- the parties, with these links behind those that stand at the registrar
abbrev pub parties : List Party → Registry (RingIn Load) → List Deposit → Parties
parties members r behind = record { nodes = map shown_in members; views = r.views; stopped = r.stopped; deposits = map deposit_shown r.links ++ behind }

-- What is seen of the parties: what they show, what they keep of their queue, by places, and whether the registrar is owed a link that waits
-- behind those which stand there.
pub record PartiesSeen : Type 0 where
  pub all : Parties
  pub keeps : List Keeps
  pub owes : Bool

-- the member at a place
abbrev pub node_at : Parties → ℕ → Shown
node_at q i = slice_index_or q.nodes i no_shown

-- the names of the members, by places
abbrev pub names_shown : Parties → List (List ℕ)
names_shown q = map (λ m. m.held.name) q.nodes

-- it is another
abbrev pub with_node : Parties → ℕ → Shown → Parties
with_node q i m = record q { nodes = slice_set q.nodes i m }

-- a member with another out end
abbrev pub with_out : Shown → OutSeen → Shown
with_out m o = record m { ends = record m.ends { out = Some o } }

-- and with another end of a link to it
abbrev pub with_in : Shown → ℕ → InSeen → Shown
with_in m place n = record m { ends = with_end m.ends place (Some n) }
