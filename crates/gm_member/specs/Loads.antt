-- What stands on a link, and the grants that are given for it.
use Rattle.std.specs.Prelude.{◌≡◌, ℕ, Bool, true, List, [], ◌∷◌, Option, None, Some}
use Rattle.ring_names.specs.declared.numbers.Stamp.{Stamp}
use Rattle.ordered_link.specs.declared.grant.Grant.{Grant}
use Rattle.ordered_link.specs.declared.item.Item.{Item}
use Rattle.ordered_link.specs.declared.item.Item.TheVariants as item
use Rattle.activity.specs.declared.packet.Load.{Load}
use Rattle.activity.specs.declared.packet.Load.TheVariants as load
use Rattle.activity.specs.Packets.{PacketSeen}

-- the packet that a load is
abbrev pub packet_seen : Load → PacketSeen
packet_seen (load.Packet k) = k

-- a packet as it stands on a link
abbrev pub as_item : PacketSeen → Item Load
as_item k = item.Load (load.Packet k)

-- the stamp under which an item was put
abbrev pub stamp_of : Item Load → Stamp
stamp_of (item.Load x) = (packet_seen x).stamp
stamp_of (item.End reason stamp) = stamp

-- of these items none may be taken now: there is none, or the first one's stamp says that it comes too late
abbrev pub NoneIsDue : (Stamp → Bool) → List (Item Load) → Type 0
NoneIsDue late [] = Unit {0}
NoneIsDue late (x ∷ items) = late (stamp_of x) ≡ true

-- a grant was given under a stamp, where one is due
abbrev pub GrantsIf : {I : Type 0} → Option ℕ → Stamp → (I → Grant → I → Type 0) → I → I → Type 0
GrantsIf None stamp sends i j = j ≡ i
GrantsIf (Some amount) stamp sends i j = sends i (record { amount = amount; stamp = stamp }) j
