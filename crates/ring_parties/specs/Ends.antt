-- What the ends of a link show, and what they hold of the ring's link between them.
use Rattle.std.specs.Prelude.{◌≡◌, ℕ, ◌+◌, Bool, false, List, [], ◌∷◌, ◌++◌, length, Option, Some, None, is_some}
use Rattle.activity.specs.Packets.{LineSeen}
use Rattle.ordered_link.specs.Names.{PairName}
use Rattle.gm_member.specs.Stands.{lines_in}
use Rattle.ring_rules.specs.declared.phase.Ending.{Ending}
use Rattle.ring_rules.specs.Machine.{World, Packet, Sending, Link}
use Rattle.ring_rules.specs.Compact.{passed}

-- A packet as it stands on a link: the version of its sender's view, and its lines by the places of their origins.
pub record PacketShown : Type 0 where
  pub view : ℕ
  pub lines : List (Option LineSeen)

-- What the out end of a link shows: all items that were put, an item without a packet being the end of the link; the grants that it
-- gained, and those that it knows to have come back besides; the credit of its link; the slots that it knows to be free; whether it has
-- ended; and the rings of its link.
pub record OutSeen : Type 0 where
  pub put : List (Option PacketShown)
  pub gained : List ℕ
  pub back : List ℕ
  pub initial : ℕ
  pub free : ℕ
  pub ended : Bool
  pub ring : PairName

-- What the in end of a link shows: all items that were taken, and those that it knows to stand there besides; the grants that were given,
-- and the one that waits in the end; the credit of its link; the slots that it knows to be free on the way back; and the rings of its link.
pub record InSeen : Type 0 where
  pub taken : List (Option PacketShown)
  pub items : List (Option PacketShown)
  pub given : List ℕ
  pub late : Option ℕ
  pub initial : ℕ
  pub free : ℕ
  pub ring : PairName

-- a packet of the ring, as an item of a link, behind what passed there before it
abbrev pub packet_in : World → Sending → Packet → Option PacketShown
packet_in w before k = Some (record { view = k.version; lines = lines_in w before k })

-- packets one after another
abbrev pub packets_in : World → Sending → List Packet → List (Option PacketShown)
packets_in w before [] = []
packets_in w before (k ∷ ks) = packet_in w before k ∷ packets_in w (passed k) ks

-- the end of a link, as its last item
abbrev pub end_items : Option Ending → List (Option PacketShown)
end_items None = []
end_items (Some why) = None ∷ []

-- the items of a link of the ring: its packets, from what was taken last on, and its end behind them
abbrev pub items_in : World → Link → List (Option PacketShown)
items_in w l = packets_in w l.had l.packets ++ end_items l.ending

-- The ends may meet: they are those of one link.
pub record Fits (o : OutSeen) (n : InSeen) : Type 0 where
  pub initial : n.initial ≡ o.initial
  pub ring : n.ring ≡ o.ring
  pub slots : o.ring.slots ≡ o.initial + 1

-- What was taken, and then what stands on the link, is what was put; the grants that were gained, and then those under way, are what was
-- given; and the ends may meet.
pub record Carries (w : World) (credit : ℕ) (l : Link) (o : OutSeen) (n : InSeen) : Type 0 where
  pub items : n.taken ++ items_in w l ≡ o.put
  pub grants : o.gained ++ l.flow.grants ≡ n.given
  pub late : n.late ≡ None
  pub ended : o.ended ≡ is_some l.ending
  pub initial : o.initial ≡ credit
  pub fits : Fits o n

-- Each end knows all that the other has done, and its free slots.
pub record HaveMet (o : OutSeen) (n : InSeen) : Type 0 where
  pub items : n.taken ++ n.items ≡ o.put
  pub grants : o.gained ++ o.back ≡ n.given
  pub free : o.free + length n.items ≡ o.initial + 1
  pub room : n.free + length o.back ≡ n.initial

-- The in end knows all that was put, and which slots of the way back are free: so it is of an out end that was dropped, of which o is what it
-- showed last.
pub record HasRested (o : OutSeen) (n : InSeen) : Type 0 where
  pub items : n.taken ++ n.items ≡ o.put
  pub room : n.free + length n.given ≡ n.initial + length o.gained

-- The ends have met: nothing was put, taken, gained or given.
pub record Meets (o : OutSeen) (n : InSeen) (o' : OutSeen) (n' : InSeen) : Type 0 where
  pub met : HaveMet o' n'
  pub put : o'.put ≡ o.put
  pub gained : o'.gained ≡ o.gained
  pub taken : n'.taken ≡ n.taken
  pub given : n.late ≡ None → (n'.late ≡ None) × (n'.given ≡ n.given)
  pub ended : o'.ended ≡ o.ended
  pub out_initial : o'.initial ≡ o.initial
  pub in_initial : n'.initial ≡ n.initial
  pub out_ring : o'.ring ≡ o.ring
  pub in_ring : n'.ring ≡ n.ring

-- ---- a link that opens

-- its out end, on which the first packet was put
abbrev pub opened_out : PairName → ℕ → PacketShown → OutSeen
opened_out ring initial k = record { put = Some k ∷ []; gained = []; back = []; initial = initial; free = initial; ended = false; ring = ring }

-- an out end on which nothing was put
abbrev pub fresh_out : PairName → ℕ → OutSeen
fresh_out ring initial = record { put = []; gained = []; back = []; initial = initial; free = initial + 1; ended = false; ring = ring }

-- an in end from which nothing was taken
abbrev pub fresh_in : PairName → ℕ → InSeen
fresh_in ring initial = record { taken = []; items = []; given = []; late = None; initial = initial; free = initial; ring = ring }
