-- What a member of a ring shows, and what its calls do to its ends.
use Rattle.std.specs.List.{slice_get}
use Rattle.std.specs.Prelude.{◌≡◌, ◌-◌, nat_eq, if◌then◌else◌, ◌⊎◌, ◌+◌, ◌<◌, ◌≤◌, vec_len, vec_capacity, ◌++◌, ◌∷◌, [], ℕ, Bool, true, false, not, List, length, map, ⊤, Option, Some, None, option_map, slice_index_or, slice_set, is_some, nat_lt, IsSome, MatchOption}
use Rattle.credit_flow.specs.Credit.{grant_due}
use Rattle.ring_names.specs.declared.numbers.Stamp.{Stamp}
use Rattle.ordered_link.specs.declared.grant.Grant.{Grant}
use Rattle.lamport_merge.specs.Recorder.{Recorded}
use Rattle.ordered_link.specs.declared.ends.LinkOut.{Ghosts}
use Rattle.ordered_link.specs.declared.item.EndReason.{EndReason}
use Rattle.group_view.specs.View.{Group}
use Rattle.group_view.specs.declared.link.LinkName.{LinkName}
use Rattle.ordered_link.specs.declared.item.Item.{Item}
use Rattle.ring_rules.specs.View.{right_of}
use Rattle.ring_rules.specs.Machine.{runs_phase}
use Rattle.activity.specs.declared.packet.Load.{Load}
use Rattle.gm_member.specs.declared.links.OutLink.{OutLink}
use Rattle.gm_member.specs.declared.links.InLink.{InLink}
use Rattle.gm_member.specs.declared.spare.Spare.{Spare}
use Rattle.gm_member.specs.declared.member.Member.{Member}
use Rattle.ring_names.specs.declared.numbers.MemberId.{MemberId}
use Rattle.group_view.specs.declared.request.Request.{Request}
use Rattle.ordered_link.specs.declared.item.Item.TheVariants as item
use Rattle.gm_member.specs.Spares.{IsSpareFor, OpensOn}
use Rattle.gm_member.specs.View.{all_kept, out_of, in_of, end_of, count_of, ring_link, kept_link, kept_links, left_current, left_links}
use Rattle.activity.specs.Packets.{PacketSeen}
use Rattle.gm_member.specs.Held.{Held, at_some, packet_on, without, sends_to}
use Rattle.gm_member.specs.Ends.{EndIsOpen, EndPuts, EndSends, EndLooks, EndTook, EndEnds, Replaces}

-- The ends that a member has: of the link on which it sends, with the grant that it keeps of it; of the one from which it takes; of
-- those at its door; and those that it has replaced or left, the oldest first. An end that is lent isn't there.
pub record Ends (O I : Type 0) : Type 0 where
  pub out : Option O
  pub returned : Option Grant
  pub link : Option I
  pub door : List (Option I)
  pub old_outs : List (LinkName × O)
  pub old_ins : List (LinkName × I)

module _ {O I : Type 0} {g : Ghosts O Load} where
  -- what a member holds
  abbrev pub held_of : Member O I g → Held
  held_of m = record {
    id = m.id.0;
    name = m.name;
    phase = m.phase;
    view = m.view;
    known = all_kept m.tables;
    out = option_map out_of m.out;
    current = option_map in_of m.current;
    door = map in_of m.door.items;
    asks = m.asked;
    initial = m.credit.initial;
    more = m.credit.more;
  }

  -- the ends that it has
  abbrev pub ends_of : Member O I g → Ends O I
  ends_of m = record {
    out = at_some m.out None (λ l. l.end);
    returned = at_some m.out None (λ l. l.returned);
    link = at_some m.current None (λ l. l.end);
    door = map end_of m.door.items;
    old_outs = m.old_outs.items;
    old_ins = m.old_ins.items;
  }

  -- what it has recorded of the round
  abbrev pub recorded_of : Member O I g → Recorded
  recorded_of m = m.recorder.recorded

  -- for how many more entries there is room
  abbrev pub spare_of : Member O I g → ℕ
  spare_of m = m.recorder.spare

-- the name of the link on which a member sends
abbrev pub out_name_of : Held → Option LinkName
out_name_of h = option_map (λ o. ring_link h.id o.to o.opened) h.out

-- the name of a link to it, at the place of the one from which it takes, or of one at its door
abbrev pub in_name_of : Held → ℕ → Option LinkName
in_name_of h place = option_map (λ l. ring_link l.from h.id l.opened) (if nat_eq place 0 then h.current else slice_get h.door (place - 1))

-- whether such a link is there
abbrev pub has_in : Held → ℕ → Bool
has_in h place = if nat_eq place 0 then is_some h.current else nat_lt (place - 1) (length h.door)

module _ {O I : Type 0} where
  -- the end of a link at such a place
  abbrev pub in_end : Ends O I → ℕ → Option I
  in_end e place = if nat_eq place 0 then e.link else slice_index_or e.door (place - 1) None

  -- the ends with another one there
  abbrev pub with_in : Ends O I → ℕ → Option I → Ends O I
  with_in e place end = if nat_eq place 0 then record e { link = end } else record e { door = slice_set e.door (place - 1) end }

-- P where a test passes, and nothing where it doesn't
abbrev pub When : Bool → Type 0 → Type 0
When true P = P
When false P = ⊤

module _ {O I : Type 0} {g : Ghosts O Load} where
  -- the end of the link on which a member sends, where it sends on one, is there, and hasn't ended
  abbrev pub OutIsOpen : (O → Bool) → Member O I g → Type 0
  OutIsOpen ended m = MatchOption m.out ⊤ (λ l. EndIsOpen ended l.end)

  -- so it is for a running member
  abbrev pub OutIsReady : (O → Bool) → Member O I g → Type 0
  OutIsReady ended m = When (runs_phase m.phase) (OutIsOpen ended m)

  -- the end of the link on which a running member sends, where it sends on one, isn't lent
  abbrev pub OutIsBack : Member O I g → Type 0
  OutIsBack m = When (runs_phase m.phase) (MatchOption m.out ⊤ (λ l. IsSome l.end))

  -- the end of the link from which it takes is there
  abbrev pub InIsReady : Member O I g → Type 0
  InIsReady m = MatchOption m.current ⊤ (λ l. IsSome l.end)

  -- the links to the member are as they were, and so are the ends that it has replaced or left
  abbrev pub SameIns : Member O I g → Member O I g → Type 0
  SameIns m n = (n.current ≡ m.current) × (n.door ≡ m.door) × (n.old_outs ≡ m.old_outs) × (n.old_ins ≡ m.old_ins)

  -- the link on which it sends is as it was, and so are those at its door and the ends that it has replaced or left
  abbrev pub SameOut : Member O I g → Member O I g → Type 0
  SameOut m n = (n.out ≡ m.out) × (n.door ≡ m.door) × (n.old_outs ≡ m.old_outs) × (n.old_ins ≡ m.old_ins)

  -- the next packet was put, under a stamp, on the link on which it sends
  abbrev pub PutsOn : (O → Item Load → O → Type 0) → Stamp → Member O I g → Member O I g → Type 0
  PutsOn puts stamp m n =
      (l : OutLink O) × (l' : OutLink O) × (m.out ≡ Some l) × (n.out ≡ Some l')
      × EndSends puts stamp (packet_on m.view.version (all_kept m.tables) (out_of l)) l.end l'.end × (l'.returned ≡ l.returned) × SameIns m n

  -- the end of the link on which it sends may know more
  abbrev pub LooksOut : (O → O → Type 0) → Member O I g → Member O I g → Type 0
  LooksOut looked m n =
      SameIns m n
      × ((n.out ≡ m.out)
      ⊎ (l : OutLink O) × (l' : OutLink O) × (m.out ≡ Some l) × (n.out ≡ Some l') × EndLooks looked l.end l'.end × (l'.returned ≡ l.returned))

  -- that of the link from which it takes
  abbrev pub LooksIn : (I → I → Type 0) → Member O I g → Member O I g → Type 0
  LooksIn looked m n =
      SameOut m n
      × ((n.current ≡ m.current)
      ⊎ (l : InLink I) × (l' : InLink I) × (m.current ≡ Some l) × (n.current ≡ Some l') × EndLooks looked l.end l'.end)

  -- a packet was taken from the link from which it takes, and a grant given under a stamp where one is due
  abbrev pub TookOn : (I → Option Grant) → (I → Item Load → I → Type 0) → (I → I → Type 0) → (I → Grant → I → Type 0) → Stamp → PacketSeen → Member O I g → Member O I g → Type 0
  TookOn waiting takes looked sends stamp k m n =
      (l : InLink I) × (l' : InLink I) × (m.current ≡ Some l) × (n.current ≡ Some l')
      × EndTook waiting takes looked sends (grant_due l.counted) stamp k l.end l'.end × SameOut m n

  -- the end of that link, which carries a stamp, was taken, and the end that the member has of it is the last of those that it has left
  abbrev pub LeavesOn : (I → Item Load → I → Type 0) → (I → I → Type 0) → EndReason → Stamp → Member O I g → Member O I g → Type 0
  LeavesOn takes looked reason stamp m n =
      (l : InLink I) × (i : I) × (m.current ≡ Some l) × EndEnds takes looked reason stamp l.end (Some i) × (n.current ≡ None)
      × (n.old_ins.items ≡ m.old_ins.items ++ (ring_link l.from.0 m.id.0 l.opened, i) ∷ [])
      × (n.out ≡ m.out) × (n.door ≡ m.door) × (n.old_outs ≡ m.old_outs)

  -- the link on which it sends ends, under a stamp
  abbrev pub EndsOn : (O → Item Load → O → Type 0) → EndReason → Stamp → Member O I g → Member O I g → Type 0
  EndsOn puts reason stamp m n =
      SameIns m n × MatchOption m.out (n.out ≡ None) (λ l. (l' : OutLink O) × (n.out ≡ Some l') × EndPuts puts (item.End reason stamp) l.end l'.end × (l'.returned ≡ l.returned))

  -- the link at a place of its door is the one from which it takes
  abbrev pub PicksOn : ℕ → Member O I g → Member O I g → Type 0
  PicksOn i m n =
      (i < length m.door.items) × MatchOption n.current ⊥ (λ l. l ≡ slice_index_or m.door.items i l) × (n.door.items ≡ without i m.door.items)
      × (n.out ≡ m.out) × (n.old_outs ≡ m.old_outs) × (n.old_ins ≡ m.old_ins)

  -- a grant of the link on which it sends is kept: it was, or it has been taken from the end now
  abbrev pub KeepsGrant : (O → Grant → O → Type 0) → Grant → Member O I g → Member O I g → Type 0
  KeepsGrant gains grant m n =
      SameIns m n × (l : OutLink O) × (l' : OutLink O) × (m.out ≡ Some l) × (n.out ≡ Some l') × (l'.returned ≡ Some grant)
      × (((l.returned ≡ Some grant) × (l'.end ≡ l.end))
      ⊎ (l.returned ≡ None) × (o : O) × (p : O) × (l.end ≡ Some o) × (l'.end ≡ Some p) × gains o grant p)

  -- no grant has come back on it
  abbrev pub NoGrantBack : (O → List Grant) → Member O I g → Type 0
  NoGrantBack grants m = MatchOption m.out ⊤ (λ l. (l.returned ≡ None) × MatchOption l.end ⊤ (λ o. grants o ≡ []))

  -- one is kept, or has come back
  abbrev pub GrantIsBack : (O → List Grant) → Member O I g → Type 0
  GrantIsBack grants m = MatchOption m.out ⊥ (λ l. IsSome l.returned ⊎ MatchOption l.end ⊥ (λ o. 0 < length (grants o)))

  -- of the links to it those stay that another view keeps, and of the others the ends join those that it has left
  pub record LooksBy (v : Group) (m n : Member O I g) : Type 0 where
    pub current : n.current ≡ kept_link v m.id.0 m.current
    pub door : n.door.items ≡ kept_links v m.id.0 m.door.items
    pub old_ins : n.old_ins.items ≡ (m.old_ins.items ++ left_current v m.id.0 m.current) ++ left_links v m.id.0 m.door.items

  -- The link that a member has ready, where it has one, with room for the end of the one that it replaces.
  pub record IsReadyToMove (are_fresh : ℕ → O → I → Type 0) (free : O → ℕ) (ended : O → Bool) (m : Member O I g) (s : Spare O I g) : Type 0 where
    pub spare : IsSpareFor are_fresh free ended m.credit.initial (all_kept m.tables) s
    pub room : vec_len m.old_outs + 2 ≤ vec_capacity m.old_outs

  -- the member keeps a link that is ready
  abbrev pub SpareIsReady : (ℕ → O → I → Type 0) → (O → ℕ) → (O → Bool) → Member O I g → Type 0
  SpareIsReady are_fresh free ended m = MatchOption m.spare ⊥ (IsReadyToMove are_fresh free ended m)

  -- or it keeps none
  abbrev pub SpareIsSound : (ℕ → O → I → Type 0) → (O → ℕ) → (O → Bool) → Member O I g → Type 0
  SpareIsSound are_fresh free ended m = MatchOption m.spare ⊤ (IsReadyToMove are_fresh free ended m)

  -- what makes a spare link ready stays as it was
  abbrev pub KeepsSpare : Member O I g → Member O I g → Type 0
  KeepsSpare m n = (n.spare ≡ m.spare) × (n.credit ≡ m.credit) × (all_kept n.tables ≡ all_kept m.tables) × (vec_len n.old_outs ≤ vec_len m.old_outs) × (vec_capacity m.old_outs ≤ vec_capacity n.old_outs)

  -- there is room for so many further links at the door, and for their ends among those that are left, beside the ends of all links
  -- to the member that are there
  abbrev pub HasRoom : ℕ → Member O I g → Type 0
  HasRoom n m = (vec_len m.door + n ≤ vec_capacity m.door) × (vec_len m.old_ins + vec_len m.door + count_of m.current + n ≤ vec_capacity m.old_ins)

  -- what a member has ready for an answer stays ready: the spare link, and the room for links
  abbrev pub StaysReady : Member O I g → Member O I g → Type 0
  StaysReady m n = KeepsSpare m n × ((k : ℕ) → HasRoom k m → HasRoom k n)

  -- the member, whose view is of this version, sends on a new link to another, whose receiving end stands in the request
  pub record SendsOn (are_fresh : ℕ → O → I → Type 0) (free : O → ℕ) (ended : O → Bool) (puts : O → Item Load → O → Type 0) (version : ℕ) (to : MemberId) (m n : Member O I g) (requests : List (Request I)) : Type 0 where
    pub spare : Spare O I g
    pub ready : IsSpareFor are_fresh free ended m.credit.initial (all_kept m.tables) spare
    pub link : OutLink O
    pub out : n.out ≡ Some link
    pub opens : OpensOn puts m.credit (all_kept m.tables) m.id to version spare link requests
    pub old_outs : Replaces puts m.id.0 m.out m.old_outs.items n.old_outs.items

  -- or on the one on which it did
  pub record StaysOn (m n : Member O I g) (requests : List (Request I)) : Type 0 where
    pub out : n.out ≡ m.out
    pub old_outs : n.old_outs ≡ m.old_outs
    pub requests_none : requests ≡ []

  -- with another view a member sends on as it did, where that goes to its right neighbour, else on a new link to it
  abbrev pub MovesTo : (ℕ → O → I → Type 0) → (O → ℕ) → (O → Bool) → (O → Item Load → O → Type 0) → Group → Member O I g → Member O I g → List (Request I) → Type 0
  MovesTo are_fresh free ended puts v m n requests =
      When (sends_to (held_of m).out (right_of v m.id.0)) (StaysOn m n requests)
      × When (not (sends_to (held_of m).out (right_of v m.id.0))) ((to : MemberId) × (to.0 ≡ right_of v m.id.0) × SendsOn are_fresh free ended puts v.version to m n requests)
