-- What is done to an end of a link that a member has.
use Rattle.std.specs.Prelude.{◌≡◌, ◌⊎◌, ◌<◌, ◌≤◌, ℕ, Bool, false, List, [], ◌∷◌, ⊤, Option, None, Some, MatchOption, ◌++◌}
use mathlib.Core.List.{IsPrefix}
use Rattle.ring_names.specs.declared.reason.Reason.{Reason}
use Rattle.ring_names.specs.declared.reason.Reason.TheVariants.{LinkFull, NothingToTake, EndNext, PacketNext, ViewTooOld}
use Rattle.ring_names.specs.declared.numbers.Stamp.{Stamp}
use Rattle.ordered_link.specs.declared.grant.Grant.{Grant}
use Rattle.ordered_link.specs.declared.item.EndReason.{EndReason}
use Rattle.ordered_link.specs.declared.item.Item.{Item}
use Rattle.ordered_link.specs.declared.item.Item.TheVariants as item
use Rattle.activity.specs.declared.packet.Load.{Load}
use Rattle.gm_member.specs.declared.fault.MemberFault.{MemberFault}
use Rattle.gm_member.specs.declared.fault.MemberFault.TheVariants as faults
use Rattle.activity.specs.Packets.{PacketSeen}
use Rattle.gm_member.specs.Packets.{PacketById, packet_by_id}
use Rattle.gm_member.specs.Loads.{packet_seen, as_item, NoneIsDue, GrantsIf}
use Rattle.gm_member.specs.declared.links.OutLink.{OutLink}
use Rattle.gm_member.specs.View.{ring_link}
use Rattle.group_view.specs.declared.link.LinkName.{LinkName}
use Rattle.ordered_link.specs.declared.item.EndReason.TheVariants.{Moved}

module _ {O : Type 0} where
  -- the end is there, and hasn't ended
  abbrev pub EndIsOpen : (O → Bool) → Option O → Type 0
  EndIsOpen ended a = MatchOption a ⊥ (λ o. ended o ≡ false)

  -- the item was put on the end
  abbrev pub EndPuts : (O → Item Load → O → Type 0) → Item Load → Option O → Option O → Type 0
  EndPuts puts x a b = (o : O) × (p : O) × (a ≡ Some o) × (b ≡ Some p) × puts o x p

  -- a packet that says this, whatever the order of its lines, was put on the end under a stamp
  abbrev pub EndSends : (O → Item Load → O → Type 0) → Stamp → PacketById → Option O → Option O → Type 0
  EndSends puts stamp said a b = (k : PacketSeen) × (packet_by_id k ≡ said) × EndPuts puts (as_item k) a b × (k.stamp ≡ stamp)

  -- the end may know more
  abbrev pub EndLooks : (O → O → Type 0) → Option O → Option O → Type 0
  EndLooks looked a b = (b ≡ a) ⊎ (o : O) × (p : O) × (a ≡ Some o) × (b ≡ Some p) × looked o p

  -- the link on which member x sends, where it sends on one, has ended, as its sender has moved on, and the end joins those that it has replaced
  abbrev pub Replaces : (O → Item Load → O → Type 0) → ℕ → Option (OutLink O) → List (LinkName × O) → List (LinkName × O) → Type 0
  Replaces puts x link old new =
      MatchOption link (new ≡ old) (λ l. (o : O) × (stamp : Stamp) × EndPuts puts (item.End Moved stamp) l.end (Some o) × (new ≡ old ++ (ring_link x l.to.0 l.opened, o) ∷ []))

  -- why an enabled put failed: memory was wanted, or the end had no room for a load
  abbrev pub IsPutFault : (O → ℕ) → MemberFault → Option O → Type 0
  IsPutFault free fault b = (fault ≡ faults.OutOfMemory) ⊎ ((fault ≡ faults.Refused LinkFull) × MatchOption b ⊥ (λ o. free o ≤ 1))

module _ {I : Type 0} where
  -- nothing is known to stand on the link that doesn't come too late, unless a grant waits
  abbrev pub NothingIsNext : (I → List (Item Load)) → (I → Option Grant) → (Stamp → Bool) → Option I → Type 0
  NothingIsNext known waiting late a = MatchOption a ⊥ (λ i. (waiting i ≡ None) → NoneIsDue late (known i))

  -- the end of the link is known to stand first on it
  abbrev pub EndIsNext : (I → List (Item Load)) → Option I → Type 0
  EndIsNext known a = MatchOption a ⊥ (λ i. (reason : EndReason) × (stamp : Stamp) × IsPrefix (item.End reason stamp ∷ []) (known i))

  -- a packet is known to stand first on it, of which P holds
  abbrev pub PacketIsNext : (I → List (Item Load)) → (PacketSeen → Type 0) → Option I → Type 0
  PacketIsNext known P a = MatchOption a ⊥ (λ i. (x : Load) × IsPrefix (item.Load x ∷ []) (known i) × P (packet_seen x))

  -- why a member whose view is of this version may take no packet: nothing stands there, the end is next, or the packet is of a newer
  -- version
  abbrev pub IsTakeRefusal : (I → List (Item Load)) → (I → Option Grant) → (Stamp → Bool) → ℕ → Reason → Option I → Type 0
  IsTakeRefusal known waiting late version reason a =
      ((reason ≡ NothingToTake) × NothingIsNext known waiting late a)
      ⊎ (((reason ≡ EndNext) × EndIsNext known a)
      ⊎ PacketIsNext known (λ k. (version < k.view) × (reason ≡ ViewTooOld k.view version)) a)

  -- why it may not take the end
  abbrev pub IsEndRefusal : (I → List (Item Load)) → (I → Option Grant) → (Stamp → Bool) → Reason → Option I → Type 0
  IsEndRefusal known waiting late reason a =
      ((reason ≡ NothingToTake) × NothingIsNext known waiting late a)
      ⊎ ((reason ≡ PacketNext) × PacketIsNext known (λ _. ⊤) a)

  -- why it took no packet: it may not, or memory was wanted for one that it may
  abbrev pub IsTakeFault : (I → List (Item Load)) → (I → Option Grant) → (Stamp → Bool) → ℕ → MemberFault → Option I → Type 0
  IsTakeFault known waiting late version fault a =
      ((reason : Reason) × (fault ≡ faults.Refused reason) × IsTakeRefusal known waiting late version reason a)
      ⊎ ((fault ≡ faults.OutOfMemory) × PacketIsNext known (λ k. k.view ≤ version) a)

  -- a load was taken after a look, and no grant waits
  abbrev pub EndTakes : (I → Option Grant) → (I → Item Load → I → Type 0) → (I → I → Type 0) → Load → Option I → Option I → Type 0
  EndTakes waiting takes looked x a b =
      (i : I) × (j : I) × (z : I) × (a ≡ Some i) × looked i j × takes j (item.Load x) z × (waiting z ≡ None) × (b ≡ Some z)

  -- a packet was taken after a look, and a grant given under a stamp where one is due
  abbrev pub EndTook : (I → Option Grant) → (I → Item Load → I → Type 0) → (I → I → Type 0) → (I → Grant → I → Type 0) → Option ℕ → Stamp → PacketSeen → Option I → Option I → Type 0
  EndTook waiting takes looked sends due stamp k a b =
      (i : I) × (j : I) × (y : I) × (z : I) × (a ≡ Some i) × looked i j × takes j (as_item k) y × (waiting y ≡ None)
      × GrantsIf due stamp sends y z × (b ≡ Some z)

  -- the end of the link, which carries a stamp, was taken after a look
  abbrev pub EndEnds : (I → Item Load → I → Type 0) → (I → I → Type 0) → EndReason → Stamp → Option I → Option I → Type 0
  EndEnds takes looked reason stamp a b = (i : I) × (j : I) × (z : I) × (a ≡ Some i) × looked i j × takes j (item.End reason stamp) z × (b ≡ Some z)
