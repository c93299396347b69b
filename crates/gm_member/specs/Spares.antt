-- What a spare link is, and what opening it does.
use Rattle.std.specs.Prelude.{◌≡◌, ◌+◌, ℕ, Bool, true, false, List, [], ◌∷◌, Option, None, Some}
use Rattle.ring_names.specs.declared.numbers.CreditSpec.{CreditSpec}
use Rattle.ring_names.specs.declared.numbers.MemberId.{MemberId}
use Rattle.group_view.specs.declared.link.LinkKind.TheVariants.{Ring}
use Rattle.group_view.specs.declared.request.Request.{Request}
use Rattle.group_view.specs.declared.request.Request.TheVariants.{Deposit}
use Rattle.ordered_link.specs.declared.ends.LinkOut.{Ghosts}
use Rattle.ordered_link.specs.declared.item.Item.{Item}
use Rattle.activity.specs.declared.packet.Load.{Load}
use Rattle.activity.specs.Kept.{Kept}
use Rattle.activity.specs.LastSent.{LastSent, never_sent, sent_of}
use Rattle.activity.specs.Packets.{PacketSeen}
use Rattle.gm_member.specs.declared.links.OutLink.{OutLink}
use Rattle.gm_member.specs.declared.spare.Spare.{Spare}
use Rattle.gm_member.specs.Loads.{as_item}
use Rattle.gm_member.specs.Packets.{packet_by_id}
use Rattle.gm_member.specs.View.{out_of, all_sent}
use Rattle.gm_member.specs.Held.{at_some, fresh_out, put_on, lines_on, all_last_sent, packet_on}

module _ {O I : Type 0} {g : Ghosts O Load} where
  -- what its first packet tells of an origin, where there is one
  abbrev pub last_sent_by_spare : Option (Spare O I g) → ℕ → LastSent
  last_sent_by_spare spare p = at_some spare never_sent (λ s. sent_of s.sent p)

  -- A spare link of a member that keeps this: nothing was put on it, its packet is the first that the member will put, and no request
  -- stands in its room.
  pub record IsSpareFor (are_fresh : ℕ → O → I → Type 0) (free : O → ℕ) (ended : O → Bool) (initial : ℕ) (known : List Kept) (s : Spare O I g) : Type 0 where
    pub fresh : are_fresh initial s.out s.link
    pub free_slots : free s.out ≡ initial + 1
    pub unended : ended s.out ≡ false
    pub first : s.packet.first ≡ true
    pub lines : (packet_by_id s.packet).lines ≡ lines_on known (fresh_out 0 0 0 0)
    pub last_sent : all_sent s.sent ≡ all_last_sent known
    pub none : s.requests.items ≡ []

  -- The link opens from one member to another, in a version: its first packet was put, and the receiving end stands in a request.
  pub record OpensOn (puts : O → Item Load → O → Type 0) (credit : CreditSpec) (known : List Kept) (by to : MemberId) (version : ℕ) (s : Spare O I g) (l : OutLink O) (requests : List (Request I)) : Type 0 where
    pub held : out_of l ≡ put_on known (fresh_out credit.initial credit.more to.0 version)
    pub returned : l.returned ≡ None
    pub end : O
    pub there : l.end ≡ Some end
    pub packet : (k : PacketSeen) × (packet_by_id k ≡ packet_on version known (fresh_out credit.initial credit.more to.0 version)) × puts s.out (as_item k) end
    pub deposit : requests ≡ Deposit by to version Ring s.link ∷ []
