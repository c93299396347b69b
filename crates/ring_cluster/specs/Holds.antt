-- What a member that stands in a state of the ring holds of it, and what the ends of its links show.
use Rattle.std.specs.Prelude.{◌≡◌, ℕ, ◌+◌, ◌-◌, ◌<◌, ◌≤◌, true, List, [], length, map, Some, None, option_map}
use Rattle.ring_rules.specs.Machine.{World, member_at, link_at, row_at, view_in, runs}
use Rattle.ring_rules.specs.Step.{size, log_of}
use Rattle.activity.specs.Kept.{got_of}
use Rattle.ring_rules.specs.Rows.{messages_between}
use Rattle.gm_member.specs.Packets.{known_at}
use Rattle.gm_member.specs.Held.{Held}
use Rattle.ring_parties.specs.Ends.{OutSeen, InSeen, items_in}
use Rattle.ring_parties.specs.Parties.{EndsSeen}

-- its id, its name, where it stands, its view, the numbers that it keeps of each origin, the messages of each log between the number
-- that it has forgotten and the one that it got, and the number behind which it receives
pub record HoldsOf (w : World) (x : ℕ) (h : Held) : Type 0 where
  pub id : h.id ≡ x
  pub name : h.name ≡ (member_at w x).name
  pub phase : h.phase ≡ (member_at w x).phase
  pub view : h.view ≡ view_in w (member_at w x).version
  pub got : (p : ℕ) → 1 ≤ p → p < size w → got_of (known_at h.known (p - 1)) ≡ (row_at (member_at w x) p).got
  pub forgot : (p : ℕ) → 1 ≤ p → p < size w → (known_at h.known (p - 1)).forgot ≡ (row_at (member_at w x) p).forgot
  pub retired : (p : ℕ) → 1 ≤ p → p < size w → (known_at h.known (p - 1)).retired ≡ (row_at (member_at w x) p).retired
  pub messages : (p : ℕ) → 1 ≤ p → p < size w → (known_at h.known (p - 1)).messages ≡ messages_between (row_at (member_at w x) p).forgot (row_at (member_at w x) p).got (log_of w p)
  pub base : (p : ℕ) → 1 ≤ p → p < size w → (known_at h.known (p - 1)).base ≡ (row_at (member_at w x) p).base

-- The end of the link from which it takes shows the items of that link, and so does the end of each of these links, which stand at
-- its door; the end of the one on which it sends shows the grants under way there, and knows just which slots are free while the
-- member runs. It keeps no grant, and no end of a link that it has replaced or left.
pub record ShowsOf (w : World) (x : ℕ) (links : List ℕ) (e : EndsSeen) : Type 0 where
  pub items : option_map (λ (n : InSeen). n.items) e.link ≡ option_map (λ s. items_in w (link_at w s)) (member_at w x).current
  pub door : map (option_map (λ (n : InSeen). n.items)) e.door ≡ map (λ s. Some (items_in w (link_at w s))) links
  pub grants : option_map (λ (o : OutSeen). o.back) e.out ≡ option_map (λ s. (link_at w s).flow.grants) (member_at w x).out
  pub free : runs w x ≡ true → (s : ℕ) (o : OutSeen) → (member_at w x).out ≡ Some s → e.out ≡ Some o → o.free + length (items_in w (link_at w s)) ≡ o.initial + 1
  pub returned : e.returned ≡ None
  pub old_outs : e.old_outs ≡ []
  pub old_ins : e.old_ins ≡ []
