-- What the code needs of a state, of the structs.
use Rattle.group_view.specs.Change.{most_entries}
use Rattle.std.proofs.Common.{◌≡◌, ℕ, suc, ◌<◌, ◌≤◌, ◌+◌, true, List, length, map, get_or, Some, None, option_map, bytes_eq, refl, sym, ap, ◌∙◌, arith}
use Rattle.std.proofs.lemmas.List.{length-map}
use Rattle.std.specs.Prelude.{position, Option, IfSome, max}
use Rattle.ring_rules.specs.Event.{left_neighbour, since, at_door, id_of}
use Rattle.ring_world.specs.declared.plain_member.PlainMember.{PlainMember}
use Rattle.ring_world.specs.declared.plain_link.PlainLink.{PlainLink}
use Rattle.ring_world.specs.declared.state.Ring.{Ring}
use Rattle.ring_rules.specs.Machine.{row_at, newest, runs_phase, runs, member_at}
use Rattle.ring_rules.specs.declared.phase.Phase.TheVariants.{Up}
use Rattle.ring_world.specs.Placed.{IsPlaced}
use Rattle.ring_world.specs.Shows.{world_of, member_of, link_of, member_in, link_in, stands_at_door}
use Rattle.ring_world.proofs.code.ShownParts.{read_member, read_link, position_map}

-- a running member's links stand
pub out_within : (r : Ring) (i : ℕ) (s : PlainMember) (o : ℕ) → IsPlaced (world_of r) → i < length r.members.items → s ≡ get_or r.members.items i s → s.phase ≡ Up → s.out ≡ Some o → o < length r.links.items
out_within r i s o h l e up out =
    let same : member_in r.members.items i ≡ member_of s = read_member r.members.items i s l e in
    omega (arith, length-map r.links.items link_of, h.out (suc i) o (ap (λ m. runs_phase m.phase) same ∙ ap runs_phase up) (ap (λ m. m.out) same ∙ out))

pub current_within : (r : Ring) (i : ℕ) (s : PlainMember) (o : ℕ) → IsPlaced (world_of r) → i < length r.members.items → s ≡ get_or r.members.items i s → runs_phase s.phase ≡ true → s.current ≡ Some o → o < length r.links.items
current_within r i s o h l e up out =
    let same : member_in r.members.items i ≡ member_of s = read_member r.members.items i s l e in
    omega (arith, length-map r.links.items link_of, h.current (suc i) o (ap (λ m. runs_phase m.phase) same ∙ up) (ap (λ m. m.current) same ∙ out))

pub few_members : (r : Ring) → IsPlaced (world_of r) → length r.members.items < most_entries + 1
few_members r h = omega (arith, length-map r.members.items member_of, h.few)

-- the version of a running member is one of those of the views
pub version_within : (r : Ring) (i : ℕ) (s : PlainMember) → IsPlaced (world_of r) → i < length r.members.items → s ≡ get_or r.members.items i s → s.version ≤ length r.views.items
version_within r i s h l e =
    let same : member_in r.members.items i ≡ member_of s = read_member r.members.items i s l e in
    omega (arith, ap (λ m. m.version) same, h.held (suc i))

pub version_some : (r : Ring) (i : ℕ) (s : PlainMember) → IsPlaced (world_of r) → i < length r.members.items → s ≡ get_or r.members.items i s → (member_in r.members.items i).phase ≡ Up → 1 ≤ s.version
version_some r i s h l e up =
    let same : member_in r.members.items i ≡ member_of s = read_member r.members.items i s l e in
    omega (arith, ap (λ m. m.version) same, h.from_one (suc i) (ap runs_phase up))

-- the link that stands first at a door
pub door_first : (r : Ring) (i : ℕ) (left start : ℕ) (o : Option ℕ) → left ≡ left_neighbour (world_of r) (suc i) → start ≡ since (world_of r) (suc i) → o ≡ position (λ link. stands_at_door (suc i) left start (link_of link)) r.links.items → o ≡ at_door (world_of r) (suc i)
door_first r i left start o el es is =
    is ∙ sym (position_map (stands_at_door (suc i) left start) link_of r.links.items)
    ∙ ap (λ l. position (stands_at_door (suc i) l start) (map link_of r.links.items)) el
    ∙ ap (λ n. position (stands_at_door (suc i) (left_neighbour (world_of r) (suc i)) n) (map link_of r.links.items)) es

-- a member's place by its name
mapped_suc : (o : Option ℕ) → option_map suc o ≡ option_map (λ i. i + 1) o
mapped_suc None = refl
mapped_suc (Some i) = ap Some (let same : suc i ≡ i + 1 = omega arith in same)

pub named_place : (r : Ring) (name : List ℕ) (o : Option ℕ) → o ≡ position (λ m. bytes_eq m.name name) (map member_of r.members.items) → option_map suc o ≡ id_of (world_of r) name
named_place r name o e = mapped_suc o ∙ ap (option_map (λ i. i + 1)) e

-- its own row stands, and has got all that it published
pub own_row : (r : Ring) (i : ℕ) → IsPlaced (world_of r) → i < length r.members.items → suc i < length (member_in r.members.items i).rows
own_row r i h l = h.row (suc i) (omega arith) (omega (arith, length-map r.members.items member_of))

pub own_got : (r : Ring) (i : ℕ) → IsPlaced (world_of r) → i < length r.members.items → (row_at (member_in r.members.items i) (suc i)).got ≡ length (member_in r.members.items i).log
own_got r i h l = h.own (suc i) (omega arith) (omega (arith, length-map r.members.items member_of))

-- where a running member sends
pub out_running : (r : Ring) (i o : ℕ) → IsPlaced (world_of r) → runs (world_of r) (suc i) ≡ true → (member_in r.members.items i).out ≡ Some o → o < length r.links.items
out_running r i o h run out = omega (arith, length-map r.links.items link_of, h.out (suc i) o run out)

pub out_at : (r : Ring) (i o : ℕ) → IsPlaced (world_of r) → (member_in r.members.items i).phase ≡ Up → (member_in r.members.items i).out ≡ Some o → o < length r.links.items
out_at r i o h up out = out_running r i o h (ap runs_phase up) out

-- the version in which a link is tested at the door of a running member: the later one of its own and of the link's opening
pub tested_some : (r : Ring) (i : ℕ) (s : PlainMember) (n : ℕ) → IsPlaced (world_of r) → i < length r.members.items → s ≡ get_or r.members.items i s → runs (world_of r) (suc i) ≡ true → 1 ≤ max s.version n
tested_some r i s n h l e up =
    let same : member_in r.members.items i ≡ member_of s = read_member r.members.items i s l e in
    omega (arith, ap (λ m. m.version) same, h.from_one (suc i) up)

pub tested_within : (r : Ring) (i : ℕ) (s : PlainMember) (n : ℕ) → IsPlaced (world_of r) → i < length r.members.items → s ≡ get_or r.members.items i s → n ≤ newest (world_of r) → max s.version n ≤ length r.views.items
tested_within r i s n h l e le =
    omega (arith, version_within r i s h l e)

pub same_version : (r : Ring) (i : ℕ) (s : PlainMember) → i < length r.members.items → s ≡ get_or r.members.items i s → s.version ≡ (member_at (world_of r) (suc i)).version
same_version r i s l e = sym (ap (λ m. m.version) (read_member r.members.items i s l e))

-- and from where it takes
pub current_running : (r : Ring) (i o : ℕ) → IsPlaced (world_of r) → runs (world_of r) (suc i) ≡ true → (member_in r.members.items i).current ≡ Some o → o < length r.links.items
current_running r i o h run e = omega (arith, length-map r.links.items link_of, h.current (suc i) o run e)

pub current_at : (r : Ring) (i o : ℕ) → IsPlaced (world_of r) → (member_in r.members.items i).phase ≡ Up → (member_in r.members.items i).current ≡ Some o → o < length r.links.items
current_at r i o h up e = current_running r i o h (ap runs_phase up) e

-- a link's opening
pub link_some : (r : Ring) (s : ℕ) (l : PlainLink) → IsPlaced (world_of r) → s < length r.links.items → l ≡ get_or r.links.items s l → 1 ≤ l.opened
link_some r s l h lt e =
    let same : link_in r.links.items s ≡ link_of l = read_link r.links.items s l lt e in
    omega (arith, ap (λ k. k.opened) same, h.opened s (omega (arith, length-map r.links.items link_of)))

pub out_some : (r : Ring) (i n : ℕ) (s : PlainMember) → IsPlaced (world_of r) → i < length r.members.items → s ≡ get_or r.members.items i s → (member_in r.members.items i).phase ≡ Up → n ≡ length r.links.items → IfSome s.out (λ o. o < n)
out_some r i n s h l e up many = by_out s.out refl
  where
    by_out : (o : Option ℕ) → s.out ≡ o → IfSome o (λ k. k < n)
    by_out None k = tt
    by_out (Some o) k =
        let same : member_in r.members.items i ≡ member_of s = read_member r.members.items i s l e in
        omega (arith, many, out_at r i o h up (ap (λ m. m.out) same ∙ k))

-- what a member's own place among the members has
pub ruleset own_place = (few_members, own_row, own_got)
