-- The parties of a cluster between events, as members in a round.
use Rattle.std.specs.Prelude.{◌≡◌, ℕ, ◌-◌, ◌<◌, ◌≤◌, ◌&&◌, Bool, cond, nat_lt, List, length, take, Option}
use Rattle.ring_rules.specs.Machine.{World, member_at, link_at}
use Rattle.ring_rules.specs.Step.{size}
use Rattle.gm_member.specs.Stands.{door_links}
use Rattle.ring_parties.specs.Ends.{PacketShown, items_in}
use Rattle.ring_parties.specs.Parties.{Keeps, Parties, node_at}
use Rattle.ring_parties.specs.Keeps.{keeps_at}
use Rattle.ring_parties.specs.Standing.{Places, has_out, has_in}
use Rattle.ring_parties.specs.RoundActs.{things, early}
use Rattle.ring_parties.specs.Round.{Seat, Configuration}

-- The member of an id holds what it shows, and its party keeps what it keeps; its links have the places that they have in the state. Of those at
-- its door there it has collected the first ones, as many as it holds.
abbrev pub seat_of : World → Parties → List Keeps → ℕ → Seat
seat_of w q ks x = record {
  held = (node_at q (x - 1)).held;
  keeps = keeps_at ks (x - 1);
  out = (member_at w x).out;
  current = (member_at w x).current;
  door = take (length (node_at q (x - 1)).held.door) (door_links w x);
}

-- whether a ring has a link at a place, from which its receiver may still take
abbrev pub has_in_at : World → ℕ → Bool
has_in_at w s = nat_lt s (length w.links) && has_in w s

-- and one that its sender still has
abbrev pub has_out_at : World → ℕ → Bool
has_out_at w s = nat_lt s (length w.links) && has_out w s

-- what stands on the link at a place, as its in end knows it; where it has none, as the ring has it
abbrev pub items_known : World → Places → ℕ → List (Option PacketShown)
items_known w p s = cond (has_in_at w s) (p.ins s).items (items_in w (link_at w s))

-- and what is under way on its way back, as its out end knows it
abbrev pub grants_known : World → Places → ℕ → List ℕ
grants_known w p s = cond (has_out_at w s) (p.outs s).back (link_at w s).flow.grants

-- Members are as the parties show and keep it, and of each link so is what it holds and what is under way, whatever its stamps.
pub record IsSeated (w : World) (p : Places) (q : Parties) (ks : List Keeps) (a : Configuration) : Type 0 where
  pub seats : (x : ℕ) → 1 ≤ x → x < size w → a.seats x ≡ seat_of w q ks x
  pub items : (s : ℕ) → things (a.items s) ≡ items_known w p s
  pub grants : (s : ℕ) → things (a.grants s) ≡ grants_known w p s

-- so they are where all that stands on links is of earlier rounds
abbrev pub seated : World → Places → Parties → List Keeps → Configuration
seated w p q ks = record {
  seats = seat_of w q ks;
  items = λ s. early (items_known w p s);
  grants = λ s. early (grants_known w p s);
}
