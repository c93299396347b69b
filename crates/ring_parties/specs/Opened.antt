-- The parties of a cluster that opens.
use Rattle.std.specs.Prelude.{◌≡◌, ℕ, ◌+◌, List, [], ◌∷◌, length, map, slice_index_or, Some, None}
use Rattle.std.specs.List.{range_with_len}
use Rattle.ring_names.specs.declared.numbers.CreditSpec.{CreditSpec}
use Rattle.group_view.specs.Change.{opening as opening_group}
use Rattle.ordered_link.specs.Names.{PairName}
use Rattle.gm_member.specs.Held.{founded}
use Rattle.ring_parties.specs.Ends.{OutSeen, InSeen, fresh_out, fresh_in}
use Rattle.ring_parties.specs.Parties.{EndsSeen, Shown, Parties}

-- a member with these two ends alone
abbrev pub two_ends : OutSeen → InSeen → EndsSeen
two_ends out link = record { out = Some out; returned = None; link = Some link; door = []; old_outs = []; old_ins = [] }

-- the ends of two fresh pairs
abbrev pub opened_ends : PairName → PairName → CreditSpec → EndsSeen
opened_ends out link credit = two_ends (fresh_out out credit.initial) (fresh_in link credit.initial)

-- the member at place k: it sends on the pair of rings k + 1, and takes from pair k
abbrev pub opened_at : (ℕ → PairName) → CreditSpec → List (List ℕ) → ℕ → Shown
opened_at rings credit names k = record { held = founded credit (slice_index_or names k []) (k + 1) (opening_group names); ends = opened_ends (rings (k + 1)) (rings k) credit }

-- They are rings for so many slots, and the last member sends on the pair from which the first takes.
pub record AreRings (rings : ℕ → PairName) (initial n : ℕ) : Type 0 where
  pub wide : (k : ℕ) → (rings k).slots ≡ initial + 1
  pub closed : rings n ≡ rings 0

-- all of them, and the registrar, at which nothing waits
abbrev pub opened_parties : (ℕ → PairName) → CreditSpec → List (List ℕ) → Parties
opened_parties rings credit names = record { nodes = map (opened_at rings credit names) (range_with_len 0 (length names)); views = opening_group names ∷ []; stopped = []; deposits = [] }
