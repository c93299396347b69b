-- What the code needs of a state to find its parts.
use Rattle.std.specs.Prelude.{◌≡◌, ℕ, ◌+◌, suc, ◌<◌, ◌≤◌, true, List, length, Some, None}
use Rattle.ring_world.specs.declared.state.Ring.{Ring}
use Rattle.group_view.specs.View.{is_dead}
use Rattle.group_view.specs.Change.{most_entries}
use Rattle.ring_rules.specs.Machine.{World, member_at, link_at, view_in, newest, row_at, runs}
use Rattle.ring_rules.specs.declared.phase.Phase.TheVariants.{Up}
use Rattle.ring_rules.specs.Step.{size, log_of}
use Rattle.ring_rules.specs.View.{is_live}
use Rattle.ring_rules.specs.Event.{admit_refusal, synced_refusal}
use Rattle.ring_world.specs.Shows.{world_of}

-- Members are few, have no more rows than there are members, their own row among them, and have got all that they published;
-- a running one has a view, and its links stand.
pub record IsPlaced (w : World) : Type 0 where
  pub few : size w ≤ most_entries + 1
  pub versions : newest w ≤ 256
  pub some : 1 ≤ newest w
  pub rows : (x : ℕ) → 1 ≤ x → x < size w → length (member_at w x).rows ≤ size w
  pub row : (x : ℕ) → 1 ≤ x → x < size w → x < length (member_at w x).rows
  pub own : (x : ℕ) → 1 ≤ x → x < size w → (row_at (member_at w x) x).got ≡ length (log_of w x)
  pub out : (x o : ℕ) → runs w x ≡ true → (member_at w x).out ≡ Some o → o < length w.links
  pub current : (x s : ℕ) → runs w x ≡ true → (member_at w x).current ≡ Some s → s < length w.links
  pub held : (x : ℕ) → (member_at w x).version ≤ newest w
  pub from_one : (x : ℕ) → runs w x ≡ true → 1 ≤ (member_at w x).version
  -- a link was opened in a version that is there
  pub opened : (s : ℕ) → s < length w.links → 1 ≤ (link_at w s).opened
  pub upto : (s : ℕ) → s < length w.links → (link_at w s).opened ≤ newest w

-- who is up stands live in the newest view, and there is a version more for each change of that
pub record IsReady (w : World) : Type 0 where
  pub placed : IsPlaced w
  pub lives : (x : ℕ) → (member_at w x).phase ≡ Up → is_live (view_in w (newest w)) x ≡ true
  pub marks : (d : ℕ) → is_live (view_in w (newest w)) d ≡ true → newest w < 256
  pub erases : (p : ℕ) → is_dead (view_in w (newest w)).entries p ≡ true → newest w < 256
  pub syncs : (x : ℕ) → (member_at w x).phase ≡ Up → synced_refusal w x ≡ None → newest w < 256
  pub admits : (x : ℕ) (name : List ℕ) → (member_at w x).phase ≡ Up → admit_refusal w name ≡ None → newest w < 256

-- a member stands at this place of the structs
pub record IsPlacedAt (r : Ring) (i : ℕ) : Type 0 where
  pub placed : IsPlaced (world_of r)
  pub place : i < length r.members.items

-- where the state is ready
pub record IsReadyAt (r : Ring) (i : ℕ) : Type 0 where
  pub ready : IsReady (world_of r)
  pub place : i < length r.members.items

-- a member that is up
pub record IsUpAt (r : Ring) (i : ℕ) : Type 0 where
  pub placed : IsPlaced (world_of r)
  pub place : i < length r.members.items
  pub up : (member_at (world_of r) (suc i)).phase ≡ Up

-- one that runs
pub record IsRunningAt (r : Ring) (i : ℕ) : Type 0 where
  pub placed : IsPlaced (world_of r)
  pub place : i < length r.members.items
  pub runs : runs (world_of r) (suc i) ≡ true
