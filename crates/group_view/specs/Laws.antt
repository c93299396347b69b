-- The laws of views.
use Rattle.std.specs.Prelude.{◌≡◌, ◌≢◌, ℕ, ◌≤◌, true, List, length}
use Rattle.group_view.specs.declared.entry.Entry.{Entry}
use Rattle.group_view.specs.Ring.{is_in}
use Rattle.group_view.specs.View.{Group, ids, is_live, left_of, right_of, between}
use Rattle.group_view.specs.Since.{view_at, KeepsLeft, KeepsSince}
use Rattle.group_view.specs.Kept.{IsGroup}

-- each neighbour of p has p for its other neighbour
pub record AreMutual (entries : List Entry) (p : ℕ) : Type 0 where
  pub left_of_right : left_of entries (right_of entries p) ≡ p
  pub right_of_left : right_of entries (left_of entries p) ≡ p

-- When d is no longer live, it passes its neighbours on: those that had another keep it, those that had d have d's own
-- instead, and where d was the only live one, each is its own. d itself keeps its neighbours.
pub record PassesOn (old new : List Entry) (d : ℕ) : Type 0 where
  pub left_of_others : (p : ℕ) → left_of old p ≢ d → left_of new p ≡ left_of old p
  pub left_of_bereft : (p : ℕ) → p ≢ d → left_of old p ≡ d → left_of old d ≢ d → left_of new p ≡ left_of old d
  pub left_of_lonely : (p : ℕ) → p ≢ d → left_of old p ≡ d → left_of old d ≡ d → left_of new p ≡ p
  pub left_of_itself : left_of new d ≡ left_of old d
  pub right_of_others : (p : ℕ) → right_of old p ≢ d → right_of new p ≡ right_of old p
  pub right_of_bereft : (p : ℕ) → p ≢ d → right_of old p ≡ d → right_of old d ≢ d → right_of new p ≡ right_of old d
  pub right_of_lonely : (p : ℕ) → p ≢ d → right_of old p ≡ d → right_of old d ≡ d → right_of new p ≡ p
  pub right_of_itself : right_of new d ≡ right_of old d

-- all keep their neighbours
pub record KeepsNeighbours (old new : List Entry) : Type 0 where
  pub left : (p : ℕ) → left_of new p ≡ left_of old p
  pub right : (p : ℕ) → right_of new p ≡ right_of old p

-- When m has admitted n, each is the other's neighbour. Those that had m on their left have n there, and all others keep
-- their left neighbour.
pub record ComesBetween (old new : List Entry) (m n : ℕ) : Type 0 where
  pub left_of_new : left_of new n ≡ m
  pub right_of_admitter : right_of new m ≡ n
  pub left_of_next : (p : ℕ) → is_in p (ids old) ≡ true → left_of old p ≡ m → left_of new p ≡ n
  pub left_of_others : (p : ℕ) → is_in p (ids old) ≡ true → left_of old p ≢ m → left_of new p ≡ left_of old p

-- What holds of the views of a group, by version: each keeps what every view keeps and has its version's number; entries
-- stay, and who isn't live never is again; what stands between a left neighbour and an entry stays while the neighbour
-- does; and `since` is the version from which the left neighbour has been the present one.
pub record IsHistory (views : List Group) : Type 0 where
  pub kept : (v : ℕ) → 1 ≤ v → v ≤ length views → IsGroup (view_at views v)
  pub numbered : (v : ℕ) → 1 ≤ v → v ≤ length views → (view_at views v).version ≡ v
  pub stays : (u v y : ℕ) → 1 ≤ u → u ≤ v → v ≤ length views → is_in y (ids (view_at views u).entries) ≡ true → is_in y (ids (view_at views v).entries) ≡ true
  pub dies : (u v y : ℕ) → 1 ≤ u → u ≤ v → v ≤ length views → is_in y (ids (view_at views u).entries) ≡ true → is_live (view_at views v).entries y ≡ true → is_live (view_at views u).entries y ≡ true
  pub between_stays : (u v y s : ℕ) → 1 ≤ u → u ≤ v → v ≤ length views → is_in y (ids (view_at views u).entries) ≡ true → KeepsLeft views y s u v → between (view_at views v).entries s y ≡ between (view_at views u).entries s y
  pub dated : KeepsSince views
