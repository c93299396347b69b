-- When every message of a ring has been heard by all.
use Rattle.std.specs.Prelude.{◌≡◌, ℕ, ◌≤◌, true, List, length, drop}
use Rattle.ring_rules.specs.declared.phase.Phase.TheVariants.{Up}
use Rattle.ring_rules.specs.Machine.{World, member_at, runs}
use Rattle.ring_rules.specs.Step.{log_of}
use Rattle.ring_rules.specs.Lawful.{row_of}

-- in a ring that these members opened, each of them receives from the first message on: its base is 0
abbrev pub OpenersHaveNoBase : List (List ℕ) → World → Type 0
OpenersHaveNoBase names w = (q p : ℕ) → 1 ≤ q → q ≤ length names → (row_of w q p).base ≡ 0

-- In a ring that these members opened: of each member that runs every message is confirmed, and every member that is
-- up has heard all of them from its base on; the base of a member of the opening is 0.
pub record HasHeardAll (names : List (List ℕ)) (w : World) : Type 0 where
  pub confirmed : (p : ℕ) → 1 ≤ p → runs w p ≡ true → (row_of w p p).forgot ≡ length (log_of w p)
  pub heard : (q p : ℕ) → 1 ≤ p → runs w p ≡ true → (member_at w q).phase ≡ Up → (row_of w q p).heard ≡ drop (row_of w q p).base (log_of w p)
  pub bases : OpenersHaveNoBase names w
