-- A reader or a writer, and a count of its faults.
use Rattle.std.specs.Prelude.{ℕ}

-- what is read from or written to, and how many calls failed
pub record Counted (R : Type 0) : Type 0 where
  pub inner : R
  pub faults : ℕ
