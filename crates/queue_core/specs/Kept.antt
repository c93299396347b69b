-- What every queue keeps.
use Rattle.std.specs.Prelude.{◌≡◌, ◌≤◌, true}
use Rattle.queue_core.specs.Queue.{QueueState, greatest, is_above, rises}

-- its items stand in order, below the next position, which is a number of 64 bits
pub record IsQueue (q : QueueState) : Type 0 where
  pub rises : rises q.items ≡ true
  pub below : is_above q.next q.items ≡ true
  pub fits : q.next ≤ greatest
