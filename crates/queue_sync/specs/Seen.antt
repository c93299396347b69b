-- What the two sides of a copy show.
use Rattle.std.specs.Prelude.{ℕ, Bool, false, List, []}
use Rattle.credit_flow.specs.Credit.{Credit, Counted}
use Rattle.queue_core.specs.declared.op.Op.{Op}
use Rattle.queue_core.specs.Queue.{QueueState, no_items}
use Rattle.queue_sync.specs.Copy.{Load}

-- its sender: to whom it goes, what is still to be put, and the credit for it
pub record Sending : Type 0 where
  pub target : ℕ
  pub to_put : List Load
  pub credit : Credit

-- its receiver: the items that it keeps aside as a queue, whether the mark has come, the operations since then, and what
-- was taken and not yet granted
pub record Taking : Type 0 where
  pub aside : QueueState
  pub marked : Bool
  pub since : List Op
  pub credit : Counted

-- a receiver that has taken nothing
abbrev pub begun : Counted → Taking
begun credit = record { aside = no_items; marked = false; since = []; credit = credit }
