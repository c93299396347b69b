-- The laws of mirrors.
use Rattle.std.specs.Prelude.{◌≡◌, ℕ, cond, List, ◌++◌, length, Option, Some, None}
use Rattle.queue_core.specs.declared.op.Op.{Op}
use Rattle.queue_core.specs.Queue.{QueueState}
use Rattle.queue_core.specs.Legal.{queue_of}
use Rattle.queue_mirror.specs.Mirror.{from, is_told, founding, joining, copy_of, apply_ops}
use Rattle.queue_mirror.specs.Placed.{published_since, published_before}

-- how many items of the queue were published before the member joined, where it has been told the number of all
abbrev pub lacked : Option ℕ → List Op → Option ℕ
lacked since l = cond (is_told since l) (Some (length (published_before (from since) l))) None

-- A mirror that was there from the opening holds the queue of all operations, and lacks nothing; one that joined
-- behind the operations l and took n since holds what was published since, and knows how many other items there are
-- once it was told the number of all. Both together are the queue.
pub record HoldsWhatCame (l n : List Op) : Type 0 where
  pub founding_items : (apply_ops founding (l ++ n)).queue.items ≡ queue_of (l ++ n)
  pub founding_missing : (apply_ops founding (l ++ n)).missing ≡ Some 0
  pub items : (apply_ops joining n).queue.items ≡ published_since (length l) (l ++ n)
  pub missing : (apply_ops joining n).missing ≡ lacked (Some (length l)) (l ++ n)
  pub both : queue_of (l ++ n) ≡ published_before (length l) (l ++ n) ++ (apply_ops joining n).queue.items

-- A mirror that was given the queue of the operations l and took n since holds the queue of all, and lacks nothing.
pub record HoldsFromCopy (q : QueueState) (l n : List Op) : Type 0 where
  pub items : (apply_ops (copy_of q) n).queue.items ≡ queue_of (l ++ n)
  pub missing : (apply_ops (copy_of q) n).missing ≡ Some 0

-- Wherever two members joined in the same operations, their mirrors hold the same once each lacks nothing: the queue.
abbrev pub HoldTheSame : List Op → List Op → List Op → List Op → Type 0
HoldTheSame l n j k =
    l ++ n ≡ j ++ k → (apply_ops joining n).missing ≡ Some 0 → (apply_ops joining k).missing ≡ Some 0
    → ((apply_ops joining n).queue.items ≡ queue_of (l ++ n))
    × ((apply_ops joining n).queue.items ≡ (apply_ops joining k).queue.items)
