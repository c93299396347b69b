-- The laws of copies.
use Rattle.std.specs.Prelude.{◌≡◌, ℕ, ◌<◌, true, false, List, [], ◌∷◌, ◌++◌, length}
use Rattle.queue_core.specs.Queue.{Item, rises, is_above, greatest}
use Rattle.queue_sync.specs.Copy.{Load, OneItem, Done}
use Rattle.ring_rules.specs.Machine.{runs}
use Rattle.credit_flow.specs.Link.{Link as CreditLink, KeepsCredit as KeepsLoads}
use Rattle.ring_rules.specs.Laws.{IsLawful}
use Rattle.ring_rules.specs.Quiet.{IsQuiet}
use Rattle.ring_copies.specs.Copies.{CopyLink, CopyWorld, copy_link_at}

-- a copy's link as credit_flow has it; an end is no load
abbrev pub credit_of_copy : CopyLink → CreditLink
credit_of_copy c = record { sender = c.flow.sender; loads = length c.loads; receiver = c.flow.receiver; grants = c.flow.grants }

-- Each copy keeps its credit, whether it is over or not: what its master may still put, the loads on the way, those counted
-- since the last grant, the grants under way and those held back are together the initial credit.
abbrev pub CopiesKeepCredit : ℕ → CopyWorld → Type 0
CopiesKeepCredit initial W = (i : ℕ) → i < length W.copies → KeepsLoads initial (credit_of_copy (copy_link_at W.copies i))

-- the items among loads
abbrev pub items_in : List Load → List Item
items_in [] = []
items_in (OneItem i ∷ ls) = i ∷ items_in ls
items_in (Done ∷ ls) = items_in ls

-- the items of a copy: those kept aside, those on the way and those to be put
abbrev pub items_of : CopyLink → List Item
items_of c = c.aside ++ items_in (c.loads ++ c.to_put)

-- in each copy the positions of its items rise, and stay below the greatest: a receiver drops none
abbrev pub CopiesRise : CopyWorld → Type 0
CopiesRise W = (i : ℕ) → i < length W.copies → (rises (items_of (copy_link_at W.copies i)) ≡ true) × (is_above greatest (items_of (copy_link_at W.copies i)) ≡ true)

-- in every state the ring is lawful, and its copies keep their credit
pub record IsLawfulWithCopies (initial : ℕ) (W : CopyWorld) : Type 0 where
  pub ring : IsLawful initial W.ring
  pub credit : CopiesKeepCredit initial W

-- No copy is under way at a running member: of one that isn't over, a running master has nothing to put, and the mirror doesn't
-- run.
pub record CopiesRest (W : CopyWorld) : Type 0 where
  pub put : (i : ℕ) → i < length W.copies → (copy_link_at W.copies i).over ≡ false → runs W.ring (copy_link_at W.copies i).sender ≡ true → (copy_link_at W.copies i).to_put ≡ []
  pub taken : (i : ℕ) → i < length W.copies → (copy_link_at W.copies i).over ≡ false → runs W.ring (copy_link_at W.copies i).receiver ≡ false

-- a ring with copies is quiet where the ring is, and its copies rest
pub record IsQuietWithCopies (W : CopyWorld) : Type 0 where
  pub ring : IsQuiet W.ring
  pub copies : CopiesRest W
