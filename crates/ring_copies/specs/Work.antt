-- How much the copies of a ring still have to do.
use Rattle.std.specs.Prelude.{◌≡◌, ◌≢◌, ℕ, ◌+◌, ◌*◌, ◌==◌, if◌then◌else◌, Bool, true, false, length, List, [], ◌∷◌, None, ⊤}
use Rattle.ring_rules.specs.Rows.{Flow}
use Rattle.ring_rules.specs.Work.{sum_below, total}
use Rattle.ring_rules.specs.Settling.{is_repair}
use Rattle.ring_rules.specs.declared.kind.CopyStep.TheVariants as copying
use Rattle.ring_copies.specs.Copies.{CopyLink, CopyWorld, copy_link_at}
use Rattle.ring_copies.specs.Events.{CopyEvent, OfRing, OnCopy, RefusesCopy, refusal, effect}

-- the grants of a copy, under way or held back; what is held goes under way as one
abbrev pub grants_left : Flow → ℕ
grants_left f = length f.grants + (if f.receiver.held == 0 then 0 else 1)

-- What is left of a copy that isn't over: each load that is to be put becomes an item, and each item, the end too, at most one
-- grant.
abbrev pub copy_left : CopyLink → ℕ
copy_left c = if c.over then 0 else 3 * length c.to_put + 2 * (length c.loads + (if c.ended then 1 else 0)) + grants_left c.flow

-- the same of the copy at a place
abbrev pub copy_left_at : List CopyLink → ℕ → ℕ
copy_left_at cs i = copy_left (copy_link_at cs i)

-- all of them together
abbrev pub copies_left : List CopyLink → ℕ
copies_left cs = sum_below (length cs) (copy_left_at cs)

-- what a ring and its copies have to do, as one number
abbrev pub total_with_copies : CopyWorld → ℕ
total_with_copies W = total W.ring + copies_left W.copies

-- whether an event is one of repair: a step on a copy that is open, or of the ring
abbrev pub is_repair_with_copies : CopyWorld → CopyEvent → Bool
is_repair_with_copies W (OfRing e) = is_repair W.ring e
is_repair_with_copies W (OnCopy by (copying.Open target)) = false
is_repair_with_copies W (OnCopy by s) = true
is_repair_with_copies W (RefusesCopy code by target) = false

-- each of these follows on the earlier ones, and may happen
abbrev pub AreRepairsWithCopies : CopyWorld → List CopyEvent → Type 0
AreRepairsWithCopies W [] = ⊤
AreRepairsWithCopies W (e ∷ es) = (is_repair_with_copies W e ≡ true) × ((refusal W e ≡ None) × AreRepairsWithCopies (effect W e) es)

-- no event of repair is enabled, of the ring or of a copy
abbrev pub NothingLeftWithCopies : CopyWorld → Type 0
NothingLeftWithCopies W = (e : CopyEvent) → is_repair_with_copies W e ≡ true → refusal W e ≢ None
