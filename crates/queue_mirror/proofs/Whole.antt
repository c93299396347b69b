-- A member that leaves nothing out holds the queue.
use Rattle.std.proofs.Common.{◌≡◌, ℕ, true, false, List, [], ◌++◌, length, refl, sym, ap, ◌∙◌, arith, ⊎_elim, Option, Some, None}
use Rattle.std.proofs.lemmas.Bool.{cases_Bool}
use Rattle.std.proofs.lemmas.List.{nil_from_length, drop_all}
use Rattle.std.proofs.lemmas.Option.{none-some, same_Some}
use Rattle.queue_core.specs.declared.op.Op.{Op}
use Rattle.queue_core.specs.Queue.{Item}
use Rattle.queue_core.specs.Legal.{run, queue_of, are_legal}
use Rattle.queue_mirror.specs.Mirror.{MirrorState, content, left_out, from, is_told, lacks, founding}
use Rattle.queue_core.proofs.Split.{remains_nothing}
use Rattle.queue_mirror.proofs.Mirrors.{IsMirrorOf, queue-split}

-- who is known to lack nothing leaves nothing out
pub nothing_left : (since : Option ℕ) (l : List Op) → lacks since l ≡ Some 0 → left_out (from since) l ≡ []
nothing_left since l h = ⊎_elim
    (λ (yes : is_told since l ≡ true). nil_from_length (left_out (from since) l) (same_Some (length (left_out (from since) l)) 0 (rw yes at h)))
    (λ (no : is_told since l ≡ false). absurd (none-some 0 (rw no at h)))
    (cases_Bool (is_told since l))

-- and holds the queue
pub holds_queue : (since : Option ℕ) (l : List Op) (m : MirrorState) → are_legal [] l ≡ true → IsMirrorOf since l m → m.missing ≡ Some 0 → m.queue.items ≡ queue_of l
holds_queue since l m legal h none =
    h.items ∙ sym (queue-split (from since) l legal ∙ ap (λ xs. xs ++ content (from since) l) (nothing_left since l (sym h.missing ∙ none)))

-- a mirror of the opening lacks nothing
pub lacks_founding : (l : List Op) → lacks None l ≡ Some 0
lacks_founding l = ap (λ xs. Some (length xs)) (remains_nothing l)

pub founding_is : IsMirrorOf None [] founding
founding_is = record { within = omega arith; items = refl; missing = refl }

-- a member that joins when it has seen these operations
pub joining_is : (l : List Op) (m : MirrorState) → m.queue.items ≡ [] → m.missing ≡ None → IsMirrorOf (Some (length l)) l m
joining_is l m none unknown = record {
  within = omega arith;
  items = none ∙ sym (ap queue_of_ (drop_all (length l) l (omega arith)));
  missing = unknown ∙ sym (rw (drop_all (length l) l (omega arith)) refl);
}
  where
    queue_of_ : List Op → List Item
    queue_of_ l = run [] l
