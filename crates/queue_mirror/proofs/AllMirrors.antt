-- The laws of mirrors, over any legal list of operations.
use Rattle.std.proofs.Common.{◌≡◌, ℕ, ◌≤◌, true, List, [], ◌++◌, length, cond, refl, sym, ap, ◌∙◌, arith, Option, Some, None}
use Rattle.queue_core.specs.declared.op.Op.{Op}
use Rattle.queue_core.specs.Queue.{QueueState}
use Rattle.queue_core.specs.Legal.{queue_of, are_legal}
use Rattle.queue_mirror.specs.Mirror.{content, from, is_told, lacks, founding, joining, copy_of, apply_ops}
use Rattle.queue_mirror.specs.Placed.{published_before}
use Rattle.queue_mirror.specs.Laws.{lacked, HoldsWhatCame, HoldsFromCopy, HoldTheSame}
use Rattle.queue_mirror.proofs.Mirrors.{IsMirrorOf, queue-split, mirror-steps}
use Rattle.queue_mirror.proofs.Whole.{holds_queue, lacks_founding, founding_is, joining_is}
use Rattle.queue_mirror.proofs.Places.{since_is, before_is}

-- what is missing, by the places of the publishes
lacked_is : (since : Option ℕ) (l : List Op) → from since ≤ length l → are_legal [] l ≡ true → lacked since l ≡ lacks since l
lacked_is since l within legal = ap (λ xs. cond (is_told since l) (Some (length xs)) None) (before_is (from since) l within legal)

-- a mirror that joined behind l and took n
pub joined : (l n : List Op) → are_legal [] (l ++ n) ≡ true → IsMirrorOf (Some (length l)) (l ++ n) (apply_ops joining n)
joined l n legal = mirror-steps (Some (length l)) l n joining legal (joining_is l joining refl refl)

pub holds_what_came : (l n : List Op) → are_legal [] (l ++ n) ≡ true → HoldsWhatCame l n
holds_what_came l n legal =
    let old : IsMirrorOf None (l ++ n) (apply_ops founding (l ++ n)) = mirror-steps None [] (l ++ n) founding legal founding_is in
    let new : IsMirrorOf (Some (length l)) (l ++ n) (apply_ops joining n) = joined l n legal in
    record {
      founding_items = holds_queue None (l ++ n) (apply_ops founding (l ++ n)) legal old (old.missing ∙ lacks_founding (l ++ n));
      founding_missing = old.missing ∙ lacks_founding (l ++ n);
      items = new.items ∙ sym (since_is (length l) (l ++ n) new.within legal);
      missing = new.missing ∙ sym (lacked_is (Some (length l)) (l ++ n) new.within legal);
      both = queue-split (length l) (l ++ n) legal ∙ ap (λ xs. xs ++ content (length l) (l ++ n)) (sym (before_is (length l) (l ++ n) new.within legal)) ∙ ap (λ xs. published_before (length l) (l ++ n) ++ xs) (sym new.items);
    }

pub holds_from_copy : (q : QueueState) (l n : List Op) → q.items ≡ queue_of l → are_legal [] (l ++ n) ≡ true → HoldsFromCopy q l n
holds_from_copy q l n is legal =
    let begins : IsMirrorOf None l (copy_of q) = record { within = omega arith; items = is; missing = sym (lacks_founding l) } in
    let ends : IsMirrorOf None (l ++ n) (apply_ops (copy_of q) n) = mirror-steps None l n (copy_of q) legal begins in
    record {
      items = holds_queue None (l ++ n) (apply_ops (copy_of q) n) legal ends (ends.missing ∙ lacks_founding (l ++ n));
      missing = ends.missing ∙ lacks_founding (l ++ n);
    }

pub hold_the_same : (l n j k : List Op) → are_legal [] (l ++ n) ≡ true → HoldTheSame l n j k
hold_the_same l n j k legal one full other =
    let first = holds_queue (Some (length l)) (l ++ n) (apply_ops joining n) legal (joined l n legal) full in
    let legal_too : are_legal [] (j ++ k) ≡ true = ap (are_legal []) (sym one) ∙ legal in
    let second = holds_queue (Some (length j)) (j ++ k) (apply_ops joining k) legal_too (joined j k legal_too) other in
    (first, first ∙ ap queue_of one ∙ sym second)
