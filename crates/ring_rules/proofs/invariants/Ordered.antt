-- The order of entries and the history of marks, as views are added.
use Rattle.std.proofs.Common.{◌≡◌, ℕ, ◌<◌, ◌≤◌, ◌+◌, Bool, true, List, [], ◌∷◌, ◌++◌, length, refl, sym, ap, subst, arith, ⊎_elim}
use Rattle.std.specs.List.{filter}
use Rattle.std.proofs.lemmas.Bool.{cases_lt}
use Rattle.std.proofs.lemmas.List.{length_push}
use Rattle.group_view.specs.Ring.{before, others, is_in, first_or}
use Rattle.ring_rules.specs.View.{ids}
use Rattle.group_view.specs.View.{Group}
use Rattle.ring_rules.specs.Machine.{World, view_in, newest, ring, left}
use Rattle.ring_rules.specs.Step.{with_view}
use Rattle.group_view.proofs.Rings.{in_before, in_head, in_tail, others_inside}
use Rattle.group_view.proofs.Neighbours.{filtered_in}
use Rattle.ring_rules.proofs.invariants.Good.{IsRing}
use Rattle.ring_rules.proofs.walks.Views.{view_old, view_new, left_old, IsMarked}
use Rattle.ring_rules.proofs.invariants.Standing.{knows, IsOrdered, OldLast, AllTrue}

-- ---- lists

pub all_true_same : (t : ℕ → Bool) (xs : List ℕ) → ((q : ℕ) → is_in q xs ≡ true → t q ≡ true) → AllTrue t xs
all_true_same t [] h = tt
all_true_same t (x ∷ xs) h = (h x (in_head x xs), all_true_same t xs (λ q i. h q (in_tail q x xs i)))

pub all_true_old_last : (t : ℕ → Bool) (xs : List ℕ) → AllTrue t xs → OldLast t xs
all_true_old_last t [] h = tt
all_true_old_last t (x ∷ xs) h = (λ _. h.1, all_true_old_last t xs h.1)

pub filter_all : (t : ℕ → Bool) (xs : List ℕ) → AllTrue t xs → filter t xs ≡ xs
filter_all t [] h = refl
filter_all t (x ∷ xs) h = rw h.0 (ap (λ us. x ∷ us) (filter_all t xs h.1))

-- the first of those that pass, or d, is inside
pub first_inside : (t : ℕ → Bool) (d : ℕ) (us xs : List ℕ) → is_in d xs ≡ true → ((q : ℕ) → is_in q us ≡ true → is_in q xs ≡ true) → is_in (first_or d (filter t us)) xs ≡ true
first_inside t d us xs h k = by_list (filter t us) (λ q i. k q (filtered_in t q us i))
  where
    by_list : (ys : List ℕ) → ((q : ℕ) → is_in q ys ≡ true → is_in q xs ≡ true) → is_in (first_or d ys) xs ≡ true
    by_list [] k2 = h
    by_list (y ∷ ys) k2 = k2 y (in_head y ys)

-- ---- one more view

pub record KeepsOrder (w : World) (v' : Group) : Type 0 where
  pub part : (v : ℕ) → v ≤ newest w → ids (view_in w v) ≡ filter (knows w v) (ids v')
  pub order : (v e : ℕ) → v ≤ newest w → knows w v e ≡ true → OldLast (knows w v) (before e (others (left w v e) (ids v')))

pub ordered_more : (w : World) (v' : Group) → IsRing w → KeepsOrder w v' → IsOrdered (with_view w v')
ordered_more w v' hr h =
    let some : 0 < length w.views = hr.some in
    let more : length (w.views ++ v' ∷ []) ≡ length w.views + 1 = length_push w.views v' in
    let newest_is : view_in (with_view w v') (newest (with_view w v')) ≡ v' = view_new w v' (newest (with_view w v')) (omega arith) in
    record {
      part = λ v l. subst (λ us. ids (view_in (with_view w v') v) ≡ filter (knows (with_view w v') v) us) (sym (ap ids newest_is)) (⊎_elim
          (λ (old : v < length w.views). subst (λ a. ids a ≡ filter (λ q. is_in q (ids a)) (ids v')) (sym (view_old w v' v old)) (h.part v (omega arith)))
          (λ (new : length w.views ≤ v).
          subst (λ a. ids a ≡ filter (λ q. is_in q (ids a)) (ids v')) (sym (view_new w v' v (omega arith)))
          (sym (filter_all (λ q. is_in q (ids v')) (ids v') (all_true_same (λ q. is_in q (ids v')) (ids v') (λ q i. i)))))
          (cases_lt v (length w.views)));
      order = λ v x l k. subst (λ us. OldLast (knows (with_view w v') v) (before x (others (left (with_view w v') v x) us))) (sym (ap ids newest_is)) (⊎_elim
          (λ (old : v < length w.views).
          subst (λ a. OldLast (λ q. is_in q (ids a)) (before x (others (left (with_view w v') v x) (ids v')))) (sym (view_old w v' v old))
          (subst (λ s. OldLast (knows w v) (before x (others s (ids v')))) (sym (left_old w v' v x old))
          (h.order v x (omega arith) (subst (λ a. is_in x (ids a) ≡ true) (view_old w v' v old) k))))
          (λ (new : length w.views ≤ v).
          subst (λ a. OldLast (λ q. is_in q (ids a)) (before x (others (left (with_view w v') v x) (ids v')))) (sym (view_new w v' v (omega arith)))
          (all_true_old_last (λ q. is_in q (ids v')) (before x (others (left (with_view w v') v x) (ids v')))
          (all_true_same (λ q. is_in q (ids v')) (before x (others (left (with_view w v') v x) (ids v')))
          (λ q i. others_inside (left (with_view w v') v x) q (ids v') (in_before q x (others (left (with_view w v') v x) (ids v')) i)))))
          (cases_lt v (length w.views)));
    }

pub mark_order : (w : World) (d : ℕ) (v' : Group) → IsMarked w d v' → IsOrdered w → KeepsOrder w v'
mark_order w d v' marks h =
    let e : ids v' ≡ ring w = marks.same_ids in
    record {
      part = λ v l. subst (λ us. ids (view_in w v) ≡ filter (knows w v) us) (sym e) (h.part v l);
      order = λ v x l k. subst (λ us. OldLast (knows w v) (before x (others (left w v x) us))) (sym e) (h.order v x l k);
    }
