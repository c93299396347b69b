-- The ring, its order and its history after an admission.
use Rattle.std.proofs.Common.{◌≡◌, ◌≢◌, ℕ, ◌<◌, ◌≤◌, ◌+◌, Bool, true, false, cond, List, [], ◌∷◌, ◌++◌, length, get_or, refl, sym, ap, subst, ◌∙◌, arith, nat_eq, ⊎_elim}
use Rattle.std.specs.List.{filter}
use Rattle.std.proofs.lemmas.Bool.{cases_lt, false≢true}
use Rattle.std.proofs.lemmas.List.{length_push}
use Rattle.std.proofs.lemmas.List.Elements.{filter-append}
use Rattle.group_view.specs.Ring.{is_in, AreDistinct, before, after, others}
use Rattle.group_view.specs.View.{Group}
use Rattle.group_view.specs.Since.{no_group}
use Rattle.group_view.proofs.Joining.{one_after, with_after, with_after_absent, filter_after, others-with_after, before-with_after, before_skips}
use Rattle.group_view.proofs.Neighbours.{left_gap, filter_empty_at, left_is_left, IsLeft, itself, other, before-filter, after-filter, in-filter}
use Rattle.ring_rules.specs.View.{ids, is_live, left_of, left_by, right_by, between}
use Rattle.ring_rules.specs.Machine.{World, member_at, view_in, newest, ring, left, right, runs}
use Rattle.ring_rules.specs.Step.{with_view}
use Rattle.ring_rules.proofs.rings.Rounds.{nat_eq-is}
use Rattle.ring_rules.proofs.invariants.Good.{IsRing}
use Rattle.group_view.proofs.Passing.{are_mutual}
use Rattle.ring_rules.proofs.walks.Views.{left_in_view, right_in_view, view_old, view_new, left_is, left_old, right_old, right_is}
use Rattle.ring_rules.proofs.invariants.Period.{IsHistory}
use Rattle.ring_rules.proofs.invariants.Ordered.{KeepsOrder, first_inside}
use Rattle.ring_rules.proofs.invariants.Standing.{knows, IsOrdered, OldLast, AllTrue}
use Rattle.group_view.proofs.Rings.{others_inside, distinct_others}

-- ---- the ring after an admission by m of n, which hold the new version

pub record Joins (w w' : World) (m n : ℕ) (v' : Group) : Type 0 where
  pub views : w'.views ≡ w.views ++ v' ∷ []
  pub distinct : AreDistinct (ids v')
  pub held : (x : ℕ) → (member_at w' x).version ≤ length w.views
  pub old_runs : (x : ℕ) → runs w' x ≡ true → x ≢ m → x ≢ n → runs w x ≡ true
  pub old_view : (x : ℕ) → runs w' x ≡ true → x ≢ m → x ≢ n → (member_at w' x).version ≡ (member_at w x).version
  pub m_view : (member_at w' m).version ≡ length w.views
  pub n_view : (member_at w' n).version ≡ length w.views
  pub stands : (x : ℕ) → runs w' x ≡ true → is_in x (ids v') ≡ true
  pub lives : (x : ℕ) → runs w' x ≡ true → is_live v' x ≡ true
  pub front : (x z : ℕ) → runs w x ≡ true → x ≢ m → is_in z (ring w) ≡ true → left w (newest w) z ≡ x → left_of v' z ≡ x

pub ring_joined : (w w' : World) (m n : ℕ) (v' : Group) → IsRing w → IsHistory w → Joins w w' m n v' → IsRing w'
ring_joined w w' m n v' h hh j =
    let some : 0 < length w.views = h.some in
    let more : length (w.views ++ v' ∷ []) ≡ length w.views + 1 = length_push w.views v' in
    let many : length w'.views ≡ length w.views + 1 = ap (λ (vs : List Group). length vs) j.views ∙ more in
    record {
      some = omega arith;
      distinct = λ v l. subst (λ a. AreDistinct (ids a)) (at_view v) (⊎_elim
          (λ (old : v < length w.views). subst (λ a. AreDistinct (ids a)) (sym (view_old w v' v old)) (h.distinct v (omega arith)))
          (λ (new : length w.views ≤ v). subst (λ a. AreDistinct (ids a)) (sym (view_new w v' v (omega arith))) j.distinct) (cases_lt v (length w.views)));
      held = λ x. omega (arith, j.held x);
      stands = λ x v rx a b. subst (λ q. is_in x (ids q) ≡ true) (at_view v) (⊎_elim
          (λ (old : v < length w.views). subst (λ q. is_in x (ids q) ≡ true) (sym (view_old w v' v old))
          (h.stands x v (j.old_runs x rx (apart_m x v a old) (apart_n x v a old)) (omega (arith, j.old_view x rx (apart_m x v a old) (apart_n x v a old))) (omega arith)))
          (λ (new : length w.views ≤ v). subst (λ q. is_in x (ids q) ≡ true) (sym (view_new w v' v (omega arith))) (j.stands x rx)) (cases_lt v (length w.views)));
      lives = λ x v rx a b. subst (λ q. is_live q x ≡ true) (at_view v) (⊎_elim
          (λ (old : v < length w.views). subst (λ q. is_live q x ≡ true) (sym (view_old w v' v old))
          (h.lives x v (j.old_runs x rx (apart_m x v a old) (apart_n x v a old)) (omega (arith, j.old_view x rx (apart_m x v a old) (apart_n x v a old))) (omega arith)))
          (λ (new : length w.views ≤ v). subst (λ q. is_live q x ≡ true) (sym (view_new w v' v (omega arith))) (j.lives x rx)) (cases_lt v (length w.views)));
      front = λ x v u rx a b c. subst (λ vs. left_by vs u (right_by vs v x) ≡ x) (sym j.views) (⊎_elim
          (λ (vold : v < length w.views).
          let rw1 : runs w x ≡ true = j.old_runs x rx (apart_m x v a vold) (apart_n x v a vold) in
          let view : (member_at w x).version ≤ v = omega (arith, j.old_view x rx (apart_m x v a vold) (apart_n x v a vold)) in
          ap (left (with_view w v') u) (right_old w v' v x vold) ∙ ⊎_elim
          (λ (uold : u < length w.views). left_old w v' u (right w v x) uold ∙ h.front x v u rw1 view b (omega arith))
          (λ (unew : length w.views ≤ u).
          left_is (with_view w v') u (right w v x) v' (view_new w v' u (omega arith))
          ∙ j.front x (right w v x) rw1 (apart_m x v a vold)
          (hh.grows (right w v x) v (newest w)
          (subst (λ z. is_in z (ids (view_in w v)) ≡ true) (sym (right_in_view w v x (h.stands x v rw1 view (omega arith))))
          (first_inside (is_live (view_in w v)) x (others x (ids (view_in w v))) (ids (view_in w v)) (h.stands x v rw1 view (omega arith)) (λ q i. others_inside x q (ids (view_in w v)) i)))
          (omega arith) (omega arith))
          (h.front x v (newest w) rw1 view (omega arith) (omega arith)))
          (cases_lt u (length w.views)))
          (λ (vnew : length w.views ≤ v).
          left_is (with_view w v') u (right (with_view w v') v x) v' (view_new w v' u (omega arith))
          ∙ ap (left_of v') (right_is (with_view w v') v x v' (view_new w v' v (omega arith)))
          ∙ (are_mutual v'.entries x j.distinct (j.lives x rx)).left_of_right)
          (cases_lt v (length w.views)));
    }
  where
    at_view : (v : ℕ) → view_in (with_view w v') v ≡ view_in w' v
    at_view v = ap (λ vs. get_or vs v no_group) (sym j.views)

    apart_m : (x v : ℕ) → (member_at w' x).version ≤ v → v < length w.views → x ≢ m
    apart_m x v a b e = let k : (member_at w' x).version ≡ length w.views = ap (λ q. (member_at w' q).version) e ∙ j.m_view in omega arith

    apart_n : (x v : ℕ) → (member_at w' x).version ≤ v → v < length w.views → x ≢ n
    apart_n x v a b e = let k : (member_at w' x).version ≡ length w.views = ap (λ q. (member_at w' q).version) e ∙ j.n_view in omega arith

-- ---- the order

pub all_true_after : (t : ℕ → Bool) (m n : ℕ) (xs : List ℕ) → t m ≡ false → AllTrue t xs → AllTrue t (with_after m n xs)
all_true_after t m n [] tm h = tt
all_true_after t m n (x ∷ xs) tm h = by_case (nat_eq x m) refl (all_true_after t m n xs tm h.1)
  where
    by_case : (b : Bool) → nat_eq x m ≡ b → AllTrue t (with_after m n xs) → (t x ≡ true) × AllTrue t (cond b (n ∷ []) [] ++ with_after m n xs)
    by_case true e ih = absurd (false≢true (sym tm ∙ ap t (sym (nat_eq-is x m e)) ∙ h.0))
    by_case false e ih = (h.0, ih)

pub old_last_after : (t : ℕ → Bool) (m n : ℕ) (xs : List ℕ) → t m ≡ false → t n ≡ false → OldLast t xs → OldLast t (with_after m n xs)
old_last_after t m n [] tm tn h = tt
old_last_after t m n (x ∷ xs) tm tn h = by_case (nat_eq x m) refl (old_last_after t m n xs tm tn h.1)
  where
    by_case : (b : Bool) → nat_eq x m ≡ b → OldLast t (with_after m n xs) → (t x ≡ true → AllTrue t (cond b (n ∷ []) [] ++ with_after m n xs)) × OldLast t (cond b (n ∷ []) [] ++ with_after m n xs)
    by_case true e ih = (λ k. absurd (false≢true (sym tm ∙ ap t (sym (nat_eq-is x m e)) ∙ k)), (λ k. absurd (false≢true (sym tn ∙ k)), ih))
    by_case false e ih = (λ k. all_true_after t m n xs tm (h.0 k), ih)

pub order_after : (w : World) (m n : ℕ) (v' : Group) → ids v' ≡ with_after m n (ring w) → IsRing w → IsHistory w → IsOrdered w → is_live (view_in w (newest w)) m ≡ true → ((v : ℕ) → v ≤ newest w → knows w v n ≡ false) → KeepsOrder w v'
order_after w m n v' e hr hh ho lm fresh =
    record {
      part = λ v l. subst (λ us. ids (view_in w v) ≡ filter (knows w v) us) (sym e) (ho.part v l ∙ sym (filter_after (knows w v) m n (ring w) (fresh v l)));
      order = λ v x l k. subst (λ us. OldLast (knows w v) (before x (others (left w v x) us))) (sym e) (in_view v x l k);
    }
  where
    in_view : (v x : ℕ) → v ≤ newest w → knows w v x ≡ true → OldLast (knows w v) (before x (others (left w v x) (with_after m n (ring w))))
    in_view v x l k =
        let is : before x (others s (with_after m n (ring w))) ≡ one_after m n s ++ with_after m n b =
        ap (before x) (others-with_after s m n (ring w) ns sn) ∙ before_skips x n (nat_eq s m) (with_after m n (others s (ring w))) nx ∙ ap (λ us. one_after m n s ++ us) (before-with_after x m n (others s (ring w)) nx) in
        subst (OldLast (knows w v)) (sym is) (in_front (nat_eq s m) (by_m (is_in m b) refl))
      where
        s : ℕ
        s = left w v x

        b : List ℕ
        b = before x (others s (ring w))

        other_than : (q : ℕ) → knows w v q ≡ true → nat_eq n q ≡ false
        other_than q i = by_test (nat_eq n q) refl
          where
            by_test : (c : Bool) → nat_eq n q ≡ c → c ≡ false
            by_test true ec = absurd (false≢true (sym (fresh v l) ∙ ap (knows w v) (nat_eq-is n q ec) ∙ i))
            by_test false ec = refl

        sv : knows w v s ≡ true
        sv = by_left (left_is_left (is_live (view_in w v)) s x (ids (view_in w v)) (distinct_others x (ids (view_in w v)) (hr.distinct v l) k) k (sym (left_in_view w v x k)))
          where
            by_left : IsLeft (is_live (view_in w v)) s x (ids (view_in w v)) → knows w v s ≡ true
            by_left (itself e2) = ap (knows w v) e2 ∙ k
            by_left (other l2 i) = i

        nx : nat_eq n x ≡ false
        nx = other_than x k

        ns : nat_eq n s ≡ false
        ns = other_than s sv

        sn : is_in s (ring w) ≡ true
        sn = hh.grows s v (newest w) sv l (omega arith)

        in_front : (c : Bool) → OldLast (knows w v) (with_after m n b) → OldLast (knows w v) (cond c (n ∷ []) [] ++ with_after m n b)
        in_front true h = (λ i. absurd (false≢true (sym (fresh v l) ∙ i)), h)
        in_front false h = h

        -- where m stands there, v doesn't know it: those that it knows there are dead
        new_m : is_in m b ≡ true → knows w v m ≡ false
        new_m i = by_test (knows w v m) refl
          where
            is : between (view_in w v) s x ≡ filter (knows w v) b
            is = ap (λ us. before x (after s us ++ before s us)) (ho.part v l)
                ∙ ap (before x) (rw (after-filter (knows w v) s (ring w) sv, before-filter (knows w v) s (ring w) sv) (sym (filter-append (knows w v) (after s (ring w)) (before s (ring w)))))
                ∙ before-filter (knows w v) x (others s (ring w)) k

            by_test : (c : Bool) → knows w v m ≡ c → c ≡ false
            by_test false ec = refl
            by_test true ec =
                let gap : is_live (view_in w v) m ≡ false =
                filter_empty_at (is_live (view_in w v)) m (between (view_in w v) s x) (left_gap (is_live (view_in w v)) s x (ids (view_in w v)) (hr.distinct v l) (distinct_others x (ids (view_in w v)) (hr.distinct v l) k) k (sym (left_in_view w v x k)))
                (ap (is_in m) is ∙ in-filter (knows w v) m b i ec) in
                absurd (false≢true (sym gap ∙ hh.dies m v (newest w) ec l (omega arith) lm))

        by_m : (c : Bool) → is_in m b ≡ c → OldLast (knows w v) (with_after m n b)
        by_m false ec = subst (OldLast (knows w v)) (sym (with_after_absent m n b ec)) (ho.order v x l k)
        by_m true ec = old_last_after (knows w v) m n b (new_m ec) (fresh v l) (ho.order v x l k)
