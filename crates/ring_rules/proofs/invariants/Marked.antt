-- Links and history, where a view is added and nobody looks at it yet.
use Rattle.std.proofs.Common.{◌≡◌, ℕ, ◌<◌, ◌≤◌, ◌+◌, true, [], ◌∷◌, ◌++◌, length, sym, ap, subst, ◌∙◌, arith, nat_eq, ⊎_elim}
use Rattle.std.proofs.lemmas.Bool.{cases_lt}
use Rattle.std.proofs.lemmas.List.{length_push}
use Rattle.group_view.specs.View.{Group}
use Rattle.ring_rules.specs.View.{ids, is_live}
use Rattle.ring_rules.specs.Machine.{World, member_at, link_at, view_in, newest, ring}
use Rattle.group_view.specs.Ring.{is_in}
use Rattle.ring_rules.specs.Step.{with_view}
use Rattle.group_view.proofs.Truth.{other_true}
use Rattle.ring_rules.proofs.invariants.Good.{IsRing, IsLinked}
use Rattle.ring_rules.proofs.invariants.Period.{IsHistory}
use Rattle.ring_rules.proofs.walks.Views.{view_old, view_new, left_old, right_old, kept_old, IsMarked}

-- ---- links

pub linked_more : (w : World) (v' : Group) → IsRing w → IsLinked w → IsLinked (with_view w v')
linked_more w v' hr hl =
    let some : 0 < length w.views = hr.some in
    let more : length (w.views ++ v' ∷ []) ≡ length w.views + 1 = length_push w.views v' in
    record {
      opened = λ s l. omega (arith, hl.opened s l);
      from_left = λ s l. left_old w v' (link_at w s).opened (link_at w s).receiver (omega (arith, hl.opened s l)) ∙ hl.from_left s l;
      seen = hl.seen;
      period = λ i j ij l e. kept_old w v' (link_at w i) (link_at w j).opened (omega (arith, hl.opened j l)) ∙ hl.period i j ij l e;
      out_lt = hl.out_lt;
      out_from = hl.out_from;
      out_to = λ x o r e. hl.out_to x o r e ∙ sym (right_old w v' (member_at w x).version x (omega (arith, hr.held x)));
      out_kept = λ x o r e u a b. left_old w v' u (link_at w o).receiver (omega (arith, hr.held x)) ∙ hl.out_kept x o r e u a b;
      is_out = λ s l r k lv. hl.is_out s l r
          (λ u a b. sym (left_old w v' u (link_at w s).receiver (omega (arith, hr.held (link_at w s).sender))) ∙ k u a b)
          (subst (λ a. is_live a (link_at w s).receiver ≡ true) (view_old w v' (member_at w (link_at w s).sender).version (omega (arith, hr.held (link_at w s).sender))) lv);
    }

-- ---- history

-- a new view has the newest one's entries, and brings none of them back to life
pub record Ages (w : World) (v' : Group) : Type 0 where
  pub grows : (z : ℕ) → is_in z (ring w) ≡ true → is_in z (ids v') ≡ true
  pub dies : (z : ℕ) → is_in z (ring w) ≡ true → is_live v' z ≡ true → is_live (view_in w (newest w)) z ≡ true

pub history_more : (w : World) (v' : Group) → IsRing w → IsLinked w → IsHistory w → Ages w v' → IsHistory (with_view w v')
history_more w v' hr hl hh g =
    let some : 0 < length w.views = hr.some in
    let more : length (w.views ++ v' ∷ []) ≡ length w.views + 1 = length_push w.views v' in
    record {
      grows = λ z u v i le lt. ⊎_elim
          (λ (uold : u < length w.views).
          let before_is : is_in z (ids (view_in w u)) ≡ true = subst (λ a. is_in z (ids a) ≡ true) (view_old w v' u uold) i in
          ⊎_elim
          (λ (vold : v < length w.views). subst (λ a. is_in z (ids a) ≡ true) (sym (view_old w v' v vold)) (hh.grows z u v before_is le (omega arith)))
          (λ (vnew : length w.views ≤ v). subst (λ a. is_in z (ids a) ≡ true) (sym (view_new w v' v (omega arith))) (g.grows z (hh.grows z u (newest w) before_is (omega arith) (omega arith))))
          (cases_lt v (length w.views)))
          (λ (unew : length w.views ≤ u). let same : u ≡ v = omega arith in subst (λ k. is_in z (ids (view_in (with_view w v') k)) ≡ true) same i)
          (cases_lt u (length w.views));
      dies = λ z u v i le lt lv. ⊎_elim
          (λ (uold : u < length w.views).
          let before_is : is_in z (ids (view_in w u)) ≡ true = subst (λ a. is_in z (ids a) ≡ true) (view_old w v' u uold) i in
          subst (λ a. is_live a z ≡ true) (sym (view_old w v' u uold)) (⊎_elim
          (λ (vold : v < length w.views). hh.dies z u v before_is le (omega arith) (subst (λ a. is_live a z ≡ true) (view_old w v' v vold) lv))
          (λ (vnew : length w.views ≤ v).
          hh.dies z u (newest w) before_is (omega arith) (omega arith)
          (g.dies z (hh.grows z u (newest w) before_is (omega arith) (omega arith)) (subst (λ a. is_live a z ≡ true) (view_new w v' v (omega arith)) lv)))
          (cases_lt v (length w.views))))
          (λ (unew : length w.views ≤ u). let same : v ≡ u = omega arith in subst (λ k. is_live (view_in (with_view w v') k) z ≡ true) same lv)
          (cases_lt u (length w.views));
      known = λ s l. subst (λ a. is_in (link_at w s).receiver (ids a) ≡ true) (sym (view_old w v' (link_at w s).opened (omega (arith, hl.opened s l)))) (hh.known s l);
    }

pub mark_ages : (w : World) (d : ℕ) (v' : Group) → IsMarked w d v' → Ages w v'
mark_ages w d v' k = record {
  grows = λ z i. ap (is_in z) k.same_ids ∙ i;
  dies = λ z i l. other_true (nat_eq z d) (is_live (view_in w (newest w)) z) (sym (k.lives z) ∙ l);
}
