-- Members and views, event by event.
use Rattle.std.proofs.Common.{Bool, ◌≡◌, ℕ, ◌<◌, ◌≤◌, ◌+◌, ◌-◌, true, false, cond, [], ◌∷◌, ◌++◌, length, get_or, refl, sym, ap, subst, ◌∙◌, arith, nat_eq, ⊎_elim}
use Rattle.std.proofs.lemmas.Bool.{cases_lt, false≢true}
use Rattle.std.proofs.lemmas.List.{get_or_append_left, get_or_push, length_push}
use Rattle.std.specs.Prelude.{◌&&◌, Option, Some, None}
use Rattle.group_view.specs.View.{Group, entry_in, is_dead, is_live_mark, is_dead_mark, ids as ids_of_entries, is_live as is_live_entry_of}
use Rattle.group_view.specs.Since.{no_group}
use Rattle.ring_rules.specs.View.{ids, is_live, left_of, right_of, left_by, right_by}
use Rattle.group_view.specs.Ring.{left_in, right_in, is_in, AreDistinct}
use Rattle.ring_rules.specs.Machine.{World, member_at, view_in, newest, ring, left, right, runs, Phase, Waiting, Up, Stopped, Link, is_kept, is_kept_of, is_waiting, link_at, numbers_at}
use Rattle.ring_rules.specs.Step.{with_view}
use Rattle.group_view.specs.Change.{marked, remarked}
use Rattle.group_view.proofs.Lists.{all_range_agree}
use Rattle.group_view.proofs.Rings.{nat_eq-is, nat_eq-not}
use Rattle.group_view.proofs.Passing.{are_mutual}
use Rattle.ring_rules.specs.Event.{erased_view, synced_view}
use Rattle.group_view.proofs.Syncing.{same_ring_registered}
use Rattle.group_view.proofs.Neighbours.{left_marked}
use Rattle.ring_rules.proofs.invariants.Good.{IsRing}
use Rattle.ring_rules.specs.Rows.{Row}
use Rattle.ring_rules.specs.declared.numbers.Numbers.{Numbers}
use Rattle.ring_rules.proofs.walks.CountedWalk.{walk, when, past_first}
use Rattle.ring_rules.specs.OpenLinks.{own_number, first_packet}
use Rattle.ring_rules.proofs.rings.Weakens.{Weakens}
use Rattle.ring_rules.proofs.walks.Links.{kept}
use Rattle.ring_rules.proofs.walks.Back.{closes_walk, Closes}
use Rattle.group_view.specs.declared.entry.Mark.TheVariants.{Dead, Live, Erased}
use Rattle.group_view.proofs.Groups.{ids-remarked_group}
use Rattle.group_view.proofs.History.{live_marked_group}
use Rattle.group_view.proofs.Truth.{other_true}
use Rattle.group_view.proofs.Marks.{left_absent, left_is as left_of_entry, right_is as right_of_entry, live-marked as live-marked_entries}
use Rattle.group_view.specs.declared.entry.Mark.{Mark}

-- ---- fewer run, or they look at later views

pub ring_less : (w w' : World) → w'.views ≡ w.views → ((x : ℕ) → runs w' x ≡ true → runs w x ≡ true) → ((x : ℕ) → runs w' x ≡ true → (member_at w x).version ≤ (member_at w' x).version) → ((x : ℕ) → (member_at w' x).version ≤ newest w) → IsRing w → IsRing w'
ring_less w w' ev hr hv hn h = record {
  some = subst (λ vs. 0 < length vs) (sym ev) h.some;
  distinct = subst (λ vs. (v : ℕ) → v ≤ length vs - 1 → AreDistinct (ids (get_or vs v no_group))) (sym ev) h.distinct;
  held = λ x. subst (λ vs. (member_at w' x).version ≤ length vs - 1) (sym ev) (hn x);
  stands = λ x v rx a b. subst (λ vs. is_in x (ids (get_or vs v no_group)) ≡ true) (sym ev) (h.stands x v (hr x rx) (omega (arith, hv x rx)) (subst (λ vs. v ≤ length vs - 1) ev b));
  lives = λ x v rx a b. subst (λ vs. is_live (get_or vs v no_group) x ≡ true) (sym ev) (h.lives x v (hr x rx) (omega (arith, hv x rx)) (subst (λ vs. v ≤ length vs - 1) ev b));
  front = λ x v u rx a b c. subst (λ vs. left_by vs u (right_by vs v x) ≡ x) (sym ev) (h.front x v u (hr x rx) (omega (arith, hv x rx)) b (subst (λ vs. u ≤ length vs - 1) ev c));
}

-- ---- one more view

pub view_old : (w : World) (v' : Group) (u : ℕ) → u < length w.views → view_in (with_view w v') u ≡ view_in w u
view_old w v' u l = get_or_append_left w.views (v' ∷ []) no_group u l

pub view_new : (w : World) (v' : Group) (u : ℕ) → length w.views ≡ u → view_in (with_view w v') u ≡ v'
view_new w v' u e = get_or_push w.views v' no_group u e

-- it is the newest then
pub newest_view : (w : World) (v' : Group) → IsRing w → view_in (with_view w v') (newest (with_view w v')) ≡ v'
newest_view w v' h = view_new w v' (newest (with_view w v')) (let more : length (w.views ++ v' ∷ []) ≡ length w.views + 1 = length_push w.views v' in let some : 0 < length w.views = h.some in omega arith)

pub left_is : (w : World) (u y : ℕ) (v : Group) → view_in w u ≡ v → left w u y ≡ left_of v y
unfolding left_by
left_is w u y v e = ap (λ v. left_of v y) e

pub right_is : (w : World) (u y : ℕ) (v : Group) → view_in w u ≡ v → right w u y ≡ right_of v y
unfolding right_by
right_is w u y v e = ap (λ v. right_of v y) e

-- of an entry of that view
pub left_in_view : (w : World) (u y : ℕ) → is_in y (ids (view_in w u)) ≡ true → left w u y ≡ left_in (is_live (view_in w u)) y (ids (view_in w u))
left_in_view w u y i = left_is w u y (view_in w u) refl ∙ left_of_entry (view_in w u).entries y i

pub right_in_view : (w : World) (u y : ℕ) → is_in y (ids (view_in w u)) ≡ true → right w u y ≡ right_in (is_live (view_in w u)) y (ids (view_in w u))
right_in_view w u y i = right_is w u y (view_in w u) refl ∙ right_of_entry (view_in w u).entries y i

pub left_old : (w : World) (v' : Group) (u y : ℕ) → u < length w.views → left (with_view w v') u y ≡ left w u y
left_old w v' u y l = left_is (with_view w v') u y (view_in w u) (view_old w v' u l) ∙ sym (left_is w u y (view_in w u) refl)

pub right_old : (w : World) (v' : Group) (u y : ℕ) → u < length w.views → right (with_view w v') u y ≡ right w u y
right_old w v' u y l = right_is (with_view w v') u y (view_in w u) (view_old w v' u l) ∙ sym (right_is w u y (view_in w u) refl)

-- what a new view has to bring, said of the newest one
pub record MayFollow (w : World) (v' : Group) : Type 0 where
  pub distinct : AreDistinct (ids v')
  pub stands : (x : ℕ) → runs w x ≡ true → is_in x (ids v') ≡ true
  pub lives : (x : ℕ) → runs w x ≡ true → is_live v' x ≡ true
  -- a running member that is a left neighbour stays it
  pub front : (x z : ℕ) → runs w x ≡ true → left w (newest w) z ≡ x → left_of v' z ≡ x

pub ring_more : (w : World) (v' : Group) → MayFollow w v' → IsRing w → IsRing (with_view w v')
ring_more w v' g h =
    let more : length (w.views ++ v' ∷ []) ≡ length w.views + 1 = length_push w.views v' in
    let some : 0 < length w.views = h.some in
    record {
      some = omega arith;
      distinct = λ v l. ⊎_elim
          (λ (old : v < length w.views). subst (λ a. AreDistinct (ids a)) (sym (view_old w v' v old)) (h.distinct v (omega arith)))
          (λ (new : length w.views ≤ v). subst (λ a. AreDistinct (ids a)) (sym (view_new w v' v (omega arith))) g.distinct) (cases_lt v (length w.views));
      held = λ x. omega (arith, h.held x);
      stands = λ x v rx a b. ⊎_elim
          (λ (old : v < length w.views). subst (λ a. is_in x (ids a) ≡ true) (sym (view_old w v' v old)) (h.stands x v rx a (omega arith)))
          (λ (new : length w.views ≤ v). subst (λ a. is_in x (ids a) ≡ true) (sym (view_new w v' v (omega arith))) (g.stands x rx)) (cases_lt v (length w.views));
      lives = λ x v rx a b. ⊎_elim
          (λ (old : v < length w.views). subst (λ a. is_live a x ≡ true) (sym (view_old w v' v old)) (h.lives x v rx a (omega arith)))
          (λ (new : length w.views ≤ v). subst (λ a. is_live a x ≡ true) (sym (view_new w v' v (omega arith))) (g.lives x rx)) (cases_lt v (length w.views));
      front = λ x v u rx a b c. ⊎_elim
          (λ (old : u < length w.views).
          left_old w v' u (right (with_view w v') v x) old ∙ ap (left w u) (right_old w v' v x (omega arith)) ∙ h.front x v u rx a b (omega arith))
          (λ (new : length w.views ≤ u).
          left_is (with_view w v') u (right (with_view w v') v x) v' (view_new w v' u (omega arith))
          ∙ ⊎_elim
          (λ (vold : v < length w.views). g.front x (right (with_view w v') v x) rx (ap (left w (newest w)) (right_old w v' v x vold) ∙ h.front x v (newest w) rx a (omega arith) (omega arith)))
          (λ (vnew : length w.views ≤ v).
          ap (left_of v') (right_is (with_view w v') v x v' (view_new w v' v (omega arith))) ∙ (are_mutual v'.entries x g.distinct (g.lives x rx)).left_of_right)
          (cases_lt v (length w.views)))
          (cases_lt u (length w.views));
    }

-- ---- a mark

-- the newest view with d not live, and all else as it was
pub record IsMarked (w : World) (d : ℕ) (v' : Group) : Type 0 where
  pub same_ids : ids v' ≡ ring w
  pub lives : (q : ℕ) → is_live v' q ≡ cond (nat_eq q d) false (is_live (view_in w (newest w)) q)

-- by a mark that isn't Live, whoever is the master then
pub remark_marks : (m : Mark) (w : World) (d : ℕ) (v' : Group) → is_live_mark m ≡ false → v'.entries ≡ (remarked m (view_in w (newest w)) d).entries → IsMarked w d v'
remark_marks m w d v' hm e = record {
  same_ids = ap ids_of_entries e ∙ ids-remarked_group m (view_in w (newest w)) d;
  lives = λ q. ap (λ es. is_live_entry_of es q) e ∙ live_marked_group m (view_in w (newest w)) d q ∙ live-marked_entries m d q (view_in w (newest w)).entries hm;
}

pub marked_marks : (w : World) (d : ℕ) → IsMarked w d (marked (view_in w (newest w)) d)
marked_marks w d = remark_marks Dead w d (marked (view_in w (newest w)) d) refl refl

pub erased_marks : (w : World) (d : ℕ) → IsMarked w d (erased_view w d)
erased_marks w d = remark_marks Erased w d (erased_view w d) refl refl

-- by a registration nobody is marked
pub synced_marks : (w : World) (x d : ℕ) → is_live (view_in w (newest w)) d ≡ false → IsMarked w d (synced_view w x)
synced_marks w x d rests = let same = same_ring_registered (view_in w (newest w)) x in record {
  same_ids = same.same_ids;
  lives = λ q. same.same_live q ∙ by_case q (nat_eq q d) refl;
}
  where
    by_case : (q : ℕ) (b : Bool) → nat_eq q d ≡ b → is_live (view_in w (newest w)) q ≡ cond b false (is_live (view_in w (newest w)) q)
    by_case q true e = ap (is_live (view_in w (newest w))) (nat_eq-is q d e) ∙ rests
    by_case q false e = refl

-- no mark is both
pub not_both : (m : Mark) → is_dead_mark m ≡ true → is_live_mark m ≡ true → ⊥
not_both Live a b = false≢true a
not_both Dead a b = false≢true b
not_both Erased a b = false≢true a

-- who is dead in the newest view doesn't run
pub dead_rests : (w : World) (d : ℕ) → IsRing w → is_dead (view_in w (newest w)).entries d ≡ true → runs w d ≡ false
dead_rests w d h e = by_runs (runs w d) refl
  where
    by_runs : (b : Bool) → runs w d ≡ b → b ≡ false
    by_runs false r = refl
    by_runs true r = absurd (not_both (entry_in (view_in w (newest w)).entries d).mark e (h.lives d (newest w) r (h.held d) (omega arith)))

-- d doesn't run, and is marked dead
pub mark_follows : (w : World) (d : ℕ) (v' : Group) → IsMarked w d v' → runs w d ≡ false → IsRing w → MayFollow w v'
mark_follows w d v' k rd h =
    let v : Group = view_in w (newest w) in
    let still : (x : ℕ) → runs w x ≡ true → is_live v' x ≡ true = λ x rx.
    k.lives x ∙ ap (λ b. cond b false (is_live v x)) (nat_eq-not x d (λ e. false≢true (sym rd ∙ ap (runs w) (sym e) ∙ rx))) ∙ h.lives x (newest w) rx (h.held x) (omega arith) in
    record {
      distinct = subst AreDistinct (sym k.same_ids) (h.distinct (newest w) (omega arith));
      stands = λ x rx. ap (is_in x) k.same_ids ∙ h.stands x (newest w) rx (h.held x) (omega arith);
      lives = still;
      front = λ x z rx e. by_place x z (still x rx) (sym (left_is w (newest w) z v refl) ∙ e) (is_in z (ids v)) refl;
    }
  where
    by_place : (x z : ℕ) → is_live v' x ≡ true → left_of (view_in w (newest w)) z ≡ x → (b : Bool) → is_in z (ring w) ≡ b → left_of v' z ≡ x
    by_place x z l e true i =
        left_of_entry v'.entries z (ap (is_in z) k.same_ids ∙ i) ∙ ap (left_in (is_live v') z) k.same_ids
        ∙ left_marked (is_live (view_in w (newest w))) (is_live v') z x (ring w) (λ q t. other_true (nat_eq q d) (is_live (view_in w (newest w)) q) (sym (k.lives q) ∙ t)) l
        (sym (left_of_entry (view_in w (newest w)).entries z i) ∙ e)
    by_place x z l e false i = left_absent v'.entries z (ap (is_in z) k.same_ids ∙ i) ∙ sym (left_absent (view_in w (newest w)).entries z i) ∙ e

-- ---- the walk of one more view

pub kept_old : (w : World) (v' : Group) (l : Link) (v : ℕ) → v < length w.views → is_kept (with_view w v') l v ≡ is_kept w l v
unfolding is_kept_of
kept_old w v' l v lt =
    all_range_agree (λ u. nat_eq (left (with_view w v') u l.receiver) l.sender) (λ u. nat_eq (left w u l.receiver) l.sender) l.opened (v + 1 - l.opened)
    (λ u a b. ap (λ q. nat_eq q l.sender) (left_old w v' u l.receiver (omega arith)))

-- a view in which the ring has its old order
pub view_closes : (w : World) (v' : Group) (p : ℕ) → ids v' ≡ ring w → IsRing w → Closes w (with_view w v') p
view_closes w v' p e h =
    let some : 0 < length w.views = h.some in
    record {
      many = refl;
      senders = λ j. refl;
      is_ring = ap ids (newest_view w v' h) ∙ e;
      runs_same = λ q. refl;
      counts = λ q j. kept (ap (λ b. when (nat_eq (link_at w j).receiver q && b) (past_first (is_waiting (member_at w q).phase && nat_eq (link_at w j).opened (member_at w q).version) (link_at w j).packets))
          (kept_old w v' (link_at w j) (member_at w q).version (omega (arith, h.held q))));
      own_got = λ q. by_phase (λ k. k.got) (λ r. r.got) q (member_at w q).phase;
      own_forgot = λ q. by_phase (λ k. k.forgot) (λ r. r.forgot) q (member_at w q).phase;
      retires = λ q. refl;
    }
  where
    by_current : (c : Option ℕ) → first_packet (with_view w v') c ≡ first_packet w c
    by_current None = refl
    by_current (Some s) = refl

    by_phase : (g : Numbers → ℕ) (r : Row → ℕ) (q : ℕ) (f : Phase) → own_number g r (with_view w v') p f (member_at w q) ≡ own_number g r w p f (member_at w q)
    by_phase g r q Waiting = ap (λ k. g (numbers_at k p)) (by_current (member_at w q).current)
    by_phase g r q Up = refl
    by_phase g r q Stopped = refl

pub view_walk : (w : World) (v' : Group) (p : ℕ) → ids v' ≡ ring w → IsRing w → Weakens (walk w p) (walk (with_view w v') p)
view_walk w v' p e h = closes_walk w (with_view w v') p (view_closes w v' p e h)

-- a mark
pub mark_walk : (w : World) (d p : ℕ) (v' : Group) → IsMarked w d v' → IsRing w → Weakens (walk w p) (walk (with_view w v') p)
mark_walk w d p v' k h = view_walk w v' p k.same_ids h
