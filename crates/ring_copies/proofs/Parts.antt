-- What a move of the queue's laws says of masters, views and logs, whatever its kind.
use Rattle.std.proofs.Common.{◌≡◌, ◌≢◌, ℕ, ◌+◌, ◌<◌, ◌≤◌, true, List, [], ◌∷◌, ◌++◌, length, refl, sym, ap, ◌∙◌, subst, arith, ⊎_elim, Some}
use Rattle.std.proofs.lemmas.Bool.{cases_eq, cases_lt, both_ways}
use Rattle.std.proofs.lemmas.List.{length_push}
use Rattle.queue_core.specs.declared.message.Message.{Message}
use Rattle.queue_laws.specs.Part.{Waiting, Up, Stopped, Part, is_in, masters}
use Rattle.queue_laws.specs.Moves.{RingKeeps, SameMasters, SameViews, SameLogs, SameGot, IsNextView, Publishes, Enters, Move, rest, publish, grow, join, leave, see, elect, enter, finish}
use Rattle.queue_laws.specs.Copies.{AreDistinct}
use Rattle.queue_laws.proofs.Good.{HaveTerms, AreInPlace}
use Rattle.queue_laws.proofs.Terms.{same_masters, new_master}
use Rattle.queue_laws.proofs.Before.{distinct_push}
use Rattle.queue_laws.proofs.Copied.{Onward, onward_same, onward_publish, onward_elect}

-- logs grow, views stay, and what is received of earlier masters
pub move_onward : (P P' : Part) → Move P P' → HaveTerms P → AreInPlace P → RingKeeps P P' → Onward P P'
move_onward P P' (rest k) t b s = onward_same P P' k.masters k.logs (λ v _. k.views.view v) t s
move_onward P P' (publish x m k) t b s = onward_publish x m P P' k t s
move_onward P P' (grow y k) t b s = onward_same P P' k.masters k.logs (λ v _. k.views.view v) t s
move_onward P P' (join y k) t b s = onward_same P P' k.masters k.logs (λ v _. k.views.view v) t s
move_onward P P' (leave y k) t b s = onward_same P P' k.masters k.logs (λ v _. k.views.view v) t s
move_onward P P' (see k) t b s = onward_same P P' k.masters k.logs k.next.old t s
move_onward P P' (elect m k) t b s = onward_elect m P P' k t b s
move_onward P P' (enter n x k) t b s = onward_same P P' k.masters k.logs k.next.old t s
move_onward P P' (finish y k) t b s = onward_same P P' k.masters k.logs (λ v _. k.views.view v) t s

-- ---- masters

-- No master stands twice; by whose view the last one leads, the earlier ones are erased there; and who is erased stays so from
-- view to view.
pub record AreOrdered (P : Part) : Type 0 where
  pub distinct : AreDistinct (masters P)
  pub seen_gone : (v r : ℕ) → v ≤ P.newest → (P.view v).master ≡ Some P.last → is_in r P.earlier ≡ true → (P.view v).is_erased r ≡ true
  pub stays : (u v q : ℕ) → u ≤ v → v ≤ P.newest → (P.view u).is_erased q ≡ true → (P.view v).is_erased q ≡ true

same_ordered : (P P' : Part) → SameMasters P P' → SameViews P P' → AreOrdered P → AreOrdered P'
same_ordered P P' m k h = record {
  distinct = subst AreDistinct (sym (same_masters P P' m)) h.distinct;
  seen_gone = λ v r le e i.
      ap (λ s. s.is_erased r) (k.view v) ∙ h.seen_gone v r (omega (arith, k.newest, le)) (ap (λ s. s.master) (sym (k.view v)) ∙ e ∙ ap Some m.last) (ap (is_in r) (sym m.earlier) ∙ i);
  stays = λ u v q le upto e. ap (λ s. s.is_erased q) (k.view v) ∙ h.stays u v q le (omega (arith, k.newest, upto)) (ap (λ s. s.is_erased q) (sym (k.view u)) ∙ e);
}

-- a view more
next_stays : (P P' : Part) → IsNextView P P' → AreOrdered P → (u v q : ℕ) → u ≤ v → v ≤ P'.newest → (P'.view u).is_erased q ≡ true → (P'.view v).is_erased q ≡ true
next_stays P P' k h u v q le upto e = ⊎_elim
    (λ (old : v < P.newest + 1). ap (λ s. s.is_erased q) (k.old v (omega arith)) ∙ h.stays u v q le (omega arith) (was (omega (arith, le, old))))
    (λ (new : P.newest + 1 ≤ v).
    let is : v ≡ P'.newest = omega (arith, k.newest, upto, new) in
    ⊎_elim
    (λ (before : u < P.newest + 1). ap (λ n. (P'.view n).is_erased q) is ∙ k.stays_erased q (h.stays u P.newest q (omega arith) (omega arith) (was before)))
    (λ (last : P.newest + 1 ≤ u). let same : v ≡ u = omega (arith, le, last, is, k.newest) in ap (λ n. (P'.view n).is_erased q) same ∙ e)
    (cases_lt u (P.newest + 1)))
    (cases_lt v (P.newest + 1))
  where
    was : u < P.newest + 1 → (P.view u).is_erased q ≡ true
    was l = ap (λ s. s.is_erased q) (sym (k.old u (omega (arith, l)))) ∙ e

next_ordered : (P P' : Part) → IsNextView P P' → SameMasters P P' → HaveTerms P' → AreOrdered P → AreOrdered P'
next_ordered P P' k m t h = record {
  distinct = subst AreDistinct (sym (same_masters P P' m)) h.distinct;
  seen_gone = λ v r le e i. ⊎_elim
      (λ (old : v < P.newest + 1).
      let o : v ≤ P.newest = omega arith in
      ap (λ s. s.is_erased r) (k.old v o) ∙ h.seen_gone v r o (ap (λ s. s.master) (sym (k.old v o)) ∙ e ∙ ap Some m.last) (ap (is_in r) (sym m.earlier) ∙ i))
      (λ (new : P.newest + 1 ≤ v). let is : v ≡ P'.newest = omega (arith, k.newest, le, new) in ap (λ u. (P'.view u).is_erased r) is ∙ t.gone r i)
      (cases_lt v (P.newest + 1));
  stays = next_stays P P' k h;
}

pub move_ordered : (P P' : Part) → Move P P' → HaveTerms P → HaveTerms P' → AreOrdered P → AreOrdered P'
move_ordered P P' (rest k) t t' h = same_ordered P P' k.masters k.views h
move_ordered P P' (publish x m k) t t' h = same_ordered P P' k.masters k.views h
move_ordered P P' (grow y k) t t' h = same_ordered P P' k.masters k.views h
move_ordered P P' (join y k) t t' h = same_ordered P P' k.masters k.views h
move_ordered P P' (leave y k) t t' h = same_ordered P P' k.masters k.views h
move_ordered P P' (see k) t t' h = next_ordered P P' k.next k.masters t' h
move_ordered P P' (elect m k) t t' h = record {
  distinct = subst AreDistinct (sym all) (distinct_push (masters P) m h.distinct (new_master m P P' k t));
  seen_gone = λ v r le e i. ⊎_elim
      (λ (old : v < P.newest + 1).
      let o : v ≤ P.newest = omega arith in
      absurd (both_ways (is_in m (masters P)) (new_master m P P' k t) (t.chosen v m o (ap (λ s. s.master) (sym (k.next.old v o)) ∙ e ∙ ap Some k.last))))
      (λ (new : P.newest + 1 ≤ v). let is : v ≡ P'.newest = omega (arith, k.next.newest, le, new) in ap (λ u. (P'.view u).is_erased r) is ∙ t'.gone r i)
      (cases_lt v (P.newest + 1));
  stays = next_stays P P' k.next h;
}
  where
    all : masters P' ≡ masters P ++ m ∷ []
    all = rw (k.earlier, k.last) refl
move_ordered P P' (enter n x k) t t' h = next_ordered P P' k.next k.masters t' h
move_ordered P P' (finish y k) t t' h = same_ordered P P' k.masters k.views h

-- ---- which kind it is

same_log : (P P' : Part) (x : ℕ) (m : Message) → SameLogs P P' → P'.log x ≡ P.log x ++ m ∷ [] → ⊥
same_log P P' x m k e = omega (arith, ap length (k.log x), ap length e, length_push (P.log x) m)

last_is : (xs : List Message) (a b : Message) → xs ++ a ∷ [] ≡ xs ++ b ∷ [] → a ≡ b
last_is [] a b e = cc
last_is (x ∷ xs) a b e = last_is xs a b (tail (xs ++ a ∷ []) (xs ++ b ∷ []) e)
  where
    tail : (ys zs : List Message) → x ∷ ys ≡ x ∷ zs → ys ≡ zs
    tail ys zs k = cc

-- where a log has grown, its member has published
pub publishes_of : (P P' : Part) (x : ℕ) (m : Message) → Move P P' → P'.log x ≡ P.log x ++ m ∷ [] → Publishes x m P P'
publishes_of P P' x m (publish y n k) e = ⊎_elim
    (λ (is : x ≡ y). same is (last_is (P.log x) m n (sym e ∙ subst (λ z. P'.log z ≡ P.log z ++ n ∷ []) (sym is) k.log)))
    (λ (d : x ≢ y). absurd (omega (arith, ap length (k.others_log x d), ap length e, length_push (P.log x) m)))
    (cases_eq x y)
  where
    same : x ≡ y → m ≡ n → Publishes x m P P'
    same is mn = subst (λ z. Publishes z m P P') (sym is) (subst (λ a. Publishes y a P P') (sym mn) k)
publishes_of P P' x m (rest k) e = absurd (same_log P P' x m k.logs e)
publishes_of P P' x m (grow y k) e = absurd (same_log P P' x m k.logs e)
publishes_of P P' x m (join y k) e = absurd (same_log P P' x m k.logs e)
publishes_of P P' x m (leave y k) e = absurd (same_log P P' x m k.logs e)
publishes_of P P' x m (see k) e = absurd (same_log P P' x m k.logs e)
publishes_of P P' x m (elect y k) e = absurd (same_log P P' x m k.logs e)
publishes_of P P' x m (enter n y k) e = absurd (same_log P P' x m k.logs e)
publishes_of P P' x m (finish y k) e = absurd (same_log P P' x m k.logs e)

-- where a member's phase has changed otherwise than by its coming, what is received stays
pub same_got_of : (P P' : Part) (y : ℕ) → Move P P' → P'.phase y ≢ P.phase y → P'.phase y ≢ Waiting → SameGot P P'
same_got_of P P' y (rest k) d w = absurd (d (k.phases.phase y))
same_got_of P P' y (publish x m k) d w = absurd (d (k.phases.phase y))
same_got_of P P' y (grow x k) d w = absurd (d (k.phases.phase y))
same_got_of P P' y (join x k) d w = k.got
same_got_of P P' y (leave x k) d w = k.got
same_got_of P P' y (see k) d w = absurd (d (k.phases.phase y))
same_got_of P P' y (elect x k) d w = absurd (d (k.phases.phase y))
same_got_of P P' y (enter n x k) d w = ⊎_elim
    (λ (is : y ≡ n). absurd (w (ap P'.phase is ∙ k.phase)))
    (λ (ne : y ≢ n). absurd (d (k.others_phase y ne)))
    (cases_eq y n)
same_got_of P P' y (finish x k) d w = absurd (d (k.phases.phase y))

-- where it has come, it is admitted
pub enters_of : (P P' : Part) (n : ℕ) → Move P P' → P.phase n ≡ Stopped → P'.phase n ≡ Waiting → (x : ℕ) × Enters n x P P'
enters_of P P' n (rest k) a b = absurd (let bad : Stopped ≡ Waiting = sym a ∙ sym (k.phases.phase n) ∙ b in cc)
enters_of P P' n (publish x m k) a b = absurd (let bad : Stopped ≡ Waiting = sym a ∙ sym (k.phases.phase n) ∙ b in cc)
enters_of P P' n (grow x k) a b = absurd (let bad : Stopped ≡ Waiting = sym a ∙ sym (k.phases.phase n) ∙ b in cc)
enters_of P P' n (join y k) a b = ⊎_elim
    (λ (is : n ≡ y). absurd (let bad : Up ≡ Waiting = sym k.phase ∙ ap P'.phase (sym is) ∙ b in cc))
    (λ (ne : n ≢ y). absurd (let bad : Stopped ≡ Waiting = sym a ∙ sym (k.others_phase n ne) ∙ b in cc))
    (cases_eq n y)
enters_of P P' n (leave y k) a b = ⊎_elim
    (λ (is : n ≡ y). absurd (let bad : Stopped ≡ Waiting = sym k.phase ∙ ap P'.phase (sym is) ∙ b in cc))
    (λ (ne : n ≢ y). absurd (let bad : Stopped ≡ Waiting = sym a ∙ sym (k.others_phase n ne) ∙ b in cc))
    (cases_eq n y)
enters_of P P' n (see k) a b = absurd (let bad : Stopped ≡ Waiting = sym a ∙ sym (k.phases.phase n) ∙ b in cc)
enters_of P P' n (elect x k) a b = absurd (let bad : Stopped ≡ Waiting = sym a ∙ sym (k.phases.phase n) ∙ b in cc)
enters_of P P' n (enter m x k) a b = ⊎_elim
    (λ (is : n ≡ m). (x, subst (λ z. Enters z x P P') (sym is) k))
    (λ (ne : n ≢ m). absurd (let bad : Stopped ≡ Waiting = sym a ∙ sym (k.others_phase n ne) ∙ b in cc))
    (cases_eq n m)
enters_of P P' n (finish x k) a b = absurd (let bad : Stopped ≡ Waiting = sym a ∙ sym (k.phases.phase n) ∙ b in cc)
