-- A link that opens begins a new period at its receiver.
use Rattle.std.proofs.Common.{◌≡◌, ◌≢◌, ℕ, ◌<◌, ◌≤◌, Bool, true, false, cond, List, [], ◌∷◌, length, refl, sym, ap, subst, ◌∙◌, arith, Some, ⊎_elim}
use Rattle.std.specs.List.{filter}
use Rattle.std.proofs.lemmas.Bool.{cases_lt}
use Rattle.ring_rules.specs.View.{ids, is_live}
use Rattle.group_view.specs.Ring.{others, first_or, is_in}
use Rattle.ring_rules.specs.Machine.{World, Link, member_at, link_at, view_in, newest, left, right, runs, is_kept}
use Rattle.ring_rules.proofs.invariants.Good.{Kept, IsRing, IsLinked, true_kept}
use Rattle.ring_rules.proofs.walks.Views.{right_in_view}
use Rattle.group_view.proofs.Passing.{live_in}

-- entries stay, and a mark is never taken back
pub record IsHistory (w : World) : Type 0 where
  pub grows : (z u v : ℕ) → is_in z (ids (view_in w u)) ≡ true → u ≤ v → v ≤ newest w → is_in z (ids (view_in w v)) ≡ true
  pub dies : (z u v : ℕ) → is_in z (ids (view_in w u)) ≡ true → u ≤ v → v ≤ newest w → is_live (view_in w v) z ≡ true → is_live (view_in w u) z ≡ true
  pub known : (s : ℕ) → s < length w.links → is_in (link_at w s).receiver (ids (view_in w (link_at w s).opened)) ≡ true

pub first_passes : (t : ℕ → Bool) (d : ℕ) (xs : List ℕ) → t d ≡ true → t (first_or d (filter t xs)) ≡ true
first_passes t d [] h = h
first_passes t d (x ∷ xs) h = by_case (t x) refl (first_passes t d xs h)
  where
    by_case : (b : Bool) → t x ≡ b → t (first_or d (filter t xs)) ≡ true → t (first_or d (cond b (x ∷ filter t xs) (filter t xs))) ≡ true
    by_case true e ih = e
    by_case false e ih = ih

pub right_lives : (w : World) (v x : ℕ) → is_live (view_in w v) x ≡ true → is_live (view_in w v) (right w v x) ≡ true
right_lives w v x h = subst (λ z. is_live (view_in w v) z ≡ true) (sym (right_in_view w v x (live_in (view_in w v).entries x h))) (first_passes (is_live (view_in w v)) x (others x (ids (view_in w v))) h)

-- x refreshes to v, and its out link, if any, doesn't go to its right neighbour there: no link to that one is kept up to v
pub opens_period : (w : World) (x v s : ℕ) → IsRing w → IsLinked w → IsHistory w → runs w x ≡ true → (member_at w x).version ≤ v → v ≤ newest w → ((o : ℕ) → (member_at w x).out ≡ Some o → (link_at w o).receiver ≢ right w v x) → s < length w.links → (link_at w s).receiver ≡ right w v x → is_kept w (link_at w s) v ≡ false
opens_period w x v s hr hl hh rx le lt moves sl receiver = by_test (is_kept w (link_at w s) v) refl
  where
    l : Link
    l = link_at w s

    z : ℕ
    z = right w v x

    -- its sender is x
    is_mine : (u : ℕ) → v ≤ u → u ≤ newest w → left w u l.receiver ≡ l.sender → l.sender ≡ x
    is_mine u a b e = sym e ∙ ap (left w u) receiver ∙ hr.front x v u rx le a b

    absurd_of : Kept w l v → l.opened ≤ v → ⊥
    absurd_of k ov =
        let mine : l.sender ≡ x = is_mine v (omega arith) lt (k v ov (omega arith)) in
        let seen : l.opened ≤ (member_at w x).version = subst (λ q. l.opened ≤ (member_at w q).version) mine (hl.seen s sl) in
        let here : is_in z (ids (view_in w (member_at w x).version)) ≡ true = subst (λ q. is_in q (ids (view_in w (member_at w x).version)) ≡ true) receiver (hh.grows l.receiver l.opened (member_at w x).version (hh.known s sl) seen (hr.held x)) in
        let live : is_live (view_in w (member_at w x).version) z ≡ true = hh.dies z (member_at w x).version v here le lt (right_lives w v x (hr.lives x v rx le lt)) in
        let out : (member_at w l.sender).out ≡ Some s =
        hl.is_out s sl (subst (λ q. runs w q ≡ true) (sym mine) rx)
        (λ u a b. k u a (omega (arith, subst (λ q. u ≤ (member_at w q).version) mine b)))
        (subst (λ q. is_live (view_in w (member_at w q).version) l.receiver ≡ true) (sym mine) (subst (λ q. is_live (view_in w (member_at w x).version) q ≡ true) (sym receiver) live)) in
        moves s (subst (λ q. (member_at w q).out ≡ Some s) mine out) receiver

    late_of : v < l.opened → ⊥
    late_of ov =
        let mine : l.sender ≡ x = is_mine l.opened (omega arith) (hl.opened s sl) (hl.from_left s sl) in
        let seen : l.opened ≤ (member_at w x).version = subst (λ q. l.opened ≤ (member_at w q).version) mine (hl.seen s sl) in
        omega arith

    by_test : (b : Bool) → is_kept w l v ≡ b → b ≡ false
    by_test false e = refl
    by_test true e = ⊎_elim (λ (a : v < l.opened). absurd (late_of a)) (λ (b : l.opened ≤ v). absurd (absurd_of (true_kept w l v e) b)) (cases_lt v l.opened)
