-- A dead origin whose numbers agree from neighbour to neighbour may be erased by its owner.
use Rattle.ring_rules.proofs.events.Refusals.{cond_or}
use Rattle.ring_rules.proofs.invariants.Good.{stands_now, lives_now}
use Rattle.std.proofs.Common.{◌≡◌, ◌≢◌, ℕ, ◌<◌, Bool, true, false, cond, nat_eq, List, [], ◌∷◌, Some, None, refl, sym, ap, subst, ◌∙◌, arith}
use Rattle.std.specs.Prelude.{◌||◌, ◌&&◌}
use Rattle.std.specs.List.{filter}
use Rattle.std.proofs.lemmas.Bool.{false≢true}
use Rattle.group_view.specs.Ring.{is_in, AreDistinct, first, rotated, left_in}
use Rattle.group_view.specs.View.{is_dead, is_alias, owns, owner_of, found_is}
use Rattle.group_view.proofs.Rings.{is_in-rotated, distinct_others}
use Rattle.group_view.proofs.Neighbours.{IsLeft, itself, other, left_is_left}
use Rattle.group_view.proofs.Arcs.{owner_is}
use Rattle.ring_rules.specs.View.{is_live, between}
use Rattle.ring_rules.specs.Machine.{Up, World, member_at, view_in, newest, ring, left, runs}
use Rattle.ring_rules.specs.Step.{size, is_owned}
use Rattle.ring_rules.specs.Event.{Erase, id_of, erase_refusal, refusal}
use Rattle.ring_rules.specs.Lawful.{row_of}
use Rattle.ring_rules.specs.Compact.{low, low_forgot}
use Rattle.ring_rules.proofs.rings.Rounds.{nat_eq-is, nat_eq-same, nat_eq-not}
use Rattle.ring_rules.proofs.walks.Views.{left_is, left_in_view}
use Rattle.ring_rules.proofs.invariants.Kept.{Inv}
use Rattle.ring_rules.proofs.rests.Round.{round_same}

-- what y has is what its left neighbour in the newest view has; for whom y answers, it has come round
pub record IsEven (w : World) (y p : ℕ) : Type 0 where
  pub got : low (is_owned (view_in w (newest w)) y (left w (newest w) y) p) (row_of w y p) ≡ (row_of w (left w (newest w) y) p).got
  pub forgot : low_forgot (is_owned (view_in w (newest w)) y (left w (newest w) y) p) (row_of w y p) ≡ (row_of w (left w (newest w) y) p).forgot

-- who runs is up
abbrev pub RunnersAreUp : World → Type 0
RunnersAreUp w = (y : ℕ) → runs w y ≡ true → (member_at w y).phase ≡ Up

-- each running member is even with its left neighbour, where that one runs
abbrev pub NeighboursAreEven : World → Type 0
NeighboursAreEven w = (y p : ℕ) → runs w y ≡ true → runs w (left w (newest w) y) ≡ true → p < size w → IsEven w y p

-- every live entry runs; who runs is up, has the newest view, and is even with its left neighbour
pub record HasCalmed (w : World) : Type 0 where
  pub lives : (y : ℕ) → is_live (view_in w (newest w)) y ≡ true → runs w y ≡ true
  pub up : RunnersAreUp w
  pub has : (y : ℕ) → runs w y ≡ true → (member_at w y).version ≡ newest w
  pub even : NeighboursAreEven w

-- ---- the first live one of a list

record IsFirst (live : ℕ → Bool) (xs : List ℕ) : Type 0 where
  pub one : ℕ
  pub is : first (filter live xs) ≡ Some one
  pub lives : live one ≡ true
  pub there : is_in one xs ≡ true

first_live : (live : ℕ → Bool) (y : ℕ) (xs : List ℕ) → is_in y xs ≡ true → live y ≡ true → IsFirst live xs
first_live live y [] i l = absurd (false≢true i)
first_live live y (x ∷ xs) i l = by_test (live x) refl (λ k. first_live live y xs k l)
  where
    later : (b : Bool) → nat_eq y x ≡ b → live x ≡ false → cond b true (is_in y xs) ≡ true → is_in y xs ≡ true
    later true e dead k = absurd (false≢true (sym dead ∙ ap live (sym (nat_eq-is y x e)) ∙ l))
    later false e dead k = k

    behind : (b : Bool) → (q : ℕ) → is_in q xs ≡ true → cond b true (is_in q xs) ≡ true
    behind true q k = refl
    behind false q k = k

    by_test : (b : Bool) → live x ≡ b → (is_in y xs ≡ true → IsFirst live xs) → IsFirst live (x ∷ xs)
    by_test true e ih = record { one = x; is = rw e refl; lives = e; there = rw (nat_eq-same x) refl }
    by_test false e ih =
        let k : IsFirst live xs = ih (later (nat_eq y x) refl e i) in
        record { one = k.one; is = rw e k.is; lives = k.lives; there = behind (nat_eq k.one x) k.one k.there }

module _ (w : World) (h : Inv w) (calm : HasCalmed w) where
  distinct : AreDistinct (ring w)
  distinct = h.is_ring.distinct (newest w) (omega arith)

  left_in_is : (y : ℕ) → runs w y ≡ true → left w (newest w) y ≡ left_in (is_live (view_in w (newest w))) y (ring w)
  left_in_is y ry = left_in_view w (newest w) y (stands_now w h.is_ring y ry)

  -- the left neighbour of a running member is live, and runs
  left_lives : (y : ℕ) → runs w y ≡ true → (is_in (left w (newest w) y) (ring w) ≡ true) × (is_live (view_in w (newest w)) (left w (newest w) y) ≡ true)
  left_lives y ry = by_left (left_is_left (is_live (view_in w (newest w))) (left w (newest w) y) y (ring w) (distinct_others y (ring w) distinct (stands_now w h.is_ring y ry)) (stands_now w h.is_ring y ry) (sym (left_in_is y ry)))
    where
      by_left : IsLeft (is_live (view_in w (newest w))) (left w (newest w) y) y (ring w) → (is_in (left w (newest w) y) (ring w) ≡ true) × (is_live (view_in w (newest w)) (left w (newest w) y) ≡ true)
      by_left (itself e) = (ap (λ q. is_in q (ring w)) e ∙ stands_now w h.is_ring y ry, ap (is_live (view_in w (newest w))) e ∙ lives_now w h.is_ring y ry)
      by_left (other l i) = (i, l)

  left_runs : (y : ℕ) → runs w y ≡ true → runs w (left w (newest w) y) ≡ true
  left_runs y ry = calm.lives (left w (newest w) y) (left_lives y ry).1

  -- a running member answers for an origin against its left neighbour just where it is the origin's owner
  owned_is : (y p : ℕ) → runs w y ≡ true → is_in p (ring w) ≡ true → is_owned (view_in w (newest w)) y (left w (newest w) y) p ≡ found_is (owner_of (view_in w (newest w)).entries p) y
  owned_is y p ry ip =
      let es = (view_in w (newest w)).entries in
      cond_or (nat_eq p y) (is_in p (between (view_in w (newest w)) (left w (newest w) y) y))
      ∙ ap (λ s. nat_eq p y || is_in p (between (view_in w (newest w)) s y)) (left_is w (newest w) y (view_in w (newest w)) refl)
      ∙ sym (owner_is es y p distinct (lives_now w h.is_ring y ry) ip)

  -- the owner of an origin, where anybody runs
  pub record HasOwner (p : ℕ) : Type 0 where
    pub one : ℕ
    pub is : owner_of (view_in w (newest w)).entries p ≡ Some one
    pub runs_on : runs w one ≡ true

  pub owner_there : (y p : ℕ) → runs w y ≡ true → HasOwner p
  owner_there y p ry =
      let k : IsFirst (is_live (view_in w (newest w))) (rotated p (ring w)) = first_live (is_live (view_in w (newest w))) y (rotated p (ring w)) (is_in-rotated y p (ring w) ∙ stands_now w h.is_ring y ry) (lives_now w h.is_ring y ry) in
      record { one = k.one; is = k.is; runs_on = calm.lives k.one k.lives }

  module _ (p : ℕ) (pl : p < size w) (ip : is_in p (ring w) ≡ true) (o : HasOwner p) where
    abbrev x : ℕ
    x = o.one

    owns_is : (y : ℕ) → runs w y ≡ true → is_owned (view_in w (newest w)) y (left w (newest w) y) p ≡ nat_eq x y
    owns_is y ry = owned_is y p ry ip ∙ ap (λ a. found_is a y) o.is

    same_got : (y : ℕ) → is_in y (ring w) ≡ true → is_live (view_in w (newest w)) y ≡ true → y ≢ x → (row_of w y p).got ≡ (row_of w (left_in (is_live (view_in w (newest w))) y (ring w)) p).got
    same_got y iy ly ne =
        let ry : runs w y ≡ true = calm.lives y ly in
        subst (λ b. low b (row_of w y p) ≡ (row_of w (left w (newest w) y) p).got) (owns_is y ry ∙ nat_eq-not x y (λ e. ne (sym e))) (calm.even y p ry (left_runs y ry) pl).got ∙ ap (λ q. (row_of w q p).got) (left_in_is y ry)

    same_forgot : (y : ℕ) → is_in y (ring w) ≡ true → is_live (view_in w (newest w)) y ≡ true → y ≢ x → (row_of w y p).forgot ≡ (row_of w (left_in (is_live (view_in w (newest w))) y (ring w)) p).forgot
    same_forgot y iy ly ne =
        let ry : runs w y ≡ true = calm.lives y ly in
        subst (λ b. low_forgot b (row_of w y p) ≡ (row_of w (left w (newest w) y) p).forgot) (owns_is y ry ∙ nat_eq-not x y (λ e. ne (sym e))) (calm.even y p ry (left_runs y ry) pl).forgot ∙ ap (λ q. (row_of w q p).forgot) (left_in_is y ry)

    -- all that the owner has got has come round to it, and the acknowledgement too
    pub has_come_round : (row_of w x p).got ≡ (row_of w x p).retired
    has_come_round =
        let v = view_in w (newest w) in
        let rx : runs w x ≡ true = o.runs_on in
        let z : ℕ = left w (newest w) x in
        let there = left_lives x rx in
        let got : (row_of w z p).got ≡ (row_of w x p).got = round_same (is_live v) x (ring w) (λ k. (row_of w k p).got) distinct (stands_now w h.is_ring x rx) (lives_now w h.is_ring x rx) same_got z there.0 there.1 in
        let forgot : (row_of w z p).forgot ≡ (row_of w x p).forgot = round_same (is_live v) x (ring w) (λ k. (row_of w k p).forgot) distinct (stands_now w h.is_ring x rx) (lives_now w h.is_ring x rx) same_forgot z there.0 there.1 in
        let even : IsEven w x p = calm.even x p rx (left_runs x rx) pl in
        let own : is_owned v x z p ≡ true = owns_is x rx ∙ nat_eq-same x in
        let once : (row_of w x p).forgot ≡ (row_of w z p).got = subst (λ b. low b (row_of w x p) ≡ (row_of w z p).got) own even.got in
        let twice : (row_of w x p).retired ≡ (row_of w z p).forgot = subst (λ b. low_forgot b (row_of w x p) ≡ (row_of w z p).forgot) own even.forgot in
        sym (twice ∙ forgot ∙ once ∙ got)

    -- so it may be erased
    pub may_erase : is_dead (view_in w (newest w)).entries p ≡ true → erase_refusal w x p ≡ None
    may_erase dead =
        let es = (view_in w (newest w)).entries in
        let owner : owns es x p ≡ true = ap (λ a. found_is a x) o.is ∙ nat_eq-same x in
        let alias : is_alias (view_in w (member_at w x).version).entries x p ≡ true = ap (λ u. is_alias (view_in w u).entries x p) (calm.has x o.runs_on) ∙ ap (λ b. b && owns es x p) dead ∙ owner in
        let all : nat_eq (row_of w x p).got (row_of w x p).retired ≡ true = ap (λ n. nat_eq n (row_of w x p).retired) has_come_round ∙ nat_eq-same (row_of w x p).retired in
        rw (dead, alias, all) refl

-- in a ring that has calmed down, where anybody runs, each dead origin has an owner that may erase it
pub record IsErasable (w : World) (p : ℕ) : Type 0 where
  pub owner : ℕ
  pub runs_on : runs w owner ≡ true
  pub may : (by dead : List ℕ) → id_of w by ≡ Some owner → id_of w dead ≡ Some p → refusal w (Erase by dead) ≡ None
