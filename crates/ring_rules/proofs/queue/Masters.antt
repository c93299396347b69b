-- The masters of views, with one view more.
use Rattle.std.proofs.Common.{◌≡◌, ℕ, zero, suc, ◌<◌, ◌+◌, ◌-◌, Bool, true, false, cond, nat_lt, List, [], ◌∷◌, ◌++◌, length, take, get_or, refl, sym, ap, ◌∙◌, arith, Option, Some, None}
use Rattle.std.proofs.lemmas.Bool.{lt-ltb, le-ltb}
use Rattle.std.proofs.lemmas.List.{length_push, take_at, get_or_push}
use Rattle.ring_names.specs.declared.numbers.MemberId.{MemberId}
use Rattle.group_view.specs.View.{Group}
use Rattle.ring_rules.specs.Masters.{led_by, masters_after, top, masters_of, earlier_of, last_of}

pub masters_push : (t : ℕ) (vs : List Group) (v : Group) → masters_after t (vs ++ v ∷ []) ≡ masters_after t vs ++ cond (nat_lt (top t vs) v.term) (led_by v.master ++ []) []
masters_push t [] v = refl
masters_push t (u ∷ vs) v = by_case (nat_lt t u.term) (masters_push u.term vs v) (masters_push t vs v)
  where
    behind : (o : Option MemberId) (xs ys : List ℕ) → led_by o ++ (xs ++ ys) ≡ (led_by o ++ xs) ++ ys
    behind None xs ys = refl
    behind (Some id) xs ys = refl

    by_case : (b : Bool) → masters_after u.term (vs ++ v ∷ []) ≡ masters_after u.term vs ++ cond (nat_lt (top u.term vs) v.term) (led_by v.master ++ []) []
        → masters_after t (vs ++ v ∷ []) ≡ masters_after t vs ++ cond (nat_lt (top t vs) v.term) (led_by v.master ++ []) []
        → cond b (led_by u.master ++ masters_after u.term (vs ++ v ∷ [])) (masters_after t (vs ++ v ∷ []))
        ≡ cond b (led_by u.master ++ masters_after u.term vs) (masters_after t vs) ++ cond (nat_lt (cond b (top u.term vs) (top t vs)) v.term) (led_by v.master ++ []) []
    by_case true a b = ap (λ xs. led_by u.master ++ xs) a ∙ behind u.master (masters_after u.term vs) _
    by_case false a b = b

pub top_push : (t : ℕ) (vs : List Group) (v : Group) → top t (vs ++ v ∷ []) ≡ cond (nat_lt (top t vs) v.term) v.term (top t vs)
top_push t [] v = refl
top_push t (u ∷ vs) v = by_case (nat_lt t u.term) (top_push u.term vs v) (top_push t vs v)
  where
    by_case : (b : Bool) → top u.term (vs ++ v ∷ []) ≡ cond (nat_lt (top u.term vs) v.term) v.term (top u.term vs) → top t (vs ++ v ∷ []) ≡ cond (nat_lt (top t vs) v.term) v.term (top t vs) → cond b (top u.term (vs ++ v ∷ [])) (top t (vs ++ v ∷ [])) ≡ cond (nat_lt (cond b (top u.term vs) (top t vs)) v.term) v.term (cond b (top u.term vs) (top t vs))
    by_case true a b = a
    by_case false a b = b

-- a view of the same term has no new master
pub same_top : (vs : List Group) (v : Group) → v.term ≡ top 0 vs → (masters_of (vs ++ v ∷ []) ≡ masters_of vs) × (top 0 (vs ++ v ∷ []) ≡ v.term)
same_top vs v e =
    let no : nat_lt (top 0 vs) v.term ≡ false = le-ltb (top 0 vs) v.term (omega (arith, e)) in
    (masters_push 0 vs v ∙ rw no (append_none (masters_of vs)), top_push 0 vs v ∙ rw no (sym e))
  where
    append_none : (xs : List ℕ) → xs ++ [] ≡ xs
    append_none [] = refl
    append_none (x ∷ xs) = ap (λ ys. x ∷ ys) (append_none xs)

-- one of a higher term has one
pub next_top : (vs : List Group) (v : Group) (id : MemberId) → top 0 vs < v.term → v.master ≡ Some id → (masters_of (vs ++ v ∷ []) ≡ masters_of vs ++ id.0 ∷ []) × (top 0 (vs ++ v ∷ []) ≡ v.term)
next_top vs v id lt e =
    let yes : nat_lt (top 0 vs) v.term ≡ true = lt-ltb (top 0 vs) v.term lt in
    (masters_push 0 vs v ∙ rw yes (ap (λ o. masters_of vs ++ (led_by o ++ [])) e), top_push 0 vs v ∙ rw yes refl)

-- ---- the last of them

pub earlier_push : (ms : List ℕ) (m : ℕ) → earlier_of (ms ++ m ∷ []) ≡ ms
earlier_push ms m = take_at ms (m ∷ []) (length (ms ++ m ∷ []) - 1) (omega (arith, length_push ms m))

pub last_push : (ms : List ℕ) (m : ℕ) → last_of (ms ++ m ∷ []) ≡ m
last_push ms m = get_or_push ms m 0 (length (ms ++ m ∷ []) - 1) (omega (arith, length_push ms m))

cut_last : (ms : List ℕ) (n : ℕ) → length ms ≡ n + 1 → take n ms ++ get_or ms n 0 ∷ [] ≡ ms
cut_last [] n e = absurd (omega (arith, e))
cut_last (m ∷ []) zero e = refl
cut_last (m ∷ (k ∷ ms)) zero e = absurd (omega (arith, e))
cut_last (m ∷ ms) (suc n) e = ap (λ xs. m ∷ xs) (cut_last ms n (omega (arith, e)))

pub earlier_last : (ms : List ℕ) → 0 < length ms → earlier_of ms ++ last_of ms ∷ [] ≡ ms
earlier_last [] some = absurd (omega arith)
earlier_last (m ∷ ms) some = cut_last (m ∷ ms) (length (m ∷ ms) - 1) (omega arith)
