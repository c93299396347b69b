-- Lists of entries, the ids that they show, and the parts into which they are cut.
use Rattle.std.proofs.Common.{◌≡◌, ℕ, zero, suc, ◌+◌, Bool, true, false, cond, not, List, [], ◌∷◌, ◌++◌, length, ◌<◌, ◌≤◌, ◌-◌, take, drop, get_or, add-one, nat_lt, drop-cons, refl, sym, ap, ◌∙◌, arith, nat_eq, Option, Some, None}
use Rattle.std.specs.Prelude.{unwrap_or, option_map, is_some, reverse}
use Rattle.std.specs.Option.{option_or}
use Rattle.std.specs.List.{filter, prefix_len}
use Rattle.std.proofs.lemmas.Bool.{false≢true, ltb-true}
use Rattle.std.proofs.lemmas.List.{append-nil, map-append, reverse-append}
use Rattle.std.proofs.lemmas.List.Elements.{filter-append, filter_more}
use Rattle.std.proofs.lemmas.Bool.Decides.{nat_tests}
use Rattle.ring_names.specs.declared.numbers.MemberId.{MemberId}
use Rattle.group_view.specs.declared.entry.Entry.{Entry}
use Rattle.group_view.specs.Ring.{is_in, AreDistinct, before, from, after, others, rotated, last_or, first_or, first}
use Rattle.group_view.specs.View.{ids, number, entry_in, is_live, is_live_mark}
use Rattle.group_view.specs.Parts.{place_of, live_ids, last, comes_before, mark_in, AreFound}
use Rattle.group_view.proofs.Rings.{nat_eq-same, sym_test}
use Rattle.group_view.proofs.Neighbours.{last_or-append}

-- ---- the cut at an id

pub ids-take : (es : List Entry) (p : ℕ) → ids (take (place_of es p) es) ≡ before p (ids es)
ids-take [] p = refl
ids-take (e ∷ es) p = by_case (nat_eq e.id.0 p) (ids-take es p)
  where
    by_case : (b : Bool) → ids (take (place_of es p) es) ≡ before p (ids es) → ids (take (cond (not b) (1 + place_of es p) 0) (e ∷ es)) ≡ cond b [] (e.id.0 ∷ before p (ids es))
    by_case true h = refl
    by_case false h =
        let one : 1 + place_of es p ≡ suc (place_of es p) = omega arith in
        ap (λ n. ids (take n (e ∷ es))) one ∙ ap (λ us. e.id.0 ∷ us) h

pub ids-drop : (es : List Entry) (p : ℕ) → ids (drop (place_of es p) es) ≡ from p (ids es)
ids-drop [] p = refl
ids-drop (e ∷ es) p = by_case (nat_eq e.id.0 p) (ids-drop es p)
  where
    by_case : (b : Bool) → ids (drop (place_of es p) es) ≡ from p (ids es) → ids (drop (cond (not b) (1 + place_of es p) 0) (e ∷ es)) ≡ cond b (e.id.0 ∷ ids es) (from p (ids es))
    by_case true h = refl
    by_case false h =
        let one : 1 + place_of es p ≡ suc (place_of es p) = omega arith in
        ap (λ n. ids (drop n (e ∷ es))) one ∙ h

-- nothing stands from p on: p isn't there
pub from_nothing : (p : ℕ) (xs : List ℕ) → from p xs ≡ [] → is_in p xs ≡ false
from_nothing p [] h = refl
from_nothing p (x ∷ xs) h = by_case (nat_eq x p) refl h (λ k. from_nothing p xs k)
  where
    by_case : (b : Bool) → nat_eq x p ≡ b → cond b (x ∷ xs) (from p xs) ≡ [] → (from p xs ≡ [] → is_in p xs ≡ false) → cond (nat_eq p x) true (is_in p xs) ≡ false
    by_case true e k ih = cc
    by_case false e k ih = rw (sym_test x p false e) (ih k)

-- what stands from p on is p, and then those after it
pub record FromIs (p y : ℕ) (ys xs : List ℕ) : Type 0 where
  pub inside : is_in p xs ≡ true
  pub rest : after p xs ≡ ys

pub from_some : (p y : ℕ) (ys xs : List ℕ) → from p xs ≡ y ∷ ys → FromIs p y ys xs
from_some p y ys [] h = cc
from_some p y ys (x ∷ xs) h = by_case (nat_eq x p) refl h (λ k. from_some p y ys xs k)
  where
    by_case : (b : Bool) → nat_eq x p ≡ b → cond b (x ∷ xs) (from p xs) ≡ y ∷ ys → (from p xs ≡ y ∷ ys → FromIs p y ys xs) → FromIs p y ys (x ∷ xs)
    by_case true e k ih = record { inside = rw (sym_test x p true e) refl; rest = rw e (cc k) }
    by_case false e k ih = let r : FromIs p y ys xs = ih k in record { inside = rw (sym_test x p false e) r.inside; rest = rw e r.rest }

-- ---- entries are what their ids stand for

pub found_more : (e : Entry) (es xs : List Entry) → is_in e.id.0 (ids xs) ≡ false → AreFound es xs → AreFound (e ∷ es) xs
found_more e es [] h k = tt
found_more e es (x ∷ xs) h k = by_case (nat_eq e.id.0 x.id.0) refl h (λ j. found_more e es xs j k.1)
  where
    by_case : (b : Bool) → nat_eq e.id.0 x.id.0 ≡ b → cond b true (is_in e.id.0 (ids xs)) ≡ false → (is_in e.id.0 (ids xs) ≡ false → AreFound (e ∷ es) xs) → AreFound (e ∷ es) (x ∷ xs)
    by_case true q j ih = absurd (false≢true (sym j))
    by_case false q j ih = (rw q k.0, ih j)

-- where no id stands twice, all are
pub found_own : (es : List Entry) → AreDistinct (ids es) → AreFound es es
found_own [] d = tt
found_own (e ∷ es) d = (rw (nat_eq-same e.id.0) refl, found_more e es es d.0 (found_own es d.1))

pub found_take : (es : List Entry) (n : ℕ) (xs : List Entry) → AreFound es xs → AreFound es (take n xs)
found_take es zero xs h = tt
found_take es (suc n) [] h = tt
found_take es (suc n) (x ∷ xs) h = (h.0, found_take es n xs h.1)

pub found_drop : (es : List Entry) (n : ℕ) (xs : List Entry) → AreFound es xs → AreFound es (drop n xs)
found_drop es zero xs h = h
found_drop es (suc n) [] h = tt
found_drop es (suc n) (x ∷ xs) h = found_drop es n xs h.1

-- the live ids of a part, by what the whole says
pub live_part : (es xs : List Entry) → AreFound es xs → filter (is_live es) (ids xs) ≡ live_ids xs
live_part es [] h = refl
live_part es (x ∷ xs) h =
    ap (λ e. cond (is_live_mark e.mark) (x.id.0 ∷ filter (is_live es) (ids xs)) (filter (is_live es) (ids xs))) h.0
    ∙ by_case (is_live_mark x.mark) (live_part es xs h.1)
  where
    by_case : (b : Bool) → filter (is_live es) (ids xs) ≡ live_ids xs → cond b (x.id.0 ∷ filter (is_live es) (ids xs)) (filter (is_live es) (ids xs)) ≡ ids (cond b (x ∷ filter (λ e. is_live_mark e.mark) xs) (filter (λ e. is_live_mark e.mark) xs))
    by_case true k = ap (λ us. x.id.0 ∷ us) k
    by_case false k = k

-- ---- the nearest of two parts

pub nearest_left : (a b : Option MemberId) (us vs : List ℕ) (id : MemberId) → option_map number a ≡ last us → option_map number b ≡ last vs → (unwrap_or (option_or a b) id).0 ≡ last_or id.0 (vs ++ us)
nearest_left (Some m) b [] vs id ha hb = cc
nearest_left (Some m) b (u ∷ us) vs id ha hb = let is : m.0 ≡ last_or u us = cc in is ∙ sym (last_or-append id.0 vs (u ∷ us))
nearest_left None (Some m) [] [] id ha hb = cc
nearest_left None (Some m) [] (v ∷ vs) id ha hb = let is : m.0 ≡ last_or v vs = cc in is ∙ sym (last_or-append id.0 (v ∷ vs) [])
nearest_left None (Some m) (u ∷ us) vs id ha hb = cc
nearest_left None None [] [] id ha hb = refl
nearest_left None None [] (v ∷ vs) id ha hb = cc
nearest_left None None (u ∷ us) vs id ha hb = cc

pub nearest_right : (a b : Option MemberId) (us vs : List ℕ) (id : MemberId) → option_map number a ≡ first us → option_map number b ≡ first vs → (unwrap_or (option_or a b) id).0 ≡ first_or id.0 (us ++ vs)
nearest_right (Some m) b [] vs id ha hb = cc
nearest_right (Some m) b (u ∷ us) vs id ha hb = cc
nearest_right None (Some m) [] [] id ha hb = cc
nearest_right None (Some m) [] (v ∷ vs) id ha hb = cc
nearest_right None (Some m) (u ∷ us) vs id ha hb = cc
nearest_right None None [] [] id ha hb = refl
nearest_right None None [] (v ∷ vs) id ha hb = cc
nearest_right None None (u ∷ us) vs id ha hb = cc

pub nearest_owner : (a b : Option MemberId) (us vs : List ℕ) → option_map number a ≡ first us → option_map number b ≡ first vs → option_map number (option_or a b) ≡ first (us ++ vs)
nearest_owner (Some m) b [] vs ha hb = cc
nearest_owner (Some m) b (u ∷ us) vs ha hb = cc
nearest_owner None b [] vs ha hb = hb
nearest_owner None b (u ∷ us) vs ha hb = cc

-- ---- places

pub place-length : {X : Type 0} (p : X → Bool) (xs : List X) → prefix_len p xs ≤ length xs
place-length p [] = omega arith
place-length p (x ∷ xs) = by_case (p x) (place-length p xs)
  where
    by_case : (b : Bool) → prefix_len p xs ≤ length xs → cond b (1 + prefix_len p xs) 0 ≤ length (x ∷ xs)
    by_case true h = omega arith
    by_case false h = omega arith

one_more : (m n : ℕ) → nat_lt (1 + m) (suc n) ≡ nat_lt m n
one_more m n = grind (arith, nat_tests)

first_lt : (n : ℕ) → nat_lt 0 (suc n) ≡ true
first_lt n = grind (arith, nat_tests)

-- an id has a place exactly where it is in the list
pub place_in : (es : List Entry) (p : ℕ) → nat_lt (place_of es p) (length es) ≡ is_in p (ids es)
place_in [] p = refl
place_in (e ∷ es) p = by_case (nat_eq e.id.0 p) refl (place_in es p)
  where
    by_case : (b : Bool) → nat_eq e.id.0 p ≡ b → nat_lt (place_of es p) (length es) ≡ is_in p (ids es) → nat_lt (cond (not b) (1 + place_of es p) 0) (suc (length es)) ≡ cond (nat_eq p e.id.0) true (is_in p (ids es))
    by_case true q h = first_lt (length es) ∙ rw (sym_test e.id.0 p true q) refl
    by_case false q h = one_more (place_of es p) (length es) ∙ h ∙ rw (sym_test e.id.0 p false q) refl

pub place_inside : (es : List Entry) (p : ℕ) → is_in p (ids es) ≡ true → place_of es p < length es
place_inside es p h = ltb-true (place_of es p) (length es) (place_in es p ∙ h)

pub found_some : (b : Bool) (n : ℕ) → is_some (cond b (Some n) None) ≡ b
found_some true n = refl
found_some false n = refl

-- those after an id
pub ids-drop_more : (es : List Entry) (p : ℕ) → ids (drop (place_of es p + 1) es) ≡ after p (ids es)
ids-drop_more [] p = ap (λ n. ids (drop n [])) (add-one 0)
ids-drop_more (e ∷ es) p = by_case (nat_eq e.id.0 p) (ids-drop_more es p)
  where
    by_case : (b : Bool) → ids (drop (place_of es p + 1) es) ≡ after p (ids es) → ids (drop (cond (not b) (1 + place_of es p) 0 + 1) (e ∷ es)) ≡ cond b (ids es) (after p (ids es))
    by_case true h = ap (λ n. ids (drop n (e ∷ es))) (add-one 0)
    by_case false h =
        let more : 1 + place_of es p + 1 ≡ suc (place_of es p + 1) = omega arith in
        ap (λ n. ids (drop n (e ∷ es))) more ∙ h

-- the live others, by the parts
pub live_others : (es : List Entry) (p : ℕ) → AreDistinct (ids es) → filter (is_live es) (others p (ids es)) ≡ live_ids (drop (place_of es p + 1) es) ++ live_ids (take (place_of es p) es)
live_others es p d =
    filter-append (is_live es) (after p (ids es)) (before p (ids es))
    ∙ ap (λ us. us ++ filter (is_live es) (before p (ids es))) (ap (filter (is_live es)) (sym (ids-drop_more es p)) ∙ live_part es (drop (place_of es p + 1) es) (found_drop es (place_of es p + 1) es (found_own es d)))
    ∙ ap (λ us. live_ids (drop (place_of es p + 1) es) ++ us) (ap (filter (is_live es)) (sym (ids-take es p)) ∙ live_part es (take (place_of es p) es) (found_take es (place_of es p) es (found_own es d)))

pub live_rotated : (es : List Entry) (p : ℕ) → AreDistinct (ids es) → filter (is_live es) (rotated p (ids es)) ≡ live_ids (drop (place_of es p) es) ++ live_ids (take (place_of es p) es)
live_rotated es p d =
    filter-append (is_live es) (from p (ids es)) (before p (ids es))
    ∙ ap (λ us. us ++ filter (is_live es) (before p (ids es))) (ap (filter (is_live es)) (sym (ids-drop es p)) ∙ live_part es (drop (place_of es p) es) (found_drop es (place_of es p) es (found_own es d)))
    ∙ ap (λ us. live_ids (drop (place_of es p) es) ++ us) (ap (filter (is_live es)) (sym (ids-take es p)) ∙ live_part es (take (place_of es p) es) (found_take es (place_of es p) es (found_own es d)))

-- ---- steps of loops

last_push : (us : List ℕ) (x d : ℕ) → last_or d (us ++ x ∷ []) ≡ x
last_push [] x d = refl
last_push (u ∷ us) x d = last_push us x u

last-push : (us : List ℕ) (x : ℕ) → last (us ++ x ∷ []) ≡ Some x
last-push [] x = refl
last-push (u ∷ us) x = ap Some (last_push us x u)

pub last_live_more : (xs : List Entry) (i : ℕ) (x : Entry) (b : Bool) → i < length xs → x ≡ get_or xs i x → is_live_mark x.mark ≡ b → last (live_ids (take (i + 1) xs)) ≡ cond b (Some x.id.0) (last (live_ids (take i xs)))
last_live_more xs i x b l e m =
    ap last (ap ids (filter_more (λ e. is_live_mark e.mark) xs i x l) ∙ map-append (λ e. e.id.0) (filter (λ e. is_live_mark e.mark) (take i xs)) (cond (is_live_mark (get_or xs i x).mark) (get_or xs i x ∷ []) [])
    ∙ ap (λ y. live_ids (take i xs) ++ ids (cond (is_live_mark y.mark) (y ∷ []) [])) (sym e))
    ∙ by_case b m
  where
    by_case : (b : Bool) → is_live_mark x.mark ≡ b → last (live_ids (take i xs) ++ ids (cond (is_live_mark x.mark) (x ∷ []) [])) ≡ cond b (Some x.id.0) (last (live_ids (take i xs)))
    by_case true k = rw k (last-push (live_ids (take i xs)) x.id.0)
    by_case false k = rw k (ap last (append-nil (live_ids (take i xs))))

pub comes_in : (x y : ℕ) (us vs : List ℕ) → unwrap_or (option_or (comes_before x y us) (comes_before x y vs)) false ≡ is_in x (before y (us ++ vs))
comes_in x y [] [] = refl
comes_in x y [] (v ∷ vs) = by_case (nat_eq v y) (nat_eq v x) refl (comes_in x y [] vs)
  where
    by_case : (a b : Bool) → nat_eq v x ≡ b → unwrap_or (comes_before x y vs) false ≡ is_in x (before y vs) → unwrap_or (cond a (Some false) (cond b (Some true) (comes_before x y vs))) false ≡ is_in x (cond a [] (v ∷ before y vs))
    by_case true b q ih = refl
    by_case false true q ih = rw (sym_test v x true q) refl
    by_case false false q ih = rw (sym_test v x false q) ih
comes_in x y (u ∷ us) vs = by_case (nat_eq u y) (nat_eq u x) refl (comes_in x y us vs)
  where
    by_case : (a b : Bool) → nat_eq u x ≡ b → unwrap_or (option_or (comes_before x y us) (comes_before x y vs)) false ≡ is_in x (before y (us ++ vs)) → unwrap_or (option_or (cond a (Some false) (cond b (Some true) (comes_before x y us))) (comes_before x y vs)) false ≡ is_in x (cond a [] (u ∷ before y (us ++ vs)))
    by_case true b q ih = refl
    by_case false true q ih = rw (sym_test u x true q) refl
    by_case false false q ih = rw (sym_test u x false q) ih

pub found_at : (es xs : List Entry) (i : ℕ) (x : Entry) → AreFound es xs → i < length xs → x ≡ get_or xs i x → entry_in es x.id.0 ≡ x
found_at es [] i x h l e = absurd (omega arith)
found_at es (y ∷ ys) zero x h l e = ap (λ (z : Entry). entry_in es z.id.0) e ∙ h.0 ∙ sym e
found_at es (y ∷ ys) (suc i) x h l e = found_at es ys i x h.1 (omega arith) e

-- a list of which the last is still to be looked at, going back
pub filter_back : (t : ℕ → Bool) (xs : List Entry) (end : ℕ) (x : Entry) → 0 < end → end ≤ length xs → x ≡ get_or xs (end - 1) x → filter t (reverse (ids (drop (end - 1) xs))) ≡ filter t (reverse (ids (drop end xs))) ++ cond (t x.id.0) (x.id.0 ∷ []) []
filter_back t xs end x pos l e =
    let within : end - 1 < length xs = omega arith in
    let back : suc (end - 1) ≡ end = omega arith in
    ap (λ ys. filter t (reverse (ids ys))) (drop-cons xs (end - 1) x within ∙ ap (λ y. y ∷ drop (suc (end - 1)) xs) (sym e) ∙ ap (λ n. x ∷ drop n xs) back)
    ∙ ap (filter t) (reverse-append (x.id.0 ∷ []) (ids (drop end xs)))
    ∙ filter-append t (reverse (ids (drop end xs))) (x.id.0 ∷ [])

pub drop_one : (n : ℕ) (xs : List Entry) → drop 1 (drop n xs) ≡ drop (n + 1) xs
drop_one zero xs = refl
drop_one (suc n) [] = ap (λ k. drop k []) (let e : suc (suc n) ≡ suc n + 1 = omega arith in e)
drop_one (suc n) (x ∷ xs) = drop_one n xs ∙ ap (λ k. drop k (x ∷ xs)) (let e : suc (n + 1) ≡ suc n + 1 = omega arith in e)

-- what an id stands for: the mark of its entry, where it has one
pub mark_is : (es : List Entry) (p : ℕ) → mark_in es p ≡ cond (is_in p (ids es)) (Some (entry_in es p).mark) None
mark_is [] p = refl
mark_is (e ∷ es) p = by_case (nat_eq e.id.0 p) refl (mark_is es p)
  where
    by_case : (b : Bool) → nat_eq e.id.0 p ≡ b → mark_in es p ≡ cond (is_in p (ids es)) (Some (entry_in es p).mark) None → cond b (Some e.mark) (mark_in es p) ≡ cond (cond (nat_eq p e.id.0) true (is_in p (ids es))) (Some (cond b e (entry_in es p)).mark) None
    by_case true q h = rw (sym_test e.id.0 p true q) refl
    by_case false q h = rw (sym_test e.id.0 p false q) h
