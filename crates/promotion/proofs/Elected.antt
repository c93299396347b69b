-- Who is elected may lead, and is the least that may.
use Rattle.std.proofs.Common.{◌≡◌, ℕ, zero, suc, ◌<◌, ◌≤◌, min, Bool, true, false, cond, nat_eq, List, [], ◌∷◌, ◌++◌, ◌+◌, take, length, get_or, Option, Some, None, option_map, refl, sym, ap, ◌∙◌, ⊎_elim, arith}
use Rattle.std.specs.List.{filter}
use Rattle.std.proofs.lemmas.List.{take_more, append-nil}
use Rattle.std.proofs.lemmas.Bool.{false≢true, cases_lt}
use Rattle.group_view.specs.declared.entry.Entry.{Entry}
use Rattle.group_view.specs.Ring.{is_in}
use Rattle.group_view.specs.View.{as_id, number, ids}
use Rattle.promotion.specs.Elect.{may_lead, least_of, least, lesser, elected, IsElected}
use Rattle.group_view.proofs.Rings.{nat_eq-is, nat_eq-same}

-- the least isn't above the first, nor above any of the others
least_first : (d : ℕ) (xs : List ℕ) → least_of d xs ≤ d
least_first d [] = omega arith
least_first d (x ∷ xs) = omega (arith, least_first (min d x) xs)

least_in : (d q : ℕ) (xs : List ℕ) → is_in q xs ≡ true → least_of d xs ≤ q
least_in d q [] h = absurd (false≢true h)
least_in d q (x ∷ xs) h = by_test (nat_eq q x) refl h (λ k. least_in (min d x) q xs k)
  where
    by_test : (b : Bool) → nat_eq q x ≡ b → cond b true (is_in q xs) ≡ true → (is_in q xs ≡ true → least_of (min d x) xs ≤ q) → least_of (min d x) xs ≤ q
    by_test true e k ih = omega (arith, nat_eq-is q x e, least_first (min d x) xs)
    by_test false e k ih = ih k

-- an entry that may lead is among those that may
leads_in : (es : List Entry) (k : ℕ) (d : Entry) → k < length es → may_lead (get_or es k d) ≡ true → is_in (get_or es k d).id.0 (ids (filter may_lead es)) ≡ true
leads_in [] k d lt h = absurd (omega arith)
leads_in (e ∷ es) zero d lt h = rw h (rw (nat_eq-same e.id.0) refl)
leads_in (e ∷ es) (suc k) d lt h = by_test (may_lead e) (leads_in es k d (omega arith) h)
  where
    later : (b : Bool) → is_in (get_or es k d).id.0 (ids (filter may_lead es)) ≡ true → cond b true (is_in (get_or es k d).id.0 (ids (filter may_lead es))) ≡ true
    later true i = refl
    later false i = i

    by_test : (b : Bool) → is_in (get_or es k d).id.0 (ids (filter may_lead es)) ≡ true → is_in (get_or es k d).id.0 (ids (cond b (e ∷ filter may_lead es) (filter may_lead es))) ≡ true
    by_test true i = later (nat_eq (get_or es k d).id.0 e.id.0) i
    by_test false i = i

-- the least is one of them
least_there : (d : ℕ) (xs : List ℕ) → is_in (least_of d xs) (d ∷ xs) ≡ true
least_there d [] = rw (nat_eq-same d) refl
least_there d (x ∷ xs) = by_least (nat_eq (least_of (min d x) xs) (min d x)) refl (least_there (min d x) xs)
  where
    m : ℕ
    m = least_of (min d x) xs

    first : m ≡ d → is_in m (d ∷ (x ∷ xs)) ≡ true
    first e = rw (ap (λ q. nat_eq q d) e ∙ nat_eq-same d) refl

    skip : (b : Bool) → is_in m (x ∷ xs) ≡ true → cond b true (is_in m (x ∷ xs)) ≡ true
    skip true i = refl
    skip false i = i

    at_second : m ≡ x → is_in m (x ∷ xs) ≡ true
    at_second e = rw (ap (λ q. nat_eq q x) e ∙ nat_eq-same x) refl

    behind : (b : Bool) → is_in m xs ≡ true → cond b true (is_in m xs) ≡ true
    behind true i = refl
    behind false i = i

    by_least : (b : Bool) → nat_eq m (min d x) ≡ b → cond b true (is_in m xs) ≡ true → is_in m (d ∷ (x ∷ xs)) ≡ true
    by_least true e _ =
        let is : m ≡ min d x = nat_eq-is m (min d x) e in
        ⊎_elim (λ (l : x < d). skip (nat_eq m d) (at_second (omega (arith, is, l)))) (λ (l : d ≤ x). first (omega (arith, is, l))) (cases_lt x d)
    by_least false e i = skip (nat_eq m d) (behind (nat_eq m x) i)

pub is_elected : (es : List Entry) → IsElected es (elected es)
is_elected es = by_list (ids (filter may_lead es)) refl
  where
    by_list : (xs : List ℕ) → ids (filter may_lead es) ≡ xs → IsElected es (option_map as_id (least xs))
    by_list [] e = λ k d lt. by_test (may_lead (get_or es k d)) (λ t. absurd (false≢true (ap (is_in (get_or es k d).id.0) (sym e) ∙ leads_in es k d lt t)))
      where
        by_test : (b : Bool) → (b ≡ true → b ≡ false) → b ≡ false
        by_test true k = k refl
        by_test false k = refl
    by_list (x ∷ xs) e = record {
      there = ap (is_in (least_of x xs)) e ∙ least_there x xs;
      least = λ k d lt t. not_above (get_or es k d).id.0 (ap (is_in (get_or es k d).id.0) (sym e) ∙ leads_in es k d lt t);
    }
      where
        not_above : (q : ℕ) → is_in q (x ∷ xs) ≡ true → least_of x xs ≤ q
        not_above q i = by_test (nat_eq q x) refl i
          where
            by_test : (b : Bool) → nat_eq q x ≡ b → cond b true (is_in q xs) ≡ true → least_of x xs ≤ q
            by_test true t k = omega (arith, nat_eq-is q x t, least_first x xs)
            by_test false t k = least_in x q xs k

-- ---- one entry more

least_of_more : (d n : ℕ) (xs : List ℕ) → least_of d (xs ++ n ∷ []) ≡ min (least_of d xs) n
least_of_more d n [] = refl
least_of_more d n (x ∷ xs) = least_of_more (min d x) n xs

pub least_more : (xs : List ℕ) (n : ℕ) → least (xs ++ n ∷ []) ≡ Some (lesser (least xs) n)
least_more [] n = refl
least_more (x ∷ xs) n = ap Some (least_of_more x n xs)

-- those that may lead, with one entry more
leading_more : (es : List Entry) (e : Entry) (b : Bool) → may_lead e ≡ b → ids (filter may_lead (es ++ e ∷ [])) ≡ ids (filter may_lead es) ++ cond b (e.id.0 ∷ []) []
leading_more [] e b h = by_case (may_lead e) ∙ ap (λ c. cond c (e.id.0 ∷ []) []) h
  where
    by_case : (c : Bool) → ids (cond c (e ∷ []) []) ≡ cond c (e.id.0 ∷ []) []
    by_case true = refl
    by_case false = refl
leading_more (x ∷ es) e b h = by_case (may_lead x) (leading_more es e b h)
  where
    by_case : (c : Bool) → ids (filter may_lead (es ++ e ∷ [])) ≡ ids (filter may_lead es) ++ cond b (e.id.0 ∷ []) [] → ids (cond c (x ∷ filter may_lead (es ++ e ∷ [])) (filter may_lead (es ++ e ∷ []))) ≡ ids (cond c (x ∷ filter may_lead es) (filter may_lead es)) ++ cond b (e.id.0 ∷ []) []
    by_case true ih = ap (λ us. x.id.0 ∷ us) ih
    by_case false ih = ih

-- the election of one entry more
pub elected_more : (es : List Entry) (k : ℕ) (e : Entry) (b : Bool) → k < length es → e ≡ get_or es k e → may_lead e ≡ b → elected (take (k + 1) es) ≡ cond b (Some (as_id (lesser (option_map number (elected (take k es))) e.id.0))) (elected (take k es))
elected_more es k e b l is h =
    ap elected (take_more es k e l ∙ ap (λ x. take k es ++ x ∷ []) (sym is))
    ∙ ap (λ us. option_map as_id (least us)) (leading_more (take k es) e b h)
    ∙ by_case b
  where
    us : List ℕ
    us = ids (filter may_lead (take k es))

    numbered : (o : Option ℕ) → option_map number (option_map as_id o) ≡ o
    numbered None = refl
    numbered (Some n) = refl

    by_case : (c : Bool) → option_map as_id (least (us ++ cond c (e.id.0 ∷ []) [])) ≡ cond c (Some (as_id (lesser (option_map number (option_map as_id (least us))) e.id.0))) (option_map as_id (least us))
    by_case true = ap (option_map as_id) (least_more us e.id.0) ∙ ap (λ o. Some (as_id (lesser o e.id.0))) (sym (numbered (least us)))
    by_case false = ap (λ vs. option_map as_id (least vs)) (append-nil us)
