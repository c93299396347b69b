-- Two lists of parties, place by place.
use Rattle.std.proofs.Common.{◌≡◌, ◌≢◌, ℕ, ◌<◌, Bool, true, false, List, length, get_or, set, Some, refl, sym, ap, subst, ◌∙◌, arith, nat_eq}
use Rattle.std.proofs.lemmas.Bool.{eqb-true, false≢true, eq-eqb}
use Rattle.std.proofs.lemmas.Option.{same_Some, slice_get_within, slice_get-get_or, get_or_from_slice_get}
use Rattle.std.proofs.lemmas.List.{length-set, get_or-set_same, get_or-set_other}
use Rattle.ring_parties.specs.declared.party.Party.{Party}
use Rattle.ring_parties.specs.Pairing.{IsAt, EachParty}

-- ---- a party at a place

pub within : (xs : List Party) (i : ℕ) (p : Party) → IsAt xs i p → i < length xs
within xs i p at = slice_get_within xs i p at

pub same_at : (xs : List Party) (i : ℕ) (p q : Party) → IsAt xs i p → IsAt xs i q → p ≡ q
same_at xs i p q a b = same_Some p q (sym a ∙ b)

-- a party that was read there
pub at_read : (xs : List Party) (i : ℕ) (x : Party) → i < length xs → x ≡ get_or xs i x → IsAt xs i x
at_read xs i x l e = slice_get-get_or xs i x l ∙ ap Some (sym e)

pub read_at : (xs : List Party) (i : ℕ) (p d : Party) → IsAt xs i p → get_or xs i d ≡ p
read_at xs i p d at = get_or_from_slice_get xs i p d at

-- there is one at each place of a list that is as long; d is any party, for places beyond the last
pub one_at : (xs ys : List Party) (i : ℕ) (d : Party) → length ys ≡ length xs → IsAt xs i d → (q : Party) × IsAt ys i q
one_at xs ys i d e at = (get_or ys i d, slice_get-get_or ys i d (let l = within xs i d at in omega (arith, e, l)))

-- ---- a party that is written

pub written_here : (xs : List Party) (i : ℕ) (y p : Party) → i < length xs → IsAt (set xs i y) i p → p ≡ y
written_here xs i y p l at = sym (read_at (set xs i y) i p y at) ∙ get_or-set_same xs i y y l

pub written_there : (xs : List Party) (i k : ℕ) (y p q : Party) → k ≢ i → IsAt xs k p → IsAt (set xs i y) k q → q ≡ p
written_there xs i k y p q n a b = sym (read_at (set xs i y) k q y b) ∙ get_or-set_other xs i k y y n ∙ read_at xs k p y a

-- ---- what holds place by place

pub each_then : (R S T : ℕ → Party → Party → Type 0) (xs ys zs : List Party) → EachParty R xs ys → EachParty S ys zs
    → ((i : ℕ) (p q r : Party) → IsAt xs i p → IsAt ys i q → IsAt zs i r → R i p q → S i q r → T i p r) → EachParty T xs zs
each_then R S T xs ys zs a b then = record {
  count = b.count ∙ a.count;
  each = λ i p r at last. (let mid = one_at xs ys i p a.count at in then i p mid.0 r at mid.1 last (a.each i p mid.0 at mid.1) (b.each i mid.0 r mid.1 last));
}

-- so also what follows of it
pub each_so : (R T : ℕ → Party → Party → Type 0) (xs ys : List Party) → EachParty R xs ys
    → ((i : ℕ) (p q : Party) → IsAt xs i p → IsAt ys i q → R i p q → T i p q) → EachParty T xs ys
each_so R T xs ys a so = record {
  count = a.count;
  each = λ i p q at last. so i p q at last (a.each i p q at last);
}

-- a list beside itself
pub each_same : (R : ℕ → Party → Party → Type 0) (xs : List Party) → ((i : ℕ) (p : Party) → R i p p) → EachParty R xs xs
each_same R xs same = record {
  count = refl;
  each = λ i p q a b. subst (R i p) (same_at xs i p q a b) (same i p);
}

-- a list in which one was written
pub each_set : (R : ℕ → Party → Party → Type 0) (xs : List Party) (i : ℕ) (x y : Party) → IsAt xs i x → R i x y
    → ((k : ℕ) (p : Party) → k ≢ i → R k p p) → EachParty R xs (set xs i y)
each_set R xs i x y at new same = record {
  count = length-set xs i y;
  each = λ k p q a b. by_test k p q a b (nat_eq k i) refl;
}
  where
    here : (p q : Party) → IsAt xs i p → IsAt (set xs i y) i q → R i p q
    here p q a b =
        let e : q ≡ y = written_here xs i y q (within xs i x at) b in
        let f : p ≡ x = same_at xs i p x a at in
        subst (λ z. R i z q) (sym f) (subst (R i x) (sym e) new)

    by_test : (k : ℕ) (p q : Party) → IsAt xs k p → IsAt (set xs i y) k q → (b : Bool) → nat_eq k i ≡ b → R k p q
    by_test k p q a b true e =
        let k_is : k ≡ i = eqb-true k i e in
        subst (λ j. R j p q) (sym k_is) (here p q (subst (λ j. IsAt xs j p) k_is a) (subst (λ j. IsAt (set xs i y) j q) k_is b))
    by_test k p q a b false e =
        let apart : k ≢ i = λ (s : k ≡ i). false≢true (sym e ∙ eq-eqb k i s) in
        subst (R k p) (sym (written_there xs i k y p q apart a b)) (same k p apart)

-- what is read at a place stands there
pub at_here : (xs : List Party) (i : ℕ) (d : Party) → i < length xs → IsAt xs i (get_or xs i d)
at_here xs i d l = slice_get-get_or xs i d l
