-- What is done with each party in turn, by places.
use Rattle.std.proofs.Common.{◌≡◌, ◌≢◌, ℕ, ◌+◌, ◌<◌, ◌≤◌, List, length, set, refl, sym, subst, ◌∙◌, ⊎_elim, arith}
use Rattle.std.proofs.lemmas.Bool.{cases_eq}
use Rattle.ring_parties.specs.declared.party.Party.{Party}
use Rattle.ring_parties.specs.Pairing.{IsAt, EachParty}
use Rattle.ring_parties.proofs.pairs.Each.{within, one_at, each_then, each_so, each_same, each_set}

-- it is done for those below a place, and the others are as they were
abbrev pub Done : (ℕ → Party → Party → Type 0) → ℕ → List Party → List Party → Type 0
Done R k old new = EachParty (λ i p q. (i < k → R i p q) × (k ≤ i → q ≡ p)) old new

pub done_none : (R : ℕ → Party → Party → Type 0) (xs : List Party) → Done R 0 xs xs
done_none R xs = each_same (λ i p q. (i < 0 → R i p q) × (0 ≤ i → q ≡ p)) xs (λ i p. (λ l. absurd (omega (arith, l)), λ _. refl))

-- one that it is not done for yet
pub was_at : (R : ℕ → Party → Party → Type 0) (k : ℕ) (old xs : List Party) (x : Party) → Done R k old xs → IsAt xs k x → IsAt old k x
was_at R k old xs x d at =
    let (p, was) = one_at xs old k x (sym d.count) at in
    subst (IsAt old k) (sym ((d.each k p x was at).1 (omega arith))) was

pub done_next : (R : ℕ → Party → Party → Type 0) (k : ℕ) (old xs : List Party) (x y : Party) → Done R k old xs → IsAt xs k x → R k x y → Done R (k + 1) old (set xs k y)
done_next R k old xs x y d at r = each_then (λ i p q. (i < k → R i p q) × (k ≤ i → q ≡ p)) (λ i p q. (i ≡ k → (p ≡ x) × (q ≡ y)) × (i ≢ k → q ≡ p))
    (λ i p q. (i < k + 1 → R i p q) × (k + 1 ≤ i → q ≡ p)) old xs (set xs k y) d
    (each_set (λ i p q. (i ≡ k → (p ≡ x) × (q ≡ y)) × (i ≢ k → q ≡ p)) xs k x y at (λ _. (refl, refl), λ n. absurd (n refl)) (λ i p n. (λ e. absurd (n e), λ _. refl)))
    (λ i p q s _ _ _ a b. (λ l. by_place i p q s a b l, λ l. b.1 (λ e. absurd (omega (arith, e, l))) ∙ a.1 (omega (arith, l))))
  where
    by_place : (i : ℕ) (p q s : Party) → ((i < k → R i p q) × (k ≤ i → q ≡ p)) → ((i ≡ k → (q ≡ x) × (s ≡ y)) × (i ≢ k → s ≡ q)) → i < k + 1 → R i p s
    by_place i p q s a b l = ⊎_elim
        (λ (e : i ≡ k).
        (let here = b.0 e in
        let p_is : x ≡ p = sym here.0 ∙ a.1 (omega (arith, e)) in
        subst (λ j. R j p s) (sym e) (subst (λ z. R k z s) p_is (subst (R k x) (sym here.1) r))))
        (λ (n : i ≢ k). subst (R i p) (sym (b.1 n)) (a.0 (omega (arith, n, l))))
        (cases_eq i k)

pub done_all : (R : ℕ → Party → Party → Type 0) (k : ℕ) (old xs : List Party) → k ≡ length xs → Done R k old xs → EachParty R old xs
done_all R k old xs all d = each_so (λ i p q. (i < k → R i p q) × (k ≤ i → q ≡ p)) R old xs d
    (λ i p q _ at r. r.0 (let l = within xs i q at in omega (arith, l, all)))
