-- Members of which something is done that nobody sees.
use Rattle.std.proofs.Common.{◌≡◌, ℕ, ◌<◌, ◌≤◌, List, set, refl, sym, subst, ◌∙◌, ⊎_elim}
use Rattle.std.proofs.lemmas.Bool.{cases_lt}
use Rattle.gm_member.specs.Shown.{held_of, ends_of}
use Rattle.ring_parties.specs.declared.party.Party.{Party}
use Rattle.ring_parties.specs.Parties.{ANode}
use Rattle.ring_parties.specs.Pairing.{IsAt, EachParty}
use Rattle.ring_parties.specs.Turns.{SameShown}
use Rattle.ring_parties.proofs.pairs.Each.{each_then, each_so, each_set}
use Rattle.ring_parties.proofs.pairs.Done.{Done}

shown_rests : (p : Party) → SameShown p p
shown_rests p = record { held = refl; ends = refl; keeps = refl; meets = refl }

shown_then : (p q r : Party) → SameShown p q → SameShown q r → SameShown p r
shown_then p q r a b = record { held = b.held ∙ a.held; ends = b.ends ∙ a.ends; keeps = b.keeps ∙ a.keeps; meets = b.meets ∙ a.meets }

-- a party with another member that shows the same
pub shown_by : (p : Party) (n : ANode) → held_of n ≡ held_of p.node → ends_of n ≡ ends_of p.node → SameShown p (record p { node = n })
shown_by p n held ends = record { held = held; ends = ends; keeps = refl; meets = refl }

-- those that it is done for show the same, and the others are as they were
pub done_shown : (R : ℕ → Party → Party → Type 0) (k : ℕ) (old xs : List Party) → ((i : ℕ) (p q : Party) → R i p q → SameShown p q) → Done R k old xs
    → EachParty (λ _ p q. SameShown p q) old xs
done_shown R k old xs so d = each_so (λ i p q. (i < k → R i p q) × (k ≤ i → q ≡ p)) (λ _ p q. SameShown p q) old xs d
    (λ i p q _ _ r. ⊎_elim (λ (l : i < k). so i p q (r.0 l)) (λ (l : k ≤ i). subst (SameShown p) (sym (r.1 l)) (shown_rests p)) (cases_lt i k))

-- so also where one more shows the same
pub one_shown : (old xs : List Party) (k : ℕ) (x y : Party) → EachParty (λ _ p q. SameShown p q) old xs → IsAt xs k x → SameShown x y
    → EachParty (λ _ p q. SameShown p q) old (set xs k y)
one_shown old xs k x y a at same = each_then (λ _ p q. SameShown p q) (λ _ p q. SameShown p q) (λ _ p q. SameShown p q) old xs (set xs k y) a
    (each_set (λ _ p q. SameShown p q) xs k x y at same (λ i p _. shown_rests p))
    (λ i p q r _ _ _ a b. shown_then p q r a b)
