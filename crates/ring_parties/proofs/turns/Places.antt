-- Parties by their places.
use Rattle.std.proofs.Common.{◌≡◌, ℕ, zero, suc, ◌<◌, List, [], ◌∷◌, length, map, get_or, Some, refl, sym, ap, ◌∙◌, arith}
use Rattle.std.specs.Prelude.{option_map}
use Rattle.std.proofs.lemmas.Option.{get_or_from_slice_get, slice_get-map}
use Rattle.ring_parties.specs.declared.party.Party.{Party}
use Rattle.ring_parties.specs.Pairing.{IsAt}

-- there is one at each place
pub party_at : (ps : List Party) (i : ℕ) → i < length ps → (p : Party) × IsAt ps i p
party_at [] i lt = absurd (omega (arith, lt))
party_at (p ∷ ps) zero lt = (p, refl)
party_at (p ∷ ps) (suc i) lt = party_at ps i (omega (arith, lt))

-- and just one
pub just_one : (ps : List Party) (i : ℕ) (p q : Party) → IsAt ps i p → IsAt ps i q → q ≡ p
just_one ps i p q a b = some_same (sym b ∙ a)
  where
    some_same : {X : Type 0} {x y : X} → Some x ≡ Some y → x ≡ y
    some_same e = cc

-- what is made of the one at a place
pub made_at : {X : Type 0} (f : Party → X) (d : X) (ps : List Party) (i : ℕ) (p : Party) → IsAt ps i p → get_or (map f ps) i d ≡ f p
made_at f d ps i p a = get_or_from_slice_get (map f ps) i (f p) d (slice_get-map f ps i ∙ ap (option_map f) a)
