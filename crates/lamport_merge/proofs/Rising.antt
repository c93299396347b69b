-- Times that rise, as entries come.
use Rattle.std.proofs.Common.{◌≡◌, ℕ, ◌<◌, ◌-◌, zero, suc, List, [], ◌∷◌, ◌++◌, length, get_or, set, sym, ap, subst, ◌∙◌, arith}
use Rattle.lamport_merge.specs.Merge.{Log, RiseAbove, last_time, PartiesDiffer, AreLogs}

module _ {E : Type 0} where
  -- one more entry, of a later time than the last one's
  pub rise_more : (low : ℕ) (es : List (ℕ × E)) (time : ℕ) (event : E) → RiseAbove low es → last_time low es < time → RiseAbove low (es ++ (time, event) ∷ [])
  rise_more low [] time event h later = (later, tt)
  rise_more low (e ∷ es) time event h later = (h.0, rise_more e.0 es time event h.1 later)

  -- the last entry has the last time
  pub last_there : (low : ℕ) (es : List (ℕ × E)) (x : ℕ × E) → 0 < length es → x ≡ get_or es (length es - 1) x → x.0 ≡ last_time low es
  last_there low [] x some e = absurd (omega (arith, some))
  last_there low (y ∷ []) x some e = ap (λ (z : ℕ × E). z.0) e
  last_there low (y ∷ z ∷ es) x some e =
      let on : length (y ∷ z ∷ es) - 1 ≡ suc (length (z ∷ es) - 1) = omega arith in
      last_there y.0 (z ∷ es) x (omega arith) (e ∙ ap (λ n. get_or (y ∷ z ∷ es) n x) on)

  pub are_differ : (logs : List (Log E)) → AreLogs logs → PartiesDiffer logs
  are_differ [] h = tt
  are_differ (l ∷ ls) h = (h.1, are_differ ls h.2)

  -- something else happens at the time of an entry
  pub rise_same : (low : ℕ) (es : List (ℕ × E)) (n : ℕ) (x y : ℕ × E) → x ≡ get_or es n x → y.0 ≡ x.0 → RiseAbove low es → RiseAbove low (set es n y)
  rise_same low [] n x y is same h = tt
  rise_same low (e ∷ es) zero x y is same h = subst (λ t. (low < t) × RiseAbove t es) (sym (same ∙ ap (λ (z : ℕ × E). z.0) is)) h
  rise_same low (e ∷ es) (suc n) x y is same h = (h.0, rise_same e.0 es n x y is same h.1)
