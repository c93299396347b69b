-- What stands last in a log.
use Rattle.std.proofs.Common.{◌≡◌, ℕ, List, [], ◌∷◌, ◌++◌, refl}
use Rattle.lamport_merge.specs.Merge.{last_time}

-- what was pushed last
pub last_pushed : {E : Type 0} (low : ℕ) (es : List (ℕ × E)) (t : ℕ) (e : E) → last_time low (es ++ (t, e) ∷ []) ≡ t
last_pushed low [] t e = refl
last_pushed low (d ∷ es) t e = last_pushed d.0 es t e
