-- Grants that wait.
use Rattle.std.specs.Prelude.{◌≡◌, ◌⊎◌, List, [], ◌∷◌, ◌++◌, Option, None, Some}
use Rattle.ordered_link.specs.declared.grant.Grant.{Grant}

-- the way back gained the grant that waited, or all is as it was
abbrev pub Sends : List Grant → Option Grant → List Grant → Option Grant → Type 0
Sends given late given' late' =
    ((given' ≡ given) × (late' ≡ late))
    ⊎ (late' ≡ None) × (grant : Grant) × (late ≡ Some grant) × (given' ≡ given ++ grant ∷ [])
