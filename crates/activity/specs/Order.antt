-- The order in which origins were first seen, as a list of their ids.
use Rattle.std.specs.Prelude.{ℕ, cond, List, [], ◌∷◌, ◌++◌}
use Rattle.group_view.specs.Ring.{is_in}

-- the origins once this one is seen: it stands last, where it wasn't seen before
abbrev pub with_origin : ℕ → List ℕ → List ℕ
with_origin p seen = cond (is_in p seen) seen (seen ++ p ∷ [])

-- the origins once these are seen, one after another
abbrev pub with_origins : List ℕ → List ℕ → List ℕ
with_origins [] seen = seen
with_origins (p ∷ ids) seen = with_origins ids (with_origin p seen)
