-- What is done to a link in a round: things are put on it and taken from it, each under a stamp.
use Rattle.std.specs.Prelude.{ℕ, cond, nat_eq, List, [], ◌∷◌, map}

-- A thing that stands on a link, with the time of its stamp: 0 where it is of an earlier round.
pub record Stamped (X : Type 0) : Type 0 where
  pub stamp : ℕ
  pub it : X

-- one thing is put behind the others, or the first one is taken
pub data Act (X : Type 0) : Type 0 where
  push : Stamped X → Act X
  pop : Stamped X → Act X

module _ {X : Type 0} where
  -- the things, without their stamps
  abbrev pub things : List (Stamped X) → List X
  things q = map (λ (z : Stamped X). z.it) q

  -- things of earlier rounds
  abbrev pub early : List X → List (Stamped X)
  early xs = map (λ (x : X). record { stamp = 0; it = x }) xs

  -- of what was done to links, each by its place, what was done to the one at this place
  abbrev pub acts_at : ℕ → List (ℕ × Act X) → List (Act X)
  acts_at s [] = []
  acts_at s (a ∷ more) = cond (nat_eq a.0 s) (a.1 ∷ acts_at s more) (acts_at s more)

  -- at a time
  abbrev pub timed : ℕ → List (Act X) → List (ℕ × Act X)
  timed t [] = []
  timed t (a ∷ more) = (t, a) ∷ timed t more

  -- what was put, in order
  abbrev pub puts : List (ℕ × Act X) → List (Stamped X)
  puts [] = []
  puts ((t, push x) ∷ more) = x ∷ puts more
  puts ((t, pop x) ∷ more) = puts more

  -- what was taken, in order
  abbrev pub takes : List (ℕ × Act X) → List (Stamped X)
  takes [] = []
  takes ((t, push x) ∷ more) = takes more
  takes ((t, pop x) ∷ more) = x ∷ takes more
