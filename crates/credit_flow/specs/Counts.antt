-- The facts that every receiver keeps.
use Rattle.std.specs.Prelude.{◌≡◌, ◌<◌, ◌≤◌, false}
use Rattle.credit_flow.specs.declared.receiver.CreditIn.TheInside.{Inside}

-- the count stays below the next grant, and only what is held back has a sum
pub record IsCounted (c : Inside) : Type 0 where
  pub below : c.taken < c.spec.more
  pub within : c.held ≤ c.spec.initial
  pub none : c.holding ≡ false → c.held ≡ 0
