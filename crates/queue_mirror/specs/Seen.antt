-- What a Mirror shows.
use Rattle.std.specs.Prelude.{ℕ}
use Rattle.queue_mirror.specs.Mirror.{MirrorState}

-- a mirror, and for how many more messages it has room
pub record MirrorSeen : Type 0 where
  pub mirror : MirrorState
  pub room : ℕ
