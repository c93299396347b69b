-- What holds on an error.
use Rattle.std.specs.Prelude.{Result, Ok, Err, OnErr}

-- what holds anyhow holds on an error
pub OnErr_of : {A E : Type 0} {P : Type 0} (o : Result A E) → P → OnErr o P
OnErr_of (Ok a) h = tt
OnErr_of (Err e) h = h
