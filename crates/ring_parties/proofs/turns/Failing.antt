-- What holds where memory was wanted, and of what is there.
use Rattle.std.proofs.Common.{◌≡◌, Option, Some, subst}
use Rattle.std.specs.Prelude.{Result, Ok, Err, OnErr, IfSome}

-- what holds anyhow holds on a fault
pub on_err_any : {A E : Type 0} (X : Type 0) (r : Result A E) → X → OnErr r X
on_err_any X (Ok a) x = tt
on_err_any X (Err e) x = x

-- what holds of what is there
pub if_some_at : {A : Type 0} (P : A → Type 0) (o : Option A) (x : A) → o ≡ Some x → IfSome o P → P x
if_some_at {A = A} P o x e h = subst (λ (r : Option A). IfSome r P) e h
