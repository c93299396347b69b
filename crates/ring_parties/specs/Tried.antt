-- What is answered where a step is tried that may be refused.
use Rattle.std.specs.Prelude.{◌≡◌, Option, Some, None, Result, OnOk, OnErr, IfErr}
use Rattle.ring_names.specs.declared.reason.Reason.{Reason}
use Rattle.ring_rules.specs.declared.refused.Refused.{Refused}
use Rattle.ring_rules.specs.declared.refused.Refused.TheVariants.{NotEnabled}
use Rattle.ring_parties.specs.Parties.{Shown}

-- Of a step this is the first condition that fails: it is done only where none does, and only that one is told as the reason why it
-- isn't enabled.
pub record IsJudged {X : Type 0} (refusal : Option Reason) (result : Result X Refused) : Type 0 where
  pub enabled : OnOk result (refusal ≡ None)
  pub reason : IfErr result (λ e. (r : Reason) → e ≡ NotEnabled r → refusal ≡ Some r)

-- A member tries a step. Where it is done, the member shows what it makes of that; else it shows what it showed.
pub record Tries (refusal : Option Reason) (Does : Shown → Shown → Type 0) (old new : Shown) (result : Result (Unit {0}) Refused) : Type 0 where
  pub judged : IsJudged refusal result
  pub ok : OnOk result (Does old new)
  pub err : OnErr result (new ≡ old)
