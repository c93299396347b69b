use Rattle.std.proofs.Common.{subst, rules}
use Rattle.ring_script.specs.Reading.{IsScriptOf}
use Rattle.ringplay.proofs.call.done_by_script.Goals as goal

pub returns : goal.returns
returns g c =
    let script = c.in_ok-script.script in
    record { ok = (script, subst (λ bytes. IsScriptOf bytes script) c.deref.ensures.value c.in_ok-script.ensures.script, c.in_ok-played.ensures); err = search rules }
