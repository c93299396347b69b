use Rattle.std.proofs.Common.{subst, rules}
use Rattle.ring_script.specs.Reading.{AreStepsOf}
use Rattle.ringplay.proofs.call.done_by_steps.Goals as goal

pub returns : goal.returns
returns c =
    let steps = c.in_ok-steps.steps in
    record { ok = (steps, subst (λ bytes. AreStepsOf bytes steps) c.deref.ensures.value c.in_ok-steps.ensures.steps, c.in_ok-played.ensures); err = search rules }
