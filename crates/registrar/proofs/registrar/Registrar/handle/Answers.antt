use Rattle.std.proofs.Common.{◌∙◌, sym, Ok}
use Rattle.group_view.specs.declared.request.Answer.TheVariants.{No}
use Rattle.registrar.proofs.Lifts.{refused_lifts, refused_never, done_steps, done_never}
use Rattle.registrar.proofs.Here.{done_here}
use Rattle.registrar.proofs.registrar.Registrar.handle.Goals as goal

pub returns-in-Some-clause-steps : goal.returns-in-Some-clause-steps
returns-in-Some-clause-steps g c = λ credit names events e are run s a j.
    absurd (refused_never c.args.self.now c.args.request c.in-Some.reason (sym c.in-Some.is ∙ c.refusal.ensures) credit names events e are run s a j)

pub returns-in-Some-clause-not_enabled : goal.returns-in-Some-clause-not_enabled
returns-in-Some-clause-not_enabled g c = refused_lifts c.args.self.now c.args.request c.in-Some.reason (λ r. Ok (No r)) (sym c.in-Some.is ∙ c.refusal.ensures)

pub returns-in-None-clause-here : goal.returns-in-None-clause-here
returns-in-None-clause-here g c = done_here c.args.self.now c.fulfil.new.self c.args.request c.fulfil.result c.requires c.fulfil.ensures.ok c.fulfil.ensures.err

pub returns-in-None-clause-steps : goal.returns-in-None-clause-steps
returns-in-None-clause-steps g c = done_steps c.args.self.now c.fulfil.new.self c.args.request c.fulfil.result c.fulfil.ensures.ok

pub returns-in-None-clause-not_enabled : goal.returns-in-None-clause-not_enabled
returns-in-None-clause-not_enabled g c = λ credit names events e are run s a r j.
    absurd (done_never c.args.self.now c.args.request (sym c.in-None.is ∙ c.refusal.ensures) credit names events e are run s a r j)
