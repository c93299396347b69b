use Rattle.registrar.proofs.Steps.{opening_stands}
use Rattle.registrar.proofs.registrar.Registrar.opening.Goals as goal

pub returns-clause-stands : goal.returns-clause-stands
returns-clause-stands g c = λ credit. rw (c.in_ok-push.ensures.items, c.new-views.ensures.items, c.in_ok-view.ensures, c.new.ensures.items, c.new-2.ensures.items) (opening_stands credit c.args.names.now)
