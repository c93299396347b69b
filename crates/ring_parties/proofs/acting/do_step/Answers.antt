use Rattle.std.proofs.Common.{sym, ap, subst, ◌∙◌}
use Rattle.std.proofs.lemmas.Result.{on_ok_weaker}
use Rattle.ring_rules.specs.Kind.{Steps}
use Rattle.ring_parties.specs.Parties.{Shown, shown_in, keeps_in}
use Rattle.ring_parties.specs.Keeps.{kept_after}
use Rattle.ring_parties.specs.Acting.{IsReady, IsBooked, step_refused, DoesStep}
use Rattle.ring_parties.specs.Tried.{Tries}
use Rattle.ring_parties.proofs.acting.do_step.Goals as goal

pub step_alone-requires-clause-ready : goal.step_alone-requires-clause-ready
step_alone-requires-clause-ready c = subst IsReady (sym c.be_alone.ensures.same) c.requires.ready

pub step_alone-requires-clause-booked : goal.step_alone-requires-clause-booked
step_alone-requires-clause-booked c = subst (λ (s : Shown). IsBooked s (keeps_in c.args.party.now)) (sym c.be_alone.ensures.same) c.requires.booked

pub returns-clause-tries : goal.returns-clause-tries
returns-clause-tries c = subst (λ (s : Shown). Tries (step_refused c.args.step s) (DoesStep c.args.step) s (shown_in c.step_alone.new.party) c.step_alone.result) c.be_alone.ensures.same c.step_alone.ensures.tries

pub returns-clause-keeps : goal.returns-clause-keeps
returns-clause-keeps c = on_ok_weaker c.step_alone.result (λ e. e ∙ ap (λ (s : Shown). kept_after (Steps c.args.step) s (keeps_in c.args.party.now)) c.be_alone.ensures.same) c.step_alone.ensures.keeps
