use Rattle.std.proofs.Common.{◌≡◌, ◌≢◌, None, sym, subst, ◌∙◌}
use Rattle.std.proofs.lemmas.Bool.{false≢true}
use Rattle.ring_rules.specs.declared.event.Event.TheVariants.{Depth}
use Rattle.ring_rules.specs.Event.{refusal}
use Rattle.ring_cluster.specs.Seen.{state_of}
use Rattle.ring_cluster.proofs.driver.may_tell.Goals as goal

pub returns-then-not-has_untold-clause-may_not : goal.returns-then-not-has_untold-clause-may_not
returns-then-not-has_untold-clause-may_not c = λ _ owes. absurd (false≢true (sym c.if-not-has_untold.true ∙ c.has_untold.ensures ∙ owes))

pub returns-clause-may : goal.returns-clause-may
returns-clause-may c = λ t. (sym c.has_untold.ensures ∙ c.if-not-has_untold.false, subst (λ n. refusal (state_of c.args.cluster.now) (Depth n) ≡ None) c.name_of-by.ensures (c.may_do.ensures.may t))

pub returns-clause-may_not : goal.returns-clause-may_not
returns-clause-may_not c = λ t _. subst (λ n. refusal (state_of c.args.cluster.now) (Depth n) ≢ None) c.name_of-by.ensures (c.may_do.ensures.may_not t)
