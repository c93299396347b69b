use Rattle.std.proofs.Common.{◌≡◌, None, subst, ◌≢◌}
use Rattle.ring_rules.specs.declared.event.Event.TheVariants.{Synced}
use Rattle.ring_rules.specs.Event.{refusal}
use Rattle.ring_cluster.specs.Seen.{state_of}
use Rattle.ring_cluster.proofs.driver.may_register.Goals as goal

pub returns-clause-may : goal.returns-clause-may
returns-clause-may c = λ t. subst (λ n. refusal (state_of c.args.cluster.now) (Synced n) ≡ None) c.name_of-by.ensures (c.may_do.ensures.may t)

pub returns-clause-may_not : goal.returns-clause-may_not
returns-clause-may_not c = λ t. subst (λ n. refusal (state_of c.args.cluster.now) (Synced n) ≢ None) c.name_of-by.ensures (c.may_do.ensures.may_not t)
