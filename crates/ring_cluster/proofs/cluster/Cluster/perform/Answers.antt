use Rattle.std.proofs.Common.{◌≡◌, None, ap, sym, subst, ◌∙◌}
use Rattle.ring_rules.specs.Event.{by_of, event_of, refusal}
use Rattle.ring_cluster.specs.Seen.{state_of}
use Rattle.ring_cluster.proofs.rounds.Doing.{performed_is}
use Rattle.ring_cluster.proofs.rounds.Named.{answered_by, from_some}
use Rattle.ring_cluster.proofs.cluster.Cluster.perform.Goals as goal

pub answer-requires-clause-at : goal.answer-requires-clause-at
answer-requires-clause-at c =
    let f = from_some _ _ _ _ c.in-Some.is c.in_ok-event.ensures in
    let told = refusal (state_of c.args.self.now) (event_of f.0) in
    (c.requires.0, ap by_of f.4 ∙ answered_by f.0 told ∙ f.3 ∙ sym c.requires.1)

pub returns-clause-done : goal.returns-clause-done
returns-clause-done c = λ _.
    let f = from_some _ _ _ _ c.in-Some.is c.in_ok-event.ensures in (
      f.0,
      f.1,
      f.2,
      f.3,
      subst (λ x. refusal (state_of c.args.self.now) x ≡ None) f.4 f.5,
      performed_is c.args.place c.args.name.now f.0 f.1 c.args.self.now c.answer.new.self c.strike_off.new.self _ c.is_going.ensures c.requires f.2 f.3 f.4 c.in_ok-answer.ensures.ok c.strike_off.ensures,
    )
