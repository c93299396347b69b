use Rattle.std.proofs.Common.{◌≡◌, Some, sym, ap, ◌∙◌}
use Rattle.std.proofs.lemmas.Result.{IfOk-weaker}
use Rattle.ring_rules.specs.Event.{by_of, event_of, refusal}
use Rattle.ring_rules.proofs.events.Kinds.{event_by}
use Rattle.ring_cluster.specs.Plays.{answer_by}
use Rattle.ring_cluster.specs.Seen.{state_of}
use Rattle.ring_cluster.proofs.rounds.Members.{answered}
use Rattle.ring_cluster.proofs.cluster.Cluster.answer_to.Goals as goal

pub refusal-requires : goal.refusal-requires
refusal-requires c = (c.requires.0, ap by_of c.in_ok-event.ensures ∙ event_by c.args.task.now ∙ sym c.requires.1)

pub returns-in-None : goal.returns-in-None
returns-in-None c =
    let none = sym c.refusal.ensures ∙ c.in-None.is in
    (c.in_ok-event.ensures ∙ ap (answer_by c.args.task.now) (sym none ∙ ap (refusal (state_of c.args.self.now)) c.in_ok-event.ensures), none)

pub returns-in-Some : goal.returns-in-Some
returns-in-Some c =
    let told : refusal (state_of c.args.self.now) (event_of c.args.task.now) ≡ Some c.in-Some.reason = sym (ap (refusal (state_of c.args.self.now)) c.in_ok-event.ensures) ∙ sym c.refusal.ensures ∙ c.in-Some.is in
    IfOk-weaker c.refuses.result _ _
    (λ o h. answered c.args.self.now c.args.place c.args.task.now c.in-Some.reason c.is_going.ensures c.requires told o h)
    c.refuses.ensures
