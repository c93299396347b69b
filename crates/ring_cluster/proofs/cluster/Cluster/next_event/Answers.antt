use Rattle.std.proofs.Common.{sym, ap, ◌∙◌}
use Rattle.std.proofs.lemmas.Result.{IfOk-weaker}
use Rattle.ring_cluster.specs.Plays.{agenda_of}
use Rattle.ring_cluster.proofs.rounds.Members.{next_answer}
use Rattle.ring_cluster.proofs.rounds.Named.{from_some}
use Rattle.ring_cluster.proofs.cluster.Cluster.next_event.Goals as goal

pub answer_to-requires : goal.answer_to-requires
answer_to-requires c = (c.requires.0, c.requires.1 ∙ sym c.in-Some.ensures.asked)

pub returns : goal.returns
returns c =
    let f = from_some _ _ _ _ c.in-Some.is c.next_task.ensures.next in
    let same = ap (λ x. agenda_of x c.args.name.now) c.self.view_is in
    IfOk-weaker c.answer_to.result _ _
    (λ o h. next_answer c.args.self.now c.args.name.now c.in-Some.task.now f.0 (sym same ∙ f.1) c.in-Some.ensures.asked c.in-Some.ensures.no_copy o h)
    c.answer_to.ensures
