use Rattle.std.proofs.Common.{◌≡◌, arith, refl, ap, ◌∙◌}
use Rattle.ring_script.specs.declared.command.Command.TheVariants as command
use Rattle.ring_cluster.proofs.rounds.Doing.{gone_noted, gone_into, noted, settle_plays, settle_played, same_plays}
use Rattle.ring_cluster.proofs.rounds.Numbers.{gives_within, gives_none, gives_beside, on_err}
use Rattle.ring_cluster.proofs.cluster.Cluster.settle.Goals as goal

pub returns-in-Ok-clause-plays : goal.returns-in-Ok-clause-plays
returns-in-Ok-clause-plays g c =
    settle_plays c.args.self.now c.work_out.new.self c.in-Ok.ensures.going
    (gone_noted c.args.self.now c.note.new.self c.work_out.new.self _ c.in_ok-note.ensures.ok c.in-Ok.ensures.goes) c.in-Ok.ensures.empty c.in-Ok.ensures.quiet
    (noted c.args.self.now c.note.new.self c.work_out.new.self command.Settle c.in_ok-note.ensures.ok c.in-Ok.ensures.given)

pub returns-in-Ok-clause-played : goal.returns-in-Ok-clause-played
returns-in-Ok-clause-played g c =
    settle_played c.args.self.now c.work_out.new.self c.in-Ok.ensures.going
    (gone_noted c.args.self.now c.note.new.self c.work_out.new.self _ c.in_ok-note.ensures.ok c.in-Ok.ensures.goes) c.in-Ok.ensures.empty c.in-Ok.ensures.quiet
    (noted c.args.self.now c.note.new.self c.work_out.new.self command.Settle c.in_ok-note.ensures.ok c.in-Ok.ensures.given)

pub returns-in-Err-clause-plays : goal.returns-in-Err-clause-plays
returns-in-Err-clause-plays g c =
    let is : c.forget_note.new.self ≡ record c.work_out.new.self { given = c.args.self.now.given } = c.forget_note.ensures c.args.self.now.given command.Settle (c.in-Err.ensures.given ∙ ap (λ y. y.given) c.in_ok-note.ensures.ok) in
    same_plays c.args.self.now c.forget_note.new.self
    (gone_into c.args.self.now c.work_out.new.self c.forget_note.new.self _ is
    (gone_noted c.args.self.now c.note.new.self c.work_out.new.self _ c.in_ok-note.ensures.ok c.in-Err.ensures.goes))
    (ap (λ y. y.given) is)

pub returns-in-Ok-clause-rounds : goal.returns-in-Ok-clause-rounds
returns-in-Ok-clause-rounds g c = gives_beside 2 65 c.args.self.now c.note.new.self c.work_out.new.self c.work_out.new.self (ap (λ x. x.rounds) c.in_ok-note.ensures.ok) refl c.in-Ok.ensures.rounds

pub returns-in-Err-clause-rounds_begun : goal.returns-in-Err-clause-rounds_begun
returns-in-Err-clause-rounds_begun g c =
    let is : c.forget_note.new.self ≡ record c.work_out.new.self { given = c.args.self.now.given } = c.forget_note.ensures c.args.self.now.given command.Settle (c.in-Err.ensures.given ∙ ap (λ y. y.given) c.in_ok-note.ensures.ok) in
    gives_within 1 65 0 65 c.args.self.now c.forget_note.new.self (omega arith) (omega arith)
    (gives_beside 1 65 c.args.self.now c.note.new.self c.work_out.new.self c.forget_note.new.self (ap (λ x. x.rounds) c.in_ok-note.ensures.ok) (ap (λ x. x.rounds) is) c.in-Err.ensures.rounds_begun)

pub returns-in_err-note-clause-rounds_begun : goal.returns-in_err-note-clause-rounds_begun
returns-in_err-note-clause-rounds_begun g c = on_err c.from_residual.result _ (gives_none 65 c.args.self.now c.note.new.self c.is_going.ensures (ap (λ x. x.rounds) c.in_err-note.ensures.err))
