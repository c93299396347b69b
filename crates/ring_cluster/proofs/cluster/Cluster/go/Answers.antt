use Rattle.std.proofs.Common.{◌≡◌, refl, ap, ◌∙◌}
use Rattle.ring_script.specs.declared.command.Command.TheVariants as command
use Rattle.ring_cluster.proofs.deposits.Owed.{but_same}
use Rattle.ring_cluster.proofs.rounds.Counting.{each_none, each_beside}
use Rattle.ring_cluster.proofs.rounds.Doing.{gone_from, gone_into, round_heads, given_after, go_plays, same_plays}
use Rattle.ring_cluster.proofs.rounds.Turning.{works_same}
use Rattle.ring_cluster.proofs.cluster.Cluster.go.Goals as goal

pub returns-in-Ok-clause-heads : goal.returns-in-Ok-clause-heads
returns-in-Ok-clause-heads g c = round_heads c.args.self.now c.number_round.new.self c.note.new.self c.take_round.new.self _ _ c.number_round.ensures c.in_ok-note.ensures.ok c.in-Ok.ensures.round.goes c.in-Ok.ensures.begun

pub returns-in-Ok-clause-plays : goal.returns-in-Ok-clause-plays
returns-in-Ok-clause-plays g c = go_plays c.args.self.now c.take_round.new.self c.args.turns
    (gone_from c.args.self.now c.number_round.new.self c.note.new.self c.take_round.new.self _ _ c.number_round.ensures c.in_ok-note.ensures.ok c.in-Ok.ensures.round.goes)
    (given_after c.args.self.now c.number_round.new.self c.note.new.self c.take_round.new.self _ (command.Go c.args.turns) c.number_round.ensures c.in_ok-note.ensures.ok c.in-Ok.ensures.round.given.0)

pub returns-in-Err-clause-plays : goal.returns-in-Err-clause-plays
returns-in-Err-clause-plays g c =
    let is : c.forget_note.new.self ≡ record c.take_round.new.self { given = c.number_round.new.self.given } = c.forget_note.ensures c.number_round.new.self.given (command.Go c.args.turns) (c.in-Err.ensures.round.given.0 ∙ ap (λ y. y.given) c.in_ok-note.ensures.ok) in
    same_plays c.args.self.now c.forget_note.new.self
    (gone_into c.args.self.now c.take_round.new.self c.forget_note.new.self _ is
    (gone_from c.args.self.now c.number_round.new.self c.note.new.self c.take_round.new.self _ _ c.number_round.ensures c.in_ok-note.ensures.ok c.in-Err.ensures.round.goes))
    (ap (λ y. y.given) is ∙ ap (λ y. y.given) c.number_round.ensures)

pub returns-in-Ok-clause-few : goal.returns-in-Ok-clause-few
returns-in-Ok-clause-few g c = each_beside c.args.turns c.args.self.now c.note.new.self c.take_round.new.self c.take_round.new.self (ap (λ x. x.events) c.in_ok-note.ensures.ok ∙ ap (λ x. x.events) c.number_round.ensures) refl c.in-Ok.ensures.few

pub returns-in-Err-clause-few : goal.returns-in-Err-clause-few
returns-in-Err-clause-few g c =
    let is : c.forget_note.new.self ≡ record c.take_round.new.self { given = c.number_round.new.self.given } = c.forget_note.ensures c.number_round.new.self.given (command.Go c.args.turns) (c.in-Err.ensures.round.given.0 ∙ ap (λ y. y.given) c.in_ok-note.ensures.ok) in
    each_beside c.args.turns c.args.self.now c.note.new.self c.take_round.new.self c.forget_note.new.self (ap (λ x. x.events) c.in_ok-note.ensures.ok ∙ ap (λ x. x.events) c.number_round.ensures) (ap (λ x. x.events) is) c.in-Err.ensures.few

pub returns-in_err-note-clause-few : goal.returns-in_err-note-clause-few
returns-in_err-note-clause-few g c = each_none c.args.turns c.args.self.now c.note.new.self (ap (λ x. x.events) c.in_err-note.ensures.err ∙ ap (λ x. x.events) c.number_round.ensures)

pub returns-in_err-note-clause-goes : goal.returns-in_err-note-clause-goes
returns-in_err-note-clause-goes g c =
    gone_from c.args.self.now c.number_round.new.self c.number_round.new.self c.note.new.self _ _ c.number_round.ensures refl
    (works_same c.number_round.new.self c.note.new.self (but_same c.number_round.new.self c.note.new.self c.in_err-note.ensures.err)).round.goes

pub returns-in-Ok-clause-goes : goal.returns-in-Ok-clause-goes
returns-in-Ok-clause-goes g c = gone_from c.args.self.now c.number_round.new.self c.note.new.self c.take_round.new.self _ _ c.number_round.ensures c.in_ok-note.ensures.ok c.in-Ok.ensures.round.goes

pub returns-in-Err-clause-goes : goal.returns-in-Err-clause-goes
returns-in-Err-clause-goes g c =
    let is : c.forget_note.new.self ≡ record c.take_round.new.self { given = c.number_round.new.self.given } = c.forget_note.ensures c.number_round.new.self.given (command.Go c.args.turns) (c.in-Err.ensures.round.given.0 ∙ ap (λ y. y.given) c.in_ok-note.ensures.ok) in
    gone_into c.args.self.now c.take_round.new.self c.forget_note.new.self _ is
    (gone_from c.args.self.now c.number_round.new.self c.note.new.self c.take_round.new.self _ _ c.number_round.ensures c.in_ok-note.ensures.ok c.in-Err.ensures.round.goes)
