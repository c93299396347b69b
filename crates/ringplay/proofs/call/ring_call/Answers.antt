use Rattle.ring_io.specs.Contents.{Gains}
use Rattle.ring_io.specs.Count.{Rose}
use Rattle.ringplay.specs.declared.cause.Cause.TheVariants as causes
use Rattle.ringplay.proofs.Dues.{refused_told, right_told, usage_told, large_told, ended_why, ended_so, ended_whole}
use Rattle.ringplay.proofs.call.ring_call.Goals as goal

pub returns-clause-usage_only : goal.returns-clause-usage_only
returns-clause-usage_only g c = λ is.
    let due = c.due_for-due.result in
    ended_why c.args.words.now (g.S.Source.remaining c.args.source.now) (Rose (g.S.Source.faults c.args.source.now) (g.S.Source.faults c.due_for-due.new.source)) due.journal.items due.text.items due.cluster
    due.cause c.due_for-due.ensures.due (Gains g.K.Sink.may_lose_track (g.K.Sink.contents c.args.sink.now) (g.K.Sink.contents c.written.new.sink)) (Rose (g.K.Sink.faults c.args.sink.now) (g.K.Sink.faults c.written.new.sink))
    c.written.result c.written.ensures.written causes.Usage is (λ e. cc) (λ e. cc)

pub returns-clause-usage : goal.returns-clause-usage
returns-clause-usage g c = λ none.
    let due = c.due_for-due.result in
    ended_so c.args.words.now (g.S.Source.remaining c.args.source.now) (Rose (g.S.Source.faults c.args.source.now) (g.S.Source.faults c.due_for-due.new.source)) due.journal.items due.text.items due.cluster
    due.cause c.due_for-due.ensures.due (Gains g.K.Sink.may_lose_track (g.K.Sink.contents c.args.sink.now) (g.K.Sink.contents c.written.new.sink)) (Rose (g.K.Sink.faults c.args.sink.now) (g.K.Sink.faults c.written.new.sink))
    c.written.result c.written.ensures.written causes.Usage
    (usage_told c.args.words.now (g.S.Source.remaining c.args.source.now) (Rose (g.S.Source.faults c.args.source.now) (g.S.Source.faults c.due_for-due.new.source)) due.journal.items due.text.items due.cluster due.cause c.due_for-due.ensures.due none)

pub returns-clause-read_fault_only : goal.returns-clause-read_fault_only
returns-clause-read_fault_only g c = λ is.
    let due = c.due_for-due.result in
    (ended_why c.args.words.now (g.S.Source.remaining c.args.source.now) (Rose (g.S.Source.faults c.args.source.now) (g.S.Source.faults c.due_for-due.new.source)) due.journal.items due.text.items due.cluster
    due.cause c.due_for-due.ensures.due (Gains g.K.Sink.may_lose_track (g.K.Sink.contents c.args.sink.now) (g.K.Sink.contents c.written.new.sink)) (Rose (g.K.Sink.faults c.args.sink.now) (g.K.Sink.faults c.written.new.sink))
    c.written.result c.written.ensures.written causes.ReadFault is (λ e. cc) (λ e. cc))

pub returns-clause-too_large_only : goal.returns-clause-too_large_only
returns-clause-too_large_only g c = λ is.
    let due = c.due_for-due.result in
    ended_why c.args.words.now (g.S.Source.remaining c.args.source.now) (Rose (g.S.Source.faults c.args.source.now) (g.S.Source.faults c.due_for-due.new.source)) due.journal.items due.text.items due.cluster
    due.cause c.due_for-due.ensures.due (Gains g.K.Sink.may_lose_track (g.K.Sink.contents c.args.sink.now) (g.K.Sink.contents c.written.new.sink)) (Rose (g.K.Sink.faults c.args.sink.now) (g.K.Sink.faults c.written.new.sink))
    c.written.result c.written.ensures.written causes.TooLarge is (λ e. cc) (λ e. cc)

pub returns-clause-too_large : goal.returns-clause-too_large
returns-clause-too_large g c = λ asked all asks told large fails.
    let due = c.due_for-due.result in
    ended_so c.args.words.now (g.S.Source.remaining c.args.source.now) (Rose (g.S.Source.faults c.args.source.now) (g.S.Source.faults c.due_for-due.new.source)) due.journal.items due.text.items due.cluster
    due.cause c.due_for-due.ensures.due (Gains g.K.Sink.may_lose_track (g.K.Sink.contents c.args.sink.now) (g.K.Sink.contents c.written.new.sink)) (Rose (g.K.Sink.faults c.args.sink.now) (g.K.Sink.faults c.written.new.sink))
    c.written.result c.written.ensures.written causes.TooLarge
    (large_told c.args.words.now (g.S.Source.remaining c.args.source.now) (Rose (g.S.Source.faults c.args.source.now) (g.S.Source.faults c.due_for-due.new.source)) due.journal.items due.text.items due.cluster due.cause asked all c.due_for-due.ensures.due asks told large fails)

pub returns-clause-script_only : goal.returns-clause-script_only
returns-clause-script_only g c = λ line kind is.
    let due = c.due_for-due.result in
    ended_why c.args.words.now (g.S.Source.remaining c.args.source.now) (Rose (g.S.Source.faults c.args.source.now) (g.S.Source.faults c.due_for-due.new.source)) due.journal.items due.text.items due.cluster
    due.cause c.due_for-due.ensures.due (Gains g.K.Sink.may_lose_track (g.K.Sink.contents c.args.sink.now) (g.K.Sink.contents c.written.new.sink)) (Rose (g.K.Sink.faults c.args.sink.now) (g.K.Sink.faults c.written.new.sink))
    c.written.result c.written.ensures.written (causes.Script line kind) is (λ e. cc) (λ e. cc)

pub returns-clause-illegal_only : goal.returns-clause-illegal_only
returns-clause-illegal_only g c = λ line code is.
    let due = c.due_for-due.result in
    ended_why c.args.words.now (g.S.Source.remaining c.args.source.now) (Rose (g.S.Source.faults c.args.source.now) (g.S.Source.faults c.due_for-due.new.source)) due.journal.items due.text.items due.cluster
    due.cause c.due_for-due.ensures.due (Gains g.K.Sink.may_lose_track (g.K.Sink.contents c.args.sink.now) (g.K.Sink.contents c.written.new.sink)) (Rose (g.K.Sink.faults c.args.sink.now) (g.K.Sink.faults c.written.new.sink))
    c.written.result c.written.ensures.written (causes.Illegal line code) is (λ e. cc) (λ e. cc)

pub returns-clause-unreadable_only : goal.returns-clause-unreadable_only
returns-clause-unreadable_only g c = λ line kind is.
    let due = c.due_for-due.result in
    ended_why c.args.words.now (g.S.Source.remaining c.args.source.now) (Rose (g.S.Source.faults c.args.source.now) (g.S.Source.faults c.due_for-due.new.source)) due.journal.items due.text.items due.cluster
    due.cause c.due_for-due.ensures.due (Gains g.K.Sink.may_lose_track (g.K.Sink.contents c.args.sink.now) (g.K.Sink.contents c.written.new.sink)) (Rose (g.K.Sink.faults c.args.sink.now) (g.K.Sink.faults c.written.new.sink))
    c.written.result c.written.ensures.written (causes.Unreadable line kind) is (λ e. cc) (λ e. cc)

pub returns-clause-refused : goal.returns-clause-refused
returns-clause-refused g c = λ asked all cause asks told within refused fails.
    let due = c.due_for-due.result in
    ended_so c.args.words.now (g.S.Source.remaining c.args.source.now) (Rose (g.S.Source.faults c.args.source.now) (g.S.Source.faults c.due_for-due.new.source)) due.journal.items due.text.items due.cluster
    due.cause c.due_for-due.ensures.due (Gains g.K.Sink.may_lose_track (g.K.Sink.contents c.args.sink.now) (g.K.Sink.contents c.written.new.sink)) (Rose (g.K.Sink.faults c.args.sink.now) (g.K.Sink.faults c.written.new.sink))
    c.written.result c.written.ensures.written cause
    (refused_told c.args.words.now (g.S.Source.remaining c.args.source.now) (Rose (g.S.Source.faults c.args.source.now) (g.S.Source.faults c.due_for-due.new.source)) due.journal.items due.text.items due.cluster due.cause cause asked all c.due_for-due.ensures.due asks told within refused fails)

pub returns-clause-complete : goal.returns-clause-complete
returns-clause-complete g c = λ asked all asks told within right fails lost.
    let due = c.due_for-due.result in
    ended_whole c.args.words.now (g.S.Source.remaining c.args.source.now) (Rose (g.S.Source.faults c.args.source.now) (g.S.Source.faults c.due_for-due.new.source)) due.journal.items due.text.items due.cluster
    due.cause c.due_for-due.ensures.due (Gains g.K.Sink.may_lose_track (g.K.Sink.contents c.args.sink.now) (g.K.Sink.contents c.written.new.sink)) (Rose (g.K.Sink.faults c.args.sink.now) (g.K.Sink.faults c.written.new.sink))
    c.written.result c.written.ensures.written asked
    (right_told c.args.words.now (g.S.Source.remaining c.args.source.now) (Rose (g.S.Source.faults c.args.source.now) (g.S.Source.faults c.due_for-due.new.source)) due.journal.items due.text.items due.cluster due.cause asked all c.due_for-due.ensures.due asks told within right fails) lost
