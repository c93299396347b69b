use Rattle.std.proofs.Common.{[]}
use Rattle.ring_parties.specs.declared.party.Party.{Party}
use Rattle.ring_parties.specs.Turn.{Acted}
use Rattle.ring_parties.proofs.turns.Passing.{acted_none}
use Rattle.ring_parties.proofs.turns.Same.{acted_same}
use Rattle.ring_parties.proofs.turns.Saying.{said_acted}
use Rattle.ring_parties.proofs.turns.Failing.{on_err_any}
use Rattle.ring_parties.proofs.turn.say.Goals as goal

pub returns-in_err-message-clause-err : goal.returns-in_err-message-clause-err
returns-in_err-message-clause-err c = on_err_any (Acted [] c.args.party.now c.args.party.now) c.from_residual.result (acted_none c.args.party.now c.requires.may)

pub returns-in-Ok-clause-ok : goal.returns-in-Ok-clause-ok
returns-in-Ok-clause-ok c =
    let old : Party = c.args.party.now in
    let new : Party = c.publish.new.party in
    said_acted c.args.event.now old new c.in_ok-message.message c.requires.may c.requires.says c.requires.own c.requires.enabled c.in_ok-message.ensures c.in-Ok.ensures.ok c.in-Ok.ensures.keeps c.in-Ok.ensures.ends c.in-Ok.ensures.recorded c.in-Ok.ensures.spare

pub returns-in-Err-clause-err : goal.returns-in-Err-clause-err
returns-in-Err-clause-err c =
    let old : Party = c.args.party.now in
    let new : Party = c.publish.new.party in
    acted_same old new c.requires.may c.in-Err.ensures.unrecorded c.in-Err.ensures.spare c.in-Err.ensures.err c.in-Err.ensures.ends c.in-Err.ensures.err_keeps
