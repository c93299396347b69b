use Rattle.std.proofs.Common.{◌≡◌, refl, ap, ◌∙◌, []}
use Rattle.lamport_merge.specs.Recorder.{noted}
use Rattle.ring_rules.specs.declared.event.Client.{Client}
use Rattle.ring_rules.specs.declared.event.Event.TheVariants as event
use Rattle.gm_member.specs.Shown.{recorded_of}
use Rattle.ring_parties.specs.declared.party.Party.{Party}
use Rattle.ring_parties.specs.Turn.{Acted}
use Rattle.ring_parties.proofs.turns.Passing.{acted_none}
use Rattle.ring_parties.proofs.turns.Same.{acted_same, shows_same}
use Rattle.ring_parties.proofs.turns.Saying.{refused_acted}
use Rattle.ring_parties.proofs.turns.Failing.{on_err_any}
use Rattle.ring_parties.proofs.turn.refuse.Goals as goal

pub returns-in_err-copy-clause-err : goal.returns-in_err-copy-clause-err
returns-in_err-copy-clause-err c = on_err_any (Acted [] c.args.party.now c.args.party.now) c.from_residual.result (acted_none c.args.party.now c.requires.may)

pub returns-in-Ok-clause-ok : goal.returns-in-Ok-clause-ok
returns-in-Ok-clause-ok c =
    let old : Party = c.args.party.now in
    let new : Party = record c.args.party.now { node = c.refuse.new.self } in
    let told : recorded_of c.refuse.new.self ≡ noted (event.Refuse c.args.code c.args.task.now) (recorded_of c.args.party.now.node) =
    c.in-Ok.ensures.records.ok ∙ ap (λ (t : Client). noted (event.Refuse c.args.code t) (recorded_of c.args.party.now.node)) c.in_ok-copy.ensures in
    refused_acted c.args.code c.args.task.now old new c.requires.may c.requires.own c.requires.told told c.in-Ok.ensures.records.spare c.in-Ok.ensures.held c.in-Ok.ensures.ends refl

pub returns-in-Err-clause-err : goal.returns-in-Err-clause-err
returns-in-Err-clause-err c =
    let old : Party = c.args.party.now in
    let new : Party = record c.args.party.now { node = c.refuse.new.self } in
    acted_same old new c.requires.may c.in-Err.ensures.records.err c.in-Err.ensures.records.spare (shows_same old new c.in-Err.ensures.held c.in-Err.ensures.ends) c.in-Err.ensures.ends refl
