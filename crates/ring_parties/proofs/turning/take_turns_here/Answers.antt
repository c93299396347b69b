use Rattle.std.proofs.Common.{◌<◌, length, map, get_or, arith}
use Rattle.std.proofs.lemmas.Option.{slice_get-get_or}
use Rattle.ring_parties.specs.declared.party.Party.{Party}
use Rattle.ring_parties.proofs.pairs.Each.{at_here}
use Rattle.ring_parties.proofs.pairs.AllTurns.{no_turns, turn_at, task_there, turns_next, turns_all}
use Rattle.ring_parties.proofs.turning.take_turns_here.Goals as goal

pub loop-place-init : goal.loop-place-init
loop-place-init g c = no_turns c.args.turns (map (λ t. t.now) c.args.tasks.now) c.args.members.now c.args.done.now c.requires.none c.requires.done

pub take_round-taken-requires-clause-may : goal.take_round-taken-requires-clause-may
take_round-taken-requires-clause-may g c κs within =
    let l : c.loop-place.place < length c.loop-place.members = omega (arith, c.loop-place-test.true, c.loop-place.auto.members) in
    let x : Party = get_or c.loop-place.members c.loop-place.place c.index-members-place.result in
    c.requires.may.may c.loop-place.place x (turn_at c.args.turns (map (λ t. t.now) c.args.tasks.now) c.loop-place.place c.args.members.now c.loop-place.members c.loop-place.done x c.loop-place.invariant
    (at_here c.loop-place.members c.loop-place.place c.index-members-place.result l))

pub take_round-taken-requires-clause-room : goal.take_round-taken-requires-clause-room
take_round-taken-requires-clause-room g c κs within =
    let l : c.loop-place.place < length c.loop-place.members = omega (arith, c.loop-place-test.true, c.loop-place.auto.members) in
    let x : Party = get_or c.loop-place.members c.loop-place.place c.index-members-place.result in
    c.requires.may.room c.loop-place.place x (turn_at c.args.turns (map (λ t. t.now) c.args.tasks.now) c.loop-place.place c.args.members.now c.loop-place.members c.loop-place.done x c.loop-place.invariant
    (at_here c.loop-place.members c.loop-place.place c.index-members-place.result l))

pub take_round-taken-requires-clause-own : goal.take_round-taken-requires-clause-own
take_round-taken-requires-clause-own g c κs within =
    let l : c.loop-place.place < length c.loop-place.members = omega (arith, c.loop-place-test.true, c.loop-place.auto.members) in
    let k : c.loop-place.place < length c.args.tasks.now = omega (arith, c.loop-place-test.true, c.requires.tasks) in
    let x : Party = get_or c.loop-place.members c.loop-place.place c.index-members-place.result in
    c.requires.may.own c.loop-place.place x c.index-tasks-place.result.now
    (turn_at c.args.turns (map (λ t. t.now) c.args.tasks.now) c.loop-place.place c.args.members.now c.loop-place.members c.loop-place.done x c.loop-place.invariant
    (at_here c.loop-place.members c.loop-place.place c.index-members-place.result l))
    (task_there (λ t. t.now) c.args.tasks.now c.loop-place.place c.index-tasks-place.result k c.index-tasks-place.is)

pub take_round-taken-requires-clause-none : goal.take_round-taken-requires-clause-none
take_round-taken-requires-clause-none g c κs within =
    let k : c.loop-place.place < length c.loop-place.done = omega (arith, c.loop-place-test.true, c.loop-place.invariant.count) in
    c.loop-place.invariant.none c.loop-place.place (get_or c.loop-place.done c.loop-place.place 0) (omega arith) (slice_get-get_or c.loop-place.done c.loop-place.place 0 k)

pub loop-place-preserved : goal.loop-place-preserved
loop-place-preserved g c =
    let l : c.loop-place.place < length c.loop-place.members = omega (arith, c.loop-place-test.true, c.loop-place.auto.members) in
    let k : c.loop-place.place < length c.args.tasks.now = omega (arith, c.loop-place-test.true, c.requires.tasks) in
    let d : c.loop-place.place < length c.loop-place.done = omega (arith, c.loop-place-test.true, c.loop-place.invariant.count) in
    turns_next c.args.turns (map (λ t. t.now) c.args.tasks.now) c.loop-place.place c.args.members.now c.loop-place.members c.loop-place.done
    (get_or c.loop-place.members c.loop-place.place c.index-members-place.result) c.take_round-taken.new.party c.index-tasks-place.result.now c.take_round-taken.new.done
    c.loop-place.invariant
    (at_here c.loop-place.members c.loop-place.place c.index-members-place.result l)
    (task_there (λ t. t.now) c.args.tasks.now c.loop-place.place c.index-tasks-place.result k c.index-tasks-place.is)
    d c.take_round-taken.ensures

pub returns-clause-turns : goal.returns-clause-turns
returns-clause-turns g c = turns_all c.args.turns (map (λ t. t.now) c.args.tasks.now) c.loop-place.place c.args.members.now c.loop-place.members c.loop-place.done
    (omega (arith, c.loop-place-test.false, c.loop-place.auto.members, c.loop-place.auto.place-end)) c.loop-place.invariant
