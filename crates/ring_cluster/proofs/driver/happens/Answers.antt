use Rattle.std.proofs.Common.{rules}
use Rattle.ring_cluster.proofs.rounds.Doing.{own_falls}
use Rattle.ring_cluster.specs.Seen.{state_of}
use Rattle.ring_cluster.proofs.rounds.Members.{event_at_place}
use Rattle.ring_cluster.proofs.deposits.Owed.{but_handed}
use Rattle.ring_cluster.proofs.rounds.Counting.{did_none, did_one}
use Rattle.ring_cluster.proofs.rounds.Turning.{own_works, works_same}
use Rattle.ring_cluster.proofs.driver.happens.Goals as goal

pub happen-requires : goal.happen-requires
happen-requires c = event_at_place (state_of c.args.cluster.now) c.args.event.now c.args.id.0 c.requires.within.0 c.requires.within.1 c.requires.named

pub returns-in-Ok-clause-does : goal.returns-in-Ok-clause-does
returns-in-Ok-clause-does c = record {
  works = own_works c.args.cluster.now c.happen.new.self c.args.event.now c.is_going.ensures c.requires.own c.in-Ok.ensures.enabled c.in-Ok.ensures.ok;
  falls = λ _. own_falls c.args.cluster.now c.happen.new.self c.args.event.now c.requires.less c.in-Ok.ensures.enabled c.in-Ok.ensures.ok;
  stays = λ x. cc;
}

pub returns-in-Err-NotEnabled-clause-does : goal.returns-in-Err-NotEnabled-clause-does
returns-in-Err-NotEnabled-clause-does c =
    let same = but_handed c.args.cluster.now c.happen.new.self c.in-Err-NotEnabled.ensures.err in
    let refused = c.in-Err-NotEnabled.ensures.reason c.in-Err-NotEnabled.field-0-0 c.in-Err-NotEnabled.field-0-is in
    record { works = works_same c.args.cluster.now c.happen.new.self same; falls = λ x. cc; stays = λ _. (same, λ none. cc) }

pub returns-in-Err-OutOfMemory-clause-does : goal.returns-in-Err-OutOfMemory-clause-does
returns-in-Err-OutOfMemory-clause-does c = record {
  works = works_same c.args.cluster.now c.happen.new.self (but_handed c.args.cluster.now c.happen.new.self c.in-Err-OutOfMemory.ensures.err);
  falls = search rules;
  stays = search rules;
}

pub returns-in-Ok-clause-once : goal.returns-in-Ok-clause-once
returns-in-Ok-clause-once c = did_one _ c.args.cluster.now c.happen.new.self c.args.event.now c.requires.named c.in-Ok.ensures.ok

pub returns-in-Err-NotEnabled-clause-once : goal.returns-in-Err-NotEnabled-clause-once
returns-in-Err-NotEnabled-clause-once c = did_none 1 _ c.args.cluster.now c.happen.new.self (but_handed c.args.cluster.now c.happen.new.self c.in-Err-NotEnabled.ensures.err)

pub returns-in-Err-OutOfMemory-clause-once : goal.returns-in-Err-OutOfMemory-clause-once
returns-in-Err-OutOfMemory-clause-once c = did_none 1 _ c.args.cluster.now c.happen.new.self (but_handed c.args.cluster.now c.happen.new.self c.in-Err-OutOfMemory.ensures.err)
