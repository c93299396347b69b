use Rattle.std.proofs.Common.{refl}
use Rattle.ring_parties.specs.declared.party.Party.{Party}
use Rattle.ring_rules.specs.declared.event.Event.TheVariants.{Put}
use Rattle.ring_parties.proofs.turns.Puts.{put_acted, put_not}
use Rattle.ring_parties.proofs.turns.Tries.{tries_did, tries_not, tries_in_vain}
use Rattle.ring_parties.proofs.turn.put.Goals as goal

pub returns-in-Ok : goal.returns-in-Ok
returns-in-Ok c =
    let p = c.in-Ok.ensures.puts in
    let old : Party = c.args.party.now in
    let new : Party = record c.args.party.now { node = c.put.new.self } in
    tries_did _ old new (Put old.node.name) refl (put_acted old new c.requires.may p.packet p.ok c.in-Ok.ensures.heeds.enabled p.records.ok refl p.records.spare)

pub returns-in-Err-Refused : goal.returns-in-Err-Refused
returns-in-Err-Refused c =
    let p = c.in-Err-Refused.ensures.puts in
    let old : Party = c.args.party.now in
    let new : Party = record c.args.party.now { node = c.put.new.self } in
    tries_not _ old new (put_not old new c.requires.may p.looks p.err p.records.err refl p.records.spare)

pub returns-in-Err-OutOfMemory : goal.returns-in-Err-OutOfMemory
returns-in-Err-OutOfMemory c =
    let p = c.in-Err-OutOfMemory.ensures.puts in
    let old : Party = c.args.party.now in
    let new : Party = record c.args.party.now { node = c.put.new.self } in
    tries_in_vain _ old new _ (put_not old new c.requires.may p.looks p.err p.records.err refl p.records.spare)
