use Rattle.std.proofs.Common.{ap}
use Rattle.group_view.specs.View.{is_dead_mark}
use Rattle.ring_cluster.specs.Seen.{state_of}
use Rattle.ring_cluster.proofs.rounds.Resting.{erases_it, erases_not}
use Rattle.ring_cluster.proofs.rounds.Named.{going_fit, going_ring}
use Rattle.ring_cluster.proofs.rounds.Settling.{entry_there, not_dead_stays}
use Rattle.ring_cluster.proofs.driver.may_erase.Goals as goal

pub name_of-origin-requires : goal.name_of-origin-requires
name_of-origin-requires c =
    let k = c.args.cluster.now in
    let there = entry_there (state_of k) c.args.entry.now (going_ring k c.is_going.ensures) c.requires.entry in
    there

pub returns-in-Dead-clause-may : goal.returns-in-Dead-clause-may
returns-in-Dead-clause-may c = λ t.
    let k = c.args.cluster.now in
    let there = entry_there (state_of k) c.args.entry.now (going_ring k c.is_going.ensures) c.requires.entry in
    erases_it (state_of k) c.args.id.0 c.args.entry.now.id c.name_of-origin.result c.requires.within.0 there.0 there.1 c.name_of-origin.ensures (c.may_erase.ensures.may t)

pub returns-in-Dead-clause-may_not : goal.returns-in-Dead-clause-may_not
returns-in-Dead-clause-may_not c = λ t.
    let k = c.args.cluster.now in
    let there = entry_there (state_of k) c.args.entry.now (going_ring k c.is_going.ensures) c.requires.entry in
    erases_not (state_of k) c.args.id.0 c.args.entry.now.id.0 c.name_of-origin.result (going_fit k c.is_going.ensures) c.requires.within.0 c.requires.within.1 there.0 there.1 c.requires.up c.name_of-origin.ensures (c.may_erase.ensures.may_not t)

pub returns-in-Live-clause-may_not : goal.returns-in-Live-clause-may_not
returns-in-Live-clause-may_not c = λ _. not_dead_stays (state_of c.args.cluster.now) c.args.id.0 c.args.entry.now (going_ring c.args.cluster.now c.is_going.ensures) c.requires.entry (ap is_dead_mark c.in-Live.is)

pub returns-in-Erased-clause-may_not : goal.returns-in-Erased-clause-may_not
returns-in-Erased-clause-may_not c = λ _. not_dead_stays (state_of c.args.cluster.now) c.args.id.0 c.args.entry.now (going_ring c.args.cluster.now c.is_going.ensures) c.requires.entry (ap is_dead_mark c.in-Erased.is)
