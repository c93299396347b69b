use Rattle.std.proofs.Common.{rules, ◌<◌, sym, subst}
use Rattle.lamport_merge.specs.Merge.{RiseAbove, last_time as last_time_in}
use Rattle.lamport_merge.proofs.Rising.{rise_more}
use Rattle.lamport_merge.proofs.log.LocalLog.push.Goals as goal

pub invariant_of-self : goal.invariant_of-self
invariant_of-self c =
    let later : last_time_in 0 c.self.inside.entries.items < c.args.time = search rules in
    subst (RiseAbove 0) (sym c.push_reserved.ensures.items) (rise_more 0 c.self.inside.entries.items c.args.time c.args.event c.self.invariant later)
