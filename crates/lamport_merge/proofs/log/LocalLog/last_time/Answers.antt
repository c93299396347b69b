use Rattle.std.proofs.Common.{rules, ◌≡◌, ◌<◌, ◌-◌, length, get_or}
use Rattle.lamport_merge.proofs.Rising.{last_there}
use Rattle.lamport_merge.proofs.log.LocalLog.last_time.Goals as goal

pub returns-in-Some : goal.returns-in-Some
returns-in-Some c =
    let some : 0 < length c.args.self.now.entries = search rules in
    let last : c.in-Some.entry.now ≡ get_or c.args.self.now.entries (length c.args.self.now.entries - 1) c.in-Some.entry.now = search rules in
    last_there 0 c.args.self.now.entries c.in-Some.entry.now some last
