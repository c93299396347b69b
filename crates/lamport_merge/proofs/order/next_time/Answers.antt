use Rattle.std.proofs.Common.{rules, ◌≡◌, ◌<◌, length, get_or}
use Rattle.lamport_merge.proofs.Nexts.{read_left}
use Rattle.lamport_merge.proofs.order.next_time.Goals as goal

pub returns-in-Some : goal.returns-in-Some
returns-in-Some c =
    let inside : c.args.next < length c.args.log.now.entries = search rules in
    let read : c.in-Some.entry.now ≡ get_or c.args.log.now.entries c.args.next c.in-Some.entry.now = search rules in
    read_left c.args.log.now.entries c.args.next c.in-Some.entry.now inside read
