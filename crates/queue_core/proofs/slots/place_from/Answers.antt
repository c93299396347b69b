use Rattle.std.proofs.Common.{rules, of_calls, ◌≤◌, length, arith}
use Rattle.std.specs.Prelude.{not, nat_le}
use Rattle.std.proofs.lemmas.List.Sorted.{IsPartitionPoint-from_clause}
use Rattle.queue_core.specs.Queue.{Item}
use Rattle.queue_core.proofs.Places.{below_first, from_there}
use Rattle.queue_core.proofs.slots.place_from.Goals as goal

pub returns : goal.returns
returns c =
    let within : c.partition_point.result ≤ length c.args.slots.now.items = omega (arith, c.partition_point.ensures.bound, c.args.slots.now.ok.0) in
    from_there c.args.at c.args.slots.now.items c.partition_point.result within
    (IsPartitionPoint-from_clause (λ (i : Item). not (nat_le c.args.at i.at)) c.args.slots.now.items c.partition_point.result c.partition_point.ensures.partitioned
    (below_first c.args.at c.args.slots.now.items c.requires) (λ a r f k. search (rules, of_calls)))
