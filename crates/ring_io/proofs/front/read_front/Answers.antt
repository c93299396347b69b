use Rattle.std.proofs.Common.{◌≡◌, ◌≤◌, length, take, drop, arith}
use Rattle.std.proofs.lemmas.Grind.{common_steps}
use Rattle.ring_io.proofs.Fronts.{front_split}
use Rattle.ring_io.proofs.front.read_front.Goals as goal

pub returns-clause-split : goal.returns-clause-split
returns-clause-split c =
    let left = drop c.args.at c.args.bytes.now in
    let n = c.min-n.result in
    let copied : c.copy_from_slice.new.self ≡ take n left = grind (arith, common_steps) in
    let fits : n ≤ length left = grind (arith, common_steps) in
    front_split _ _ _ _ _ copied fits
