use Rattle.std.proofs.Common.{◌≡◌, ℕ, suc, ◌<◌, ◌+◌, ◌-◌, ◌++◌, filter, length, ap, ◌∙◌, arith}
use Rattle.std.specs.List.{range_with_len}
use Rattle.ring_rules.specs.Machine.{World}
use Rattle.ring_rules.specs.OpenLinks.{is_open, packets_of}
use Rattle.ring_world.specs.Shows.{world_of}
use Rattle.ring_world.specs.Walking.{says, counts, said_on}
use Rattle.ring_world.proofs.rings.Told.{gathered_more}
use Rattle.ring_world.proofs.walk.push_open.Goals as goal

pub loop-s-preserved : goal.loop-s-preserved
loop-s-preserved c =
    let w : World = world_of c.args.ring.now in
    let y : ℕ = suc c.args.place in
    let s : ℕ = c.loop-s.s - 1 in
    let n : ℕ = length c.args.ring.now.links.items in
    let more : c.loop-s.s ≡ s + 1 = omega (arith, c.loop-s-test.true) in
    let within : s < n = omega (arith, more, c.loop-s.auto.s, c.len-s.ensures, c.args.ring.now.links.ok.0) in
    c.in_ok-push_link.ensures
    ∙ gathered_more (says c.args.of.round c.args.of.origin) (packets_of w y) (counts c.args.of.part w c.args.of.origin y) (is_open w y) s n c.args.walk.now.items c.loop-s.walk.items within
    (c.loop-s.invariant ∙ ap (λ k. c.args.walk.now.items ++ said_on c.args.of.round c.args.of.part w c.args.of.origin y (filter (is_open w y) (range_with_len k (n - k)))) more)
