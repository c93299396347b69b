use Rattle.std.proofs.Common.{◌≡◌, ℕ, ◌+◌, ◌-◌, ◌++◌, [], ◌∷◌, map, reverse, drop, ap, sym, ◌∙◌, arith}
use Rattle.std.proofs.lemmas.Grind.{common_steps}
use Rattle.std.proofs.lemmas.List.{append-nil}
use Rattle.std.proofs.Math.Seq.{drop-length}
use Rattle.ring_world.specs.Shows.{packet_of}
use Rattle.ring_world.specs.Walking.{says}
use Rattle.ring_world.proofs.rings.Told.{told_more}
use Rattle.ring_world.proofs.walk.push_packets.Goals as goal

pub loop-k-init : goal.loop-k-init
loop-k-init c = sym (ap (λ ks. c.args.walk.now.items ++ map (says c.args.round c.args.origin) (reverse (map packet_of ks))) (drop-length c.args.packets.now) ∙ append-nil c.args.walk.now.items)

pub loop-k-preserved : goal.loop-k-preserved
loop-k-preserved c =
    let k : ℕ = c.loop-k.k - 1 in
    let more : c.loop-k.k ≡ k + 1 = omega (arith, c.loop-k-test.true) in
    let pushed : c.push.new.self.items ≡ c.loop-k.walk.items ++ c.of_packet.result ∷ [] = grind (arith, common_steps) in
    pushed ∙ ap (λ n. c.loop-k.walk.items ++ n ∷ []) (c.of_packet.ensures ∙ ap (λ x. says c.args.round c.args.origin (packet_of x)) c.index-packets-k.is)
    ∙ told_more packet_of (says c.args.round c.args.origin) c.args.packets.now k c.index-packets-k.result c.args.walk.now.items c.loop-k.walk.items (omega (arith, more, c.loop-k.auto.k))
    (c.loop-k.invariant ∙ ap (λ n. c.args.walk.now.items ++ map (says c.args.round c.args.origin) (reverse (map packet_of (drop n c.args.packets.now)))) more)

pub returns : goal.returns
returns c = c.loop-k.invariant ∙ ap (λ n. c.args.walk.now.items ++ map (says c.args.round c.args.origin) (reverse (map packet_of (drop n c.args.packets.now)))) (let none : c.loop-k.k ≡ 0 = omega (arith, c.loop-k-test.false) in none)
