use Rattle.std.proofs.Common.{◌≡◌, ℕ, ◌<◌, ◌≤◌, length, arith}
use Rattle.std.proofs.lemmas.Grind.{common_steps}
use Rattle.ring_world.specs.Copied.{room_of}
use Rattle.ring_world.proofs.code.ShownParts.{at_mapped_set}
use Rattle.ring_world.proofs.code.OfCopies.{rewrite_copy}
use Rattle.ring_world.proofs.copies.make_room.Goals as goal

pub loop-k-preserved : goal.loop-k-preserved
loop-k-preserved c = record {
  same = grind (arith, common_steps, rewrite_copy);
  room = λ j l.
      let k : ℕ = c.loop-k.k in
      let kl : k < length c.loop-k.copies = omega (arith, c.loop-k.auto.copies) in
      at_mapped_set (λ _ r. 3 ≤ r) room_of c.loop-k.copies k j c.make_room.new.self 0 kl c.in_ok-make_room.ensures.room (λ ne. c.loop-k.invariant.room j (omega arith));
}
