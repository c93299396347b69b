use Rattle.std.proofs.Common.{ap, refl, ◌∙◌, arith}
use Rattle.std.proofs.lemmas.Grind.{common_steps}
use Rattle.ring_world.specs.Shows.{row_in}
use Rattle.ring_world.proofs.code.Padded.{all_known, known_more, row_more}
use Rattle.ring_world.proofs.plain_member.pad_rows.Goals as goal

pub loop-id-init : goal.loop-id-init
loop-id-init c = record {
  size = grind (arith, common_steps);
  room = omega (arith, c.in_ok-reserve.ensures.ok, c.len.ensures, c.reserve.ensures.len, c.requires);
  known = all_known c.reserve.new.self.items;
  same = λ p. refl;
}

pub loop-id-preserved : goal.loop-id-preserved
loop-id-preserved c = record {
  size = grind (arith, common_steps);
  room = grind (arith, common_steps);
  known = grind (arith, common_steps, known_more);
  same = λ p. ap (λ xs. row_in xs p) c.push_reserved.ensures.items ∙ row_more c.loop-id.rows.items c.opening.result p c.opening.ensures ∙ c.loop-id.invariant.same p;
}
