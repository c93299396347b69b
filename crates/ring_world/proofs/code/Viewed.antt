-- What the code needs of a state whose views are one more.
use Rattle.std.proofs.Common.{◌<◌, arith}
use Rattle.std.proofs.lemmas.List.{length_push}
use Rattle.group_view.specs.View.{Group}
use Rattle.ring_rules.specs.Machine.{World, newest}
use Rattle.ring_rules.specs.Step.{with_view}
use Rattle.ring_world.specs.Placed.{IsPlaced}

pub viewed_placed : (w : World) (v : Group) → newest w < 256 → IsPlaced w → IsPlaced (with_view w v)
viewed_placed w v few h =
    let more = length_push w.views v in
    record {
      few = h.few;
      versions = omega (arith, more, few);
      some = omega (arith, more, h.some);
      rows = h.rows;
      row = h.row;
      own = h.own;
      out = h.out;
      current = h.current;
      held = λ x. omega (arith, more, h.held x);
      from_one = h.from_one;
      opened = h.opened;
      upto = λ s l. omega (arith, more, h.upto s l);
    }
