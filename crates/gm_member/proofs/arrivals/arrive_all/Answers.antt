use Rattle.std.proofs.Common.{◌≡◌, ◌∷◌, ◌++◌, length, not, sym, ap, ◌∙◌, arith}
use Rattle.std.specs.Vec.Iter.{into_iter_items}
use Rattle.gm_member.specs.Arrivals.{joins, arrived_link, arrived_end, joined_links, turned_ends}
use Rattle.gm_member.proofs.Arriving.{came_more}
use Rattle.gm_member.proofs.arrivals.arrive_all.Goals as goal

pub loop-link-preserved : goal.loop-link-preserved
loop-link-preserved g c =
    let at = c.loop-link in
    let v = c.args.view.now in
    let y = c.args.id.0 in
    let rest = into_iter_items c.next.new.self in
    let steps : into_iter_items at.link-iterator ≡ c.in-Some.link ∷ rest = c.in-Some.ensures.steps.0 in
    let gone = c.in-Some.ensures.steps.1 in
    let short = ap length steps in
    record {
      door =
          ap (λ ds. ds ++ joined_links v y c.args.credit rest) c.arrive.ensures.door
          ∙ came_more (joins v y) (arrived_link c.args.credit) c.in-Some.link rest at.door.items
          ∙ ap (λ xs. at.door.items ++ joined_links v y c.args.credit xs) (sym steps) ∙ at.invariant.door;
      left =
          ap (λ ds. ds ++ turned_ends v y rest) c.arrive.ensures.left
          ∙ came_more (λ d. not (joins v y d)) (arrived_end y) c.in-Some.link rest at.left.items
          ∙ ap (λ xs. at.left.items ++ turned_ends v y xs) (sym steps) ∙ at.invariant.left;
      rest = omega (arith, at.invariant.rest, gone, short);
      more = omega (arith, at.invariant.more, c.arrive.ensures.more, short);
      room = omega (arith, at.invariant.room, c.arrive.ensures.door_len, c.arrive.ensures.room, short);
      room_left = omega (arith, at.invariant.room_left, c.arrive.ensures.left_len, c.arrive.ensures.room_left, short);
      same = c.arrive.ensures.room_left ∙ at.invariant.same;
    }
