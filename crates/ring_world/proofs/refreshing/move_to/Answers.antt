use Rattle.std.proofs.Common.{◌≡◌, length, ap, ◌∙◌, arith}
use Rattle.std.specs.Prelude.{vec_len, vec_capacity}
use Rattle.ring_world.proofs.code.Found.{out_some}
use Rattle.ring_world.proofs.refreshing.move_to.Goals as goal

pub end_sending-requires : goal.end_sending-requires
end_sending-requires c =
    let same : length c.look.new.ring.links.items ≡ length c.args.ring.now.links.items = ap (λ ws. length ws.items) c.look.ensures.links ∙ ap length c.make_room.ensures.same in
    out_some c.args.ring.now c.args.place (length c.look.new.ring.links.items) c.index.result.now c.requires.up.placed c.requires.up.place c.index.ensures c.requires.up.up same

pub open-requires-2-clause-room : goal.open-requires-2-clause-room
open-requires-2-clause-room c = omega (arith, c.end_sending.ensures.many, c.end_sending.ensures.room, ap vec_len c.look.ensures.links, ap vec_capacity c.look.ensures.links, c.in_ok-make_room.ensures.room)
