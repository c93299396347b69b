use Rattle.std.proofs.Common.{get_or, ap, arith}
use Rattle.ring_world.proofs.code.OfCopies.{room_left, always}
use Rattle.ring_world.proofs.copies.put_on.Goals as goal

pub returns-clause-room : goal.returns-clause-room
returns-clause-room c =
    let cs = c.args.copies.now in
    always c.put.result (room_left cs c.args.i (get_or cs c.args.i c.index-copies-i.result) c.put.new.self c.requires.there (ap (get_or cs c.args.i) c.index-copies-i.is) c.requires.room (omega (arith, c.put.ensures.room)))
