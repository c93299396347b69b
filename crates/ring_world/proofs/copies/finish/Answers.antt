use Rattle.std.proofs.Common.{get_or, ap, arith}
use Rattle.std.proofs.lemmas.List.{get_or-map}
use Rattle.ring_world.specs.Copied.{room_of}
use Rattle.ring_world.proofs.code.OfCopies.{room_left}
use Rattle.ring_world.proofs.copies.finish.Goals as goal

pub returns-clause-room : goal.returns-clause-room
returns-clause-room c =
    let cs = c.args.copies.now in
    room_left cs c.args.i (get_or cs c.args.i c.index-copies-i.result) c.take_done.new.self c.requires.there (ap (get_or cs c.args.i) c.index-copies-i.is) c.requires.room (omega (arith, c.take_done.ensures.room))

pub take_done-requires-clause-room : goal.take_done-requires-clause-room
take_done-requires-clause-room c =
    let read = get_or-map room_of c.args.copies.now c.args.i c.index-copies-i.result 0 c.requires.there in
    omega (arith, read, c.requires.room c.args.i c.requires.there)
