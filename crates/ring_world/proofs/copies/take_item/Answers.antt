use Rattle.std.proofs.Common.{◌≡◌, get_or, map, sym, ap, ◌∙◌, arith}
use Rattle.std.proofs.lemmas.List.{get_or-map}
use Rattle.std.proofs.lemmas.Result.{on_ok_weaker}
use Rattle.ring_copies.specs.Copies.{CopyLink, no_copy_link}
use Rattle.ring_world.specs.Copied.{copy_of, room_of}
use Rattle.ring_world.proofs.code.OfCopies.{room_left, always, taken_copies}
use Rattle.ring_world.proofs.copies.take_item.Goals as goal

pub take_item-requires-clause-room : goal.take_item-requires-clause-room
take_item-requires-clause-room c =
    let read = get_or-map room_of c.args.copies.now c.args.i c.index-copies-i.result 0 c.requires.there in
    omega (arith, read, c.requires.room c.args.i c.requires.there)

pub returns-clause-ok : goal.returns-clause-ok
returns-clause-ok c = λ a loads e.
    let cs = c.args.copies.now in
    let x = get_or cs c.args.i c.index-copies-i.result in
    let read = get_or-map copy_of cs c.args.i c.index-copies-i.result no_copy_link c.requires.there in
    on_ok_weaker c.take_item.result (λ is. taken_copies cs c.args.i x c.take_item.new.self c.args.blocked a c.requires.there (ap (get_or cs c.args.i) c.index-copies-i.is) is)
    (c.take_item.ensures.ok a loads (ap (λ (d : CopyLink). d.loads) (sym read) ∙ e))

pub returns-clause-room : goal.returns-clause-room
returns-clause-room c =
    let cs = c.args.copies.now in
    always c.take_item.result (room_left cs c.args.i (get_or cs c.args.i c.index-copies-i.result) c.take_item.new.self c.requires.there (ap (get_or cs c.args.i) c.index-copies-i.is) c.requires.room (omega (arith, c.take_item.ensures.room)))
