use Rattle.ring_parties.proofs.collecting.ask_to_collect.Goals as goal

pub returns-in-Ok-clause-room : goal.returns-in-Ok-clause-room
returns-in-Ok-clause-room c = c.in-Ok.ensures.room c.args.waiting c.in_ok-make_room.ensures.room
