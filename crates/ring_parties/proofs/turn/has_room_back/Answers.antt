use Rattle.std.proofs.Common.{sym, ◌∙◌}
use Rattle.std.proofs.lemmas.Bool.{ltb-true}
use Rattle.ring_parties.proofs.turn.has_room_back.Goals as goal

pub returns-in-Some : goal.returns-in-Some
returns-in-Some c = λ is. (c.in-Some.link.now, c.in-Some.ensures, ltb-true 0 _ (sym c.has_room.ensures ∙ is))
