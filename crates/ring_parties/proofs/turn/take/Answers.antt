use Rattle.std.proofs.Common.{ap, ◌∙◌}
use Rattle.gm_member.specs.Held.{Held}
use Rattle.ring_rules.specs.declared.event.Event.TheVariants.{Take}
use Rattle.ring_parties.proofs.turns.Tries.{tries_then}
use Rattle.ring_parties.proofs.turn.take.Goals as goal

pub returns : goal.returns
returns c = tries_then _ _ c.args.party.now c.look.new.party c.take_known.new.party c.take_known.result (λ e is. is ∙ ap (λ (h : Held). Take h.name) c.look.ensures.held) c.look.ensures.acted c.take_known.ensures
