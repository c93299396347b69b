use Rattle.std.proofs.Common.{◌∙◌, List, map, Bor}
use Rattle.std.proofs.lemmas.List.{length-map}
use Rattle.ring_rules.specs.declared.event.Client.{Client}
use Rattle.ring_parties.proofs.turns.Parting.{may_take, meet_later}
use Rattle.ring_parties.proofs.side_by_side.meet_and_turn.Goals as goal

pub take_all_turns-outcome-requires-clause-may : goal.take_all_turns-outcome-requires-clause-may
take_all_turns-outcome-requires-clause-may g c κs within =
    may_take c.args.members.now c.meet_pairs.new.members c.rest_unheard.new.members c.meet_pairs.ensures.met c.rest_unheard.ensures c.args.round.turns (map (λ (t : Bor (List Client)). t.now) c.args.tasks.now) c.requires.may c.requires.room c.requires.own

pub meet_pairs-requires-2 : goal.meet_pairs-requires-2
meet_pairs-requires-2 g c =
    meet_later c.args.members.now c.meet_pairs.new.members c.rest_unheard.new.members c.meet_pairs.ensures.met c.rest_unheard.ensures c.args.round.turns (map (λ (t : Bor (List Client)). t.now) c.args.tasks.now)
    c.take_all_turns-outcome.new.done c.take_all_turns-outcome.new.members
    (length-map c.args.tasks.now (λ (t : Bor (List Client)). t.now) ∙ c.requires.tasks) (c.take_all_turns-outcome.ensures.count ∙ c.requires.done) c.meet_pairs.ensures.may c.take_all_turns-outcome.ensures.turns
