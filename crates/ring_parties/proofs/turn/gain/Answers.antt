use Rattle.std.proofs.Common.{refl}
use Rattle.ring_parties.specs.declared.party.Party.{Party}
use Rattle.ring_rules.specs.declared.event.Event.TheVariants.{Gain}
use Rattle.ring_parties.proofs.turns.Links.{acted_same}
use Rattle.ring_parties.proofs.turns.Gains.{gain_there}
use Rattle.ring_parties.proofs.turns.Tries.{tries_did, tries_not}
use Rattle.ring_parties.proofs.turn.gain.Goals as goal

pub returns-then-not-has_early_grant : goal.returns-then-not-has_early_grant
returns-then-not-has_early_grant c = tries_not _ c.args.party.now c.args.party.now (acted_same c.args.party.now c.args.party.now c.requires.may refl refl)

pub returns : goal.returns
returns c =
    let old : Party = c.args.party.now in
    let new : Party = record c.args.party.now { node = c.gain.new.self } in
    let gained = c.in-Ok.ensures in
    tries_did _ old new (Gain old.node.name) refl
    (gain_there c.in-Some.grant old c.granted.new.self new c.requires.may c.in-Some.ensures.some c.in-Some.ensures.held c.in-Some.ensures.same gained.acts.ok gained.acts.ends gained.heeds.enabled gained.acts.recorded gained.acts.spare refl)
