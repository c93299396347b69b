use Rattle.std.proofs.Common.{refl, sym, ◌∙◌}
use Rattle.ring_parties.specs.declared.party.Party.{Party}
use Rattle.ring_parties.proofs.turns.Links.{acted_same}
use Rattle.ring_parties.proofs.turns.Looks.{look_acted, lent_none, said_none}
use Rattle.ring_parties.proofs.turn.look.Goals as goal

pub returns-then-is_some-clause-acted : goal.returns-then-is_some-clause-acted
returns-then-is_some-clause-acted c = acted_same c.args.party.now c.args.party.now c.requires refl refl

pub returns-in_default-clause-acted : goal.returns-in_default-clause-acted
returns-in_default-clause-acted c =
    let old : Party = c.args.party.now in
    let new : Party = record c.args.party.now { node = c.lend_in.new.self } in
    lent_none old new c.requires c.in_default.ensures refl

pub returns-clause-acted : goal.returns-clause-acted
returns-clause-acted c =
    let old : Party = c.args.party.now in
    let new : Party = record c.args.party.now { node = c.give_in.new.self } in
    look_acted old new c.lend_in.new.self c.in-Some.link c.look.new.self c.requires (said_none c.first_item.result _ (sym c.is_some.ensures ∙ c.if-is_some.false) c.first_item.ensures) c.in-Some.ensures c.look.ensures c.give_in.ensures refl
