use Rattle.std.proofs.Common.{List, [], ◌++◌, length, map, Bor, sym, ap, subst, ◌∙◌, arith}
use Rattle.std.proofs.lemmas.List.{length-map, append-nil, with_items_is}
use Rattle.std.proofs.lemmas.Simd.{map-map}
use Rattle.ring_rules.specs.declared.event.Client.{Client}
use Rattle.ring_parties.specs.Behind.{behind}
use Rattle.ring_parties.specs.Parties.{Shown, PartiesSeen, parties, shown_in, names_shown}
use Rattle.ring_parties.specs.Turns.{AreAskedOf, HaveTaken}
use Rattle.ring_parties.proofs.turns.Nothing.{nothing_taken}
use Rattle.ring_parties.proofs.turns.Whole.{called, stood}
use Rattle.ring_parties.proofs.parties.Parties.take_turns.Goals as goal

pub returns-in_err-make_room-clause-taken : goal.returns-in_err-make_room-clause-taken
returns-in_err-make_room-clause-taken g c = (
  [],
  c.make_room.ensures.same ∙ sym (append-nil c.args.journal.now.items),
  nothing_taken c.args.round.turns (names_shown c.args.self.now.all) (map (λ (t : Bor (List Client)). t.now) c.args.tasks.now) c.args.done.now (c.requires.done ∙ sym (length-map c.args.self.now.all.nodes (λ (m : Shown). m.held.name))) c.requires.none,
)

pub returns-in_err-logs-clause-taken : goal.returns-in_err-logs-clause-taken
returns-in_err-logs-clause-taken g c = (
  [],
  c.make_room.ensures.same ∙ sym (append-nil c.args.journal.now.items),
  nothing_taken c.args.round.turns (names_shown c.args.self.now.all) (map (λ (t : Bor (List Client)). t.now) c.args.tasks.now) c.args.done.now (c.requires.done ∙ sym (length-map c.args.self.now.all.nodes (λ (m : Shown). m.held.name))) c.requires.none,
)

pub play-requires-clause-standing : goal.play-requires-clause-standing
play-requires-clause-standing g c κs within = (
  (parties c.self.inside.members.items c.self.inside.registrar (behind c.self.inside.pending_deposit)),
  stood c.args.credit c.args.names.now c.args.journal.now.items c.make_room.new.journal.items c.self.inside.members.items c.deref_mut.result.now (parties c.self.inside.members.items c.self.inside.registrar (behind c.self.inside.pending_deposit)) c.args.self.now.all c.make_room.ensures.same c.deref_mut.ensures.value (ap (λ (x : PartiesSeen). x.all) c.self.view_is) c.requires.standing,
)

pub play-requires-clause-asked : goal.play-requires-clause-asked
play-requires-clause-asked g c κs within = subst (λ ns. AreAskedOf ns (map (λ (t : Bor (List Client)). t.now) c.args.tasks.now)) (sym (called c.self.inside.members.items c.deref_mut.result.now c.args.self.now.all c.deref_mut.ensures.value (ap (λ (x : PartiesSeen). x.all.nodes) c.self.view_is))) c.requires.asked

pub returns-clause-standing : goal.returns-clause-standing
returns-clause-standing g c =
    rw (with_items_is c.self.inside.members c.play.new.members (omega (arith, c.play.auto.members, c.deref_mut.ensures.len, ap length c.deref_mut.ensures.value, c.self.inside.members.ok.0)))
    (c.play.ensures.standing (parties c.self.inside.members.items c.self.inside.registrar (behind c.self.inside.pending_deposit)) (stood c.args.credit c.args.names.now c.args.journal.now.items c.make_room.new.journal.items c.self.inside.members.items c.deref_mut.result.now (parties c.self.inside.members.items c.self.inside.registrar (behind c.self.inside.pending_deposit)) c.args.self.now.all c.make_room.ensures.same c.deref_mut.ensures.value (ap (λ (x : PartiesSeen). x.all) c.self.view_is) c.requires.standing))

pub returns-clause-taken : goal.returns-clause-taken
returns-clause-taken g c =
    let t = c.play.ensures.taken in (
      t.0,
      t.1 ∙ ap (λ es. es ++ t.0) c.make_room.ensures.same,
      subst (λ ns. HaveTaken c.args.round.turns ns (map (λ (t : Bor (List Client)). t.now) c.args.tasks.now) c.play.new.done t.0) (called c.self.inside.members.items c.deref_mut.result.now c.args.self.now.all c.deref_mut.ensures.value (ap (λ (x : PartiesSeen). x.all.nodes) c.self.view_is)) t.2,
    )

pub returns-clause-names : goal.returns-clause-names
returns-clause-names g c =
    rw (with_items_is c.self.inside.members c.play.new.members (omega (arith, c.play.auto.members, c.deref_mut.ensures.len, ap length c.deref_mut.ensures.value, c.self.inside.members.ok.0)))
    (map-map (λ (m : Shown). m.held.name) shown_in c.play.new.members ∙ c.play.ensures.names ∙ called c.self.inside.members.items c.deref_mut.result.now c.args.self.now.all c.deref_mut.ensures.value (ap (λ (x : PartiesSeen). x.all.nodes) c.self.view_is))
