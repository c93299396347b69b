use Rattle.std.proofs.Common.{◌≡◌, ◌++◌, List, length, map, sym, ap, subst, ◌∙◌, arith, Bor}
use Rattle.std.proofs.lemmas.List.{length-map}
use Rattle.ring_rules.specs.declared.event.Client.{Client}
use Rattle.ring_parties.specs.Parties.{Shown, names_shown}
use Rattle.ring_parties.specs.Turns.{AreAskedOf, HaveTaken}
use Rattle.ring_cluster.specs.Agendas.{AreFronts}
use Rattle.ring_cluster.specs.Kept.{seen_of}
use Rattle.ring_cluster.specs.Published.{names_in}
use Rattle.ring_cluster.specs.Seen.{Seen, state_of, collected_by, collecting}
use Rattle.ring_cluster.proofs.lists.Struck.{fronts_asked}
use Rattle.ring_cluster.proofs.rounds.Holding.{names_are}
use Rattle.ring_cluster.proofs.rounds.SideBySide.{turns_taken, none_taken}
use Rattle.ring_cluster.proofs.cluster.Cluster.take_turns.Goals as goal

pub take_turns-requires-clause-tasks : goal.take_turns-requires-clause-tasks
take_turns-requires-clause-tasks g c =
    let q = (c.self.inside.parties).all in
    let names : c.args.names.now ≡ names_shown q =
    c.requires.names ∙ sym (subst (λ (x : Seen). names_shown q ≡ names_in (state_of x)) c.self.view_is (names_are c.self.inside.credit c.self.inside.names.items c.self.inside.journal.items q c.self.invariant.standing)) in
    omega (
      arith,
      ap length c.deref-2.ensures.value,
      length-map c.in_ok-fronts.fronts.items (λ (t : Bor (List Client)). t.now),
      c.in_ok-fronts.ensures.many,
      ap length names,
      length-map q.nodes (λ (m : Shown). m.held.name),
    )

pub take_turns-requires-clause-done : goal.take_turns-requires-clause-done
take_turns-requires-clause-done g c =
    let q = (c.self.inside.parties).all in
    let names : c.args.names.now ≡ names_shown q =
    c.requires.names ∙ sym (subst (λ (x : Seen). names_shown q ≡ names_in (state_of x)) c.self.view_is (names_are c.self.inside.credit c.self.inside.names.items c.self.inside.journal.items q c.self.invariant.standing)) in
    omega (arith, c.requires.done, ap length names, length-map q.nodes (λ (m : Shown). m.held.name))

pub take_turns-requires-clause-asked : goal.take_turns-requires-clause-asked
take_turns-requires-clause-asked g c κs within =
    let q = (c.self.inside.parties).all in
    let names : c.args.names.now ≡ names_shown q =
    c.requires.names ∙ sym (subst (λ (x : Seen). names_shown q ≡ names_in (state_of x)) c.self.view_is (names_are c.self.inside.credit c.self.inside.names.items c.self.inside.journal.items q c.self.invariant.standing)) in
    let fronts = map (λ (t : Bor (List Client)). t.now) c.in_ok-fronts.fronts.items in
    subst (λ ts. AreAskedOf (names_shown q) (map (λ (t : Bor (List Client)). t.now) ts)) (sym c.deref-2.ensures.value)
    (subst (λ ns. AreAskedOf ns fronts) names (fronts_asked c.self.inside.agendas c.args.names.now fronts c.in_ok-fronts.ensures))

pub returns-in_err-fronts-clause-taken : goal.returns-in_err-fronts-clause-taken
returns-in_err-fronts-clause-taken g c = none_taken c.args.round.turns c.args.names.now c.args.done.now c.args.self.now c.requires.done c.requires.none

pub returns-clause-taken : goal.returns-clause-taken
returns-clause-taken g c =
    let q = (c.self.inside.parties).all in
    let names : c.args.names.now ≡ names_shown q =
    c.requires.names ∙ sym (subst (λ (x : Seen). names_shown q ≡ names_in (state_of x)) c.self.view_is (names_are c.self.inside.credit c.self.inside.names.items c.self.inside.journal.items q c.self.invariant.standing)) in
    let fronts = map (λ (t : Bor (List Client)). t.now) c.in_ok-fronts.fronts.items in
    let taken = c.take_turns.ensures.taken in
    let p = c.take_turns.new.self in
    turns_taken c.args.round.turns c.args.names.now fronts c.take_turns.new.done c.args.self.now _ taken.0
    (subst (λ (x : Seen). AreFronts x.agendas c.args.names.now fronts) c.self.view_is c.in_ok-fronts.ensures)
    (subst (λ ts. HaveTaken c.args.round.turns c.args.names.now (map (λ (t : Bor (List Client)). t.now) ts) c.take_turns.new.done taken.0) c.deref-2.ensures.value
    (subst (λ ns. HaveTaken c.args.round.turns ns (map (λ (t : Bor (List Client)). t.now) c.deref-2.result.now) c.take_turns.new.done taken.0) (sym names) taken.2)) (
      (p.owes, collected_by p.all),
      ap (λ es. collecting (p.owes, collected_by p.all) (record (seen_of c.self.inside) { events = es })) taken.1
          ∙ ap (λ (x : Seen). collecting (p.owes, collected_by p.all) (record x { events = x.events ++ taken.0 })) c.self.view_is,
    )
