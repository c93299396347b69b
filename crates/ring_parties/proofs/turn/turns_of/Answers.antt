use Rattle.std.proofs.Common.{ℕ, nat_eq, sym, subst}
use Rattle.std.specs.Prelude.{option_map}
use Rattle.ring_parties.specs.Turns.{TakesRound}
use Rattle.ring_parties.proofs.turns.Passing.{acted_none}
use Rattle.ring_parties.proofs.turns.Names.{acted_name}
use Rattle.ring_parties.proofs.turns.Rounds.{going_none, going_next, going_ends, nothing_took, own_next}
use Rattle.ring_parties.proofs.turn.turns_of.Goals as goal

pub loop-turn-init : goal.loop-turn-init
loop-turn-init g c = going_none c.args.tasks.now c.args.done.now c.args.party.now c.requires.none (acted_none c.args.party.now (c.requires.may (c.is_up.ensures.up c.if-not-is_up.false)))

pub gated_turn-requires-clause-own : goal.gated_turn-requires-clause-own
gated_turn-requires-clause-own g c κs within = own_next (λ t. t.now) c.args.tasks.now c.loop-turn.done c.args.party.now.node.name c.loop-turn.party.node.name c.next_task.result c.requires.own
    (acted_name c.loop-turn.invariant.events c.args.party.now c.loop-turn.party c.loop-turn.invariant.acted) c.next_task.ensures

pub loop-turn-preserved : goal.loop-turn-preserved
loop-turn-preserved g c = going_next c.loop-turn.turn c.args.tasks.now c.loop-turn.done c.counts.new.done c.args.party.now c.loop-turn.party c.gated_turn.new.party
    (option_map (λ t. t.now) c.next_task.result) c.in_ok-took.took c.loop-turn.invariant (sym c.next_task.ensures) c.in_ok-took.ensures (c.counts.ensures.goes c.if-not-counts.false)

pub returns-in_err-took : goal.returns-in_err-took
returns-in_err-took g c = going_ends c.loop-turn.turn c.args.turns c.args.tasks.now c.loop-turn.done c.args.party.now c.loop-turn.party c.gated_turn.new.party
    c.loop-turn.invariant c.loop-turn.auto.turn-end (c.is_up.ensures.up c.if-not-is_up.false) c.in_err-took.ensures.err

pub returns-then-not-counts : goal.returns-then-not-counts
returns-then-not-counts g c =
    let nothing = c.counts.ensures.ends c.if-not-counts.true in
    subst (λ (d : ℕ). TakesRound c.args.turns c.args.tasks.now d c.args.party.now c.gated_turn.new.party) (sym nothing.1)
    (going_ends c.loop-turn.turn c.args.turns c.args.tasks.now c.loop-turn.done c.args.party.now c.loop-turn.party c.gated_turn.new.party
    c.loop-turn.invariant c.loop-turn.auto.turn-end (c.is_up.ensures.up c.if-not-is_up.false)
    (nothing_took (nat_eq c.loop-turn.turn 0) (option_map (λ t. t.now) c.next_task.result) c.loop-turn.party c.gated_turn.new.party c.in_ok-took.took c.in_ok-took.ensures nothing.0))
