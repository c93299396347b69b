use Rattle.std.proofs.Common.{sym, ◌∙◌}
use Rattle.ring_cluster.proofs.rounds.Named.{no_task}
use Rattle.ring_cluster.proofs.rounds.Turning.{empty_begun, round_refl}
use Rattle.ring_cluster.proofs.driver.last_turn.Goals as goal

pub returns-then-not-has_turns-clause-begun : goal.returns-then-not-has_turns-clause-begun
returns-then-not-has_turns-clause-begun g c = empty_begun c.args.place c.args.name.now c.args.cluster.now c.args.cluster.now (no_task _ _ (sym c.has_turns.ensures ∙ c.if-not-has_turns.true))

pub returns-then-not-has_turns-clause-round : goal.returns-then-not-has_turns-clause-round
returns-then-not-has_turns-clause-round g c = round_refl c.args.cluster.now
