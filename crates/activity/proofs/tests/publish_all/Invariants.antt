use Rattle.activity.specs.Diff.{IsNotAbove}
use Rattle.activity.proofs.tests.publish_all.Given as goal

abbrev pub invariant-loop-one : goal.invariant-loop-one
invariant-loop-one l = (goal.iterator-loop-one).can_next l.one-iterator × (goal.iterator-loop-one).is_finite l.one-iterator × IsNotAbove l.sent l.tables
