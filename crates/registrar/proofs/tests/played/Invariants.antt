use Rattle.registrar.specs.Registry.{AreHere}
use Rattle.registrar.proofs.tests.played.Given as goal

abbrev pub invariant-loop-place : goal.invariant-loop-place
invariant-loop-place g l = AreHere l.registrar.links
