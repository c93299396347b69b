use Rattle.std.proofs.Common.{◌≤◌, map, subst}
use Rattle.std.proofs.lemmas.List.{length-map}
use Rattle.ring_rules.specs.Step.{opening}
use Rattle.ring_copies.specs.Events.{sort_of}
use Rattle.ring_copies.specs.Work.{total_with_copies}
use Rattle.ring_copies.specs.Runs.{last, without_copies}
use Rattle.ring_copies.proofs.Runs.{repairs_end_with_copies}
use Rattle.ring_copies.proofs.laws.repairs_end_with_copies.Goals as goal

pub returns : goal.returns
returns c = λ credit names events steps are run k. subst (λ n. n ≤ total_with_copies (last (without_copies (opening credit names)) events)) (length-map steps sort_of) (repairs_end_with_copies credit names are (map sort_of events) (map sort_of steps) run k)
