use Rattle.std.proofs.Common.{◌≡◌, suc, ◌+◌, subst, arith}
use Rattle.std.specs.Prelude.{OnOk}
use Rattle.std.proofs.lemmas.Grind.{common_steps}
use Rattle.ring_rules.specs.Machine.{newest}
use Rattle.ring_rules.specs.Step.{with_view}
use Rattle.ring_rules.specs.Event.{refreshed, synced_view}
use Rattle.ring_world.specs.Shows.{world_of}
use Rattle.ring_world.proofs.syncing.sync.Goals as goal

pub returns-clause-ok : goal.returns-clause-ok
returns-clause-ok c =
    let w = world_of c.args.ring.now in
    let next : c.in_ok-next.next ≡ synced_view w (suc c.args.place) = grind (arith, common_steps) in
    subst (λ v. OnOk c.change.result (world_of c.change.new.ring ≡ refreshed (with_view w v) (suc c.args.place) (newest w + 1))) next c.change.ensures.ok
