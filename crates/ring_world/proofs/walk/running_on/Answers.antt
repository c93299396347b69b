use Rattle.std.proofs.Common.{suc, length, ap}
use Rattle.std.proofs.lemmas.List.{length-map}
use Rattle.group_view.specs.Ring.{rotated}
use Rattle.group_view.specs.View.{ids}
use Rattle.ring_world.specs.Shows.{world_of, member_of}
use Rattle.ring_world.proofs.rings.Told.{all_run, all_within}
use Rattle.ring_world.proofs.walk.running_on.Goals as goal

pub returns-clause-within : goal.returns-clause-within
returns-clause-within c =
    all_within (world_of c.args.ring.now) (length c.args.ring.now.members.items) c.in_ok-running.running.items (ap suc (length-map c.args.ring.now.members.items member_of))
    (all_run (world_of c.args.ring.now) c.in_ok-running.running.items (rotated c.args.id (ids c.newest_entries.result.now)) c.in_ok-running.ensures)

pub returns-clause-running : goal.returns-clause-running
returns-clause-running c =
    all_run (world_of c.args.ring.now) c.in_ok-running.running.items (rotated c.args.id (ids c.newest_entries.result.now)) c.in_ok-running.ensures
