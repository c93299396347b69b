use Rattle.std.proofs.Common.{◌++◌, suc, map, ap, ◌∙◌}
use Rattle.std.specs.List.{filter}
use Rattle.group_view.specs.View.{ids}
use Rattle.ring_rules.specs.Machine.{runs}
use Rattle.ring_world.specs.Shows.{world_of}
use Rattle.ring_world.proofs.rings.Told.{running_parts}
use Rattle.ring_world.proofs.walk.running_among.Goals as goal

pub returns : goal.returns
returns c =
    running_parts (world_of c.args.ring.now) c.push_running-2.new.running.items c.args.entries.now c.cut_at.result.0.now c.cut_at.result.1.now c.args.id c.cut_at.ensures.before c.cut_at.ensures.from
    (c.in_ok-push_running-2.ensures
    ∙ ap (λ zs. zs ++ filter (runs (world_of c.args.ring.now)) (ids c.cut_at.result.0.now)) (c.in_ok-push_running.ensures ∙ ap (λ ks. map suc ks ++ filter (runs (world_of c.args.ring.now)) (ids c.cut_at.result.1.now)) c.new-running.ensures.items))
