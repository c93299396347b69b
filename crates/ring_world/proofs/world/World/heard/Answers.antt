use Rattle.std.proofs.Common.{◌≡◌, subst, ◌∙◌}
use Rattle.ring_rules.specs.Rows.{messages_between}
use Rattle.ring_rules.specs.Asked.{got_at, base_at, log_at}
use Rattle.ring_rules.specs.Event.{id_of}
use Rattle.ring_world.specs.Reached.{state_of}
use Rattle.ring_world.proofs.code.Running.{running_placed}
use Rattle.ring_world.proofs.code.HeldLaws.{heard_in_order}
use Rattle.ring_world.proofs.world.World.heard.Goals as goal

pub heard_named-requires-clause-placed : goal.heard_named-requires-clause-placed
heard_named-requires-clause-placed c = running_placed c.self.inside c.self.invariant

pub returns-clause-in_order : goal.returns-clause-in_order
returns-clause-in_order c =
    subst (λ seen. c.in_ok-all.all.items ≡ messages_between (base_at seen.ring (id_of seen.ring c.args.by.now) (id_of seen.ring c.args.of.now)) (got_at seen.ring (id_of seen.ring c.args.by.now) (id_of seen.ring c.args.of.now)) (log_at seen.ring (id_of seen.ring c.args.of.now))) c.self.view_is
    (c.in_ok-all.ensures ∙ heard_in_order c.self.inside (id_of (state_of c.self.inside) c.args.by.now) (id_of (state_of c.self.inside) c.args.of.now) c.self.invariant)
