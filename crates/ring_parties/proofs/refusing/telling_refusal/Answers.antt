use Rattle.ring_rules.proofs.events.Kinds.{only_refuses}
use Rattle.ring_parties.proofs.refusing.telling_refusal.Goals as goal

pub unreachable-requires : goal.unreachable-requires
unreachable-requires c = only_refuses c.args.event.now c.requires.tells c.in_default.not-Refuse
