use Rattle.std.proofs.Common.{ap, ◌∙◌}
use Rattle.ring_parties.specs.Acting.{is_alone}
use Rattle.ring_parties.proofs.events.Kinds.{alone_read}
use Rattle.ring_parties.proofs.acting.do_alone.Goals as goal

pub unreachable-requires : goal.unreachable-requires
unreachable-requires c = alone_read c.kind.result (ap is_alone c.kind.ensures ∙ c.requires.alone) c.in_default.not-Says c.in_default.not-Links
