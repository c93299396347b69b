use Rattle.ringplay.proofs.Playing.{member_command}
use Rattle.ringplay.proofs.play.perform_one.Goals as goal

pub command-requires : goal.command-requires
command-requires g c = member_command c.args.command c.in_default.not-Go c.in_default.not-Settle
