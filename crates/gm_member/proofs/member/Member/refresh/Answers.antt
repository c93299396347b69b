use Rattle.gm_member.specs.Shown.{held_of}
use Rattle.gm_member.proofs.Calls.{on_ok_both}
use Rattle.gm_member.proofs.Lifts.{refresh_lifts}
use Rattle.gm_member.proofs.Ready.{is_ready}
use Rattle.gm_member.proofs.member.Member.refresh.Goals as goal

pub refresh_next-requires-clause-ready : goal.refresh_next-requires-clause-ready
refresh_next-requires-clause-ready g c = is_ready c.args.self.now c.requires.out

pub returns-clause-steps : goal.returns-clause-steps
returns-clause-steps g c = on_ok_both c.refresh_next.result (refresh_lifts (held_of c.args.self.now) (held_of c.refresh_next.new.self) c.args.view) c.refresh_next.ensures.back.enabled c.refresh_next.ensures.reads.ok
