use Rattle.std.proofs.Common.{◌≡◌, ap, ◌∙◌, arith}
use Rattle.lamport_merge.specs.Merge.{last_time}
use Rattle.lamport_merge.specs.Logs.{LogSeen}
use Rattle.lamport_merge.specs.declared.clock.Clock.{Clock}
use Rattle.lamport_merge.proofs.Recording.{last_pushed}
use Rattle.lamport_merge.proofs.recorder.Recorder.note.Goals as goal

pub invariant_of-self : goal.invariant_of-self
invariant_of-self c =
    let last : last_time 0 c.push.new.self.entries ≡ c.tick-time.result = ap (λ (l : LogSeen). last_time 0 l.entries) c.push.ensures ∙ last_pushed 0 c.self.inside.log.entries c.tick-time.result c.args.event in
    let ticked : c.tick-time.new.self.time ≡ c.tick-time.result = ap (λ (k : Clock). k.time) c.tick-time.ensures.ticked in
    (omega (arith, last, ticked), omega (arith, ap (λ (l : LogSeen). l.spare) c.push.ensures, c.self.invariant.1))
