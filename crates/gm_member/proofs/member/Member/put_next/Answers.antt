use Rattle.std.proofs.Common.{◌≡◌, sym, ap, subst, ◌∙◌, arith}
use Rattle.ring_rules.specs.declared.event.Event.TheVariants.{Put}
use Rattle.lamport_merge.specs.Recorder.{RecorderSeen, noted, given}
use Rattle.gm_member.specs.Shown.{PutsOn}
use Rattle.gm_member.proofs.member.Member.put_next.Goals as goal

pub returns-clause-puts : goal.returns-clause-puts
returns-clause-puts g c =
    let m = c.args.self.now in
    let same = c.put_under.ensures.same in
    let here : c.note.new.self.recorded ≡ noted (Put m.name) c.make_room.new.self.recorded =
    c.note.ensures.noted ∙ ap (λ x. noted (Put x) c.put_under.new.self.recorder.recorded) same.0 ∙ ap (λ (r : RecorderSeen). noted (Put m.name) r.recorded) same.1 in
    let spare : c.put_under.new.self.recorder.spare ≡ c.make_room.new.self.spare = ap (λ (r : RecorderSeen). r.spare) same.1 in
    record {
      ok = c.in_ok-put_under.ensures.ok;
      packet = subst (λ s. PutsOn g.O.LinkOut.puts s m c.put_under.new.self) (c.next_stamp-stamp.ensures ∙ sym (ap given here)) c.in_ok-put_under.ensures.packet;
      fault = tt;
      err = tt;
      looks = tt;
      ready = c.put_under.ensures.ready;
      kept = tt;
      records = record { ok = here ∙ ap (noted (Put m.name)) c.make_room.ensures.same; err = tt; spare = omega (arith, c.in_ok-make_room.ensures.room, c.note.ensures.room, spare) };
    }
