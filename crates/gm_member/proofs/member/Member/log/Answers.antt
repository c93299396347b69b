use Rattle.std.proofs.Common.{refl, ap, ◌∙◌, arith}
use Rattle.lamport_merge.specs.Recorder.{noted_some}
use Rattle.gm_member.specs.Said.{event_saying}
use Rattle.gm_member.specs.View.{last_sent_on}
use Rattle.gm_member.specs.Spares.{last_sent_by_spare}
use Rattle.gm_member.specs.Shown.{held_of}
use Rattle.gm_member.proofs.Accepting.{all_joined, joined_number}
use Rattle.gm_member.proofs.AllIsSent.{keeps_right, joined_right}
use Rattle.gm_member.proofs.Within.{keeps_within, joined_within}
use Rattle.gm_member.proofs.member.Member.log.Goals as goal

pub invariant_of-self-then-is_err-clause-sent : goal.invariant_of-self-then-is_err-clause-sent
invariant_of-self-then-is_err-clause-sent g c = keeps_within (last_sent_on c.args.self.now.out) c.args.self.now.tables c.make_room_for.new.self c.make_room_for.ensures.kept c.args.self.now.sent

pub invariant_of-self-then-is_err-clause-spared : goal.invariant_of-self-then-is_err-clause-spared
invariant_of-self-then-is_err-clause-spared g c = keeps_within (last_sent_by_spare c.args.self.now.spare) c.args.self.now.tables c.make_room_for.new.self c.make_room_for.ensures.kept c.args.self.now.spared

pub invariant_of-self-then-is_err-clause-says_all_is_sent : goal.invariant_of-self-then-is_err-clause-says_all_is_sent
invariant_of-self-then-is_err-clause-says_all_is_sent g c = keeps_right c.args.self.now.all_is_sent c.args.self.now.out c.args.self.now.tables c.make_room_for.new.self c.make_room_for.ensures.kept c.args.self.now.says_all_is_sent

pub invariant_of-self-2-clause-sent : goal.invariant_of-self-2-clause-sent
invariant_of-self-2-clause-sent g c =
    joined_within (last_sent_on c.args.self.now.out) c.args.self.now.tables c.make_room_for.new.self c.push.new.self c.args.self.now.id.0 c.args.message c.make_room_for.ensures.kept c.push.ensures.kept c.args.self.now.sent

pub invariant_of-self-2-clause-spared : goal.invariant_of-self-2-clause-spared
invariant_of-self-2-clause-spared g c =
    joined_within (last_sent_by_spare c.args.self.now.spare) c.args.self.now.tables c.make_room_for.new.self c.push.new.self c.args.self.now.id.0 c.args.message c.make_room_for.ensures.kept c.push.ensures.kept c.args.self.now.spared

pub invariant_of-self-2-clause-says_all_is_sent : goal.invariant_of-self-2-clause-says_all_is_sent
invariant_of-self-2-clause-says_all_is_sent g c =
    let m = c.args.self.now in
    joined_right m.out m.tables c.make_room_for.new.self c.push.new.self m.id.0 c.args.message m.own.0 m.own.1 c.make_room_for.ensures.kept c.push.ensures.kept m.sent

pub returns-clause-publishes : goal.returns-clause-publishes
returns-clause-publishes g c =
    let m = c.args.self.now in
    record {
      ok = ap (λ ks. record (held_of m) { known = ks }) (all_joined m.tables c.make_room_for.new.self c.push.new.self m.id.0 c.args.message m.own.0 m.own.1 c.make_room_for.ensures.kept c.push.ensures.kept);
      number = c.numbers-2.ensures.got ∙ joined_number m.tables c.make_room_for.new.self c.push.new.self m.id.0 c.args.message m.own.0 m.own.1 c.make_room_for.ensures.kept c.push.ensures.kept;
      err = tt;
      ends = refl;
      kept = tt;
      records = record {
        ok =
            c.note_some.ensures.noted
            ∙ ap (λ e. noted_some e c.make_room.new.self.recorded) c.in-Ok.ensures
            ∙ ap (noted_some (event_saying m.name c.args.message)) c.make_room.ensures.same;
        err = tt;
        spare = omega (arith, c.in-Ok-make_room.ensures.room, c.note_some.ensures.room);
      };
    }
