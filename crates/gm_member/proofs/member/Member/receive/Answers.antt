use Rattle.std.proofs.Common.{◌+◌, ◌≤◌, cond, [], Some, option_map, refl, inr, sym, ap, subst, ◌∙◌, arith, rules}
use Rattle.std.proofs.lemmas.Result.{err_from_is_err_and}
use Rattle.std.specs.Vec.{vec_len, vec_capacity}
use Rattle.activity.specs.Plan.{owns as owned}
use Rattle.gm_member.specs.Packets.{packet_by_id}
use Rattle.gm_member.specs.Held.{at_some, owns, all_accepted, took_from, began_from}
use Rattle.ring_rules.specs.Machine.{is_waiting}
use Rattle.gm_member.specs.News.{news_below}
use Rattle.gm_member.specs.View.{in_of, last_sent_on, count_of}
use Rattle.gm_member.specs.Spares.{last_sent_by_spare}
use Rattle.gm_member.specs.Shown.{held_of}
use Rattle.gm_member.specs.Telling.{SaysAllIsSent}
use Rattle.gm_member.proofs.Accepting.{keeps_all, all_applied}
use Rattle.gm_member.proofs.Calls.{on_err, on_fault}
use Rattle.gm_member.proofs.TakenWithin.{taken_within}
use Rattle.gm_member.proofs.AllIsSent.{keeps_right, still_right}
use Rattle.gm_member.proofs.Within.{keeps_within}
use Rattle.gm_member.proofs.member.Member.receive.Goals as goal

pub returns : goal.returns
returns g c =
    let m = c.args.self.now in
    let link = c.in-Some.link in
    let k = c.in_ok-news.packet in
    let own = owned m.view m.id.0 link.from.0 in
    record {
      ok = (
        k,
        c.in_ok-news.ensures.version,
        ap (λ ks. record (held_of m) { known = ks; current = Some (in_of c.take.new.self) }) (all_applied own m.tables c.take.new.tables c.apply.new.self k.lines c.take.ensures.kept (c.apply.ensures.kept own (c.deref.ensures.value ∙ c.in_ok-news.ensures.plan)))
            ∙ ap (λ l. record (held_of m) { known = all_accepted (owns (held_of m) link.from.0) (held_of m).known (packet_by_id k).lines; current = Some l }) c.in_ok-news.ensures.counted
            ∙ ap (λ b. cond b (began_from (held_of m) (packet_by_id k) (in_of link)) (took_from (held_of m) (packet_by_id k) (in_of link))) (sym c.requires.state)
            ∙ ap (λ o. at_some (option_map in_of o) (held_of m) (λ l. cond (is_waiting m.phase) (began_from (held_of m) (packet_by_id k) l) (took_from (held_of m) (packet_by_id k) l))) (sym c.in-Some.is),
        c.in_ok-news.ensures.news
            ∙ ap (λ b. cond b [] (news_below 64 (owns (held_of m) link.from.0) (held_of m).known (packet_by_id k).lines)) (sym c.requires.state)
            ∙ ap (λ o. at_some (option_map in_of o) [] (λ l. cond (is_waiting m.phase) [] (news_below 64 (owns (held_of m) l.from) (held_of m).known (packet_by_id k).lines))) (sym c.in-Some.is),
        (link, c.take.new.self, c.in-Some.is, refl, c.in_ok-news.ensures.took, (refl, refl, refl, refl)),
        c.in_ok-news.ensures.noted,
      );
      fault = tt;
      err = tt;
      looks = tt;
      kept = tt;
      unrecorded = tt;
      spare = c.take.ensures.spare;
    }

pub invariant_of-self : goal.invariant_of-self
invariant_of-self g c =
    let m = c.args.self.now in
    record {
      own = m.own;
      stands = m.stands;
      up = m.up;
      sent = keeps_within (last_sent_on m.out) m.tables c.take.new.tables c.take.ensures.kept m.sent;
      says_all_is_sent = keeps_right m.all_is_sent m.out m.tables c.take.new.tables c.take.ensures.kept m.says_all_is_sent;
      spared = keeps_within (last_sent_by_spare m.spare) m.tables c.take.new.tables c.take.ensures.kept m.spared;
      unended = m.unended;
      silent = m.silent;
      room_in = subst (λ o. vec_len m.old_ins + vec_len m.door + count_of o ≤ vec_capacity m.old_ins) c.in-Some.is m.room_in;
      room_out = m.room_out;
    }

pub invariant_of-self-2-clause-sent : goal.invariant_of-self-2-clause-sent
invariant_of-self-2-clause-sent g c =
    let m = c.args.self.now in
    let own = owned m.view m.id.0 c.in-Some.link.from.0 in
    taken_within (last_sent_on m.out) own m.tables c.take.new.tables c.apply.new.self c.in_ok-news.packet.lines c.take.ensures.kept (c.apply.ensures.kept own (c.deref.ensures.value ∙ c.in_ok-news.ensures.plan)) m.sent

pub invariant_of-self-2-clause-says_all_is_sent : goal.invariant_of-self-2-clause-says_all_is_sent
invariant_of-self-2-clause-says_all_is_sent g c =
    let m = c.args.self.now in
    let own = owned m.view m.id.0 c.in-Some.link.from.0 in
    subst (λ b. SaysAllIsSent b m.out c.apply.new.self) (sym c.still_all_sent-self.ensures)
    (still_right m.all_is_sent m.out own m.tables c.take.new.tables c.apply.new.self c.in_ok-news.packet.lines c.deref-2.result.now c.take.ensures.kept (c.deref-2.ensures.value ∙ c.in_ok-news.ensures.plan)
    (c.apply.ensures.kept own (c.deref.ensures.value ∙ c.in_ok-news.ensures.plan)) m.sent m.says_all_is_sent)

pub invariant_of-self-2-clause-spared : goal.invariant_of-self-2-clause-spared
invariant_of-self-2-clause-spared g c =
    let m = c.args.self.now in
    let own = owned m.view m.id.0 c.in-Some.link.from.0 in
    taken_within (last_sent_by_spare m.spare) own m.tables c.take.new.tables c.apply.new.self c.in_ok-news.packet.lines c.take.ensures.kept (c.apply.ensures.kept own (c.deref.ensures.value ∙ c.in_ok-news.ensures.plan)) m.spared

pub returns-in_err-news : goal.returns-in_err-news
returns-in_err-news g c =
    let m = c.args.self.now in
    let p = err_from_is_err_and c.from_residual.result c.from_residual.ensures.1 in
    let link = c.in-Some.link in
    let same = keeps_all m.tables c.take.new.tables c.take.ensures.kept in
    record {
      ok = search rules;
      fault = on_fault _ c.from_residual.result p.0 c.in_err-news.field-0.0 p.1 p.2 (inr (c.requires.enabled, c.in_err-news.ensures.fault));
      err = on_err c.from_residual.result
          (ap (λ ks. record (held_of m) { known = ks; current = Some (in_of c.take.new.self) }) same
          ∙ ap (λ l. record (held_of m) { current = Some l }) c.in_err-news.ensures.err
          ∙ ap (λ o. record (held_of m) { current = option_map in_of o }) (sym c.in-Some.is));
      looks = on_err c.from_residual.result ((refl, refl, refl, refl), inr (link, c.take.new.self, c.in-Some.is, refl, c.in_err-news.ensures.looks));
      kept = on_err c.from_residual.result
          ((refl, refl, same, omega arith, omega arith), λ k r. (r.0, subst (λ o. vec_len m.old_ins + vec_len m.door + count_of o + k ≤ vec_capacity m.old_ins) c.in-Some.is r.1));
      unrecorded = on_err c.from_residual.result c.in_err-news.ensures.unnoted;
      spare = c.take.ensures.spare;
    }
