use Rattle.std.proofs.Common.{◌≤◌, cond, [], Some, option_map, refl, sym, ap, subst, ◌∙◌}
use Rattle.ring_rules.specs.declared.phase.Phase.TheVariants.{Up}
use Rattle.ring_rules.specs.Machine.{is_waiting}
use Rattle.gm_member.specs.Packets.{packet_by_id}
use Rattle.gm_member.specs.Held.{at_some, owns, all_begun, took_from, began_from}
use Rattle.gm_member.specs.News.{news_below}
use Rattle.gm_member.specs.View.{in_of}
use Rattle.gm_member.specs.Shown.{held_of}
use Rattle.gm_member.proofs.Accepting.{all_filled}
use Rattle.gm_member.proofs.Beginning.{silent_within, silent_unended, up_where}
use Rattle.gm_member.proofs.AllIsSent.{silent_right}
use Rattle.gm_member.proofs.Within.{none_within}
use Rattle.gm_member.proofs.member.Member.catch_up.Goals as goal

pub returns : goal.returns
returns g c =
    let m = c.args.self.now in
    let link = c.in-Some.link in
    let k = c.in_ok-tables.packet in
    record {
      ok = (
        k,
        subst (λ n. k.view ≤ n) c.version-have.ensures c.in_ok-tables.ensures.version,
        ap (λ ks. record (held_of m) { phase = Up; known = ks; current = Some (in_of c.begin.new.self) }) (all_filled c.fill.new.self k.lines c.fill.ensures.kept)
            ∙ ap (λ l. record (held_of m) { phase = Up; known = all_begun (packet_by_id k).lines; current = Some l }) c.in_ok-tables.ensures.counted
            ∙ ap (λ b. cond b (began_from (held_of m) (packet_by_id k) (in_of link)) (took_from (held_of m) (packet_by_id k) (in_of link))) (sym c.requires.waits)
            ∙ ap (λ o. at_some (option_map in_of o) (held_of m) (λ l. cond (is_waiting m.phase) (began_from (held_of m) (packet_by_id k) l) (took_from (held_of m) (packet_by_id k) l))) (sym c.in-Some.is),
        c.new.ensures.items
            ∙ ap (λ b. cond b [] (news_below 64 (owns (held_of m) link.from.0) (held_of m).known (packet_by_id k).lines)) (sym c.requires.waits)
            ∙ ap (λ o. at_some (option_map in_of o) [] (λ l. cond (is_waiting m.phase) [] (news_below 64 (owns (held_of m) l.from) (held_of m).known (packet_by_id k).lines))) (sym c.in-Some.is),
        (link, c.begin.new.self, c.in-Some.is, refl, c.in_ok-tables.ensures.took, (refl, refl, refl, refl)),
        c.in_ok-tables.ensures.noted,
      );
      fault = tt;
      err = tt;
      looks = tt;
      kept = tt;
      unrecorded = tt;
      spare = c.begin.ensures.spare;
    }

pub invariant_of-self-2-clause-up : goal.invariant_of-self-2-clause-up
invariant_of-self-2-clause-up g c = up_where c.args.self.now.asked

pub invariant_of-self-2-clause-sent : goal.invariant_of-self-2-clause-sent
invariant_of-self-2-clause-sent g c = silent_within c.args.self.now.out c.fill.new.self (c.args.self.now.silent c.requires.waits)

pub invariant_of-self-2-clause-says_all_is_sent : goal.invariant_of-self-2-clause-says_all_is_sent
invariant_of-self-2-clause-says_all_is_sent g c = silent_right c.args.self.now.all_is_sent c.args.self.now.out c.fill.new.self (c.args.self.now.silent c.requires.waits)

pub invariant_of-self-2-clause-spared : goal.invariant_of-self-2-clause-spared
invariant_of-self-2-clause-spared g c = none_within c.fill.new.self

pub invariant_of-self-2-clause-unended : goal.invariant_of-self-2-clause-unended
invariant_of-self-2-clause-unended g c _ = silent_unended g.O.LinkOut.ended c.args.self.now.out (c.args.self.now.silent c.requires.waits)
