use Rattle.std.proofs.Common.{option_map, refl, inr, ap, subst, ◌∙◌, arith}
use Rattle.std.proofs.lemmas.Result.{on_ok_weaker, on_err_weaker}
use Rattle.gm_member.specs.View.{all_kept, out_of}
use Rattle.gm_member.specs.Held.{packet_on}
use Rattle.gm_member.specs.Shown.{held_of}
use Rattle.gm_member.specs.Ends.{EndSends}
use Rattle.gm_member.proofs.Calls.{put_out_enabled}
use Rattle.gm_member.proofs.Ready.{sent_there}
use Rattle.gm_member.proofs.AllIsSent.{put_right}
use Rattle.gm_member.proofs.Within.{above_within}
use Rattle.gm_member.proofs.member.Member.put_under.Goals as goal

pub invariant_of-self-clause-sent : goal.invariant_of-self-clause-sent
invariant_of-self-clause-sent g c = above_within c.put-put.new.self.sent c.args.self.now.tables c.put-put.ensures.there

pub invariant_of-self-clause-says_all_is_sent : goal.invariant_of-self-clause-says_all_is_sent
invariant_of-self-clause-says_all_is_sent g c =
    c.is_ok-self.ensures.value
    ∙ put_right c.put-put.result (all_kept c.args.self.now.tables) (out_of c.in-Some.link) (out_of c.put-put.new.self) c.put-put.ensures.ok c.put-put.ensures.err
    (put_out_enabled (held_of c.args.self.now) (out_of c.in-Some.link) (ap (option_map out_of) c.in-Some.is) c.requires.enabled)

pub put-put-requires-clause-there : goal.put-put-requires-clause-there
put-put-requires-clause-there g c = sent_there c.args.self.now c.in-Some.link c.in-Some.is

pub put-put-requires-clause-enabled : goal.put-put-requires-clause-enabled
put-put-requires-clause-enabled g c =
    put_out_enabled (held_of c.args.self.now) (out_of c.in-Some.link) (ap (option_map out_of) c.in-Some.is) c.requires.enabled

pub returns-clause-packet : goal.returns-clause-packet
returns-clause-packet g c = on_ok_weaker c.put-put.result
    (λ p. (
      c.in-Some.link,
      c.put-put.new.self,
      c.in-Some.is,
      refl,
      subst (λ v. EndSends g.O.LinkOut.puts c.args.stamp (packet_on v (all_kept c.args.self.now.tables) (out_of c.in-Some.link)) c.in-Some.link.end c.put-put.new.self.end) c.version-version.ensures p,
      c.put-put.ensures.kept,
      (refl, refl, refl, refl),
    ))
    c.put-put.ensures.packet

pub returns-clause-looks : goal.returns-clause-looks
returns-clause-looks g c = on_err_weaker c.put-put.result (λ p. ((refl, refl, refl, refl), inr (c.in-Some.link, c.put-put.new.self, c.in-Some.is, refl, p, c.put-put.ensures.kept))) c.put-put.ensures.looks

pub returns-clause-kept : goal.returns-clause-kept
returns-clause-kept g c = on_err_weaker c.put-put.result (λ _. ((refl, refl, refl, omega arith, omega arith), λ k r. r)) c.put-put.ensures.looks
