use Rattle.std.proofs.Common.{rules}
use Rattle.ring_parties.proofs.standing.Shown.{gain_refusal, gain_shown}
use Rattle.ring_parties.proofs.node.gain.Goals as goal

pub returns-in-Some : goal.returns-in-Some
returns-in-Some c =
    let is = gain_refusal c.args.node.now c.gain_refusal.new.self c.in-Some.reason c.gain_refusal.ensures.looks c.in-Some.ensures.some in
    record {
      judged = record { enabled = search rules; reason = λ r x. cc (is, x) };
      ok = search rules;
      err = search rules;
    }

pub returns : goal.returns
returns c = record {
  judged = search rules;
  ok = gain_shown c.args.node.now c.gain_refusal.new.self c.granted.new.self c.gain.new.self c.in-Some-granted.grant c.requires.ready c.gain_refusal.ensures.looks c.in-Some-granted.ensures.some c.gain_refusal.ensures.held c.granted.ensures.held c.in-Ok.ensures.acts.ok c.in-Ok.ensures.acts.ends;
  err = search rules;
}
