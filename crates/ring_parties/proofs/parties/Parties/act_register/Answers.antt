use Rattle.std.proofs.Common.{◌≡◌, ap, subst, ◌∙◌}
use Rattle.registrar.specs.Asked.{synced_refusal}
use Rattle.gm_member.specs.Held.{up_refused}
use Rattle.ring_parties.specs.Keeps.{keeps_at}
use Rattle.ring_parties.specs.Parties.{Keeps, node_at}
use Rattle.ring_parties.specs.Tried.{IsJudged}
use Rattle.ring_parties.specs.Refused.{office_of}
use Rattle.ring_parties.proofs.deposits.Delivered.{keeps_is}
use Rattle.ring_parties.proofs.parties.Parties.act_register.Goals as goal

pub returns-clause-judged : goal.returns-clause-judged
returns-clause-judged c =
    let q = (c.args.self.now).all in
    let h = (node_at q c.args.i).held in
    let kept = keeps_is c.self.inside c.args.self.now c.self.view_is c.args.i c.requires.within c.index.result.now c.index.ensures in
    let missing : c.missing-missing.result ≡ (keeps_at (c.args.self.now).keeps c.args.i).mirror.missing = c.missing-missing.ensures ∙ ap (λ (k : Keeps). k.mirror.missing) kept in
    subst (λ m. IsJudged (up_refused h (synced_refusal (office_of q) h.id m)) c.act_ask.result) missing c.act_ask.ensures.judged
