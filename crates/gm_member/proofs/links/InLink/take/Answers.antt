use Rattle.std.proofs.Common.{ap, subst, rules}
use Rattle.credit_flow.specs.Credit.{Counted, grant_due}
use Rattle.gm_member.specs.Held.{Incoming}
use Rattle.gm_member.specs.Loads.{GrantsIf}
use Rattle.gm_member.proofs.links.InLink.take.Goals as goal

pub returns-clause-took : goal.returns-clause-took
returns-clause-took g c =
    let took = c.in_ok-news.ensures.ok in
    let grants = c.count.ensures.grants took.2 took.7 in (
      took.0,
      took.1,
      took.2,
      grants.0,
      took.3,
      took.4,
      search rules,
      took.6,
      subst (λ s. GrantsIf (grant_due c.args.self.now.counted) s g.I.LinkIn.sends took.2 grants.0) c.stamp.ensures
          (subst (λ (n : Counted). GrantsIf (grant_due n) c.stamp.result g.I.LinkIn.sends took.2 grants.0) (ap (λ (l : Incoming). l.counted) c.in_ok-news.ensures.same) grants.2),
      grants.1,
    )
