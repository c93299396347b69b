use Rattle.std.proofs.Common.{sym, ◌∙◌}
use Rattle.ring_parties.specs.Parties.{node_at}
use Rattle.ring_parties.specs.Refused.{with_deposits}
use Rattle.ring_parties.proofs.deposits.Waiting.{link_is}
use Rattle.ring_parties.proofs.parties.Parties.has_link.Goals as goal

pub returns : goal.returns
returns c =
    let k = with_deposits (node_at (c.args.self.now).all c.args.i).held (c.args.self.now).all.deposits in
    link_is k c.is_no_link.result c.requires.up (λ b. sym c.pick_refusal.ensures ∙ c.is_no_link.ensures.none b) (λ b e. c.is_no_link.ensures.other b (c.pick_refusal.ensures ∙ e))
