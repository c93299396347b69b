use Rattle.std.proofs.Common.{◌≡◌, Some, sym, ap, ◌∙◌}
use Rattle.ring_rules.specs.Kind.{kind_of}
use Rattle.ring_parties.specs.Parties.{PartiesSeen, shown_in, keeps_in, node_at}
use Rattle.ring_parties.specs.Keeps.{keeps_at}
use Rattle.ring_parties.specs.Acting.{newest_of}
use Rattle.ring_parties.specs.Refused.{own_refused}
use Rattle.ring_parties.proofs.deposits.Delivered.{shown_is, keeps_is, asks_nothing}
use Rattle.ring_parties.proofs.parties.Parties.act_refuse.Goals as goal

pub own_refusal-requires : goal.own_refusal-requires
own_refusal-requires c = asks_nothing c.self.inside c.args.self.now c.self.view_is c.requires.standing c.args.i c.requires.within c.index.result.now c.index.ensures

pub returns-in-Some : goal.returns-in-Some
returns-in-Some c =
    let q = (c.args.self.now).all in
    let k = kind_of c.args.event.now in
    let told : own_refused (newest_of q) (keeps_at (c.args.self.now).keeps c.args.i) k (node_at q c.args.i) ≡ Some c.in-Some.reason =
    sym (c.own_refusal.ensures
    ∙ ap (λ g. own_refused g (keeps_in c.index.result.now) k (shown_in c.index.result.now)) (c.view.ensures.newest ∙ ap (λ (x : PartiesSeen). newest_of x.all) c.self.view_is)
    ∙ ap (λ m. own_refused (newest_of q) (keeps_in c.index.result.now) k m) (shown_is c.self.inside c.args.self.now c.self.view_is c.args.i c.requires.within c.index.result.now c.index.ensures)
    ∙ ap (λ m. own_refused (newest_of q) m k (node_at q c.args.i)) (keeps_is c.self.inside c.args.self.now c.self.view_is c.args.i c.requires.within c.index.result.now c.index.ensures))
    ∙ c.in-Some.is in
    record { enabled = tt; reason = λ r e. let same : c.in-Some.reason ≡ r = cc in told ∙ ap Some same }
