use Rattle.std.proofs.Common.{ap, sym, ◌∙◌}
use Rattle.ring_names.specs.declared.reason.Reason.TheVariants as reason
use Rattle.ring_rules.specs.Refusal.{refuse_if, or_else}
use Rattle.gm_member.specs.Held.{has_nothing_new}
use Rattle.gm_member.specs.View.{out_of}
use Rattle.gm_member.proofs.links.OutLink.put_refusal.Goals as goal

pub returns-then-all_is_sent : goal.returns-then-all_is_sent
returns-then-all_is_sent g c = λ known right.
    let l = c.args.self.now in
    sym
    (ap (λ b. or_else (refuse_if b reason.NoCredit) (refuse_if (has_nothing_new known (out_of l)) reason.NothingNew)) (sym c.blocked.ensures.answer ∙ c.if-blocked.false)
    ∙ ap (λ b. refuse_if b reason.NothingNew) (sym right ∙ c.if-all_is_sent.true))

pub returns : goal.returns
returns g c = λ known right.
    let l = c.args.self.now in
    sym
    (ap (λ b. or_else (refuse_if b reason.NoCredit) (refuse_if (has_nothing_new known (out_of l)) reason.NothingNew)) (sym c.blocked.ensures.answer ∙ c.if-blocked.false)
    ∙ ap (λ b. refuse_if b reason.NothingNew) (sym right ∙ c.if-all_is_sent.false))
