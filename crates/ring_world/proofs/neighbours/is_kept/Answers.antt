use Rattle.std.proofs.Common.{◌≡◌, ◌≤◌, ◌<◌, ◌∷◌, sym, ap, ◌∙◌, subst, arith, ⊎_elim}
use Rattle.std.proofs.lemmas.Bool.{cases_lt}
use Rattle.group_view.specs.Since.{no_group}
use Rattle.ring_rules.specs.View.{left_by, left_of}
use Rattle.ring_rules.proofs.code.Looks.{kept_no, left_at_is}
use Rattle.ring_world.proofs.neighbours.is_kept.Goals as goal

pub returns-then-left_in-sender : goal.returns-then-left_in-sender
returns-then-left_in-sender c =
    let here : left_by (no_group ∷ c.args.views.now) c.loop-u.u c.args.receiver ≡ c.left_in.result = left_at_is (no_group ∷ c.args.views.now) c.loop-u.u c.args.receiver ∙ ap (λ g. left_of g c.args.receiver) (sym c.view_of.ensures) ∙ sym c.left_in.ensures in
    sym (kept_no (no_group ∷ c.args.views.now) c.args.receiver c.args.sender c.args.opened c.args.version c.loop-u.u c.loop-u.auto.u (omega (arith, c.loop-u-test.true)) (λ e. c.if-left_in-sender.true (sym here ∙ e)))

pub loop-u-preserved : goal.loop-u-preserved
loop-u-preserved c = λ j a b.
    let here : left_by (no_group ∷ c.args.views.now) c.loop-u.u c.args.receiver ≡ c.left_in.result = left_at_is (no_group ∷ c.args.views.now) c.loop-u.u c.args.receiver ∙ ap (λ g. left_of g c.args.receiver) (sym c.view_of.ensures) ∙ sym c.left_in.ensures in
    ⊎_elim
    (λ (lt : j < c.loop-u.u). c.loop-u.invariant j a lt)
    (λ (ge : c.loop-u.u ≤ j). let same : c.loop-u.u ≡ j = omega arith in subst (λ k. left_by (no_group ∷ c.args.views.now) k c.args.receiver ≡ c.args.sender) same (here ∙ c.if-left_in-sender.false))
    (cases_lt j c.loop-u.u)
