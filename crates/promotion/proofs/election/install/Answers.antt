use Rattle.std.proofs.Common.{◌≡◌, ◌∙◌, ◌+◌, ap, sym, subst, false}
use Rattle.group_view.specs.View.{Group, stands_in}
use Rattle.group_view.specs.Kept.{IsGroup}
use Rattle.group_view.specs.Seen.{group_of}
use Rattle.group_view.specs.declared.view.View.TheInside.{Inside}
use Rattle.promotion.specs.Elect.{elected}
use Rattle.promotion.proofs.Installing.{elected_is, term_some, term_none}
use Rattle.promotion.proofs.election.install.Goals as goal
use Rattle.promotion.proofs.election.install.Goals.{then-is_some, else-is_some}

pub invariant_of-view : goal.invariant_of-view
invariant_of-view c =
    let none : stands_in c.view.inside.entries c.view.inside.master ≡ false = ap (λ (g : Group). stands_in g.entries g.master) c.view.view_is ∙ sym c.stands.ensures ∙ c.if-stands.false in
    let is : c.elect-found.result ≡ elected c.view.inside.entries = c.elect-found.ensures ∙ ap (λ (g : Group). elected g.entries) (sym c.view.view_is) in
    elim c.if-is_some.branch [
      | then-is_some w ↦ subst (λ (i : Inside). IsGroup (record (group_of i) { master = c.elect-found.result })) (sym w.view-inside-is)
          (elected_is (group_of c.view.inside) c.elect-found.result (c.view.inside.term + 1) c.view.invariant none is (term_some c.elect-found.result c.view.inside.term (sym c.is_some.ensures ∙ w.if-is_some.true)))
      | else-is_some w ↦ subst (λ (i : Inside). IsGroup (record (group_of i) { master = c.elect-found.result })) (sym w.view-inside-is)
          (elected_is (group_of c.view.inside) c.elect-found.result c.view.inside.term c.view.invariant none is (term_none c.elect-found.result c.view.inside.term (sym c.is_some.ensures ∙ w.if-is_some.false)))
    ]
