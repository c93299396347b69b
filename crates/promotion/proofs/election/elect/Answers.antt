use Rattle.std.proofs.Common.{◌≡◌, ◌∙◌, ◌<◌, List, Some, ap, sym, subst, true, false, length, get_or}
use Rattle.group_view.specs.View.{Group, as_id}
use Rattle.group_view.specs.declared.entry.Entry.{Entry}
use Rattle.std.specs.Prelude.{option_map}
use Rattle.group_view.specs.View.{number}
use Rattle.promotion.specs.Elect.{lesser}
use Rattle.promotion.proofs.Elected.{elected_more}
use Rattle.promotion.proofs.election.elect.Goals as goal
use Rattle.promotion.proofs.election.elect.Goals.{then-may_lead, else-may_lead}

pub loop-entry-preserved : goal.loop-entry-preserved
loop-entry-preserved c =
    let seen : c.as_slice-entry-items.result.now ≡ c.args.view.now.entries = c.as_slice-entry-items.ensures ∙ ap (λ (g : Group). g.entries) c.view.view_is in
    let lt : c.loop-entry.entry-index < length c.args.view.now.entries = subst (λ (es : List Entry). c.loop-entry.entry-index < length es) seen c.loop-entry-test.true in
    let item : c.entry-item.result ≡ get_or c.args.view.now.entries c.loop-entry.entry-index c.entry-item.result = c.entry-item.is ∙ ap (λ es. get_or es c.loop-entry.entry-index c.entry-item.result) seen in
    elim c.if-may_lead.branch [
      | then-may_lead w ↦ w.found-is ∙ ap (λ n. Some (as_id n)) (w.lesser.ensures ∙ ap (λ o. lesser (option_map number o) c.entry-item.result.id.0) c.loop-entry.invariant)
          ∙ sym (elected_more c.args.view.now.entries c.loop-entry.entry-index c.entry-item.result true lt item (sym c.may_lead.ensures ∙ w.if-may_lead.true))
      | else-may_lead w ↦ w.found-is ∙ c.loop-entry.invariant
          ∙ sym (elected_more c.args.view.now.entries c.loop-entry.entry-index c.entry-item.result false lt item (sym c.may_lead.ensures ∙ w.if-may_lead.false))
    ]
