use Rattle.std.proofs.Common.{◌∙◌, ◌+◌, sym, subst, length, Some, List}
use Rattle.group_view.specs.declared.entry.Entry.{Entry}
use Rattle.group_view.specs.View.{as_id}
use Rattle.group_view.specs.Kept.{IsGroup}
use Rattle.group_view.proofs.Groups.{opening_is}
use Rattle.group_view.proofs.view.View.opening.Goals as goal

pub invariant_of-result : goal.invariant_of-result
invariant_of-result c =
    subst (λ (es : List Entry). IsGroup (record { version = 1; entries = es; master = Some (as_id 1); term = 1; next_id = length c.args.names.now + 1 }))
    (sym (c.from_vec.ensures ∙ c.in_ok-entries.ensures)) (opening_is c.args.names.now c.requires)
