use Rattle.std.proofs.Common.{◌∙◌, ◌+◌, ap, sym, subst, ◌++◌, List, map}
use Rattle.std.specs.Prelude.{reverse}
use Rattle.std.specs.List.{filter}
use Rattle.std.proofs.lemmas.List.{reverse-append}
use Rattle.std.proofs.lemmas.List.Elements.{filter-append}
use Rattle.group_view.specs.declared.entry.Entry.{Entry}
use Rattle.group_view.specs.Ring.{before, after}
use Rattle.group_view.specs.View.{ids, number, is_alias}
use Rattle.group_view.specs.Parts.{place_of, AreFound}
use Rattle.group_view.proofs.Cuts.{found_take, found_drop, found_own, ids-take, ids-drop_more}
use Rattle.group_view.proofs.ring.aliases_of.Goals as goal

pub push_aliases-requires-clause-part : goal.push_aliases-requires-clause-part
push_aliases-requires-clause-part c =
    subst (AreFound c.args.entries.now) (sym c.others.ensures.before) (found_take c.args.entries.now (place_of c.args.entries.now c.args.id.0) c.args.entries.now (found_own c.args.entries.now c.requires))

pub push_aliases-requires-2-clause-part : goal.push_aliases-requires-2-clause-part
push_aliases-requires-2-clause-part c =
    subst (AreFound c.args.entries.now) (sym c.others.ensures.after) (found_drop c.args.entries.now (place_of c.args.entries.now c.args.id.0 + 1) c.args.entries.now (found_own c.args.entries.now c.requires))

pub returns : goal.returns
returns c =
    let es : List Entry = c.args.entries.now in
    let b = before c.args.id.0 (ids es) in
    let a = after c.args.id.0 (ids es) in
    let t = is_alias es c.args.id.0 in
    c.in_ok-push_aliases-2.ensures
    ∙ ap (λ us. us ++ filter t (reverse (ids c.others.result.0.now))) (c.in_ok-push_aliases.ensures ∙ ap (λ xs. map number xs ++ filter t (reverse (ids c.others.result.1.now))) c.new-aliases.ensures.items)
    ∙ ap (λ us. filter t (reverse (ids us)) ++ filter t (reverse (ids c.others.result.0.now))) c.others.ensures.before
    ∙ ap (λ us. filter t (reverse us) ++ filter t (reverse (ids c.others.result.0.now))) (ids-take es c.args.id.0)
    ∙ ap (λ us. filter t (reverse b) ++ filter t (reverse (ids us))) c.others.ensures.after
    ∙ ap (λ us. filter t (reverse b) ++ filter t (reverse us)) (ids-drop_more es c.args.id.0)
    ∙ sym (filter-append t (reverse b) (reverse a))
    ∙ ap (filter t) (sym (reverse-append a b))
