use Rattle.std.proofs.Common.{◌≡◌, ◌<◌, ◌≤◌, false, not, length, take, sym, ap, refl, ◌∙◌, arith, ◌∷◌, []}
use Rattle.std.proofs.lemmas.List.{length-map, take_all}
use Rattle.std.proofs.lemmas.List.Folds.{list_all-append}
use Rattle.activity.specs.Diff.{tells_new}
use Rattle.activity.specs.Shown.{kept_row}
use Rattle.activity.proofs.Lists.{item_at}
use Rattle.activity.proofs.LastSent.{none_new, says_nothing_new, says_something}
use Rattle.activity.proofs.saying.says_all.Goals as goal

pub returns-then-row_is_new : goal.returns-then-row_is_new
returns-then-row_is_new c =
    let many : length c.args.tables.now ≡ length c.tables.inside.rows.entries = ap length (sym c.tables.view_is) ∙ length-map c.tables.inside.rows.entries kept_row in
    let within : c.loop-place.place < length c.args.tables.now = omega (arith, c.len-place-end.ensures.len) in
    let at = item_at c.args.tables.now c.loop-place.place within in
    sym (says_something c.args.sent.now c.args.tables.now c.args.ids at.0.origin.0 (sym (c.row_is_new.ensures at.0 at.1) ∙ c.if-row_is_new.true))

pub loop-place-preserved : goal.loop-place-preserved
loop-place-preserved c =
    let many : length c.args.tables.now ≡ length c.tables.inside.rows.entries = ap length (sym c.tables.view_is) ∙ length-map c.tables.inside.rows.entries kept_row in
    let within : c.loop-place.place < length c.args.tables.now = omega (arith, c.len-place-end.ensures.len) in
    let at = item_at c.args.tables.now c.loop-place.place within in
    let old : tells_new c.args.sent.now c.args.tables.now c.args.ids at.0.origin.0 ≡ false = sym (c.row_is_new.ensures at.0 at.1) ∙ c.if-row_is_new.false in
    ap (none_new c.args.sent.now c.args.tables.now c.args.ids) at.2
    ∙ list_all-append (λ r. not (tells_new c.args.sent.now c.args.tables.now c.args.ids r.origin.0)) (take c.loop-place.place c.args.tables.now) (at.0 ∷ [])
    ∙ rw (c.loop-place.invariant, old) refl

pub returns : goal.returns
returns c =
    let many : length c.args.tables.now ≡ length c.tables.inside.rows.entries = ap length (sym c.tables.view_is) ∙ length-map c.tables.inside.rows.entries kept_row in
    let all : length c.args.tables.now ≤ c.loop-place.place = omega (arith, c.len-place-end.ensures.len) in
    sym (says_nothing_new c.args.sent.now c.args.tables.now c.args.ids c.requires (sym (ap (none_new c.args.sent.now c.args.tables.now c.args.ids) (take_all c.loop-place.place c.args.tables.now all)) ∙ c.loop-place.invariant))
