use Rattle.std.proofs.Common.{◌≡◌, ◌<◌, ◌++◌, ◌∷◌, [], length, take, sym, ap, subst, ◌∙◌, arith}
use Rattle.std.proofs.lemmas.List.{length-map}
use Rattle.activity.specs.Kept.{origins_of}
use Rattle.activity.specs.Diff.{lines_of}
use Rattle.activity.specs.Shown.{kept_row}
use Rattle.group_view.specs.Ring.{AreDistinct}
use Rattle.activity.proofs.Lists.{item_at}
use Rattle.activity.proofs.Next.{distinct_ids, lines_more}
use Rattle.activity.proofs.sending.next_lines.Goals as goal

pub loop-place-preserved : goal.loop-place-preserved
loop-place-preserved c =
    let many : length c.args.tables.now ≡ length c.tables.inside.rows.entries = ap length (sym c.tables.view_is) ∙ length-map c.tables.inside.rows.entries kept_row in
    let within : c.loop-place.place < length c.args.tables.now = omega (arith, c.len-place-end.ensures.len) in
    let at = item_at c.args.tables.now c.loop-place.place within in
    c.in_ok-push_row.ensures at.0 at.1
    ∙ ap (λ xs. xs ++ lines_of c.args.first c.args.sent.now (at.0 ∷ [])) c.loop-place.invariant
    ∙ sym (lines_more c.args.first c.args.sent.now (take c.loop-place.place c.args.tables.now) at.0)
    ∙ ap (lines_of c.args.first c.args.sent.now) (sym at.2)

pub returns-clause-distinct : goal.returns-clause-distinct
returns-clause-distinct c = subst (λ rows. AreDistinct (origins_of rows)) c.tables.view_is (distinct_ids c.tables.inside.rows.entries c.len-place-end.ensures.unique)
