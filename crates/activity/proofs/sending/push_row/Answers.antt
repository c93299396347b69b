use Rattle.std.proofs.Common.{◌≡◌, ◌≤◌, ◌++◌, ◌∷◌, [], cond, sym, ap, subst, ◌∙◌}
use Rattle.activity.specs.Kept.{got_of, kept_of}
use Rattle.activity.specs.Diff.{has_line, lo_of, line_from, lines_of}
use Rattle.activity.specs.Shown.{kept_in, kept_row}
use Rattle.activity.proofs.Rows.{on_ok, kept_found}
use Rattle.activity.proofs.Next.{row_at, one_line}
use Rattle.activity.proofs.sending.push_row.Goals as goal

pub push_line-requires : goal.push_line-requires
push_line-requires c =
    let e : kept_of c.args.tables.now c.in-Some.origin.now.0 ≡ kept_in c.in-Some.table.now =
    ap (λ rows. kept_of rows c.in-Some.origin.now.0) (sym c.tables.view_is) ∙ kept_found c.in-Some.origin.now c.tables.inside.rows.entries c.in-Some.table.now c.in-Some.ensures.value in
    subst (λ k. c.last.result.got ≤ got_of k) e (subst (λ t. t.got ≤ got_of (kept_of c.args.tables.now c.in-Some.origin.now.0)) (sym c.last.ensures) (c.requires.got c.in-Some.origin.now.0))

pub returns : goal.returns
returns c = on_ok c.push_line.result (λ e r is. e ∙ ap (λ xs. c.args.lines.now.items ++ xs)
    (ap (λ t. cond (has_line c.args.first (kept_in c.in-Some.table.now) t) (line_from (lo_of c.args.first (kept_in c.in-Some.table.now) t) c.in-Some.origin.now (kept_in c.in-Some.table.now) ∷ []) []) c.last.ensures
    ∙ sym (one_line c.args.first c.args.sent.now (kept_row (c.in-Some.origin.now, c.in-Some.table.now)))
    ∙ ap (λ x. lines_of c.args.first c.args.sent.now (x ∷ [])) (row_at c.tables.inside.rows.entries c.args.tables.now c.args.place c.in-Some.origin.now c.in-Some.table.now r c.tables.view_is c.in-Some.ensures.entry is)))
    c.push_line.ensures
