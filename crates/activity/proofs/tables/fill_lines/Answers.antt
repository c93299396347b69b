use Rattle.std.proofs.Common.{Some, false, cond, sym, ap, ◌∙◌, refl}
use Rattle.group_view.proofs.Rings.{nat_eq-same}
use Rattle.activity.specs.Kept.{kept_of, has_room}
use Rattle.activity.specs.Plan.{arrivals, changed}
use Rattle.activity.specs.Shown.{kept_rows}
use Rattle.activity.proofs.Begin.{first_planned, first_made, fill_kept, fill_room, fill_line, opened_passed}
use Rattle.activity.proofs.tables.fill_lines.Goals as goal

pub apply_line-requires-clause-planned : goal.apply_line-requires-clause-planned
apply_line-requires-clause-planned c = (
  false,
  first_planned (kept_of (kept_rows c.loop-line.rows.entries) c.line.inside.origin.0) c.in-Some.line (sym c.begins.ensures ∙ c.if-begins.true)
      (fill_kept (kept_rows c.loop-line.rows.entries) c.args.lines.items c.loop-line.line-iterator.rest.items c.in-Some.line c.next.new.self.rest.items c.line.inside.origin.0 c.loop-line.invariant.filling c.in-Some.ensures.steps.0 (ap (λ l. l.origin.0) c.line.view_is))
      ∙ ap Some (sym c.as_received-change.ensures),
)

pub apply_line-requires-clause-room : goal.apply_line-requires-clause-room
apply_line-requires-clause-room c =
    ap (λ ch. has_room (kept_rows c.loop-line.rows.entries) c.line.inside.origin.0 (arrivals ch)) c.as_received-change.ensures
    ∙ fill_room (kept_rows c.loop-line.rows.entries) c.args.lines.items c.loop-line.line-iterator.rest.items c.in-Some.line c.next.new.self.rest.items c.line.inside.origin.0 c.loop-line.invariant.filling c.in-Some.ensures.steps.0 (ap (λ l. l.origin.0) c.line.view_is)
    (sym c.begins.ensures ∙ c.if-begins.true)

pub loop-line-preserved-then-begins : goal.loop-line-preserved-then-begins
loop-line-preserved-then-begins c = record {
  runs = tt;
  ends = tt;
  order = c.apply_line.ensures.order ∙ c.loop-line.invariant.order;
  filling = fill_line (kept_rows c.loop-line.rows.entries) c.args.lines.items c.loop-line.line-iterator.rest.items c.in-Some.line c.next.new.self.rest.items c.line.inside.origin.0 c.loop-line.invariant.filling c.in-Some.ensures.steps.0 (ap (λ l. l.origin.0) c.line.view_is)
      (kept_rows c.apply_line.new.rows.entries)
      (c.apply_line.ensures.kept c.line.inside.origin.0
      ∙ ap (λ b. cond b (changed (kept_of (kept_rows c.loop-line.rows.entries) c.line.inside.origin.0) c.in-Some.line c.as_received-change.result) (kept_of (kept_rows c.loop-line.rows.entries) c.line.inside.origin.0)) (nat_eq-same c.line.inside.origin.0)
      ∙ ap (changed (kept_of (kept_rows c.loop-line.rows.entries) c.line.inside.origin.0) c.in-Some.line) c.as_received-change.ensures
      ∙ first_made (kept_of (kept_rows c.loop-line.rows.entries) c.line.inside.origin.0) c.in-Some.line (sym c.begins.ensures ∙ c.if-begins.true)
      (fill_kept (kept_rows c.loop-line.rows.entries) c.args.lines.items c.loop-line.line-iterator.rest.items c.in-Some.line c.next.new.self.rest.items c.line.inside.origin.0 c.loop-line.invariant.filling c.in-Some.ensures.steps.0 (ap (λ l. l.origin.0) c.line.view_is)))
      (λ p apart. c.apply_line.ensures.kept p ∙ ap (λ b. cond b (changed (kept_of (kept_rows c.loop-line.rows.entries) p) c.in-Some.line c.as_received-change.result) (kept_of (kept_rows c.loop-line.rows.entries) p)) apart)
      c.apply_line.ensures.room;
}

pub loop-line-preserved : goal.loop-line-preserved
loop-line-preserved c = record {
  runs = tt;
  ends = tt;
  order = c.loop-line.invariant.order;
  filling = fill_line (kept_rows c.loop-line.rows.entries) c.args.lines.items c.loop-line.line-iterator.rest.items c.in-Some.line c.next.new.self.rest.items c.line.inside.origin.0 c.loop-line.invariant.filling c.in-Some.ensures.steps.0 (ap (λ l. l.origin.0) c.line.view_is)
      (kept_rows c.loop-line.rows.entries)
      (fill_kept (kept_rows c.loop-line.rows.entries) c.args.lines.items c.loop-line.line-iterator.rest.items c.in-Some.line c.next.new.self.rest.items c.line.inside.origin.0 c.loop-line.invariant.filling c.in-Some.ensures.steps.0 (ap (λ l. l.origin.0) c.line.view_is) ∙ opened_passed c.in-Some.line (sym c.begins.ensures ∙ c.if-begins.false))
      (λ p apart. refl) (λ p n apart. refl);
}
