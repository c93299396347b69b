use Rattle.std.proofs.Common.{◌≡◌, sym, ap, subst, ◌∙◌, refl, []}
use Rattle.std.proofs.lemmas.List.{nil_from_length}
use Rattle.activity.specs.Kept.{kept_of}
use Rattle.activity.specs.Plan.{accepted}
use Rattle.activity.specs.Packets.{line_of}
use Rattle.activity.specs.Shown.{kept_rows}
use Rattle.activity.proofs.Lines.{Applying, step_planned, step_room, step_passed, step_applied}
use Rattle.activity.proofs.tables.apply_lines.Goals as goal

pub loop-line-init : goal.loop-line-init
loop-line-init c = record {
  runs = tt;
  ends = tt;
  order = refl;
  applying = λ own planned. subst (λ rest. Applying own (kept_rows c.args.rows.now.entries) (kept_rows c.args.rows.now.entries) c.args.lines.items rest c.args.changes.now) (sym c.into_iter-line-iterator.ensures.into_iter_gives.0)
      (record { distinct = c.requires.distinct; planned = planned; ready = c.requires.room; ahead = λ p. refl });
}

pub apply_line-requires-clause-planned : goal.apply_line-requires-clause-planned
apply_line-requires-clause-planned c = (
  c.requires.planned.0 c.in-Some.line.origin.0,
  step_planned c.requires.planned.0 (kept_rows c.args.rows.now.entries) (kept_rows c.loop-line.rows.entries) c.args.lines.items c.loop-line.line-iterator.rest.items c.in-Some.line c.next.new.self.rest.items
      c.args.changes.now c.loop-line.next c.line.inside.origin.0 (c.loop-line.invariant.applying c.requires.planned.0 c.requires.planned.1) c.in-Some.ensures.steps.0 (ap (λ l. l.origin.0) c.line.view_is) c.in-Some-change_for.change c.in-Some-change_for.ensures.change,
)

pub apply_line-requires-clause-room : goal.apply_line-requires-clause-room
apply_line-requires-clause-room c =
    step_room c.requires.planned.0 (kept_rows c.args.rows.now.entries) (kept_rows c.loop-line.rows.entries) c.args.lines.items c.loop-line.line-iterator.rest.items c.in-Some.line c.next.new.self.rest.items
    c.args.changes.now c.loop-line.next c.line.inside.origin.0 (c.loop-line.invariant.applying c.requires.planned.0 c.requires.planned.1) c.in-Some.ensures.steps.0 (ap (λ l. l.origin.0) c.line.view_is) c.in-Some-change_for.change c.in-Some-change_for.ensures.change

pub loop-line-preserved-in-Some-change_for : goal.loop-line-preserved-in-Some-change_for
loop-line-preserved-in-Some-change_for c = record {
  runs = tt;
  ends = tt;
  order = c.apply_line.ensures.order ∙ c.loop-line.invariant.order;
  applying = λ own planned.
      step_applied own (kept_rows c.args.rows.now.entries) (kept_rows c.loop-line.rows.entries) c.args.lines.items c.loop-line.line-iterator.rest.items c.in-Some.line c.next.new.self.rest.items
      c.args.changes.now c.loop-line.next c.line.inside.origin.0 (c.loop-line.invariant.applying own planned) c.in-Some.ensures.steps.0 (ap (λ l. l.origin.0) c.line.view_is)
      (kept_rows c.apply_line.new.rows.entries) c.in-Some-change_for.change c.in-Some-change_for.ensures.change c.apply_line.ensures.kept c.apply_line.ensures.room;
}

pub loop-line-preserved : goal.loop-line-preserved
loop-line-preserved c = record {
  runs = tt;
  ends = tt;
  order = c.loop-line.invariant.order;
  applying = λ own planned.
      step_passed own (kept_rows c.args.rows.now.entries) (kept_rows c.loop-line.rows.entries) c.args.lines.items c.loop-line.line-iterator.rest.items c.in-Some.line c.next.new.self.rest.items
      c.args.changes.now c.loop-line.next c.line.inside.origin.0 (c.loop-line.invariant.applying own planned) c.in-Some.ensures.steps.0 (ap (λ l. l.origin.0) c.line.view_is) c.in_default.ensures.change;
}

pub returns-clause-kept : goal.returns-clause-kept
returns-clause-kept c = λ own planned p.
    let gone : c.loop-line.line-iterator.rest.items ≡ [] = nil_from_length c.loop-line.line-iterator.rest.items (sym c.loop-line.line-iterator.rest.ok.0 ∙ c.in-None.ensures.steps.0) in
    let inv = c.loop-line.invariant.applying own planned in
    subst (λ rest. accepted (own p) (kept_of (kept_rows c.loop-line.rows.entries) p) (line_of rest p) ≡ accepted (own p) (kept_of (kept_rows c.args.rows.now.entries) p) (line_of c.args.lines.items p)) gone (inv.ahead p)
