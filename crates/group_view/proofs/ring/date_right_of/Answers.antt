use Rattle.std.proofs.Common.{◌∙◌, sym, subst}
use Rattle.group_view.specs.Ring.{AreDistinct}
use Rattle.group_view.specs.Parts.{dated_right_of}
use Rattle.group_view.proofs.Marks.{SameRing, same_ring_so_far, dated_right_keeps, date_then, date_other, date_itself}
use Rattle.group_view.proofs.ring.date_right_of.Goals as goal
use Rattle.group_view.proofs.ring.date_right_of.Goals.{then-id-left+then-left_of-left, else-id-left, else-id-left-via-then-id-left+else-left_of-left, else-id-left-via-else-id-left}

pub left_of-requires : goal.left_of-requires
left_of-requires c =
    let s : SameRing c.loop-place.entries c.args.entries.now = subst (λ us. SameRing us c.args.entries.now) (sym c.loop-place.invariant) (same_ring_so_far (dated_right_of c.args.left.0 c.args.version c.args.entries.now) c.args.entries.now c.loop-place.place (dated_right_keeps c.args.left.0 c.args.version c.args.entries.now)) in
    subst AreDistinct (sym s.same_ids) c.requires

pub loop-place-preserved : goal.loop-place-preserved
loop-place-preserved c =
    elim c.if-id-left.branch [
      | then-id-left+then-left_of-left w ↦ date_then c.args.left.0 c.args.version c.args.entries.now c.loop-place.entries c.if-id-left.entries c.loop-place.place c.index-entries-place.result w.index-entries-place-then-left_of-left.result c.loop-place-test.true c.loop-place.auto.entries c.loop-place.invariant w.entries-is w.if-id-left.true (sym w.left_of.ensures ∙ w.if-left_of-left.true)
      | else-id-left w ↦ elim w.else-id-left.branch [
        | else-id-left-via-then-id-left+else-left_of-left v ↦ date_other c.args.left.0 c.args.version c.args.entries.now c.loop-place.entries c.if-id-left.entries c.loop-place.place c.index-entries-place.result c.loop-place-test.true c.loop-place.auto.entries c.loop-place.invariant w.entries-is (λ same. v.if-left_of-left.false (v.left_of.ensures ∙ same))
        | else-id-left-via-else-id-left v ↦ date_itself c.args.left.0 c.args.version c.args.entries.now c.loop-place.entries c.if-id-left.entries c.loop-place.place c.index-entries-place.result c.loop-place-test.true c.loop-place.auto.entries c.loop-place.invariant w.entries-is v.if-id-left.false
      ]
    ]
