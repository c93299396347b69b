-- What each step of an event does to the rounds of an origin that doesn't run.
use Rattle.std.proofs.Common.{true, ◌≡◌, ◌≢◌, ℕ, ◌<◌, ◌≤◌, false, Some, refl, sym, ap, subst, ◌∙◌, arith}
use Rattle.std.proofs.lemmas.Bool.{false≢true}
use Rattle.std.proofs.lemmas.List.{length-set}
use Rattle.group_view.specs.Change.{marked}
use Rattle.ring_rules.specs.Machine.{World, member_at, link_at, view_in, newest, right, runs, runs_phase}
use Rattle.ring_rules.specs.Step.{size, publish_at, look_at, moved_to, opened_link, open_to}
use Rattle.group_view.proofs.Syncing.{same_ring_registered}
use Rattle.ring_rules.specs.Event.{erased_view, synced_view}
use Rattle.ring_rules.proofs.events.WhatRefuses.{MayLook}
use Rattle.ring_rules.proofs.walks.Put.{runs_phase-Up}
use Rattle.ring_rules.proofs.walks.Cast.{cast_closes}
use Rattle.ring_rules.proofs.walks.Refresh.{settled_closes, blind, current_closes, look_closes}
use Rattle.ring_rules.proofs.walks.Open.{with_opened}
use Rattle.ring_rules.proofs.walks.Views.{marked_marks, erased_marks, view_closes}
use Rattle.ring_rules.proofs.walks.Begin.{begin_closes}
use Rattle.ring_rules.proofs.invariants.KeptBegin.{begin_can}
use Rattle.ring_rules.proofs.invariants.KeptTake.{can_take, take_standing}
use Rattle.ring_rules.proofs.invariants.KeptMore.{way_closes}
use Rattle.ring_rules.proofs.invariants.KeptLook.{Rest, look_rest, look_up}
use Rattle.ring_rules.proofs.invariants.KeptOpen.{out_number, out_member}
use Rattle.ring_rules.proofs.invariants.KeptAdmit.{join_edits}
use Rattle.ring_rules.proofs.invariants.Kept.{Inv}
use Rattle.ring_rules.proofs.invariants.Happens.{IsGood, fresh_open}
use Rattle.ring_rules.proofs.walks.Twice.{Edits, edits_then, closes_edits}
use Rattle.ring_rules.proofs.invariants.TwiceKept.{put_edits, open_edits, take_edits, stop_edits}
use Rattle.ring_rules.proofs.invariants.Moves.{copy_move, Move, cast_move, put_move, take_move, begin_move, current_move, stop_move, way_move, look_move, open_move, mark_move, erase_move, sync_move, join_move}

-- a refresh that opens a link
refresh_edits : (w : World) (x v p : ℕ) → MayLook w x v → ((o : ℕ) → (member_at w x).out ≡ Some o → (link_at w o).receiver ≢ right w v x) → Inv w → Edits w (open_to (look_at w x v) x (right w v x)) p
refresh_edits w x v p m moves h =
    edits_then w w1 (open_to w1 x z) p (closes_edits w w1 p (look_closes w x v p m.is_member m.up m.later))
    (edits_then w1 (with_opened w1 (opened_link w1 x z)) (open_to w1 x z) p
    (open_edits w1 x z p r.is_ring r.waiting (look_up w x v m.is_member m.up) (h.is_ring.front x v (newest w) (runs_phase-Up w x m.up) m.later m.upto (omega arith)) (fresh_open w x v m h moves))
    (closes_edits (with_opened w1 (opened_link w1 x z)) (open_to w1 x z) p (blind (with_opened w1 (opened_link w1 x z)) x p (out_member w1 x) lt refl refl refl (λ g k. out_number g k (with_opened w1 (opened_link w1 x z)) w1 x p))))
  where
    w1 : World
    w1 = look_at w x v

    z : ℕ
    z = right w v x

    r : Rest w1
    r = look_rest w x v m h

    lt : x < size w1
    lt = omega (arith, m.is_member, length-set w.members x (moved_to w x v))

-- each step
pub move_edits : (G : World → Type 0) (w w' : World) (p : ℕ) → IsGood w → Move G w w' → 1 ≤ p → p < size w → runs w p ≡ false → Edits w w' p
move_edits G w w' p g (cast_move x m lt up e) some pl rests = subst (λ k. Edits w k p) (sym e)
    (closes_edits w (publish_at w x m) p (cast_closes m w x p lt up (λ is. false≢true (sym rests ∙ ap (runs w) is ∙ ap runs_phase up))))
move_edits G w w' p g (put_move x o up out e) some pl rests = subst (λ k. Edits w k p) (sym e) (put_edits w x o p g.inv up out)
move_edits G w w' p g (take_move y s m e) some pl rests = subst (λ k. Edits w k p) (sym e)
    (take_edits w y s p (can_take w y s g.inv m) pl (g.inv.is_ring.distinct (newest w) (omega arith)) (g.inv.is_ring.stands y (newest w) (ap runs_phase m.up) (g.inv.is_ring.held y) (omega arith)) (take_standing w y s p g.inv m (g.inv.origins p some pl) pl))
move_edits G w w' p g (begin_move y s m e) some pl rests = subst (λ k. Edits w k p) (sym e) (closes_edits w _ p (begin_closes w y s p (begin_can w y s g.inv m) pl))
move_edits G w w' p g (current_move y c lt up k e) some pl rests = subst (λ k. Edits w k p) (sym e) (closes_edits w _ p (current_closes w y p c lt up))
move_edits G w w' p g (copy_move x m lt up e) some pl rests = subst (λ k. Edits w k p) (sym e) (closes_edits w _ p (settled_closes w x p (member_at w x).current m true lt up))
move_edits G w w' p g (stop_move x lt rx e) some pl rests = subst (λ k. Edits w k p) (sym e) (stop_edits w x p lt g.inv rx (g.inv.origins p some pl))
move_edits G w w' p g (way_move s l lt k e) some pl rests = subst (λ k. Edits w k p) (sym e) (closes_edits w _ p (way_closes w s l p k lt))
move_edits G w w' p g (look_move x v m e) some pl rests = subst (λ k. Edits w k p) (sym e) (closes_edits w _ p (look_closes w x v p m.is_member m.up m.later))
move_edits G w w' p g (open_move x v m moves e) some pl rests = subst (λ k. Edits w k p) (sym e) (refresh_edits w x v p m moves g.inv)
move_edits G w w' p g (mark_move d rest live e) some pl rests = subst (λ k. Edits w k p) (sym e) (closes_edits w _ p (view_closes w (marked (view_in w (newest w)) d) p (marked_marks w d).same_ids g.inv.is_ring))
move_edits G w w' p g (erase_move x d m e) some pl rests = subst (λ k. Edits w k p) (sym e) (closes_edits w _ p (view_closes w (erased_view w d) p (erased_marks w d).same_ids g.inv.is_ring))
move_edits G w w' p g (sync_move x m e) some pl rests = subst (λ k. Edits w k p) (sym e) (closes_edits w _ p (view_closes w (synced_view w x) p (same_ring_registered (view_in w (newest w)) x).same_ids g.inv.is_ring))
move_edits G w w' p g (join_move m name j gw e) some pl rests = subst (λ k. Edits w k p) (sym e) (join_edits w m name j p pl)
