-- What a step does to the newest view, and to how many members there are.
use Rattle.std.proofs.Common.{◌≡◌, ℕ, ◌+◌, ◌-◌, ◌<◌, ◌≤◌, true, List, [], ◌∷◌, ◌++◌, length, get_or, refl, ap, ◌∙◌, arith}
use Rattle.std.proofs.lemmas.List.{length-set, length_push}
use Rattle.group_view.specs.View.{Group}
use Rattle.group_view.specs.Since.{no_group}
use Rattle.group_view.specs.Change.{marked}
use Rattle.ring_rules.specs.View.{is_live}
use Rattle.ring_rules.specs.Machine.{World, view_in, newest}
use Rattle.ring_rules.specs.Step.{size, with_view, look_at, moved_to, admitted_view}
use Rattle.ring_rules.specs.Event.{erased_view, synced_view}
use Rattle.ring_rules.proofs.events.WhatRefuses.{MayErase, MaySync}
use Rattle.ring_rules.proofs.walks.Views.{view_new}
use Rattle.ring_rules.proofs.invariants.FromLeft.{IsGood}
use Rattle.ring_rules.proofs.invariants.KeptAdmit.{CanJoin, join_view, many}
use Rattle.ring_rules.proofs.invariants.Moves.{copy_move, Move, cast_move, put_move, take_move, begin_move, current_move, stop_move, way_move, look_move, open_move, mark_move, erase_move, sync_move, join_move}

-- it stays, or a live one dies in it, a dead one is erased, one is registered, or one is admitted, who is then a member
pub data NewestAfter (w w' : World) : Type 0 where
  newest_stays : size w' ≡ size w → view_in w' (newest w') ≡ view_in w (newest w) → NewestAfter w w'
  newest_marked : (d : ℕ) → is_live (view_in w (newest w)) d ≡ true → size w' ≡ size w → view_in w' (newest w') ≡ marked (view_in w (newest w)) d → NewestAfter w w'
  newest_erased : (x d : ℕ) → MayErase w x d → size w' ≡ size w → view_in w' (newest w') ≡ erased_view w d → NewestAfter w w'
  newest_synced : (x : ℕ) → MaySync w x → size w' ≡ size w → view_in w' (newest w') ≡ synced_view w x → NewestAfter w w'
  newest_admitted : (m : ℕ) (name : List ℕ) → CanJoin w m → size w' ≡ size w + 1 → view_in w' (newest w') ≡ admitted_view w m name → NewestAfter w w'

new_newest : (w : World) (g : Group) → IsGood w → view_in (with_view w g) (newest (with_view w g)) ≡ g
new_newest w g good = view_new w g (newest (with_view w g)) (let more : length (w.views ++ g ∷ []) ≡ length w.views + 1 = length_push w.views g in let some : 0 < length w.views = good.inv.is_ring.some in omega arith)

pub newest_after : (G : World → Type 0) (w w' : World) → IsGood w → Move G w w' → NewestAfter w w'
newest_after G w w' g k = by_move k
  where
    same : (u : World) → size u ≡ size w → u.views ≡ w.views → w' ≡ u → NewestAfter w w'
    same u sizes views e = newest_stays (ap size e ∙ sizes) (ap (λ vs. get_or vs (length vs - 1) no_group) (ap (λ (a : World). a.views) e ∙ views))

    now : (v : Group) → w' ≡ with_view w v → view_in w' (newest w') ≡ v
    now v e = ap (λ (a : World). view_in a (newest a)) e ∙ new_newest w v g

    by_move : Move G w w' → NewestAfter w w'
    by_move (cast_move x m lt up e) = same _ (length-set w.members x _) refl e
    by_move (put_move x o up out e) = same _ refl refl e
    by_move (take_move y s m e) = same _ (length-set w.members y _) refl e
    by_move (begin_move y s m e) = same _ (length-set w.members y _) refl e
    by_move (current_move y c lt up q e) = same _ (length-set w.members y _) refl e
    by_move (copy_move x m lt up e) = same _ (length-set w.members x _) refl e
    by_move (stop_move x lt rx e) = same _ (length-set w.members x _) refl e
    by_move (way_move s l lt q e) = same _ refl refl e
    by_move (look_move x v m e) = same _ (length-set w.members x _) refl e
    by_move (open_move x v m moves e) = same _ (length-set (look_at w x v).members x _ ∙ length-set w.members x (moved_to w x v)) refl e
    by_move (mark_move d rest live e) = newest_marked d live (ap size e) (now (marked (view_in w (newest w)) d) e)
    by_move (erase_move x d m e) = newest_erased x d m (ap size e) (now (erased_view w d) e)
    by_move (sync_move x m e) = newest_synced x m (ap size e) (now (synced_view w x) e)
    by_move (join_move m name j gw e) = newest_admitted m name j (ap size e ∙ many w m name j) (ap (λ (a : World). view_in a (newest a)) e ∙ join_view w m name j)

-- there are no fewer members
pub move_more : (G : World → Type 0) (w w' : World) → IsGood w → Move G w w' → size w ≤ size w'
move_more G w w' g k = by_newest (newest_after G w w' g k)
  where
    by_newest : NewestAfter w w' → size w ≤ size w'
    by_newest (newest_stays sizes is) = omega (arith, sizes)
    by_newest (newest_marked d live sizes is) = omega (arith, sizes)
    by_newest (newest_erased x d m sizes is) = omega (arith, sizes)
    by_newest (newest_synced x m sizes is) = omega (arith, sizes)
    by_newest (newest_admitted m name j sizes is) = omega (arith, sizes)
