-- A member that waits stands directly right of its admitter, in its view.
use Rattle.ring_rules.proofs.invariants.KeptLook.{look_up}
use Rattle.std.proofs.Common.{◌≡◌, ℕ, ◌<◌, ◌≤◌, false, List, [], ◌∷◌, length, Some, refl, sym, ap, subst, ◌∙◌, arith}
use Rattle.std.proofs.lemmas.List.{length-set, get_or_append_left}
use Rattle.ring_names.specs.declared.numbers.CreditSpec.{CreditSpec}
use Rattle.group_view.specs.View.{Group}
use Rattle.group_view.specs.Change.{marked}
use Rattle.ring_rules.specs.View.{between}
use Rattle.ring_rules.specs.Machine.{Waiting, World, Member, Link, no_link, member_at, link_at, view_in, newest, right, runs_phase, is_waiting, oldest}
use Rattle.ring_rules.specs.Step.{copied, size, pushed, popped, next_packet, published, taker, begun, with_current, stopped, moved_to, with_member, with_link, with_view, look_at, opened_link, open_to, opening}
use Rattle.ring_rules.specs.Event.{erased_view, synced_view}
use Rattle.ring_rules.proofs.rings.Lists.{at_set}
use Rattle.ring_rules.proofs.walks.Views.{view_old}
use Rattle.ring_rules.proofs.invariants.Kept.{Inv, set_alike, WaitersStay}
use Rattle.ring_rules.proofs.invariants.KeptOpen.{out_member}
use Rattle.ring_rules.proofs.invariants.KeptAdmit.{join_beside}
use Rattle.ring_rules.proofs.events.First.{first_none_waits}
use Rattle.ring_rules.proofs.invariants.Happens.{IsGood}
use Rattle.ring_rules.proofs.invariants.Moves.{copy_move, Move, cast_move, put_move, take_move, begin_move, current_move, stop_move, way_move, look_move, open_move, mark_move, erase_move, sync_move, join_move}

-- in its view nobody stands between the sender of its current link and itself
abbrev pub IsBeside : World → Type 0
IsBeside w = (q s : ℕ) → (member_at w q).phase ≡ Waiting → (member_at w q).current ≡ Some s → between (view_in w (member_at w q).version) (link_at w s).sender q ≡ []

-- who waits is as before, and so is who sends to it
record SameWaits (w w' : World) : Type 0 where
  pub waits : WaitersStay w w'
  pub senders : (s : ℕ) → s < length w.links → (link_at w' s).sender ≡ (link_at w s).sender
  pub views : (v : ℕ) → v ≤ newest w → view_in w' v ≡ view_in w v

same_beside : (w w' : World) → SameWaits w w' → Inv w → IsBeside w → IsBeside w'
same_beside w w' k inv h q s e c =
    let same : member_at w' q ≡ member_at w q = k.waits q e in
    let waits : (member_at w q).phase ≡ Waiting = sym (ap (λ a. a.phase) same) ∙ e in
    let takes : (member_at w q).current ≡ Some s = sym (ap (λ a. a.current) same) ∙ c in
    ap (λ (a : Member). between (view_in w' a.version) (link_at w' s).sender q) same
    ∙ ap (λ v. between v (link_at w' s).sender q) (k.views (member_at w q).version (inv.is_ring.held q))
    ∙ ap (λ z. between (view_in w (member_at w q).version) z q) (k.senders s (inv.current.lt q s (ap runs_phase waits) takes))
    ∙ h q s waits takes

-- a member that doesn't wait is written, or links that keep their senders
set_waits : (w : World) (x : ℕ) (m : Member) → x < size w → is_waiting m.phase ≡ false → SameWaits w (with_member w x m)
set_waits w x m lt e = record { waits = λ q k. set_alike w x q m lt e k; senders = λ s _. refl; views = λ v _. refl }

link_waits : (w : World) (o : ℕ) (l : Link) → o < length w.links → l.sender ≡ (link_at w o).sender → SameWaits w (with_link w o l)
link_waits w o l lt e = record { waits = λ q _. refl; senders = λ s _. at_set (λ i a. a.sender ≡ (link_at w i).sender) w.links o s l no_link lt e (λ _. refl); views = λ v _. refl }

both_waits : (w : World) (x o : ℕ) (m : Member) (l : Link) → x < size w → is_waiting m.phase ≡ false → o < length w.links → l.sender ≡ (link_at w o).sender → SameWaits w (with_link (with_member w x m) o l)
both_waits w x o m l lt e ol from = record { waits = (set_waits w x m lt e).waits; senders = (link_waits w o l ol from).senders; views = λ v _. refl }

view_waits : (w : World) (v : Group) → Inv w → SameWaits w (with_view w v)
view_waits w v inv = record { waits = λ q _. refl; senders = λ s _. refl; views = λ u a. view_old w v u (omega (arith, a, inv.is_ring.some)) }

-- each step
pub move_beside : (w w' : World) → IsGood w → Move IsGood w w' → IsBeside w → IsBeside w'
move_beside w w' g (cast_move x m lt up e) h = subst IsBeside (sym e) (same_beside w _ (set_waits w x (published x m (member_at w x)) lt (ap is_waiting up)) g.inv h)
move_beside w w' g (put_move x o up out e) h = subst IsBeside (sym e) (same_beside w _ (link_waits w o (pushed (link_at w o) (next_packet (member_at w x) (link_at w o).sending)) (g.inv.linked.out_lt x o (ap runs_phase up) out) refl) g.inv h)
move_beside w w' g (take_move y s m e) h = subst IsBeside (sym e) (same_beside w _ (both_waits w y s (taker w y s) (popped (link_at w s)) m.is_member (ap is_waiting m.up) (g.inv.current.lt y s (ap runs_phase m.up) m.current) refl) g.inv h)
move_beside w w' g (begin_move y s m e) h = subst IsBeside (sym e) (same_beside w _ (both_waits w y s (begun (size w) (member_at w y) (oldest (link_at w s))) (popped (link_at w s)) m.is_member refl (g.inv.current.lt y s (ap runs_phase m.waits) m.current) refl) g.inv h)
move_beside w w' g (current_move y c lt up k e) h = subst IsBeside (sym e) (same_beside w _ (set_waits w y (with_current c (member_at w y)) lt (ap is_waiting up)) g.inv h)
move_beside w w' g (copy_move x m lt up e) h = subst IsBeside (sym e) (same_beside w _ (set_waits w x (copied m (member_at w x)) lt (ap is_waiting up)) g.inv h)
move_beside w w' g (stop_move x lt rx e) h = subst IsBeside (sym e) (same_beside w _ (set_waits w x (stopped (member_at w x)) lt refl) g.inv h)
move_beside w w' g (way_move s l lt k e) h = subst IsBeside (sym e) (same_beside w _ (link_waits w s l lt k.sender) g.inv h)
move_beside w w' g (look_move x v m e) h = subst IsBeside (sym e) (same_beside w _ (set_waits w x (moved_to w x v) m.is_member (ap is_waiting m.up)) g.inv h)
move_beside w w' g (open_move x v m moves e) h = subst IsBeside (sym e) (same_beside w (open_to (look_at w x v) x (right w v x)) (record {
  waits = λ q k.
      let again : member_at (open_to w1 x z) q ≡ member_at w1 q = set_alike w1 x q (out_member w1 x) lt1 (ap is_waiting (look_up w x v m.is_member m.up)) k in
      again ∙ set_alike w x q (moved_to w x v) m.is_member (ap is_waiting m.up) (sym (ap (λ a. a.phase) again) ∙ k);
  senders = λ s sl. ap (λ (a : Link). a.sender) (get_or_append_left w.links (opened_link w1 x z ∷ []) no_link s sl);
  views = λ u _. refl;
}) g.inv h)
  where
    w1 : World
    w1 = look_at w x v

    z : ℕ
    z = right w v x

    lt1 : x < size w1
    lt1 = omega (arith, m.is_member, length-set w.members x (moved_to w x v))
move_beside w w' g (mark_move d rest live e) h = subst IsBeside (sym e) (same_beside w _ (view_waits w (marked (view_in w (newest w)) d) g.inv) g.inv h)
move_beside w w' g (sync_move x m e) h = subst IsBeside (sym e) (same_beside w _ (view_waits w (synced_view w x) g.inv) g.inv h)
move_beside w w' g (erase_move x d m e) h = subst IsBeside (sym e) (same_beside w _ (view_waits w (erased_view w d) g.inv) g.inv h)
move_beside w w' g (join_move m name j here e) h = subst IsBeside (sym e) (join_beside w m name j h)

pub opening_beside : (credit : CreditSpec) (names : List (List ℕ)) → IsBeside (opening credit names)
opening_beside credit names q s e = absurd (first_none_waits credit names q e)
