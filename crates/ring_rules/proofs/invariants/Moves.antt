-- The single steps of an event, each from a good state to a good one: what they keep, events keep.
use Rattle.std.proofs.Common.{◌≡◌, ◌≢◌, ℕ, ◌+◌, ◌<◌, true, List, length, Option, Some, None, refl, sym, ap, subst, arith}
use Rattle.queue_mirror.specs.Mirror.{MirrorState}
use Rattle.std.proofs.lemmas.List.{length_push}
use Rattle.queue_core.specs.declared.message.Message.{Message}
use Rattle.group_view.specs.View.{Group}
use Rattle.group_view.specs.Change.{marked}
use Rattle.ring_rules.specs.View.{is_live}
use Rattle.ring_rules.specs.Machine.{Up, Stopped, Moved, Halted, Link, World, member_at, link_at, view_in, newest, right, runs, runs_phase}
use Rattle.ring_rules.specs.Step.{copied_at, size, publish_at, put_on, gain_on, take_from, begin_from, current_is, leave_link, finished, ended, stop_at, end_out, with_link, with_view, look_at, open_to, opened_link, come_to}
use Rattle.ring_rules.specs.Event.{refreshed, erased_view, synced_view}
use Rattle.ring_rules.specs.Act.{Act, refusal, effect, IsRun, last}
use Rattle.ring_rules.proofs.events.WhatRefuses.{MayTake, MayBegin, IsPickable, MayLook, MayErase, MaySync, IsSameWay}
use Rattle.ring_rules.proofs.invariants.KeptAdmit.{CanJoin, joined_state}
use Rattle.ring_rules.proofs.invariants.Happens.{IsGood, run_acts, current_good, nothing_pickable, mark_good, erase_good, sync_there, sync_good, join_good, can_join, door_pickable, stopped_good, open_good, ends_same_way, newer_look, refresh_ordered, admit_composed, joined_links}
use Rattle.ring_rules.proofs.events.Cases.{each_act}
use Rattle.ring_rules.proofs.events.Composed.{end_composed}

-- a step; where a member joins, G is known of the state before
pub data Move (G : World → Type 0) (w w' : World) : Type 0 where
  cast_move : (x : ℕ) (m : Message) → x < size w → (member_at w x).phase ≡ Up → w' ≡ publish_at w x m → Move G w w'
  put_move : (x o : ℕ) → (member_at w x).phase ≡ Up → (member_at w x).out ≡ Some o → w' ≡ put_on w x o → Move G w w'
  take_move : (y s : ℕ) → MayTake w y s → w' ≡ take_from w y s → Move G w w'
  begin_move : (y s : ℕ) → MayBegin w y s → w' ≡ begin_from w y s → Move G w w'
  current_move : (y : ℕ) (c : Option ℕ) → y < size w → (member_at w y).phase ≡ Up → IsPickable w y c → w' ≡ current_is w y c → Move G w w'
  copy_move : (x : ℕ) (m : MirrorState) → x < size w → (member_at w x).phase ≡ Up → w' ≡ copied_at w x m → Move G w w'
  stop_move : (x : ℕ) → x < size w → runs w x ≡ true → w' ≡ stop_at w x → Move G w w'
  way_move : (s : ℕ) (l : Link) → s < length w.links → IsSameWay (link_at w s) l → w' ≡ with_link w s l → Move G w w'
  look_move : (x v : ℕ) → MayLook w x v → w' ≡ look_at w x v → Move G w w'
  open_move : (x v : ℕ) → MayLook w x v → ((o : ℕ) → (member_at w x).out ≡ Some o → (link_at w o).receiver ≢ right w v x) → w' ≡ open_to (look_at w x v) x (right w v x) → Move G w w'
  mark_move : (d : ℕ) → (member_at w d).phase ≡ Stopped → is_live (view_in w (newest w)) d ≡ true → w' ≡ with_view w (marked (view_in w (newest w)) d) → Move G w w'
  erase_move : (x d : ℕ) → MayErase w x d → w' ≡ with_view w (erased_view w d) → Move G w w'
  sync_move : (x : ℕ) → MaySync w x → w' ≡ with_view w (synced_view w x) → Move G w w'
  join_move : (m : ℕ) (name : List ℕ) → CanJoin w m → G w → w' ≡ joined_state w m name → Move G w w'

module _ (G P : World → Type 0) (keeps : (w w' : World) → IsGood w → Move G w w' → P w → P w') where
  -- the link ends on which a member sent before
  earlier_moves : (w : World) (o : ℕ) (l : Link) → o < length w.links → link_at w o ≡ l → IsGood w → P w → P (with_link w o (ended Moved l))
  earlier_moves w o l lt is g h = keeps w _ g (way_move o (ended Moved l) lt (subst (λ a. IsSameWay a (ended Moved l)) (sym is) (ends_same_way Moved l)) refl) h

  -- a whole refresh
  refresh_moves : (w : World) (x v : ℕ) → MayLook w x v → IsGood w → P w → P (refreshed w x v)
  refresh_moves w x v m g h = refresh_ordered P w x v m g.inv (λ stays. keeps w (look_at w x v) g (look_move x v m refl) h) opens
      (λ o moves e there old. earlier_moves w2 o (link_at w o) (omega (arith, there, length_push w.links (opened_link (look_at w x v) x (right w v x)))) old (open_good w x v m moves g) (opens moves))
    where
      w2 : World
      w2 = open_to (look_at w x v) x (right w v x)

      opens : ((o : ℕ) → (member_at w x).out ≡ Some o → (link_at w o).receiver ≢ right w v x) → P w2
      opens moves = keeps w w2 g (open_move x v m moves refl) h

  -- who adds a view looks at it
  newer_moves : (w : World) (x : ℕ) (v' : Group) → x < size w → (member_at w x).phase ≡ Up → IsGood w → IsGood (with_view w v') → P (with_view w v') → P (refreshed (with_view w v') x (newest w + 1))
  newer_moves w x v' lt up g g2 h = refresh_moves (with_view w v') x (newest w + 1) (newer_look w x v' lt up g.inv.is_ring) g2 h

  -- a whole stop
  stop_moves : (w : World) (x : ℕ) → x < size w → runs w x ≡ true → IsGood w → P w → P (end_out Halted (stop_at w x) (member_at w x).out)
  stop_moves w x lt rx g h = end_composed P Halted (stop_at w x) (member_at w x).out
      (λ o e now. keeps (stop_at w x) _ (stopped_good w x lt rx g) (way_move o (ended Halted (link_at w o)) (g.inv.linked.out_lt x o rx e) (ends_same_way Halted (link_at w o)) refl) now)
      (keeps w (stop_at w x) g (stop_move x lt rx refl) h)

  -- a whole admission
  admit_moves : (w : World) (m : ℕ) (name : List ℕ) → CanJoin w m → IsGood w → G w → P w → P (refreshed (come_to w m name) m (newest w + 1))
  admit_moves w m name j g gw h = admit_composed P w m name j
      (λ o e there old. earlier_moves (joined_state w m name) o (link_at w o) (omega (arith, there, joined_links w m name)) old (join_good w m name j g) joins) joins
    where
      joins : P (joined_state w m name)
      joins = keeps w (joined_state w m name) g (join_move m name j gw refl) h

  -- any event
  pub act_moves : (w : World) (e : Act) → IsGood w → G w → refusal w e ≡ None → P w → P (effect w e)
  act_moves w e g gw r h = each_act P w e g (record {
    casts = λ x m u _. keeps w (publish_at w x m) g (cast_move x m u.lt u.up refl) h;
    puts = λ x o u out k. keeps w (put_on w x o) g (put_move x o u.up out refl) h;
    takes = λ y s u m. keeps w (take_from w y s) g (take_move y s m refl) h;
    begins = λ y s u m. keeps w (begin_from w y s) g (begin_move y s m refl) h;
    leaves = λ y s u current k. keeps (current_is w y None) (leave_link w y s) (current_good w y None u.lt u.up (nothing_pickable w y) g)
        (way_move s (finished (link_at w s)) (g.inv.current.lt y s (ap runs_phase u.up) current) (record { sender = refl; receiver = refl; opened = refl; packets = refl }) refl)
        (keeps w (current_is w y None) g (current_move y None u.lt u.up (nothing_pickable w y) refl) h);
    gains = λ x o u out k. keeps w (gain_on w o) g (way_move o _ (g.inv.linked.out_lt x o (ap runs_phase u.up) out) (record { sender = refl; receiver = refl; opened = refl; packets = refl }) refl) h;
    stops = λ x u. stop_moves w x u.lt u.runs_on g h;
    marks = λ x d u m. newer_moves w x (marked (view_in w (newest w)) d) u.lt u.up g (mark_good w d m.rests m.lives g) (keeps w _ g (mark_move d m.rests m.lives refl) h);
    erases = λ x d u m. newer_moves w x (erased_view w d) u.lt u.up g (erase_good w d m.dead g) (keeps w _ g (erase_move x d m refl) h);
    syncs = λ x u m. newer_moves w x (synced_view w x) u.lt u.up g (sync_good w x (sync_there w x m g) g) (keeps w _ g (sync_move x m refl) h);
    admits = λ x name u k. admit_moves w x name (can_join w x name u.lt u.up k g) g gw h;
    refreshes = λ x v u m. refresh_moves w x v m g h;
    picks = λ y s u none door upto. keeps w (current_is w y (Some s)) g (current_move y (Some s) u.lt u.up (door_pickable w y s door upto g) refl) h;
    refuses = h;
  }) (λ x m u _. keeps w (copied_at w x m) g (copy_move x m u.lt u.up refl) h) r

-- what each step keeps, every run keeps
pub run_moves : (P : World → Type 0) → ((w w' : World) → IsGood w → Move IsGood w w' → P w → P w') → (w : World) (es : List Act) → IsGood w → IsRun w es → P w → P (last w es)
run_moves P keeps = run_acts P (λ w e g r h. act_moves IsGood P keeps w e g g r h)
