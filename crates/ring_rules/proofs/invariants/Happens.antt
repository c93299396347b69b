-- Each event that may happen keeps the whole invariant.
use Rattle.group_view.specs.Ring.{is_in}
use Rattle.queue_mirror.specs.Mirror.{MirrorState}
use Rattle.std.proofs.Common.{◌≡◌, ◌≢◌, ℕ, ◌+◌, ◌<◌, ◌≤◌, Bool, true, false, nat_eq, List, [], ◌∷◌, ◌++◌, length, set, Option, Some, None, refl, sym, ap, subst, ◌∙◌, if◌then◌else◌, arith, map, nat_lt, nat_le, is_some}
use Rattle.std.specs.Prelude.{◌&&◌}
use Rattle.std.proofs.lemmas.Bool.{false≢true}
use Rattle.std.proofs.lemmas.List.{length_push, get_or_append_left, length-set}
use Rattle.std.specs.List.{range_with_len}
use Rattle.std.proofs.lemmas.Bool.Decides.{nat_tests}
use Rattle.std.proofs.lemmas.List.FromFn.{length-map-range_with_len}
use Rattle.queue_core.specs.declared.message.Message.{Message}
use Rattle.ring_names.specs.declared.numbers.CreditSpec.{CreditSpec}
use Rattle.group_view.specs.Change.{AreOpeningNames, marked, registered, opening as opening_group, is_taken}
use Rattle.group_view.proofs.History.{Ends, opening_begins, Follows, goes_on, last_is, mark_follows}
use Rattle.group_view.proofs.Passing.{live_in, dead_in}
use Rattle.ring_rules.specs.View.{is_live, right_of, right_by, ids}
use Rattle.ring_rules.specs.Machine.{ring, Waiting, Up, Stopped, Member, Ending, Moved, Halted, Link, World, no_link, no_member, member_at, link_at, view_in, newest, right, runs, runs_phase, is_kept, is_waiting, oldest}
use Rattle.ring_rules.specs.Step.{copied, copied_at, size, publish_at, put_on, take_from, current_is, with_current, finished, ended, stop_at, stopped, end_out, with_link, with_view, look_at, moved_to, open_to, opened_link, taker, published, opening, begun, begin_from, joiner, admitted_view, come_to, opening_member}
use Rattle.ring_rules.proofs.events.WhatRefuses.{IsSameWay, MayTake, IsPickable, MayLook, MayBegin, MaySync}
use Rattle.ring_rules.specs.Event.{at_door, send_to, refreshed, erased_view, synced_view, admit_refusal}
use Rattle.ring_rules.specs.Act.{Act, refusal, effect, IsRun, last}
use Rattle.ring_rules.proofs.rings.Rounds.{nat_eq-is, nat_eq-same}
use Rattle.ring_rules.proofs.walks.Views.{view_new, newest_view, IsMarked, marked_marks, erased_marks, synced_marks, dead_rests}
use Rattle.ring_rules.proofs.invariants.Kept.{put_keeps, Inv, set_alike}
use Rattle.ring_names.specs.declared.reason.Reason.TheVariants as reason
use Rattle.group_view.specs.View.{Group, is_dead}
use Rattle.group_view.specs.Kept.{IsGroup}
use Rattle.group_view.proofs.Joining.{MayAdmit, below_at, admit_follows}
use Rattle.ring_rules.proofs.invariants.Period.{opens_period}
use Rattle.ring_rules.proofs.invariants.KeptBegin.{begin_keeps}
use Rattle.ring_rules.proofs.invariants.KeptAdmit.{CanJoin, joined_state, join_keeps, right_of_m, receivers}
use Rattle.ring_rules.proofs.invariants.KeptTake.{take_keeps}
use Rattle.ring_rules.proofs.invariants.KeptMore.{copied_keeps, stop_keeps, current_keeps, mark_keeps, way_keeps}
use Rattle.ring_rules.proofs.invariants.KeptLook.{look_has_later, look_keeps}
use Rattle.ring_rules.proofs.invariants.KeptOpen.{open_keeps, out_member}
use Rattle.ring_rules.proofs.invariants.KeptCast.{cast_keeps}
use Rattle.promotion.proofs.Installing.{install_follows, follows_installed}
use Rattle.group_view.proofs.Syncing.{Unsynced, sync_follows}
use Rattle.ring_rules.proofs.rings.Lists.{get_or_beyond}
use Rattle.ring_rules.proofs.invariants.Opening.{opening_inv}
use Rattle.ring_rules.proofs.events.Refusals.{none_of, refuse_none, open_after_end, waits_when}
use Rattle.ring_rules.proofs.events.Cases.{each_act}
use Rattle.ring_rules.proofs.events.Composed.{end_composed}
use Rattle.ring_rules.proofs.invariants.Good.{IsRing}
pub use Rattle.ring_rules.proofs.invariants.FromLeft.{HasViews, HasNextId, IsGood}
use Rattle.ring_rules.proofs.invariants.FromLeft.{StandsAtDoor, found_at_door, door_kept}

pub opening_good : (credit : CreditSpec) (names : List (List ℕ)) → AreOpeningNames names → IsGood (opening credit names)
opening_good credit names are = record {
  inv = opening_inv credit names;
  views = record { groups = opening_group names ∷ []; is = refl; ends = opening_begins names are };
  next_id = let many : length (map (opening_member names) (range_with_len 1 (length names))) ≡ length names = length-map-range_with_len (opening_member names) 1 (length names) in omega arith;
}

-- ---- members and links alone

pub same_views : (w : World) (ms : List Member) (ls : List Link) → HasViews w → HasViews (record w { members = ms; links = ls })
same_views w ms ls h = record { groups = h.groups; is = h.is; ends = h.ends }

-- a link goes the same way
pub way_good : (w : World) (s : ℕ) (l : Link) → s < length w.links → IsSameWay (link_at w s) l → IsGood w → IsGood (with_link w s l)
way_good w s l lt k h = record { inv = way_keeps w s l lt k h.inv; views = same_views w w.members (set w.links s l) h.views; next_id = h.next_id }

-- a link that ends goes the same way
pub ends_same_way : (why : Ending) (l : Link) → IsSameWay l (ended why l)
ends_same_way why l = record { sender = refl; receiver = refl; opened = refl; packets = refl }

-- the link on which a member sent before ends
pub earlier_ends : (w : World) (o : ℕ) (l : Link) → o < length w.links → link_at w o ≡ l → IsGood w → IsGood (with_link w o (ended Moved l))
earlier_ends w o l lt is h = way_good w o (ended Moved l) lt (subst (λ a. IsSameWay a (ended Moved l)) (sym is) (ends_same_way Moved l)) h

pub current_good : (w : World) (y : ℕ) (c : Option ℕ) → y < size w → (member_at w y).phase ≡ Up → IsPickable w y c → IsGood w → IsGood (current_is w y c)
current_good w y c lt up k h = record {
  inv = current_keeps w y c lt up k h.inv;
  next_id = h.next_id ∙ sym (length-set w.members y (with_current c (member_at w y)));
  views = same_views w (set w.members y (with_current c (member_at w y))) w.links h.views;
}

-- a copy that is done
pub copied_good : (w : World) (x : ℕ) (m : MirrorState) → x < size w → (member_at w x).phase ≡ Up → IsGood w → IsGood (copied_at w x m)
copied_good w x m lt up h = record {
  inv = copied_keeps w x m lt up h.inv;
  next_id = h.next_id ∙ sym (length-set w.members x (copied m (member_at w x)));
  views = same_views w (set w.members x (copied m (member_at w x))) w.links h.views;
}

pub nothing_pickable : (w : World) (y : ℕ) → IsPickable w y None
nothing_pickable w y = record { lt = λ s e. cc; receiver = λ s e. cc; kept_yet = λ s e. cc; opened = λ s e. cc }

-- ---- the events but for marks, refreshes and picks

pub cast_good : (w : World) (x : ℕ) (m : Message) → x < size w → (member_at w x).phase ≡ Up → IsGood w → IsGood (publish_at w x m)
cast_good w x m lt up h = record {
  inv = cast_keeps m w x lt up h.inv;
  next_id = h.next_id ∙ sym (length-set w.members x (published x m (member_at w x)));
  views = same_views w (set w.members x (published x m (member_at w x))) w.links h.views;
}

pub put_good : (w : World) (x o : ℕ) → (member_at w x).phase ≡ Up → (member_at w x).out ≡ Some o → IsGood w → IsGood (put_on w x o)
put_good w x o up out h = record {
  inv = put_keeps w x o up out h.inv;
  next_id = h.next_id;
  views = same_views w w.members (put_on w x o).links h.views;
}

pub take_good : (w : World) (y s : ℕ) → MayTake w y s → IsGood w → IsGood (take_from w y s)
take_good w y s m h = record {
  inv = take_keeps w y s h.inv m;
  next_id = h.next_id ∙ sym (length-set w.members y (taker w y s));
  views = same_views w (set w.members y (taker w y s)) (take_from w y s).links h.views;
}

pub begin_good : (w : World) (y s : ℕ) → MayBegin w y s → IsGood w → IsGood (begin_from w y s)
begin_good w y s m h = record {
  inv = begin_keeps w y s h.inv m;
  next_id = h.next_id ∙ sym (length-set w.members y (begun (size w) (member_at w y) (oldest (link_at w s))));
  views = same_views w (set w.members y (begun (size w) (member_at w y) (oldest (link_at w s)))) (begin_from w y s).links h.views;
}

-- before its out link ends
pub stopped_good : (w : World) (x : ℕ) → x < size w → runs w x ≡ true → IsGood w → IsGood (stop_at w x)
stopped_good w x lt rx h = record {
  inv = stop_keeps w x lt rx h.inv;
  next_id = h.next_id ∙ sym (length-set w.members x (stopped (member_at w x)));
  views = same_views w (set w.members x (stopped (member_at w x))) w.links h.views;
}

pub stop_good : (w : World) (x : ℕ) → x < size w → runs w x ≡ true → IsGood w → IsGood (end_out Halted (stop_at w x) (member_at w x).out)
stop_good w x lt rx h = end_composed IsGood Halted (stop_at w x) (member_at w x).out
    (λ o e now. way_good (stop_at w x) o (ended Halted (link_at w o)) (h.inv.linked.out_lt x o rx e) (ends_same_way Halted (link_at w o)) now)
    (stopped_good w x lt rx h)

-- ---- a refresh

-- who waits for its first packet on a link of that version has it
pub fresh_open : (w : World) (x v : ℕ) → MayLook w x v → Inv w → ((o : ℕ) → (member_at w x).out ≡ Some o → (link_at w o).receiver ≢ right w v x) → (is_waiting (member_at (look_at w x v) (right w v x)).phase && nat_eq (member_at (look_at w x v) x).version (member_at (look_at w x v) (right w v x)).version) ≡ false
fresh_open w x v m inv moves = by_phase (is_waiting (member_at w1 z).phase) refl (nat_eq (member_at w1 x).version (member_at w1 z).version) refl
  where
    w1 : World
    w1 = look_at w x v

    z : ℕ
    z = right w v x

    waiting_was : is_waiting (member_at w1 z).phase ≡ true → member_at w1 z ≡ member_at w z
    waiting_was e = set_alike w x z (moved_to w x v) m.is_member (ap is_waiting m.up) (waits_when (member_at w1 z).phase e)

    by_current : (c : Option ℕ) → (member_at w z).current ≡ c → is_some c ≡ true → (member_at w z).phase ≡ Waiting → (member_at w z).version ≡ v → true ≡ false
    by_current None e some waits version = absurd (false≢true some)
    by_current (Some s) e some waits version =
        let rz : runs w z ≡ true = ap runs_phase waits in
        sym (inv.current.kept_yet z s rz e) ∙ ap (is_kept w (link_at w s)) version
        ∙ opens_period w x v s inv.is_ring inv.linked inv.history (ap runs_phase m.up) m.later m.upto moves (inv.current.lt z s rz e) (inv.current.receiver z s rz e)

    by_phase : (a : Bool) → is_waiting (member_at w1 z).phase ≡ a → (b : Bool) → nat_eq (member_at w1 x).version (member_at w1 z).version ≡ b → (a && b) ≡ false
    by_phase false ea b eb = refl
    by_phase true ea false eb = refl
    by_phase true ea true eb =
        let k : member_at w1 z ≡ member_at w z = waiting_was ea in
        let waits : (member_at w z).phase ≡ Waiting = sym (ap (λ a. a.phase) k) ∙ waits_when (member_at w1 z).phase ea in
        let version : (member_at w z).version ≡ v = sym (ap (λ a. a.version) k) ∙ sym (nat_eq-is _ _ eb) ∙ (look_has_later w x v m).its_view in
        by_current (member_at w z).current refl (inv.joining.some z waits) waits version

-- a refresh that opens a link, before the earlier one ends
pub open_good : (w : World) (x v : ℕ) → MayLook w x v → ((o : ℕ) → (member_at w x).out ≡ Some o → (link_at w o).receiver ≢ right w v x) → IsGood w → IsGood (open_to (look_at w x v) x (right w v x))
open_good w x v m moves h = record {
  inv = open_keeps w x v m moves (fresh_open w x v m h.inv moves) h.inv;
  next_id = h.next_id ∙ sym (length-set (look_at w x v).members x (out_member (look_at w x v) x) ∙ length-set w.members x (moved_to w x v));
  views = same_views w (open_to (look_at w x v) x (right w v x)).members (open_to (look_at w x v) x (right w v x)).links h.views;
}

-- a refresh that keeps its out link
pub look_good : (w : World) (x v : ℕ) → MayLook w x v → ((o : ℕ) → (member_at w x).out ≡ Some o → (link_at w o).receiver ≡ right w v x) → IsGood w → IsGood (look_at w x v)
look_good w x v m stays h = record {
  inv = look_keeps w x v m stays h.inv;
  next_id = h.next_id ∙ sym (length-set w.members x (moved_to w x v));
  views = same_views w (set w.members x (moved_to w x v)) w.links h.views;
}

-- A whole refresh, by steps that each leave a good state: x looks; or it looks and opens a link, and then the link ends on
-- which it sent before.
pub refresh_ordered : (P : World → Type 0) (w : World) (x v : ℕ) → MayLook w x v → Inv w
    → (((o : ℕ) → (member_at w x).out ≡ Some o → (link_at w o).receiver ≡ right w v x) → P (look_at w x v))
    → (((o : ℕ) → (member_at w x).out ≡ Some o → (link_at w o).receiver ≢ right w v x) → P (open_to (look_at w x v) x (right w v x)))
    → ((o : ℕ) → ((k : ℕ) → (member_at w x).out ≡ Some k → (link_at w k).receiver ≢ right w v x) → (member_at w x).out ≡ Some o → o < length w.links → link_at (open_to (look_at w x v) x (right w v x)) o ≡ link_at w o → P (with_link (open_to (look_at w x v) x (right w v x)) o (ended Moved (link_at w o))))
    → P (refreshed w x v)
unfolding right_by
refresh_ordered P w x v m inv looks opens ends = by_out (member_at w x).out refl
  where
    z : ℕ
    z = right_of (view_in w v) x

    w1 : World
    w1 = look_at w x v

    only : (o k : ℕ) → (member_at w x).out ≡ Some o → (member_at w x).out ≡ Some k → o ≡ k
    only o k e e2 = let both : Some o ≡ Some k = sym e ∙ e2 in cc

    by_receiver : (o : ℕ) → (member_at w x).out ≡ Some o → (b : Bool) → nat_eq (link_at w o).receiver z ≡ b → P (if b then w1 else open_to (with_link w1 o (ended Moved (link_at w o))) x z)
    by_receiver o e true t = looks (λ k e2. subst (λ j. (link_at w j).receiver ≡ right w v x) (only o k e e2) (nat_eq-is (link_at w o).receiver z t))
    by_receiver o e false t =
        let there : o < length w.links = inv.linked.out_lt x o (ap runs_phase m.up) e in
        subst P (sym (open_after_end w1 x z o (ended Moved (link_at w o)) there))
        (ends o (λ k e2 is. false≢true (sym t ∙ ap (λ j. nat_eq j z) (ap (λ j. (link_at w j).receiver) (only o k e e2) ∙ is) ∙ nat_eq-same z)) e there (get_or_append_left w.links (opened_link w1 x z ∷ []) no_link o there))

    by_out : (o : Option ℕ) → (member_at w x).out ≡ o → P (send_to w1 x z o)
    by_out None e = opens (λ o e2. let both : None ≡ Some o = sym e ∙ e2 in cc)
    by_out (Some o) e = by_receiver o e (nat_eq (link_at w o).receiver z) refl

pub refresh_good : (w : World) (x v : ℕ) → MayLook w x v → IsGood w → IsGood (refreshed w x v)
refresh_good w x v m h = refresh_ordered IsGood w x v m h.inv (λ stays. look_good w x v m stays h) (λ moves. open_good w x v m moves h)
    (λ o moves e there old. earlier_ends (open_to (look_at w x v) x (right w v x)) o (link_at w o) (omega (arith, there, length_push w.links (opened_link (look_at w x v) x (right w v x)))) old (open_good w x v m moves h))

-- ---- a mark, or an erasure

-- one more view, by a change of the newest one
pub more_views : (w : World) (v' : Group) → IsRing w → Follows (view_in w (newest w)) v' → HasViews w → HasViews (with_view w v')
more_views w v' hr follows h = record {
  groups = h.groups ++ v' ∷ [];
  is = ap (λ vs. vs ++ v' ∷ []) h.is;
  ends = subst (Ends (h.groups ++ v' ∷ [])) (sym (newest_view w v' hr)) (goes_on h.groups (view_in w (newest w)) v' h.ends follows);
}

pub mark_view_good : (w : World) (d : ℕ) (v' : Group) → IsMarked w d v' → runs w d ≡ false → Follows (view_in w (newest w)) v' → v'.next_id ≡ (view_in w (newest w)).next_id → IsGood w → IsGood (with_view w v')
mark_view_good w d v' marks rests follows same_next h = record {
  inv = mark_keeps w d v' marks rests h.inv;
  next_id = ap (λ (a : Group). a.next_id) (newest_view w v' h.inv.is_ring) ∙ same_next ∙ h.next_id;
  views = more_views w v' h.inv.is_ring follows h.views;
}

-- the newest view keeps what every view keeps
pub newest_is : (w : World) → HasViews w → IsGroup (view_in w (newest w))
newest_is w h = last_is h.groups (view_in w (newest w)) h.ends

-- d may be marked dead
pub mark_good : (w : World) (d : ℕ) → (member_at w d).phase ≡ Stopped → is_live (view_in w (newest w)) d ≡ true → IsGood w → IsGood (with_view w (marked (view_in w (newest w)) d))
mark_good w d rests lives h =
    let g = view_in w (newest w) in
    mark_view_good w d (marked g d) (marked_marks w d) (ap runs_phase rests) (mark_follows g d (newest_is w h.views) (record { there = live_in g.entries d lives; lives = lives })) refl h

-- and a dead one erased
pub erase_good : (w : World) (d : ℕ) → is_dead (view_in w (newest w)).entries d ≡ true → IsGood w → IsGood (with_view w (erased_view w d))
erase_good w d dead h =
    let g = view_in w (newest w) in
    mark_view_good w d (erased_view w d) (erased_marks w d) (dead_rests w d h.inv.is_ring dead) (install_follows g d (newest_is w h.views) (record { there = dead_in g.entries d dead; dead = dead })) refl h

-- who adds a view may look at it
pub newer_look : (w : World) (x : ℕ) (v' : Group) → x < size w → (member_at w x).phase ≡ Up → IsRing w → MayLook (with_view w v') x (newest w + 1)
newer_look w x v' lt up h =
    let more : length (w.views ++ v' ∷ []) ≡ length w.views + 1 = length_push w.views v' in
    record { is_member = lt; up = up; later = omega (arith, h.held x); upto = omega (arith, h.some) }

pub newer_good : (w : World) (x : ℕ) (v' : Group) → x < size w → (member_at w x).phase ≡ Up → IsGood w → IsGood (with_view w v') → IsGood (refreshed (with_view w v') x (newest w + 1))
newer_good w x v' lt up h new =
    refresh_good (with_view w v') x (newest w + 1) (newer_look w x v' lt up h.inv.is_ring) new

-- ---- an admission

-- m may admit one of this name
pub may_admit : (w : World) (m : ℕ) (name : List ℕ) → (member_at w m).phase ≡ Up → admit_refusal w name ≡ None → IsGood w → MayAdmit (view_in w (newest w)) m
may_admit w m name up r h = record {
  is_group = newest_is w h.views;
  lives = h.inv.is_ring.lives m (newest w) (ap runs_phase up) (h.inv.is_ring.held m) (omega arith);
  room =
      let a = none_of (is_taken (view_in w (newest w)).entries name) reason.NameTaken _ r in
      let few : nat_le 64 (length (view_in w (newest w)).entries) ≡ false = refuse_none _ reason.TooManyMembers a.1 in
      grind (arith, nat_tests);
}

-- who stands in the newest view has an id of the members
pub ring_below : (w : World) → IsGood w → (q : ℕ) → is_in q (ring w) ≡ true → q < size w
ring_below w h q i =
    let v : Group = view_in w (newest w) in
    let t : nat_lt q v.next_id ≡ true = below_at v.next_id q (ids v) (newest_is w h.views).fresh i in
    grind (arith, nat_tests, h.next_id)

pub can_join : (w : World) (m : ℕ) (name : List ℕ) → m < size w → (member_at w m).phase ≡ Up → admit_refusal w name ≡ None → IsGood w → CanJoin w m
can_join w m name lt up r h =
    let g : Group = view_in w (newest w) in
    let may : MayAdmit g m = may_admit w m name up r h in
    record {
      is_member = lt;
      up = up;
      inv = h.inv;
      may = may;
      new_id = h.next_id;
      below = ring_below w h;
    }

-- the views with the one that comes
pub come_views : (w : World) (m : ℕ) (name : List ℕ) → CanJoin w m → HasViews w → HasViews (with_view w (admitted_view w m name))
come_views w m name j h = more_views w (admitted_view w m name) j.inv.is_ring (admit_follows (view_in w (newest w)) m name j.may) h

-- before the earlier out link ends
pub join_good : (w : World) (m : ℕ) (name : List ℕ) → CanJoin w m → IsGood w → IsGood (joined_state w m name)
join_good w m name j h =
    let v' = admitted_view w m name in
    let c : World = come_to w m name in
    let wl : World = look_at c m (newest w + 1) in
    let views : HasViews (with_view w v') = come_views w m name j h.views in
    let many : size (joined_state w m name) ≡ size w + 1 = length-set wl.members m (out_member wl m) ∙ length-set c.members m (moved_to c m (newest w + 1)) ∙ length_push w.members (joiner w name) in
    record {
      inv = join_keeps w m name j;
      views = record { groups = views.groups; is = views.is; ends = views.ends };
      next_id = ap (λ (a : Group). a.next_id) (newest_view w v' j.inv.is_ring) ∙ ap (λ k. k + 1) h.next_id ∙ sym many;
    }

-- m sends to it then
pub right_in_come : (w : World) (m : ℕ) (name : List ℕ) → CanJoin w m → right_of (view_in (come_to w m name) (newest w + 1)) m ≡ size w
right_in_come w m name j = ap (λ a. right_of a m) (view_new w (admitted_view w m name) (newest w + 1) (let some : 0 < length w.views = j.inv.is_ring.some in omega arith)) ∙ right_of_m w m name j

-- A whole admission: the member, its view and its link come, and then the link ends on which m sent before.
pub admit_composed : (P : World → Type 0) (w : World) (m : ℕ) (name : List ℕ) → CanJoin w m
    → ((o : ℕ) → (member_at w m).out ≡ Some o → o < length w.links → link_at (joined_state w m name) o ≡ link_at w o → P (with_link (joined_state w m name) o (ended Moved (link_at w o))))
    → P (joined_state w m name) → P (refreshed (come_to w m name) m (newest w + 1))
admit_composed P w m name j ends now = subst (λ k. P (send_to wl m k (member_at c m).out)) (sym (right_in_come w m name j)) (by_out (member_at c m).out refl)
  where
    c : World
    c = come_to w m name

    wl : World
    wl = look_at c m (newest w + 1)

    sends : (o : ℕ) → (member_at c m).out ≡ Some o → (member_at w m).out ≡ Some o
    sends o e = sym (ap (λ (a : Member). a.out) (get_or_append_left w.members (joiner w name ∷ []) no_member m j.is_member)) ∙ e

    there : (o : ℕ) → (member_at c m).out ≡ Some o → o < length w.links
    there o e = j.inv.linked.out_lt m o (ap runs_phase j.up) (sends o e)

    by_receiver : (o : ℕ) → (member_at c m).out ≡ Some o → (b : Bool) → nat_eq (link_at wl o).receiver (size w) ≡ b → P (if b then wl else open_to (with_link wl o (ended Moved (link_at wl o))) m (size w))
    by_receiver o e true t = absurd (let is : (link_at w o).receiver ≡ size w = nat_eq-is (link_at w o).receiver (size w) t in let less : (link_at w o).receiver < size w = receivers w m name j o (there o e) in omega (arith, is, less))
    by_receiver o e false t =
        subst P (sym (open_after_end wl m (size w) o (ended Moved (link_at w o)) (there o e)))
        (ends o (sends o e) (there o e) (get_or_append_left w.links (opened_link wl m (size w) ∷ []) no_link o (there o e)))

    by_out : (o : Option ℕ) → (member_at c m).out ≡ o → P (send_to wl m (size w) o)
    by_out None e = now
    by_out (Some o) e = by_receiver o e (nat_eq (link_at wl o).receiver (size w)) refl

-- so many links there are then
pub joined_links : (w : World) (m : ℕ) (name : List ℕ) → length (joined_state w m name).links ≡ length w.links + 1
joined_links w m name = length_push w.links (opened_link (look_at (come_to w m name) m (newest w + 1)) m (size w))

pub admit_good : (w : World) (m : ℕ) (name : List ℕ) → CanJoin w m → IsGood w → IsGood (refreshed (come_to w m name) m (newest w + 1))
admit_good w m name j h = admit_composed IsGood w m name j
    (λ o e there old. earlier_ends (joined_state w m name) o (link_at w o) (omega (arith, there, joined_links w m name)) old (join_good w m name j h))
    (join_good w m name j h)

-- ---- a registration

-- who may be registered is there
pub sync_there : (w : World) (x : ℕ) → MaySync w x → IsGood w → Unsynced (view_in w (newest w)).entries x
sync_there w x m h = record { there = h.inv.is_ring.stands x (newest w) (ap runs_phase m.up) (h.inv.is_ring.held x) (omega arith); unsynced = m.unsynced }

-- and nobody is marked, as nobody has the id after the last
pub sync_good : (w : World) (x : ℕ) → Unsynced (view_in w (newest w)).entries x → IsGood w → IsGood (with_view w (synced_view w x))
sync_good w x u h =
    let g = view_in w (newest w) in
    mark_view_good w (size w) (synced_view w x) (synced_marks w x (size w) (by_live (is_live g (size w)) refl))
    (ap (λ (a : Member). runs_phase a.phase) (get_or_beyond w.members (size w) no_member (omega arith)))
    (follows_installed g (registered g x) (sync_follows g x (newest_is w h.views) u)) refl h
  where
    by_live : (b : Bool) → is_live (view_in w (newest w)) (size w) ≡ b → b ≡ false
    by_live false e = refl
    by_live true e = absurd (let l : size w < size w = ring_below w h (size w) (live_in (view_in w (newest w)).entries (size w) e) in omega (arith, l))

-- ---- a pick

-- the link that may be picked
pub door_pickable : (w : World) (y s : ℕ) → at_door w y ≡ Some s → (link_at w s).opened ≤ (member_at w y).version → IsGood w → IsPickable w y (Some s)
door_pickable w y s e upto h = record {
  lt = λ t k. subst (λ j. j < length w.links) (is t k) d.there;
  receiver = λ t k. subst (λ j. (link_at w j).receiver ≡ y) (is t k) d.receiver;
  kept_yet = λ t k. subst (λ j. is_kept w (link_at w j) (member_at w y).version ≡ true) (is t k) (door_kept w y s h d upto);
  opened = λ t k. subst (λ j. (link_at w j).opened ≤ (member_at w y).version) (is t k) upto;
}
  where
    d : StandsAtDoor w y s
    d = found_at_door w y s e

    is : (t : ℕ) → Some s ≡ Some t → s ≡ t
    is t k = cc

-- ---- events

-- one event more
pub act_good : (w : World) (e : Act) → IsGood w → refusal w e ≡ None → IsGood (effect w e)
act_good w e h r = each_act IsGood w e h (record {
  casts = λ x m u _. cast_good w x m u.lt u.up h;
  puts = λ x o u out k. put_good w x o u.up out h;
  takes = λ y s u m. take_good w y s m h;
  begins = λ y s u m. begin_good w y s m h;
  leaves = λ y s u current k.
      way_good (current_is w y None) s (finished (link_at w s)) (h.inv.current.lt y s (ap runs_phase u.up) current) (record { sender = refl; receiver = refl; opened = refl; packets = refl })
      (current_good w y None u.lt u.up (nothing_pickable w y) h);
  gains = λ x o u out k. way_good w o _ (h.inv.linked.out_lt x o (ap runs_phase u.up) out) (record { sender = refl; receiver = refl; opened = refl; packets = refl }) h;
  stops = λ x u. stop_good w x u.lt u.runs_on h;
  marks = λ x d u m. newer_good w x (marked (view_in w (newest w)) d) u.lt u.up h (mark_good w d m.rests m.lives h);
  erases = λ x d u m. newer_good w x (erased_view w d) u.lt u.up h (erase_good w d m.dead h);
  syncs = λ x u m. newer_good w x (synced_view w x) u.lt u.up h (sync_good w x (sync_there w x m h) h);
  admits = λ x name u k. admit_good w x name (can_join w x name u.lt u.up k h) h;
  refreshes = λ x v u m. refresh_good w x v m h;
  picks = λ y s u none e upto. current_good w y (Some s) u.lt u.up (door_pickable w y s e upto h) h;
  refuses = h;
}) (λ x m u _. copied_good w x m u.lt u.up h) r

-- what each event keeps, every run keeps
pub run_acts : (P : World → Type 0) → ((w : World) (e : Act) → IsGood w → refusal w e ≡ None → P w → P (effect w e)) → (w : World) (es : List Act) → IsGood w → IsRun w es → P w → P (last w es)
run_acts P keeps w [] g r h = h
run_acts P keeps w (e ∷ es) g r h = run_acts P keeps (effect w e) es (act_good w e g r.0) r.1 (keeps w e g r.0 h)

-- every state of every run
pub run_good : (w : World) (es : List Act) → IsGood w → IsRun w es → IsGood (last w es)
run_good w es h r = run_acts IsGood (λ v e g k _. act_good v e g k) w es h r h

pub reached_good : (credit : CreditSpec) (names : List (List ℕ)) (es : List Act) → AreOpeningNames names → IsRun (opening credit names) es → IsGood (last (opening credit names) es)
reached_good credit names es are r = run_good (opening credit names) es (opening_good credit names are) r
