-- Whether a link is kept, by the views that were looked at.
use Rattle.std.proofs.Common.{◌≡◌, ◌≢◌, ℕ, ◌<◌, ◌≤◌, ◌+◌, ◌-◌, Bool, true, false, List, refl, sym, ap, subst, ◌∙◌, arith, nat_eq, get_or}
use Rattle.std.proofs.lemmas.Bool.{false≢true}
use Rattle.std.specs.Prelude.{Option, Some, None, nat_le, length}
use Rattle.group_view.specs.View.{Group}
use Rattle.group_view.specs.Since.{no_group}
use Rattle.group_view.specs.View.{is_dead, entry_in}
use Rattle.group_view.specs.Change.{mark_refusal, erase_refusal, sync_refusal, admit_refusal as group_refusal, is_taken, most_entries}
use Rattle.ring_names.specs.declared.reason.Reason.TheVariants as reason
use Rattle.group_view.proofs.Passing.{live_in, dead_in}
use Rattle.ring_rules.specs.View.{left_by, left_of, right_of, is_live}
use Rattle.ring_rules.specs.Machine.{is_kept_of, World, Moved, member_at, view_in, newest}
use Rattle.ring_rules.specs.Step.{look_at, open_to, end_out}
use Rattle.ring_rules.specs.Event.{send_to, refreshed, admit_refusal}
use Rattle.ring_rules.proofs.events.Refusals.{none_of, refuse_none}
use Rattle.ring_rules.specs.Step.{sends_to}
use Rattle.group_view.proofs.Lists.{all_range, at_range}
use Rattle.group_view.proofs.Rings.{nat_eq-is, nat_eq-same}

-- each view says so
pub kept_yes : (vs : List Group) (to sender opened v : ℕ) → ((u : ℕ) → opened ≤ u → u < v + 1 → left_by vs u to ≡ sender) → is_kept_of vs to sender opened v ≡ true
unfolding is_kept_of
kept_yes vs to sender opened v h = all_range _ opened (v + 1 - opened) (λ u a b. ap (λ q. nat_eq q sender) (h u a (omega arith)) ∙ nat_eq-same sender)

-- one doesn't
pub kept_no : (vs : List Group) (to sender opened v u : ℕ) → opened ≤ u → u ≤ v → left_by vs u to ≢ sender → is_kept_of vs to sender opened v ≡ false
unfolding is_kept_of
kept_no vs to sender opened v u a b other = by_case (is_kept_of vs to sender opened v) refl
  where
    by_case : (k : Bool) → is_kept_of vs to sender opened v ≡ k → is_kept_of vs to sender opened v ≡ false
    by_case false e = e
    by_case true e = absurd (other (nat_eq-is (left_by vs u to) sender (at_range (λ u. nat_eq (left_by vs u to) sender) opened (v + 1 - opened) u e a (omega arith))))

pub left_at_is : (vs : List Group) (u y : ℕ) → left_by vs u y ≡ left_of (get_or vs u no_group) y
unfolding left_by
left_at_is vs u y = refl

-- ---- a refresh

pub refreshed_stays : (w : World) (x v z : ℕ) → z ≡ right_of (view_in w v) x → sends_to w z (member_at w x).out ≡ true → refreshed w x v ≡ look_at w x v
refreshed_stays w x v z e h = by_out (member_at w x).out (subst (λ k. sends_to w k (member_at w x).out ≡ true) e h)
  where
    r : ℕ
    r = right_of (view_in w v) x

    by_out : (o : Option ℕ) → sends_to w r o ≡ true → send_to (look_at w x v) x r o ≡ look_at w x v
    by_out None k = absurd (false≢true k)
    by_out (Some o) k = rw k refl

pub refreshed_moves : (w : World) (x v z : ℕ) → z ≡ right_of (view_in w v) x → sends_to w z (member_at w x).out ≡ false → refreshed w x v ≡ open_to (end_out Moved (look_at w x v) (member_at w x).out) x z
refreshed_moves w x v z e h = by_out (member_at w x).out (subst (λ k. sends_to w k (member_at w x).out ≡ false) e h) ∙ ap (open_to (end_out Moved (look_at w x v) (member_at w x).out) x) (sym e)
  where
    r : ℕ
    r = right_of (view_in w v) x

    by_out : (o : Option ℕ) → sends_to w r o ≡ false → send_to (look_at w x v) x r o ≡ open_to (end_out Moved (look_at w x v) o) x r
    by_out None k = refl
    by_out (Some o) k = rw k refl

-- ---- a mark

-- nobody refuses to mark who lives
pub nobody_refuses : (g : Group) (d : ℕ) → is_live g d ≡ true → mark_refusal g.entries d ≡ None
nobody_refuses g d h = rw (live_in g.entries d h, h) refl

-- nor to erase who is dead
pub nobody_refuses_erasing : (g : Group) (p : ℕ) → is_dead g.entries p ≡ true → erase_refusal g.entries p ≡ None
nobody_refuses_erasing g p h = rw (dead_in g.entries p h, h) refl

-- nor to register who lives and isn't yet
pub nobody_refuses_registering : (g : Group) (x : ℕ) → is_live g x ≡ true → (entry_in g.entries x).synced ≡ false → sync_refusal g.entries x ≡ None
nobody_refuses_registering g x lives unsynced = rw (live_in g.entries x lives, lives, unsynced) refl

-- nor that one who lives admits another, where the ring doesn't
pub nobody_refuses_admitting : (w : World) (m : ℕ) (name : List ℕ) → is_live (view_in w (newest w)) m ≡ true → admit_refusal w name ≡ None → group_refusal (view_in w (newest w)).entries m name ≡ None
nobody_refuses_admitting w m name lives h =
    let g = view_in w (newest w) in
    let a = none_of (is_taken g.entries name) reason.NameTaken _ h in
    let room = refuse_none (nat_le most_entries (length g.entries)) reason.TooManyMembers a.1 in
    rw (live_in g.entries m lives, lives, a.0, room) refl
