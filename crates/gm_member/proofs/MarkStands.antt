-- A member that has another marked dead, or erased, or itself registered, stands where the ring's event leaves it.
use Rattle.std.proofs.Common.{◌≡◌, ℕ, ◌+◌, ◌<◌, nat_eq, nat_le, List, length, map, max, Option, Some, None, refl, sym, ap, ◌∙◌, arith}
use Rattle.std.specs.Prelude.{◌&&◌}
use Rattle.ring_names.specs.declared.reason.Reason.{Reason}
use Rattle.group_view.specs.View.{Group, entry_in}
use Rattle.group_view.specs.Change.{marked}
use Rattle.ring_rules.specs.Machine.{Link, World, member_at, link_at, view_in, newest, left}
use Rattle.ring_rules.specs.OpenLinks.{version_of, since_in, comes_from_left, is_door_link}
use Rattle.ring_rules.specs.Step.{with_view}
use Rattle.ring_rules.specs.declared.phase.Phase.TheVariants.{Up}
use Rattle.ring_rules.specs.declared.event.Event.TheVariants.{Mark, Erase, Synced}
use Rattle.ring_rules.specs.Event.{id_of, of_member, up_refusal, at_found, mark_refusal, erase_refusal, synced_refusal, erased_view, synced_view, refreshed, refusal, effect}
use Rattle.ring_rules.proofs.events.Refusals.{id_within}
use Rattle.ring_rules.proofs.events.Enabled.{up_none}
use Rattle.ring_rules.proofs.events.Cases.{IsUp, may_mark, may_erase, may_sync}
use Rattle.ring_rules.proofs.events.WhatRefuses.{MayMark, MayErase, MaySync}
use Rattle.ring_rules.proofs.walks.Views.{view_old, view_new, left_old}
use Rattle.ring_rules.proofs.invariants.Happens.{IsGood}
use Rattle.gm_member.specs.Stands.{known_in, incoming_in, waits_for, door_in, held_in}
use Rattle.gm_member.proofs.DoorLists.{filter_agree}
use Rattle.gm_member.proofs.Parts.{held_same}

-- ---- one more view

-- it changes no test in an earlier one
comes_old : (w : World) (g : Group) (y u : ℕ) (l : Link) → u < length w.views → comes_from_left w y l u ≡ comes_from_left (with_view w g) y l u
comes_old w g y u l lt =
    ap (λ q. nat_eq l.sender q && nat_le (since_in w u y) l.opened) (sym (left_old w g u y lt))
    ∙ ap (λ (v : Group). nat_eq l.sender (left (with_view w g) u y) && nat_le ((entry_in v.entries y).since) l.opened) (sym (view_old w g u lt))

-- nor what a member holds
pub view_held : (w : World) (g : Group) (x : ℕ) → IsGood w → held_in w x ≡ held_in (with_view w g) x
view_held w g x h =
    let some = h.inv.is_ring.some in
    let upto = h.inv.is_ring.held x in
    held_same x (member_at w x) (known_in w x) (known_in w x) (view_in w (version_of w x)) (view_in (with_view w g) (version_of w x)) _ _ _ _ (door_in w x) (door_in (with_view w g) x) w.initial w.more
    refl
    (sym (view_old w g (version_of w x) (omega arith)))
    refl
    refl
    (ap (map (incoming_in w)) (filter_agree (waits_for w x) (waits_for (with_view w g) x) 0 (length w.links)
    (λ s a b. ap (λ p. is_door_link w x s && p) (comes_old w g x (max (version_of w x) (link_at w s).opened) (link_at w s) (omega (arith, h.inv.linked.opened s (omega arith)))))))

-- it is the newest then
pub view_newest : (w : World) (g : Group) → IsGood w → view_in (with_view w g) (newest w + 1) ≡ g
view_newest w g h = let some : 0 < length w.views = h.inv.is_ring.some in view_new w g (newest w + 1) (omega arith)

-- ---- an event at another, by one that is up

-- where nothing refuses it, both were found, and nothing further refuses it
both_none : (w : World) (x d : ℕ) (by other : List ℕ) (further : ℕ → ℕ → Option Reason) → id_of w by ≡ Some x → id_of w other ≡ Some d
    → of_member (id_of w by) (λ y. up_refusal w y (of_member (id_of w other) (further y))) ≡ None → ((member_at w x).phase ≡ Up) × (further x d ≡ None)
both_none w x d by other further named there r =
    let a = up_none w x (of_member (id_of w other) (further x)) (sym (ap (λ o. of_member o (λ y. up_refusal w y (of_member (id_of w other) (further y)))) named) ∙ r) in
    (a.0, sym (ap (λ o. of_member o (further x)) there) ∙ a.1)

-- what it does is done there
both_done : (w : World) (x d : ℕ) (by other : List ℕ) (done : ℕ → ℕ → World) → id_of w by ≡ Some x → id_of w other ≡ Some d
    → at_found (id_of w by) w (λ y. at_found (id_of w other) w (done y)) ≡ done x d
both_done w x d by other done named there =
    ap (λ o. at_found o w (λ y. at_found (id_of w other) w (done y))) named ∙ ap (λ o. at_found o w (done x)) there

-- ---- a mark

-- the view that the mark makes, and the state that has it
abbrev pub mark_view : World → ℕ → Group
mark_view w d = marked (view_in w (newest w)) d

abbrev pub mark_world : World → ℕ → World
mark_world w d = with_view w (mark_view w d)

-- who was found may mark
pub mark_may : (w : World) (x d : ℕ) (by dead : List ℕ) → id_of w by ≡ Some x → id_of w dead ≡ Some d → refusal w (Mark by dead) ≡ None → MayMark w x d
mark_may w x d by dead named there r =
    let a = both_none w x d by dead (mark_refusal w) named there r in may_mark w x d (id_within w by x named).1 a.0 a.1

-- it is a look at that view
pub mark_is : (w : World) (x d : ℕ) (by dead : List ℕ) → id_of w by ≡ Some x → id_of w dead ≡ Some d → effect w (Mark by dead) ≡ refreshed (mark_world w d) x (newest w + 1)
mark_is w x d by dead = both_done w x d by dead (λ y e. refreshed (mark_world w e) y (newest w + 1))

-- ---- an erasure

-- who was found may erase
pub erase_may : (w : World) (x p : ℕ) (by origin : List ℕ) → id_of w by ≡ Some x → id_of w origin ≡ Some p → refusal w (Erase by origin) ≡ None → MayErase w x p
erase_may w x p by origin named there r =
    let a = both_none w x p by origin (erase_refusal w) named there r in may_erase w x p (id_within w by x named).1 a.0 a.1

-- it is a look at the view in which the origin is erased
pub erase_is : (w : World) (x p : ℕ) (by origin : List ℕ) → id_of w by ≡ Some x → id_of w origin ≡ Some p
    → effect w (Erase by origin) ≡ refreshed (with_view w (erased_view w p)) x (newest w + 1)
erase_is w x p by origin = both_done w x p by origin (λ y e. refreshed (with_view w (erased_view w e)) y (newest w + 1))

-- ---- a registration

-- who was found may be registered
pub register_may : (w : World) (x : ℕ) (by : List ℕ) → id_of w by ≡ Some x → refusal w (Synced by) ≡ None → MaySync w x
register_may w x by named r =
    let within = id_within w by x named in
    let a = up_none w x (synced_refusal w x) (sym (ap (λ o. of_member o (λ y. up_refusal w y (synced_refusal w y))) named) ∙ r) in
    let u : IsUp w x = record { some = within.0; lt = within.1; up = a.0 } in may_sync w x u a.1

-- it is a look at the view in which it is
pub register_is : (w : World) (x : ℕ) (by : List ℕ) → id_of w by ≡ Some x → effect w (Synced by) ≡ refreshed (with_view w (synced_view w x)) x (newest w + 1)
register_is w x by named = ap (λ o. at_found o w (λ y. refreshed (with_view w (synced_view w y)) y (newest w + 1))) named
