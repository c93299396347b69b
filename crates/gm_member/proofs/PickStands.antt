-- A member that picks takes from the link that the ring picks, and stands where that leaves it.
use Rattle.std.proofs.Common.{◌≡◌, ℕ, ◌<◌, Bool, true, false, not, nat_eq, length, get_or, map, Option, Some, None, is_some, refl, sym, ap, ◌∙◌, arith}
use Rattle.std.specs.Prelude.{◌&&◌, option_map}
use Rattle.std.specs.List.{range_with_len}
use Rattle.std.proofs.Math.Bool.{and-true, and-false}
use Rattle.std.proofs.lemmas.List.{length-map, get_or-map}
use Rattle.std.proofs.lemmas.List.Quantifiers.{position-Some}
use Rattle.ring_names.specs.declared.reason.Reason.{Reason}
use Rattle.ring_names.specs.declared.reason.Reason.TheVariants as reason
use Rattle.ring_rules.specs.Refusal.{refuse_if, or_else}
use Rattle.ring_rules.specs.Machine.{World, no_link, member_at, link_at, view_in, is_waiting}
use Rattle.ring_rules.specs.OpenLinks.{is_place}
use Rattle.ring_rules.specs.Step.{size, current_is, with_current}
use Rattle.ring_rules.specs.Event.{is_at_door, at_door, pick_refusal, up_refusal, version_refusal, on_link, is_stopped}
use Rattle.ring_rules.proofs.rings.Maps.{position_map}
use Rattle.ring_rules.proofs.invariants.Happens.{IsGood}
use Rattle.ring_rules.proofs.events.Refusals.{none_of}
use Rattle.gm_member.specs.Held.{Incoming, no_incoming, door_at, is_for, on_some, at_some, first_at_door, pick_refused, picked_held, picked_at, without}
use Rattle.gm_member.specs.Stands.{known_in, incoming_in, outgoing_in, waits_for, door_links, door_in, held_in}
use Rattle.gm_member.proofs.DoorLists.{filter_agree, find_both, find_agree, find_position, position_finds, filter_without}
use Rattle.gm_member.proofs.Doors.{view_version, door_test}
use Rattle.gm_member.proofs.Parts.{known_by, known_same, log_written, held_by, held_same}
use Rattle.gm_member.proofs.DoorParts.{waits_by, member_same, without_made, up_refused_none}

-- ---- the link that is picked

-- the place in the links of the one at a place of the door
abbrev pub door_link : World → ℕ → ℕ → ℕ
door_link w x i = get_or (door_links w x) i 0

-- the first that the member may pick is the first that the ring lets it pick
pub first_is : (w : World) (x : ℕ) → IsGood w → (member_at w x).current ≡ None → option_map (door_link w x) (first_at_door (held_in w x)) ≡ at_door w x
first_is w x h none =
    ap (option_map (door_link w x)) (position_map (is_for (view_in w (member_at w x).version) x) (incoming_in w) (door_links w x))
    ∙ find_position (λ s. is_for (view_in w (member_at w x).version) x (incoming_in w s)) (door_links w x)
    ∙ find_both (waits_for w x) (λ s. is_for (view_in w (member_at w x).version) x (incoming_in w s)) (range_with_len 0 (length w.links))
    ∙ find_agree (λ s. waits_for w x s && is_for (view_in w (member_at w x).version) x (incoming_in w s)) (λ s. is_at_door w x (link_at w s)) 0 (length w.links)
    (λ s a b. sym (door_test w x s h (omega arith) (ap (λ c. is_place c s) none)))
    ∙ sym (position_finds (is_at_door w x) w.links no_link)

-- a place of the door, what stands there, and where that stands among the links
pub record PicksAt (w : World) (x i : ℕ) : Type 0 where
  pub there : i < length (door_links w x)
  pub found : at_door w x ≡ Some (door_link w x i)
  pub is : door_at (held_in w x).door i ≡ incoming_in w (door_link w x i)

pub picks_some : (w : World) (x i : ℕ) → IsGood w → (member_at w x).current ≡ None → first_at_door (held_in w x) ≡ Some i → PicksAt w x i
picks_some w x i h none e =
    let there : i < length (door_in w x) = (position-Some (is_for (view_in w (member_at w x).version) x) (door_in w x) i no_incoming e).0 in
    let within : i < length (door_links w x) = omega (arith, length-map (door_links w x) (incoming_in w)) in
    record {
      there = within;
      found = sym (first_is w x h none) ∙ ap (option_map (door_link w x)) e;
      is = get_or-map (incoming_in w) (door_links w x) i 0 no_incoming within;
    }

pub picks_none : (w : World) (x : ℕ) → IsGood w → (member_at w x).current ≡ None → first_at_door (held_in w x) ≡ None → at_door w x ≡ None
picks_none w x h none e = sym (first_is w x h none) ∙ ap (option_map (door_link w x)) e

-- ---- the conditions

pub pick_refuses : (w : World) (x : ℕ) → IsGood w → pick_refused (held_in w x) ≡ up_refusal w x (or_else (refuse_if (is_some (member_at w x).current) reason.HasCurrentLink) (pick_refusal w x))
pick_refuses w x h = ap (λ later. or_else (refuse_if (is_stopped (member_at w x).phase) reason.Stopped) (or_else (refuse_if (is_waiting (member_at w x).phase) reason.Waiting) later)) (by_current (member_at w x).current refl)
  where
    version : ℕ
    version = (view_in w (member_at w x).version).version

    mine : Option ℕ → Option Reason
    mine o = on_some o reason.NoLinkAtDoor (λ i. version_refusal (door_at (held_in w x).door i).opened version)

    by_first : (member_at w x).current ≡ None → (o : Option ℕ) → first_at_door (held_in w x) ≡ o → mine o ≡ pick_refusal w x
    by_first none None e = sym (ap (λ o. on_link o reason.NoLinkAtDoor (λ s. version_refusal (link_at w s).opened (member_at w x).version)) (picks_none w x h none e))
    by_first none (Some i) e =
        let p : PicksAt w x i = picks_some w x i h none e in
        ap (λ (l : Incoming). version_refusal l.opened version) p.is
        ∙ ap (version_refusal (link_at w (door_link w x i)).opened) (view_version w (member_at w x).version h (h.inv.is_ring.held x))
        ∙ sym (ap (λ o. on_link o reason.NoLinkAtDoor (λ s. version_refusal (link_at w s).opened (member_at w x).version)) p.found)

    by_current : (c : Option ℕ) → (member_at w x).current ≡ c → or_else (refuse_if (is_some (option_map (incoming_in w) c)) reason.HasCurrentLink) (mine (first_at_door (held_in w x))) ≡ or_else (refuse_if (is_some c) reason.HasCurrentLink) (pick_refusal w x)
    by_current None e = by_first e (first_at_door (held_in w x)) refl
    by_current (Some s) e = refl

-- ---- what the member holds then

-- the links that wait once x takes from one of them
pub picked_waits : (w : World) (x s : ℕ) → x < size w → (member_at w x).current ≡ None → (k : ℕ) → waits_for (current_is w x (Some s)) x k ≡ (waits_for w x k && not (nat_eq s k))
picked_waits w x s l none k =
    ap (λ m. waits_by w x m.current m.version k) (member_same w x (with_current (Some s) (member_at w x)) l)
    ∙ tests (nat_eq (link_at w k).receiver x) (nat_eq s k) (link_at w k).over _
    ∙ ap (λ c. waits_by w x c (member_at w x).version k && not (nat_eq s k)) (sym none)
  where
    tests : (r b o p : Bool) → ((r && (not b && not o)) && p) ≡ (((r && (not false && not o)) && p) && not b)
    tests false b o p = refl
    tests true true o p = sym (and-false (not o && p))
    tests true false o p = sym (and-true (not o && p))

pub pick_stands : (w : World) (x i : ℕ) → x < size w → IsGood w → (member_at w x).current ≡ None → first_at_door (held_in w x) ≡ Some i → picked_held (held_in w x) ≡ held_in (current_is w x (Some (door_link w x i))) x
pick_stands w x i l h none e =
    let s : ℕ = door_link w x i in
    let w' : World = current_is w x (Some s) in
    let p : PicksAt w x i = picks_some w x i h none e in
    let y = member_at w x in
    ap (λ o. at_some o (held_in w x) (picked_at (held_in w x))) e
    ∙ held_same x y (known_in w x) (known_by w' (with_current (Some s) y)) (view_in w y.version) (view_in w y.version) (option_map (outgoing_in w) y.out) (option_map (outgoing_in w) y.out) (Some (door_at (door_in w x) i)) (Some (incoming_in w s)) (without i (door_in w x)) (door_in w' x) w.initial w.more
    (sym (known_same w w' (with_current (Some s) y) (log_written w x (with_current (Some s) y) refl)))
    refl refl (ap Some p.is)
    (without_made (incoming_in w) i (door_links w x)
    ∙ ap (map (incoming_in w)) (sym (filter_without (waits_for w x) s 0 (length w.links) i p.there refl) ∙ sym (filter_agree (waits_for w' x) (λ k. waits_for w x k && not (nat_eq s k)) 0 (length w.links) (λ k _ _. picked_waits w x s l none k))))
    ∙ sym (ap (λ m. held_by x m (known_by w' m) (view_in w m.version) (option_map (outgoing_in w) m.out) (option_map (incoming_in w) m.current) (door_in w' x) w.initial w.more) (member_same w x (with_current (Some s) (member_at w x)) l))

-- a pick that isn't refused: from no link, and the first at the door
pub record MayPick (w : World) (x : ℕ) : Type 0 where
  pub place : ℕ
  pub none : (member_at w x).current ≡ None
  pub first : first_at_door (held_in w x) ≡ Some place

pub may_pick : (w : World) (x : ℕ) → pick_refused (held_in w x) ≡ None → MayPick w x
may_pick w x e =
    let later = (up_refused_none (held_in w x) _ e).2 in
    let a = none_of (is_some (held_in w x).current) reason.HasCurrentLink _ later in
    by_first (first_at_door (held_in w x)) refl (no_current (member_at w x).current a.0) a.1
  where
    no_current : (c : Option ℕ) → is_some (option_map (incoming_in w) c) ≡ false → c ≡ None
    no_current None k = refl
    no_current (Some s) k = cc

    by_first : (o : Option ℕ) → first_at_door (held_in w x) ≡ o → (member_at w x).current ≡ None → on_some o reason.NoLinkAtDoor (λ i. version_refusal (door_at (held_in w x).door i).opened (held_in w x).view.version) ≡ None → MayPick w x
    by_first None k none r = cc
    by_first (Some i) k none r = record { place = i; none = none; first = k }
