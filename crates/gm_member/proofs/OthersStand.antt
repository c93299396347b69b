-- What the other members hold after one has refreshed: as before, but for a link that opens to one of them.
use Rattle.std.proofs.Common.{◌≡◌, ◌≢◌, ℕ, ◌<◌, Bool, true, false, cond, nat_eq, [], ◌∷◌, ◌++◌, length, map, Option, Some, None, refl, sym, ap, ◌∙◌}
use Rattle.std.specs.Prelude.{option_map}
use Rattle.std.specs.List.{filter, range_with_len}
use Rattle.std.proofs.lemmas.List.{append-nil}
use Rattle.ring_rules.specs.View.{right_of}
use Rattle.ring_rules.specs.Machine.{World, Member, member_at, view_in}
use Rattle.ring_rules.specs.Step.{moved_to}
use Rattle.ring_rules.specs.Event.{refreshed}
use Rattle.ring_rules.proofs.events.WhatRefuses.{MayLook}
use Rattle.ring_rules.proofs.invariants.Happens.{IsGood}
use Rattle.gm_member.specs.Held.{fresh_in}
use Rattle.gm_member.specs.Stands.{known_in, incoming_in, outgoing_in, waits_for, door_in, held_in}
use Rattle.gm_member.proofs.Parts.{known_by, known_same, log_written, held_by, held_same}
use Rattle.gm_member.proofs.DoorParts.{waits_by, member_other}
use Rattle.gm_member.proofs.Others.{member_others}
use Rattle.gm_member.proofs.OpenDoors.{sends_right, arriving, sending_member, opened_world, old_links, refresh_looks, refresh_opens, incoming_old, outgoing_old, new_at, door_after}
use Rattle.gm_member.proofs.RefreshStands.{current_lt, nothing_opens}
use Rattle.gm_member.proofs.WithinLinks.{IsWithin}

-- where a link opens
opens_others : (w : World) (x v y : ℕ) → MayLook w x v → IsGood w → IsWithin w y → y ≢ x → held_in (opened_world w x v (old_links w x)) y ≡ record (held_in w y) { door = door_in w y ++ cond (nat_eq (right_of (view_in w v) x) y) (fresh_in w.initial w.more x v ∷ []) [] }
opens_others w x v y m h i ne =
    let w' : World = opened_world w x v (old_links w x) in
    let k : Member = member_at w y in
    ap (λ k. held_by y k (known_by w' k) (view_in w k.version) (option_map (outgoing_in w') k.out) (option_map (incoming_in w') k.current) (map (incoming_in w') (filter (waits_by w' y k.current k.version) (range_with_len 0 (length w'.links)))) w.initial w.more) (member_other w x y (sending_member w x v (length w.links)) ne)
    ∙ held_same y k (known_by w' k) (known_in w y) (view_in w k.version) (view_in w k.version) (option_map (outgoing_in w') k.out) (option_map (outgoing_in w) k.out) (option_map (incoming_in w') k.current) (option_map (incoming_in w) k.current)
    (map (incoming_in w') (filter (waits_by w' y k.current k.version) (range_with_len 0 (length w'.links)))) (door_in w y ++ cond (nat_eq (right_of (view_in w v) x) y) (fresh_in w.initial w.more x v ∷ []) []) w.initial w.more
    (known_same w w' k (log_written w x (sending_member w x v (length w.links)) refl))
    refl
    (same_out k.out (λ o e. i.out o e))
    (same_current k.current (λ s e. i.current s e))
    (door_after w x v y (waits_for w y) k.current k.version (new_at w x v y k.version m h (h.inv.is_ring.held y)) (current_lt w y (length w.links) k.current (λ s e. i.current s e)) (λ s l. refl))
  where
    same_out : (o : Option ℕ) → ((s : ℕ) → o ≡ Some s → s < length w.links) → option_map (outgoing_in (opened_world w x v (old_links w x))) o ≡ option_map (outgoing_in w) o
    same_out None l = refl
    same_out (Some s) l = ap Some (outgoing_old w x v s (l s refl))

    same_current : (c : Option ℕ) → ((s : ℕ) → c ≡ Some s → s < length w.links) → option_map (incoming_in (opened_world w x v (old_links w x))) c ≡ option_map (incoming_in w) c
    same_current None l = refl
    same_current (Some s) l = ap Some (incoming_old w x v s (l s refl))

-- a refresh of x: the link that opens stands last at the door of its receiver
pub refresh_others : (w : World) (x v y : ℕ) → MayLook w x v → IsGood w → IsWithin w y → y ≢ x → held_in (refreshed w x v) y ≡ record (held_in w y) { door = (held_in w y).door ++ arriving w x v y }
refresh_others w x v y m h i ne = by_out (sends_right w x v) refl
  where
    by_out : (b : Bool) → sends_right w x v ≡ b → held_in (refreshed w x v) y ≡ record (held_in w y) { door = door_in w y ++ arriving w x v y }
    by_out true e =
        ap (λ u. held_in u y) (refresh_looks w x v e)
        ∙ member_others w x y (moved_to w x v) refl ne
        ∙ ap (λ ls. record (held_in w y) { door = ls }) (sym (append-nil (door_in w y)))
        ∙ ap (λ ls. record (held_in w y) { door = door_in w y ++ ls }) (sym (nothing_opens w x v y e))
    by_out false e =
        ap (λ u. held_in u y) (refresh_opens w x v m.is_member e)
        ∙ opens_others w x v y m h i ne
        ∙ ap (λ b. record (held_in w y) { door = door_in w y ++ cond b [] (cond (nat_eq (right_of (view_in w v) x) y) (fresh_in w.initial w.more x v ∷ []) []) }) (sym e)
