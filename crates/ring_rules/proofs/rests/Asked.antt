-- What a member that has nothing to do is refused.
use Rattle.std.proofs.Common.{◌≡◌, ◌≢◌, ℕ, zero, suc, ◌+◌, ◌<◌, ◌≤◌, Bool, true, false, cond, not, nat_lt, List, [], ◌∷◌, length, get_or, Option, Some, None, is_some, refl, sym, ap, subst, ◌∙◌, arith}
use Rattle.std.specs.List.{position_or_len}
use Rattle.std.proofs.lemmas.Bool.{false≢true, and_parts, le-ltb, lt-ltb, not-true}
use Rattle.std.proofs.lemmas.List.Quantifiers.{position-Some}
use Rattle.ring_names.specs.declared.reason.Reason.{Reason}
use Rattle.ring_names.specs.declared.reason.Reason.TheVariants as reason
use Rattle.ring_rules.specs.Refusal.{refuse_if, or_else, is_empty}
use Rattle.ring_rules.specs.Machine.{World, Packet, Link, no_packet, no_link, member_at, link_at, newest, oldest}
use Rattle.ring_rules.specs.Event.{on_link, holds_nothing, is_at_door, at_door, pick_refusal, take_refusal, end_refusal, version_refusal}
use Rattle.ring_rules.proofs.walks.OwnerStops.{AllPackets, IsPacket}
use Rattle.ring_rules.proofs.invariants.Happens.{IsGood}

-- ---- what a refusal says

-- a condition that fails
pub is_refused : (b : Bool) (r : Reason) → refuse_if b r ≢ None → b ≡ true
is_refused true r e = refl
is_refused false r e = absurd (e refl)

-- where the first doesn't fail, the later do
pub later_refused : (b : Bool) (r : Reason) (later : Option Reason) → b ≡ false → or_else (refuse_if b r) later ≢ None → later ≢ None
later_refused true r later e h = absurd (false≢true (sym e))
later_refused false r later e h = h

-- of a link that is there
pub link_refused : (o : Option ℕ) (missing : Reason) (later : ℕ → Option Reason) (s : ℕ) → o ≡ Some s → on_link o missing later ≢ None → later s ≢ None
link_refused o missing later s e h = subst (λ k. on_link k missing later ≢ None) e h

-- ---- takes

-- neither a packet nor an end is taken, though no version stands in the way: there is none
nothing_next : (b e : Bool) (v : Option Reason) (r1 r2 r3 r4 : Reason) → or_else (refuse_if b r1) (or_else (refuse_if e r2) v) ≢ None → or_else (refuse_if b r3) (refuse_if (not e) r4) ≢ None → v ≡ None → b ≡ true
nothing_next true e v r1 r2 r3 r4 h k n = refl
nothing_next false true v r1 r2 r3 r4 h k n = absurd (k refl)
nothing_next false false v r1 r2 r3 r4 h k n = absurd (h n)

-- the oldest packet isn't newer than the newest view
oldest_upto : (w : World) (l : Link) (ks : List Packet) → AllPackets (IsPacket w l) ks → (get_or ks 0 no_packet).version ≤ newest w
oldest_upto w l [] a = omega arith
oldest_upto w l (k ∷ ks) a = a.0.upto

-- no version stands in the way of what isn't newer
pub no_version : (need have : ℕ) → need ≤ have → version_refusal need have ≡ None
no_version need have le = ap (λ b. refuse_if b (reason.ViewTooOld need have)) (le-ltb have need le)

-- who has the newest view, and can take neither a packet nor an end, takes from a link that holds nothing
pub takes_nothing : (w : World) (y s : ℕ) → IsGood w → s < length w.links → (member_at w y).version ≡ newest w → take_refusal w y s ≢ None → end_refusal w s ≢ None → holds_nothing (link_at w s) ≡ true
takes_nothing w y s g lt new take end =
    nothing_next (holds_nothing (link_at w s)) (is_empty (link_at w s).packets) (version_refusal (oldest (link_at w s)).version (member_at w y).version) reason.NothingToTake reason.EndNext reason.NothingToTake reason.PacketNext take end
    (no_version (oldest (link_at w s)).version (member_at w y).version (omega (arith, oldest_upto w (link_at w s) (link_at w s).packets (g.inv.packed.packets s lt))))

-- such a link has no packet
pub none_left : {A : Type 0} (xs : List A) → is_empty xs ≡ true → xs ≡ []
none_left [] e = refl
none_left (x ∷ xs) e = absurd (false≢true e)

-- by its test
pub nothing_held : (l : Link) → holds_nothing l ≡ true → l.packets ≡ []
nothing_held l h = none_left l.packets (and_parts (is_empty l.packets) (not (is_some l.ending)) h).0

-- nor has it ended
pub not_ended : (l : Link) → holds_nothing l ≡ true → is_some l.ending ≡ false
not_ended l h = not-true (is_some l.ending) (and_parts (is_empty l.packets) (not (is_some l.ending)) h).1

-- ---- picks

-- who has the newest view, and can pick no link, has none at its door
pub door_is_empty : (w : World) (y : ℕ) → IsGood w → (member_at w y).version ≡ newest w → pick_refusal w y ≢ None → at_door w y ≡ None
door_is_empty w y g new refused = by_door (at_door w y) refl
  where
    by_door : (o : Option ℕ) → at_door w y ≡ o → o ≡ None
    by_door None e = refl
    by_door (Some s) e =
        let lt : s < length w.links = (position-Some (is_at_door w y) w.links s no_link e).0 in
        let late : version_refusal (link_at w s).opened (member_at w y).version ≢ None = link_refused (at_door w y) reason.NoLinkAtDoor (λ k. version_refusal (link_at w k).opened (member_at w y).version) s e refused in
        absurd (late (no_version (link_at w s).opened (member_at w y).version (omega (arith, g.inv.linked.opened s lt))))

-- the first place that passes is no later than another
first_within : {X : Type 0} (p : X → Bool) (xs : List X) (k : ℕ) (d : X) → k < length xs → p (get_or xs k d) ≡ true → position_or_len p xs ≤ k
first_within p [] k d lt h = absurd (omega arith)
first_within p (x ∷ xs) k d lt h = by_case (p x) refl k lt h (λ j l e. first_within p xs j d l e)
  where
    by_case : (b : Bool) → p x ≡ b → (k : ℕ) → k < length (x ∷ xs) → p (get_or (x ∷ xs) k d) ≡ true → ((j : ℕ) → j < length xs → p (get_or xs j d) ≡ true → position_or_len p xs ≤ j) → cond (not b) (1 + position_or_len p xs) 0 ≤ k
    by_case true e k l h ih = omega arith
    by_case false e zero l h ih = absurd (false≢true (sym e ∙ h))
    by_case false e (suc k) l h ih = omega (arith, ih k (omega arith) h)

-- so no link passes the test at the door
pub none_passes : (w : World) (y s : ℕ) → s < length w.links → at_door w y ≡ None → is_at_door w y (link_at w s) ≡ false
none_passes w y s lt none = by_test (is_at_door w y (link_at w s)) refl
  where
    n : ℕ
    n = position_or_len (is_at_door w y) w.links

    by_found : (b : Bool) → nat_lt n (length w.links) ≡ b → cond b (Some n) None ≡ None → b ≡ false
    by_found true e k = cc
    by_found false e k = refl

    by_test : (b : Bool) → is_at_door w y (link_at w s) ≡ b → b ≡ false
    by_test false e = refl
    by_test true e =
        let within : n ≤ s = first_within (is_at_door w y) w.links s no_link lt e in
        absurd (false≢true (sym (by_found (nat_lt n (length w.links)) refl none) ∙ lt-ltb n (length w.links) (omega arith)))
