-- A member that refreshes stands where the ring's refresh leaves it.
use Rattle.std.proofs.Common.{◌≡◌, ℕ, zero, suc, ◌+◌, ◌<◌, ◌≤◌, Bool, true, false, cond, not, nat_eq, nat_lt, List, [], ◌∷◌, ◌++◌, length, get_or, map, max, Option, Some, None, is_some, refl, sym, ap, ◌∙◌, arith}
use Rattle.std.specs.Prelude.{◌&&◌, ◌||◌, option_map}
use Rattle.std.specs.List.{filter, range_with_len}
use Rattle.std.proofs.Math.Bool.{and-true, and-false, or-false}
use Rattle.std.proofs.lemmas.Bool.{le-ltb}
use Rattle.std.proofs.lemmas.List.{append-nil}
use Rattle.ring_names.specs.declared.reason.Reason.{Reason}
use Rattle.ring_names.specs.declared.reason.Reason.TheVariants as reason
use Rattle.ring_rules.specs.Rows.{Row, no_row, no_numbers, next_numbers}
use Rattle.ring_rules.specs.Refusal.{refuse_if, or_else}
use Rattle.ring_rules.specs.View.{right_of}
use Rattle.ring_rules.specs.Machine.{Member, World, no_sending, row_at, numbers_at, member_at, link_at, view_in, newest, is_kept, is_waiting}
use Rattle.ring_rules.specs.OpenLinks.{version_of, comes_from_left, passes, is_place, is_current}
use Rattle.ring_rules.specs.Step.{log_of, next_lines, next_packet, moved_to, look_at, kept_current}
use Rattle.ring_rules.specs.Event.{refreshed, up_refusal, refresh_refusal, is_stopped}
use Rattle.ring_rules.proofs.rings.Maps.{map-range_same}
use Rattle.ring_rules.proofs.events.WhatRefuses.{MayLook}
use Rattle.ring_rules.proofs.rings.Rounds.{nat_eq-is, nat_eq-not}
use Rattle.ring_rules.proofs.walks.Refresh.{kept_less}
use Rattle.ring_rules.proofs.invariants.Happens.{IsGood}
use Rattle.activity.specs.Kept.{no_kept}
use Rattle.gm_member.specs.Packets.{places, known_at, last_sent_now}
use Rattle.gm_member.specs.Held.{put_on, fresh_in, fresh_out, first_out, out_to, looked_held, refreshed_held, refresh_refused, up_refused, kept_in, kept_door, stays}
use Rattle.gm_member.specs.Stands.{kept_by, last_sent_in, known_in, incoming_in, outgoing_in, waits_for, door_in, held_in}
use Rattle.gm_member.proofs.Knowing.{IsRight, last_sent_kept}
use Rattle.gm_member.proofs.Places.{tabled_at}
use Rattle.gm_member.proofs.DoorLists.{filter_agree, filter_made}
use Rattle.gm_member.proofs.Doors.{view_version, stays_older}
use Rattle.gm_member.proofs.Parts.{known_by, known_same, log_written, held_by, held_same}
use Rattle.gm_member.proofs.DoorParts.{waits_by, member_same}
use Rattle.gm_member.proofs.OpenDoors.{sends_right, arriving, new_link, sending_member, opened_world, old_links, refresh_looks, refresh_opens, link_new, incoming_old, door_after, SeesLinks, sees_links}

-- ---- the conditions

-- the member's refusal is the ring's, but that it can't know of the newest view
pub refresh_refuses : (w : World) (x v : ℕ) → IsGood w → v ≤ newest w
    → up_refusal w x (refresh_refusal w x v) ≡ up_refused (held_in w x) (refuse_if (nat_lt v (held_in w x).view.version) (reason.ViewOutOfRange v (held_in w x).view.version (newest w)))
refresh_refuses w x v h upto =
    ap (λ b. all (refuse_if (nat_lt v u || b) (reason.ViewOutOfRange v u (newest w)))) (le-ltb (newest w) v upto)
    ∙ ap (λ b. all (refuse_if b (reason.ViewOutOfRange v u (newest w)))) (or-false (nat_lt v u))
    ∙ sym (ap (λ n. all (refuse_if (nat_lt v n) (reason.ViewOutOfRange v n (newest w)))) (view_version w u h (h.inv.is_ring.held x)))
  where
    u : ℕ
    u = (member_at w x).version

    all : Option Reason → Option Reason
    all later = or_else (refuse_if (is_stopped (member_at w x).phase) reason.Stopped) (or_else (refuse_if (is_waiting (member_at w x).phase) reason.Waiting) later)

-- so of a view that is there both refuse, or neither
pub refresh_refuses_too : (w : World) (x v : ℕ) → IsGood w → v ≤ newest w → is_some (refresh_refused (held_in w x) v) ≡ is_some (up_refusal w x (refresh_refusal w x v))
refresh_refuses_too w x v h upto =
    same (is_stopped (member_at w x).phase) (is_waiting (member_at w x).phase) (nat_lt v (held_in w x).view.version)
    ∙ sym (ap is_some (refresh_refuses w x v h upto))
  where
    first : Reason
    first = reason.Stopped

    second : Reason
    second = reason.Waiting

    third : Reason
    third = reason.ViewOutOfRange v (held_in w x).view.version (held_in w x).view.version

    other : Reason
    other = reason.ViewOutOfRange v (held_in w x).view.version (newest w)

    same : (a b c : Bool) → is_some (or_else (refuse_if a first) (or_else (refuse_if b second) (refuse_if c third))) ≡ is_some (or_else (refuse_if a first) (or_else (refuse_if b second) (refuse_if c other)))
    same true b c = refl
    same false true c = refl
    same false false true = refl
    same false false false = refl

-- ---- the link that x takes from

-- it stays where the ring's refresh keeps it
pub current_kept : (w : World) (x v : ℕ) → SeesLinks w x v → kept_in (view_in w v) x (option_map (incoming_in w) (member_at w x).current) ≡ option_map (incoming_in w) (kept_current (λ s. is_kept w (link_at w s) v) (member_at w x).current)
current_kept w x v k = by_current (member_at w x).current refl
  where
    made : (b : Bool) (s : ℕ) → cond b (Some (incoming_in w s)) None ≡ option_map (incoming_in w) (cond b (Some s) None)
    made true s = refl
    made false s = refl

    by_current : (c : Option ℕ) → (member_at w x).current ≡ c → kept_in (view_in w v) x (option_map (incoming_in w) c) ≡ option_map (incoming_in w) (kept_current (λ s. is_kept w (link_at w s) v) c)
    by_current None e = refl
    by_current (Some s) e =
        let is = k.current s e in
        let older = is.2 in
        let later = k.may.later in
        ap (λ b. cond b (Some (incoming_in w s)) None)
        (sym (stays_older (view_in w v) x v (incoming_in w s) k.numbered (omega arith)) ∙ k.stays_kept s v is.0 is.1 k.may.upto)
        ∙ made (is_kept w (link_at w s) v) s

-- whatever stays of it is no later link
pub current_lt : (w : World) (x n : ℕ) (c : Option ℕ) → ((s : ℕ) → c ≡ Some s → s < n) → is_place c n ≡ false
current_lt w x n None h = refl
current_lt w x n (Some s) h = nat_eq-not s n (λ (same : s ≡ n). omega (arith, h s refl))

pub kept_lt : (n : ℕ) (kept : ℕ → Bool) (c : Option ℕ) → is_place c n ≡ false → is_place (kept_current kept c) n ≡ false
kept_lt n kept None e = refl
kept_lt n kept (Some s) e = by_test (kept s)
  where
    by_test : (b : Bool) → is_place (cond b (Some s) None) n ≡ false
    by_test true = e
    by_test false = refl

-- where a link is kept, it is taken from exactly where it was
kept_place : (kept : ℕ → Bool) (c : Option ℕ) (s : ℕ) → kept s ≡ true → is_place (kept_current kept c) s ≡ is_place c s
kept_place kept None s e = refl
kept_place kept (Some t) s e = by_place (nat_eq t s) refl
  where
    by_test : (b : Bool) → nat_eq t s ≡ false → is_place (cond b (Some t) None) s ≡ nat_eq t s
    by_test true k = refl
    by_test false k = sym k

    by_place : (b : Bool) → nat_eq t s ≡ b → is_place (cond (kept t) (Some t) None) s ≡ nat_eq t s
    by_place true k = ap (λ b. is_place (cond b (Some t) None) s) (ap kept (nat_eq-is t s k) ∙ e)
    by_place false k = by_test (kept t) k

-- ---- the door

-- a link stays at the door exactly where it was there and stays in the new view
pub door_sees : (w : World) (x v s : ℕ) → SeesLinks w x v → s < length w.links
    → waits_by w x (kept_current (λ k. is_kept w (link_at w k) v) (member_at w x).current) v s ≡ (waits_for w x s && stays (view_in w v) x (incoming_in w s))
door_sees w x v s k there = by_receiver (nat_eq (link_at w s).receiver x) refl
  where
    mine : version_of w x ≤ newest w
    mine = let later = k.may.later in let upto = k.may.upto in omega arith

    kept : ℕ → Bool
    kept j = is_kept w (link_at w j) v

    later : Option ℕ
    later = kept_current kept (member_at w x).current

    q : Bool
    q = stays (view_in w v) x (incoming_in w s)

    tests : (b c o p r : Bool) → (r ≡ true → p ≡ true) → (r ≡ true → b ≡ c) → ((not b && not o) && r) ≡ (((not c && not o) && p) && r)
    tests b c o p false i j = and-false (not b && not o) ∙ sym (and-false ((not c && not o) && p))
    tests b c o p true i j = rw (i refl, j refl) (sym (and-true ((not c && not o) && true)))

    by_receiver : (b : Bool) → nat_eq (link_at w s).receiver x ≡ b → ((b && (not (is_place later s) && not (link_at w s).over)) && comes_from_left w x (link_at w s) (max v (link_at w s).opened)) ≡ (((b && (not (is_current w x s) && not (link_at w s).over)) && passes w x (link_at w s)) && q)
    by_receiver false e = refl
    by_receiver true e =
        let to : (link_at w s).receiver ≡ x = nat_eq-is (link_at w s).receiver x e in
        let kept_then = k.stays_kept s v there to k.may.upto in
        ap (λ p. (not (is_place later s) && not (link_at w s).over) && p) (k.comes_stays s v there to k.may.upto)
        ∙ tests (is_place later s) (is_current w x s) (link_at w s).over (passes w x (link_at w s)) q
        (λ b. k.comes_stays s (version_of w x) there to mine ∙ k.stays_kept s (version_of w x) there to mine ∙ kept_less w (link_at w s) (version_of w x) v k.may.later (sym kept_then ∙ b))
        (λ b. kept_place kept (member_at w x).current s (sym kept_then ∙ b))

pub door_stays : (w : World) (x v s : ℕ) → MayLook w x v → IsGood w → s < length w.links
    → waits_by w x (kept_current (λ k. is_kept w (link_at w k) v) (member_at w x).current) v s ≡ (waits_for w x s && stays (view_in w v) x (incoming_in w s))
door_stays w x v s m h there = door_sees w x v s (sees_links w x v m h) there

-- ---- the link that opens

-- the lines of a first packet
pub first_lines : (rows : List Row) (p : ℕ) → get_or (next_lines true rows []) p no_numbers ≡ next_numbers true (get_or rows p no_row) no_numbers
first_lines [] p = refl
first_lines (r ∷ rows) zero = refl
first_lines (r ∷ rows) (suc p) = first_lines rows p

-- a member's rows are right
abbrev pub RowsAreRight : World → ℕ → Type 0
RowsAreRight w x = (p : ℕ) → IsRight (log_of w p) (row_at (member_at w x) p)

-- with its first packet it is the ring's
pub first_out_is : (w : World) (x v : ℕ) → (view_in w v).version ≡ v → RowsAreRight w x → first_out (looked_held (held_in w x) (view_in w v)) (right_of (view_in w v) x) ≡ outgoing_in (opened_world w x v (old_links w x)) (length w.links)
unfolding places
first_out_is w x v numbered right =
    ap (λ n. put_on (known_in w x) (fresh_out w.initial w.more (right_of (view_in w v) x) n)) numbered
    ∙ ap (λ ns. record (outgoing_in one 0) { last_sent = ns })
    (map-range_same (λ p. last_sent_now (known_at (known_in w x) p)) (λ p. last_sent_in (numbers_at (next_packet (moved_to w x v) no_sending) (p + 1))) 64
    (λ p l. ap last_sent_now (tabled_at (λ k. kept_by (log_of w (k + 1)) (row_at (member_at w x) (k + 1))) 64 p no_kept l)
    ∙ last_sent_kept (log_of w (p + 1)) (row_at (member_at w x) (p + 1)) (right (p + 1))
    ∙ sym (ap last_sent_in (first_lines (member_at w x).rows (p + 1)))))
    ∙ ap (λ k. outgoing_in (record w { links = k ∷ [] }) 0) (sym (link_new w x v))
  where
    one : World
    one = record w { links = new_link w x v ∷ [] }

-- ---- what the member holds then

-- where it sends to its right neighbour already
looks_stands : (w : World) (x v : ℕ) → SeesLinks w x v → sends_right w x v ≡ true → record (refreshed_held (held_in w x) (view_in w v)) { door = kept_door (view_in w v) x (door_in w x) ++ arriving w x v x } ≡ held_in (look_at w x v) x
looks_stands w x v k e =
    let w' : World = look_at w x v in
    let y : Member = member_at w x in
    let n : ℕ = length w.links in
    let kept : ℕ → Bool = λ s. is_kept w (link_at w s) v in
    held_same x y (known_in w x) (known_by w' (moved_to w x v)) (view_in w v) (view_in w v) (out_to (looked_held (held_in w x) (view_in w v)) (right_of (view_in w v) x)) (option_map (outgoing_in w) y.out) (kept_in (view_in w v) x (option_map (incoming_in w) y.current)) (option_map (incoming_in w) (kept_current kept y.current)) (kept_door (view_in w v) x (door_in w x) ++ arriving w x v x) (door_in w' x) w.initial w.more
    (sym (known_same w w' (moved_to w x v) (log_written w x (moved_to w x v) refl)))
    refl
    (ap (λ b. cond b (option_map (outgoing_in w) y.out) (Some (first_out (looked_held (held_in w x) (view_in w v)) (right_of (view_in w v) x)))) e)
    (current_kept w x v k)
    (ap (λ b. kept_door (view_in w v) x (door_in w x) ++ cond b [] (cond (nat_eq (right_of (view_in w v) x) x) (fresh_in w.initial w.more x v ∷ []) [])) e
    ∙ append-nil (kept_door (view_in w v) x (door_in w x))
    ∙ filter_made (stays (view_in w v) x) (incoming_in w) (waits_for w x) (range_with_len 0 n)
    ∙ ap (map (incoming_in w)) (filter_agree (λ s. waits_for w x s && stays (view_in w v) x (incoming_in w s)) (waits_for w' x) 0 n
    (λ s a b. sym (door_sees w x v s k (omega arith)) ∙ sym (ap (λ j. waits_by w x j.current j.version s) (member_same w x (moved_to w x v) k.may.is_member)))))
    ∙ sym (ap (λ j. held_by x j (known_by w' j) (view_in w j.version) (option_map (outgoing_in w) j.out) (option_map (incoming_in w) j.current) (door_in w' x) w.initial w.more) (member_same w x (moved_to w x v) k.may.is_member))

-- where a link opens
opens_stands : (w : World) (x v : ℕ) → SeesLinks w x v → RowsAreRight w x → sends_right w x v ≡ false → record (refreshed_held (held_in w x) (view_in w v)) { door = kept_door (view_in w v) x (door_in w x) ++ arriving w x v x } ≡ held_in (opened_world w x v (old_links w x)) x
opens_stands w x v k right e =
    let w' : World = opened_world w x v (old_links w x) in
    let y : Member = member_at w x in
    let n : ℕ = length w.links in
    let kept : ℕ → Bool = λ s. is_kept w (link_at w s) v in
    let y' : Member = sending_member w x v n in
    let here : member_at w' x ≡ y' = member_same w x y' k.may.is_member in
    let none : is_place y.current n ≡ false = current_lt w x n y.current (λ s is. (k.current s is).0) in
    held_same x y (known_in w x) (known_by w' y') (view_in w v) (view_in w v) (out_to (looked_held (held_in w x) (view_in w v)) (right_of (view_in w v) x)) (Some (outgoing_in w' n)) (kept_in (view_in w v) x (option_map (incoming_in w) y.current)) (option_map (incoming_in w') (kept_current kept y.current)) (kept_door (view_in w v) x (door_in w x) ++ arriving w x v x) (door_in w' x) w.initial w.more
    (sym (known_same w w' y' (log_written w x y' refl)))
    refl
    (ap (λ b. cond b (option_map (outgoing_in w) y.out) (Some (first_out (looked_held (held_in w x) (view_in w v)) (right_of (view_in w v) x)))) e ∙ ap Some (first_out_is w x v k.numbered right))
    (current_kept w x v k ∙ same_current (member_at w x).current refl)
    (ap (λ b. kept_door (view_in w v) x (door_in w x) ++ cond b [] (cond (nat_eq (right_of (view_in w v) x) x) (fresh_in w.initial w.more x v ∷ []) [])) e
    ∙ ap (λ ls. ls ++ cond (nat_eq (right_of (view_in w v) x) x) (fresh_in w.initial w.more x v ∷ []) []) (filter_made (stays (view_in w v) x) (incoming_in w) (waits_for w x) (range_with_len 0 n))
    ∙ sym (door_after w x v x (λ s. waits_for w x s && stays (view_in w v) x (incoming_in w s)) (kept_current kept y.current) v k.own (kept_lt n kept y.current none) (λ s l. door_sees w x v s k l))
    ∙ sym (ap (λ j. map (incoming_in w') (filter (waits_by w' x j.current j.version) (range_with_len 0 (length w'.links)))) here))
    ∙ sym (ap (λ j. held_by x j (known_by w' j) (view_in w j.version) (option_map (outgoing_in w') j.out) (option_map (incoming_in w') j.current) (door_in w' x) w.initial w.more) here)
  where
    by_test : (s : ℕ) → s < length w.links → (b : Bool) → option_map (incoming_in w) (cond b (Some s) None) ≡ option_map (incoming_in (opened_world w x v (old_links w x))) (cond b (Some s) None)
    by_test s l true = ap Some (sym (incoming_old w x v s l))
    by_test s l false = refl

    same_current : (c : Option ℕ) → (member_at w x).current ≡ c → option_map (incoming_in w) (kept_current (λ s. is_kept w (link_at w s) v) c) ≡ option_map (incoming_in (opened_world w x v (old_links w x))) (kept_current (λ s. is_kept w (link_at w s) v) c)
    same_current None is = refl
    same_current (Some s) is = by_test s (k.current s is).0 (is_kept w (link_at w s) v)

-- the member's refresh, with the link that it opens to itself, where it is alone, behind the others at its door
pub looks_at : (w : World) (x v : ℕ) → SeesLinks w x v → RowsAreRight w x → record (refreshed_held (held_in w x) (view_in w v)) { door = kept_door (view_in w v) x (door_in w x) ++ arriving w x v x } ≡ held_in (refreshed w x v) x
looks_at w x v k right = by_out (sends_right w x v) refl
  where
    by_out : (b : Bool) → sends_right w x v ≡ b → record (refreshed_held (held_in w x) (view_in w v)) { door = kept_door (view_in w v) x (door_in w x) ++ arriving w x v x } ≡ held_in (refreshed w x v) x
    by_out true e = looks_stands w x v k e ∙ sym (ap (λ u. held_in u x) (refresh_looks w x v e))
    by_out false e = opens_stands w x v k right e ∙ sym (ap (λ u. held_in u x) (refresh_opens w x v k.may.is_member e))

-- so in a good state
pub refresh_stands : (w : World) (x v : ℕ) → MayLook w x v → IsGood w → RowsAreRight w x → record (refreshed_held (held_in w x) (view_in w v)) { door = kept_door (view_in w v) x (door_in w x) ++ arriving w x v x } ≡ held_in (refreshed w x v) x
refresh_stands w x v m h right = looks_at w x v (sees_links w x v m h) right

pub nothing_opens : (w : World) (x v y : ℕ) → sends_right w x v ≡ true → arriving w x v y ≡ []
nothing_opens w x v y e = ap (λ b. cond b [] (cond (nat_eq (right_of (view_in w v) x) y) (fresh_in w.initial w.more x v ∷ []) [])) e
