-- Links that wait for a member, members that are written, and a member's conditions.
use Rattle.std.proofs.Common.{◌≡◌, ◌≢◌, ℕ, ◌+◌, ◌<◌, Bool, false, not, nat_eq, List, map, max, Option, None, refl, ap, ◌∙◌}
use Rattle.std.specs.Prelude.{◌&&◌}
use Rattle.std.proofs.lemmas.List.{get_or-set_same, get_or-set_other, map-append, take-map, drop-map}
use Rattle.ring_names.specs.declared.reason.Reason.{Reason}
use Rattle.ring_names.specs.declared.reason.Reason.TheVariants as reason
use Rattle.ring_rules.specs.Refusal.{refuse_if, or_else}
use Rattle.ring_rules.specs.declared.phase.Phase.TheVariants.{Up}
use Rattle.ring_rules.specs.Machine.{World, Member, no_member, member_at, link_at, is_waiting}
use Rattle.ring_rules.specs.OpenLinks.{comes_from_left, is_place}
use Rattle.ring_rules.specs.Step.{size, with_member}
use Rattle.ring_rules.specs.Event.{is_stopped}
use Rattle.ring_rules.proofs.events.Refusals.{none_of, up_from}
use Rattle.gm_member.specs.Held.{Held, up_refused, without}

-- whether a link waits for x, by where x takes from and the version of its view
abbrev pub waits_by : World → ℕ → Option ℕ → ℕ → ℕ → Bool
waits_by w x c v k = (nat_eq (link_at w k).receiver x && (not (is_place c k) && not (link_at w k).over)) && comes_from_left w x (link_at w k) (max v (link_at w k).opened)

-- ---- writes

pub member_same : (w : World) (i : ℕ) (y : Member) → i < size w → member_at (with_member w i y) i ≡ y
member_same w i y l = get_or-set_same w.members i y no_member l

pub member_other : (w : World) (i q : ℕ) (y : Member) → q ≢ i → member_at (with_member w i y) q ≡ member_at w q
member_other w i q y ne = get_or-set_other w.members i q y no_member ne

-- ---- lists

-- all but one, of what is made of each
pub without_made : {A B : Type 0} (f : A → B) (i : ℕ) (xs : List A) → without i (map f xs) ≡ map f (without i xs)
without_made f i xs = rw (take-map f i xs, drop-map f (i + 1) xs) (rw map-append refl)

-- ---- conditions

-- the conditions of a member that is up, beyond which later ones stand
pub up_refused_none : (h : Held) (later : Option Reason) → up_refused h later ≡ None → (h.phase ≡ Up) × (h.asks ≡ false) × (later ≡ None)
up_refused_none h later e =
    let a = none_of (is_stopped h.phase) reason.Stopped (or_else (refuse_if (is_waiting h.phase) reason.Waiting) (or_else (refuse_if h.asks reason.AwaitingAnswer) later)) e in
    let b = none_of (is_waiting h.phase) reason.Waiting (or_else (refuse_if h.asks reason.AwaitingAnswer) later) a.1 in
    let c = none_of h.asks reason.AwaitingAnswer later b.1 in
    (up_from h.phase a.0 b.0, c.0, c.1)

-- only those later ones refuse such a member
pub up_past : (h : Held) (later : Option Reason) → up_refused h None ≡ None → up_refused h later ≡ later
up_past h later e =
    let u = up_refused_none h None e in
    ap (λ s. or_else (refuse_if (is_stopped s) reason.Stopped) (or_else (refuse_if (is_waiting s) reason.Waiting) (or_else (refuse_if h.asks reason.AwaitingAnswer) later))) u.0
    ∙ ap (λ b. or_else (refuse_if b reason.AwaitingAnswer) later) u.1
