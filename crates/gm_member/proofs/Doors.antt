-- What stands at a member's door: the test by the member's view, and the ring's.
use Rattle.std.proofs.Common.{◌≡◌, ℕ, ◌<◌, ◌≤◌, Bool, true, false, not, nat_eq, nat_lt, length, max, refl, sym, ap, subst, ◌∙◌, ⊎_elim, arith}
use Rattle.std.specs.Prelude.{◌&&◌, ◌||◌}
use Rattle.std.proofs.lemmas.Bool.{and_parts, false≢true, lt-ltb, le-ltb, cases_lt}
use Rattle.group_view.specs.View.{Group}
use Rattle.ring_rules.specs.View.{left_by}
use Rattle.ring_rules.specs.Machine.{Link, World, link_at, view_in, newest, is_kept}
use Rattle.ring_rules.specs.OpenLinks.{version_of, comes_from_left, passes, is_current, is_door_link}
use Rattle.ring_rules.specs.Event.{is_at_door}
use Rattle.ring_rules.proofs.rings.Rounds.{nat_eq-is}
use Rattle.ring_rules.proofs.invariants.Good.{kept_true}
use Rattle.ring_rules.proofs.invariants.FromLeft.{IsGood, OpenedRight, opened_right, comes_is}
use Rattle.gm_member.specs.Held.{Incoming, is_for, stays}
use Rattle.gm_member.specs.Stands.{incoming_in, waits_for}
use Rattle.gm_member.proofs.Facts.{version_of_view}

-- ---- views and tests

-- the view of a version has its number
pub view_version : (w : World) (v : ℕ) → IsGood w → v ≤ newest w → (view_in w v).version ≡ v
view_version w v h l = version_of_view w v h.views l

-- ---- a link and a view

-- a link as its receiver has it
abbrev pub arrived : Link → Incoming
arrived l = record { from = l.sender; opened = l.opened; counted = l.flow.receiver }

-- the test by the view alone
pub for_is : (w : World) (l : Link) (v : ℕ) → is_for (view_in w v) l.receiver (arrived l) ≡ comes_from_left w l.receiver l v
unfolding left_by
for_is w l v = refl

-- a link stays at the door in a view exactly where it is kept up to that view
pub stays_is : (w : World) (l : Link) (v : ℕ) → IsGood w → OpenedRight w l → v ≤ newest w → stays (view_in w v) l.receiver (arrived l) ≡ is_kept w l v
stays_is w l v h o upto =
    let numbered : (view_in w v).version ≡ v = view_version w v h upto in
    ap (λ n. nat_lt n l.opened || is_for (view_in w v) l.receiver (arrived l)) numbered
    ∙ ⊎_elim
    (λ (newer : v < l.opened).
    ap (λ b. b || is_for (view_in w v) l.receiver (arrived l)) (lt-ltb v l.opened newer) ∙ sym (kept_true w l v (λ k a b. absurd (omega arith))))
    (λ (older : l.opened ≤ v).
    ap (λ b. b || is_for (view_in w v) l.receiver (arrived l)) (le-ltb v l.opened older)
    ∙ for_is w l v
    ∙ ap (comes_from_left w l.receiver l) (let is : v ≡ max v l.opened = omega arith in is)
    ∙ comes_is w l v h o upto)
    (cases_lt v l.opened)

-- of one that isn't newer than the view it is the test by the view
pub stays_older : (g : Group) (x v : ℕ) (l : Incoming) → g.version ≡ v → l.opened ≤ v → stays g x l ≡ is_for g x l
stays_older g x v l numbered older = ap (λ b. b || is_for g x l) (le-ltb g.version l.opened (omega (arith, numbered)))

pub stays_for : (w : World) (x v : ℕ) (l : Incoming) → IsGood w → v ≤ newest w → l.opened ≤ v → stays (view_in w v) x l ≡ is_for (view_in w v) x l
stays_for w x v l h upto older = stays_older (view_in w v) x v l (view_version w v h upto) older

-- ---- the links to a member

-- what stays at the door of the receiver
pub stays_kept : (w : World) (x s v : ℕ) → IsGood w → s < length w.links → (link_at w s).receiver ≡ x → v ≤ newest w → stays (view_in w v) x (incoming_in w s) ≡ is_kept w (link_at w s) v
stays_kept w x s v h there to upto = subst (λ y. stays (view_in w v) y (incoming_in w s) ≡ is_kept w (link_at w s) v) to (stays_is w (link_at w s) v h (opened_right w s h there) upto)

-- by the ring's test in the view of a version
pub comes_stays : (w : World) (x s v : ℕ) → IsGood w → s < length w.links → (link_at w s).receiver ≡ x → v ≤ newest w → comes_from_left w x (link_at w s) (max v (link_at w s).opened) ≡ stays (view_in w v) x (incoming_in w s)
comes_stays w x s v h there to upto =
    subst (λ y. comes_from_left w y (link_at w s) (max v (link_at w s).opened) ≡ stays (view_in w v) y (incoming_in w s)) to
    (comes_is w (link_at w s) v h (opened_right w s h there) upto ∙ sym (stays_is w (link_at w s) v h (opened_right w s h there) upto))

-- the ring's test at the door, by what the member holds
pub passes_stays : (w : World) (x s : ℕ) → IsGood w → s < length w.links → (link_at w s).receiver ≡ x → passes w x (link_at w s) ≡ stays (view_in w (version_of w x)) x (incoming_in w s)
passes_stays w x s h there to = comes_stays w x s (version_of w x) h there to (h.inv.is_ring.held x)

-- ---- what waits at the door

-- whether a link waits, by what the member holds
pub waits_is : (w : World) (x s : ℕ) → IsGood w → s < length w.links → waits_for w x s ≡ (is_door_link w x s && stays (view_in w (version_of w x)) x (incoming_in w s))
waits_is w x s h there = by_receiver (nat_eq (link_at w s).receiver x) refl
  where
    by_receiver : (b : Bool) → nat_eq (link_at w s).receiver x ≡ b → ((b && (not (is_current w x s) && not (link_at w s).over)) && passes w x (link_at w s)) ≡ ((b && (not (is_current w x s) && not (link_at w s).over)) && stays (view_in w (version_of w x)) x (incoming_in w s))
    by_receiver true e = ap (λ p. (not (is_current w x s) && not (link_at w s).over) && p) (passes_stays w x s h there (nat_eq-is (link_at w s).receiver x e))
    by_receiver false e = refl

-- the link that x may pick, of those that wait and those that don't
pub door_test : (w : World) (x s : ℕ) → IsGood w → s < length w.links → is_current w x s ≡ false → is_at_door w x (link_at w s) ≡ (waits_for w x s && is_for (view_in w (version_of w x)) x (incoming_in w s))
door_test w x s h there none =
    tests (nat_eq (link_at w s).receiver x) (is_current w x s) (link_at w s).over (nat_lt (view_in w (version_of w x)).version (link_at w s).opened) (is_for (view_in w (version_of w x)) x (incoming_in w s)) none
    ∙ ap (λ b. b && is_for (view_in w (version_of w x)) x (incoming_in w s)) (sym (waits_is w x s h there))
  where
    tests : (r c o n f : Bool) → c ≡ false → (r && (not o && f)) ≡ (((r && (not c && not o)) && (n || f)) && f)
    tests false c o n f e = refl
    tests true true o n f e = absurd (false≢true (sym e))
    tests true false true n f e = refl
    tests true false false true f e = refl
    tests true false false false true e = refl
    tests true false false false false e = refl

-- one that x may pick and doesn't take from waits, and comes from the left in x's view
pub pickable_is_door : (w : World) (x s : ℕ) → IsGood w → s < length w.links → is_current w x s ≡ false → is_at_door w x (link_at w s) ≡ true → (waits_for w x s ≡ true) × (is_for (view_in w (version_of w x)) x (incoming_in w s) ≡ true)
pickable_is_door w x s h there none e =
    let a = and_parts (waits_for w x s) (is_for (view_in w (version_of w x)) x (incoming_in w s)) (sym (door_test w x s h there none) ∙ e) in
    (a.0, a.1)
