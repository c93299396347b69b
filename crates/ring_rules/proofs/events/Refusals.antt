-- What it means that no condition of an event fails.
use Rattle.std.proofs.Common.{cond, ◌≡◌, ℕ, ◌+◌, ◌<◌, ◌≤◌, Bool, true, false, not, nat_lt, bytes_eq, List, [], ◌∷◌, ◌++◌, length, drop, set, Option, Some, None, ◌⊎◌, inl, inr, refl, sym, ap, ◌∙◌, arith}
use Rattle.std.specs.Prelude.{◌||◌, position, option_map}
use Rattle.std.proofs.lemmas.Bool.{ltb-false}
use Rattle.std.proofs.lemmas.List.{length-set, set-append_left, length-drop}
use Rattle.std.proofs.lemmas.List.Quantifiers.{position-Some}
use Rattle.ring_names.specs.declared.reason.Reason.{Reason}
use Rattle.ring_names.specs.declared.reason.Reason.TheVariants as reason
use Rattle.ring_rules.specs.Refusal.{refuse_if, or_else}
use Rattle.ring_rules.specs.Machine.{Phase, Waiting, Up, Stopped, Link, World, no_member, member_at, runs_phase, is_waiting}
use Rattle.ring_rules.specs.Step.{size, with_member, with_link, open_to, opened_link}
use Rattle.ring_rules.specs.Event.{id_of, is_stopped, up_refusal}

-- neither of two conditions fails
pub none_of : (b : Bool) (r : Reason) (later : Option Reason) → or_else (refuse_if b r) later ≡ None → (b ≡ false) × (later ≡ None)
none_of true r later h = cc
none_of false r later h = (refl, h)

-- a condition that doesn't fail
pub refuse_none : (b : Bool) (r : Reason) → refuse_if b r ≡ None → b ≡ false
refuse_none true r h = cc
refuse_none false r h = refl

-- who hasn't stopped runs
pub runs_from : (f : Phase) → is_stopped f ≡ false → runs_phase f ≡ true
runs_from Waiting h = refl
runs_from Up h = refl
runs_from Stopped h = cc

-- it is up, or it waits
pub up_or_waits : (f : Phase) → is_stopped f ≡ false → (f ≡ Up) ⊎ (f ≡ Waiting)
up_or_waits Waiting h = inr refl
up_or_waits Up h = inl refl
up_or_waits Stopped h = cc

-- who is told to wait does
pub waits_when : (f : Phase) → is_waiting f ≡ true → f ≡ Waiting
waits_when Waiting h = refl
waits_when Up h = cc
waits_when Stopped h = cc

-- and who is told to have stopped has
pub stopped_from : (f : Phase) → is_stopped f ≡ true → f ≡ Stopped
stopped_from Waiting h = cc
stopped_from Up h = cc
stopped_from Stopped h = refl

-- who has neither stopped nor waits is up
pub up_from : (f : Phase) → is_stopped f ≡ false → is_waiting f ≡ false → f ≡ Up
up_from Waiting h k = cc
up_from Up h k = refl
up_from Stopped h k = cc

-- a member that is up is judged by what comes later
pub up_is : (w : World) (x : ℕ) (later : Option Reason) → (member_at w x).phase ≡ Up → up_refusal w x later ≡ later
up_is w x later up = ap (λ (f : Phase). or_else (refuse_if (is_stopped f) reason.Stopped) (or_else (refuse_if (is_waiting f) reason.Waiting) later)) up

-- what stands at the place that was found
pub id_by : (w : World) (name : List ℕ) (o : Option ℕ) (x : ℕ) → position (λ y. bytes_eq y.name name) (drop 1 w.members) ≡ o → option_map (λ i. i + 1) o ≡ Some x → (1 ≤ x) × (x < size w)
id_by w name None x e h = cc
id_by w name (Some i) x e h =
    let is : i + 1 ≡ x = cc in
    let within = (position-Some (λ y. bytes_eq y.name name) (drop 1 w.members) i no_member e).0 in
    (omega arith, omega (arith, within, length-drop 1 w.members))

-- a member that is found by its name has an id
pub id_within : (w : World) (name : List ℕ) (x : ℕ) → id_of w name ≡ Some x → (1 ≤ x) × (x < size w)
id_within w name x h = id_by w name _ x refl h

-- a link opens after another has ended, or before
pub open_after_end : (w : World) (x z o : ℕ) (l : Link) → o < length w.links → open_to (with_link w o l) x z ≡ with_link (open_to w x z) o l
open_after_end w x z o l lt =
    let new = opened_link w x z ∷ [] in
    ap (λ n. with_member (record w { links = set w.links o l ++ new }) x (record (member_at w x) { out = Some n })) (length-set w.links o l)
    ∙ ap (λ ls. with_member (record w { links = ls }) x (record (member_at w x) { out = Some (length w.links) })) (sym (set-append_left w.links new o l lt))

-- a number isn't below another
pub not_less : (a b : ℕ) (r : Reason) → refuse_if (nat_lt a b) r ≡ None → b ≤ a
not_less a b r h = ltb-false a b (refuse_none (nat_lt a b) r h)

-- neither of two tests passes
pub or_false : (a b : Bool) → (a || b) ≡ false → (a ≡ false) × (b ≡ false)
or_false true b h = cc
or_false false b h = (refl, h)

-- two tests, of which one suffices
pub cond_or : (a b : Bool) → cond a true b ≡ (a || b)
cond_or true b = refl
cond_or false b = refl

-- a test that doesn't fail passes
pub not_false : (b : Bool) → not b ≡ false → b ≡ true
not_false true h = refl
not_false false h = cc
