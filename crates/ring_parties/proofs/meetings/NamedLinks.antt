-- A link of the ring is known by its name, and the one on which a running member sends is open to its receiver.
use Rattle.std.proofs.Common.{◌≡◌, ℕ, ◌<◌, ◌≤◌, Bool, true, false, not, nat_eq, length, Some, None, is_some, refl, sym, ap, ◌∙◌, arith}
use Rattle.std.specs.Prelude.{◌&&◌, ◌||◌}
use Rattle.std.proofs.lemmas.Bool.{false≢true}
use Rattle.ring_names.specs.declared.numbers.CreditSpec.{CreditSpec}
use Rattle.ring_rules.specs.Machine.{World, member_at, link_at, newest, runs}
use Rattle.ring_rules.specs.OpenLinks.{version_of, passes, is_current, is_door_link, is_place}
use Rattle.ring_rules.proofs.rings.Rounds.{nat_eq-same}
use Rattle.ring_rules.proofs.invariants.Good.{kept_true, out_stays}
use Rattle.ring_rules.proofs.invariants.FromLeft.{opened_right, comes_is}
use Rattle.ring_parties.specs.Standing.{has_in, has_out}
use Rattle.ring_parties.proofs.work.Lawful.{IsLawfulAt}

-- ---- the link on which a running member sends

-- it hasn't ended
pub out_unended : (credit : CreditSpec) (w : World) (x s : ℕ) → IsLawfulAt credit w → runs w x ≡ true → (member_at w x).out ≡ Some s → (link_at w s).ending ≡ None
out_unended credit w x s h r e = (h.fit.ends.sends x s r e).goes_on

-- nor was its end taken
pub out_not_over : (credit : CreditSpec) (w : World) (x s : ℕ) → IsLawfulAt credit w → runs w x ≡ true → (member_at w x).out ≡ Some s → (link_at w s).over ≡ false
out_not_over credit w x s h r e = by_case (link_at w s).over refl
  where
    by_case : (b : Bool) → (link_at w s).over ≡ b → b ≡ false
    by_case true over = absurd (false≢true (sym (ap is_some (out_unended credit w x s h r e)) ∙ h.fit.ends.ended s over))
    by_case false over = refl

-- it passes the test at its receiver's door
pub out_passes : (credit : CreditSpec) (w : World) (x s : ℕ) → IsLawfulAt credit w → runs w x ≡ true → (member_at w x).out ≡ Some s → passes w (link_at w s).receiver (link_at w s) ≡ true
out_passes credit w x s h r e =
    let sl : s < length w.links = (h.fit.own_ends.out x s e).0 in
    let y : ℕ = (link_at w s).receiver in
    let upto : version_of w y ≤ newest w = h.fit.good.inv.is_ring.held y in
    comes_is w (link_at w s) (version_of w y) h.fit.good (opened_right w s h.fit.good sl) upto
    ∙ kept_true w (link_at w s) (version_of w y) (λ u a b. out_stays w x s h.fit.good.inv.is_ring h.fit.good.inv.linked r e u a (omega (arith, b, upto)))

-- a link that isn't over and passes is open
pub passing_is_open : (w : World) (s : ℕ) → (link_at w s).over ≡ false → passes w (link_at w s).receiver (link_at w s) ≡ true → has_in w s ≡ true
passing_is_open w s over p =
    ap (λ b. is_current w (link_at w s).receiver s || ((nat_eq (link_at w s).receiver (link_at w s).receiver && (not (is_current w (link_at w s).receiver s) && not (link_at w s).over)) && b)) p
    ∙ ap (λ b. is_current w (link_at w s).receiver s || ((nat_eq (link_at w s).receiver (link_at w s).receiver && (not (is_current w (link_at w s).receiver s) && not b)) && true)) over
    ∙ ap (λ b. is_current w (link_at w s).receiver s || ((b && (not (is_current w (link_at w s).receiver s) && true)) && true)) (nat_eq-same (link_at w s).receiver)
    ∙ tests (is_current w (link_at w s).receiver s)
  where
    tests : (c : Bool) → (c || ((true && (not c && true)) && true)) ≡ true
    tests true = refl
    tests false = refl

-- it is open
pub out_is_open : (credit : CreditSpec) (w : World) (x s : ℕ) → IsLawfulAt credit w → runs w x ≡ true → (member_at w x).out ≡ Some s → has_in w s ≡ true
out_is_open credit w x s h r e = passing_is_open w s (out_not_over credit w x s h r e) (out_passes credit w x s h r e)

-- ---- ends

-- the link on which a member sends has its out end
pub out_has : (credit : CreditSpec) (w : World) (x s : ℕ) → IsLawfulAt credit w → (member_at w x).out ≡ Some s → has_out w s ≡ true
out_has credit w x s h e =
    ap (λ y. is_place (member_at w y).out s) (h.fit.own_ends.out x s e).1 ∙ ap (λ o. is_place o s) e ∙ nat_eq-same s

-- one from which a member takes has its in end
pub current_has : (credit : CreditSpec) (w : World) (x s : ℕ) → IsLawfulAt credit w → (member_at w x).current ≡ Some s → has_in w s ≡ true
current_has credit w x s h e =
    let now : is_current w (link_at w s).receiver s ≡ true = ap (λ y. is_current w y s) (h.fit.own_ends.current x s e).1 ∙ ap (λ o. is_place o s) e ∙ nat_eq-same s in
    ap (λ b. b || (is_door_link w (link_at w s).receiver s && passes w (link_at w s).receiver (link_at w s))) now
