-- Who answers for a dead origin in its view: from it up to that one nobody lives.
use Rattle.std.proofs.Common.{◌≡◌, ℕ, ◌≤◌, true, false, refl, sym, ap, ◌∙◌, arith, nat_eq}
use Rattle.std.specs.Prelude.{◌||◌}
use Rattle.std.proofs.lemmas.Bool.{and_parts}
use Rattle.group_view.specs.Ring.{is_in}
use Rattle.group_view.specs.View.{entry_in, is_dead, is_alias, owns, is_between, left_of as group_left}
use Rattle.group_view.proofs.Passing.{dead_in}
use Rattle.group_view.proofs.Arcs.{owner_is}
use Rattle.ring_rules.specs.View.{is_live, between}
use Rattle.ring_rules.specs.Machine.{World, member_at, view_in, newest, left, runs}
use Rattle.ring_rules.proofs.rings.Rounds.{nat_eq-not}
use Rattle.ring_rules.proofs.invariants.Good.{IsRing}
use Rattle.ring_rules.proofs.invariants.Period.{IsHistory}
use Rattle.ring_rules.proofs.walks.Views.{left_is, not_both}
use Rattle.ring_rules.proofs.invariants.Standing.{knows, IsOrdered, OwnedFacts, owned_facts}

-- who answers for a dead one in its view
pub alias_facts : (w : World) (y p : ℕ) → IsRing w → IsHistory w → IsOrdered w → runs w y ≡ true → is_alias (view_in w (member_at w y).version).entries y p ≡ true → OwnedFacts w y (member_at w y).version p
alias_facts w y p hr hh ho ry e = owned_facts w y v (left w v y) p hr hh ho vn yv refl inside
  where
    v : ℕ
    v = (member_at w y).version

    vn : v ≤ newest w
    vn = hr.held y

    yv : knows w v y ≡ true
    yv = hr.stands y v ry (omega arith) vn

    live : is_live (view_in w v) y ≡ true
    live = hr.lives y v ry (omega arith) vn

    parts : (is_dead (view_in w v).entries p ≡ true) × (owns (view_in w v).entries y p ≡ true)
    parts = and_parts (is_dead (view_in w v).entries p) (owns (view_in w v).entries y p) e

    apart : nat_eq p y ≡ false
    apart = nat_eq-not p y (λ is. not_both (entry_in (view_in w v).entries y).mark (ap (is_dead (view_in w v).entries) (sym is) ∙ parts.0) live)

    between_is : is_between (view_in w v).entries (group_left (view_in w v).entries y) p y ≡ true
    between_is = sym (owner_is (view_in w v).entries y p (hr.distinct v vn) live (dead_in (view_in w v).entries p parts.0) ∙ ap (λ b. b || is_between (view_in w v).entries (group_left (view_in w v).entries y) p y) apart) ∙ parts.1

    inside : is_in p (between (view_in w v) (left w v y) y) ≡ true
    inside =
        ap (λ s. is_in p (between (view_in w v) s y)) (left_is w v y (view_in w v) refl) ∙ between_is
