-- What stands in the opening of a ring, member by member and link by link.
use Rattle.std.proofs.Common.{◌≡◌, ℕ, zero, suc, ◌+◌, ◌<◌, ◌≤◌, List, [], length, map, get_or, refl, sym, subst, ⊎_elim, arith}
use Rattle.std.specs.List.{range_with_len}
use Rattle.std.proofs.lemmas.Bool.{cases_lt}
use Rattle.std.proofs.lemmas.List.FromFn.{get_or-map-range_with_len, length-map-range_with_len}
use Rattle.ring_names.specs.declared.numbers.CreditSpec.{CreditSpec}
use Rattle.ring_rules.specs.Rows.{no_row}
use Rattle.ring_rules.specs.Machine.{Waiting, Member, Link, no_member, no_link, member_at, link_at}
use Rattle.ring_rules.specs.Step.{size, log_of, opening, opening_link, opening_member}
use Rattle.ring_rules.specs.Lawful.{row_of}
use Rattle.ring_rules.proofs.rings.Lists.{get_or_beyond, get_or-mapped}

-- each member of the opening
pub first_at : (credit : CreditSpec) (names : List (List ℕ)) (q : ℕ) → 1 ≤ q → q ≤ length names → member_at (opening credit names) q ≡ opening_member names q
first_at credit names zero some l = absurd (omega arith)
first_at credit names (suc k) some l = get_or-map-range_with_len (opening_member names) 1 (length names) k (suc k) no_member (omega arith) (omega arith)

-- of each member of the opening, and of what stands for the others
pub first_each : (credit : CreditSpec) (names : List (List ℕ)) (q : ℕ) (P : Member → Type 0) → (1 ≤ q → q ≤ length names → P (opening_member names q)) → P no_member → P (member_at (opening credit names) q)
first_each credit names zero P here there = there
first_each credit names (suc k) P here there = ⊎_elim
    (λ (lt : k < length names). subst P (sym (get_or-map-range_with_len (opening_member names) 1 (length names) k (suc k) no_member lt (omega arith))) (here (omega arith) (omega arith)))
    (λ (ge : length names ≤ k). subst P (sym (get_or_beyond (map (opening_member names) (range_with_len 1 (length names))) k no_member (omega (arith, length-map-range_with_len (opening_member names) 1 (length names))))) there)
    (cases_lt k (length names))

-- as many links as names
pub first_links : (credit : CreditSpec) (names : List (List ℕ)) → length (opening credit names).links ≡ length names
first_links credit names = length-map-range_with_len (opening_link credit names) 1 (length names)

-- they go from the members in their order
pub first_link_is : (credit : CreditSpec) (names : List (List ℕ)) (s : ℕ) → s < length (opening credit names).links → link_at (opening credit names) s ≡ opening_link credit names (s + 1)
first_link_is credit names s lt = get_or-map-range_with_len (opening_link credit names) 1 (length names) s (s + 1) no_link (omega (arith, first_links credit names)) (omega arith)

-- of each link, and of what stands for the others
pub first_link : (credit : CreditSpec) (names : List (List ℕ)) (s : ℕ) (P : Link → Type 0) → ((i : ℕ) → P (opening_link credit names i)) → P no_link → P (link_at (opening credit names) s)
first_link credit names s P here there = ⊎_elim
    (λ (lt : s < length names). subst P (sym (first_link_is credit names s (omega (arith, first_links credit names)))) (here (s + 1)))
    (λ (ge : length names ≤ s). subst P (sym (get_or_beyond (opening credit names).links s no_link (omega (arith, first_links credit names)))) there)
    (cases_lt s (length names))

-- of those that are there
pub first_link_at : (credit : CreditSpec) (names : List (List ℕ)) (s : ℕ) (P : Link → Type 0) → s < length (opening credit names).links → ((i : ℕ) → P (opening_link credit names i)) → P (link_at (opening credit names) s)
first_link_at credit names s P lt here = subst P (sym (first_link_is credit names s lt)) (here (s + 1))

-- the members, and nobody at 0
pub first_size : (credit : CreditSpec) (names : List (List ℕ)) → size (opening credit names) ≡ length names + 1
first_size credit names = omega (arith, length-map-range_with_len (opening_member names) 1 (length names))

-- each of them
pub first_member : (credit : CreditSpec) (names : List (List ℕ)) (q : ℕ) → 1 ≤ q → q < size (opening credit names) → member_at (opening credit names) q ≡ opening_member names q
first_member credit names q some lt = first_at credit names q some (omega (arith, lt, first_size credit names))

-- nobody knows anything
pub first_row : (credit : CreditSpec) (names : List (List ℕ)) (q p : ℕ) → row_of (opening credit names) q p ≡ no_row
first_row credit names q p = first_each credit names q (λ y. get_or y.rows p no_row ≡ no_row) (λ _ _. get_or-mapped (λ _. no_row) (range_with_len 0 (length names + 1)) p 0 no_row refl) refl

-- and nobody has published
pub first_log : (credit : CreditSpec) (names : List (List ℕ)) (q : ℕ) → log_of (opening credit names) q ≡ []
first_log credit names q = first_each credit names q (λ y. y.log ≡ []) (λ _ _. refl) refl

-- nobody waits there
pub first_none_waits : (credit : CreditSpec) (names : List (List ℕ)) (q : ℕ) → (member_at (opening credit names) q).phase ≡ Waiting → ⊥
first_none_waits credit names q = first_each credit names q (λ a. a.phase ≡ Waiting → ⊥) (λ _ _ e. cc) (λ e. cc)
