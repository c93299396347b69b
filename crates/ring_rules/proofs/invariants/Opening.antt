-- The opening has the whole invariant.
use Rattle.ring_rules.proofs.walks.Links.{past_nothing}
use Rattle.std.proofs.Common.{◌≡◌, ◌≢◌, ℕ, zero, suc, ◌<◌, ◌≤◌, ◌+◌, ◌-◌, Bool, true, false, cond, List, [], ◌∷◌, ◌++◌, length, map, get_or, refl, sym, ap, subst, ◌∙◌, arith, nat_eq, ⊎_elim, Some}
use Rattle.std.specs.Prelude.{⊤, ◌&&◌}
use Rattle.std.specs.List.{filter, flat_map, range_with_len}
use Rattle.std.proofs.lemmas.Bool.{cases_lt, false≢true}
use Rattle.std.proofs.lemmas.List.FromFn.{length-map-range_with_len}
use Rattle.ring_names.specs.declared.numbers.CreditSpec.{CreditSpec}
use Rattle.ring_rules.specs.Rows.{Row, no_row}
use Rattle.ring_rules.specs.declared.numbers.Numbers.{Numbers}
use Rattle.group_view.specs.Ring.{others, before, is_in, AreDistinct}
use Rattle.group_view.specs.View.{Group, is_live as is_live_in}
use Rattle.group_view.specs.Change.{opening_entry, opening_entries, opening as opening_group}
use Rattle.group_view.proofs.Lists.{cond_empty, cond_empty_late}
use Rattle.group_view.proofs.Passing.{are_mutual, left_inside as left_inside_ring}
use Rattle.group_view.proofs.Marks.{left_is as left_of_entry, right_is as right_of_entry}
use Rattle.group_view.proofs.Rings.{in_before, nat_eq-is, nat_eq-same, nat_eq-not, others_inside}
use Rattle.ring_rules.specs.View.{ids, is_live, left_of, right_of}
use Rattle.ring_rules.specs.Machine.{Phase, Waiting, Packet, Member, Link, World, no_member, no_link, member_at, link_at, view_in, row_at, numbers_at, ring, left, right, runs, runs_phase, is_kept, is_waiting}
use Rattle.ring_rules.specs.OpenLinks.{FallsFrom, NeverRises, own_number, number}
use Rattle.ring_rules.proofs.walks.CountedWalk.{is_early, only, no_but, counted, newest_first, numbers, block, round, round_of, retired_by, walk, running_from, stopped_from}
use Rattle.ring_rules.specs.Step.{opening, opening_member, size}
use Rattle.ring_rules.proofs.events.First.{first_at, first_each, first_link, first_links, first_link_is}
use Rattle.ring_rules.proofs.invariants.Good.{IsRing, IsLinked, kept_true}
use Rattle.ring_rules.proofs.invariants.Period.{IsHistory}
use Rattle.ring_rules.proofs.invariants.Standing.{knows, IsOrdered, OldLast}
use Rattle.ring_rules.proofs.walks.OwnerStops.{AllPackets, IsPacket}
use Rattle.ring_rules.proofs.walks.Views.{left_is, right_is}
use Rattle.ring_rules.proofs.invariants.Ordered.{first_inside, filter_all, all_true_same, all_true_old_last}
use Rattle.ring_rules.proofs.invariants.Kept.{IsCurrent, Inv}

-- ---- numbers from a on

pub in_range : (a n q : ℕ) → a ≤ q → q < a + n → is_in q (range_with_len a n) ≡ true
in_range a zero q l m = absurd (omega arith)
in_range a (suc n) q l m = by_test (nat_eq q a) refl (λ d. in_range (a + 1) n q (omega arith) (omega arith))
  where
    by_test : (b : Bool) → nat_eq q a ≡ b → (q ≢ a → is_in q (range_with_len (a + 1) n) ≡ true) → cond b true (is_in q (range_with_len (a + 1) n)) ≡ true
    by_test true e ih = refl
    by_test false e ih = ih (λ is. false≢true (sym e ∙ rw is (nat_eq-same a)))

pub range_in : (a n q : ℕ) → is_in q (range_with_len a n) ≡ true → (a ≤ q) × (q < a + n)
range_in a zero q h = absurd (false≢true h)
range_in a (suc n) q h = by_test (nat_eq q a) refl h (λ k. range_in (a + 1) n q k)
  where
    by_test : (b : Bool) → nat_eq q a ≡ b → cond b true (is_in q (range_with_len (a + 1) n)) ≡ true → (is_in q (range_with_len (a + 1) n) ≡ true → (a + 1 ≤ q) × (q < a + 1 + n)) → (a ≤ q) × (q < a + suc n)
    by_test true e k ih = let is : q ≡ a = nat_eq-is q a e in (omega arith, omega arith)
    by_test false e k ih = let r : (a + 1 ≤ q) × (q < a + 1 + n) = ih k in (omega (arith, r.0), omega (arith, r.1))

pub distinct_range : (a n : ℕ) → AreDistinct (range_with_len a n)
distinct_range a zero = tt
distinct_range a (suc n) = (by_test (is_in a (range_with_len (a + 1) n)) refl, distinct_range (a + 1) n)
  where
    by_test : (b : Bool) → is_in a (range_with_len (a + 1) n) ≡ b → b ≡ false
    by_test false e = refl
    by_test true e = absurd (omega (arith, (range_in (a + 1) n a e).0))

pub opening_ids : (a : ℕ) (names : List (List ℕ)) → map (λ e. e.id.0) (opening_entries a names) ≡ range_with_len a (length names)
opening_ids a [] = refl
opening_ids a (name ∷ names) = ap (λ us. a ∷ us) (opening_ids (a + 1) names)

pub opening_lives : (a : ℕ) (names : List (List ℕ)) (q : ℕ) → is_in q (range_with_len a (length names)) ≡ true → is_live_in (opening_entries a names) q ≡ true
opening_lives a [] q h = absurd (false≢true h)
opening_lives a (name ∷ names) q h = by_test (nat_eq q a) refl h (λ k. opening_lives (a + 1) names q k)
  where
    by_test : (b : Bool) → nat_eq q a ≡ b → cond b true (is_in q (range_with_len (a + 1) (length names))) ≡ true → (is_in q (range_with_len (a + 1) (length names)) ≡ true → is_live_in (opening_entries (a + 1) names) q ≡ true) → is_live_in (opening_entry a name ∷ opening_entries (a + 1) names) q ≡ true
    by_test true e k ih = let t : nat_eq a q ≡ true = ap (nat_eq a) (nat_eq-is q a e) ∙ nat_eq-same a in rw t refl
    by_test false e k ih = let t : nat_eq a q ≡ false = nat_eq-not a q (λ is. false≢true (sym e ∙ rw is (nat_eq-same q))) in rw t (ih k)

-- ---- lists of zeros

abbrev pub Zeros : List ℕ → Type 0
Zeros [] = ⊤
Zeros (x ∷ xs) = (x ≡ 0) × Zeros xs

pub zeros_append : (xs ys : List ℕ) → Zeros xs → Zeros ys → Zeros (xs ++ ys)
zeros_append [] ys h k = k
zeros_append (x ∷ xs) ys h k = (h.0, zeros_append xs ys h.1 k)

pub zeros_fall : (a : ℕ) (xs : List ℕ) → Zeros xs → FallsFrom a xs
zeros_fall a [] h = tt
zeros_fall a (x ∷ xs) h = (omega (arith, h.0), zeros_fall x xs h.1)

pub zeros_never_rise : (xs : List ℕ) → Zeros xs → NeverRises xs
zeros_never_rise [] h = tt
zeros_never_rise (x ∷ xs) h = zeros_fall x xs h.1

pub zeros_blocks : (m : ℕ → List ℕ) (f : ℕ → ℕ) (qs : List ℕ) → ((q : ℕ) → Zeros (m q)) → ((q : ℕ) → f q ≡ 0) → Zeros (flat_map (block m f) qs)
zeros_blocks m f [] hm hf = tt
zeros_blocks m f (q ∷ qs) hm hf = zeros_append (m q ++ f q ∷ []) (flat_map (block m f) qs) (zeros_append (m q) (f q ∷ []) (hm q) (hf q, tt)) (zeros_blocks m f qs hm hf)

pub zeros_round : (e m l : ℕ → List ℕ) (f : ℕ → ℕ) (ys : List ℕ) → ((q : ℕ) → Zeros (e q)) → ((q : ℕ) → Zeros (m q)) → ((q : ℕ) → Zeros (l q)) → ((q : ℕ) → f q ≡ 0) → Zeros (round e f m l ys)
zeros_round e m l f [] he hm hl hf = tt
zeros_round e m l f (y ∷ ys) he hm hl hf = zeros_append (e y) (f y ∷ (flat_map (block m f) ys ++ l y)) (he y) (hf y, zeros_append (flat_map (block m f) ys) (l y) (zeros_blocks m f ys hm hf) (hl y))

-- where no link holds a packet
pub no_packets : (f : Packet → ℕ) (c : Link → List Packet) (ls : List Link) → ((j : ℕ) → j < length ls → c (get_or ls j no_link) ≡ []) → Zeros (numbers f c ls)
no_packets f c [] h = tt
no_packets f c (l ∷ ls) h = zeros_append (numbers f c ls) (newest_first f (c l)) (no_packets f c ls (λ j lt. h (suc j) (omega arith))) (subst (λ ks. Zeros (newest_first f ks)) (sym (h 0 (omega arith))) tt)

-- ---- the opening

module _ (credit : CreditSpec) (names : List (List ℕ)) where
  abbrev first_world : World
  first_world = opening credit names

  abbrev first_view : Group
  first_view = opening_group names

  -- an id of the opening
  abbrev IsId : ℕ → Type 0
  IsId q = (1 ≤ q) × (q ≤ length names)

  opening_at : (q : ℕ) → IsId q → member_at first_world q ≡ opening_member names q
  opening_at q i = first_at credit names q i.0 i.1

  -- of each member of the opening, and of what stands for the others
  opening_each : (q : ℕ) (P : ℕ → Member → Type 0) → (IsId q → P q (opening_member names q)) → P q no_member → P q (member_at first_world q)
  opening_each q P here there = first_each credit names q (P q) (λ some l. here (some, l)) there

  opening_runs : (q : ℕ) → runs first_world q ≡ true → IsId q
  opening_runs q = opening_each q (λ k z. runs_phase z.phase ≡ true → IsId k) (λ i _. i) (λ e. absurd (false≢true e))

  link_id : (s : ℕ) → s < length first_world.links → IsId (s + 1)
  link_id s lt = (omega arith, omega (arith, first_links credit names))

  opening_empty : (s : ℕ) → (link_at first_world s).packets ≡ []
  opening_empty s = first_link credit names s (λ l. l.packets ≡ []) (λ _. refl) refl

  opening_knows : (q : ℕ) → IsId q → is_in q (ids first_view) ≡ true
  opening_knows q i = ap (is_in q) (opening_ids 1 names) ∙ in_range 1 (length names) q i.0 (omega (arith, i.1))

  opening_distinct : AreDistinct (ids first_view)
  opening_distinct = subst AreDistinct (sym (opening_ids 1 names)) (distinct_range 1 (length names))

  opening_live : (q : ℕ) → IsId q → is_live first_view q ≡ true
  opening_live q i = opening_lives 1 names q (in_range 1 (length names) q i.0 (omega (arith, i.1)))

  -- each member lives in the first view
  pub opening_live_at : (q : ℕ) → 1 ≤ q → q < size first_world → is_live first_view q ≡ true
  opening_live_at q some lt = opening_live q (some, omega (arith, lt, length-map-range_with_len (opening_member names) 1 (length names)))

  opening_inside : (q : ℕ) → is_in q (ids first_view) ≡ true → IsId q
  opening_inside q i = let r = range_in 1 (length names) q (sym (ap (is_in q) (opening_ids 1 names)) ∙ i) in (r.0, omega (arith, r.1))

  opening_left_right : (q : ℕ) → IsId q → left_of first_view (right_of first_view q) ≡ q
  opening_left_right q i = (are_mutual first_view.entries q opening_distinct (opening_live q i)).left_of_right

  at_one : (v : ℕ) → 1 ≤ v → v ≤ 1 → view_in first_world v ≡ first_view
  at_one v a b = ap (view_in first_world) (let is : v ≡ 1 = omega arith in is)

  left_one : (v y : ℕ) → 1 ≤ v → v ≤ 1 → left first_world v y ≡ left_of first_view y
  left_one v y a b = left_is first_world v y first_view (at_one v a b)

  right_one : (v y : ℕ) → 1 ≤ v → v ≤ 1 → right first_world v y ≡ right_of first_view y
  right_one v y a b = right_is first_world v y first_view (at_one v a b)

  version_one : (q : ℕ) → IsId q → (member_at first_world q).version ≡ 1
  version_one q i = ap (λ z. z.version) (opening_at q i)

  opening_ring : IsRing first_world
  opening_ring = record {
    some = omega arith;
    distinct = λ v l. ⊎_elim
        (λ (none : v < 1). subst (λ k. AreDistinct (ids (view_in first_world k))) (let is : 0 ≡ v = omega arith in is) tt)
        (λ (one : 1 ≤ v). subst (λ a. AreDistinct (ids a)) (sym (at_one v one (omega arith))) opening_distinct)
        (cases_lt v 1);
    held = λ x. opening_each x (λ k z. z.version ≤ 1) (λ _. omega arith) (omega arith);
    stands = λ x v r a b. let i = opening_runs x r in subst (λ k. is_in x (ids k) ≡ true) (sym (at_one v (from_first x v i a) (omega arith))) (opening_knows x i);
    lives = λ x v r a b. let i = opening_runs x r in subst (λ k. is_live k x ≡ true) (sym (at_one v (from_first x v i a) (omega arith))) (opening_live x i);
    front = λ x v u r a b c.
        let i = opening_runs x r in
        let f : 1 ≤ v = from_first x v i a in
        left_one u (right first_world v x) (omega arith) (omega arith) ∙ ap (left_of first_view) (right_one v x f (omega arith)) ∙ opening_left_right x i;
  }
    where
      from_first : (x v : ℕ) → IsId x → (member_at first_world x).version ≤ v → 1 ≤ v
      from_first x v i a = omega (arith, a, version_one x i)

  right_inside : (q : ℕ) → IsId q → is_in (right_of first_view q) (ids first_view) ≡ true
  right_inside q i = subst (λ z. is_in z (ids first_view) ≡ true) (sym (right_of_entry first_view.entries q (opening_knows q i))) (first_inside (is_live first_view) q (others q (ids first_view)) (ids first_view) (opening_knows q i) (λ z k. others_inside q z (ids first_view) k))

  opening_history : IsHistory first_world
  opening_history = record {
    grows = λ z u v i a b. ⊎_elim
        (λ (none : u < 1). absurd (nothing z u none i))
        (λ (one : 1 ≤ u). let same : u ≡ v = omega arith in subst (λ k. is_in z (ids (view_in first_world k)) ≡ true) same i)
        (cases_lt u 1);
    dies = λ z u v i a b l. ⊎_elim
        (λ (none : u < 1). absurd (nothing z u none i))
        (λ (one : 1 ≤ u). let same : v ≡ u = omega arith in subst (λ k. is_live (view_in first_world k) z ≡ true) same l)
        (cases_lt u 1);
    known = λ s lt. subst (λ l. is_in l.receiver (ids (view_in first_world l.opened)) ≡ true) (sym (first_link_is credit names s lt)) (right_inside (s + 1) (link_id s lt));
  }
    where
      nothing : (z u : ℕ) → u < 1 → is_in z (ids (view_in first_world u)) ≡ true → ⊥
      nothing z u lt i = false≢true (subst (λ k. is_in z (ids (view_in first_world k)) ≡ true) (let is : u ≡ 0 = omega arith in is) i)

  filter_nothing : (t : ℕ → Bool) (xs : List ℕ) → ((q : ℕ) → t q ≡ false) → filter t xs ≡ []
  filter_nothing t [] h = refl
  filter_nothing t (x ∷ xs) h = rw (h x) (filter_nothing t xs h)

  opening_ordered : IsOrdered first_world
  opening_ordered = record {
    part = λ v l. ⊎_elim
        (λ (none : v < 1). subst (λ k. ids (view_in first_world k) ≡ filter (knows first_world k) (ring first_world)) (let is : 0 ≡ v = omega arith in is) (sym (filter_nothing (knows first_world 0) (ring first_world) (λ q. refl))))
        (λ (one : 1 ≤ v). subst (λ k. ids k ≡ filter (λ q. is_in q (ids k)) (ring first_world)) (sym (at_one v one (omega arith)))
        (sym (filter_all (λ q. is_in q (ids first_view)) (ids first_view) (all_true_same (λ q. is_in q (ids first_view)) (ids first_view) (λ q i. i)))))
        (cases_lt v 1);
    order = λ v e l k. ⊎_elim
        (λ (none : v < 1). absurd (false≢true (subst (λ u. knows first_world u e ≡ true) (let is : v ≡ 0 = omega arith in is) k)))
        (λ (one : 1 ≤ v). subst (λ a. OldLast (λ q. is_in q (ids a)) (before e (others (left first_world v e) (ring first_world)))) (sym (at_one v one (omega arith)))
        (all_true_old_last (λ q. is_in q (ids first_view)) (before e (others (left first_world v e) (ids first_view)))
        (all_true_same (λ q. is_in q (ids first_view)) (before e (others (left first_world v e) (ids first_view)))
        (λ q i. others_inside (left first_world v e) q (ids first_view) (in_before q e (others (left first_world v e) (ids first_view)) i)))))
        (cases_lt v 1);
  }

  -- the out link of a member
  out_is : (x o : ℕ) → IsId x → (member_at first_world x).out ≡ Some o → (x ≡ o + 1) × (o < length first_world.links)
  out_is x o i e =
      let k : Some (x - 1) ≡ Some o = sym (ap (λ z. z.out) (opening_at x i)) ∙ e in
      let is : x - 1 ≡ o = cc in
      (omega (arith, i.0), omega (arith, i.0, i.1, first_links credit names))

  opening_linked : IsLinked first_world
  opening_linked = record {
    opened = λ s lt. subst (λ l. l.opened ≤ 1) (sym (first_link_is credit names s lt)) (omega arith);
    from_left = λ s lt. subst (λ l. left first_world l.opened l.receiver ≡ l.sender) (sym (first_link_is credit names s lt)) (left_one 1 (right_of first_view (s + 1)) (omega arith) (omega arith) ∙ opening_left_right (s + 1) (link_id s lt));
    seen = λ s lt. subst (λ l. l.opened ≤ (member_at first_world l.sender).version) (sym (first_link_is credit names s lt)) (omega (arith, version_one (s + 1) (link_id s lt)));
    period = λ i j ij jl e.
        let il : i < length first_world.links = omega arith in
        let same : right_of first_view (i + 1) ≡ right_of first_view (j + 1) = sym (ap (λ l. l.receiver) (first_link_is credit names i il)) ∙ e ∙ ap (λ l. l.receiver) (first_link_is credit names j jl) in
        let is : i + 1 ≡ j + 1 = sym (opening_left_right (i + 1) (link_id i il)) ∙ ap (left_of first_view) same ∙ opening_left_right (j + 1) (link_id j jl) in
        absurd (omega arith);
    out_lt = λ x o r e. (out_is x o (opening_runs x r) e).1;
    out_from = λ x o r e. let is = out_is x o (opening_runs x r) e in ap (λ l. l.sender) (first_link_is credit names o is.1) ∙ sym is.0;
    out_to = λ x o r e.
        let is = out_is x o (opening_runs x r) e in
        let v = version_one x (opening_runs x r) in
        ap (λ l. l.receiver) (first_link_is credit names o is.1) ∙ ap (right_of first_view) (sym is.0) ∙ sym (right_one (member_at first_world x).version x (omega (arith, v)) (omega (arith, v)));
    out_kept = λ x o r e u a b.
        let is = out_is x o (opening_runs x r) e in
        let l = first_link_is credit names o is.1 in
        left_one u (link_at first_world o).receiver (omega (arith, a, ap (λ l. l.opened) l)) (omega (arith, b, version_one x (opening_runs x r)))
        ∙ ap (left_of first_view) (ap (λ l. l.receiver) l) ∙ opening_left_right (o + 1) (link_id o is.1) ∙ sym (ap (λ l. l.sender) l);
    is_out = λ s lt r k lv.
        ap (λ q. (member_at first_world q).out) (ap (λ l. l.sender) (first_link_is credit names s lt)) ∙ ap (λ z. z.out) (opening_at (s + 1) (link_id s lt))
        ∙ (let back : s + 1 - 1 ≡ s = omega arith in ap (λ k. Some k) back);
  }

  no_rows : (xs : List ℕ) (p : ℕ) → get_or (map (λ (_ : ℕ). no_row) xs) p no_row ≡ no_row
  no_rows [] p = refl
  no_rows (x ∷ xs) zero = refl
  no_rows (x ∷ xs) (suc p) = no_rows xs p

  opening_row : (q p : ℕ) → row_at (member_at first_world q) p ≡ no_row
  opening_row q p = opening_each q (λ k z. row_at z p ≡ no_row) (λ _. no_rows (range_with_len 0 (length names + 1)) p) refl

  opening_counted : (q j : ℕ) → counted first_world q (link_at first_world j) ≡ []
  opening_counted q j = past_nothing (nat_eq (link_at first_world j).receiver q && is_kept first_world (link_at first_world j) (member_at first_world q).version) (is_waiting (member_at first_world q).phase && nat_eq (link_at first_world j).opened (member_at first_world q).version) (link_at first_world j).packets (opening_empty j)

  opening_number : (g : Numbers → ℕ) (r : Row → ℕ) (p q : ℕ) → r no_row ≡ 0 → number g r first_world p q ≡ 0
  opening_number g r p q e = opening_each q (λ k z. own_number g r first_world p z.phase z ≡ 0) (λ _. ap r (no_rows (range_with_len 0 (length names + 1)) p) ∙ e) e

  zeros_early : (f : Packet → ℕ) (q : ℕ) (st : List ℕ) → Zeros (numbers f (only (is_early st) (counted first_world q)) first_world.links)
  zeros_early f q st = no_packets f (only (is_early st) (counted first_world q)) first_world.links (λ j _. cond_empty (is_early st (link_at first_world j)) _ (opening_counted q j))

  zeros_late : (f : Packet → ℕ) (q : ℕ) (st : List ℕ) → Zeros (numbers f (no_but (is_early st) (counted first_world q)) first_world.links)
  zeros_late f q st = no_packets f (no_but (is_early st) (counted first_world q)) first_world.links (λ j _. cond_empty_late (is_early st (link_at first_world j)) _ (opening_counted q j))

  zeros_of : (g : Numbers → ℕ) (r : Row → ℕ) (p : ℕ) (st ys : List ℕ) → r no_row ≡ 0 → Zeros (round_of g r first_world p st ys)
  zeros_of g r p st ys e =
      zeros_round _ _ _ (number g r first_world p) ys (λ q. zeros_early (λ k. g (numbers_at k p)) q st)
      (λ q. no_packets (λ k. g (numbers_at k p)) (counted first_world q) first_world.links (λ j _. opening_counted q j))
      (λ q. zeros_late (λ k. g (numbers_at k p)) q st) (λ q. opening_number g r p q e)

  zeros_retired : (p : ℕ) (ys : List ℕ) → Zeros (retired_by first_world p ys)
  zeros_retired p [] = tt
  zeros_retired p (y ∷ ys) = (ap (λ a. a.retired) (opening_row y p), tt)

  opening_walk : (p : ℕ) → NeverRises (walk first_world p)
  opening_walk p =
      zeros_never_rise (walk first_world p)
      (zeros_append (round_of (λ k. k.got) (λ r. r.got) first_world p (stopped_from first_world p) (running_from first_world p)) _
      (zeros_of (λ k. k.got) (λ r. r.got) p (stopped_from first_world p) (running_from first_world p) refl)
      (zeros_append (round_of (λ k. k.forgot) (λ r. r.forgot) first_world p (stopped_from first_world p) (running_from first_world p)) (retired_by first_world p (running_from first_world p))
      (zeros_of (λ k. k.forgot) (λ r. r.forgot) p (stopped_from first_world p) (running_from first_world p) refl)
      (zeros_retired p (running_from first_world p))))

  left_inside : (y : ℕ) → IsId y → IsId (left_of first_view y)
  left_inside y i = subst IsId (sym (left_of_entry first_view.entries y (opening_knows y i))) (opening_inside _ (left_inside_ring (is_live first_view) y (ids first_view) opening_distinct (opening_knows y i)))

  opening_right_left : (y : ℕ) → IsId y → right_of first_view (left_of first_view y) ≡ y
  opening_right_left y i = (are_mutual first_view.entries y opening_distinct (opening_live y i)).right_of_left

  -- the current link of a member
  current_is : (y s : ℕ) → IsId y → (member_at first_world y).current ≡ Some s → (left_of first_view y ≡ s + 1) × (s < length first_world.links)
  current_is y s i e =
      let k : Some (left_of first_view y - 1) ≡ Some s = sym (ap (λ z. z.current) (opening_at y i)) ∙ e in
      let is : left_of first_view y - 1 ≡ s = cc in
      let l = left_inside y i in
      (omega (arith, l.0), omega (arith, l.0, l.1, first_links credit names))

  opening_current : IsCurrent first_world
  opening_current = record {
    lt = λ y s r e. (current_is y s (opening_runs y r) e).1;
    receiver = λ y s r e. let c = current_is y s (opening_runs y r) e in ap (λ l. l.receiver) (first_link_is credit names s c.1) ∙ ap (right_of first_view) (sym c.0) ∙ opening_right_left y (opening_runs y r);
    kept_yet = λ y s r e.
        let i = opening_runs y r in
        let c = current_is y s i e in
        let l = first_link_is credit names s c.1 in
        let to : (link_at first_world s).receiver ≡ y = ap (λ l. l.receiver) l ∙ ap (right_of first_view) (sym c.0) ∙ opening_right_left y i in
        kept_true first_world (link_at first_world s) (member_at first_world y).version
        (λ u a b. left_one u (link_at first_world s).receiver (omega (arith, a, ap (λ l. l.opened) l)) (omega (arith, b, version_one y i)) ∙ ap (left_of first_view) to ∙ c.0 ∙ sym (ap (λ l. l.sender) l));
    opened = λ y s r e. omega (arith, ap (λ l. l.opened) (first_link_is credit names s (current_is y s (opening_runs y r) e).1), version_one y (opening_runs y r));
  }

  pub opening_phase : (q : ℕ) → is_waiting (member_at first_world q).phase ≡ false
  opening_phase q = opening_each q (λ k z. is_waiting z.phase ≡ false) (λ _. refl) refl

  not_waiting : (f : Phase) → is_waiting f ≡ false → f ≡ Waiting → ⊥
  not_waiting f e is = false≢true (sym e ∙ ap is_waiting is)

  pub opening_inv : Inv first_world
  opening_inv = record {
    is_ring = opening_ring;
    linked = opening_linked;
    history = opening_history;
    ordered = opening_ordered;
    packed = record { packets = λ s l. subst (AllPackets (IsPacket first_world (link_at first_world s))) (sym (opening_empty s)) tt };
    numbered = record { zero = λ x p e. (ap (λ a. a.got) (opening_row x p), ap (λ a. a.forgot) (opening_row x p)); beyond = λ x p ge. ap (λ a. a.retired) (opening_row x p) };
    retired = record { none = λ p x y us r e i. ap (λ a. a.retired) (opening_row y p) };
    waiting = record {
      first = λ y s e c. absurd (not_waiting (member_at first_world y).phase (opening_phase y) e);
      mine = λ y s e c. absurd (not_waiting (member_at first_world y).phase (opening_phase y) e);
      admission = λ y s e l t v. absurd (not_waiting (member_at first_world y).phase (opening_phase y) e);
    };
    joining = record {
      some = λ y e. absurd (not_waiting (member_at first_world y).phase (opening_phase y) e);
      opened = λ y s e c. absurd (not_waiting (member_at first_world y).phase (opening_phase y) e);
      rows = λ y p e. absurd (not_waiting (member_at first_world y).phase (opening_phase y) e);
    };
    current = opening_current;
    origins = λ p some l. opening_knows p (some, omega (arith, l, length-map-range_with_len (opening_member names) 1 (length names)));
    walks = λ p some l. opening_walk p;
  }
