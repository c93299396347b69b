-- The walk by open links is the walk of the links that are kept.
use Rattle.ring_rules.proofs.walks.Links.{past_nothing}
use Rattle.std.proofs.Common.{◌≡◌, ℕ, suc, ◌+◌, ◌<◌, ◌≤◌, Bool, true, false, cond, not, nat_eq, List, [], ◌∷◌, ◌++◌, length, get_or, map, Option, Some, None, refl, sym, ap, subst, ◌∙◌, arith, append_assoc, max, is_some, drop, ◌≢◌, ⊎_elim}
use Rattle.std.specs.Prelude.{◌&&◌, ◌||◌, reverse}
use Rattle.std.specs.List.{filter, flat_map, range_with_len}
use Rattle.std.proofs.Math.Bool.{not-not}
use Rattle.std.proofs.lemmas.Bool.{false≢true, and_from, cases_eq}
use Rattle.std.proofs.lemmas.List.{append-nil, reverse-append, map-append}
use Rattle.std.proofs.lemmas.List.Elements.{filter-append}
use Rattle.ring_names.specs.declared.numbers.CreditSpec.{CreditSpec}
use Rattle.ring_rules.specs.Rows.{Row}
use Rattle.ring_rules.specs.declared.numbers.Numbers.{Numbers}
use Rattle.group_view.specs.Ring.{is_in, AreDistinct, before, after, others, rotated, first}
use Rattle.group_view.specs.Change.{AreOpeningNames}
use Rattle.group_view.proofs.Lists.{cond_empty}
use Rattle.group_view.proofs.Rings.{sym_test, not_in_before, in_before, not_in_others, is_in-rotated, rotated_is, others-rotated, distinct_others, split_at, nat_eq-is, nat_eq-same, from_inside, in_head, in_tail}
use Rattle.group_view.proofs.Arcs.{prefix_is, between_from}
use Rattle.group_view.proofs.Neighbours.{FirstPass, first_pass, first_passes, passes_in}
use Rattle.ring_rules.specs.Machine.{Packet, Link, World, no_link, row_at, numbers_at, member_at, link_at, newest, ring, runs, is_kept, Phase, Waiting, Up, Stopped, is_waiting}
use Rattle.ring_rules.proofs.walks.CountedWalk.{newest_first, numbers, only, no_but, when, counted, block, is_early, round_of, stopped_from, running_from, walk_over, walk, past_first}
use Rattle.ring_rules.specs.Step.{size, opening}
use Rattle.ring_rules.specs.Act.{Act, IsRun, last}
use Rattle.ring_rules.specs.OpenLinks.{number, NeverRises, version_of, comes_from_left, passes, is_place, is_current, is_open, open_links, packets_of, packets_on, open_packets, is_late, late_packets, early_packets, stop_of, round_trip, walk_of, the_walk}
use Rattle.ring_rules.proofs.walks.Gaps.{prefix_before}
use Rattle.ring_rules.proofs.invariants.FromLeft.{IsGood, opened_right, comes_is, sender_known}
use Rattle.ring_rules.proofs.invariants.Happens.{opening_good, reached_good}
use Rattle.ring_rules.proofs.invariants.KeptBegin.{one_version}
use Rattle.ring_rules.proofs.walks.Ended.{EndsRight, ends_run, opening_ends}
use Rattle.std.specs.Cmp.{both_ways}

-- ---- late and early

-- an origin stands between a sender and y exactly where the sender doesn't stand from the origin up to y
pub late_is : (p s y : ℕ) (xs : List ℕ) → AreDistinct xs → is_in p xs ≡ true → is_in s xs ≡ true → is_in y xs ≡ true → nat_eq y p ≡ false → is_in p (before y (others s xs)) ≡ not (is_in s (before y (rotated p xs)))
late_is p s y xs d hp hs hy n = by_between (is_in p (before y (others s xs))) refl
  where
    outside : is_in p (before y (others s xs)) ≡ true → (b : Bool) → is_in s (before y (rotated p xs)) ≡ b → b ≡ false
    outside i false e = refl
    outside i true e =
        absurd (false≢true (sym (not_in_others s xs d) ∙ in_before s y (others s xs) (from_inside p s (before y (others s xs)) (ap (is_in s) (sym (prefix_is p s y xs d hs hy i)) ∙ e))))

    by_sender : (b : Bool) → is_in s (before y (rotated p xs)) ≡ b → is_in p (before y (others s xs)) ≡ false → false ≡ not b
    by_sender true e i = refl
    by_sender false e i = absurd (false≢true (sym i ∙ between_from p s y xs d (distinct_others s xs d hs) hs hp n e))

    by_between : (b : Bool) → is_in p (before y (others s xs)) ≡ b → b ≡ not (is_in s (before y (rotated p xs)))
    by_between true i = ap (λ c. not c) (sym (outside i (is_in s (before y (rotated p xs))) refl))
    by_between false i = by_sender (is_in s (before y (rotated p xs))) refl i

-- the three cases together
pub late_cases : (p s y : ℕ) (xs : List ℕ) → AreDistinct xs → is_in p xs ≡ true → is_in s xs ≡ true → is_in y xs ≡ true → (nat_eq p y || (is_in p (before y (others s xs)) || nat_eq s y)) ≡ not (is_in s (before y (rotated p xs)))
late_cases p s y xs d hp hs hy = by_origin (nat_eq p y) refl
  where
    by_sender : (b : Bool) → nat_eq s y ≡ b → (c : Bool) → c ≡ not (is_in s (before y (rotated p xs))) → (c || b) ≡ not (is_in s (before y (rotated p xs)))
    by_sender true e true k = k
    by_sender true e false k = ap not (sym (subst (λ q. is_in q (before y (rotated p xs)) ≡ false) (sym (nat_eq-is s y e)) (not_in_before y (rotated p xs))))
    by_sender false e true k = k
    by_sender false e false k = k

    by_origin : (b : Bool) → nat_eq p y ≡ b → (b || (is_in p (before y (others s xs)) || nat_eq s y)) ≡ not (is_in s (before y (rotated p xs)))
    by_origin true e = ap not (sym (ap (λ us. is_in s (before y us)) (rotated_is p xs hp) ∙ ap (λ b. is_in s (cond b [] (p ∷ before y (others p xs)))) e))
    by_origin false e = by_sender (nat_eq s y) refl (is_in p (before y (others s xs))) (late_is p s y xs d hp hs hy (sym_test p y false e))

-- ---- the test at the door

-- a link that goes to y passes the test at y's door exactly where it is kept up to y's view
pub passes_is : (w : World) (y s : ℕ) → IsGood w → s < length w.links → (link_at w s).receiver ≡ y → passes w y (link_at w s) ≡ is_kept w (link_at w s) (version_of w y)
passes_is w y s h there to =
    ap (λ q. comes_from_left w q (link_at w s) (max (version_of w y) (link_at w s).opened)) (sym to)
    ∙ comes_is w (link_at w s) (version_of w y) h (opened_right w s h there) (h.inv.is_ring.held y)

-- ---- what counts

-- a condition in its two forms
when_is : (b : Bool) (ks : List Packet) → when b ks ≡ cond b ks []
when_is true ks = refl
when_is false ks = refl

-- the place that is found is the current one
pub place_is : (c : Option ℕ) (s : ℕ) → is_place c s ≡ true → c ≡ Some s
place_is None s e = absurd (false≢true e)
place_is (Some t) s e = ap (λ k. Some k) (nat_eq-is t s e)

-- a link that isn't over is open exactly where it goes to y and is kept up to y's view
pub open_is : (w : World) (y s : ℕ) → IsGood w → runs w y ≡ true → s < length w.links → (link_at w s).over ≡ false → is_open w y s ≡ (nat_eq (link_at w s).receiver y && is_kept w (link_at w s) (version_of w y))
open_is w y s h ry there goes_on = rw goes_on (by_current (is_current w y s) refl)
  where
    l : Link
    l = link_at w s

    by_receiver : (b : Bool) → nat_eq l.receiver y ≡ b → ((b && (not false && not false)) && passes w y l) ≡ (b && is_kept w l (version_of w y))
    by_receiver true e = passes_is w y s h there (nat_eq-is l.receiver y e)
    by_receiver false e = refl

    by_current : (b : Bool) → is_current w y s ≡ b → (b || ((nat_eq l.receiver y && (not b && not false)) && passes w y l)) ≡ (nat_eq l.receiver y && is_kept w l (version_of w y))
    by_current true e =
        let c = place_is (member_at w y).current s e in
        sym (and_from (nat_eq l.receiver y) (is_kept w l (version_of w y)) (ap (λ q. nat_eq q y) (h.inv.current.receiver y s ry c) ∙ nat_eq-same y) (h.inv.current.kept_yet y s ry c))
    by_current false e = by_receiver (nat_eq l.receiver y) refl

-- the first packet of a member that waits is that of its current link, the only one of that version
waits_first : (w : World) (y s : ℕ) → IsGood w → runs w y ≡ true → s < length w.links → (link_at w s).receiver ≡ y → (is_waiting (member_at w y).phase && nat_eq (link_at w s).opened (member_at w y).version) ≡ (is_waiting (member_at w y).phase && is_current w y s)
waits_first w y s h ry there to = by_phase (member_at w y).phase refl
  where
    by_current : (c : Option ℕ) → (member_at w y).current ≡ c → is_some c ≡ true → (member_at w y).phase ≡ Waiting → nat_eq (link_at w s).opened (member_at w y).version ≡ is_place c s
    by_current None e some waits = absurd (false≢true some)
    by_current (Some t) e some waits =
        let opened : (link_at w t).opened ≡ (member_at w y).version = h.inv.joining.opened y t waits e in
        both_ways (nat_eq (link_at w s).opened (member_at w y).version) (nat_eq t s)
        (λ k. ⊎_elim
        (λ (is : t ≡ s). ap (λ j. nat_eq j s) is ∙ nat_eq-same s)
        (λ (d : t ≢ s). absurd (one_version w t s h.inv.linked (h.inv.current.lt y t ry e) there d (h.inv.current.receiver y t ry e ∙ sym to) (opened ∙ sym (nat_eq-is (link_at w s).opened (member_at w y).version k))))
        (cases_eq t s))
        (λ k. ap (λ j. nat_eq (link_at w j).opened (member_at w y).version) (sym (nat_eq-is t s k)) ∙ ap (λ v. nat_eq v (member_at w y).version) opened ∙ nat_eq-same (member_at w y).version)

    by_phase : (f : Phase) → (member_at w y).phase ≡ f → (is_waiting f && nat_eq (link_at w s).opened (member_at w y).version) ≡ (is_waiting f && is_current w y s)
    by_phase Waiting e = by_current (member_at w y).current refl (h.inv.joining.some y e) e
    by_phase Up e = refl
    by_phase Stopped e = refl

-- what counts of a link is what it brings where it is open
pub counts : (w : World) (y s : ℕ) → IsGood w → EndsRight w → runs w y ≡ true → s < length w.links → counted w y (link_at w s) ≡ cond (is_open w y s) (packets_of w y s) []
counts w y s h k ry there = by_over (link_at w s).over refl
  where
    kept : Bool
    kept = nat_eq (link_at w s).receiver y && is_kept w (link_at w s) (version_of w y)

    firsts : (b : Bool) (ks : List Packet) → past_first b ks ≡ cond b (drop 1 ks) ks
    firsts true ks = refl
    firsts false ks = refl

    open_nothing : (a b : Bool) (ks : List Packet) → ks ≡ [] → cond a (cond b (drop 1 ks) ks) [] ≡ []
    open_nothing true true ks e = ap (drop 1) e
    open_nothing true false ks e = e
    open_nothing false b ks e = refl

    by_receiver : (b : Bool) → nat_eq (link_at w s).receiver y ≡ b → when (b && is_kept w (link_at w s) (version_of w y)) (past_first (is_waiting (member_at w y).phase && nat_eq (link_at w s).opened (version_of w y)) (link_at w s).packets) ≡ cond (b && is_kept w (link_at w s) (version_of w y)) (packets_of w y s) []
    by_receiver true e =
        when_is (is_kept w (link_at w s) (version_of w y)) _
        ∙ ap (λ ks. cond (is_kept w (link_at w s) (version_of w y)) ks [])
        (firsts (is_waiting (member_at w y).phase && nat_eq (link_at w s).opened (version_of w y)) (link_at w s).packets
        ∙ ap (λ b. cond b (drop 1 (link_at w s).packets) (link_at w s).packets) (waits_first w y s h ry there (nat_eq-is (link_at w s).receiver y e)))
    by_receiver false e = refl

    by_over : (b : Bool) → (link_at w s).over ≡ b → counted w y (link_at w s) ≡ cond (is_open w y s) (packets_of w y s) []
    by_over true e =
        past_nothing kept (is_waiting (member_at w y).phase && nat_eq (link_at w s).opened (version_of w y)) (link_at w s).packets (k.nothing s e)
        ∙ sym (open_nothing (is_open w y s) (is_waiting (member_at w y).phase && is_current w y s) (link_at w s).packets (k.nothing s e))
    by_over false e = by_receiver (nat_eq (link_at w s).receiver y) refl ∙ ap (λ b. cond b (packets_of w y s) []) (sym (open_is w y s h ry there e))

-- ---- lists

-- the numbers of packets, the newest first
newest_is : (f : Packet → ℕ) (ks : List Packet) → newest_first f ks ≡ map f (reverse ks)
newest_is f [] = refl
newest_is f (k ∷ ks) = ap (λ xs. xs ++ f k ∷ []) (newest_is f ks) ∙ sym (ap (map f) (reverse-append (k ∷ []) ks) ∙ map-append f (reverse ks) (k ∷ []))

-- the numbers of what counts, where that is what stands on the links whose places pass
numbers_are : (f : Packet → ℕ) (c : Link → List Packet) (t : ℕ → Bool) (g : ℕ → List Packet) (a : ℕ) (ls : List Link)
    → ((j i : ℕ) → j < length ls → i ≡ a + j → c (get_or ls j no_link) ≡ cond (t i) (g i) []) → numbers f c ls ≡ map f (reverse (flat_map g (filter t (range_with_len a (length ls)))))
numbers_are f c t g a [] h = refl
numbers_are f c t g a (l ∷ ls) h = by_test (t a) refl (h 0 a (omega arith) (omega arith)) (numbers_are f c t g (a + 1) ls (λ j i lt e. h (suc j) i (omega arith) (omega arith)))
  where
    rest : List ℕ
    rest = filter t (range_with_len (a + 1) (length ls))

    by_test : (b : Bool) → t a ≡ b → c l ≡ cond (t a) (g a) [] → numbers f c ls ≡ map f (reverse (flat_map g rest)) → numbers f c ls ++ newest_first f (c l) ≡ map f (reverse (flat_map g (cond b (a ∷ rest) rest)))
    by_test true e k ih =
        let here : c l ≡ g a = k ∙ rw e refl in
        ap (λ xs. xs ++ newest_first f (c l)) ih ∙ ap (λ xs. map f (reverse (flat_map g rest)) ++ xs) (ap (newest_first f) here ∙ newest_is f (g a))
        ∙ sym (ap (map f) (reverse-append (g a) (flat_map g rest)) ∙ map-append f (reverse (flat_map g rest)) (reverse (g a)))
    by_test false e k ih =
        let here : c l ≡ [] = k ∙ rw e refl in
        ap (λ ks. numbers f c ls ++ newest_first f ks) here ∙ append-nil (numbers f c ls) ∙ ih

-- two tests one after the other are one
filter_twice : (t e : ℕ → Bool) (xs : List ℕ) → filter e (filter t xs) ≡ filter (λ j. t j && e j) xs
filter_twice t e [] = refl
filter_twice t e (x ∷ xs) = by_test (t x) (filter_twice t e xs)
  where
    by_test : (b : Bool) → filter e (filter t xs) ≡ filter (λ j. t j && e j) xs → filter e (cond b (x ∷ filter t xs) (filter t xs)) ≡ cond (b && e x) (x ∷ filter (λ j. t j && e j) xs) (filter (λ j. t j && e j) xs)
    by_test true ih = ap (λ us. cond (e x) (x ∷ us) us) ih
    by_test false ih = ih

-- ---- the packets open to a member

-- what counts at a member is the packets that are open to it
pub open_numbers : (f : Packet → ℕ) (w : World) (y : ℕ) → IsGood w → EndsRight w → runs w y ≡ true → numbers f (counted w y) w.links ≡ map f (open_packets w y)
open_numbers f w y h k ry = numbers_are f (counted w y) (is_open w y) (packets_of w y) 0 w.links (λ j i lt e. let is : j ≡ i = omega arith in subst (λ n. counted w y (link_at w j) ≡ cond (is_open w y n) (packets_of w y n) []) is (counts w y j h k ry lt))

-- those of them that pass a test on their link
pub part_numbers : (f : Packet → ℕ) (early : Link → Bool) (e : ℕ → Bool) (c : Link → List Packet) (w : World) (y : ℕ) → IsGood w → EndsRight w → runs w y ≡ true
    → ((s : ℕ) → s < length w.links → is_open w y s ≡ true → early (link_at w s) ≡ e s) → ((s : ℕ) → s < length w.links → c (link_at w s) ≡ cond (early (link_at w s)) (counted w y (link_at w s)) [])
    → numbers f c w.links ≡ map f (packets_on w y (filter e (open_links w y)))
part_numbers f early e c w y h k ry agree is =
    numbers_are f c (λ s. is_open w y s && e s) (packets_of w y) 0 w.links (λ j i lt same. let is : j ≡ i = omega arith in subst (λ n. c (link_at w j) ≡ cond (is_open w y n && e n) (packets_of w y n) []) is (here j lt))
    ∙ ap (λ links. map f (packets_on w y links)) (sym (filter_twice (is_open w y) e (range_with_len 0 (length w.links))))
  where
    by_open : (s : ℕ) (ks : List Packet) (b : Bool) → is_open w y s ≡ b → s < length w.links → cond (early (link_at w s)) (cond b ks []) [] ≡ cond (b && e s) ks []
    by_open s ks true o lt = ap (λ b. cond b ks []) (agree s lt o)
    by_open s ks false o lt = cond_empty {A = Packet} (early (link_at w s)) [] refl

    here : (s : ℕ) → s < length w.links → c (link_at w s) ≡ cond (is_open w y s && e s) (packets_of w y s) []
    here s lt = is s lt ∙ ap (λ ks. cond (early (link_at w s)) ks []) (counts w y s h k ry lt) ∙ by_open s (packets_of w y s) (is_open w y s) refl lt

-- ---- the owner

-- from the first of those that pass on the same pass, in the same order
same_round : (t : ℕ → Bool) (p y : ℕ) (ys xs : List ℕ) → AreDistinct xs → filter t (rotated p xs) ≡ y ∷ ys → filter t (rotated y xs) ≡ y ∷ ys
same_round t p y ys xs d e =
    ap (filter t) (rotated_is y xs inside ∙ ap (λ us. y ∷ us) (sym (others-rotated y p xs d inside)))
    ∙ passing (after y (rotated p xs) ++ before y (rotated p xs))
    ∙ ap (λ us. y ∷ us) (filter-append t (after y (rotated p xs)) (before y (rotated p xs)) ∙ ap (λ us. filter t (after y (rotated p xs)) ++ us) f.none ∙ append-nil (filter t (after y (rotated p xs))))
    ∙ sym (passing (after y (rotated p xs)))
    ∙ ap (λ us. us ++ filter t (y ∷ after y (rotated p xs))) (sym f.none)
    ∙ sym (filter-append t (before y (rotated p xs)) (y ∷ after y (rotated p xs)))
    ∙ ap (filter t) (sym (split_at y (rotated p xs) f.inside))
    ∙ e
  where
    f : FirstPass t y (rotated p xs)
    f = first_pass t y ys (rotated p xs) e

    inside : is_in y xs ≡ true
    inside = sym (is_in-rotated y p xs) ∙ f.inside

    passing : (us : List ℕ) → filter t (y ∷ us) ≡ y ∷ filter t us
    passing us = ap (λ b. cond b (y ∷ filter t us) (filter t us)) (first_passes t y ys (rotated p xs) e)

-- the sender of a link stands in the newest ring
pub sender_stands : (w : World) (s : ℕ) → IsGood w → s < length w.links → is_in (link_at w s).sender (ring w) ≡ true
sender_stands w s h there = h.inv.history.grows (link_at w s).sender (link_at w s).opened (newest w) (sender_known w s h there) (h.inv.linked.opened s there) (omega arith)

-- what is early is not late
pub early_is : (w : World) (p y s : ℕ) (ys : List ℕ) → IsGood w → 1 ≤ p → p < size w → running_from w p ≡ y ∷ ys → s < length w.links → is_early (stopped_from w p) (link_at w s) ≡ not (is_late w p y s)
early_is w p y s ys h some lt e there =
    ap (is_in (link_at w s).sender) (prefix_before (runs w) y (rotated p (ring w)) f.none f.inside (first_passes (runs w) y ys (rotated p (ring w)) e))
    ∙ sym (ap not (late_cases p (link_at w s).sender y (ring w) (h.inv.is_ring.distinct (newest w) (omega arith)) (h.inv.origins p some lt) (sender_stands w s h there) (sym (is_in-rotated y p (ring w)) ∙ f.inside)) ∙ not-not (is_in (link_at w s).sender (before y (rotated p (ring w)))))
  where
    f : FirstPass (runs w) y (rotated p (ring w))
    f = first_pass (runs w) y ys (rotated p (ring w)) e

-- ---- the whole

-- rounds agree where the packets at each member do
blocks_are : (m m' : ℕ → List ℕ) (f : ℕ → ℕ) (qs : List ℕ) → ((q : ℕ) → is_in q qs ≡ true → m q ≡ m' q) → flat_map (block m f) qs ≡ flat_map (block m' f) qs
blocks_are m m' f [] h = refl
blocks_are m m' f (q ∷ qs) h =
    ap (λ us. (us ++ f q ∷ []) ++ flat_map (block m f) qs) (h q (in_head q qs))
    ∙ ap (λ us. block m' f q ++ us) (blocks_are m m' f qs (λ z i. h z (in_tail z q qs i)))

-- one round
trip_is : (g : Numbers → ℕ) (r : Row → ℕ) (w : World) (p y : ℕ) (ys : List ℕ) → IsGood w → EndsRight w → 1 ≤ p → p < size w → running_from w p ≡ y ∷ ys → round_trip g r w p (y ∷ ys) ≡ round_of g r w p (stopped_from w p) (y ∷ ys)
trip_is g r w p y ys h k some lt e =
    append_assoc (map f (early_packets w p y)) (number g r w p y ∷ []) (flat_map (λ z. stop_of g r w p (open_packets w z) z) ys ++ map f (late_packets w p y))
    ∙ ap (λ us. us ++ (number g r w p y ∷ (flat_map (λ z. stop_of g r w p (open_packets w z) z) ys ++ map f (late_packets w p y)))) (sym early)
    ∙ ap (λ us. E ++ (number g r w p y ∷ (us ++ map f (late_packets w p y)))) (sym middle)
    ∙ ap (λ us. E ++ (number g r w p y ∷ (flat_map (block (λ q. numbers f (counted w q) w.links) (number g r w p)) ys ++ us))) (sym late)
  where
    f : Packet → ℕ
    f = λ n. g (numbers_at n p)

    st : List ℕ
    st = stopped_from w p

    E : List ℕ
    E = numbers f (only (is_early st) (counted w y)) w.links

    running : (q : ℕ) → is_in q (y ∷ ys) ≡ true → runs w q ≡ true
    running q i = passes_in (runs w) q (rotated p (ring w)) (ap (is_in q) e ∙ i)

    ry : runs w y ≡ true
    ry = first_passes (runs w) y ys (rotated p (ring w)) e

    early : E ≡ map f (early_packets w p y)
    early = part_numbers f (is_early st) (λ s. not (is_late w p y s)) (only (is_early st) (counted w y)) w y h k ry (λ s there o. early_is w p y s ys h some lt e there) (λ s there. refl)

    middle : flat_map (block (λ q. numbers f (counted w q) w.links) (number g r w p)) ys ≡ flat_map (λ z. stop_of g r w p (open_packets w z) z) ys
    middle = blocks_are (λ q. numbers f (counted w q) w.links) (λ q. map f (open_packets w q)) (number g r w p) ys (λ q i. open_numbers f w q h k (running q (in_tail q y ys i)))

    swap : (b : Bool) (ks : List Packet) → cond b [] ks ≡ cond (not b) ks []
    swap true ks = refl
    swap false ks = refl

    late : numbers f (no_but (is_early st) (counted w y)) w.links ≡ map f (late_packets w p y)
    late = part_numbers f (λ l. not (is_early st l)) (is_late w p y) (no_but (is_early st) (counted w y)) w y h k ry
        (λ s there o. ap not (early_is w p y s ys h some lt e there) ∙ not-not (is_late w p y s)) (λ s there. swap (is_early st (link_at w s)) (counted w y (link_at w s)))

-- the walk by open links is the walk of the links that are kept
pub walk_is : (w : World) (p : ℕ) → IsGood w → EndsRight w → 1 ≤ p → p < size w → the_walk w p ≡ walk w p
walk_is w p h k some lt = by_running (running_from w p) refl
  where
    by_running : (ys : List ℕ) → running_from w p ≡ ys → walk_of w p (first ys) ≡ walk_over w p (stopped_from w p) ys
    by_running [] e = refl
    by_running (y ∷ ys) e =
        ap (λ us. round_trip (λ n. n.got) (λ a. a.got) w p us ++ (round_trip (λ n. n.forgot) (λ a. a.forgot) w p us ++ (row_at (member_at w y) p).retired ∷ []))
        (same_round (runs w) p y ys (ring w) (h.inv.is_ring.distinct (newest w) (omega arith)) e)
        ∙ ap (λ us. us ++ (round_trip (λ n. n.forgot) (λ a. a.forgot) w p (y ∷ ys) ++ (row_at (member_at w y) p).retired ∷ [])) (trip_is (λ n. n.got) (λ a. a.got) w p y ys h k some lt e)
        ∙ ap (λ us. round_of (λ n. n.got) (λ a. a.got) w p (stopped_from w p) (y ∷ ys) ++ (us ++ (row_at (member_at w y) p).retired ∷ [])) (trip_is (λ n. n.forgot) (λ a. a.forgot) w p y ys h k some lt e)

-- in every state of every run
pub reached_ends : (credit : CreditSpec) (names : List (List ℕ)) (es : List Act) → AreOpeningNames names → IsRun (opening credit names) es → EndsRight (last (opening credit names) es)
reached_ends credit names es are r = ends_run (opening credit names) es (opening_good credit names are) r (opening_ends credit names)

-- so both walks are one in each
pub every_walk_is : (credit : CreditSpec) (names : List (List ℕ)) (es : List Act) (p : ℕ) → AreOpeningNames names → IsRun (opening credit names) es → 1 ≤ p → p < size (last (opening credit names) es) → the_walk (last (opening credit names) es) p ≡ walk (last (opening credit names) es) p
every_walk_is credit names es p are r some lt = walk_is (last (opening credit names) es) p (reached_good credit names es are r) (reached_ends credit names es are r) some lt

-- so it never rises either
pub open_walk_never_rises : (credit : CreditSpec) (names : List (List ℕ)) (es : List Act) (p : ℕ) → AreOpeningNames names → IsRun (opening credit names) es → 1 ≤ p → p < size (last (opening credit names) es) → NeverRises (the_walk (last (opening credit names) es) p)
open_walk_never_rises credit names es p are r some lt = subst NeverRises (sym (every_walk_is credit names es p are r some lt)) ((reached_good credit names es are r).inv.walks p some lt)
