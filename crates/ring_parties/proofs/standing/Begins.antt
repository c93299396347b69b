-- The parties of an opening stand in it.
use Rattle.std.proofs.Common.{◌≡◌, ℕ, zero, suc, ◌+◌, ◌-◌, ◌<◌, ◌≤◌, Bool, true, false, cond, ◌≢◌, nat_eq, List, [], ◌∷◌, ◌++◌, append-nil, length, map, Some, refl, sym, ap, subst, ◌∙◌, arith}
use Rattle.std.specs.Prelude.{slice_index_or, option_map}
use Rattle.std.specs.List.{range_with_len, filter}
use Rattle.std.proofs.lemmas.Bool.{false≢true}
use Rattle.std.proofs.lemmas.List.FromFn.{get_or-map-range_with_len, length-map-range_with_len}
use Rattle.ring_names.specs.declared.numbers.CreditSpec.{CreditSpec}
use Rattle.group_view.specs.Change.{AreOpeningNames, opening as opening_group}
use Rattle.group_view.specs.Ring.{is_in, before, after, last_or, left_in}
use Rattle.ring_rules.specs.Rows.{no_row}
use Rattle.ring_rules.specs.View.{ids, is_live, left_of, right_of}
use Rattle.ring_rules.specs.Machine.{Link, Member, no_link, member_at, link_at, row_at, numbers_at, left, runs, runs_phase}
use Rattle.activity.specs.Kept.{no_kept}
use Rattle.queue_core.specs.declared.message.Message.{Message}
use Rattle.ring_rules.specs.Step.{size, log_of, opening, opening_link, opening_member}
use Rattle.ring_rules.specs.Event.{is_stopped}
use Rattle.ring_rules.proofs.events.First.{first_size, first_member}
use Rattle.ring_rules.proofs.rings.Lists.{get_or-mapped}
use Rattle.ring_rules.proofs.rings.Rounds.{nat_eq-is, nat_eq-same}
use Rattle.ring_rules.proofs.walks.Views.{left_is}
use Rattle.ring_rules.proofs.invariants.Opening.{opening_ids, in_range, range_in, opening_lives}
use Rattle.group_view.proofs.Marks.{left_is as left_of_entry}
use Rattle.group_view.proofs.Rings.{is_in-append}
use Rattle.gm_member.specs.Packets.{places}
use Rattle.gm_member.specs.Held.{Held, founded, fresh_in as fresh_incoming, fresh_out as fresh_outgoing}
use Rattle.gm_member.specs.Stands.{kept_by, last_sent_in, held_in, outgoing_in, incoming_in, waits_for, door_links}
use Rattle.confirm_book.specs.Book.{book_in}
use Rattle.gm_member.proofs.Facts.{right_row}
use Rattle.gm_member.proofs.Fit.{IsFit, reached_fit}
use Rattle.gm_member.proofs.Parts.{held_is, known_by, current_waits_not, other_waits_not}
use Rattle.ring_parties.specs.Ends.{Carries, fresh_out, fresh_in}
use Rattle.ring_parties.specs.Parties.{node_at, no_shown, Keeps}
use Rattle.ring_parties.specs.Keeps.{KeepsStand, no_keeps, kind_of_message, round_of}
use Rattle.ordered_link.specs.Names.{PairName}
use Rattle.ring_parties.specs.Opened.{opened_at, opened_parties, AreRings}
use Rattle.ring_parties.specs.Standing.{Places, MemberStands, StandAfter, has_out, HaveDone}
use Rattle.ring_parties.proofs.deposits.Collections.{filter_all}
use Rattle.ring_parties.proofs.lists.Lists.{none_of_range}
use Rattle.ring_parties.proofs.standing.Frames.{opened_carries}

-- ---- who stands to the left in a list of ids from some number on

-- those before one
before_range : (a n p : ℕ) → a ≤ p → p < a + n → before p (range_with_len a n) ≡ range_with_len a (p - a)
before_range a zero p l m = absurd (omega arith)
before_range a (suc n) p l m = by_test (nat_eq a p) refl (λ more. before_range (a + 1) n p more (omega (arith, more)))
  where
    by_test : (b : Bool) → nat_eq a p ≡ b → (a + 1 ≤ p → before p (range_with_len (a + 1) n) ≡ range_with_len (a + 1) (p - (a + 1))) → cond b [] (a ∷ before p (range_with_len (a + 1) n)) ≡ range_with_len a (p - a)
    by_test true e later = (let is : a ≡ p = nat_eq-is a p e in ap (range_with_len a) (let none : 0 ≡ p - a = omega (arith, is) in none))
    by_test false e later =
        let ne : a ≢ p = λ (is : a ≡ p). false≢true (sym e ∙ ap (nat_eq a) (sym is) ∙ nat_eq-same a) in
        let more : a + 1 ≤ p = omega (arith, ne) in
        let is : suc (p - (a + 1)) ≡ p - a = omega arith in
        ap (λ ys. a ∷ ys) (later more) ∙ ap (range_with_len a) is

-- and those after it
after_range : (a n p : ℕ) → a ≤ p → p < a + n → after p (range_with_len a n) ≡ range_with_len (p + 1) (a + n - (p + 1))
after_range a zero p l m = absurd (omega arith)
after_range a (suc n) p l m = by_test (nat_eq a p) refl (λ more. after_range (a + 1) n p more (omega (arith, more)))
  where
    by_test : (b : Bool) → nat_eq a p ≡ b → (a + 1 ≤ p → after p (range_with_len (a + 1) n) ≡ range_with_len (p + 1) (a + 1 + n - (p + 1))) → cond b (range_with_len (a + 1) n) (after p (range_with_len (a + 1) n)) ≡ range_with_len (p + 1) (a + suc n - (p + 1))
    by_test true e later =
        let is : a ≡ p = nat_eq-is a p e in
        let many : n ≡ a + suc n - (p + 1) = omega (arith, is) in
        ap (λ k. range_with_len (k + 1) n) is ∙ ap (range_with_len (p + 1)) many
    by_test false e later =
        let ne : a ≢ p = λ (is : a ≡ p). false≢true (sym e ∙ ap (nat_eq a) (sym is) ∙ nat_eq-same a) in
        let more : a + 1 ≤ p = omega (arith, ne) in
        let many : a + 1 + n - (p + 1) ≡ a + suc n - (p + 1) = omega arith in
        later more ∙ ap (range_with_len (p + 1)) many

-- the last of them
last_range : (d a n : ℕ) → last_or d (range_with_len a (suc n)) ≡ a + n
last_range d a zero = omega arith
last_range d a (suc n) = last_range a (a + 1) n ∙ (let is : a + 1 + n ≡ a + suc n = omega arith in is)

last_behind : (d a n : ℕ) (xs : List ℕ) → last_or d (xs ++ range_with_len a (suc n)) ≡ a + n
last_behind d a n [] = last_range d a n
last_behind d a n (x ∷ xs) = last_behind x a n xs

-- where none stands before it
to_end : (p n : ℕ) → 1 ≤ p → p < 1 + n → p ≡ 1 → last_or p (range_with_len (p + 1) (1 + n - (p + 1))) ≡ n
to_end p zero l m is = absurd (omega (arith, is))
to_end p (suc zero) l m is =
    let none : 1 + 1 - (p + 1) ≡ 0 = omega (arith, is) in
    ap (λ k. last_or p (range_with_len (p + 1) k)) none ∙ is
to_end p (suc (suc k)) l m is =
    let many : 1 + suc (suc k) - (p + 1) ≡ suc k = omega (arith, is) in
    ap (λ j. last_or p (range_with_len (p + 1) j)) many ∙ last_range p (p + 1) k ∙ (let sum : p + 1 + k ≡ suc (suc k) = omega (arith, is) in sum)

-- who stands to the left of p where all live
left_range : (live : ℕ → Bool) (n p : ℕ) → 1 ≤ p → p < 1 + n → ((q : ℕ) → 1 ≤ q → q < 1 + n → live q ≡ true) → left_in live p (range_with_len 1 n) ≡ cond (nat_eq p 1) n (p - 1)
left_range live n p l m lives =
    ap (λ ys. last_or p (filter live (after p (range_with_len 1 n) ++ ys))) (before_range 1 n p l m)
    ∙ ap (λ ys. last_or p (filter live (ys ++ range_with_len 1 (p - 1)))) (after_range 1 n p l m)
    ∙ ap (last_or p) (filter_all live (range_with_len (p + 1) (1 + n - (p + 1)) ++ range_with_len 1 (p - 1)) all)
    ∙ by_test (nat_eq p 1) refl
  where
    all : (q : ℕ) → is_in q (range_with_len (p + 1) (1 + n - (p + 1)) ++ range_with_len 1 (p - 1)) ≡ true → live q ≡ true
    all q i = by_first (is_in q (range_with_len (p + 1) (1 + n - (p + 1)))) refl (sym (is_in-append q (range_with_len (p + 1) (1 + n - (p + 1))) (range_with_len 1 (p - 1))) ∙ i)
      where
        by_first : (b : Bool) → is_in q (range_with_len (p + 1) (1 + n - (p + 1))) ≡ b → cond (is_in q (range_with_len (p + 1) (1 + n - (p + 1)))) true (is_in q (range_with_len 1 (p - 1))) ≡ true → live q ≡ true
        by_first true e k = (let r = range_in (p + 1) (1 + n - (p + 1)) q e in let r0 = r.0 in let r1 = r.1 in lives q (omega (arith, r0)) (omega (arith, r1)))
        by_first false e k = (let r = range_in 1 (p - 1) q (sym (ap (λ b. cond b true (is_in q (range_with_len 1 (p - 1)))) e) ∙ k) in let r1 = r.1 in lives q r.0 (omega (arith, r1)))

    by_test : (b : Bool) → nat_eq p 1 ≡ b → last_or p (range_with_len (p + 1) (1 + n - (p + 1)) ++ range_with_len 1 (p - 1)) ≡ cond b n (p - 1)
    by_test true e =
        let is : p ≡ 1 = nat_eq-is p 1 e in
        let none : p - 1 ≡ 0 = omega (arith, is) in
        ap (λ k. last_or p (range_with_len (p + 1) (1 + n - (p + 1)) ++ range_with_len 1 k)) none
        ∙ ap (last_or p) (append-nil (range_with_len (p + 1) (1 + n - (p + 1))))
        ∙ to_end p n l m is
    by_test false e =
        let ne : p ≢ 1 = λ (is : p ≡ 1). false≢true (sym e ∙ ap (λ k. nat_eq k 1) is) in
        let more : p - 1 ≡ suc (p - 2) = omega (arith, ne) in
        ap (λ k. last_or p (range_with_len (p + 1) (1 + n - (p + 1)) ++ range_with_len 1 k)) more
        ∙ last_behind p 1 (p - 2) (range_with_len (p + 1) (1 + n - (p + 1)))
        ∙ (let is : 1 + (p - 2) ≡ p - 1 = omega (arith, ne) in is)

module _ (rings : ℕ → PairName) (credit : CreditSpec) (names : List (List ℕ)) (are : AreOpeningNames names) (pairs : AreRings rings credit.initial (length names)) where
  fit : IsFit (opening credit names)
  fit = reached_fit credit names [] are tt

  many : length (opening credit names).links ≡ length names
  many = length-map-range_with_len (opening_link credit names) 1 (length names)

  link_is : (s : ℕ) → s < length (opening credit names).links → link_at (opening credit names) s ≡ opening_link credit names (s + 1)
  link_is s l = get_or-map-range_with_len (opening_link credit names) 1 (length names) s (s + 1) no_link (omega (arith, many)) (omega arith)

  up_at : (x : ℕ) → 1 ≤ x → x < size (opening credit names) → runs (opening credit names) x ≡ true
  up_at x a b = ap (λ (m : Member). runs_phase m.phase) (first_member credit names x a b)

  -- the link from which a member takes: its place, its sender and its receiver
  current_is : (x : ℕ) → 1 ≤ x → x < size (opening credit names) → (member_at (opening credit names) x).current ≡ Some (left_of (opening_group names) x - 1)
  current_is x a b = ap (λ (m : Member). m.current) (first_member credit names x a b)

  current_lt : (x : ℕ) → 1 ≤ x → x < size (opening credit names) → left_of (opening_group names) x - 1 < length (opening credit names).links
  current_lt x a b = fit.good.inv.current.lt x (left_of (opening_group names) x - 1) (up_at x a b) (current_is x a b)

  -- a link to x comes from its left neighbour
  from_left : (s : ℕ) → s < length (opening credit names).links → left_of (opening_group names) (link_at (opening credit names) s).receiver ≡ s + 1
  from_left s l =
      sym (left_is (opening credit names) 1 (link_at (opening credit names) s).receiver (opening_group names) refl)
      ∙ ap (λ v. left (opening credit names) v (link_at (opening credit names) s).receiver) (sym (ap (λ (k : Link). k.opened) (link_is s l)))
      ∙ fit.good.inv.linked.from_left s l
      ∙ ap (λ (k : Link). k.sender) (link_is s l)

  current_to : (x : ℕ) → 1 ≤ x → x < size (opening credit names) → (link_at (opening credit names) (left_of (opening_group names) x - 1)).receiver ≡ x
  current_to x a b = fit.good.inv.current.receiver x (left_of (opening_group names) x - 1) (up_at x a b) (current_is x a b)

  -- its left neighbour has an id
  left_some : (x : ℕ) → 1 ≤ x → x < size (opening credit names) → left_of (opening_group names) x - 1 + 1 ≡ left_of (opening_group names) x
  left_some x a b =
      let s : ℕ = left_of (opening_group names) x - 1 in
      sym (from_left s (current_lt x a b)) ∙ ap (left_of (opening_group names)) (current_to x a b)

  -- no link waits
  none_waits : (x s : ℕ) → 1 ≤ x → x < size (opening credit names) → s < length (opening credit names).links → waits_for (opening credit names) x s ≡ false
  none_waits x s a b l = by_test (nat_eq (link_at (opening credit names) s).receiver x) refl
    where
      by_test : (t : Bool) → nat_eq (link_at (opening credit names) s).receiver x ≡ t → waits_for (opening credit names) x s ≡ false
      by_test true e =
          let to : (link_at (opening credit names) s).receiver ≡ x = nat_eq-is _ x e in
          let at_left : left_of (opening_group names) x ≡ s + 1 = ap (left_of (opening_group names)) (sym to) ∙ from_left s l in
          current_waits_not (opening credit names) x s (current_is x a b ∙ ap Some (omega (arith, at_left)))
      by_test false e = other_waits_not (opening credit names) x s (λ (is : (link_at (opening credit names) s).receiver ≡ x). false≢true (sym e ∙ ap (λ k. nat_eq k x) is ∙ nat_eq-same x))

  no_door : (x : ℕ) → 1 ≤ x → x < size (opening credit names) → door_links (opening credit names) x ≡ []
  no_door x a b = none_of_range (waits_for (opening credit names) x) 0 (length (opening credit names).links) (λ s _ l. none_waits x s a b (omega (arith, l)))

  known_are : (x : ℕ) → known_by (opening credit names) (opening_member names x) ≡ map (λ (_ : ℕ). no_kept) places
  known_are x = each places
    where
      kept_none : (log : List Message) → kept_by log no_row ≡ no_kept
      kept_none log = refl

      each : (ps : List ℕ) → map (λ p. kept_by (log_of (opening credit names) (p + 1)) (row_at (opening_member names x) (p + 1))) ps ≡ map (λ (_ : ℕ). no_kept) ps
      each [] = refl
      each (p ∷ ps) =
          let here : row_at (opening_member names x) (p + 1) ≡ no_row = get_or-mapped (λ (_ : ℕ). no_row) (range_with_len 0 (length names + 1)) (p + 1) 0 no_row refl in
          rw (here, each ps) refl

  out_is : (x : ℕ) → 1 ≤ x → x < size (opening credit names) → outgoing_in (opening credit names) (x - 1) ≡ fresh_outgoing credit.initial credit.more (right_of (opening_group names) x) 1
  out_is x a b =
      let l : x - 1 < length (opening credit names).links = omega (arith, b, a, many, first_size credit names) in
      ap (λ (k : Link). record { to = k.receiver; opened = k.opened; fresh = k.sending.fresh; last_sent = map (λ p. last_sent_in (numbers_at k.sending.sent (p + 1))) places; credit = k.flow.sender }) (link_is (x - 1) l)
      ∙ ap (λ i. fresh_outgoing credit.initial credit.more (right_of (opening_group names) i) 1) (omega (arith, a))

  in_is : (x : ℕ) → 1 ≤ x → x < size (opening credit names) → incoming_in (opening credit names) (left_of (opening_group names) x - 1) ≡ fresh_incoming credit.initial credit.more (left_of (opening_group names) x) 1
  in_is x a b =
      let s : ℕ = left_of (opening_group names) x - 1 in
      ap (λ (k : Link). record { from = k.sender; opened = k.opened; counted = k.flow.receiver }) (link_is s (current_lt x a b))
      ∙ ap (λ i. fresh_incoming credit.initial credit.more i 1) (left_some x a b)

  held_first : (x : ℕ) → 1 ≤ x → x < size (opening credit names) → held_in (opening credit names) x ≡ founded credit (slice_index_or ([] ∷ names) x []) x (opening_group names)
  held_first x a b =
      held_is (opening credit names) x (opening_member names x) (map (λ (_ : ℕ). no_kept) places) (Some (fresh_outgoing credit.initial credit.more (right_of (opening_group names) x) 1)) (Some (fresh_incoming credit.initial credit.more (left_of (opening_group names) x) 1)) []
      (first_member credit names x a b) (known_are x) (ap Some (out_is x a b)) (ap Some (in_is x a b)) (ap (map (incoming_in (opening credit names))) (no_door x a b))

  -- the pair of rings from which a member takes is that on which its left neighbour sends
  left_is_before : (x : ℕ) → 1 ≤ x → x < size (opening credit names) → left_of (opening_group names) x ≡ cond (nat_eq x 1) (length names) (x - 1)
  left_is_before x a b =
      let lt : x < 1 + length names = omega (arith, b, first_size credit names) in
      let there : is_in x (ids (opening_group names)) ≡ true = ap (is_in x) (opening_ids 1 names) ∙ in_range 1 (length names) x a lt in
      left_of_entry (opening_group names).entries x there
      ∙ ap (left_in (is_live (opening_group names)) x) (opening_ids 1 names)
      ∙ left_range (is_live (opening_group names)) (length names) x a lt (λ q i m. opening_lives 1 names q (in_range 1 (length names) q i m))

  left_ring : (x : ℕ) → 1 ≤ x → x < size (opening credit names) → rings (left_of (opening_group names) x) ≡ rings (x - 1)
  left_ring x a b = ap rings (left_is_before x a b) ∙ by_test (nat_eq x 1) refl
    where
      by_test : (b : Bool) → nat_eq x 1 ≡ b → rings (cond b (length names) (x - 1)) ≡ rings (x - 1)
      by_test true e = pairs.closed ∙ ap rings (let is : x ≡ 1 = nat_eq-is x 1 e in let none : 0 ≡ x - 1 = omega (arith, is) in none)
      by_test false e = refl

  taken_ring : (x : ℕ) → 1 ≤ x → x < size (opening credit names) → rings (left_of (opening_group names) x - 1 + 1) ≡ rings (x - 1)
  taken_ring x a b = ap rings (left_some x a b) ∙ left_ring x a b

  -- the ends of its links, by their places
  abbrev first_places : Places
  first_places = record { outs = λ s. fresh_out (rings (s + 1)) credit.initial; ins = λ s. fresh_in (rings (s + 1)) credit.initial; deposits = [] }

  node_is : (x : ℕ) → 1 ≤ x → x < size (opening credit names) → node_at (opened_parties rings credit names) (x - 1) ≡ opened_at rings credit names (x - 1)
  node_is x a b = get_or-map-range_with_len (opened_at rings credit names) 0 (length names) (x - 1) (x - 1) no_shown (omega (arith, a, b, first_size credit names)) (omega arith)

  name_at : (x : ℕ) → 1 ≤ x → slice_index_or names (x - 1) [] ≡ slice_index_or ([] ∷ names) x []
  name_at zero a = absurd (omega arith)
  name_at (suc k) a = ap (λ i. slice_index_or names i []) (omega arith)

  member_stands : (x : ℕ) → 1 ≤ x → x < size (opening credit names) → MemberStands (opening credit names) first_places x (node_at (opened_parties rings credit names) (x - 1))
  member_stands x a b = subst (MemberStands (opening credit names) first_places x) (sym (node_is x a b)) (record {
    door = [];
    comes = no_door x a b;
    held = ap (λ i. founded credit (slice_index_or names (x - 1) []) i (opening_group names)) (omega (arith, a))
        ∙ ap (λ name. founded credit name x (opening_group names)) (name_at x a)
        ∙ ap (λ (h : Held). record h { door = [] }) (sym (held_first x a b));
    out = sym (ap (λ (m : Member). option_map (λ (s : ℕ). fresh_out (rings (s + 1)) credit.initial) m.out) (first_member credit names x a b));
    returned = refl;
    link = ap (λ r. Some (fresh_in r credit.initial)) (sym (taken_ring x a b)) ∙ sym (ap (λ (m : Member). option_map (λ (s : ℕ). fresh_in (rings (s + 1)) credit.initial) m.current) (first_member credit names x a b));
    ends = refl;
    old_outs = refl;
    old_ins = refl;
  })

  carries_first : (s : ℕ) → s < length (opening credit names).links → Carries (opening credit names) credit.initial (link_at (opening credit names) s) (fresh_out (rings (s + 1)) credit.initial) (fresh_in (rings (s + 1)) credit.initial)
  carries_first s l = subst (λ k. Carries (opening credit names) credit.initial k (fresh_out (rings (s + 1)) credit.initial) (fresh_in (rings (s + 1)) credit.initial)) (sym (link_is s l))
      (opened_carries (rings (s + 1)) credit.initial (opening credit names) (opening_link credit names (s + 1)) [] (credit.initial + 1) (pairs.wide (s + 1)) refl refl refl)

  met_first : (b : Bool) (r : PairName) → HaveDone b (fresh_out r credit.initial) (fresh_in r credit.initial)
  met_first true r = record { items = refl; grants = refl; free = omega arith; room = omega arith }
  met_first false r = record { items = refl; room = omega arith }

  -- no message has come round
  round_none : (x : ℕ) → 1 ≤ x → x < size (opening credit names) → round_of (opening credit names) x ≡ 0
  round_none x a b =
      let r = right_row (opening credit names) x x fit in
      let own = fit.own x in
      let none : length (log_of (opening credit names) x) ≡ 0 = ap (λ (m : Member). length m.log) (first_member credit names x a b) in
      omega (arith, r.forgot, own, none)

  -- what its parties keep is what their members have there
  pub opened_keeps : (ks : List Keeps) → ks ≡ map (λ (k : ℕ). no_keeps) (range_with_len 0 (length names)) → KeepsStand (opening credit names) ks
  opened_keeps ks is = subst (KeepsStand (opening credit names)) (sym is) (record {
    count = omega (arith, length-map-range_with_len (λ (k : ℕ). no_keeps) 0 (length names), first_size credit names);
    each = λ x a b.
        get_or-map-range_with_len (λ (k : ℕ). no_keeps) 0 (length names) (x - 1) (x - 1) no_keeps (omega (arith, a, b, first_size credit names)) (omega arith)
        ∙ ap (λ n. record no_keeps { book = book_in n [] }) (sym (round_none x a b))
        ∙ ap (λ (m : Member). record { mirror = m.mirror; started = m.started; told = m.told; book = book_in (round_of (opening credit names) x) (map kind_of_message m.log) }) (sym (first_member credit names x a b));
  })

  pub opened_stand : StandAfter credit names [] (opened_parties rings credit names)
  opened_stand = record {
    journal = record { are = are; run = tt; few = omega arith };
    stand = record {
      places = first_places;
      stand = record {
        count = omega (arith, length-map-range_with_len (opened_at rings credit names) 0 (length names), first_size credit names);
        each = member_stands;
        views = refl;
        stopped = λ x a b. sym (ap (λ (m : Member). is_stopped m.phase) (first_member credit names x a b));
        nobody_else = λ x _. refl;
        deposits = refl;
        within = λ s i. absurd (false≢true i);
        carry = λ s l _. carries_first s l;
      };
      met = λ s l _. met_first (has_out (opening credit names) s) (rings (s + 1));
      known = λ s l _ _. sym (carries_first s l).grants;
    };
  }

-- each member has an entry in the view of the opening
pub opened_stands : (names : List (List ℕ)) (k : ℕ) → k < length names → is_in (k + 1) (ids (opening_group names)) ≡ true
opened_stands names k l = ap (is_in (k + 1)) (opening_ids 1 names) ∙ in_range 1 (length names) (k + 1) (omega arith) (omega arith)
