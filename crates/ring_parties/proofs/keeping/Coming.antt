-- How many messages a packet brings: no more than its lines have.
use Rattle.std.proofs.Common.{◌≡◌, ◌≢◌, ℕ, zero, suc, ◌+◌, ◌-◌, ◌<◌, ◌≤◌, max, Bool, true, false, cond, nat_eq, List, [], ◌∷◌, ◌++◌, length, map, sum_by, Option, Some, None, refl, sym, ap, ◌∙◌, ⊎_elim, arith}
use Rattle.std.specs.List.{range_with_len}
use Rattle.std.specs.Option.{option_map_or}
use Rattle.std.proofs.lemmas.Bool.{cases_eq}
use Rattle.std.proofs.lemmas.List.{length-append}
use Rattle.std.proofs.lemmas.List.FromFn.{length-map-range_with_len, sum_by-map-range_with_len_more}
use Rattle.std.proofs.lemmas.List.Sums.{sum-map, sum_by-cons}
use Rattle.activity.specs.Kept.{Kept, got_of}
use Rattle.activity.specs.Packets.{LineSeen, line_of, got_in}
use Rattle.activity.specs.Plan.{change_in, fits}
use Rattle.ring_rules.specs.Machine.{is_waiting}
use Rattle.ring_rules.proofs.rings.Rounds.{nat_eq-not}
use Rattle.gm_member.specs.Packets.{PacketById, places, known_at, line_at}
use Rattle.gm_member.specs.News.{taken_at, taken_between, change_news, line_news, news_below, news_of}
use Rattle.gm_member.specs.Held.{Held, Incoming, at_some, owns}
use Rattle.gm_member.proofs.Places.{map-range_same, tabled_at}
use Rattle.ring_parties.specs.Keeps.{messages_on}

-- ---- one line

-- how many messages a line has, or none
abbrev many : Option LineSeen → ℕ
many o = at_some o 0 (λ (l : LineSeen). length l.messages)

-- what a change brings are messages of its line
change_few : (own : Bool) (p : ℕ) (k : Kept) (c : LineSeen) → length (change_news p c (change_in own k c)) ≤ length c.messages
change_few true p k c = omega arith
change_few false p k c =
    let between : length (taken_between p c.lo c.messages (max c.lo (got_of k)) (got_in c)) ≡ got_in c - max c.lo (got_of k) =
    length-map-range_with_len (taken_at p c.lo c.messages) (max c.lo (got_of k)) (got_in c - max c.lo (got_of k)) in
    omega (arith, between)

-- and so is what a line brings, whether it is used or not
line_few : (own : Bool) (p : ℕ) (k : Kept) (c : Option LineSeen) → length (line_news own p k c) ≤ many c
line_few own p k None = omega arith
line_few own p k (Some c) = by_use (fits own k c)
  where
    by_use : (b : Bool) → length (option_map_or (change_news p c) (cond b (Some (change_in own k c)) None) []) ≤ length c.messages
    by_use true = change_few own p k c
    by_use false = omega arith

-- ---- sums over places

-- the sum over one place more
sum_more : (f : ℕ → ℕ) (n : ℕ) → sum_by f (range_with_len 0 (suc n)) ≡ sum_by f (range_with_len 0 n) + f n
sum_more f n =
    let one : suc n ≡ n + 1 = omega arith in
    ap (λ k. sum_by f (range_with_len 0 k)) one
    ∙ sym (sum-map f (range_with_len 0 (n + 1))) ∙ sum_by-map-range_with_len_more (λ (k : ℕ). k) f 0 n n (omega arith)
    ∙ ap (λ m. m + f n) (sum-map f (range_with_len 0 n))

-- sums of the same numbers
sum_same : (f g : ℕ → ℕ) (n : ℕ) → ((p : ℕ) → p < n → f p ≡ g p) → sum_by f (range_with_len 0 n) ≡ sum_by g (range_with_len 0 n)
sum_same f g n h =
    sym (sum-map f (range_with_len 0 n)) ∙ ap (λ ms. sum_by (λ (k : ℕ). k) ms) (map-range_same f g n h) ∙ sum-map g (range_with_len 0 n)

-- a sum of nothing
sum_nothing : (ps : List ℕ) → sum_by (λ (p : ℕ). 0) ps ≡ 0
sum_nothing [] = refl
sum_nothing (p ∷ ps) = sum_nothing ps

-- ---- what a packet brings

-- of the origins at the places below a number
below_few : (n : ℕ) (own : ℕ → Bool) (known : List Kept) (lines : List (Option LineSeen)) → length (news_below n own known lines) ≤ sum_by (λ p. many (line_at lines p)) (range_with_len 0 n)
below_few zero own known lines = omega arith
below_few (suc p) own known lines =
    let more : sum_by (λ q. many (line_at lines q)) (range_with_len 0 (suc p)) ≡ sum_by (λ q. many (line_at lines q)) (range_with_len 0 p) + many (line_at lines p) = sum_more (λ q. many (line_at lines q)) p in
    let joined : length (news_below p own known lines ++ line_news (own p) p (known_at known p) (line_at lines p)) ≡ length (news_below p own known lines) + length (line_news (own p) p (known_at known p) (line_at lines p)) =
    length-append (news_below p own known lines) (line_news (own p) p (known_at known p) (line_at lines p)) in
    omega (arith, more, joined, below_few p own known lines, line_few (own p) p (known_at known p) (line_at lines p))

-- a packet brings a member no more messages than its lines have
pub news_few : (h : Held) (k : PacketById) → length (news_of h k) ≤ messages_on k.lines
unfolding places
news_few h k = by_current h.current
  where
    by_phase : (b : Bool) (c : Incoming) → length (cond b [] (news_below 64 (owns h c.from) h.known k.lines)) ≤ messages_on k.lines
    by_phase true c = omega arith
    by_phase false c = below_few 64 (owns h c.from) h.known k.lines

    by_current : (c : Option Incoming) → length (at_some c [] (λ a. cond (is_waiting h.phase) [] (news_below 64 (owns h a.from) h.known k.lines))) ≤ messages_on k.lines
    by_current None = omega arith
    by_current (Some c) = by_phase (is_waiting h.phase) c

-- ---- the lines by the places of their origins

-- where the numbers at one place alone are more, and by no more than n, a sum is no more than n more
sum_grown : (q n : ℕ) (f g : ℕ → ℕ) (m : ℕ) → ((p : ℕ) → f p ≤ n + g p) → ((p : ℕ) → p + 1 ≢ q → f p ≤ g p)
    → (m < q → sum_by f (range_with_len 0 m) ≤ sum_by g (range_with_len 0 m)) × (sum_by f (range_with_len 0 m) ≤ n + sum_by g (range_with_len 0 m))
sum_grown q n f g zero here other = (λ _. omega arith, omega arith)
sum_grown q n f g (suc m) here other =
    let before = sum_grown q n f g m here other in
    let fs : sum_by f (range_with_len 0 (suc m)) ≡ sum_by f (range_with_len 0 m) + f m = sum_more f m in
    let gs : sum_by g (range_with_len 0 (suc m)) ≡ sum_by g (range_with_len 0 m) + g m = sum_more g m in (
      λ lt. omega (arith, fs, gs, before.0 (omega arith), other m (λ (e : m + 1 ≡ q). omega arith)),
      ⊎_elim
          (λ (e : m + 1 ≡ q). omega (arith, fs, gs, before.0 (omega arith), here m))
          (λ (ne : m + 1 ≢ q). omega (arith, fs, gs, before.1, other m ne))
          (cases_eq (m + 1) q),
    )

-- the lines of a packet, each at the place of its origin, have no more messages than all that it has
places_few : (ls : List LineSeen) → sum_by (λ p. many (line_of ls (p + 1))) (range_with_len 0 64) ≤ sum_by (λ (l : LineSeen). length l.messages) ls
places_few [] = let none : sum_by (λ (p : ℕ). 0) (range_with_len 0 64) ≡ 0 = sum_nothing (range_with_len 0 64) in omega (arith, none)
places_few (l ∷ ls) =
    let all : sum_by (λ (c : LineSeen). length c.messages) (l ∷ ls) ≡ length l.messages + sum_by (λ (c : LineSeen). length c.messages) ls = sum_by-cons (λ (c : LineSeen). length c.messages) l ls in
    let grown : sum_by (λ p. many (line_of (l ∷ ls) (p + 1))) (range_with_len 0 64) ≤ length l.messages + sum_by (λ p. many (line_of ls (p + 1))) (range_with_len 0 64) =
    (sum_grown l.origin.0 (length l.messages) (λ p. many (line_of (l ∷ ls) (p + 1))) (λ p. many (line_of ls (p + 1))) 64 here other).1 in
    omega (arith, all, grown, places_few ls)
  where
    here : (p : ℕ) → many (line_of (l ∷ ls) (p + 1)) ≤ length l.messages + many (line_of ls (p + 1))
    here p = by_origin (nat_eq (p + 1) l.origin.0)
      where
        by_origin : (b : Bool) → many (cond b (Some l) (line_of ls (p + 1))) ≤ length l.messages + many (line_of ls (p + 1))
        by_origin true = omega arith
        by_origin false = omega arith

    other : (p : ℕ) → p + 1 ≢ l.origin.0 → many (line_of (l ∷ ls) (p + 1)) ≤ many (line_of ls (p + 1))
    other p ne = let same : many (line_of (l ∷ ls) (p + 1)) ≡ many (line_of ls (p + 1)) = ap (λ b. many (cond b (Some l) (line_of ls (p + 1)))) (nat_eq-not (p + 1) l.origin.0 ne) in omega (arith, same)

-- so do those of the packet that is made of its lines
pub lines_few : (ls : List LineSeen) → messages_on (map (λ p. line_of ls (p + 1)) places) ≤ sum_by (λ (l : LineSeen). length l.messages) ls
unfolding places
lines_few ls =
    let same : sum_by (λ p. many (line_at (map (λ q. line_of ls (q + 1)) (range_with_len 0 64)) p)) (range_with_len 0 64) ≡ sum_by (λ p. many (line_of ls (p + 1))) (range_with_len 0 64) =
    sum_same (λ p. many (line_at (map (λ q. line_of ls (q + 1)) (range_with_len 0 64)) p)) (λ p. many (line_of ls (p + 1))) 64 (λ p l. ap many (tabled_at (λ q. line_of ls (q + 1)) 64 p None l)) in
    omega (arith, same, places_few ls)
