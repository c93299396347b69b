-- The first line of a text, cut at its line feed.
use Rattle.std.proofs.Common.{◌≡◌, ℕ, suc, ◌+◌, ◌-◌, ◌<◌, ◌≤◌, Bool, true, false, ◌==◌, cond, not, nat_lt, List, [], ◌∷◌, Option, Some, None, length, take, drop, refl, sym, ap, ◌∙◌, arith, length-drop}
use Rattle.std.specs.List.{position, position_or_len, before_first, after_first}
use Rattle.std.proofs.lemmas.Bool.Decides.{nat_tests}
use Rattle.std.proofs.lemmas.Grind.{common_steps}
use Rattle.std.proofs.lemmas.List.{take_all, drop_all}
use Rattle.std.proofs.lemmas.Bool.{false_from_ne_true}
use Rattle.std.proofs.lemmas.List.Sums.{prefix_len-le-length, position_or_len_is}
use Rattle.memchr.specs.Find.{IsFirstByte, is_byte}
use Rattle.ring_script.specs.Words.{lines_of}

-- a line feed
abbrev pub is_feed : ℕ → Bool
is_feed b = b == 10

found_by : (a n k : ℕ) (b : Bool) → nat_lt a n ≡ b → cond b (Some a) None ≡ Some k → (a ≡ k) × (k < n)
found_by a n k true e f = let same : a ≡ k = cc in (same, grind (arith, nat_tests))
found_by a n k false e f = cc

missed_by : (a n : ℕ) (b : Bool) → nat_lt a n ≡ b → cond b (Some a) None ≡ None → n ≤ a
missed_by a n true e f = cc
missed_by a n false e f = grind (arith, nat_tests)

placed_by : (a n k : ℕ) (b : Bool) → nat_lt a n ≡ b → a ≡ k → k < n → Some k ≡ cond b (Some a) None
placed_by a n k true e same l = ap Some (sym same)
placed_by a n k false e same l = absurd (grind (arith, nat_tests))

unplaced_by : (a n : ℕ) (b : Bool) → nat_lt a n ≡ b → a ≡ n → None ≡ cond b (Some a) None
unplaced_by a n true e same = absurd (grind (arith, nat_tests))
unplaced_by a n false e same = refl

-- what a search for a line feed answers is its first place
pub feed_searched : (bs : List ℕ) (r : Option ℕ) → IsFirstByte (is_byte 10) bs r → r ≡ position (λ b. b == 10) bs
feed_searched bs None none =
    let end : position_or_len is_feed bs ≡ length bs = position_or_len_is is_feed bs (length bs) 0 (omega arith) (λ k l. false_from_ne_true _ (none k (omega arith) l)) (λ l. absurd (omega arith)) in
    unplaced_by (position_or_len is_feed bs) (length bs) _ refl end
feed_searched bs (Some k) found =
    let within : k < length bs = found.0.high in
    let first : position_or_len is_feed bs ≡ k = position_or_len_is is_feed bs k 0 (omega arith) (λ j l. false_from_ne_true _ (found.0.before j (omega arith) l)) (λ l. found.1) in
    placed_by (position_or_len is_feed bs) (length bs) k _ refl first within

-- a place that is found is the first
pub position_found : {X : Type 0} (p : X → Bool) (xs : List X) (k : ℕ) → position p xs ≡ Some k → (position_or_len p xs ≡ k) × (k < length xs)
position_found p xs k e = found_by (position_or_len p xs) (length xs) k _ refl e

-- where none is found, the first stands past the end
pub position_missed : {X : Type 0} (p : X → Bool) (xs : List X) → position p xs ≡ None → position_or_len p xs ≡ length xs
position_missed p xs e =
    let past : length xs ≤ position_or_len p xs = missed_by (position_or_len p xs) (length xs) _ refl e in
    let within : position_or_len p xs ≤ length xs = prefix_len-le-length (λ x. not (p x)) xs in
    omega arith

take_further : (n b : ℕ) (bs : List ℕ) → take (1 + n) (b ∷ bs) ≡ b ∷ take n bs
take_further n b bs = let e : 1 + n ≡ suc n = omega arith in rw e

drop_further : (n b : ℕ) (bs : List ℕ) → drop (1 + n + 1) (b ∷ bs) ≡ drop (n + 1) bs
drop_further n b bs = let e : 1 + n + 1 ≡ suc (n + 1) = omega arith in rw e

lines_of_step : (b : ℕ) (bs : List ℕ) (t : Bool) → (b == 10) ≡ t → (0 < length bs → lines_of bs ≡ before_first is_feed bs ∷ lines_of (after_first is_feed bs))
    → lines_of (b ∷ bs) ≡ before_first is_feed (b ∷ bs) ∷ lines_of (after_first is_feed (b ∷ bs))
lines_of_step b bs true e h = rw e
lines_of_step b [] false e h = rw e
lines_of_step b (a ∷ bs) false e h =
    rw (e, take_further (position_or_len is_feed (a ∷ bs)) b (a ∷ bs), drop_further (position_or_len is_feed (a ∷ bs)) b (a ∷ bs))
    (rw (h (grind (arith, common_steps))))

-- the first line, and those of the text behind it
pub lines_of_first : (bs : List ℕ) → 0 < length bs → lines_of bs ≡ before_first is_feed bs ∷ lines_of (after_first is_feed bs)
lines_of_first [] l = absurd (omega arith)
lines_of_first (b ∷ bs) l = lines_of_step b bs _ refl (lines_of_first bs)

-- where a line feed is found, the rest cut as a slice is
pub lines_of_found : (bs : List ℕ) (k : ℕ) → 0 < length bs → position (λ b. b == 10) bs ≡ Some k → lines_of bs ≡ take k bs ∷ lines_of (take (length bs - (k + 1)) (drop (k + 1) bs))
lines_of_found bs k l e =
    let rest : take (length bs - (k + 1)) (drop (k + 1) bs) ≡ drop (k + 1) bs = take_all (length bs - (k + 1)) (drop (k + 1) bs) (omega (arith, length-drop (k + 1) bs)) in
    lines_of_first bs l ∙ ap (λ n. take n bs ∷ lines_of (drop (n + 1) bs)) (position_found is_feed bs k e).0 ∙ ap (λ r. take k bs ∷ lines_of r) (sym rest)

-- where none is
pub lines_of_missed : (bs : List ℕ) → 0 < length bs → position (λ b. b == 10) bs ≡ None → lines_of bs ≡ bs ∷ []
lines_of_missed bs l e =
    let end : position_or_len is_feed bs ≡ length bs = position_missed is_feed bs e in
    lines_of_first bs l ∙ ap (λ n. take n bs ∷ lines_of (drop (n + 1) bs)) end
    ∙ ap (λ xs. xs ∷ lines_of (drop (length bs + 1) bs)) (take_all (length bs) bs (omega arith))
    ∙ ap (λ xs. bs ∷ lines_of xs) (drop_all (length bs + 1) bs (omega arith))
