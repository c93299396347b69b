-- The first word of a text, and the words behind it.
use Rattle.std.proofs.Common.{◌≡◌, ℕ, suc, ◌+◌, ◌-◌, ◌<◌, ◌≤◌, ◌⊎◌, inl, inr, ◌↔◌, Bool, true, false, not, nat_le, List, [], ◌∷◌, length, get_or, take, drop, refl, sym, ap, ◌∙◌, arith, length-drop}
use Rattle.std.specs.List.{filter, prefix_len, before_first, after_first, slice_split, slice_range}
use Rattle.std.proofs.lemmas.Bool.{and_parts, both_ways}
use Rattle.std.proofs.lemmas.Bool.Decides.{leb_tells, nat_tests}
use Rattle.std.proofs.lemmas.List.{take_all, drop_all, drop_more, drop-drop, get_or-drop}
use Rattle.std.proofs.lemmas.List.Sums.{list_all-from_AllPass, prefix_len-le-length, prefix_len_is, prefix_len_passes, prefix_len_stops, fails_before_first, passes_at_first}
use Rattle.std.proofs.lemmas.List.Elements.{All-from_get_or}
use Rattle.std.proofs.lemmas.List.Folds.{length-prefix_len, list_all_at}
use Rattle.std.proofs.lemmas.List.Splits.{slice_split_none, slice_split_first}
use Rattle.ring_script.specs.Words.{is_space, is_inner, is_blank, has_byte, words_of, from_word, first_word, behind_word, IsNextWord}

-- ---- a space in front

-- a space in front belongs to no word
words_of_space : (b : ℕ) (bs : List ℕ) → is_space b ≡ true → words_of (b ∷ bs) ≡ words_of bs
words_of_space b bs e = rw e

-- the first word stands behind it
from_word_space : (b : ℕ) (bs : List ℕ) → is_space b ≡ true → from_word (b ∷ bs) ≡ from_word bs
from_word_space b bs e = let one : 1 + prefix_len is_space bs ≡ suc (prefix_len is_space bs) = omega arith in rw (e, one)

-- ---- a text that begins with a word

-- the front part has a byte, so it is a word
front_word : (part : List ℕ) (parts : List (List ℕ)) → 0 < length part → filter has_byte (part ∷ parts) ≡ part ∷ filter has_byte parts
front_word part parts h = let e : has_byte part ≡ true = grind (arith, nat_tests) in rw e

-- the word ends at a space
word_to_space : (text : List ℕ) (n : ℕ) → n ≡ prefix_len is_inner text → 0 < n → n < length text
    → words_of text ≡ take n text ∷ words_of (drop n text)
word_to_space text n e some within =
    let stop : is_space (get_or text n 0) ≡ true = rw e (passes_at_first is_space text 0 (omega arith)) in
    let long : 0 < length (take (prefix_len is_inner text) text) = omega (arith, length-prefix_len is_inner text) in
    ap (filter has_byte) (slice_split_first is_space text 0 (omega arith))
    ∙ front_word (before_first is_space text) (slice_split is_space (after_first is_space text)) long
    ∙ ap (λ k. take k text ∷ words_of (drop (k + 1) text)) (sym e)
    ∙ ap (λ rest. take n text ∷ rest) (sym (words_of_space (get_or text n 0) (drop (n + 1) text) stop) ∙ ap words_of (sym (drop_more text n 0 within)))

-- the word ends with the text
word_to_end : (text : List ℕ) (n : ℕ) → n ≡ prefix_len is_inner text → 0 < n → length text ≤ n
    → words_of text ≡ take n text ∷ words_of (drop n text)
word_to_end text n e some past =
    let one : slice_split is_space text ≡ text ∷ [] = slice_split_none is_space text (All-from_get_or (λ x. is_space x ≡ false) text 0 (λ i l. fails_before_first is_space text i 0 (omega arith))) in
    let long : 0 < length text = omega (arith, prefix_len-le-length is_inner text) in
    ap (filter has_byte) one ∙ front_word text [] long
    ∙ ap (λ front. front ∷ []) (sym (take_all n text past))
    ∙ ap (λ rest. take n text ∷ words_of rest) (sym (drop_all n text past))

-- either way
word_in_front_by : (text : List ℕ) (n : ℕ) → n ≡ prefix_len is_inner text → 0 < n
    → ((nat_le (length text) n ≡ true) × (length text ≤ n)) ⊎ ((nat_le (length text) n ≡ false) × (n < length text))
    → words_of text ≡ take n text ∷ words_of (drop n text)
word_in_front_by text n e some (inl past) = word_to_end text n e some past.1
word_in_front_by text n e some (inr within) = word_to_space text n e some within.1

-- a text that begins with a word is that word and the words behind it
word_in_front : (text : List ℕ) (n : ℕ) → n ≡ prefix_len is_inner text → 0 < n → words_of text ≡ take n text ∷ words_of (drop n text)
word_in_front text n e some = word_in_front_by text n e some (leb_tells (length text) n)

-- ---- any text

-- the first byte is a space, or the first word begins with it
first_by : (b : ℕ) (bs : List ℕ) (t : Bool) → is_space b ≡ t
    → (is_blank bs ≡ false → words_of bs ≡ first_word bs ∷ words_of (behind_word bs))
    → is_blank (b ∷ bs) ≡ false → words_of (b ∷ bs) ≡ first_word (b ∷ bs) ∷ words_of (behind_word (b ∷ bs))
first_by b bs true e h some =
    words_of_space b bs e ∙ h (rw e at some)
    ∙ ap (λ text. take (prefix_len is_inner text) text ∷ words_of (drop (prefix_len is_inner text) text)) (sym (from_word_space b bs e))
first_by b bs false e h some =
    let same : from_word (b ∷ bs) ≡ b ∷ bs = rw e in
    let long : 0 < prefix_len is_inner (b ∷ bs) = rw e (omega arith) in
    word_in_front (b ∷ bs) (prefix_len is_inner (b ∷ bs)) refl long
    ∙ ap (λ text. take (prefix_len is_inner text) text ∷ words_of (drop (prefix_len is_inner text) text)) (sym same)

-- a text with a byte beside spaces has a first word, and the words behind it
pub words_of_first : (text : List ℕ) → is_blank text ≡ false → words_of text ≡ first_word text ∷ words_of (behind_word text)
words_of_first [] some = cc
words_of_first (b ∷ bs) some = first_by b bs _ refl (words_of_first bs) some

-- a text of spaces has no word
pub words_of_blank : (text : List ℕ) → is_blank text ≡ true → words_of text ≡ []
words_of_blank [] blank = refl
words_of_blank (b ∷ bs) blank =
    let parts = and_parts (is_space b) (is_blank bs) blank in
    words_of_space b bs parts.0 ∙ words_of_blank bs parts.1

-- a text that is not blank has a word
blank_by : (text : List ℕ) (t : Bool) → is_blank text ≡ t → words_of text ≡ [] → t ≡ true
blank_by text true e none = refl
blank_by text false e none = let first = words_of_first text e in cc

-- a text has no word just where it has no byte beside spaces
pub blank_iff : (text : List ℕ) → (is_blank text ≡ true) ↔ (words_of text ≡ [])
blank_iff text = (words_of_blank text, blank_by text _ refl)

-- ---- the words of a line, from a place on

-- where a run from a place on passes a test
passes_at : (p : ℕ → Bool) (line : List ℕ) (at k : ℕ) → at ≤ k → k < at + prefix_len p (drop at line) → p (get_or line k 0) ≡ true
passes_at p line at k a b =
    let e : at + (k - at) ≡ k = omega arith in
    ap p (sym (get_or-drop at line (k - at) 0 ∙ ap (λ i. get_or line i 0) e)) ∙ prefix_len_passes p (drop at line) (k - at) 0 (omega arith)

-- where it ends
stops_at : (p : ℕ → Bool) (line : List ℕ) (at end : ℕ) → end ≡ at + prefix_len p (drop at line) → end < length line → p (get_or line end 0) ≡ false
stops_at p line at end e within =
    ap p (ap (λ i. get_or line i 0) e ∙ sym (get_or-drop at line (prefix_len p (drop at line)) 0))
    ∙ prefix_len_stops p (drop at line) 0 (omega (arith, length-drop at line))

-- it ends within the line
ends_within : (p : ℕ → Bool) (line : List ℕ) (at end : ℕ) → end ≡ at + prefix_len p (drop at line) → at ≤ length line → end ≤ length line
ends_within p line at end e within = omega (arith, prefix_len-le-length p (drop at line), length-drop at line)

-- what is a space passes the test
is_space_at : (line : List ℕ) (k : ℕ) → get_or line k 0 ≡ 32 → is_space (get_or line k 0) ≡ true
is_space_at line k e = grind (arith, nat_tests)

-- and nothing else does
no_space_at : (line : List ℕ) (k : ℕ) → (get_or line k 0 ≡ 32 → ⊥) → is_space (get_or line k 0) ≡ false
no_space_at line k e = grind (arith, nat_tests)

-- a step from one place to a later one
reach : (a b : ℕ) → a ≤ b → a + (b - a) ≡ b
reach a b l = omega arith

-- what is left from a place on, cut as a slice is
left_from : (line : List ℕ) (at : ℕ) → take (length line - at) (drop at line) ≡ drop at line
left_from line at = take_all (length line - at) (drop at line) (omega (arith, length-drop at line))

-- from a place in a line on stands a run of spaces, and behind it one of bytes of a word
pub record AreRuns (line : List ℕ) (at start end : ℕ) : Type 0 where
  placed : at ≤ length line
  spaces : start ≡ at + prefix_len is_space (drop at line)
  inner : end ≡ start + prefix_len is_inner (drop start line)

-- runs of slices
pub AreRuns-from : (line : List ℕ) (at spaces inner : ℕ) → at ≤ length line
    → spaces ≡ prefix_len is_space (take (length line - at) (drop at line))
    → inner ≡ prefix_len is_inner (take (length line - (at + spaces)) (drop (at + spaces) line))
    → AreRuns line at (at + spaces) (at + spaces + inner)
AreRuns-from line at spaces inner placed a b = record {
  placed = placed;
  spaces = ap (λ k. at + k) (a ∙ ap (prefix_len is_space) (left_from line at));
  inner = ap (λ k. at + spaces + k) (b ∙ ap (prefix_len is_inner) (left_from line (at + spaces)));
}

-- the spaces end within the line
start_within : {line : List ℕ} {at start end : ℕ} → AreRuns line at start end → start ≤ length line
start_within {line} {at} {start} r = ends_within is_space line at start r.spaces r.placed

-- the next word, where its run has a byte
pub IsNextWord-from : {line : List ℕ} {at start end : ℕ} → AreRuns line at start end → start < end → IsNextWord line at start end
IsNextWord-from {line} {at} {start} {end} r some =
    let within : start ≤ length line = start_within r in
    record {
      behind = omega arith;
      some = some;
      within = ends_within is_inner line start end r.inner within;
      spaces = λ k l h. (let e : is_space (get_or line k 0) ≡ true = passes_at is_space line at k l (omega arith) in grind (arith, nat_tests));
      inner = λ k l h s. (let e : is_inner (get_or line k 0) ≡ true = passes_at is_inner line start k l (omega arith) in grind (arith, nat_tests));
      ends = λ l. (let e : is_inner (get_or line end 0) ≡ false = stops_at is_inner line start end r.inner l in grind (arith, nat_tests));
    }

-- the byte at such an end would be a space and none
line_ends_by : (line : List ℕ) (at start end : ℕ) → AreRuns line at start end → start ≤ length line → end ≡ start
    → ((nat_le (length line) end ≡ true) × (length line ≤ end)) ⊎ ((nat_le (length line) end ≡ false) × (end < length line))
    → end ≡ length line
line_ends_by line at start end r within same (inl past) = omega (arith, past.1)
line_ends_by line at start end r within same (inr more) =
    let space : is_space (get_or line start 0) ≡ false = stops_at is_space line at start r.spaces (omega (arith, more.1)) in
    let inner : is_inner (get_or line end 0) ≡ false = stops_at is_inner line start end r.inner more.1 in
    let inner_start : is_inner (get_or line start 0) ≡ false = ap (λ k. is_inner (get_or line k 0)) (sym same) ∙ inner in
    absurd (both_ways _ inner_start (ap not space))

-- where its run has none, the line is read to its end
pub line_ends : {line : List ℕ} {at start end : ℕ} → AreRuns line at start end → end ≤ start → end ≡ length line
line_ends {line} {at} {start} {end} r none =
    let inner : end ≡ start + prefix_len is_inner (drop start line) = r.inner in
    line_ends_by line at start end r (start_within r) (omega arith) (leb_tells (length line) end)

-- and no word is left
pub no_word_left : {line : List ℕ} {at start end : ℕ} → AreRuns line at start end → end ≤ start → words_of (drop at line) ≡ []
no_word_left {line} {at} {start} {end} r none =
    let ended : end ≡ length line = line_ends r none in
    let within : start ≤ length line = start_within r in
    let spaces : start ≡ at + prefix_len is_space (drop at line) = r.spaces in
    words_of_blank (drop at line)
    (list_all-from_AllPass is_space (drop at line)
    (All-from_get_or (λ x. is_space x ≡ true) (drop at line) 0
    (λ i l. prefix_len_passes is_space (drop at line) i 0 (omega (arith, length-drop at line)))))

-- the runs are told by the word
pub AreRuns-from_word : {line : List ℕ} {at start end : ℕ} → IsNextWord line at start end → AreRuns line at start end
AreRuns-from_word {line} {at} {start} {end} word =
    let placed : at ≤ start = word.behind in
    let some : start < end = word.some in
    let within : end ≤ length line = word.within in
    let spaces : prefix_len is_space (drop at line) ≡ start - at =
    prefix_len_is is_space (drop at line) (start - at) 0 (omega (arith, length-drop at line))
    (λ k l. ap is_space (get_or-drop at line k 0) ∙ is_space_at line (at + k) (word.spaces (at + k) (omega arith) (omega arith)))
    (λ l. ap is_space (get_or-drop at line (start - at) 0) ∙ no_space_at line (at + (start - at)) (word.inner (at + (start - at)) (omega arith) (omega arith)))
    in
    let inner : prefix_len is_inner (drop start line) ≡ end - start =
    prefix_len_is is_inner (drop start line) (end - start) 0 (omega (arith, length-drop start line))
    (λ k l. ap is_inner (get_or-drop start line k 0) ∙ ap not (no_space_at line (start + k) (word.inner (start + k) (omega arith) (omega arith))))
    (λ l. ap is_inner (get_or-drop start line (end - start) 0 ∙ ap (λ k. get_or line k 0) (reach start end (omega arith))) ∙ ap not (is_space_at line end (word.ends (omega (arith, length-drop start line)))))
    in
    record { placed = omega arith; spaces = omega arith; inner = omega arith }

-- what is left behind the spaces
from_word_at : {line : List ℕ} {at start end : ℕ} → AreRuns line at start end → from_word (drop at line) ≡ drop start line
from_word_at {line} {at} {start} r = drop-drop (prefix_len is_space (drop at line)) at line ∙ ap (λ k. drop k line) (sym r.spaces)

-- the next word of a line is the first of what is left of it
pub first_word_at : {line : List ℕ} {at start end : ℕ} → IsNextWord line at start end → first_word (drop at line) ≡ slice_range line start end
first_word_at {line} {at} {start} {end} word =
    let r = AreRuns-from_word word in
    let long : prefix_len is_inner (drop start line) ≡ end - start = omega (arith, r.inner) in
    ap (λ text. take (prefix_len is_inner text) text) (from_word_at r) ∙ ap (λ k. take k (drop start line)) long

-- and behind it is what is left then
pub behind_word_at : {line : List ℕ} {at start end : ℕ} → IsNextWord line at start end → behind_word (drop at line) ≡ drop end line
behind_word_at {line} {at} {start} {end} word =
    let r = AreRuns-from_word word in
    ap (λ text. drop (prefix_len is_inner text) text) (from_word_at r)
    ∙ drop-drop (prefix_len is_inner (drop start line)) start line ∙ ap (λ k. drop k line) (sym r.inner)

-- a line with a next word is not blank from there on
some_at : {line : List ℕ} {at start end : ℕ} → IsNextWord line at start end → is_blank (drop at line) ≡ false
some_at {line} {at} {start} {end} word =
    let placed : at ≤ start = word.behind in
    let some : start < end = word.some in
    let within : end ≤ length line = word.within in
    list_all_at is_space (drop at line) (start - at) 0 (omega (arith, length-drop at line))
    (ap is_space (get_or-drop at line (start - at) 0) ∙ no_space_at line (at + (start - at)) (word.inner (at + (start - at)) (omega arith) (omega arith)))

-- the next word, and the words that are left then
pub words_of_next : {line : List ℕ} {at start end : ℕ} → IsNextWord line at start end → words_of (drop at line) ≡ slice_range line start end ∷ words_of (drop end line)
words_of_next {line} {at} {start} {end} word =
    words_of_first (drop at line) (some_at word)
    ∙ ap (λ first. first ∷ words_of (behind_word (drop at line))) (first_word_at word)
    ∙ ap (λ rest. slice_range line start end ∷ words_of rest) (behind_word_at word)

-- behind the spaces of a text of spaces stands nothing
from_word_blank : (text : List ℕ) → is_blank text ≡ true → from_word text ≡ []
from_word_blank [] blank = refl
from_word_blank (b ∷ bs) blank =
    let parts = and_parts (is_space b) (is_blank bs) blank in
    from_word_space b bs parts.0 ∙ from_word_blank bs parts.1

-- where no word is left, nothing stands behind it
pub behind_none : (text : List ℕ) → words_of text ≡ [] → behind_word text ≡ []
behind_none text none = ap (λ t. drop (prefix_len is_inner t) t) (from_word_blank text ((blank_iff text).1 none))

-- nor is there a word in front
pub first_none : (text : List ℕ) → words_of text ≡ [] → first_word text ≡ []
first_none text none = ap (λ t. take (prefix_len is_inner t) t) (from_word_blank text ((blank_iff text).1 none))
