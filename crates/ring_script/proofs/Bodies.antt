-- Bytes of text, and bodies.
use Rattle.std.proofs.Common.{◌≡◌, ℕ, zero, suc, ◌≤◌, true, false, List, [], ◌∷◌, drop, Option, Some, None, length, get_or, refl, sym, ap, subst, ◌∙◌, ◌==◌, if◌then◌else◌, arith}
use Rattle.std.specs.List.{position, list_all, prefix_len, slice_index}
use Rattle.std.proofs.lemmas.Bool.{both_ways, and_parts}
use Rattle.std.proofs.lemmas.Bool.Decides.{nat_tests}
use Rattle.std.proofs.lemmas.List.Folds.{list_all_at}
use Rattle.std.proofs.lemmas.List.Quantifiers.{position-Some}
use Rattle.ring_names.specs.Body.{IsBody, is_bad_body_byte}
use Rattle.ring_script.specs.Words.{is_text_byte, is_space, is_inner, from_word, behind_word, behind_space}

bad_byte : (b : ℕ) → is_bad_body_byte b ≡ true → is_text_byte b ≡ false
bad_byte b e = grind (arith, nat_tests)

not_text : (bytes : List ℕ) (at : ℕ) → position is_bad_body_byte bytes ≡ Some at → list_all is_text_byte bytes ≡ false
not_text bytes at e =
    let first = position-Some is_bad_body_byte bytes at 0 e in
    list_all_at is_text_byte bytes at 0 first.0 (bad_byte (get_or bytes at 0) first.1)

-- no byte of a text is one that no body holds
pub text_has_no_bad : (bytes : List ℕ) (at : ℕ) → list_all is_text_byte bytes ≡ true → position is_bad_body_byte bytes ≡ Some at → ⊥
text_has_no_bad bytes at h e = both_ways _ (not_text bytes at e) h

text_by : (bytes : List ℕ) (o : Option ℕ) → position is_bad_body_byte bytes ≡ o → list_all is_text_byte bytes ≡ true → position is_bad_body_byte bytes ≡ None
text_by bytes None e h = e
text_by bytes (Some at) e h = absurd (text_has_no_bad bytes at h e)

-- a short text is a body
pub IsBody-from : (bytes : List ℕ) → length bytes ≤ 256 → list_all is_text_byte bytes ≡ true → IsBody bytes
IsBody-from bytes short text = record { short = short; text = text_by bytes _ refl text }

-- ---- parts of a text

-- the rest of a text is text
pub rest_text : (n : ℕ) (text : List ℕ) → list_all is_text_byte text ≡ true → list_all is_text_byte (drop n text) ≡ true
rest_text zero text h = h
rest_text (suc n) [] h = h
rest_text (suc n) (b ∷ bs) h = rest_text n bs ((and_parts (is_text_byte b) (list_all is_text_byte bs) h).1)

-- what stands behind a word of it
pub behind_word_text : (text : List ℕ) → list_all is_text_byte text ≡ true → list_all is_text_byte (behind_word text) ≡ true
behind_word_text text h = rest_text (prefix_len is_inner (from_word text)) (from_word text) (rest_text (prefix_len is_space text) text h)

-- and behind a space
pub behind_space_text : (text : List ℕ) → list_all is_text_byte text ≡ true → list_all is_text_byte (behind_space text) ≡ true
behind_space_text text h = rest_text (if slice_index text 0 == 32 then 1 else 0) text h

-- a line's first word begins the line, and what stands behind that word is text where the line is
pub further_text : (whole line further : List ℕ) (at : ℕ) → at ≡ 0 → whole ≡ line → further ≡ behind_word (drop at whole) → list_all is_text_byte line ≡ true → list_all is_text_byte further ≡ true
further_text whole line further at start same behind h =
    let all : drop at whole ≡ line = ap (λ n. drop n whole) start ∙ same in
    let text : list_all is_text_byte (drop at whole) ≡ true = subst (λ t. list_all is_text_byte t ≡ true) (sym all) h in
    subst (λ t. list_all is_text_byte t ≡ true) (sym behind) (behind_word_text (drop at whole) text)

-- and so is the body behind a word of a text
pub body_text : (text further body : List ℕ) → further ≡ behind_word text → body ≡ behind_space further → list_all is_text_byte text ≡ true → list_all is_text_byte body ≡ true
body_text text further body behind is h =
    let left : list_all is_text_byte further ≡ true = subst (λ t. list_all is_text_byte t ≡ true) (sym behind) (behind_word_text text h) in
    subst (λ t. list_all is_text_byte t ≡ true) (sym is) (behind_space_text further left)
