-- What the used lines of a right text have, since it holds of none and each right line keeps it.
use Rattle.std.proofs.Common.{◌≡◌, ℕ, zero, suc, ◌+◌, ◌<◌, ◌≤◌, Bool, true, false, not, nat_lt, List, [], ◌∷◌, ◌++◌, Some, None, length, take, drop, drop-cons, get_or, refl, sym, ap, subst, ◌∙◌, if◌then◌else◌, arith}
use Rattle.std.specs.List.{list_all}
use Rattle.std.proofs.lemmas.List.{append-nil, take_all}
use Rattle.std.proofs.lemmas.List.Elements.{All-nil}
use Rattle.ring_names.specs.Name.{IsName}
use Rattle.ring_script.specs.declared.fault.Kind.TheVariants.{NotText, LineTooLong}
use Rattle.ring_script.specs.declared.line.Head.{Head}
use Rattle.ring_script.specs.declared.line.Head.TheVariants as head
use Rattle.ring_script.specs.Words.{lines_of, words_of, behind_word, is_text_byte}
use Rattle.ring_script.specs.Line.{Grammar, is_skipped, head_in, members_fault, text_fault}
use Rattle.ring_script.specs.Reading.{used_of, members_of, fault_behind, AreRight, IsRight, CanOpen}
use Rattle.ring_script.specs.Standing.{used_line}
use Rattle.ring_script.proofs.Names.{AreNames, names_right, none_of_both}
use Rattle.ring_script.proofs.Lines.{used_more, take_more}
use Rattle.ring_script.proofs.Taking.{fault_as, members_taken, credit_taken, statement_taken}

-- ---- all lines

text_by : (line : List ℕ) (l t : Bool) → (if l then Some LineTooLong else (if not t then Some NotText else None)) ≡ None → t ≡ true
text_by line true t h = cc
text_by line false true h = refl
text_by line false false h = cc

is_text_line : (line : List ℕ) → text_fault line ≡ None → list_all is_text_byte line ≡ true
is_text_line line h = text_by line (nat_lt 2000 (length line)) (list_all is_text_byte line) h

-- What holds where no line is used, and further behind each right one, holds of the used lines of a right text.
module _ (grammar : Grammar) (P : List (ℕ × List ℕ) → Type 0) (none : P [])
    (more : (used : List (ℕ × List ℕ)) (number : ℕ) (line : List ℕ) → P used → list_all is_text_byte line ≡ true → fault_as grammar used line (head_in line) ≡ None → P (used ++ (number, line) ∷ [])) where
  line_by : (used : List (ℕ × List ℕ)) (number : ℕ) (line : List ℕ) (b : Bool) → is_skipped line ≡ b → P used → fault_behind grammar used line ≡ None → P (used ++ used_line number line)
  line_by used number line true s fit e = rw s (subst P (sym (append-nil used)) fit)
  line_by used number line false s fit e =
      let both = none_of_both (text_fault line) (if is_skipped line then None else fault_as grammar used line (head_in line)) e in
      rw s (more used number line fit (is_text_line line both.0) (rw s at both.1))

  lines_fit : (lines : List (List ℕ)) (n : ℕ) → n ≤ length lines → AreRight grammar lines n → P (used_of (take n lines))
  lines_fit lines zero l right = none
  lines_fit lines (suc n) l right =
      let line = get_or lines n [] in
      let left : drop n lines ≡ line ∷ drop (suc n) lines = drop-cons lines n [] (omega arith) in
      let further : n + 1 ≡ suc n = omega arith in
      let before = lines_fit lines n (omega arith) (λ place p. right place (omega arith)) in
      let taken : used_of (take (n + 1) lines) ≡ used_of (take n lines) ++ used_line (length (take n lines) + 1) line =
      ap used_of (take_more n lines (drop (suc n) lines) line left) ∙ used_more (take n lines) line in
      subst (λ k. P (used_of (take k lines))) further
      (subst P (sym taken) (line_by (used_of (take n lines)) (length (take n lines) + 1) line (is_skipped line) refl before (right n (omega arith))))

  pub text_fits : (bytes : List ℕ) → IsRight grammar bytes → P (used_of (lines_of bytes))
  text_fits bytes right =
      let lines = lines_of bytes in
      let all : take (length lines) lines ≡ lines = take_all (length lines) lines (omega arith) in
      subst (λ ls. P (used_of ls)) all (lines_fit lines (length lines) (omega arith) right.lines)

-- ---- the members

pub no_names : AreNames []
no_names = record { few = omega arith; different = λ j k a b e. absurd (omega arith); all = All-nil IsName }

-- right members can open a ring
pub members_open : (words : List (List ℕ)) → members_fault words ≡ None → CanOpen words × AreNames words
members_open [] e = cc
members_open (word ∷ words) e =
    let names = names_right [] (word ∷ words) no_names e in
    ((record { some = omega arith; few = names.few; different = names.different }, names.all), names)

-- a ring can open with the members, if a line is used
abbrev pub OpensIfUsed : List (ℕ × List ℕ) → Type 0
OpensIfUsed used = 0 < length used → CanOpen (members_of used)

module _ (grammar : Grammar) where
  opens_by : (used : List (ℕ × List ℕ)) (number : ℕ) (line : List ℕ) → OpensIfUsed used → fault_as grammar used line (head_in line) ≡ None → (h : Head) → head_in line ≡ h → OpensIfUsed (used ++ (number, line) ∷ [])
  opens_by used number line opens e head.Members k =
      let adds = members_taken grammar (λ word rest. rest) used number line k e in
      λ some. subst CanOpen (sym adds.members) (members_open (words_of (behind_word line)) adds.right).0
  opens_by used number line opens e head.Credit k =
      let adds = credit_taken grammar (λ word rest. rest) used number line k e in
      λ some. subst CanOpen (sym adds.members) (opens adds.right)
  opens_by used number line opens e head.Statement k =
      let adds = statement_taken grammar (λ word rest. rest) used number line k e in
      λ some. subst CanOpen (sym adds.members) (opens adds.right.0)

  -- with the members of a right text one can
  pub text_opens : (bytes : List ℕ) → IsRight grammar bytes → CanOpen (members_of (used_of (lines_of bytes)))
  text_opens bytes right =
      text_fits grammar OpensIfUsed (λ some. absurd (omega arith)) (λ used number line opens text e. opens_by used number line opens e (head_in line) refl) bytes right right.some
