-- A line of a script or of a step file: its parts, its limits, and what is wrong with it.
use Rattle.std.specs.Prelude.{◌≡◌, ℕ, Bool, true, false, ◌&&◌, ◌||◌, not, nat_le, nat_lt, ◌==◌, if◌then◌else◌, is_ok, Option, Some, None, unwrap_or, is_some, List, [], ◌∷◌, ◌++◌, length, codes, bytes_eq}
use Rattle.std.specs.List.{list_all, list_any, slice_index, slice_index_or}
use Rattle.std.specs.Option.{option_or}
use Rattle.ring_names.specs.Name.{name_or_fault}
use Rattle.group_view.specs.Change.{most_entries}
use Rattle.ring_script.specs.declared.fault.Kind.{Kind}
use Rattle.ring_script.specs.declared.fault.Kind.TheVariants.{NotText, LineTooLong, MissingWord, ExtraWord, BadNumber, BadName, UnknownName, NameTaken, TooManyMembers, BodyTooLong, NoMembers, Misplaced}
use Rattle.ring_script.specs.declared.line.Head.{Head}
use Rattle.ring_script.specs.declared.line.Head.TheVariants as head
use Rattle.ring_script.specs.declared.line.Next.{Next}
use Rattle.ring_script.specs.declared.line.Next.TheVariants as next
use Rattle.ring_script.specs.declared.line.Said.{Said}
use Rattle.ring_script.specs.declared.line.Said.TheVariants as said
use Rattle.ring_script.specs.Words.{is_text_byte, is_blank, words_of, first_word, behind_word, behind_space, number_of}

-- ---- the parts of a line

-- a line without a word, and a comment
abbrev pub is_skipped : List ℕ → Bool
is_skipped line = is_blank line || (slice_index line 0 == 35)

-- what the first word of a line begins: it names the members, gives a credit, or is a statement
abbrev pub head_of : List ℕ → Head
head_of word =
    if bytes_eq word (codes "members") then head.Members
    else (if bytes_eq word (codes "credit") then head.Credit
    else head.Statement)

-- what a line begins
abbrev pub head_in : List ℕ → Head
head_in line = head_of (first_word line)

-- a line is a statement
abbrev pub is_statement : Head → Bool
is_statement head.Statement = true
is_statement _ = false

-- Behind its first word stands the rest of a line.

-- the first word of the rest
abbrev pub operand_in : List ℕ → List ℕ
operand_in rest = slice_index_or (words_of rest) 0 []

-- the second word of the rest
abbrev pub second_in : List ℕ → List ℕ
second_in rest = slice_index_or (words_of rest) 1 []

-- all that follows the one space behind its first word
abbrev pub body_in : List ℕ → List ℕ
body_in rest = behind_space (behind_word rest)

-- ---- limits

-- how many bytes a line has at most
abbrev pub most_line_bytes : ℕ
most_line_bytes = 2000

-- how many bytes a body has at most
abbrev pub most_body_bytes : ℕ
most_body_bytes = 256

-- the greatest initial credit of a link, in packets
abbrev pub most_credit : ℕ
most_credit = 64

-- ---- how many words

-- no word is left
abbrev pub no_word : List (List ℕ) → Option Kind
no_word [] = None
no_word (word ∷ words) = Some ExtraWord

-- one word is left, and it is judged
abbrev pub one_word : (List ℕ → Option Kind) → List (List ℕ) → Option Kind
one_word fault [] = Some MissingWord
one_word fault (word ∷ []) = fault word
one_word fault (word ∷ other ∷ words) = Some ExtraWord

-- two are left, and they are judged
abbrev pub two_words : (List ℕ → List ℕ → Option Kind) → List (List ℕ) → Option Kind
two_words fault [] = Some MissingWord
two_words fault (first ∷ []) = Some MissingWord
two_words fault (first ∷ second ∷ []) = fault first second
two_words fault (first ∷ second ∷ other ∷ words) = Some ExtraWord

-- ---- one word

-- a word is a name
abbrev pub is_name : List ℕ → Bool
is_name word = is_ok (name_or_fault word)

-- a name is one of these
abbrev pub is_among : List (List ℕ) → List ℕ → Bool
is_among names name = list_any (λ other. bytes_eq other name) names

-- what is wrong with a word as a name
abbrev pub name_fault : List ℕ → Option Kind
name_fault word = if is_name word then None else Some BadName

-- as the name of one of these
abbrev pub known_fault : List (List ℕ) → List ℕ → Option Kind
known_fault names word = option_or (name_fault word) (if is_among names word then None else Some UnknownName)

-- as a number up to a limit
abbrev pub number_fault : ℕ → List ℕ → Option Kind
number_fault most word = if is_some (number_of most word) then None else Some BadNumber

-- what is wrong with bytes of text as a body
abbrev pub body_fault : List ℕ → Option Kind
body_fault body = if nat_lt most_body_bytes (length body) then Some BodyTooLong else None

-- behind `cast` a word is left, which is judged, and then this body; anything may stand behind the word
abbrev pub cast_fault : (List ℕ → Option Kind) → List ℕ → List (List ℕ) → Option Kind
cast_fault fault body [] = Some MissingWord
cast_fault fault body (word ∷ words) = option_or (fault word) (body_fault body)

-- ---- the opening

-- what is wrong with a word as a further name behind these
abbrev pub further_fault : List (List ℕ) → List ℕ → Option Kind
further_fault names word =
    if not (is_name word) then Some BadName
    else (if is_among names word then Some NameTaken
    else (if nat_le most_entries (length names) then Some TooManyMembers
    else None))

-- the first fault among words as further names behind these
abbrev pub names_fault : List (List ℕ) → List (List ℕ) → Option Kind
names_fault names [] = None
names_fault names (word ∷ words) = option_or (further_fault names word) (names_fault (names ++ word ∷ []) words)

-- `members` has one name at least
abbrev pub members_fault : List (List ℕ) → Option Kind
members_fault [] = Some MissingWord
members_fault (word ∷ words) = names_fault [] (word ∷ words)

-- an initial credit up to the limit, and a further one from 1 up to that
abbrev pub are_credit : Option ℕ → Option ℕ → Bool
are_credit (Some initial) (Some more) = nat_le 1 more && (nat_le more initial && nat_le initial most_credit)
are_credit initial more = false

-- `credit` has the two
abbrev pub credit_fault : List (List ℕ) → Option Kind
credit_fault words = two_words (λ initial more. if are_credit (number_of most_credit initial) (number_of most_credit more) then None else Some BadNumber) words

-- the credit that the rest of a line gives: the initial one and the further one
abbrev pub credit_in : List ℕ → ℕ × ℕ
credit_in rest = (unwrap_or (number_of most_credit (operand_in rest)) 0, unwrap_or (number_of most_credit (second_in rest)) 0)

-- ---- a line

-- What is wrong with a statement, by the names that are known before it, its first word and its rest; and the names that such
-- a line has join, which are known behind it.
pub record Grammar : Type 0 where
  pub fault : List (List ℕ) → List ℕ → List ℕ → Option Kind
  pub joins : List ℕ → List ℕ → List (List ℕ)

-- what is wrong with a line that has a word: the first used one names the members, the next may give a credit, and each
-- further one is a statement
abbrev pub fault_by : Grammar → Next → Head → List (List ℕ) → List ℕ → List ℕ → Option Kind
fault_by grammar next.Opening head.Members known word rest = members_fault (words_of rest)
fault_by grammar next.Opening _ known word rest = Some NoMembers
fault_by grammar next.Credit head.Credit known word rest = credit_fault (words_of rest)
fault_by grammar _ head.Statement known word rest = grammar.fault known word rest
fault_by grammar _ _ known word rest = Some Misplaced

-- what is wrong with a line before its words are read
abbrev pub text_fault : List ℕ → Option Kind
text_fault line =
    if nat_lt most_line_bytes (length line) then Some LineTooLong
    else (if not (list_all is_text_byte line) then Some NotText
    else None)

-- what is wrong with a line: its length is judged, then its bytes, and then what it says, if it isn't skipped
abbrev pub fault_of : Grammar → Next → List (List ℕ) → List ℕ → Option Kind
fault_of grammar next known line =
    option_or (text_fault line) (if is_skipped line then None else fault_by grammar next (head_in line) known (first_word line) (behind_word line))

-- ---- what is read of a line

-- this is what a line says with this first word and this rest
abbrev pub Says : {X : Type 0} → (List ℕ → List ℕ → X) → List ℕ → List ℕ → Said X → Type 0
Says says word rest (said.Members names) = (head_of word ≡ head.Members) × (names.items ≡ words_of rest)
Says says word rest (said.Credit credit) = (head_of word ≡ head.Credit) × ((credit.initial, credit.more) ≡ credit_in rest)
Says says word rest (said.Statement statement) = (head_of word ≡ head.Statement) × (statement ≡ says word rest)
