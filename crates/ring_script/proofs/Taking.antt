-- What a further used line adds to what the used lines say.
use Rattle.std.proofs.Common.{◌≡◌, ℕ, ◌<◌, Bool, true, false, List, [], ◌∷◌, ◌++◌, Option, None, length, map, refl, sym, ap, ◌∙◌, if◌then◌else◌, arith}
use Rattle.std.specs.List.{filter, flat_map}
use Rattle.std.proofs.lemmas.Grind.{flat_map-append}
use Rattle.std.proofs.lemmas.List.{map-append, append-nil, append_assoc}
use Rattle.std.proofs.lemmas.List.Elements.{filter-append}
use Rattle.ring_script.specs.declared.fault.Kind.{Kind}
use Rattle.ring_script.specs.declared.line.Head.{Head}
use Rattle.ring_script.specs.declared.line.Head.TheVariants as head
use Rattle.ring_script.specs.declared.line.Next.{Next}
use Rattle.ring_script.specs.declared.line.Next.TheVariants as next
use Rattle.ring_script.specs.Words.{words_of, first_word, behind_word}
use Rattle.ring_script.specs.Line.{Grammar, head_in, is_statement, members_fault, credit_in, fault_by}
use Rattle.ring_script.specs.Reading.{next_of, members_of, credit_by, credit_of, said_in, statements_of, joined_in, known_of}

-- what is wrong with a line behind these used ones, by what it begins
abbrev pub fault_as : Grammar → List (ℕ × List ℕ) → List ℕ → Head → Option Kind
fault_as grammar used line h = fault_by grammar (next_of used) h (known_of grammar used) (first_word line) (behind_word line)

-- ---- statements

-- the statement of a line behind its number
abbrev pub said_on : {X : Type 0} → (List ℕ → List ℕ → X) → ℕ × List ℕ → ℕ × X
said_on says line = (line.0, says (first_word line.1) (behind_word line.1))

statements_by : {X : Type 0} (says : List ℕ → List ℕ → X) (number : ℕ) (line : List ℕ) (b : Bool) → is_statement (head_in line) ≡ b
    → statements_of says ((number, line) ∷ []) ≡ (if b then said_on says (number, line) ∷ [] else [])
statements_by says number line true e = rw e
statements_by says number line false e = rw e

statements_append : {X : Type 0} (says : List ℕ → List ℕ → X) (used more : List (ℕ × List ℕ)) → statements_of says (used ++ more) ≡ statements_of says used ++ statements_of says more
statements_append says used more =
    ap (map (said_on says)) (filter-append (λ line. is_statement (head_in line.1)) used more)
    ∙ map-append (said_on says) (filter (λ line. is_statement (head_in line.1)) used) (filter (λ line. is_statement (head_in line.1)) more)

-- a statement more
statements_more : {X : Type 0} (says : List ℕ → List ℕ → X) (used : List (ℕ × List ℕ)) (number : ℕ) (line : List ℕ) → is_statement (head_in line) ≡ true
    → statements_of says (used ++ (number, line) ∷ []) ≡ statements_of says used ++ said_on says (number, line) ∷ []
statements_more says used number line e = statements_append says used ((number, line) ∷ []) ∙ ap (λ xs. statements_of says used ++ xs) (statements_by says number line true e)

-- another line adds none
statements_same : {X : Type 0} (says : List ℕ → List ℕ → X) (used : List (ℕ × List ℕ)) (number : ℕ) (line : List ℕ) → is_statement (head_in line) ≡ false
    → statements_of says (used ++ (number, line) ∷ []) ≡ statements_of says used
statements_same says used number line e =
    statements_append says used ((number, line) ∷ []) ∙ ap (λ xs. statements_of says used ++ xs) (statements_by says number line false e) ∙ append-nil (statements_of says used)

-- ---- names that joined

-- those that a line has join
abbrev pub joined_on : Grammar → List ℕ → List (List ℕ)
joined_on grammar line = grammar.joins (first_word line) (behind_word line)

said_by : (number : ℕ) (line : List ℕ) (b : Bool) → is_statement (head_in line) ≡ b → said_in ((number, line) ∷ []) ≡ (if b then (number, line) ∷ [] else [])
said_by number line true e = rw e
said_by number line false e = rw e

joined_append : (grammar : Grammar) (used more : List (ℕ × List ℕ)) → joined_in grammar (used ++ more) ≡ joined_in grammar used ++ joined_in grammar more
joined_append grammar used more =
    let f : ℕ × List ℕ → List (List ℕ) = λ line. joined_on grammar line.1 in
    ap (flat_map f) (filter-append (λ line. is_statement (head_in line.1)) used more) ∙ flat_map-append f (said_in used) (said_in more)

-- a statement adds those that it has join
joined_more : (grammar : Grammar) (used : List (ℕ × List ℕ)) (number : ℕ) (line : List ℕ) → is_statement (head_in line) ≡ true
    → joined_in grammar (used ++ (number, line) ∷ []) ≡ joined_in grammar used ++ joined_on grammar line
joined_more grammar used number line e =
    let f : ℕ × List ℕ → List (List ℕ) = λ line. joined_on grammar line.1 in
    joined_append grammar used ((number, line) ∷ [])
    ∙ ap (λ ls. joined_in grammar used ++ flat_map f ls) (said_by number line true e)
    ∙ ap (λ ns. joined_in grammar used ++ ns) (append-nil (joined_on grammar line))

-- another line adds none
joined_same : (grammar : Grammar) (used : List (ℕ × List ℕ)) (number : ℕ) (line : List ℕ) → is_statement (head_in line) ≡ false
    → joined_in grammar (used ++ (number, line) ∷ []) ≡ joined_in grammar used
joined_same grammar used number line e =
    let f : ℕ × List ℕ → List (List ℕ) = λ line. joined_on grammar line.1 in
    joined_append grammar used ((number, line) ∷ [])
    ∙ ap (λ ls. joined_in grammar used ++ flat_map f ls) (said_by number line false e)
    ∙ append-nil (joined_in grammar used)

-- behind a statement the members are known, those that joined, and those that join by it
known_more : (grammar : Grammar) (used : List (ℕ × List ℕ)) (number : ℕ) (line : List ℕ) (names : List (List ℕ)) → is_statement (head_in line) ≡ true
    → names ++ joined_in grammar (used ++ (number, line) ∷ []) ≡ (names ++ joined_in grammar used) ++ joined_on grammar line
known_more grammar used number line names e =
    ap (λ ns. names ++ ns) (joined_more grammar used number line e) ∙ sym (append_assoc names (joined_in grammar used) (joined_on grammar line))

-- ---- what a line more leaves

-- With this line more this may stand next, the used lines name these members, make these names known, give this credit and make
-- these statements; and this was judged.
pub record Leaves {X : Type 0} (grammar : Grammar) (says : List ℕ → List ℕ → X) (used : List (ℕ × List ℕ)) (number : ℕ) (line : List ℕ) (may : Next) (names further : List (List ℕ)) (given : ℕ × ℕ) (made : List (ℕ × X)) (judged : Type 0) : Type 0 where
  pub next : next_of (used ++ (number, line) ∷ []) ≡ may
  pub members : members_of (used ++ (number, line) ∷ []) ≡ names
  pub known : known_of grammar (used ++ (number, line) ∷ []) ≡ further
  pub credit : credit_of (used ++ (number, line) ∷ []) ≡ given
  pub lines : statements_of says (used ++ (number, line) ∷ []) ≡ made
  pub right : judged

-- Behind a right line with a statement only statements stand, and it adds the statement.
abbrev pub AddsStatement : {X : Type 0} → Grammar → (List ℕ → List ℕ → X) → List (ℕ × List ℕ) → ℕ → List ℕ → Type 0
AddsStatement grammar says used number line =
    Leaves grammar says used number line next.Further (members_of used) (known_of grammar used ++ joined_on grammar line) (credit_of used) (statements_of says used ++ said_on says (number, line) ∷ [])
    ((0 < length used) × (grammar.fault (known_of grammar used) (first_word line) (behind_word line) ≡ None))

pub statement_taken : {X : Type 0} (grammar : Grammar) (says : List ℕ → List ℕ → X) (used : List (ℕ × List ℕ)) (number : ℕ) (line : List ℕ) → head_in line ≡ head.Statement
    → fault_as grammar used line (head_in line) ≡ None → AddsStatement grammar says used number line
statement_taken grammar says [] number line k e = let wrong = sym (ap (fault_as grammar [] line) k) ∙ e in cc
statement_taken grammar says (opening ∷ []) number line k e =
    record {
      next = refl;
      members = refl;
      known = known_more grammar (opening ∷ []) number line (members_of (opening ∷ [])) (ap is_statement k);
      credit = ap (λ h. credit_by h (behind_word line)) k;
      lines = statements_more says (opening ∷ []) number line (ap is_statement k);
      right = (omega arith, sym (ap (fault_as grammar (opening ∷ []) line) k) ∙ e);
    }
statement_taken grammar says (opening ∷ second ∷ further) number line k e = record {
  next = refl;
  members = refl;
  known = known_more grammar (opening ∷ second ∷ further) number line (members_of (opening ∷ second ∷ further)) (ap is_statement k);
  credit = refl;
  lines = statements_more says (opening ∷ second ∷ further) number line (ap is_statement k);
  right = (omega arith, sym (ap (fault_as grammar (opening ∷ second ∷ further) line) k) ∙ e);
}

-- right members stand on the first used line
pub members_taken : {X : Type 0} (grammar : Grammar) (says : List ℕ → List ℕ → X) (used : List (ℕ × List ℕ)) (number : ℕ) (line : List ℕ) → head_in line ≡ head.Members
    → fault_as grammar used line (head_in line) ≡ None
    → Leaves grammar says used number line next.Credit (words_of (behind_word line)) (words_of (behind_word line)) (credit_of used) [] (members_fault (words_of (behind_word line)) ≡ None)
members_taken grammar says [] number line k e = record {
  next = refl;
  members = refl;
  known = ap (λ ns. words_of (behind_word line) ++ ns) (joined_same grammar [] number line (ap is_statement k)) ∙ append-nil (words_of (behind_word line));
  credit = refl;
  lines = statements_same says [] number line (ap is_statement k);
  right = sym (ap (fault_as grammar [] line) k) ∙ e;
}
members_taken grammar says (opening ∷ []) number line k e = let wrong = sym (ap (fault_as grammar (opening ∷ []) line) k) ∙ e in cc
members_taken grammar says (opening ∷ second ∷ further) number line k e = let wrong = sym (ap (fault_as grammar (opening ∷ second ∷ further) line) k) ∙ e in cc

-- a right credit stands on the second
pub credit_taken : {X : Type 0} (grammar : Grammar) (says : List ℕ → List ℕ → X) (used : List (ℕ × List ℕ)) (number : ℕ) (line : List ℕ) → head_in line ≡ head.Credit
    → fault_as grammar used line (head_in line) ≡ None
    → Leaves grammar says used number line next.Further (members_of used) (known_of grammar used) (credit_in (behind_word line)) (statements_of says used) (0 < length used)
credit_taken grammar says [] number line k e = let wrong = sym (ap (fault_as grammar [] line) k) ∙ e in cc
credit_taken grammar says (opening ∷ []) number line k e =
    let known : known_of grammar ((opening ∷ []) ++ (number, line) ∷ []) ≡ known_of grammar (opening ∷ []) = ap (λ ns. members_of (opening ∷ []) ++ ns) (joined_same grammar (opening ∷ []) number line (ap is_statement k)) in
    record { next = refl; members = refl; known = known; credit = ap (λ h. credit_by h (behind_word line)) k; lines = statements_same says (opening ∷ []) number line (ap is_statement k); right = omega arith }
credit_taken grammar says (opening ∷ second ∷ further) number line k e = let wrong = sym (ap (fault_as grammar (opening ∷ second ∷ further) line) k) ∙ e in cc
