-- What a text spells as a script can be played, and a ring can open with the members of a step file.
use Rattle.std.proofs.Common.{◌≡◌, ℕ, ◌≤◌, Bool, true, false, nat_le, nat_lt, List, [], ◌∷◌, ◌++◌, Option, Some, None, length, map, unwrap_or, refl, sym, ap, subst, ◌∙◌, if◌then◌else◌}
use Rattle.std.specs.List.{list_all, Contains}
use Rattle.std.specs.Option.{option_or}
use Rattle.std.proofs.lemmas.Bool.{ltb-false}
use Rattle.std.proofs.lemmas.List.{map-append, append-nil, append_assoc}
use Rattle.std.proofs.lemmas.List.Folds.{flat_map-map}
use Rattle.ring_names.specs.Body.{IsBody}
use Rattle.ring_names.specs.Name.{IsName}
use Rattle.ring_rules.specs.declared.event.Event.{Event}
use Rattle.ring_script.specs.declared.fault.Kind.{Kind}
use Rattle.ring_script.specs.declared.fault.Kind.TheVariants.{UnknownName, BodyTooLong}
use Rattle.ring_script.specs.declared.script.Keyword.{Keyword}
use Rattle.ring_script.specs.declared.script.Keyword.TheVariants.{Asks, Go, Settle}
use Rattle.ring_script.specs.declared.line.Head.{Head}
use Rattle.ring_script.specs.declared.line.Head.TheVariants as head
use Rattle.ring_script.specs.declared.command.Command.{Command}
use Rattle.ring_script.specs.declared.text.Text.{Text}
use Rattle.ring_script.specs.declared.vocabulary.Word.{Word}
use Rattle.ring_script.specs.declared.vocabulary.Word.TheVariants as word
use Rattle.ring_script.specs.Words.{lines_of, words_of, first_word, behind_word, is_text_byte, number_of}
use Rattle.ring_script.specs.Line.{operand_in, second_in, body_in, is_name, is_among, head_in, one_word, two_words, name_fault, known_fault, further_fault, number_fault, body_fault, cast_fault}
use Rattle.ring_script.specs.Vocabulary.{shape_of, most_position, IsNameable}
use Rattle.ring_script.specs.Phrase.{phrase_fault}
use Rattle.ring_script.specs.Script.{keyword_of, command_fault, script_grammar, command_by, command_of, joined_by, joined, most_turns}
use Rattle.ring_script.specs.Steps.{step_grammar}
use Rattle.ring_script.specs.Reading.{used_of, members_of, said_in, statements_of, joined_in, known_of, IsScriptOf, AreStepsOf, MayBeGiven, MayEachBeGiven, commands_of, IsPlayable, CanOpen}
use Rattle.ring_script.proofs.Bodies.{behind_word_text, behind_space_text, IsBody-from}
use Rattle.ring_script.proofs.Names.{AreNames, none_of_both, among_contains, IsName-from, new_name, further_by, further_right}
use Rattle.ring_script.proofs.Numbers.{number_fits}
use Rattle.ring_script.proofs.Phrases.{one_right, two_right, body_right}
use Rattle.ring_script.proofs.Taking.{fault_as, said_on, members_taken, credit_taken, statement_taken}
use Rattle.ring_script.proofs.Fitting.{text_fits, no_names, members_open, text_opens}

-- ---- names and bodies

none_by : (b : Bool) (kind : Kind) → (if b then None else Some kind) ≡ None → b ≡ true
none_by true kind h = refl
none_by false kind h = cc

known_right : (known : List (List ℕ)) (name : List ℕ) → known_fault known name ≡ None → Contains known name
known_right known name e =
    let both = none_of_both (name_fault name) (if is_among known name then None else Some UnknownName) e in
    among_contains known name (none_by (is_among known name) UnknownName both.1)

short_by : (b : Bool) → (if b then Some BodyTooLong else None) ≡ None → b ≡ false
short_by true h = cc
short_by false h = refl

is_body : (body : List ℕ) → list_all is_text_byte body ≡ true → body_fault body ≡ None → IsBody body
is_body body text e = IsBody-from body (ltb-false 256 (length body) (short_by (nat_lt 256 (length body)) e)) text

-- who joins is new, and then all names are as those of a ring
joiner_right : (known : List (List ℕ)) (name : List ℕ) → AreNames known → further_fault known name ≡ None
    → ((Contains known name → ⊥) × IsName name) × AreNames (known ++ name ∷ [])
joiner_right known name names e =
    let is = further_by (is_name name) (is_among known name) (nat_le 64 (length known)) e in
    ((new_name known name is.1, IsName-from name is.0), further_right known name names e)

-- ---- a command

same_names : (known : List (List ℕ)) → AreNames known → AreNames (known ++ [])
same_names known names = subst AreNames (sym (append-nil known)) names

-- a command may be given, and leaves all names as those of a ring
abbrev IsGiven : List (List ℕ) → Command → Type 0
IsGiven known x = MayBeGiven known x × AreNames (known ++ joined_by x)

-- a right line names one of those who are known
by_known : (known : List (List ℕ)) (rest : List ℕ) → one_word (known_fault known) (words_of rest) ≡ None → Contains known (operand_in rest)
by_known known rest e = known_right known (operand_in rest) (one_right (known_fault known) (words_of rest) e)

-- and a body
with_body : (known : List (List ℕ)) (rest : List ℕ) → list_all is_text_byte rest ≡ true → cast_fault (known_fault known) (body_in rest) (words_of rest) ≡ None
    → Contains known (operand_in rest) × IsBody (body_in rest)
with_body known rest text e =
    let both = body_right (known_fault known) (body_in rest) (words_of rest) e in
    (known_right known (operand_in rest) both.0, is_body (body_in rest) (behind_space_text (behind_word rest) (behind_word_text rest text)) both.1)

-- or a position
with_position : (known : List (List ℕ)) (rest : List ℕ) → two_words (λ one at. option_or (known_fault known one) (number_fault most_position at)) (words_of rest) ≡ None
    → Contains known (operand_in rest) × IsNameable (record { 0 = unwrap_or (number_of most_position (second_in rest)) 0 })
with_position known rest e =
    let both = two_right (known_fault known) (number_fault most_position) (words_of rest) e in
    (known_right known (operand_in rest) both.0, number_fits most_position (second_in rest) both.1)

asked_right : (known : List (List ℕ)) (w : Word) (rest : List ℕ) → AreNames known → list_all is_text_byte rest ≡ true
    → phrase_fault (known_fault known) (further_fault known) (shape_of w) rest ≡ None → IsGiven known (command_by (Some (Asks w)) rest)
asked_right known word.Cast rest names text e = (with_body known rest text e, same_names known names)
asked_right known word.Publish rest names text e = (with_body known rest text e, same_names known names)
asked_right known word.Get rest names text e = (by_known known rest e, same_names known names)
asked_right known word.Pop rest names text e = (by_known known rest e, same_names known names)
asked_right known word.Ack rest names text e = (with_position known rest e, same_names known names)
asked_right known word.Requeue rest names text e = (with_position known rest e, same_names known names)
asked_right known word.Admit rest names text e =
    let both = two_right (known_fault known) (further_fault known) (words_of rest) e in
    let joins = joiner_right known (second_in rest) names both.1 in
    ((known_right known (operand_in rest) both.0, joins.0.0, joins.0.1), joins.1)
asked_right known word.Stop rest names text e = (by_known known rest e, same_names known names)
asked_right known w rest names text e = (tt, same_names known names)

command_right : (known : List (List ℕ)) (keyword : Option Keyword) (rest : List ℕ) → AreNames known → list_all is_text_byte rest ≡ true → command_fault known keyword rest ≡ None
    → IsGiven known (command_by keyword rest)
command_right known (Some (Asks w)) rest names text e = asked_right known w rest names text e
command_right known (Some Go) rest names text e = (number_fits most_turns (operand_in rest) (one_right (number_fault most_turns) (words_of rest) e), same_names known names)
command_right known (Some Settle) rest names text e = (tt, same_names known names)
command_right known None rest names text e = cc

-- ---- commands, one after another

-- one more, which may be given behind the others
given_more : (names : List (List ℕ)) (xs : List Command) (x : Command) → MayEachBeGiven names xs → MayBeGiven (names ++ joined xs) x → MayEachBeGiven names (xs ++ x ∷ [])
given_more names [] x all may = (subst (λ ns. MayBeGiven ns x) (append-nil names) may, tt)
given_more names (first ∷ xs) x all may =
    (all.0, given_more (names ++ joined_by first) xs x all.1 (subst (λ ns. MayBeGiven ns x) (sym (append_assoc names (joined_by first) (joined xs))) may))

-- the commands of used lines
abbrev pub commands_in : List (ℕ × List ℕ) → List Command
commands_in used = map (λ line. line.1) (statements_of command_of used)

-- they have those join of whom the lines say so
joined_there : (used : List (ℕ × List ℕ)) → joined (commands_in used) ≡ joined_in script_grammar used
joined_there used = flat_map-map joined_by (λ line. line.1) (statements_of command_of used) ∙ flat_map-map (λ (line : ℕ × Command). joined_by line.1) (said_on command_of) (said_in used)

-- Each command of used lines may be given, and all names are as those of a ring.
pub record AreGiven (used : List (ℕ × List ℕ)) : Type 0 where
  pub names : AreNames (known_of script_grammar used)
  pub commands : MayEachBeGiven (members_of used) (commands_in used)

none_given : AreGiven []
none_given = record { names = no_names; commands = tt }

given_by : (used : List (ℕ × List ℕ)) (number : ℕ) (line : List ℕ) → AreGiven used → list_all is_text_byte line ≡ true → fault_as script_grammar used line (head_in line) ≡ None
    → (h : Head) → head_in line ≡ h → AreGiven (used ++ (number, line) ∷ [])
given_by used number line given text e head.Members k =
    let adds = members_taken script_grammar command_of used number line k e in
    let words = words_of (behind_word line) in
    record {
      names = subst AreNames (sym adds.known) (members_open words adds.right).1;
      commands = subst (λ (ls : List (ℕ × Command)). MayEachBeGiven (members_of (used ++ (number, line) ∷ [])) (map (λ l. l.1) ls)) (sym adds.lines) tt;
    }
given_by used number line given text e head.Credit k =
    let adds = credit_taken script_grammar command_of used number line k e in
    record {
      names = subst AreNames (sym adds.known) given.names;
      commands = subst (λ ns. MayEachBeGiven ns (commands_in (used ++ (number, line) ∷ []))) (sym adds.members)
          (subst (λ (ls : List (ℕ × Command)). MayEachBeGiven (members_of used) (map (λ l. l.1) ls)) (sym adds.lines) given.commands);
    }
given_by used number line given text e head.Statement k =
    let adds = statement_taken script_grammar command_of used number line k e in
    let known = known_of script_grammar used in
    let right = command_right known (keyword_of (first_word line)) (behind_word line) given.names (behind_word_text line text) adds.right.1 in
    let one : ℕ × Command = said_on command_of (number, line) in
    let may : MayBeGiven (members_of used ++ joined (commands_in used)) one.1 = subst (λ ns. MayBeGiven (members_of used ++ ns) one.1) (sym (joined_there used)) right.0 in
    let made : commands_in (used ++ (number, line) ∷ []) ≡ commands_in used ++ one.1 ∷ [] =
    ap (map (λ (l : ℕ × Command). l.1)) adds.lines ∙ map-append (λ (l : ℕ × Command). l.1) (statements_of command_of used) (one ∷ []) in
    record {
      names = subst AreNames (sym adds.known) right.1;
      commands = subst (λ ns. MayEachBeGiven ns (commands_in (used ++ (number, line) ∷ []))) (sym adds.members)
          (subst (MayEachBeGiven (members_of used)) (sym made) (given_more (members_of used) (commands_in used) one.1 given.commands may));
    }

-- ---- texts

-- what a text spells as a script can be played
pub script_playable : (bytes : List ℕ) (script : Text Command) → IsScriptOf bytes script → IsPlayable script
script_playable bytes script h =
    let used = used_of (lines_of bytes) in
    let given : AreGiven used = text_fits script_grammar AreGiven none_given (λ used number line given text e. given_by used number line given text e (head_in line) refl) bytes h.right in
    let few : length (members_of used ++ joined (commands_in used)) ≤ 64 = subst (λ ns. length (members_of used ++ ns) ≤ 64) (sym (joined_there used)) given.names.few in
    let commands : commands_of script ≡ commands_in used = ap (map (λ (l : ℕ × Command). l.1)) h.lines in
    record {
      opens = subst CanOpen (sym h.members) (text_opens script_grammar bytes h.right);
      commands = subst (λ ns. MayEachBeGiven ns (commands_of script)) (sym h.members) (subst (MayEachBeGiven (members_of used)) (sym commands) given.commands);
      few = subst (λ ns. length (ns ++ joined (commands_of script)) ≤ 64) (sym h.members) (subst (λ cs. length (members_of used ++ joined cs) ≤ 64) (sym commands) few);
    }

-- a ring can open with the members of a step file
pub steps_open : (bytes : List ℕ) (steps : Text Event) → AreStepsOf bytes steps → CanOpen steps.members
steps_open bytes steps h = subst CanOpen (sym h.members) (text_opens step_grammar bytes h.right)
