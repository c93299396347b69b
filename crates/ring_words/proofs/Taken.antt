-- What words enter that the command takes: a subcommand, with its rows.
use Rattle.std.proofs.Common.{◌≡◌, ◌⊎◌, ◌&&◌, Bool, true, false, cond, not, List, [], ◌∷◌, Option, Some, None, is_some, option_map, codes, refl, sym, ap, subst, inl, inr}
use Rattle.std.specs.Prelude.{⊤, fold, pos}
use Rattle.std.specs.Option.{option_map_or}
use Rattle.clap.specs.Kinds.{Kinds, check_kinds}
use Rattle.clap.specs.Faults.{check_fault, defaults_fault, entered_fault, level_fault, settle_fault, walk_fault}
use Rattle.clap.specs.Simple.{Shape, built, built_leaf, entered, filled, inherited, label_of, names_of, rows_at, with_index}
use Rattle.clap.specs.Values.{IsSignedIn}
use Rattle.clap.specs.Walk.{Held, Names, Row, Rule, Text, answers_to, arg_by_long, finished, has_long, long_met, nothing_held, rows_after, settled, settled_rows, stop_after, used, walk, walk_from, with_default}
use Rattle.clap.specs.Words.{fault_of, new_app, subcommand_of}
use Rattle.clap.specs.declared.parser.matches.ValueSource.TheVariants.{CommandLine, DefaultValue}
use Rattle.clap.specs.declared.builder.value_parser.Reading.TheVariants.{AsWritten}
use Rattle.ring_words.specs.Words.{journal_rule, playing, ringplay}
use Rattle.ring_words.proofs.Loaded.{first_step, loaded, loader, number_row, second_step}
use Rattle.ring_words.proofs.Walked.{IsQuiet, IsStill, rows_at_end}

-- the row of the flag
abbrev pub journal_row : Bool → Row
journal_row true = record { id = codes "journal"; values = codes "true" ∷ []; count = None; source = Some CommandLine; reading = AsWritten }
journal_row false = record { id = codes "journal"; values = codes "false" ∷ []; count = None; source = Some DefaultValue; reading = AsWritten }

-- what is entered: a subcommand, with its flag or the texts of its two numbers
pub data Entered : Type 0 where
  plays : Bool → Entered
  steps : Bool → Entered
  checks : Entered
  loads : Text → Text → Entered

-- its name, with its rows
abbrev pub entry_of : Entered → Text × List Row
entry_of (plays journal) = (codes "play", journal_row journal ∷ [])
entry_of (steps journal) = (codes "step", journal_row journal ∷ [])
entry_of checks = (codes "check", [])
entry_of (loads size seed) = (codes "load", number_row (codes "SIZE") size ∷ number_row (codes "SEED") seed ∷ [])

-- its numbers are in their ranges
abbrev pub IsSound : Entered → Type 0
IsSound (loads size seed) = IsSignedIn (pos 2) (pos 3900) size × IsSignedIn (pos 0) (pos 1000000) seed
IsSound _ = ⊤

-- a subcommand with its rows is one of these
abbrev pub IsEntered : Option (Text × List Row) → Type 0
IsEntered entry = (x : Entered) × (entry ≡ Some (entry_of x)) × IsSound x

-- the flag, once built
abbrev flag : Rule
flag = with_index 1 (filled journal_rule)

-- the flag was given, or wasn't yet
abbrev GivenOrNot : List Row → Type 0
GivenOrNot rows = (rows ≡ []) ⊎ (rows ≡ journal_row true ∷ [])

-- the flag is used
given : (rows : List Row) → GivenOrNot rows → GivenOrNot (used flag [] rows)
given rows (inl e) = inr (ap (used flag []) e)
given rows (inr e) = inr (ap (used flag []) e)

-- a word that begins with two hyphens is the flag, or is refused
flag_or_refused : (name : Text) (v : Option Text) (h : Held) → IsQuiet GivenOrNot h → IsStill GivenOrNot (long_met (flag ∷ []) (arg_by_long (flag ∷ []) name) v h)
flag_or_refused name v h q = go (has_long flag name) v
  where
    go : (b : Bool) (v : Option Text) → IsStill GivenOrNot (long_met (flag ∷ []) (cond b (Some flag) None) v h)
    go false v = (q, tt)
    go true (Some value) = (q, tt)
    go true None = ((refl, subst (λ p. GivenOrNot (used flag [] (settled_rows (flag ∷ []) p h.rows))) (sym q.0) (given h.rows q.1)), tt)

-- whatever words follow, the flag is true or false
flag_rows : (words : List Text) → (b : Bool) × (rows_after (flag ∷ []) [] words ≡ journal_row b ∷ [])
flag_rows words = go _ (rows_at_end (flag ∷ []) GivenOrNot (λ x. refl) (λ i. refl) flag_or_refused (inl refl) words)
  where
    go : (rows : List Row) → GivenOrNot rows → (b : Bool) × (fold with_default rows (flag ∷ []) ≡ journal_row b ∷ [])
    go rows (inl e) = (false, ap (λ rs. fold with_default rs (flag ∷ [])) e)
    go rows (inr e) = (true, ap (λ rs. fold with_default rs (flag ∷ [])) e)

-- `check` has no rows
no_rows : (words : List Text) → rows_after [] [] words ≡ []
no_rows words = rows_at_end [] (λ rows. rows ≡ []) (λ x. refl) (λ i. refl) (λ name v h q. (q, tt)) refl words

-- the last checks find no fault only where a subcommand that is wanted is there
has_needed : (has help wanted argument : Bool) → wanted ≡ true → check_kinds (not has && help) (not has && wanted) argument ≡ [] → has ≡ true
has_needed true help wanted argument w e = refl
has_needed false true wanted argument w e = cc
has_needed false false true argument w e = cc
has_needed false false false argument w e = cc

-- words that a command takes name a subcommand where it requires one
level_needs : (s : Shape) (names : Names) (h : Held) (words : List Text) (has : Bool) (below : Kinds) → s.subcommand_required ≡ true → level_fault s names h words has below ≡ [] → has ≡ true
level_needs s names h words has below required taken =
    let end = (walk s.rules names h words).held in
    let after_walk = second_step (walk_fault s names (walk_from h) words) _ taken in
    let after_below = second_step below _ after_walk in
    let after_settling = second_step (settle_fault s.rules s.args_override_self end) _ after_below in
    let checked = second_step (defaults_fault (settled s.rules end).rows s.rules) (check_fault s (finished s.rules end) has) after_settling in
    has_needed has _ s.subcommand_required _ required checked

-- and what they leave to the subcommand has no fault
level_leaves : (s : Shape) (names : Names) (h : Held) (words : List Text) (has : Bool) (below : Kinds) → level_fault s names h words has below ≡ [] → below ≡ []
level_leaves s names h words has below taken = first_step below _ (second_step (walk_fault s names (walk_from h) words) _ taken)

-- `play` or `step`, once built
abbrev player : Text → Shape
player name = built_leaf (inherited (built ringplay).top (playing name).top)

-- `check`, once built
abbrev checker : Shape
checker = built_leaf (inherited (built ringplay).top (new_app (codes "check")).top)

-- the first of the four that answers to the name
abbrev first : Bool → Bool → Bool → Bool → Option Shape
first x y z w = cond x (Some (player (codes "play"))) (cond y (Some (player (codes "step"))) (cond z (Some checker) (cond w (Some loader) None)))

-- with its rows
abbrev rows_of_first : List Text → Option Shape → Option (Text × List Row)
rows_of_first words = option_map (λ s. rows_at s words)

-- and what is wrong with the words
abbrev fault_of_first : List Text → Option Shape → Kinds
fault_of_first words s = option_map_or (λ s. level_fault s [] nothing_held words false []) s []

-- a subcommand that is entered with no fault is one of the four
one_of_four : (stop : Option (Text × List Text)) → is_some (entered (built ringplay) stop) ≡ true → entered_fault (built ringplay) stop ≡ [] → IsEntered (entered (built ringplay) stop)
one_of_four None e f = cc
one_of_four (Some p) e f = go (answers_to p.0 (label_of (player (codes "play")))) (answers_to p.0 (label_of (player (codes "step")))) (answers_to p.0 (label_of checker)) (answers_to p.0 (label_of loader)) e f
  where
    go : (x y z w : Bool) → is_some (rows_of_first p.1 (first x y z w)) ≡ true → fault_of_first p.1 (first x y z w) ≡ [] → IsEntered (rows_of_first p.1 (first x y z w))
    go true y z w e f =
        let rows = flag_rows p.1 in
        (plays rows.0, ap (λ rs. Some (codes "play", rs)) rows.1, tt)
    go false true z w e f =
        let rows = flag_rows p.1 in
        (steps rows.0, ap (λ rs. Some (codes "step", rs)) rows.1, tt)
    go false false true w e f = (checks, ap (λ rs. Some (codes "check", rs)) (no_rows p.1), tt)
    go false false false true e f =
        let rows = loaded p.1 f in
        (loads rows.0 rows.1, ap (λ rs. Some (codes "load", rs)) rows.2, (rows.3, rows.4))
    go false false false false e f = cc

-- the subcommand of words that the command takes is one of the four, with what they hold
pub entered_by : (words : List Text) → fault_of ringplay words ≡ [] → IsEntered (subcommand_of ringplay words)
entered_by words taken =
    let top = (built ringplay).top in
    let names = names_of (built ringplay) in
    let stop = stop_after top.rules names words in
    let has = is_some (subcommand_of ringplay words) in
    let below = entered_fault (built ringplay) stop in
    one_of_four stop (level_needs top names nothing_held words has below refl taken) (level_leaves top names nothing_held words has below taken)
