-- The command that reads the program's words, and what they ask for.
use Rattle.std.specs.Prelude.{◌≡◌, ◌≤◌, ◌<◌, ◌^◌, ⊤, ℕ, pos, Bool, List, [], true, false, Option, Some, None, IsSomeAnd, codes, option_map}
use Rattle.std.specs.Str.Parse.{IsNumeral, digits_value, without_leading_plus}
use Rattle.clap.specs.Words.{App, Row, Rule, Text, fault_of, first_of, new_app, new_rule, one_of, subcommand_of, with_rule, with_subcommand}
use Rattle.clap.specs.declared.builder.ArgAction.TheVariants.{Set, SetTrue}
use Rattle.clap.specs.declared.builder.value_parser.ValueParser.TheVariants.{Signed}
use Rattle.ring_words.specs.declared.asked.Asked.{Asked}
use Rattle.ring_words.specs.declared.asked.Asked.TheVariants.{Play, Step, Check, Load}

-- the flag `--journal`
abbrev pub journal_rule : Rule
journal_rule = record (new_rule (codes "journal")) { long = Some (codes "journal"); action = Some SetTrue }

-- `play` or `step`, with its flag
abbrev pub playing : Text → App
playing name = with_rule (new_app name) journal_rule

-- a required number, from a least to a most
abbrev pub number_rule : Text → ℕ → ℕ → Rule
number_rule id least most =
    record (new_rule id) { required = true; action = Some Set; parser = Some (Signed (pos least) (pos most)) }

-- `load`, with its two numbers
abbrev pub loading : App
loading =
    with_rule (with_rule (new_app (codes "load"))
    (number_rule (codes "SIZE") 2 3900))
    (number_rule (codes "SEED") 0 1000000)

-- the command without its subcommands: no program's name in front, no help, no version, and a subcommand is required
abbrev pub bare : App
bare = record (new_app (codes "ringplay")) {
  top = record ((new_app (codes "ringplay")).top) {
    no_binary_name = true;
    disable_help_flag = true;
    disable_help_subcommand = true;
    disable_version_flag = true;
    subcommand_required = true;
  };
}

-- the whole command: `play [--journal]`, `step [--journal]`, `check` and `load SIZE SEED`
abbrev pub ringplay : App
ringplay =
    with_subcommand (with_subcommand (with_subcommand (with_subcommand bare
    (playing (codes "play")).top)
    (playing (codes "step")).top)
    (new_app (codes "check")).top)
    loading.top

-- the command refuses the words: it has a fault for them
abbrev pub IsRefused : List Text → Type 0
IsRefused words = fault_of ringplay words ≡ [] → ⊥

-- the text of a flag
abbrev pub flag_text : Bool → Text
flag_text true = codes "true"
flag_text false = codes "false"

-- what is named: a subcommand, the text of its flag, and its two numbers
pub record Named : Type 0 where
  pub name : Text
  pub flag : Option Text
  pub size : Option ℕ
  pub seed : Option ℕ

-- what is asked for, as what is named for it
abbrev pub means : Asked → Named
means (Play journal) = record { name = codes "play"; flag = Some (flag_text journal); size = None; seed = None }
means (Step journal) = record { name = codes "step"; flag = Some (flag_text journal); size = None; seed = None }
means Check = record { name = codes "check"; flag = None; size = None; seed = None }
means (Load blocks seed) = record { name = codes "load"; flag = None; size = Some blocks; seed = Some seed }

-- the numbers that are asked for are in their ranges
abbrev pub IsInRange : Asked → Type 0
IsInRange (Load blocks seed) = (2 ≤ blocks) × (blocks ≤ 3900) × (seed ≤ 1000000)
IsInRange _ = ⊤

-- the number that a text writes: an optional plus sign, and digits
abbrev pub number_of : Text → ℕ
number_of text = digits_value 10 (without_leading_plus text)

-- the number of an argument, by its text as it is read
abbrev pub number_in : Text → List Row → Option ℕ
number_in id rows = option_map number_of (one_of id rows)

-- a subcommand with its rows, as what it names
abbrev pub named : Option (Text × List Row) → Option Named
named = option_map (λ entered. record {
  name = entered.0;
  flag = first_of (codes "journal") entered.1;
  size = number_in (codes "SIZE") entered.1;
  seed = number_in (codes "SEED") entered.1;
})

-- what the words name
abbrev pub named_by : List Text → Option Named
named_by words = named (subcommand_of ringplay words)

-- a subcommand is the one that some words name which the command takes
abbrev pub IsOfTaken : Option (Text × List Row) → Type 0
IsOfTaken entered = (words : List Text) × (fault_of ringplay words ≡ []) × (entered ≡ subcommand_of ringplay words)

-- there is a text, and it writes a number of 32 bits
abbrev pub WritesNumber : Option Text → Type 0
WritesNumber text = IsSomeAnd text (λ t. IsNumeral 10 (without_leading_plus t) × (number_of t < 2 ^ 32))
