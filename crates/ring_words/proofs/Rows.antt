-- Words that the command takes, with what they ask for, and words that it refuses.
use Rattle.std.proofs.Common.{◌≡◌, Bool, true, false, List, [], ◌∷◌, Some, codes, refl, ap}
use Rattle.clap.specs.Kinds.{Kinds}
use Rattle.clap.specs.Words.{Text, fault_of}
use Rattle.clap.proofs.OnLiterals.{clap_on_literals}
use Rattle.ring_words.specs.Words.{IsRefused, means, named_by, ringplay}
use Rattle.ring_words.specs.declared.asked.Asked.{Asked}
use Rattle.ring_words.specs.declared.asked.Asked.TheVariants.{Play, Step, Check, Load}

-- the command takes the words, and they ask for this
abbrev pub AskFor : List Text → Asked → Type 0
AskFor words asked = (fault_of ringplay words ≡ []) × (named_by words ≡ Some (means asked))

-- whether there is no fault
abbrev none : Kinds → Bool
none [] = true
none (kind ∷ kinds) = false

-- words with a fault are refused
faulty : (words : List Text) → none (fault_of ringplay words) ≡ false → IsRefused words
faulty words e taken =
    let is_none = ap none taken in
    cc

-- what each taken row asks for
pub play : AskFor (codes "play" ∷ []) (Play false)
unfolding clap_on_literals
play = (refl, refl)

pub play_journal : AskFor (codes "play" ∷ codes "--journal" ∷ []) (Play true)
unfolding clap_on_literals
play_journal = (refl, refl)

pub step : AskFor (codes "step" ∷ []) (Step false)
unfolding clap_on_literals
step = (refl, refl)

pub step_journal : AskFor (codes "step" ∷ codes "--journal" ∷ []) (Step true)
unfolding clap_on_literals
step_journal = (refl, refl)

pub check : AskFor (codes "check" ∷ []) Check
unfolding clap_on_literals
check = (refl, refl)

pub dashes_behind : AskFor (codes "play" ∷ codes "--" ∷ []) (Play false)
unfolding clap_on_literals
dashes_behind = (refl, refl)

pub load_words : AskFor (codes "load" ∷ codes "3000" ∷ codes "7" ∷ []) (Load 3000 7)
unfolding clap_on_literals
load_words = (refl, refl)

pub load_least : AskFor (codes "load" ∷ codes "2" ∷ codes "0" ∷ []) (Load 2 0)
unfolding clap_on_literals
load_least = (refl, refl)

pub load_most : AskFor (codes "load" ∷ codes "3900" ∷ codes "1000000" ∷ []) (Load 3900 1000000)
unfolding clap_on_literals
load_most = (refl, refl)

pub load_signed : AskFor (codes "load" ∷ codes "+5" ∷ codes "007" ∷ []) (Load 5 7)
unfolding clap_on_literals
load_signed = (refl, refl)

pub load_minus_nothing : AskFor (codes "load" ∷ codes "--" ∷ codes "5" ∷ codes "-0" ∷ []) (Load 5 0)
unfolding clap_on_literals
load_minus_nothing = (refl, refl)

-- each further row is refused
pub no_words : IsRefused []
unfolding clap_on_literals
no_words = faulty [] refl

pub other_name : IsRefused (codes "fly" ∷ [])
unfolding clap_on_literals
other_name = faulty (codes "fly" ∷ []) refl

pub further_word : IsRefused (codes "play" ∷ codes "x" ∷ [])
unfolding clap_on_literals
further_word = faulty (codes "play" ∷ codes "x" ∷ []) refl

pub journal_of_check : IsRefused (codes "check" ∷ codes "--journal" ∷ [])
unfolding clap_on_literals
journal_of_check = faulty (codes "check" ∷ codes "--journal" ∷ []) refl

pub journal_twice : IsRefused (codes "play" ∷ codes "--journal" ∷ codes "--journal" ∷ [])
unfolding clap_on_literals
journal_twice = faulty (codes "play" ∷ codes "--journal" ∷ codes "--journal" ∷ []) refl

pub help_flag : IsRefused (codes "play" ∷ codes "--help" ∷ [])
unfolding clap_on_literals
help_flag = faulty (codes "play" ∷ codes "--help" ∷ []) refl

pub value_of_journal : IsRefused (codes "play" ∷ codes "--journal=true" ∷ [])
unfolding clap_on_literals
value_of_journal = faulty (codes "play" ∷ codes "--journal=true" ∷ []) refl

pub part_of_journal : IsRefused (codes "play" ∷ codes "--jour" ∷ [])
unfolding clap_on_literals
part_of_journal = faulty (codes "play" ∷ codes "--jour" ∷ []) refl

pub dashes_before : IsRefused (codes "--" ∷ codes "play" ∷ [])
unfolding clap_on_literals
dashes_before = faulty (codes "--" ∷ codes "play" ∷ []) refl

pub load_alone : IsRefused (codes "load" ∷ [])
unfolding clap_on_literals
load_alone = faulty (codes "load" ∷ []) refl

pub load_of_no_seed : IsRefused (codes "load" ∷ codes "5" ∷ [])
unfolding clap_on_literals
load_of_no_seed = faulty (codes "load" ∷ codes "5" ∷ []) refl

pub load_too_small : IsRefused (codes "load" ∷ codes "1" ∷ codes "7" ∷ [])
unfolding clap_on_literals
load_too_small = faulty (codes "load" ∷ codes "1" ∷ codes "7" ∷ []) refl

pub load_too_large : IsRefused (codes "load" ∷ codes "3901" ∷ codes "7" ∷ [])
unfolding clap_on_literals
load_too_large = faulty (codes "load" ∷ codes "3901" ∷ codes "7" ∷ []) refl

pub load_of_a_word : IsRefused (codes "load" ∷ codes "5" ∷ codes "x" ∷ [])
unfolding clap_on_literals
load_of_a_word = faulty (codes "load" ∷ codes "5" ∷ codes "x" ∷ []) refl

pub load_seed_too_large : IsRefused (codes "load" ∷ codes "5" ∷ codes "1000001" ∷ [])
unfolding clap_on_literals
load_seed_too_large = faulty (codes "load" ∷ codes "5" ∷ codes "1000001" ∷ []) refl

pub load_further_number : IsRefused (codes "load" ∷ codes "5" ∷ codes "7" ∷ codes "7" ∷ [])
unfolding clap_on_literals
load_further_number = faulty (codes "load" ∷ codes "5" ∷ codes "7" ∷ codes "7" ∷ []) refl

pub load_with_journal : IsRefused (codes "load" ∷ codes "--journal" ∷ codes "5" ∷ codes "7" ∷ [])
unfolding clap_on_literals
load_with_journal = faulty (codes "load" ∷ codes "--journal" ∷ codes "5" ∷ codes "7" ∷ []) refl

pub load_hyphen : IsRefused (codes "load" ∷ codes "5" ∷ codes "-0" ∷ [])
unfolding clap_on_literals
load_hyphen = faulty (codes "load" ∷ codes "5" ∷ codes "-0" ∷ []) refl

pub load_negative : IsRefused (codes "load" ∷ codes "--" ∷ codes "-5" ∷ codes "7" ∷ [])
unfolding clap_on_literals
load_negative = faulty (codes "load" ∷ codes "--" ∷ codes "-5" ∷ codes "7" ∷ []) refl
