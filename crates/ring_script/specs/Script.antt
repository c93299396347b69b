-- What a line of a script says behind the opening ones, and what is wrong with it.
use Rattle.std.specs.Prelude.{ℕ, if◌then◌else◌, Option, Some, None, unwrap_or, option_and_then, List, [], ◌∷◌, codes, bytes_eq}
use Rattle.std.specs.List.{flat_map}
use Rattle.ring_rules.specs.declared.event.Client.{Client}
use Rattle.ring_rules.specs.declared.event.Client.TheVariants as client
use Rattle.ring_script.specs.declared.command.Command.{Command}
use Rattle.ring_script.specs.declared.command.Command.TheVariants as command
use Rattle.ring_script.specs.declared.fault.Kind.{Kind}
use Rattle.ring_script.specs.declared.fault.Kind.TheVariants.{UnknownCommand}
use Rattle.ring_script.specs.declared.script.Keyword.{Keyword}
use Rattle.ring_script.specs.declared.script.Keyword.TheVariants.{Asks, Go, Settle}
use Rattle.ring_script.specs.declared.vocabulary.Word.TheVariants as word
use Rattle.ring_script.specs.Words.{words_of, number_of}
use Rattle.ring_script.specs.Line.{Grammar, operand_in, no_word, one_word, known_fault, further_fault, number_fault}
use Rattle.ring_script.specs.Vocabulary.{shape_of, client_said}
use Rattle.ring_script.specs.Phrase.{phrase_fault, phrase_in}

-- the command that a word begins
abbrev pub keyword_of : List ℕ → Option Keyword
keyword_of text =
    if bytes_eq text (codes "cast") then Some (Asks word.Cast)
    else (if bytes_eq text (codes "publish") then Some (Asks word.Publish)
    else (if bytes_eq text (codes "get") then Some (Asks word.Get)
    else (if bytes_eq text (codes "pop") then Some (Asks word.Pop)
    else (if bytes_eq text (codes "ack") then Some (Asks word.Ack)
    else (if bytes_eq text (codes "requeue") then Some (Asks word.Requeue)
    else (if bytes_eq text (codes "join") then Some (Asks word.Admit)
    else (if bytes_eq text (codes "kill") then Some (Asks word.Stop)
    else (if bytes_eq text (codes "go") then Some Go
    else (if bytes_eq text (codes "settle") then Some Settle
    else None)))))))))

-- how many turns a round has at most
abbrev pub most_turns : ℕ
most_turns = 1000

-- of a member that is asked the name is known, and a newcomer's is a further one; `go` has the number of turns; `settle` has no
-- further word
abbrev pub command_fault : List (List ℕ) → Option Keyword → List ℕ → Option Kind
command_fault known (Some (Asks w)) rest = phrase_fault (known_fault known) (further_fault known) (shape_of w) rest
command_fault known (Some Go) rest = one_word (number_fault most_turns) (words_of rest)
command_fault known (Some Settle) rest = no_word (words_of rest)
command_fault known None rest = Some UnknownCommand

-- the command that has a member do what a client asks, where scripts have one; they have none that opens a copy
abbrev pub command_asking : Client → Option Command
command_asking (client.Cast by body) = Some (command.Cast by body)
command_asking (client.Publish by body) = Some (command.Publish by body)
command_asking (client.Get by) = Some (command.Get by)
command_asking (client.Pop by) = Some (command.Pop by)
command_asking (client.Ack by at) = Some (command.Ack by at)
command_asking (client.Requeue by at) = Some (command.Requeue by at)
command_asking (client.Sync by target) = None
command_asking (client.Admit by name) = Some (command.Join by name)
command_asking (client.Stop by) = Some (command.Kill by)

-- the command that a line gives, by its keyword and its rest
abbrev pub command_by : Option Keyword → List ℕ → Command
command_by (Some (Asks w)) rest = unwrap_or (option_and_then command_asking (client_said (phrase_in w rest))) command.Settle
command_by (Some Go) rest = command.Go (unwrap_or (number_of most_turns (operand_in rest)) 0)
command_by (Some Settle) rest = command.Settle
command_by None rest = command.Settle

-- by its first word and its rest
abbrev pub command_of : List ℕ → List ℕ → Command
command_of word rest = command_by (keyword_of word) rest

-- the name that a command has join, or none
abbrev pub joined_by : Command → List (List ℕ)
joined_by (command.Join by name) = name ∷ []
joined_by x = []

-- the names that commands have join, in order
abbrev pub joined : List Command → List (List ℕ)
joined commands = flat_map joined_by commands

-- what is wrong with a command, and the name that it has join, by its first word and its rest
abbrev pub script_grammar : Grammar
script_grammar = record { fault = λ known word rest. command_fault known (keyword_of word) rest; joins = λ word rest. joined_by (command_of word rest) }
