-- A large script that is the same each time: half of its blocks under one master, which is then killed, and half under the next.
use Rattle.std.specs.Prelude.{◌≡◌, ℕ, ◌+◌, ◌-◌, ◌/◌, ◌%◌, ◌≤◌, ◌==◌, nat_le, if◌then◌else◌, List, [], ◌∷◌, ◌++◌, length, map, codes, decimal}
use Rattle.std.specs.List.{flat_map, enumerate_from, range_with_len}
use Rattle.ring_script.specs.declared.command.Command.{Command}
use Rattle.ring_script.specs.declared.command.Command.TheVariants as command
use Rattle.ring_script.specs.declared.text.Text.{Text}
use Rattle.ring_script.specs.Reading.{usual_credit}

-- ---- members

-- with how many members the ring opens, by the seed
abbrev pub openers : ℕ → ℕ
openers seed = 3 + seed % 6

-- the name of the member at a place, from 0
abbrev pub name_at : ℕ → List ℕ
name_at place = codes "m" ++ decimal place

-- the member that casts in block j: any but the first
abbrev pub caster : ℕ → ℕ → List ℕ
caster seed j = name_at (1 + (j + seed) % (openers seed - 1))

-- the number of the block behind which the first master is killed
abbrev pub half : ℕ → ℕ
half blocks = blocks / 2

-- the master of block j
abbrev pub leader : ℕ → ℕ → List ℕ
leader blocks j = if nat_le j (half blocks) then name_at 0 else name_at 1

-- ---- bodies

-- what is cast in block j
abbrev pub cast_body : ℕ → List ℕ
cast_body j = codes "c" ++ decimal j

-- what is published first
abbrev pub first_body : ℕ → List ℕ
first_body j = codes "p" ++ decimal j ++ codes "a"

-- and second
abbrev pub second_body : ℕ → List ℕ
second_body j = codes "p" ++ decimal j ++ codes "b"

-- ---- commands

-- what is asked in block j
abbrev pub asked_in : ℕ → ℕ → ℕ → List Command
asked_in blocks seed j =
    command.Cast (caster seed j) (cast_body j)
    ∷ command.Publish (leader blocks j) (first_body j)
    ∷ command.Publish (leader blocks j) (second_body j)
    ∷ command.Get (leader blocks j)
    ∷ command.Ack (leader blocks j) (record { 0 = j })
    ∷ []

-- the ring settles behind each 50th block
abbrev pub settled_at : ℕ → List Command
settled_at j = if j % 50 == 0 then command.Settle ∷ [] else []

-- the first master hands out a message more, and is killed
abbrev pub turn : List Command
turn = command.Get (name_at 0) ∷ command.Settle ∷ command.Kill (name_at 0) ∷ command.Settle ∷ []

-- which it is behind the first half
abbrev pub turned_at : ℕ → ℕ → List Command
turned_at blocks j = if j == half blocks then turn else []

-- the commands of block j
abbrev pub block_of : ℕ → ℕ → ℕ → List Command
block_of blocks seed j = asked_in blocks seed j ++ (settled_at j ++ turned_at blocks j)

-- the commands of all blocks, from 1 on
abbrev pub load_commands : ℕ → ℕ → List Command
load_commands blocks seed = flat_map (block_of blocks seed) (range_with_len 1 blocks)

-- ---- the script

-- these numbers of blocks and these seeds make one
abbrev pub IsLoadable : ℕ → ℕ → Type 0
IsLoadable blocks seed = (2 ≤ blocks) × (blocks ≤ 3900) × (seed ≤ 1000000)

-- a script is the load: its members, the usual credit, and its commands, each behind the number of its line, where the
-- members stand on the first
pub record IsLoad (blocks seed : ℕ) (script : Text Command) : Type 0 where
  pub members : script.members ≡ map name_at (range_with_len 0 (openers seed))
  pub credit : (script.credit.initial, script.credit.more) ≡ usual_credit
  pub lines : script.lines ≡ enumerate_from 2 (load_commands blocks seed)

-- ---- how it is made

-- lines, and behind them commands that follow on the next ones
abbrev pub with_commands : List (ℕ × Command) → List Command → List (ℕ × Command)
with_commands lines commands = lines ++ enumerate_from (2 + length lines) commands
