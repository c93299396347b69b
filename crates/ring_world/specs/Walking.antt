-- What the code of the walk reads at each stop.
use Rattle.std.specs.Prelude.{ℕ, Bool, true, not, ◌&&◌, nat_eq, nat_le, List, [], ◌∷◌, ◌++◌, map, filter}
use Rattle.ring_rules.specs.declared.numbers.Numbers.{Numbers}
use Rattle.ring_rules.specs.Rows.{Row}
use Rattle.group_view.specs.View.{Group, entry_in}
use Rattle.ring_world.specs.declared.walk.Round.{Round}
use Rattle.ring_world.specs.declared.walk.Round.TheVariants.{Got, Forgot}
use Rattle.ring_world.specs.declared.walk.Part.{Part}
use Rattle.ring_world.specs.declared.walk.Part.TheVariants.{Every, Early, Late}
use Rattle.ring_rules.specs.View.{left_of}
use Rattle.ring_rules.specs.Machine.{Packet, Link, World, numbers_at}
use Rattle.ring_rules.specs.OpenLinks.{is_late, open_links, packets_on, number}

-- which numbers of a packet a round reads
abbrev pub reads : Round → Numbers → ℕ
reads Got k = k.got
reads Forgot k = k.forgot

-- and of a row
abbrev pub reads_row : Round → Row → ℕ
reads_row Got a = a.got
reads_row Forgot a = a.forgot

-- of one origin
abbrev pub says : Round → ℕ → Packet → ℕ
says round p k = reads round (numbers_at k p)

-- which of the links that are open to a member count
abbrev pub counts : Part → World → ℕ → ℕ → ℕ → Bool
counts Every w p y s = true
counts Early w p y s = not (is_late w p y s)
counts Late w p y s = is_late w p y s

-- what their packets say, the newest first
abbrev pub said_on : Round → Part → World → ℕ → ℕ → List ℕ → List ℕ
said_on round part w p y links = map (says round p) (packets_on w y (filter (counts part w p y) links))

-- all of them
abbrev pub said : Round → Part → World → ℕ → ℕ → List ℕ
said round part w p y = said_on round part w p y (open_links w y)

-- a sender at this view's left, which it was already when the link opened
abbrev pub is_from_left : Group → ℕ → Link → Bool
is_from_left v y l = nat_eq l.sender (left_of v y) && nat_le (entry_in v.entries y).since l.opened

-- they, and the member's own number
abbrev pub stop_says : Round → Part → World → ℕ → ℕ → List ℕ
stop_says round part w p y = said round part w p y ++ number (reads round) (reads_row round) w p y ∷ []
