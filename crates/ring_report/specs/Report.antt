-- The report of a state of the ring, and of what was refused until then.
use Rattle.std.specs.Prelude.{ℕ, ◌-◌, Bool, true, false, List, [], ◌∷◌, ◌++◌, codes, Option, Some, None, bytes_eq}
use Rattle.std.specs.List.{range_with_len, flat_map, filter}
use Rattle.std.specs.Fmt.{decimal}
use Rattle.queue_core.specs.declared.message.Message.{Message}
use Rattle.queue_core.specs.declared.held.CopyState.{CopyState}
use Rattle.queue_core.specs.declared.held.CopyState.TheVariants.{Ready, Again, Unacked}
use Rattle.queue_core.specs.Queue.{Item}
use Rattle.ring_names.specs.declared.numbers.MemberId.{MemberId}
use Rattle.group_view.specs.declared.entry.Entry.{Entry}
use Rattle.group_view.specs.declared.entry.Mark.{Mark}
use Rattle.group_view.specs.declared.entry.Mark.TheVariants.{Live, Dead, Erased}
use Rattle.group_view.specs.View.{Group, entry_in}
use Rattle.ring_rules.specs.declared.event.Event.{Event}
use Rattle.ring_rules.specs.declared.event.Event.TheVariants.{Refuse}
use Rattle.ring_rules.specs.declared.shown.MemberState.{MemberState}
use Rattle.ring_rules.specs.declared.shown.MemberState.TheVariants as state
use Rattle.ring_rules.specs.declared.shown.Counts.{Counts}
use Rattle.ring_rules.specs.Machine.{World, member_at, row_at, view_in, newest}
use Rattle.ring_rules.specs.Step.{size}
use Rattle.ring_rules.specs.Event.{by_of}
use Rattle.ring_rules.specs.Asked.{counts_of, state_of}
use Rattle.ring_rules.specs.Published.{told_of}
use Rattle.ring_script.specs.declared.vocabulary.Further.{Further}
use Rattle.ring_script.specs.declared.vocabulary.Further.TheVariants as further
use Rattle.ring_script.specs.declared.vocabulary.Phrase.{Phrase}
use Rattle.ring_script.specs.Vocabulary.{text_of, asked_phrase}

-- the name of the member of an id
abbrev pub name_of : World → ℕ → List ℕ
name_of w x = (member_at w x).name

-- the view that the group has now
abbrev pub newest_view : World → Group
newest_view w = view_in w (newest w)

-- the line feed that ends a line
abbrev pub newline : List ℕ
newline = 10 ∷ []

-- the name of the master, where there is one
abbrev pub master_name : List Entry → Option MemberId → List ℕ
master_name entries None = codes "none"
master_name entries (Some id) = (entry_in entries id.0).name

-- the view, the term and the master
abbrev pub ring_line : Group → List ℕ
ring_line g = codes "ring view=" ++ decimal g.version ++ codes " term=" ++ decimal g.term ++ codes " master=" ++ master_name g.entries g.master ++ newline

-- how many messages a mirror lacks, where that is known
abbrev pub missing_text : Option ℕ → List ℕ
missing_text None = codes "?"
missing_text (Some n) = decimal n

-- of a member that is up, whether it is registered as synchronised, or else what its mirror lacks
abbrev pub up_text : Bool → Option ℕ → List ℕ
up_text true missing = codes " up synced"
up_text false missing = codes " up missing=" ++ missing_text missing

-- of one that has stopped, whether nothing of what it published is on its way any more
abbrev pub stopped_text : Mark → List ℕ
stopped_text Live = codes " stopped"
stopped_text Dead = codes " stopped"
stopped_text Erased = codes " erased"

-- where a member stands that has this entry, and whose mirror lacks so many messages
abbrev pub state_text : MemberState → Entry → List ℕ
state_text state.Waiting e = codes " waiting"
state_text (state.Up missing) e = up_text e.synced missing
state_text state.Stopped e = stopped_text e.mark

-- the line of it
abbrev pub member_line : List ℕ → MemberState → Entry → List ℕ
member_line name stands e = codes "member " ++ name ++ state_text stands e ++ newline

-- how many messages of its own it has published, and how many of them are confirmed
abbrev pub counts_lines : Counts → List ℕ
counts_lines c =
    codes "casts " ++ decimal c.casts ++ codes " confirmed " ++ decimal c.casts_confirmed ++ newline
    ++ codes "publishes " ++ decimal c.publishes ++ codes " confirmed " ++ decimal c.publishes_confirmed ++ newline

-- the line of a cast of the origin of that name, by its body, where there is one
abbrev pub cast_line : List ℕ → Option (List ℕ) → List ℕ
cast_line origin None = []
cast_line origin (Some body) = codes "heard " ++ origin ++ codes " " ++ body ++ newline

-- one message of that origin, as a member received it; of what a master does to its queue nothing is told
abbrev pub heard_line : List ℕ → Message → List ℕ
heard_line origin m = cast_line origin (told_of m)

-- what the member x has received of the origin p, in order: from its first message on, or from its base on where x joined
abbrev pub heard_from : World → ℕ → ℕ → List ℕ
heard_from w x p = flat_map (heard_line (name_of w p)) (row_at (member_at w x) p).heard

-- each cast that a member has received, by origin in order of ids; its own are all its casts
abbrev pub heard_lines : World → ℕ → List ℕ
heard_lines w x = flat_map (heard_from w x) (range_with_len 1 (size w - 1))

-- the position and the body of an item behind a word
abbrev pub item_line : List ℕ → ℕ → List ℕ → List ℕ
item_line word at body = word ++ codes " " ++ decimal at ++ codes " " ++ body ++ newline

-- of an item that waits to be handed out, or to be handed out again
abbrev pub waiting_line : CopyState → ℕ → List ℕ → List ℕ
waiting_line Ready at body = item_line (codes "ready") at body
waiting_line Again at body = item_line (codes "again") at body
waiting_line Unacked at body = []

-- of one that is handed out
abbrev pub handed_line : CopyState → ℕ → List ℕ → List ℕ
handed_line Ready at body = []
handed_line Again at body = []
handed_line Unacked at body = item_line (codes "unacked") at body

-- a ready item of a mirror, by its position and its body
abbrev pub ready_line : Item → List ℕ
ready_line i = waiting_line i.state i.at i.body

-- one that is handed out
abbrev pub unacked_line : Item → List ℕ
unacked_line i = handed_line i.state i.at i.body

-- what is told of an item among those that are handed out, or among the others
abbrev pub told_line : Bool → Item → List ℕ
told_line true i = unacked_line i
told_line false i = ready_line i

-- the items of a mirror: the ready ones by their positions, and then those that are handed out
abbrev pub item_lines : List Item → List ℕ
item_lines items = flat_map (told_line false) items ++ flat_map (told_line true) items

-- what is told of a member that is up
abbrev pub while_up : MemberState → List ℕ → List ℕ
while_up state.Waiting lines = []
while_up (state.Up missing) lines = lines
while_up state.Stopped lines = []

-- what stands behind the member's name, if anything does, behind a space
abbrev pub further_text : Further → List ℕ
further_text further.Nothing = []
further_text (further.Body body) = codes " " ++ body
further_text (further.Name name) = codes " " ++ name
further_text (further.Position at) = codes " " ++ decimal at.0
further_text (further.Version version) = codes " " ++ decimal version

-- a phrase, in the words of a step file
abbrev pub phrase_text : Phrase → List ℕ
phrase_text p = text_of p.word ++ codes " " ++ p.by ++ further_text p.further

-- the line of a refusal: its number, and what was refused
abbrev pub refusal_line : Event → List ℕ
refusal_line (Refuse code inner) = codes "refused " ++ decimal code ++ codes " " ++ phrase_text (asked_phrase inner) ++ newline
refusal_line e = []

-- the lines of those among refusals that are of the member of this name, in their order
abbrev pub refusal_lines : List ℕ → List Event → List ℕ
refusal_lines name refusals = flat_map refusal_line (filter (λ e. bytes_eq (by_of e) name) refusals)

-- where the member x stands
abbrev pub stands_at : World → ℕ → MemberState
stands_at w x = state_of (member_at w x).mirror.missing (member_at w x).phase

-- the lines of the member x, where these were refused
abbrev pub lines_of_member : World → List Event → ℕ → List ℕ
lines_of_member w refusals x =
    member_line (name_of w x) (stands_at w x) (entry_in (newest_view w).entries x) ++ counts_lines (counts_of x (member_at w x))
    ++ while_up (stands_at w x) (heard_lines w x) ++ while_up (stands_at w x) (item_lines (member_at w x).mirror.queue.items)
    ++ refusal_lines (name_of w x) refusals

-- the ring, and then each member that it has ever had, by its id, with its refusals among these
abbrev pub report_of : World → List Event → List ℕ
report_of w refusals = ring_line (newest_view w) ++ flat_map (lines_of_member w refusals) (range_with_len 1 (size w - 1))
