-- The summary of a ring: what its members have published together, and what its master's mirror holds.
use Rattle.std.specs.Prelude.{ℕ, ◌-◌, ◌&&◌, not, nat_le, nat_lt, if◌then◌else◌, Bool, true, false, Option, Some, None, List, [], ◌++◌, length, map, codes, count_by}
use Rattle.std.specs.List.{range_with_len, sum_by}
use Rattle.std.specs.Fmt.{decimal}
use Rattle.ring_names.specs.declared.numbers.MemberId.{MemberId}
use Rattle.queue_core.specs.declared.held.CopyState.{CopyState}
use Rattle.queue_core.specs.declared.held.CopyState.TheVariants.{Ready, Again, Unacked}
use Rattle.queue_core.specs.Queue.{Item}
use Rattle.group_view.specs.View.{Group}
use Rattle.ring_rules.specs.declared.shown.MemberState.{MemberState}
use Rattle.ring_rules.specs.declared.shown.MemberState.TheVariants as state
use Rattle.ring_rules.specs.declared.shown.Counts.{Counts}
use Rattle.ring_rules.specs.Machine.{World, member_at}
use Rattle.ring_rules.specs.Step.{size}
use Rattle.ring_rules.specs.Asked.{counts_of}
use Rattle.ring_report.specs.declared.summing.Counted.{Counted}
use Rattle.ring_report.specs.declared.summing.Counted.TheVariants.{Casts, CastsConfirmed, Publishes, PublishesConfirmed}
use Rattle.ring_report.specs.Report.{newest_view, newline, master_name, counts_lines, stands_at}

-- whether a member is up
abbrev pub is_up : MemberState → Bool
is_up state.Waiting = false
is_up (state.Up missing) = true
is_up state.Stopped = false

-- a number that members have
abbrev pub number_of : Counted → Counts → ℕ
number_of Casts c = c.casts
number_of CastsConfirmed c = c.casts_confirmed
number_of Publishes c = c.publishes
number_of PublishesConfirmed c = c.publishes_confirmed

-- what members have published together, and how much of it is confirmed
abbrev pub together : List Counts → Counts
together all = record {
  casts = sum_by (number_of Casts) all;
  casts_confirmed = sum_by (number_of CastsConfirmed) all;
  publishes = sum_by (number_of Publishes) all;
  publishes_confirmed = sum_by (number_of PublishesConfirmed) all;
}

-- whether an item is handed out
abbrev pub is_handed : CopyState → Bool
is_handed Ready = false
is_handed Again = false
is_handed Unacked = true

-- how many items are handed out, or are not
abbrev pub count_handed : Bool → List Item → ℕ
count_handed true items = count_by (λ i. is_handed i.state) items
count_handed false items = count_by (λ i. not (is_handed i.state)) items

-- how many members there are and are up
abbrev pub members_line : List MemberState → List ℕ
members_line states = codes "members " ++ decimal (length states) ++ codes " up " ++ decimal (count_by is_up states) ++ newline

-- the master, its term and the version of its view
abbrev pub master_line : Group → List ℕ
master_line g = codes "master " ++ master_name g.entries g.master ++ codes " term " ++ decimal g.term ++ codes " view " ++ decimal g.version ++ newline

-- how many items are ready, and how many are handed out
abbrev pub depth_line : List Item → List ℕ
depth_line items = codes "ready " ++ decimal (count_handed false items) ++ codes " unacked " ++ decimal (count_handed true items) ++ newline

-- the lines for so many blocks, members that stand so and have published so much, this view, and the items of the master's mirror
abbrev pub summary_text : ℕ → List MemberState → List Counts → Group → List Item → List ℕ
summary_text blocks states counts g items =
    codes "blocks " ++ decimal blocks ++ newline ++ members_line states ++ counts_lines (together counts) ++ master_line g ++ depth_line items

-- the ids of all members that the ring has ever had
abbrev pub ids_of : World → List ℕ
ids_of w = range_with_len 1 (size w - 1)

-- what the member x has published
abbrev pub published_by : World → ℕ → Counts
published_by w x = counts_of x (member_at w x)

-- the items of the mirror of the member x, where the ring has it
abbrev pub items_at : World → ℕ → List Item
items_at w x = if nat_le 1 x && nat_lt x (size w) then (member_at w x).mirror.queue.items else []

-- the items of the mirror of the master, where there is one
abbrev pub master_items : World → Option MemberId → List Item
master_items w None = []
master_items w (Some id) = items_at w id.0

-- the summary of a state of the ring
abbrev pub summary_of : ℕ → World → List ℕ
summary_of blocks w = summary_text blocks (map (stands_at w) (ids_of w)) (map (published_by w) (ids_of w)) (newest_view w) (master_items w (newest_view w).master)
