-- How much is left of what clients asked, as one number that falls at each task that is done, refused, or handed on.
use Rattle.std.specs.Prelude.{ℕ, ◌+◌, ◌-◌, ◌*◌, bytes_eq, if◌then◌else◌, List, Option, Some, None}
use Rattle.std.specs.List.{sum_by}
use Rattle.group_view.specs.Change.{most_entries}
use Rattle.ring_rules.specs.declared.event.Client.{Client}
use Rattle.ring_rules.specs.declared.event.Client.TheVariants as client
use Rattle.ring_rules.specs.Machine.{World, member_at}
use Rattle.ring_cluster.specs.Agendas.{Plan}
use Rattle.ring_cluster.specs.Handed.{least_running}
use Rattle.ring_cluster.specs.Seen.{Seen, state_of}

-- how many members may still be the running one of least id, where that has this place: a view never has more than so many entries
abbrev pub heirs_from : Option ℕ → ℕ
heirs_from None = 0
heirs_from (Some i) = most_entries - i

-- 0 for the running member of least id, and 1 for each other
abbrev pub is_no_heir : World → Option ℕ → List ℕ → ℕ
is_no_heir w None name = 1
is_no_heir w (Some i) name = if bytes_eq (member_at w (i + 1)).name name then 0 else 1

-- What is left by what a client asked. A join may be handed on from each member that runs now to the next, and once from one that
-- isn't the next.
abbrev pub cost : World → Client → ℕ
cost w (client.Admit by newcomer) = 1 + 2 * heirs_from (least_running w) + is_no_heir w (least_running w) by
cost w t = 1

-- by all on an agenda
abbrev pub left_on : World → Plan → ℕ
left_on w a = sum_by (cost w) a.tasks

-- and by all agendas
abbrev pub backlog : World → List Plan → ℕ
backlog w plans = sum_by (left_on w) plans

-- what is left by all agendas of a cluster, in the last state of its journal
abbrev pub backlog_of : Seen → ℕ
backlog_of c = backlog (state_of c) c.agendas
