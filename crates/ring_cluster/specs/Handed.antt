-- Joins that a member refuses since it has stopped: they are handed on.
use Rattle.std.specs.Prelude.{ℕ, ◌+◌, ◌-◌, nat_eq, bytes_eq, if◌then◌else◌, List, [], ◌∷◌, ◌++◌, position, option_map, Option, Some, None}
use Rattle.std.specs.List.{range_with_len}
use Rattle.ring_names.specs.declared.reason.Reason.TheVariants as reason
use Rattle.ring_names.specs.Reason.{code_of}
use Rattle.ring_rules.specs.declared.event.Event.{Event}
use Rattle.ring_rules.specs.declared.event.Event.TheVariants.{Refuse}
use Rattle.ring_rules.specs.declared.event.Client.{Client}
use Rattle.ring_rules.specs.declared.event.Client.TheVariants as client
use Rattle.ring_rules.specs.Machine.{World, member_at, runs}
use Rattle.ring_rules.specs.Step.{size}
use Rattle.ring_rules.specs.Event.{event_of, asked_of, effect}

-- the place of the running member of least id
abbrev pub least_running : World → Option ℕ
least_running w = position (λ i. runs w (i + 1)) (range_with_len 0 (size w - 1))

-- its name
abbrev pub heir : World → Option (List ℕ)
heir w = option_map (λ i. (member_at w (i + 1)).name) (least_running w)

-- The join that an event hands on: one that its member refuses since it has stopped is asked of the running member of least id.
-- Where nobody runs it is dropped.
abbrev pub handing : World → Event → Option Client
handing w (Refuse code (client.Admit by newcomer)) = if nat_eq code (code_of reason.Stopped) then option_map (λ to. client.Admit to newcomer) (heir w) else None
handing w e = None

-- the event of what is asked, where that is asked of the member of that name
abbrev pub given_to : List ℕ → Option Client → List Event
given_to name None = []
given_to name (Some t) = if bytes_eq (asked_of t) name then event_of t ∷ [] else []

-- what is handed on to the member of that name by events, one after another
abbrev pub handed : World → List ℕ → List Event → List Event
handed w name [] = []
handed w name (e ∷ events) = given_to name (handing w e) ++ handed (effect w e) name events
