-- What is still to be done, by the name of the member that was asked. One that nobody has yet may have an agenda too.
use Rattle.std.specs.Prelude.{◌≡◌, ℕ, zero, suc, ◌<◌, Bool, true, false, List, [], ◌∷◌, ◌++◌, length, map, position, bytes_eq, slice_set, slice_index_or, drop, Option, Some, None}
use Rattle.std.specs.List.{All, sum_by}
use Rattle.ring_rules.specs.declared.event.Client.{Client}
use Rattle.ring_rules.specs.declared.event.Client.TheVariants as client
use Rattle.ring_rules.specs.Event.{asked_of}

-- this is asked of the member of that name
abbrev pub IsAskedOf : List ℕ → Client → Type 0
IsAskedOf name t = asked_of t ≡ name

-- whether a copy of the queue is asked for
abbrev pub is_for_copy : Client → Bool
is_for_copy (client.Sync by target) = true
is_for_copy t = false

-- none is: no command asks for one, and nobody hands one on
abbrev pub IsForNoCopy : Client → Type 0
IsForNoCopy t = is_for_copy t ≡ false

-- An agenda: whose it is, and what clients asked of that one, what is to be done next first.
pub record Plan : Type 0 where
  pub name : List ℕ
  pub tasks : List Client

-- the names of those that have an agenda
abbrev pub names_of : List Plan → List (List ℕ)
names_of plans = map (λ a. a.name) plans

-- the place of a name
abbrev pub place_among : List (List ℕ) → List ℕ → Option ℕ
place_among names name = position (λ n. bytes_eq n name) names

-- the agenda at a place; beyond the last one of nobody, with nothing on it
abbrev pub plan_at : List Plan → ℕ → Plan
plan_at plans i = slice_index_or plans i (record { name = []; tasks = [] })

-- what is on the one at a place that was found
abbrev pub tasks_found : List Plan → Option ℕ → List Client
tasks_found plans None = []
tasks_found plans (Some i) = (plan_at plans i).tasks

-- what is on the agenda of that name; nothing where there is none
abbrev pub tasks_in : List Plan → List ℕ → List Client
tasks_in plans name = tasks_found plans (place_among (names_of plans) name)

-- the agendas, with these tasks on the one at a place that was found
abbrev pub with_found : List Plan → Option ℕ → List Client → List Plan
with_found plans None ts = plans
with_found plans (Some i) ts = slice_set plans i (record (plan_at plans i) { tasks = ts })

-- with these tasks on the one of that name
abbrev pub with_tasks : List Plan → List ℕ → List Client → List Plan
with_tasks plans name ts = with_found plans (place_among (names_of plans) name) ts

-- the agendas, with one more task at the end of the one at a place that was found; where there is none it begins one
abbrev pub with_more : List Plan → Option ℕ → Client → List Plan
with_more plans None t = plans ++ record { name = asked_of t; tasks = t ∷ [] } ∷ []
with_more plans (Some i) t = with_found plans (Some i) ((plan_at plans i).tasks ++ t ∷ [])

-- with one more task at the end of the one of its member
abbrev pub with_task : List Plan → Client → List Plan
with_task plans t = with_more plans (place_among (names_of plans) (asked_of t)) t

-- with what was asked there, where anything was
abbrev pub with_asked : List Plan → Option Client → List Plan
with_asked plans None = plans
with_asked plans (Some t) = with_task plans t

-- how many tasks are on all of them
abbrev pub tasks_on_all : List Plan → ℕ
tasks_on_all plans = sum_by (λ a. length a.tasks) plans

-- these are the first of the tasks of the member of that name, at least one where it has any
pub record IsFront (name : List ℕ) (tasks front : List Client) : Type 0 where
  pub first : (rest : List Client) × (tasks ≡ front ++ rest)
  pub some : front ≡ [] → tasks ≡ []
  pub asked : All (IsAskedOf name) front

-- those of the members of these names, by places
pub record AreFronts (plans : List Plan) (names : List (List ℕ)) (fronts : List (List Client)) : Type 0 where
  pub many : length fronts ≡ length names
  pub each : (i : ℕ) → i < length names → IsFront (slice_index_or names i []) (tasks_in plans (slice_index_or names i [])) (slice_index_or fronts i [])

-- the agendas without the first tasks of the members of these names below the place k, so many of each, by places
abbrev pub struck_off : ℕ → List (List ℕ) → List ℕ → List Plan → List Plan
struck_off zero names counts plans = plans
struck_off (suc k) names counts plans =
    with_tasks (struck_off k names counts plans) (slice_index_or names k []) (drop (slice_index_or counts k 0) (tasks_in (struck_off k names counts plans) (slice_index_or names k [])))
