-- When a registrar stands in a state of the ring, and what its requests are there.
use Rattle.std.specs.Prelude.{◌≡◌, ℕ, ◌<◌, ◌≤◌, Bool, true, false, ◌||◌, is_some, List, ◌∷◌, Option, Some}
use Rattle.ring_names.specs.declared.numbers.CreditSpec.{CreditSpec}
use Rattle.group_view.specs.declared.request.Request.{Request}
use Rattle.group_view.specs.declared.request.Request.TheVariants as request
use Rattle.group_view.specs.Ring.{is_in}
use Rattle.group_view.specs.Change.{AreOpeningNames}
use Rattle.group_view.specs.Since.{no_group, view_at}
use Rattle.ring_rules.specs.declared.phase.Phase.TheVariants.{Up}
use Rattle.ring_rules.specs.declared.event.Event.{Event}
use Rattle.ring_rules.specs.declared.event.Event.TheVariants.{Stop, Mark, Refresh, Admit, Erase, Synced}
use Rattle.ring_rules.specs.Machine.{World, row_at, member_at, newest}
use Rattle.ring_rules.specs.Step.{size, opening}
use Rattle.ring_rules.specs.Event.{IsRun, last, id_of, is_stopped, is_registered, at_door}
use Rattle.registrar.specs.Registry.{Registry}
use Rattle.registrar.specs.Asked.{is_left, since_in, waits_from}

-- a member of that name and id is up, and holds the view of a version
pub record IsAsker (w : World) (name : List ℕ) (x v : ℕ) : Type 0 where
  pub named : id_of w name ≡ Some x
  pub up : (member_at w x).phase ≡ Up
  pub holds : (member_at w x).version ≡ v

-- a member of that name and id gives notice that it stops
pub record AsksStop (w : World) (x : ℕ) (e : Event) : Type 0 where
  pub name : List ℕ
  pub named : id_of w name ≡ Some x
  pub is : e ≡ Stop name

-- a member that is up asks for the newest view
pub record AsksRefresh (w : World) (x v : ℕ) (e : Event) : Type 0 where
  pub name : List ℕ
  pub asker : IsAsker w name x v
  pub is : e ≡ Refresh name (newest w)

-- a member that is up asks to admit one of a new name
pub record AsksAdmit (w : World) (x v : ℕ) (newcomer : List ℕ) (e : Event) : Type 0 where
  pub name : List ℕ
  pub asker : IsAsker w name x v
  pub is : e ≡ Admit name newcomer

-- a member that is up asks to erase another, and tells truly what it has got of it, and what it has retired
pub record AsksErase (w : World) (x p v n m : ℕ) (e : Event) : Type 0 where
  pub name : List ℕ
  pub origin_name : List ℕ
  pub asker : IsAsker w name x v
  pub named : id_of w origin_name ≡ Some p
  pub got : (row_at (member_at w x) p).got ≡ n
  pub retired : (row_at (member_at w x) p).retired ≡ m
  pub is : e ≡ Erase name origin_name

-- a member that is up asks to be registered as synchronised, and tells truly what its mirror misses
pub record AsksSynced (w : World) (x v : ℕ) (missing : Option ℕ) (e : Event) : Type 0 where
  pub name : List ℕ
  pub asker : IsAsker w name x v
  pub misses : (member_at w x).mirror.missing ≡ missing
  pub is : e ≡ Synced name

-- an event that neither stops a member nor adds a view
abbrev pub IsOwn : Event → Type 0
IsOwn e = is_registered e ≡ false

module _ {I : Type 0} where
  -- a registrar that keeps r has the views of the state, and notice of just those members that have stopped, and of
  -- nobody beyond the ring
  pub record StandsIn (w : World) (r : Registry I) : Type 0 where
    pub views : w.views ≡ no_group ∷ r.views
    pub stopped : (q : ℕ) → 1 ≤ q → q < size w → is_in q r.stopped ≡ is_stopped (member_at w q).phase
    pub nobody_else : (q : ℕ) → size w ≤ q → is_in q r.stopped ≡ false

  -- Where d is the left neighbour in the view that x holds: x has more to take by its own word, or by a link that waits at the
  -- registrar, just where it has a current link, or one at its door.
  abbrev pub TellsTrue : World → Registry I → ℕ → ℕ → ℕ → Bool → Type 0
  TellsTrue w r x d v has_current =
      is_left (view_at r.views v) x d ≡ true
      → (has_current || waits_from r.links d x (since_in (view_at r.views v) x)) ≡ (is_some (member_at w x).current || is_some (at_door w x))

  -- a member that is up asks to mark another, and tells truly what it has to take
  pub record AsksMark (w : World) (r : Registry I) (x d v : ℕ) (has_current : Bool) (e : Event) : Type 0 where
    pub name : List ℕ
    pub dead_name : List ℕ
    pub asker : IsAsker w name x v
    pub named : id_of w dead_name ≡ Some d
    pub tells : TellsTrue w r x d v has_current
    pub is : e ≡ Mark name dead_name

  -- the event that a member asks for, where it asks for one: deposits and collections are none
  abbrev pub Asks : World → Registry I → Request I → Event → Type 0
  Asks w r (request.Mark by dead view has_current) e = AsksMark w r by.0 dead.0 view has_current e
  Asks w r (request.Refresh by) e = (v : ℕ) × AsksRefresh w by.0 v e
  Asks w r (request.Admit by name) e = (v : ℕ) × AsksAdmit w by.0 v name e
  Asks w r (request.Erase by origin got retired view) e = AsksErase w by.0 origin.0 view got retired e
  Asks w r (request.Synced by missing) e = (v : ℕ) × AsksSynced w by.0 v missing e
  Asks w r (request.Stopped by) e = AsksStop w by.0 e
  Asks w r (request.Deposit by to view kind link) e = ⊥
  Asks w r (request.Collect by) e = ⊥

  -- P holds of every state of every run in which a registrar that keeps r stands, and of each event that is asked for there
  abbrev pub WhereAsked : Registry I → Request I → (World → Event → Type 0) → Type 0
  WhereAsked r request P = (credit : CreditSpec) (names : List (List ℕ)) (events : List Event) (e : Event)
      → AreOpeningNames names → IsRun (opening credit names) events
      → StandsIn (last (opening credit names) events) r → Asks (last (opening credit names) events) r request e
      → P (last (opening credit names) events) e
