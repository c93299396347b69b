-- What the turns of a cluster do.
use Rattle.std.proofs.Common.{inl, inr, ◌≡◌, ◌≢◌, ℕ, ◌+◌, ◌<◌, ◌≤◌, Bool, true, false, List, [], ◌∷◌, ◌++◌, length, take, drop, Option, Some, None, IsSome, refl, sym, ap, subst, ◌∙◌, ⊎_elim, arith, bytes_eq, append-nil, if◌then◌else◌}
use Rattle.std.specs.Prelude.{◌&&◌, ◌||◌, ◌⊎◌, Contains}
use Rattle.std.specs.List.{list_any}
use Rattle.std.proofs.lemmas.Bool.{false≢true, cases_lt}
use Rattle.std.proofs.lemmas.List.{length-append}
use Rattle.ring_script.specs.declared.command.Command.{Command}
use Rattle.ring_script.specs.declared.command.Command.TheVariants as command
use Rattle.ring_rules.specs.declared.event.Event.{Event}
use Rattle.ring_rules.specs.declared.event.Event.TheVariants.{Start}
use Rattle.ring_rules.specs.declared.event.Client.{Client}
use Rattle.ring_rules.specs.declared.phase.Phase.{Phase}
use Rattle.ring_rules.specs.declared.phase.Phase.TheVariants.{Waiting, Up, Stopped}
use Rattle.ring_rules.specs.Machine.{World, member_at}
use Rattle.ring_rules.specs.Step.{size, opening}
use Rattle.ring_rules.specs.Event.{refusal, effect, by_of, asked_of, event_of, id_of, is_asked}
use Rattle.ring_rules.specs.Quiet.{IsQuiet}
use Rattle.ring_rules.specs.Work.{total, LeavesLess}
use Rattle.ring_rules.proofs.events.Names.{same_bytes, own_bytes}
use Rattle.ring_rules.proofs.runs.OfEvents.{last_append}
use Rattle.ring_cluster.specs.Agendas.{Plan, IsAskedOf, names_of, place_among, tasks_in, with_tasks, with_asked}
use Rattle.ring_cluster.specs.Backlog.{backlog, backlog_of}
use Rattle.ring_cluster.specs.Handed.{handing, given_to, handed}
use Rattle.ring_cluster.specs.Seen.{Seen, state_of, IsGoing, SameButOwed, collecting, with_event}
use Rattle.ring_parties.specs.States.{state}
use Rattle.ring_cluster.specs.Plays.{IsOfMember, client_of, commanded, asked_event, Serves, Plays, PlaysSoFar, client_event, client_events, answer_to, todo, agenda_of, is_stop, takes_up, is_due, IsDue, performed, GoesOn, HasGoneOn, is_start_of, begun_with, begun_by, HasBegun, HeadsAre, AgendasAreEmpty}
use Rattle.ring_cluster.specs.Turns.{IsMemberAt}
use Rattle.ring_parties.proofs.lists.Lists.{flat_map-append}
use Rattle.ring_cluster.proofs.lists.Plans.{tasked_there, tasks_new, tasks_other, other_name, names_apart, given_other, asked_todo}
use Rattle.ring_cluster.proofs.rounds.Heirs.{own_hands_none, answer_differs, answered_less}
use Rattle.ring_cluster.proofs.rounds.Members.{found_in, left_in}
use Rattle.ring_cluster.proofs.rounds.Named.{answer_asked, answer_of_other, same_stop}
use Rattle.ring_cluster.proofs.rounds.Playing.{by_one, is_own, GoesOn-given, plays_on, plays_noted, settled_each_more, settled_now, all_served, settled_plays, asked_push}
use Rattle.ring_cluster.proofs.rounds.Serving.{serves_more}

-- ---- a member's own steps

pub own_event : (e : Event) → is_asked e ≡ false → (name : List ℕ) → client_event name e ≡ []
own_event e own name = ap (λ b. if b && bytes_eq (by_of e) name then asked_event e ∷ [] else []) own

pub own_goes : (c d : Seen) (e : Event) → is_asked e ≡ false → SameButOwed (with_event c e) d → HasGoneOn c d
own_goes c d e l is = (e ∷ [], is_own e (own_event e l) c d (own_hands_none (state_of c) e l) is.0 is.1)

pub own_falls : (c d : Seen) (e : Event) → LeavesLess (state_of c) e → refusal (state_of c) e ≡ None → SameButOwed (with_event c e) d → total (state_of d) < total (state_of c)
own_falls c d e less r is = subst (λ w. total w < total (state_of c)) (sym (ap state_of is.1 ∙ last_append (opening c.credit c.names) c.events (e ∷ []))) (less.less r)

-- no more is left of what clients asked
pub own_left : (c d : Seen) (e : Event) → IsGoing c → refusal (state_of c) e ≡ None → SameButOwed (with_event c e) d → backlog_of d ≤ backlog_of c
own_left c d e g r is =
    subst (λ x. backlog_of x ≤ backlog_of c) (sym is.1)
    (subst (λ w. backlog w c.agendas ≤ backlog_of c) (sym (last_append (opening c.credit c.names) c.events (e ∷ []))) (left_in c e c.agendas g r))

-- ---- a task that is answered

-- the member at a place, of that name, has done the first of its tasks, or refused it
abbrev pub Performs : ℕ → List ℕ → Seen → Seen → Type 0
Performs i by c d = (t : Client) × (ts : List Client) × (agenda_of c by ≡ t ∷ ts) × IsAskedOf by t × (refusal (state_of c) (answer_to (state_of c) t) ≡ None) × SameButOwed (performed c by (answer_to (state_of c) t) ts) d

-- by this event, of a task t before the others
module _ (c : Seen) (i : ℕ) (by : List ℕ) (t : Client) (ts : List Client) (g : IsGoing c) (at : IsMemberAt c i by) (a : agenda_of c by ≡ t ∷ ts) (asks : asked_of t ≡ by) where
  abbrev w : World
  w = state_of c

  abbrev e : Event
  e = answer_to w t

  named : (k : ℕ) → k + 1 < size w → id_of w (member_at w (k + 1)).name ≡ Some (k + 1)
  named k lt = found_in c k g lt

  -- the agendas, with what it hands on
  abbrev plans : List Plan
  plans = with_asked c.agendas (handing w e)

  mine_stay : (o : Option Client) → handing w e ≡ o → tasks_in (with_asked c.agendas o) by ≡ t ∷ ts
  mine_stay None h = a
  mine_stay (Some k) h = given_other c.agendas k by (answer_differs w i by named at t k asks h) ∙ a

  mine : tasks_in plans by ≡ t ∷ ts
  mine = mine_stay (handing w e) refl

  there : IsSome (place_among (names_of plans) by)
  there = tasked_there plans by (λ none. let both : t ∷ ts ≡ [] = sym mine ∙ none in cc)

  left_mine : tasks_in (with_tasks plans by ts) by ≡ ts
  left_mine = tasks_new plans by ts there

  -- nothing is handed on to itself
  none_mine : (o : Option Client) → handing w e ≡ o → given_to by o ≡ []
  none_mine None h = refl
  none_mine (Some k) h = ap (λ b. if b then event_of k ∷ [] else []) (other_name (asked_of k) by (answer_differs w i by named at t k asks h))

  performed_serves : (name : List ℕ) (b : Bool) → bytes_eq by name ≡ b → client_events name (e ∷ []) ++ todo (agenda_of (performed c by e ts) name) ≡ todo (agenda_of c name) ++ handed w name (e ∷ [])
  performed_serves name true n =
      subst (λ k. client_events k (e ∷ []) ++ todo (agenda_of (performed c by e ts) k) ≡ todo (agenda_of c k) ++ handed w k (e ∷ [])) (same_bytes by name n) (
      ap (λ zs. (zs ++ []) ++ todo (agenda_of (performed c by e ts) by)) (answer_asked by t (refusal w (event_of t)) (ap (λ k. bytes_eq k by) asks ∙ own_bytes by))
      ∙ ap (λ us. event_of t ∷ todo us) left_mine
      ∙ ap todo (sym a)
      ∙ sym (append-nil (todo (agenda_of c by)))
      ∙ ap (λ zs. todo (agenda_of c by) ++ (zs ++ [])) (sym (none_mine (handing w e) refl))
      )
  performed_serves name false n =
      ap (λ zs. (zs ++ []) ++ todo (agenda_of (performed c by e ts) name)) (answer_of_other name t (refusal w (event_of t)) (ap (λ k. bytes_eq k name) asks ∙ n))
      ∙ ap todo (tasks_other plans by name ts (names_apart by name n))
      ∙ asked_todo c.agendas name (handing w e)
      ∙ ap (λ zs. todo (agenda_of c name) ++ zs) (sym (append-nil (given_to name (handing w e))))

  performed_on : GoesOn c (performed c by e ts) (e ∷ [])
  performed_on = by_one c (performed c by e ts) e refl refl refl (λ name. performed_serves name (bytes_eq by name) refl)

  performed_left : refusal w e ≡ None → backlog_of (performed c by e ts) < backlog_of c
  performed_left none =
      let after : backlog_of (performed c by e ts) ≡ backlog (effect w e) (with_tasks plans by ts) = ap (λ u. backlog u (with_tasks plans by ts)) (last_append (opening c.credit c.names) c.events (e ∷ [])) in
      omega (arith, after, left_in c e (with_tasks plans by ts) g none, answered_less w i by named at c.agendas t ts asks a)

-- the first of its tasks is struck off behind that
pub performed_is : (i : ℕ) (by : List ℕ) (t : Client) (ts : List Client) (c c1 d : Seen) (e : Event) → IsGoing c → IsMemberAt c i by → agenda_of c by ≡ t ∷ ts → asked_of t ≡ by → e ≡ answer_to (state_of c) t
    → SameButOwed (record (with_event c e) { agendas = with_asked c.agendas (handing (state_of c) e) }) c1
    → d ≡ record c1 { agendas = with_tasks c1.agendas by (drop 1 (agenda_of c1 by)) }
    → SameButOwed (performed c by (answer_to (state_of c) t) ts) d
performed_is i by t ts c c1 d e g at a asks answer s is =
    subst (λ x. SameButOwed (performed c by x ts) d) answer (
      s.0,
      is
          ∙ ap (λ (y : Seen). record y { agendas = with_tasks y.agendas by (drop 1 (agenda_of y by)) }) s.1
          ∙ ap (λ us. collecting s.0 (record (with_event c e) { agendas = with_tasks (with_asked c.agendas (handing (state_of c) e)) by (drop 1 us) }))
          (ap (λ x. tasks_in (with_asked c.agendas (handing (state_of c) x)) by) answer ∙ mine c i by t ts g at a asks),
    )

pub performed_goes : (i : ℕ) (by : List ℕ) (c d : Seen) → IsGoing c → IsMemberAt c i by → Performs i by c d → HasGoneOn c d
performed_goes i by c d g at p =
    let e : Event = answer_to (state_of c) p.0 in
    let k : Seen = performed c by e p.1 in
    subst (HasGoneOn c) (sym p.5.1) (e ∷ [], GoesOn-given c k (collecting p.5.0 k) (e ∷ []) refl refl refl refl (performed_on c i by p.0 p.1 g at p.2 p.3))

-- ---- what a member has begun with

-- of one event
begun_one : (name : List ℕ) (e : Event) → length (client_event name e) ≤ length (begun_with name e)
begun_one name e = by_start (is_start_of name e) (is_asked e && bytes_eq (by_of e) name) (asked_event e)
  where
    by_start : (a b : Bool) (k : Event) → length (if b then k ∷ [] else []) ≤ length (if a then e ∷ [] else (if b then k ∷ [] else []))
    by_start true true k = omega arith
    by_start true false k = omega arith
    by_start false b k = omega arith

-- it has begun with no less than it has done or refused
pub asked_begun : (name : List ℕ) (events : List Event) → length (client_events name events) ≤ length (begun_by name events)
asked_begun name [] = omega arith
asked_begun name (e ∷ events) =
    omega (arith, begun_one name e, asked_begun name events, length-append (client_event name e) (client_events name events), length-append (begun_with name e) (begun_by name events))

-- by more events
pub begun_more_by : (c d : Seen) (name : List ℕ) (more : List Event) → d.events ≡ c.events ++ more → length (begun_by name d.events) ≡ length (begun_by name c.events) + length (begun_by name more)
begun_more_by c d name more e = ap (λ es. length (begun_by name es)) e ∙ ap length (flat_map-append (begun_with name) c.events more) ∙ length-append (begun_by name c.events) (begun_by name more)

-- by its start
pub started_more : (name : List ℕ) (events : List Event) → length (begun_by name events) < length (begun_by name (events ++ Start name ∷ []))
started_more name events =
    let one : begun_by name (Start name ∷ []) ≡ Start name ∷ [] = ap (λ b. (if b then Start name ∷ [] else client_event name (Start name)) ++ []) (own_bytes name) in
    omega (arith, ap length (flat_map-append (begun_with name) events (Start name ∷ [])), length-append (begun_by name events) (begun_by name (Start name ∷ [])), ap length one)

-- by one event before others
begun_next : (name : List ℕ) (e : Event) (events : List Event) → 0 < length (begun_by name (e ∷ events)) → (0 < length (begun_by name events) → (0 < length (client_events name events)) ⊎ (list_any (is_start_of name) events ≡ true))
    → (0 < length (client_events name (e ∷ events))) ⊎ (list_any (is_start_of name) (e ∷ events) ≡ true)
begun_next name e events l others = by_start (is_start_of name e) refl
  where
    later : is_start_of name e ≡ false → (0 < length (client_events name events)) ⊎ (list_any (is_start_of name) events ≡ true) → (0 < length (client_events name (e ∷ events))) ⊎ (list_any (is_start_of name) (e ∷ events) ≡ true)
    later s (inl some) = inl (omega (arith, some, length-append (client_event name e) (client_events name events)))
    later s (inr any) = inr (ap (λ b. b || list_any (is_start_of name) events) s ∙ any)

    by_start : (b : Bool) → is_start_of name e ≡ b → (0 < length (client_events name (e ∷ events))) ⊎ (list_any (is_start_of name) (e ∷ events) ≡ true)
    by_start true s = inr (ap (λ b. b || list_any (is_start_of name) events) s)
    by_start false s =
        let same : begun_with name e ≡ client_event name e = ap (λ b. if b then e ∷ [] else client_event name e) s in
        let many = length-append (begun_with name e) (begun_by name events) in
        ⊎_elim
        (λ (some : 0 < length (client_event name e)). inl (omega (arith, some, length-append (client_event name e) (client_events name events))))
        (λ (none : length (client_event name e) ≤ 0). later s (others (omega (arith, l, many, none, ap length same))))
        (cases_lt 0 (length (client_event name e)))

-- where it has begun with anything, it has done or refused something, or started
begun_cases : (name : List ℕ) (events : List Event) → 0 < length (begun_by name events) → (0 < length (client_events name events)) ⊎ (list_any (is_start_of name) events ≡ true)
begun_cases name [] l = absurd (omega (arith, l))
begun_cases name (e ∷ events) l = begun_next name e events l (λ some. begun_cases name events some)

-- it has begun with one thing more
pub performed_more : (i : ℕ) (by : List ℕ) (c d : Seen) → Performs i by c d → length (begun_by by c.events) < length (begun_by by d.events)
performed_more i by c d p =
    let e : Event = answer_to (state_of c) p.0 in
    let one = ap length (answer_asked by p.0 (refusal (state_of c) (event_of p.0)) (ap (λ k. bytes_eq k by) p.3 ∙ own_bytes by)) in
    omega (arith, ap (λ x. length (begun_by by x.events)) p.5.1, ap length (flat_map-append (begun_with by) c.events (e ∷ [])), length-append (begun_by by c.events) (begun_by by (e ∷ [])), length-append (begun_with by e) [], begun_one by e, one)

pub performed_less : (i : ℕ) (by : List ℕ) (c d : Seen) → IsGoing c → IsMemberAt c i by → Performs i by c d → backlog_of d < backlog_of c
performed_less i by c d g at p = subst (λ x. backlog_of x < backlog_of c) (sym p.5.1) (performed_left c i by p.0 p.1 g at p.2 p.3 p.4)

-- ---- heads

pub first_of : (xs ys zs : List Event) (e : Event) → xs ++ ys ≡ e ∷ zs → 0 < length xs → Contains xs e
first_of [] ys zs e is l = absurd (omega (arith, l))
first_of (x ∷ xs) ys zs e is l = (0, omega arith, cc)

-- each member that had something with which it begins has done or refused that, or started
pub heads_are : (c d : Seen) (more : List Event) → GoesOn c d more → ((i : ℕ) (name : List ℕ) → IsMemberAt c i name → HasBegun i name c d) → HeadsAre c more
heads_are c d more g begun i name t ts at a due = by_case (begun_cases name more (omega (arith, begun i name at due, begun_more_by c d name more g.events)))
  where
    by_case : (0 < length (client_events name more)) ⊎ (list_any (is_start_of name) more ≡ true) → Contains (client_events name more) (event_of t) ⊎ (list_any (is_start_of name) more ≡ true)
    by_case (inl some) =
        inl (first_of (client_events name more) (todo (agenda_of d name)) (todo ts ++ handed (state_of c) name more) (event_of t) (g.serves name ∙ ap (λ us. todo us ++ handed (state_of c) name more) a) some)
    by_case (inr any) = inr any

-- what was due is so still, where nothing was done of it
takes_up_still : (f g : Phase) (t u : Client) → (f ≢ Waiting → g ≢ Waiting) → is_stop t ≡ is_stop u → takes_up f t ≡ true → takes_up g u ≡ true
takes_up_still f Up t u on same due = refl
takes_up_still f Stopped t u on same due = refl
takes_up_still Waiting Waiting t u on same due = sym same ∙ due
takes_up_still Up Waiting t u on same due = absurd (on (λ e. cc) refl)
takes_up_still Stopped Waiting t u on same due = absurd (on (λ e. cc) refl)

due_by : (f g : Phase) (old new : List Client) (behind : List Event) → (f ≢ Waiting → g ≢ Waiting) → todo new ≡ todo old ++ behind → is_due f old ≡ true → is_due g new ≡ true
due_by f g [] new behind on e due = absurd (false≢true due)
due_by f g (t ∷ ts) [] behind on e due = let both : [] ≡ event_of t ∷ (todo ts ++ behind) = e in cc
due_by f g (t ∷ ts) (u ∷ us) behind on e due = let same : event_of u ≡ event_of t = cc in takes_up_still f g t u on (sym (same_stop u t same)) due

pub due_still : (c d : Seen) (i : ℕ) (name : List ℕ) (more : List Event) → GoesOn c d more → ((member_at (state_of c) (i + 1)).phase ≢ Waiting → (member_at (state_of d) (i + 1)).phase ≢ Waiting) → length (client_events name more) ≡ 0 → IsDue c i name → IsDue d i name
due_still c d i name more g on none due =
    due_by (member_at (state_of c) (i + 1)).phase (member_at (state_of d) (i + 1)).phase (agenda_of c name) (agenda_of d name) (handed (state_of c) name more) on
    (sym (ap (λ zs. zs ++ todo (agenda_of d name)) (nothing (client_events name more) none)) ∙ g.serves name) due
  where
    nothing : (xs : List Event) → length xs ≡ 0 → xs ≡ []
    nothing [] e = refl
    nothing (x ∷ xs) e = absurd (omega (arith, e))

-- ---- commands

-- a command that was taken keeps what is played
pub commanded_plays : (c d : Seen) (x : Command) → IsOfMember x → d ≡ commanded c x → PlaysSoFar c → PlaysSoFar d
commanded_plays c d x of is h = subst PlaysSoFar (sym is) (record {
  serves = λ name.
      subst (Serves (opening c.credit c.names) name c.events (c.given ++ x ∷ [])) (sym (asked_todo c.agendas name (client_of x)))
      (serves_more (opening c.credit c.names) name c.events c.given (todo (agenda_of c name)) (h.serves name) (c.given ++ x ∷ []) (given_to name (client_of x)) (asked_push name c.given x));
  settled = settled_each_more c.credit c.names c.events c.given x h.settled (λ settles. absurd (false≢true (subst IsOfMember settles of)));
})

-- ---- rounds and settling

pub go_plays : (c d : Seen) (turns : ℕ) → HasGoneOn c d → d.given ≡ c.given ++ command.Go turns ∷ [] → PlaysSoFar c → PlaysSoFar d
go_plays c d turns goes eg h =
    let e : Seen = record d { given = c.given } in
    let on : PlaysSoFar e = plays_on c e goes.0 (GoesOn-given c d e goes.0 refl refl refl refl goes.1) refl h in
    plays_noted e d (command.Go turns) (λ name. refl) (λ x. cc) refl refl refl refl eg on

pub same_plays : (c d : Seen) → HasGoneOn c d → d.given ≡ c.given → PlaysSoFar c → PlaysSoFar d
same_plays c d goes eg h = plays_on c d goes.0 goes.1 eg h

pub settle_plays : (c d : Seen) → IsGoing d → HasGoneOn c d → AgendasAreEmpty d → IsQuiet (state_of d) → d.given ≡ c.given ++ command.Settle ∷ [] → PlaysSoFar c → PlaysSoFar d
settle_plays c d g goes empty quiet eg h =
    let e : Seen = record d { given = c.given } in
    let on : PlaysSoFar e = plays_on c e goes.0 (GoesOn-given c d e goes.0 refl refl refl refl goes.1) refl h in
    let going : IsGoing e = record { are = g.are; run = g.run; few = g.few; rounds = g.rounds } in
    plays_noted e d command.Settle (λ name. refl) (λ _. settled_now d.credit d.names d.events c.given quiet (all_served e going empty on)) refl refl refl refl eg on

pub settle_played : (c d : Seen) → IsGoing d → HasGoneOn c d → AgendasAreEmpty d → IsQuiet (state_of d) → d.given ≡ c.given ++ command.Settle ∷ [] → PlaysSoFar c → Plays d.credit d.names d.events d.given
settle_played c d g goes empty quiet eg h = settled_plays d g empty (settle_plays c d g goes empty quiet eg h)

-- only what was given and the rounds differ
pub gone_beside : (c c1 d d1 : Seen) → c1.credit ≡ c.credit → c1.names ≡ c.names → c1.events ≡ c.events → c1.agendas ≡ c.agendas → d.credit ≡ d1.credit → d.names ≡ d1.names → d.events ≡ d1.events → d.agendas ≡ d1.agendas → HasGoneOn c1 d1 → HasGoneOn c d
gone_beside c c1 d d1 c1c c1n c1e c1a dc dn de da h = (
  h.0,
  record {
    credit = dc ∙ h.1.credit ∙ c1c;
    names = dn ∙ h.1.names ∙ c1n;
    events = de ∙ h.1.events ∙ ap (λ es. es ++ h.0) c1e;
    serves = λ name.
        ap (λ ags. client_events name h.0 ++ todo (tasks_in ags name)) da
        ∙ h.1.serves name
        ∙ ap (λ ags. todo (tasks_in ags name) ++ handed (state_of c1) name h.0) c1a
        ∙ ap (λ w. todo (agenda_of c name) ++ handed w name h.0) same;
    later = λ name count le.
        subst (λ w. length (client_events name (take count h.0)) ≤ length (agenda_of c name) + length (handed w name (take count h.0))) same
        (subst (λ ags. length (client_events name (take count h.0)) ≤ length (tasks_in ags name) + length (handed (state_of c1) name (take count h.0))) c1a (h.1.later name count le));
  },
)
  where
    same : state_of c1 ≡ state_of c
    same = ap (λ x. state x c1.names c1.events) c1c ∙ ap (λ x. state c.credit x c1.events) c1n ∙ ap (state c.credit c.names) c1e

-- c1 has another count of rounds than c, and c2 another list of what was given than c1
pub gone_from : (c c1 c2 d : Seen) (rounds : ℕ) (given : List Command) → c1 ≡ record c { rounds = rounds } → c2 ≡ record c1 { given = given } → HasGoneOn c2 d → HasGoneOn c d
gone_from c c1 c2 d rounds given e1 e2 h =
    gone_beside c c2 d d (ap (λ x. x.credit) e2 ∙ ap (λ x. x.credit) e1) (ap (λ x. x.names) e2 ∙ ap (λ x. x.names) e1) (ap (λ x. x.events) e2 ∙ ap (λ x. x.events) e1) (ap (λ x. x.agendas) e2 ∙ ap (λ x. x.agendas) e1) refl refl refl refl h

pub gone_into : (c d e : Seen) (given : List Command) → e ≡ record d { given = given } → HasGoneOn c d → HasGoneOn c e
gone_into c d e given is h = gone_beside c c e d refl refl refl refl (ap (λ x. x.credit) is) (ap (λ x. x.names) is) (ap (λ x. x.events) is) (ap (λ x. x.agendas) is) h

pub round_heads : (c c1 c2 d : Seen) (rounds : ℕ) (given : List Command) → c1 ≡ record c { rounds = rounds } → c2 ≡ record c1 { given = given } → HasGoneOn c2 d → ((i : ℕ) (name : List ℕ) → IsMemberAt c2 i name → HasBegun i name c2 d) → (more : List Event) × GoesOn c d more × HeadsAre c more
round_heads c c1 c2 d rounds given e1 e2 h begun =
    let is : c2 ≡ record (record c { rounds = rounds }) { given = given } = e2 ∙ ap (λ (x : Seen). record x { given = given }) e1 in
    let gone : HasGoneOn c d = gone_from c c1 c2 d rounds given e1 e2 h in
    (gone.0, gone.1, heads_are c d gone.0 gone.1 (λ i name. subst (λ x. IsMemberAt x i name → HasBegun i name x d) is (begun i name)))

pub given_after : (c c1 c2 d : Seen) (rounds : ℕ) (x : Command) → c1 ≡ record c { rounds = rounds } → c2 ≡ record c1 { given = c1.given ++ x ∷ [] } → d.given ≡ c2.given → d.given ≡ c.given ++ x ∷ []
given_after c c1 c2 d rounds x e1 e2 e = e ∙ ap (λ y. y.given) e2 ∙ ap (λ y. y.given ++ x ∷ []) e1

pub noted : (c c2 d : Seen) (x : Command) → c2 ≡ record c { given = c.given ++ x ∷ [] } → d.given ≡ c2.given → d.given ≡ c.given ++ x ∷ []
noted c c2 d x e2 e = e ∙ ap (λ y. y.given) e2

pub gone_noted : (c c2 d : Seen) (given : List Command) → c2 ≡ record c { given = given } → HasGoneOn c2 d → HasGoneOn c d
gone_noted c c2 d given e2 h = gone_beside c c2 d d (ap (λ x. x.credit) e2) (ap (λ x. x.names) e2) (ap (λ x. x.events) e2) (ap (λ x. x.agendas) e2) refl refl refl refl h
