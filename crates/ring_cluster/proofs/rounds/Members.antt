-- The members of a cluster's state by their ids, those of the opening and those that joined, and what each may do.
use Rattle.std.proofs.Common.{◌≡◌, ◌≢◌, ⊎_elim, ℕ, ◌+◌, ◌-◌, ◌<◌, ◌≤◌, Bool, true, false, List, [], ◌∷◌, ◌++◌, map, get_or, option_map, Option, Some, None, is_some, if◌then◌else◌, refl, sym, ap, subst, ◌∙◌, arith}
use Rattle.std.specs.Prelude.{◌&&◌, not, nat_eq, MatchOption, bytes_eq}
use Rattle.std.proofs.lemmas.Bool.{false≢true, le-ltb}
use Rattle.std.proofs.lemmas.List.Quantifiers.{position-Some}
use Rattle.ring_names.specs.declared.reason.Reason.{Reason}
use Rattle.ring_names.specs.declared.reason.Reason.TheVariants as reason
use Rattle.ring_names.specs.Reason.{code_of}
use Rattle.ring_names.specs.declared.numbers.CreditSpec.{CreditSpec}
use Rattle.group_view.specs.Change.{AreOpeningNames, AreDifferent}
use Rattle.ring_rules.specs.declared.event.Event.{Event}
use Rattle.ring_rules.specs.declared.event.Event.TheVariants.{Take, Mark, Refresh, Admit, Erase}
use Rattle.ring_rules.specs.declared.event.Client.{Client}
use Rattle.ring_rules.specs.declared.event.Client.TheVariants as client
use Rattle.ring_rules.specs.declared.phase.Phase.{Phase}
use Rattle.ring_rules.specs.declared.phase.Phase.TheVariants.{Waiting, Up, Stopped}
use Rattle.ring_rules.specs.Refusal.{refuse_if, or_else, is_empty}
use Rattle.ring_rules.specs.Machine.{World, member_at, link_at, newest, runs, runs_phase, is_waiting, oldest}
use Rattle.ring_rules.specs.Step.{size, opening}
use Rattle.ring_rules.specs.Event.{by_of, asked_of, event_of, id_of, of_member, on_link, is_asked, is_told, is_passing, doing_refusal, refused_at, is_stopped, version_refusal, running_refusal, up_refusal, take_refusal, refresh_refusal, mark_refusal, erase_refusal, admit_refusal, refusal, effect, IsRun, last}
use Rattle.ring_rules.specs.Work.{is_stale, LeavesLess}
use Rattle.ring_rules.specs.Settling.{is_repair, stale_one}
use Rattle.ring_rules.proofs.events.Names.{same_bytes}
use Rattle.ring_rules.proofs.events.Enabled.{up_none}
use Rattle.ring_rules.proofs.events.Refusals.{id_within}
use Rattle.ring_rules.proofs.rests.Asked.{no_version}
use Rattle.ring_rules.proofs.rings.Rounds.{nat_eq-same}
use Rattle.ring_rules.proofs.runs.OfEvents.{reached_fit as ring_fit, last_append, run_append, reached_old}
use Rattle.ring_rules.proofs.runs.Published.{found_name}
use Rattle.ring_rules.proofs.walks.Ended.{runs_lt}
use Rattle.ring_rules.proofs.work.Settling.{repair_less, someone}
use Rattle.gm_member.proofs.Fit.{IsFit, reached_fit}
use Rattle.ring_cluster.specs.Seen.{Seen, state_of, IsGoing, IsMemberIn, with_event}
use Rattle.ring_parties.specs.States.{state, IsEventIn}
use Rattle.ring_cluster.specs.Agendas.{Plan, IsAskedOf, IsForNoCopy, place_among}
use Rattle.ring_cluster.specs.Backlog.{backlog}
use Rattle.ring_cluster.specs.Handed.{least_running}
use Rattle.ring_cluster.specs.Plays.{asked_event, client_event, client_events, answer_by, answer_to, agenda_of, passes, LeavesAgenda}
use Rattle.ring_cluster.specs.Turns.{IsMemberAt, MembersStay, NoneWaitsAgain}
use Rattle.ring_cluster.specs.Published.{names_in, told_of_each}
use Rattle.ring_rules.specs.Published.{published_in}
use Rattle.ring_cluster.proofs.work.Staying.{KeepsNames, waits_not_again, is_admission, event_same, event_keeps, run_keeps_names, run_behind}
use Rattle.ring_cluster.proofs.work.Logged.{names_in_many, name_in_at, reached_different, id_in, run_all_logs}
use Rattle.ring_cluster.proofs.rounds.Heirs.{IsNext, next_heir, backlog_later}
use Rattle.ring_cluster.proofs.rounds.Named.{going_fit, going_ring}

-- they are few
pub members_few : (c : Seen) → IsGoing c → size (state_of c) ≤ 65
members_few c g = (going_fit c g).few

-- ---- names

-- the name of each member finds it
pub found_in : (c : Seen) (i : ℕ) → IsGoing c → i + 1 < size (state_of c) → id_of (state_of c) (member_at (state_of c) (i + 1)).name ≡ Some (i + 1)
found_in c i g l = (going_fit c g).named (i + 1) (omega arith) l

-- no two members have the same
pub going_different : (c : Seen) → IsGoing c → AreDifferent (names_in (state_of c))
going_different c g = reached_different c.credit c.names c.events g.are g.run

-- ---- one event more

pub after_event : (c : Seen) (e : Event) → state_of (with_event c e) ≡ effect (state_of c) e
after_event c e = last_append (opening c.credit c.names) c.events (e ∷ [])

-- ---- more events

-- the members that are there stay, with their names
pub names_stay : (c d : Seen) (more : List Event) → IsGoing d → d.credit ≡ c.credit → d.names ≡ c.names → d.events ≡ c.events ++ more → KeepsNames (state_of c) (state_of d)
names_stay c d more g credit names events = subst (KeepsNames (state_of c)) (sym is) (run_keeps_names (state_of c) more run)
  where
    same : state_of d ≡ state c.credit c.names (c.events ++ more)
    same = ap (λ a. state a d.names d.events) credit ∙ ap (λ a. state c.credit a d.events) names ∙ ap (state c.credit c.names) events

    is : state_of d ≡ last (state_of c) more
    is = same ∙ last_append (opening c.credit c.names) c.events more

    run : IsRun (state_of c) more
    run = run_behind (opening c.credit c.names) c.events more
        (subst (IsRun (opening c.credit c.names)) events (subst (λ a. IsRun (opening c.credit a) d.events) names (subst (λ a. IsRun (opening a d.names) d.events) credit g.run)))

-- ---- who acts

-- an event is one of the first member of its name; where there is none, it is refused
pub event_place_in : (w : World) (e : Event) (o : Option ℕ) → o ≡ place_among (names_in w) (by_of e) → MatchOption o (refusal w e ≡ Some reason.UnknownMember) (λ i. IsEventIn w i e)
event_place_in w e None is = ap (λ o. of_member o (refused_at w e)) (id_in w (by_of e) ∙ ap (option_map (λ i. i + 1)) (sym is))
event_place_in w e (Some i) is =
    let there = position-Some (λ n. bytes_eq n (by_of e)) (names_in w) i [] (sym is) in
    let l : i + 1 < size w = omega (arith, there.0, names_in_many w) in
    (l, sym (same_bytes (get_or (names_in w) i []) (by_of e) there.1) ∙ name_in_at w i [] l)

-- an event of the member of an id is one of that at its place
pub event_at_place : (w : World) (e : Event) (x : ℕ) → 1 ≤ x → x < size w → by_of e ≡ (member_at w x).name → IsEventIn w (x - 1) e
event_at_place w e x some lt is =
    let back : x - 1 + 1 ≡ x = omega arith in
    (omega arith, is ∙ ap (λ k. (member_at w k).name) (sym back))

-- ---- who does or refuses a task

-- who is up may, where nothing else speaks against it
pub up_may : (f : Phase) (later : Option Reason) → f ≡ Up → later ≡ None → or_else (refuse_if (is_stopped f) reason.Stopped) (or_else (refuse_if (is_waiting f) reason.Waiting) later) ≡ None
up_may Waiting later e h = cc
up_may Up later e h = h
up_may Stopped later e h = cc

running_may : (f : Phase) (later : Option Reason) → runs_phase f ≡ true → later ≡ None → or_else (refuse_if (is_stopped f) reason.Stopped) later ≡ None
running_may Waiting later e h = h
running_may Up later e h = h
running_may Stopped later e h = absurd (false≢true e)

-- why nobody is admitted is told
pub admit_told : (a b : Bool) (r : Reason) → or_else (refuse_if a reason.NameTaken) (refuse_if b reason.TooManyMembers) ≡ Some r → is_passing r ≡ false
admit_told true b r e = let same : reason.NameTaken ≡ r = cc in ap is_passing (sym same)
admit_told false true r e = let same : reason.TooManyMembers ≡ r = cc in ap is_passing (sym same)
admit_told false false r e = cc

module _ (w : World) (x : ℕ) (f : IsFit w) (some : 1 ≤ x) (lt : x < size w) where
  -- what is told is told with its number
  told_as : (r : Reason) → is_passing r ≡ false → refuse_if (not (is_told (code_of r) (Some r))) reason.NotRefused ≡ None
  told_as r h = ap (λ b. refuse_if (not (b && not (is_passing r))) reason.NotRefused) (nat_eq-same (code_of r)) ∙ ap (λ b. refuse_if (not (not b)) reason.NotRefused) h

  -- what is refused is so by the conditions of the member of which it is asked
  asked_refusal : (t : Client) → refusal w (event_of t) ≡ of_member (id_of w (asked_of t)) (doing_refusal w (event_of t))
  asked_refusal (client.Cast by body) = refl
  asked_refusal t = refl

  -- it is found by its name
  found_by : (t : Client) → asked_of t ≡ (member_at w x).name → id_of w (asked_of t) ≡ Some x
  found_by t asks = ap (id_of w) asks ∙ f.named x some lt

  -- so it may refuse each task that the ring refuses, where that doesn't pass
  pub answer_may : (t : Client) (r : Reason) → asked_of t ≡ (member_at w x).name → is_passing r ≡ false → refusal w (event_of t) ≡ Some r → refusal w (answer_by t (Some r)) ≡ None
  answer_may t r asks told e =
      let doing : doing_refusal w (event_of t) x ≡ Some r = sym (asked_refusal t ∙ ap (λ o. of_member o (doing_refusal w (event_of t))) (found_by t asks)) ∙ e in
      ap (λ o. of_member o (λ k. refuse_if (not (is_told (code_of r) (doing_refusal w (event_of t) k))) reason.NotRefused)) (found_by t asks)
      ∙ ap (λ o. refuse_if (not (is_told (code_of r) o)) reason.NotRefused) doing
      ∙ told_as r told

  -- ---- what one that is up does by itself

  -- it may read the newest view
  pub refresh_may : (member_at w x).phase ≡ Up → refusal w (Refresh (member_at w x).name (newest w)) ≡ None
  refresh_may up =
      ap (λ o. of_member o (λ k. up_refusal w k (refresh_refusal w k (newest w)))) (f.named x some lt)
      ∙ up_may (member_at w x).phase (refresh_refusal w x (newest w)) up
      (rw (le-ltb (newest w) (member_at w x).version (f.good.inv.is_ring.held x), le-ltb (newest w) (newest w) (omega arith)) refl)

  -- whom it may have marked or erased it may by that one's name
  pub mark_may : (d : ℕ) → 1 ≤ d → d < size w → (member_at w x).phase ≡ Up → mark_refusal w x d ≡ None → refusal w (Mark (member_at w x).name (member_at w d).name) ≡ None
  mark_may d sd ld up h =
      ap (λ o. of_member o (λ k. up_refusal w k (of_member (id_of w (member_at w d).name) (mark_refusal w k)))) (f.named x some lt)
      ∙ up_may (member_at w x).phase _ up (ap (λ o. of_member o (mark_refusal w x)) (f.named d sd ld) ∙ h)

  pub erase_may : (p : ℕ) → 1 ≤ p → p < size w → (member_at w x).phase ≡ Up → erase_refusal w x p ≡ None → refusal w (Erase (member_at w x).name (member_at w p).name) ≡ None
  erase_may p sp lp up h =
      ap (λ o. of_member o (λ k. up_refusal w k (of_member (id_of w (member_at w p).name) (erase_refusal w k)))) (f.named x some lt)
      ∙ up_may (member_at w x).phase _ up (ap (λ o. of_member o (erase_refusal w x)) (f.named p sp lp) ∙ h)

-- ---- one that waits

-- it may take: a first packet is on its link, of a version that it has
pub waiting_takes : (credit : CreditSpec) (names : List (List ℕ)) (events : List Event) (x : ℕ) → AreOpeningNames names → IsRun (opening credit names) events
    → (member_at (state credit names events) x).phase ≡ Waiting → refusal (state credit names events) (Take (member_at (state credit names events) x).name) ≡ None
waiting_takes credit names events x are r waits =
    ap (λ o. of_member o (λ y. running_refusal w y (on_link (member_at w y).current reason.NoCurrentLink (take_refusal w y)))) (f.named x some (runs_lt w x run))
    ∙ running_may (member_at w x).phase (on_link (member_at w x).current reason.NoCurrentLink (take_refusal w x)) run (by_current (member_at w x).current refl)
  where
    w : World
    w = state credit names events

    f : IsFit w
    f = reached_fit credit names events are r

    run : runs w x ≡ true
    run = ap runs_phase waits

    some : 1 ≤ x
    some = someone w (ring_fit credit names events are r) x run

    by_current : (o : Option ℕ) → (member_at w x).current ≡ o → on_link o reason.NoCurrentLink (take_refusal w x) ≡ None
    by_current None e = absurd (false≢true (sym (ap is_some e) ∙ f.good.inv.joining.some x waits))
    by_current (Some s) e =
        let packet : is_empty (link_at w s).packets ≡ false = f.good.inv.waiting.first x s waits e in
        let fits : version_refusal (oldest (link_at w s)).version (member_at w x).version ≡ None = no_version (oldest (link_at w s)).version (member_at w x).version (reached_old credit names events are r x s waits e) in
        rw (packet, fits) refl

pub waiting_takes_in : (c : Seen) (x : ℕ) → IsGoing c → (member_at (state_of c) x).phase ≡ Waiting → refusal (state_of c) (Take (member_at (state_of c) x).name) ≡ None
waiting_takes_in c x g waits = waiting_takes c.credit c.names c.events x g.are g.run waits

-- ---- the members by their places and names

-- its name is that of the member
pub member_found : (c : Seen) (i : ℕ) (name : List ℕ) → IsGoing c → IsMemberAt c i name → id_of (state_of c) name ≡ Some (i + 1)
member_found c i name g m = ap (id_of (state_of c)) (sym m.1) ∙ found_in c i g m.0

-- no two have one name
pub names_differ : (c : Seen) (i j : ℕ) (name other : List ℕ) → IsGoing c → IsMemberAt c i name → IsMemberAt c j other → i < j → bytes_eq name other ≡ false
names_differ c i j name other g m n lt = by_test (bytes_eq name other) refl
  where
    by_test : (b : Bool) → bytes_eq name other ≡ b → b ≡ false
    by_test false e = refl
    by_test true e =
        let same : Some (i + 1) ≡ Some (j + 1) = sym (member_found c i name g m) ∙ ap (id_of (state_of c)) (same_bytes name other e) ∙ member_found c j other g n in
        let is : i + 1 ≡ j + 1 = cc in
        absurd (omega (arith, lt, is))

-- each stays at its place, with its name
pub event_stay : (c d : Seen) (e : Event) → refusal (state_of c) e ≡ None → d.credit ≡ c.credit → d.names ≡ c.names → d.events ≡ c.events ++ e ∷ [] → MembersStay c d
event_stay c d e none credit names events i name m =
    let k : KeepsNames (state_of c) (effect (state_of c) e) = event_keeps (state_of c) e none in
    let is : state_of d ≡ effect (state_of c) e = ap (λ x. state x d.names d.events) credit ∙ ap (λ x. state c.credit x d.events) names ∙ ap (state c.credit c.names) events ∙ after_event c e in
    subst (λ w. (i + 1 < size w) × ((member_at w (i + 1)).name ≡ name)) (sym is) (omega (arith, k.many, m.0), k.name (i + 1) m.0 ∙ m.1)

-- and one that has ceased to wait doesn't wait again
pub event_begun : (c d : Seen) (e : Event) → refusal (state_of c) e ≡ None → d.credit ≡ c.credit → d.names ≡ c.names → d.events ≡ c.events ++ e ∷ [] → NoneWaitsAgain c d
event_begun c d e none credit names events i lt differs =
    let k : KeepsNames (state_of c) (effect (state_of c) e) = event_keeps (state_of c) e none in
    let is : state_of d ≡ effect (state_of c) e = ap (λ x. state x d.names d.events) credit ∙ ap (λ x. state c.credit x d.events) names ∙ ap (state c.credit c.names) events ∙ after_event c e in
    subst (λ w. (member_at w (i + 1)).phase ≢ Waiting) (sym is)
    (waits_not_again (member_at (state_of c) (i + 1)).phase (member_at (effect (state_of c) e) (i + 1)).phase (k.phase (i + 1) lt) differs)

-- ---- who answers a task of an agenda

-- it may refuse it for the ring's reason, where that doesn't pass
pub refused_enabled : (c : Seen) (i : ℕ) (t : Client) (r : Reason) → IsGoing c → IsMemberAt c i (asked_of t) → is_passing r ≡ false → refusal (state_of c) (event_of t) ≡ Some r → refusal (state_of c) (answer_by t (Some r)) ≡ None
refused_enabled c i t r g m told e = answer_may (state_of c) (i + 1) (going_fit c g) (omega arith) m.0 t r (sym m.1) told e

-- what comes of that: it leaves the task, or refuses it
pub answered : (c : Seen) (i : ℕ) (t : Client) (r : Reason) → IsGoing c → IsMemberAt c i (asked_of t) → refusal (state_of c) (event_of t) ≡ Some r
    → (o : Option Event) → MatchOption o (is_passing r ≡ true) (λ e. (e ≡ answer_by t (Some r)) × (is_passing r ≡ false))
    → MatchOption o (passes (refusal (state_of c) (event_of t)) ≡ true) (λ e. (e ≡ answer_to (state_of c) t) × (refusal (state_of c) e ≡ None))
answered c i t r g m refused None h = ap passes refused ∙ h
answered c i t r g m refused (Some e) h = (h.0 ∙ ap (answer_by t) (sym refused), subst (λ x. refusal (state_of c) x ≡ None) (sym h.0) (refused_enabled c i t r g m h.1 refused))

-- of the first of its tasks
pub next_answer : (c : Seen) (name : List ℕ) (t : Client) (ts : List Client) → agenda_of c name ≡ t ∷ ts → IsAskedOf name t → IsForNoCopy t
    → (o : Option Event) → MatchOption o (passes (refusal (state_of c) (event_of t)) ≡ true) (λ e. (e ≡ answer_to (state_of c) t) × (refusal (state_of c) e ≡ None))
    → MatchOption o (LeavesAgenda c name) (λ e. (u : Client) × (us : List Client) × (agenda_of c name ≡ u ∷ us) × IsAskedOf name u × (e ≡ answer_to (state_of c) u) × (refusal (state_of c) e ≡ None))
next_answer c name t ts a asks none None h = λ u us b.
    let both : t ∷ ts ≡ u ∷ us = sym a ∙ b in
    let same : t ≡ u = cc in
    (subst (IsAskedOf name) same asks, subst IsForNoCopy same none, subst (λ (k : Client). passes (refusal (state_of c) (event_of k)) ≡ true) same h)
next_answer c name t ts a asks none (Some e) h = (t, ts, a, asks, h.0, h.1)

-- ---- those who are no members

-- of nobody else clients ask anything
pub strangers_ask_nothing : (w : World) (events : List Event) → IsRun w events → (name : List ℕ) → ((i : ℕ) → IsMemberIn (last w events) i name → ⊥) → client_events name events ≡ []
strangers_ask_nothing w [] r name none = refl
strangers_ask_nothing w (e ∷ es) r name none =
    ap (λ zs. zs ++ client_events name es) (by_name (bytes_eq (by_of e) name) refl) ∙ strangers_ask_nothing (effect w e) es r.1 name none
  where
    by_asked : (a b : Bool) → b ≡ false → (if a && b then asked_event e ∷ [] else []) ≡ []
    by_asked true b f = rw f refl
    by_asked false b f = refl

    by_id : (o : Option ℕ) → id_of w (by_of e) ≡ o → of_member o (refused_at w e) ≡ None → by_of e ≡ name → ⊥
    by_id None is k same = cc
    by_id (Some x) is k same =
        let at = id_within w (by_of e) x is in
        let keeps : KeepsNames w (last w (e ∷ es)) = run_keeps_names w (e ∷ es) r in
        let back : x - 1 + 1 ≡ x = omega (arith, at.0) in
        none (x - 1) (omega (arith, at.0, at.1, keeps.many), ap (λ j. (member_at (last w (e ∷ es)) j).name) back ∙ keeps.name x at.1 ∙ found_name w (by_of e) x is ∙ same)

    by_name : (b : Bool) → bytes_eq (by_of e) name ≡ b → client_event name e ≡ []
    by_name false f = by_asked (is_asked e) (bytes_eq (by_of e) name) f
    by_name true f = absurd (by_id (id_of w (by_of e)) refl r.0 (same_bytes (by_of e) name f))

-- ---- who joins

-- one that runs has it join
pub grows_by : (w : World) (e : Event) → refusal w e ≡ None → size w < size (effect w e) → (i : ℕ) × (i + 1 < size w) × (runs w (i + 1) ≡ true)
grows_by w e none more = ⊎_elim
    (λ (a : (by : List ℕ) × (name : List ℕ) × (e ≡ Admit by name)). by_id a.0 (id_of w a.0) refl a.1 (subst (λ x. refusal w x ≡ None) a.2 none))
    (λ (no : (by name : List ℕ) → e ≡ Admit by name → ⊥). absurd (omega (arith, more, (event_same w e no).many)))
    (is_admission e)
  where
    by_id : (by : List ℕ) (o : Option ℕ) → id_of w by ≡ o → (name : List ℕ) → of_member o (refused_at w (Admit by name)) ≡ None → (i : ℕ) × (i + 1 < size w) × (runs w (i + 1) ≡ true)
    by_id by None is name k = cc
    by_id by (Some x) is name k =
        let at = id_within w by x is in
        let back : x - 1 + 1 ≡ x = omega (arith, at.0) in
        (x - 1, omega (arith, at.0, at.1), ap (runs w) back ∙ ap runs_phase (up_none w x (admit_refusal w name) k).0)

-- after an event the running member of least id is the same, or a later one, or nobody
pub next_in : (c : Seen) (e : Event) → IsGoing c → refusal (state_of c) e ≡ None → IsNext (least_running (state_of c)) (least_running (effect (state_of c) e))
next_in c e g none = next_heir w (effect w e) (event_keeps w e none) (members_few c g) few' (grows_by w e none)
  where
    w : World
    w = state_of c

    fit' : IsFit (effect w e)
    fit' = subst IsFit (last_append (opening c.credit c.names) c.events (e ∷ []))
        (reached_fit c.credit c.names (c.events ++ e ∷ []) g.are (run_append (opening c.credit c.names) c.events (e ∷ []) g.run (none, tt)))

    few' : size (effect w e) ≤ 65
    few' = fit'.few

-- so no more is left of what clients asked
pub left_in : (c : Seen) (e : Event) (plans : List Plan) → IsGoing c → refusal (state_of c) e ≡ None → backlog (effect (state_of c) e) plans ≤ backlog (state_of c) plans
left_in c e plans g none = backlog_later (state_of c) (effect (state_of c) e) plans (event_keeps (state_of c) e none) (next_in c e g none)

-- ---- what leaves less to do

-- the refresh of a stale member to the newest view
pub stale_less : (c : Seen) (x : ℕ) (by : List ℕ) (version : ℕ) → IsGoing c → 1 ≤ x → x < size (state_of c) → by ≡ (member_at (state_of c) x).name → version ≡ newest (state_of c) → is_stale (newest (state_of c)) (member_at (state_of c) x) ≡ true → LeavesLess (state_of c) (Refresh by version)
stale_less c x by version g some lt e v was = repair_less (state_of c) (going_ring c g) (Refresh by version) repairs
  where
    w : World
    w = state_of c

    named : id_of w by ≡ Some x
    named = ap (id_of w) e ∙ (going_fit c g).named x some lt

    repairs : is_repair w (Refresh by version) ≡ true
    repairs = ap (λ n. nat_eq n (newest w) && stale_one w (id_of w by)) v ∙ ap (λ b. b && stale_one w (id_of w by)) (nat_eq-same (newest w)) ∙ ap (stale_one w) named ∙ was

-- ---- what was published

-- what is told of the logs of the last state is what the journal published of the names of all its members
pub all_logs : (c : Seen) → IsGoing c → map (λ name. published_in name c.events) (names_in (state_of c)) ≡ told_of_each (state_of c)
all_logs c g = run_all_logs c.credit c.names c.events g.are g.run
