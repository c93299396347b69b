-- What holds of every run of acts holds of every run of events.
use Rattle.std.proofs.Common.{◌≡◌, ℕ, ◌<◌, List, [], ◌∷◌, ◌++◌, length, None, refl, sym, subst}
use Rattle.std.proofs.lemmas.List.{length-map}
use Rattle.ring_names.specs.declared.numbers.CreditSpec.{CreditSpec}
use Rattle.queue_core.specs.Queue.{greatest}
use Rattle.group_view.specs.Change.{AreOpeningNames}
use Rattle.ring_rules.specs.Machine.{World}
use Rattle.ring_rules.specs.Step.{opening}
use Rattle.ring_rules.specs.Event.{Event, refusal, effect, IsRun, last}
use Rattle.ring_rules.specs.Act as act
use Rattle.ring_rules.specs.Act.{Act, act_of}
use Rattle.ring_rules.specs.Compact.{IsCompact}
use Rattle.ring_rules.specs.Idle.{NobodySteps, MarksNobody, ErasesNobody, IsIdle}
use Rattle.ring_rules.specs.Quiet.{RingRests, IsQuiet}
use Rattle.ring_rules.specs.Laws.{IsLawful, GoesOn}
use Rattle.ring_rules.specs.QueueLaws.{QueueIsRight, LaterMastersStart}
use Rattle.ring_rules.proofs.events.Acts.{acts_of, acts_run, acts_last, acts_right}
use Rattle.ring_rules.proofs.events.Parts.{Part}
use Rattle.ring_rules.proofs.events.Parts as parts
use Rattle.ring_rules.proofs.invariants.Happens.{IsGood, act_good}
use Rattle.ring_rules.proofs.invariants.Happens as happens
use Rattle.ring_rules.proofs.invariants.Named.{AreNamed}
use Rattle.ring_rules.proofs.invariants.Named as named
use Rattle.ring_rules.proofs.invariants.FirstVersion.{IsFirstOld}
use Rattle.ring_rules.proofs.invariants.FirstVersion as first
use Rattle.ring_rules.proofs.walks.LeftLinks.{IsLater, act_later}
use Rattle.ring_rules.proofs.compact.AllCompact as compact
use Rattle.ring_rules.proofs.rests.Rests as rests
use Rattle.ring_rules.proofs.runs.OwnLogs.{IsLogged, act_logged}
use Rattle.ring_rules.proofs.runs.OwnLogs as logs
use Rattle.ring_rules.proofs.runs.Lines.{LinesRight}
use Rattle.ring_rules.proofs.runs.NoGap as gaps
use Rattle.ring_rules.proofs.runs.LinkCredit.{IsCredited}
use Rattle.ring_rules.proofs.runs.LinkCredit as credits
use Rattle.ring_rules.proofs.runs.AllRuns as all
use Rattle.ring_rules.proofs.queue.Runs as queues
use Rattle.ring_rules.proofs.queue.Starts as starts
use Rattle.ring_rules.proofs.queue.Known as known
use Rattle.ring_rules.proofs.work.Fit.{IsFit}
use Rattle.ring_rules.proofs.work.Fit as fit
use Rattle.ring_rules.proofs.work.Nobody.{NobodyAtZero}
use Rattle.ring_rules.proofs.work.Nobody as nobody
use Rattle.ring_rules.proofs.work.OwnEnds.{OwnEnds}
use Rattle.ring_rules.proofs.work.OwnEnds as ends

-- ---- one event more

pub event_good : (w : World) (e : Event) → IsGood w → refusal w e ≡ None → IsGood (effect w e)
event_good w e = act_good w (act_of e)

pub event_logged : (w : World) (e : Event) → IsGood w → refusal w e ≡ None → IsLogged w → IsLogged (effect w e)
event_logged w e = act_logged w (act_of e)

pub event_later : (w : World) (e : Event) → IsGood w → refusal w e ≡ None → IsLater w (effect w e)
event_later w e = act_later w (act_of e)

-- ---- runs

-- what each event keeps, every run keeps
pub run_events : (P : World → Type 0) → ((w : World) (e : Event) → IsGood w → refusal w e ≡ None → P w → P (effect w e)) → (w : World) (es : List Event) → IsGood w → IsRun w es → P w → P (last w es)
run_events P keeps w [] g r h = h
run_events P keeps w (e ∷ es) g r h = run_events P keeps (effect w e) es (event_good w e g r.0) r.1 (keeps w e g r.0 h)

pub run_good : (w : World) (es : List Event) → IsGood w → IsRun w es → IsGood (last w es)
run_good w es g r = run_events IsGood (λ v e gv k _. event_good v e gv k) w es g r g

-- one run and then another
pub last_append : (w : World) (es more : List Event) → last w (es ++ more) ≡ last (last w es) more
last_append w [] more = refl
last_append w (e ∷ es) more = last_append (effect w e) es more

pub run_append : (w : World) (es more : List Event) → IsRun w es → IsRun (last w es) more → IsRun w (es ++ more)
run_append w [] more r k = k
run_append w (e ∷ es) more r k = (r.0, run_append (effect w e) es more r.1 k)

-- where the logs are known as well
record IsKnown (P : World → Type 0) (w : World) : Type 0 where
  pub logged : IsLogged w
  pub holds : P w

pub run_knowing : (P : World → Type 0) → ((w : World) (e : Event) → IsGood w → refusal w e ≡ None → IsLogged w → P w → P (effect w e)) → (w : World) (es : List Event) → IsGood w → IsRun w es → IsLogged w → P w → P (last w es)
run_knowing P keeps w es g r l h =
    (run_events (IsKnown P) (λ v e gv q k. record { logged = event_logged v e gv q k.logged; holds = keeps v e gv q k.logged k.holds }) w es g r (record { logged = l; holds = h })).holds

-- what the parts of every event keep, every run keeps
pub run_keeps : (P : World → Type 0) → ((w w' : World) → Part IsGood w w' → P w → P w') → (w : World) (es : List Event) → IsGood w → IsRun w es → P w → P (last w es)
run_keeps P keeps w es g r h = subst P (acts_last w es) (parts.run_keeps P keeps w (acts_of es) g (acts_run w es r) h)

-- ---- every state of every run

module _ (credit : CreditSpec) (names : List (List ℕ)) (events : List Event) (are : AreOpeningNames names) (run : IsRun (opening credit names) events) where
  acts : List Act
  acts = acts_of events

  acts_do : act.IsRun (opening credit names) acts
  unfolding acts
  acts_do = acts_run (opening credit names) events run

  -- what holds where its acts leave the ring, holds where the events do
  there : (P : World → Type 0) → P (act.last (opening credit names) acts) → P (last (opening credit names) events)
  unfolding acts
  there P h = subst P (acts_last (opening credit names) events) h

  few_acts : length events < greatest → length acts < greatest
  unfolding acts
  few_acts few = subst (λ n. n < greatest) (sym (length-map events act_of)) few

  pub reached_good : IsGood (last (opening credit names) events)
  reached_good = there IsGood (happens.reached_good credit names acts are acts_do)

  pub reached_fit : IsFit (last (opening credit names) events)
  reached_fit = there IsFit (fit.reached_fit credit names acts are acts_do)

  pub reached_nobody : NobodyAtZero (last (opening credit names) events)
  reached_nobody = there NobodyAtZero (nobody.reached_nobody credit names acts are acts_do)

  pub reached_owns : OwnEnds (last (opening credit names) events)
  reached_owns = there OwnEnds (ends.reached_owns credit names acts are acts_do)

  pub reached_named : AreNamed (last (opening credit names) events)
  reached_named = there AreNamed (named.reached_named credit names acts are acts_do)

  pub reached_old : IsFirstOld (last (opening credit names) events)
  reached_old = there IsFirstOld (first.reached_old credit names acts are acts_do)

  pub run_worked_rests : NobodySteps (last (opening credit names) events) → MarksNobody (last (opening credit names) events) → ErasesNobody (last (opening credit names) events) → RingRests (last (opening credit names) events)
  run_worked_rests = there (λ w. NobodySteps w → MarksNobody w → ErasesNobody w → RingRests w) (rests.run_worked_rests credit names acts are acts_do)

  pub reached_lines : LinesRight (last (opening credit names) events)
  reached_lines = there LinesRight (gaps.reached_lines credit names acts are acts_do)

  pub reached_compact : IsCompact (last (opening credit names) events)
  reached_compact = there IsCompact (compact.reached_compact credit names acts are acts_do)

  pub run_logged : IsLogged (last (opening credit names) events)
  run_logged = there IsLogged (logs.run_logged credit names acts are acts_do)

  pub run_credited : IsCredited credit.initial credit.more (last (opening credit names) events)
  run_credited = there (IsCredited credit.initial credit.more) (credits.run_credited credit names acts are acts_do)

  pub every_state_lawful : IsLawful credit.initial (last (opening credit names) events)
  every_state_lawful = there (IsLawful credit.initial) (all.every_state_lawful credit names acts are acts_do)

  pub run_starts : LaterMastersStart (last (opening credit names) events)
  run_starts = there LaterMastersStart (starts.run_starts credit names are acts acts_do)

  pub run_queue_right : length events < greatest → QueueIsRight (length events) (last (opening credit names) events)
  unfolding acts
  run_queue_right few =
      subst (λ n. QueueIsRight n (last (opening credit names) events)) (length-map events act_of)
      (there (QueueIsRight (length acts)) (queues.run_queue_right credit names acts are (few_acts few) acts_do (acts_right (opening credit names) events)))

  pub run_idle_is_quiet : length events < greatest → IsIdle (last (opening credit names) events) → IsQuiet (last (opening credit names) events)
  unfolding acts
  run_idle_is_quiet few = there (λ w. IsIdle w → IsQuiet w) (known.run_idle_is_quiet credit names acts are (few_acts few) acts_do (acts_right (opening credit names) events))

-- and from a state to each later one
pub every_run_goes_on : (credit : CreditSpec) (names : List (List ℕ)) (earlier later : List Event) → AreOpeningNames names → IsRun (opening credit names) earlier → IsRun (last (opening credit names) earlier) later
    → GoesOn (last (opening credit names) earlier) (last (last (opening credit names) earlier) later)
every_run_goes_on credit names earlier later are run more =
    let w = opening credit names in
    subst (λ v. act.IsRun v (acts_of later) → GoesOn v (last (last w earlier) later)) (acts_last w earlier)
    (subst (λ v. act.IsRun (act.last w (acts_of earlier)) (acts_of later) → GoesOn (act.last w (acts_of earlier)) v) (later_end w) (all.every_run_goes_on credit names (acts_of earlier) (acts_of later) are (acts_run w earlier run)))
    (acts_run (last w earlier) later more)
  where
    later_end : (w : World) → act.last (act.last w (acts_of earlier)) (acts_of later) ≡ last (last w earlier) later
    later_end w = subst (λ v. act.last v (acts_of later) ≡ last (last w earlier) later) (sym (acts_last w earlier)) (acts_last (last w earlier) later)
