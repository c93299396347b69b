-- What is asked and its event, and what is known of the last state of a cluster's journal.
use Rattle.std.proofs.Common.{◌≡◌, Bool, true, false, ℕ, List, [], ◌∷◌, Option, Some, None, bytes_eq, if◌then◌else◌, refl, sym, ap, subst, ◌∙◌}
use Rattle.std.specs.Prelude.{◌&&◌, ◌||◌, not, is_some, MatchOption}
use Rattle.std.proofs.lemmas.Bool.{false≢true}
use Rattle.ring_names.specs.declared.reason.Reason.{Reason}
use Rattle.ring_rules.specs.declared.event.Event.{Event}
use Rattle.ring_rules.specs.declared.event.Event.TheVariants.{Stop, Mark, Erase}
use Rattle.ring_rules.specs.declared.event.Client.{Client}
use Rattle.ring_rules.specs.declared.event.Client.TheVariants as client
use Rattle.ring_rules.specs.Refusal.{is_empty}
use Rattle.ring_rules.specs.Event.{by_of, asked_of, event_of, is_asked}
use Rattle.ring_rules.specs.Work.{LeavesLess}
use Rattle.ring_rules.specs.Settling.{is_repair}
use Rattle.ring_rules.proofs.events.Kinds.{event_by}
use Rattle.ring_rules.proofs.work.Fit.{IsFit as RingIsFit}
use Rattle.ring_rules.proofs.runs.OfEvents.{reached_fit as ring_fit}
use Rattle.ring_rules.proofs.work.Settling.{repair_less}
use Rattle.gm_member.proofs.Fit.{IsFit, reached_fit}
use Rattle.ring_rules.specs.declared.kind.LinkStep.{LinkStep}
use Rattle.ring_rules.specs.declared.kind.LinkStep.TheVariants as step
use Rattle.ring_cluster.specs.Seen.{Seen, state_of, IsGoing}
use Rattle.ring_cluster.specs.Plays.{asked_event, client_event, answer_by, is_stop}
use Rattle.ring_rules.specs.Kind.{step_event}

-- what holds of a value that is there
pub from_some : {A : Type 0} (P : Type 0) (Q : A → Type 0) (o : Option A) (x : A) → o ≡ Some x → MatchOption o P Q → Q x
from_some P Q o x e h = subst (λ k. MatchOption k P Q) e h

-- a task that was found is the first of the agenda
pub first_task : {X : Type 0} (task_in : X → Client) (o : Option X) (ts : List Client) → MatchOption o (ts ≡ []) (λ x. (rest : List Client) × (ts ≡ task_in x ∷ rest)) → is_some o ≡ not (is_empty ts)
first_task task_in None ts h = sym (ap (λ xs. not (is_empty xs)) h)
first_task task_in (Some x) ts h = sym (ap (λ xs. not (is_empty xs)) h.1)

-- who neither runs nor has a task has none
pub no_task : (on : Bool) (ts : List Client) → (on || not (is_empty ts)) ≡ false → ts ≡ []
no_task true ts e = absurd (false≢true (sym e))
no_task false [] e = refl
no_task false (t ∷ ts) e = absurd (false≢true (sym e))

-- ---- what holds of its state

pub going_fit : (c : Seen) → IsGoing c → IsFit (state_of c)
going_fit c g = reached_fit c.credit c.names c.events g.are g.run

-- and what holds of it as a state of the ring
pub going_ring : (c : Seen) → IsGoing c → RingIsFit (state_of c)
going_ring c g = ring_fit c.credit c.names c.events g.are g.run

-- ---- what is asked

-- by whose event it is answered
pub answered_by : (t : Client) (o : Option Reason) → by_of (answer_by t o) ≡ asked_of t
answered_by t None = event_by t
answered_by t (Some r) = refl

-- what was asked and done or refused of a member is what comes of its answer
event_asked : (name : List ℕ) (t : Client) → bytes_eq (asked_of t) name ≡ true → client_event name (event_of t) ≡ event_of t ∷ []
event_asked name (client.Cast by body) b = rw b refl
event_asked name t b = rw b refl

pub answer_asked : (name : List ℕ) (t : Client) (o : Option Reason) → bytes_eq (asked_of t) name ≡ true → client_event name (answer_by t o) ≡ event_of t ∷ []
answer_asked name t None b = event_asked name t b
answer_asked name t (Some r) b = rw b refl

-- and of nobody else
is_other : (e : Event) (a b : Bool) → b ≡ false → (if a && b then asked_event e ∷ [] else []) ≡ []
is_other e true b h = rw h refl
is_other e false b h = refl

pub answer_of_other : (name : List ℕ) (t : Client) (o : Option Reason) → bytes_eq (asked_of t) name ≡ false → client_event name (answer_by t o) ≡ []
answer_of_other name t o b =
    let e : Event = answer_by t o in
    is_other e (is_asked e) (bytes_eq (by_of e) name) (ap (λ n. bytes_eq n name) (answered_by t o) ∙ b)

-- whether it is a stop is told by its event
abbrev stops : Event → Bool
stops (Stop by) = true
stops e = false

stop_told : (t : Client) → stops (event_of t) ≡ is_stop t
stop_told (client.Cast by body) = refl
stop_told t = refl

pub same_stop : (t u : Client) → event_of t ≡ event_of u → is_stop t ≡ is_stop u
same_stop t u e = sym (stop_told t) ∙ ap stops e ∙ stop_told u

-- ---- what leaves less to do

pub step_less : (c : Seen) (s : LinkStep) (by : List ℕ) → IsGoing c → LeavesLess (state_of c) (step_event s by)
step_less c s by g = repair_less (state_of c) (going_ring c g) (step_event s by) (by_step s)
  where
    by_step : (s : LinkStep) → is_repair (state_of c) (step_event s by) ≡ true
    by_step step.Pick = refl
    by_step step.Take = refl
    by_step step.TakeEnd = refl
    by_step step.Gain = refl
    by_step step.Put = refl

pub mark_less : (c : Seen) (by dead : List ℕ) → IsGoing c → LeavesLess (state_of c) (Mark by dead)
mark_less c by dead g = repair_less (state_of c) (going_ring c g) (Mark by dead) refl

pub erase_less : (c : Seen) (by origin : List ℕ) → IsGoing c → LeavesLess (state_of c) (Erase by origin)
erase_less c by origin g = repair_less (state_of c) (going_ring c g) (Erase by origin) refl
