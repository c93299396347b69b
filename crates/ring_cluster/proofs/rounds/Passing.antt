-- What refuses a task and passes: its member waits, or has its start as a master to publish first.
use Rattle.std.proofs.Common.{◌≡◌, ℕ, Bool, true, false, cond, not, nat_eq, nat_lt, nat_le, length, Option, Some, None, Result, Ok, Err, refl, sym, ap, ◌∙◌, arith}
use Rattle.std.specs.Prelude.{◌&&◌, ◌||◌}
use Rattle.std.proofs.lemmas.Bool.{false≢true}
use Rattle.std.proofs.lemmas.Bool.Decides.{nat_tests}
use Rattle.queue_core.specs.declared.op.Op.{Op}
use Rattle.queue_core.specs.declared.op.Op.TheVariants as op
use Rattle.queue_core.specs.Queue.{is_unacked_at, is_at}
use Rattle.queue_core.specs.Legal.{least_ready}
use Rattle.queue_core.specs.Shown.{or_empty}
use Rattle.queue_mirror.specs.Master.{lead_by, lead_refusal, start_refusal, or_refused, on_position, if_delivered}
use Rattle.std.specs.List.{list_any}
use Rattle.ring_names.specs.declared.numbers.MemberId.{MemberId}
use Rattle.ring_names.specs.declared.numbers.Position.{Position}
use Rattle.ring_names.specs.declared.reason.Reason.{Reason}
use Rattle.ring_names.specs.declared.reason.Reason.TheVariants as reason
use Rattle.group_view.specs.View.{Group}
use Rattle.group_view.specs.Change.{is_taken}
use Rattle.ring_rules.specs.declared.event.Event.TheVariants.{Start}
use Rattle.ring_rules.specs.declared.event.Client.{Client}
use Rattle.ring_rules.specs.declared.event.Client.TheVariants as client
use Rattle.ring_rules.specs.declared.phase.Phase.{Phase}
use Rattle.ring_rules.specs.declared.phase.Phase.TheVariants.{Waiting, Up, Stopped}
use Rattle.ring_rules.specs.Refusal.{refuse_if, or_else}
use Rattle.ring_rules.specs.Machine.{World, member_at, view_in, newest, is_waiting}
use Rattle.ring_rules.specs.Event.{asked_of, event_of, id_of, is_stopped, is_passing, op_refusal, admit_refusal, refusal, refused_at}
use Rattle.ring_rules.proofs.events.Found.{refused_there}
use Rattle.ring_rules.proofs.events.Kinds.{event_by}
use Rattle.ring_cluster.specs.Agendas.{IsForNoCopy}
use Rattle.ring_cluster.specs.Plays.{is_stop, takes_up}
use Rattle.ring_cluster.proofs.rounds.Members.{admit_told, up_may}

-- ---- by where a member stands

-- what passes for one that begins with a task isn't that it waits
up_passes : (f : Phase) (t : Client) (later : Option Reason) (r : Reason) → is_stop t ≡ false → takes_up f t ≡ true → is_passing r ≡ true
    → or_else (refuse_if (is_stopped f) reason.Stopped) (or_else (refuse_if (is_waiting f) reason.Waiting) later) ≡ Some r → (f ≡ Up) × (later ≡ Some r)
up_passes Waiting t later r other takes pass e = absurd (false≢true (sym other ∙ takes))
up_passes Up t later r other takes pass e = (refl, e)
up_passes Stopped t later r other takes pass e = let same : reason.Stopped ≡ r = cc in absurd (false≢true (ap is_passing same ∙ pass))

stop_tells : (f : Phase) (r : Reason) → is_passing r ≡ true → or_else (refuse_if (is_stopped f) reason.Stopped) None ≡ Some r → ⊥
stop_tells Waiting r pass e = cc
stop_tells Up r pass e = cc
stop_tells Stopped r pass e = let same : reason.Stopped ≡ r = cc in false≢true (ap is_passing same ∙ pass)

-- ---- by what leads

-- whoever is refused since it hasn't started may start
lead_passes : (master : Option MemberId) (x term : ℕ) (started : Bool) (r : Reason) → is_passing r ≡ true → lead_by master x (nat_lt 1 term && not started) ≡ Some r
    → or_else (lead_by master x false) (refuse_if (nat_le term 1 || started) reason.AlreadyStarted) ≡ None
lead_passes None x term started r pass e = let same : reason.NoMaster ≡ r = cc in absurd (false≢true (ap is_passing same ∙ pass))
lead_passes (Some id) x term started r pass e = by_lead (nat_eq id.0 x) (nat_lt 1 term) refl started e
  where
    early : (a : Bool) → nat_lt 1 term ≡ a → a ≡ true → nat_le term 1 ≡ false
    early a k l = let later : nat_lt 1 term ≡ true = k ∙ l in grind (arith, nat_tests, later)

    by_lead : (led late : Bool) → nat_lt 1 term ≡ late → (s : Bool) → cond led (cond (late && not s) (Some reason.NotStarted) None) (Some reason.NotMaster) ≡ Some r
        → or_else (cond led (cond false (Some reason.NotStarted) None) (Some reason.NotMaster)) (refuse_if (nat_le term 1 || s) reason.AlreadyStarted) ≡ None
    by_lead false late k s h = let same : reason.NotMaster ≡ r = cc in absurd (false≢true (ap is_passing same ∙ pass))
    by_lead true true k false h = ap (λ b. refuse_if (b || false) reason.AlreadyStarted) (early true k refl)
    by_lead true true k true h = cc
    by_lead true false k s h = cc

-- an answer whose own refusals don't pass
answer_passes : (lead : Option Reason) (answer : Result Op Reason) (r : Reason) → is_passing r ≡ true → (op_refusal answer ≡ Some r → is_passing r ≡ false) → op_refusal (or_refused lead answer) ≡ Some r → lead ≡ Some r
answer_passes None answer r pass told e = absurd (false≢true (sym (told e) ∙ pass))
answer_passes (Some l) answer r pass told e = e

empty_told : (make : Position → Op) (o : Option ℕ) (r : Reason) → op_refusal (on_position make (or_empty o)) ≡ Some r → is_passing r ≡ false
empty_told make None r e = let same : reason.QueueEmpty ≡ r = cc in ap is_passing (sym same)
empty_told make (Some at) r e = cc

held_told : (o : Op) (out held : Bool) (r : Reason) → op_refusal (if_delivered o (cond out (Ok tt) (Err (cond held reason.NotDelivered reason.UnknownPosition)))) ≡ Some r → is_passing r ≡ false
held_told o true held r e = cc
held_told o false true r e = let same : reason.NotDelivered ≡ r = cc in ap is_passing (sym same)
held_told o false false r e = let same : reason.UnknownPosition ≡ r = cc in ap is_passing (sym same)

-- ---- a member that begins with a task

-- what refuses that and passes is that it has its start to publish first
module _ (w : World) (x : ℕ) where
  abbrev g : Group
  g = view_in w (member_at w x).version

  abbrev MayStart : Type 0
  MayStart = ((member_at w x).phase ≡ Up) × (start_refusal g x (member_at w x).started ≡ None)

  by_answer : (t : Client) (answer : Result Op Reason) (r : Reason) → is_stop t ≡ false → takes_up (member_at w x).phase t ≡ true → is_passing r ≡ true → (op_refusal answer ≡ Some r → is_passing r ≡ false)
      → or_else (refuse_if (is_stopped (member_at w x).phase) reason.Stopped) (or_else (refuse_if (is_waiting (member_at w x).phase) reason.Waiting) (op_refusal (or_refused (lead_refusal g x (member_at w x).started) answer))) ≡ Some r → MayStart
  by_answer t answer r other takes pass told e =
      let up = up_passes (member_at w x).phase t _ r other takes pass e in
      (up.0, lead_passes g.master x g.term (member_at w x).started r pass (answer_passes (lead_refusal g x (member_at w x).started) answer r pass told up.1))

  by_client : (t : Client) (r : Reason) → IsForNoCopy t → takes_up (member_at w x).phase t ≡ true → is_passing r ≡ true → refused_at w (event_of t) x ≡ Some r → MayStart
  by_client (client.Cast by body) r none takes pass e = let up = up_passes (member_at w x).phase (client.Cast by body) None r refl takes pass e in let never : None ≡ Some r = up.1 in cc
  by_client (client.Sync by target) r none takes pass e = absurd (false≢true (sym none))
  by_client (client.Stop by) r none takes pass e = absurd (stop_tells (member_at w x).phase r pass e)
  by_client (client.Admit by newcomer) r none takes pass e =
      let up = up_passes (member_at w x).phase (client.Admit by newcomer) (admit_refusal w newcomer) r refl takes pass e in
      absurd (false≢true (sym (admit_told (is_taken (view_in w (newest w)).entries newcomer) _ r up.1) ∙ pass))
  by_client (client.Publish by body) r none takes pass e = by_answer (client.Publish by body) _ r refl takes pass (λ h. cc) e
  by_client (client.Get by) r none takes pass e = by_answer (client.Get by) _ r refl takes pass (λ h. empty_told op.Deliver (least_ready (member_at w x).mirror.queue.items) r h) e
  by_client (client.Pop by) r none takes pass e = by_answer (client.Pop by) _ r refl takes pass (λ h. empty_told op.Drop (least_ready (member_at w x).mirror.queue.items) r h) e
  by_client (client.Ack by at) r none takes pass e =
      by_answer (client.Ack by at) _ r refl takes pass (λ h. held_told (op.Ack at) (list_any (is_unacked_at at.0) (member_at w x).mirror.queue.items) (list_any (is_at at.0) (member_at w x).mirror.queue.items) r h) e
  by_client (client.Requeue by at) r none takes pass e =
      by_answer (client.Requeue by at) _ r refl takes pass (λ h. held_told (op.Requeue at) (list_any (is_unacked_at at.0) (member_at w x).mirror.queue.items) (list_any (is_at at.0) (member_at w x).mirror.queue.items) r h) e

  -- and so it may
  pub passing_starts : (t : Client) (r : Reason) → IsForNoCopy t → id_of w (asked_of t) ≡ Some x → id_of w (member_at w x).name ≡ Some x → takes_up (member_at w x).phase t ≡ true → is_passing r ≡ true → refusal w (event_of t) ≡ Some r
      → ((member_at w x).phase ≡ Up) × (refusal w (Start (member_at w x).name) ≡ None)
  passing_starts t r none there named takes pass e =
      let may : MayStart = by_client t r none takes pass (sym (refused_there w x (event_of t) (ap (id_of w) (event_by t) ∙ there)) ∙ e) in (
        may.0,
        refused_there w x (Start (member_at w x).name) named
            ∙ up_may (member_at w x).phase _ may.0 (ap (λ o. op_refusal (or_refused o (Ok (op.Start (length (member_at w x).mirror.queue.items))))) may.1),
      )
