-- From what the registrar does to every state in which it stands.
use Rattle.std.proofs.Common.{◌≡◌, Some, None, Result, Ok, Err, sym, subst, ap, ◌∙◌}
use Rattle.std.specs.Prelude.{OnOk}
use Rattle.ring_names.specs.declared.reason.Reason.{Reason}
use Rattle.ring_rules.specs.Machine.{World}
use Rattle.ring_rules.specs.declared.event.Event.{Event}
use Rattle.ring_rules.specs.Event.{refusal, effect}
use Rattle.ring_rules.proofs.invariants.Happens.{IsGood}
use Rattle.ring_rules.proofs.runs.OfEvents.{reached_good}
use Rattle.group_view.specs.declared.request.Request.{Request}
use Rattle.group_view.specs.declared.request.Request.TheVariants.{Mark, Refresh, Admit, Erase, Synced, Stopped, Deposit, Collect}
use Rattle.registrar.specs.Registry.{Registry}
use Rattle.registrar.specs.Asked.{request_refusal}
use Rattle.registrar.specs.Handled.{handled}
use Rattle.registrar.specs.Stands.{StandsIn, Asks, WhereAsked}
use Rattle.registrar.proofs.Judged.{mark_judged, admit_judged, erase_judged, synced_judged, stop_judged, refresh_judged}
use Rattle.registrar.proofs.Steps.{mark_stands, admit_stands, erase_stands, synced_stands, stop_stands, refresh_stands}

module _ {I : Type 0} where
  -- in one state
  judged : (w : World) (r : Registry I) (request : Request I) (e : Event) → IsGood w → StandsIn w r → Asks w r request e → request_refusal r request ≡ refusal w e
  judged w r (Mark by dead view has_current) e h s a =
      mark_judged w r by.0 dead.0 view has_current a.name a.dead_name h s a.asker a.named a.tells ∙ sym (ap (refusal w) a.is)
  judged w r (Refresh by) e h s (v, a) = refresh_judged w r by.0 v a.name h s a.asker ∙ sym (ap (refusal w) a.is)
  judged w r (Admit by name) e h s (v, a) = admit_judged w r by.0 v a.name name h s a.asker ∙ sym (ap (refusal w) a.is)
  judged w r (Erase by origin got retired view) e h s a = erase_judged w r by.0 origin.0 view got retired e h s a ∙ sym (ap (refusal w) a.is)
  judged w r (Synced by missing) e h s (v, a) = synced_judged w r by.0 v missing a.name h s a.asker a.misses ∙ sym (ap (refusal w) a.is)
  judged w r (Stopped by) e h s a = stop_judged w r by.0 a.name h s a.named ∙ sym (ap (refusal w) a.is)
  judged w r (Deposit by to view kind link) e h s a = absurd a
  judged w r (Collect by) e h s a = absurd a

  steps : (w : World) (r : Registry I) (request : Request I) (e : Event) → StandsIn w r → Asks w r request e → StandsIn (effect w e) (handled r request)
  steps w r (Mark by dead view has_current) e s a =
      subst (λ k. StandsIn (effect w k) (handled r (Mark by dead view has_current))) (sym a.is) (mark_stands w r by.0 dead.0 a.name a.dead_name s a.asker.named a.named)
  steps w r (Refresh by) e s (v, a) = subst (λ k. StandsIn (effect w k) r) (sym a.is) (refresh_stands w r by.0 _ a.name s a.asker.named)
  steps w r (Admit by name) e s (v, a) = subst (λ k. StandsIn (effect w k) (handled r (Admit by name))) (sym a.is) (admit_stands w r by.0 a.name name s a.asker.named)
  steps w r (Erase by origin got retired view) e s a =
      subst (λ k. StandsIn (effect w k) (handled r (Erase by origin got retired view))) (sym a.is) (erase_stands w r by.0 origin.0 a.name a.origin_name s a.asker.named a.named)
  steps w r (Synced by missing) e s (v, a) = subst (λ k. StandsIn (effect w k) (handled r (Synced by missing))) (sym a.is) (synced_stands w r by.0 a.name s a.asker.named)
  steps w r (Stopped by) e s a = subst (λ k. StandsIn (effect w k) (handled r (Stopped by))) (sym a.is) (stop_stands w r by.0 a.name s a.named)
  steps w r (Deposit by to view kind link) e s a = absurd a
  steps w r (Collect by) e s a = absurd a

  -- in every state of every run
  judged_lifts : (r : Registry I) (request : Request I) → WhereAsked r request (λ w e. request_refusal r request ≡ refusal w e)
  judged_lifts r request = λ credit names events e are run s a. judged _ r request e (reached_good credit names events are run) s a

  -- what is refused is not enabled, for that reason
  pub refused_lifts : {A : Type 0} (r : Registry I) (request : Request I) (reason : Reason) (answer : Reason → A) → Some reason ≡ request_refusal r request
      → WhereAsked r request (λ w e. (k : Reason) → refusal w e ≡ Some k → answer reason ≡ answer k)
  refused_lifts r request reason answer h = λ credit names events e are run s a k j.
      let both : Some reason ≡ Some k = h ∙ judged_lifts r request credit names events e are run s a ∙ j in
      let same : reason ≡ k = cc in ap answer same

  pub refused_never : (r : Registry I) (request : Request I) (reason : Reason) → Some reason ≡ request_refusal r request
      → WhereAsked r request (λ w e. refusal w e ≡ None → ⊥)
  refused_never r request reason h = λ credit names events e are run s a j.
      let both : Some reason ≡ None = h ∙ judged_lifts r request credit names events e are run s a ∙ j in cc

  -- what is done is enabled, and the event
  pub done_steps : {A E : Type 0} (r r' : Registry I) (request : Request I) (result : Result A E) → OnOk result (r' ≡ handled r request)
      → WhereAsked r request (λ w e. refusal w e ≡ None → OnOk result (StandsIn (effect w e) r'))
  done_steps r r' request (Ok x) h = λ credit names events e are run s a j. subst (StandsIn _) (sym h) (steps _ r request e s a)
  done_steps r r' request (Err x) h = λ credit names events e are run s a j. tt

  pub done_never : (r : Registry I) (request : Request I) → None ≡ request_refusal r request
      → WhereAsked r request (λ w e. (k : Reason) → refusal w e ≡ Some k → ⊥)
  done_never r request h = λ credit names events e are run s a k j.
      let both : None ≡ Some k = h ∙ judged_lifts r request credit names events e are run s a ∙ j in cc
