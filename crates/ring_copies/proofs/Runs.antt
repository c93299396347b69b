-- The laws of the ring with copies, over every run.
use Rattle.std.proofs.Common.{◌≡◌, ℕ, ◌+◌, ◌<◌, ◌≤◌, List, [], ◌∷◌, ◌++◌, length, None, refl, subst, ap, ◌∙◌, sym, arith}
use Rattle.ring_names.specs.declared.numbers.CreditSpec.{CreditSpec}
use Rattle.group_view.specs.Change.{AreOpeningNames}
use Rattle.queue_core.specs.Queue.{greatest}
use Rattle.ring_rules.specs.Machine.{World}
use Rattle.ring_rules.specs.Step.{opening}
use Rattle.ring_rules.specs.Act as ring
use Rattle.ring_rules.specs.Laws.{IsLawful, GoesOn}
use Rattle.ring_rules.specs.Idle.{IsIdle}
use Rattle.ring_rules.specs.Quiet.{IsQuiet}
use Rattle.ring_rules.specs.QueueLaws.{QueueIsRight, LaterMastersStart}
use Rattle.ring_copies.specs.Copies.{CopyWorld}
use Rattle.ring_copies.specs.Events.{CopyEvent, OfRing, refusal, effect, IsRun, last, without_copies}
use Rattle.ring_copies.specs.Laws.{IsLawfulWithCopies}
use Rattle.ring_rules.proofs.runs.AllRuns.{every_state_lawful, every_run_goes_on}
use Rattle.ring_rules.proofs.queue.Starts.{run_starts}
use Rattle.ring_rules.proofs.queue.Runs.{run_queue_right}
use Rattle.ring_copies.specs.Work.{total_with_copies, AreRepairsWithCopies, NothingLeftWithCopies}
use Rattle.ring_rules.proofs.queue.Known.{run_idle_is_quiet}
use Rattle.ring_rules.proofs.work.Settling.{none_left_is_idle}
use Rattle.ring_rules.proofs.work.Fit.{IsFit, reached_fit}
use Rattle.ring_copies.proofs.Falls.{repairs_lower_with_copies}
use Rattle.ring_copies.proofs.Kept.{IsCopying, copying_reached}
use Rattle.ring_copies.proofs.Seen.{RingRuns, ring_runs}
use Rattle.ring_copies.proofs.Credit.{copies_keep_credit}

module _ (credit : CreditSpec) (names : List (List ℕ)) (are : AreOpeningNames names) where
  abbrev first : CopyWorld
  first = without_copies (opening credit names)

  -- every state is lawful
  pub lawful_with_copies : (es : List CopyEvent) → IsRun first es → IsLawfulWithCopies credit.initial (last first es)
  lawful_with_copies es r =
      let k : RingRuns first es = ring_runs first es r in
      record { ring = subst (IsLawful credit.initial) k.ends (every_state_lawful credit names k.acts are k.run); credit = copies_keep_credit credit names es are r }

  -- from each state to a later one
  pub goes_on_with_copies : (earlier later : List CopyEvent) → IsRun first earlier → IsRun (last first earlier) later → GoesOn (last first earlier).ring (last (last first earlier) later).ring
  goes_on_with_copies earlier later r more =
      let a : RingRuns first earlier = ring_runs first earlier r in
      let b : RingRuns (last first earlier) later = ring_runs (last first earlier) later more in
      subst (λ u. GoesOn u (last (last first earlier) later).ring) a.ends
      (subst (GoesOn (ring.last (opening credit names) a.acts)) (ap (λ u. ring.last u b.acts) a.ends ∙ b.ends)
      (every_run_goes_on credit names a.acts b.acts are a.run (subst (λ u. ring.IsRun u b.acts) (sym a.ends) b.run)))

  -- later masters start first
  pub starts_with_copies : (es : List CopyEvent) → IsRun first es → LaterMastersStart (last first es).ring
  starts_with_copies es r =
      let k : RingRuns first es = ring_runs first es r in
      subst LaterMastersStart k.ends (run_starts credit names are k.acts k.run)

  -- ---- repairs end

  run_push : (W : CopyWorld) (es : List CopyEvent) (e : CopyEvent) → IsRun W es → refusal (last W es) e ≡ None → IsRun W (es ++ e ∷ [])
  run_push W [] e r k = (k, tt)
  run_push W (d ∷ es) e r k = (r.0, run_push (effect W d) es e r.1 k)

  last_push : (W : CopyWorld) (es : List CopyEvent) (e : CopyEvent) → last W (es ++ e ∷ []) ≡ effect (last W es) e
  last_push W [] e = refl
  last_push W (d ∷ es) e = last_push (effect W d) es e

  repairs_end : (done : List CopyEvent) (W : CopyWorld) (steps : List CopyEvent) → IsRun first done → W ≡ last first done → AreRepairsWithCopies W steps → length steps ≤ total_with_copies W
  repairs_end done W [] run is k = omega arith
  repairs_end done W (e ∷ es) run is k =
      let r : RingRuns first done = ring_runs first done run in
      let fit : IsFit W.ring = subst (λ (U : CopyWorld). IsFit U.ring) (sym is) (subst IsFit r.ends (reached_fit credit names r.acts are r.run)) in
      let fall : total_with_copies (effect W e) < total_with_copies W = repairs_lower_with_copies W e fit k.0 k.1.0 in
      let rest : length es ≤ total_with_copies (effect W e) = repairs_end (done ++ e ∷ []) (effect W e) es (run_push first done e run (subst (λ U. refusal U e ≡ None) is k.1.0)) (ap (λ U. effect U e) is ∙ sym (last_push first done e)) k.1.1 in
      omega arith

  pub repairs_end_with_copies : (es steps : List CopyEvent) → IsRun first es → AreRepairsWithCopies (last first es) steps → length steps ≤ total_with_copies (last first es)
  repairs_end_with_copies es steps r k = repairs_end es (last first es) steps r refl k

  -- ---- the queue

  -- by as many events as acts or more
  more_events : (m n : ℕ) (w : World) → m ≤ n → QueueIsRight m w → QueueIsRight n w
  more_events m n w le q = record { agree = q.agree; stands = q.stands; above = q.above; few = λ x. omega (arith, le, q.few x) }

  -- the mirrors agree, and confirmed messages stand, with copies as without
  pub queue_right_with_copies : (es : List CopyEvent) → length es < greatest → IsRun first es → QueueIsRight (length es) (last first es).ring
  queue_right_with_copies es few r =
      let k : IsCopying credit names are (0 + length es) (last first es) = copying_reached credit names are es few r in
      more_events (length k.come.acts) (length es) (last first es).ring (omega (arith, k.come.few))
      (subst (QueueIsRight (length k.come.acts)) k.come.is (run_queue_right credit names k.come.acts are (omega (arith, k.come.few, few)) k.come.run k.come.right))

  -- ---- rest

  -- where nothing is left to do the ring is quiet
  pub quiet_with_copies : (es : List CopyEvent) → length es < greatest → IsRun first es → NothingLeftWithCopies (last first es) → IsQuiet (last first es).ring
  quiet_with_copies es few r none =
      let k : IsCopying credit names are (0 + length es) (last first es) = copying_reached credit names are es few r in
      let fit : IsFit (last first es).ring = subst IsFit k.come.is (reached_fit credit names k.come.acts are k.come.run) in
      subst (λ w. IsIdle w → IsQuiet w) k.come.is (run_idle_is_quiet credit names k.come.acts are (omega (arith, k.come.few, few)) k.come.run k.come.right)
      (none_left_is_idle (last first es).ring fit (λ e is. none (OfRing e) is))
