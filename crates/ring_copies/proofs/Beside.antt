-- What the ring by itself has still to do beside its copies, and the numbers of a run with copies.
use Rattle.std.proofs.Common.{◌≡◌, ℕ, ◌+◌, ◌<◌, ◌≤◌, List, [], ◌∷◌, ◌++◌, length, map, Option, Some, None, sym, ap, subst, ◌∙◌, arith}
use Rattle.std.specs.List.{All}
use Rattle.std.proofs.lemmas.List.{length-map}
use Rattle.std.proofs.lemmas.List.Elements.{All-nil, All-cons}
use Rattle.ring_names.specs.declared.numbers.CreditSpec.{CreditSpec}
use Rattle.group_view.specs.Change.{AreOpeningNames}
use Rattle.queue_core.specs.Queue.{greatest}
use Rattle.ring_rules.specs.Machine.{World}
use Rattle.ring_rules.specs.Step.{opening}
use Rattle.ring_rules.specs.Event.{id_of, of_member}
use Rattle.ring_rules.specs.Event as ring
use Rattle.ring_rules.specs.Act as act
use Rattle.ring_rules.specs.Act.{Act, act_of}
use Rattle.ring_rules.specs.declared.event.Event.{Event}
use Rattle.ring_rules.specs.declared.event.Event.TheVariants as event
use Rattle.ring_rules.specs.declared.event.Client.TheVariants as client
use Rattle.ring_rules.specs.Bounded.{IsBounded}
use Rattle.ring_rules.specs.Laws.{IdleIsQuiet}
use Rattle.ring_rules.specs.Work.{total}
use Rattle.ring_rules.specs.Settling.{EachRepairLeavesLess, AreRepairs, Settles}
use Rattle.ring_rules.proofs.invariants.Happens.{IsGood, act_good, opening_good}
use Rattle.ring_rules.proofs.runs.InOrder.{run_append, last_append}
use Rattle.ring_rules.proofs.runs.Bounded.{told_bounded, event_bounded}
use Rattle.ring_rules.proofs.queue.Known.{run_idle_is_quiet}
use Rattle.ring_rules.proofs.work.Fit.{IsFit, reached_fit}
use Rattle.ring_rules.proofs.work.Settling.{repair_lowers, repair_less}
use Rattle.ring_rules.proofs.work.Settled.{ring_settles}
use Rattle.ring_copies.specs.Copies.{CopyWorld}
use Rattle.ring_copies.specs.Events.{sort_of, refused_in, without_copies}
use Rattle.ring_copies.specs.Runs.{refusal, effect, IsRun, last}
use Rattle.ring_copies.proofs.Seen.{Sees, RingRuns, sees, ring_runs}
use Rattle.ring_copies.proofs.Kept.{IsCopying, copying_reached}

-- ---- what is left to do

module _ (credit : CreditSpec) (names : List (List ℕ)) (are : AreOpeningNames names) where
  abbrev first : CopyWorld
  first = without_copies (opening credit names)

  abbrev runs_of : (es : List Event) → IsRun first es → RingRuns first (map sort_of es)
  runs_of es r = ring_runs first (map sort_of es) r

  pub repair_beside : (es : List Event) → IsRun first es → EachRepairLeavesLess (last first es).ring
  repair_beside es r =
      let k : RingRuns first (map sort_of es) = runs_of es r in
      subst EachRepairLeavesLess k.ends (repair_less (act.last (opening credit names) k.acts) (reached_fit credit names k.acts are k.run))

  repairs_end : (acts : List Act) → act.IsRun (opening credit names) acts → (w : World) → act.last (opening credit names) acts ≡ w → (steps : List Event) → AreRepairs w steps → length steps ≤ total w
  repairs_end acts run w is [] k = omega arith
  repairs_end acts run w is (e ∷ es) k =
      let fit : IsFit w = subst IsFit is (reached_fit credit names acts are run) in
      let fall : total (ring.effect w e) < total w = (repair_lowers w e fit k.0 k.1.0).less in
      let rest : length es ≤ total (ring.effect w e) = repairs_end (acts ++ act_of e ∷ []) (run_append (opening credit names) acts (act_of e ∷ []) run (subst (λ u. ring.refusal u e ≡ None) (sym is) k.1.0, tt)) (ring.effect w e) (last_append (opening credit names) acts (act_of e ∷ []) ∙ ap (λ u. ring.effect u e) is) es k.1.1 in
      omega (arith, fall, rest)

  pub ends_beside : (es steps : List Event) → IsRun first es → AreRepairs (last first es).ring steps → length steps ≤ total (last first es).ring
  ends_beside es steps r k = let runs : RingRuns first (map sort_of es) = runs_of es r in repairs_end runs.acts runs.run (last first es).ring runs.ends steps k

  copying : (es : List Event) → length es < greatest → IsRun first es → IsCopying credit names are (0 + length (map sort_of es)) (last first es)
  copying es few r = copying_reached credit names are (map sort_of es) (let many : length (map sort_of es) ≡ length es = length-map es sort_of in omega (arith, many, few)) r

  pub idle_beside : (es : List Event) → length es < greatest → IsRun first es → IdleIsQuiet (last first es).ring
  idle_beside es few r =
      let k = copying es few r in
      let many : length (map sort_of es) ≡ length es = length-map es sort_of in
      subst IdleIsQuiet k.come.is (run_idle_is_quiet credit names k.come.acts are (omega (arith, k.come.few, many, few)) k.come.run k.come.right)

  pub settles_beside : (es : List Event) → length es + total (last first es).ring < greatest → IsRun first es → Settles (last first es).ring
  settles_beside es few r =
      let k = copying es (omega (arith, few)) r in
      let many : length (map sort_of es) ≡ length es = length-map es sort_of in
      ring_settles credit names are (last first es).ring (record { acts = k.come.acts; run = k.come.run; right = k.come.right; is = k.come.is }) (omega (arith, k.come.few, many, few))

-- ---- the numbers

acts_good : (w : World) (acts : List Act) → IsGood w → act.IsRun w acts → IsGood (act.last w acts)
acts_good w [] g r = g
acts_good w (a ∷ acts) g r = acts_good (act.effect w a) acts (act_good w a g r.0) r.1

good_then : (W : CopyWorld) (e : Event) → IsGood W.ring → refusal W e ≡ None → IsGood (effect W e).ring
good_then W e g r = let s : Sees W.ring (effect W e).ring = sees W (sort_of e) r in subst IsGood s.ends (acts_good W.ring s.acts g s.run)

one_bounded : (W : CopyWorld) (e : Event) → IsGood W.ring → refusal W e ≡ None → IsBounded e
one_bounded W (event.Refuse code (client.Sync by target)) g r = by_id (id_of W.ring by) r
  where
    by_id : (o : Option ℕ) → of_member o (refused_in W (sort_of (event.Refuse code (client.Sync by target)))) ≡ None → (6 ≤ code) × (code ≤ 44)
    by_id None h = cc
    by_id (Some x) h = told_bounded code _ h
one_bounded W (event.Refuse code inner) g r = event_bounded W.ring (event.Refuse code inner) g r
one_bounded W (event.Refresh by version) g r = event_bounded W.ring (event.Refresh by version) g r
one_bounded W e g r = tt

bounded_from : (W : CopyWorld) (es : List Event) → IsGood W.ring → IsRun W es → All IsBounded es
bounded_from W [] g r = All-nil IsBounded
bounded_from W (e ∷ es) g r = All-cons IsBounded e es (one_bounded W e g r.0) (bounded_from (effect W e) es (good_then W e g r.0) r.1)

pub bounded_beside : (credit : CreditSpec) (names : List (List ℕ)) (es : List Event) → AreOpeningNames names → IsRun (without_copies (opening credit names)) es → All IsBounded es
bounded_beside credit names es are r = bounded_from (without_copies (opening credit names)) es (opening_good credit names are) r
