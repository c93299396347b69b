-- Every run of the ring is one of moves.
use Rattle.std.proofs.Common.{◌≡◌, ℕ, zero, suc, ◌<◌, ◌≤◌, ◌+◌, ◌-◌, Bool, true, false, cond, List, [], ◌∷◌, ◌++◌, length, refl, sym, ap, ◌∙◌, subst, arith, Some, None}
use Rattle.std.proofs.lemmas.Bool.{false≢true}
use Rattle.std.proofs.lemmas.Option.{none-some, same_Some}
use Rattle.ring_names.specs.declared.numbers.CreditSpec.{CreditSpec}
use Rattle.group_view.specs.Change.{AreOpeningNames, opening as opening_group}
use Rattle.queue_core.specs.Queue.{greatest}
use Rattle.queue_mirror.specs.Mirror.{founding}
use Rattle.queue_laws.specs.Part.{is_waiting, is_up}
use Rattle.queue_laws.specs.Moves.{RingGives, IsOpening}
use Rattle.queue_laws.proofs.Good as good
use Rattle.queue_laws.proofs.Low.{AreLow, opening_low, move_low}
use Rattle.queue_laws.proofs.AllRuns.{opening_good, move_good, good_agree, good_stands}
use Rattle.ring_rules.specs.declared.phase.Phase as ring
use Rattle.ring_rules.specs.declared.phase.Phase.TheVariants as machine
use Rattle.ring_rules.specs.Rows.{Row}
use Rattle.ring_rules.specs.Machine.{World, member_at, view_in, runs_phase}
use Rattle.ring_rules.specs.Step.{opening, put_on, gain_on, leave_link, current_is}
use Rattle.ring_rules.specs.Event.{refreshed}
use Rattle.ring_rules.specs.Act.{Act, refusal, effect, IsRun, last}
use Rattle.ring_rules.specs.Laws.{GoesOn}
use Rattle.ring_rules.specs.QueuePart.{phase_of, sight_of, based, sent_of, part_of}
use Rattle.ring_rules.specs.QueueLaws.{IsCopyOf, CopyIsRight, CopiesAreRight, QueueIsRight}
use Rattle.ring_rules.proofs.events.Cases.{each_act_of}
use Rattle.ring_rules.proofs.events.First.{first_each, first_size, first_row, first_log, first_none_waits}
use Rattle.ring_rules.proofs.invariants.Happens.{can_join}
use Rattle.ring_rules.proofs.runs.AllRuns.{every_run_goes_on}
use Rattle.ring_rules.proofs.queue.Likes.{quiet_same, put_quiet, gain_quiet, current_quiet, leave_quiet, refreshed_quiet}
use Rattle.ring_rules.proofs.runs.InOrder.{last_append, run_append}
use Rattle.ring_rules.proofs.queue.Facts.{Facts, HasMasters, reached_facts, gives, keeps}
use Rattle.ring_rules.proofs.queue.Steps.{Result, quiet, casts, takes, first_takes, stops}
use Rattle.ring_rules.proofs.queue.CopySteps.{finishes}
use Rattle.ring_rules.proofs.queue.ViewSteps.{marks, erases, syncs, admits}

-- what is known of a state after n events
pub record IsKnown (n : ℕ) (w : World) : Type 0 where
  pub gives : RingGives (part_of w)
  pub low : AreLow n (part_of w)
  pub holds : good.IsGood (part_of w)
  pub masters : HasMasters w

-- each event is a move
pub act_result : (w : World) (e : Act) (n : ℕ) → refusal w e ≡ None → CopyIsRight w e → Facts w → IsKnown n w → GoesOn w (effect w e) → Result w (effect w e)
act_result w e n r right f k = each_act_of (IsCopyOf w) (λ w'. GoesOn w w' → Result w w') w e f.good (record {
  casts = λ x m u may on. casts w x m u.some u.lt u.up f may on k.gives k.holds.terms k.masters;
  puts = λ x o u out c _. quiet w (put_on w x o) (put_quiet w x o f.good (f.good.inv.linked.out_lt x o (ap runs_phase u.up) out)) k.masters;
  takes = λ y s u m on. takes w y s m f on k.masters;
  begins = λ y s u m _. first_takes w y s m f k.masters;
  leaves = λ y s u current c _. quiet w (leave_link w y s) (leave_quiet w y s u.lt u.up) k.masters;
  gains = λ x o u out c _. quiet w (gain_on w o) (gain_quiet w o) k.masters;
  stops = λ x u _. stops w x u.lt k.masters;
  marks = λ x d u m _. marks w x d u.lt m f k.masters;
  erases = λ x d u m _. erases w x d u.lt m f k.holds k.masters;
  syncs = λ x u m _. syncs w x u.lt m f k.holds k.masters;
  admits = λ x name u c _. admits w x name (can_join w x name u.lt u.up c f.good) f k.masters;
  refreshes = λ x v u m _. quiet w (refreshed w x v) (refreshed_quiet w x v (record { lt = u.lt; up = u.up; there = λ q s e c. f.good.inv.current.lt q s (ap runs_phase e) c })) k.masters;
  picks = λ y s u none door upto _. quiet w (current_is w y (Some s)) (current_quiet w y (Some s) u.lt u.up) k.masters;
  refuses = λ _. quiet w w (quiet_same w) k.masters;
}) (λ x m u none c _. finishes w x m u.lt u.up none c k.masters) right r

-- ---- runs

module _ (credit : CreditSpec) (names : List (List ℕ)) (are : AreOpeningNames names) where
  step : (done : List Act) (w : World) (e : Act) (n : ℕ) → n < greatest - 1 → IsRun (opening credit names) done → w ≡ last (opening credit names) done → refusal w e ≡ None → CopyIsRight w e → IsKnown n w → IsKnown (n + 1) (effect w e)
  step done w e n few run is r right k =
      let f : Facts w = subst Facts (sym is) (reached_facts credit names done are run) in
      let more : IsRun (opening credit names) (done ++ e ∷ []) = run_append (opening credit names) done (e ∷ []) run (subst (λ u. refusal u e ≡ None) is r, tt) in
      let now : effect w e ≡ last (opening credit names) (done ++ e ∷ []) = ap (λ u. effect u e) is ∙ sym (last_append (opening credit names) done (e ∷ [])) in
      let f' : Facts (effect w e) = subst Facts (sym now) (reached_facts credit names (done ++ e ∷ []) are more) in
      let on : GoesOn w (effect w e) = subst (λ u. GoesOn u (effect u e)) (sym is) (every_run_goes_on credit names done (e ∷ []) are run (subst (λ u. refusal u e ≡ None) is r, tt)) in
      let o : Result w (effect w e) = act_result w e n r right f k on in
      let g' : RingGives (part_of (effect w e)) = gives (effect w e) f' o.masters in
      record {
        gives = g';
        low = move_low n (part_of w) (part_of (effect w e)) o.move k.low;
        holds = move_good n (part_of w) (part_of (effect w e)) o.move k.gives g' (keeps w (effect w e) f f' on o.rises) few k.low k.holds;
        masters = o.masters;
      }

  run_known : (done : List Act) (w : World) (es : List Act) (n : ℕ) → n + length es < greatest → IsRun (opening credit names) done → w ≡ last (opening credit names) done → IsRun w es → CopiesAreRight w es → IsKnown n w
      → IsKnown (n + length es) (last w es)
  run_known done w [] n few run is q right k = subst (λ m. IsKnown m w) (let e : n ≡ n + 0 = omega arith in e) k
  run_known done w (e ∷ es) n few run is q right k =
      subst (λ m. IsKnown m (last (effect w e) es)) (let same : n + 1 + length es ≡ n + length (e ∷ es) = omega arith in same)
      (run_known (done ++ e ∷ []) (effect w e) es (n + 1) (omega arith)
      (run_append (opening credit names) done (e ∷ []) run (subst (λ u. refusal u e ≡ None) is q.0, tt))
      (ap (λ u. effect u e) is ∙ sym (last_append (opening credit names) done (e ∷ [])))
      q.1 right.1 (step done w e n (omega arith) run is q.0 right.0 k))

  -- ---- the opening

  first_masters : HasMasters (opening credit names)
  first_masters = record { some = omega arith; member = omega (arith, are.some, first_size credit names); term = refl }

  waits_is : (f : ring.Phase) → is_waiting (phase_of f) ≡ true → f ≡ machine.Waiting
  waits_is machine.Waiting e = refl
  waits_is machine.Up e = absurd (false≢true e)
  waits_is machine.Stopped e = absurd (false≢true e)

  opening_is : IsOpening (part_of (opening credit names))
  opening_is = record {
    gives = gives (opening credit names) (reached_facts credit names [] are tt) first_masters;
    nobody_waits = λ q. by_wait q (is_waiting (phase_of (member_at (opening credit names) q).phase)) refl;
    log = λ p. first_log credit names p;
    round = λ p. ap (λ (r : Row). r.forgot) (first_row credit names p p);
    earlier = refl;
    master = refl;
    masters = masters;
    stays_registered = stays;
    mirror = λ q. first_each credit names q (λ a. a.mirror ≡ founding) (λ _ _. refl) refl;
    since = λ q. ap (λ b. cond b None (Some (length (based (opening credit names) q)))) (first_each credit names q (λ a. a.whole ≡ true) (λ _ _. refl) refl);
    sent = ap (λ ms. sent_of 1 0 ms []) (first_log credit names 1);
  }
    where
      by_wait : (q : ℕ) (b : Bool) → is_waiting (phase_of (member_at (opening credit names) q).phase) ≡ b → b ≡ false
      by_wait q false e = refl
      by_wait q true e = absurd (first_none_waits credit names q (waits_is (member_at (opening credit names) q).phase e))

      first : (names : List (List ℕ)) → 0 < length names → (sight_of (opening_group names)).is_registered 1 ≡ true
      first [] some = absurd (omega arith)
      first (name ∷ names) some = refl

      masters : (v m : ℕ) → v ≤ 1 → (sight_of (view_in (opening credit names) v)).master ≡ Some m → (m ≡ 1) × ((sight_of (view_in (opening credit names) v)).is_registered m ≡ true)
      masters zero m le e = absurd (none-some m e)
      masters (suc zero) m le e =
          let is : m ≡ 1 = sym (same_Some 1 m e) in
          (is, ap (λ k. (sight_of (opening_group names)).is_registered k) is ∙ first names are.some)
      masters (suc (suc v)) m le e = absurd (omega arith)

      stays : (v q : ℕ) → v ≤ 1 → (sight_of (view_in (opening credit names) v)).is_registered q ≡ true → (sight_of (opening_group names)).is_registered q ≡ true
      stays zero q le e = absurd (false≢true e)
      stays (suc zero) q le e = e
      stays (suc (suc v)) q le e = absurd (omega arith)

  opening_known : IsKnown 0 (opening credit names)
  opening_known = record {
    gives = opening_is.gives;
    low = opening_low (part_of (opening credit names)) opening_is;
    holds = opening_good (part_of (opening credit names)) opening_is;
    masters = first_masters;
  }

-- ---- the laws

-- what is known of every state of every run
pub run_is_known : (credit : CreditSpec) (names : List (List ℕ)) (events : List Act) → AreOpeningNames names → length events < greatest → IsRun (opening credit names) events → CopiesAreRight (opening credit names) events → IsKnown (0 + length events) (last (opening credit names) events)
run_is_known credit names events are few run right = run_known credit names are [] (opening credit names) events 0 (omega arith) tt refl run right (opening_known credit names are)

-- in every state of every run
pub run_queue_right : (credit : CreditSpec) (names : List (List ℕ)) (events : List Act) → AreOpeningNames names → length events < greatest → IsRun (opening credit names) events → CopiesAreRight (opening credit names) events → QueueIsRight (length events) (last (opening credit names) events)
run_queue_right credit names events are few run right =
    let k : IsKnown (0 + length events) (last (opening credit names) events) = run_is_known credit names events are few run right in
    record {
      agree = good_agree (part_of (last (opening credit names) events)) k.gives k.holds;
      stands = good_stands (part_of (last (opening credit names) events)) k.gives k.holds;
      above = λ q up. k.holds.mirrors.next q (ap (λ f. is_up (phase_of f)) up);
      few = λ q. omega (arith, k.low.next q);
    }
