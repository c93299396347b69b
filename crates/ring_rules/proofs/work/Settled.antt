-- Settling ends: of events of repair no more follow each other than the one number says, and where none is left the ring is quiet.
use Rattle.std.proofs.lemmas.List.{length_push, length-map}
use Rattle.std.proofs.Common.{◌≡◌, ℕ, zero, suc, ◌+◌, ◌<◌, ◌≤◌, true, List, [], ◌∷◌, ◌++◌, length, None, ap, subst, ◌∙◌, ◌⊎◌, inl, inr, arith}
use Rattle.ring_names.specs.declared.numbers.CreditSpec.{CreditSpec}
use Rattle.group_view.specs.Change.{AreOpeningNames}
use Rattle.ring_rules.specs.Machine.{World}
use Rattle.ring_rules.specs.Step.{opening}
use Rattle.ring_rules.specs.Event as event
use Rattle.ring_rules.specs.Event.{Event, refusal, effect, last}
use Rattle.ring_rules.specs.Act as act
use Rattle.ring_rules.specs.Act.{Act, act_of}
use Rattle.ring_rules.specs.QueueLaws.{CopiesAreRight}
use Rattle.ring_rules.proofs.events.Acts.{acts_of, acts_run, acts_last, acts_right, right_append}
use Rattle.ring_rules.specs.Idle.{IsIdle}
use Rattle.ring_rules.specs.Quiet.{IsQuiet}
use Rattle.ring_rules.proofs.runs.InOrder.{last_append, run_append}
use Rattle.queue_core.specs.Queue.{greatest}
use Rattle.ring_rules.proofs.queue.Known.{run_idle_is_quiet}
use Rattle.ring_rules.specs.Work.{total}
use Rattle.ring_rules.specs.Settling.{is_repair, AreRepairs, NothingLeft, Settles}
use Rattle.ring_rules.proofs.work.Fit.{IsFit, reached_fit}
use Rattle.ring_rules.proofs.work.Settling.{repair_lowers, none_left_is_idle, idle_or_not}

module _ (credit : CreditSpec) (names : List (List ℕ)) (are : AreOpeningNames names) where
  -- a state that a ring reaches
  pub record IsReached (w : World) : Type 0 where
    pub acts : List Act
    pub run : act.IsRun (opening credit names) acts
    pub right : CopiesAreRight (opening credit names) acts
    pub is : act.last (opening credit names) acts ≡ w

  reached_is_fit : (w : World) → IsReached w → IsFit w
  reached_is_fit w h = subst IsFit h.is (reached_fit credit names h.acts are h.run)

  reached_quiet : (w : World) (h : IsReached w) → length h.acts < greatest → IsIdle w → IsQuiet w
  reached_quiet w h few = subst (λ u. IsIdle u → IsQuiet u) h.is (λ idle. run_idle_is_quiet credit names h.acts are few h.run h.right idle)

  reached_next : (w : World) (e : Event) → IsReached w → refusal w e ≡ None → IsReached (effect w e)
  reached_next w e h r = record {
    acts = h.acts ++ act_of e ∷ [];
    run = run_append (opening credit names) h.acts (act_of e ∷ []) h.run (ap (λ u. refusal u e) h.is ∙ r, tt);
    right = right_append (opening credit names) h.acts (act_of e ∷ []) h.right (λ x named. tt, tt);
    is = last_append (opening credit names) h.acts (act_of e ∷ []) ∙ ap (λ u. effect u e) h.is;
  }

  -- so it is after events of repair
  pub reached_later : (w : World) (es : List Event) → IsReached w → AreRepairs w es → IsReached (last w es)
  reached_later w [] h k = h
  reached_later w (e ∷ es) h k = reached_later (effect w e) es (reached_next w e h k.1.0) k.1.1

  -- by as many events more
  later_events : (w : World) (es : List Event) (h : IsReached w) (k : AreRepairs w es) → length (reached_later w es h k).acts ≡ length h.acts + length es
  unfolding reached_later reached_next
  later_events w [] h k = nothing_more (length h.acts)
    where
      nothing_more : (n : ℕ) → n ≡ n + 0
      nothing_more n = omega arith
  later_events w (e ∷ es) h k =
      let more : length (reached_next w e h k.1.0).acts ≡ length h.acts + 1 = length_push h.acts (act_of e) in
      omega (arith, later_events (effect w e) es (reached_next w e h k.1.0) k.1.1, more)

  -- each lowers the one number
  pub repairs_lower : (w : World) (es : List Event) → IsReached w → AreRepairs w es → total (last w es) + length es ≤ total w
  repairs_lower w [] h k = omega arith
  repairs_lower w (e ∷ es) h k = one (total (last (effect w e) es)) (total (effect w e)) (total w) (length es)
      (repairs_lower (effect w e) es (reached_next w e h k.1.0) k.1.1)
      (repair_lowers w e (reached_is_fit w h) k.0 k.1.0).less
    where
      one : (a b c n : ℕ) → a + n ≤ b → b < c → a + suc n ≤ c
      one a b c n h k = omega arith

  -- where nothing is left afterwards, the ring is quiet
  settled_quiet : (w : World) (es : List Event) (h : IsReached w) → length h.acts + length es < greatest → AreRepairs w es → NothingLeft (last w es) → IsQuiet (last w es)
  settled_quiet w es h few k none =
      let later : IsReached (last w es) = reached_later w es h k in
      let many : length (reached_later w es h k).acts ≡ length h.acts + length es = later_events w es h k in
      reached_quiet (last w es) later (omega (arith, few, many)) (none_left_is_idle (last w es) (reached_is_fit (last w es) later) none)

  -- and it comes to that
  settles_within : (n : ℕ) (w : World) → total w < n → (h : IsReached w) → length h.acts + n ≤ greatest → Settles w
  unfolding reached_next
  settles_within zero w l h few = absurd (omega arith)
  settles_within (suc n) w l h few = by_more (idle_or_not w (reached_is_fit w h)) (λ e is r. settles_within n (effect w e) (let less : total (effect w e) < total w = (repair_lowers w e (reached_is_fit w h) is r).less in omega (arith, less)) (reached_next w e h r) (let more : length (reached_next w e h r).acts ≡ length h.acts + 1 = length_push h.acts (act_of e) in omega (arith, more, few)))
    where
      by_more : IsIdle w ⊎ ((e : Event) × ((is_repair w e ≡ true) × (refusal w e ≡ None))) → ((e : Event) → is_repair w e ≡ true → refusal w e ≡ None → Settles (effect w e)) → Settles w
      by_more (inl idle) more = record { steps = []; repairs = tt; quiet = reached_quiet w h (omega (arith, few)) idle }
      by_more (inr q) more =
          let s : Settles (effect w q.0) = more q.0 q.1.0 q.1.1 in
          record { steps = q.0 ∷ s.steps; repairs = (q.1.0, (q.1.1, s.repairs)); quiet = s.quiet }

  pub ring_settles : (w : World) (h : IsReached w) → length h.acts + total w < greatest → Settles w
  ring_settles w h few = settles_within (total w + 1) w (omega arith) h (omega (arith, few))

  -- every state of every run of events
  pub here : (events : List Event) → event.IsRun (opening credit names) events → IsReached (last (opening credit names) events)
  here events r = record {
    acts = acts_of events;
    run = acts_run (opening credit names) events r;
    right = acts_right (opening credit names) events;
    is = acts_last (opening credit names) events;
  }

  -- the same of every run
  pub run_settled_quiet : (events steps : List Event) (r : event.IsRun (opening credit names) events) → length events + length steps < greatest → AreRepairs (last (opening credit names) events) steps → NothingLeft (last (last (opening credit names) events) steps) → IsQuiet (last (last (opening credit names) events) steps)
  unfolding here
  run_settled_quiet events steps r few k none = settled_quiet (last (opening credit names) events) steps (here events r) (let many : length (acts_of events) ≡ length events = length-map events act_of in omega (arith, few, many)) k none

  pub run_settles : (events : List Event) (r : event.IsRun (opening credit names) events) → length events + total (last (opening credit names) events) < greatest → Settles (last (opening credit names) events)
  unfolding here
  run_settles events r few = ring_settles (last (opening credit names) events) (here events r) (let many : length (acts_of events) ≡ length events = length-map events act_of in omega (arith, few, many))
