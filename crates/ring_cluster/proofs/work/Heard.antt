-- A ring that rests has heard all.
use Rattle.std.proofs.Common.{◌≡◌, ℕ, ◌≤◌, true, false, drop, List, length, sym, ap, ◌∙◌, ⊎_elim, arith}
use Rattle.std.proofs.lemmas.Bool.{false≢true}
use Rattle.std.proofs.lemmas.List.{take_all}
use Rattle.ring_names.specs.declared.numbers.CreditSpec.{CreditSpec}
use Rattle.group_view.specs.Change.{AreOpeningNames}
use Rattle.ring_rules.specs.declared.event.Event.{Event}
use Rattle.ring_rules.specs.Machine.{World, runs}
use Rattle.ring_rules.specs.Step.{log_of, opening}
use Rattle.ring_rules.specs.Event.{IsRun, last}
use Rattle.ring_rules.specs.Lawful.{row_of}
use Rattle.ring_rules.specs.Quiet.{IsAtRest, RingRests}
use Rattle.ring_rules.proofs.rests.Forgotten.{retired_is_forgotten}
use Rattle.ring_rules.proofs.walks.Ended.{runs_lt}
use Rattle.gm_member.proofs.Fit.{IsFit, reached_fit}
use Rattle.ring_cluster.specs.Heard.{HasHeardAll, OpenersHaveNoBase}
use Rattle.ring_cluster.proofs.work.Bases.{reached_bases}

-- ---- a ring at rest

module _ (w : World) (names : List (List ℕ)) (f : IsFit w) (none : OpenersHaveNoBase names w) (rest : IsAtRest w) where
  -- all that a running member published was forgotten by it
  all_forgotten : (p : ℕ) → 1 ≤ p → runs w p ≡ true → length (log_of w p) ≤ (row_of w p p).forgot
  all_forgotten p some rp = omega (arith, (rest.members p rp).come_round, retired_is_forgotten w p f.good (rest.members p rp).up some rp)

  pub rest_has_heard : HasHeardAll names w
  rest_has_heard = record {
    confirmed = λ p some rp. omega (arith, all_forgotten p some rp, (f.lawful.within.rows p p).forgot);
    heard = λ q p some rp up.
        let all : length (log_of w p) ≤ (row_of w q p).got = omega (arith, all_forgotten p some rp, f.lawful.confirmed.up q p some (runs_lt w p rp) up) in
        f.lawful.in_order q p ∙ ap (drop (row_of w q p).base) (take_all (row_of w q p).got (log_of w p) all);
    bases = none;
  }

-- ---- every state of every run

-- where nobody runs, nothing has to be heard
nobody_has : (w : World) (names : List (List ℕ)) → OpenersHaveNoBase names w → ((y : ℕ) → runs w y ≡ false) → HasHeardAll names w
nobody_has w names bases none = record {
  confirmed = λ p some rp. absurd (false≢true (sym (none p) ∙ rp));
  heard = λ q p some rp up. absurd (false≢true (sym (none p) ∙ rp));
  bases = bases;
}

-- a ring that rests has heard all
pub run_quiet_has_heard : (credit : CreditSpec) (names : List (List ℕ)) (events : List Event) → AreOpeningNames names → IsRun (opening credit names) events → RingRests (last (opening credit names) events) → HasHeardAll names (last (opening credit names) events)
run_quiet_has_heard credit names events are r quiet =
    let w : World = last (opening credit names) events in
    let bases : OpenersHaveNoBase names w = reached_bases credit names events are r in
    ⊎_elim (λ (none : (y : ℕ) → runs w y ≡ false). nobody_has w names bases none)
    (λ (rest : IsAtRest w). rest_has_heard w names (reached_fit credit names events are r) bases rest) quiet
