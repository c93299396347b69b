-- What holds in every state of every run, as the tie of a member to the ring needs it.
use Rattle.std.proofs.Common.{◌≡◌, ℕ, ◌≤◌, List, [], sym, subst}
use Rattle.ring_names.specs.declared.numbers.CreditSpec.{CreditSpec}
use Rattle.group_view.specs.Change.{AreOpeningNames}
use Rattle.ring_rules.specs.declared.event.Event.{Event}
use Rattle.ring_rules.specs.Machine.{World}
use Rattle.ring_rules.specs.Step.{size, log_of, opening}
use Rattle.ring_rules.specs.Event.{IsRun, last}
use Rattle.ring_rules.specs.Compact.{IsCompact}
use Rattle.ring_rules.specs.Laws.{IsLawful}
use Rattle.ring_rules.proofs.runs.OfEvents.{reached_fit as ring_fit, reached_compact, every_state_lawful, run_credited, reached_lines, run_logged}
use Rattle.ring_rules.proofs.invariants.Happens.{IsGood}
use Rattle.ring_rules.proofs.walks.Ended.{EndsRight}
use Rattle.ring_rules.proofs.runs.Lines.{LinesRight}
use Rattle.ring_rules.proofs.runs.OwnLogs.{IsLogged, HasOwnLogs}
use Rattle.ring_rules.proofs.work.OwnEnds.{OwnEnds}
use Rattle.ring_rules.proofs.work.Fit as ring
use Rattle.gm_member.proofs.Ordered.{AreOrdered, reached_ordered}
use Rattle.gm_member.proofs.Rows.{AllRowsFit, reached_rows}

pub record IsFit (w : World) : Type 0 where
  pub good : IsGood w
  pub ends : EndsRight w
  pub lawful : IsLawful w.initial w
  -- packets may be compact
  pub compact : IsCompact w
  -- each member is the one that its name finds
  pub named : ring.NamesFind w
  -- an enabled event lowers no number
  pub goes : ring.EachGoesOn w
  -- members are few, and no row is of an origin beyond the ring
  pub few : size w ≤ 65
  pub rows : AllRowsFit w
  -- none has forgotten what it didn't receive
  pub ordered : AreOrdered w
  -- a publisher has got all of its own
  pub own : HasOwnLogs w
  -- no number is above the length of its log
  pub logged : IsLogged w
  -- from the link of a member that waits nothing was taken
  pub lines : LinesRight w
  -- the links of a member have it at their ends, also where it has stopped
  pub own_ends : OwnEnds w
  -- nobody stands at id 0
  pub nobody : log_of w 0 ≡ []

-- it holds in every state of every run
pub reached_fit : (credit : CreditSpec) (names : List (List ℕ)) (events : List Event) → AreOpeningNames names → IsRun (opening credit names) events → IsFit (last (opening credit names) events)
reached_fit credit names events are r =
    let w : World = last (opening credit names) events in
    let fit : ring.IsFit w = ring_fit credit names events are r in
    let logged : IsLogged w = run_logged credit names events are r in
    let lawful = every_state_lawful credit names events are r in
    record {
      good = fit.good;
      ends = fit.ends;
      lawful = subst (λ n. IsLawful n w) (sym (run_credited credit names events are r).initial_is) lawful;
      compact = reached_compact credit names events are r;
      named = fit.named;
      goes = fit.goes;
      few = ring.few_members w fit.good;
      rows = reached_rows credit names events are r;
      ordered = reached_ordered credit names events are r;
      own = logged.own;
      logged = logged;
      lines = reached_lines credit names events are r;
      own_ends = fit.own_ends;
      nobody = logged.nobody;
    }
