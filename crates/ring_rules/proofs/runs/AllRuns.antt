-- Every state that a ring reaches is lawful, and so is the way to each later one.
use Rattle.std.proofs.Common.{ℕ, List}
use Rattle.ring_names.specs.declared.numbers.CreditSpec.{CreditSpec}
use Rattle.group_view.specs.Change.{AreOpeningNames}
use Rattle.ring_rules.specs.Step.{opening}
use Rattle.ring_rules.specs.Act.{Act, IsRun, last}
use Rattle.ring_rules.specs.Lawful.{HearsAllSince}
use Rattle.ring_rules.specs.Laws.{IsLawful, GoesOn}
use Rattle.ring_rules.proofs.invariants.FromLeft.{views_keep_since}
use Rattle.ring_rules.proofs.invariants.Happens.{reached_good}
use Rattle.ring_rules.proofs.walks.OpenWalk.{open_walk_never_rises}
use Rattle.ring_rules.proofs.runs.NoGap.{no_gap, no_gap_in_runs, reached_lines}
use Rattle.ring_rules.proofs.runs.OwnLogs.{run_has_own_log, run_stays_within_logs}
use Rattle.ring_rules.proofs.runs.LinkCredit.{run_keeps_credit}
use Rattle.ring_rules.proofs.runs.Confirmed.{run_confirmed_everywhere}
use Rattle.ring_rules.proofs.runs.Erased.{run_erased_agrees, run_stays_erased}
use Rattle.ring_rules.proofs.runs.JoinsInTime.{run_joins_in_time}
use Rattle.ring_rules.proofs.runs.BornStays.{run_keeps_born}
use Rattle.ring_rules.proofs.runs.Leads.{run_leads_on}
use Rattle.ring_rules.proofs.runs.Guarantee.{hears_all_since, hears_confirmed}
use Rattle.ring_rules.proofs.runs.LinksStand.{reached_links_stand}
use Rattle.ring_rules.proofs.runs.NeverFalls.{run_never_falls}
use Rattle.ring_rules.proofs.runs.InOrder.{HasNoGap, run_hears_in_order, run_hears_what_follows}

runs_have_no_gap : (credit : CreditSpec) (names : List (List ℕ)) → AreOpeningNames names → (es : List Act) → IsRun (opening credit names) es → HasNoGap (last (opening credit names) es)
runs_have_no_gap credit names are es r = λ y s m p some within own.
    no_gap (last (opening credit names) es) y s p (reached_lines credit names es are r) m.up m.current some within own

pub every_state_lawful : (credit : CreditSpec) (names : List (List ℕ)) (events : List Act) → AreOpeningNames names → IsRun (opening credit names) events → IsLawful credit.initial (last (opening credit names) events)
every_state_lawful credit names events are run = record {
  walks = λ origin some within. open_walk_never_rises credit names events origin are run some within;
  all_since = heard_since;
  heard = hears_confirmed (last (opening credit names) events) (run_confirmed_everywhere credit names events are run) heard_since;
  no_gap = no_gap_in_runs credit names events are run;
  in_order = run_hears_in_order credit names events are (runs_have_no_gap credit names are) run;
  within = run_stays_within_logs credit names events are run;
  own = run_has_own_log credit names events are run;
  confirmed = run_confirmed_everywhere credit names events are run;
  credit = run_keeps_credit credit names events are run;
  erased = run_erased_agrees credit names events are run;
  since = views_keep_since (last (opening credit names) events) (reached_good credit names events are run).views;
  joins = run_joins_in_time credit names events are run;
  links = reached_links_stand credit names events are run;
}
  where
    heard_since : HearsAllSince (last (opening credit names) events)
    heard_since = hears_all_since (last (opening credit names) events)
        (run_hears_in_order credit names events are (runs_have_no_gap credit names are) run)
        (run_stays_within_logs credit names events are run)
        (run_joins_in_time credit names events are run)

pub every_run_goes_on : (credit : CreditSpec) (names : List (List ℕ)) (earlier later : List Act) → AreOpeningNames names → IsRun (opening credit names) earlier → IsRun (last (opening credit names) earlier) later
    → GoesOn (last (opening credit names) earlier) (last (last (opening credit names) earlier) later)
every_run_goes_on credit names earlier later are run more = record {
  never_falls = run_never_falls credit names earlier later are run more;
  hears = run_hears_what_follows credit names earlier later are (runs_have_no_gap credit names are) run more;
  erased = run_stays_erased credit names earlier later are run more;
  leads = run_leads_on credit names earlier later are run more;
  born = run_keeps_born credit names earlier later are run more;
}
