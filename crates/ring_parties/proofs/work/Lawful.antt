-- What holds in every state of every run, as the parties of a cluster need it.
use Rattle.std.proofs.Common.{◌≡◌, ℕ, ◌<◌, ◌≤◌, List, length, sum, refl}
use Rattle.ring_names.specs.declared.numbers.CreditSpec.{CreditSpec}
use Rattle.group_view.specs.View.{Group}
use Rattle.group_view.specs.Change.{AreOpeningNames}
use Rattle.ring_rules.specs.declared.event.Event.{Event}
use Rattle.ring_rules.specs.Machine.{World, link_at}
use Rattle.ring_rules.specs.Step.{opening}
use Rattle.ring_rules.specs.Event.{IsRun, last}
use Rattle.ring_rules.proofs.runs.LinkCredit.{LinkIsKept}
use Rattle.ring_rules.proofs.runs.OfEvents.{run_credited}
use Rattle.gm_member.specs.Held.{joining_held}
use Rattle.gm_member.specs.Stands.{held_in, WaitsThere}
use Rattle.gm_member.proofs.Fit.{IsFit, reached_fit}
use Rattle.gm_member.proofs.JoinStands.{joining_lifts}
use Rattle.gm_member.proofs.WithinLinks.{AllWithin, reached_within}
use Rattle.ring_parties.proofs.work.Given.{run_gives}

pub record IsLawfulAt (credit : CreditSpec) (w : World) : Type 0 where
  pub fit : IsFit w
  pub within : AllWithin w
  pub initial_is : w.initial ≡ credit.initial
  pub more_is : w.more ≡ credit.more
  pub kept : (s : ℕ) → s < length w.links → LinkIsKept credit.initial credit.more (link_at w s)
  -- each grant is of some credit
  pub few : (s : ℕ) → s < length w.links → length (link_at w s).flow.grants ≤ sum (link_at w s).flow.grants
  -- who joins stands where it waits for its first packet
  pub joins : (x : ℕ) (name : List ℕ) (v : Group) → WaitsThere w x name v → joining_held credit name x v ≡ held_in w x

pub lawful_at : (credit : CreditSpec) (names : List (List ℕ)) (events : List Event) → AreOpeningNames names → IsRun (opening credit names) events → IsLawfulAt credit (last (opening credit names) events)
lawful_at credit names events are r = record {
  fit = reached_fit credit names events are r;
  within = reached_within credit names events are r;
  initial_is = (run_credited credit names events are r).initial_is;
  more_is = (run_credited credit names events are r).more_is;
  kept = (run_credited credit names events are r).links;
  few = λ s _. run_gives credit names events are r s;
  joins = λ x name v. joining_lifts credit name x v (joining_held credit name x v) refl names events are r;
}
