-- What holds of every state that a ring reaches, as far as the measure needs it.
use Rattle.std.proofs.Common.{◌≡◌, ℕ, ◌<◌, ◌≤◌, List, [], ◌∷◌, None, Some, arith}
use Rattle.ring_names.specs.declared.numbers.CreditSpec.{CreditSpec}
use Rattle.group_view.specs.Change.{AreOpeningNames}
use Rattle.ring_rules.specs.Machine.{World, member_at}
use Rattle.ring_rules.specs.Step.{size, opening}
use Rattle.ring_rules.specs.Event.{Event, id_of, refusal, effect}
use Rattle.ring_rules.specs.Act.{Act, act_of, IsRun, last}
use Rattle.ring_rules.specs.Lawful.{StaysWithinLogs}
use Rattle.ring_rules.specs.Laws.{GoesOn}
use Rattle.ring_rules.proofs.invariants.Happens.{IsGood, reached_good, newest_is}
use Rattle.ring_rules.proofs.walks.Ended.{EndsRight}
use Rattle.ring_rules.proofs.walks.OpenWalk.{reached_ends}
use Rattle.ring_rules.proofs.invariants.Named.{reached_named, named_found}
use Rattle.ring_rules.proofs.events.Parts.{run_keeps}
use Rattle.ring_rules.proofs.runs.OwnLogs.{IsLogged, run_logged, part_logged}
use Rattle.ring_rules.proofs.runs.AllRuns.{every_run_goes_on}
use Rattle.ring_rules.proofs.work.Nobody.{NobodyAtZero, reached_nobody}
use Rattle.ring_rules.proofs.work.OwnEnds.{OwnEnds, reached_owns}

-- the name of each member finds it
abbrev pub NamesFind : World → Type 0
NamesFind w = (x : ℕ) → 1 ≤ x → x < size w → id_of w (member_at w x).name ≡ Some x

-- each enabled event goes on
abbrev pub EachGoesOn : World → Type 0
EachGoesOn w = (e : Event) → refusal w e ≡ None → GoesOn w (effect w e)

pub record IsFit (w : World) : Type 0 where
  pub good : IsGood w
  pub ends : EndsRight w
  -- each member is the one that its name finds
  pub named : NamesFind w
  -- an enabled event lowers no number
  pub goes : EachGoesOn w
  -- and no number of a row is then above the length of the log
  pub within : (e : Event) → refusal w e ≡ None → StaysWithinLogs (effect w e)
  -- the links of a member have it at their ends, also where it has stopped
  pub own_ends : OwnEnds w
  -- nobody stands at id 0
  pub nobody : NobodyAtZero w

-- members are few: there are as many as entries, and nobody at 0
pub few_members : (w : World) → IsGood w → size w ≤ 65
few_members w g = omega (arith, g.next_id, (newest_is w g.views).numbered, (newest_is w g.views).few)

-- it holds in every state of every run
pub reached_fit : (credit : CreditSpec) (names : List (List ℕ)) (acts : List Act) → AreOpeningNames names → IsRun (opening credit names) acts → IsFit (last (opening credit names) acts)
reached_fit credit names acts are r = record {
  good = reached_good credit names acts are r;
  ends = reached_ends credit names acts are r;
  named = λ x some lt. named_found (last (opening credit names) acts) x (reached_named credit names acts are r) some lt;
  goes = λ e k. every_run_goes_on credit names acts (act_of e ∷ []) are r (k, tt);
  within = λ e k. (run_keeps IsLogged (part_logged IsGood) (last (opening credit names) acts) (act_of e ∷ []) (reached_good credit names acts are r) (k, tt) (run_logged credit names acts are r)).within;
  own_ends = reached_owns credit names acts are r;
  nobody = reached_nobody credit names acts are r;
}
