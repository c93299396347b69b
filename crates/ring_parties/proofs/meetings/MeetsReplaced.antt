-- An out end that was just replaced meets its in end for the last time.
use Rattle.std.proofs.Common.{◌-◌, ℕ, List, set, Some, None, sym, ap, subst, ◌∙◌, ⊎_elim}
use Rattle.std.specs.Prelude.{◌⊎◌}
use Rattle.ring_names.specs.declared.numbers.CreditSpec.{CreditSpec}
use Rattle.group_view.specs.declared.link.LinkName.{LinkName}
use Rattle.ring_rules.specs.Machine.{World}
use Rattle.ring_parties.specs.Ends.{OutSeen}
use Rattle.ring_parties.specs.Parties.{Parties, no_deposit, with_node, with_in}
use Rattle.ring_parties.specs.Replaced.{StandBetween}
use Rattle.ring_parties.specs.Meeting.{MayMeet, MeetsIn, MeetsAt, MeetsDeposit, MeetsNone, receiver_of}
use Rattle.ring_parties.proofs.work.Lawful.{IsLawfulAt}
use Rattle.ring_parties.proofs.standing.Placing.{GoBetween}
use Rattle.ring_parties.proofs.meetings.Receivers.{GoesIn}
use Rattle.ring_parties.proofs.meetings.Joining.{replaced_there_at, replaced_there_deposited, replaced_met_at, replaced_met_deposited, replaced_gone}

-- it may
pub replaced_may : (credit : CreditSpec) (w : World) (ids : List ℕ) (q : Parties) (name : LinkName) (o : OutSeen) → IsLawfulAt credit w → GoBetween w → GoesIn w name → StandBetween credit.initial w ids q (Some (name, o)) → MayMeet q name o
replaced_may credit w ids q name o h g goes st = record {
  from_one = goes.0;
  member = λ place e. replaced_there_at credit w ids q name.to.0 place name o h st goes.0 goes.1 e;
  deposits = λ j l e. replaced_there_deposited credit w ids q j (no_deposit name) name o h g st l e;
}

-- and where it has, nothing is replaced
pub replaced_meets : (credit : CreditSpec) (w : World) (ids : List ℕ) (q q' : Parties) (name : LinkName) (o o' : OutSeen) → IsLawfulAt credit w → GoBetween w → GoesIn w name → StandBetween credit.initial w ids q (Some (name, o)) → MeetsIn q name o q q' o' → StandBetween credit.initial w ids q' None
replaced_meets credit w ids q q' name o o' h g goes st m = ⊎_elim
    (λ (a : MeetsAt q name o q q' o').
    let met : StandBetween credit.initial w ids (with_node q (name.to.0 - 1) (with_in (receiver_of q name) a.meets.place a.meets.met)) None =
    replaced_met_at credit w ids q name.to.0 a.meets.place name o a.meets.meets.0 o' a.meets.met h st goes.0 goes.1 a.meets.named a.meets.meets.1 a.meets.meets.2 in
    subst (λ x. StandBetween credit.initial w ids x None) (sym (a.parties ∙ ap (with_node q (name.to.0 - 1)) a.meets.shows)) met)
    (λ (b : MeetsDeposit q name o q q' o' ⊎ MeetsNone q name o q q' o'). ⊎_elim
    (λ (p : MeetsDeposit q name o q q' o').
    let met : StandBetween credit.initial w ids (record q { deposits = set q.deposits p.meets.place (record { name = name; end = Some p.meets.met }) }) None =
    replaced_met_deposited credit w ids q p.meets.place (no_deposit name) name o p.meets.meets.0 o' p.meets.met h g st p.meets.within p.meets.named p.meets.meets.1 p.meets.meets.2 in
    subst (λ x. StandBetween credit.initial w ids x None) (sym (p.parties ∙ ap (λ xs. record q { deposits = xs }) p.meets.shows)) met)
    (λ (n : MeetsNone q name o q q' o').
    subst (λ x. StandBetween credit.initial w ids x None) (sym n.parties) (replaced_gone credit w ids q name o h g st (record { member = λ place _ e. n.member place e; deposits = n.deposits })))
    b)
    m
