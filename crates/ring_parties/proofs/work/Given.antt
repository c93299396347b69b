-- Each grant under way on a link is of some credit, in every state of every run.
use Rattle.std.proofs.Common.{ℕ, ◌<◌, ◌≤◌, not, List, [], ◌∷◌, ◌++◌, length, sum, sym, subst, ⊎_elim, arith}
use Rattle.std.specs.Prelude.{◌&&◌}
use Rattle.std.proofs.lemmas.Bool.{cases_lt}
use Rattle.std.proofs.lemmas.List.{length_push}
use Rattle.std.proofs.lemmas.List.Elements.{All-nil, All-drop}
use Rattle.ring_names.specs.declared.numbers.CreditSpec.{CreditSpec}
use Rattle.credit_flow.specs.Credit.{is_grant_next}
use Rattle.group_view.specs.Change.{AreOpeningNames}
use Rattle.ring_rules.specs.declared.event.Event.{Event}
use Rattle.ring_rules.specs.Machine.{Link, World, no_link, link_at}
use Rattle.ring_rules.specs.Step.{popped, opened_link, with_link, opening}
use Rattle.ring_rules.specs.Event.{IsRun, last}
use Rattle.ring_rules.proofs.rings.Lists.{at_set, at_push, get_or_beyond}
use Rattle.ring_rules.proofs.events.First.{first_link}
use Rattle.ring_rules.proofs.invariants.Happens.{IsGood, opening_good}
use Rattle.ring_rules.proofs.events.Parts.{Part, cast_part, put_part, take_part, begin_part, come_part, gain_part, stop_part, open_part, still_part}
use Rattle.ring_rules.proofs.runs.OfEvents.{run_keeps}
use Rattle.ring_rules.proofs.runs.LinkCredit.{LinkIsKept, IsCredited, part_credited, opening_credited}
use Rattle.ring_parties.proofs.lists.Grants.{ArePositive, ArePositive-count, ArePositive-with_grant}

-- on each link
abbrev pub AllGive : World → Type 0
AllGive w = (s : ℕ) → ArePositive (link_at w s).flow.grants

-- a link is written
link_gives : (w : World) (o : ℕ) (l : Link) → o < length w.links → ArePositive l.flow.grants → AllGive w → AllGive (with_link w o l)
link_gives w o l lt here h s = at_set (λ j k. ArePositive k.flow.grants) w.links o s l no_link lt here (λ _. h s)

-- the grant that is due with a packet is of some credit
popped_gives : (initial more : ℕ) (l : Link) → 1 ≤ more → LinkIsKept initial more l → ArePositive l.flow.grants → ArePositive (popped l).flow.grants
popped_gives initial more l positive k h = ArePositive-with_grant (is_grant_next l.flow.receiver && not l.flow.receiver.holding) l.flow.receiver.more l.flow.grants (omega (arith, k.kept.numbers.counts)) h

-- the credit of the links, and their grants
record IsGiving (initial more : ℕ) (w : World) : Type 0 where
  credited : IsCredited initial more w
  gives : AllGive w

part_gives : (initial more : ℕ) (positive : 1 ≤ more) (w w' : World) → Part IsGood w w' → IsGiving initial more w → AllGive w'
part_gives initial more positive w w' (cast_part x m some lt e) h = subst AllGive (sym e) h.gives
part_gives initial more positive w w' (put_part x o lt free e) h = subst AllGive (sym e) (link_gives w o _ lt (h.gives o) h.gives)
part_gives initial more positive w w' (take_part y s some t lt g e) h =
    subst AllGive (sym e) (λ j. at_set (λ i k. ArePositive k.flow.grants) w.links s j (popped (link_at w s)) no_link lt (popped_gives initial more (link_at w s) positive (h.credited.links s lt) (h.gives s)) (λ _. h.gives j))
part_gives initial more positive w w' (begin_part y s some b lt none e) h =
    subst AllGive (sym e) (λ j. at_set (λ i k. ArePositive k.flow.grants) w.links s j (popped (link_at w s)) no_link lt (popped_gives initial more (link_at w s) positive (h.credited.links s lt) (h.gives s)) (λ _. h.gives j))
part_gives initial more positive w w' (come_part m name e) h = subst AllGive (sym e) h.gives
part_gives initial more positive w w' (gain_part o lt some e) h = subst AllGive (sym e) (link_gives w o _ lt (All-drop (λ g. 0 < g) 1 (link_at w o).flow.grants (h.gives o)) h.gives)
part_gives initial more positive w w' (stop_part x lt e) h = subst AllGive (sym e) h.gives
part_gives initial more positive w w' (open_part x z e) h = subst AllGive (sym e) (λ s. ⊎_elim
    (λ (lt : s < length (w.links ++ opened_link w x z ∷ [])). at_push (λ j k. ArePositive k.flow.grants) w.links s (opened_link w x z) no_link (omega (arith, length_push w.links (opened_link w x z))) (All-nil (λ g. 0 < g)) (λ _. h.gives s))
    (λ (ge : length (w.links ++ opened_link w x z ∷ []) ≤ s). subst (λ (k : Link). ArePositive k.flow.grants) (sym (get_or_beyond (w.links ++ opened_link w x z ∷ []) s no_link ge)) (All-nil (λ g. 0 < g)))
    (cases_lt s (length (w.links ++ opened_link w x z ∷ []))))
part_gives initial more positive w w' (still_part k) h = λ s. subst (λ f. ArePositive f.grants) (sym (k.flow s)) (h.gives s)

part_giving : (initial more : ℕ) (positive : 1 ≤ more) (covered : more ≤ initial) (w w' : World) → Part IsGood w w' → IsGiving initial more w → IsGiving initial more w'
part_giving initial more positive covered w w' p h = record { credited = part_credited initial more positive covered IsGood w w' p h.credited; gives = part_gives initial more positive w w' p h }

opening_giving : (credit : CreditSpec) (names : List (List ℕ)) → IsGiving credit.initial credit.more (opening credit names)
opening_giving credit names = record {
  credited = opening_credited credit names;
  gives = λ s. first_link credit names s (λ l. ArePositive l.flow.grants) (λ i. All-nil (λ g. 0 < g)) (All-nil (λ g. 0 < g));
}

-- so there are never more grants than credit
pub run_gives : (credit : CreditSpec) (names : List (List ℕ)) (events : List Event) → AreOpeningNames names → IsRun (opening credit names) events → (s : ℕ) → length (link_at (last (opening credit names) events) s).flow.grants ≤ sum (link_at (last (opening credit names) events) s).flow.grants
run_gives credit names events are r s =
    ArePositive-count (link_at (last (opening credit names) events) s).flow.grants
    ((run_keeps (IsGiving credit.initial credit.more) (part_giving credit.initial credit.more credit.positive credit.covered) (opening credit names) events (opening_good credit names are) r (opening_giving credit names)).gives s)
