-- A look at a link in a turn, where nothing is known to stand on it.
use Rattle.std.proofs.Common.{◌≡◌, ℕ, ◌≤◌, false, [], map, Option, Some, None, is_some, sym, ap, subst, ◌∙◌, append-nil, arith}
use Rattle.std.specs.Prelude.{option_map, MatchOption, ⊤}
use Rattle.std.proofs.lemmas.Bool.{false≢true}
use Rattle.rtrb.specs.Ring.{sent, received as got, known_items}
use Rattle.ordered_link.specs.declared.ring.RingOut.{RingOut}
use Rattle.ordered_link.specs.declared.ring.RingIn.{RingIn}
use Rattle.ordered_link.specs.RingSteps.{RingLookedIn}
use Rattle.activity.specs.declared.packet.Load.{Load}
use Rattle.gm_member.specs.Calls.{LendsIn, GivesIn}
use Rattle.gm_member.specs.Shown.{Ends, ends_of, spare_of}
use Rattle.ring_parties.specs.declared.party.Party.{Party}
use Rattle.ring_parties.specs.Parties.{ANode, content, keeps_in, in_seen}
use Rattle.ring_parties.specs.Acting.{first_item}
use Rattle.ring_parties.specs.Closed.{has_end}
use Rattle.ring_parties.specs.Turn.{timed_items, timed_grants, InPasses, InsPass, round_of, MayTurn, Acted}
use Rattle.ring_parties.proofs.standing.Rings.{pair_in}
use Rattle.ring_parties.proofs.turns.Links.{in_rests, none_waits, acted_looked}

-- nothing passes the end
look_passes : (round : ℕ) (n n' : RingIn Load) → RingLookedIn n n' → n.late ≡ None → map content (known_items n.items) ≡ [] → InPasses round [] [] n n'
look_passes round n n' looked late none = record {
  items = ap (timed_items round) looked.0.1 ∙ sym (append-nil (timed_items round (got n.items)));
  grants = ap (timed_grants round) looked.1.1 ∙ sym (append-nil (timed_grants round (sent n.back)));
  late = looked.2 ∙ late;
  initial = looked.3;
  ring = pair_in n n' looked.0.0 looked.1.0;
  rests = λ h. absurd (false≢true (sym (ap has_end none) ∙ h));
}

-- the party lends the end, looks at it, and has it back
pub look_acted : (p q : Party) (lent : ANode) (n n' : RingIn Load) → MayTurn p → first_item (option_map in_seen (ends_of p.node).link) ≡ [] → LendsIn 0 p.node lent (Some n) → RingLookedIn n n' → GivesIn 0 n' lent q.node → keeps_in q ≡ keeps_in p → Acted [] p q
look_acted p q lent n n' may none lends looked gives keeps =
    let there : (ends_of p.node).link ≡ Some n = sym lends.lent in
    let late : n.late ≡ None = subst (λ (e : Option (RingIn Load)). MatchOption e ⊤ (λ x. x.late ≡ None)) there (none_waits p may) in
    let empty : map content (known_items n.items) ≡ [] = sym (ap (λ e. first_item (option_map in_seen e)) there) ∙ none in
    let ends : ends_of q.node ≡ record (ends_of p.node) { link = Some n' } = gives.ends ∙ ap (λ (e : Ends (RingOut Load) (RingIn Load)). record e { link = Some n' }) lends.ends in
    let link : (ends_of q.node).link ≡ Some n' = ap (λ (e : Ends (RingOut Load) (RingIn Load)). e.link) ends in
    let same : q.node.recorder ≡ p.node.recorder = gives.recorder ∙ lends.recorder in
    acted_looked p q may (gives.held ∙ lends.held) keeps (ap (λ r. r.recorded) same) (subst (λ s. s ≤ spare_of q.node) (ap (λ r. r.spare) same) (omega arith))
    (ends ∙ ap (λ (e : Option (RingIn Load)). record (ends_of p.node) { link = e }) (sym link))
    (subst (λ e. InsPass (round_of p) [] [] e (ends_of q.node).link) (sym there) (n', link, look_passes (round_of p) n n' looked late empty))

-- there is no end to look at
pub lent_none : (p q : Party) → MayTurn p → LendsIn 0 p.node q.node None → keeps_in q ≡ keeps_in p → Acted [] p q
lent_none p q may lends keeps =
    let there : (ends_of p.node).link ≡ None = sym lends.lent in
    let ends : ends_of q.node ≡ record (ends_of p.node) { link = None } = lends.ends in
    let link : (ends_of q.node).link ≡ None = ap (λ (e : Ends (RingOut Load) (RingIn Load)). e.link) ends in
    let same : q.node.recorder ≡ p.node.recorder = lends.recorder in
    acted_looked p q may lends.held keeps (ap (λ r. r.recorded) same) (subst (λ s. s ≤ spare_of q.node) (ap (λ r. r.spare) same) (omega arith))
    (ends ∙ ap (λ (e : Option (RingIn Load)). record (ends_of p.node) { link = e }) (sym link))
    (in_rests (round_of p) (ends_of p.node).link (ends_of q.node).link (link ∙ sym there) (none_waits p may))

-- what is said of an option that is none
pub said_none : {A P : Type 0} (o : Option A) (Q : A → Type 0) → is_some o ≡ false → MatchOption o P Q → P
said_none None Q e h = h
said_none (Some a) Q e h = cc
