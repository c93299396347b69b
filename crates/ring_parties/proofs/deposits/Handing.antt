-- Links that members hand over to the registrar: the parties stay the same, and none is refused.
use Rattle.std.proofs.Common.{◌≡◌, ℕ, zero, suc, ◌<◌, Bool, true, false, cond, not, nat_eq, List, [], ◌∷◌, ◌++◌, length, get_or, map, Option, Some, None, refl, sym, ap, ◌∙◌, arith}
use Rattle.std.specs.Prelude.{option_map, IsSome}
use Rattle.std.specs.List.{filter}
use Rattle.std.proofs.lemmas.List.{append-nil, map-append}
use Rattle.ordered_link.specs.declared.ring.RingIn.{RingIn}
use Rattle.activity.specs.declared.packet.Load.{Load}
use Rattle.group_view.specs.Ring.{is_in}
use Rattle.group_view.specs.declared.link.LinkName.{LinkName}
use Rattle.group_view.specs.declared.request.Deposited.{Deposited}
use Rattle.group_view.specs.View.{Group, as_id, ids as ids_of}
use Rattle.ring_rules.specs.View.{ids}
use Rattle.ring_rules.specs.Machine.{World, link_at, view_in, newest}
use Rattle.ring_rules.proofs.rings.Rounds.{nat_eq-is}
use Rattle.ring_rules.proofs.invariants.FromLeft.{sender_known}
use Rattle.ring_rules.proofs.invariants.Happens.{IsGood}
use Rattle.registrar.specs.declared.waiting_link.WaitingLink.{WaitingLink}
use Rattle.registrar.specs.Registry.{Registry, is_known, beside, AreHere}
use Rattle.registrar.specs.Handled.{with_link, without_links, deposited, links_for}
use Rattle.registrar.specs.Stands.{StandsIn}
use Rattle.registrar.proofs.Judged.{newest_same}
use Rattle.ring_parties.specs.declared.party.Party.{Party}
use Rattle.ring_parties.specs.declared.pending_deposit.PendingDeposit.{PendingDeposit}
use Rattle.ring_parties.specs.Behind.{behind}
use Rattle.ring_parties.specs.Parties.{Deposit, Parties, deposit_shown, parties, in_seen}
use Rattle.ring_parties.specs.Standing.{Places, StandIn}
use Rattle.ring_parties.specs.Acting.{waits_at}
use Rattle.ring_parties.proofs.standing.Writing.{at_in}
use Rattle.ring_parties.proofs.meetings.Meetings.{waiting_at, deposit_at}

-- the registrar stands in the state
pub registrar_stands : (initial : ℕ) (w : World) (nodes : List Party) (r : Registry (RingIn Load)) (behind : List Deposit) (p : Places) → StandIn initial w (parties nodes r behind) p → StandsIn w r
registrar_stands initial w nodes r behind p st = record { views = st.views; stopped = st.stopped; nobody_else = st.nobody_else }

-- no link is lent
pub none_lent : (initial : ℕ) (w : World) (nodes : List Party) (r : Registry (RingIn Load)) (behind : List Deposit) (p : Places) → StandIn initial w (parties nodes r behind) p → AreHere r.links
none_lent initial w nodes r behind p st = each r.links p.deposits st.deposits
  where
    some : (o : Option (RingIn Load)) (s : ℕ) → option_map in_seen o ≡ Some (p.ins s) → IsSome o
    some None s e = cc
    some (Some n) s e = refl

    each : (ls : List (WaitingLink (RingIn Load))) (ps : List ℕ) → map deposit_shown ls ++ behind ≡ map (waiting_at w p) ps → AreHere ls
    each [] ps e = λ k d l. absurd (omega arith)
    each (a ∷ ls) [] e = cc
    each (a ∷ ls) (s ∷ ps) e =
        let first : deposit_shown a ≡ waiting_at w p s = cc in
        let rest : map deposit_shown ls ++ behind ≡ map (waiting_at w p) ps = cc in
        by_place (each ls ps rest) (some a.link s (ap (λ (x : Deposit). x.end) first))
      where
        by_place : AreHere ls → IsSome a.link → (k : ℕ) (d : WaitingLink (RingIn Load)) → k < suc (length ls) → IsSome (get_or (a ∷ ls) k d).link
        by_place later here zero d l = here
        by_place later here (suc k) d l = later k d (omega arith)

-- the registrar knows who sends on a link and who receives it
pub knows_both : (w : World) (r : Registry (RingIn Load)) (s : ℕ) → IsGood w → StandsIn w r → s < length w.links → (is_known r (link_at w s).sender ≡ true) × (is_known r (link_at w s).receiver ≡ true)
knows_both w r s h st l = (
  now (link_at w s).sender
      (sender_known w s h l),
  now (link_at w s).receiver (h.inv.history.known s l),
)
  where
    now : (q : ℕ) → is_in q (ids (view_in w (link_at w s).opened)) ≡ true → is_known r q ≡ true
    now q i = ap (λ (g : Group). is_in q (ids_of g.entries)) (newest_same w r st) ∙ h.inv.history.grows q (link_at w s).opened (newest w) i (h.inv.linked.opened s l) (omega arith)

-- so it takes each link that waits
pub knows_deposited : (initial : ℕ) (w : World) (nodes : List Party) (r : Registry (RingIn Load)) (behind : List Deposit) (p : Places) (j : ℕ) (d : Deposit) → IsGood w → StandIn initial w (parties nodes r behind) p → j < length (parties nodes r behind).deposits
    → (is_known r (get_or (parties nodes r behind).deposits j d).name.from.0 ≡ true) × (is_known r (get_or (parties nodes r behind).deposits j d).name.to.0 ≡ true)
knows_deposited initial w nodes r behind p j d h st l =
    let q : Parties = parties nodes r behind in
    let k = deposit_at initial w q p j d st l in
    let s : ℕ = get_or p.deposits j 0 in
    let both = knows_both w r s h (registrar_stands initial w nodes r behind p st) (st.within s (at_in p.deposits j k.0)) in
    (ap (λ (x : Deposit). is_known r x.name.from.0) k.1 ∙ both.0, ap (λ (x : Deposit). is_known r x.name.to.0) k.1 ∙ both.1)

-- ---- what the registrar answers

-- a link that the registrar gives to the member of an id, as it waited
abbrev pub given_to : ℕ → Deposited (RingIn Load) → Deposit
given_to x d = record { name = record { from = d.from; to = as_id x; view = d.view; kind = d.kind }; end = Some (in_seen d.link) }

-- all those that wait for it, in their order
pub answered_links : (x : ℕ) (ls : List (WaitingLink (RingIn Load))) → AreHere ls → map (given_to x) (links_for x ls) ≡ filter (waits_at x) (map deposit_shown ls)
answered_links x [] h = refl
answered_links x (a ∷ ls) h = by_test (nat_eq a.name.to.0 x) refl (answered_links x ls (λ k d l. h (suc k) d (omega arith))) (h 0 a (omega arith))
  where
    one : (o : Option (RingIn Load)) (name : LinkName) → IsSome o → name.to.0 ≡ x → map (given_to x) (deposited name o) ≡ record { name = name; end = option_map in_seen o } ∷ []
    one None name s e = cc
    one (Some n) name s e = ap (λ i. record { name = record { from = name.from; to = as_id i; view = name.view; kind = name.kind }; end = Some (in_seen n) } ∷ []) (sym e)

    by_test : (b : Bool) → nat_eq a.name.to.0 x ≡ b → map (given_to x) (links_for x ls) ≡ filter (waits_at x) (map deposit_shown ls) → IsSome a.link
        → map (given_to x) (cond b (deposited a.name a.link ++ links_for x ls) (links_for x ls)) ≡ cond b (deposit_shown a ∷ filter (waits_at x) (map deposit_shown ls)) (filter (waits_at x) (map deposit_shown ls))
    by_test true e ih s = map-append (given_to x) (deposited a.name a.link) (links_for x ls) ∙ ap (λ ds. ds ++ map (given_to x) (links_for x ls)) (one a.link a.name s (nat_eq-is a.name.to.0 x e)) ∙ ap (λ ds. deposit_shown a ∷ ds) ih
    by_test false e ih s = ih

-- the others wait on
pub left_links : (nodes : List Party) (r : Registry (RingIn Load)) (x : ℕ) → parties nodes (without_links r x) [] ≡ record (parties nodes r []) { deposits = filter (λ d. not (waits_at x d)) (parties nodes r []).deposits }
left_links nodes r x = ap (λ ps. record (parties nodes r []) { deposits = ps })
    (append-nil (map deposit_shown (beside x r.links)) ∙ others r.links ∙ ap (filter (λ d. not (waits_at x d))) (sym (append-nil (map deposit_shown r.links))))
  where
    others : (ls : List (WaitingLink (RingIn Load))) → map deposit_shown (beside x ls) ≡ filter (λ d. not (waits_at x d)) (map deposit_shown ls)
    others [] = refl
    others (a ∷ ls) = by_test (nat_eq a.name.to.0 x) (others ls)
      where
        by_test : (b : Bool) → map deposit_shown (beside x ls) ≡ filter (λ d. not (waits_at x d)) (map deposit_shown ls) → map deposit_shown (cond (not b) (a ∷ beside x ls) (beside x ls)) ≡ cond (not b) (deposit_shown a ∷ filter (λ d. not (waits_at x d)) (map deposit_shown ls)) (filter (λ d. not (waits_at x d)) (map deposit_shown ls))
        by_test true ih = ih
        by_test false ih = ap (λ ds. deposit_shown a ∷ ds) ih

-- ---- what it is handed

-- a link that the registrar takes waits there as it waited behind the others
pub handed_on : (nodes : List Party) (r r' : Registry (RingIn Load)) (u : PendingDeposit) → r' ≡ with_link r (record { name = u.name; link = Some u.link }) → parties nodes r' [] ≡ parties nodes r (behind (Some u))
handed_on nodes r r' u is =
    ap (λ x. parties nodes x []) is
    ∙ ap (λ ds. record (parties nodes r []) { deposits = ds })
    (append-nil (map deposit_shown (r.links ++ record { name = u.name; link = Some u.link } ∷ [])) ∙ map-append deposit_shown r.links (record { name = u.name; link = Some u.link } ∷ []))
