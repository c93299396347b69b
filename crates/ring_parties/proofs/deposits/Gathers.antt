-- A cluster in which a member collects the links that wait for it.
use Rattle.std.proofs.Common.{◌≡◌, ℕ, zero, suc, ◌+◌, ◌-◌, ◌<◌, true, not, List, [], ◌∷◌, length, get_or, map, set, sym, ap, subst, ◌∙◌, arith, append-nil}
use Rattle.std.specs.List.{filter}
use Rattle.ring_names.specs.declared.numbers.CreditSpec.{CreditSpec}
use Rattle.ordered_link.specs.declared.ring.RingIn.{RingIn}
use Rattle.group_view.specs.declared.link.LinkKind.TheVariants.{Ring}
use Rattle.ring_rules.specs.declared.event.Event.{Event}
use Rattle.ring_rules.specs.Machine.{World}
use Rattle.ring_rules.specs.Step.{size}
use Rattle.registrar.specs.declared.waiting_link.WaitingLink.{WaitingLink}
use Rattle.registrar.specs.Registry.{Registry, is_known}
use Rattle.registrar.specs.Handled.{without_links}
use Rattle.registrar.proofs.Judged.{knows}
use Rattle.activity.specs.declared.packet.Load.{Load}
use Rattle.ring_parties.specs.declared.party.Party.{Party}
use Rattle.ring_parties.specs.Parties.{Shown, Deposit, Parties, parties, deposit_shown, node_at, with_node, shown_in, no_shown}
use Rattle.ring_parties.specs.States.{state}
use Rattle.ring_parties.specs.Standing.{Places, StandIn, StandAfter}
use Rattle.ring_parties.specs.Acting.{waits_at, Collects}
use Rattle.ring_parties.specs.Refused.{NothingWaits}
use Rattle.ring_parties.specs.Collecting.{AreOfRing}
use Rattle.ring_parties.proofs.events.After.{shown_inside, lawful_after, within_after, id_after}
use Rattle.ring_parties.proofs.work.Fresh.{reached_fresh}
use Rattle.ring_parties.proofs.deposits.Collections.{collect_stands, none_left, CollectsAt}
use Rattle.ring_parties.proofs.deposits.Handing.{registrar_stands, left_links}
use Rattle.ring_parties.proofs.meetings.Meetings.{waiting_at}

-- ---- what waits

-- each link that waits is one of the ring
all_of_ring : (initial : ℕ) (w : World) (nodes : List Party) (r : Registry (RingIn Load)) (p : Places) → StandIn initial w (parties nodes r []) p → AreOfRing r.links
all_of_ring initial w nodes r p st = each r.links p.deposits (sym (append-nil (map deposit_shown r.links)) ∙ st.deposits)
  where
    each : (ls : List (WaitingLink (RingIn Load))) (ps : List ℕ) → map deposit_shown ls ≡ map (waiting_at w p) ps → AreOfRing ls
    each [] ps e = λ k d l. absurd (omega arith)
    each (a ∷ ls) [] e = cc
    each (a ∷ ls) (s ∷ ps) e =
        let first : deposit_shown a ≡ waiting_at w p s = cc in
        let rest : map deposit_shown ls ≡ map (waiting_at w p) ps = cc in
        by_place (each ls ps rest) (ap (λ (x : Deposit). x.name.kind) first)
      where
        by_place : AreOfRing ls → a.name.kind ≡ Ring → (k : ℕ) (d : WaitingLink (RingIn Load)) → k < suc (length ls) → (get_or (a ∷ ls) k d).name.kind ≡ Ring
        by_place later here zero d l = here
        by_place later here (suc k) d l = later k d (omega arith)

-- ---- the parties

-- the member at a place collects what waits for it
collects_at : (nodes nodes' : List Party) (r r' : Registry (RingIn Load)) (i : ℕ) (b : Shown) → Collects (node_at (parties nodes r []) i) b (filter (waits_at (i + 1)) (map deposit_shown r.links)) → map shown_in nodes' ≡ set (map shown_in nodes) i b → r' ≡ without_links r (i + 1)
    → CollectsAt (i + 1) (parties nodes r []) (parties nodes' r' [])
collects_at nodes nodes' r r' i b c ns rs =
    let q : Parties = parties nodes r [] in
    let place : i ≡ i + 1 - 1 = omega arith in (
      b,
      subst (λ k. Collects (node_at q k) b (filter (waits_at (i + 1)) q.deposits)) place (subst (λ ds. Collects (node_at q i) b (filter (waits_at (i + 1)) ds)) (sym (append-nil (map deposit_shown r.links))) c),
      ap (λ x. parties nodes' x []) rs
          ∙ left_links nodes' r (i + 1)
          ∙ ap (λ xs. record q { nodes = xs; deposits = filter (λ d. not (waits_at (i + 1) d)) q.deposits }) ns
          ∙ ap (λ k. record (with_node q k b) { deposits = filter (λ d. not (waits_at (i + 1) d)) q.deposits }) place,
    )

module _ (credit : CreditSpec) (names : List (List ℕ)) (events : List Event) (nodes : List Party) (r : Registry (RingIn Load)) (s : StandAfter credit names events (parties nodes r [])) where
  -- what the member at a place needs for that
  pub all_ring : AreOfRing r.links
  all_ring = all_of_ring credit.initial (state credit names events) nodes r s.stand.places s.stand.stand

  within : (i : ℕ) → i < length nodes → i + 1 < size (state credit names events)
  within i l = within_after credit names events (parties nodes r []) i s (shown_inside nodes i l)

  its_id : (i : ℕ) → i < length nodes → (get_or (map shown_in nodes) i no_shown).held.id ≡ i + 1
  its_id i l = id_after credit names events (parties nodes r []) i s (shown_inside nodes i l)

  pub is_known_there : (i : ℕ) → i < length nodes → is_known r (get_or (map shown_in nodes) i no_shown).held.id ≡ true
  is_known_there i l = ap (is_known r) (its_id i l)
      ∙ knows (state credit names events) r (i + 1) (lawful_after credit names events s.journal).fit.good (registrar_stands credit.initial (state credit names events) nodes r [] s.stand.places s.stand.stand) (omega arith) (within i l)

  -- and what comes of it
  module _ (nodes' : List Party) (r' : Registry (RingIn Load)) (i : ℕ) (l : i < length nodes)
      (c : Collects (get_or (map shown_in nodes) i no_shown) (get_or (map shown_in nodes') i no_shown) (filter (waits_at (get_or (map shown_in nodes) i no_shown).held.id) (map deposit_shown r.links)))
      (ns : map shown_in nodes' ≡ set (map shown_in nodes) i (get_or (map shown_in nodes') i no_shown))
      (rs : r' ≡ without_links r (get_or (map shown_in nodes) i no_shown).held.id) where
    gathers : CollectsAt (i + 1) (parties nodes r []) (parties nodes' r' [])
    gathers = collects_at nodes nodes' r r' i (get_or (map shown_in nodes') i no_shown)
        (subst (λ x. Collects (get_or (map shown_in nodes) i no_shown) (get_or (map shown_in nodes') i no_shown) (filter (waits_at x) (map deposit_shown r.links))) (its_id i l) c)
        ns (rs ∙ ap (without_links r) (its_id i l))

    pub stand_then : StandAfter credit names events (parties nodes' r' [])
    stand_then = record {
      journal = s.journal;
      stand = collect_stands credit.initial (state credit names events) (parties nodes r []) (parties nodes' r' []) (i + 1) (lawful_after credit names events s.journal).fit.good (reached_fresh credit names events s.journal.are s.journal.run) (omega arith) (within i l) gathers s.stand;
    }

    pub nothing_waits : NothingWaits (i + 1) (parties nodes' r' [])
    nothing_waits = none_left (i + 1) (parties nodes r []) (parties nodes' r' []) gathers
