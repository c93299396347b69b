-- Why what a member does of a kind is refused, as it is read of the parties before its member has collected what waits for it: as the ring's.
use Rattle.std.proofs.Common.{◌≡◌, ℕ, ◌+◌, ◌-◌, ◌<◌, ◌≤◌, true, List, ◌++◌, map, length, Option, Some, None, refl, sym, ap, subst, ◌∙◌, arith}
use Rattle.std.specs.Prelude.{◌||◌}
use Rattle.std.specs.List.{filter}
use Rattle.ring_names.specs.declared.numbers.CreditSpec.{CreditSpec}
use Rattle.ring_names.specs.declared.reason.Reason.{Reason}
use Rattle.ring_names.specs.declared.reason.Reason.TheVariants as reason
use Rattle.ordered_link.specs.declared.ring.RingIn.{RingIn}
use Rattle.group_view.specs.Since.{view_at}
use Rattle.ring_rules.specs.Refusal.{refuse_if, or_else}
use Rattle.ring_rules.specs.declared.event.Event.{Event}
use Rattle.ring_rules.specs.declared.kind.LinkStep.{LinkStep}
use Rattle.ring_rules.specs.declared.kind.LinkStep.TheVariants as step
use Rattle.ring_rules.specs.declared.kind.ViewChange.TheVariants as change
use Rattle.ring_rules.specs.Kind.{Kind, Steps, Changes}
use Rattle.ring_rules.specs.Machine.{World, member_at, view_in}
use Rattle.ring_rules.specs.Step.{size}
use Rattle.ring_rules.specs.Event.{id_of, of_member, up_refusal, refused_as}
use Rattle.ring_rules.specs.Event as event
use Rattle.ring_rules.proofs.invariants.Happens.{IsGood}
use Rattle.registrar.specs.Registry.{Registry}
use Rattle.registrar.specs.Asked.{is_left, mark_refusal, waits_from, since_in}
use Rattle.registrar.specs.Stands.{StandsIn}
use Rattle.registrar.proofs.Judged.{view_same}
use Rattle.activity.specs.declared.packet.Load.{Load}
use Rattle.gm_member.specs.Held.{Held, up_refused, pick_refused, collected_held}
use Rattle.gm_member.specs.Questions.{has_link}
use Rattle.gm_member.specs.Stands.{held_in}
use Rattle.gm_member.proofs.PickStands.{pick_refuses}
use Rattle.ring_parties.specs.declared.party.Party.{Party}
use Rattle.ring_parties.specs.Keeps.{keeps_of}
use Rattle.ring_parties.specs.Parties.{Shown, Keeps, Deposit, Parties, parties, deposit_shown, node_at}
use Rattle.ring_parties.specs.States.{state}
use Rattle.ring_parties.specs.Standing.{Stand, StandIn, StandAfter}
use Rattle.ring_parties.specs.Acting.{step_refused, waits_at, received, is_kept_by, newest_of}
use Rattle.ring_parties.specs.Refused.{id_named, with_deposits, erase_refused, synced_refused, admission_refused, own_refused}
use Rattle.ring_parties.proofs.work.Fresh.{reached_fresh}
use Rattle.ring_parties.proofs.work.Lawful.{IsLawfulAt}
use Rattle.ring_parties.proofs.events.After.{lawful_after, member_after, id_after}
use Rattle.ring_parties.proofs.events.Refusals.{IsOwn, own_refuses, step_refuses}
use Rattle.ring_parties.proofs.events.Found.{named_alike}
use Rattle.ring_parties.proofs.events.OneEvent.{held_but_door}
use Rattle.ring_parties.proofs.events.Refusing.{mark_refuses, nobody_named, erase_refuses, synced_refuses, admit_refuses}
use Rattle.ring_parties.proofs.deposits.Collections.{AreFresh, without_to, none_to, collected}
use Rattle.ring_parties.proofs.deposits.Handing.{registrar_stands}
use Rattle.ring_parties.proofs.deposits.Waiting.{registrar_waits}
use Rattle.ring_parties.proofs.standing.Lookers.{whole_held}

-- with what waits for it at its door a member holds what the state has for it
whole_gathered : (initial : ℕ) (w : World) (q : Parties) (x : ℕ) → IsGood w → AreFresh w → 1 ≤ x → x < size w → Stand initial w q
    → collected_held (node_at q (x - 1)).held (map (received (node_at q (x - 1)).held) (filter (waits_at x) q.deposits)) ≡ held_in w x
whole_gathered initial w q x g fresh a l st = whole_held w (without_to w x st.places) x after
    (collected w q st.places x after g fresh st.stand.deposits (st.stand.each x a l) (record { held = refl; ends = refl })) (none_to w x st.places)
  where
    m : Shown
    m = node_at q (x - 1)

    after : Shown
    after = record {
      held = collected_held m.held (map (received m.held) (filter (waits_at x) q.deposits));
      ends = record m.ends { door = m.ends.door ++ map (λ d. d.end) (filter (is_kept_by m.held) (filter (waits_at x) q.deposits)) };
    }

-- conditions after those on the phase
pub up_first : (h : Held) (later : Option Reason) (r : Reason) → up_refused h None ≡ Some r → up_refused h later ≡ Some r
up_first h later r e = by_parts (refuse_if _ reason.Stopped) (refuse_if _ reason.Waiting) (refuse_if h.asks reason.AwaitingAnswer) e
  where
    by_parts : (s w q : Option Reason) → or_else s (or_else w (or_else q None)) ≡ Some r → or_else s (or_else w (or_else q later)) ≡ Some r
    by_parts (Some x) w q k = k
    by_parts None (Some x) q k = k
    by_parts None None (Some x) k = k
    by_parts None None None k = cc

module _ (credit : CreditSpec) (names : List (List ℕ)) (events : List Event) (q : Parties) (s : StandAfter credit names events q) (i : ℕ) (lt : i + 1 < size (state credit names events)) where
  abbrev w : World
  w = state credit names events

  abbrev x : ℕ
  x = i + 1

  inside : i < length q.nodes
  inside = omega (arith, lt, s.stand.stand.count)

  some : 1 ≤ x
  some = omega arith

  place : x - 1 ≡ i
  place = omega arith

  lawful : IsLawfulAt credit w
  lawful = lawful_after credit names events s.journal

  whole : with_deposits (node_at q i).held q.deposits ≡ held_in w x
  whole =
      ap (λ y. collected_held (node_at q i).held (map (received (node_at q i).held) (filter (waits_at y) q.deposits))) (id_after credit names events q i s inside)
      ∙ subst (λ j. collected_held (node_at q j).held (map (received (node_at q j).held) (filter (waits_at x) q.deposits)) ≡ held_in w x) place
      (whole_gathered credit.initial w q x lawful.fit.good (reached_fresh credit names events s.journal.are s.journal.run) some lt s.stand)

  -- ---- each kind

  pub own_reads : (keeps : Keeps) (k : Kind) → keeps ≡ keeps_of w x → IsOwn k x q → own_refused (newest_of q) keeps k (node_at q i) ≡ refused_as w x k
  own_reads keeps k kept own = subst (λ j. own_refused (newest_of q) keeps k (node_at q j) ≡ refused_as w x k) place (own_refuses credit w q x lawful s.stand some lt keeps k kept own)

  pub step_reads : (l : LinkStep) → IsOwn (Steps l) x q → step_refused l (node_at q i) ≡ refused_as w x (Steps l)
  step_reads l own = subst (λ j. step_refused l (node_at q j) ≡ refused_as w x (Steps l)) place (step_refuses credit w q x lawful s.stand some lt l own)

  pub pick_reads : pick_refused (with_deposits (node_at q i).held q.deposits) ≡ refused_as w x (Steps step.Pick)
  pick_reads = ap pick_refused whole ∙ pick_refuses w x lawful.fit.good

  pub admit_reads : (name : List ℕ) → up_refused (node_at q i).held (admission_refused (newest_of q) name) ≡ refused_as w x (Changes (change.Admit name))
  admit_reads name = subst (λ j. up_refused (node_at q j).held (admission_refused (newest_of q) name) ≡ refused_as w x (Changes (change.Admit name))) place (admit_refuses credit w q x name some lt s.stand)

  -- the one that is named has the id by which it is found
  other_named : (other : List ℕ) → id_of w other ≡ id_named q other
  other_named other = sym (named_alike credit.initial w q s.stand.places other s.stand.stand)

  -- where nobody has the name
  nobody_reads : (other : List ℕ) (later : ℕ → Option Reason) → id_named q other ≡ None → up_refused (node_at q i).held (Some reason.UnknownMember) ≡ up_refusal w x (of_member (id_of w other) later)
  nobody_reads other later none = subst (λ j. up_refused (node_at q j).held (Some reason.UnknownMember) ≡ up_refusal w x (of_member (id_of w other) later)) place
      (nobody_named credit w q x other later s.stand some lt (other_named other ∙ none))

  pub mark_reads_unknown : (dead : List ℕ) → id_named q dead ≡ None → up_refused (node_at q i).held (Some reason.UnknownMember) ≡ refused_as w x (Changes (change.Mark dead))
  mark_reads_unknown dead = nobody_reads dead (event.mark_refusal w x)

  pub erase_reads_unknown : (origin : List ℕ) → id_named q origin ≡ None → up_refused (node_at q i).held (Some reason.UnknownMember) ≡ refused_as w x (Changes (change.Erase origin))
  erase_reads_unknown origin = nobody_reads origin (event.erase_refusal w x)

  module _ (nodes : List Party) (r : Registry (RingIn Load)) (behind : List Deposit) (is : q ≡ parties nodes r behind) where
    rs : StandsIn w r
    rs = registrar_stands credit.initial w nodes r behind s.stand.places (subst (λ p. StandIn credit.initial w p s.stand.places) is s.stand.stand)

    pub erase_reads : (origin : List ℕ) (p : ℕ) → id_named q origin ≡ Some p → erase_refused r (node_at q i) (Some p) ≡ refused_as w x (Changes (change.Erase origin))
    erase_reads origin p there = subst (λ j. erase_refused r (node_at q j) (Some p) ≡ refused_as w x (Changes (change.Erase origin))) place
        (erase_refuses credit w r q x p origin lawful rs s.stand some lt (other_named origin ∙ there))

    pub synced_reads : (keeps : Keeps) → keeps ≡ keeps_of w x → synced_refused r keeps (node_at q i) ≡ refused_as w x (Changes change.Register)
    synced_reads keeps kept = subst (λ j. synced_refused r keeps (node_at q j) ≡ refused_as w x (Changes change.Register)) place (synced_refuses credit w r q keeps x lawful rs s.stand kept some lt)

    pub mark_reads : (dead : List ℕ) (d : ℕ) → id_named q dead ≡ Some d
        → up_refused (node_at q i).held (mark_refusal r (node_at q i).held.id d (node_at q i).held.view.version (has_link (with_deposits (node_at q i).held q.deposits))) ≡ refused_as w x (Changes (change.Mark dead))
    mark_reads dead d dead_is =
        ap (λ k. up_refused (node_at q i).held (mark_refusal r (node_at q i).held.id d (node_at q i).held.view.version (has_link k))) whole
        ∙ ap (λ (k : Held). up_refused k (mark_refusal r k.id d k.view.version (has_link (held_in w x)))) same
        ∙ mark_refuses w r x d dead lawful.fit rs some lt (other_named dead ∙ dead_is) waits
      where
        same : (node_at q i).held ≡ record (held_in w x) { door = (node_at q i).held.door }
        same = held_but_door w s.stand.places x (node_at q i) (member_after credit names events q i s inside)

        k : Held
        k = record (held_in w x) { door = (node_at q i).held.door }

        all : with_deposits k (map deposit_shown r.links ++ behind) ≡ held_in w x
        all = ap (λ h. with_deposits h (map deposit_shown r.links ++ behind)) (sym same) ∙ ap (λ (p : Parties). with_deposits (node_at q i).held p.deposits) (sym is) ∙ whole

        u : ℕ
        u = (member_at w x).version

        waits : is_left (view_at r.views u) x d ≡ true → (has_link (held_in w x) || waits_from r.links d x (since_in (view_at r.views u) x)) ≡ has_link (held_in w x)
        waits left = subst (λ g. is_left g x d ≡ true → (has_link (held_in w x) || waits_from r.links d x (since_in g x)) ≡ has_link (held_in w x)) (sym (view_same w r u rs))
            (λ at_left. subst (λ h. (has_link h || waits_from r.links d x (since_in (view_in w u) x)) ≡ has_link h) all (registrar_waits k d r.links behind at_left)) left
