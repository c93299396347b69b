-- What lets one join whom a member admits.
use Rattle.std.proofs.Common.{◌≡◌, ℕ, ◌+◌, ◌-◌, ◌<◌, ◌≤◌, true, List, [], ◌∷◌, ◌++◌, length, Some, None, sym, ap, subst, ◌∙◌, arith}
use Rattle.ring_names.specs.declared.numbers.CreditSpec.{CreditSpec}
use Rattle.ordered_link.specs.declared.ring.RingIn.{RingIn}
use Rattle.group_view.specs.Ring.{is_in}
use Rattle.group_view.specs.View.{Group}
use Rattle.group_view.specs.Change.{admitted, admit_refusal as group_refusal}
use Rattle.group_view.proofs.Joining.{comes_in}
use Rattle.ring_rules.specs.declared.event.Event.{Event}
use Rattle.ring_rules.specs.declared.event.Event.TheVariants.{Admit}
use Rattle.ring_rules.specs.declared.kind.ViewChange.TheVariants as change
use Rattle.ring_rules.specs.Kind.{Changes}
use Rattle.ring_rules.specs.Rows.{most_members}
use Rattle.ring_rules.specs.View.{ids}
use Rattle.ring_rules.specs.Machine.{World, member_at, newest as newest_version, view_in}
use Rattle.ring_rules.specs.Step.{size, opening}
use Rattle.ring_rules.specs.Event.{id_of, admit_refusal, refused_as, effect}
use Rattle.ring_rules.proofs.runs.OfEvents.{last_append, run_append}
use Rattle.ring_rules.proofs.invariants.KeptAdmit.{CanJoin}
use Rattle.ring_rules.proofs.code.Looks.{nobody_refuses_admitting}
use Rattle.registrar.specs.Registry.{Registry, newest}
use Rattle.registrar.proofs.Judged.{newest_same}
use Rattle.activity.specs.declared.packet.Load.{Load}
use Rattle.gm_member.specs.Held.{up_refused}
use Rattle.gm_member.proofs.Facts.{refused_there, done_there}
use Rattle.gm_member.proofs.Fit.{IsFit, reached_fit}
use Rattle.ring_parties.specs.declared.party.Party.{Party}
use Rattle.ring_parties.specs.Parties.{Parties, parties, node_at}
use Rattle.ring_parties.specs.States.{state}
use Rattle.ring_parties.specs.Standing.{StandAfter}
use Rattle.ring_parties.specs.Refused.{admission_refused}
use Rattle.ring_parties.proofs.deposits.Handing.{registrar_stands}
use Rattle.ring_parties.proofs.events.After.{shown_inside, within_after, lawful_after}
use Rattle.ring_parties.proofs.events.Refusing.{admit_refuses}
use Rattle.ring_parties.proofs.events.Marking.{newest_is}
use Rattle.ring_parties.proofs.events.Admitting.{can_admit, admit_many}

-- A group lets x admit one of a name, who has an id then that is one of the ring's, and stands in the view that is made.
pub record LetsJoin (g : Group) (x : ℕ) (name : List ℕ) : Type 0 where
  pub allowed : group_refusal g.entries x name ≡ None
  pub from_one : 1 ≤ g.next_id
  pub few : g.next_id ≤ most_members
  pub stands : is_in g.next_id (ids (admitted g x name)) ≡ true

module _ (credit : CreditSpec) (names : List (List ℕ)) (events : List Event) where
  -- so the newest view does where nothing refuses it
  pub joins_after : (nodes : List Party) (r : Registry (RingIn Load)) (i : ℕ) (name : List ℕ) → StandAfter credit names events (parties nodes r []) → i < length nodes
      → up_refused (node_at (parties nodes r []) i).held (admission_refused (newest r) name) ≡ None → LetsJoin (newest r) (i + 1) name
  joins_after nodes r i name s l e = subst (λ g. LetsJoin g x name) (sym same) (record {
    allowed = nobody_refuses_admitting w x name can.may.lives enters.0;
    from_one = omega (arith, can.new_id, lt);
    few = omega (arith, can.new_id, after_fit.few, then_many);
    stands = comes_in (view_in w (newest_version w)) x name can.may;
  })
    where
      w : World
      w = state credit names events

      x : ℕ
      x = i + 1

      q : Parties
      q = parties nodes r []

      f : IsFit w
      f = (lawful_after credit names events s.journal).fit

      lt : i + 1 < size w
      lt = within_after credit names events q i s (shown_inside nodes i l)

      by : List ℕ
      by = (member_at w x).name

      named : id_of w by ≡ Some x
      named = f.named x (omega arith) lt

      same : newest r ≡ view_in w (newest_version w)
      same = newest_same w r (registrar_stands credit.initial w nodes r [] s.stand.places s.stand.stand)

      place : i + 1 - 1 ≡ i
      place = omega arith

      enabled : refused_as w x (Changes (change.Admit name)) ≡ None
      enabled = sym (subst (λ k. up_refused (node_at q k).held (admission_refused (newest r) name) ≡ refused_as w x (Changes (change.Admit name))) place
          (subst (λ g. up_refused (node_at q (x - 1)).held (admission_refused g name) ≡ refused_as w x (Changes (change.Admit name))) (newest_is w q s.stand.stand.views ∙ sym same) (admit_refuses credit w q x name (omega arith) lt s.stand))) ∙ e

      enters : (admit_refusal w name ≡ None) × CanJoin w x
      enters = can_admit w x name f.good enabled lt

      can : CanJoin w x
      can = enters.1

      after_fit : IsFit (effect w (Admit by name))
      after_fit = subst IsFit (last_append (opening credit names) events (Admit by name ∷ []))
          (reached_fit credit names (events ++ Admit by name ∷ []) s.journal.are (run_append (opening credit names) events (Admit by name ∷ []) s.journal.run (refused_there w x (Admit by name) named ∙ enabled, tt)))

      then_many : size (effect w (Admit by name)) ≡ size w + 1
      then_many = ap size (done_there w x (Admit by name) named) ∙ admit_many w x name can f
