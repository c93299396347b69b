-- What holds of the parties that stand after a journal.
use Rattle.std.proofs.Common.{◌≡◌, ℕ, ◌+◌, ◌-◌, ◌<◌, false, List, [], ◌∷◌, ◌++◌, length, map, Some, None, sym, ap, subst, ◌∙◌, arith}
use Rattle.std.proofs.lemmas.List.{length-map}
use Rattle.ring_names.specs.declared.numbers.CreditSpec.{CreditSpec}
use Rattle.ordered_link.specs.declared.ring.RingIn.{RingIn}
use Rattle.ring_rules.specs.declared.event.Event.{Event}
use Rattle.ring_rules.specs.declared.event.Event.TheVariants as event
use Rattle.ring_rules.specs.declared.kind.LinkStep.TheVariants as step
use Rattle.ring_rules.specs.Kind.{Steps, kind_of}
use Rattle.ring_rules.specs.Event.{by_of, id_of, refusal, refused_as, done_as}
use Rattle.ring_rules.specs.Step.{size, opening}
use Rattle.ring_rules.proofs.runs.OfEvents.{last_append, run_append}
use Rattle.registrar.specs.Registry.{Registry, AreHere}
use Rattle.activity.specs.declared.packet.Load.{Load}
use Rattle.activity.specs.Kept.{got_of}
use Rattle.confirm_book.specs.Book.{last_of}
use Rattle.confirm_book.proofs.Books.{last_in}
use Rattle.gm_member.specs.Held.{Held}
use Rattle.gm_member.proofs.Facts.{refused_there, done_there}
use Rattle.gm_member.proofs.Fit.{IsFit, reached_fit}
use Rattle.ring_parties.specs.States.{state}
use Rattle.ring_parties.specs.declared.party.Party.{Party}
use Rattle.ring_rules.specs.Machine.{World, member_at}
use Rattle.ring_parties.specs.Keeps.{KeepsStand, keeps_at, keeps_of, kinds_of, round_of, own_known}
use Rattle.ring_parties.specs.Parties.{Keeps, Deposit, Parties, parties, node_at, shown_in}
use Rattle.ring_parties.specs.Standing.{MemberStands, StandAfter, IsJournal}
use Rattle.ring_parties.specs.Acting.{IsReady, IsBooked, HasCredit, packet_refused}
use Rattle.ring_parties.proofs.work.Lawful.{IsLawfulAt, lawful_at}
use Rattle.ring_parties.proofs.standing.Placing.{GoBetween}
use Rattle.ring_parties.proofs.work.Fresh.{reached_go}
use Rattle.ring_parties.proofs.events.OneEvent.{held_but_door}
use Rattle.ring_parties.proofs.events.Refusals.{packet_refusal_is}
use Rattle.ring_parties.proofs.events.Ready.{ready}
use Rattle.ring_parties.proofs.keeping.Rounds.{round_within, own_last, TakesRound, takes_round}
use Rattle.ring_parties.proofs.deposits.Handing.{none_lent}

-- the party at a place keeps what the state has for its member
pub kept_there : (w : World) (ks : List Keeps) (i : ℕ) → KeepsStand w ks → i + 1 < size w → keeps_at ks i ≡ keeps_of w (i + 1)
kept_there w ks i s lt =
    let place : i + 1 - 1 ≡ i = omega arith in
    subst (λ k. keeps_at ks k ≡ keeps_of w (i + 1)) place (s.each (i + 1) (omega arith) lt)

-- a place among members is one among what they show
pub shown_inside : (nodes : List Party) (i : ℕ) → i < length nodes → i < length (map shown_in nodes)
shown_inside nodes i l = subst (λ n. i < n) (sym (length-map nodes shown_in)) l

module _ (credit : CreditSpec) (names : List (List ℕ)) (events : List Event) where
  -- the state is lawful, and its links go from member to member
  pub lawful_after : IsJournal credit names events → IsLawfulAt credit (state credit names events)
  lawful_after j = lawful_at credit names events j.are j.run

  -- and so is the one after an event
  pub later_fit : IsJournal credit names events → (e : Event) (x : ℕ) → id_of (state credit names events) (by_of e) ≡ Some x → refusal (state credit names events) e ≡ None → IsFit (done_as (state credit names events) x (kind_of e))
  later_fit j e x there enabled =
      subst IsFit (last_append (opening credit names) events (e ∷ []) ∙ done_there (state credit names events) x e there)
      (reached_fit credit names (events ++ e ∷ []) j.are (run_append (opening credit names) events (e ∷ []) j.run (enabled, tt)))

  pub go_after : IsJournal credit names events → GoBetween (state credit names events)
  go_after j = reached_go credit names events j.are j.run

  -- the member at a place
  pub within_after : (q : Parties) (i : ℕ) → StandAfter credit names events q → i < length q.nodes → i + 1 < size (state credit names events)
  within_after q i s l = omega (arith, l, s.stand.stand.count)

  pub kept_after : (q : Parties) (ks : List Keeps) (i : ℕ) → StandAfter credit names events q → KeepsStand (state credit names events) ks → i < length q.nodes → keeps_at ks i ≡ keeps_of (state credit names events) (i + 1)
  kept_after q ks i s keeps l = kept_there (state credit names events) ks i keeps (within_after q i s l)

  pub member_after : (q : Parties) (i : ℕ) (s : StandAfter credit names events q) → i < length q.nodes → MemberStands (state credit names events) s.stand.places (i + 1) (node_at q i)
  member_after q i s l =
      let place : i + 1 - 1 ≡ i = omega arith in
      subst (λ k. MemberStands (state credit names events) s.stand.places (i + 1) (node_at q k)) place (s.stand.stand.each (i + 1) (omega arith) (within_after q i s l))

  pub id_after : (q : Parties) (i : ℕ) → StandAfter credit names events q → i < length q.nodes → (node_at q i).held.id ≡ i + 1
  id_after q i s l = ap (λ (h : Held). h.id) (member_after q i s l).held

  -- its links are of the ring's credit
  pub credit_after : (q : Parties) (i : ℕ) → StandAfter credit names events q → i < length q.nodes → HasCredit credit (node_at q i).held
  credit_after q i s l =
      let held = (member_after q i s l).held in
      let lawful = lawful_after s.journal in
      (sym (ap (λ (h : Held). h.initial) held ∙ lawful.initial_is), sym (ap (λ (h : Held). h.more) held ∙ lawful.more_is))

  -- it has no open question, and its ends are ready
  pub free_after : (q : Parties) (i : ℕ) → StandAfter credit names events q → i < length q.nodes → (node_at q i).held.asks ≡ false
  free_after q i s l = ap (λ (h : Held). h.asks) (member_after q i s l).held

  pub ready_after : (q : Parties) (i : ℕ) → StandAfter credit names events q → i < length q.nodes → IsReady (node_at q i)
  ready_after q i s l =
      let place : i + 1 - 1 ≡ i = omega arith in
      subst (λ k. IsReady (node_at q k)) place (ready credit (state credit names events) q (i + 1) (lawful_after s.journal) s.stand (omega arith) (within_after q i s l))

  -- its book has what it has published
  pub booked_after : (q : Parties) (ks : List Keeps) (i : ℕ) → StandAfter credit names events q → KeepsStand (state credit names events) ks → i < length q.nodes → IsBooked (node_at q i) (keeps_at ks i)
  booked_after q ks i s kept l =
      let w : World = state credit names events in
      let x : ℕ = i + 1 in
      let lt : x < size w = within_after q i s l in
      let h : IsLawfulAt credit w = lawful_after s.journal in
      let a : MemberStands w s.stand.places x (node_at q i) = member_after q i s l in
      let keeps : keeps_at ks i ≡ keeps_of w x = kept_after q ks i s kept l in
      let many : length (kinds_of w x) ≡ last_of (keeps_of w x).book = sym (last_in (kinds_of w x) (round_of w x) (round_within w x h.fit)) in
      subst (IsBooked (node_at q i)) (sym keeps) (record {
        last = own_last w x h.fit (omega arith) lt ∙ sym (ap (λ (g : Held). got_of (own_known g)) (held_but_door w s.stand.places x (node_at q i) a));
        round = λ may.
            let place : x - 1 ≡ i = omega arith in
            let enabled : refused_as w x (Steps step.Take) ≡ None = sym (subst (λ j. packet_refused (node_at q j) ≡ refused_as w x (Steps step.Take)) place (packet_refusal_is credit w q x h s.stand (omega arith) lt)) ∙ may in
            let e : Event = event.Take (member_at w x).name in
            let named = h.fit.named x (omega arith) lt in
            let r : TakesRound w x (node_at q i) = takes_round credit w q x (node_at q i) s.stand h (later_fit s.journal e x named (refused_there w x e named ∙ enabled)) a enabled (omega arith) lt in
            omega (arith, r.next, r.within, many);
      })

  -- no end that waits at the registrar is lent
  pub here_after : (nodes : List Party) (r : Registry (RingIn Load)) (behind : List Deposit) → StandAfter credit names events (parties nodes r behind) → AreHere r.links
  here_after nodes r behind s = none_lent credit.initial (state credit names events) nodes r behind s.stand.places s.stand.stand
