-- One event of a cluster, from the parties that stand before it to those that stand after it.
use Rattle.std.proofs.Common.{◌≡◌, ℕ, zero, suc, ◌+◌, ◌-◌, ◌<◌, ◌≤◌, ◌^◌, true, false, not, nat_lt, cond, List, [], ◌∷◌, ◌++◌, map, length, get_or, set, Option, Some, None, is_some, refl, sym, ap, subst, ◌∙◌, arith}
use Rattle.std.specs.Prelude.{◌||◌}
use Rattle.std.proofs.lemmas.List.{length_push, length-set, length-map}
use Rattle.std.proofs.lemmas.Bool.{false≢true, le-ltb}
use Rattle.ring_names.specs.declared.numbers.CreditSpec.{CreditSpec}
use Rattle.ring_names.specs.declared.reason.Reason.{Reason}
use Rattle.ring_names.specs.declared.reason.Reason.TheVariants as reason
use Rattle.ordered_link.specs.declared.ring.RingIn.{RingIn}
use Rattle.group_view.specs.declared.link.LinkName.{LinkName}
use Rattle.group_view.specs.View.{Group}
use Rattle.group_view.specs.Ring.{is_in}
use Rattle.group_view.specs.Change.{marked}
use Rattle.group_view.specs.Since.{no_group, view_at}
use Rattle.ring_rules.specs.Refusal.{refuse_if, or_else}
use Rattle.ring_rules.specs.declared.event.Event.{Event}
use Rattle.ring_rules.specs.declared.kind.LinkStep.TheVariants as step
use Rattle.ring_rules.specs.declared.kind.ViewChange.TheVariants as change
use Rattle.ring_rules.specs.Kind.{Kind, Steps, Changes, Stops, Reads, Tells, kind_of}
use Rattle.ring_rules.specs.declared.phase.Phase.{Phase}
use Rattle.ring_rules.specs.declared.phase.Phase.TheVariants.{Waiting, Up, Stopped}
use Rattle.ring_rules.specs.View.{ids}
use Rattle.ring_rules.specs.Machine.{World, member_at, link_at, is_waiting, runs_phase}
use Rattle.ring_rules.specs.Machine as machine
use Rattle.ring_rules.specs.Step.{size, opening}
use Rattle.ring_rules.specs.Event.{by_of, id_of, of_member, is_stopped, up_refusal, refresh_refusal, pick_refusal, refused_as, refusal, done_as}
use Rattle.ring_rules.specs.Event as event
use Rattle.ring_rules.proofs.runs.OfEvents.{last_append, run_append}
use Rattle.ring_rules.proofs.events.WhatRefuses.{MayLook}
use Rattle.ring_rules.proofs.events.Refusals.{none_of}
use Rattle.ring_rules.proofs.events.Enabled.{up_none}
use Rattle.registrar.specs.Registry.{Registry, is_known, newest}
use Rattle.registrar.specs.Asked.{mark_refusal, stop_refusal}
use Rattle.registrar.specs.Stands.{StandsIn}
use Rattle.registrar.proofs.Judged.{view_same, many_views, knows}
use Rattle.activity.specs.declared.packet.Load.{Load}
use Rattle.gm_member.specs.Held.{Held, at_some, up_refused, pick_refused, refresh_refused, first_at_door}
use Rattle.gm_member.proofs.Doors.{view_version}
use Rattle.gm_member.proofs.Facts.{refused_there, done_there}
use Rattle.ring_parties.specs.Ends.{OutSeen}
use Rattle.ring_parties.specs.declared.party.Party.{Party}
use Rattle.ring_parties.specs.Keeps.{KeepsStand, keeps_of, all_kept_after}
use Rattle.ring_parties.proofs.keeping.Going.{keeps_go}
use Rattle.ring_parties.specs.Parties.{Shown, Keeps, Deposit, Parties, parties, deposit_shown, node_at, with_node, shown_in, in_seen}
use Rattle.ring_parties.specs.States.{state, IsEventIn}
use Rattle.ring_parties.specs.Standing.{MemberStands, StandAfter, IsJournal}
use Rattle.ring_parties.specs.Replaced.{StandBetween, BetweenAfter, moved_by}
use Rattle.ring_parties.specs.Meeting.{MayMeet, MeetsIn}
use Rattle.ring_parties.specs.Acting.{stop_refused, look_refused, depositing, newest_of, viewing, erasing, registering, admitting, joining, LooksAt, Acts}
use Rattle.ring_parties.specs.Refused.{id_named, NothingWaits, mark_refused, erase_refused, synced_refused, admission_refused, own_refused, act_refused, marked_in, office_of}
use Rattle.ring_parties.specs.Behind.{behind}
use Rattle.ring_parties.specs.declared.pending_deposit.PendingDeposit.{PendingDeposit}
use Rattle.ring_parties.proofs.work.Lawful.{IsLawfulAt}
use Rattle.ring_parties.proofs.events.After.{shown_inside, lawful_after, later_fit, go_after, within_after, member_after, id_after}
use Rattle.ring_parties.proofs.events.Found.{named_alike, found_within}
use Rattle.ring_parties.proofs.events.Refusals.{IsOwn, own_refuses}
use Rattle.ring_parties.proofs.events.Refusing.{look_refuses, admit_refuses, mark_asked_refuses, nobody_named, erase_refuses, synced_refuses}
use Rattle.ring_parties.proofs.events.EachGoes.{MayGo, each_goes}
use Rattle.ring_parties.proofs.events.Marking.{refresh_may}
use Rattle.ring_parties.proofs.meetings.Meetings.{deposit_at}
use Rattle.ring_parties.proofs.meetings.Receivers.{GoesIn, replaced_goes_in}
use Rattle.ring_parties.proofs.meetings.MeetsReplaced.{replaced_may, replaced_meets}
use Rattle.ring_parties.proofs.deposits.Handing.{registrar_stands, knows_deposited}
use Rattle.ring_parties.proofs.standing.Frames.{StandMoved}
use Rattle.ring_parties.proofs.standing.Writing.{at_in}

-- where nothing refuses a member to read the view of a version, the registrar has it, and the member stands in it and may read it
abbrev pub MayLookAt : Registry (RingIn Load) → Shown → ℕ → Type 0
MayLookAt r a version = look_refused (newest r).version a version ≡ None → ((1 ≤ version) × (version ≤ length r.views))
    × ((is_in a.held.id (ids (view_at r.views version)) ≡ true) × (refresh_refused a.held (view_at r.views version).version ≡ None))

-- one condition more of a member that refuses nothing before
pub up_later : (k : Held) (a b : Option Reason) → up_refused k a ≡ None → b ≡ None → up_refused k b ≡ None
up_later k a b e n = by_parts (refuse_if (is_stopped k.phase) reason.Stopped) (refuse_if (is_waiting k.phase) reason.Waiting) (refuse_if k.asks reason.AwaitingAnswer) e
  where
    by_parts : (s w q : Option Reason) → or_else s (or_else w (or_else q a)) ≡ None → or_else s (or_else w (or_else q b)) ≡ None
    by_parts None None None e = n
    by_parts (Some x) w q e = cc
    by_parts None (Some x) q e = cc
    by_parts None None (Some x) e = cc

module _ (credit : CreditSpec) (names : List (List ℕ)) (events : List Event) where
  -- the id that a name has among the parties is the ring's
  found : (q : Parties) (name : List ℕ) → StandAfter credit names events q → id_named q name ≡ id_of (state credit names events) name
  found q name s = named_alike credit.initial (state credit names events) q s.stand.places name s.stand.stand

  -- an event is one of the member at its place
  pub found_at : (q : Parties) (e : Event) (i : ℕ) → StandAfter credit names events q → IsEventIn (state credit names events) i e → id_named q (by_of e) ≡ Some (i + 1)
  found_at q e i s at = found q (by_of e) s ∙ ap (id_of (state credit names events)) at.1 ∙ (lawful_after credit names events s.journal).fit.named (i + 1) (omega arith) at.0

  -- ---- refusals

  -- what is refused of who isn't up, whatever comes later
  idle : (h : Held) (w : World) (x : ℕ) (f : Phase) → h.phase ≡ f → (member_at w x).phase ≡ f → (f ≡ Up → ⊥) → (a b : Option Reason) → up_refused h a ≡ up_refusal w x b
  idle h w x f e k ne a b =
      ap (λ p. or_else (refuse_if (is_stopped p) reason.Stopped) (or_else (refuse_if (is_waiting p) reason.Waiting) (or_else (refuse_if h.asks reason.AwaitingAnswer) a))) e
      ∙ by_phase f ne
      ∙ sym (ap (λ p. or_else (refuse_if (is_stopped p) reason.Stopped) (or_else (refuse_if (is_waiting p) reason.Waiting) b)) k)
    where
      by_phase : (p : Phase) → (p ≡ Up → ⊥) → or_else (refuse_if (is_stopped p) reason.Stopped) (or_else (refuse_if (is_waiting p) reason.Waiting) (or_else (refuse_if h.asks reason.AwaitingAnswer) a)) ≡ or_else (refuse_if (is_stopped p) reason.Stopped) (or_else (refuse_if (is_waiting p) reason.Waiting) b)
      by_phase Waiting n = refl
      by_phase Up n = absurd (n refl)
      by_phase Stopped n = refl

  -- which member an event finds, among those that are shown
  place : (i : ℕ) → i + 1 - 1 ≡ i
  place i = omega arith

  phase_is : (q : Parties) (i : ℕ) → StandAfter credit names events q → i < length q.nodes → (node_at q i).held.phase ≡ (member_at (state credit names events) (i + 1)).phase
  phase_is q i s l = ap (λ (h : Held). h.phase) (member_after credit names events q i s l).held

  found_place : (q : Parties) (name : List ℕ) (i : ℕ) → id_named q name ≡ Some (i + 1) → i < length q.nodes
  found_place q name i e = omega (arith, (found_within q name (i + 1) e).1)

  -- a member refuses what it does of a kind just where the ring does, for the same reason
  kind_refused : (q : Parties) (keeps : Keeps) (k : Kind) (i : ℕ) → StandAfter credit names events q → keeps ≡ keeps_of (state credit names events) (i + 1) → i < length q.nodes → ((node_at q i).held.phase ≡ Up → NothingWaits (i + 1) q) → act_refused k keeps i q ≡ refused_as (state credit names events) (i + 1) k
  kind_refused q keeps k i s kept l waits = by_kind k
    where
      w : World
      w = state credit names events

      lt : i + 1 < size w
      lt = within_after credit names events q i s l

      own : (k : Kind) → IsOwn k (i + 1) q → own_refused (newest_of q) keeps k (node_at q i) ≡ refused_as w (i + 1) k
      own k a = subst (λ j. own_refused (newest_of q) keeps k (node_at q j) ≡ refused_as w (i + 1) k) (place i) (own_refuses credit w q (i + 1) (lawful_after credit names events s.journal) s.stand (omega arith) lt keeps k kept a)

      -- of one that isn't up
      not_up : (f : Phase) → (f ≡ Up → ⊥) → (node_at q i).held.phase ≡ f → (a b : Option Reason) → up_refused (node_at q i).held a ≡ up_refusal w (i + 1) b
      not_up f ne k a b = idle (node_at q i).held w (i + 1) f k (sym (phase_is q i s l) ∙ k) ne a b

      pick_up : (f : Phase) → (node_at q i).held.phase ≡ f → pick_refused (node_at q i).held ≡ refused_as w (i + 1) (Steps step.Pick)
      pick_up Up e = own (Steps step.Pick) (waits e)
      pick_up Waiting e = not_up Waiting (λ n. cc) e _ _
      pick_up Stopped e = not_up Stopped (λ n. cc) e _ _

      mark_up : (dead : List ℕ) (d : ℕ) → id_of w dead ≡ Some d → (f : Phase) → (node_at q i).held.phase ≡ f → mark_refused (office_of q) (node_at q i) (Some d) ≡ refused_as w (i + 1) (Changes (change.Mark dead))
      mark_up dead d e Up f =
          let id : (node_at q i).held.id ≡ i + 1 = id_after credit names events q i s l in
          ap (λ x. up_refused (node_at q i).held (mark_refusal (office_of q) x d (node_at q i).held.view.version (is_some (node_at q i).held.current || is_some (first_at_door (node_at q i).held)))) id
          ∙ mark_asked_refuses credit w q (i + 1) d dead (node_at q i) (lawful_after credit names events s.journal) s.stand (omega arith) lt e (waits f) (ap (node_at q) (sym (place i)))
      mark_up dead d e Waiting f = not_up Waiting (λ n. cc) f _ _
      mark_up dead d e Stopped f = not_up Stopped (λ n. cc) f _ _

      nobody : (other : List ℕ) (later : ℕ → Option Reason) → id_of w other ≡ None → up_refused (node_at q i).held (Some reason.UnknownMember) ≡ up_refusal w (i + 1) (of_member (id_of w other) later)
      nobody other later none = subst (λ j. up_refused (node_at q j).held (Some reason.UnknownMember) ≡ up_refusal w (i + 1) (of_member (id_of w other) later)) (place i) (nobody_named credit w q (i + 1) other later s.stand (omega arith) lt none)

      by_dead : (dead : List ℕ) (o : Option ℕ) → id_of w dead ≡ o → mark_refused (office_of q) (node_at q i) o ≡ refused_as w (i + 1) (Changes (change.Mark dead))
      by_dead dead None e = nobody dead (event.mark_refusal w (i + 1)) e
      by_dead dead (Some d) e = mark_up dead d e (node_at q i).held.phase refl

      office : StandsIn w (office_of q)
      office = record { views = s.stand.stand.views; stopped = s.stand.stand.stopped; nobody_else = s.stand.stand.nobody_else }

      packet_by_id : (origin : List ℕ) (o : Option ℕ) → id_of w origin ≡ o → erase_refused (office_of q) (node_at q i) o ≡ refused_as w (i + 1) (Changes (change.Erase origin))
      packet_by_id origin None e = nobody origin (event.erase_refusal w (i + 1)) e
      packet_by_id origin (Some p) e = subst (λ j. erase_refused (office_of q) (node_at q j) (Some p) ≡ refused_as w (i + 1) (Changes (change.Erase origin))) (place i)
          (erase_refuses credit w (office_of q) q (i + 1) p origin (lawful_after credit names events s.journal) office s.stand (omega arith) lt e)

      by_kind : (k : Kind) → act_refused k keeps i q ≡ refused_as w (i + 1) k
      by_kind (Changes (change.Mark dead)) = ap (mark_refused (office_of q) (node_at q i)) (found q dead s) ∙ by_dead dead (id_of w dead) refl
      by_kind (Changes (change.Erase origin)) = ap (erase_refused (office_of q) (node_at q i)) (found q origin s) ∙ packet_by_id origin (id_of w origin) refl
      by_kind (Changes (change.Admit name)) = subst (λ j. up_refused (node_at q j).held (admission_refused (newest_of q) name) ≡ refused_as w (i + 1) (Changes (change.Admit name))) (place i) (admit_refuses credit w q (i + 1) name (omega arith) lt s.stand)
      by_kind (Changes change.Register) = subst (λ j. synced_refused (office_of q) keeps (node_at q j) ≡ refused_as w (i + 1) (Changes change.Register)) (place i)
          (synced_refuses credit w (office_of q) q keeps (i + 1) (lawful_after credit names events s.journal) office s.stand kept (omega arith) lt)
      by_kind (Steps step.Pick) = pick_up (node_at q i).held.phase refl
      by_kind k = own k tt

  -- and so an event
  pub refused_is : (q : Parties) (keeps : Keeps) (e : Event) (i : ℕ) → StandAfter credit names events q → keeps ≡ keeps_of (state credit names events) (i + 1) → id_named q (by_of e) ≡ Some (i + 1) → ((node_at q i).held.phase ≡ Up → NothingWaits (i + 1) q)
      → act_refused (kind_of e) keeps i q ≡ refusal (state credit names events) e
  refused_is q keeps e i s kept named waits =
      kind_refused q keeps (kind_of e) i s kept (found_place q (by_of e) i named) waits ∙ sym (refused_there (state credit names events) (i + 1) e (sym (found q (by_of e) s) ∙ named))

  -- ---- the event happens

  many_after : (q q' : Parties) (keeps : Keeps) (k : Kind) (i d : ℕ) (replaced : Option (LinkName × OutSeen)) → Acts k keeps i d q q' replaced → length q.nodes ≤ length q'.nodes
  many_after q q' keeps k i d replaced a = by_kind k a
    where
      as_many : length q'.nodes ≡ length q.nodes → length q.nodes ≤ length q'.nodes
      as_many same = omega (arith, same)

      one : (b : Shown) → q' ≡ with_node q i b → length q.nodes ≤ length q'.nodes
      one b is = as_many (ap (λ (p : Parties). length p.nodes) is ∙ length-set q.nodes i b)

      deposit_same : (new : Option Deposit) (p : Parties) → (depositing new p).nodes ≡ p.nodes
      deposit_same None p = refl
      deposit_same (Some d) p = refl

      looks : (v : Group) (p : Parties) → p.nodes ≡ q.nodes → LooksAt v i p q' replaced → length q.nodes ≤ length q'.nodes
      looks v p same (b, new, _, is) = as_many (ap (λ (p : Parties). length p.nodes) is ∙ ap length (deposit_same new (with_node p i b)) ∙ length-set p.nodes i b ∙ ap length same)

      one_more : (b m : Shown) (v : Group) → q' ≡ joining m (viewing v (with_node q i b)) → length q.nodes ≤ length q'.nodes
      one_more b m v is = omega (arith, ap (λ (p : Parties). length p.nodes) is ∙ length_push (set q.nodes i b) m, length-set q.nodes i b)

      by_kind : (k : Kind) → Acts k keeps i d q q' replaced → length q.nodes ≤ length q'.nodes
      by_kind Stops (b, _, is, _) = as_many (ap (λ (p : Parties). length p.nodes) is ∙ length-set q.nodes i b)
      by_kind (Changes (change.Mark dead)) a = looks (marked (newest_of q) d) (viewing (marked (newest_of q) d) q) refl a
      by_kind (Changes (change.Erase origin)) a = looks (erasing q d) (viewing (erasing q d) q) refl a
      by_kind (Changes change.Register) a = looks (registering q (i + 1)) (viewing (registering q (i + 1)) q) refl a
      by_kind (Changes (change.Admit name)) a = one_more a.2.0 _ (admitting q i name) a.2.3
      by_kind (Reads version) a = looks (view_at q.views version) q refl a
      by_kind (Tells code inner) a = as_many (ap (λ (p : Parties). length p.nodes) a.0)
      by_kind k (b, _, is, _) = one b is

  -- a replaced end goes to a member
  replaced_goes : (q q' : Parties) (keeps : Keeps) (k : Kind) (i d : ℕ) (name : LinkName) (o : OutSeen) → StandAfter credit names events q → i < length q.nodes → Acts k keeps i d q q' (Some (name, o)) → GoesIn (state credit names events) name
  replaced_goes q q' keeps k i d name o s l a = by_kind k a
    where
      w : World
      w = state credit names events

      never : ◌≡◌ {A = Option (LinkName × OutSeen)} (Some (name, o)) None → GoesIn w name
      never k = cc

      looks : (v : Group) (p : Parties) → LooksAt v (i + 1 - 1) q p (Some (name, o)) → GoesIn w name
      looks v p k = replaced_goes_in credit w q p v (i + 1) name o (lawful_after credit names events s.journal) (go_after credit names events s.journal) (omega arith) (within_after credit names events q i s l) s.stand k

      looks_at : (v : Group) (p : Parties) → LooksAt v i q p (Some (name, o)) → GoesIn w name
      looks_at v p k = looks v p (subst (λ j. LooksAt v j q p (Some (name, o))) (sym (place i)) k)

      by_kind : (k : Kind) → Acts k keeps i d q q' (Some (name, o)) → GoesIn w name
      by_kind (Changes (change.Mark dead)) (b, new, how, _) = looks_at (marked (newest_of q) d) (depositing new (with_node q i b)) (b, new, how, refl)
      by_kind (Changes (change.Erase origin)) (b, new, how, _) = looks_at (erasing q d) (depositing new (with_node q i b)) (b, new, how, refl)
      by_kind (Changes change.Register) (b, new, how, _) = looks_at (registering q (i + 1)) (depositing new (with_node q i b)) (b, new, how, refl)
      by_kind (Changes (change.Admit name)) a = looks_at (admitting q i name) (depositing a.2.1 (with_node q i a.2.0)) (a.2.0, a.2.1, a.2.2, refl)
      by_kind (Reads version) a = looks_at (view_at q.views version) q' a
      by_kind (Tells code inner) a = never a.1
      by_kind k a = never a.3

  -- what it needs besides
  may_go : (q : Parties) (k : Kind) (i : ℕ) → StandAfter credit names events q → i < length q.nodes → refused_as (state credit names events) (i + 1) k ≡ None
      → ((node_at q i).held.phase ≡ Up → NothingWaits (i + 1) q) → MayGo (state credit names events) k (i + 1) (marked_in k q) q
  may_go q k i s l r waits = by_kind k r
    where
      w : World
      w = state credit names events

      up : (later : Option Reason) → up_refusal w (i + 1) later ≡ None → NothingWaits (i + 1) q
      up later e = waits (phase_is q i s l ∙ (up_none w (i + 1) later e).0)

      -- the one that is marked or erased
      other_is : (other : List ℕ) (later : ℕ → Option Reason) (o : Option ℕ) → id_named q other ≡ o → up_refusal w (i + 1) (of_member (id_of w other) later) ≡ None → id_of w other ≡ Some (at_some (id_named q other) 0 (λ d. d))
      other_is other later (Some d) k _ = sym (found q other s) ∙ k ∙ ap (λ o. Some (at_some o 0 (λ d. d))) (sym k)
      other_is other later None k e =
          let none : of_member (id_of w other) later ≡ None = (up_none w (i + 1) _ e).1 in
          let unknown : Some reason.UnknownMember ≡ None = sym (ap (λ o. of_member o later) (sym (found q other s) ∙ k)) ∙ none in
          cc

      by_kind : (k : Kind) → refused_as w (i + 1) k ≡ None → MayGo w k (i + 1) (marked_in k q) q
      by_kind (Changes (change.Mark dead)) e = (other_is dead (event.mark_refusal w (i + 1)) (id_named q dead) refl e, up (of_member (id_of w dead) (event.mark_refusal w (i + 1))) e)
      by_kind (Changes (change.Erase origin)) e = (other_is origin (event.erase_refusal w (i + 1)) (id_named q origin) refl e, up (of_member (id_of w origin) (event.erase_refusal w (i + 1))) e)
      by_kind (Changes (change.Admit name)) e = up (event.admit_refusal w name) e
      by_kind (Changes change.Register) e = up (event.synced_refusal w (i + 1)) e
      by_kind (Reads version) e = up (refresh_refusal w (i + 1) version) e
      by_kind (Steps step.Pick) e = up (or_else (refuse_if (is_some (member_at w (i + 1)).current) reason.HasCurrentLink) (pick_refusal w (i + 1))) e
      by_kind k e = tt

  pub acted : (q q' : Parties) (keeps : Keeps) (e : Event) (i : ℕ) (replaced : Option (LinkName × OutSeen)) → StandAfter credit names events q → keeps ≡ keeps_of (state credit names events) (i + 1) → act_refused (kind_of e) keeps i q ≡ None → id_named q (by_of e) ≡ Some (i + 1)
      → ((node_at q i).held.phase ≡ Up → NothingWaits (i + 1) q) → length events + 1 < 2 ^ 59 → Acts (kind_of e) keeps i (marked_in (kind_of e) q) q q' replaced
      → BetweenAfter credit names (events ++ e ∷ []) (moved_by (i + 1) (state credit names (events ++ e ∷ []))) q' replaced
  acted q q' keeps e i replaced s kept refused named waits few a = record {
    journal = journal;
    stand = stand;
    goes = λ name o k. goes name o (subst (Acts (kind_of e) keeps i (marked_in (kind_of e) q) q q') k a);
  }
    where
      w : World
      w = state credit names events

      enabled : refusal w e ≡ None
      enabled = sym (refused_is q keeps e i s kept named waits) ∙ refused

      journal : IsJournal credit names (events ++ e ∷ [])
      journal = record {
        are = s.journal.are;
        run = run_append (opening credit names) events (e ∷ []) s.journal.run (enabled, tt);
        few = subst (λ n. n < 2 ^ 59) (sym (length_push events e)) few;
      }

      inside : i < length q.nodes
      inside = found_place q (by_of e) i named

      there : id_of w (by_of e) ≡ Some (i + 1)
      there = sym (found q (by_of e) s) ∙ named

      after : state credit names (events ++ e ∷ []) ≡ done_as w (i + 1) (kind_of e)
      after = last_append (opening credit names) events (e ∷ []) ∙ done_there w (i + 1) e there

      allowed : refused_as w (i + 1) (kind_of e) ≡ None
      allowed = sym (refused_there w (i + 1) e there) ∙ enabled

      stand : StandMoved credit.initial (i + 1) (state credit names (events ++ e ∷ [])) q' replaced
      stand = subst (λ u. StandMoved credit.initial (i + 1) u q' replaced) (sym after)
          (each_goes credit w (kind_of e) keeps i (marked_in (kind_of e) q) q q' replaced (lawful_after credit names events s.journal)
          (subst (IsLawfulAt credit) after (lawful_after credit names (events ++ e ∷ []) journal))
          allowed (within_after credit names events q i s inside) (may_go q (kind_of e) i s inside allowed waits) kept s.stand a)

      goes : (name : LinkName) (o : OutSeen) → Acts (kind_of e) keeps i (marked_in (kind_of e) q) q q' (Some (name, o)) → GoesIn (state credit names (events ++ e ∷ [])) name
      goes name o k =
          let in_old = replaced_goes q q' keeps (kind_of e) i (marked_in (kind_of e) q) name o s inside k in
          let many : length q.nodes ≤ length q'.nodes = many_after q q' keeps (kind_of e) i (marked_in (kind_of e) q) replaced a in
          (in_old.0, omega (arith, in_old.1, many, s.stand.stand.count, stand.stand.count))

  -- and the parties keep what their members have then
  pub kept_on : (q : Parties) (ks : List Keeps) (e : Event) (i : ℕ) → StandAfter credit names events q → KeepsStand (state credit names events) ks → refusal (state credit names events) e ≡ None → id_named q (by_of e) ≡ Some (i + 1)
      → KeepsStand (state credit names (events ++ e ∷ [])) (all_kept_after (kind_of e) i q ks)
  kept_on q ks e i s kept enabled named =
      let there : id_of (state credit names events) (by_of e) ≡ Some (i + 1) = sym (found q (by_of e) s) ∙ named in
      subst (λ u. KeepsStand u (all_kept_after (kind_of e) i q ks)) (sym (last_append (opening credit names) events (e ∷ []) ∙ done_there (state credit names events) (i + 1) e there))
      (keeps_go credit (state credit names events) (kind_of e) i q ks (lawful_after credit names events s.journal) (later_fit credit names events s.journal e (i + 1) there enabled) (sym (refused_there (state credit names events) (i + 1) e there) ∙ enabled)
      (within_after credit names events q i s (found_place q (by_of e) i named)) s.stand kept)

  -- there are as many members then
  pub still_there : (q q' q'' : Parties) (keeps : Keeps) (e : Event) (i : ℕ) (replaced : Option (LinkName × OutSeen)) (ids : List ℕ) → i < length q.nodes → Acts (kind_of e) keeps i (marked_in (kind_of e) q) q q' replaced
      → BetweenAfter credit names (events ++ e ∷ []) ids q' replaced → BetweenAfter credit names (events ++ e ∷ []) ids q'' None → i < length q''.nodes
  still_there q q' q'' keeps e i replaced ids l a b later =
      let many : length q.nodes ≤ length q'.nodes = many_after q q' keeps (kind_of e) i (marked_in (kind_of e) q) replaced a in
      omega (arith, l, many, b.stand.stand.count, later.stand.stand.count)

  -- ---- the replaced end meets its other end

  pub between_may : (ids : List ℕ) (q : Parties) (name : LinkName) (o : OutSeen) (replaced : Option (LinkName × OutSeen)) → replaced ≡ Some (name, o) → BetweenAfter credit names events ids q replaced → MayMeet q name o
  between_may ids q name o replaced e b =
      replaced_may credit (state credit names events) ids q name o (lawful_after credit names events b.journal) (go_after credit names events b.journal) (b.goes name o e)
      (subst (StandBetween credit.initial (state credit names events) ids q) e b.stand)

  pub between_meets : (ids : List ℕ) (q q' : Parties) (name : LinkName) (o o' : OutSeen) (replaced : Option (LinkName × OutSeen)) → replaced ≡ Some (name, o) → BetweenAfter credit names events ids q replaced → MeetsIn q name o q q' o' → BetweenAfter credit names events ids q' None
  between_meets ids q q' name o o' replaced e b m = record {
    journal = b.journal;
    stand = replaced_meets credit (state credit names events) ids q q' name o o' (lawful_after credit names events b.journal) (go_after credit names events b.journal) (b.goes name o e)
        (subst (StandBetween credit.initial (state credit names events) ids q) e b.stand) m;
    goes = λ other l k. cc;
  }

  -- ---- what the calls of a member need

  pub few_stand : (q : Parties) → StandAfter credit names events q → length q.nodes ≤ 64
  few_stand q s =
      omega (arith, (lawful_after credit names events s.journal).fit.few, s.stand.stand.count)

  pub few_after : (nodes : List Party) (r : Registry (RingIn Load)) (behind : List Deposit) → StandAfter credit names events (parties nodes r behind) → length nodes ≤ 64
  few_after nodes r behind s =
      let shown : length (map shown_in nodes) ≡ length nodes = length-map nodes shown_in in
      omega (arith, shown, few_stand (parties nodes r behind) s)

  -- the registrar hasn't heard of one that hasn't stopped
  pub unheard_after : (nodes : List Party) (r : Registry (RingIn Load)) (i : ℕ) → StandAfter credit names events (parties nodes r []) → i < length nodes → stop_refused (node_at (parties nodes r []) i) ≡ None → stop_refusal r (i + 1) ≡ None
  unheard_after nodes r i s l e =
      let q : Parties = parties nodes r [] in
      let w : World = state credit names events in
      let inside : i < length q.nodes = shown_inside nodes i l in
      let running : is_stopped (node_at q i).held.phase ≡ false = (none_of (is_stopped (node_at q i).held.phase) reason.Stopped _ e).0 in
      let heard : is_in (i + 1) r.stopped ≡ false = s.stand.stand.stopped (i + 1) (omega arith) (within_after credit names events q i s inside) ∙ ap is_stopped (sym (phase_is q i s inside)) ∙ running in
      let known : is_known r (i + 1) ≡ true = knows w r (i + 1) (lawful_after credit names events s.journal).fit.good (registrar_stands credit.initial w nodes r [] s.stand.places s.stand.stand) (omega arith) (within_after credit names events q i s inside) in
      ap (λ b. or_else (refuse_if (not b) reason.UnknownMember) (refuse_if (is_in (i + 1) r.stopped) reason.Stopped)) known
      ∙ ap (λ b. refuse_if b reason.Stopped) heard

  -- a view that a member may read is published, and the member stands in it
  pub stands_after : (nodes : List Party) (r : Registry (RingIn Load)) (i version : ℕ) → StandAfter credit names events (parties nodes r []) → i < length nodes → MayLookAt r (node_at (parties nodes r []) i) version
  stands_after nodes r i version s l e = ((published, upto), (stands, reads))
    where
      q : Parties
      q = parties nodes r []

      w : World
      w = state credit names events

      g : IsLawfulAt credit w
      g = lawful_after credit names events s.journal

      inside : i < length q.nodes
      inside = shown_inside nodes i l

      h : MemberStands w s.stand.places (i + 1) (node_at q i)
      h = member_after credit names events q i s inside

      rs : StandsIn w r
      rs = registrar_stands credit.initial w nodes r [] s.stand.places s.stand.stand

      lt : i + 1 < size w
      lt = within_after credit names events q i s inside

      enabled : refused_as w (i + 1) (Reads version) ≡ None
      enabled = sym (subst (λ j. look_refused (newest_of q).version (node_at q j) version ≡ refused_as w (i + 1) (Reads version)) (place i) (look_refuses credit w q (i + 1) version g s.stand (omega arith) lt)) ∙ e

      may : MayLook w (i + 1) version
      may = refresh_may w (i + 1) version enabled lt

      same : view_at r.views version ≡ machine.view_in w version
      same = view_same w r version rs

      upto : version ≤ length r.views
      upto = omega (arith, may.upto, many_views w r rs)

      in_view : is_in (i + 1) (ids (machine.view_in w version)) ≡ true
      in_view = g.fit.good.inv.is_ring.stands (i + 1) version (ap runs_phase may.up) may.later may.upto

      published : 1 ≤ version
      published = from_one version in_view
        where
          from_one : (v : ℕ) → is_in (i + 1) (ids (machine.view_in w v)) ≡ true → 1 ≤ v
          from_one zero k = absurd (false≢true (ap (λ vs. is_in (i + 1) (ids (get_or vs 0 no_group))) (sym s.stand.stand.views) ∙ k))
          from_one (suc v) k = omega arith

      stands : is_in (node_at q i).held.id (ids (view_at r.views version)) ≡ true
      stands = ap (λ (k : Held). is_in k.id (ids (view_at r.views version))) h.held ∙ ap (λ (v : Group). is_in (i + 1) (ids v)) same ∙ in_view

      reads : refresh_refused (node_at q i).held (view_at r.views version).version ≡ None
      reads =
          up_later (node_at q i).held (refuse_if (cond (nat_lt version (node_at q i).held.view.version) true (nat_lt (newest r).version version)) (reason.ViewOutOfRange version (node_at q i).held.view.version (newest r).version))
          (refuse_if (nat_lt (view_at r.views version).version (node_at q i).held.view.version) (reason.ViewOutOfRange (view_at r.views version).version (node_at q i).held.view.version (node_at q i).held.view.version))
          e no_older
        where
          held_version : (node_at q i).held.view.version ≡ (member_at w (i + 1)).version
          held_version = ap (λ (k : Held). k.view.version) h.held ∙ view_version w (member_at w (i + 1)).version g.fit.good (g.fit.good.inv.is_ring.held (i + 1))

          read_version : (view_at r.views version).version ≡ version
          read_version = ap (λ (v : Group). v.version) same ∙ view_version w version g.fit.good may.upto

          no_older : refuse_if (nat_lt (view_at r.views version).version (node_at q i).held.view.version) (reason.ViewOutOfRange (view_at r.views version).version (node_at q i).held.view.version (node_at q i).held.view.version) ≡ None
          no_older = ap (λ b. refuse_if b (reason.ViewOutOfRange (view_at r.views version).version (node_at q i).held.view.version (node_at q i).held.view.version)) (le-ltb (view_at r.views version).version (node_at q i).held.view.version (omega (arith, held_version, read_version, may.later)))

  -- ---- what is handed over to the registrar

  last_of : (xs : List Deposit) (d e : Deposit) → get_or (xs ++ d ∷ []) (length xs) e ≡ d
  last_of [] d e = refl
  last_of (x ∷ xs) d e = last_of xs d e

  known_pending : (nodes : List Party) (r : Registry (RingIn Load)) (d : Deposit) → StandAfter credit names events (parties nodes r (d ∷ [])) → (is_known r d.name.from.0 ≡ true) × (is_known r d.name.to.0 ≡ true)
  known_pending nodes r d s =
      let n : ℕ = length (map deposit_shown r.links) in
      let both = knows_deposited credit.initial (state credit names events) nodes r (d ∷ []) s.stand.places n d (lawful_after credit names events s.journal).fit.good s.stand.stand (subst (λ k. n < k) (sym (length_push (map deposit_shown r.links) d)) (omega arith)) in
      let is : get_or (map deposit_shown r.links ++ d ∷ []) n d ≡ d = last_of (map deposit_shown r.links) d d in
      (sym (ap (λ (x : Deposit). is_known r x.name.from.0) is) ∙ both.0, sym (ap (λ (x : Deposit). is_known r x.name.to.0) is) ∙ both.1)

  -- and so of the one that waits before the registrar
  pub known_handed : (nodes : List Party) (r : Registry (RingIn Load)) (pending : Option PendingDeposit) (u : PendingDeposit) → pending ≡ Some u → StandAfter credit names events (parties nodes r (behind pending)) → (is_known r u.name.from.0 ≡ true) × (is_known r u.name.to.0 ≡ true)
  known_handed nodes r pending u e s = known_pending nodes r (record { name = u.name; end = Some (in_seen u.link) }) (subst (λ l. StandAfter credit names events (parties nodes r (behind l))) e s)

  sent_within : (nodes : List Party) (r : Registry (RingIn Load)) (d : Deposit) → StandAfter credit names events (parties nodes r (d ∷ [])) → (1 ≤ d.name.from.0) × (d.name.from.0 ≤ length nodes)
  sent_within nodes r d s =
      let w : World = state credit names events in
      let n : ℕ = length (map deposit_shown r.links) in
      let k = deposit_at credit.initial w (parties nodes r (d ∷ [])) s.stand.places n d s.stand.stand (subst (λ k. n < k) (sym (length_push (map deposit_shown r.links) d)) (omega arith)) in
      let at : ℕ = get_or s.stand.places.deposits n 0 in
      let from : d.name.from.0 ≡ (link_at w at).sender = ap (λ (x : Deposit). x.name.from.0) (sym (last_of (map deposit_shown r.links) d d) ∙ k.1) in
      let (low, high) = (go_after credit names events s.journal).sender at (s.stand.stand.within at (at_in s.stand.places.deposits n k.0)) in
      (omega (arith, from, low), omega (arith, from, high, s.stand.stand.count, length-map nodes shown_in))

  -- and its sender has a place among the members
  pub handed_within : (nodes : List Party) (r : Registry (RingIn Load)) (pending : Option PendingDeposit) (u : PendingDeposit) → pending ≡ Some u → StandAfter credit names events (parties nodes r (behind pending)) → (1 ≤ u.name.from.0) × (u.name.from.0 ≤ length nodes)
  handed_within nodes r pending u e s = sent_within nodes r (record { name = u.name; end = Some (in_seen u.link) }) (subst (λ l. StandAfter credit names events (parties nodes r (behind l))) e s)
