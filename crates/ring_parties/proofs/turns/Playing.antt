-- Parties that stood after a journal have played a round: they stand after it with what they did, and each has answered what it answered.
use Rattle.std.proofs.Common.{◌≡◌, ◌≢◌, ◌⊎◌, ⊎_elim, ℕ, ◌+◌, ◌*◌, ◌-◌, ◌<◌, ◌≤◌, ◌^◌, Bool, true, false, List, [], ◌∷◌, ◌++◌, length, map, get_or, Option, Some, None, refl, sym, ap, subst, ◌∙◌, arith}
use Rattle.std.specs.Prelude.{option_map, slice_get, suc}
use Rattle.std.specs.List.{All, sum_by}
use Rattle.std.proofs.lemmas.List.{length-map, length-append}
use Rattle.std.proofs.lemmas.Option.{slice_get_within, get_or_from_slice_get}
use Rattle.ring_names.specs.declared.numbers.CreditSpec.{CreditSpec}
use Rattle.ordered_link.specs.declared.ring.RingIn.{RingIn}
use Rattle.activity.specs.declared.packet.Load.{Load}
use Rattle.lamport_merge.specs.Merge.{Log, merged, events_of as all_of, AreLogs, PartiesDiffer}
use Rattle.ring_rules.specs.declared.event.Event.{Event}
use Rattle.ring_rules.specs.declared.event.Client.{Client}
use Rattle.ring_rules.specs.declared.phase.Phase.{Phase}
use Rattle.ring_rules.specs.declared.phase.Phase.TheVariants as phase
use Rattle.ring_rules.specs.Machine.{World, member_at, link_at}
use Rattle.ring_rules.specs.Step.{size}
use Rattle.ring_rules.specs.Event.{asked_of, by_of, id_of}
use Rattle.gm_member.specs.Held.{Held}
use Rattle.gm_member.specs.Shown.{held_of, ends_of, recorded_of, spare_of, out_name_of, in_name_of}
use Rattle.ring_parties.specs.declared.party.Party.{Party}
use Rattle.ring_parties.specs.Ends.{InSeen, Carries}
use Rattle.ring_parties.specs.Parties.{Shown, Parties, ends_seen, shown_of, shown_in, no_shown, keeps_in, in_seen, node_at}
use Rattle.ring_parties.specs.Keeps.{KeepsStand, keeps_at, no_keeps}
use Rattle.ring_parties.specs.States.{state}
use Rattle.ring_parties.specs.Standing.{MemberStands, StandAfter}
use Rattle.ring_parties.specs.Pairing.{IsAt, EachParty, MayMeetPairs, IsHeardIf, Meets}
use Rattle.ring_parties.specs.Turn.{MayTurn, events_by}
use Rattle.ring_parties.specs.Turns.{SameShown, Begun, TakesRound, TakesItsRound, HasTaken, HaveTaken, tasks_at, events_of, AreAskedOf, log_by}
use Rattle.ring_parties.specs.Acting.{IsReady, IsBooked}
use Rattle.ring_parties.specs.Played.{name_by, AreTasks, with_nodes, HavePlayed}
use Rattle.ring_parties.proofs.lists.Truth.{some_is}
use Rattle.ring_parties.proofs.standing.Placing.{GoBetween, current_has}
use Rattle.ring_parties.proofs.standing.Rings.{none_waiting}
use Rattle.ring_parties.proofs.events.After.{free_after, ready_after, booked_after}
use Rattle.ring_parties.proofs.work.Lawful.{IsLawfulAt, lawful_at}
use Rattle.ring_parties.proofs.work.Fresh.{reached_go}
use Rattle.ring_parties.proofs.turns.Beginning.{may_turn, may_meet_pairs, shown_still}
use Rattle.ring_parties.proofs.turns.Places.{party_at, made_at}
use Rattle.ring_parties.proofs.turns.Parting.{at_list, takes_part_by}
use Rattle.ring_parties.proofs.turns.Counting.{logs_differ, logs_few, merged_count}
use Rattle.ring_parties.proofs.turns.Resting.{rests_at}
use Rattle.ring_parties.proofs.turns.Sides.{BeginsRound, TakesPart, Outcome, outcome, logs, entries_are, entries_none, logs_told, id_last, turns_stand}
use Rattle.ring_parties.proofs.turns.Merging.{event_at, event_log, merge_told, are_told}
use Rattle.ring_parties.proofs.turns.Answering.{local_named, events_of_one, events_of_none}
use Rattle.ring_parties.proofs.rounds.Parts.{Each}
use Rattle.ring_parties.proofs.rounds.Merged.{member_or_not}
use Rattle.ring_parties.specs.Seated.{seat_of}
use Rattle.ring_parties.specs.Round.{Deed, entries_by, events_in}

-- ---- what a party shows

-- with the same that it holds, and the same ends
same_shown : (r r' : Party) → SameShown r r' → shown_of r'.node ≡ shown_of r.node
same_shown r r' s = ap (λ g. record { held = g; ends = ends_seen (ends_of r'.node) }) s.held ∙ ap (λ e. record { held = held_of r.node; ends = ends_seen e }) s.ends

-- lists of which each party has the same of something have the same of it
pub all_mapped : {X : Type 0} (f : Party → X) (ps qs : List Party) → EachParty (λ _ r r'. f r' ≡ f r) ps qs → map f qs ≡ map f ps
all_mapped f [] [] h = refl
all_mapped f [] (r ∷ qs) h = absurd (let e : length (r ∷ qs) ≡ 0 = h.count in omega (arith, e))
all_mapped f (r ∷ ps) [] h = absurd (let e : 0 ≡ length (r ∷ ps) = h.count in omega (arith, e))
all_mapped f (r ∷ ps) (r' ∷ qs) h =
    ap (λ x. x ∷ map f qs) (h.each 0 r r' refl refl)
    ∙ ap (λ xs. f r ∷ xs) (all_mapped f ps qs (record { count = (let e : suc (length qs) ≡ suc (length ps) = h.count in omega (arith, e)); each = λ i a b ia ib. h.each (suc i) a b ia ib }))

pub all_shown : (ps qs : List Party) → EachParty (λ _ r r'. SameShown r r') ps qs → map shown_in qs ≡ map shown_in ps
all_shown ps qs h = all_mapped shown_in ps qs (record { count = h.count; each = λ i r r' a b. same_shown r r' (h.each i r r' a b) })

pub all_keep : (ps qs : List Party) → EachParty (λ _ r r'. SameShown r r') ps qs → map keeps_in qs ≡ map keeps_in ps
all_keep ps qs h = all_mapped keeps_in ps qs (record { count = h.count; each = λ i r r' a b. (h.each i r r' a b).keeps })

pub all_named_still : (ps qs : List Party) → EachParty (λ _ r r'. SameShown r r') ps qs → map name_by qs ≡ map name_by ps
all_named_still ps qs h = all_mapped name_by ps qs (record { count = h.count; each = λ i r r' a b. ap (λ (g : Held). g.name) (h.each i r r' a b).held })

-- ---- the members of a cluster

module _ (credit : CreditSpec) (names : List (List ℕ)) (events : List Event) (others : Parties) (ps : List Party) (h : StandAfter credit names events (with_nodes others ps)) (keeps : KeepsStand (state credit names events) (map keeps_in ps)) where
  abbrev w : World
  w = state credit names events

  abbrev q : Parties
  q = with_nodes others ps

  lawful : IsLawfulAt credit w
  lawful = lawful_at credit names events h.journal.are h.journal.run

  go : GoBetween w
  go = reached_go credit names events h.journal.are h.journal.run

  shown_first : (i : ℕ) (r : Party) → IsAt ps i r → shown_of r.node ≡ node_at q i
  shown_first i r at = sym (made_at shown_in no_shown ps i r at)

  keeps_first : (i : ℕ) (r : Party) → IsAt ps i r → keeps_in r ≡ keeps_at (map keeps_in ps) i
  keeps_first i r at = sym (made_at keeps_in no_keeps ps i r at)

  -- ---- a round begins

  module _ (number turns : ℕ) (rs : List Party) (begun : EachParty (λ _ r r'. Begun number turns r r') ps rs) where
    was : (i : ℕ) (r : Party) → IsAt rs i r → (b : Party) × IsAt ps i b
    was i r at = party_at ps i (let l : i < length rs = slice_get_within rs i r at in omega (arith, l, begun.count))

    begins : (i : ℕ) (r : Party) (at : IsAt rs i r) → Begun number turns (was i r at).0 r
    begins i r at = begun.each i (was i r at).0 r (was i r at).1 at

    count : length rs ≡ length q.nodes
    count = begun.count ∙ sym (length-map ps shown_in)

    pub shown_begun : (i : ℕ) (r : Party) → IsAt rs i r → shown_of r.node ≡ node_at q i
    shown_begun i r at = same_shown (was i r at).0 r (begins i r at).same ∙ shown_first i (was i r at).0 (was i r at).1

    keeps_begun : (i : ℕ) (r : Party) → IsAt rs i r → keeps_in r ≡ keeps_at (map keeps_in ps) i
    keeps_begun i r at = (begins i r at).same.keeps ∙ keeps_first i (was i r at).0 (was i r at).1

    inside : (i : ℕ) (r : Party) → IsAt rs i r → i < length q.nodes
    inside i r at = let l : i < length rs = slice_get_within rs i r at in omega (arith, l, count)

    pub may_meet_begun : MayMeetPairs rs
    may_meet_begun = may_meet_pairs credit w q h.stand lawful go rs count shown_begun

    pub may_begun : (i : ℕ) (r : Party) → IsAt rs i r → (held_of r.node).phase ≡ phase.Up → MayTurn r
    may_begun i r at up =
        let s : node_at q i ≡ shown_of r.node = sym (shown_begun i r at) in
        may_turn r
        (subst IsReady s (ready_after credit names events q i h (inside i r at)))
        (subst (λ m. IsBooked m (keeps_in r)) s (subst (IsBooked (node_at q i)) (sym (keeps_begun i r at)) (booked_after credit names events q (map keeps_in ps) i h keeps (inside i r at))))
        (ap (λ (m : Shown). m.held.asks) (sym s) ∙ free_after credit names events q i h (inside i r at))
        up
        (ap (λ c. c.is_alone) (begins i r at).recorded)

    pub room_begun : (i : ℕ) (r : Party) → IsAt rs i r → turns ≤ spare_of r.node
    room_begun i r at = (begins i r at).room

    name_begun : (i : ℕ) (r : Party) (at : IsAt rs i r) → name_by r ≡ name_by (was i r at).0
    name_begun i r at = ap (λ (g : Held). g.name) (begins i r at).same.held

    pub tasks_begun : (tasks : List (List Client)) → AreAskedOf (map name_by ps) tasks → AreTasks rs tasks
    tasks_begun tasks are i r ts at there =
        let b = was i r at in
        let l : i < length (map name_by ps) = (let k : i < length ps = slice_get_within ps i b.0 b.1 in let m = length-map ps name_by in omega (arith, k, m)) in
        let name : get_or (map name_by ps) i [] ≡ name_by r = made_at name_by [] ps i b.0 b.1 ∙ sym (name_begun i r at) in
        subst (λ n. All (λ t. asked_of t ≡ n) ts) name (subst (All (λ t. asked_of t ≡ get_or (map name_by ps) i [])) (get_or_from_slice_get tasks i ts [] there) (are i l))

    -- ---- it was played

    module _ (tasks : List (List Client)) (done : List ℕ) (vs : List Party) (many : length tasks ≡ length ps) (as_many : length done ≡ length ps) (played : HavePlayed turns tasks done rs vs) where
      abbrev met : List Party
      met = played.met

      abbrev heard : List Party
      heard = played.heard

      abbrev turned : List Party
      turned = played.turned

      -- the party at a place before its ends met, once they had, and once it was seen who is heard
      at_rs : (i : ℕ) (r : Party) → IsAt heard i r → (b : Party) × IsAt rs i b
      at_rs i r at = party_at rs i (let l : i < length heard = slice_get_within heard i r at in omega (arith, l, played.hear.count, played.first.stay.count))

      at_met : (i : ℕ) (r : Party) → IsAt heard i r → (b : Party) × IsAt met i b
      at_met i r at = party_at met i (let l : i < length heard = slice_get_within heard i r at in omega (arith, l, played.hear.count))

      hears : (i : ℕ) (r : Party) (at : IsAt heard i r) → IsHeardIf met (at_met i r at).0 r
      hears i r at = played.hear.each i (at_met i r at).0 r (at_met i r at).1 at

      meets : (i : ℕ) (r : Party) (at : IsAt heard i r) → Meets (at_rs i r at).0 (at_met i r at).0
      meets i r at = played.first.stay.each i (at_rs i r at).0 (at_met i r at).0 (at_rs i r at).1 (at_met i r at).1

      -- the party heard at the place of one that has met
      at_heard : (j : ℕ) (b : Party) → IsAt met j b → (r : Party) × IsAt heard j r × (r.node ≡ b.node)
      at_heard j b at =
          let r = party_at heard j (let l : j < length met = slice_get_within met j b at in omega (arith, l, played.hear.count)) in
          (r.0, r.1, (played.hear.each j b r.0 at r.1).node)

      shown_heard : (i : ℕ) (r : Party) → IsAt heard i r → shown_of r.node ≡ node_at q i
      shown_heard i r at =
          ap shown_of (hears i r at).node
          ∙ shown_still credit w q h.stand lawful go rs count shown_begun met played.first i (at_met i r at).0 (at_met i r at).1

      recorded_heard : (i : ℕ) (r : Party) (at : IsAt heard i r) → recorded_of r.node ≡ recorded_of (at_rs i r at).0.node
      recorded_heard i r at = ap (λ c. recorded_of c) (hears i r at).node ∙ ap (λ c. c.recorded) (meets i r at).recorder

      late_heard : (i : ℕ) (r : Party) (n : RingIn Load) → IsAt heard i r → (ends_of r.node).link ≡ Some n → n.late ≡ None
      late_heard i r n at e = by_current (member_at w (i + 1)).current refl
        where
          lt : i + 1 < size w
          lt = (let l : i < length heard = slice_get_within heard i r at in omega (arith, l, played.hear.count, played.first.stay.count, count, h.stand.stand.count))

          stands : MemberStands w h.stand.places (i + 1) (node_at q i)
          stands = subst (λ k. MemberStands w h.stand.places (i + 1) (node_at q k)) (let e : i + 1 - 1 ≡ i = omega arith in e) (h.stand.stand.each (i + 1) (omega arith) lt)

          link : Some (in_seen n) ≡ (node_at q i).ends.link
          link = ap (option_map in_seen) (sym e) ∙ ap (λ (m : Shown). m.ends.link) (shown_heard i r at)

          by_current : (c : Option ℕ) → (member_at w (i + 1)).current ≡ c → n.late ≡ None
          by_current None k = absurd (some_none (link ∙ stands.link ∙ ap (option_map h.stand.places.ins) k))
            where
              some_none : {X : Type 0} {x : X} → Some x ≡ None → ⊥
              some_none k = cc
          by_current (Some s) k =
              let own = lawful.fit.own_ends.current (i + 1) s k in
              let c : Carries w credit.initial (link_at w s) (h.stand.places.outs s) (h.stand.places.ins s) = h.stand.stand.carry s own.0 (current_has w (i + 1) s lawful.fit.own_ends k) in
              let is : in_seen n ≡ h.stand.places.ins s = some_is (link ∙ stands.link ∙ ap (option_map h.stand.places.ins) k) in
              none_waiting n.late (ap (λ (z : InSeen). z.late) is ∙ c.late)

      pub begins_round : BeginsRound number q (map keeps_in ps) heard
      begins_round = record {
        count = played.hear.count ∙ played.first.stay.count ∙ count;
        shown = shown_heard;
        keeps = λ i r at. (hears i r at).keeps ∙ (meets i r at).keeps ∙ keeps_begun i (at_rs i r at).0 (at_rs i r at).1;
        round_is = λ i r at. ap (λ c. c.round) (recorded_heard i r at ∙ (begins i (at_rs i r at).0 (at_rs i r at).1).recorded);
        nothing = λ i r at. ap (λ c. c.entries) (recorded_heard i r at ∙ (begins i (at_rs i r at).0 (at_rs i r at).1).recorded);
        late = late_heard;
        met = λ i j a b o n ia jb pair eo en.
            let na = (hears i a ia).node in
            let nb = (hears j b jb).node in
            played.first.met i j (at_met i a ia).0 (at_met j b jb).0 o n (at_met i a ia).1 (at_met j b jb).1
            (pair.0, ap (λ c. out_name_of (held_of c)) (sym na) ∙ pair.1, ap (λ c. in_name_of (held_of c) 0) (sym nb) ∙ pair.2)
            (ap (λ c. (ends_of c).out) (sym na) ∙ eo) (ap (λ c. (ends_of c).link) (sym nb) ∙ en);
        marked = λ i r at m.
            let k = (hears i r at).heard m in
            let nr = (hears i r at).node in
            let to = played.first.marked i (at_met i r at).0 (at_met i r at).1 k.0 in
            let t = at_heard to.0 to.1 to.2 in
            let f = at_heard k.1.0 k.1.1 k.1.2 in (
              (to.0, t.0, t.1, (to.3.0, ap (λ c. out_name_of (held_of c)) nr ∙ to.3.1, ap (λ c. in_name_of (held_of c) 0) t.2 ∙ to.3.2)),
              (k.1.0, f.0, f.1, (k.1.3.0, ap (λ c. out_name_of (held_of c)) f.2 ∙ k.1.3.1, ap (λ c. in_name_of (held_of c) 0) nr ∙ k.1.3.2)),
            );
      }

      tasks_there : (i : ℕ) (r : Party) → IsAt heard i r → (ts : List Client) × (slice_get tasks i ≡ Some ts)
      tasks_there i r at = at_list tasks i (let l : i < length heard = slice_get_within heard i r at in omega (arith, l, played.hear.count, played.first.stay.count, begun.count, many))

      done_there : (i : ℕ) (r : Party) → IsAt heard i r → (d : ℕ) × (slice_get done i ≡ Some d)
      done_there i r at = at_list done i (let l : i < length heard = slice_get_within heard i r at in omega (arith, l, played.hear.count, played.first.stay.count, begun.count, as_many))

      its_round : (i : ℕ) (r r' : Party) (at : IsAt heard i r) → IsAt turned i r' → TakesItsRound turns (tasks_there i r at).0 (done_there i r at).0 r r'
      its_round i r r' at at' = played.turn.all.each i r r' at at' (tasks_there i r at).0 (done_there i r at).0 (tasks_there i r at).1 (done_there i r at).1

      pub takes_part : EachParty (λ _ r r'. TakesPart r r') heard turned
      takes_part = record {
        count = played.turn.all.count;
        each = λ i r r' at at'. takes_part_by turns (tasks_there i r at).0 (done_there i r at).0 r r' r.meets refl (held_of r.node).phase refl (its_round i r r' at at');
      }

      -- ---- what each has recorded

      -- the party at a place once its turns were taken, and before
      at_turned : (j : ℕ) (r : Party) → IsAt vs j r → (b : Party) × IsAt turned j b
      at_turned j r at = party_at turned j (let l : j < length vs = slice_get_within vs j r at in omega (arith, l, played.last.stay.count))

      before_turn : (j : ℕ) (r : Party) → IsAt turned j r → (b : Party) × IsAt heard j b
      before_turn j r at = party_at heard j (let l : j < length turned = slice_get_within turned j r at in omega (arith, l, played.turn.all.count))

      -- of a party its events in the round, and how it has answered by them
      pub record Answered (i : ℕ) (t : Party) : Type 0 where
        pub tasks_are : List Client
        pub tasks_at_place : slice_get tasks i ≡ Some tasks_are
        pub done_is : ℕ
        pub done_at_place : slice_get done i ≡ Some done_is
        pub taken : HasTaken turns tasks_are done_is (events_by t)

      nothing_heard : (i : ℕ) (r : Party) → IsAt heard i r → events_by r ≡ []
      nothing_heard i r at = ap (map (λ (e : ℕ × Event). e.1)) (begins_round.nothing i r at)

      answered_by : (i : ℕ) (r t : Party) (at : IsAt heard i r) (b : Bool) → r.meets ≡ b → (c : Phase) → (held_of r.node).phase ≡ c → TakesItsRound turns (tasks_there i r at).0 (done_there i r at).0 r t → HasTaken turns (tasks_there i r at).0 (done_there i r at).0 (events_by t)
      answered_by i r t at false unmarked c e h =
          let k = h.1 unmarked in
          subst (HasTaken turns (tasks_there i r at).0 (done_there i r at).0) (sym (ap events_by k.0 ∙ nothing_heard i r at))
          (subst (λ d. HasTaken turns (tasks_there i r at).0 d []) (sym k.1)
          (record { few = omega arith; within = omega arith; answers = refl; each = λ k d l. absurd (omega (arith, l)); begins = λ _. tt }))
      answered_by i r t at true marked phase.Up e h =
          let k : TakesRound turns (tasks_there i r at).0 (done_there i r at).0 r t = h.0 marked in
          subst (HasTaken turns (tasks_there i r at).0 (done_there i r at).0) (sym ((k.acted e).records ∙ ap (λ es. es ++ k.events) (nothing_heard i r at))) k.taken
      answered_by i r t at true marked phase.Waiting e h =
          let k : TakesRound turns (tasks_there i r at).0 (done_there i r at).0 r t = h.0 marked in
          let rests = k.rests (λ (u : (held_of r.node).phase ≡ phase.Up). (let f : phase.Waiting ≡ phase.Up = sym e ∙ u in cc)) in
          subst (HasTaken turns (tasks_there i r at).0 (done_there i r at).0) (rests.1 ∙ sym (ap events_by rests.0 ∙ nothing_heard i r at)) k.taken
      answered_by i r t at true marked phase.Stopped e h =
          let k : TakesRound turns (tasks_there i r at).0 (done_there i r at).0 r t = h.0 marked in
          let rests = k.rests (λ (u : (held_of r.node).phase ≡ phase.Up). (let f : phase.Stopped ≡ phase.Up = sym e ∙ u in cc)) in
          subst (HasTaken turns (tasks_there i r at).0 (done_there i r at).0) (rests.1 ∙ sym (ap events_by rests.0 ∙ nothing_heard i r at)) k.taken

      answered : (i : ℕ) (t : Party) → IsAt turned i t → Answered i t
      answered i t at =
          let r = before_turn i t at in
          record {
            tasks_are = (tasks_there i r.0 r.1).0;
            tasks_at_place = (tasks_there i r.0 r.1).1;
            done_is = (done_there i r.0 r.1).0;
            done_at_place = (done_there i r.0 r.1).1;
            taken = answered_by i r.0 t r.1 r.0.meets refl (held_of r.0.node).phase refl (its_round i r.0 t r.1 at);
          }

      -- no log has more entries than there was room for
      few_entries : (j : ℕ) (r : Party) → IsAt vs j r → length (recorded_of r.node).entries ≤ turns
      few_entries j r at =
          let t = at_turned j r at in
          let a : Answered j t.0 = answered j t.0 t.1 in
          let same : (recorded_of r.node).entries ≡ (recorded_of t.0.node).entries = ap (λ c. c.recorded.entries) (played.last.stay.each j t.0 r t.1 at).recorder in
          let many : length (events_by t.0) ≡ length (recorded_of t.0.node).entries = length-map (recorded_of t.0.node).entries (λ (e : ℕ × Event). e.1) in
          omega (arith, a.taken.few, many, ap length same)

      pub room_for_all : sum_by (λ (l : Log Event). length l.entries) (map log_by vs) ≤ length ps * turns
      room_for_all =
          let few : sum_by (λ (l : Log Event). length l.entries) (map log_by vs) ≤ length vs * turns = logs_few turns vs few_entries in
          let many : length vs ≡ length ps = played.last.stay.count ∙ played.turn.all.count ∙ played.hear.count ∙ played.first.stay.count ∙ begun.count in
          subst (λ n. sum_by (λ (l : Log Event). length l.entries) (map log_by vs) ≤ n * turns) many few

      pub parties_differ : PartiesDiffer (map log_by vs)
      parties_differ = logs_differ 1 vs (id_last credit.initial w q (map keeps_in ps) h.stand keeps lawful.fit.good lawful.fit.own_ends go number heard turned vs rests_at begins_round takes_part played.last)

      -- ---- they stand after it

      module _ (are : AreLogs (map log_by vs)) (few : length (events ++ all_of (merged (map log_by vs))) < 2 ^ 59) where
        pub stand_after : StandAfter credit names (events ++ all_of (merged (map log_by vs))) (with_nodes others vs) × KeepsStand (state credit names (events ++ all_of (merged (map log_by vs)))) (map keeps_in vs)
        stand_after = turns_stand credit names events q (map keeps_in ps) h keeps number heard turned vs rests_at begins_round takes_part played.last are few

      -- ---- what each has answered

      -- the name of the member of an id; beyond them of nobody
      abbrev named : ℕ → List ℕ
      named x = (member_at w x).name

      abbrev all_logs : List (Log Deed)
      all_logs = logs credit.initial w q (map keeps_in ps) h.stand keeps lawful.fit.good lawful.fit.own_ends go number heard turned vs rests_at begins_round takes_part played.last

      told : map log_by vs ≡ map event_log all_logs
      told = logs_told credit.initial w q (map keeps_in ps) h.stand keeps lawful.fit.good lawful.fit.own_ends go number heard turned vs rests_at begins_round takes_part played.last

      abbrev came : (x : ℕ) → Outcome credit.initial w q (map keeps_in ps) h.stand keeps lawful.fit.good lawful.fit.own_ends go number heard turned vs rests_at begins_round takes_part played.last x
      came x = outcome credit.initial w q (map keeps_in ps) h.stand keeps lawful.fit.good lawful.fit.own_ends go number heard turned vs rests_at begins_round takes_part played.last x

      entries_of_one : (x : ℕ) → 1 ≤ x → x < size w → entries_by x all_logs ≡ (came x).entries
      entries_of_one x some lt = entries_are credit.initial w q (map keeps_in ps) h.stand keeps lawful.fit.good lawful.fit.own_ends go number heard turned vs rests_at begins_round takes_part played.last x some lt

      entries_of_none : (x : ℕ) → (x < 1) ⊎ (size w ≤ x) → entries_by x all_logs ≡ []
      entries_of_none x out = entries_none credit.initial w q (map keeps_in ps) h.stand keeps lawful.fit.good lawful.fit.own_ends go number heard turned vs rests_at begins_round takes_part played.last x out

      -- the parties at the place of a member
      party_heard : (x : ℕ) → 1 ≤ x → x < size w → (r : Party) × IsAt heard (x - 1) r
      party_heard x some lt = party_at heard (x - 1) (omega (arith, some, lt, h.stand.stand.count, count, played.first.stay.count, played.hear.count))

      party_turned : (x : ℕ) → 1 ≤ x → x < size w → (r : Party) × IsAt turned (x - 1) r
      party_turned x some lt = party_at turned (x - 1) (omega (arith, some, lt, h.stand.stand.count, count, played.first.stay.count, played.hear.count, played.turn.all.count))

      -- the name in its seat
      seat_name : (x : ℕ) → 1 ≤ x → x < size w → (seat_of w q (map keeps_in ps) x).held.name ≡ named x
      seat_name x some lt = ap (λ (g : Held). g.name) (h.stand.stand.each x some lt).held

      all_named : (x : ℕ) → Each (λ e. by_of e.1.event ≡ named x) (entries_by x all_logs)
      all_named x = ⊎_elim
          (λ (k : (1 ≤ x) × (x < size w)).
          let r = party_heard x k.0 k.1 in
          let t = party_turned x k.0 k.1 in
          subst (Each (λ e. by_of e.1.event ≡ named x)) (sym (entries_of_one x k.0 k.1))
          (local_named (came x).entries (seat_of w q (map keeps_in ps) x) (came x).seat (named x) (seat_name x k.0 k.1) ((came x).turned r.0 t.0 k.0 k.1 r.1 t.1).run))
          (λ (k : (x < 1) ⊎ (size w ≤ x)). subst (Each (λ e. by_of e.1.event ≡ named x)) (sym (entries_of_none x k)) tt)
          (member_or_not (size w) x)

      -- who has an entry is a member
      member_if : (x : ℕ) → entries_by x all_logs ≢ [] → (1 ≤ x) × (x < size w)
      member_if x has = ⊎_elim
          (λ (k : (1 ≤ x) × (x < size w)). k)
          (λ (k : (x < 1) ⊎ (size w ≤ x)). absurd (has (entries_of_none x k)))
          (member_or_not (size w) x)

      -- no two members have one name
      just_named : (x y : ℕ) → 1 ≤ x → x < size w → 1 ≤ y → y < size w → named y ≡ named x → y ≡ x
      just_named x y some lt some' lt' e = some_is (sym (lawful.fit.named y some' lt') ∙ ap (id_of w) e ∙ lawful.fit.named x some lt)

      -- the name at a place
      name_at_place : (i : ℕ) → i < length (map name_by ps) → get_or (map name_by ps) i [] ≡ named (i + 1)
      name_at_place i l =
          let lp : i < length ps = (let m = length-map ps name_by in omega (arith, l, m)) in
          let r = party_at ps i lp in
          let lt : i + 1 < size w = (let m = length-map ps shown_in in omega (arith, lp, m, h.stand.stand.count)) in
          let back : i + 1 - 1 ≡ i = omega arith in
          made_at name_by [] ps i r.0 r.1 ∙ ap (λ (m : Shown). m.held.name) (shown_first i r.0 r.1) ∙ ap (λ k. (node_at q k).held.name) (sym back)
          ∙ ap (λ (g : Held). g.name) (h.stand.stand.each (i + 1) (omega arith) lt).held

      module _ (are : AreLogs (map log_by vs)) where
        these : AreLogs all_logs
        these = are_told all_logs (subst AreLogs told are)

        more_is : all_of (merged (map log_by vs)) ≡ events_in (merged all_logs)
        more_is = ap (λ ls. all_of (merged ls)) told ∙ merge_told all_logs

        own_is : (x : ℕ) (some : 1 ≤ x) (lt : x < size w) → events_of (named x) (all_of (merged (map log_by vs))) ≡ events_by (party_turned x some lt).0
        own_is x some lt =
            let r = party_heard x some lt in
            let t = party_turned x some lt in
            let turn = (came x).turned r.0 t.0 some lt r.1 t.1 in
            ap (events_of (named x)) more_is
            ∙ events_of_one named all_logs these all_named x (λ p has e. let k = member_if p has in just_named x p some lt k.0 k.1 e)
            ∙ ap (map (λ (e : ℕ × Deed). e.1.event)) (entries_of_one x some lt)
            ∙ sym (event_parts (came x).entries)
            ∙ ap (map (λ (e : ℕ × Event). e.1)) (sym (turn.recorded ∙ ap (λ es. es ++ map event_at (came x).entries) (begins_round.nothing (x - 1) r.0 r.1)))
          where
            event_parts : (es : List (ℕ × Deed)) → map (λ (e : ℕ × Event). e.1) (map event_at es) ≡ map (λ (e : ℕ × Deed). e.1.event) es
            event_parts [] = refl
            event_parts (e ∷ es) = ap (λ xs. e.1.event ∷ xs) (event_parts es)

        pub have_taken : HaveTaken turns (map name_by ps) tasks done (all_of (merged (map log_by vs)))
        have_taken = record {
          count = as_many ∙ sym (length-map ps name_by);
          each = λ i l.
              let lp : i < length ps = (let m = length-map ps name_by in omega (arith, l, m)) in
              let some : 1 ≤ i + 1 = omega arith in
              let lt : i + 1 < size w = (let m = length-map ps shown_in in omega (arith, lp, m, h.stand.stand.count)) in
              let back : i + 1 - 1 ≡ i = omega arith in
              let t = party_turned (i + 1) some lt in
              let a : Answered i t.0 = answered i t.0 (subst (λ k. IsAt turned k t.0) back t.1) in
              let events_are : events_by t.0 ≡ events_of (get_or (map name_by ps) i []) (all_of (merged (map log_by vs))) = sym (own_is (i + 1) some lt) ∙ ap (λ n. events_of n (all_of (merged (map log_by vs)))) (sym (name_at_place i l)) in
              subst (HasTaken turns (tasks_at tasks i) (get_or done i 0)) events_are
              (subst (λ d. HasTaken turns (tasks_at tasks i) d (events_by t.0)) (sym (get_or_from_slice_get done i a.done_is 0 a.done_at_place))
              (subst (λ ts. HasTaken turns ts a.done_is (events_by t.0)) (sym (get_or_from_slice_get tasks i a.tasks_are [] a.tasks_at_place)) a.taken));
          nobody_else = λ name others_named.
              ap (events_of name) more_is
              ∙ events_of_none named all_logs these all_named name (λ x has e.
              let k = member_if x has in
              let m = length-map ps shown_in in
              let n = length-map ps name_by in
              let l : x - 1 < length (map name_by ps) = omega (arith, k.0, k.1, m, n, h.stand.stand.count) in
              others_named (x - 1) l (name_at_place (x - 1) l ∙ ap named (let b : x - 1 + 1 ≡ x = omega (arith, k.0) in b) ∙ e));
        }

      -- each has its name still
      name_last : (i : ℕ) (p v : Party) → IsAt ps i p → IsAt vs i v → name_by v ≡ name_by p
      name_last i p v ip iv =
          let lp : i < length ps = slice_get_within ps i p ip in
          let some : 1 ≤ i + 1 = omega arith in
          let lt : i + 1 < size w = (let m = length-map ps shown_in in omega (arith, lp, m, h.stand.stand.count)) in
          let back : i + 1 - 1 ≡ i = omega arith in
          let r = party_heard (i + 1) some lt in
          let t = party_turned (i + 1) some lt in
          let turn = (came (i + 1)).turned r.0 t.0 some lt r.1 t.1 in
          let l : i < length (map name_by ps) = (let m = length-map ps name_by in omega (arith, lp, m)) in
          ap (λ (g : Held). g.name) (played.last.stay.each i t.0 v (subst (λ k. IsAt turned k t.0) back t.1) iv).held
          ∙ ap (λ (g : Held). g.name) (sym turn.sits.held) ∙ turn.names.name ∙ seat_name (i + 1) some lt
          ∙ sym (name_at_place i l) ∙ made_at name_by [] ps i p ip

      pub names_last : map name_by vs ≡ map name_by ps
      names_last = all_mapped name_by ps vs (record { count = played.last.stay.count ∙ played.turn.all.count ∙ played.hear.count ∙ played.first.stay.count ∙ begun.count; each = name_last })

      -- there are no more events than there was room for
      pub few_in_all : length events + length ps * turns < 2 ^ 59 → length (events ++ all_of (merged (map log_by vs))) < 2 ^ 59
      few_in_all few =
          let both : length (events ++ all_of (merged (map log_by vs))) ≡ length events + length (all_of (merged (map log_by vs))) = length-append events (all_of (merged (map log_by vs))) in
          room_by (length events) (length ps * turns) (length (all_of (merged (map log_by vs)))) (length (events ++ all_of (merged (map log_by vs)))) both
          (subst (λ n. n ≤ length ps * turns) (sym (merged_count (map log_by vs))) room_for_all) few
        where
          room_by : (a m b n : ℕ) → n ≡ a + b → b ≤ m → a + m < 2 ^ 59 → n < 2 ^ 59
          room_by a m b n e l k = omega (arith, e, l, k)
