-- Parties that stand in a state take their turns side by side between two meetings of their ends: what each has done, and what passed each link.
use Rattle.std.proofs.Common.{◌≡◌, ◌≢◌, ◌⊎◌, ⊎_elim, inl, inr, ℕ, zero, suc, ◌+◌, ◌-◌, ◌<◌, ◌≤◌, Bool, true, false, cond, nat_eq, List, [], ◌∷◌, ◌++◌, length, map, get_or, Option, Some, None, is_some, refl, sym, ap, subst, ◌∙◌, arith, ◌^◌, nat_lt, append-nil}
use Rattle.std.specs.Prelude.{option_map, ◌&&◌, ◌||◌}
use Rattle.std.specs.List.{slice_get}
use Rattle.std.proofs.lemmas.Option.{slice_get_within}
use Rattle.std.proofs.lemmas.Bool.{false≢true, cases_lt, cases_eq, eq-eqb, ne_eqb, and_parts, ltb-true}
use Rattle.group_view.proofs.Rings.{nat_eq-same}
use Rattle.rtrb.specs.Ring.{sent, received as got, known_items}
use Rattle.ordered_link.specs.declared.grant.Grant.{Grant}
use Rattle.ordered_link.specs.declared.item.Item.{Item}
use Rattle.ordered_link.specs.declared.ring.RingOut.{RingOut}
use Rattle.ordered_link.specs.declared.ring.RingIn.{RingIn}
use Rattle.ordered_link.specs.RingSteps.{RingsHaveMet, OutStays, InStays}
use Rattle.activity.specs.declared.packet.Load.{Load}
use Rattle.lamport_merge.specs.Merge.{Log, AreLogs, merged, events_of}
use Rattle.ring_rules.specs.declared.phase.Phase.TheVariants.{Up}
use Rattle.ring_rules.specs.Machine.{World, member_at, link_at}
use Rattle.ring_rules.specs.OpenLinks.{is_place}
use Rattle.ring_rules.specs.Step.{size}
use Rattle.ring_rules.proofs.invariants.Happens.{IsGood}
use Rattle.ring_rules.proofs.walks.OpenWalk.{place_is}
use Rattle.ring_rules.proofs.work.OwnEnds.{OwnEnds}
use Rattle.gm_member.specs.Held.{Held, Outgoing, at_some}
use Rattle.gm_member.specs.View.{ring_link}
use Rattle.gm_member.specs.Shown.{held_of, ends_of, recorded_of, out_name_of, in_name_of, Ends}
use Rattle.gm_member.specs.Stands.{waits_for, held_in, incoming_in, outgoing_in}
use Rattle.ring_parties.specs.declared.party.Party.{Party}
use Rattle.ring_parties.specs.Ends.{PacketShown, OutSeen, InSeen, Carries, HaveMet, items_in}
use Rattle.ring_parties.specs.Parties.{amount_of, Shown, Keeps, Parties, shown_of, keeps_in, out_seen, in_seen, node_at, ends_seen, shown_in, no_shown}
use Rattle.ring_parties.specs.Keeps.{KeepsStand, keeps_at, no_keeps}
use Rattle.ring_parties.specs.Standing.{Places, MemberStands, Stand, name_of, has_out, has_in, StandAfter, HaveDone}
use Rattle.ring_parties.specs.RoundActs.{Stamped, things, puts, takes, early}
use Rattle.ring_parties.specs.Round.{Seat, Deed, IsLocalRun, items_at, grants_at, entries_by, Configuration, events_in}
use Rattle.ring_parties.specs.Seated.{seat_of, has_in_at, items_known, grants_known, IsSeated}
use Rattle.ring_parties.specs.Closed.{put_on, given_on, ShowsSeat, may_take, has_end, LinkCloses, TookTurnsByEnds, HasClosed}
use Rattle.ring_parties.specs.Pairing.{IsAt, EachParty, ArePaired, SendsApart, TakesApart, OutMeets, InMeets, HaveMetPairs}
use Rattle.ring_parties.specs.Turn.{timed_items, timed_grants, OutPasses, InPasses, OutsPass, InsPass, round_of, SitsAt, Turned, TakesTurns}
use Rattle.ring_parties.proofs.lists.Truth.{or_nothing, some_is, made_some, from_map, from_none}
use Rattle.ring_parties.proofs.standing.Placing.{GoBetween, current_has, name_is_unique, name_stands, stands_named, stood_is, deposit_is}
use Rattle.ring_parties.proofs.turns.Balance.{OutKept, out_kept, InKept, in_kept, nothing_passed, things_items, things_grants, items_pass, grants_pass}
use Rattle.ring_parties.proofs.turns.Merging.{event_at, event_log, merge_told, are_told}
use Rattle.ring_parties.proofs.turns.Places.{party_at, just_one, made_at}
use Rattle.std.proofs.lemmas.List.{length-map}
use Rattle.ring_names.specs.declared.numbers.CreditSpec.{CreditSpec}
use Rattle.ring_rules.specs.declared.event.Event.{Event}
use Rattle.ring_rules.specs.Event.{is_stopped}
use Rattle.ring_parties.specs.States.{state}
use Rattle.ring_parties.specs.Turns.{log_by}
use Rattle.ring_parties.proofs.standing.Showing.{current_not_waits}
use Rattle.ring_parties.proofs.standing.Rings.{met_seen}
use Rattle.ring_parties.proofs.standing.Writing.{map_agree}
use Rattle.ring_parties.proofs.work.Lawful.{IsLawfulAt, lawful_at}
use Rattle.ring_parties.proofs.work.Fresh.{reached_go}
use Rattle.ring_parties.proofs.rounds.Acts.{things-early}
use Rattle.ring_parties.proofs.rounds.Seated.{there_at, seat_door}
use Rattle.ring_parties.proofs.rounds.Closed.{round_stands}

-- ---- what is given

-- A round of a number begins for parties that show and keep this: each has recorded nothing, and the ends of each link have met that
-- goes from one to another; and whoever may take turns has the ends of two such links.
pub record BeginsRound (round : ℕ) (q : Parties) (ks : List Keeps) (ps : List Party) : Type 0 where
  pub count : length ps ≡ length q.nodes
  pub shown : (i : ℕ) (p : Party) → IsAt ps i p → shown_of p.node ≡ node_at q i
  pub keeps : (i : ℕ) (p : Party) → IsAt ps i p → keeps_in p ≡ keeps_at ks i
  pub round_is : (i : ℕ) (p : Party) → IsAt ps i p → round_of p ≡ round
  pub nothing : (i : ℕ) (p : Party) → IsAt ps i p → (recorded_of p.node).entries ≡ []
  pub late : (i : ℕ) (p : Party) (n : RingIn Load) → IsAt ps i p → (ends_of p.node).link ≡ Some n → n.late ≡ None
  pub met : (i j : ℕ) (p r : Party) (o : RingOut Load) (n : RingIn Load) → IsAt ps i p → IsAt ps j r → ArePaired p r → (ends_of p.node).out ≡ Some o → (ends_of r.node).link ≡ Some n → RingsHaveMet o n
  pub marked : (i : ℕ) (p : Party) → IsAt ps i p → p.meets ≡ true → ((j : ℕ) × (r : Party) × IsAt ps j r × ArePaired p r) × ((j : ℕ) × (r : Party) × IsAt ps j r × ArePaired r p)

-- a party rests, or takes turns and is up before and after them
abbrev pub TakesPart : Party → Party → Type 0
TakesPart p p' = (p' ≡ p) ⊎ ((p.meets ≡ true) × ((held_of p.node).phase ≡ Up) × ((held_of p'.node).phase ≡ Up) × TakesTurns p p')

-- who sits at a seat and rests has come nowhere
abbrev pub RestsAt : Type 0
RestsAt = (round : ℕ) (a : Seat) (p : Party) → SitsAt a p → ((n : RingIn Load) → (ends_of p.node).link ≡ Some n → n.late ≡ None) → Turned round a a [] p p

-- the places of names are the same
some_none : {X : Type 0} {x : X} {o : Option X} → o ≡ Some x → o ≡ None → ⊥
some_none a b = cc

-- the other end of what passed an end that is there
outs_there : (round : ℕ) (put : List (Stamped (Option PacketShown))) (gained : List (Stamped ℕ)) (a b : Option (RingOut Load)) (o : RingOut Load) → a ≡ Some o → OutsPass round put gained a b → (o' : RingOut Load) × (b ≡ Some o') × OutPasses round put gained o o'
outs_there round put gained a b o e h = subst (λ x. OutsPass round put gained x b) e h

ins_there : (round : ℕ) (taken : List (Stamped (Option PacketShown))) (given : List (Stamped ℕ)) (a b : Option (RingIn Load)) (n : RingIn Load) → a ≡ Some n → InsPass round taken given a b → (n' : RingIn Load) × (b ≡ Some n') × InPasses round taken given n n'
ins_there round taken given a b n e h = subst (λ x. InsPass round taken given x b) e h

pub outs_none : (round : ℕ) (put : List (Stamped (Option PacketShown))) (gained : List (Stamped ℕ)) (a b : Option (RingOut Load)) → a ≡ None → OutsPass round put gained a b → b ≡ None
outs_none round put gained a b e h = (subst (λ x. OutsPass round put gained x b) e h).0

pub ins_none : (round : ℕ) (taken : List (Stamped (Option PacketShown))) (given : List (Stamped ℕ)) (a b : Option (RingIn Load)) → a ≡ None → InsPass round taken given a b → b ≡ None
ins_none round taken given a b e h = (subst (λ x. InsPass round taken given x b) e h).0

out_meets : (a b : Option (RingOut Load)) (o : RingOut Load) → a ≡ Some o → OutMeets a b → (o' : RingOut Load) × (b ≡ Some o') × ((o' ≡ o) ⊎ OutStays o o')
out_meets a b o e h = subst (λ x. OutMeets x b) e h

in_meets : (a b : Option (RingIn Load)) (n : RingIn Load) → a ≡ Some n → InMeets a b → (n' : RingIn Load) × (b ≡ Some n') × ((n' ≡ n) ⊎ InStays n n')
in_meets a b n e h = subst (λ x. InMeets x b) e h

pub out_meets_none : (a b : Option (RingOut Load)) → a ≡ None → OutMeets a b → b ≡ None
out_meets_none a b e h = subst (λ x. OutMeets x b) e h

pub in_meets_none : (a b : Option (RingIn Load)) → a ≡ None → InMeets a b → b ≡ None
in_meets_none a b e h = subst (λ x. InMeets x b) e h

-- ---- ends by the places of members

-- the items that the end knows from which a party takes, and the grants that the one knows on which it sends
abbrev link_known : Option Party → List (Item Load)
link_known None = []
link_known (Some r) = at_some (ends_of r.node).link [] (λ n. known_items n.items)

abbrev back_known : Option Party → List Grant
back_known None = []
back_known (Some r) = at_some (ends_of r.node).out [] (λ o. known_items o.back)

link_known_is : (o : Option Party) (r : Party) (n : RingIn Load) → o ≡ Some r → (ends_of r.node).link ≡ Some n → link_known o ≡ known_items n.items
link_known_is o r n at e = ap link_known at ∙ ap (λ c. at_some c [] (λ (k : RingIn Load). known_items k.items)) e

back_known_is : (o : Option Party) (r : Party) (e : RingOut Load) → o ≡ Some r → (ends_of r.node).out ≡ Some e → back_known o ≡ known_items e.back
back_known_is o r e at is = ap back_known at ∙ ap (λ c. at_some c [] (λ (k : RingOut Load). known_items k.back)) is

-- what the ends of a party show, where they are there
abbrev out_shown : Option Party → OutSeen → OutSeen
out_shown None d = d
out_shown (Some r) d = at_some (ends_of r.node).out d out_seen

abbrev in_shown : Option Party → InSeen → InSeen
in_shown None d = d
in_shown (Some r) d = at_some (ends_of r.node).link d in_seen

out_shown_is : (o : Option Party) (d : OutSeen) (r : Party) (e : RingOut Load) → o ≡ Some r → (ends_of r.node).out ≡ Some e → out_shown o d ≡ out_seen e
out_shown_is o d r e at is = ap (λ c. out_shown c d) at ∙ ap (λ c. at_some c d out_seen) is

in_shown_is : (o : Option Party) (d : InSeen) (r : Party) (n : RingIn Load) → o ≡ Some r → (ends_of r.node).link ≡ Some n → in_shown o d ≡ in_seen n
in_shown_is o d r n at is = ap (λ c. in_shown c d) at ∙ ap (λ c. at_some c d in_seen) is

-- ---- the parties of a round

module _ (initial : ℕ) (w : World) (q : Parties) (ks : List Keeps) (st : Stand initial w q) (keeps : KeepsStand w ks) (good : IsGood w) (own : OwnEnds w) (go : GoBetween w)
    (round : ℕ) (ps rs vs : List Party) (rest : RestsAt) (begins : BeginsRound round q ks ps) (turns : EachParty (λ _ p p'. TakesPart p p') ps rs) (met : HaveMetPairs rs vs) where
  abbrev p : Places
  p = st.places

  -- a member, before its turns, after them, and once its ends have met
  pub record Member (x : ℕ) : Type 0 where
    pub first : Party
    pub at_first : IsAt ps (x - 1) first
    pub second : Party
    pub at_second : IsAt rs (x - 1) second
    pub last : Party
    pub at_last : IsAt vs (x - 1) last

  pub member : (x : ℕ) → 1 ≤ x → x < size w → Member x
  member x some lt =
      let l : x - 1 < length ps = omega (arith, some, lt, st.stand.count, begins.count) in
      let a = party_at ps (x - 1) l in
      let b = party_at rs (x - 1) (omega (arith, l, turns.count)) in
      let c = party_at vs (x - 1) (omega (arith, l, turns.count, met.stay.count)) in
      record { first = a.0; at_first = a.1; second = b.0; at_second = b.1; last = c.0; at_last = c.1 }

  -- ---- what it has done

  pub sits : (x : ℕ) → 1 ≤ x → x < size w → (r : Party) → IsAt ps (x - 1) r → SitsAt (seat_of w q ks x) r
  sits x some lt r at =
      let h : MemberStands w p x (node_at q (x - 1)) = st.stand.each x some lt in
      let shown : shown_of r.node ≡ node_at q (x - 1) = begins.shown (x - 1) r at in
      let held : held_of r.node ≡ record (held_in w x) { door = map (incoming_in w) h.door } = ap (λ (m : Shown). m.held) shown ∙ h.held in
      record {
        held = sym (ap (λ (m : Shown). m.held) shown);
        keeps = sym (begins.keeps (x - 1) r at);
        out = sym (ap (λ (g : Held). is_some g.out) held ∙ made_some (outgoing_in w) (member_at w x).out);
        current = sym (ap (λ (g : Held). is_some g.current) held ∙ made_some (incoming_in w) (member_at w x).current);
      }

  -- where it has come, and by which entries of its log
  pub record Outcome (x : ℕ) : Type 0 where
    pub seat : Seat
    pub entries : List (ℕ × Deed)
    pub turned : (r r' : Party) → 1 ≤ x → x < size w → IsAt ps (x - 1) r → IsAt rs (x - 1) r' → Turned round (seat_of w q ks x) seat entries r r'
    pub rests : (r r' : Party) → 1 ≤ x → x < size w → IsAt ps (x - 1) r → IsAt rs (x - 1) r' → (r' ≡ r) ⊎ (r.meets ≡ true)
    pub phase : 1 ≤ x → x < size w → seat.held.phase ≡ (seat_of w q ks x).held.phase

  turned_by : (x : ℕ) (some : 1 ≤ x) (lt : x < size w) (m : Member x) → TakesPart m.first m.second → Outcome x
  turned_by x some lt m h = ⊎_elim
      (λ (e : m.second ≡ m.first).
      let t : Turned round (seat_of w q ks x) (seat_of w q ks x) [] m.first m.first = rest round (seat_of w q ks x) m.first (sits x some lt m.first m.at_first) (λ n. begins.late (x - 1) m.first n m.at_first) in
      record {
        seat = seat_of w q ks x;
        entries = [];
        turned = λ r r' _ _ a b. subst (λ z. Turned round (seat_of w q ks x) (seat_of w q ks x) [] z r') (sym (just_one ps (x - 1) m.first r m.at_first a))
            (subst (λ z. Turned round (seat_of w q ks x) (seat_of w q ks x) [] m.first z) (sym (just_one rs (x - 1) m.second r' m.at_second b ∙ e)) t);
        rests = λ r r' _ _ a b. inl (just_one rs (x - 1) m.second r' m.at_second b ∙ e ∙ sym (just_one ps (x - 1) m.first r m.at_first a));
        phase = λ _ _. refl;
      })
      (λ (k : (m.first.meets ≡ true) × ((held_of m.first.node).phase ≡ Up) × ((held_of m.second.node).phase ≡ Up) × TakesTurns m.first m.second).
      let t = k.3 (seat_of w q ks x) (sits x some lt m.first m.at_first) in
      let is : Turned round (seat_of w q ks x) t.0 t.1 m.first m.second = subst (λ n. Turned n (seat_of w q ks x) t.0 t.1 m.first m.second) (begins.round_is (x - 1) m.first m.at_first) t.2 in
      record {
        seat = t.0;
        entries = t.1;
        turned = λ r r' _ _ a b. subst (λ z. Turned round (seat_of w q ks x) t.0 t.1 z r') (sym (just_one ps (x - 1) m.first r m.at_first a))
            (subst (λ z. Turned round (seat_of w q ks x) t.0 t.1 m.first z) (sym (just_one rs (x - 1) m.second r' m.at_second b)) is);
        rests = λ r r' _ _ a b. inr (ap (λ (z : Party). z.meets) (just_one ps (x - 1) m.first r m.at_first a) ∙ k.0);
        phase = λ _ _. ap (λ (g : Held). g.phase) is.sits.held ∙ k.2 ∙ sym (k.1) ∙ ap (λ (g : Held). g.phase) (sym (sits x some lt m.first m.at_first).held);
      })
      h

  pub outcome : (x : ℕ) → Outcome x
  outcome x = ⊎_elim
      (λ (none : x < 1). record {
        seat = seat_of w q ks x;
        entries = [];
        turned = λ r r' some lt _ _. absurd (omega (arith, none, some));
        rests = λ r r' some lt _ _. absurd (omega (arith, none, some));
        phase = λ _ _. refl;
      })
      (λ (some : 1 ≤ x). ⊎_elim
      (λ (lt : x < size w). let m : Member x = member x some lt in turned_by x some lt m (turns.each (x - 1) m.first m.second m.at_first m.at_second))
      (λ (ge : size w ≤ x). record {
        seat = seat_of w q ks x;
        entries = [];
        turned = λ r r' some lt _ _. absurd (omega (arith, ge, lt));
        rests = λ r r' some lt _ _. absurd (omega (arith, ge, lt));
        phase = λ _ _. refl;
      })
      (cases_lt x (size w)))
      (cases_lt x 1)

  -- ---- the logs

  abbrev pub log_at : ℕ → Log Deed
  log_at x = record { party = x; entries = (outcome x).entries }

  -- those of members of so many ids, from this one on
  abbrev pub logs_from : ℕ → ℕ → List (Log Deed)
  logs_from x zero = []
  logs_from x (suc n) = log_at x ∷ logs_from (x + 1) n

  abbrev pub logs : List (Log Deed)
  logs = logs_from 1 (length ps)

  entries_before : (k n x : ℕ) → x < k → entries_by x (logs_from k n) ≡ []
  entries_before k zero x l = refl
  entries_before k (suc n) x l =
      let apart : k ≢ x = λ e. (let f : k ≡ x = e in omega (arith, f, l)) in
      ap (λ b. cond b (outcome k).entries (entries_by x (logs_from (k + 1) n))) (ne_eqb k x apart) ∙ entries_before (k + 1) n x (omega (arith, l))

  entries_behind : (k n x : ℕ) → k + n ≤ x → entries_by x (logs_from k n) ≡ []
  entries_behind k zero x l = refl
  entries_behind k (suc n) x l =
      let apart : k ≢ x = λ e. (let f : k ≡ x = e in omega (arith, f, l)) in
      ap (λ b. cond b (outcome k).entries (entries_by x (logs_from (k + 1) n))) (ne_eqb k x apart) ∙ entries_behind (k + 1) n x (omega (arith, l))

  entries_within : (k n x : ℕ) → k ≤ x → x < k + n → entries_by x (logs_from k n) ≡ (outcome x).entries
  entries_within k zero x some l = absurd (omega (arith, some, l))
  entries_within k (suc n) x some l = ⊎_elim
      (λ (e : k ≡ x). ap (λ b. cond b (outcome k).entries (entries_by x (logs_from (k + 1) n))) (eq-eqb k x e) ∙ ap (λ y. (outcome y).entries) e)
      (λ (ne : k ≢ x).
      let more : k + 1 ≤ x = above k x some ne in
      ap (λ b. cond b (outcome k).entries (entries_by x (logs_from (k + 1) n))) (ne_eqb k x ne) ∙ entries_within (k + 1) n x more (omega (arith, l)))
      (cases_eq k x)
    where
      above : (k x : ℕ) → k ≤ x → k ≢ x → k + 1 ≤ x
      above k x some ne = ⊎_elim (λ (l : k < x). omega (arith, l)) (λ (g : x ≤ k). absurd (ne (omega (arith, some, g)))) (cases_lt k x)

  pub entries_are : (x : ℕ) → 1 ≤ x → x < size w → entries_by x logs ≡ (outcome x).entries
  entries_are x some lt = entries_within 1 (length ps) x some (omega (arith, lt, st.stand.count, begins.count))

  pub entries_none : (x : ℕ) → (x < 1) ⊎ (size w ≤ x) → entries_by x logs ≡ []
  entries_none x h = ⊎_elim
      (λ (none : x < 1). entries_before 1 (length ps) x none)
      (λ (ge : size w ≤ x). entries_behind 1 (length ps) x (omega (arith, ge, st.stand.count, begins.count)))
      h

  -- ---- names

  -- of the link on which a member sends
  out_name : (x : ℕ) → 1 ≤ x → x < size w → (s : ℕ) → (member_at w x).out ≡ Some s → out_name_of (node_at q (x - 1)).held ≡ Some (name_of w s)
  out_name x some lt s e =
      let h : MemberStands w p x (node_at q (x - 1)) = st.stand.each x some lt in
      ap out_name_of h.held ∙ ap (λ d. option_map (λ (f : Outgoing). ring_link x f.to f.opened) (option_map (outgoing_in w) d)) e
      ∙ ap (λ y. Some (ring_link y (link_at w s).receiver (link_at w s).opened)) (sym (own.out x s e).1)

  -- it sends on none but that
  out_of_name : (x : ℕ) → 1 ≤ x → x < size w → (s : ℕ) → s < length w.links → out_name_of (node_at q (x - 1)).held ≡ Some (name_of w s) → (member_at w x).out ≡ Some s
  out_of_name x some lt s l e = by_out (member_at w x).out refl
    where
      by_out : (c : Option ℕ) → (member_at w x).out ≡ c → (member_at w x).out ≡ Some s
      by_out None c =
          let h : MemberStands w p x (node_at q (x - 1)) = st.stand.each x some lt in
          absurd (some_none e (ap out_name_of h.held ∙ ap (λ d. option_map (λ (f : Outgoing). ring_link x f.to f.opened) (option_map (outgoing_in w) d)) c))
      by_out (Some t) c =
          let same : name_of w t ≡ name_of w s = some_is (sym (out_name x some lt t c) ∙ e) in
          c ∙ ap Some (name_is_unique w t s good (own.out x t c).0 l same)

  -- of the one from which it takes
  in_name : (y : ℕ) → 1 ≤ y → y < size w → (s : ℕ) → (member_at w y).current ≡ Some s → in_name_of (node_at q (y - 1)).held 0 ≡ Some (name_of w s)
  in_name y some lt s e = stands_named w p y 0 s (node_at q (y - 1)) (st.stand.each y some lt) own (inl (refl, e))

  in_of_name : (y : ℕ) → 1 ≤ y → y < size w → (s : ℕ) → s < length w.links → in_name_of (node_at q (y - 1)).held 0 ≡ Some (name_of w s) → (member_at w y).current ≡ Some s
  in_of_name y some lt s l e = ⊎_elim
      (λ (c : (nat_eq 0 0 ≡ true) × ((member_at w y).current ≡ Some s)). c.1)
      (λ (d : (nat_eq 0 0 ≡ false) × (0 - 1 < length (st.stand.each y some lt).door) × (get_or (st.stand.each y some lt).door (0 - 1) 0 ≡ s)). absurd (false≢true (sym d.0)))
      (name_stands w p y 0 s (node_at q (y - 1)) (st.stand.each y some lt) good own l e)

  -- names stay
  first_out : (x : ℕ) (r : Party) → IsAt ps (x - 1) r → out_name_of (held_of r.node) ≡ out_name_of (node_at q (x - 1)).held
  first_out x r at = ap (λ (m : Shown). out_name_of m.held) (begins.shown (x - 1) r at)

  first_in : (y : ℕ) (r : Party) → IsAt ps (y - 1) r → in_name_of (held_of r.node) 0 ≡ in_name_of (node_at q (y - 1)).held 0
  first_in y r at = ap (λ (m : Shown). in_name_of m.held 0) (begins.shown (y - 1) r at)

  second_out : (x : ℕ) (some : 1 ≤ x) (lt : x < size w) (m : Member x) → out_name_of (held_of m.second.node) ≡ out_name_of (node_at q (x - 1)).held
  second_out x some lt m = let t = (outcome x).turned m.first m.second some lt m.at_first m.at_second in ap out_name_of (sym t.sits.held) ∙ t.names.out

  second_in : (y : ℕ) (some : 1 ≤ y) (lt : y < size w) (m : Member y) → in_name_of (held_of m.second.node) 0 ≡ in_name_of (node_at q (y - 1)).held 0
  second_in y some lt m = let t = (outcome y).turned m.first m.second some lt m.at_first m.at_second in ap (λ (g : Held). in_name_of g 0) (sym t.sits.held) ∙ t.names.current

  -- ---- the out end of a link

  -- What its sender has of it, before its turns, after them, and once the ends have met; and what passed it.
  pub record OutEnd (s : ℕ) : Type 0 where
    pub some : 1 ≤ (link_at w s).sender
    pub within : (link_at w s).sender < size w
    pub who : Member (link_at w s).sender
    pub out : (member_at w (link_at w s).sender).out ≡ Some s
    pub first : RingOut Load
    pub second : RingOut Load
    pub last : RingOut Load
    pub at_first : (ends_of who.first.node).out ≡ Some first
    pub at_second : (ends_of who.second.node).out ≡ Some second
    pub at_last : (ends_of who.last.node).out ≡ Some last
    pub seen : out_seen first ≡ p.outs s
    pub put : List (Stamped (Option PacketShown))
    pub gained : List (Stamped ℕ)
    pub passes : OutPasses round put gained first second
    pub kept : OutKept second last
    pub put_is : put_on w logs s ≡ put
    pub gained_is : takes (grants_at s (entries_by (link_at w s).sender logs)) ≡ gained

  pub out_end : (s : ℕ) → s < length w.links → has_out w s ≡ true → OutEnd s
  out_end s l has =
      let x : ℕ = (link_at w s).sender in
      let k : (1 ≤ x) × (x < size w) = go.sender s l in
      let m : Member x = member x k.0 k.1 in
      let out : (member_at w x).out ≡ Some s = place_is (member_at w x).out s has in
      let t = (outcome x).turned m.first m.second k.0 k.1 m.at_first m.at_second in
      let shown : option_map out_seen (ends_of m.first.node).out ≡ Some (p.outs s) =
      ap (λ (n : Shown). n.ends.out) (begins.shown (x - 1) m.first m.at_first) ∙ (st.stand.each x k.0 k.1).out ∙ ap (option_map p.outs) out in
      let first = from_map out_seen (ends_of m.first.node).out (p.outs s) shown in
      let second = outs_there round t.put t.gained (ends_of m.first.node).out (ends_of m.second.node).out first.0 first.1 t.out_end in
      let last = out_meets (ends_of m.second.node).out (ends_of m.last.node).out second.0 second.1 (met.stay.each (x - 1) m.second m.last m.at_second m.at_last).out in
      record {
        some = k.0;
        within = k.1;
        who = m;
        out = out;
        first = first.0;
        second = second.0;
        last = last.0;
        at_first = first.1;
        at_second = second.1;
        at_last = last.1;
        seen = first.2;
        put = t.put;
        gained = t.gained;
        passes = second.2;
        kept = out_kept second.0 last.0 last.2;
        put_is = ap (λ es. puts (items_at s es)) (entries_are x k.0 k.1) ∙ t.puts_are s ∙ ap (λ b. cond b t.put []) has;
        gained_is = ap (λ es. takes (grants_at s es)) (entries_are x k.0 k.1) ∙ t.gains_are s ∙ ap (λ b. cond b t.gained []) has;
      }

  -- who doesn't send on a link puts nothing there, and gains nothing
  pub no_out_end : (s : ℕ) → s < length w.links → has_out w s ≡ false → (put_on w logs s ≡ []) × (takes (grants_at s (entries_by (link_at w s).sender logs)) ≡ [])
  no_out_end s l has =
      let x : ℕ = (link_at w s).sender in
      let k : (1 ≤ x) × (x < size w) = go.sender s l in
      let m : Member x = member x k.0 k.1 in
      let t = (outcome x).turned m.first m.second k.0 k.1 m.at_first m.at_second in (
        ap (λ es. puts (items_at s es)) (entries_are x k.0 k.1) ∙ t.puts_are s ∙ ap (λ b. cond b t.put []) has,
        ap (λ es. takes (grants_at s es)) (entries_are x k.0 k.1) ∙ t.gains_are s ∙ ap (λ b. cond b t.gained []) has,
      )

  -- ---- the in end of a link

  -- whether its receiver takes from it
  abbrev pub is_taken : ℕ → Bool
  is_taken s = is_place (member_at w (link_at w s).receiver).current s

  pub record InEnd (s : ℕ) : Type 0 where
    pub some : 1 ≤ (link_at w s).receiver
    pub within : (link_at w s).receiver < size w
    pub who : Member (link_at w s).receiver
    pub current : (member_at w (link_at w s).receiver).current ≡ Some s
    pub first : RingIn Load
    pub second : RingIn Load
    pub last : RingIn Load
    pub at_first : (ends_of who.first.node).link ≡ Some first
    pub at_second : (ends_of who.second.node).link ≡ Some second
    pub at_last : (ends_of who.last.node).link ≡ Some last
    pub seen : in_seen first ≡ p.ins s
    pub late : first.late ≡ None
    pub taken : List (Stamped (Option PacketShown))
    pub given : List (Stamped ℕ)
    pub passes : InPasses round taken given first second
    pub kept : InKept second last
    pub taken_is : takes (items_at s (entries_by (link_at w s).receiver logs)) ≡ taken
    pub given_is : given_on w logs s ≡ given

  pub in_end : (s : ℕ) → s < length w.links → is_taken s ≡ true → InEnd s
  in_end s l has =
      let y : ℕ = (link_at w s).receiver in
      let k : (1 ≤ y) × (y < size w) = go.receiver s l in
      let m : Member y = member y k.0 k.1 in
      let current : (member_at w y).current ≡ Some s = place_is (member_at w y).current s has in
      let t = (outcome y).turned m.first m.second k.0 k.1 m.at_first m.at_second in
      let shown : option_map in_seen (ends_of m.first.node).link ≡ Some (p.ins s) =
      ap (λ (n : Shown). n.ends.link) (begins.shown (y - 1) m.first m.at_first) ∙ (st.stand.each y k.0 k.1).link ∙ ap (option_map p.ins) current in
      let first = from_map in_seen (ends_of m.first.node).link (p.ins s) shown in
      let second = ins_there round t.taken t.given (ends_of m.first.node).link (ends_of m.second.node).link first.0 first.1 t.in_end in
      let last = in_meets (ends_of m.second.node).link (ends_of m.last.node).link second.0 second.1 (met.stay.each (y - 1) m.second m.last m.at_second m.at_last).link in
      record {
        some = k.0;
        within = k.1;
        who = m;
        current = current;
        first = first.0;
        second = second.0;
        last = last.0;
        at_first = first.1;
        at_second = second.1;
        at_last = last.1;
        seen = first.2;
        late = begins.late (y - 1) m.first first.0 m.at_first first.1;
        taken = t.taken;
        given = t.given;
        passes = second.2;
        kept = in_kept second.0 last.0 second.2.late last.2;
        taken_is = ap (λ es. takes (items_at s es)) (entries_are y k.0 k.1) ∙ t.takes_are s ∙ ap (λ b. cond b t.taken []) has;
        given_is = ap (λ es. puts (grants_at s es)) (entries_are y k.0 k.1) ∙ t.gives_are s ∙ ap (λ b. cond b t.given []) has;
      }

  -- who doesn't take from a link takes nothing there, and gives nothing
  pub no_in_end : (s : ℕ) → s < length w.links → is_taken s ≡ false → (takes (items_at s (entries_by (link_at w s).receiver logs)) ≡ []) × (given_on w logs s ≡ [])
  no_in_end s l has =
      let y : ℕ = (link_at w s).receiver in
      let k : (1 ≤ y) × (y < size w) = go.receiver s l in
      let m : Member y = member y k.0 k.1 in
      let t = (outcome y).turned m.first m.second k.0 k.1 m.at_first m.at_second in (
        ap (λ es. takes (items_at s es)) (entries_are y k.0 k.1) ∙ t.takes_are s ∙ ap (λ b. cond b t.taken []) has,
        ap (λ es. puts (grants_at s es)) (entries_are y k.0 k.1) ∙ t.gives_are s ∙ ap (λ b. cond b t.given []) has,
      )

  -- ---- both, or one

  -- where both are there they had met, and have met
  pub had_met : (s : ℕ) (o : OutEnd s) (n : InEnd s) → RingsHaveMet o.first n.first
  had_met s o n = begins.met ((link_at w s).sender - 1) ((link_at w s).receiver - 1) o.who.first n.who.first o.first n.first o.who.at_first n.who.at_first
      (name_of w s, first_out (link_at w s).sender o.who.first o.who.at_first ∙ out_name (link_at w s).sender o.some o.within s o.out, first_in (link_at w s).receiver n.who.first n.who.at_first ∙ in_name (link_at w s).receiver n.some n.within s n.current)
      o.at_first n.at_first

  pub have_met : (s : ℕ) (o : OutEnd s) (n : InEnd s) → RingsHaveMet o.last n.last
  have_met s o n = met.met ((link_at w s).sender - 1) ((link_at w s).receiver - 1) o.who.last n.who.last o.last n.last o.who.at_last n.who.at_last (
    name_of w s,
    ap out_name_of (met.stay.each ((link_at w s).sender - 1) o.who.second o.who.last o.who.at_second o.who.at_last).held ∙ second_out (link_at w s).sender o.some o.within o.who ∙ out_name (link_at w s).sender o.some o.within s o.out,
    ap (λ (g : Held). in_name_of g 0) (met.stay.each ((link_at w s).receiver - 1) n.who.second n.who.last n.who.at_second n.who.at_last).held ∙ second_in (link_at w s).receiver n.some n.within n.who ∙ in_name (link_at w s).receiver n.some n.within s n.current,
  )
      o.at_last n.at_last

  -- a place among the parties is an id
  place_of : (qs : List Party) (j : ℕ) (r : Party) → length qs ≡ length ps → IsAt qs j r → (1 ≤ j + 1) × (j + 1 < size w)
  place_of qs j r many at = let l : j < length qs = slice_get_within qs j r at in (omega arith, omega (arith, l, many, st.stand.count, begins.count))

  -- nobody takes from a link where its receiver doesn't
  none_takes : (s : ℕ) → s < length w.links → is_taken s ≡ false → (j : ℕ) → 1 ≤ j + 1 → j + 1 < size w → in_name_of (node_at q j).held 0 ≡ Some (name_of w s) → ⊥
  none_takes s l absent j some lt e =
      let c : (member_at w (j + 1)).current ≡ Some s = in_of_name (j + 1) some lt s l (ap (λ i. in_name_of (node_at q i).held 0) (let k : j + 1 - 1 ≡ j = omega arith in k) ∙ e) in
      false≢true (sym absent ∙ ap (λ y. is_place (member_at w y).current s) (own.current (j + 1) s c).1 ∙ ap (λ o. is_place o s) c ∙ nat_eq-same s)

  -- and nobody sends on it where its sender doesn't
  none_sends : (s : ℕ) → s < length w.links → has_out w s ≡ false → (j : ℕ) → 1 ≤ j + 1 → j + 1 < size w → out_name_of (node_at q j).held ≡ Some (name_of w s) → ⊥
  none_sends s l absent j some lt e =
      let c : (member_at w (j + 1)).out ≡ Some s = out_of_name (j + 1) some lt s l (ap (λ i. out_name_of (node_at q i).held) (let k : j + 1 - 1 ≡ j = omega arith in k) ∙ e) in
      false≢true (sym absent ∙ ap (λ y. is_place (member_at w y).out s) (own.out (j + 1) s c).1 ∙ ap (λ o. is_place o s) c ∙ nat_eq-same s)

  -- a party is that of the member of its place
  second_names : (j : ℕ) (r : Party) → IsAt rs j r → (out_name_of (held_of r.node) ≡ out_name_of (node_at q j).held) × (in_name_of (held_of r.node) 0 ≡ in_name_of (node_at q j).held 0)
  second_names j r at =
      let k = place_of rs j r turns.count at in
      let m : Member (j + 1) = member (j + 1) k.0 k.1 in
      let back : j + 1 - 1 ≡ j = omega arith in
      let same : r ≡ m.second = just_one rs j m.second r (subst (λ i. IsAt rs i m.second) back m.at_second) at in (
        ap (λ (z : Party). out_name_of (held_of z.node)) same ∙ second_out (j + 1) k.0 k.1 m ∙ ap (λ i. out_name_of (node_at q i).held) back,
        ap (λ (z : Party). in_name_of (held_of z.node) 0) same ∙ second_in (j + 1) k.0 k.1 m ∙ ap (λ i. in_name_of (node_at q i).held 0) back,
      )

  -- A sender rests where nobody takes from its link, and its end is as it was.
  pub out_alone : (s : ℕ) → s < length w.links → is_taken s ≡ false → (o : OutEnd s) → (o.last ≡ o.first) × (o.put ≡ []) × (o.gained ≡ [])
  out_alone s l absent o =
      let x : ℕ = (link_at w s).sender in
      let mine : out_name_of (held_of o.who.first.node) ≡ Some (name_of w s) = first_out x o.who.first o.who.at_first ∙ out_name x o.some o.within s o.out in
      let rests : o.who.second ≡ o.who.first = ⊎_elim
      (λ (e : o.who.second ≡ o.who.first). e)
      (λ (m : o.who.first.meets ≡ true).
      let k = (begins.marked (x - 1) o.who.first o.who.at_first m).0 in
      let j = place_of ps k.0 k.1 refl k.2 in
      absurd (none_takes s l absent k.0 j.0 j.1 (ap (λ (n : Shown). in_name_of n.held 0) (sym (begins.shown k.0 k.1 k.2)) ∙ k.3.2 ∙ sym k.3.1 ∙ mine)))
      ((outcome x).rests o.who.first o.who.second o.some o.within o.who.at_first o.who.at_second) in
      let apart : SendsApart rs o.who.second = λ j r at pair.
      let k = place_of rs j r turns.count at in
      none_takes s l absent j k.0 k.1 (sym (second_names j r at).1 ∙ pair.2 ∙ sym pair.1 ∙ ap (λ (z : Party). out_name_of (held_of z.node)) rests ∙ mine) in
      let last : o.last ≡ o.second = some_is (sym o.at_last ∙ met.apart_out (x - 1) o.who.second o.who.last o.who.at_second o.who.at_last apart ∙ o.at_second) in
      let second : o.second ≡ o.first = some_is (sym o.at_second ∙ ap (λ (z : Party). (ends_of z.node).out) rests ∙ o.at_first) in (
        last ∙ second,
        nothing_passed (timed_items round (sent o.first.items)) o.put (ap (λ (z : RingOut Load). timed_items round (sent z.items)) (sym second) ∙ o.passes.items),
        nothing_passed (timed_grants round (got o.first.back)) o.gained (ap (λ (z : RingOut Load). timed_grants round (got z.back)) (sym second) ∙ o.passes.grants),
      )

  -- And so does a receiver where nobody sends on its link.
  pub in_alone : (s : ℕ) → s < length w.links → has_out w s ≡ false → (n : InEnd s) → (n.last ≡ n.first) × (n.taken ≡ []) × (n.given ≡ [])
  in_alone s l absent n =
      let y : ℕ = (link_at w s).receiver in
      let mine : in_name_of (held_of n.who.first.node) 0 ≡ Some (name_of w s) = first_in y n.who.first n.who.at_first ∙ in_name y n.some n.within s n.current in
      let rests : n.who.second ≡ n.who.first = ⊎_elim
      (λ (e : n.who.second ≡ n.who.first). e)
      (λ (m : n.who.first.meets ≡ true).
      let k = (begins.marked (y - 1) n.who.first n.who.at_first m).1 in
      let j = place_of ps k.0 k.1 refl k.2 in
      absurd (none_sends s l absent k.0 j.0 j.1 (ap (λ (m : Shown). out_name_of m.held) (sym (begins.shown k.0 k.1 k.2)) ∙ k.3.1 ∙ sym k.3.2 ∙ mine)))
      ((outcome y).rests n.who.first n.who.second n.some n.within n.who.at_first n.who.at_second) in
      let apart : TakesApart rs n.who.second = λ j r at pair.
      let k = place_of rs j r turns.count at in
      none_sends s l absent j k.0 k.1 (sym (second_names j r at).0 ∙ pair.1 ∙ sym pair.2 ∙ ap (λ (z : Party). in_name_of (held_of z.node) 0) rests ∙ mine) in
      let last : n.last ≡ n.second = some_is (sym n.at_last ∙ met.apart_in (y - 1) n.who.second n.who.last n.who.at_second n.who.at_last apart ∙ n.at_second) in
      let second : n.second ≡ n.first = some_is (sym n.at_second ∙ ap (λ (z : Party). (ends_of z.node).link) rests ∙ n.at_first) in (
        last ∙ second,
        nothing_passed (timed_items round (got n.first.items)) n.taken (ap (λ (z : RingIn Load). timed_items round (got z.items)) (sym second) ∙ n.passes.items),
        nothing_passed (timed_grants round (sent n.first.back)) n.given (ap (λ (z : RingIn Load). timed_grants round (sent z.back)) (sym second) ∙ n.passes.grants),
      )

  -- ---- all that there is, before and after

  -- where a link is taken from, what its in end knows, with its times; else what is known as of earlier rounds
  abbrev items_by : List Party → ℕ → List (Stamped (Option PacketShown))
  items_by qs s = cond (is_taken s) (timed_items round (link_known (slice_get qs ((link_at w s).receiver - 1)))) (early (items_known w p s))

  -- and so of the grants on its way back
  abbrev grants_by : List Party → ℕ → List (Stamped ℕ)
  grants_by qs s = cond (has_out w s) (timed_grants round (back_known (slice_get qs ((link_at w s).sender - 1)))) (early (grants_known w p s))

  abbrev pub before : Configuration
  before = record { seats = seat_of w q ks; items = items_by ps; grants = grants_by ps }

  abbrev pub after : Configuration
  after = record { seats = λ x. (outcome x).seat; items = items_by vs; grants = grants_by vs }

  items_taken_by : (qs : List Party) (s : ℕ) (r : Party) (n : RingIn Load) → is_taken s ≡ true → IsAt qs ((link_at w s).receiver - 1) r → (ends_of r.node).link ≡ Some n → items_by qs s ≡ timed_items round (known_items n.items)
  items_taken_by qs s r n has at e =
      ap (λ b. cond b (timed_items round (link_known (slice_get qs ((link_at w s).receiver - 1)))) (early (items_known w p s))) has
      ∙ ap (timed_items round) (link_known_is (slice_get qs ((link_at w s).receiver - 1)) r n at e)

  items_else_by : (qs : List Party) (s : ℕ) → is_taken s ≡ false → items_by qs s ≡ early (items_known w p s)
  items_else_by qs s absent = ap (λ b. cond b (timed_items round (link_known (slice_get qs ((link_at w s).receiver - 1)))) (early (items_known w p s))) absent

  grants_out_by : (qs : List Party) (s : ℕ) (r : Party) (o : RingOut Load) → has_out w s ≡ true → IsAt qs ((link_at w s).sender - 1) r → (ends_of r.node).out ≡ Some o → grants_by qs s ≡ timed_grants round (known_items o.back)
  grants_out_by qs s r o has at e =
      ap (λ b. cond b (timed_grants round (back_known (slice_get qs ((link_at w s).sender - 1)))) (early (grants_known w p s))) has
      ∙ ap (timed_grants round) (back_known_is (slice_get qs ((link_at w s).sender - 1)) r o at e)

  grants_else_by : (qs : List Party) (s : ℕ) → has_out w s ≡ false → grants_by qs s ≡ early (grants_known w p s)
  grants_else_by qs s absent = ap (λ b. cond b (timed_grants round (back_known (slice_get qs ((link_at w s).sender - 1)))) (early (grants_known w p s))) absent

  -- a link beyond the last is nobody's
  within_if : (s : ℕ) (b : Bool) → (nat_lt s (length w.links) && b) ≡ true → (s < length w.links) × (b ≡ true)
  within_if s b e = let k = and_parts (nat_lt s (length w.links)) b e in (ltb-true s (length w.links) k.0, k.1)

  taken_within : (s : ℕ) → is_taken s ≡ true → s < length w.links
  taken_within s has = (own.current (link_at w s).receiver s (place_is (member_at w (link_at w s).receiver).current s has)).0

  out_within : (s : ℕ) → has_out w s ≡ true → s < length w.links
  out_within s has = (own.out (link_at w s).sender s (place_is (member_at w (link_at w s).sender).out s has)).0

  -- they are seated before
  items_before : (s : ℕ) (b : Bool) → is_taken s ≡ b → things (before.items s) ≡ items_known w p s
  items_before s true has =
      let l : s < length w.links = taken_within s has in
      let n : InEnd s = in_end s l has in
      let open_in : has_in_at w s ≡ true = there_at s (length w.links) (has_in w s) l (current_has w (link_at w s).receiver s own n.current) in
      ap things (items_taken_by ps s n.who.first n.first has n.who.at_first n.at_first) ∙ things_items round (known_items n.first.items) ∙ ap (λ (z : InSeen). z.items) n.seen
      ∙ sym (ap (λ b. cond b (p.ins s).items (items_in w (link_at w s))) open_in)
  items_before s false absent = ap things (items_else_by ps s absent) ∙ things-early (items_known w p s)

  grants_before : (s : ℕ) (b : Bool) → has_out w s ≡ b → things (before.grants s) ≡ grants_known w p s
  grants_before s true has =
      let l : s < length w.links = out_within s has in
      let o : OutEnd s = out_end s l has in
      ap things (grants_out_by ps s o.who.first o.first has o.who.at_first o.at_first) ∙ things_grants round (known_items o.first.back) ∙ ap (λ (z : OutSeen). z.back) o.seen
      ∙ sym (ap (λ b. cond b (p.outs s).back (link_at w s).flow.grants) (there_at s (length w.links) (has_out w s) l has))
  grants_before s false absent = ap things (grants_else_by ps s absent) ∙ things-early (grants_known w p s)

  pub seated_before : IsSeated w p q ks before
  seated_before = record {
    seats = λ x _ _. refl;
    items = λ s. items_before s (is_taken s) refl;
    grants = λ s. grants_before s (has_out w s) refl;
  }

  -- ---- they have taken their turns

  -- what stood on a link that is taken from, and was put, is what was taken and stands there
  items_turn : (s : ℕ) (n : InEnd s) (has : is_taken s ≡ true) (b : Bool) → has_out w s ≡ b → before.items s ++ put_on w logs s ≡ takes (items_at s (entries_by (link_at w s).receiver logs)) ++ after.items s
  items_turn s n has true sends =
      let o : OutEnd s = out_end s (taken_within s has) sends in
      ap (λ xs. xs ++ put_on w logs s) (items_taken_by ps s n.who.first n.first has n.who.at_first n.at_first) ∙ ap (λ xs. timed_items round (known_items n.first.items) ++ xs) o.put_is
      ∙ items_pass round o.put n.taken o.gained n.given o.first o.second o.last n.first n.second n.last (had_met s o n) (have_met s o n) o.passes n.passes o.kept n.kept
      ∙ sym (ap (λ xs. xs ++ after.items s) n.taken_is ∙ ap (λ xs. n.taken ++ xs) (items_taken_by vs s n.who.last n.last has n.who.at_last n.at_last))
  items_turn s n has false none =
      let k = in_alone s (taken_within s has) none n in
      ap (λ xs. before.items s ++ xs) (no_out_end s (taken_within s has) none).0 ∙ append-nil (before.items s)
      ∙ items_taken_by ps s n.who.first n.first has n.who.at_first n.at_first
      ∙ sym (ap (λ xs. xs ++ after.items s) (n.taken_is ∙ k.1) ∙ items_taken_by vs s n.who.last n.last has n.who.at_last n.at_last ∙ ap (λ (z : RingIn Load). timed_items round (known_items z.items)) k.0)

  -- on one that isn't nothing was put
  put_none : (s : ℕ) → s < length w.links → is_taken s ≡ false → (b : Bool) → has_out w s ≡ b → put_on w logs s ≡ []
  put_none s l absent true sends = let o : OutEnd s = out_end s l sends in o.put_is ∙ (out_alone s l absent o).1
  put_none s l absent false none = (no_out_end s l none).0

  items_turns : (s : ℕ) → s < length w.links → (b : Bool) → is_taken s ≡ b → before.items s ++ put_on w logs s ≡ takes (items_at s (entries_by (link_at w s).receiver logs)) ++ after.items s
  items_turns s l true has = items_turn s (in_end s l has) has (has_out w s) refl
  items_turns s l false absent =
      ap (λ xs. before.items s ++ xs) (put_none s l absent (has_out w s) refl) ∙ append-nil (before.items s) ∙ items_else_by ps s absent
      ∙ sym (ap (λ xs. xs ++ after.items s) (no_in_end s l absent).0 ∙ items_else_by vs s absent)

  grants_turn : (s : ℕ) (l : s < length w.links) (sends : has_out w s ≡ true) (o : OutEnd s) (b : Bool) → is_taken s ≡ b → before.grants s ++ given_on w logs s ≡ takes (grants_at s (entries_by (link_at w s).sender logs)) ++ after.grants s
  grants_turn s l sends o true has =
      let n : InEnd s = in_end s l has in
      ap (λ xs. xs ++ given_on w logs s) (grants_out_by ps s o.who.first o.first sends o.who.at_first o.at_first) ∙ ap (λ xs. timed_grants round (known_items o.first.back) ++ xs) n.given_is
      ∙ grants_pass round o.put n.taken o.gained n.given o.first o.second o.last n.first n.second n.last (had_met s o n) (have_met s o n) o.passes n.passes o.kept n.kept
      ∙ sym (ap (λ xs. xs ++ after.grants s) o.gained_is ∙ ap (λ xs. o.gained ++ xs) (grants_out_by vs s o.who.last o.last sends o.who.at_last o.at_last))
  grants_turn s l sends o false absent =
      let k = out_alone s l absent o in
      ap (λ xs. before.grants s ++ xs) (no_in_end s l absent).1 ∙ append-nil (before.grants s)
      ∙ grants_out_by ps s o.who.first o.first sends o.who.at_first o.at_first
      ∙ sym (ap (λ xs. xs ++ after.grants s) (o.gained_is ∙ k.2) ∙ grants_out_by vs s o.who.last o.last sends o.who.at_last o.at_last ∙ ap (λ (z : RingOut Load). timed_grants round (known_items z.back)) k.0)

  pub took_turns : TookTurnsByEnds w logs before after
  took_turns = record {
    runs = λ x some lt.
        let m : Member x = member x some lt in
        subst (λ es. IsLocalRun es (seat_of w q ks x) (outcome x).seat) (sym (entries_are x some lt)) ((outcome x).turned m.first m.second some lt m.at_first m.at_second).run;
    nobody_else = entries_none;
    items = λ s on. let k = within_if s (has_in w s) on in items_turns s k.0 (is_taken s) refl;
    grants = λ s on. let k = within_if s (has_out w s) on in grants_turn s k.0 k.1 (out_end s k.0 k.1) (is_taken s) refl;
  }

  -- ---- the round is closed

  abbrev pub closed_places : Places
  closed_places = record {
    outs = λ s. cond (has_out w s) (out_shown (slice_get vs ((link_at w s).sender - 1)) (p.outs s)) (p.outs s);
    ins = λ s. cond (is_taken s) (in_shown (slice_get vs ((link_at w s).receiver - 1)) (p.ins s)) (p.ins s);
    deposits = p.deposits;
  }

  outs_is : (s : ℕ) → has_out w s ≡ true → (o : OutEnd s) → closed_places.outs s ≡ out_seen o.last
  outs_is s has o =
      ap (λ b. cond b (out_shown (slice_get vs ((link_at w s).sender - 1)) (p.outs s)) (p.outs s)) has ∙ out_shown_is (slice_get vs ((link_at w s).sender - 1)) (p.outs s) o.who.last o.last o.who.at_last o.at_last

  outs_else : (s : ℕ) → has_out w s ≡ false → closed_places.outs s ≡ p.outs s
  outs_else s absent = ap (λ b. cond b (out_shown (slice_get vs ((link_at w s).sender - 1)) (p.outs s)) (p.outs s)) absent

  ins_is : (s : ℕ) → is_taken s ≡ true → (n : InEnd s) → closed_places.ins s ≡ in_seen n.last
  ins_is s has n =
      ap (λ b. cond b (in_shown (slice_get vs ((link_at w s).receiver - 1)) (p.ins s)) (p.ins s)) has ∙ in_shown_is (slice_get vs ((link_at w s).receiver - 1)) (p.ins s) n.who.last n.last n.who.at_last n.at_last

  ins_else : (s : ℕ) → is_taken s ≡ false → closed_places.ins s ≡ p.ins s
  ins_else s absent = ap (λ b. cond b (in_shown (slice_get vs ((link_at w s).receiver - 1)) (p.ins s)) (p.ins s)) absent

  -- what waits at a door, or at the registrar, isn't taken from
  waits_not : (y s : ℕ) → (link_at w s).receiver ≡ y → waits_for w y s ≡ true → is_taken s ≡ false
  waits_not y s to h = by_case (is_taken s) refl
    where
      by_case : (b : Bool) → is_taken s ≡ b → b ≡ false
      by_case true has = absurd (current_not_waits w (link_at w s).receiver s (place_is (member_at w (link_at w s).receiver).current s has) (subst (λ z. waits_for w z s ≡ true) (sym to) h))
      by_case false has = refl

  -- ---- members

  closed_shown : (x : ℕ) (m : Member x) → node_at (record { nodes = map shown_in vs; views = q.views; stopped = q.stopped; deposits = q.deposits }) (x - 1) ≡ shown_of m.last.node
  closed_shown x m = made_at shown_in no_shown vs (x - 1) m.last m.at_last

  -- the ends of a member that are neither that on which it sends nor that from which it takes
  others_same : (x : ℕ) (some : 1 ≤ x) (lt : x < size w) (m : Member x) → ends_of m.last.node ≡ record (ends_of m.first.node) { out = (ends_of m.last.node).out; link = (ends_of m.last.node).link }
  others_same x some lt m =
      let t = (outcome x).turned m.first m.second some lt m.at_first m.at_second in
      let k = met.stay.each (x - 1) m.second m.last m.at_second m.at_last in
      k.others ∙ ap (λ (e : Ends (RingOut Load) (RingIn Load)). record e { out = (ends_of m.last.node).out; link = (ends_of m.last.node).link }) t.others

  out_closes : (x : ℕ) (some : 1 ≤ x) (lt : x < size w) (m : Member x) (c : Option ℕ) → (member_at w x).out ≡ c → option_map out_seen (ends_of m.last.node).out ≡ option_map closed_places.outs c
  out_closes x some lt m None e =
      let t = (outcome x).turned m.first m.second some lt m.at_first m.at_second in
      let k = met.stay.each (x - 1) m.second m.last m.at_second m.at_last in
      let none : option_map out_seen (ends_of m.first.node).out ≡ None = ap (λ (n : Shown). n.ends.out) (begins.shown (x - 1) m.first m.at_first) ∙ (st.stand.each x some lt).out ∙ ap (option_map p.outs) e in
      ap (option_map out_seen) (out_meets_none (ends_of m.second.node).out (ends_of m.last.node).out (outs_none round t.put t.gained (ends_of m.first.node).out (ends_of m.second.node).out (from_none out_seen (ends_of m.first.node).out none) t.out_end) k.out)
  out_closes x some lt m (Some s) e =
      let of : (s < length w.links) × ((link_at w s).sender ≡ x) = own.out x s e in
      let has : has_out w s ≡ true = ap (λ y. is_place (member_at w y).out s) of.1 ∙ ap (λ c. is_place c s) e ∙ nat_eq-same s in
      let o : OutEnd s = out_end s of.0 has in
      let same : m.last ≡ o.who.last = just_one vs (x - 1) o.who.last m.last (subst (λ y. IsAt vs (y - 1) o.who.last) of.1 o.who.at_last) m.at_last in
      ap (λ (r : Party). option_map out_seen (ends_of r.node).out) same ∙ ap (option_map out_seen) o.at_last ∙ ap Some (sym (outs_is s has o))

  link_closes : (x : ℕ) (some : 1 ≤ x) (lt : x < size w) (m : Member x) (c : Option ℕ) → (member_at w x).current ≡ c → option_map in_seen (ends_of m.last.node).link ≡ option_map closed_places.ins c
  link_closes x some lt m None e =
      let t = (outcome x).turned m.first m.second some lt m.at_first m.at_second in
      let k = met.stay.each (x - 1) m.second m.last m.at_second m.at_last in
      let none : option_map in_seen (ends_of m.first.node).link ≡ None = ap (λ (n : Shown). n.ends.link) (begins.shown (x - 1) m.first m.at_first) ∙ (st.stand.each x some lt).link ∙ ap (option_map p.ins) e in
      ap (option_map in_seen) (in_meets_none (ends_of m.second.node).link (ends_of m.last.node).link (ins_none round t.taken t.given (ends_of m.first.node).link (ends_of m.second.node).link (from_none in_seen (ends_of m.first.node).link none) t.in_end) k.link)
  link_closes x some lt m (Some s) e =
      let of : (s < length w.links) × ((link_at w s).receiver ≡ x) = own.current x s e in
      let has : is_taken s ≡ true = ap (λ y. is_place (member_at w y).current s) of.1 ∙ ap (λ c. is_place c s) e ∙ nat_eq-same s in
      let n : InEnd s = in_end s of.0 has in
      let same : m.last ≡ n.who.last = just_one vs (x - 1) n.who.last m.last (subst (λ y. IsAt vs (y - 1) n.who.last) of.1 n.who.at_last) m.at_last in
      ap (λ (r : Party). option_map in_seen (ends_of r.node).link) same ∙ ap (option_map in_seen) n.at_last ∙ ap Some (sym (ins_is s has n))

  abbrev pub closed : Parties
  closed = record { nodes = map shown_in vs; views = q.views; stopped = q.stopped; deposits = q.deposits }

  shows_seat : (x : ℕ) → 1 ≤ x → x < size w → ShowsSeat closed_places (outcome x).seat (node_at closed (x - 1))
  shows_seat x some lt =
      let m : Member x = member x some lt in
      let h : MemberStands w p x (node_at q (x - 1)) = st.stand.each x some lt in
      let t = (outcome x).turned m.first m.second some lt m.at_first m.at_second in
      let k = met.stay.each (x - 1) m.second m.last m.at_second m.at_last in
      let is : node_at closed (x - 1) ≡ shown_of m.last.node = closed_shown x m in
      let first : shown_of m.first.node ≡ node_at q (x - 1) = begins.shown (x - 1) m.first m.at_first in
      let others = others_same x some lt m in
      let doors : (node_at closed (x - 1)).ends.door ≡ (node_at q (x - 1)).ends.door =
      ap (λ (n : Shown). n.ends.door) is ∙ ap (λ (e : Ends (RingOut Load) (RingIn Load)). (ends_seen e).door) others ∙ ap (λ (n : Shown). n.ends.door) first in
      record {
        held = ap (λ (n : Shown). n.held) is ∙ k.held ∙ sym t.sits.held;
        out = ap (λ (n : Shown). n.ends.out) is ∙ out_closes x some lt m (member_at w x).out refl ∙ ap (option_map closed_places.outs) (sym t.same_out);
        returned = ap (λ (n : Shown). n.ends.returned) is ∙ ap (λ (e : Ends (RingOut Load) (RingIn Load)). (ends_seen e).returned) others ∙ ap (λ (n : Shown). n.ends.returned) first ∙ h.returned;
        link = ap (λ (n : Shown). n.ends.link) is ∙ link_closes x some lt m (member_at w x).current refl ∙ ap (option_map closed_places.ins) (sym t.same_current);
        ends =
            doors ∙ h.ends
            ∙ map_agree (λ s. Some (p.ins s)) (λ s. Some (closed_places.ins s)) h.door (λ s i. let d = stood_is w p x s (node_at q (x - 1)) h i in ap Some (sym (ins_else s (waits_not x s d.2 d.1))))
            ∙ ap (map (λ s. Some (closed_places.ins s))) (sym (t.same_door ∙ seat_door w p q ks x h));
        old_outs = ap (λ (n : Shown). n.ends.old_outs) is ∙ ap (λ (e : Ends (RingOut Load) (RingIn Load)). (ends_seen e).old_outs) others ∙ ap (λ (n : Shown). n.ends.old_outs) first ∙ h.old_outs;
        old_ins = ap (λ (n : Shown). n.ends.old_ins) is ∙ ap (λ (e : Ends (RingOut Load) (RingIn Load)). (ends_seen e).old_ins) others ∙ ap (λ (n : Shown). n.ends.old_ins) first ∙ h.old_ins;
      }

  -- ---- links

  unended : (b c d : Bool) → c ≡ b → d ≡ false → c ≡ (b || d)
  unended b c d e f = e ∙ or_nothing b ∙ ap (λ k. b || k) (sym f)

  -- one of both ends
  both_close : (s : ℕ) (has : is_taken s ≡ true) (sends : has_out w s ≡ true) (o : OutEnd s) (n : InEnd s) → LinkCloses true (p.outs s) (p.ins s) (closed_places.outs s) (closed_places.ins s) (things (put_on w logs s)) (things (given_on w logs s))
  both_close s has sends o n =
      let oe : closed_places.outs s ≡ out_seen o.last = outs_is s sends o in
      let ne : closed_places.ins s ≡ in_seen n.last = ins_is s has n in
      record {
        met = subst (λ z. HaveMet z (closed_places.ins s)) (sym oe) (subst (HaveMet (out_seen o.last)) (sym ne) (met_seen o.last n.last (have_met s o n)));
        ended = unended (p.outs s).ended (closed_places.outs s).ended (has_end (things (put_on w logs s)))
            (ap (λ (z : OutSeen). z.ended) oe ∙ o.kept.ended ∙ o.passes.ended ∙ ap (λ (z : OutSeen). z.ended) o.seen)
            (ap (λ xs. has_end (things xs)) o.put_is ∙ o.passes.unended);
        late = ap (λ (z : InSeen). z.late) ne ∙ ap amount_of n.kept.late;
        dropped = λ alone. absurd (false≢true (sym alone));
        out_initial = ap (λ (z : OutSeen). z.initial) oe ∙ o.kept.initial ∙ o.passes.initial ∙ ap (λ (z : OutSeen). z.initial) o.seen;
        in_initial = ap (λ (z : InSeen). z.initial) ne ∙ n.kept.initial ∙ n.passes.initial ∙ ap (λ (z : InSeen). z.initial) n.seen;
        out_ring = ap (λ (z : OutSeen). z.ring) oe ∙ o.kept.ring ∙ o.passes.ring ∙ ap (λ (z : OutSeen). z.ring) o.seen;
        in_ring = ap (λ (z : InSeen). z.ring) ne ∙ n.kept.ring ∙ n.passes.ring ∙ ap (λ (z : InSeen). z.ring) n.seen;
      }

  -- one on which nothing happened
  still_closes : (s : ℕ) (b : Bool) → s < length w.links → has_in w s ≡ true → has_out w s ≡ b → closed_places.outs s ≡ p.outs s → closed_places.ins s ≡ p.ins s → put_on w logs s ≡ [] → given_on w logs s ≡ []
      → LinkCloses b (p.outs s) (p.ins s) (closed_places.outs s) (closed_places.ins s) (things (put_on w logs s)) (things (given_on w logs s))
  still_closes s b l has sends oe ne put given =
      let c : Carries w initial (link_at w s) (p.outs s) (p.ins s) = st.stand.carry s l has in
      record {
        met = subst (λ z. HaveDone b z (closed_places.ins s)) (sym oe) (subst (HaveDone b (p.outs s)) (sym ne) (subst (λ k. HaveDone k (p.outs s) (p.ins s)) sends (st.met s l has)));
        ended = unended (p.outs s).ended (closed_places.outs s).ended (has_end (things (put_on w logs s))) (ap (λ (z : OutSeen). z.ended) oe) (ap (λ xs. has_end (things xs)) put);
        late = ap (λ (z : InSeen). z.late) ne ∙ c.late;
        dropped = λ _. (ap (λ (z : OutSeen). z.gained) oe, ap (λ (z : InSeen). z.given) ne ∙ sym (ap (λ xs. (p.ins s).given ++ things xs) given ∙ append-nil (p.ins s).given));
        out_initial = ap (λ (z : OutSeen). z.initial) oe;
        in_initial = ap (λ (z : InSeen). z.initial) ne;
        out_ring = ap (λ (z : OutSeen). z.ring) oe;
        in_ring = ap (λ (z : InSeen). z.ring) ne;
      }

  outs_rest : (s : ℕ) (l : s < length w.links) (absent : is_taken s ≡ false) (b : Bool) → has_out w s ≡ b → closed_places.outs s ≡ p.outs s
  outs_rest s l absent true sends = let o : OutEnd s = out_end s l sends in outs_is s sends o ∙ ap out_seen (out_alone s l absent o).0 ∙ o.seen
  outs_rest s l absent false none = outs_else s none

  ends_close : (s : ℕ) (b c : Bool) → s < length w.links → has_in w s ≡ true → has_out w s ≡ b → is_taken s ≡ c → LinkCloses b (p.outs s) (p.ins s) (closed_places.outs s) (closed_places.ins s) (things (put_on w logs s)) (things (given_on w logs s))
  ends_close s true true l on sends has = both_close s has sends (out_end s l sends) (in_end s l has)
  ends_close s false true l on none has =
      let n : InEnd s = in_end s l has in
      let k = in_alone s l none n in
      still_closes s false l on none (outs_else s none) (ins_is s has n ∙ ap in_seen k.0 ∙ n.seen) (no_out_end s l none).0 (n.given_is ∙ k.2)
  ends_close s b false l on sends absent = still_closes s b l on sends (outs_rest s l absent (has_out w s) refl) (ins_else s absent) (put_none s l absent (has_out w s) refl) (no_in_end s l absent).1

  stands_there : (s : ℕ) (c : Bool) → s < length w.links → has_in w s ≡ true → is_taken s ≡ c → things (after.items s) ≡ (closed_places.ins s).items
  stands_there s true l on has =
      let n : InEnd s = in_end s l has in
      ap things (items_taken_by vs s n.who.last n.last has n.who.at_last n.at_last) ∙ things_items round (known_items n.last.items) ∙ ap (λ (z : InSeen). z.items) (sym (ins_is s has n))
  stands_there s false l on absent =
      ap things (items_else_by vs s absent) ∙ things-early (items_known w p s) ∙ ap (λ b. cond b (p.ins s).items (items_in w (link_at w s))) (there_at s (length w.links) (has_in w s) l on)
      ∙ ap (λ (z : InSeen). z.items) (sym (ins_else s absent))

  pub has_closed : HasClosed w q p logs after closed (map keeps_in vs) closed_places
  has_closed = record {
    count = length-map vs shown_in ∙ met.stay.count ∙ turns.count ∙ begins.count;
    each = shows_seat;
    keeps_count = length-map vs keeps_in ∙ met.stay.count ∙ turns.count ∙ begins.count;
    keeps = λ x some lt.
        let m : Member x = member x some lt in
        let t = (outcome x).turned m.first m.second some lt m.at_first m.at_second in
        made_at keeps_in no_keeps vs (x - 1) m.last m.at_last ∙ (met.stay.each (x - 1) m.second m.last m.at_second m.at_last).keeps ∙ sym t.sits.keeps;
    views = refl;
    stopped = λ x some lt. st.stand.stopped x some lt ∙ ap (λ (g : Held). is_stopped g.phase) (sym (st.stand.each x some lt).held) ∙ ap is_stopped (sym ((outcome x).phase some lt));
    nobody_else = st.stand.nobody_else;
    post = refl;
    deposits =
        st.stand.deposits
        ∙ map_agree (λ s. record { name = name_of w s; end = Some (p.ins s) }) (λ s. record { name = name_of w s; end = Some (closed_places.ins s) }) p.deposits
        (λ s i.
        let l : s < length w.links = st.stand.within s i in
        let k : (1 ≤ (link_at w s).receiver) × ((link_at w s).receiver < size w) = go.receiver s l in
        let d = deposit_is w p (link_at w s).receiver s (node_at q ((link_at w s).receiver - 1)) (st.stand.each (link_at w s).receiver k.0 k.1) refl i in
        ap (λ n. record { name = name_of w s; end = Some n }) (sym (ins_else s (waits_not (link_at w s).receiver s refl d.1))));
    ends = λ s on.
        let k = within_if s (has_in w s) (and_parts (has_in_at w s) (may_take p.deposits ((outcome (link_at w s).receiver).seat) s) on).0 in
        ends_close s (has_out w s) (is_taken s) k.0 k.1 refl refl;
    stand = λ s on.
        let k = within_if s (has_in w s) (and_parts (has_in_at w s) (may_take p.deposits ((outcome (link_at w s).receiver).seat) s) on).0 in
        stands_there s (is_taken s) k.0 k.1 refl;
    back = λ s on.
        let k = within_if s (has_out w s) on in
        let o : OutEnd s = out_end s k.0 k.1 in
        ap things (grants_out_by vs s o.who.last o.last k.1 o.who.at_last o.at_last) ∙ things_grants round (known_items o.last.back) ∙ ap (λ (z : OutSeen). z.back) (sym (outs_is s k.1 o));
  }

  -- ---- its logs

  -- those that parties have in the end are the logs of their deeds
  logs_told_from : (k : ℕ) (qs : List Party) → ((j : ℕ) (r : Party) → IsAt qs j r → log_by r ≡ event_log (log_at (k + j))) → map log_by qs ≡ map event_log (logs_from k (length qs))
  logs_told_from k [] h = refl
  logs_told_from k (r ∷ qs) h =
      ap (λ l. l ∷ map log_by qs) (h 0 r refl ∙ ap (λ x. event_log (log_at x)) (let e : k + 0 ≡ k = omega arith in e))
      ∙ ap (λ ls. event_log (log_at k) ∷ ls) (logs_told_from (k + 1) qs (λ j z at. h (suc j) z at ∙ ap (λ x. event_log (log_at x)) (let e : k + suc j ≡ k + 1 + j = omega arith in e)))

  -- who stands at a place in the end is the member of its id
  pub id_last : (j : ℕ) (r : Party) → IsAt vs j r → (held_of r.node).id ≡ 1 + j
  id_last j r at =
      let l : j < length vs = slice_get_within vs j r at in
      let some : 1 ≤ 1 + j = omega arith in
      let lt : 1 + j < size w = omega (arith, l, met.stay.count, turns.count, begins.count, st.stand.count) in
      let m : Member (1 + j) = member (1 + j) some lt in
      let back : 1 + j - 1 ≡ j = omega arith in
      let same : r ≡ m.last = just_one vs j m.last r (subst (λ i. IsAt vs i m.last) back m.at_last) at in
      let t = (outcome (1 + j)).turned m.first m.second some lt m.at_first m.at_second in
      let k = met.stay.each (1 + j - 1) m.second m.last m.at_second m.at_last in
      ap (λ (z : Party). (held_of z.node).id) same ∙ ap (λ (g : Held). g.id) k.held ∙ ap (λ (g : Held). g.id) (sym t.sits.held) ∙ t.names.id ∙ ap (λ (g : Held). g.id) (st.stand.each (1 + j) some lt).held

  log_told : (j : ℕ) (r : Party) → IsAt vs j r → log_by r ≡ event_log (log_at (1 + j))
  log_told j r at =
      let l : j < length vs = slice_get_within vs j r at in
      let some : 1 ≤ 1 + j = omega arith in
      let lt : 1 + j < size w = omega (arith, l, met.stay.count, turns.count, begins.count, st.stand.count) in
      let m : Member (1 + j) = member (1 + j) some lt in
      let back : 1 + j - 1 ≡ j = omega arith in
      let same : r ≡ m.last = just_one vs j m.last r (subst (λ i. IsAt vs i m.last) back m.at_last) at in
      let t = (outcome (1 + j)).turned m.first m.second some lt m.at_first m.at_second in
      let k = met.stay.each (1 + j - 1) m.second m.last m.at_second m.at_last in
      let entries : (recorded_of m.last.node).entries ≡ map event_at (outcome (1 + j)).entries =
      ap (λ c. c.recorded.entries) k.recorder ∙ t.recorded ∙ ap (λ xs. xs ++ map event_at (outcome (1 + j)).entries) (begins.nothing (1 + j - 1) m.first m.at_first) in
      let party : (held_of m.last.node).id ≡ 1 + j = ap (λ (z : Party). (held_of z.node).id) (sym same) ∙ id_last j r at in
      ap log_by same ∙ ap (λ x. record { party = x; entries = (recorded_of m.last.node).entries }) party ∙ ap (λ es. record { party = 1 + j; entries = es }) entries

  pub logs_told : map log_by vs ≡ map event_log logs
  logs_told = logs_told_from 1 vs log_told ∙ ap (λ n. map event_log (logs_from 1 n)) (met.stay.count ∙ turns.count)

-- ---- after a journal

-- Where parties stand after a journal, and take their turns side by side from there on, they stand after the journal with the merge of their logs
-- behind it.
pub turns_stand : (credit : CreditSpec) (names : List (List ℕ)) (events : List Event) (q : Parties) (ks : List Keeps) (h : StandAfter credit names events q) → KeepsStand (state credit names events) ks
    → (round : ℕ) (ps rs vs : List Party) → RestsAt → BeginsRound round q ks ps → EachParty (λ _ p p'. TakesPart p p') ps rs → HaveMetPairs rs vs → AreLogs (map log_by vs) → length (events ++ events_of (merged (map log_by vs))) < 2 ^ 59
    → StandAfter credit names (events ++ events_of (merged (map log_by vs))) (record { nodes = map shown_in vs; views = q.views; stopped = q.stopped; deposits = q.deposits })
    × KeepsStand (state credit names (events ++ events_of (merged (map log_by vs)))) (map keeps_in vs)
turns_stand credit names events q ks h keeps round ps rs vs rest begins turns met are few =
    let w : World = state credit names events in
    let g : IsLawfulAt credit w = lawful_at credit names events h.journal.are h.journal.run in
    let go : GoBetween w = reached_go credit names events h.journal.are h.journal.run in
    let own : OwnEnds w = g.fit.own_ends in
    let all : List (Log Deed) = logs credit.initial w q ks h.stand keeps g.fit.good own go round ps rs vs rest begins turns met in
    let told : map log_by vs ≡ map event_log all = logs_told credit.initial w q ks h.stand keeps g.fit.good own go round ps rs vs rest begins turns met in
    let is : events_of (merged (map log_by vs)) ≡ events_in (merged all) = ap (λ ls. events_of (merged ls)) told ∙ merge_told all in
    let stands = round_stands credit names events q (closed credit.initial w q ks h.stand keeps g.fit.good own go round ps rs vs rest begins turns met) ks (map keeps_in vs) all
    (before credit.initial w q ks h.stand keeps g.fit.good own go round ps rs vs rest begins turns met) (after credit.initial w q ks h.stand keeps g.fit.good own go round ps rs vs rest begins turns met)
    (closed_places credit.initial w q ks h.stand keeps g.fit.good own go round ps rs vs rest begins turns met) h keeps
    (seated_before credit.initial w q ks h.stand keeps g.fit.good own go round ps rs vs rest begins turns met)
    (are_told all (subst AreLogs told are))
    (took_turns credit.initial w q ks h.stand keeps g.fit.good own go round ps rs vs rest begins turns met)
    (subst (λ es. length (events ++ es) < 2 ^ 59) is few)
    (has_closed credit.initial w q ks h.stand keeps g.fit.good own go round ps rs vs rest begins turns met) in
    subst (λ es. StandAfter credit names (events ++ es) (closed credit.initial w q ks h.stand keeps g.fit.good own go round ps rs vs rest begins turns met) × KeepsStand (state credit names (events ++ es)) (map keeps_in vs)) (sym is) stands
