-- Where a round is closed, its parties stand in the state after it.
use Rattle.std.proofs.Common.{◌≡◌, ◌⊎◌, ℕ, ◌+◌, ◌-◌, ◌<◌, ◌≤◌, ◌≢◌, ◌^◌, Bool, true, false, cond, not, nat_eq, nat_lt, List, [], ◌∷◌, ◌++◌, length, map, Option, Some, refl, sym, ap, subst, ◌∙◌, ⊎_elim, arith, append_assoc}
use Rattle.std.specs.Prelude.{◌||◌, ◌&&◌, option_map}
use Rattle.std.specs.List.{filter}
use Rattle.std.proofs.lemmas.Bool.{false≢true, and_from, and_parts, not-true, or_right, ltb-true}
use Rattle.std.proofs.lemmas.List.{map-append}
use Rattle.ring_names.specs.declared.numbers.CreditSpec.{CreditSpec}
use Rattle.ordered_link.specs.Names.{PairName}
use Rattle.lamport_merge.specs.Merge.{Log, merged, AreLogs}
use Rattle.group_view.specs.declared.link.LinkName.{LinkName}
use Rattle.group_view.specs.Ring.{is_in}
use Rattle.group_view.specs.Since.{no_group}
use Rattle.group_view.proofs.Rings.{is_in-append, nat_eq-same}
use Rattle.ring_rules.specs.declared.event.Event.{Event}
use Rattle.ring_rules.specs.Machine.{World, Link, member_at, link_at}
use Rattle.ring_rules.specs.OpenLinks.{is_place, is_current, is_door_link, passes}
use Rattle.ring_rules.specs.Step.{size}
use Rattle.ring_rules.specs.Event.{is_stopped}
use Rattle.ring_rules.proofs.runs.OfEvents.{reached_owns}
use Rattle.gm_member.specs.Held.{Held}
use Rattle.gm_member.specs.Stands.{waits_for}
use Rattle.gm_member.proofs.DoorLists.{in_places}
use Rattle.ring_parties.specs.Ends.{PacketShown, items_in, Carries}
use Rattle.ring_parties.specs.Parties.{Keeps, Deposit, Parties, node_at}
use Rattle.ring_parties.specs.Keeps.{KeepsStand}
use Rattle.ring_parties.specs.Standing.{Places, MemberStands, Stand, StandAfter, HaveDone, name_of, is_to, has_out, has_in}
use Rattle.ring_parties.specs.RoundActs.{Stamped, things, takes}
use Rattle.ring_parties.specs.States.{state}
use Rattle.ring_parties.specs.Seated.{has_in_at, has_out_at, IsSeated}
use Rattle.ring_parties.specs.Round.{Seat, Deed, Sits, Configuration, IsIn, SameLinks, TookTurns, items_at, grants_at, entries_by, events_in}
use Rattle.ring_parties.specs.Closed.{ShowsSeat, may_take, stays_open, has_end, LinkCloses, put_on, given_on, TookTurnsByEnds, completed, HasClosed}
use Rattle.ring_parties.proofs.work.Current.{TakesFromOpen, reached_takes}
use Rattle.ring_parties.proofs.work.Fresh.{reached_go}
use Rattle.ring_parties.proofs.standing.Writing.{in_filter, map_agree}
use Rattle.ring_parties.proofs.standing.Placing.{GoBetween, has_parts}
use Rattle.ring_parties.proofs.events.OneEvent.{met_both, done_items}
use Rattle.ring_parties.proofs.rounds.Merged.{round_runs}
use Rattle.ring_parties.proofs.rounds.Seated.{there_at, seated_items, parties_seated}
use Rattle.ring_parties.proofs.rounds.Deeds.{local_sends}
use Rattle.ring_parties.proofs.rounds.Ended.{end_told, has_end-append, open_unended}
use Rattle.ring_parties.proofs.rounds.Parts.{grants_taken}
use Rattle.ring_parties.proofs.rounds.Turns.{took_turns}

-- ---- which links are open

-- in a state, a link from which its receiver may take hasn't been taken to its end
open_goes_on : (w : World) (s : ℕ) → TakesFromOpen w → has_in w s ≡ true → (link_at w s).over ≡ false
open_goes_on w s takes has =
    let y : ℕ = (link_at w s).receiver in
    ⊎_elim
    (λ (c : (member_at w y).current ≡ Some s). (takes y s c).2)
    (λ (d : waits_for w y s ≡ true).
    let a = and_parts (is_door_link w y s) (passes w y (link_at w s)) d in
    let b = and_parts (nat_eq (link_at w s).receiver y) (not (is_current w y s) && not (link_at w s).over) a.0 in
    not-true (link_at w s).over (and_parts (not (is_current w y s)) (not (link_at w s).over) b.1).1)
    (has_parts w s has)

-- it is one from which the member of a seat in that state may take
open_at : (w : World) (post : List ℕ) (y s : ℕ) (m : Seat) → Sits w post y m → s < length w.links → ((member_at w y).current ≡ Some s) ⊎ (waits_for w y s ≡ true) → may_take post m s ≡ true
open_at w post y s m h l parts = ⊎_elim
    (λ (c : (member_at w y).current ≡ Some s).
    ap (λ b. b || (is_in s m.door || is_in s post)) (ap (λ o. is_place o s) (h.current ∙ c) ∙ nat_eq-same s))
    (λ (d : waits_for w y s ≡ true).
    or_right (is_place m.current s) (is_in s m.door || is_in s post)
    (by_door (is_in s m.door) (is_to w y s) (is_in s post)
    (sym (ap (λ b. cond (is_in s m.door) true b) (in_filter (is_to w y) s post)) ∙ sym (is_in-append s m.door (filter (is_to w y) post)) ∙ sym (ap (is_in s) h.door) ∙ in_places (waits_for w y) 0 (length w.links) s (omega arith) (omega (arith, l)) ∙ d)))
    parts
  where
    by_door : (a t b : Bool) → cond a true (t && b) ≡ true → (a || b) ≡ true
    by_door true t b e = refl
    by_door false true b e = e
    by_door false false b e = cc

-- ---- where a round is closed

module _ (initial : ℕ) (w w' : World) (q q' : Parties) (ks ks' : List Keeps) (st : Stand initial w q) (logs : List (Log Deed)) (a b : Configuration) (p' : Places)
    (seat : IsSeated w st.places q ks a) (inside : IsIn w st.places.deposits a) (turns : TookTurns w logs a (completed w logs a b)) (links : SameLinks w w')
    (after : IsIn w' st.places.deposits (completed w logs a b)) (closed : HasClosed w q st.places logs b q' ks' p') (go : GoBetween w) (goes : GoBetween w') (takes_on : TakesFromOpen w') where
  abbrev p : Places
  p = st.places

  abbrev c : Configuration
  c = completed w logs a b

  was : (x : ℕ) → x < size w' → x < size w
  was x lt = omega (arith, lt, links.size_is)

  there : (s : ℕ) → s < length w'.links → s < length w.links
  there s l = omega (arith, l, links.many)

  sits : (x : ℕ) → 1 ≤ x → x < size w' → Sits w' p.deposits x (c.seats x)
  sits x some lt = after.seats x some lt

  -- a link that is open there has stayed open
  open_is : (s : ℕ) → s < length w'.links → has_in w' s ≡ true → stays_open w p.deposits b s ≡ true
  open_is s l has =
      let y : ℕ = (link_at w' s).receiver in
      let k : (1 ≤ y) × (y < size w') = goes.receiver s l in
      and_from (has_in_at w s) (may_take p.deposits (c.seats (link_at w s).receiver) s)
      (there_at s (length w.links) (has_in w s) (there s l) (links.opens s has))
      (ap (λ (n : LinkName). may_take p.deposits (c.seats n.to.0) s) (sym (links.names s)) ∙ open_at w' p.deposits y s (c.seats y) (sits y k.0 k.1) l (has_parts w' s has))

  -- its in end knows what stands there
  stand_is : (s : ℕ) → stays_open w p.deposits b s ≡ true → things (c.items s) ≡ (p'.ins s).items
  stand_is s on =
      let has : has_in_at w s ≡ true = (and_parts (has_in_at w s) (may_take p.deposits (b.seats (link_at w s).receiver) s) on).0 in
      ap (λ v. things (cond v (b.items s) (a.items s ++ put_on w logs s))) has ∙ closed.stand s on

  -- and an out end what is under way on the way back
  back_is : (s : ℕ) → s < length w.links → has_out w s ≡ true → things (c.grants s) ≡ (p'.outs s).back
  back_is s l o =
      let has : has_out_at w s ≡ true = there_at s (length w.links) (has_out w s) l o in
      ap (λ v. things (cond v (b.grants s) (a.grants s ++ given_on w logs s))) has ∙ closed.back s has

  -- ---- items

  -- what stood on a link, and what was put, is what was taken and what stands there
  items_go : (s : ℕ) → items_in w (link_at w s) ++ things (put_on w logs s) ≡ things (takes (items_at s (entries_by (link_at w s).receiver logs))) ++ things (c.items s)
  items_go s =
      ap (λ xs. xs ++ things (put_on w logs s)) (sym (seated_items initial w q ks st a seat s)) ∙ sym (map-append (λ (z : Stamped (Option PacketShown)). z.it) (a.items s) (put_on w logs s))
      ∙ ap things (turns.items s) ∙ map-append (λ (z : Stamped (Option PacketShown)). z.it) (takes (items_at s (entries_by (link_at w s).receiver logs))) (c.items s)

  -- no end was taken of a link that stays open
  unended : (s : ℕ) → stays_open w p.deposits b s ≡ true → has_end (things (takes (items_at s (entries_by (link_at w s).receiver logs)))) ≡ false
  unended s on =
      let y : ℕ = (link_at w s).receiver in
      let parts = and_parts (has_in_at w s) (may_take p.deposits (c.seats y) s) on in
      let k : (1 ≤ y) × (y < size w) = go.receiver s (ltb-true s (length w.links) (and_parts (nat_lt s (length w.links)) (has_in w s) parts.0).0) in
      open_unended w p.deposits y s (a.seats y) (inside.seats y k.0 k.1) refl (entries_by y logs) (c.seats y) (turns.runs y k.0 k.1) parts.1

  -- so its out end has ended where the end stands there
  ended_is : (s : ℕ) → s < length w.links → has_in w s ≡ true → stays_open w p.deposits b s ≡ true → (p'.outs s).ended ≡ has_end (things (c.items s))
  ended_is s l has on =
      let l0 : Link = link_at w s in
      let puts : List (Option PacketShown) = things (put_on w logs s) in
      let gone : List (Option PacketShown) = things (takes (items_at s (entries_by l0.receiver logs))) in
      (closed.ends s on).ended
      ∙ ap (λ b. b || has_end puts) ((st.stand.carry s l has).ended ∙ sym (end_told w l0.had l0.packets l0.ending))
      ∙ sym (has_end-append (items_in w l0) puts) ∙ ap has_end (items_go s) ∙ has_end-append gone (things (c.items s))
      ∙ ap (λ b. b || has_end (things (c.items s))) (unended s on)

  -- ---- grants

  -- nobody gains on a link whose out end was dropped, so what is under way is what was, and what was given
  grants_go : (s : ℕ) → s < length w.links → has_out w s ≡ false → things (c.grants s) ≡ (link_at w s).flow.grants ++ things (given_on w logs s)
  grants_go s l none =
      let x : ℕ = (link_at w s).sender in
      let k : (1 ≤ x) × (x < size w) = go.sender s l in
      let apart : (a.seats x).out ≢ Some s = λ (e : (a.seats x).out ≡ Some s). false≢true (sym none ∙ ap (λ o. is_place o s) (sym (inside.seats x k.0 k.1).out ∙ e) ∙ nat_eq-same s) in
      let gains : takes (grants_at s (entries_by x logs)) ≡ [] = grants_taken s (entries_by x logs) ∙ (local_sends s (entries_by x logs) (a.seats x) (c.seats x) apart (turns.runs x k.0 k.1)).1 in
      ap things (sym (turns.grants s ∙ ap (λ gs. gs ++ c.grants s) gains))
      ∙ map-append (λ (z : Stamped ℕ). z.it) (a.grants s) (given_on w logs s) ∙ ap (λ gs. gs ++ things (given_on w logs s)) (inside.grants s)

  grants_stand : (s : ℕ) (has : Bool) → has_out w s ≡ has → s < length w.links → has_in w s ≡ true → stays_open w p.deposits b s ≡ true → (p'.outs s).gained ++ (link_at w' s).flow.grants ≡ (p'.ins s).given
  grants_stand s true o l has on =
      ap (λ gs. (p'.outs s).gained ++ gs) (sym (after.grants s) ∙ back_is s l o) ∙ (met_both (has_out w s) (p'.outs s) (p'.ins s) o (closed.ends s on).met).grants
  grants_stand s false o l has on =
      let k = (closed.ends s on).dropped o in
      let gives : List ℕ = things (given_on w logs s) in
      ap (λ gs. (p'.outs s).gained ++ gs) (sym (after.grants s) ∙ grants_go s l o) ∙ ap (λ gs. gs ++ ((link_at w s).flow.grants ++ gives)) k.0
      ∙ sym (append_assoc (p.outs s).gained (link_at w s).flow.grants gives) ∙ ap (λ gs. gs ++ gives) (st.stand.carry s l has).grants ∙ sym k.1

  -- ---- all

  closed_carry : (s : ℕ) → s < length w'.links → has_in w' s ≡ true → Carries w' initial (link_at w' s) (p'.outs s) (p'.ins s)
  closed_carry s l has =
      let lw : s < length w.links = there s l in
      let had : has_in w s ≡ true = links.opens s has in
      let on : stays_open w p.deposits b s ≡ true = open_is s l has in
      let before : Carries w initial (link_at w s) (p.outs s) (p.ins s) = st.stand.carry s lw had in
      let k : LinkCloses (has_out w s) (p.outs s) (p.ins s) (p'.outs s) (p'.ins s) (things (put_on w logs s)) (things (given_on w logs s)) = closed.ends s on in
      let stand : things (c.items s) ≡ items_in w' (link_at w' s) = after.items s (open_goes_on w' s takes_on has) in
      record {
        items = ap (λ xs. (p'.ins s).taken ++ xs) (sym stand ∙ stand_is s on) ∙ done_items (has_out w s) (p'.outs s) (p'.ins s) k.met;
        grants = grants_stand s (has_out w s) refl lw had on;
        late = k.late;
        ended = ended_is s lw had on ∙ ap has_end stand ∙ end_told w' (link_at w' s).had (link_at w' s).packets (link_at w' s).ending;
        initial = k.out_initial ∙ before.initial;
        fits = record {
          initial = k.in_initial ∙ before.fits.initial ∙ sym k.out_initial;
          ring = k.in_ring ∙ before.fits.ring ∙ sym k.out_ring;
          slots = ap (λ (r : PairName). r.slots) k.out_ring ∙ before.fits.slots ∙ ap (λ i. i + 1) (sym k.out_initial);
        };
      }

  closed_member : (x : ℕ) → 1 ≤ x → x < size w' → MemberStands w' p' x (node_at q' (x - 1))
  closed_member x some lt =
      let m : Seat = c.seats x in
      let s : Sits w' p.deposits x m = sits x some lt in
      let k : ShowsSeat p' m (node_at q' (x - 1)) = closed.each x some (was x lt) in
      record {
        door = m.door;
        comes = s.door ∙ ap (λ ds. m.door ++ filter (is_to w' x) ds) (sym closed.post);
        held = k.held ∙ s.held;
        out = k.out ∙ ap (option_map p'.outs) s.out;
        returned = k.returned;
        link = k.link ∙ ap (option_map p'.ins) s.current;
        ends = k.ends;
        old_outs = k.old_outs;
        old_ins = k.old_ins;
      }

  -- a link that waits, as it is shown with a name
  abbrev waiting : LinkName → ℕ → Deposit
  waiting n s = record { name = n; end = Some (p'.ins s) }

  pub closed_stands : Stand initial w' q'
  closed_stands = record {
    places = p';
    stand = record {
      count = ap (λ n. n + 1) closed.count ∙ st.stand.count ∙ sym links.size_is;
      each = closed_member;
      views = links.views ∙ st.stand.views ∙ ap (λ vs. no_group ∷ vs) (sym closed.views);
      stopped = λ x some lt. closed.stopped x some (was x lt) ∙ ap (λ (g : Held). is_stopped g.phase) (sits x some lt).held;
      nobody_else = λ x ge. closed.nobody_else x (omega (arith, ge, links.size_is));
      deposits =
          closed.deposits ∙ map_agree (λ s. waiting (name_of w s) s) (λ s. waiting (name_of w' s) s) p.deposits (λ s _. ap (λ n. waiting n s) (sym (links.names s)))
          ∙ ap (map (λ s. waiting (name_of w' s) s)) (sym closed.post);
      within = λ s e. omega (arith, st.stand.within s (subst (λ ds. is_in s ds ≡ true) closed.post e), links.many);
      carry = closed_carry;
    };
    met = λ s l has. subst (λ b. HaveDone b (p'.outs s) (p'.ins s)) (sym (links.has_outs s)) (closed.ends s (open_is s l has)).met;
    known = λ s l left o. sym (back_is s (there s l) (sym (links.has_outs s) ∙ o)) ∙ after.grants s;
  }

  pub closed_keeps : KeepsStand w' ks'
  closed_keeps = record {
    count = ap (λ n. n + 1) closed.keeps_count ∙ st.stand.count ∙ sym links.size_is;
    each = λ x some lt. closed.keeps x some (was x lt) ∙ (sits x some lt).keeps;
  }

-- ---- after a journal

-- Where parties stand after a journal, and their members take their turns in a round from there on, they stand after the journal with the merge of
-- their logs behind it, once the round is closed.
pub round_stands : (credit : CreditSpec) (names : List (List ℕ)) (before : List Event) (q q' : Parties) (ks ks' : List Keeps) (logs : List (Log Deed)) (a b : Configuration) (p' : Places) (h : StandAfter credit names before q)
    → KeepsStand (state credit names before) ks → IsSeated (state credit names before) h.stand.places q ks a → AreLogs logs → TookTurnsByEnds (state credit names before) logs a b → length (before ++ events_in (merged logs)) < 2 ^ 59
    → HasClosed (state credit names before) q h.stand.places logs b q' ks' p' → StandAfter credit names (before ++ events_in (merged logs)) q' × KeepsStand (state credit names (before ++ events_in (merged logs))) ks'
round_stands credit names before q q' ks ks' logs a b p' h keeps seat are by_ends few closed =
    let w : World = state credit names before in
    let c : Configuration = completed w logs a b in
    let events : List Event = before ++ events_in (merged logs) in
    let w' : World = state credit names events in
    let first : IsIn w h.stand.places.deposits a = parties_seated credit.initial w q ks h.stand a keeps seat in
    let turns : TookTurns w logs a c = took_turns w h.stand.places.deposits logs a b (reached_owns credit names before h.journal.are h.journal.run) first by_ends in
    let round = round_runs credit names before h.stand.places.deposits logs a c h.journal.are h.journal.run first are turns in
    let go : GoBetween w = reached_go credit names before h.journal.are h.journal.run in
    let goes : GoBetween w' = reached_go credit names events h.journal.are round.0 in
    let takes : TakesFromOpen w' = reached_takes credit names events h.journal.are round.0 in (
      record {
        journal = record { are = h.journal.are; run = round.0; few = few };
        stand = closed_stands credit.initial w w' q q' ks ks' h.stand logs a b p' seat first turns round.2 round.1 closed go goes takes;
      },
      closed_keeps credit.initial w w' q q' ks ks' h.stand logs a b p' seat first turns round.2 round.1 closed go goes takes,
    )
