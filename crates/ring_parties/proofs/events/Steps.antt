-- Where one member steps by itself: from what is its own in the step, that all parties stand in the state after it.
use Rattle.std.proofs.Common.{◌≡◌, ◌≢◌, inl, nat_eq, ℕ, ◌+◌, ◌-◌, ◌<◌, ◌≤◌, true, false, List, [], ◌∷◌, length, map, set, Option, Some, None, refl, sym, ap, subst, ◌∙◌, ⊎_elim, arith}
use Rattle.std.specs.Prelude.{option_map}
use Rattle.std.proofs.lemmas.Bool.{false≢true, cases_eq}
use Rattle.std.proofs.lemmas.List.{length-set, get_or-set_same, get_or-set_other}
use Rattle.ring_names.specs.declared.numbers.CreditSpec.{CreditSpec}
use Rattle.ring_names.specs.declared.reason.Reason.{Reason}
use Rattle.ring_names.specs.declared.reason.Reason.TheVariants as reason
use Rattle.group_view.specs.declared.link.LinkName.{LinkName}
use Rattle.group_view.specs.Ring.{is_in}
use Rattle.group_view.proofs.Rings.{in_head, in_tail, head_differs}
use Rattle.ring_rules.specs.Machine.{World, Link, Member, no_link, member_at, link_at, runs, runs_phase}
use Rattle.ring_rules.specs.declared.phase.Phase.TheVariants.{Up}
use Rattle.ring_rules.specs.Step.{size, log_of, with_member}
use Rattle.ring_rules.specs.Event.{up_refusal, on_link, at_found, is_stopped}
use Rattle.ring_rules.proofs.events.Enabled.{up_phase, up_later}
use Rattle.gm_member.specs.Held.{at_some}
use Rattle.gm_member.specs.Stands.{held_in, waits_for, door_links}
use Rattle.ring_rules.proofs.work.OwnEnds.{OwnEnds}
use Rattle.gm_member.proofs.Parts.{current_waits_not, other_waits_not}
use Rattle.ring_parties.specs.Ends.{OutSeen, InSeen, Carries, HaveMet, HasRested}
use Rattle.ring_parties.specs.Parties.{Shown, Parties, node_at, with_node}
use Rattle.ring_parties.specs.Standing.{Places, MemberStands, Stand, name_of, has_out, has_in}
use Rattle.ring_parties.specs.Replaced.{moved_by, sender_to}
use Rattle.ring_parties.proofs.work.Lawful.{IsLawfulAt}
use Rattle.ring_parties.proofs.standing.Writing.{placed_same, placed_other, map_agree}
use Rattle.ring_parties.proofs.standing.Placing.{deposit_is}
use Rattle.ring_parties.proofs.meetings.NamedLinks.{out_has, out_is_open}
use Rattle.ring_parties.proofs.standing.Showing.{with_outs, each_set}
use Rattle.ring_parties.proofs.meetings.Meetings.{waiting_at}
use Rattle.ring_parties.proofs.standing.Frames.{SameWays, way, link_ways, same_of, same_name, same_to, same_in, same_out, same_doors, carries_logs, carries_same, Does, goes_stands, stays_stands, StandMoved}
use Rattle.ring_parties.proofs.events.OneEvent.{found_does, link_there, stands_at, met_rested, met_both}
use Rattle.ring_parties.proofs.meetings.Known.{known_still, not_left}

-- ---- the event

-- where the event changes the state so, the parties are these, and nothing is replaced
pub goes_so : (initial x : ℕ) (w w' : World) (q q' : Parties) (replaced : Option (LinkName × OutSeen)) → w' ≡ w → q' ≡ q → replaced ≡ None → StandMoved initial x w q None → StandMoved initial x w' q' replaced
goes_so initial x w w' q q' replaced ew eq none st =
    subst (λ v. StandMoved initial x v q' replaced) (sym ew)
    (subst (λ r. StandMoved initial x w r replaced) (sym eq)
    (subst (StandMoved initial x w q) (sym none) st))

-- the state in which the members are these, and link s is l
abbrev pub sends_in : World → List Member → ℕ → Link → World
sends_in w ms s l = record w { members = ms; links = set w.links s l }

-- What an event of x does that writes the link on which x sends, where it may happen: x runs, and has such a link.
pub record OnOut (w w' : World) (x : ℕ) (becomes : ℕ → Link) : Type 0 where
  pub link : ℕ
  pub is : (member_at w x).out ≡ Some link
  pub is_member : x < size w
  pub within : link < length w.links
  pub up : (member_at w x).phase ≡ Up
  pub run : runs w x ≡ true
  pub so : w' ≡ sends_in w w.members link (becomes link)

pub on_out : (credit : CreditSpec) (w : World) (x : ℕ) (later : ℕ → Option Reason) (becomes : ℕ → Link) → IsLawfulAt credit w → up_refusal w x (on_link (member_at w x).out reason.NoOutLink later) ≡ None → x < size w
    → OnOut w (at_found (member_at w x).out w (λ s. sends_in w w.members s (becomes s))) x becomes
on_out credit w x later becomes h enabled lt =
    let there = link_there (member_at w x).out reason.NoOutLink later (up_later w x _ enabled) in
    record {
      link = there.0;
      is = there.1;
      is_member = lt;
      within = (h.fit.own_ends.out x there.0 there.1).0;
      up = up_phase w x _ enabled;
      run = ap runs_phase (up_phase w x _ enabled);
      so = found_does (member_at w x).out there.0 w (λ s. sends_in w w.members s (becomes s)) there.1;
    }

-- ---- what is left as it was

-- What a step of x leaves of links and of the other members: links have their names, and are open only where they were; their senders have their
-- out ends as before; the others send on and take from the links that they did, and have the same links at their doors; x itself takes from the
-- link from which it did, where that is still open.
pub record Leaves (w w' : World) (x : ℕ) : Type 0 where
  pub size_is : size w' ≡ size w
  pub many : length w'.links ≡ length w.links
  pub views : w'.views ≡ w.views
  pub names : (s : ℕ) → name_of w' s ≡ name_of w s
  pub has_outs : (s : ℕ) → has_out w' s ≡ has_out w s
  pub opens : (s : ℕ) → has_in w' s ≡ true → has_in w s ≡ true
  pub outs : (y : ℕ) → y ≢ x → (member_at w' y).out ≡ (member_at w y).out
  pub currents : (y : ℕ) → y ≢ x → (member_at w' y).current ≡ (member_at w y).current
  pub doors : (y : ℕ) → y ≢ x → door_links w' y ≡ door_links w y
  pub keeps : (s : ℕ) → has_in w' s ≡ true → (member_at w x).current ≡ Some s → (member_at w' x).current ≡ Some s

-- so where links go their ways
pub ways_leave : (w w' : World) (x : ℕ) → SameWays w w' → Leaves w w' x
ways_leave w w' x h = record {
  size_is = h.size_is;
  many = h.many;
  views = h.views;
  names = λ s. same_name w w' s (h.ways s);
  has_outs = λ s. same_out w w' s h;
  opens = λ s has. sym (same_in w w' s h) ∙ has;
  outs = λ y _. h.outs y;
  currents = λ y _. h.currents y;
  doors = λ y _. same_doors w w' y h;
  keeps = λ s _ e. h.currents x ∙ e;
}

-- Where those in before gave notice in w, those in ids did in w': just those that have stopped there, and nobody beyond the members.
pub record Notices (w w' : World) (before ids : List ℕ) : Type 0 where
  pub told : (y : ℕ) → is_in y before ≡ is_stopped (member_at w y).phase → is_in y ids ≡ is_stopped (member_at w' y).phase
  pub none_told : (y : ℕ) → size w ≤ y → is_in y before ≡ false → is_in y ids ≡ false

-- notices are as they were where a member is written that has stopped no more than before
pub same_phases : (w : World) (x : ℕ) (m : Member) (ids : List ℕ) → x < size w → is_stopped m.phase ≡ is_stopped (member_at w x).phase → (y : ℕ) → is_in y ids ≡ is_stopped (member_at w y).phase → is_in y ids ≡ is_stopped (member_at (with_member w x m) y).phase
same_phases w x m ids lt e y r = r ∙ sym (same_of (λ (a : Member). is_stopped a.phase) w x m lt e y)

-- a link from which a member takes waits for nobody
pub taken_waits_not : (w : World) (x y s : ℕ) → OwnEnds w → (member_at w x).current ≡ Some s → waits_for w y s ≡ false
taken_waits_not w x y s own e = ⊎_elim
    (λ (same : y ≡ x). ap (λ z. waits_for w z s) same ∙ current_waits_not w x s e)
    (λ (ne : y ≢ x). other_waits_not w y s (λ to. ne (sym to ∙ (own.current x s e).1)))
    (cases_eq y x)

-- ---- one link

-- where link s became l, and its ends carry it, all carry theirs
pub carries_at : (initial : ℕ) (w w' : World) (p p' : Places) (s : ℕ) (l : Link) → ((r : ℕ) → log_of w' r ≡ log_of w r) → link_at w' s ≡ l
    → ((j : ℕ) → j ≢ s → (link_at w' j ≡ link_at w j) × (p'.outs j ≡ p.outs j) × (p'.ins j ≡ p.ins j))
    → (Carries w initial (link_at w s) (p.outs s) (p.ins s) → Carries w initial l (p'.outs s) (p'.ins s))
    → (j : ℕ) → Carries w initial (link_at w j) (p.outs j) (p.ins j) → Carries w' initial (link_at w' j) (p'.outs j) (p'.ins j)
carries_at initial w w' p p' s l logs is others now j c = ⊎_elim
    (λ (same : j ≡ s).
    let before : Carries w initial (link_at w s) (p.outs s) (p.ins s) = subst (λ k. Carries w initial (link_at w k) (p.outs k) (p.ins k)) same c in
    subst (λ k. Carries w' initial (link_at w' k) (p'.outs k) (p'.ins k)) (sym same)
    (subst (λ k. Carries w' initial k (p'.outs s) (p'.ins s)) (sym is) (carries_logs initial w w' l (p'.outs s) (p'.ins s) logs (now before))))
    (λ (ne : j ≢ s).
    let k = others j ne in
    subst (λ o. Carries w' initial (link_at w' j) o (p'.ins j)) (sym k.1)
    (subst (Carries w' initial (link_at w' j) (p.outs j)) (sym k.2) (carries_same initial w w' j (p.outs j) (p.ins j) logs k.0 c)))
    (cases_eq j s)

-- ---- all parties

-- who sends on the link from which x takes is among those whose ends may have moved
in_moved : (x : ℕ) (w : World) (s : ℕ) → (member_at w x).current ≡ Some s → is_in (link_at w s).sender (moved_by x w) ≡ true
in_moved x w s e = in_tail (link_at w s).sender x (sender_to x w) (ap (λ c. is_in (link_at w s).sender (at_some c [] (λ t. (link_at w t).sender ∷ []))) e ∙ in_head (link_at w s).sender [])

-- The member at place i steps: it stands at its id x in the state after that, and the others hold what they held. Only ends of the links on which x
-- sends and from which it takes show something else, and they carry these; who gave notice then is in ids.
pub record Steps (initial : ℕ) (w w' : World) (q : Parties) (ids : List ℕ) (p p' : Places) (x : ℕ) (b : Shown) : Type 0 where
  pub leaves : Leaves w w' x
  pub deposits : p'.deposits ≡ p.deposits
  pub it : MemberStands w' p' x b
  pub held : (y : ℕ) → y ≢ x → held_in w y ≡ held_in w' y
  pub notices : Notices w w' q.stopped ids
  pub outs : (s : ℕ) → (member_at w x).out ≢ Some s → p'.outs s ≡ p.outs s
  pub ins : (s : ℕ) → (member_at w x).current ≢ Some s → p'.ins s ≡ p.ins s
  pub carry : (s : ℕ) → has_in w' s ≡ true → Carries w initial (link_at w s) (p.outs s) (p.ins s) → Carries w' initial (link_at w' s) (p'.outs s) (p'.ins s)
  pub rests : (s : ℕ) (o : OutSeen) → HasRested o (p.ins s) → HasRested o (p'.ins s)
  pub knows : (s : ℕ) → has_in w' s ≡ false → ((p'.outs s).back ≡ (p.outs s).back) × ((link_at w' s).flow.grants ≡ (link_at w s).flow.grants)

-- so all parties stand in that state, and ends have still to meet
pub steps : (credit : CreditSpec) (w w' : World) (q : Parties) (ids : List ℕ) (p' : Places) (i : ℕ) (b : Shown) (st : Stand credit.initial w q) → IsLawfulAt credit w → i + 1 < size w → Steps credit.initial w w' q ids st.places p' (i + 1) b
    → StandMoved credit.initial (i + 1) w' (record (with_node q i b) { stopped = ids }) None
steps credit w w' q ids p' i b st h lt k = record {
  places = p';
  stand = record {
    count = (let same : length (set q.nodes i b) ≡ length q.nodes = length-set q.nodes i b in omega (arith, same, st.stand.count, left.size_is));
    each = λ z c m. subst (λ j. MemberStands w' p' z (node_at (with_node q j b) (z - 1))) place
        (each_set w w' q p p' x b st.stand.count some lt k.it others z c (omega (arith, left.size_is)));
    views = left.views ∙ st.stand.views;
    stopped = λ z c m. k.notices.told z (st.stand.stopped z c (omega (arith, left.size_is)));
    nobody_else = λ z ge. (let beyond : size w ≤ z = omega (arith, ge, left.size_is) in k.notices.none_told z beyond (st.stand.nobody_else z beyond));
    deposits = st.stand.deposits ∙ map_agree (waiting_at w p) (waiting_at w' p') p.deposits waits_on ∙ ap (map (waiting_at w' p')) (sym k.deposits);
    within = λ s e. (let there : s < length w.links = st.stand.within s (ap (is_in s) (sym k.deposits) ∙ e) in omega (arith, left.many));
    carry = λ s l has. k.carry s has (st.stand.carry s (omega (arith, left.many)) (left.opens s has));
  };
  dropped = λ s l has lost.
      let before : has_out w s ≡ false = sym (left.has_outs s) ∙ lost in
      let ne : (member_at w x).out ≢ Some s = λ e. false≢true (sym before ∙ out_has credit w x s h e) in
      let rested : HasRested (p.outs s) (p.ins s) = met_rested (has_out w s) (p.outs s) (p.ins s) before (st.met s (omega (arith, left.many)) (left.opens s has)) in
      inl (subst (λ o. HasRested o (p'.ins s)) (sym (k.outs s ne)) (k.rests s (p.outs s) rested));
  fits = λ s o l has e. cc;
  met = λ s l has o apart.
      let from : (link_at w' s).sender ≡ (link_at w s).sender = ap (λ (n : LinkName). n.from.0) (left.names s) in
      let not_out : (member_at w x).out ≢ Some s = λ e. head_differs (link_at w' s).sender x (sender_to x w') apart (sym (from ∙ (h.fit.own_ends.out x s e).1)) in
      let not_in : (member_at w x).current ≢ Some s = λ e. false≢true (sym apart ∙ in_moved x w' s (left.keeps s has e)) in
      subst (HaveMet (p'.outs s)) (sym (k.ins s not_in)) (subst (λ a. HaveMet a (p.ins s)) (sym (k.outs s not_out))
      (met_both (has_out w s) (p.outs s) (p.ins s) (sym (left.has_outs s) ∙ o) (st.met s (omega (arith, left.many)) (left.opens s has))));
  known = known_still credit.initial w w' q p' st left.many left.has_outs k.knows;
}
  where
    x : ℕ
    x = i + 1

    p : Places
    p = st.places

    some : 1 ≤ i + 1
    some = omega arith

    place : i + 1 - 1 ≡ i
    place = omega arith

    left : Leaves w w' x
    left = k.leaves

    -- a link that waits isn't the one from which x takes
    apart : (y s : ℕ) → waits_for w y s ≡ true → (member_at w x).current ≢ Some s
    apart y s waits e = false≢true (sym (taken_waits_not w x y s h.fit.own_ends e) ∙ waits)

    -- nor does x take from one that waits at the registrar
    waits_on : (s : ℕ) → is_in s p.deposits ≡ true → waiting_at w p s ≡ waiting_at w' p' s
    waits_on s there =
        let ne : (member_at w x).current ≢ Some s = λ e. apart x s (deposit_is w p x s (node_at q i) (stands_at credit.initial w q p i st.stand lt) (h.fit.own_ends.current x s e).1 there).1 e in
        ap (λ n. record (waiting_at w p s) { name = n }) (sym (left.names s)) ∙ ap (λ n. record (waiting_at w' p s) { end = Some n }) (sym (k.ins s ne))

    others : (y : ℕ) → 1 ≤ y → y < size w → y ≢ x → MemberStands w' p' y (node_at q (y - 1))
    others y some ly ne = stays_stands w w' p p' y (node_at q (y - 1))
        (record {
          doors = left.doors y ne;
          to = λ s. ap (λ (n : LinkName). nat_eq n.to.0 y) (left.names s);
          deposits = k.deposits;
          ins = λ s waits. k.ins s (apart y s waits);
        })
        (k.held y ne) (left.outs y ne) (left.currents y ne)
        (λ s e. k.outs s (λ its. ne (sym (h.fit.own_ends.out y s e).1 ∙ (h.fit.own_ends.out x s its).1)))
        (λ s e. k.ins s (λ its. ne (sym (h.fit.own_ends.current y s e).1 ∙ (h.fit.own_ends.current x s its).1)))
        (st.stand.each y some ly)

-- ---- where links go their ways

-- a member that does something stands at its id x then, where its two ends are those of its links
pub ways_stand : (w w' : World) (p p' : Places) (x : ℕ) (m b : Shown) (out : Option OutSeen) (link : Option InSeen) → SameWays w w' → p'.deposits ≡ p.deposits → ((s : ℕ) → waits_for w x s ≡ true → p'.ins s ≡ p.ins s) → Does w w' x m b out link
    → out ≡ option_map p'.outs (member_at w x).out → link ≡ option_map p'.ins (member_at w x).current → MemberStands w p x m → MemberStands w' p' x b
ways_stand w w' p p' x m b out link h deposits ins does eo el a = goes_stands w w' p p' x m b out link
    (record { doors = same_doors w w' x h; to = λ s. same_to w w' x s (h.ways s); deposits = deposits; ins = ins })
    does (eo ∙ ap (option_map p'.outs) (sym (h.outs x))) (el ∙ ap (option_map p'.ins) (sym (h.currents x))) a

-- ---- the end with which a member sends

-- The member at place i does something to the link s on which it sends: that became l, and its out end o.
pub record SendsOnce (credit : CreditSpec) (w : World) (ms : List Member) (q : Parties) (ids : List ℕ) (p : Places) (i s : ℕ) (l : Link) (o : OutSeen) (b : Shown) : Type 0 where
  pub out : (member_at w (i + 1)).out ≡ Some s
  pub run : runs w (i + 1) ≡ true
  pub ways : SameWays w (sends_in w ms s l)
  pub logs : (r : ℕ) → log_of (sends_in w ms s l) r ≡ log_of w r
  pub does : Does w (sends_in w ms s l) (i + 1) (node_at q i) b (Some o) (node_at q i).ends.link
  pub held : (y : ℕ) → y ≢ i + 1 → held_in w y ≡ held_in (sends_in w ms s l) y
  pub notices : Notices w (sends_in w ms s l) q.stopped ids
  pub carries : Carries w credit.initial (link_at w s) (p.outs s) (p.ins s) → Carries w credit.initial l o (p.ins s)

-- so all parties stand then, with all else as it was
pub sends_once : (credit : CreditSpec) (w : World) (ms : List Member) (q : Parties) (ids : List ℕ) (i s : ℕ) (l : Link) (o : OutSeen) (b : Shown) (st : Stand credit.initial w q) → IsLawfulAt credit w → i + 1 < size w → SendsOnce credit w ms q ids st.places i s l o b
    → StandMoved credit.initial (i + 1) (sends_in w ms s l) (record (with_node q i b) { stopped = ids }) None
sends_once credit w ms q ids i s l o b st h lt k =
    let x : ℕ = i + 1 in
    let p : Places = st.places in
    let p' : Places = with_outs p s o in
    let w' : World = sends_in w ms s l in
    let sl : s < length w.links = (h.fit.own_ends.out x s k.out).0 in
    let a : MemberStands w p x (node_at q i) = stands_at credit.initial w q p i st.stand lt in
    let here : p'.outs s ≡ o = placed_same p.outs s o in
    let other : (j : ℕ) → j ≢ s → p'.outs j ≡ p.outs j = λ j ne. placed_other p.outs s o j ne in
    let other_link : (j : ℕ) → j ≢ s → link_at w' j ≡ link_at w j = λ j ne. get_or-set_other w.links s j l no_link ne in
    steps credit w w' q ids p' i b st h lt (record {
      leaves = ways_leave w w' x k.ways;
      deposits = refl;
      it = ways_stand w w' p p' x (node_at q i) b (Some o) (node_at q i).ends.link k.ways refl (λ j _. refl) k.does (ap Some (sym here) ∙ ap (option_map p'.outs) (sym k.out)) a.link a;
      held = k.held;
      notices = k.notices;
      outs = λ j ne. other j (λ (same : j ≡ s). ne (k.out ∙ ap Some (sym same)));
      ins = λ j _. refl;
      carry = λ j _ c. carries_at credit.initial w w' p p' s l k.logs (get_or-set_same w.links s l no_link sl) (λ t ne. (other_link t ne, other t ne, refl))
          (λ before. subst (λ e. Carries w credit.initial l e (p.ins s)) (sym here) (k.carries before)) j c;
      rests = λ j e r. r;
      knows = λ j gone.
          let ne : j ≢ s = not_left w j s (sym (same_in w w' j k.ways) ∙ gone) (out_is_open credit w x s h k.run k.out) in
          (ap (λ (e : OutSeen). e.back) (other j ne), ap (λ (t : Link). t.flow.grants) (other_link j ne));
    })

-- so where an event writes that link, and nothing else of the state
pub goes_out : (credit : CreditSpec) (w w' : World) (q q' : Parties) (i : ℕ) (replaced : Option (LinkName × OutSeen)) (becomes : ℕ → Link) (o : OutSeen) (b : Shown) (st : Stand credit.initial w q) → IsLawfulAt credit w → (on : OnOut w w' (i + 1) becomes) → way (becomes on.link) ≡ way (link_at w on.link)
    → q' ≡ with_node q i b → replaced ≡ None → ((y : ℕ) → y ≢ i + 1 → held_in w y ≡ held_in (sends_in w w.members on.link (becomes on.link)) y) → Does w (sends_in w w.members on.link (becomes on.link)) (i + 1) (node_at q i) b (Some o) (node_at q i).ends.link
    → (Carries w credit.initial (link_at w on.link) (st.places.outs on.link) (st.places.ins on.link) → Carries w credit.initial (becomes on.link) o (st.places.ins on.link)) → StandMoved credit.initial (i + 1) w' q' replaced
goes_out credit w w' q q' i replaced becomes o b st h on same is none held does carries =
    goes_so credit.initial (i + 1) (sends_in w w.members on.link (becomes on.link)) w' (with_node q i b) q' replaced on.so is none
    (sends_once credit w w.members q q.stopped i on.link (becomes on.link) o b st h on.is_member (record {
      out = on.is;
      run = on.run;
      ways = link_ways w on.link (becomes on.link) on.within same;
      logs = λ r. refl;
      does = does;
      held = held;
      notices = record { told = λ y r. r; none_told = λ y _ r. r };
      carries = carries;
    }))
