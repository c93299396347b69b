-- Where a member has stopped, the parties stand in the state after the ring's stop.
use Rattle.std.proofs.Common.{◌≡◌, ◌≢◌, nat_eq, ℕ, ◌+◌, ◌<◌, ◌≤◌, arith, Bool, true, false, cond, List, [], ◌∷◌, ◌++◌, length, Option, Some, None, is_some, refl, sym, ap, subst, ◌∙◌, ⊎_elim}
use Rattle.std.specs.Prelude.{option_map}
use Rattle.std.proofs.lemmas.Bool.{cases_eq}
use Rattle.ring_names.specs.declared.numbers.CreditSpec.{CreditSpec}
use Rattle.group_view.specs.declared.link.LinkName.{LinkName}
use Rattle.group_view.specs.Ring.{is_in}
use Rattle.group_view.proofs.Rings.{is_in-append}
use Rattle.ring_rules.specs.Kind.{Stops}
use Rattle.ring_rules.specs.declared.phase.Ending.TheVariants.{Halted}
use Rattle.ring_rules.specs.Machine.{World, Link, Member, member_at, link_at, runs}
use Rattle.ring_rules.specs.Step.{size, stopped, stop_at, ended, ended_so, end_out}
use Rattle.ring_rules.specs.Event.{refused_as, done_as, is_stopped}
use Rattle.ring_rules.proofs.rings.Rounds.{nat_eq-same, nat_eq-not}
use Rattle.group_view.proofs.Truth.{later_true, cond_itself}
use Rattle.ring_rules.proofs.code.Enables.{running_runs}
use Rattle.gm_member.specs.Held.{Held, stopped_held}
use Rattle.gm_member.specs.Stands.{held_in}
use Rattle.gm_member.proofs.Fit.{IsFit}
use Rattle.gm_member.proofs.DoorParts.{member_same, member_other}
use Rattle.gm_member.proofs.StopStands.{stop_stands}
use Rattle.gm_member.proofs.Others.{stop_others}
use Rattle.ring_parties.specs.Ends.{OutSeen}
use Rattle.ring_parties.specs.Parties.{Shown, Parties, node_at, with_node, Keeps}
use Rattle.ring_parties.specs.Standing.{Places, MemberStands, Stand}
use Rattle.ring_parties.specs.Acting.{EndsIts, Acts}
use Rattle.ring_parties.proofs.work.Lawful.{IsLawfulAt}
use Rattle.ring_parties.proofs.meetings.NamedLinks.{out_unended}
use Rattle.ring_parties.proofs.standing.Frames.{SameWays, same_of, link_ways, member_ways, ways_both, carries_logs, Does, StandMoved, end_carries}
use Rattle.ring_parties.proofs.events.OneEvent.{stands_at}
use Rattle.ring_parties.proofs.events.Steps.{goes_so, ways_leave, steps, ways_stand, sends_once}

-- ---- notices

-- one more gave notice: the one that has stopped
stop_told : (w : World) (x : ℕ) (ids : List ℕ) → x < size w → (y : ℕ) → is_in y ids ≡ is_stopped (member_at w y).phase → is_in y (ids ++ x ∷ []) ≡ is_stopped (member_at (stop_at w x) y).phase
stop_told w x ids lt y e =
    is_in-append y ids (x ∷ []) ∙ ap (λ k. cond k true (is_in y (x ∷ []))) e
    ∙ ⊎_elim
    (λ (is : y ≡ x).
    ap (λ k. cond was true (cond k true false)) (ap (λ z. nat_eq z x) is ∙ nat_eq-same x) ∙ later_true {c = true} was refl
    ∙ sym (ap (λ z. is_stopped (member_at (stop_at w x) z).phase) is ∙ ap (λ (a : Member). is_stopped a.phase) (member_same w x (stopped (member_at w x)) lt)))
    (λ (ne : y ≢ x).
    ap (λ k. cond was true (cond k true false)) (nat_eq-not y x ne) ∙ cond_itself was
    ∙ sym (ap (λ (a : Member). is_stopped a.phase) (member_other w x y (stopped (member_at w x)) ne)))
    (cases_eq y x)
  where
    was : Bool
    was = is_stopped (member_at w y).phase

-- nobody beyond the members did
stop_none_told : (w : World) (x : ℕ) (ids : List ℕ) → x < size w → (y : ℕ) → size w ≤ y → is_in y ids ≡ false → is_in y (ids ++ x ∷ []) ≡ false
stop_none_told w x ids lt y ge e =
    is_in-append y ids (x ∷ []) ∙ ap (λ k. cond k true (is_in y (x ∷ []))) e
    ∙ ap (λ k. cond k true false) (nat_eq-not y x (λ (is : y ≡ x). omega (arith, is, lt, ge)))

-- ---- the parties

-- the state in which x has stopped, and its out link has ended
abbrev stopped_in : World → ℕ → Option ℕ → World
stopped_in w x o = end_out Halted (stop_at w x) o

-- x holds then what the state has for it
stop_does : (w : World) (x : ℕ) (o : Option ℕ) (a b : Shown) (out : Option OutSeen) → IsFit w → x < size w → (member_at w x).out ≡ o → b ≡ record { held = stopped_held a.held; ends = record a.ends { out = out } } → Does w (stopped_in w x o) x a b out a.ends.link
stop_does w x o a b out f lt e is = record {
  does = λ (g : Held). stopped_held g;
  but_door = λ g ds. refl;
  stands = stop_stands w x f lt ∙ ap (λ c. held_in (stopped_in w x c) x) e;
  is = is;
}

-- and so do the others
stop_leaves : (w : World) (x y : ℕ) (o : Option ℕ) → IsFit w → (member_at w x).out ≡ o → y ≢ x → held_in w y ≡ held_in (stopped_in w x o) y
stop_leaves w x y o f e ne = stop_others w x y f ne ∙ ap (λ c. held_in (stopped_in w x c) y) e

-- with and without a link on which it sends
stop_steps : (credit : CreditSpec) (w : World) (i : ℕ) (q : Parties) (b : Shown) (o : Option ℕ) (st : Stand credit.initial w q) → IsLawfulAt credit w → i + 1 < size w → runs w (i + 1) ≡ true → (member_at w (i + 1)).out ≡ o
    → EndsIts (option_map st.places.outs o) b.ends.out → b ≡ record { held = stopped_held (node_at q i).held; ends = record (node_at q i).ends { out = b.ends.out } }
    → StandMoved credit.initial (i + 1) (stopped_in w (i + 1) o) (record (with_node q i b) { stopped = q.stopped ++ (i + 1) ∷ [] }) None
stop_steps credit w i q b None st h lt run e none eb =
    let x : ℕ = i + 1 in
    let p : Places = st.places in
    let m : Shown = node_at q i in
    let ways : SameWays w (stop_at w x) = member_ways w x (stopped (member_at w x)) lt refl refl refl in
    let a : MemberStands w p x m = stands_at credit.initial w q p i st.stand lt in
    steps credit w (stop_at w x) q (q.stopped ++ x ∷ []) p i b st h lt (record {
      leaves = ways_leave w (stop_at w x) x ways;
      deposits = refl;
      it = ways_stand w (stop_at w x) p p x m b b.ends.out m.ends.link ways refl (λ j _. refl) (stop_does w x None m b b.ends.out h.fit lt e eb) (none ∙ ap (option_map p.outs) (sym e)) a.link a;
      held = λ y ne. stop_leaves w x y None h.fit e ne;
      notices = record { told = stop_told w x q.stopped lt; none_told = stop_none_told w x q.stopped lt };
      outs = λ j _. refl;
      ins = λ j _. refl;
      carry = λ j _ c. carries_logs credit.initial w (stop_at w x) (link_at w j) (p.outs j) (p.ins j) (same_of (λ (z : Member). z.log) w x (stopped (member_at w x)) lt refl) c;
      rests = λ j k r. r;
      knows = λ j _. (refl, refl);
    })
stop_steps credit w i q b (Some s) st h lt run e (o', ends, now) eb =
    let x : ℕ = i + 1 in
    let p : Places = st.places in
    let m : Shown = node_at q i in
    let w1 : World = stop_at w x in
    let sl : s < length w.links = (h.fit.own_ends.out x s e).0 in
    let l : Link = ended Halted (link_at w s) in
    let goes_on : (link_at w s).ending ≡ None = out_unended credit w x s h run e in
    let ended_now : is_some l.ending ≡ true = ap (λ a. is_some (ended_so Halted a)) goes_on in
    sends_once credit w w1.members q (q.stopped ++ x ∷ []) i s l o' b st h lt (record {
      out = e;
      run = run;
      ways = ways_both w w1 (stopped_in w x (Some s)) (member_ways w x (stopped (member_at w x)) lt refl refl refl) (link_ways w1 s l sl refl);
      logs = same_of (λ (z : Member). z.log) w x (stopped (member_at w x)) lt refl;
      does = stop_does w x (Some s) m b (Some o') h.fit lt e (eb ∙ ap (λ c. record m { held = stopped_held m.held; ends = record m.ends { out = c } }) now);
      held = λ y ne. stop_leaves w x y (Some s) h.fit e ne;
      notices = record { told = stop_told w x q.stopped lt; none_told = stop_none_told w x q.stopped lt };
      carries = end_carries credit.initial w (link_at w s) l (p.outs s) o' (p.ins s) goes_on refl ended_now refl ends;
    })

pub stop_goes : (credit : CreditSpec) (w : World) (keeps : Keeps) (i d : ℕ) (q q' : Parties) (replaced : Option (LinkName × OutSeen)) → IsLawfulAt credit w → refused_as w (i + 1) Stops ≡ None → i + 1 < size w → Stand credit.initial w q → Acts Stops keeps i d q q' replaced → StandMoved credit.initial (i + 1) (done_as w (i + 1) Stops) q' replaced
stop_goes credit w keeps i d q q' replaced h enabled lt st (b, (ends, eb), is, none) =
    let x : ℕ = i + 1 in
    let a : MemberStands w st.places x (node_at q i) = stands_at credit.initial w q st.places i st.stand lt in
    let run : runs w x ≡ true = running_runs w x None enabled in
    let w' : World = stopped_in w x (member_at w x).out in
    goes_so credit.initial x w' (done_as w x Stops) (record (with_node q i b) { stopped = q.stopped ++ x ∷ [] }) q' replaced refl is none
    (stop_steps credit w i q b (member_at w x).out st h lt run refl (subst (λ c. EndsIts c b.ends.out) a.out ends) eb)
