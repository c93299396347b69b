-- Turns that follow one another, and none.
use Rattle.std.proofs.Common.{◌≡◌, ℕ, Bool, true, false, cond, List, [], ◌∷◌, ◌++◌, map, Option, Some, None, refl, sym, ap, subst, ◌∙◌, arith, append_assoc, append-nil, length-append}
use Rattle.std.specs.Prelude.{MatchOption, ⊤, option_map, ◌||◌}
use Rattle.std.proofs.lemmas.List.{map-append}
use Rattle.rtrb.specs.Ring.{sent, received as got, known_items}
use Rattle.ordered_link.specs.declared.ring.RingOut.{RingOut}
use Rattle.ordered_link.specs.declared.ring.RingIn.{RingIn}
use Rattle.activity.specs.declared.packet.Load.{Load}
use Rattle.ring_rules.specs.declared.event.Event.{Event}
use Rattle.ring_rules.specs.OpenLinks.{is_place}
use Rattle.gm_member.specs.Held.{at_some}
use Rattle.gm_member.specs.Shown.{Ends, ends_of, recorded_of}
use Rattle.gm_member.specs.View.{in_of}
use Rattle.gm_member.specs.declared.links.InLink.{InLink}
use Rattle.ring_parties.specs.declared.party.Party.{Party}
use Rattle.ring_parties.specs.Ends.{PacketShown, InSeen}
use Rattle.ring_parties.specs.Parties.{in_seen}
use Rattle.ring_parties.specs.RoundActs.{Stamped, acts_at, timed, things, puts, takes}
use Rattle.ring_parties.specs.Round.{Seat, Deed, IsLocalRun, items_at, grants_at}
use Rattle.ring_parties.specs.Turn.{timed_items, timed_grants, OutPasses, InPasses, Rests, OutsPass, InsPass, MayTurn, SitsAt, Turned, Acted, events_by, round_of}
use Rattle.ring_parties.specs.Closed.{has_end}
use Rattle.ring_parties.proofs.standing.Rings.{none_waiting}
use Rattle.ring_parties.proofs.rounds.Acts.{puts-append, takes-append}
use Rattle.ring_parties.proofs.rounds.Ended.{has_end-append}
use Rattle.ring_parties.proofs.turns.Named.{names_none, names_trans}

-- ---- entries that follow others

pub items_at-append : (s : ℕ) (es fs : List (ℕ × Deed)) → items_at s (es ++ fs) ≡ items_at s es ++ items_at s fs
items_at-append s [] fs = refl
items_at-append s (e ∷ es) fs =
    ap (λ xs. timed e.0 (acts_at s e.1.there) ++ xs) (items_at-append s es fs)
    ∙ sym (append_assoc (timed e.0 (acts_at s e.1.there)) (items_at s es) (items_at s fs))

pub grants_at-append : (s : ℕ) (es fs : List (ℕ × Deed)) → grants_at s (es ++ fs) ≡ grants_at s es ++ grants_at s fs
grants_at-append s [] fs = refl
grants_at-append s (e ∷ es) fs =
    ap (λ xs. timed e.0 (acts_at s e.1.back) ++ xs) (grants_at-append s es fs)
    ∙ sym (append_assoc (timed e.0 (acts_at s e.1.back)) (grants_at s es) (grants_at s fs))

pub run-append : (es fs : List (ℕ × Deed)) (a b c : Seat) → IsLocalRun es a b → IsLocalRun fs b c → IsLocalRun (es ++ fs) a c
run-append [] fs a b c l k = subst (λ (m : Seat). IsLocalRun fs m c) l k
run-append (e ∷ es) fs a b c (d, does, later) k = (d, does, run-append es fs d b c later k)

-- ---- what passes an end

-- where the end of a link is in neither of two lists, it isn't in both, one behind the other
none_ends : (xs ys : List (Stamped (Option PacketShown))) → has_end (things xs) ≡ false → has_end (things ys) ≡ false → has_end (things (xs ++ ys)) ≡ false
none_ends xs ys e f =
    ap has_end (map-append (λ (z : Stamped (Option PacketShown)). z.it) xs ys)
    ∙ has_end-append (things xs) (things ys)
    ∙ ap (λ b. b || has_end (things ys)) e ∙ f

module _ (round : ℕ) where
  pub out_still : (o : RingOut Load) → OutPasses round [] [] o o
  out_still o = record {
    items = sym (append-nil (timed_items round (sent o.items)));
    unended = refl;
    grants = sym (append-nil (timed_grants round (got o.back)));
    back = refl;
    ended = refl;
    initial = refl;
    ring = refl;
  }

  pub in_still : (n : RingIn Load) → n.late ≡ None → InPasses round [] [] n n
  in_still n free = record {
    items = sym (append-nil (timed_items round (got n.items)));
    grants = sym (append-nil (timed_grants round (sent n.back)));
    late = free;
    initial = refl;
    ring = refl;
    rests = λ stands. record { items = refl; end_stands = stands; room = refl };
  }

  pub out_then : (put put' : List (Stamped (Option PacketShown))) (gained gained' : List (Stamped ℕ)) (o o' o'' : RingOut Load) → OutPasses round put gained o o' → OutPasses round put' gained' o' o'' → OutPasses round (put ++ put') (gained ++ gained') o o''
  out_then put put' gained gained' o o' o'' h k = record {
    items = k.items ∙ ap (λ xs. xs ++ put') h.items ∙ append_assoc (timed_items round (sent o.items)) put put';
    unended = none_ends put put' h.unended k.unended;
    grants = k.grants ∙ ap (λ xs. xs ++ gained') h.grants ∙ append_assoc (timed_grants round (got o.back)) gained gained';
    back = append_assoc gained gained' (timed_grants round (known_items o''.back)) ∙ ap (λ xs. gained ++ xs) k.back ∙ h.back;
    ended = k.ended ∙ h.ended;
    initial = k.initial ∙ h.initial;
    ring = k.ring ∙ h.ring;
  }

  pub in_then : (taken taken' : List (Stamped (Option PacketShown))) (given given' : List (Stamped ℕ)) (n n' n'' : RingIn Load) → InPasses round taken given n n' → InPasses round taken' given' n' n'' → InPasses round (taken ++ taken') (given ++ given') n n''
  in_then taken taken' given given' n n' n'' h k = record {
    items = k.items ∙ ap (λ xs. xs ++ taken') h.items ∙ append_assoc (timed_items round (got n.items)) taken taken';
    grants = k.grants ∙ ap (λ xs. xs ++ given') h.grants ∙ append_assoc (timed_grants round (sent n.back)) given given';
    late = k.late;
    initial = k.initial ∙ h.initial;
    ring = k.ring ∙ h.ring;
    rests = λ stands.
        let before : Rests round n n' = h.rests stands in
        let after : Rests round n' n'' = k.rests before.end_stands in
        record { items = after.items ∙ before.items; end_stands = after.end_stands; room = after.room ∙ before.room };
  }

  none_then : {X : Type 0} (xs ys : List X) → xs ≡ [] → ys ≡ [] → xs ++ ys ≡ []
  none_then xs ys e f = ap (λ zs. zs ++ ys) e ∙ f

  pub outs_still : (a : Option (RingOut Load)) → OutsPass round [] [] a a
  outs_still None = (refl, refl, refl)
  outs_still (Some o) = (o, refl, out_still o)

  pub outs_then : (put put' : List (Stamped (Option PacketShown))) (gained gained' : List (Stamped ℕ)) (a b c : Option (RingOut Load)) → OutsPass round put gained a b → OutsPass round put' gained' b c → OutsPass round (put ++ put') (gained ++ gained') a c
  outs_then put put' gained gained' None b c (is, no_put, no_gained) k =
      let k' = subst (λ (x : Option (RingOut Load)). OutsPass round put' gained' x c) is k in
      (k'.0, none_then put put' no_put k'.1, none_then gained gained' no_gained k'.2)
  outs_then put put' gained gained' (Some o) b c (o', is, passes) k =
      let k' = subst (λ (x : Option (RingOut Load)). OutsPass round put' gained' x c) is k in
      (k'.0, k'.1, out_then put put' gained gained' o o' k'.0 passes k'.2)

  pub ins_then : (taken taken' : List (Stamped (Option PacketShown))) (given given' : List (Stamped ℕ)) (a b c : Option (RingIn Load)) → InsPass round taken given a b → InsPass round taken' given' b c → InsPass round (taken ++ taken') (given ++ given') a c
  ins_then taken taken' given given' None b c (is, no_take, no_give) k =
      let k' = subst (λ (x : Option (RingIn Load)). InsPass round taken' given' x c) is k in
      (k'.0, none_then taken taken' no_take k'.1, none_then given given' no_give k'.2)
  ins_then taken taken' given given' (Some n) b c (n', is, passes) k =
      let k' = subst (λ (x : Option (RingIn Load)). InsPass round taken' given' x c) is k in
      (k'.0, k'.1, in_then taken taken' given given' n n' k'.0 passes k'.2)

-- an end of a member that is there, where no grant waits
ins_free : (round : ℕ) (current : Option (InLink (RingIn Load))) → MatchOption (option_map in_of current) ⊤ (λ _. MatchOption (option_map in_seen (at_some current None (λ l. l.end))) ⊥ (λ (n : InSeen). n.late ≡ None)) → InsPass round [] [] (at_some current None (λ l. l.end)) (at_some current None (λ l. l.end))
ins_free round None h = (refl, refl, refl)
ins_free round (Some l) h = by_end l.end h
  where
    by_end : (end : Option (RingIn Load)) → MatchOption (option_map in_seen end) ⊥ (λ (n : InSeen). n.late ≡ None) → InsPass round [] [] end end
    by_end None k = absurd k
    by_end (Some n) k = (n, refl, in_still round n (none_waiting n.late k))

pub ins_still : (round : ℕ) (p : Party) → MayTurn p → InsPass round [] [] (ends_of p.node).link (ends_of p.node).link
ins_still round p may = ins_free round p.node.current may.link

-- ---- turns

-- nothing is put or taken at any link
pub none_at : {X : Type 0} (t : Bool) (xs : List X) → xs ≡ [] → xs ≡ cond t [] []
none_at true xs none = none
none_at false xs none = none

-- and what is, in two parts
two_at : {X : Type 0} (t : Bool) (xs ys : List X) → cond t xs [] ++ cond t ys [] ≡ cond t (xs ++ ys) []
two_at true xs ys = refl
two_at false xs ys = refl

two_parts : {X : Type 0} (o o' : Option ℕ) (s : ℕ) (zs ws us xs ys : List X) → o' ≡ o → us ≡ zs ++ ws → zs ≡ cond (is_place o s) xs [] → ws ≡ cond (is_place o' s) ys [] → us ≡ cond (is_place o s) (xs ++ ys) []
two_parts o o' s zs ws us xs ys same both first second =
    both ∙ ap (λ vs. vs ++ ws) first ∙ ap (λ vs. cond (is_place o s) xs [] ++ vs) (second ∙ ap (λ (i : Option ℕ). cond (is_place i s) ys []) same)
    ∙ two_at (is_place o s) xs ys

-- what is told of entries in the log of a member
abbrev recorded : ℕ × Deed → ℕ × Event
recorded e = (e.0, e.1.event)

pub turned_none : (round : ℕ) (a : Seat) (p : Party) → MayTurn p → SitsAt a p → Turned round a a [] p p
turned_none round a p may sits = record {
  run = refl;
  sits = sits;
  same_out = refl;
  same_current = refl;
  same_door = refl;
  names = names_none a.held;
  put = [];
  gained = [];
  taken = [];
  given = [];
  puts_are = λ s. none_at (is_place a.out s) [] refl;
  gains_are = λ s. none_at (is_place a.out s) [] refl;
  takes_are = λ s. none_at (is_place a.current s) [] refl;
  gives_are = λ s. none_at (is_place a.current s) [] refl;
  out_end = outs_still round (ends_of p.node).out;
  in_end = ins_still round p may;
  others = refl;
  recorded = sym (append-nil (recorded_of p.node).entries);
}

pub turned_then : (round : ℕ) (a b c : Seat) (es fs : List (ℕ × Deed)) (p q r : Party) → Turned round a b es p q → Turned round b c fs q r → Turned round a c (es ++ fs) p r
turned_then round a b c es fs p q r h k = record {
  run = run-append es fs a b c h.run k.run;
  sits = k.sits;
  same_out = k.same_out ∙ h.same_out;
  same_current = k.same_current ∙ h.same_current;
  same_door = k.same_door ∙ h.same_door;
  names = names_trans a.held b.held c.held h.names k.names;
  put = h.put ++ k.put;
  gained = h.gained ++ k.gained;
  taken = h.taken ++ k.taken;
  given = h.given ++ k.given;
  puts_are = λ s. two_parts a.out b.out s (puts (items_at s es)) (puts (items_at s fs)) (puts (items_at s (es ++ fs))) h.put k.put h.same_out (ap puts (items_at-append s es fs) ∙ puts-append (items_at s es) (items_at s fs)) (h.puts_are s) (k.puts_are s);
  gains_are = λ s. two_parts a.out b.out s (takes (grants_at s es)) (takes (grants_at s fs)) (takes (grants_at s (es ++ fs))) h.gained k.gained h.same_out (ap takes (grants_at-append s es fs) ∙ takes-append (grants_at s es) (grants_at s fs)) (h.gains_are s) (k.gains_are s);
  takes_are = λ s. two_parts a.current b.current s (takes (items_at s es)) (takes (items_at s fs)) (takes (items_at s (es ++ fs))) h.taken k.taken h.same_current (ap takes (items_at-append s es fs) ∙ takes-append (items_at s es) (items_at s fs)) (h.takes_are s) (k.takes_are s);
  gives_are = λ s. two_parts a.current b.current s (puts (grants_at s es)) (puts (grants_at s fs)) (puts (grants_at s (es ++ fs))) h.given k.given h.same_current (ap puts (grants_at-append s es fs) ∙ puts-append (grants_at s es) (grants_at s fs)) (h.gives_are s) (k.gives_are s);
  out_end = outs_then round h.put k.put h.gained k.gained (ends_of p.node).out (ends_of q.node).out (ends_of r.node).out h.out_end k.out_end;
  in_end = ins_then round h.taken k.taken h.given k.given (ends_of p.node).link (ends_of q.node).link (ends_of r.node).link h.in_end k.in_end;
  others = k.others ∙ ap (λ (e : Ends (RingOut Load) (RingIn Load)). record e { out = (ends_of r.node).out; link = (ends_of r.node).link }) h.others;
  recorded =
      k.recorded ∙ ap (λ xs. xs ++ map recorded fs) h.recorded ∙ append_assoc (recorded_of p.node).entries (map recorded es) (map recorded fs)
      ∙ ap (λ xs. (recorded_of p.node).entries ++ xs) (sym (map-append recorded es fs));
}

-- ---- what a party has done

pub acted_none : (p : Party) → MayTurn p → Acted [] p p
acted_none p may = record {
  turns = λ a sits. (a, [], turned_none (round_of p) a p may sits);
  may = may;
  round = refl;
  records = sym (append-nil (events_by p));
  room = omega arith;
  still = λ _. refl;
}

no_parts : {X : Type 0} (xs ys : List X) → xs ++ ys ≡ [] → (xs ≡ []) × (ys ≡ [])
no_parts [] ys e = (refl, e)
no_parts (x ∷ xs) ys e = cc

pub acted_trans : (es fs : List Event) (p q r : Party) → Acted es p q → Acted fs q r → Acted (es ++ fs) p r
acted_trans es fs p q r h k = record {
  turns = λ a sits. (
      let first = h.turns a sits in
      let second = k.turns first.0 first.2.sits in
      (second.0, first.1 ++ second.1, turned_then (round_of p) a first.0 second.0 first.1 second.1 p q r first.2 (subst (λ (n : ℕ). Turned n first.0 second.0 second.1 q r) h.round second.2))
      );
  may = k.may;
  round = k.round ∙ h.round;
  records = k.records ∙ ap (λ xs. xs ++ fs) h.records ∙ append_assoc (events_by p) es fs;
  room = omega (arith, h.room, k.room, length-append es fs);
  still = λ none. let parts = no_parts es fs none in k.still parts.1 ∙ h.still parts.0;
}
