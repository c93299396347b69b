-- Whether a party takes part in a round; and what stands between two meetings of its ends.
use Rattle.std.proofs.Common.{◌≡◌, ⊎_elim, inl, inr, ℕ, zero, suc, ◌<◌, ◌≤◌, Bool, true, false, List, [], ◌∷◌, length, Some, is_some, refl, sym, ap, subst, ◌∙◌, arith}
use Rattle.std.specs.Prelude.{slice_get}
use Rattle.std.specs.List.{All}
use Rattle.std.proofs.lemmas.Option.{slice_get_within}
use Rattle.ring_rules.specs.declared.event.Client.{Client}
use Rattle.ring_rules.specs.declared.phase.Phase.{Phase}
use Rattle.ring_rules.specs.declared.phase.Phase.TheVariants as phase
use Rattle.ring_rules.specs.Event.{asked_of}
use Rattle.gm_member.specs.Held.{Held}
use Rattle.gm_member.specs.Shown.{held_of, ends_of, spare_of, out_name_of, in_name_of}
use Rattle.ring_parties.specs.declared.party.Party.{Party}
use Rattle.ring_parties.specs.Pairing.{IsAt, EachParty, MayMeetPairs, HaveMetPairs, IsHeardIf, Meets}
use Rattle.ring_parties.specs.Turn.{MayTurn, TakesTurns}
use Rattle.ring_parties.specs.Turns.{TakesItsRound}
use Rattle.ring_parties.specs.Played.{AreTasks, MayTakeTurns, TakeTheirTurns}
use Rattle.ring_parties.proofs.turns.Between.{may_still, may_unmarked, KeepsLinks, keeps_still, keeps_turned, meet_again}
use Rattle.ring_parties.proofs.turns.Places.{party_at}
use Rattle.ring_parties.proofs.turns.Sides.{TakesPart}

-- what stands at a place of a list
pub at_list : {X : Type 0} (xs : List X) (i : ℕ) → i < length xs → (x : X) × (slice_get xs i ≡ Some x)
at_list [] i l = absurd (omega (arith, l))
at_list (x ∷ xs) zero l = (x, refl)
at_list (x ∷ xs) (suc i) l = at_list xs i (omega (arith, l))

pub takes_part_by : (turns : ℕ) (ts : List Client) (d : ℕ) (r r' : Party) (b : Bool) → r.meets ≡ b → (c : Phase) → (held_of r.node).phase ≡ c → TakesItsRound turns ts d r r' → TakesPart r r'
takes_part_by turns ts d r r' false unmarked c e t = inl (t.1 unmarked).0
takes_part_by turns ts d r r' true marked phase.Up e t = let a = (t.0 marked).acted e in inr (marked, e, a.may.up, a.turns)
takes_part_by turns ts d r r' true marked phase.Waiting e t = inl ((t.0 marked).rests (λ (u : (held_of r.node).phase ≡ phase.Up). (let k : phase.Waiting ≡ phase.Up = sym e ∙ u in cc))).0
takes_part_by turns ts d r r' true marked phase.Stopped e t = inl ((t.0 marked).rests (λ (u : (held_of r.node).phase ≡ phase.Up). (let k : phase.Stopped ≡ phase.Up = sym e ∙ u in cc))).0

keeps_part : (r r' : Party) → TakesPart r r' → KeepsLinks r r'
keeps_part r r' h = ⊎_elim
    (λ (e : r' ≡ r). keeps_still r r' e)
    (λ (k : (r.meets ≡ true) × ((held_of r.node).phase ≡ phase.Up) × ((held_of r'.node).phase ≡ phase.Up) × TakesTurns r r'). keeps_turned r r' k.3)
    h

-- ---- from one meeting to the next

module _ (ps qs hs : List Party) (met : HaveMetPairs ps qs) (hear : EachParty (λ _ r r'. IsHeardIf qs r r') qs hs) where
  pub count_heard : length hs ≡ length ps
  count_heard = hear.count ∙ met.stay.count

  first_at : (i : ℕ) (r : Party) → IsAt hs i r → (b : Party) × IsAt ps i b
  first_at i r at = party_at ps i (let l : i < length hs = slice_get_within hs i r at in omega (arith, l, count_heard))

  met_at : (i : ℕ) (r : Party) → IsAt hs i r → (b : Party) × IsAt qs i b
  met_at i r at = party_at qs i (let l : i < length hs = slice_get_within hs i r at in omega (arith, l, hear.count))

  meets_there : (i : ℕ) (r : Party) (at : IsAt hs i r) → Meets (first_at i r at).0 (met_at i r at).0
  meets_there i r at = met.stay.each i (first_at i r at).0 (met_at i r at).0 (first_at i r at).1 (met_at i r at).1

  hears_there : (i : ℕ) (r : Party) (at : IsAt hs i r) → IsHeardIf qs (met_at i r at).0 r
  hears_there i r at = hear.each i (met_at i r at).0 r (met_at i r at).1 at

  held_there : (i : ℕ) (r : Party) (at : IsAt hs i r) → held_of r.node ≡ held_of (first_at i r at).0.node
  held_there i r at = ap held_of (hears_there i r at).node ∙ (meets_there i r at).held

  may_heard : ((i : ℕ) (r : Party) → IsAt ps i r → (held_of r.node).phase ≡ phase.Up → MayTurn r) → (i : ℕ) (r : Party) → IsAt hs i r → r.meets ≡ true → (held_of r.node).phase ≡ phase.Up → MayTurn r
  may_heard may i r at marked up =
      may_unmarked qs (met_at i r at).0 r (hears_there i r at)
      (may_still (first_at i r at).0 (met_at i r at).0 (meets_there i r at)
      (may i (first_at i r at).0 (first_at i r at).1 (ap (λ (g : Held). g.phase) (sym (held_there i r at)) ∙ up)))

  room_heard : (turns : ℕ) → ((i : ℕ) (r : Party) → IsAt ps i r → turns ≤ spare_of r.node) → (i : ℕ) (r : Party) → IsAt hs i r → turns ≤ spare_of r.node
  room_heard turns room i r at =
      subst (λ n. turns ≤ n) (sym (ap (λ c. spare_of c) (hears_there i r at).node ∙ ap (λ c. c.spare) (meets_there i r at).recorder)) (room i (first_at i r at).0 (first_at i r at).1)

  tasks_heard : (tasks : List (List Client)) → AreTasks ps tasks → AreTasks hs tasks
  tasks_heard tasks are i r ts at there =
      subst (λ n. All (λ t. asked_of t ≡ n) ts) (ap (λ (g : Held). g.name) (sym (held_there i r at))) (are i (first_at i r at).0 ts (first_at i r at).1 there)

  -- those that are heard may take their turns
  pub may_take : (turns : ℕ) (tasks : List (List Client)) → ((i : ℕ) (r : Party) → IsAt ps i r → (held_of r.node).phase ≡ phase.Up → MayTurn r)
      → ((i : ℕ) (r : Party) → IsAt ps i r → turns ≤ spare_of r.node) → AreTasks ps tasks → MayTakeTurns turns tasks hs
  may_take turns tasks may room are = record { may = may_heard may; room = room_heard turns room; own = tasks_heard tasks are }

  links_heard : (r r' : Party) → IsHeardIf qs r r' → KeepsLinks r r'
  links_heard r r' m = record {
    id = ap (λ c. (held_of c).id) m.node;
    out_named = ap (λ c. out_name_of (held_of c)) m.node;
    in_named = ap (λ c. in_name_of (held_of c) 0) m.node;
    outs = ap (λ c. is_some (ends_of c).out) m.node;
    links = ap (λ c. is_some (ends_of c).link) m.node;
    out_end = λ o' k. (o', ap (λ c. (ends_of c).out) (sym m.node) ∙ k, refl, refl);
    in_end = λ n' k. (n', ap (λ c. (ends_of c).link) (sym m.node) ∙ k, refl, refl);
  }

  -- behind their turns ends may meet again
  pub meet_later : (turns : ℕ) (tasks : List (List Client)) (done : List ℕ) (rs : List Party) → length tasks ≡ length ps → length done ≡ length ps → MayMeetPairs qs
      → TakeTheirTurns turns tasks done hs rs → MayMeetPairs rs
  meet_later turns tasks done rs many as_many may turn =
      meet_again hs rs
      (record {
        count = turn.all.count;
        each = λ i r r' at at'.
            let l : i < length hs = slice_get_within hs i r at in
            let ts = at_list tasks i (omega (arith, l, count_heard, many)) in
            let d = at_list done i (omega (arith, l, count_heard, as_many)) in
            keeps_part r r' (takes_part_by turns ts.0 d.0 r r' r.meets refl (held_of r.node).phase refl (turn.all.each i r r' at at' ts.0 d.0 ts.1 d.1));
      })
      (meet_again qs hs (record { count = hear.count; each = λ i r r' at at'. links_heard r r' (hear.each i r r' at at') }) may)
