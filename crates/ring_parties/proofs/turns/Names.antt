-- A member keeps its name in a round.
use Rattle.std.proofs.Common.{◌≡◌, ℕ, Bool, true, false, cond, List, [], ◌∷◌, Option, Some, None, is_some, refl, sym, ap, ◌∙◌}
use Rattle.std.specs.Prelude.{option_map}
use Rattle.ring_rules.specs.declared.event.Event.{Event}
use Rattle.ring_rules.specs.declared.kind.LinkStep.TheVariants as step
use Rattle.ring_rules.specs.Kind.{Kind, Says, Steps, Copying, Changes, Stops, Reads, Tells, kind_of}
use Rattle.ring_rules.specs.Machine.{is_waiting}
use Rattle.gm_member.specs.Packets.{PacketById}
use Rattle.gm_member.specs.Held.{Held, Incoming, at_some, took_held, began_from, took_from, picked_held, picked_at, first_at_door}
use Rattle.gm_member.specs.Shown.{held_of}
use Rattle.ring_parties.specs.declared.party.Party.{Party}
use Rattle.ring_parties.specs.Parties.{keeps_in}
use Rattle.ring_parties.specs.Round.{Seat, Deed, Did, IsLocalRun}
use Rattle.ring_parties.specs.Turn.{SitsAt, Acted}

took_name : (h : Held) (k : PacketById) → (took_held h k).name ≡ h.name
took_name h k = by_link h.current
  where
    by_phase : (c : Incoming) (b : Bool) → (cond b (began_from h k c) (took_from h k c)).name ≡ h.name
    by_phase c true = refl
    by_phase c false = refl

    by_link : (o : Option Incoming) → (at_some o h (λ c. cond (is_waiting h.phase) (began_from h k c) (took_from h k c))).name ≡ h.name
    by_link None = refl
    by_link (Some c) = by_phase c (is_waiting h.phase)

picked_name : (h : Held) → (picked_held h).name ≡ h.name
picked_name h = by_place (first_at_door h)
  where
    by_place : (o : Option ℕ) → (at_some o h (picked_at h)).name ≡ h.name
    by_place None = refl
    by_place (Some i) = refl

pub did_name : (kind : Kind) (t : ℕ) (d : Deed) (a b : Seat) → Did kind t d a b → b.held.name ≡ a.held.name
did_name (Says y) t d a b (m, ok, says, is, none) = ap (λ (c : Seat). c.held.name) is
did_name (Steps step.Put) t d a b (out, k, stamp, held_out, on, ok, after, is, there, back) = ap (λ (c : Seat). c.held.name) is
did_name (Steps step.Take) t d a b (q, k, stamp, given, on, ok, later, after, is, there, back) = ap (λ (c : Seat). c.held.name) is ∙ took_name a.held q
did_name (Steps step.TakeEnd) t d a b (k, stamp, on, ok, later, is, there, back) = ap (λ (c : Seat). c.held.name) is
did_name (Steps step.Gain) t d a b (k, stamp, g, on, ok, later, is, there, back) = ap (λ (c : Seat). c.held.name) is
did_name Stops t d a b (stamp, ok, after, is, there, back) = ap (λ (c : Seat). c.held.name) is
did_name (Steps step.Pick) t d a b (i, inside, first, ok, is, none) = ap (λ (c : Seat). c.held.name) is ∙ picked_name a.held
did_name (Tells code inner) t d a b (ok, is, none) = ap (λ (c : Seat). c.held.name) is
did_name (Copying c) t d a b did = absurd did
did_name (Changes c) t d a b did = absurd did
did_name (Reads version) t d a b did = absurd did

run_name : (es : List (ℕ × Deed)) (a b : Seat) → IsLocalRun es a b → b.held.name ≡ a.held.name
run_name [] a b l = ap (λ (c : Seat). c.held.name) l
run_name (e ∷ es) a b (c, does, later) = run_name es c b later ∙ did_name (kind_of e.1.event) e.0 e.1 a c does.1

-- a seat at which a party may sit
abbrev seat_of : Party → Seat
seat_of p = record {
  held = held_of p.node;
  keeps = keeps_in p;
  out = option_map (λ _. 0) (held_of p.node).out;
  current = option_map (λ _. 0) (held_of p.node).current;
  door = [];
}

a_place : {A : Type 0} (o : Option A) → is_some {T = ℕ} (option_map (λ (_ : A). 0) o) ≡ is_some o
a_place None = refl
a_place (Some x) = refl

seat_sits : (p : Party) → SitsAt (seat_of p) p
seat_sits p = record { held = refl; keeps = refl; out = a_place (held_of p.node).out; current = a_place (held_of p.node).current }

pub acted_name : (es : List Event) (p q : Party) → Acted es p q → (held_of q.node).name ≡ (held_of p.node).name
acted_name es p q h =
    let t = h.turns (seat_of p) (seat_sits p) in
    ap (λ (g : Held). g.name) (sym t.2.sits.held) ∙ run_name t.1 (seat_of p) t.0 t.2.run
