-- Parties that stand in a state are, as members in a round, those of it; and what ends know balances with what they did between two meetings.
use Rattle.std.proofs.Common.{◌≡◌, ℕ, ◌-◌, ◌<◌, ◌≤◌, Bool, true, false, cond, nat_lt, Option, List, ◌++◌, length, take, map, refl, sym, ap, subst, ◌∙◌, append_assoc}
use Rattle.std.specs.Prelude.{◌&&◌}
use Rattle.std.proofs.lemmas.Bool.{and_parts, ltb-true, lt-ltb}
use Rattle.std.proofs.lemmas.List.{length-map, append_cancel_left}
use Rattle.std.proofs.Math.Seq.{take-append_seam}
use Rattle.std.specs.List.{filter}
use Rattle.ring_rules.specs.Machine.{World, link_at}
use Rattle.ring_rules.specs.Step.{size}
use Rattle.gm_member.specs.Held.{Held}
use Rattle.gm_member.specs.Stands.{held_in, incoming_in, door_links}
use Rattle.ring_parties.specs.Ends.{PacketShown, OutSeen, InSeen, HaveMet, items_in}
use Rattle.ring_parties.specs.Parties.{Keeps, Shown, Parties, node_at}
use Rattle.ring_parties.specs.Keeps.{KeepsStand}
use Rattle.ring_parties.specs.Standing.{Places, MemberStands, Stand, is_to, has_out, has_in}
use Rattle.ring_parties.specs.RoundActs.{things}
use Rattle.ring_parties.specs.Round.{Sits, Configuration, IsIn}
use Rattle.ring_parties.specs.Seated.{seat_of, has_in_at, has_out_at, items_known, grants_known, IsSeated, seated}
use Rattle.ring_parties.proofs.events.Ready.{all_settled, settled_items}
use Rattle.ring_parties.proofs.meetings.Known.{all_know}
use Rattle.ring_parties.proofs.rounds.Acts.{things-early}

-- a link that is there, where this holds of it
pub there_at : (s n : ℕ) (b : Bool) → s < n → b ≡ true → (nat_lt s n && b) ≡ true
there_at s n b l e = ap (λ c. c && b) (lt-ltb s n l) ∙ e

-- ---- what ends know

-- of the items of a link that its receiver may still take from, all
items_all : (initial : ℕ) (w : World) (q : Parties) (h : Stand initial w q) (s : ℕ) (b : Bool) → has_in_at w s ≡ b → cond b (h.places.ins s).items (items_in w (link_at w s)) ≡ items_in w (link_at w s)
items_all initial w q h s false e = refl
items_all initial w q h s true e =
    let both = and_parts (nat_lt s (length w.links)) (has_in w s) e in
    let l : s < length w.links = ltb-true s (length w.links) both.0 in
    settled_items initial w s (h.places.outs s) (h.places.ins s) (all_settled w h.places s h.met l both.1) (h.stand.carry s l both.1)

-- and of the grants on the way back of one that its sender still has
grants_all : (initial : ℕ) (w : World) (q : Parties) (h : Stand initial w q) (s : ℕ) (b : Bool) → has_out_at w s ≡ b → cond b (h.places.outs s).back (link_at w s).flow.grants ≡ (link_at w s).flow.grants
grants_all initial w q h s false e = refl
grants_all initial w q h s true e =
    let both = and_parts (nat_lt s (length w.links)) (has_out w s) e in
    all_know initial w q h s (ltb-true s (length w.links) both.0) both.1

-- ---- members

-- the links at its door that it has are those that it has collected
pub seat_door : (w : World) (p : Places) (q : Parties) (ks : List Keeps) (x : ℕ) (h : MemberStands w p x (node_at q (x - 1))) → (seat_of w q ks x).door ≡ h.door
seat_door w p q ks x h =
    let m : Shown = node_at q (x - 1) in
    let many : length m.held.door ≡ length h.door = ap (λ (g : Held). length g.door) h.held ∙ length-map h.door (incoming_in w) in
    ap (λ n. take n (door_links w x)) many ∙ ap (take (length h.door)) h.comes ∙ take-append_seam h.door (filter (is_to w x) p.deposits)

-- a member that stands sits there
seat_sits : (w : World) (p : Places) (q : Parties) (ks : List Keeps) (x : ℕ) → 1 ≤ x → x < size w → MemberStands w p x (node_at q (x - 1)) → KeepsStand w ks → Sits w p.deposits x (seat_of w q ks x)
seat_sits w p q ks x some lt h keeps =
    let door : (seat_of w q ks x).door ≡ h.door = seat_door w p q ks x h in
    record {
      held = h.held ∙ ap (λ ds. record (held_in w x) { door = map (incoming_in w) ds }) (sym door);
      keeps = keeps.each x some lt;
      out = refl;
      current = refl;
      door = h.comes ∙ ap (λ ds. ds ++ filter (is_to w x) p.deposits) (sym door);
    }

-- all that stands on links of earlier rounds is what the parties show
pub early_seated : (w : World) (p : Places) (q : Parties) (ks : List Keeps) → IsSeated w p q ks (seated w p q ks)
early_seated w p q ks = record {
  seats = λ x _ _. refl;
  items = λ s. things-early (items_known w p s);
  grants = λ s. things-early (grants_known w p s);
}

-- what stands on a link is what the ring has there
pub seated_items : (initial : ℕ) (w : World) (q : Parties) (ks : List Keeps) (h : Stand initial w q) (a : Configuration) → IsSeated w h.places q ks a → (s : ℕ) → things (a.items s) ≡ items_in w (link_at w s)
seated_items initial w q ks h a is s = is.items s ∙ items_all initial w q h s (has_in_at w s) refl

pub parties_seated : (initial : ℕ) (w : World) (q : Parties) (ks : List Keeps) (h : Stand initial w q) (a : Configuration) → KeepsStand w ks → IsSeated w h.places q ks a → IsIn w h.places.deposits a
parties_seated initial w q ks h a keeps is = record {
  seats = λ x some lt. subst (Sits w h.places.deposits x) (sym (is.seats x some lt)) (seat_sits w h.places q ks x some lt (h.stand.each x some lt) keeps);
  items = λ s _. seated_items initial w q ks h a is s;
  grants = λ s. is.grants s ∙ grants_all initial w q h s (has_out_at w s) refl;
}

-- ---- between two meetings

-- What was taken and what is held are what was put, before and after: so what was held, and what was put between, are what was taken between and
-- what is held.
pub balance : {X : Type 0} (put taken held put' taken' held' puts takes : List X) → taken ++ held ≡ put → taken' ++ held' ≡ put' → put' ≡ put ++ puts → taken' ≡ taken ++ takes → held ++ puts ≡ takes ++ held'
balance put taken held put' taken' held' puts takes before after more gone =
    append_cancel_left taken (held ++ puts) (takes ++ held')
    (sym (append_assoc taken held puts) ∙ ap (λ xs. xs ++ puts) before ∙ sym more ∙ sym after ∙ ap (λ xs. xs ++ held') gone ∙ append_assoc taken takes held')

-- so of the items of a link whose ends have met
pub items_balance : (o o' : OutSeen) (n n' : InSeen) (puts takes : List (Option PacketShown)) → HaveMet o n → HaveMet o' n' → o'.put ≡ o.put ++ puts → n'.taken ≡ n.taken ++ takes → n.items ++ puts ≡ takes ++ n'.items
items_balance o o' n n' puts takes before after more gone = balance o.put n.taken n.items o'.put n'.taken n'.items puts takes before.items after.items more gone

-- and of the grants on its way back
pub grants_balance : (o o' : OutSeen) (n n' : InSeen) (gives gains : List ℕ) → HaveMet o n → HaveMet o' n' → n'.given ≡ n.given ++ gives → o'.gained ≡ o.gained ++ gains → o.back ++ gives ≡ gains ++ o'.back
grants_balance o o' n n' gives gains before after more gone = balance n.given o.gained o.back n'.given o'.gained o'.back gives gains before.grants after.grants more gone
