-- The name of a link tells its two ends, so that a member's link has one receiver, and one sender.
use Rattle.std.proofs.Common.{◌≡◌, ℕ, ◌+◌, ◌-◌, Option, Some, None, refl, sym, ap, ◌∙◌, subst, arith, List}
use Rattle.std.specs.Prelude.{option_map, IfNone}
use Rattle.std.proofs.lemmas.Option.{none-some, same_Some}
use Rattle.group_view.specs.declared.link.LinkName.{LinkName}
use Rattle.gm_member.specs.Held.{Held, Outgoing, Incoming}
use Rattle.gm_member.specs.View.{ring_link}
use Rattle.gm_member.specs.Shown.{held_of, out_name_of, in_name_of}
use Rattle.ring_parties.specs.declared.party.Party.{Party}
use Rattle.ring_parties.specs.Pairing.{IsAt, MayMeetPairs, ArePaired, SendsApartAt}
use Rattle.ring_parties.proofs.pairs.Each.{same_at}

out_from : (h : Held) (name : LinkName) → out_name_of h ≡ Some name → name.from.0 ≡ h.id
out_from h name e = by_case h.out refl
  where
    by_case : (o : Option Outgoing) → h.out ≡ o → name.from.0 ≡ h.id
    by_case None f = absurd (none-some name (sym (ap (option_map (λ l. ring_link h.id l.to l.opened)) f) ∙ e))
    by_case (Some l) f = ap (λ (n : LinkName). n.from.0) (sym (same_Some (ring_link h.id l.to l.opened) name (sym (ap (option_map (λ l. ring_link h.id l.to l.opened)) f) ∙ e)))

in_to : (h : Held) (name : LinkName) → in_name_of h 0 ≡ Some name → name.to.0 ≡ h.id
in_to h name e = by_case h.current refl
  where
    by_case : (o : Option Incoming) → h.current ≡ o → name.to.0 ≡ h.id
    by_case None f = absurd (none-some name (sym (ap (option_map (λ l. ring_link l.from h.id l.opened)) f) ∙ e))
    by_case (Some l) f = ap (λ (n : LinkName). n.to.0) (sym (same_Some (ring_link l.from h.id l.opened) name (sym (ap (option_map (λ l. ring_link l.from h.id l.opened)) f) ∙ e)))

-- the receiver is at the place that the name tells
pub receiver_at : (xs : List Party) (j : ℕ) (q : Party) (name : LinkName) → MayMeetPairs xs → IsAt xs j q → in_name_of (held_of q.node) 0 ≡ Some name → name.to.0 ≡ j + 1
receiver_at xs j q name may at e = in_to (held_of q.node) name e ∙ may.ids j q at

sender_at : (xs : List Party) (i : ℕ) (p : Party) (name : LinkName) → MayMeetPairs xs → IsAt xs i p → out_name_of (held_of p.node) ≡ Some name → name.from.0 ≡ i + 1
sender_at xs i p name may at e = out_from (held_of p.node) name e ∙ may.ids i p at

pub one_receiver : (xs : List Party) (j k : ℕ) (p q r : Party) → MayMeetPairs xs → IsAt xs j q → IsAt xs k r → ArePaired p q → ArePaired p r → j ≡ k
one_receiver xs j k p q r may a b (name, out, link) (name', out', link') =
    let same : name ≡ name' = same_Some name name' (sym out ∙ out') in
    let at_j : name.to.0 ≡ j + 1 = receiver_at xs j q name may a link in
    let at_k : name'.to.0 ≡ k + 1 = receiver_at xs k r name' may b link' in
    let both : name.to.0 ≡ name'.to.0 = ap (λ (n : LinkName). n.to.0) same in
    omega (arith, at_j, at_k, both)

pub one_sender : (xs : List Party) (i k : ℕ) (p r q : Party) → MayMeetPairs xs → IsAt xs i p → IsAt xs k r → ArePaired p q → ArePaired r q → i ≡ k
one_sender xs i k p r q may a b (name, out, link) (name', out', link') =
    let same : name ≡ name' = same_Some name name' (sym link ∙ link') in
    let at_i : name.from.0 ≡ i + 1 = sender_at xs i p name may a out in
    let at_k : name'.from.0 ≡ k + 1 = sender_at xs k r name' may b out' in
    let both : name.from.0 ≡ name'.from.0 = ap (λ (n : LinkName). n.from.0) same in
    omega (arith, at_i, at_k, both)

-- ---- nobody takes from a link

-- a member sends on none
pub none_named : (xs : List Party) (i : ℕ) (x : Party) → IsAt xs i x → out_name_of (held_of x.node) ≡ None → SendsApartAt xs i
none_named xs i x at none p was j q at_q (name, out, link) =
    let same : x ≡ p = same_at xs i x p at was in
    absurd (none-some name (sym none ∙ ap (λ (z : Party). out_name_of (held_of z.node)) same ∙ out))

-- or the member that the name tells takes from another
pub none_takes : (xs : List Party) (i j : ℕ) (x : Party) (name : LinkName) → MayMeetPairs xs → IsAt xs i x → out_name_of (held_of x.node) ≡ Some name → name.to.0 - 1 ≡ j
    → ((q : Party) → IsAt xs j q → in_name_of (held_of q.node) 0 ≡ Some name → ⊥) → SendsApartAt xs i
none_takes xs i j x name may at named to none p was k q at_q (other, out, link) =
    let same : x ≡ p = same_at xs i x p at was in
    let one : name ≡ other = same_Some name other (sym named ∙ ap (λ (z : Party). out_name_of (held_of z.node)) same ∙ out) in
    let is : other.to.0 ≡ k + 1 = receiver_at xs k q other may at_q link in
    let both : name.to.0 ≡ other.to.0 = ap (λ (n : LinkName). n.to.0) one in
    let here : k ≡ j = omega (arith, is, both, to) in
    none q (subst (λ z. IsAt xs z q) here at_q) (link ∙ ap Some (sym one))

pub if_none : {X : Type 0} (r : Option X) (P : Type 0) → P → IfNone r P
if_none None P p = p
if_none (Some x) P p = tt
