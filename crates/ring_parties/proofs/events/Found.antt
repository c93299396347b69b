-- Members are found by their names, as the ring finds them.
use Rattle.std.proofs.Common.{◌≡◌, ℕ, suc, ◌+◌, ◌-◌, ◌<◌, ◌≤◌, List, [], ◌∷◌, length, map, Option, Some, None, refl, sym, ap, ◌∙◌, arith}
use Rattle.std.specs.Prelude.{bytes_eq, option_map, position, drop, slice_index_or}
use Rattle.std.proofs.lemmas.List.Quantifiers.{position-Some}
use Rattle.ring_rules.specs.Machine.{World, Member, no_member, member_at}
use Rattle.ring_rules.specs.Event.{id_of}
use Rattle.ring_rules.proofs.rings.Maps.{position_map}
use Rattle.ring_parties.specs.Parties.{Shown, Parties, no_shown}
use Rattle.ring_parties.specs.Refused.{id_named}
use Rattle.ring_parties.specs.Standing.{Places, StandIn}

-- lists with the same names at each place
same_names : (xs : List Shown) (ys : List Member) → length xs ≡ length ys → ((k : ℕ) → k < length xs → (slice_index_or xs k no_shown).held.name ≡ (slice_index_or ys k no_member).name) → map (λ (m : Shown). m.held.name) xs ≡ map (λ (y : Member). y.name) ys
same_names [] [] e h = refl
same_names [] (y ∷ ys) e h = absurd (omega (arith, e))
same_names (x ∷ xs) [] e h = absurd (omega (arith, e))
same_names (x ∷ xs) (y ∷ ys) e h =
    let here : x.held.name ≡ y.name = h 0 (omega arith) in
    let rest : map (λ (m : Shown). m.held.name) xs ≡ map (λ (z : Member). z.name) ys = same_names xs ys (omega (arith, e)) (λ k l. h (suc k) (omega (arith, l))) in
    rw (here, rest) refl

-- the members but nobody
behind_first : (ms : List Member) (k : ℕ) → slice_index_or (drop 1 ms) k no_member ≡ slice_index_or ms (suc k) no_member
behind_first [] k = refl
behind_first (m ∷ ms) k = refl

fewer : (ms : List Member) (n : ℕ) → n + 1 ≡ length ms → n ≡ length (drop 1 ms)
fewer [] n e = absurd (omega (arith, e))
fewer (m ∷ ms) n e = omega (arith, e)

-- the id that a name has among the parties is the ring's
pub named_alike : (initial : ℕ) (w : World) (q : Parties) (p : Places) (name : List ℕ) → StandIn initial w q p → id_named q name ≡ id_of w name
named_alike initial w q p name s =
    ap (option_map (λ i. i + 1))
    (sym (position_map (λ n. bytes_eq n name) (λ (m : Shown). m.held.name) q.nodes)
    ∙ ap (position (λ n. bytes_eq n name)) (same_names q.nodes (drop 1 w.members) (fewer w.members (length q.nodes) s.count) each)
    ∙ position_map (λ n. bytes_eq n name) (λ (y : Member). y.name) (drop 1 w.members))
  where
    each : (k : ℕ) → k < length q.nodes → (slice_index_or q.nodes k no_shown).held.name ≡ (slice_index_or (drop 1 w.members) k no_member).name
    each k l =
        let place : k + 1 - 1 ≡ k = omega arith in
        let next : k + 1 ≡ suc k = omega arith in
        ap (λ i. (slice_index_or q.nodes i no_shown).held.name) (sym place)
        ∙ ap (λ h. h.name) (s.each (k + 1) (omega arith) (omega (arith, l, s.count))).held
        ∙ ap (λ i. (member_at w i).name) next
        ∙ ap (λ (y : Member). y.name) (sym (behind_first w.members k))

-- who is found is a member
pub found_within : (q : Parties) (name : List ℕ) (x : ℕ) → id_named q name ≡ Some x → (1 ≤ x) × (x < length q.nodes + 1)
found_within q name x e = by_place (position (λ m. bytes_eq m.held.name name) q.nodes) refl e
  where
    by_place : (o : Option ℕ) → position (λ m. bytes_eq m.held.name name) q.nodes ≡ o → option_map (λ i. i + 1) o ≡ Some x → (1 ≤ x) × (x < length q.nodes + 1)
    by_place None is k = cc
    by_place (Some i) is k =
        let l : i < length q.nodes = (position-Some (λ m. bytes_eq m.held.name name) q.nodes i no_shown is).0 in
        let same : i + 1 ≡ x = cc in
        (omega (arith, same), omega (arith, same, l))
