-- The logs of a round are of different members, and have no more entries than there was room for.
use Rattle.std.proofs.Common.{◌≡◌, ℕ, suc, Bool, true, false, cond, ◌+◌, ◌*◌, ◌<◌, ◌≤◌, List, [], ◌∷◌, length, map, refl, sym, ap, subst, ◌∙◌, arith}
use Rattle.std.specs.List.{sum_by, flat_map}
use Rattle.std.proofs.lemmas.List.{length-map}
use Rattle.std.proofs.lemmas.List.Sums.{sum_by-cons}
use Rattle.ring_rules.specs.declared.event.Event.{Event}
use Rattle.lamport_merge.specs.Merge.{Entry, Log, is_before, inserted, in_order, merged, entries_in, events_of, IsNoneOf, PartiesDiffer}
use Rattle.lamport_merge.proofs.Moves.{entries_count}
use Rattle.gm_member.specs.Shown.{held_of, recorded_of}
use Rattle.ring_parties.specs.declared.party.Party.{Party}
use Rattle.ring_parties.specs.Pairing.{IsAt}
use Rattle.ring_parties.specs.Turns.{log_by}

-- none of these is of a lower id
none_below : (k x : ℕ) (ps : List Party) → x < k → ((j : ℕ) (p : Party) → IsAt ps j p → (held_of p.node).id ≡ k + j) → IsNoneOf x (map log_by ps)
none_below k x [] l h = tt
none_below k x (p ∷ ps) l h =
    let id : (held_of p.node).id ≡ k + 0 = h 0 p refl in (
      (λ (e : (held_of p.node).id ≡ x). (let f : k + 0 ≡ x = sym id ∙ e in omega (arith, f, l))),
      none_below (k + 1) x ps (omega (arith, l)) (λ j q at. h (suc j) q at ∙ (let e : k + suc j ≡ k + 1 + j = omega arith in e)),
    )

pub logs_differ : (k : ℕ) (ps : List Party) → ((j : ℕ) (p : Party) → IsAt ps j p → (held_of p.node).id ≡ k + j) → PartiesDiffer (map log_by ps)
logs_differ k [] h = tt
logs_differ k (p ∷ ps) h =
    let id : (held_of p.node).id ≡ k + 0 = h 0 p refl in (
      none_below (k + 1) (held_of p.node).id ps (omega (arith, id)) (λ j q at. h (suc j) q at ∙ (let e : k + suc j ≡ k + 1 + j = omega arith in e)),
      logs_differ (k + 1) ps (λ j q at. h (suc j) q at ∙ (let e : k + suc j ≡ k + 1 + j = omega arith in e)),
    )

pub logs_few : (turns : ℕ) (ps : List Party) → ((j : ℕ) (p : Party) → IsAt ps j p → length (recorded_of p.node).entries ≤ turns) → sum_by (λ (l : Log Event). length l.entries) (map log_by ps) ≤ length ps * turns
logs_few turns [] h = omega arith
logs_few turns (p ∷ ps) h =
    let first : length (recorded_of p.node).entries ≤ turns = h 0 p refl in
    let more : sum_by (λ (l : Log Event). length l.entries) (map log_by ps) ≤ length ps * turns = logs_few turns ps (λ j q at. h (suc j) q at) in
    let all : suc (length ps) * turns ≡ turns + length ps * turns = times_more (length ps) turns in
    let both : sum_by (λ (l : Log Event). length l.entries) (map log_by (p ∷ ps)) ≡ length (recorded_of p.node).entries + sum_by (λ (l : Log Event). length l.entries) (map log_by ps) = sum_by-cons (λ (l : Log Event). length l.entries) (log_by p) (map log_by ps) in
    let sum : length (recorded_of p.node).entries + sum_by (λ (l : Log Event). length l.entries) (map log_by ps) ≤ turns + length ps * turns = omega (arith, first, more) in
    subst (λ n. sum_by (λ (l : Log Event). length l.entries) (map log_by (p ∷ ps)) ≤ n) (sym all) (subst (λ n. n ≤ turns + length ps * turns) (sym both) sum)
  where
    times_more : (n k : ℕ) → suc n * k ≡ k + n * k
    times_more n k = omega arith

-- the merge has all entries of the logs
inserted_count : (e : Entry Event) (es : List (Entry Event)) → length (inserted e es) ≡ suc (length es)
inserted_count e [] = refl
inserted_count e (f ∷ fs) = by_case (inserted_count e fs) (is_before f e)
  where
    by_case : length (inserted e fs) ≡ suc (length fs) → (b : Bool) → length (cond b (f ∷ inserted e fs) (e ∷ f ∷ fs)) ≡ suc (suc (length fs))
    by_case later true = ap suc later
    by_case later false = refl

order_count : (es : List (Entry Event)) → length (in_order es) ≡ length es
order_count [] = refl
order_count (e ∷ es) = inserted_count e (in_order es) ∙ ap suc (order_count es)

pub merged_count : (ls : List (Log Event)) → length (events_of (merged ls)) ≡ sum_by (λ (l : Log Event). length l.entries) ls
merged_count ls = length-map (merged ls) (λ (e : Entry Event). e.event) ∙ order_count (flat_map entries_in ls) ∙ entries_count ls
