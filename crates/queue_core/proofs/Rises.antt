-- The items of a queue stand in the order of their positions, below the next one.
use Rattle.std.proofs.Common.{◌≡◌, ℕ, ◌<◌, ◌≤◌, ◌+◌, Bool, true, false, cond, List, [], ◌∷◌, ◌++◌, map, refl, ◌∙◌, arith, ⊎_elim}
use Rattle.std.specs.Prelude.{◌&&◌, max, nat_lt}
use Rattle.std.specs.List.{filter, list_all}
use Rattle.std.proofs.lemmas.Bool.{cases_Bool, and_parts, and_from, ltb-true, lt-ltb}
use Rattle.std.proofs.lemmas.List.{append-nil}
use Rattle.std.proofs.lemmas.List.Folds.{list_all-append}
use Rattle.queue_core.specs.declared.op.Op.{Op}
use Rattle.queue_core.specs.declared.op.Op.TheVariants.{Publish, Deliver, Drop, Ack, Requeue, Depth, Start, SyncMark}
use Rattle.queue_core.specs.Queue.{Item, QueueState, is_above, takes, stays, changed, kept, step, apply, raised, new_item, greatest, rises}
use Rattle.queue_core.specs.Legal.{run}
use Rattle.queue_core.specs.Kept.{IsQueue}

-- a test of positions that holds of all holds of what is kept
kept_test : (t : ℕ → Bool) (op : Op) (xs : List Item) → list_all (λ j. t j.at) xs ≡ true → list_all (λ j. t j.at) (kept op xs) ≡ true
kept_test t op [] h = h
kept_test t op (i ∷ xs) h =
    let p = and_parts (t i.at) (list_all (λ j. t j.at) xs) h in
    elim (stays op i) as (λ b. list_all (λ j. t j.at) (map (changed op) (cond b (i ∷ filter (stays op) xs) (filter (stays op) xs))) ≡ true)
    [ true ↦ and_from (t i.at) (list_all (λ j. t j.at) (kept op xs)) p.0 (kept_test t op xs p.1) | false ↦ kept_test t op xs p.1 ]

kept_rises : (op : Op) (xs : List Item) → rises xs ≡ true → rises (kept op xs) ≡ true
kept_rises op [] h = h
kept_rises op (i ∷ xs) h =
    let p = and_parts (list_all (λ j. nat_lt i.at j.at) xs) (rises xs) h in
    elim (stays op i) as (λ b. rises (map (changed op) (cond b (i ∷ filter (stays op) xs) (filter (stays op) xs))) ≡ true)
    [ true ↦ and_from (list_all (λ j. nat_lt i.at j.at) (kept op xs)) (rises (kept op xs)) (kept_test (λ n. nat_lt i.at n) op xs p.0) (kept_rises op xs p.1) | false ↦ kept_rises op xs p.1 ]

push_rises : (a : ℕ) (b : List ℕ) (xs : List Item) → is_above a xs ≡ true → rises xs ≡ true → rises (xs ++ new_item a b ∷ []) ≡ true
push_rises a b [] h k = refl
push_rises a b (i ∷ xs) h k =
    let p = and_parts (nat_lt i.at a) (is_above a xs) h in
    let q = and_parts (list_all (λ j. nat_lt i.at j.at) xs) (rises xs) k in
    and_from (list_all (λ j. nat_lt i.at j.at) (xs ++ new_item a b ∷ [])) (rises (xs ++ new_item a b ∷ []))
    (list_all-append (λ (j : Item). nat_lt i.at j.at) xs (new_item a b ∷ []) ∙ and_from (list_all (λ j. nat_lt i.at j.at) xs) (nat_lt i.at a && true) q.0 (and_from (nat_lt i.at a) true p.0 refl))
    (push_rises a b xs p.1 q.1)

pub step_rises : (op : Op) (xs : List Item) → rises xs ≡ true → rises (step op xs) ≡ true
step_rises (Publish at b) xs h = ⊎_elim
    (λ (yes : takes at.0 xs ≡ true). rw yes (push_rises at.0 b (kept (Publish at b) xs) (kept_test (λ n. nat_lt n at.0) (Publish at b) xs (and_parts (is_above at.0 xs) (nat_lt at.0 greatest) yes).0) (kept_rises (Publish at b) xs h)))
    (λ (none : takes at.0 xs ≡ false). rw (none, append-nil (kept (Publish at b) xs)) (kept_rises (Publish at b) xs h))
    (cases_Bool (takes at.0 xs))
step_rises (Deliver at) xs h = rw append-nil (kept_rises (Deliver at) xs h)
step_rises (Drop at) xs h = rw append-nil (kept_rises (Drop at) xs h)
step_rises (Ack at) xs h = rw append-nil (kept_rises (Ack at) xs h)
step_rises (Requeue at) xs h = rw append-nil (kept_rises (Requeue at) xs h)
step_rises (Depth d) xs h = rw append-nil (kept_rises (Depth d) xs h)
step_rises (Start d) xs h = rw append-nil (kept_rises (Start d) xs h)
step_rises (SyncMark k) xs h = rw append-nil (kept_rises (SyncMark k) xs h)

pub run_rises : (xs : List Item) (l : List Op) → rises xs ≡ true → rises (run xs l) ≡ true
run_rises xs [] h = h
run_rises xs (op ∷ l) h = run_rises (step op xs) l (step_rises op xs h)

-- what stands below one number stands below a greater one
pub above_more : (n m : ℕ) → n ≤ m → (xs : List Item) → is_above n xs ≡ true → is_above m xs ≡ true
above_more n m le [] h = h
above_more n m le (i ∷ xs) h =
    let p = and_parts (nat_lt i.at n) (is_above n xs) h in
    let lt : i.at < m = omega (arith, ltb-true i.at n p.0) in
    and_from (nat_lt i.at m) (is_above m xs) (lt-ltb i.at m lt) (above_more n m le xs p.1)

-- an operation that brings nothing keeps a queue one
quiet_keeps : (op : Op) (n : ℕ) (xs : List Item) → IsQueue (record { next = n; items = xs }) → IsQueue (record { next = n; items = kept op xs })
quiet_keeps op n xs h = record { rises = kept_rises op xs h.rises; below = kept_test (λ k. nat_lt k n) op xs h.below; fits = h.fits }

-- every operation keeps a queue one
pub apply_keeps : (op : Op) (q : QueueState) → IsQueue q → IsQueue (apply op q)
apply_keeps (Publish at b) q h = ⊎_elim
    (λ (yes : takes at.0 q.items ≡ true).
    let p = and_parts (is_above at.0 q.items) (nat_lt at.0 greatest) yes in
    let kept_below : is_above at.0 (kept (Publish at b) q.items) ≡ true = kept_test (λ k. nat_lt k at.0) (Publish at b) q.items p.0 in
    let more : is_above (at.0 + 1) (kept (Publish at b) q.items) ≡ true = above_more at.0 (at.0 + 1) (omega arith) (kept (Publish at b) q.items) kept_below in
    let last : (nat_lt at.0 (at.0 + 1) && true) ≡ true = and_from (nat_lt at.0 (at.0 + 1)) true (lt-ltb at.0 (at.0 + 1) (omega arith)) refl in
    rw yes (record {
      rises = push_rises at.0 b (kept (Publish at b) q.items) kept_below (kept_rises (Publish at b) q.items h.rises);
      below = list_all-append (λ (j : Item). nat_lt j.at (at.0 + 1)) (kept (Publish at b) q.items) (new_item at.0 b ∷ []) ∙ and_from (is_above (at.0 + 1) (kept (Publish at b) q.items)) (nat_lt at.0 (at.0 + 1) && true) more last;
      fits = omega (arith, ltb-true at.0 greatest p.1);
    }))
    (λ (none : takes at.0 q.items ≡ false). rw (none, append-nil (kept (Publish at b) q.items)) (quiet_keeps (Publish at b) q.next q.items h))
    (cases_Bool (takes at.0 q.items))
apply_keeps (Deliver at) q h = rw append-nil (quiet_keeps (Deliver at) q.next q.items h)
apply_keeps (Drop at) q h = rw append-nil (quiet_keeps (Drop at) q.next q.items h)
apply_keeps (Ack at) q h = rw append-nil (quiet_keeps (Ack at) q.next q.items h)
apply_keeps (Requeue at) q h = rw append-nil (quiet_keeps (Requeue at) q.next q.items h)
apply_keeps (Depth d) q h = rw append-nil (quiet_keeps (Depth d) q.next q.items h)
apply_keeps (Start d) q h = rw append-nil (quiet_keeps (Start d) q.next q.items h)
apply_keeps (SyncMark k) q h = rw append-nil (quiet_keeps (SyncMark k) q.next q.items h)

-- and so does a greater next position
pub raise_keeps : (to : ℕ) (q : QueueState) → to ≤ greatest → IsQueue q → IsQueue (raised to q)
raise_keeps to q le h = record { rises = h.rises; below = above_more q.next (max q.next to) (omega arith) q.items h.below; fits = omega (arith, h.fits) }
