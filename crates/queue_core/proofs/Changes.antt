-- What an operation does to the items, place by place.
use Rattle.std.proofs.Common.{◌≡◌, ℕ, zero, suc, ◌<◌, ◌+◌, true, false, cond, List, [], ◌∷◌, ◌++◌, map, length, get_or, set, take, drop, refl, sym, ap, subst, ◌∙◌, arith, nat_eq}
use Rattle.std.specs.Prelude.{◌&&◌, not, nat_lt}
use Rattle.std.specs.List.{list_any, list_all, remove}
use Rattle.std.proofs.lemmas.Bool.{and_parts, eqb-true, ne_eqb}
use Rattle.std.proofs.lemmas.List.{append-nil, set_split}
use Rattle.ring_names.specs.declared.numbers.Position.{Position}
use Rattle.queue_core.specs.declared.op.Op.{Op}
use Rattle.queue_core.specs.declared.op.Op.TheVariants.{Publish, Deliver, Drop, Ack, Requeue, Start}
use Rattle.queue_core.specs.declared.held.CopyState.TheVariants.{Again, Unacked}
use Rattle.queue_core.specs.Queue.{Item, QueueState, is_at, is_ready, is_unacked, is_ready_at, is_unacked_at, stays, state_after, changed, kept, takes, new_item, apply, rises}
use Rattle.queue_core.specs.Kept.{IsQueue}
use Rattle.queue_core.specs.Slots.{again}
use Rattle.queue_core.proofs.Items.{kept_same, kept_all}
use Rattle.queue_core.proofs.Lists.{filter_all}
use Rattle.queue_core.proofs.Places.{below_all, none_behind}
use Rattle.queue_core.proofs.Rises.{apply_keeps}
use Rattle.queue_core.proofs.Split.{kept-append}

-- what leaves all but one position as it is does all that it does in one place
module _ (a : ℕ) (op : Op) (other : (i : Item) → is_at a i ≡ false → (stays op i ≡ true) × (state_after op i ≡ i.state)) where
  kept_place : (xs : List Item) → rises xs ≡ true → (k : ℕ) (d : Item) → k < length xs → (get_or xs k d).at ≡ a
      → kept op xs ≡ take k xs ++ (kept op (get_or xs k d ∷ []) ++ drop (suc k) xs)
  kept_place [] r k d within is = absurd (omega arith)
  kept_place (x ∷ xs) r zero d within is =
      let p = and_parts (list_all (λ j. nat_lt x.at j.at) xs) (rises xs) r in
      let behind : list_any (is_at a) xs ≡ false = none_behind a xs (ap (λ n. list_all (λ j. nat_lt n j.at) xs) (sym is) ∙ p.0) in
      kept-append op (x ∷ []) xs ∙ ap (λ ys. kept op (x ∷ []) ++ ys) (kept_same (is_at a) op other xs behind)
  kept_place (x ∷ xs) r (suc k) d within is =
      let p = and_parts (list_all (λ j. nat_lt x.at j.at) xs) (rises xs) r in
      let below : x.at < a = omega (arith, below_all x.at xs p.0 k d (omega arith)) in
      let q = other x (ne_eqb x.at a (λ same. absurd (omega arith))) in
      let e : changed op x ≡ x = ap (λ s. record x { state = s }) q.1 in
      rw (q.0) (ap (λ j. j ∷ kept op xs) e ∙ ap (λ ys. x ∷ ys) (kept_place xs p.1 k d (omega arith) is))

module _ (at : Position) (xs : List Item) (r : rises xs ≡ true) (k : ℕ) (d : Item) (within : k < length xs) where
  -- the item in that place
  abbrev here : Item
  here = get_or xs k d

  -- where it is ready, it is handed out
  pub handed_out : is_ready_at at.0 here ≡ true → set xs k (record here { state = Unacked }) ≡ kept (Deliver at) xs
  handed_out ready =
      let is : here.at ≡ at.0 = eqb-true here.at at.0 (and_parts (nat_eq here.at at.0) (is_ready here) ready).0 in
      set_split xs k (record here { state = Unacked }) within
      ∙ ap (λ b. take k xs ++ record here { state = cond b Unacked here.state } ∷ drop (suc k) xs) (sym ready)
      ∙ sym (kept_place at.0 (Deliver at) (λ i e. (refl, rw e refl)) xs r k d within is)

  -- or taken off
  pub taken_off : is_ready_at at.0 here ≡ true → remove xs k ≡ kept (Drop at) xs
  taken_off ready =
      let is : here.at ≡ at.0 = eqb-true here.at at.0 (and_parts (nat_eq here.at at.0) (is_ready here) ready).0 in
      ap (λ b. take k xs ++ (map (changed (Drop at)) (cond (not b) (here ∷ []) []) ++ drop (suc k) xs)) (sym ready)
      ∙ sym (kept_place at.0 (Drop at) (λ i e. (rw e refl, refl)) xs r k d within is)

  -- where it is handed out, it leaves
  pub acknowledged : is_unacked_at at.0 here ≡ true → remove xs k ≡ kept (Ack at) xs
  acknowledged handed =
      let is : here.at ≡ at.0 = eqb-true here.at at.0 (and_parts (nat_eq here.at at.0) (is_unacked here) handed).0 in
      ap (λ b. take k xs ++ (map (changed (Ack at)) (cond (not b) (here ∷ []) []) ++ drop (suc k) xs)) (sym handed)
      ∙ sym (kept_place at.0 (Ack at) (λ i e. (rw e refl, refl)) xs r k d within is)

  -- or is ready again
  pub handed_back : is_unacked_at at.0 here ≡ true → set xs k (again here) ≡ kept (Requeue at) xs
  handed_back handed =
      let p = and_parts (nat_eq here.at at.0) (is_unacked here) handed in
      set_split xs k (again here) within
      ∙ ap (λ b. take k xs ++ record here { state = cond (b && is_unacked here) Again here.state } ∷ drop (suc k) xs) (sym p.0)
      ∙ sym (kept_place at.0 (Requeue at) (λ i e. (refl, rw e refl)) xs r k d within (eqb-true here.at at.0 p.0))

-- all is ready again
pub all_back : (depth : ℕ) (xs : List Item) → map again xs ≡ kept (Start depth) xs
all_back depth xs = sym (ap (map again) (filter_all (stays (Start depth)) (λ i. refl) xs))

-- where no item passes the test of an operation, all stays
pub none_out : (at : Position) (xs : List Item) → list_any (is_ready_at at.0) xs ≡ false → xs ≡ kept (Deliver at) xs
none_out at xs none = sym (kept_same (is_ready_at at.0) (Deliver at) (λ i e. (refl, rw e refl)) xs none)

pub none_off : (at : Position) (xs : List Item) → list_any (is_ready_at at.0) xs ≡ false → xs ≡ kept (Drop at) xs
none_off at xs none = sym (kept_same (is_ready_at at.0) (Drop at) (λ i e. (rw e refl, refl)) xs none)

pub none_acknowledged : (at : Position) (xs : List Item) → list_any (is_unacked_at at.0) xs ≡ false → xs ≡ kept (Ack at) xs
none_acknowledged at xs none = sym (kept_same (is_unacked_at at.0) (Ack at) (λ i e. (rw e refl, refl)) xs none)

pub none_back : (at : Position) (xs : List Item) → list_any (is_unacked_at at.0) xs ≡ false → xs ≡ kept (Requeue at) xs
none_back at xs none = sym (kept_same (is_unacked_at at.0) (Requeue at) (λ i e. (refl, rw e refl)) xs none)

-- ---- the queue

-- an operation that brings nothing
pub quiet_done : (n : ℕ) (xs ys : List Item) → xs ≡ ys → ◌≡◌ {A = QueueState} (record { next = n; items = xs }) (record { next = n; items = ys ++ [] })
quiet_done n xs ys e = ap (λ (zs : List Item). record { next = n; items = zs }) (e ∙ sym (append-nil ys))

-- a message that joins
pub joined : (at : Position) (body : List ℕ) (q : QueueState) (i : Item) (xs : List Item) → takes at.0 q.items ≡ true → i ≡ new_item at.0 body → xs ≡ q.items ++ i ∷ [] → ◌≡◌ {A = QueueState} (record { next = at.0 + 1; items = xs }) (apply (Publish at body) q)
joined at body q i xs may is e =
    let kept_as_is : q.items ≡ kept (Publish at body) q.items = sym (kept_all (Publish at body) (λ j. (refl, refl)) q.items) in
    rw may (ap (λ (ys : List Item). record { next = at.0 + 1; items = ys }) (e ∙ ap (λ (j : Item). q.items ++ j ∷ []) is ∙ ap (λ (ys : List Item). ys ++ new_item at.0 body ∷ []) kept_as_is))

-- a queue after an operation is one
pub keeps_done : (op : Op) (q new : QueueState) → IsQueue q → new ≡ apply op q → IsQueue new
keeps_done op q new h e = subst IsQueue (sym e) (apply_keeps op q h)
