-- An item that is kept aside: it joins as a message, is handed out, and comes back.
use Rattle.std.proofs.Common.{◌≡◌, ℕ, ◌+◌, Bool, true, false, cond, List, [], ◌∷◌, ◌++◌, Option, Some, None, is_some, refl, sym, ap, ap₂, ◌∙◌, arith}
use Rattle.std.specs.Prelude.{◌&&◌, not, nat_lt, nat_le}
use Rattle.std.specs.List.{list_any}
use Rattle.std.proofs.lemmas.Bool.{and_parts, eq-eqb, ne_eqb, or_from, ltb-true}
use Rattle.std.proofs.lemmas.Bool.Decides.{nat_tests}
use Rattle.std.proofs.lemmas.List.{append-nil}
use Rattle.ring_names.specs.declared.numbers.Position.{Position}
use Rattle.queue_core.proofs.Split.{kept-append}
use Rattle.queue_core.specs.declared.op.Op.{Op}
use Rattle.queue_core.specs.declared.op.Op.TheVariants.{Publish, Deliver, Requeue}
use Rattle.queue_core.specs.declared.held.CopyState.{CopyState}
use Rattle.queue_core.specs.declared.held.CopyState.TheVariants.{Ready, Again, Unacked}
use Rattle.queue_core.specs.Queue.{Item, QueueState, is_at, is_ready_at, is_unacked_at, is_above, takes, greatest, stays, state_after, kept, apply}
use Rattle.queue_core.specs.Shown.{first_from}
use Rattle.queue_core.proofs.Items.{kept_same}
use Rattle.queue_core.proofs.Changes.{joined}
use Rattle.queue_core.proofs.Places.{none_narrow, not_ready_at, not_unacked_at}
use Rattle.queue_sync.specs.Copy.{kept_aside}

-- ---- what stands from a position on

turned : (m n : ℕ) → nat_lt m n ≡ not (nat_le n m)
turned m n = grind (arith, nat_tests)

-- something does just where not all stands below it
found_above : (a : ℕ) (xs : List Item) → is_some (first_from a xs) ≡ not (is_above a xs)
found_above a [] = refl
found_above a (i ∷ xs) = by_test (found_above a xs) (nat_le a i.at) refl
  where
    by_test : is_some (first_from a xs) ≡ not (is_above a xs) → (b : Bool) → nat_le a i.at ≡ b → is_some (cond (nat_le a i.at) (Some i) (first_from a xs)) ≡ not (nat_lt i.at a && is_above a xs)
    by_test rest true e =
        let below : nat_lt i.at a ≡ false = turned i.at a ∙ ap not e in
        ap (λ b. is_some (cond b (Some i) (first_from a xs))) e ∙ sym (ap (λ b. not (b && is_above a xs)) below)
    by_test rest false e =
        let below : nat_lt i.at a ≡ true = turned i.at a ∙ ap not e in
        ap (λ b. is_some (cond b (Some i) (first_from a xs))) e ∙ rest ∙ sym (ap (λ b. not (b && is_above a xs)) below)

not_true : (b : Bool) → true ≡ not b → b ≡ false
not_true true e = cc
not_true false e = refl

not_false : (b : Bool) → false ≡ not b → b ≡ true
not_false true e = refl
not_false false e = cc

pub some_stands : (a : ℕ) (xs : List Item) (i : Item) → Some i ≡ first_from a xs → false ≡ takes a xs
some_stands a xs i found = sym (ap (λ b. b && nat_lt a greatest) (not_true (is_above a xs) (ap is_some found ∙ found_above a xs)))

pub none_stands : (a : ℕ) (xs : List Item) → ◌≡◌ {A = Option Item} None (first_from a xs) → nat_lt a greatest ≡ takes a xs
none_stands a xs none = sym (ap (λ b. b && nat_lt a greatest) (not_false (is_above a xs) (ap is_some none ∙ found_above a xs)))

-- ---- what is done to the last item

none_at : (a : ℕ) (xs : List Item) → is_above a xs ≡ true → list_any (is_at a) xs ≡ false
none_at a [] h = refl
none_at a (i ∷ xs) h =
    let p = and_parts (nat_lt i.at a) (is_above a xs) h in
    or_from (is_at a i) (list_any (is_at a) xs) (ne_eqb i.at a (λ same. absurd (let l = ltb-true i.at a p.0 in omega (arith, l, same)))) (none_at a xs p.1)

-- where it changes only items of that position
last_changes : (op : Op) (t : Item → Bool) → ((i : Item) → t i ≡ false → (stays op i ≡ true) × (state_after op i ≡ i.state)) → (xs : List Item) (i j : Item) → list_any t xs ≡ false
    → kept op (i ∷ []) ≡ j ∷ [] → kept op (xs ++ i ∷ []) ≡ xs ++ j ∷ []
last_changes op t same xs i j none e = kept-append op xs (i ∷ []) ∙ ap₂ ◌++◌ (kept_same t op same xs none) e

-- an item as it stands
abbrev held_so : Position → List ℕ → CopyState → Item
held_so at body s = record { at = at.0; body = body; state = s }

handed : (at : Position) (body : List ℕ) (xs : List Item) → is_above at.0 xs ≡ true → kept (Deliver at) (xs ++ held_so at body Ready ∷ []) ≡ xs ++ held_so at body Unacked ∷ []
handed at body xs above =
    last_changes (Deliver at) (is_ready_at at.0) (λ i e. (refl, ap (λ b. cond b Unacked i.state) e)) xs (held_so at body Ready) (held_so at body Unacked)
    (none_narrow (is_at at.0) (is_ready_at at.0) (not_ready_at at.0) xs (none_at at.0 xs above))
    (ap (λ b. record (held_so at body Ready) { state = cond (b && true) Unacked Ready } ∷ []) (eq-eqb at.0 at.0 refl))

back : (at : Position) (body : List ℕ) (xs : List Item) → is_above at.0 xs ≡ true → kept (Requeue at) (xs ++ held_so at body Unacked ∷ []) ≡ xs ++ held_so at body Again ∷ []
back at body xs above =
    last_changes (Requeue at) (is_unacked_at at.0) (λ i e. (refl, ap (λ b. cond b Again i.state) e)) xs (held_so at body Unacked) (held_so at body Again)
    (none_narrow (is_at at.0) (is_unacked_at at.0) (not_unacked_at at.0) xs (none_at at.0 xs above))
    (ap (λ b. record (held_so at body Unacked) { state = cond (b && true) Again Unacked } ∷ []) (eq-eqb at.0 at.0 refl))

-- ---- an item joins

-- the queue with an item of that state behind its items
abbrev with_last : QueueState → Position → List ℕ → CopyState → QueueState
with_last q at body s = record { next = at.0 + 1; items = q.items ++ held_so at body s ∷ [] }

aside_is : (at : Position) (body : List ℕ) (s : CopyState) (q : QueueState) → takes at.0 q.items ≡ true → with_last q at body s ≡ kept_aside (held_so at body s) q
aside_is at body s q may = sym (ap (λ b. cond b (with_last q at body s) q) may)

published : (at : Position) (body : List ℕ) (q q1 : QueueState) → takes at.0 q.items ≡ true → q1 ≡ apply (Publish at body) q → q1 ≡ with_last q at body Ready
published at body q q1 may is = is ∙ sym (joined at body q (held_so at body Ready) (q.items ++ held_so at body Ready ∷ []) may refl refl)

delivered : (at : Position) (body : List ℕ) (q q1 q2 : QueueState) → takes at.0 q.items ≡ true → q1 ≡ apply (Publish at body) q → q2 ≡ apply (Deliver at) q1 → q2 ≡ with_last q at body Unacked
delivered at body q q1 q2 may is is2 =
    is2 ∙ ap (apply (Deliver at)) (published at body q q1 may is)
    ∙ ap (λ (xs : List Item). record { next = at.0 + 1; items = xs }) (append-nil (kept (Deliver at) (q.items ++ held_so at body Ready ∷ [])) ∙ handed at body q.items (and_parts (is_above at.0 q.items) (nat_lt at.0 greatest) may).0)

pub none_kept : (at : Position) (body : List ℕ) (s : CopyState) (q : QueueState) → takes at.0 q.items ≡ false → q ≡ kept_aside (held_so at body s) q
none_kept at body s q none = sym (ap (λ b. cond b (with_last q at body s) q) none)

pub ready_kept : (at : Position) (body : List ℕ) (q q1 : QueueState) → takes at.0 q.items ≡ true → q1 ≡ apply (Publish at body) q → q1 ≡ kept_aside (held_so at body Ready) q
ready_kept at body q q1 may is = published at body q q1 may is ∙ aside_is at body Ready q may

pub unacked_kept : (at : Position) (body : List ℕ) (q q1 q2 : QueueState) → takes at.0 q.items ≡ true → q1 ≡ apply (Publish at body) q → q2 ≡ apply (Deliver at) q1 → q2 ≡ kept_aside (held_so at body Unacked) q
unacked_kept at body q q1 q2 may is is2 = delivered at body q q1 q2 may is is2 ∙ aside_is at body Unacked q may

pub again_kept : (at : Position) (body : List ℕ) (q q1 q2 q3 : QueueState) → takes at.0 q.items ≡ true → q1 ≡ apply (Publish at body) q → q2 ≡ apply (Deliver at) q1 → q3 ≡ apply (Requeue at) q2 → q3 ≡ kept_aside (held_so at body Again) q
again_kept at body q q1 q2 q3 may is is2 is3 =
    is3 ∙ ap (apply (Requeue at)) (delivered at body q q1 q2 may is is2)
    ∙ ap (λ (xs : List Item). record { next = at.0 + 1; items = xs }) (append-nil (kept (Requeue at) (q.items ++ held_so at body Unacked ∷ [])) ∙ back at body q.items (and_parts (is_above at.0 q.items) (nat_lt at.0 greatest) may).0)
    ∙ aside_is at body Again q may
