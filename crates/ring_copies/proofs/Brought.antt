-- What a receiver of a copy makes of its mirror is what the copy makes of it.
use Rattle.std.proofs.Common.{◌≡◌, ℕ, ◌+◌, ◌<◌, ◌≤◌, true, false, cond, max, List, [], ◌∷◌, ◌++◌, length, refl, sym, ap, ◌∙◌, subst, arith}
use Rattle.std.specs.Prelude.{◌&&◌, nat_lt}
use Rattle.std.specs.List.{list_all}
use Rattle.std.proofs.lemmas.Bool.{and_parts, and_from}
use Rattle.std.proofs.lemmas.List.{append_assoc, append-nil}
use Rattle.std.proofs.lemmas.List.Folds.{list_all-append}
use Rattle.ring_names.specs.declared.numbers.CreditSpec.{CreditSpec}
use Rattle.queue_core.specs.declared.op.Op.{Op}
use Rattle.queue_core.specs.declared.op.Op.TheVariants.{Publish}
use Rattle.queue_core.specs.Queue.{Item, QueueState, greatest, is_above, rises, takes, next_after, step, apply, no_items, raised}
use Rattle.queue_core.specs.Legal.{run}
use Rattle.queue_mirror.specs.Mirror.{copy_of}
use Rattle.queue_sync.specs.Copy.{kept_aside, apply_all}
use Rattle.queue_sync.specs.Copy as sync
use Rattle.queue_laws.specs.Copies.{high, next_run}
use Rattle.ring_rules.specs.Machine.{World, member_at}
use Rattle.ring_rules.specs.Step.{opening}
use Rattle.ring_copies.specs.Copies.{CopyLink, CopyWorld, all_kept, copy_link_at, since_copy, copied_mirror}
use Rattle.ring_copies.specs.Events.{CopyEvent, IsRun, last, without_copies}
use Rattle.ring_copies.specs.Laws.{items_in}
use Rattle.ring_copies.proofs.Rise.{AreRising, AreOrdered, front_rising, back_rising, high_fits, reached_ordered}

-- ---- items that are kept aside

high_push : (xs : List Item) (i : Item) → high (xs ++ i ∷ []) ≡ max (high xs) (i.at + 1)
high_push [] i = omega arith
high_push (x ∷ xs) i = omega (arith, high_push xs i)

-- what stands before an item stands below it
stands_above : (xs : List Item) (i : Item) (ys : List Item) → rises (xs ++ i ∷ ys) ≡ true → is_above i.at xs ≡ true
stands_above [] i ys h = refl
stands_above (x ∷ xs) i ys h =
    let p = and_parts (list_all (λ j. nat_lt x.at j.at) (xs ++ i ∷ ys)) (rises (xs ++ i ∷ ys)) h in
    let q = and_parts (list_all (λ j. nat_lt x.at j.at) xs) (nat_lt x.at i.at && list_all (λ j. nat_lt x.at j.at) ys) (sym (list_all-append (λ (j : Item). nat_lt x.at j.at) xs (i ∷ ys)) ∙ p.0) in
    and_from (nat_lt x.at i.at) (is_above i.at xs) (and_parts (nat_lt x.at i.at) (list_all (λ j. nat_lt x.at j.at) ys) q.1).0 (stands_above xs i ys p.1)

-- items that rise are all kept, behind those that are kept already
kept_behind : (xs ys : List Item) (n : ℕ) → AreRising (xs ++ ys) → max 1 (high xs) ≡ n → all_kept ys (record { next = n; items = xs }) ≡ record { next = max 1 (high (xs ++ ys)); items = xs ++ ys }
kept_behind xs [] n h e = ap (λ (zs : List Item). record { next = n; items = zs }) (sym (append-nil xs)) ∙ ap (λ k. record { next = k; items = xs ++ [] }) (sym e ∙ ap (λ zs. max 1 (high zs)) (sym (append-nil xs)))
kept_behind xs (i ∷ ys) n h e =
    ap (λ t. all_kept ys (cond t (record { next = i.at + 1; items = xs ++ i ∷ [] }) (record { next = n; items = xs }))) may
    ∙ kept_behind (xs ++ i ∷ []) ys (i.at + 1) (subst AreRising (sym same) h) next
    ∙ ap (λ (zs : List Item). record { next = max 1 (high zs); items = zs }) same
  where
    same : (xs ++ i ∷ []) ++ ys ≡ xs ++ i ∷ ys
    same = append_assoc xs (i ∷ []) ys

    above : is_above i.at xs ≡ true
    above = stands_above xs i ys h.0

    may : takes i.at xs ≡ true
    may = and_from (is_above i.at xs) (nat_lt i.at greatest) above (and_parts (nat_lt i.at greatest) (is_above greatest ys) (back_rising xs (i ∷ ys) h).1).0

    next : max 1 (high (xs ++ i ∷ [])) ≡ i.at + 1
    next = omega (arith, high_push xs i, high_fits i.at xs above)

-- so what rises is all kept; the next position is one behind the last, or 1 where nothing is kept
pub kept_rise : (xs : List Item) → rises xs ≡ true → is_above greatest xs ≡ true → all_kept xs no_items ≡ record { next = max 1 (high xs); items = xs }
kept_rise xs r a = kept_behind [] xs 1 (r, a) (let one : max 1 0 ≡ 1 = omega arith in one)

-- where something is kept, one behind the last
pub some_kept : (i : Item) (xs : List Item) → rises (i ∷ xs) ≡ true → is_above greatest (i ∷ xs) ≡ true → all_kept (i ∷ xs) no_items ≡ record { next = high (i ∷ xs); items = i ∷ xs }
some_kept i xs r a = kept_rise (i ∷ xs) r a ∙ ap (λ n. record { next = n; items = i ∷ xs }) (let some : max 1 (high (i ∷ xs)) ≡ high (i ∷ xs) = omega arith in some)

-- ---- operations on them

-- one after another they do what they do to the items and to the next position
pub applied : (l : List Op) (q : QueueState) → apply_all l q ≡ record { next = next_run q.items l q.next; items = run q.items l }
applied [] q = refl
applied (o ∷ l) q = applied l (apply o q)

next_begun : (o : Op) (xs : List Item) (n : ℕ) → next_after o xs (max 1 n) ≡ max 1 (next_after o xs n)
next_begun (Publish at b) xs n = elim (takes at.0 xs) as (λ t. cond t (at.0 + 1) (max 1 n) ≡ max 1 (cond t (at.0 + 1) n)) [ true ↦ omega arith | false ↦ refl ]
next_begun o xs n = refl

-- from 1 on instead of from 0
next_run_begun : (xs : List Item) (l : List Op) (n : ℕ) → next_run xs l (max 1 n) ≡ max 1 (next_run xs l n)
next_run_begun xs [] n = refl
next_run_begun xs (o ∷ l) n = ap (next_run (step o xs) l) (next_begun o xs n) ∙ next_run_begun (step o xs) l (next_after o xs n)

-- ---- what a copy makes of a mirror whose next position isn't 0

pub brought : (w : World) (y : ℕ) (c : CopyLink) → 1 ≤ (member_at w y).mirror.queue.next → rises c.aside ≡ true → is_above greatest c.aside ≡ true
    → sync.copied_mirror (member_at w y).mirror (all_kept c.aside no_items) (since_copy w y c) ≡ copied_mirror w y c
brought w y c some r a =
    ap (λ aside. sync.copied_mirror (member_at w y).mirror aside since) (kept_rise c.aside r a)
    ∙ ap (λ k. copy_of (raised q.next (raised m k))) (applied since (record { next = m; items = c.aside }))
    ∙ ap (λ n. copy_of (record { next = n; items = run c.aside since })) next
  where
    q : QueueState
    q = (member_at w y).mirror.queue

    since : List Op
    since = since_copy w y c

    m : ℕ
    m = max 1 (high c.aside)

    next : max (max (next_run c.aside since m) m) q.next ≡ max q.next (max (high c.aside) (next_run c.aside since (high c.aside)))
    next = omega (arith, some, next_run_begun c.aside since (high c.aside))

-- in every state of every run
pub reached_brought : (credit : CreditSpec) (names : List (List ℕ)) (es : List CopyEvent) → IsRun (without_copies (opening credit names)) es
    → (y i : ℕ) → i < length (last (without_copies (opening credit names)) es).copies
    → sync.copied_mirror (member_at (last (without_copies (opening credit names)) es).ring y).mirror (all_kept (copy_link_at (last (without_copies (opening credit names)) es).copies i).aside no_items) (since_copy (last (without_copies (opening credit names)) es).ring y (copy_link_at (last (without_copies (opening credit names)) es).copies i))
    ≡ copied_mirror (last (without_copies (opening credit names)) es).ring y (copy_link_at (last (without_copies (opening credit names)) es).copies i)
reached_brought credit names es r y i lt =
    let h : AreOrdered W = reached_ordered credit names es r in
    let k : AreRising c.aside = front_rising c.aside (items_in (c.loads ++ c.to_put)) (h.copies i lt) in
    brought W.ring y c (h.queues y).some k.0 k.1
  where
    W : CopyWorld
    W = last (without_copies (opening credit names)) es

    c : CopyLink
    c = copy_link_at W.copies i
