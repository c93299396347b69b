-- What a book keeps, after each call, and what it then tells.
use Rattle.std.proofs.Common.{◌≡◌, ℕ, ◌+◌, ◌-◌, ◌<◌, ◌≤◌, List, [], ◌∷◌, ◌++◌, length, get_or, take, drop, count_by, refl, ap, ◌∙◌, arith, length-append, length-drop}
use Rattle.confirm_book.specs.declared.kind.Kind.{Kind}
use Rattle.confirm_book.specs.declared.kind.Kind.TheVariants.{Cast, Publish, Other}
use Rattle.confirm_book.specs.declared.count.Count.{Count}
use Rattle.confirm_book.specs.Book.{Ledger, is_cast, is_publish, last_of, published, newly, came_round}
use Rattle.confirm_book.specs.Counts.{Row, with_kinds, kinds_from, ledger_of, IsKept}
use Rattle.confirm_book.proofs.Counting.{length-kinds, push_told, push_counted, front_count, rest_told, rest_counted}

-- books are one where their parts are
pub same_ledger : (a b : Ledger) → a.confirmed ≡ b.confirmed → a.casts_confirmed ≡ b.casts_confirmed → a.publishes_confirmed ≡ b.publishes_confirmed → a.waiting ≡ b.waiting → a.spare ≡ b.spare → a ≡ b
same_ledger a b e f g h k =
    let ledger : ℕ → ℕ → ℕ → List Kind → ℕ → Ledger = λ n p q ks m. record { confirmed = n; casts_confirmed = p; publishes_confirmed = q; waiting = ks; spare = m } in
    ap (λ n. ledger n a.casts_confirmed a.publishes_confirmed a.waiting a.spare) e ∙ ap (λ n. ledger b.confirmed n a.publishes_confirmed a.waiting a.spare) f
    ∙ ap (λ n. ledger b.confirmed b.casts_confirmed n a.waiting a.spare) g ∙ ap (λ ks. ledger b.confirmed b.casts_confirmed b.publishes_confirmed ks a.spare) h
    ∙ ap (ledger b.confirmed b.casts_confirmed b.publishes_confirmed b.waiting) k

-- a message more counts once at most
pub counts_once : (kind : Kind) (c : Count) → (with_kinds (kind ∷ []) c).casts + (with_kinds (kind ∷ []) c).publishes ≤ c.casts + c.publishes + 1
counts_once Cast c = omega arith
counts_once Publish c = omega arith
counts_once Other c = omega arith

-- a message of this number and kind is published, and the count up to it joins the row
module _ (last number : ℕ) (now later confirmed : Count) (row next : Row) (kind : Kind) (b : Ledger)
    (h : IsKept last now confirmed row) (view : ledger_of last confirmed row ≡ b) (follows : number ≡ last_of b + 1)
    (more : later ≡ with_kinds (kind ∷ []) now) (joins : next.counts ≡ row.counts ++ later ∷ []) (room : next.spare ≡ row.spare - 1) where
  follows_last : number ≡ last + 1
  follows_last = omega (arith, follows, ap last_of view, h.within, length-kinds confirmed row.counts)

  longer : length next.counts ≡ length row.counts + 1
  longer = ap length joins ∙ length-append row.counts (later ∷ [])

  joined : next.counts ≡ row.counts ++ with_kinds (kind ∷ []) now ∷ []
  joined = joins ∙ ap (λ c. row.counts ++ c ∷ []) more

  pub published_kept : IsKept number later confirmed next
  published_kept = record {
    counted = rw (more, joined) (push_counted confirmed now row.counts kind h.counted);
    within = omega (arith, follows_last, longer, h.within);
    once = rw more (omega (arith, follows_last, counts_once kind now, h.once));
  }

  pub published_told : ledger_of number confirmed next ≡ published kind b
  published_told =
      same_ledger (ledger_of number confirmed next) (published kind (ledger_of last confirmed row))
      (omega (arith, follows_last, longer, h.within)) refl refl (ap (kinds_from confirmed) joined ∙ push_told confirmed now row.counts kind h.counted) room
      ∙ ap (published kind) view

-- n messages more have come round, up to this number, and their counts leave the row
module _ (last to n : ℕ) (now confirmed then : Count) (row next : Row) (b : Ledger)
    (h : IsKept last now confirmed row) (view : ledger_of last confirmed row ≡ b) (reached : to ≤ last_of b)
    (some : 0 < n) (up : n ≡ to - (last - length row.counts))
    (front : then ≡ get_or row.counts (n - 1) then) (leaves : next.counts ≡ drop n row.counts) (room : next.spare ≡ row.spare + n) where
  pub few : n ≤ length row.counts
  few = omega (arith, reached, ap last_of view, up, h.within, length-kinds confirmed row.counts)

  are_new : take n (kinds_from confirmed row.counts) ≡ newly to b
  are_new = ap (λ k. take k (kinds_from confirmed row.counts)) up ∙ ap (newly to) view

  pub came_round_count : then ≡ with_kinds (newly to b) confirmed
  came_round_count = front ∙ front_count n confirmed now row.counts h.counted few then some ∙ ap (λ ks. with_kinds ks confirmed) are_new

  counted_front : then ≡ with_kinds (take n (kinds_from confirmed row.counts)) confirmed
  counted_front = front ∙ front_count n confirmed now row.counts h.counted few then some

  shorter : length next.counts ≡ length row.counts - n
  shorter = ap length leaves ∙ length-drop n row.counts

  pub came_round_kept : IsKept last now then next
  came_round_kept = record {
    counted = rw (counted_front, leaves) (rest_counted n confirmed now row.counts h.counted few);
    within = omega (arith, shorter, h.within);
    once = h.once;
  }

  pub came_round_told : ledger_of last then next ≡ came_round to b
  came_round_told =
      same_ledger (ledger_of last then next) (came_round to (ledger_of last confirmed row))
      (omega (arith, shorter, h.within, few, up, some))
      (ap (λ c. c.casts) counted_front ∙ ap (λ k. confirmed.casts + count_by is_cast (take k (kinds_from confirmed row.counts))) up)
      (ap (λ c. c.publishes) counted_front ∙ ap (λ k. confirmed.publishes + count_by is_publish (take k (kinds_from confirmed row.counts))) up)
      (rw (counted_front, leaves) (rest_told n confirmed now row.counts h.counted few) ∙ ap (λ k. drop k (kinds_from confirmed row.counts)) up)
      (room ∙ ap (λ k. row.spare + k) up)
      ∙ ap (came_round to) view
