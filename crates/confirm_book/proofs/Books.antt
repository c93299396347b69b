-- Books of logs: every call leaves the book of its log.
use Rattle.std.proofs.Common.{◌≡◌, ℕ, ◌+◌, ◌-◌, ◌<◌, ◌≤◌, min, max, Bool, cond, List, [], ◌∷◌, ◌++◌, length, take, drop, count_by, refl, sym, ap, subst, ◌∙◌, arith, append_assoc, length-append, length-take, length-drop, ⊎_elim}
use Rattle.std.proofs.lemmas.List.{take-append-le, drop-append-le, drop_all, drop-drop, drop-take, append-nil}
use Rattle.std.proofs.lemmas.List.Sums.{sum_by-append, sum_by-take-drop}
use Rattle.std.proofs.lemmas.Bool.{cases_lt}
use Rattle.std.proofs.Math.Seq.{take-add}
use Rattle.confirm_book.specs.declared.kind.Kind.{Kind}
use Rattle.confirm_book.specs.declared.book.Totals.{Totals}
use Rattle.confirm_book.specs.Book.{Ledger, is_cast, is_publish, last_of, totals_of, new_ledger, KeepsAll, published, newly, came_round, totals_in, IsBookOf, without_room, book_in}
use Rattle.confirm_book.specs.Calls.{Call, Reserve, Published, CameRound, IsCalls, after, log_of, confirmed_by}

-- totals are one where their numbers are
pub same_totals : (t u : Totals) → t.casts ≡ u.casts → t.casts_confirmed ≡ u.casts_confirmed → t.publishes ≡ u.publishes → t.publishes_confirmed ≡ u.publishes_confirmed → t ≡ u
same_totals t u e f g h =
    let totals : ℕ → ℕ → ℕ → ℕ → Totals = λ k l m n. record { casts = k; casts_confirmed = l; publishes = m; publishes_confirmed = n } in
    ap (λ n. totals n t.casts_confirmed t.publishes t.publishes_confirmed) e ∙ ap (λ n. totals u.casts n t.publishes t.publishes_confirmed) f
    ∙ ap (λ n. totals u.casts u.casts_confirmed n t.publishes_confirmed) g ∙ ap (λ n. totals u.casts u.casts_confirmed u.publishes n) h

-- a log that is longer counts more
pub count-append : (t : Kind → Bool) (xs ys : List Kind) → count_by t (xs ++ ys) ≡ count_by t xs + count_by t ys
count-append t xs ys = sum_by-append (λ k. cond (t k) 1 0) xs ys

pub book_begins : (spare : ℕ) → IsBookOf [] 0 (new_ledger spare)
book_begins spare = record { reached = omega arith; number = refl; waiting = refl; totals = refl }

pub book_kept : (log : List Kind) (confirmed : ℕ) (a b : Ledger) → IsBookOf log confirmed a → KeepsAll a b → IsBookOf log confirmed b
book_kept log confirmed a b h k = record {
  reached = h.reached;
  number = k.confirmed ∙ h.number;
  waiting = k.waiting ∙ h.waiting;
  totals = rw (k.casts_confirmed, k.publishes_confirmed, k.waiting) h.totals;
}

pub book_published : (log : List Kind) (confirmed : ℕ) (kind : Kind) (b : Ledger) → IsBookOf log confirmed b → IsBookOf (log ++ kind ∷ []) confirmed (published kind b)
book_published log confirmed kind b h =
    let front : take confirmed (log ++ kind ∷ []) ≡ take confirmed log = take-append-le confirmed log (kind ∷ []) h.reached in
    record {
      reached = rw (length-append log (kind ∷ [])) (omega (arith, h.reached));
      number = h.number;
      waiting = ap (λ ks. ks ++ kind ∷ []) h.waiting ∙ sym (drop-append-le confirmed log (kind ∷ []) h.reached);
      totals = same_totals (totals_of (published kind b)) (totals_in confirmed (log ++ kind ∷ []))
          (more is_cast b.casts_confirmed (ap (λ t. t.casts) h.totals))
          (ap (λ t. t.casts_confirmed) h.totals ∙ ap (count_by is_cast) (sym front))
          (more is_publish b.publishes_confirmed (ap (λ t. t.publishes) h.totals))
          (ap (λ t. t.publishes_confirmed) h.totals ∙ ap (count_by is_publish) (sym front));
    }
  where
    more : (t : Kind → Bool) (n : ℕ) → n + count_by t b.waiting ≡ count_by t log → n + count_by t (b.waiting ++ kind ∷ []) ≡ count_by t (log ++ kind ∷ [])
    more t n e = omega (arith, e, count-append t b.waiting (kind ∷ []), count-append t log (kind ∷ []))

-- what is newly confirmed are the messages behind those that were
pub book_newly : (log : List Kind) (confirmed to : ℕ) (b : Ledger) → IsBookOf log confirmed b → newly to b ≡ drop confirmed (take to log)
book_newly log confirmed to b h =
    rw (h.number, h.waiting) (⊎_elim
    (λ (past : to < confirmed).
    let none : to - confirmed ≡ 0 = omega arith in
    let short : length (take to log) ≡ min to (length log) = length-take to log in
    rw none (sym (drop_all confirmed (take to log) (omega (arith, short)))))
    (λ (more : confirmed ≤ to).
    let e : confirmed + (to - confirmed) ≡ to = omega arith in
    sym (drop-take confirmed (to - confirmed) log) ∙ ap (λ n. drop confirmed (take n log)) e)
    (cases_lt to confirmed))

pub book_came_round : (log : List Kind) (confirmed to : ℕ) (b : Ledger) → IsBookOf log confirmed b → to ≤ length log → IsBookOf log (max to confirmed) (came_round to b)
book_came_round log confirmed to b h l = record {
  reached = omega (arith, h.reached);
  number = ap (max to) h.number;
  waiting = rw (h.number, h.waiting) (drop-drop (to - confirmed) confirmed log ∙ ap (λ n. drop n log) (omega arith));
  totals = same_totals (totals_of (came_round to b)) (totals_in (max to confirmed) log)
      (all is_cast b.casts_confirmed (ap (λ t. t.casts) h.totals)) (front is_cast b.casts_confirmed (ap (λ t. t.casts_confirmed) h.totals))
      (all is_publish b.publishes_confirmed (ap (λ t. t.publishes) h.totals)) (front is_publish b.publishes_confirmed (ap (λ t. t.publishes_confirmed) h.totals));
}
  where
    all : (t : Kind → Bool) (n : ℕ) → n + count_by t b.waiting ≡ count_by t log → n + count_by t (newly to b) + count_by t (drop (to - b.confirmed) b.waiting) ≡ count_by t log
    all t n e = omega (arith, e, sum_by-take-drop (λ k. cond (t k) 1 0) b.waiting (to - b.confirmed))

    cut : take (max to confirmed) log ≡ take confirmed log ++ newly to b
    cut =
        let e : max to confirmed ≡ confirmed + (to - confirmed) = omega arith in
        let now : newly to b ≡ take (to - confirmed) (drop confirmed log) = rw (h.number, h.waiting) refl in
        ap (λ n. take n log) e ∙ take-add confirmed (to - confirmed) log ∙ ap (λ xs. take confirmed log ++ xs) (sym now)

    front : (t : Kind → Bool) (n : ℕ) → n ≡ count_by t (take confirmed log) → n + count_by t (newly to b) ≡ count_by t (take (max to confirmed) log)
    front t n e = ap (λ k. k + count_by t (newly to b)) e ∙ sym (ap (count_by t) cut ∙ count-append t (take confirmed log) (newly to b))

-- any calls leave the book of the log behind them
pub book_calls : (log : List Kind) (confirmed : ℕ) (b : Ledger) (calls : List Call) → IsBookOf log confirmed b → IsCalls b calls
    → IsBookOf (log ++ log_of calls) (max (confirmed_by calls) confirmed) (after b calls)
book_calls log confirmed b [] h can =
    let e : max 0 confirmed ≡ confirmed = omega arith in
    rw (append-nil, e) h
book_calls log confirmed b (Reserve spare ∷ calls) h can =
    book_calls log confirmed (record b { spare = spare }) calls
    (book_kept log confirmed b (record b { spare = spare }) h (record { confirmed = refl; casts_confirmed = refl; publishes_confirmed = refl; waiting = refl })) can.1
book_calls log confirmed b (Published kind ∷ calls) h can =
    subst (λ l. IsBookOf l (max (confirmed_by calls) confirmed) (after (published kind b) calls)) (append_assoc log (kind ∷ []) (log_of calls))
    (book_calls (log ++ kind ∷ []) confirmed (published kind b) calls (book_published log confirmed kind b h) can.1)
book_calls log confirmed b (CameRound to ∷ calls) h can =
    let waits : length b.waiting ≡ length log - confirmed = ap length h.waiting ∙ length-drop confirmed log in
    let reached : to ≤ length log = omega (arith, can.0, h.number, h.reached, waits) in
    let e : max (confirmed_by calls) (max to confirmed) ≡ max (max to (confirmed_by calls)) confirmed = omega arith in
    subst (λ n. IsBookOf (log ++ log_of calls) n (after (came_round to b) calls)) e
    (book_calls log (max to confirmed) (came_round to b) calls (book_came_round log confirmed to b h reached) can.1)

-- ---- but for the room

-- a log has its book
pub book_there : (log : List Kind) (confirmed : ℕ) → confirmed ≤ length log → IsBookOf log confirmed (book_in confirmed log)
book_there log confirmed le = record {
  reached = le;
  number = refl;
  waiting = refl;
  totals = same_totals (totals_of (book_in confirmed log)) (totals_in confirmed log) (all is_cast) refl (all is_publish) refl;
}
  where
    all : (t : Kind → Bool) → count_by t (take confirmed log) + count_by t (drop confirmed log) ≡ count_by t log
    all t = sum_by-take-drop (λ k. cond (t k) 1 0) log confirmed

-- it is no other
pub only_book : (log : List Kind) (confirmed : ℕ) (b : Ledger) → IsBookOf log confirmed b → without_room b ≡ book_in confirmed log
only_book log confirmed b h =
    let book : ℕ → ℕ → ℕ → List Kind → Ledger = λ k m n ks. record { confirmed = k; casts_confirmed = m; publishes_confirmed = n; waiting = ks; spare = 0 } in
    ap (λ k. book k b.casts_confirmed b.publishes_confirmed b.waiting) h.number
    ∙ ap (λ (t : Totals). book confirmed t.casts_confirmed t.publishes_confirmed b.waiting) h.totals
    ∙ ap (book confirmed (count_by is_cast (take confirmed log)) (count_by is_publish (take confirmed log))) h.waiting

-- so who has it, whatever the room, is the book of the log
pub book_is : (log : List Kind) (confirmed : ℕ) (b : Ledger) → confirmed ≤ length log → without_room b ≡ book_in confirmed log → IsBookOf log confirmed b
book_is log confirmed b le e = book_kept log confirmed (book_in confirmed log) b (book_there log confirmed le) (record {
  confirmed = ap (λ (l : Ledger). l.confirmed) e;
  casts_confirmed = ap (λ (l : Ledger). l.casts_confirmed) e;
  publishes_confirmed = ap (λ (l : Ledger). l.publishes_confirmed) e;
  waiting = ap (λ (l : Ledger). l.waiting) e;
})

-- a message more
pub book_in_published : (log : List Kind) (confirmed : ℕ) (kind : Kind) → confirmed ≤ length log → published kind (book_in confirmed log) ≡ book_in confirmed (log ++ kind ∷ [])
book_in_published log confirmed kind le = only_book (log ++ kind ∷ []) confirmed (published kind (book_in confirmed log)) (book_published log confirmed kind (book_in confirmed log) (book_there log confirmed le))

-- more have come round
pub book_in_round : (log : List Kind) (confirmed to : ℕ) → confirmed ≤ to → to ≤ length log → without_room (came_round to (book_in confirmed log)) ≡ book_in to log
book_in_round log confirmed to le reached =
    let later : max to confirmed ≡ to = omega arith in
    only_book log (max to confirmed) (came_round to (book_in confirmed log)) (book_came_round log confirmed to (book_in confirmed log) (book_there log confirmed (omega arith)) reached)
    ∙ ap (λ k. book_in k log) later

-- the number of its last message is that of the log
pub last_in : (log : List Kind) (confirmed : ℕ) → confirmed ≤ length log → last_of (book_in confirmed log) ≡ length log
last_in log confirmed le = let rest : length (drop confirmed log) ≡ length log - confirmed = length-drop confirmed log in omega (arith, rest)
