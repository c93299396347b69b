-- Whether anything is new, by the rows that are there.
use Rattle.std.proofs.Common.{◌≡◌, ◌⊎◌, inl, inr, ℕ, zero, suc, ◌+◌, ◌-◌, ◌<◌, ◌≤◌, Bool, true, false, cond, not, nat_eq, nat_le, List, [], ◌∷◌, refl, sym, ap, ◌∙◌, ⊎_elim, arith}
use Rattle.std.specs.Prelude.{◌&&◌}
use Rattle.std.specs.List.{list_all, range_with_len}
use Rattle.std.proofs.lemmas.Bool.{and_parts, and_left, and_right, not-true, false≢true}
use Rattle.std.proofs.lemmas.Bool.Decides.{nat_tests}
use Rattle.group_view.proofs.Lists.{all_range}
use Rattle.activity.specs.Kept.{Kept, KeptRow, got_of, no_kept, kept_of}
use Rattle.activity.specs.LastSent.{LastSent, LastSentRow, sent_of}
use Rattle.activity.specs.Diff.{is_last_sent, tells_new, IsNotAbove}

-- an id is that of a row, or nothing is kept of it
pub row_or_none : (test : ℕ → Bool) (rows : List KeptRow) (p : ℕ) → list_all (λ r. test r.origin.0) rows ≡ true → (kept_of rows p ≡ no_kept) ⊎ (test p ≡ true)
row_or_none test [] p h = inl refl
row_or_none test (r ∷ rows) p h =
    let parts = and_parts (test r.origin.0) (list_all (λ r. test r.origin.0) rows) h in
    by_here (nat_eq p r.origin.0) refl parts.0 (row_or_none test rows p parts.1)
  where
    by_here : (b : Bool) → nat_eq p r.origin.0 ≡ b → test r.origin.0 ≡ true → (kept_of rows p ≡ no_kept) ⊎ (test p ≡ true) → (cond b r.kept (kept_of rows p) ≡ no_kept) ⊎ (test p ≡ true)
    by_here true e t later = let is : r.origin.0 ≡ p = grind (arith, nat_tests) in inr (ap test (sym is) ∙ t)
    by_here false e t later = later

-- where no row tells anything new
abbrev pub none_new : List LastSentRow → List KeptRow → ℕ → List KeptRow → Bool
none_new sent rows ids some = list_all (λ r. not (tells_new sent rows ids r.origin.0)) some

one_fails : (t : ℕ → Bool) (a n p : ℕ) → a ≤ p → p < a + n → t p ≡ false → list_all t (range_with_len a n) ≡ false
one_fails t a zero p l u e = absurd (omega arith)
one_fails t a (suc n) p l u e = by_here (nat_eq a p) refl (λ ne. one_fails t (a + 1) n p ne (omega arith) e)
  where
    by_here : (b : Bool) → nat_eq a p ≡ b → (a + 1 ≤ p → list_all t (range_with_len (a + 1) n) ≡ false) → (t a && list_all t (range_with_len (a + 1) n)) ≡ false
    by_here true k later = let is : a ≡ p = grind (arith, nat_tests) in and_left (t a) (list_all t (range_with_len (a + 1) n)) (ap t is ∙ e)
    by_here false k later = let ne : a + 1 ≤ p = grind (arith, nat_tests) in and_right (t a) (list_all t (range_with_len (a + 1) n)) (later ne)

-- ---- what was asked

nothing_last_sent : (k : Kept) (t : LastSent) → k ≡ no_kept → t.got ≤ got_of k → t.forgot ≤ k.forgot → is_last_sent k t ≡ true
nothing_last_sent k t e g f =
    let a : got_of k ≡ 0 = ap got_of e in
    let b : k.forgot ≡ 0 = ap (λ (j : Kept). j.forgot) e in
    let c : nat_eq (got_of k) t.got ≡ true = grind (arith, nat_tests) in
    let d : nat_eq k.forgot t.forgot ≡ true = grind (arith, nat_tests) in
    rw (c, d) refl

not_new : (a b c : Bool) → a ≡ true → b ≡ true → not (a && b && not c) ≡ true → c ≡ true
not_new true true true ea eb h = refl
not_new true true false ea eb h = absurd (false≢true h)
not_new true false c ea eb h = absurd (false≢true eb)
not_new false b c ea eb h = absurd (false≢true ea)

pub says_nothing_new : (sent : List LastSentRow) (rows : List KeptRow) (ids : ℕ) → IsNotAbove sent rows → none_new sent rows ids rows ≡ true → list_all (λ p. is_last_sent (kept_of rows (p + 1)) (sent_of sent (p + 1))) (range_with_len 0 ids) ≡ true
says_nothing_new sent rows ids h e = all_range (λ p. is_last_sent (kept_of rows (p + 1)) (sent_of sent (p + 1))) 0 ids
    (λ p _ u. ⊎_elim
    (λ (none : kept_of rows (p + 1) ≡ no_kept). nothing_last_sent (kept_of rows (p + 1)) (sent_of sent (p + 1)) none (h.got (p + 1)) (h.forgot (p + 1)))
    (λ (last_sent : not (tells_new sent rows ids (p + 1)) ≡ true).
    let lo : nat_le 1 (p + 1) ≡ true = grind (arith, nat_tests) in
    let hi : nat_le (p + 1) ids ≡ true = grind (arith, nat_tests) in
    not_new (nat_le 1 (p + 1)) (nat_le (p + 1) ids) (is_last_sent (kept_of rows (p + 1)) (sent_of sent (p + 1))) lo hi last_sent)
    (row_or_none (λ q. not (tells_new sent rows ids q)) rows (p + 1) e))

pub says_something : (sent : List LastSentRow) (rows : List KeptRow) (ids p : ℕ) → tells_new sent rows ids p ≡ true → list_all (λ q. is_last_sent (kept_of rows (q + 1)) (sent_of sent (q + 1))) (range_with_len 0 ids) ≡ false
says_something sent rows ids p e =
    let a = and_parts (nat_le 1 p && nat_le p ids) (not (is_last_sent (kept_of rows p) (sent_of sent p))) e in
    let b = and_parts (nat_le 1 p) (nat_le p ids) a.0 in
    let lo : 1 ≤ p = let x : nat_le 1 p ≡ true = b.0 in grind (arith, nat_tests) in
    let hi : p ≤ ids = let x : nat_le p ids ≡ true = b.1 in grind (arith, nat_tests) in
    let back : p - 1 + 1 ≡ p = omega arith in
    one_fails (λ q. is_last_sent (kept_of rows (q + 1)) (sent_of sent (q + 1))) 0 ids (p - 1) (omega arith) (omega arith)
    (ap (λ q. is_last_sent (kept_of rows q) (sent_of sent q)) back ∙ not-true (is_last_sent (kept_of rows p) (sent_of sent p)) a.1)
