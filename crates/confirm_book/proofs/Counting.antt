-- Counts of messages, and the kinds that they tell.
use Rattle.std.proofs.Common.{◌≡◌, ℕ, ◌+◌, ◌-◌, ◌<◌, ◌≤◌, true, false, cond, zero, suc, List, [], ◌∷◌, ◌++◌, length, get_or, take, drop, count_by, nat_lt, refl, sym, ap, ◌∙◌, arith, length-drop}
use Rattle.std.proofs.lemmas.List.{take-append-drop, length-take-le, drop-append-le, drop-drop}
use Rattle.std.proofs.lemmas.List.Sums.{sum_by-append}
use Rattle.std.proofs.Math.Seq.{drop-append_seam}
use Rattle.confirm_book.specs.declared.kind.Kind.{Kind}
use Rattle.confirm_book.specs.declared.kind.Kind.TheVariants.{Cast, Publish, Other}
use Rattle.confirm_book.specs.declared.count.Count.{Count}
use Rattle.confirm_book.specs.Book.{is_cast, is_publish}
use Rattle.confirm_book.specs.Counts.{with_kinds, counts_from, kind_between, kinds_from, IsCounted}

-- two counts are one where their numbers are
pub same_count : (c d : Count) → c.casts ≡ d.casts → c.publishes ≡ d.publishes → c ≡ d
same_count c d e f =
    let count : ℕ → ℕ → Count = λ m n. record { casts = m; publishes = n } in
    ap (λ m. count m c.publishes) e ∙ ap (count d.casts) f

-- no messages more
pub with-none : (c : Count) → with_kinds [] c ≡ c
with-none c = same_count (with_kinds [] c) c (omega arith) (omega arith)

-- some messages more, and further ones
pub with-append : (xs ys : List Kind) (c : Count) → with_kinds ys (with_kinds xs c) ≡ with_kinds (xs ++ ys) c
with-append xs ys c =
    let casts : count_by is_cast (xs ++ ys) ≡ count_by is_cast xs + count_by is_cast ys = sum_by-append (λ k. cond (is_cast k) 1 0) xs ys in
    let publishes : count_by is_publish (xs ++ ys) ≡ count_by is_publish xs + count_by is_publish ys = sum_by-append (λ k. cond (is_publish k) 1 0) xs ys in
    same_count (with_kinds ys (with_kinds xs c)) (with_kinds (xs ++ ys) c) (omega (arith, casts)) (omega (arith, publishes))

-- there is a count for each message
pub length-counts : (c : Count) (kinds : List Kind) → length (counts_from c kinds) ≡ length kinds
length-counts c [] = refl
length-counts c (kind ∷ kinds) = ap suc (length-counts (with_kinds (kind ∷ []) c) kinds)

-- the counts of further messages go on behind those before them
pub counts-append : (c : Count) (xs ys : List Kind) → counts_from c (xs ++ ys) ≡ counts_from c xs ++ counts_from (with_kinds xs c) ys
counts-append c [] ys = ap (λ d. counts_from d ys) (sym (with-none c))
counts-append c (x ∷ xs) ys =
    ap (λ l. with_kinds (x ∷ []) c ∷ l) (counts-append (with_kinds (x ∷ []) c) xs ys
    ∙ ap (λ d. counts_from (with_kinds (x ∷ []) c) xs ++ counts_from d ys) (with-append (x ∷ []) xs c))

-- the counts behind the first messages
pub drop-counts : (n : ℕ) (c : Count) (kinds : List Kind) → n ≤ length kinds → drop n (counts_from c kinds) ≡ counts_from (with_kinds (take n kinds) c) (drop n kinds)
drop-counts n c kinds l =
    let cut : counts_from c kinds ≡ counts_from c (take n kinds) ++ counts_from (with_kinds (take n kinds) c) (drop n kinds) =
    ap (counts_from c) (sym (take-append-drop n kinds)) ∙ counts-append c (take n kinds) (drop n kinds) in
    let long : length (counts_from c (take n kinds)) ≡ n = length-counts c (take n kinds) ∙ length-take-le n kinds l in
    ap (drop n) cut ∙ ap (λ m. drop m (counts_from c (take n kinds) ++ counts_from (with_kinds (take n kinds) c) (drop n kinds))) (sym long)
    ∙ drop-append_seam (counts_from c (take n kinds)) (counts_from (with_kinds (take n kinds) c) (drop n kinds))

-- the count up to a message
pub get-counts : (n : ℕ) (c d : Count) (kinds : List Kind) → n < length kinds → get_or (counts_from c kinds) n d ≡ with_kinds (take (suc n) kinds) c
get-counts n c d [] l = absurd (omega (arith, l))
get-counts zero c d (kind ∷ kinds) l = refl
get-counts (suc n) c d (kind ∷ kinds) l =
    get-counts n (with_kinds (kind ∷ []) c) d kinds (omega (arith, l)) ∙ with-append (kind ∷ []) (take (suc n) kinds) c

-- a message more tells its kind
pub between-with : (kind : Kind) (c : Count) → kind_between c (with_kinds (kind ∷ []) c) ≡ kind
between-with Cast c =
    let more : nat_lt c.casts (c.casts + 1) ≡ true = grind arith in
    ap (λ t. cond t Cast (cond (nat_lt c.publishes (c.publishes + 0)) Publish Other)) more
between-with Publish c =
    let casts : nat_lt c.casts (c.casts + 0) ≡ false = grind arith in
    let more : nat_lt c.publishes (c.publishes + 1) ≡ true = grind arith in
    ap (λ t. cond t Cast (cond (nat_lt c.publishes (c.publishes + 1)) Publish Other)) casts ∙ ap (λ t. cond t Publish Other) more
between-with Other c =
    let casts : nat_lt c.casts (c.casts + 0) ≡ false = grind arith in
    let publishes : nat_lt c.publishes (c.publishes + 0) ≡ false = grind arith in
    ap (λ t. cond t Cast (cond (nat_lt c.publishes (c.publishes + 0)) Publish Other)) casts ∙ ap (λ t. cond t Publish Other) publishes

-- the counts tell the kinds of which they are made
pub kinds-counts : (c : Count) (kinds : List Kind) → kinds_from c (counts_from c kinds) ≡ kinds
kinds-counts c [] = refl
kinds-counts c (kind ∷ kinds) = rw (between-with kind c, kinds-counts (with_kinds (kind ∷ []) c) kinds)

-- there is a kind for each count
pub length-kinds : (c : Count) (counts : List Count) → length (kinds_from c counts) ≡ length counts
length-kinds c [] = refl
length-kinds c (d ∷ counts) = ap suc (length-kinds d counts)

-- a count joins a queue behind those that have left it, one of which goes
pub push_in_place : (left : ℕ) (xs : List Count) (c : Count) → 0 < left → left ≤ length xs → drop (left - 1) (drop 1 xs ++ c ∷ []) ≡ drop left xs ++ c ∷ []
push_in_place left xs c some l =
    let e : (left - 1) + 1 ≡ left = omega arith in
    drop-append-le (left - 1) (drop 1 xs) (c ∷ []) (omega (arith, length-drop 1 xs))
    ∙ ap (λ ys. ys ++ c ∷ []) (drop-drop (left - 1) 1 xs ∙ ap (λ n. drop n xs) (omega arith))

-- ---- counts of some messages

module _ (c now : Count) (counts : List Count) where
  -- counts that are made of some kinds tell these
  pub made_told : (kinds : List Kind) → counts ≡ counts_from c kinds → kinds_from c counts ≡ kinds
  made_told kinds e = ap (kinds_from c) e ∙ kinds-counts c kinds

  pub made_counted : (kinds : List Kind) → counts ≡ counts_from c kinds → now ≡ with_kinds kinds c → IsCounted c counts now
  made_counted kinds e f =
      let told : kinds ≡ kinds_from c counts = sym (made_told kinds e) in
      record { each = e ∙ ap (counts_from c) told; sum = f ∙ ap (λ ks. with_kinds ks c) told }

-- a message more is published
module _ (c now : Count) (counts : List Count) (kind : Kind) (h : IsCounted c counts now) where
  pub push_made : counts ++ with_kinds (kind ∷ []) now ∷ [] ≡ counts_from c (kinds_from c counts ++ kind ∷ [])
  push_made =
      ap (λ l. l ++ with_kinds (kind ∷ []) now ∷ []) h.each
      ∙ ap (λ d. counts_from c (kinds_from c counts) ++ with_kinds (kind ∷ []) d ∷ []) h.sum
      ∙ sym (counts-append c (kinds_from c counts) (kind ∷ []))

  -- it has its kind
  pub push_told : kinds_from c (counts ++ with_kinds (kind ∷ []) now ∷ []) ≡ kinds_from c counts ++ kind ∷ []
  push_told = made_told c now (counts ++ with_kinds (kind ∷ []) now ∷ []) (kinds_from c counts ++ kind ∷ []) push_made

  pub push_counted : IsCounted c (counts ++ with_kinds (kind ∷ []) now ∷ []) (with_kinds (kind ∷ []) now)
  push_counted =
      made_counted c (with_kinds (kind ∷ []) now) (counts ++ with_kinds (kind ∷ []) now ∷ []) (kinds_from c counts ++ kind ∷ []) push_made
      (ap (with_kinds (kind ∷ [])) h.sum ∙ with-append (kinds_from c counts) (kind ∷ []) c)

-- the first n messages come round
module _ (n : ℕ) (c now : Count) (counts : List Count) (h : IsCounted c counts now) (l : n ≤ length counts) where
  within : n ≤ length (kinds_from c counts)
  within = omega (arith, l, length-kinds c counts)

  -- the count of the last of them
  pub front_count : (d : Count) → 0 < n → get_or counts (n - 1) d ≡ with_kinds (take n (kinds_from c counts)) c
  front_count d some =
      let e : suc (n - 1) ≡ n = omega arith in
      ap (λ l. get_or l (n - 1) d) h.each ∙ get-counts (n - 1) c d (kinds_from c counts) (omega (arith, within))
      ∙ ap (λ k. with_kinds (take k (kinds_from c counts)) c) e

  pub rest_made : drop n counts ≡ counts_from (with_kinds (take n (kinds_from c counts)) c) (drop n (kinds_from c counts))
  rest_made = ap (drop n) h.each ∙ drop-counts n c (kinds_from c counts) within

  -- the others keep their kinds
  pub rest_told : kinds_from (with_kinds (take n (kinds_from c counts)) c) (drop n counts) ≡ drop n (kinds_from c counts)
  rest_told = made_told (with_kinds (take n (kinds_from c counts)) c) now (drop n counts) (drop n (kinds_from c counts)) rest_made

  pub rest_counted : IsCounted (with_kinds (take n (kinds_from c counts)) c) (drop n counts) now
  rest_counted =
      made_counted (with_kinds (take n (kinds_from c counts)) c) now (drop n counts) (drop n (kinds_from c counts)) rest_made
      (h.sum ∙ ap (λ ks. with_kinds ks c) (sym (take-append-drop n (kinds_from c counts)))
      ∙ sym (with-append (take n (kinds_from c counts)) (drop n (kinds_from c counts)) c))
