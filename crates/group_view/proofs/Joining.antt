-- An entry that comes stands directly right of the one that admits it.
use Rattle.std.proofs.Common.{◌≡◌, ◌≢◌, ℕ, suc, ◌+◌, ◌<◌, Bool, true, false, cond, List, [], ◌∷◌, ◌++◌, map, length, not, refl, sym, ap, subst, ◌∙◌, append_assoc, arith, nat_eq, nat_lt, Some, None, Ok}
use Rattle.std.specs.Prelude.{◌&&◌, nat_le}
use Rattle.std.specs.List.{filter, list_all, sum_by, insert}
use Rattle.std.proofs.lemmas.Bool.{false≢true, lt-ltb}
use Rattle.std.proofs.lemmas.Bool.Decides.{nat_tests}
use Rattle.std.proofs.lemmas.List.{length-map}
use Rattle.std.proofs.lemmas.List.Edits.{length-insert}
use Rattle.std.proofs.lemmas.List.Elements.{filter_agree}
use Rattle.std.proofs.lemmas.List.Sums.{sum_by-insert}
use Rattle.ring_names.specs.declared.reason.Reason.TheVariants.{UnknownMember, AlreadyDead, NameTaken, TooManyMembers}
use Rattle.group_view.specs.declared.entry.Entry.{Entry}
use Rattle.group_view.specs.declared.entry.Mark.TheVariants.{Dead}
use Rattle.group_view.specs.Ring.{is_in, AreDistinct, before, after, others, last_or, first_or, left_in, right_in}
use Rattle.group_view.specs.View.{Group, ids, stands_in, entry_in, is_live, is_live_mark, left_of, between}
use Rattle.group_view.specs.Change.{new_entry, with_entry, admitted, dated, with_mark, most_entries, is_taken, admit_refusal, answer_of}
use Rattle.group_view.specs.Kept.{IsGroup, changes_of}
use Rattle.group_view.specs.Laws.{ComesBetween}
use Rattle.group_view.specs.Parts.{place_of, dated_right_of}
use Rattle.group_view.proofs.Rings.{nat_eq-is, nat_eq-same, nat_eq-not, sym_test, not_equal_in, in_head, in_tail, head_differs, tail_lacks, others_inside, distinct_others}
use Rattle.group_view.proofs.Neighbours.{left_of_right, left_gap, filter_empty_at}
use Rattle.group_view.proofs.Marks.{SameRing, same_left, same_ring_all, dated_keeps, left_is, right_is, left_of_other, left_absent, ids-marked, live-marked, marked_not_live, dated_by_mark, changes-dated, dated_changes}
use Rattle.group_view.proofs.Groups.{led_on, answer_none}
use Rattle.group_view.proofs.Cuts.{place_inside}
use Rattle.group_view.proofs.Passing.{live_in, left_inside}
use Rattle.group_view.proofs.History.{entry-map, entry_id, Follows}

abbrev pub one_after : ℕ → ℕ → ℕ → List ℕ
one_after x n q = cond (nat_eq q x) (n ∷ []) []

abbrev pub with_after : ℕ → ℕ → List ℕ → List ℕ
with_after x n [] = []
with_after x n (q ∷ qs) = q ∷ (one_after x n q ++ with_after x n qs)

pub with_after-append : (a n : ℕ) (xs ys : List ℕ) → with_after a n (xs ++ ys) ≡ with_after a n xs ++ with_after a n ys
with_after-append a n [] ys = refl
with_after-append a n (x ∷ xs) ys = ap (λ us. x ∷ us) (ap (λ us. one_after a n x ++ us) (with_after-append a n xs ys) ∙ sym (append_assoc (one_after a n x) (with_after a n xs) (with_after a n ys)))

pub before_skips : (z n : ℕ) (b : Bool) (us : List ℕ) → nat_eq n z ≡ false → before z (cond b (n ∷ []) [] ++ us) ≡ cond b (n ∷ []) [] ++ before z us
before_skips z n true us e = rw e refl
before_skips z n false us e = refl

pub before-with_after : (z a n : ℕ) (xs : List ℕ) → nat_eq n z ≡ false → before z (with_after a n xs) ≡ with_after a n (before z xs)
before-with_after z a n [] e = refl
before-with_after z a n (x ∷ xs) e = by_case (nat_eq x z) (before-with_after z a n xs e)
  where
    by_case : (b : Bool) → before z (with_after a n xs) ≡ with_after a n (before z xs) → cond b [] (x ∷ before z (one_after a n x ++ with_after a n xs)) ≡ with_after a n (cond b [] (x ∷ before z xs))
    by_case true ih = refl
    by_case false ih = ap (λ us. x ∷ us) (before_skips z n (nat_eq x a) (with_after a n xs) e ∙ ap (λ us. one_after a n x ++ us) ih)

pub after_skips : (z n : ℕ) (b : Bool) (us : List ℕ) → nat_eq n z ≡ false → after z (cond b (n ∷ []) [] ++ us) ≡ after z us
after_skips z n true us e = rw e refl
after_skips z n false us e = refl

pub after-with_after : (z a n : ℕ) (xs : List ℕ) → nat_eq n z ≡ false → is_in z xs ≡ true → after z (with_after a n xs) ≡ one_after a n z ++ with_after a n (after z xs)
after-with_after z a n [] e h = absurd (false≢true h)
after-with_after z a n (x ∷ xs) e h = by_case (nat_eq x z) refl (λ k. after-with_after z a n xs e k)
  where
    by_case : (b : Bool) → nat_eq x z ≡ b → (is_in z xs ≡ true → after z (with_after a n xs) ≡ one_after a n z ++ with_after a n (after z xs)) → cond b (one_after a n x ++ with_after a n xs) (after z (one_after a n x ++ with_after a n xs)) ≡ one_after a n z ++ with_after a n (cond b xs (after z xs))
    by_case true eb ih = ap (λ q. one_after a n q ++ with_after a n xs) (nat_eq-is x z eb)
    by_case false eb ih = after_skips z n (nat_eq x a) (with_after a n xs) e ∙ ih (rw (sym_test x z false eb) at h)

pub others-with_after : (z a n : ℕ) (xs : List ℕ) → nat_eq n z ≡ false → is_in z xs ≡ true → others z (with_after a n xs) ≡ one_after a n z ++ with_after a n (others z xs)
others-with_after z a n xs e h =
    rw (after-with_after z a n xs e h, before-with_after z a n xs e) (append_assoc (one_after a n z) (with_after a n (after z xs)) (with_after a n (before z xs)) ∙ ap (λ us. one_after a n z ++ us) (sym (with_after-append a n (after z xs) (before z xs))))

pub last_with_after : (live live' : ℕ → Bool) (a n x d d' : ℕ) (us : List ℕ) → ((q : ℕ) → q ≢ n → live' q ≡ live q) → live' n ≡ true → live a ≡ true → x ≢ a → is_in n us ≡ false → (d ≡ x → d' ≡ x) → last_or d (filter live us) ≡ x → last_or d' (filter live' (with_after a n us)) ≡ x
last_with_after live live' a n x d d' [] hl hn la apart out k e = k e
last_with_after live live' a n x d d' (u ∷ us) hl hn la apart out k e =
    by_in (nat_eq n u) refl out (λ o d2 d2' k2 e2. last_with_after live live' a n x d2 d2' us hl hn la apart o k2 e2)
  where
    by_live : (b : Bool) → live u ≡ b → (c : Bool) → nat_eq u a ≡ c → ((d2 d2' : ℕ) → (d2 ≡ x → d2' ≡ x) → last_or d2 (filter live us) ≡ x → last_or d2' (filter live' (with_after a n us)) ≡ x) → last_or d (cond b (u ∷ filter live us) (filter live us)) ≡ x → last_or d' (cond b (u ∷ filter live' (cond c (n ∷ []) [] ++ with_after a n us)) (filter live' (cond c (n ∷ []) [] ++ with_after a n us))) ≡ x
    by_live true el true ec ih l = rw hn (ih u n (λ z. absurd (apart (sym (sym (nat_eq-is u a ec) ∙ z)))) l)
    by_live true el false ec ih l = ih u u (λ z. z) l
    by_live false el true ec ih l = absurd (false≢true (sym el ∙ ap live (nat_eq-is u a ec) ∙ la))
    by_live false el false ec ih l = ih d d' k l

    by_in : (b : Bool) → nat_eq n u ≡ b → cond b true (is_in n us) ≡ false → (is_in n us ≡ false → (d2 d2' : ℕ) → (d2 ≡ x → d2' ≡ x) → last_or d2 (filter live us) ≡ x → last_or d2' (filter live' (with_after a n us)) ≡ x) → last_or d' (filter live' (with_after a n (u ∷ us))) ≡ x
    by_in true eb o ih = absurd (false≢true (sym o))
    by_in false eb o ih =
        rw (hl u (λ (z : u ≡ n). false≢true (sym eb ∙ rw z (nat_eq-same n)))) (by_live (live u) refl (nat_eq u a) refl (ih o) e)

pub left_admitted : (live live' : ℕ → Bool) (a n x z : ℕ) (xs : List ℕ) → ((q : ℕ) → q ≢ n → live' q ≡ live q) → live' n ≡ true → live a ≡ true → x ≢ a → is_in n xs ≡ false → nat_eq n z ≡ false → is_in z xs ≡ true → is_in n (others z xs) ≡ false → left_in live z xs ≡ x → left_in live' z (with_after a n xs) ≡ x
left_admitted live live' a n x z xs hl hn la apart out nz h nout e =
    ap (λ us. last_or z (filter live' us)) (others-with_after z a n xs nz h) ∙ by_case (nat_eq z a) refl
  where
    by_case : (c : Bool) → nat_eq z a ≡ c → last_or z (filter live' (cond c (n ∷ []) [] ++ with_after a n (others z xs))) ≡ x
    by_case true ec = rw hn (last_with_after live live' a n x z n (others z xs) hl hn la apart nout (λ k. absurd (apart (sym (sym (nat_eq-is z a ec) ∙ k)))) e)
    by_case false ec = last_with_after live live' a n x z z (others z xs) hl hn la apart nout (λ k. k) e

pub with_after_absent : (m n : ℕ) (xs : List ℕ) → is_in m xs ≡ false → with_after m n xs ≡ xs
with_after_absent m n [] h = refl
with_after_absent m n (x ∷ xs) h = by_case (nat_eq m x) refl h (λ k. with_after_absent m n xs k)
  where
    by_case : (b : Bool) → nat_eq m x ≡ b → cond b true (is_in m xs) ≡ false → (is_in m xs ≡ false → with_after m n xs ≡ xs) → x ∷ (one_after m n x ++ with_after m n xs) ≡ x ∷ xs
    by_case true e k ih = absurd (false≢true (sym k))
    by_case false e k ih = rw (sym_test m x false e) (ap (λ us. x ∷ us) (ih k))

pub filter_after : (t : ℕ → Bool) (m n : ℕ) (xs : List ℕ) → t n ≡ false → filter t (with_after m n xs) ≡ filter t xs
filter_after t m n [] tn = refl
filter_after t m n (x ∷ xs) tn = by_case (t x) (nat_eq x m) (filter_after t m n xs tn)
  where
    by_case : (a b : Bool) → filter t (with_after m n xs) ≡ filter t xs → cond a (x ∷ filter t (cond b (n ∷ []) [] ++ with_after m n xs)) (filter t (cond b (n ∷ []) [] ++ with_after m n xs)) ≡ cond a (x ∷ filter t xs) (filter t xs)
    by_case true true ih = rw tn (ap (λ us. x ∷ us) ih)
    by_case true false ih = ap (λ us. x ∷ us) ih
    by_case false true ih = rw tn ih
    by_case false false ih = ih

pub in_after : (m n q : ℕ) (xs : List ℕ) → is_in q xs ≡ true → is_in q (with_after m n xs) ≡ true
in_after m n q [] h = h
in_after m n q (x ∷ xs) h = by_case (nat_eq q x) h (nat_eq x m) (λ k. in_after m n q xs k)
  where
    put : (c d : Bool) → is_in q (with_after m n xs) ≡ true → is_in q (cond d (n ∷ []) [] ++ with_after m n xs) ≡ true
    put c true j = head (nat_eq q n) j
      where
        head : (b : Bool) → is_in q (with_after m n xs) ≡ true → cond b true (is_in q (with_after m n xs)) ≡ true
        head true j2 = refl
        head false j2 = j2
    put c false j = j

    by_case : (b : Bool) → cond b true (is_in q xs) ≡ true → (d : Bool) → (is_in q xs ≡ true → is_in q (with_after m n xs) ≡ true) → cond b true (is_in q (cond d (n ∷ []) [] ++ with_after m n xs)) ≡ true
    by_case true k d ih = refl
    by_case false k d ih = put true d (ih k)

pub new_in_after : (m n : ℕ) (xs : List ℕ) → is_in m xs ≡ true → is_in n (with_after m n xs) ≡ true
new_in_after m n [] h = absurd (false≢true h)
new_in_after m n (x ∷ xs) h = by_case (nat_eq m x) refl h (nat_eq n x) (λ k. new_in_after m n xs k)
  where
    by_case : (b : Bool) → nat_eq m x ≡ b → cond b true (is_in m xs) ≡ true → (c : Bool) → (is_in m xs ≡ true → is_in n (with_after m n xs) ≡ true) → cond c true (is_in n (cond (nat_eq x m) (n ∷ []) [] ++ with_after m n xs)) ≡ true
    by_case b eb k true ih = refl
    by_case true eb k false ih = rw (sym_test m x true eb) (rw (nat_eq-same n) refl)
    by_case false eb k false ih = rw (sym_test m x false eb) (ih k)

pub not_in_after_other : (m n q : ℕ) (xs : List ℕ) → nat_eq q n ≡ false → is_in q xs ≡ false → is_in q (with_after m n xs) ≡ false
not_in_after_other m n q [] e h = refl
not_in_after_other m n q (x ∷ xs) e h = by_case (nat_eq q x) h (nat_eq x m) (λ k. not_in_after_other m n q xs e k)
  where
    by_case : (b : Bool) → cond b true (is_in q xs) ≡ false → (d : Bool) → (is_in q xs ≡ false → is_in q (with_after m n xs) ≡ false) → cond b true (is_in q (cond d (n ∷ []) [] ++ with_after m n xs)) ≡ false
    by_case true k d ih = absurd (false≢true (sym k))
    by_case false k true ih = rw e (ih k)
    by_case false k false ih = ih k

pub distinct_after : (m n : ℕ) (xs : List ℕ) → AreDistinct xs → is_in n xs ≡ false → AreDistinct (with_after m n xs)
distinct_after m n [] d o = tt
distinct_after m n (x ∷ xs) d o = by_case (nat_eq n x) refl o (nat_eq x m) refl (λ k. distinct_after m n xs d.1 k)
  where
    by_case : (b : Bool) → nat_eq n x ≡ b → cond b true (is_in n xs) ≡ false → (c : Bool) → nat_eq x m ≡ c → (is_in n xs ≡ false → AreDistinct (with_after m n xs)) → (is_in x (cond c (n ∷ []) [] ++ with_after m n xs) ≡ false) × AreDistinct (cond c (n ∷ []) [] ++ with_after m n xs)
    by_case true eb k c ec ih = absurd (false≢true (sym k))
    by_case false eb k true ec ih =
        let e : with_after m n xs ≡ xs = with_after_absent m n xs (subst (λ z. is_in z xs ≡ false) (nat_eq-is x m ec) d.0) in
        (rw (sym_test n x false eb) (not_in_after_other m n x xs (sym_test n x false eb) d.0), (ap (is_in n) e ∙ k, ih k))
    by_case false eb k false ec ih = (not_in_after_other m n x xs (sym_test n x false eb) d.0, ih k)

-- ---- entries

pub ids-with_entry : (m : ℕ) (e : Entry) (es : List Entry) → ids (with_entry m e es) ≡ with_after m e.id.0 (ids es)
ids-with_entry m e [] = refl
ids-with_entry m e (a ∷ es) = ap (λ us. a.id.0 ∷ us) (by_case (nat_eq a.id.0 m) (ids-with_entry m e es))
  where
    by_case : (b : Bool) → ids (with_entry m e es) ≡ with_after m e.id.0 (ids es) → ids (cond b (e ∷ []) [] ++ with_entry m e es) ≡ cond b (e.id.0 ∷ []) [] ++ with_after m e.id.0 (ids es)
    by_case true h = ap (λ us. e.id.0 ∷ us) h
    by_case false h = h

pub entry_other : (m : ℕ) (e : Entry) (q : ℕ) (es : List Entry) → nat_eq e.id.0 q ≡ false → entry_in (with_entry m e es) q ≡ entry_in es q
entry_other m e q [] h = refl
entry_other m e q (a ∷ es) h = by_case (nat_eq a.id.0 q) (nat_eq a.id.0 m) (entry_other m e q es h)
  where
    by_case : (b c : Bool) → entry_in (with_entry m e es) q ≡ entry_in es q → cond b a (entry_in (cond c (e ∷ []) [] ++ with_entry m e es) q) ≡ cond b a (entry_in es q)
    by_case true c ih = refl
    by_case false true ih = rw h ih
    by_case false false ih = ih

pub entry_new : (m : ℕ) (e : Entry) (es : List Entry) → is_in m (ids es) ≡ true → is_in e.id.0 (ids es) ≡ false → entry_in (with_entry m e es) e.id.0 ≡ e
entry_new m e [] i o = absurd (false≢true i)
entry_new m e (a ∷ es) i o = by_case (nat_eq m a.id.0) refl i (nat_eq e.id.0 a.id.0) refl o (λ x y. entry_new m e es x y)
  where
    by_case : (b : Bool) → nat_eq m a.id.0 ≡ b → cond b true (is_in m (ids es)) ≡ true → (c : Bool) → nat_eq e.id.0 a.id.0 ≡ c → cond c true (is_in e.id.0 (ids es)) ≡ false → (is_in m (ids es) ≡ true → is_in e.id.0 (ids es) ≡ false → entry_in (with_entry m e es) e.id.0 ≡ e) → cond (nat_eq a.id.0 e.id.0) a (entry_in (cond (nat_eq a.id.0 m) (e ∷ []) [] ++ with_entry m e es) e.id.0) ≡ e
    by_case b eb k true ec j ih = absurd (false≢true (sym j))
    by_case true eb k false ec j ih = rw (sym_test e.id.0 a.id.0 false ec, sym_test m a.id.0 true eb, nat_eq-same e.id.0) refl
    by_case false eb k false ec j ih = rw (sym_test e.id.0 a.id.0 false ec, sym_test m a.id.0 false eb) (ih k j)

pub distinct_with_entry : (m : ℕ) (n : Entry) (es : List Entry) → AreDistinct (ids es) → is_in n.id.0 (ids es) ≡ false → AreDistinct (ids (with_entry m n es))
distinct_with_entry m n es d absent = subst AreDistinct (sym (ids-with_entry m n es)) (distinct_after m n.id.0 (ids es) d absent)

-- where m isn't there, nothing comes
pub with_entry_absent : (m : ℕ) (n : Entry) (es : List Entry) → is_in m (ids es) ≡ false → with_entry m n es ≡ es
with_entry_absent m n [] h = refl
with_entry_absent m n (e ∷ es) h =
    let differs : nat_eq e.id.0 m ≡ false = nat_eq-not e.id.0 m (head_differs m e.id.0 (ids es) h) in
    rw differs (ap (λ us. e ∷ us) (with_entry_absent m n es (tail_lacks m e.id.0 (ids es) h)))

-- where it is there, the new one is inserted behind it
pub with_entry-insert : (m : ℕ) (n : Entry) (es : List Entry) → AreDistinct (ids es) → is_in m (ids es) ≡ true → with_entry m n es ≡ insert es (place_of es m + 1) n
with_entry-insert m n [] d i = absurd (false≢true i)
with_entry-insert m n (e ∷ es) d i = by_case (nat_eq e.id.0 m) refl (λ k. with_entry-insert m n es d.1 k)
  where
    by_case : (b : Bool) → nat_eq e.id.0 m ≡ b → (is_in m (ids es) ≡ true → with_entry m n es ≡ insert es (place_of es m + 1) n) → e ∷ (cond b (n ∷ []) [] ++ with_entry m n es) ≡ insert (e ∷ es) (cond (not b) (1 + place_of es m) 0 + 1) n
    by_case true eb ih = ap (λ us. e ∷ n ∷ us) (with_entry_absent m n es (subst (λ z. is_in z (ids es) ≡ false) (nat_eq-is e.id.0 m eb) d.0))
    by_case false eb ih =
        let next : suc (place_of es m + 1) ≡ 1 + place_of es m + 1 = omega arith in
        ap (λ us. e ∷ us) (ih (rw (sym_test e.id.0 m false eb) at i)) ∙ ap (λ k. insert (e ∷ es) k n) next

-- ---- counts

-- one entry more
pub length-with_entry : (m : ℕ) (n : Entry) (es : List Entry) → AreDistinct (ids es) → is_in m (ids es) ≡ true → length (with_entry m n es) ≡ length es + 1
length-with_entry m n es d i = ap length (with_entry-insert m n es d i) ∙ length-insert es (place_of es m + 1) n (let inside : place_of es m < length es = place_inside es m i in omega arith)

-- it stands for one change
pub changes-with_entry : (m : ℕ) (n : Entry) (es : List Entry) → changes_of n ≡ 1 → AreDistinct (ids es) → is_in m (ids es) ≡ true → sum_by changes_of (with_entry m n es) ≡ sum_by changes_of es + 1
changes-with_entry m n es c d i = ap (sum_by changes_of) (with_entry-insert m n es d i) ∙ sum_by-insert changes_of es (place_of es m + 1) n ∙ ap (λ k. sum_by changes_of es + k) c

-- ---- the neighbours but for the new one

-- who lives when the new one is marked dead lived before it came
pub live_without : (m : ℕ) (n : Entry) (es : List Entry) (q : ℕ) → is_in n.id.0 (ids es) ≡ false → is_live (map (with_mark Dead n.id.0) (with_entry m n es)) q ≡ is_live es q
live_without m n es q absent = live-marked Dead n.id.0 q (with_entry m n es) refl ∙ by_case (nat_eq q n.id.0) refl
  where
    by_live : (b : Bool) → nat_eq q n.id.0 ≡ true → is_live es q ≡ b → false ≡ b
    by_live false e l = refl
    by_live true e l = absurd (false≢true (sym (ap (λ z. is_in z (ids es)) (nat_eq-is q n.id.0 e) ∙ absent) ∙ live_in es q l))

    by_case : (b : Bool) → nat_eq q n.id.0 ≡ b → cond b false (is_live (with_entry m n es) q) ≡ is_live es q
    by_case true e = by_live (is_live es q) e refl
    by_case false e = ap (λ (x : Entry). is_live_mark x.mark) (entry_other m n q es (sym_test q n.id.0 false e))

-- and its left neighbour then was its left neighbour
pub left_without : (m : ℕ) (n : Entry) (es : List Entry) (z : ℕ) → is_in n.id.0 (ids es) ≡ false → is_in z (ids es) ≡ true → left_of (map (with_mark Dead n.id.0) (with_entry m n es)) z ≡ left_of es z
left_without m n es z absent here =
    left_is dead z (ap (is_in z) ids_are ∙ in_after m n.id.0 z (ids es) here)
    ∙ ap (left_in (is_live dead) z) ids_are
    ∙ ap (λ us. last_or z (filter (is_live dead) us)) (others-with_after z m n.id.0 (ids es) differs here)
    ∙ ap (last_or z) (by_case (nat_eq z m) ∙ filter_after (is_live dead) m n.id.0 (others z (ids es)) gone ∙ filter_agree (is_live dead) (is_live es) (λ q. live_without m n es q absent) (others z (ids es)))
    ∙ sym (left_is es z here)
  where
    dead : List Entry
    dead = map (with_mark Dead n.id.0) (with_entry m n es)

    ids_are : ids dead ≡ with_after m n.id.0 (ids es)
    ids_are = ids-marked Dead n.id.0 (with_entry m n es) ∙ ids-with_entry m n es

    gone : is_live dead n.id.0 ≡ false
    gone = marked_not_live Dead n.id.0 (with_entry m n es) refl

    differs : nat_eq n.id.0 z ≡ false
    differs = sym_test z n.id.0 false (not_equal_in z n.id.0 (ids es) here absent)

    by_case : (b : Bool) → filter (is_live dead) (cond b (n.id.0 ∷ []) [] ++ with_after m n.id.0 (others z (ids es))) ≡ filter (is_live dead) (with_after m n.id.0 (others z (ids es)))
    by_case true = rw gone refl
    by_case false = refl

-- writes that agree on the entries and on the new one
pub map-with_entry : (f g : Entry → Entry) (m : ℕ) (n : Entry) (es : List Entry) → ((e : Entry) → is_in e.id.0 (ids es) ≡ true → f e ≡ g e) → f n ≡ g n → map f (with_entry m n es) ≡ map g (with_entry m n es)
map-with_entry f g m n [] h same = refl
map-with_entry f g m n (e ∷ es) h same =
    ap (λ x. x ∷ map f (cond (nat_eq e.id.0 m) (n ∷ []) [] ++ with_entry m n es)) (h e (in_head e.id.0 (ids es)))
    ∙ ap (λ us. g e ∷ us) (by_case (nat_eq e.id.0 m) (map-with_entry f g m n es (λ x i. h x (in_tail x.id.0 e.id.0 (ids es) i)) same))
  where
    by_case : (b : Bool) → map f (with_entry m n es) ≡ map g (with_entry m n es) → map f (cond b (n ∷ []) [] ++ with_entry m n es) ≡ map g (cond b (n ∷ []) [] ++ with_entry m n es)
    by_case true ih = ap (λ x. x ∷ map f (with_entry m n es)) same ∙ ap (λ us. g n ∷ us) ih
    by_case false ih = ih

-- whose left neighbour is another than before has the new one
pub dated_by_admission : (version m id : ℕ) (name : List ℕ) (es : List Entry) → AreDistinct (ids es) → is_in id (ids es) ≡ false
    → map (dated_right_of id version (with_entry m (new_entry id name version) es)) (with_entry m (new_entry id name version) es) ≡ map (dated version es (with_entry m (new_entry id name version) es)) (with_entry m (new_entry id name version) es)
dated_by_admission version m id name es d absent = map-with_entry (dated_right_of id version more) (dated version es more) m n es old new
  where
    n : Entry
    n = new_entry id name version

    more : List Entry
    more = with_entry m n es

    distinct : AreDistinct (ids more)
    distinct = distinct_with_entry m n es d absent

    old : (e : Entry) → is_in e.id.0 (ids es) ≡ true → dated_right_of id version more e ≡ dated version es more e
    old e i =
        dated_by_mark version id more e distinct
        ∙ ap (λ q. cond (nat_eq (left_of more e.id.0) q) e (record e { since = version })) (left_without m n es e.id.0 absent i)
        ∙ ap (λ b. cond b e (record e { since = version })) (sym_test (left_of es e.id.0) (left_of more e.id.0) (nat_eq (left_of es e.id.0) (left_of more e.id.0)) refl)

    by_case : (b : Bool) → n ≡ cond b n (record n { since = version })
    by_case true = refl
    by_case false = refl

    new : dated_right_of id version more n ≡ dated version es more n
    new = rw (nat_eq-same id) (by_case (nat_eq (left_of es id) (left_of more id)))

-- ids below a number
pub below_at : (n q : ℕ) (xs : List ℕ) → list_all (λ k. nat_lt k n) xs ≡ true → is_in q xs ≡ true → nat_lt q n ≡ true
below_at n q [] h i = absurd (false≢true i)
below_at n q (x ∷ xs) h i = by_case (nat_eq q x) refl (nat_lt x n) refl h i (λ a b. below_at n q xs a b)
  where
    by_case : (b : Bool) → nat_eq q x ≡ b → (c : Bool) → nat_lt x n ≡ c → (c && list_all (λ k. nat_lt k n) xs) ≡ true → cond b true (is_in q xs) ≡ true → (list_all (λ k. nat_lt k n) xs ≡ true → is_in q xs ≡ true → nat_lt q n ≡ true) → nat_lt q n ≡ true
    by_case b eb false ec k j ih = absurd (false≢true k)
    by_case true eb true ec k j ih = ap (λ z. nat_lt z n) (nat_eq-is q x eb) ∙ ec
    by_case false eb true ec k j ih = ih k j

pub all_below_after : (m n : ℕ) (xs : List ℕ) → list_all (λ k. nat_lt k n) xs ≡ true → list_all (λ k. nat_lt k (n + 1)) (with_after m n xs) ≡ true
all_below_after m n [] h = refl
all_below_after m n (x ∷ xs) h = by_case (nat_lt x n) refl h (nat_eq x m) (λ k. all_below_after m n xs k)
  where
    lt_more : nat_lt x n ≡ true → nat_lt x (n + 1) ≡ true
    lt_more e = grind (arith, nat_tests)

    by_case : (c : Bool) → nat_lt x n ≡ c → (c && list_all (λ k. nat_lt k n) xs) ≡ true → (d : Bool) → (list_all (λ k. nat_lt k n) xs ≡ true → list_all (λ k. nat_lt k (n + 1)) (with_after m n xs) ≡ true) → (nat_lt x (n + 1) && list_all (λ k. nat_lt k (n + 1)) (cond d (n ∷ []) [] ++ with_after m n xs)) ≡ true
    by_case false ec k d ih = absurd (false≢true k)
    by_case true ec k true ih = rw (lt_more ec, lt-ltb n (n + 1) (omega arith)) (ih k)
    by_case true ec k false ih = rw (lt_more ec) (ih k)

-- ---- the next version

-- what is known where m admits
pub record MayAdmit (g : Group) (m : ℕ) : Type 0 where
  pub is_group : IsGroup g
  pub lives : is_live g.entries m ≡ true
  pub room : length g.entries < 64

-- fewer than there may be
less : (n : ℕ) → nat_le 64 n ≡ false → n < 64
less n e = grind (arith, nat_tests)

-- what nothing refuses
pub may_admit : (g : Group) (m : ℕ) (name : List ℕ) → IsGroup g → admit_refusal g.entries m name ≡ None → MayAdmit g m
may_admit g m name k r = by_in (is_in m (ids g.entries)) (is_live g.entries m) refl (is_taken g.entries name) (nat_le most_entries (length g.entries)) refl r
  where
    by_in : (a b : Bool) → is_live g.entries m ≡ b → (c d : Bool) → nat_le most_entries (length g.entries) ≡ d → cond (not a) (Some UnknownMember) (cond (not b) (Some AlreadyDead) (cond c (Some NameTaken) (cond d (Some TooManyMembers) None))) ≡ None → MayAdmit g m
    by_in false b eb c d ed h = cc
    by_in true false eb c d ed h = cc
    by_in true true eb true d ed h = cc
    by_in true true eb false true ed h = cc
    by_in true true eb false false ed h = record { is_group = k; lives = eb; room = less (length g.entries) ed }

module _ (g : Group) (m : ℕ) (name : List ℕ) (k : MayAdmit g m) where
  abbrev the_new : Entry
  the_new = new_entry g.next_id name (g.version + 1)

  abbrev after_that : List Entry
  after_that = with_entry m the_new g.entries

  there : is_in m (ids g.entries) ≡ true
  there = live_in g.entries m k.lives

  pub not_yet : is_in g.next_id (ids g.entries) ≡ false
  not_yet = by_test (is_in g.next_id (ids g.entries)) refl
    where
      irreflexive : (n : ℕ) → nat_lt n n ≡ true → ⊥
      irreflexive n e = grind (arith, nat_tests)

      by_test : (b : Bool) → is_in g.next_id (ids g.entries) ≡ b → b ≡ false
      by_test false e = refl
      by_test true e = absurd (irreflexive g.next_id (below_at g.next_id g.next_id (ids g.entries) k.is_group.fresh e))

  another : (y : ℕ) → is_in y (ids g.entries) ≡ true → nat_eq g.next_id y ≡ false
  another y i = nat_eq-not g.next_id y (λ e. false≢true (sym not_yet ∙ ap (λ z. is_in z (ids g.entries)) e ∙ i))

  -- but for the dates
  same_ring : SameRing (admitted g m name).entries after_that
  same_ring = same_ring_all (dated (g.version + 1) g.entries after_that) after_that (dated_keeps (g.version + 1) g.entries after_that)

  pub ids-admitted : ids (admitted g m name).entries ≡ with_after m g.next_id (ids g.entries)
  ids-admitted = same_ring.same_ids ∙ ids-with_entry m the_new g.entries

  pub live_old : (q : ℕ) → q ≢ g.next_id → is_live (admitted g m name).entries q ≡ is_live g.entries q
  live_old q d = same_ring.same_live q ∙ ap (λ e. is_live_mark e.mark) (entry_other m the_new q g.entries (nat_eq-not g.next_id q (λ e. d (sym e))))

  pub live_new : is_live (admitted g m name).entries g.next_id ≡ true
  live_new = same_ring.same_live g.next_id ∙ ap (λ e. is_live_mark e.mark) (entry_new m the_new g.entries there not_yet)

  distinct_now : AreDistinct (ids (admitted g m name).entries)
  distinct_now = subst AreDistinct (sym ids-admitted) (distinct_after m g.next_id (ids g.entries) k.is_group.distinct not_yet)

  pub stays_in : (y : ℕ) → is_in y (ids g.entries) ≡ true → is_in y (ids (admitted g m name).entries) ≡ true
  stays_in y i = ap (is_in y) ids-admitted ∙ in_after m g.next_id y (ids g.entries) i

  pub comes_in : is_in g.next_id (ids (admitted g m name).entries) ≡ true
  comes_in = ap (is_in g.next_id) ids-admitted ∙ new_in_after m g.next_id (ids g.entries) there

  lives_on : is_live (admitted g m name).entries m ≡ true
  lives_on = live_old m (λ e. false≢true (sym not_yet ∙ ap (λ z. is_in z (ids g.entries)) (sym e) ∙ there)) ∙ k.lives

  -- the right neighbour of m is the one that came
  pub right_in_new : right_in (is_live (admitted g m name).entries) m (ids (admitted g m name).entries) ≡ g.next_id
  right_in_new =
      ap (right_in (is_live (admitted g m name).entries) m) ids-admitted
      ∙ ap (λ us. first_or m (filter (is_live (admitted g m name).entries) us)) (others-with_after m m g.next_id (ids g.entries) (another m there) there)
      ∙ rw (nat_eq-same m, live_new) refl

  -- and its left neighbour is m
  pub left_in_new : left_in (is_live (admitted g m name).entries) g.next_id (ids (admitted g m name).entries) ≡ m
  left_in_new =
      ap (λ z. left_in (is_live (admitted g m name).entries) z (ids (admitted g m name).entries)) (sym right_in_new)
      ∙ left_of_right (is_live (admitted g m name).entries) m (ids (admitted g m name).entries) distinct_now (stays_in m there) lives_on

  -- who had another than m for its left neighbour keeps it
  pub left_in_old : (x z : ℕ) → x ≢ m → is_in z (ids g.entries) ≡ true → left_in (is_live g.entries) z (ids g.entries) ≡ x → left_in (is_live (admitted g m name).entries) z (ids (admitted g m name).entries) ≡ x
  left_in_old x z d i e =
      ap (left_in (is_live (admitted g m name).entries) z) ids-admitted
      ∙ left_admitted (is_live g.entries) (is_live (admitted g m name).entries) m g.next_id x z (ids g.entries) live_old live_new k.lives d not_yet (another z i) i (absent (is_in g.next_id (others z (ids g.entries))) refl) e
    where
      absent : (b : Bool) → is_in g.next_id (others z (ids g.entries)) ≡ b → b ≡ false
      absent false h = refl
      absent true h = absurd (false≢true (sym not_yet ∙ others_inside z g.next_id (ids g.entries) h))

  -- whose left neighbour m was has it no more
  left_not_m : (z : ℕ) → is_in z (ids g.entries) ≡ true → left_in (is_live (admitted g m name).entries) z (ids (admitted g m name).entries) ≢ m
  left_not_m z i e =
      not_both z i e
    where
      -- the entry that came stands between m and z
      not_both : (z : ℕ) → is_in z (ids g.entries) ≡ true → left_in (is_live (admitted g m name).entries) z (ids (admitted g m name).entries) ≡ m → ⊥
      not_both z i e =
          let iz : is_in z (ids (admitted g m name).entries) ≡ true = stays_in z i in
          let gap : filter (is_live (admitted g m name).entries) (before z (others m (ids (admitted g m name).entries))) ≡ [] =
          left_gap (is_live (admitted g m name).entries) m z (ids (admitted g m name).entries) distinct_now (distinct_others z (ids (admitted g m name).entries) distinct_now iz) iz e in
          let first : before z (others m (ids (admitted g m name).entries)) ≡ g.next_id ∷ before z (with_after m g.next_id (others m (ids g.entries))) =
          ap (λ us. before z (others m us)) ids-admitted ∙ ap (before z) (others-with_after m m g.next_id (ids g.entries) (another m there) there) ∙ rw (nat_eq-same m, another z i) refl in
          let dead : is_live (admitted g m name).entries g.next_id ≡ false =
          filter_empty_at (is_live (admitted g m name).entries) g.next_id (before z (others m (ids (admitted g m name).entries))) gap (ap (is_in g.next_id) first ∙ rw (nat_eq-same g.next_id) refl) in
          false≢true (sym dead ∙ live_new)

  left_was : (y : ℕ) → is_in y (ids g.entries) ≡ true → left_of g.entries y ≡ left_in (is_live g.entries) y (ids g.entries)
  left_was y i = left_is g.entries y i

  left_now : (y : ℕ) → is_in y (ids (admitted g m name).entries) ≡ true → left_of (admitted g m name).entries y ≡ left_in (is_live (admitted g m name).entries) y (ids (admitted g m name).entries)
  left_now y i = left_is (admitted g m name).entries y i

  -- what stands between a left neighbour that stays and its right one
  between_same : (y s : ℕ) → is_in y (ids g.entries) ≡ true → left_of g.entries y ≡ s → left_of (admitted g m name).entries y ≡ s → between (admitted g m name).entries s y ≡ between g.entries s y
  between_same y s i e e2 =
      let d : s ≢ m = (λ is. left_not_m y i (sym (left_now y (stays_in y i)) ∙ e2 ∙ is)) in
      let el : left_in (is_live g.entries) y (ids g.entries) ≡ s = sym (left_was y i) ∙ e in
      let si : is_in s (ids g.entries) ≡ true = subst (λ z. is_in z (ids g.entries) ≡ true) el (left_inside (is_live g.entries) y (ids g.entries) k.is_group.distinct i) in
      let gap : filter (is_live g.entries) (before y (others s (ids g.entries))) ≡ [] = left_gap (is_live g.entries) s y (ids g.entries) k.is_group.distinct (distinct_others y (ids g.entries) k.is_group.distinct i) i el in
      ap (λ us. before y (others s us)) ids-admitted
      ∙ ap (before y) (others-with_after s m g.next_id (ids g.entries) (another s si) si ∙ rw (nat_eq-not s m d) refl)
      ∙ before-with_after y m g.next_id (others s (ids g.entries)) (another y i)
      ∙ with_after_absent m g.next_id (before y (others s (ids g.entries))) (outside (is_in m (before y (others s (ids g.entries)))) refl gap)
    where
      outside : (b : Bool) → is_in m (before y (others s (ids g.entries))) ≡ b → filter (is_live g.entries) (before y (others s (ids g.entries))) ≡ [] → b ≡ false
      outside false h gap = refl
      outside true h gap = absurd (false≢true (sym (filter_empty_at (is_live g.entries) m (before y (others s (ids g.entries))) gap h) ∙ k.lives))

  old_or_new : (y : ℕ) → is_in y (ids (admitted g m name).entries) ≡ true → (b : Bool) → nat_eq g.next_id y ≡ b → cond b (y ≡ g.next_id) (is_in y (ids g.entries) ≡ true)
  old_or_new y i true e = sym (nat_eq-is g.next_id y e)
  old_or_new y i false e = by_test (is_in y (ids g.entries)) refl
    where
      by_test : (b : Bool) → is_in y (ids g.entries) ≡ b → b ≡ true
      by_test true h = refl
      by_test false h = absurd (false≢true (sym (not_in_after_other m g.next_id y (ids g.entries) (sym_test g.next_id y false e) h) ∙ ap (is_in y) (sym ids-admitted) ∙ i))

  left_of_new : left_of (admitted g m name).entries g.next_id ≡ m
  left_of_new = left_now g.next_id comes_in ∙ left_in_new

  apart : m ≢ g.next_id
  apart e = false≢true (sym not_yet ∙ ap (λ z. is_in z (ids g.entries)) (sym e) ∙ there)

  known_before : (y : ℕ) → is_in y (ids (admitted g m name).entries) ≡ true → left_of g.entries y ≡ left_of (admitted g m name).entries y → is_in y (ids g.entries) ≡ true
  known_before y i e = by_test (nat_eq g.next_id y) refl (old_or_new y i (nat_eq g.next_id y) refl)
    where
      by_test : (b : Bool) → nat_eq g.next_id y ≡ b → cond b (y ≡ g.next_id) (is_in y (ids g.entries) ≡ true) → is_in y (ids g.entries) ≡ true
      by_test true h c = absurd (apart (sym left_of_new ∙ ap (left_of (admitted g m name).entries) (sym c) ∙ sym e ∙ ap (left_of g.entries) c ∙ left_absent g.entries g.next_id not_yet))
      by_test false h c = c

  since_is : (y : ℕ) → is_in y (ids (admitted g m name).entries) ≡ true → (entry_in (admitted g m name).entries y).since ≡ cond (nat_eq (left_of g.entries y) (left_of (admitted g m name).entries y)) (entry_in g.entries y).since (g.version + 1)
  since_is y i =
      ap (λ (e : Entry). e.since) (entry-map (dated (g.version + 1) g.entries after_that) after_that y (dated_keeps (g.version + 1) g.entries after_that).keeps_id inside)
      ∙ on_since (nat_eq (left_of g.entries (entry_in after_that y).id.0) (left_of after_that (entry_in after_that y).id.0))
      ∙ ap (λ z. cond (nat_eq (left_of g.entries z) (left_of after_that z)) (entry_in after_that y).since (g.version + 1)) (entry_id after_that y inside)
      ∙ ap (λ z. cond (nat_eq (left_of g.entries y) z) (entry_in after_that y).since (g.version + 1)) (sym (same_left (admitted g m name).entries after_that y same_ring))
      ∙ by_test (nat_eq g.next_id y) refl (old_or_new y i (nat_eq g.next_id y) refl)
    where
      inside : is_in y (ids after_that) ≡ true
      inside = ap (is_in y) (sym same_ring.same_ids) ∙ i

      on_since : (b : Bool) → (cond b (entry_in after_that y) (record (entry_in after_that y) { since = g.version + 1 })).since ≡ cond b (entry_in after_that y).since (g.version + 1)
      on_since true = refl
      on_since false = refl

      by_test : (b : Bool) → nat_eq g.next_id y ≡ b → cond b (y ≡ g.next_id) (is_in y (ids g.entries) ≡ true) → cond (nat_eq (left_of g.entries y) (left_of (admitted g m name).entries y)) (entry_in after_that y).since (g.version + 1) ≡ cond (nat_eq (left_of g.entries y) (left_of (admitted g m name).entries y)) (entry_in g.entries y).since (g.version + 1)
      by_test true h c =
          let other : nat_eq (left_of g.entries y) (left_of (admitted g m name).entries y) ≡ false =
          nat_eq-not _ _ (λ e. apart (sym left_of_new ∙ ap (left_of (admitted g m name).entries) (sym c) ∙ sym e ∙ ap (left_of g.entries) c ∙ left_absent g.entries g.next_id not_yet)) in
          rw other refl
      by_test false h c = ap (λ (e : Entry). cond (nat_eq (left_of g.entries y) (left_of (admitted g m name).entries y)) e.since (g.version + 1)) (entry_other m the_new y g.entries h)

  length_now : length (admitted g m name).entries ≡ length g.entries + 1
  length_now = (let e : length (admitted g m name).entries ≡ length after_that = simp length-map in e) ∙ length-with_entry m the_new g.entries k.is_group.distinct there

  changes_now : sum_by changes_of (admitted g m name).entries ≡ sum_by changes_of g.entries + 1
  changes_now =
      changes-dated (dated (g.version + 1) g.entries after_that) after_that (dated_changes (g.version + 1) g.entries after_that)
      ∙ changes-with_entry m the_new g.entries refl k.is_group.distinct there

  pub admitted_is : IsGroup (admitted g m name)
  admitted_is = record {
    few = omega (arith, k.room, length_now);
    distinct = distinct_now;
    numbered = omega (arith, k.is_group.numbered, length_now);
    fresh = ap (list_all (λ n. nat_lt n (g.next_id + 1))) ids-admitted ∙ all_below_after m g.next_id (ids g.entries) k.is_group.fresh;
    counted = omega (arith, k.is_group.counted, changes_now);
    led = led_on (stands_in g.entries g.master) (stands_in (admitted g m name).entries g.master) g.term g.version k.is_group.led;
  }

  pub admit_follows : Follows g (admitted g m name)
  admit_follows = record {
    is_group = admitted_is;
    version = refl;
    stays = stays_in;
    dies = λ y i l. sym (live_old y (λ e. false≢true (sym not_yet ∙ ap (λ z. is_in z (ids g.entries)) (sym e) ∙ i))) ∙ l;
    same_between = between_same;
    known = known_before;
    since = since_is;
  }

-- ---- the law of admissions

pub comes_between : (g : Group) (m : ℕ) (name : List ℕ) → IsGroup g → admit_refusal g.entries m name ≡ None → ComesBetween g.entries (admitted g m name).entries m g.next_id
comes_between g m name group r = record {
  left_of_new = left_of_new g m name k;
  right_of_admitter = right_is new m (stays_in g m name k m (live_in g.entries m k.lives)) ∙ right_in_new g m name k;
  left_of_next = λ p i e. next p i e (nat_eq (left_of new p) g.next_id) refl;
  left_of_others = λ p i ne. left_is new p (stays_in g m name k p i) ∙ left_in_old g m name k (left_of g.entries p) p ne i (sym (left_is g.entries p i));
}
  where
    k : MayAdmit g m
    k = may_admit g m name group r

    new : List Entry
    new = (admitted g m name).entries

    n : Entry
    n = new_entry g.next_id name (g.version + 1)

    more : List Entry
    more = with_entry m n g.entries

    undated : (p : ℕ) → left_of new p ≡ left_of more p
    undated p = same_left new more p (same_ring_all (dated (g.version + 1) g.entries more) more (dated_keeps (g.version + 1) g.entries more))

    -- whose left neighbour isn't the new one has the one that it had
    else_old : (p : ℕ) → is_in p (ids g.entries) ≡ true → left_of more p ≢ g.next_id → left_of new p ≡ left_of g.entries p
    else_old p i ne =
        undated p ∙ sym (left_of_other Dead g.next_id p more refl (distinct_with_entry m n g.entries group.distinct (not_yet g m name k)) ne)
        ∙ left_without m n g.entries p (not_yet g m name k) i

    next : (p : ℕ) → is_in p (ids g.entries) ≡ true → left_of g.entries p ≡ m → (b : Bool) → nat_eq (left_of new p) g.next_id ≡ b → left_of new p ≡ g.next_id
    next p i e true h = nat_eq-is (left_of new p) g.next_id h
    next p i e false h =
        absurd (left_not_m g m name k p i (sym (left_is new p (stays_in g m name k p i))
        ∙ else_old p i (λ is. false≢true (sym h ∙ ap (λ q. nat_eq q g.next_id) (undated p ∙ is) ∙ nat_eq-same g.next_id)) ∙ e))

-- ---- as the code has it

-- what is known of an admission, once it is answered that nothing refuses it
pub admits : (g : Group) (m : ℕ) (name : List ℕ) (es : List Entry) → IsGroup g → es ≡ g.entries → answer_of (admit_refusal es m name) ≡ Ok tt → MayAdmit g m
admits g m name es k is told = may_admit g m name k (answer_none _ _ (ap (λ us. answer_of (admit_refusal us m name)) (sym is) ∙ told))

-- the entries after the new one has come, and those right of it are dated
pub admitted_entries : (g : Group) (m : ℕ) (name : List ℕ) (n : Entry) (es fs : List Entry) → MayAdmit g m → n ≡ new_entry g.next_id name (g.version + 1) → es ≡ with_entry m n g.entries → fs ≡ map (dated_right_of g.next_id (g.version + 1) es) es → fs ≡ (admitted g m name).entries
admitted_entries g m name n es fs k new more dated =
    dated ∙ ap (λ us. map (dated_right_of g.next_id (g.version + 1) us) us) (more ∙ ap (λ e. with_entry m e g.entries) new)
    ∙ dated_by_admission (g.version + 1) m g.next_id name g.entries k.is_group.distinct (not_yet g m name k)
