-- What a mark does to the entries, and to the neighbours.
use Rattle.std.proofs.Common.{◌≡◌, ◌≢◌, ℕ, ◌+◌, ◌<◌, Bool, true, false, cond, List, [], ◌∷◌, ◌++◌, map, length, take, drop, get_or, set, refl, sym, ap, subst, ◌∙◌, arith, nat_eq}
use Rattle.std.specs.List.{filter, sum_by}
use Rattle.std.proofs.lemmas.Bool.{false≢true}
use Rattle.std.proofs.lemmas.List.{take-append-drop, append-nil, set-get_or, get_or_default}
use Rattle.std.proofs.lemmas.List.Edits.{map_over_more}
use Rattle.std.proofs.lemmas.List.Elements.{filter_agree}
use Rattle.std.proofs.lemmas.List.Sums.{sum_by-cons}
use Rattle.group_view.specs.declared.entry.Entry.{Entry}
use Rattle.group_view.specs.declared.entry.Mark.{Mark}
use Rattle.group_view.specs.declared.entry.Mark.TheVariants.{Dead}
use Rattle.group_view.specs.Ring.{is_in, AreDistinct, others, last_or, first_or, left_in, right_in}
use Rattle.group_view.specs.View.{ids, entry_in, is_live, is_live_mark, left_of, right_of}
use Rattle.group_view.specs.Change.{dated, with_mark}
use Rattle.group_view.specs.Kept.{changes_of, changes_of_mark}
use Rattle.group_view.specs.Parts.{dated_right_of}
use Rattle.group_view.proofs.Truth.{other_true}
use Rattle.group_view.proofs.Rings.{nat_eq-is, nat_eq-same, nat_eq-not, sym_test, not_in_others, distinct_others}
use Rattle.group_view.proofs.Neighbours.{IsLast, none, one, is_last, last_stronger, IsLeft, itself, other, left_is_left, filter_agree_in}

-- ---- lists of entries that differ in what neighbours don't read

pub record SameRing (es fs : List Entry) : Type 0 where
  pub same_ids : ids es ≡ ids fs
  pub same_live : (q : ℕ) → is_live es q ≡ is_live fs q

pub same_left : (es fs : List Entry) (p : ℕ) → SameRing es fs → left_of es p ≡ left_of fs p
same_left es fs p s =
    ap (λ us. cond (is_in p us) (last_or p (filter (is_live es) (others p us))) p) s.same_ids
    ∙ ap (λ us. cond (is_in p (ids fs)) (last_or p us) p) (filter_agree (is_live es) (is_live fs) s.same_live (others p (ids fs)))

pub same_right : (es fs : List Entry) (p : ℕ) → SameRing es fs → right_of es p ≡ right_of fs p
same_right es fs p s =
    ap (λ us. cond (is_in p us) (first_or p (filter (is_live es) (others p us))) p) s.same_ids
    ∙ ap (λ us. cond (is_in p (ids fs)) (first_or p us) p) (filter_agree (is_live es) (is_live fs) s.same_live (others p (ids fs)))

-- a write that keeps id and mark of each entry
pub record KeepsRing (f : Entry → Entry) : Type 0 where
  pub keeps_id : (e : Entry) → (f e).id.0 ≡ e.id.0
  pub keeps_mark : (e : Entry) → (f e).mark ≡ e.mark

pub same_ring : (f : Entry → Entry) (us vs : List Entry) → KeepsRing f → SameRing (map f us ++ vs) (us ++ vs)
same_ring f [] vs k = record { same_ids = refl; same_live = λ q. refl }
same_ring f (u ∷ us) vs k =
    let r : SameRing (map f us ++ vs) (us ++ vs) = same_ring f us vs k in
    record {
      same_ids = ap (λ n. n ∷ ids (map f us ++ vs)) (k.keeps_id u) ∙ ap (λ ns. u.id.0 ∷ ns) r.same_ids;
      same_live = λ q.
          ap (λ n. is_live_mark (cond (nat_eq n q) (f u) (entry_in (map f us ++ vs) q)).mark) (k.keeps_id u)
          ∙ by_case (nat_eq u.id.0 q) q (r.same_live q);
    }
  where
    by_case : (b : Bool) (q : ℕ) → is_live (map f us ++ vs) q ≡ is_live (us ++ vs) q → is_live_mark (cond b (f u) (entry_in (map f us ++ vs) q)).mark ≡ is_live_mark (cond b u (entry_in (us ++ vs) q)).mark
    by_case true q h = ap is_live_mark (k.keeps_mark u)
    by_case false q h = h

-- the same of the first i entries of a list
pub same_ring_so_far : (f : Entry → Entry) (es : List Entry) (i : ℕ) → KeepsRing f → SameRing (map f (take i es) ++ drop i es) es
same_ring_so_far f es i k = subst (SameRing (map f (take i es) ++ drop i es)) (take-append-drop i es) (same_ring f (take i es) (drop i es) k)

pub same_ring_all : (f : Entry → Entry) (es : List Entry) → KeepsRing f → SameRing (map f es) es
same_ring_all f es k =
    subst (λ us. SameRing us es) (append-nil (map f es)) (subst (SameRing (map f es ++ [])) (append-nil es) (same_ring f es [] k))

-- ---- versions

pub dated_keeps : (version : ℕ) (old new : List Entry) → KeepsRing (dated version old new)
dated_keeps version old new = record { keeps_id = λ e. on_id (nat_eq (left_of old e.id.0) (left_of new e.id.0)) e; keeps_mark = λ e. on_mark (nat_eq (left_of old e.id.0) (left_of new e.id.0)) e }
  where
    on_id : (b : Bool) (e : Entry) → (cond b e (record e { since = version })).id.0 ≡ e.id.0
    on_id true e = refl
    on_id false e = refl

    on_mark : (b : Bool) (e : Entry) → (cond b e (record e { since = version })).mark ≡ e.mark
    on_mark true e = refl
    on_mark false e = refl

-- ---- marks

-- no entry gets another id
pub with_mark_id : (m : Mark) (d : ℕ) (e : Entry) → (with_mark m d e).id.0 ≡ e.id.0
with_mark_id m d e = by_case (nat_eq e.id.0 d)
  where
    by_case : (b : Bool) → (cond b (record e { mark = m }) e).id.0 ≡ e.id.0
    by_case true = refl
    by_case false = refl

pub ids-marked : (m : Mark) (d : ℕ) (es : List Entry) → ids (map (with_mark m d) es) ≡ ids es
ids-marked m d [] = refl
ids-marked m d (e ∷ es) = ap (λ n. n ∷ ids (map (with_mark m d) es)) (with_mark_id m d e) ∙ ap (λ us. e.id.0 ∷ us) (ids-marked m d es)

pub live-marked : (m : Mark) (d q : ℕ) (es : List Entry) → is_live_mark m ≡ false → is_live (map (with_mark m d) es) q ≡ cond (nat_eq q d) false (is_live es q)
live-marked m d q [] hm = by_case (nat_eq q d)
  where
    by_case : (b : Bool) → false ≡ cond b false false
    by_case true = refl
    by_case false = refl
live-marked m d q (e ∷ es) hm =
    ap (λ n. is_live_mark (cond (nat_eq n q) (with_mark m d e) (entry_in (map (with_mark m d) es) q)).mark) (with_mark_id m d e)
    ∙ by_case (nat_eq e.id.0 q) refl (live-marked m d q es hm)
  where
    here : (b : Bool) → is_live_mark (cond b (record e { mark = m }) e).mark ≡ cond b false (is_live_mark e.mark)
    here true = hm
    here false = refl

    by_case : (b : Bool) → nat_eq e.id.0 q ≡ b → is_live (map (with_mark m d) es) q ≡ cond (nat_eq q d) false (is_live es q) → is_live_mark (cond b (with_mark m d e) (entry_in (map (with_mark m d) es) q)).mark ≡ cond (nat_eq q d) false (is_live_mark (cond b e (entry_in es q)).mark)
    by_case true eb ih = subst (λ k. is_live_mark (cond (nat_eq e.id.0 d) (record e { mark = m }) e).mark ≡ cond (nat_eq k d) false (is_live_mark e.mark)) (nat_eq-is e.id.0 q eb) (here (nat_eq e.id.0 d))
    by_case false eb ih = ih

-- a live one stays live, if it isn't the one that is marked
pub live_other : (m : Mark) (d q : ℕ) (es : List Entry) → is_live_mark m ≡ false → q ≢ d → is_live (map (with_mark m d) es) q ≡ is_live es q
live_other m d q es hm ne = live-marked m d q es hm ∙ ap (λ b. cond b false (is_live es q)) (nat_eq-not q d ne)

-- and nobody else becomes live
pub live_before : (m : Mark) (d q : ℕ) (es : List Entry) → is_live_mark m ≡ false → is_live (map (with_mark m d) es) q ≡ true → is_live es q ≡ true
live_before m d q es hm h = other_true (nat_eq q d) (is_live es q) (sym (live-marked m d q es hm) ∙ h)

pub marked_not_live : (m : Mark) (d : ℕ) (es : List Entry) → is_live_mark m ≡ false → is_live (map (with_mark m d) es) d ≡ false
marked_not_live m d es hm = live-marked m d d es hm ∙ ap (λ b. cond b false (is_live es d)) (nat_eq-same d)

-- ---- neighbours of entries that are there

pub left_is : (es : List Entry) (p : ℕ) → is_in p (ids es) ≡ true → left_of es p ≡ left_in (is_live es) p (ids es)
left_is es p h = ap (λ b. cond b (left_in (is_live es) p (ids es)) p) h

pub right_is : (es : List Entry) (p : ℕ) → is_in p (ids es) ≡ true → right_of es p ≡ right_in (is_live es) p (ids es)
right_is es p h = ap (λ b. cond b (right_in (is_live es) p (ids es)) p) h

pub left_absent : (es : List Entry) (p : ℕ) → is_in p (ids es) ≡ false → left_of es p ≡ p
left_absent es p h = ap (λ b. cond b (left_in (is_live es) p (ids es)) p) h

pub right_absent : (es : List Entry) (p : ℕ) → is_in p (ids es) ≡ false → right_of es p ≡ p
right_absent es p h = ap (λ b. cond b (right_in (is_live es) p (ids es)) p) h

-- who is live among the others of the one that is marked is so after it too
pub marked_others : (m : Mark) (d : ℕ) (es : List Entry) → is_live_mark m ≡ false → AreDistinct (ids es) → filter (is_live (map (with_mark m d) es)) (others d (ids es)) ≡ filter (is_live es) (others d (ids es))
marked_others m d es hm dx = filter_agree_in (is_live (map (with_mark m d) es)) (is_live es) (others d (ids es)) (λ q i. live_other m d q es hm (apart q i))
  where
    apart : (q : ℕ) → is_in q (others d (ids es)) ≡ true → q ≢ d
    apart q i same = false≢true (sym (not_in_others d (ids es) dx) ∙ ap (λ z. is_in z (others d (ids es))) (sym same) ∙ i)

-- it keeps its own neighbours
pub left_of_marked : (m : Mark) (d : ℕ) (es : List Entry) → is_live_mark m ≡ false → AreDistinct (ids es) → left_of (map (with_mark m d) es) d ≡ left_of es d
left_of_marked m d es hm dx =
    ap (λ us. cond (is_in d us) (last_or d (filter (is_live (map (with_mark m d) es)) (others d us))) d) (ids-marked m d es)
    ∙ ap (λ us. cond (is_in d (ids es)) (last_or d us) d) (marked_others m d es hm dx)

pub right_of_marked : (m : Mark) (d : ℕ) (es : List Entry) → is_live_mark m ≡ false → AreDistinct (ids es) → right_of (map (with_mark m d) es) d ≡ right_of es d
right_of_marked m d es hm dx =
    ap (λ us. cond (is_in d us) (first_or d (filter (is_live (map (with_mark m d) es)) (others d us))) d) (ids-marked m d es)
    ∙ ap (λ us. cond (is_in d (ids es)) (first_or d us) d) (marked_others m d es hm dx)

-- a test that no element passes, and a stronger one
pub filter_stronger : (weak strong : ℕ → Bool) (xs : List ℕ) → ((q : ℕ) → strong q ≡ true → weak q ≡ true) → filter weak xs ≡ [] → filter strong xs ≡ []
filter_stronger weak strong [] h e = refl
filter_stronger weak strong (x ∷ xs) h e = by_case (strong x) refl (weak x) refl e (λ k. filter_stronger weak strong xs h k)
  where
    by_case : (a : Bool) → strong x ≡ a → (b : Bool) → weak x ≡ b → cond b (x ∷ filter weak xs) (filter weak xs) ≡ [] → (filter weak xs ≡ [] → filter strong xs ≡ []) → cond a (x ∷ filter strong xs) (filter strong xs) ≡ []
    by_case a ea true eb k ih = cc
    by_case true ea false eb k ih = absurd (false≢true (sym eb ∙ h x ea))
    by_case false ea false eb k ih = ih k

-- whose left neighbour is another one keeps it
pub left_of_other : (m : Mark) (d p : ℕ) (es : List Entry) → is_live_mark m ≡ false → AreDistinct (ids es) → left_of es p ≢ d → left_of (map (with_mark m d) es) p ≡ left_of es p
left_of_other m d p es hm dx ne = by_in (is_in p (ids es)) refl
  where
    new : List Entry
    new = map (with_mark m d) es

    by_last : is_in p (ids es) ≡ true → IsLast (is_live es) p (left_in (is_live es) p (ids es)) (others p (ids es)) → last_or p (filter (is_live new) (others p (ids es))) ≡ left_in (is_live es) p (ids es)
    by_last h (none n is) = ap (last_or p) (filter_stronger (is_live es) (is_live new) (others p (ids es)) (λ q k. live_before m d q es hm k) n) ∙ sym is
    by_last h (one i ls n) =
        last_stronger (is_live es) (is_live new) p p (left_in (is_live es) p (ids es)) (others p (ids es)) (λ q k. live_before m d q es hm k)
        (live_other m d (left_in (is_live es) p (ids es)) es hm (λ same. ne (left_is es p h ∙ same)) ∙ ls) (λ k. k) refl

    by_in : (b : Bool) → is_in p (ids es) ≡ b → left_of new p ≡ left_of es p
    by_in true h =
        ap (λ us. cond (is_in p us) (last_or p (filter (is_live new) (others p us))) p) (ids-marked m d es)
        ∙ ap (λ b. cond b (last_or p (filter (is_live new) (others p (ids es)))) p) h
        ∙ by_last h (is_last (is_live es) p (left_in (is_live es) p (ids es)) (others p (ids es)) (distinct_others p (ids es) dx h) refl)
        ∙ sym (left_is es p h)
    by_in false h = left_absent new p (ap (is_in p) (ids-marked m d es) ∙ h) ∙ sym (left_absent es p h)

-- a neighbour is the entry itself, or it is live
pub left_lives : (es : List Entry) (p : ℕ) → AreDistinct (ids es) → left_of es p ≢ p → is_live es (left_of es p) ≡ true
left_lives es p dx ne = by_in (is_in p (ids es)) refl
  where
    by_left : is_in p (ids es) ≡ true → IsLeft (is_live es) (left_in (is_live es) p (ids es)) p (ids es) → is_live es (left_of es p) ≡ true
    by_left h (itself is) = absurd (ne (left_is es p h ∙ is))
    by_left h (other l i) = ap (is_live es) (left_is es p h) ∙ l

    by_in : (b : Bool) → is_in p (ids es) ≡ b → is_live es (left_of es p) ≡ true
    by_in true h = by_left h (left_is_left (is_live es) (left_in (is_live es) p (ids es)) p (ids es) (distinct_others p (ids es) dx h) h refl)
    by_in false h = absurd (ne (left_absent es p h))

-- a dead one is nobody's left neighbour but its own, where it was one
pub left_of_bereft : (m : Mark) (d p : ℕ) (es : List Entry) → is_live_mark m ≡ false → AreDistinct (ids es) → p ≢ d → left_of (map (with_mark m d) es) p ≢ d
left_of_bereft m d p es hm dx ne same =
    let new : List Entry = map (with_mark m d) es in
    let lives : is_live new (left_of new p) ≡ true = left_lives new p (subst AreDistinct (sym (ids-marked m d es)) dx) (λ (is : left_of new p ≡ p). ne (sym is ∙ same)) in
    false≢true (sym (marked_not_live m d es hm) ∙ ap (is_live new) (sym same) ∙ lives)

-- ---- what a mark dates

-- whose left neighbour dies has another from this version on
pub dated_bereft : (version d : ℕ) (es : List Entry) (e : Entry) → AreDistinct (ids es) → e.id.0 ≢ d → left_of es e.id.0 ≡ d → dated version es (map (with_mark Dead d) es) e ≡ record e { since = version }
dated_bereft version d es e dx ne is =
    ap (λ b. cond b e (record e { since = version })) (nat_eq-not (left_of es e.id.0) (left_of (map (with_mark Dead d) es) e.id.0) (λ same. left_of_bereft Dead d e.id.0 es refl dx ne (sym same ∙ is)))

-- all others keep theirs
pub dated_other : (version d : ℕ) (es : List Entry) (e : Entry) → AreDistinct (ids es) → left_of es e.id.0 ≢ d → dated version es (map (with_mark Dead d) es) e ≡ e
dated_other version d es e dx ne =
    ap (λ n. cond (nat_eq (left_of es e.id.0) n) e (record e { since = version })) (left_of_other Dead d e.id.0 es refl dx ne)
    ∙ ap (λ b. cond b e (record e { since = version })) (nat_eq-same (left_of es e.id.0))

pub dated_itself : (version d : ℕ) (es : List Entry) (e : Entry) → AreDistinct (ids es) → e.id.0 ≡ d → dated version es (map (with_mark Dead d) es) e ≡ e
dated_itself version d es e dx is =
    ap (λ n. cond (nat_eq (left_of es e.id.0) n) e (record e { since = version })) (ap (left_of (map (with_mark Dead d) es)) is ∙ left_of_marked Dead d es refl dx ∙ ap (left_of es) (sym is))
    ∙ ap (λ b. cond b e (record e { since = version })) (nat_eq-same (left_of es e.id.0))

-- first dated and then marked, or the other way round
pub mark-dated : (m : Mark) (d version : ℕ) (old new es : List Entry) → map (with_mark m d) (map (dated version old new) es) ≡ map (dated version old new) (map (with_mark m d) es)
mark-dated m d version old new [] = refl
mark-dated m d version old new (e ∷ es) = ap (λ y. y ∷ map (with_mark m d) (map (dated version old new) es)) (here (nat_eq e.id.0 d) refl) ∙ ap (λ ys. dated version old new (with_mark m d e) ∷ ys) (mark-dated m d version old new es)
  where
    marks : (b : Bool) → nat_eq e.id.0 d ≡ true → with_mark m d (cond b e (record e { since = version })) ≡ cond b (record e { mark = m }) (record e { mark = m; since = version })
    marks true h = ap (λ c. cond c (record e { mark = m }) e) h
    marks false h = ap (λ c. cond c (record e { mark = m; since = version }) (record e { since = version })) h

    leaves : (b : Bool) → nat_eq e.id.0 d ≡ false → with_mark m d (cond b e (record e { since = version })) ≡ cond b e (record e { since = version })
    leaves true h = ap (λ c. cond c (record e { mark = m }) e) h
    leaves false h = ap (λ c. cond c (record e { mark = m; since = version }) (record e { since = version })) h

    here : (b : Bool) → nat_eq e.id.0 d ≡ b → with_mark m d (dated version old new e) ≡ dated version old new (with_mark m d e)
    here true h = marks (nat_eq (left_of old e.id.0) (left_of new e.id.0)) h ∙ sym (ap (λ c. dated version old new (cond c (record e { mark = m }) e)) h)
    here false h = leaves (nat_eq (left_of old e.id.0) (left_of new e.id.0)) h ∙ sym (ap (λ c. dated version old new (cond c (record e { mark = m }) e)) h)

-- ---- a loop that writes over each entry

pub over_more : (f : Entry → Entry) (es ys zs : List Entry) (i : ℕ) (d y : Entry) → i < length es → length ys ≡ length es → ys ≡ map f (take i es) ++ drop i es → zs ≡ set ys i y → y ≡ f (get_or ys i d) → zs ≡ map f (take (i + 1) es) ++ drop (i + 1) es
over_more f es ys zs i d y l same inv is e =
    let inside : i < length ys = omega arith in
    is ∙ ap (set ys i) e ∙ map_over_more f es ys i (get_or ys i d) l inv (get_or_default ys i d (get_or ys i d) inside)

pub over_same : (f : Entry → Entry) (es ys zs : List Entry) (i : ℕ) (d : Entry) → i < length es → length ys ≡ length es → ys ≡ map f (take i es) ++ drop i es → zs ≡ ys → f (get_or ys i d) ≡ get_or ys i d → zs ≡ map f (take (i + 1) es) ++ drop (i + 1) es
over_same f es ys zs i d l same inv is e = over_more f es ys zs i d (get_or ys i d) l same inv (is ∙ sym (set-get_or ys i d)) (sym e)

-- ---- whose left neighbour an entry is

pub dated_right_keeps : (d version : ℕ) (es : List Entry) → KeepsRing (dated_right_of d version es)
dated_right_keeps d version es = record { keeps_id = λ e. on_id (nat_eq e.id.0 d) (nat_eq (left_of es e.id.0) d) e; keeps_mark = λ e. on_mark (nat_eq e.id.0 d) (nat_eq (left_of es e.id.0) d) e }
  where
    on_id : (a b : Bool) (e : Entry) → (cond a e (cond b (record e { since = version }) e)).id.0 ≡ e.id.0
    on_id true b e = refl
    on_id false true e = refl
    on_id false false e = refl

    on_mark : (a b : Bool) (e : Entry) → (cond a e (cond b (record e { since = version }) e)).mark ≡ e.mark
    on_mark true b e = refl
    on_mark false true e = refl
    on_mark false false e = refl

-- which are those that a mark dates
pub dated_by_mark : (version d : ℕ) (es : List Entry) (e : Entry) → AreDistinct (ids es) → dated_right_of d version es e ≡ dated version es (map (with_mark Dead d) es) e
dated_by_mark version d es e dx = by_case (nat_eq e.id.0 d) refl (nat_eq (left_of es e.id.0) d) refl
  where
    by_case : (a : Bool) → nat_eq e.id.0 d ≡ a → (b : Bool) → nat_eq (left_of es e.id.0) d ≡ b → cond a e (cond b (record e { since = version }) e) ≡ dated version es (map (with_mark Dead d) es) e
    by_case true ea b eb = sym (dated_itself version d es e dx (nat_eq-is e.id.0 d ea))
    by_case false ea true eb = sym (dated_bereft version d es e dx (λ is. false≢true (sym ea ∙ ap (λ q. nat_eq q d) is ∙ nat_eq-same d)) (nat_eq-is (left_of es e.id.0) d eb))
    by_case false ea false eb = sym (dated_other version d es e dx (λ is. false≢true (sym eb ∙ ap (λ q. nat_eq q d) is ∙ nat_eq-same d)))

-- a list that is dated so far has the neighbours that it had
pub dated_left : (d version : ℕ) (es ys : List Entry) (i p : ℕ) → ys ≡ map (dated_right_of d version es) (take i es) ++ drop i es → left_of ys p ≡ left_of es p
dated_left d version es ys i p inv = same_left ys es p (subst (λ us. SameRing us es) (sym inv) (same_ring_so_far (dated_right_of d version es) es i (dated_right_keeps d version es)))

-- the entry that is read so far, dated or left as it is
pub date_then : (d version : ℕ) (es ys zs : List Entry) (i : ℕ) (x y : Entry) → i < length es → length ys ≡ length es → ys ≡ map (dated_right_of d version es) (take i es) ++ drop i es → zs ≡ set ys i (record (get_or ys i y) { since = version }) → (get_or ys i x).id.0 ≢ d → left_of ys (get_or ys i x).id.0 ≡ d → zs ≡ map (dated_right_of d version es) (take (i + 1) es) ++ drop (i + 1) es
date_then d version es ys zs i x y l same inv is ne left =
    let inside : i < length ys = omega arith in
    let read : get_or ys i x ≡ get_or ys i y = get_or_default ys i x y inside in
    let apart : nat_eq (get_or ys i y).id.0 d ≡ false = nat_eq-not (get_or ys i y).id.0 d (subst (λ (e : Entry). e.id.0 ≢ d) read ne) in
    let has : left_of es (get_or ys i y).id.0 ≡ d = sym (dated_left d version es ys i (get_or ys i y).id.0 inv) ∙ ap (λ (e : Entry). left_of ys e.id.0) (sym read) ∙ left in
    over_more (dated_right_of d version es) es ys zs i y (record (get_or ys i y) { since = version }) l same inv is
    (rw (apart, has, nat_eq-same d) refl)

pub date_other : (d version : ℕ) (es ys zs : List Entry) (i : ℕ) (x : Entry) → i < length es → length ys ≡ length es → ys ≡ map (dated_right_of d version es) (take i es) ++ drop i es → zs ≡ ys → left_of ys (get_or ys i x).id.0 ≢ d → zs ≡ map (dated_right_of d version es) (take (i + 1) es) ++ drop (i + 1) es
date_other d version es ys zs i x l same inv is ne =
    let has : nat_eq (left_of es (get_or ys i x).id.0) d ≡ false = nat_eq-not _ d (λ e. ne (dated_left d version es ys i (get_or ys i x).id.0 inv ∙ e)) in
    over_same (dated_right_of d version es) es ys zs i x l same inv is (rw has (by_case (nat_eq (get_or ys i x).id.0 d)))
  where
    by_case : (b : Bool) → cond b (get_or ys i x) (get_or ys i x) ≡ get_or ys i x
    by_case true = refl
    by_case false = refl

pub date_itself : (d version : ℕ) (es ys zs : List Entry) (i : ℕ) (x : Entry) → i < length es → length ys ≡ length es → ys ≡ map (dated_right_of d version es) (take i es) ++ drop i es → zs ≡ ys → (get_or ys i x).id.0 ≡ d → zs ≡ map (dated_right_of d version es) (take (i + 1) es) ++ drop (i + 1) es
date_itself d version es ys zs i x l same inv is e =
    over_same (dated_right_of d version es) es ys zs i x l same inv is
    (ap (λ n. cond (nat_eq n d) (get_or ys i x) (cond (nat_eq (left_of es (get_or ys i x).id.0) d) (record (get_or ys i x) { since = version }) (get_or ys i x))) e ∙ rw (nat_eq-same d) refl)

-- an entry whose neighbours didn't change isn't dated
pub dated_same : (version : ℕ) (old new : List Entry) → SameRing new old → (es : List Entry) → map (dated version old new) es ≡ es
dated_same version old new s [] = refl
dated_same version old new s (e ∷ es) =
    ap (λ q. cond (nat_eq (left_of old e.id.0) q) e (record e { since = version }) ∷ map (dated version old new) es) (same_left new old e.id.0 s)
    ∙ ap (λ b. cond b e (record e { since = version }) ∷ map (dated version old new) es) (nat_eq-same (left_of old e.id.0))
    ∙ ap (λ us. e ∷ us) (dated_same version old new s es)

-- one that isn't live has neighbours that it leaves as they are, whatever mark but Live it gets
pub marked_same : (m : Mark) (d : ℕ) (es : List Entry) → is_live_mark m ≡ false → is_live es d ≡ false → SameRing (map (with_mark m d) es) es
marked_same m d es hm l = record { same_ids = ids-marked m d es; same_live = λ q. live-marked m d q es hm ∙ by_case q (nat_eq q d) refl }
  where
    by_case : (q : ℕ) (b : Bool) → nat_eq q d ≡ b → cond b false (is_live es q) ≡ is_live es q
    by_case q true e = sym (ap (is_live es) (nat_eq-is q d e) ∙ l)
    by_case q false e = refl

-- ---- how many changes the entries stand for

pub changes-dated : (f : Entry → Entry) (es : List Entry) → ((e : Entry) → changes_of (f e) ≡ changes_of e) → sum_by changes_of (map f es) ≡ sum_by changes_of es
changes-dated f [] h = refl
changes-dated f (e ∷ es) h = sum_by-cons changes_of (f e) (map f es) ∙ ap (λ n. n + sum_by changes_of (map f es)) (h e) ∙ ap (λ n. changes_of e + n) (changes-dated f es h) ∙ sym (sum_by-cons changes_of e es)

pub dated_changes : (version : ℕ) (old new : List Entry) (e : Entry) → changes_of (dated version old new e) ≡ changes_of e
dated_changes version old new e = by_case (nat_eq (left_of old e.id.0) (left_of new e.id.0))
  where
    by_case : (b : Bool) → changes_of (cond b e (record e { since = version })) ≡ changes_of e
    by_case true = refl
    by_case false = refl

-- an id that isn't there is marked nowhere
pub mark_nobody : (m : Mark) (d : ℕ) (es : List Entry) → is_in d (ids es) ≡ false → map (with_mark m d) es ≡ es
mark_nobody m d [] h = refl
mark_nobody m d (e ∷ es) h = by_case (nat_eq d e.id.0) refl h (λ k. mark_nobody m d es k)
  where
    by_case : (b : Bool) → nat_eq d e.id.0 ≡ b → cond b true (is_in d (ids es)) ≡ false → (is_in d (ids es) ≡ false → map (with_mark m d) es ≡ es) → map (with_mark m d) (e ∷ es) ≡ e ∷ es
    by_case true q k ih = absurd (false≢true (sym k))
    by_case false q k ih = ap (λ b. cond b (record e { mark = m }) e ∷ map (with_mark m d) es) (sym_test d e.id.0 false q) ∙ ap (λ us. e ∷ us) (ih k)

-- an entry that gets the next mark stands for one more
pub changes-marked : (m : Mark) (d : ℕ) (es : List Entry) → AreDistinct (ids es) → is_in d (ids es) ≡ true → changes_of_mark m ≡ changes_of_mark (entry_in es d).mark + 1 → sum_by changes_of (map (with_mark m d) es) ≡ sum_by changes_of es + 1
changes-marked m d [] dx i l = absurd (false≢true i)
changes-marked m d (e ∷ es) dx i l = by_case (nat_eq e.id.0 d) refl l i (λ a b. changes-marked m d es dx.1 a b)
  where
    one_more : (mark : Mark) (synced : Bool) → changes_of_mark m ≡ changes_of_mark mark + 1 → 1 + changes_of_mark m + cond synced 1 0 ≡ 1 + changes_of_mark mark + cond synced 1 0 + 1
    one_more mark synced h = omega (arith, h)

    by_case : (b : Bool) → nat_eq e.id.0 d ≡ b → changes_of_mark m ≡ changes_of_mark (cond b e (entry_in es d)).mark + 1 → is_in d (e.id.0 ∷ ids es) ≡ true → (is_in d (ids es) ≡ true → changes_of_mark m ≡ changes_of_mark (entry_in es d).mark + 1 → sum_by changes_of (map (with_mark m d) es) ≡ sum_by changes_of es + 1) → sum_by changes_of (cond b (record e { mark = m }) e ∷ map (with_mark m d) es) ≡ sum_by changes_of (e ∷ es) + 1
    by_case true q live k ih =
        let gone : is_in d (ids es) ≡ false = subst (λ n. is_in n (ids es) ≡ false) (nat_eq-is e.id.0 d q) dx.0 in
        ap (λ us. sum_by changes_of (record e { mark = m } ∷ us)) (mark_nobody m d es gone)
        ∙ sum_by-cons changes_of (record e { mark = m }) es
        ∙ ap (λ n. n + sum_by changes_of es) (one_more e.mark e.synced live)
        ∙ (let swap : changes_of e + 1 + sum_by changes_of es ≡ changes_of e + sum_by changes_of es + 1 = omega arith in swap)
        ∙ ap (λ n. n + 1) (sym (sum_by-cons changes_of e es))
    by_case false q live k ih =
        sum_by-cons changes_of e (map (with_mark m d) es)
        ∙ ap (λ n. changes_of e + n) (ih (rw (sym_test e.id.0 d false q) at k) live)
        ∙ (let swap : changes_of e + (sum_by changes_of es + 1) ≡ changes_of e + sum_by changes_of es + 1 = omega arith in swap)
        ∙ ap (λ n. n + 1) (sym (sum_by-cons changes_of e es))
