-- Whose neighbours are whose, and what a mark makes of them.
use Rattle.std.proofs.Common.{◌≡◌, ◌≢◌, ℕ, ◌+◌, Bool, true, false, cond, List, [], ◌∷◌, ◌++◌, map, refl, sym, ap, ◌∙◌, nat_eq}
use Rattle.std.specs.List.{filter}
use Rattle.std.proofs.lemmas.Bool.{false≢true}
use Rattle.std.proofs.lemmas.List.{append-nil}
use Rattle.std.proofs.lemmas.List.Elements.{filter-append}
use Rattle.group_view.specs.declared.entry.Entry.{Entry}
use Rattle.group_view.specs.declared.entry.Mark.{Mark}
use Rattle.group_view.specs.declared.entry.Mark.TheVariants.{Dead}
use Rattle.group_view.specs.Ring.{is_in, AreDistinct, before, after, others, last_or, first_or, left_in, right_in}
use Rattle.group_view.specs.View.{Group, ids, entry_in, is_live, is_live_mark, is_dead, is_dead_mark, left_of, right_of}
use Rattle.group_view.specs.Change.{dated, with_mark, remarked, marked}
use Rattle.group_view.specs.Laws.{AreMutual, PassesOn}
use Rattle.group_view.proofs.Rings.{nat_eq-same, sym_test, split_at, not_in_before, not_in_after, not_in_others, not_equal_in, others_inside, others-rotated, rotated_is, distinct_others, head_differs}
use Rattle.group_view.proofs.Neighbours.{not_in_filter, FirstPass, first_pass, IsLast, none, one, is_last, IsLeft, itself, other, left_is_left, left_of_right, right_of_left, filter_agree_in, first_passes}
use Rattle.group_view.proofs.Marks.{SameRing, same_left, same_right, same_ring_all, dated_keeps, ids-marked, live_other, live_before, marked_not_live, left_is, right_is, left_absent, right_absent, filter_stronger, left_of_other, left_of_marked, right_of_marked}

-- ---- each is the other's neighbour

-- who is live is there
pub live_in : (es : List Entry) (p : ℕ) → is_live es p ≡ true → is_in p (ids es) ≡ true
live_in [] p h = absurd (false≢true h)
live_in (e ∷ es) p h = by_case (nat_eq e.id.0 p) refl h (λ k. live_in es p k)
  where
    by_case : (b : Bool) → nat_eq e.id.0 p ≡ b → is_live_mark (cond b e (entry_in es p)).mark ≡ true → (is_live es p ≡ true → is_in p (ids es) ≡ true) → cond (nat_eq p e.id.0) true (is_in p (ids es)) ≡ true
    by_case true q k ih = rw (sym_test e.id.0 p true q) refl
    by_case false q k ih = rw (sym_test e.id.0 p false q) (ih k)

-- what is dead is there
pub dead_in : (es : List Entry) (p : ℕ) → is_dead es p ≡ true → is_in p (ids es) ≡ true
dead_in [] p h = absurd (false≢true h)
dead_in (e ∷ es) p h = by_case (nat_eq e.id.0 p) refl h (λ k. dead_in es p k)
  where
    by_case : (b : Bool) → nat_eq e.id.0 p ≡ b → is_dead_mark (cond b e (entry_in es p)).mark ≡ true → (is_dead es p ≡ true → is_in p (ids es) ≡ true) → cond (nat_eq p e.id.0) true (is_in p (ids es)) ≡ true
    by_case true q k ih = rw (sym_test e.id.0 p true q) refl
    by_case false q k ih = rw (sym_test e.id.0 p false q) (ih k)

pub left_inside : (live : ℕ → Bool) (p : ℕ) (xs : List ℕ) → AreDistinct xs → is_in p xs ≡ true → is_in (left_in live p xs) xs ≡ true
left_inside live p xs d h = by_left (left_is_left live (left_in live p xs) p xs (distinct_others p xs d h) h refl)
  where
    by_left : IsLeft live (left_in live p xs) p xs → is_in (left_in live p xs) xs ≡ true
    by_left (itself is) = ap (λ q. is_in q xs) is ∙ h
    by_left (other l i) = i

pub right_inside : (live : ℕ → Bool) (p : ℕ) (xs : List ℕ) → is_in p xs ≡ true → is_in (right_in live p xs) xs ≡ true
right_inside live p xs h = by_list (filter live (others p xs)) refl
  where
    by_list : (us : List ℕ) → filter live (others p xs) ≡ us → is_in (first_or p us) xs ≡ true
    by_list [] e = h
    by_list (u ∷ us) e = let f : FirstPass live u (others p xs) = first_pass live u us (others p xs) e in others_inside p u xs f.inside

pub are_mutual : (es : List Entry) (p : ℕ) → AreDistinct (ids es) → is_live es p ≡ true → AreMutual es p
are_mutual es p d l =
    let here : is_in p (ids es) ≡ true = live_in es p l in
    record {
      left_of_right =
          ap (left_of es) (right_is es p here)
          ∙ left_is es (right_in (is_live es) p (ids es)) (right_inside (is_live es) p (ids es) here)
          ∙ left_of_right (is_live es) p (ids es) d here l;
      right_of_left =
          ap (right_of es) (left_is es p here)
          ∙ right_is es (left_in (is_live es) p (ids es)) (left_inside (is_live es) p (ids es) d here)
          ∙ right_of_left (is_live es) (left_in (is_live es) p (ids es)) p (ids es) d here l refl;
    }

-- ---- the last and the first of lists

pub last_of : (p d : ℕ) (us : List ℕ) → is_in d us ≡ false → last_or p us ≡ d → p ≡ d
last_of p d [] h e = e
last_of p d (u ∷ us) h e = by_case (nat_eq d u) refl h (λ k. last_of u d us k e)
  where
    by_case : (b : Bool) → nat_eq d u ≡ b → cond b true (is_in d us) ≡ false → (is_in d us ≡ false → u ≡ d) → p ≡ d
    by_case true q k ih = absurd (false≢true (sym k))
    by_case false q k ih = absurd (false≢true (sym q ∙ ap (nat_eq d) (ih k) ∙ nat_eq-same d))

pub last_any : (p d : ℕ) (us : List ℕ) → last_or d us ≢ d → last_or p us ≡ last_or d us
last_any p d [] ne = absurd (ne refl)
last_any p d (u ∷ us) ne = refl

pub last_none : (p d : ℕ) (us : List ℕ) → is_in d us ≡ false → last_or d us ≡ d → last_or p us ≡ p
last_none p d [] h e = refl
last_none p d (u ∷ us) h e = by_case (nat_eq d u) refl h
  where
    by_case : (b : Bool) → nat_eq d u ≡ b → cond b true (is_in d us) ≡ false → last_or u us ≡ p
    by_case true q k = absurd (false≢true (sym k))
    by_case false q k = absurd (false≢true (sym q ∙ ap (nat_eq d) (last_of u d us k e) ∙ nat_eq-same d))

-- the others of one of the others of p
pub others_of_other : (p d : ℕ) (xs : List ℕ) → AreDistinct xs → is_in p xs ≡ true → is_in d (others p xs) ≡ true → others d xs ≡ after d (others p xs) ++ p ∷ before d (others p xs)
others_of_other p d xs dx hp hd =
    let apart : nat_eq p d ≡ false = sym_test d p false (not_equal_in d p (others p xs) hd (not_in_others p xs dx)) in
    sym (others-rotated d p xs dx (others_inside p d xs hd)) ∙ ap (others d) (rotated_is p xs hp) ∙ rw apart refl

-- ---- a test that d alone no longer passes

-- weak is what was, strong what is
pub record Loses (weak strong : ℕ → Bool) (d : ℕ) : Type 0 where
  pub gone : strong d ≡ false
  pub same : (q : ℕ) → q ≢ d → strong q ≡ weak q
  pub less : (q : ℕ) → strong q ≡ true → weak q ≡ true

pub mark_loses : (m : Mark) (d : ℕ) (es : List Entry) → is_live_mark m ≡ false → Loses (is_live es) (is_live (map (with_mark m d) es)) d
mark_loses m d es hm = record { gone = marked_not_live m d es hm; same = λ q ne. live_other m d q es hm ne; less = λ q h. live_before m d q es hm h }

pub filter_lost : (weak strong : ℕ → Bool) (d : ℕ) (us : List ℕ) → Loses weak strong d → is_in d us ≡ false → filter strong us ≡ filter weak us
filter_lost weak strong d us l h = filter_agree_in strong weak us (λ q i. l.same q (λ is. false≢true (sym h ∙ ap (λ z. is_in z us) (sym is) ∙ i)))

-- where d was the left neighbour: those left of d are left
pub record LeftLost (weak strong : ℕ → Bool) (d p : ℕ) (xs : List ℕ) (us : List ℕ) : Type 0 where
  pub outside : is_in d us ≡ false
  pub new : left_in strong p xs ≡ last_or p us
  pub old : left_in weak d xs ≡ last_or d (cond (weak p) (p ∷ us) us)

pub left_lost : (weak strong : ℕ → Bool) (d p : ℕ) (xs : List ℕ) → AreDistinct xs → is_in p xs ≡ true → p ≢ d → Loses weak strong d → left_in weak p xs ≡ d → LeftLost weak strong d p xs (filter weak (before d (others p xs)))
left_lost weak strong d p xs dx hp ne l e = by_last (is_last weak p d (others p xs) (distinct_others p xs dx hp) e)
  where
    t : List ℕ
    t = others p xs

    by_last : IsLast weak p d (others p xs) → LeftLost weak strong d p xs (filter weak (before d (others p xs)))
    by_last (none n is) = absurd (ne (sym is))
    by_last (one i ld n) = record {
      outside = not_in_filter weak d (before d t) (not_in_before d t);
      new =
          ap (λ us. last_or p (filter strong us)) (split_at d t i)
          ∙ ap (last_or p) (filter-append strong (before d t) (d ∷ after d t)
          ∙ ap (λ us. filter strong (before d t) ++ us) (ap (λ b. cond b (d ∷ filter strong (after d t)) (filter strong (after d t))) l.gone ∙ filter_stronger weak strong (after d t) l.less n)
          ∙ append-nil (filter strong (before d t))
          ∙ filter_lost weak strong d (before d t) l (not_in_before d t));
      old =
          ap (λ us. last_or d (filter weak us)) (others_of_other p d xs dx hp i)
          ∙ ap (last_or d) (filter-append weak (after d t) (p ∷ before d t) ∙ ap (λ us. us ++ filter weak (p ∷ before d t)) n);
    }

-- where d was the right neighbour: those right of d are left
pub record RightLost (weak strong : ℕ → Bool) (d p : ℕ) (xs : List ℕ) (us : List ℕ) : Type 0 where
  pub outside : is_in d us ≡ false
  pub new : right_in strong p xs ≡ first_or p us
  pub old : right_in weak d xs ≡ first_or d (us ++ cond (weak p) (p ∷ []) [])

pub right_lost : (weak strong : ℕ → Bool) (d p : ℕ) (xs : List ℕ) → AreDistinct xs → is_in p xs ≡ true → p ≢ d → Loses weak strong d → right_in weak p xs ≡ d → RightLost weak strong d p xs (filter weak (after d (others p xs)))
right_lost weak strong d p xs dx hp ne l e = by_list (filter weak (others p xs)) refl e
  where
    t : List ℕ
    t = others p xs

    by_list : (ws : List ℕ) → filter weak (others p xs) ≡ ws → first_or p ws ≡ d → RightLost weak strong d p xs (filter weak (after d (others p xs)))
    by_list [] w k = absurd (ne k)
    by_list (u ∷ us) w k =
        let f : FirstPass weak d t = first_pass weak d us t (w ∙ ap (λ q. q ∷ us) k) in
        record {
          outside = not_in_filter weak d (after d t) (not_in_after d t (distinct_others p xs dx hp));
          new =
              ap (λ us. first_or p (filter strong us)) (split_at d t f.inside)
              ∙ ap (first_or p) (filter-append strong (before d t) (d ∷ after d t)
              ∙ ap (λ us. us ++ filter strong (d ∷ after d t)) (filter_stronger weak strong (before d t) l.less f.none)
              ∙ ap (λ b. cond b (d ∷ filter strong (after d t)) (filter strong (after d t))) l.gone
              ∙ filter_lost weak strong d (after d t) l (not_in_after d t (distinct_others p xs dx hp)));
          old =
              ap (λ us. first_or d (filter weak us)) (others_of_other p d xs dx hp f.inside)
              ∙ ap (first_or d) (filter-append weak (after d t) (p ∷ before d t) ∙ ap (λ us. filter weak (after d t) ++ us) (ap (λ us. cond (weak p) (p ∷ us) us) f.none));
        }

-- ---- the neighbours that are passed on

pub left_bereft : (weak strong : ℕ → Bool) (d p : ℕ) (xs : List ℕ) (us : List ℕ) → p ≢ d → LeftLost weak strong d p xs us → left_in weak d xs ≢ d → left_in strong p xs ≡ left_in weak d xs
left_bereft weak strong d p xs us ne h away = h.new ∙ by_live (weak p) h.old ∙ sym h.old
  where
    by_live : (b : Bool) → left_in weak d xs ≡ last_or d (cond b (p ∷ us) us) → last_or p us ≡ last_or d (cond b (p ∷ us) us)
    by_live true e = refl
    by_live false e = last_any p d us (λ k. away (e ∙ k))

pub left_alone : (weak strong : ℕ → Bool) (d p : ℕ) (xs : List ℕ) (us : List ℕ) → p ≢ d → LeftLost weak strong d p xs us → left_in weak d xs ≡ d → left_in strong p xs ≡ p
left_alone weak strong d p xs us ne h here = h.new ∙ by_live (weak p) (sym h.old ∙ here)
  where
    by_live : (b : Bool) → last_or d (cond b (p ∷ us) us) ≡ d → last_or p us ≡ p
    by_live true e = absurd (ne (last_of p d us h.outside e))
    by_live false e = last_none p d us h.outside e

pub right_bereft : (weak strong : ℕ → Bool) (d p : ℕ) (xs : List ℕ) (us : List ℕ) → p ≢ d → RightLost weak strong d p xs us → right_in weak d xs ≢ d → right_in strong p xs ≡ right_in weak d xs
right_bereft weak strong d p xs us ne h away = h.new ∙ by_list us (weak p) h.old ∙ sym h.old
  where
    by_list : (vs : List ℕ) (b : Bool) → right_in weak d xs ≡ first_or d (vs ++ cond b (p ∷ []) []) → first_or p vs ≡ first_or d (vs ++ cond b (p ∷ []) [])
    by_list (v ∷ vs) b e = refl
    by_list [] true e = refl
    by_list [] false e = absurd (away e)

pub right_alone : (weak strong : ℕ → Bool) (d p : ℕ) (xs : List ℕ) (us : List ℕ) → p ≢ d → RightLost weak strong d p xs us → right_in weak d xs ≡ d → right_in strong p xs ≡ p
right_alone weak strong d p xs us ne h here = h.new ∙ by_list us h.outside (weak p) (sym h.old ∙ here)
  where
    by_list : (vs : List ℕ) → is_in d vs ≡ false → (b : Bool) → first_or d (vs ++ cond b (p ∷ []) []) ≡ d → first_or p vs ≡ p
    by_list (v ∷ vs) out b e = absurd (head_differs d v vs out e)
    by_list [] out b e = refl

pub first_stronger : (weak strong : ℕ → Bool) (d x : ℕ) (ws us : List ℕ) → ((q : ℕ) → strong q ≡ true → weak q ≡ true) → strong x ≡ true → filter weak us ≡ x ∷ ws → first_or d (filter strong us) ≡ x
first_stronger weak strong d x ws [] h sx e = cc
first_stronger weak strong d x ws (u ∷ us) h sx e = by_case (weak u) (strong u) refl refl e (λ k. first_stronger weak strong d x ws us h sx k)
  where
    by_case : (a b : Bool) → weak u ≡ a → strong u ≡ b → cond a (u ∷ filter weak us) (filter weak us) ≡ x ∷ ws → (filter weak us ≡ x ∷ ws → first_or d (filter strong us) ≡ x) → first_or d (cond b (u ∷ filter strong us) (filter strong us)) ≡ x
    by_case true true ea eb k ih = cc
    by_case true false ea eb k ih = let is : u ≡ x = cc in absurd (false≢true (sym eb ∙ ap strong is ∙ sx))
    by_case false true ea eb k ih = absurd (false≢true (sym ea ∙ h u eb))
    by_case false false ea eb k ih = ih k

-- whose right neighbour is another one keeps it
pub right_other : (weak strong : ℕ → Bool) (d p : ℕ) (xs : List ℕ) → Loses weak strong d → right_in weak p xs ≢ d → right_in strong p xs ≡ right_in weak p xs
right_other weak strong d p xs l ne = by_list (filter weak (others p xs)) refl ne
  where
    by_list : (ws : List ℕ) → filter weak (others p xs) ≡ ws → first_or p ws ≢ d → first_or p (filter strong (others p xs)) ≡ first_or p ws
    by_list [] e k = ap (first_or p) (filter_stronger weak strong (others p xs) l.less e)
    by_list (w ∷ ws) e k = first_stronger weak strong p w ws (others p xs) l.less (l.same w k ∙ first_passes weak w ws (others p xs) e) e

pub right_of_other : (m : Mark) (d p : ℕ) (es : List Entry) → is_live_mark m ≡ false → right_of es p ≢ d → right_of (map (with_mark m d) es) p ≡ right_of es p
right_of_other m d p es hm ne = by_in (is_in p (ids es)) refl
  where
    new : List Entry
    new = map (with_mark m d) es

    by_in : (b : Bool) → is_in p (ids es) ≡ b → right_of new p ≡ right_of es p
    by_in true h =
        ap (λ us. cond (is_in p us) (first_or p (filter (is_live new) (others p us))) p) (ids-marked m d es)
        ∙ ap (λ b. cond b (first_or p (filter (is_live new) (others p (ids es)))) p) h
        ∙ right_other (is_live es) (is_live new) d p (ids es) (mark_loses m d es hm) (λ k. ne (right_is es p h ∙ k))
        ∙ sym (right_is es p h)
    by_in false h = right_absent new p (ap (is_in p) (ids-marked m d es) ∙ h) ∙ sym (right_absent es p h)

-- ---- a mark, for the entries

-- the neighbours after a mark are those by the new test, over the old ids
pub left_after : (m : Mark) (d p : ℕ) (es : List Entry) → is_in p (ids es) ≡ true → left_of (map (with_mark m d) es) p ≡ left_in (is_live (map (with_mark m d) es)) p (ids es)
left_after m d p es h =
    left_is (map (with_mark m d) es) p (ap (is_in p) (ids-marked m d es) ∙ h) ∙ ap (left_in (is_live (map (with_mark m d) es)) p) (ids-marked m d es)

pub right_after : (m : Mark) (d p : ℕ) (es : List Entry) → is_in p (ids es) ≡ true → right_of (map (with_mark m d) es) p ≡ right_in (is_live (map (with_mark m d) es)) p (ids es)
right_after m d p es h =
    right_is (map (with_mark m d) es) p (ap (is_in p) (ids-marked m d es) ∙ h) ∙ ap (right_in (is_live (map (with_mark m d) es)) p) (ids-marked m d es)

-- who has d for a neighbour, and isn't d, is there, and so is d
pub record HasNeighbour (es : List Entry) (d p : ℕ) : Type 0 where
  pub here : is_in p (ids es) ≡ true
  pub there : is_in d (ids es) ≡ true

-- where near is p's neighbour on one side: p itself, where p isn't there
has_neighbour : (es : List Entry) (d p near : ℕ) → p ≢ d → near ≡ d → (is_in p (ids es) ≡ true → is_in near (ids es) ≡ true) → (is_in p (ids es) ≡ false → near ≡ p) → HasNeighbour es d p
has_neighbour es d p near ne e inside absent = by_in (is_in p (ids es)) refl
  where
    by_in : (b : Bool) → is_in p (ids es) ≡ b → HasNeighbour es d p
    by_in true h = record { here = h; there = ap (λ q. is_in q (ids es)) (sym e) ∙ inside h }
    by_in false h = absurd (ne (sym (absent h) ∙ e))

pub has_left : (es : List Entry) (d p : ℕ) → AreDistinct (ids es) → p ≢ d → left_of es p ≡ d → HasNeighbour es d p
has_left es d p dx ne e = has_neighbour es d p (left_of es p) ne e (λ h. ap (λ q. is_in q (ids es)) (left_is es p h) ∙ left_inside (is_live es) p (ids es) dx h) (λ h. left_absent es p h)

pub has_right : (es : List Entry) (d p : ℕ) → p ≢ d → right_of es p ≡ d → HasNeighbour es d p
has_right es d p ne e = has_neighbour es d p (right_of es p) ne e (λ h. ap (λ q. is_in q (ids es)) (right_is es p h) ∙ right_inside (is_live es) p (ids es) h) (λ h. right_absent es p h)

pub mark_passes : (m : Mark) (d : ℕ) (es : List Entry) → is_live_mark m ≡ false → AreDistinct (ids es) → PassesOn es (map (with_mark m d) es) d
mark_passes m d es hm dx = record {
  left_of_others = λ p ne. left_of_other m d p es hm dx ne;
  left_of_bereft = λ p ne e away.
      let n : HasNeighbour es d p = has_left es d p dx ne e in
      left_after m d p es n.here
      ∙ left_bereft (is_live es) (is_live (map (with_mark m d) es)) d p (ids es) (filter (is_live es) (before d (others p (ids es)))) ne (left_lost (is_live es) (is_live (map (with_mark m d) es)) d p (ids es) dx n.here ne (mark_loses m d es hm) (sym (left_is es p n.here) ∙ e)) (λ k. away (left_is es d n.there ∙ k))
      ∙ sym (left_is es d n.there);
  left_of_lonely = λ p ne e here.
      let n : HasNeighbour es d p = has_left es d p dx ne e in
      left_after m d p es n.here
      ∙ left_alone (is_live es) (is_live (map (with_mark m d) es)) d p (ids es) (filter (is_live es) (before d (others p (ids es)))) ne (left_lost (is_live es) (is_live (map (with_mark m d) es)) d p (ids es) dx n.here ne (mark_loses m d es hm) (sym (left_is es p n.here) ∙ e)) (sym (left_is es d n.there) ∙ here);
  left_of_itself = left_of_marked m d es hm dx;
  right_of_others = λ p ne. right_of_other m d p es hm ne;
  right_of_bereft = λ p ne e away.
      let n : HasNeighbour es d p = has_right es d p ne e in
      right_after m d p es n.here
      ∙ right_bereft (is_live es) (is_live (map (with_mark m d) es)) d p (ids es) (filter (is_live es) (after d (others p (ids es)))) ne (right_lost (is_live es) (is_live (map (with_mark m d) es)) d p (ids es) dx n.here ne (mark_loses m d es hm) (sym (right_is es p n.here) ∙ e)) (λ k. away (right_is es d n.there ∙ k))
      ∙ sym (right_is es d n.there);
  right_of_lonely = λ p ne e here.
      let n : HasNeighbour es d p = has_right es d p ne e in
      right_after m d p es n.here
      ∙ right_alone (is_live es) (is_live (map (with_mark m d) es)) d p (ids es) (filter (is_live es) (after d (others p (ids es)))) ne (right_lost (is_live es) (is_live (map (with_mark m d) es)) d p (ids es) dx n.here ne (mark_loses m d es hm) (sym (right_is es p n.here) ∙ e)) (sym (right_is es d n.there) ∙ here);
  right_of_itself = right_of_marked m d es hm dx;
}

-- what holds of a list of entries holds of one with the same ring
pub passes_same : (old new fresh : List Entry) (d : ℕ) → SameRing fresh new → PassesOn old new d → PassesOn old fresh d
passes_same old new fresh d s h = record {
  left_of_others = λ p ne. same_left fresh new p s ∙ h.left_of_others p ne;
  left_of_bereft = λ p ne e away. same_left fresh new p s ∙ h.left_of_bereft p ne e away;
  left_of_lonely = λ p ne e here. same_left fresh new p s ∙ h.left_of_lonely p ne e here;
  left_of_itself = same_left fresh new d s ∙ h.left_of_itself;
  right_of_others = λ p ne. same_right fresh new p s ∙ h.right_of_others p ne;
  right_of_bereft = λ p ne e away. same_right fresh new p s ∙ h.right_of_bereft p ne e away;
  right_of_lonely = λ p ne e here. same_right fresh new p s ∙ h.right_of_lonely p ne e here;
  right_of_itself = same_right fresh new d s ∙ h.right_of_itself;
}

pub remarked_passes : (m : Mark) (g : Group) (d : ℕ) → is_live_mark m ≡ false → AreDistinct (ids g.entries) → PassesOn g.entries (remarked m g d).entries d
remarked_passes m g d hm dx =
    passes_same g.entries (map (with_mark m d) g.entries) (remarked m g d).entries d
    (same_ring_all (dated (g.version + 1) g.entries (map (with_mark m d) g.entries)) (map (with_mark m d) g.entries) (dated_keeps (g.version + 1) g.entries (map (with_mark m d) g.entries)))
    (mark_passes m d g.entries hm dx)

pub marked_passes : (g : Group) (d : ℕ) → AreDistinct (ids g.entries) → PassesOn g.entries (marked g d).entries d
marked_passes g d dx = remarked_passes Dead g d refl dx
