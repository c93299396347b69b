-- The place of a link falls as views grow newer, and where its receiver leaves it.
use Rattle.std.proofs.Common.{◌≡◌, ◌≢◌, ℕ, ◌<◌, ◌≤◌, Bool, true, false, cond, nat_eq, List, length, set, Option, Some, None, refl, sym, ap, subst, ◌∙◌, ⊎_elim, arith}
use Rattle.std.proofs.lemmas.Bool.{false≢true, cases_eq}
use Rattle.std.proofs.lemmas.List.{length-set, get_or-set_same, get_or-set_other}
use Rattle.group_view.specs.View.{Group}
use Rattle.ring_rules.proofs.events.Cases.{IsRunning}
use Rattle.ring_rules.specs.Machine.{Member, Link, World, no_member, no_link, member_at, link_at, is_kept, is_kept_of}
use Rattle.ring_rules.specs.OpenLinks.{version_of, passes, is_place, is_current}
use Rattle.ring_rules.specs.Step.{size, current_is, with_current, leave_link, finished, kept_current, moved_to, look_at}
use Rattle.ring_rules.specs.Event.{at_door, refreshed}
use Rattle.ring_rules.proofs.rings.Rounds.{nat_eq-is, nat_eq-same, nat_eq-not}
use Rattle.ring_rules.proofs.walks.Ended.{TakesOn, door_link}
use Rattle.ring_rules.proofs.invariants.Shape.{SameEnds}
use Rattle.ring_rules.proofs.invariants.Happens.{IsGood, door_pickable}
use Rattle.ring_rules.proofs.walks.LeftLinks.{IsLater, fails_later}
use Rattle.ring_rules.proofs.walks.OpenWalk.{passes_is}
use Rattle.ring_rules.proofs.work.Refreshed.{sending_member, opened_world, old_links, refresh_cases}
use Rattle.ring_rules.specs.Work.{place_by, place_at}

-- ---- a member is written

-- the member x becomes y, and the others stay
pub record IsWritten (w w' : World) (x : ℕ) (y : Member) : Type 0 where
  pub many : size w' ≡ size w
  pub here : member_at w' x ≡ y
  pub others : (q : ℕ) → q ≢ x → member_at w' q ≡ member_at w q

pub written : (w : World) (vs : List Group) (x : ℕ) (y : Member) (ls : List Link) → x < size w → IsWritten w (record w { views = vs; members = set w.members x y; links = ls }) x y
written w vs x y ls lt = record { many = length-set w.members x y; here = get_or-set_same w.members x y no_member lt; others = λ q ne. get_or-set_other w.members x q y no_member ne }

-- or all stay
pub unwritten : (w : World) (x : ℕ) (ls : List Link) → IsWritten w (record w { links = ls }) x (member_at w x)
unwritten w x ls = record { many = refl; here = refl; others = λ q ne. refl }

-- ---- tests

-- no place is above 2
pub place_most : (o c d : Bool) → place_by o c d ≤ 2
place_most true c d = omega arith
place_most false true d = omega arith
place_most false false true = omega arith
place_most false false false = omega arith

-- A place doesn't rise where a link that was over is, one that is taken from was, one that is left fails the test, and one
-- that failed it does.
place_falls : (o o' c c' d d' : Bool) → (o ≡ true → o' ≡ true) → (c' ≡ true → c ≡ true) → (c ≡ true → c' ≡ false → d' ≡ false) → (d ≡ false → d' ≡ false) → place_by o' c' d' ≤ place_by o c d
place_falls o true c c' d d' h i j k = omega arith
place_falls true false c c' d d' h i j k = absurd (false≢true (h refl))
place_falls false false true true d d' h i j k = omega arith
place_falls false false false true d d' h i j k = absurd (false≢true (i refl))
place_falls false false c false d false h i j k = omega arith
place_falls false false true false d true h i j k = absurd (false≢true (sym (j refl refl)))
place_falls false false false false true true h i j k = omega arith
place_falls false false false false false true h i j k = absurd (false≢true (sym (k refl)))

-- what stays of the current link was it
kept_was : (kept : ℕ → Bool) (c : Option ℕ) (t : ℕ) → is_place (kept_current kept c) t ≡ true → is_place c t ≡ true
kept_was kept None t e = e
kept_was kept (Some s) t e = by_test (kept s) e
  where
    by_test : (b : Bool) → is_place (cond b (Some s) None) t ≡ true → nat_eq s t ≡ true
    by_test true k = k
    by_test false k = absurd (false≢true k)

-- and what doesn't stay isn't kept
not_kept : (kept : ℕ → Bool) (c : Option ℕ) (t : ℕ) → is_place c t ≡ true → is_place (kept_current kept c) t ≡ false → kept t ≡ false
not_kept kept None t e n = absurd (false≢true e)
not_kept kept (Some s) t e n = subst (λ q. kept q ≡ false) (nat_eq-is s t e) (by_test (kept s) refl n)
  where
    by_test : (b : Bool) → kept s ≡ b → is_place (cond b (Some s) None) t ≡ false → kept s ≡ false
    by_test true q k = absurd (false≢true (sym k ∙ e))
    by_test false q k = q

-- a link that x leaves, as it reads a view and becomes y, fails its test
pub left_fails : (w w' : World) (x t : ℕ) (y : Member) → IsGood w' → IsLater w w' → t < length w.links → member_at w' x ≡ y
    → y.current ≡ kept_current (λ s. is_kept_of w'.views (link_at w s).receiver (link_at w s).sender (link_at w s).opened y.version) (member_at w x).current
    → is_current w x t ≡ true → is_place y.current t ≡ false → (link_at w t).receiver ≡ x → passes w' (link_at w t).receiver (link_at w' t) ≡ false
left_fails w w' x t y h' k tl here reads e gone same =
    passes_is w' l.receiver t h' (omega (arith, k.links, tl)) ends.receiver
    ∙ ap (is_kept w' l') (ap (version_of w') same ∙ ap (λ (z : Member). z.version) here)
    ∙ ap (λ q. is_kept_of w'.views q l'.sender l'.opened y.version) ends.receiver
    ∙ ap (λ q. is_kept_of w'.views l.receiver q l'.opened y.version) ends.sender
    ∙ ap (λ q. is_kept_of w'.views l.receiver l.sender q y.version) ends.opened
    ∙ not_kept kept (member_at w x).current t e (sym (ap (λ c. is_place c t) reads) ∙ gone)
  where
    l : Link
    l = link_at w t

    l' : Link
    l' = link_at w' t

    ends : SameEnds l l'
    ends = k.ends t tl

    kept : ℕ → Bool
    kept s = is_kept_of w'.views (link_at w s).receiver (link_at w s).sender (link_at w s).opened y.version

-- ---- an event by which x becomes y

module _ (w w' : World) (x t : ℕ) (y : Member) (h : IsGood w) (h' : IsGood w') (k : IsLater w w') (m : IsWritten w w' x y) (tl : t < length w.links) where
  -- whether another takes from a link
  current_other : (r : ℕ) → r ≢ x → is_current w' r t ≡ is_current w r t
  current_other r ne = ap (λ (z : Member). is_place z.current t) (m.others r ne)

  -- and x
  current_mine : (r : ℕ) → r ≡ x → is_current w' r t ≡ is_place y.current t
  current_mine r same = ap (λ q. is_current w' q t) same ∙ ap (λ (z : Member). is_place z.current t) m.here

  -- where x takes from a link from which it took, and leaves only one that fails the test, the link doesn't rise from its place
  place_written : (is_place y.current t ≡ true → is_current w x t ≡ true) → (is_current w x t ≡ true → is_place y.current t ≡ false → (link_at w t).receiver ≡ x → passes w' (link_at w t).receiver (link_at w' t) ≡ false) → place_at w' t ≤ place_at w t
  place_written was left =
      subst (λ q. place_by l'.over (is_current w' q t) (passes w' q l') ≤ place_at w t) (sym ends.receiver)
      (place_falls l.over l'.over (is_current w r t) (is_current w' r t) (passes w r l) (passes w' r l') (k.over t tl) taken gone (fails_later w w' r t h h' k tl refl))
    where
      l : Link
      l = link_at w t

      l' : Link
      l' = link_at w' t

      r : ℕ
      r = l.receiver

      ends : SameEnds l l'
      ends = k.ends t tl

      taken : is_current w' r t ≡ true → is_current w r t ≡ true
      taken e = ⊎_elim
          (λ (same : r ≡ x). ap (λ q. is_current w q t) same ∙ was (sym (current_mine r same) ∙ e))
          (λ (ne : r ≢ x). sym (current_other r ne) ∙ e)
          (cases_eq r x)

      gone : is_current w r t ≡ true → is_current w' r t ≡ false → passes w' r l' ≡ false
      gone e n = ⊎_elim
          (λ (same : r ≡ x). left (sym (ap (λ q. is_current w q t) same) ∙ e) (sym (current_mine r same) ∙ n) same)
          (λ (ne : r ≢ x). absurd (false≢true (sym n ∙ current_other r ne ∙ e)))
          (cases_eq r x)

  -- so where x takes from it as before
  place_stays : is_place y.current t ≡ is_current w x t → place_at w' t ≤ place_at w t
  place_stays same = place_written (λ e. sym same ∙ e) (λ e n _. absurd (false≢true (sym n ∙ same ∙ e)))

  -- and where x looks at a view, and keeps its current link only where that is kept
  place_looked : y.current ≡ kept_current (λ s. is_kept_of w'.views (link_at w s).receiver (link_at w s).sender (link_at w s).opened y.version) (member_at w x).current → place_at w' t ≤ place_at w t
  place_looked current =
      place_written (λ e. kept_was kept (member_at w x).current t (sym (ap (λ c. is_place c t) current) ∙ e))
      (left_fails w w' x t y h' k tl m.here current)
    where
      kept : ℕ → Bool
      kept s = is_kept_of w'.views (link_at w s).receiver (link_at w s).sender (link_at w s).opened y.version

-- ---- the ends of a link's way

-- a link that was taken to its end has left its place
pub place_left : (w : World) (y s : ℕ) → s < length w.links → place_at (leave_link w y s) s ≡ 0
place_left w y s sl = ap (λ (a : Link). place_by a.over (is_current (leave_link w y s) a.receiver s) (passes (leave_link w y s) a.receiver a)) (get_or-set_same w.links s (finished (link_at w s)) no_link sl)

-- one from which y takes is half way
pub place_taken : (w : World) (y s : ℕ) → TakesOn w.links y s → (member_at w y).current ≡ Some s → place_at w s ≡ 1
place_taken w y s t e =
    let l : Link = link_at w s in
    ap (λ q. place_by l.over (is_current w q s) (passes w q l)) t.receiver
    ∙ ap (λ b. place_by b (is_current w y s) (passes w y l)) t.goes_on
    ∙ ap (λ c. place_by false (is_place c s) (passes w y l)) e
    ∙ ap (λ b. place_by false b (passes w y l)) (nat_eq-same s)

-- and one that stands at y's door is at its place
pub place_door : (w : World) (y s : ℕ) → IsGood w → (member_at w y).current ≡ None → at_door w y ≡ Some s → (link_at w s).opened ≤ (member_at w y).version → place_at w s ≡ 2
place_door w y s g none at upto =
    let l : Link = link_at w s in
    let door : TakesOn w.links y s = door_link w y s at in
    ap (λ q. place_by l.over (is_current w q s) (passes w q l)) door.receiver
    ∙ ap (λ b. place_by b (is_current w y s) (passes w y l)) door.goes_on
    ∙ ap (λ c. place_by false (is_place c s) (passes w y l)) none
    ∙ ap (λ b. place_by false false b) (passes_is w y s g door.lt door.receiver ∙ (door_pickable w y s at upto g).kept_yet s refl)

-- ---- no link rises from its place

abbrev pub NoneRises : World → World → Type 0
NoneRises w w' = (t : ℕ) → t < length w.links → place_at w' t ≤ place_at w t

-- none does in a good state that is later
abbrev pub KeepsPlaces : World → World → Type 0
KeepsPlaces w w' = IsGood w' → IsLater w w' → NoneRises w w'

-- where x takes from the link from which it took
pub written_places : (w w' : World) (x : ℕ) (y : Member) → IsGood w → IsWritten w w' x y → y.current ≡ (member_at w x).current → KeepsPlaces w w'
written_places w w' x y g m same h k t tl = place_stays w w' x t y g h k m tl (ap (λ c. is_place c t) same)

-- the end of a link is taken
pub leave_places : (w : World) (y s : ℕ) → IsGood w → IsRunning w y → (member_at w y).current ≡ Some s → KeepsPlaces w (leave_link w y s)
leave_places w y s g u e h k t tl = ⊎_elim
    (λ (same : t ≡ s).
    let none : place_at (leave_link w y s) t ≡ 0 = ap (place_at (leave_link w y s)) same ∙ place_left w y s (g.inv.current.lt y s u.runs_on e) in
    omega (arith, none))
    (λ (ne : t ≢ s). place_stays w (leave_link w y s) y t (with_current None (member_at w y)) g h k (written w w.views y (with_current None (member_at w y)) (leave_link w y s).links u.lt) tl
    (sym (ap (λ c. is_place c t) e ∙ nat_eq-not s t (λ q. ne (sym q)))))
    (cases_eq t s)

-- x refreshes to one of these views
pub refresh_places : (w : World) (vs : List Group) (x v : ℕ) → IsGood w → x < size w → KeepsPlaces w (refreshed (record w { views = vs }) x v)
refresh_places w vs x v g lt = refresh_cases (KeepsPlaces w) seen x v lt
    (λ _ h k t tl. place_looked w (look_at seen x v) x t (moved_to seen x v) g h k (written w vs x (moved_to seen x v) w.links lt) tl refl)
    (λ _ h k t tl. place_looked w (opened_world seen x v (old_links seen x)) x t (sending_member seen x v (length w.links)) g h k (written w vs x (sending_member seen x v (length w.links)) (opened_world seen x v (old_links seen x)).links lt) tl refl)
  where
    seen : World
    seen = record w { views = vs }

-- a link is picked
pub pick_places : (w : World) (y s : ℕ) → IsGood w → y < size w → (member_at w y).current ≡ None → at_door w y ≡ Some s → (link_at w s).opened ≤ (member_at w y).version → KeepsPlaces w (current_is w y (Some s))
pick_places w y s g lt none at upto h k t tl = ⊎_elim
    (λ (same : t ≡ s).
    let was : place_at w t ≡ 2 = ap (place_at w) same ∙ place_door w y s g none at upto in
    let most : place_at (current_is w y (Some s)) t ≤ 2 = place_most _ _ _ in
    omega (arith, was, most))
    (λ (ne : t ≢ s). place_stays w (current_is w y (Some s)) y t (with_current (Some s) (member_at w y)) g h k (written w w.views y (with_current (Some s) (member_at w y)) w.links lt) tl
    (nat_eq-not s t (λ q. ne (sym q)) ∙ sym (ap (λ c. is_place c t) none)))
    (cases_eq t s)
