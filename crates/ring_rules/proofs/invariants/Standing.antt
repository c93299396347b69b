-- How an origin stands to a taker: what the take of its view and the newest ring say together.
use Rattle.std.proofs.Common.{◌≡◌, ℕ, ◌<◌, ◌≤◌, Bool, true, false, cond, List, [], ◌∷◌, ◌++◌, length, refl, sym, ap, subst, ◌∙◌, arith, nat_eq, ⊎_elim, ◌⊎◌}
use Rattle.std.specs.Prelude.{⊤}
use Rattle.std.specs.List.{filter}
use Rattle.std.proofs.lemmas.List.Elements.{filter-append}
use Rattle.std.proofs.lemmas.Bool.{cases_lt, false≢true, false_from_ne_true}
use Rattle.group_view.specs.Ring.{before, from, after, rotated, others, is_in}
use Rattle.ring_rules.specs.View.{ids, is_live, between}
use Rattle.ring_rules.proofs.rings.Lists.{get_or_beyond}
use Rattle.ring_rules.specs.Machine.{no_link, World, member_at, link_at, view_in, row_at, numbers_at, newest, ring, left, runs, is_kept}
use Rattle.ring_rules.proofs.walks.CountedWalk.{is_early, only, counted, stopped_from, running_from}
use Rattle.ring_rules.specs.Step.{is_owned}
use Rattle.group_view.proofs.Rings.{sym_test, is_in-rotated, not_in_before, rotated_is, in_before, nat_eq-is, nat_eq-same, distinct_others, from_inside}
pub use Rattle.group_view.proofs.Rings.{distinct_first}
use Rattle.ring_rules.proofs.rings.Ring.{filter-split}
use Rattle.group_view.proofs.Arcs.{prefix_is, between_from}
use Rattle.group_view.proofs.Neighbours.{left_gap, left_is_left, IsLeft, filter_empty_at, before-filter, after-filter, in-filter, filtered_in, itself, other, filter_none}
use Rattle.group_view.proofs.Passing.{left_inside}
use Rattle.ring_rules.proofs.walks.Gaps.{prefix_before}
use Rattle.ring_rules.proofs.invariants.Good.{Kept, IsRing, IsLinked, true_kept}
use Rattle.ring_rules.proofs.invariants.Period.{IsHistory}
use Rattle.ring_rules.proofs.walks.Views.{left_in_view}
use Rattle.ring_rules.proofs.walks.Take.{CanTake, Standing, elsewhere, first_time, unknown, come_round, taken_packet}
use Rattle.ring_rules.proofs.walks.Put.{runs_phase-Up}

-- ---- the order of entries

-- those that pass come after all that don't
abbrev pub AllTrue : (ℕ → Bool) → List ℕ → Type 0
AllTrue t [] = ⊤
AllTrue t (x ∷ xs) = (t x ≡ true) × AllTrue t xs

abbrev pub OldLast : (ℕ → Bool) → List ℕ → Type 0
OldLast t [] = ⊤
OldLast t (x ∷ xs) = (t x ≡ true → AllTrue t xs) × OldLast t xs

pub old_from : (t : ℕ → Bool) (p : ℕ) (xs : List ℕ) → OldLast t xs → t p ≡ true → AllTrue t (from p xs)
old_from t p [] h k = tt
old_from t p (x ∷ xs) h k = by_case (nat_eq x p) refl (old_from t p xs h.1 k)
  where
    by_case : (b : Bool) → nat_eq x p ≡ b → AllTrue t (from p xs) → AllTrue t (cond b (x ∷ xs) (from p xs))
    by_case true e ih = let tx : t x ≡ true = ap t (nat_eq-is x p e) ∙ k in (tx, h.0 tx)
    by_case false e ih = ih

pub all_true_at : (t : ℕ → Bool) (q : ℕ) (xs : List ℕ) → AllTrue t xs → is_in q xs ≡ true → t q ≡ true
all_true_at t q [] h i = absurd (false≢true i)
all_true_at t q (x ∷ xs) h i = by_case (nat_eq q x) refl i (λ k. all_true_at t q xs h.1 k)
  where
    by_case : (b : Bool) → nat_eq q x ≡ b → cond b true (is_in q xs) ≡ true → (is_in q xs ≡ true → t q ≡ true) → t q ≡ true
    by_case true e k ih = ap t (nat_eq-is q x e) ∙ h.0
    by_case false e k ih = ih k

abbrev pub knows : World → ℕ → ℕ → Bool
knows w v q = is_in q (ids (view_in w v))

pub record IsOrdered (w : World) : Type 0 where
  -- an old view has those of the newest ring that it knows, in their order
  pub part : (v : ℕ) → v ≤ newest w → ids (view_in w v) ≡ filter (knows w v) (ring w)
  -- between an entry and its left neighbour in a view, those that it doesn't know come first
  pub order : (v e : ℕ) → v ≤ newest w → knows w v e ≡ true → OldLast (knows w v) (before e (others (left w v e) (ring w)))

-- ---- what a running y owns in its view

-- the left neighbour of an entry is known where the entry is
pub left_known : (w : World) (v y s : ℕ) → IsRing w → v ≤ newest w → knows w v y ≡ true → left w v y ≡ s → knows w v s ≡ true
left_known w v y s hr vn yv e =
    subst (λ q. knows w v q ≡ true) (sym (left_in_view w v y yv) ∙ e) (left_inside (is_live (view_in w v)) y (ids (view_in w v)) (hr.distinct v vn) yv)

-- what stands between two entries of a view is what it knows of those between them in the newest ring
pub between_is : (w : World) (v y s : ℕ) → IsOrdered w → v ≤ newest w → knows w v y ≡ true → knows w v s ≡ true → between (view_in w v) s y ≡ filter (knows w v) (before y (others s (ring w)))
between_is w v y s ho vn yv sv =
    ap (λ us. before y (after s us ++ before s us)) (ho.part v vn)
    ∙ ap (before y) (rw (after-filter (knows w v) s (ring w) sv, before-filter (knows w v) s (ring w) sv) (sym (filter-append (knows w v) (after s (ring w)) (before s (ring w)))))
    ∙ before-filter (knows w v) y (others s (ring w)) yv

-- p strictly between, in y's view: then from p up to y all stand in that view and are live in none from it on
pub record OwnedFacts (w : World) (y v p : ℕ) : Type 0 where
  pub old : (q : ℕ) → is_in q (before y (rotated p (ring w))) ≡ true → knows w v q ≡ true
  pub dead : (q : ℕ) → is_in q (before y (rotated p (ring w))) ≡ true → is_live (view_in w v) q ≡ false

pub owned_facts : (w : World) (y v s p : ℕ) → IsRing w → IsHistory w → IsOrdered w → v ≤ newest w → knows w v y ≡ true → left w v y ≡ s → is_in p (between (view_in w v) s y) ≡ true → OwnedFacts w y v p
owned_facts w y v s p hr hh ho vn yv el hp = record {
  old = λ q i. all_true_at t q (from p b) old_b (ap (is_in q) (sym pre) ∙ i);
  dead = λ q i.
      let iq : is_in q (from p b) ≡ true = ap (is_in q) (sym pre) ∙ i in
      filter_empty_at (is_live (view_in w v)) q (between (view_in w v) s y) (left_gap (is_live (view_in w v)) s y (ids (view_in w v)) (hr.distinct v vn) (distinct_others y (ids (view_in w v)) (hr.distinct v vn) yv) yv (sym (left_in_view w v y yv) ∙ el))
      (ap (is_in q) is ∙ in-filter t q b (from_inside p q b iq) (all_true_at t q (from p b) old_b iq));
}
  where
    t : ℕ → Bool
    t = knows w v

    b : List ℕ
    b = before y (others s (ring w))

    yn : is_in y (ring w) ≡ true
    yn = hh.grows y v (newest w) yv vn (omega arith)

    sv : knows w v s ≡ true
    sv = left_known w v y s hr vn yv el

    sn : is_in s (ring w) ≡ true
    sn = hh.grows s v (newest w) sv vn (omega arith)

    is : between (view_in w v) s y ≡ filter t b
    is = between_is w v y s ho vn yv sv

    hpf : is_in p (filter t b) ≡ true
    hpf = ap (is_in p) (sym is) ∙ hp

    hpb : is_in p b ≡ true
    hpb = filtered_in t p b hpf

    pv : t p ≡ true
    pv = in_ids p (in_before p y (others s (ids (view_in w v))) hp)
      where
        in_ids : (q : ℕ) → is_in q (others s (ids (view_in w v))) ≡ true → knows w v q ≡ true
        in_ids q i = by_test (nat_eq q s) refl
          where
            by_test : (c : Bool) → nat_eq q s ≡ c → knows w v q ≡ true
            by_test true e = ap t (nat_eq-is q s e) ∙ sv
            by_test false e = sym (is_in-rotated q s (ids (view_in w v))) ∙ ap (is_in q) (rotated_is s (ids (view_in w v)) sv) ∙ rw e i

    old_b : AllTrue t (from p b)
    old_b = old_from t p b (subst (λ k. OldLast t (before y (others k (ring w)))) el (ho.order v y vn yv)) pv

    pre : before y (rotated p (ring w)) ≡ from p b
    pre = prefix_is p s y (ring w) (hr.distinct (newest w) (omega arith)) sn yn hpb

-- ---- what it means to answer for an origin: from it up to its owner nobody runs, and nothing on the way to the owner is early

-- no packet on its way to y counts early
abbrev pub NoneEarly : World → ℕ → ℕ → Type 0
NoneEarly w y p = (j : ℕ) → only (is_early (stopped_from w p)) (counted w y) (link_at w j) ≡ []

pub record OwnsAlone (w : World) (y p : ℕ) : Type 0 where
  pub running : running_from w p ≡ y ∷ filter (runs w) (after y (rotated p (ring w)))
  pub prefix : stopped_from w p ≡ before y (rotated p (ring w))
  -- no left neighbour of y from its view on stands among those that are dead there
  pub not_left : (u q : ℕ) → (member_at w y).version ≤ u → u ≤ newest w → left w u y ≡ q → is_in q (before y (rotated p (ring w))) ≡ false
  pub none : NoneEarly w y p

pub owns_alone : (w : World) (y p : ℕ) → IsRing w → IsLinked w → IsHistory w → runs w y ≡ true → OwnedFacts w y (member_at w y).version p → OwnsAlone w y p
owns_alone w y p hr hl hh ry o = record { running = running; prefix = prefix; not_left = not_left; none = no_early }
  where
    v : ℕ
    v = (member_at w y).version

    c : List ℕ
    c = rotated p (ring w)

    vn : v ≤ newest w
    vn = hr.held y

    yc : is_in y c ≡ true
    yc = is_in-rotated y p (ring w) ∙ hr.stands y (newest w) ry vn (omega arith)

    left_at_view : (u : ℕ) (q : ℕ) → v ≤ u → u ≤ newest w → left w u y ≡ q → IsLeft (is_live (view_in w u)) q y (ids (view_in w u))
    left_at_view u q a b e =
        let yu : knows w u y ≡ true = hr.stands y u ry a b in
        left_is_left (is_live (view_in w u)) q y (ids (view_in w u)) (distinct_others y (ids (view_in w u)) (hr.distinct u b) yu) yu (sym (left_in_view w u y yu) ∙ e)

    not_left : (u q : ℕ) → v ≤ u → u ≤ newest w → left w u y ≡ q → is_in q (before y c) ≡ false
    not_left u q a b e = by_test (is_in q (before y c)) refl (left_at_view u q a b e)
      where
        by_test : (t : Bool) → is_in q (before y c) ≡ t → IsLeft (is_live (view_in w u)) q y (ids (view_in w u)) → t ≡ false
        by_test false i k = refl
        by_test true i (itself e2) = absurd (false≢true (sym (not_in_before y c) ∙ ap (λ x. is_in x (before y c)) (sym e2) ∙ i))
        by_test true i (other l i2) = absurd (false≢true (sym (o.dead q i) ∙ hh.dies q v u (o.old q i) a b l))

    idle : filter (runs w) (before y c) ≡ []
    idle = filter_none (runs w) (before y c) (λ q i. by_run q i (runs w q) refl)
      where
        by_run : (q : ℕ) → is_in q (before y c) ≡ true → (b : Bool) → runs w q ≡ b → b ≡ false
        by_run q i false e = refl
        by_run q i true e = absurd (by_view (cases_lt v (member_at w q).version))
          where
            here : (member_at w q).version ≤ v → ⊥
            here a = false≢true (sym (o.dead q i) ∙ hr.lives q v e a vn)

            later : v < (member_at w q).version → ⊥
            later a = false≢true (sym (o.dead q i) ∙ hh.dies q v (member_at w q).version (o.old q i) (omega arith) (hr.held q) (hr.lives q (member_at w q).version e (omega arith) (hr.held q)))

            by_view : (v < (member_at w q).version) ⊎ ((member_at w q).version ≤ v) → ⊥
            by_view k = ⊎_elim later here k

    running : running_from w p ≡ y ∷ filter (runs w) (after y c)
    running = filter-split (runs w) y c yc ry ∙ ap (λ us. us ++ y ∷ filter (runs w) (after y c)) idle

    prefix : stopped_from w p ≡ before y c
    prefix = prefix_before (runs w) y c idle yc ry

    no_early : NoneEarly w y p
    no_early j = by_kept (nat_eq (link_at w j).receiver y) refl (is_kept w (link_at w j) v) refl (is_early (stopped_from w p) (link_at w j)) refl
      where
        late_sender : (link_at w j).receiver ≡ y → Kept w (link_at w j) v → is_in (link_at w j).sender (before y c) ≡ false
        late_sender to k = ⊎_elim
            (λ (a : v < (link_at w j).opened). by_link (cases_lt j (length w.links)) a)
            (λ (a : (link_at w j).opened ≤ v). not_left v (link_at w j).sender (omega arith) vn (ap (left w v) (sym to) ∙ k v a (omega arith)))
            (cases_lt v (link_at w j).opened)
          where
            by_link : (j < length w.links) ⊎ (length w.links ≤ j) → v < (link_at w j).opened → is_in (link_at w j).sender (before y c) ≡ false
            by_link k2 a = ⊎_elim
                (λ (lt : j < length w.links). not_left (link_at w j).opened (link_at w j).sender (omega arith) (hl.opened j lt) (ap (left w (link_at w j).opened) (sym to) ∙ hl.from_left j lt))
                (λ (ge : length w.links ≤ j). absurd (beyond ge a)) k2
              where
                beyond : length w.links ≤ j → v < (link_at w j).opened → ⊥
                beyond ge a2 = let none : (link_at w j).opened ≡ 0 = ap (λ k. k.opened) (get_or_beyond w.links j no_link ge) in omega arith

        by_kept : (a : Bool) → nat_eq (link_at w j).receiver y ≡ a → (b : Bool) → is_kept w (link_at w j) v ≡ b → (e : Bool) → is_early (stopped_from w p) (link_at w j) ≡ e → cond e (counted w y (link_at w j)) [] ≡ []
        by_kept a ea b eb false ee = refl
        by_kept false ea b eb true ee = rw ea refl
        by_kept true ea false eb true ee = rw (ea, eb) refl
        by_kept true ea true eb true ee =
            absurd (false≢true (sym (late_sender (nat_eq-is (link_at w j).receiver y ea) (true_kept w (link_at w j) v eb)) ∙ ap (is_in (link_at w j).sender) (sym prefix) ∙ ee))

-- ---- a taker

pub record IsTaker (w : World) (y s : ℕ) : Type 0 where
  pub can : CanTake w y s
  pub opened : (link_at w s).opened ≤ (member_at w y).version
  pub version : (taken_packet w s).version ≤ (member_at w y).version

pub no_front : (r : ℕ → Bool) (y : ℕ) (qs c : List ℕ) → is_in y c ≡ true → r y ≡ true → filter r c ≡ y ∷ qs → filter r (before y c) ≡ []
no_front r y qs c i ry e = by_front (filter r (before y c)) refl (sym (filter-split r y c i ry) ∙ e)
  where
    by_front : (us : List ℕ) → filter r (before y c) ≡ us → us ++ y ∷ filter r (after y c) ≡ y ∷ qs → us ≡ []
    by_front [] a q = refl
    by_front (u ∷ us) a q =
        let is : u ≡ y = cc in
        absurd (false≢true (sym (not_in_before y c) ∙ filtered_in r y (before y c) (ap (is_in y) a ∙ rw is (rw (nat_eq-same y) refl))))

pub standing : (w : World) (y s p : ℕ) → IsRing w → IsLinked w → IsHistory w → IsOrdered w → ((x p : ℕ) → knows w (member_at w x).version p ≡ false → ((row_at (member_at w x) p).got ≡ 0) × ((row_at (member_at w x) p).forgot ≡ 0)) → ((p : ℕ) → knows w (taken_packet w s).version p ≡ false → ((numbers_at (taken_packet w s) p).got ≡ 0) × ((numbers_at (taken_packet w s) p).forgot ≡ 0)) → IsTaker w y s → is_in p (ring w) ≡ true → Standing w y s p
standing w y s p hr hl hh ho hm hk ht pn = by_owned (nat_eq p y) refl (is_in p (between (view_in w v) z y)) refl
  where
    v : ℕ
    v = (member_at w y).version

    z : ℕ
    z = (link_at w s).sender

    c : List ℕ
    c = rotated p (ring w)

    ry : runs w y ≡ true
    ry = runs_phase-Up w y ht.can.up

    vn : v ≤ newest w
    vn = hr.held y

    yn : is_in y (ring w) ≡ true
    yn = hr.stands y (newest w) ry vn (omega arith)

    yv : knows w v y ≡ true
    yv = hr.stands y v ry (omega arith) vn

    yc : is_in y c ≡ true
    yc = is_in-rotated y p (ring w) ∙ yn

    el : left w v y ≡ z
    el = ap (left w v) (sym ht.can.receiver) ∙ true_kept w (link_at w s) v ht.can.is_kept_so_far v ht.opened (omega arith)

    zv : knows w v z ≡ true
    zv = left_known w v y z hr vn yv el

    zn : is_in z (ring w) ≡ true
    zn = hh.grows z v (newest w) zv vn (omega arith)

    -- the packet has come round
    rounds : is_owned (view_in w v) y z p ≡ true → OwnedFacts w y v p → Standing w y s p
    rounds own o =
        let alone : OwnsAlone w y p = owns_alone w y p hr hl hh ry o in
        come_round (filter (runs w) (after y c)) alone.running own alone.none (ap (is_in z) alone.prefix ∙ alone.not_left v z (omega arith) vn el)

    -- what y's view doesn't own, of an origin whose owner is y
    unseen : is_in p (between (view_in w v) z y) ≡ false → nat_eq p y ≡ false → (qs : List ℕ) → running_from w p ≡ y ∷ qs → is_early (stopped_from w p) (link_at w s) ≡ false → knows w v p ≡ false
    unseen outside differs qs e late = false_from_ne_true (knows w v p) (λ k. false≢true (sym outside ∙ ap (is_in p) (between_is w v y z ho vn yv zv) ∙ in-filter (knows w v) p (before y (others z (ring w))) inside k))
      where
        inside : is_in p (before y (others z (ring w))) ≡ true
        inside =
            between_from p z y (ring w) (hr.distinct (newest w) (omega arith)) (distinct_others z (ring w) (hr.distinct (newest w) (omega arith)) zn) zn pn (sym_test p y false differs)
            (ap (is_in z) (sym (prefix_before (runs w) y c (no_front (runs w) y qs c yc ry e) yc ry)) ∙ late)

    elsewhere_or : is_in p (between (view_in w v) z y) ≡ false → nat_eq p y ≡ false → is_owned (view_in w v) y z p ≡ false → (us : List ℕ) → running_from w p ≡ us → Standing w y s p
    elsewhere_or outside differs own [] e = absurd (false≢true (ap (is_in y) (sym e) ∙ in-filter (runs w) y c yc ry))
    elsewhere_or outside differs own (q ∷ qs) e = by_head (nat_eq q y) refl (is_early (stopped_from w p) (link_at w s)) refl
      where
        by_head : (a : Bool) → nat_eq q y ≡ a → (b : Bool) → is_early (stopped_from w p) (link_at w s) ≡ b → Standing w y s p
        by_head false ea b eb = elsewhere q qs e (λ is. false≢true (sym ea ∙ rw is (nat_eq-same y))) own
        by_head true ea true eb = first_time qs (e ∙ ap (λ x. x ∷ qs) (nat_eq-is q y ea)) eb own
        by_head true ea false eb =
            let e2 : running_from w p ≡ y ∷ qs = e ∙ ap (λ x. x ∷ qs) (nat_eq-is q y ea) in
            let k : knows w v p ≡ false = unseen outside differs qs e2 eb in
            let k2 : knows w (taken_packet w s).version p ≡ false = older (knows w (taken_packet w s).version p) refl k in
            unknown qs e2 eb own ((hk p k2).0 ∙ sym (hm y p k).0) ((hk p k2).1 ∙ sym (hm y p k).1)
          where
            older : (b : Bool) → knows w (taken_packet w s).version p ≡ b → knows w v p ≡ false → b ≡ false
            older false f g = refl
            older true f g = absurd (false≢true (sym g ∙ hh.grows p (taken_packet w s).version v f ht.version vn))

    by_owned : (a : Bool) → nat_eq p y ≡ a → (b : Bool) → is_in p (between (view_in w v) z y) ≡ b → Standing w y s p
    by_owned true ea b eb = rounds (rw ea refl) (record { old = λ q i. absurd (nothing q i); dead = λ q i. absurd (nothing q i) })
      where
        nothing : (q : ℕ) → is_in q (before y c) ≡ true → ⊥
        nothing q i =
            let e : before y c ≡ [] = ap (before y) (rotated_is p (ring w) pn) ∙ rw ea refl in
            false≢true (ap (is_in q) (sym e) ∙ i)
    by_owned false ea true eb = rounds (rw (ea, eb) refl) (owned_facts w y v z p hr hh ho vn yv el eb)
    by_owned false ea false eb = elsewhere_or eb ea (rw (ea, eb) refl) (running_from w p) refl
