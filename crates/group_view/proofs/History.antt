-- What holds of the views of a group, from the opening on.
use Rattle.std.proofs.Common.{◌≡◌, ◌≢◌, ℕ, ◌+◌, ◌≤◌, ◌<◌, Bool, true, false, cond, not, List, [], ◌∷◌, ◌++◌, map, length, refl, sym, ap, subst, ◌∙◌, arith, nat_eq, ⊎_elim, Some, None}
use Rattle.std.proofs.lemmas.Bool.{cases_lt, false≢true}
use Rattle.std.proofs.lemmas.List.{length_push, get_or_append_left, get_or_push}
use Rattle.ring_names.specs.declared.reason.Reason.TheVariants.{UnknownMember, AlreadyDead, NotDead}
use Rattle.group_view.specs.declared.entry.Entry.{Entry}
use Rattle.group_view.specs.declared.entry.Mark.{Mark}
use Rattle.group_view.specs.declared.entry.Mark.TheVariants.{Dead, Erased}
use Rattle.group_view.specs.Ring.{is_in, AreDistinct, before, others}
use Rattle.group_view.specs.View.{Group, ids, entry_in, is_live, is_dead, is_live_mark, left_of, right_of, between}
use Rattle.group_view.specs.Change.{AreOpeningNames, opening_entry, opening_entries, opening, dated, with_mark, remarked, marked, erased, mark_refusal, erase_refusal}
use Rattle.group_view.specs.Since.{no_group, view_at, left_at, KeepsLeft, IsSince, since_at}
use Rattle.group_view.specs.Kept.{IsGroup, changes_of_mark}
use Rattle.group_view.specs.Laws.{IsHistory}
use Rattle.group_view.proofs.Rings.{nat_eq-is, nat_eq-same, sym_test}
use Rattle.group_view.proofs.Marks.{marked_not_live, same_left, same_ring_all, KeepsRing, dated_keeps, ids-marked, live_before, with_mark_id}
use Rattle.group_view.proofs.Passing.{remarked_passes}
use Rattle.group_view.proofs.Groups.{opening_is, remarked_is, ids-remarked_group, live_changes, dead_changes, LivesThere, DeadThere}

-- ---- one view more

pub view_old : (views : List Group) (g : Group) (v : ℕ) → v ≤ length views → view_at (views ++ g ∷ []) v ≡ view_at views v
view_old views g v l = get_or_append_left (no_group ∷ views) (g ∷ []) no_group v (omega arith)

pub view_new : (views : List Group) (g : Group) (v : ℕ) → length views + 1 ≡ v → view_at (views ++ g ∷ []) v ≡ g
view_new views g v e = get_or_push (no_group ∷ views) g no_group v (omega arith)

pub left_at_is : (views : List Group) (v y : ℕ) → left_at views v y ≡ left_of (view_at views v).entries y
unfolding left_at
left_at_is views v y = refl

pub left_old : (views : List Group) (g : Group) (v y : ℕ) → v ≤ length views → left_at (views ++ g ∷ []) v y ≡ left_at views v y
left_old views g v y l = left_at_is (views ++ g ∷ []) v y ∙ ap (λ (h : Group). left_of h.entries y) (view_old views g v l) ∙ sym (left_at_is views v y)

pub left_new : (views : List Group) (g : Group) (v y : ℕ) → length views + 1 ≡ v → left_at (views ++ g ∷ []) v y ≡ left_of g.entries y
left_new views g v y e = left_at_is (views ++ g ∷ []) v y ∙ ap (λ (h : Group). left_of h.entries y) (view_new views g v e)

-- ---- what a change does to one entry

pub entry-map : (f : Entry → Entry) (es : List Entry) (p : ℕ) → ((e : Entry) → (f e).id.0 ≡ e.id.0) → is_in p (ids es) ≡ true → entry_in (map f es) p ≡ f (entry_in es p)
entry-map f [] p k h = absurd (false≢true h)
entry-map f (e ∷ es) p k h = ap (λ n. cond (nat_eq n p) (f e) (entry_in (map f es) p)) (k e) ∙ by_case (nat_eq e.id.0 p) refl h (λ j. entry-map f es p k j)
  where
    by_case : (b : Bool) → nat_eq e.id.0 p ≡ b → is_in p (e.id.0 ∷ ids es) ≡ true → (is_in p (ids es) ≡ true → entry_in (map f es) p ≡ f (entry_in es p)) → cond b (f e) (entry_in (map f es) p) ≡ f (cond b e (entry_in es p))
    by_case true q j ih = refl
    by_case false q j ih = ih (rw (sym_test e.id.0 p false q) at j)

pub entry_id : (es : List Entry) (p : ℕ) → is_in p (ids es) ≡ true → (entry_in es p).id.0 ≡ p
entry_id [] p h = absurd (false≢true h)
entry_id (e ∷ es) p h = by_case (nat_eq e.id.0 p) refl h (λ j. entry_id es p j)
  where
    by_case : (b : Bool) → nat_eq e.id.0 p ≡ b → is_in p (e.id.0 ∷ ids es) ≡ true → (is_in p (ids es) ≡ true → (entry_in es p).id.0 ≡ p) → (cond b e (entry_in es p)).id.0 ≡ p
    by_case true q j ih = nat_eq-is e.id.0 p q
    by_case false q j ih = ih (rw (sym_test e.id.0 p false q) at j)

-- a field that each entry keeps, whatever else is changed of it
pub entry_keeps : {A : Type 0} (t : Entry → A) (f : Entry → Entry) → ((e : Entry) → (f e).id.0 ≡ e.id.0) → ((e : Entry) → t (f e) ≡ t e) → (es : List Entry) (q : ℕ) → t (entry_in (map f es) q) ≡ t (entry_in es q)
entry_keeps t f same keeps [] q = refl
entry_keeps t f same keeps (e ∷ es) q = ap (λ i. t (cond (nat_eq i q) (f e) (entry_in (map f es) q))) (same e) ∙ by_case (nat_eq e.id.0 q) (entry_keeps t f same keeps es q)
  where
    by_case : (b : Bool) → t (entry_in (map f es) q) ≡ t (entry_in es q) → t (cond b (f e) (entry_in (map f es) q)) ≡ t (cond b e (entry_in es q))
    by_case true ih = keeps e
    by_case false ih = ih

with_mark_since : (m : Mark) (d : ℕ) (e : Entry) → (with_mark m d e).since ≡ e.since
with_mark_since m d e = by_case (nat_eq e.id.0 d)
  where
    by_case : (b : Bool) → (cond b (record e { mark = m }) e).since ≡ e.since
    by_case true = refl
    by_case false = refl

-- the left neighbours after a mark, by the entries that were marked
pub left_marked_group : (m : Mark) (g : Group) (d p : ℕ) → left_of (remarked m g d).entries p ≡ left_of (map (with_mark m d) g.entries) p
left_marked_group m g d p =
    same_left (remarked m g d).entries (map (with_mark m d) g.entries) p
    (same_ring_all (dated (g.version + 1) g.entries (map (with_mark m d) g.entries)) (map (with_mark m d) g.entries) (dated_keeps (g.version + 1) g.entries (map (with_mark m d) g.entries)))

pub live_marked_group : (m : Mark) (g : Group) (d p : ℕ) → is_live (remarked m g d).entries p ≡ is_live (map (with_mark m d) g.entries) p
live_marked_group m g d p =
    (same_ring_all (dated (g.version + 1) g.entries (map (with_mark m d) g.entries)) (map (with_mark m d) g.entries) (dated_keeps (g.version + 1) g.entries (map (with_mark m d) g.entries))).same_live p

-- nobody lives who was marked
pub marked_dies : (m : Mark) (g : Group) (d : ℕ) → is_live_mark m ≡ false → is_live (remarked m g d).entries d ≡ false
marked_dies m g d hm = live_marked_group m g d d ∙ marked_not_live m d g.entries hm

-- a neighbour that lives on stays one
pub left_stays : (m : Mark) (g : Group) (d x z : ℕ) → is_live_mark m ≡ false → AreDistinct (ids g.entries) → is_live (remarked m g d).entries x ≡ true → left_of g.entries z ≡ x → left_of (remarked m g d).entries z ≡ x
left_stays m g d x z hm dx l e = (remarked_passes m g d hm dx).left_of_others z (λ same. false≢true (sym (marked_dies m g d hm) ∙ ap (is_live (remarked m g d).entries) (sym same ∙ e) ∙ l)) ∙ e

pub right_stays : (m : Mark) (g : Group) (d x z : ℕ) → is_live_mark m ≡ false → AreDistinct (ids g.entries) → is_live (remarked m g d).entries x ≡ true → right_of g.entries z ≡ x → right_of (remarked m g d).entries z ≡ x
right_stays m g d x z hm dx l e = (remarked_passes m g d hm dx).right_of_others z (λ same. false≢true (sym (marked_dies m g d hm) ∙ ap (is_live (remarked m g d).entries) (sym same ∙ e) ∙ l)) ∙ e

-- the version that an entry has after a mark
pub since_marked : (m : Mark) (g : Group) (d p : ℕ) → is_in p (ids g.entries) ≡ true → (entry_in (remarked m g d).entries p).since ≡ cond (nat_eq (left_of g.entries p) (left_of (remarked m g d).entries p)) (entry_in g.entries p).since (g.version + 1)
since_marked m g d p h =
    ap (λ (e : Entry). e.since) (entry-map (dated (g.version + 1) g.entries new) new p k.keeps_id there)
    ∙ on_since (nat_eq (left_of g.entries (entry_in new p).id.0) (left_of new (entry_in new p).id.0))
    ∙ ap (λ n. cond (nat_eq (left_of g.entries n) (left_of new n)) (entry_in new p).since (g.version + 1)) (entry_id new p there)
    ∙ ap (λ n. cond (nat_eq (left_of g.entries p) n) (entry_in new p).since (g.version + 1)) (sym (left_marked_group m g d p))
    ∙ ap (λ n. cond (nat_eq (left_of g.entries p) (left_of (remarked m g d).entries p)) n (g.version + 1)) (ap (λ (e : Entry). e.since) (entry-map (with_mark m d) g.entries p (with_mark_id m d) h) ∙ with_mark_since m d (entry_in g.entries p))
  where
    new : List Entry
    new = map (with_mark m d) g.entries

    k : KeepsRing (dated (g.version + 1) g.entries new)
    k = dated_keeps (g.version + 1) g.entries new

    there : is_in p (ids new) ≡ true
    there = ap (is_in p) (ids-marked m d g.entries) ∙ h

    on_since : (b : Bool) → (cond b (entry_in new p) (record (entry_in new p) { since = g.version + 1 })).since ≡ cond b (entry_in new p).since (g.version + 1)
    on_since true = refl
    on_since false = refl

-- ---- since

-- what was so of an earlier version stays so
pub since_old : (views : List Group) (g : Group) (y v u : ℕ) → v ≤ length views → IsSince views y v u → IsSince (views ++ g ∷ []) y v u
since_old views g y v u l h = record {
  first = h.first;
  upto = h.upto;
  same = λ k a b. left_old views g k y (omega arith) ∙ h.same k a b ∙ sym (left_old views g v y l);
  least = λ w pos k. h.least w pos (λ j a b. sym (left_old views g j y (omega arith)) ∙ k j a b ∙ left_old views g v y l);
}

-- the same neighbour as in the version before
pub since_same : (views : List Group) (g : Group) (y v n u : ℕ) → length views ≡ n → n + 1 ≡ v → IsSince views y n u → left_at views n y ≡ left_of g.entries y → IsSince (views ++ g ∷ []) y v u
since_same views g y v n u ln e h same = record {
  first = h.first;
  upto = let below : u ≤ n = h.upto in omega arith;
  same = λ k a b. ⊎_elim (λ (lt : k < v). old k a (omega arith)) (λ (ge : v ≤ k). ap (λ j. left_at (views ++ g ∷ []) j y) (let is : k ≡ v = omega arith in is)) (cases_lt k v);
  least = λ w pos k. h.least w pos (λ j a b. sym (left_old views g j y (omega arith)) ∙ k j a (omega arith) ∙ now ∙ sym same);
}
  where
    now : left_at (views ++ g ∷ []) v y ≡ left_of g.entries y
    now = left_new views g v y (omega arith)

    old : (k : ℕ) → u ≤ k → k ≤ n → left_at (views ++ g ∷ []) k y ≡ left_at (views ++ g ∷ []) v y
    old k a b = left_old views g k y (omega arith) ∙ h.same k a b ∙ same ∙ sym now

-- another one
pub since_other : (views : List Group) (g : Group) (y v n : ℕ) → length views ≡ n → n + 1 ≡ v → left_at views n y ≢ left_of g.entries y → IsSince (views ++ g ∷ []) y v v
since_other views g y v n ln e ne = record {
  first = omega arith;
  upto = omega arith;
  same = λ k a b. ap (λ j. left_at (views ++ g ∷ []) j y) (let is : k ≡ v = omega arith in is);
  least = λ w pos k. ⊎_elim (λ (lt : w < v). absurd (ne (sym (left_old views g n y (omega arith)) ∙ k n (omega arith) (omega arith) ∙ left_new views g v y (omega arith)))) (λ (ge : v ≤ w). ge) (cases_lt w v);
}

-- ---- the history so far, of which the last view is g

pub record Ends (views : List Group) (g : Group) : Type 0 where
  pub some : 1 ≤ length views
  pub last : view_at views (length views) ≡ g
  pub history : IsHistory views

-- what holds of all versions so far and of the new one holds of all
pub of_each : (P : ℕ → Type 0) (n : ℕ) → ((v : ℕ) → 1 ≤ v → v ≤ n → P v) → P (n + 1) → (v : ℕ) → 1 ≤ v → v ≤ n + 1 → P v
of_each P n old new v a b = ⊎_elim (λ (lt : v < n + 1). old v a (omega arith)) (λ (ge : n + 1 ≤ v). let is : n + 1 ≡ v = omega arith in subst P is new) (cases_lt v (n + 1))

pub refusal_none : (es : List Entry) (d : ℕ) → mark_refusal es d ≡ None → LivesThere es d
refusal_none es d h = by_in (is_in d (ids es)) refl (is_live es d) refl h
  where
    by_in : (a : Bool) → is_in d (ids es) ≡ a → (b : Bool) → is_live es d ≡ b → cond (not a) (Some UnknownMember) (cond (not b) (Some AlreadyDead) None) ≡ None → LivesThere es d
    by_in true ea true eb k = record { there = ea; lives = eb }
    by_in true ea false eb k = cc
    by_in false ea b eb k = cc

-- of one that may be erased
pub erase_none : (es : List Entry) (d : ℕ) → erase_refusal es d ≡ None → DeadThere es d
erase_none es d h = by_in (is_in d (ids es)) refl (is_dead es d) refl h
  where
    by_in : (a : Bool) → is_in d (ids es) ≡ a → (b : Bool) → is_dead es d ≡ b → cond (not a) (Some UnknownMember) (cond (not b) (Some NotDead) None) ≡ None → DeadThere es d
    by_in true ea true eb k = record { there = ea; dead = eb }
    by_in true ea false eb k = cc
    by_in false ea b eb k = cc

-- ---- one version goes on with the history

-- what the next version has of the one before it
pub record Follows (g g' : Group) : Type 0 where
  pub is_group : IsGroup g'
  pub version : g'.version ≡ g.version + 1
  pub stays : (y : ℕ) → is_in y (ids g.entries) ≡ true → is_in y (ids g'.entries) ≡ true
  pub dies : (y : ℕ) → is_in y (ids g.entries) ≡ true → is_live g'.entries y ≡ true → is_live g.entries y ≡ true
  -- what stands between a left neighbour that stays and its right one stays
  pub same_between : (y s : ℕ) → is_in y (ids g.entries) ≡ true → left_of g.entries y ≡ s → left_of g'.entries y ≡ s → between g'.entries s y ≡ between g.entries s y
  -- who comes has another left neighbour than itself
  pub known : (y : ℕ) → is_in y (ids g'.entries) ≡ true → left_of g.entries y ≡ left_of g'.entries y → is_in y (ids g.entries) ≡ true
  pub since : (y : ℕ) → is_in y (ids g'.entries) ≡ true → (entry_in g'.entries y).since ≡ cond (nat_eq (left_of g.entries y) (left_of g'.entries y)) (entry_in g.entries y).since (g.version + 1)

pub goes_on : (views : List Group) (g new : Group) → Ends views g → Follows g new → Ends (views ++ new ∷ []) new
goes_on views g new h f = record {
  some = omega (arith, long);
  last = new_is (length more) (sym long);
  history = record {
    kept = λ v a b. of_each (λ k. IsGroup (view_at more k)) (length views) (λ k c e. subst IsGroup (sym (view_old views new k e)) (h.history.kept k c e)) (subst IsGroup (sym (new_is (length views + 1) refl)) f.is_group) v a (upto v b);
    numbered = λ v a b. of_each (λ k. (view_at more k).version ≡ k) (length views) (λ k c e. ap (λ (q : Group). q.version) (view_old views new k e) ∙ h.history.numbered k c e) (ap (λ (q : Group). q.version) (new_is (length views + 1) refl) ∙ f.version ∙ ap (λ k. k + 1) version) v a (upto v b);
    stays = λ u v y a b c i. stays_on u v y a b (upto v c) i;
    dies = λ u v y a b c i k. dead u v y a b (upto v c) i k;
    between_stays = λ u v y s a b c i k. same u v y s a b (upto v c) i k;
    dated = λ v y a b i. of_each (λ k. is_in y (ids (view_at more k).entries) ≡ true → IsSince more y k (since_at more k y)) (length views) (dated_old y) (dated_new y) v a (upto v b) i;
  };
}
  where
    more : List Group
    more = views ++ new ∷ []

    long : length more ≡ length views + 1
    long = length_push views new

    upto : (v : ℕ) → v ≤ length more → v ≤ length views + 1
    upto v b = omega (arith, long, b)

    new_is : (v : ℕ) → length views + 1 ≡ v → view_at more v ≡ new
    new_is v e = view_new views new v e

    version : g.version ≡ length views
    version = ap (λ (q : Group). q.version) (sym h.last) ∙ h.history.numbered (length views) h.some (omega arith)

    -- something of two versions, of which the later one is the new one only where the first one isn't
    two : (P : Group → Group → Type 0) (u v : ℕ) → u ≤ v → v ≤ length views + 1 → (v ≤ length views → P (view_at views u) (view_at views v)) → (u ≤ length views → length views + 1 ≡ v → P (view_at views u) new) → (u ≡ v → P new new) → P (view_at more u) (view_at more v)
    two P u v le upto2 old mixed both =
        ⊎_elim
        (λ (lt : v < length views + 1).
        let ul : u ≤ length views = omega arith in
        let vl : v ≤ length views = omega arith in
        subst (λ a. P a (view_at more v)) (sym (view_old views new u ul)) (subst (P (view_at views u)) (sym (view_old views new v vl)) (old vl)))
        (λ (ge : length views + 1 ≤ v).
        let is : length views + 1 ≡ v = omega arith in
        subst (P (view_at more u)) (sym (new_is v is)) (⊎_elim
        (λ (less : u < v).
        let ul : u ≤ length views = omega arith in
        subst (λ a. P a new) (sym (view_old views new u ul)) (mixed ul is))
        (λ (ge2 : v ≤ u). let eq : u ≡ v = omega arith in subst (λ a. P a new) (sym (new_is u (is ∙ sym eq))) (both eq))
        (cases_lt u v)))
        (cases_lt v (length views + 1))

    stays_on : (u v y : ℕ) → 1 ≤ u → u ≤ v → v ≤ length views + 1 → is_in y (ids (view_at more u).entries) ≡ true → is_in y (ids (view_at more v).entries) ≡ true
    stays_on u v y a b c = two (λ p q. is_in y (ids p.entries) ≡ true → is_in y (ids q.entries) ≡ true) u v b c
        (λ vl i. h.history.stays u v y a b vl i)
        (λ ul is i. f.stays y (ap (λ (q : Group). is_in y (ids q.entries)) (sym h.last) ∙ h.history.stays u (length views) y a ul (omega arith) i))
        (λ eq i. i)

    dead : (u v y : ℕ) → 1 ≤ u → u ≤ v → v ≤ length views + 1 → is_in y (ids (view_at more u).entries) ≡ true → is_live (view_at more v).entries y ≡ true → is_live (view_at more u).entries y ≡ true
    dead u v y a b c = two (λ p q. is_in y (ids p.entries) ≡ true → is_live q.entries y ≡ true → is_live p.entries y ≡ true) u v b c
        (λ vl i k. h.history.dies u v y a b vl i k)
        (λ ul is i k.
        let there : is_in y (ids g.entries) ≡ true = ap (λ (q : Group). is_in y (ids q.entries)) (sym h.last) ∙ h.history.stays u (length views) y a ul (omega arith) i in
        h.history.dies u (length views) y a ul (omega arith) i (ap (λ (q : Group). is_live q.entries y) h.last ∙ f.dies y there k))
        (λ eq i k. k)

    before_is : (y : ℕ) → left_at views (length views) y ≡ left_of g.entries y
    before_is y = left_at_is views (length views) y ∙ ap (λ (q : Group). left_of q.entries y) h.last

    same : (u v y s : ℕ) → 1 ≤ u → u ≤ v → v ≤ length views + 1 → is_in y (ids (view_at more u).entries) ≡ true → KeepsLeft more y s u v → between (view_at more v).entries s y ≡ between (view_at more u).entries s y
    same u v y s a b c i k = two (λ p q. is_in y (ids p.entries) ≡ true → between q.entries s y ≡ between p.entries s y) u v b c
        (λ vl j. h.history.between_stays u v y s a b vl j (λ w x z. sym (left_old views new w y (omega arith)) ∙ k w x z))
        (λ ul is j.
        let there : is_in y (ids g.entries) ≡ true = ap (λ (q : Group). is_in y (ids q.entries)) (sym h.last) ∙ h.history.stays u (length views) y a ul (omega arith) j in
        let left_before : left_of g.entries y ≡ s = sym (before_is y) ∙ sym (left_old views new (length views) y (omega arith)) ∙ k (length views) ul (omega arith) in
        let left_after : left_of new.entries y ≡ s = sym (left_new views new v y is) ∙ k v b (omega arith) in
        f.same_between y s there left_before left_after
        ∙ ap (λ (q : Group). between q.entries s y) (sym h.last)
        ∙ h.history.between_stays u (length views) y s a ul (omega arith) j (λ w x z. sym (left_old views new w y z) ∙ k w x (omega arith)))
        (λ eq j. refl) i

    dated_old : (y k : ℕ) → 1 ≤ k → k ≤ length views → is_in y (ids (view_at more k).entries) ≡ true → IsSince more y k (since_at more k y)
    dated_old y k c e i =
        let is : view_at more k ≡ view_at views k = view_old views new k e in
        subst (IsSince more y k) (ap (λ (q : Group). (entry_in q.entries y).since) (sym is))
        (since_old views new y k (since_at views k y) e (h.history.dated k y c e (ap (λ (q : Group). is_in y (ids q.entries)) (sym is) ∙ i)))

    dated_new : (y : ℕ) → is_in y (ids (view_at more (length views + 1)).entries) ≡ true → IsSince more y (length views + 1) (since_at more (length views + 1) y)
    dated_new y i =
        subst (IsSince more y (length views + 1))
        (sym (ap (λ (q : Group). (entry_in q.entries y).since) (new_is (length views + 1) refl) ∙ f.since y here))
        (by_test (nat_eq (left_of g.entries y) (left_of new.entries y)) refl)
      where
        here : is_in y (ids new.entries) ≡ true
        here = ap (λ (q : Group). is_in y (ids q.entries)) (sym (new_is (length views + 1) refl)) ∙ i

        by_test : (b : Bool) → nat_eq (left_of g.entries y) (left_of new.entries y) ≡ b → IsSince more y (length views + 1) (cond b (entry_in g.entries y).since (g.version + 1))
        by_test true e =
            let left_same : left_of g.entries y ≡ left_of new.entries y = nat_eq-is (left_of g.entries y) (left_of new.entries y) e in
            let there : is_in y (ids g.entries) ≡ true = f.known y here left_same in
            let earlier : IsSince views y (length views) (entry_in g.entries y).since =
            subst (IsSince views y (length views)) (ap (λ (q : Group). (entry_in q.entries y).since) h.last)
            (h.history.dated (length views) y h.some (omega arith) (ap (λ (q : Group). is_in y (ids q.entries)) h.last ∙ there)) in
            since_same views new y (length views + 1) (length views) (entry_in g.entries y).since refl refl earlier (before_is y ∙ left_same)
        by_test false e =
            subst (IsSince more y (length views + 1)) (ap (λ k. k + 1) (sym version))
            (since_other views new y (length views + 1) (length views) refl refl (λ same. false≢true (sym e ∙ ap (λ k. nat_eq k (left_of new.entries y)) (sym (before_is y) ∙ same) ∙ nat_eq-same (left_of new.entries y))))

-- the last version so far keeps what every view keeps
pub last_is : (views : List Group) (g : Group) → Ends views g → IsGroup g
last_is views g h = subst IsGroup h.last (h.history.kept (length views) h.some (omega arith))

-- ---- a mark goes on with the history

pub remark_follows : (m : Mark) (g : Group) (d : ℕ) → is_live_mark m ≡ false → IsGroup g → is_in d (ids g.entries) ≡ true → changes_of_mark m ≡ changes_of_mark (entry_in g.entries d).mark + 1 → Follows g (remarked m g d)
remark_follows m g d hm k there step = record {
  is_group = remarked_is m g d k there step;
  version = refl;
  stays = λ y i. ap (is_in y) (ids-remarked_group m g d) ∙ i;
  dies = λ y i l. live_before m d y g.entries hm (sym (live_marked_group m g d y) ∙ l);
  same_between = λ y s i l l2. ap (λ us. before y (others s us)) (ids-remarked_group m g d);
  known = λ y i e. ap (is_in y) (sym (ids-remarked_group m g d)) ∙ i;
  since = λ y i. since_marked m g d y (ap (is_in y) (sym (ids-remarked_group m g d)) ∙ i);
}

pub mark_follows : (g : Group) (d : ℕ) → IsGroup g → LivesThere g.entries d → Follows g (marked g d)
mark_follows g d k l = remark_follows Dead g d refl k l.there (live_changes (entry_in g.entries d).mark l.lives)

pub erase_follows : (g : Group) (d : ℕ) → IsGroup g → DeadThere g.entries d → Follows g (erased g d)
erase_follows g d k l = remark_follows Erased g d refl k l.there (dead_changes (entry_in g.entries d).mark l.dead)

pub mark_goes_on : (views : List Group) (g : Group) (d : ℕ) → Ends views g → LivesThere g.entries d → Ends (views ++ marked g d ∷ []) (marked g d)
mark_goes_on views g d h l = goes_on views g (marked g d) h (mark_follows g d (last_is views g h) l)

-- ---- the opening begins one

opening_since : (n p : ℕ) (names : List (List ℕ)) → is_in p (ids (opening_entries n names)) ≡ true → (entry_in (opening_entries n names) p).since ≡ 1
opening_since n p [] h = absurd (false≢true h)
opening_since n p (name ∷ names) h = by_case (nat_eq n p) refl h (λ k. opening_since (n + 1) p names k)
  where
    by_case : (b : Bool) → nat_eq n p ≡ b → is_in p (n ∷ ids (opening_entries (n + 1) names)) ≡ true → (is_in p (ids (opening_entries (n + 1) names)) ≡ true → (entry_in (opening_entries (n + 1) names) p).since ≡ 1) → (cond b (opening_entry n name) (entry_in (opening_entries (n + 1) names) p)).since ≡ 1
    by_case true q k ih = refl
    by_case false q k ih = ih (rw (sym_test n p false q) at k)

pub opening_begins : (names : List (List ℕ)) → AreOpeningNames names → Ends (opening names ∷ []) (opening names)
opening_begins names h = record {
  some = omega arith;
  last = refl;
  history = record {
    kept = λ v a b. only v a b (λ k. IsGroup (view_at views k)) (opening_is names h);
    numbered = λ v a b. only v a b (λ k. (view_at views k).version ≡ k) refl;
    stays = λ u v y a b c i. only u a (omega arith) (λ k. is_in y (ids (view_at views k).entries) ≡ true → is_in y (ids (view_at views v).entries) ≡ true) (only v (omega arith) c (λ k. is_in y (ids (view_at views 1).entries) ≡ true → is_in y (ids (view_at views k).entries) ≡ true) (λ j. j)) i;
    dies = λ u v y a b c i. only u a (omega arith) (λ k. is_live (view_at views v).entries y ≡ true → is_live (view_at views k).entries y ≡ true) (only v (omega arith) c (λ k. is_live (view_at views k).entries y ≡ true → is_live (view_at views 1).entries y ≡ true) (λ j. j));
    between_stays = λ u v y s a b c i k. only u a (omega arith) (λ j. between (view_at views v).entries s y ≡ between (view_at views j).entries s y) (only v (omega arith) c (λ j. between (view_at views j).entries s y ≡ between (view_at views 1).entries s y) refl);
    dated = λ v y a b. only v a b (λ k. is_in y (ids (view_at views k).entries) ≡ true → IsSince views y k (since_at views k y)) (λ i. subst (IsSince views y 1) (sym (opening_since 1 y names i)) (first_since y));
  };
}
  where
    views : List Group
    views = opening names ∷ []

    only : (v : ℕ) → 1 ≤ v → v ≤ 1 → (P : ℕ → Type 0) → P 1 → P v
    only v a b P h = let is : 1 ≡ v = omega arith in subst P is h

    first_since : (y : ℕ) → IsSince views y 1 1
    first_since y = record {
      first = omega arith;
      upto = omega arith;
      same = λ k a b. only k a b (λ j. left_at views j y ≡ left_at views 1 y) refl;
      least = λ w pos k. pos;
    }
