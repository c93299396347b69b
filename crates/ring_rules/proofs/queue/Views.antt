-- What the queue reads of views, where an entry is marked dead, erased or registered, or one comes.
use Rattle.std.proofs.Common.{◌≡◌, ℕ, ◌+◌, Bool, true, false, cond, nat_eq, List, [], ◌∷◌, ◌++◌, map, refl, sym, ap, ◌∙◌, ◌⊎◌, inl, inr, ⊎_elim}
use Rattle.std.proofs.lemmas.Bool.{false≢true, and_parts, and_from}
use Rattle.group_view.specs.declared.entry.Entry.{Entry}
use Rattle.group_view.specs.declared.entry.Mark.{Mark}
use Rattle.group_view.specs.declared.entry.Mark.TheVariants.{Live, Dead, Erased}
use Rattle.group_view.specs.Ring.{is_in}
use Rattle.group_view.specs.View.{Group, ids, entry_in, is_live, is_live_mark, is_erased_mark, is_erased, left_of}
use Rattle.group_view.specs.Change.{dated, with_mark, with_synced, registered, remarked, admitted, new_entry, with_entry}
use Rattle.group_view.proofs.Rings.{nat_eq-is, nat_eq-same, sym_test}
use Rattle.group_view.proofs.Marks.{with_mark_id, dated_keeps}
use Rattle.group_view.proofs.History.{entry_keeps}
use Rattle.group_view.proofs.Syncing.{same_ring_registered, mark_registered}
use Rattle.group_view.proofs.Erasing.{mark-remarked, mark-admitted}
use Rattle.group_view.proofs.Groups.{ids-remarked_group}
use Rattle.group_view.proofs.Joining.{MayAdmit, entry_other, stays_in}
use Rattle.ring_rules.specs.QueuePart.{sight_of}

-- ---- who is registered

dated_synced : (version : ℕ) (old new : List Entry) (e : Entry) → (dated version old new e).synced ≡ e.synced
dated_synced version old new e = by_case (nat_eq (left_of old e.id.0) (left_of new e.id.0))
  where
    by_case : (b : Bool) → (cond b e (record e { since = version })).synced ≡ e.synced
    by_case true = refl
    by_case false = refl

marked_synced : (m : Mark) (d : ℕ) (e : Entry) → (with_mark m d e).synced ≡ e.synced
marked_synced m d e = by_case (nat_eq e.id.0 d)
  where
    by_case : (b : Bool) → (cond b (record e { mark = m }) e).synced ≡ e.synced
    by_case true = refl
    by_case false = refl

-- the same are registered after a mark
pub remarked_synced : (m : Mark) (g : Group) (d q : ℕ) → (entry_in (remarked m g d).entries q).synced ≡ (entry_in g.entries q).synced
remarked_synced m g d q =
    entry_keeps (λ (e : Entry). e.synced) (dated (g.version + 1) g.entries new) (dated_keeps (g.version + 1) g.entries new).keeps_id (dated_synced (g.version + 1) g.entries new) new q
    ∙ entry_keeps (λ (e : Entry). e.synced) (with_mark m d) (with_mark_id m d) (marked_synced m d) g.entries q
  where
    new : List Entry
    new = map (with_mark m d) g.entries

-- who comes isn't registered
come_unregistered : (m n v : ℕ) (name : List ℕ) (es : List Entry) (q : ℕ) → (entry_in es q).synced ≡ false → (entry_in (with_entry m (new_entry n name v) es) q).synced ≡ false
come_unregistered m n v name [] q h = h
come_unregistered m n v name (a ∷ es) q h = by_case (nat_eq a.id.0 q) (nat_eq a.id.0 m) (nat_eq n q) h (come_unregistered m n v name es q)
  where
    rest : Entry
    rest = entry_in (with_entry m (new_entry n name v) es) q

    by_case : (b c d : Bool) → (cond b a (entry_in es q)).synced ≡ false → ((entry_in es q).synced ≡ false → rest.synced ≡ false) → (cond b a (entry_in (cond c (new_entry n name v ∷ []) [] ++ with_entry m (new_entry n name v) es) q)).synced ≡ false
    by_case true c d k ih = k
    by_case false true d k ih = by_new (nat_eq n q) (ih k)
      where
        by_new : (d : Bool) → rest.synced ≡ false → (cond d (new_entry n name v) rest).synced ≡ false
        by_new true k = refl
        by_new false k = k
    by_case false false d k ih = ih k

-- and the others are as before
come_synced : (m n v : ℕ) (name : List ℕ) (es : List Entry) (q : ℕ) → (entry_in es n).synced ≡ false → (entry_in (with_entry m (new_entry n name v) es) q).synced ≡ (entry_in es q).synced
come_synced m n v name es q none = by_id (nat_eq n q) refl
  where
    by_id : (b : Bool) → nat_eq n q ≡ b → (entry_in (with_entry m (new_entry n name v) es) q).synced ≡ (entry_in es q).synced
    by_id true e =
        let is : n ≡ q = nat_eq-is n q e in
        let old : (entry_in es q).synced ≡ false = ap (λ i. (entry_in es i).synced) (sym is) ∙ none in
        come_unregistered m n v name es q old ∙ sym old
    by_id false e = ap (λ (a : Entry). a.synced) (entry_other m (new_entry n name v) q es e)

pub admitted_synced : (g : Group) (m : ℕ) (name : List ℕ) (q : ℕ) → (entry_in g.entries g.next_id).synced ≡ false → (entry_in (admitted g m name).entries q).synced ≡ (entry_in g.entries q).synced
admitted_synced g m name q none =
    entry_keeps (λ (e : Entry). e.synced) (dated (g.version + 1) g.entries new) (dated_keeps (g.version + 1) g.entries new).keeps_id (dated_synced (g.version + 1) g.entries new) new q
    ∙ come_synced m g.next_id (g.version + 1) name g.entries q none
  where
    new : List Entry
    new = with_entry m (new_entry g.next_id name (g.version + 1)) g.entries

-- who is registered has an entry
pub synced_there : (es : List Entry) (q : ℕ) → (entry_in es q).synced ≡ true → is_in q (ids es) ≡ true
synced_there [] q h = absurd (false≢true h)
synced_there (e ∷ es) q h = by_case (nat_eq q e.id.0) refl (λ k. synced_there es q k)
  where
    by_case : (c : Bool) → nat_eq q e.id.0 ≡ c → ((entry_in es q).synced ≡ true → is_in q (ids es) ≡ true) → cond c true (is_in q (ids es)) ≡ true
    by_case true ec ih = refl
    by_case false ec ih = ih (rw (sym_test q e.id.0 false ec) at h)

-- who is registered, and nobody else
synced_more : (p : ℕ) (es : List Entry) (q : ℕ) → (entry_in es q).synced ≡ true → (entry_in (map (with_synced p) es) q).synced ≡ true
synced_more p [] q h = h
synced_more p (e ∷ es) q h = by_case (nat_eq e.id.0 p) (nat_eq e.id.0 q) refl h (λ k. synced_more p es q k)
  where
    rest : Entry
    rest = entry_in (map (with_synced p) es) q

    by_case : (a b : Bool) → nat_eq e.id.0 q ≡ b → (cond b e (entry_in es q)).synced ≡ true → ((entry_in es q).synced ≡ true → rest.synced ≡ true) → (cond (nat_eq (cond a (record e { synced = true }) e).id.0 q) (cond a (record e { synced = true }) e) rest).synced ≡ true
    by_case true true eb k ih = rw eb refl
    by_case true false eb k ih = rw eb (ih k)
    by_case false true eb k ih = rw eb k
    by_case false false eb k ih = rw eb (ih k)

synced_newly : (p : ℕ) (es : List Entry) (q : ℕ) → (entry_in (map (with_synced p) es) q).synced ≡ true → ((entry_in es q).synced ≡ true) ⊎ (q ≡ p)
synced_newly p [] q h = inl h
synced_newly p (e ∷ es) q h = by_case (nat_eq e.id.0 p) refl (nat_eq e.id.0 q) refl h (λ k. synced_newly p es q k)
  where
    rest : Entry
    rest = entry_in (map (with_synced p) es) q

    by_case : (a : Bool) → nat_eq e.id.0 p ≡ a → (b : Bool) → nat_eq e.id.0 q ≡ b → (cond (nat_eq (cond a (record e { synced = true }) e).id.0 q) (cond a (record e { synced = true }) e) rest).synced ≡ true
        → (rest.synced ≡ true → ((entry_in es q).synced ≡ true) ⊎ (q ≡ p)) → ((cond b e (entry_in es q)).synced ≡ true) ⊎ (q ≡ p)
    by_case true ea true eb k ih = inr (sym (nat_eq-is e.id.0 q eb) ∙ nat_eq-is e.id.0 p ea)
    by_case true ea false eb k ih = ih (rw eb at k)
    by_case false ea true eb k ih = inl (rw eb at k)
    by_case false ea false eb k ih = ih (rw eb at k)

registered_same : (g : Group) (p q : ℕ) → (entry_in (registered g p).entries q).synced ≡ (entry_in (map (with_synced p) g.entries) q).synced
registered_same g p q = entry_keeps (λ (e : Entry). e.synced) (dated (g.version + 1) g.entries new) (dated_keeps (g.version + 1) g.entries new).keeps_id (dated_synced (g.version + 1) g.entries new) new q
  where
    new : List Entry
    new = map (with_synced p) g.entries

pub registered_synced : (g : Group) (p q : ℕ) → (entry_in g.entries q).synced ≡ true → (entry_in (registered g p).entries q).synced ≡ true
registered_synced g p q e = registered_same g p q ∙ synced_more p g.entries q e

pub registered_newly : (g : Group) (p q : ℕ) → (entry_in (registered g p).entries q).synced ≡ true → ((entry_in g.entries q).synced ≡ true) ⊎ (q ≡ p)
registered_newly g p q e = synced_newly p g.entries q (sym (registered_same g p q) ∙ e)

-- ---- who is erased

abbrev is_gone : Group → ℕ → Bool
is_gone g q = (sight_of g).is_erased q

pub gone_there : (g : Group) (q : ℕ) → is_gone g q ≡ true → (is_in q (ids g.entries) ≡ true) × (is_erased g.entries q ≡ true)
gone_there g q h = and_parts (is_in q (ids g.entries)) (is_erased g.entries q) h

apart : (m : Mark) → is_erased_mark m ≡ true → is_live_mark m ≡ true → ⊥
apart Live a b = false≢true a
apart Dead a b = false≢true b
apart Erased a b = false≢true b

-- a mark for one that lives, or an erasure, leaves the erased erased
pub remarked_gone : (m : Mark) (g : Group) (d q : ℕ) → (is_erased_mark m ≡ true) ⊎ (is_live g.entries d ≡ true) → is_gone g q ≡ true → is_gone (remarked m g d) q ≡ true
remarked_gone m g d q c h =
    let p = gone_there g q h in
    and_from (is_in q (ids (remarked m g d).entries)) (is_erased (remarked m g d).entries q)
    (ap (is_in q) (ids-remarked_group m g d) ∙ p.0)
    (ap is_erased_mark (mark-remarked m g d q p.0) ∙ by_case (nat_eq q d) refl)
  where
    by_case : (b : Bool) → nat_eq q d ≡ b → is_erased_mark (cond b m (entry_in g.entries q).mark) ≡ true
    by_case true e = ⊎_elim
        (λ (a : is_erased_mark m ≡ true). a)
        (λ (l : is_live g.entries d ≡ true). absurd (apart (entry_in g.entries q).mark (gone_there g q h).1 (ap (is_live g.entries) (nat_eq-is q d e) ∙ l)))
        c
    by_case false e = (gone_there g q h).1

-- who is erased is erased then
pub erased_gone : (g : Group) (d : ℕ) → is_in d (ids g.entries) ≡ true → is_gone (remarked Erased g d) d ≡ true
erased_gone g d i =
    and_from (is_in d (ids (remarked Erased g d).entries)) (is_erased (remarked Erased g d).entries d)
    (ap (is_in d) (ids-remarked_group Erased g d) ∙ i)
    (ap is_erased_mark (mark-remarked Erased g d d i) ∙ rw (nat_eq-same d) refl)

-- and so does a registration
pub registered_gone : (g : Group) (p q : ℕ) → is_gone g q ≡ true → is_gone (registered g p) q ≡ true
registered_gone g p q h =
    let k = gone_there g q h in
    and_from (is_in q (ids (registered g p).entries)) (is_erased (registered g p).entries q)
    (ap (is_in q) (same_ring_registered g p).same_ids ∙ k.0)
    (ap is_erased_mark (mark_registered g p q k.0) ∙ k.1)

-- and so does an admission
pub admitted_gone : (g : Group) (m : ℕ) (name : List ℕ) → MayAdmit g m → (q : ℕ) → is_gone g q ≡ true → is_gone (admitted g m name) q ≡ true
admitted_gone g m name k q h =
    let p = gone_there g q h in
    and_from (is_in q (ids (admitted g m name).entries)) (is_erased (admitted g m name).entries q)
    (stays_in g m name k q p.0)
    (ap is_erased_mark (mark-admitted g m name k q p.0) ∙ p.1)
