-- An entry that is registered as synchronised keeps its place, its mark and its neighbours.
use Rattle.std.proofs.Common.{◌≡◌, ℕ, ◌+◌, Bool, true, false, cond, not, nat_eq, nat_lt, List, [], ◌∷◌, map, length, refl, sym, ap, subst, ◌∙◌, arith, Some, None}
use Rattle.std.specs.List.{list_all, sum_by}
use Rattle.std.proofs.lemmas.Bool.{false≢true}
use Rattle.std.proofs.lemmas.List.{length-map}
use Rattle.std.proofs.lemmas.List.Sums.{sum_by-cons}
use Rattle.ring_names.specs.declared.reason.Reason.TheVariants.{UnknownMember, AlreadyDead, AlreadySynced}
use Rattle.group_view.specs.declared.entry.Entry.{Entry}
use Rattle.group_view.specs.Ring.{is_in, AreDistinct, before, others}
use Rattle.group_view.specs.View.{Group, ids, entry_in, is_live, left_of, stands_in}
use Rattle.group_view.specs.Change.{dated, with_synced, registered, sync_refusal}
use Rattle.group_view.specs.Kept.{IsGroup, changes_of, changes_of_mark}
use Rattle.group_view.proofs.Rings.{nat_eq-is, sym_test}
use Rattle.group_view.proofs.Marks.{SameRing, KeepsRing, same_left, same_ring_all, dated_keeps, dated_same, changes-dated, dated_changes}
use Rattle.group_view.proofs.Groups.{led_on}
use Rattle.group_view.proofs.History.{entry-map, entry_id, Follows}

-- a live entry that isn't registered yet
pub record Unsynced (es : List Entry) (p : ℕ) : Type 0 where
  pub there : is_in p (ids es) ≡ true
  pub unsynced : (entry_in es p).synced ≡ false

-- who isn't refused
pub sync_none : (es : List Entry) (p : ℕ) → sync_refusal es p ≡ None → Unsynced es p
sync_none es p h = by_there (is_in p (ids es)) refl (is_live es p) (entry_in es p).synced refl h
  where
    by_there : (a : Bool) → is_in p (ids es) ≡ a → (b c : Bool) → (entry_in es p).synced ≡ c → cond (not a) (Some UnknownMember) (cond (not b) (Some AlreadyDead) (cond c (Some AlreadySynced) None)) ≡ None → Unsynced es p
    by_there false ea b c ec k = cc
    by_there true ea false c ec k = cc
    by_there true ea true true ec k = cc
    by_there true ea true false ec k = record { there = ea; unsynced = ec }

pub synced_keeps : (p : ℕ) → KeepsRing (with_synced p)
synced_keeps p = record { keeps_id = λ e. on_id (nat_eq e.id.0 p) e; keeps_mark = λ e. on_mark (nat_eq e.id.0 p) e }
  where
    on_id : (b : Bool) (e : Entry) → (cond b (record e { synced = true }) e).id.0 ≡ e.id.0
    on_id true e = refl
    on_id false e = refl

    on_mark : (b : Bool) (e : Entry) → (cond b (record e { synced = true }) e).mark ≡ e.mark
    on_mark true e = refl
    on_mark false e = refl

synced_since : (p : ℕ) (e : Entry) → (with_synced p e).since ≡ e.since
synced_since p e = by_case (nat_eq e.id.0 p)
  where
    by_case : (b : Bool) → (cond b (record e { synced = true }) e).since ≡ e.since
    by_case true = refl
    by_case false = refl

synced_name : (p : ℕ) (e : Entry) → (with_synced p e).name ≡ e.name
synced_name p e = by_case (nat_eq e.id.0 p)
  where
    by_case : (b : Bool) → (cond b (record e { synced = true }) e).name ≡ e.name
    by_case true = refl
    by_case false = refl

module _ (g : Group) (p : ℕ) where
  abbrev new : List Entry
  new = map (with_synced p) g.entries

  -- the ids and who lives
  pub same_ring_registered : SameRing (registered g p).entries g.entries
  same_ring_registered =
      let a : SameRing (registered g p).entries new = same_ring_all (dated (g.version + 1) g.entries new) new (dated_keeps (g.version + 1) g.entries new) in
      let b : SameRing new g.entries = same_ring_all (with_synced p) g.entries (synced_keeps p) in
      record { same_ids = a.same_ids ∙ b.same_ids; same_live = λ q. a.same_live q ∙ b.same_live q }

  there_new : (q : ℕ) → is_in q (ids g.entries) ≡ true → is_in q (ids new) ≡ true
  there_new q i = ap (is_in q) (same_ring_all (with_synced p) g.entries (synced_keeps p)).same_ids ∙ i

  since_registered : (q : ℕ) → is_in q (ids g.entries) ≡ true → (entry_in (registered g p).entries q).since ≡ cond (nat_eq (left_of g.entries q) (left_of (registered g p).entries q)) (entry_in g.entries q).since (g.version + 1)
  since_registered q i =
      ap (λ (e : Entry). e.since) (entry-map (dated (g.version + 1) g.entries new) new q (dated_keeps (g.version + 1) g.entries new).keeps_id (there_new q i))
      ∙ on_since (nat_eq (left_of g.entries (entry_in new q).id.0) (left_of new (entry_in new q).id.0))
      ∙ ap (λ n. cond (nat_eq (left_of g.entries n) (left_of new n)) (entry_in new q).since (g.version + 1)) (entry_id new q (there_new q i))
      ∙ ap (λ n. cond (nat_eq (left_of g.entries q) n) (entry_in new q).since (g.version + 1)) (sym (same_left (registered g p).entries new q (same_ring_all (dated (g.version + 1) g.entries new) new (dated_keeps (g.version + 1) g.entries new))))
      ∙ ap (λ n. cond (nat_eq (left_of g.entries q) (left_of (registered g p).entries q)) n (g.version + 1)) (ap (λ (e : Entry). e.since) (entry-map (with_synced p) g.entries q (synced_keeps p).keeps_id i) ∙ synced_since p (entry_in g.entries q))
    where
      on_since : (b : Bool) → (cond b (entry_in new q) (record (entry_in new q) { since = g.version + 1 })).since ≡ cond b (entry_in new q).since (g.version + 1)
      on_since true = refl
      on_since false = refl

  -- marks and names stay
  pub mark_registered : (q : ℕ) → is_in q (ids g.entries) ≡ true → (entry_in (registered g p).entries q).mark ≡ (entry_in g.entries q).mark
  mark_registered q i =
      ap (λ (e : Entry). e.mark) (entry-map (dated (g.version + 1) g.entries new) new q (dated_keeps (g.version + 1) g.entries new).keeps_id (there_new q i))
      ∙ (dated_keeps (g.version + 1) g.entries new).keeps_mark (entry_in new q)
      ∙ ap (λ (e : Entry). e.mark) (entry-map (with_synced p) g.entries q (synced_keeps p).keeps_id i) ∙ (synced_keeps p).keeps_mark (entry_in g.entries q)

  pub name_registered : (q : ℕ) → is_in q (ids g.entries) ≡ true → (entry_in (registered g p).entries q).name ≡ (entry_in g.entries q).name
  name_registered q i =
      ap (λ (e : Entry). e.name) (entry-map (dated (g.version + 1) g.entries new) new q (dated_keeps (g.version + 1) g.entries new).keeps_id (there_new q i))
      ∙ on_name (nat_eq (left_of g.entries (entry_in new q).id.0) (left_of new (entry_in new q).id.0))
      ∙ ap (λ (e : Entry). e.name) (entry-map (with_synced p) g.entries q (synced_keeps p).keeps_id i) ∙ synced_name p (entry_in g.entries q)
    where
      on_name : (b : Bool) → (cond b (entry_in new q) (record (entry_in new q) { since = g.version + 1 })).name ≡ (entry_in new q).name
      on_name true = refl
      on_name false = refl

-- a registration dates nobody
pub registered_entries : (g : Group) (p : ℕ) → map (with_synced p) g.entries ≡ (registered g p).entries
registered_entries g p =
    sym (dated_same (g.version + 1) g.entries (map (with_synced p) g.entries) (same_ring_all (with_synced p) g.entries (synced_keeps p)) (map (with_synced p) g.entries))

-- ---- it stands for one change more

sync_nobody : (p : ℕ) (es : List Entry) → is_in p (ids es) ≡ false → map (with_synced p) es ≡ es
sync_nobody p [] h = refl
sync_nobody p (e ∷ es) h = by_case (nat_eq p e.id.0) refl h (λ k. sync_nobody p es k)
  where
    by_case : (b : Bool) → nat_eq p e.id.0 ≡ b → cond b true (is_in p (ids es)) ≡ false → (is_in p (ids es) ≡ false → map (with_synced p) es ≡ es) → map (with_synced p) (e ∷ es) ≡ e ∷ es
    by_case true q k ih = absurd (false≢true (sym k))
    by_case false q k ih = ap (λ b. cond b (record e { synced = true }) e ∷ map (with_synced p) es) (sym_test p e.id.0 false q) ∙ ap (λ us. e ∷ us) (ih k)

changes-synced : (p : ℕ) (es : List Entry) → AreDistinct (ids es) → is_in p (ids es) ≡ true → (entry_in es p).synced ≡ false → sum_by changes_of (map (with_synced p) es) ≡ sum_by changes_of es + 1
changes-synced p [] dx i l = absurd (false≢true i)
changes-synced p (e ∷ es) dx i l = by_case (nat_eq e.id.0 p) refl l i (λ a b. changes-synced p es dx.1 a b)
  where
    one_more : (synced : Bool) → synced ≡ false → 1 + changes_of_mark e.mark + 1 ≡ 1 + changes_of_mark e.mark + cond synced 1 0 + 1
    one_more true h = absurd (false≢true (sym h))
    one_more false h = omega arith

    by_case : (b : Bool) → nat_eq e.id.0 p ≡ b → (cond b e (entry_in es p)).synced ≡ false → is_in p (e.id.0 ∷ ids es) ≡ true → (is_in p (ids es) ≡ true → (entry_in es p).synced ≡ false → sum_by changes_of (map (with_synced p) es) ≡ sum_by changes_of es + 1) → sum_by changes_of (cond b (record e { synced = true }) e ∷ map (with_synced p) es) ≡ sum_by changes_of (e ∷ es) + 1
    by_case true q none k ih =
        let gone : is_in p (ids es) ≡ false = subst (λ n. is_in n (ids es) ≡ false) (nat_eq-is e.id.0 p q) dx.0 in
        ap (λ us. sum_by changes_of (record e { synced = true } ∷ us)) (sync_nobody p es gone)
        ∙ sum_by-cons changes_of (record e { synced = true }) es
        ∙ ap (λ n. n + sum_by changes_of es) (one_more e.synced none)
        ∙ (let swap : changes_of e + 1 + sum_by changes_of es ≡ changes_of e + sum_by changes_of es + 1 = omega arith in swap)
        ∙ ap (λ n. n + 1) (sym (sum_by-cons changes_of e es))
    by_case false q none k ih =
        sum_by-cons changes_of e (map (with_synced p) es)
        ∙ ap (λ n. changes_of e + n) (ih (rw (sym_test e.id.0 p false q) at k) none)
        ∙ (let swap : changes_of e + (sum_by changes_of es + 1) ≡ changes_of e + sum_by changes_of es + 1 = omega arith in swap)
        ∙ ap (λ n. n + 1) (sym (sum_by-cons changes_of e es))

-- one change more, and as many entries
pub changes-registered : (g : Group) (p : ℕ) → AreDistinct (ids g.entries) → Unsynced g.entries p → sum_by changes_of (registered g p).entries ≡ sum_by changes_of g.entries + 1
changes-registered g p dx u =
    changes-dated (dated (g.version + 1) g.entries (map (with_synced p) g.entries)) (map (with_synced p) g.entries) (dated_changes (g.version + 1) g.entries (map (with_synced p) g.entries))
    ∙ changes-synced p g.entries dx u.there u.unsynced

pub length-registered : (g : Group) (p : ℕ) → length (registered g p).entries ≡ length g.entries
length-registered g p = simp length-map

-- ---- it goes on with the history

pub registered_is : (g : Group) (p : ℕ) → IsGroup g → Unsynced g.entries p → IsGroup (registered g p)
registered_is g p h u =
    let same = same_ring_registered g p in
    let long : length (registered g p).entries ≡ length g.entries = length-registered g p in
    record {
      few = omega (arith, h.few, long);
      distinct = subst AreDistinct (sym same.same_ids) h.distinct;
      numbered = h.numbered ∙ ap (λ n. n + 1) (sym long);
      fresh = ap (list_all (λ n. nat_lt n g.next_id)) same.same_ids ∙ h.fresh;
      counted = omega (arith, h.counted, changes-registered g p h.distinct u);
      led = led_on (stands_in g.entries g.master) (stands_in (registered g p).entries g.master) g.term g.version h.led;
    }

pub sync_follows : (g : Group) (p : ℕ) → IsGroup g → Unsynced g.entries p → Follows g (registered g p)
sync_follows g p h u =
    let same = same_ring_registered g p in
    record {
      is_group = registered_is g p h u;
      version = refl;
      stays = λ y i. ap (is_in y) same.same_ids ∙ i;
      dies = λ y i l. sym (same.same_live y) ∙ l;
      same_between = λ y s i l l2. ap (λ us. before y (others s us)) same.same_ids;
      known = λ y i e. ap (is_in y) (sym same.same_ids) ∙ i;
      since = λ y i. since_registered g p y (ap (is_in y) (sym same.same_ids) ∙ i);
    }
