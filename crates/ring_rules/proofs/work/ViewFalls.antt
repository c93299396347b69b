-- A mark and an erasure leave less to do, and so does each change of the newest view that counts as one and keeps the entries.
use Rattle.std.proofs.Common.{◌≡◌, ℕ, suc, ◌+◌, ◌-◌, ◌*◌, ◌≤◌, Bool, true, false, List, [], ◌∷◌, ◌++◌, length, get_or, if◌then◌else◌, refl, ap, subst, ◌∙◌, arith, inl}
use Rattle.std.specs.List.{sum_by}
use Rattle.std.proofs.lemmas.List.{length_push, get_or_append_left}
use Rattle.std.proofs.lemmas.List.Sums.{sum_by-cons}
use Rattle.group_view.specs.declared.entry.Entry.{Entry}
use Rattle.group_view.specs.View.{Group, entry_in}
use Rattle.group_view.specs.Since.{no_group}
use Rattle.group_view.specs.Change.{marked, remarked}
use Rattle.group_view.specs.Kept.{changes_of, changes_of_mark}
use Rattle.group_view.proofs.Groups.{few_changes, length-remarked_group, changes-remarked_group, live_changes, dead_changes}
use Rattle.group_view.proofs.Passing.{live_in, dead_in}
use Rattle.group_view.specs.declared.entry.Mark.TheVariants.{Dead, Erased}
use Rattle.group_view.specs.declared.entry.Mark.{Mark}
use Rattle.group_view.specs.Ring.{is_in}
use Rattle.ring_rules.proofs.events.Cases.{IsRunning}
use Rattle.ring_rules.specs.Machine.{Member, World, member_at, view_in, newest, ring}
use Rattle.ring_rules.specs.Step.{size, with_view}
use Rattle.ring_rules.specs.Event.{refreshed, erased_view, synced_view}
use Rattle.ring_rules.proofs.walks.Views.{view_new}
use Rattle.group_view.proofs.Syncing.{length-registered, changes-registered}
use Rattle.ring_rules.proofs.invariants.Happens.{sync_there, newest_is}
use Rattle.ring_rules.proofs.events.WhatRefuses.{MayMark, MayErase, MaySync}
use Rattle.ring_rules.proofs.work.Fit.{IsFit, few_members}
use Rattle.ring_rules.specs.Work.{entry_left, marks_left, is_stale, stale_by, stale_at, stale}
use Rattle.ring_rules.proofs.work.Sums.{sum_but_one}
use Rattle.ring_rules.proofs.work.Places.{IsWritten}
use Rattle.ring_rules.proofs.work.RefreshFalls.{Pays, refresh_falls}
use Rattle.ring_rules.proofs.work.Parts.{LowersThen}

-- ---- the entries

-- what has changed of all entries of a view and what is left of them are together the same
all_left_and_changed : (es : List Entry) → sum_by entry_left es + sum_by changes_of es ≡ 4 * length es
all_left_and_changed [] = refl
all_left_and_changed (e ∷ es) =
    more (entry_left e) (changes_of e) (sum_by entry_left es) (sum_by changes_of es) (sum_by entry_left (e ∷ es)) (sum_by changes_of (e ∷ es)) (length es)
    (sum_by-cons entry_left e es) (sum_by-cons changes_of e es) (let most : changes_of e ≤ 4 = few_changes e in omega (arith, most)) (all_left_and_changed es)
  where
    more : (a b c d x y n : ℕ) → x ≡ a + c → y ≡ b + d → a + b ≡ 4 → c + d ≡ 4 * n → x + y ≡ 4 * suc n
    more a b c d x y n h i j k = omega arith

-- one change makes what is left one less
entries_left : (es new : List Entry) → length new ≡ length es → sum_by changes_of new ≡ sum_by changes_of es + 1 → sum_by entry_left new + 1 ≡ sum_by entry_left es
entries_left es new many changed =
    less (sum_by entry_left new) (sum_by changes_of new) (sum_by entry_left es) (sum_by changes_of es) (length new) (length es)
    (all_left_and_changed new) (all_left_and_changed es) changed many
  where
    less : (a b c e n m : ℕ) → a + b ≡ 4 * n → c + e ≡ 4 * m → b ≡ e + 1 → n ≡ m → a + 1 ≡ c
    less a b c e n m h i j k = omega arith

-- ---- a change of the newest view

-- all but x may be stale then
view_stale : (w w' : World) (x : ℕ) (y : Member) (v : ℕ) → IsRunning w x → IsWritten w w' x y → newest w' ≡ v → stale_by v y ≡ 0 → stale w' + 1 ≤ size w - 1
view_stale w w' x y v u m top fresh =
    subst (λ n. stale w' + 1 ≤ n - 1) m.many
    (sum_but_one (size w' - 1) (stale_at w') (x - 1) (omega (arith, u.some, u.lt, m.many)) (λ k. most (is_stale (newest w') (member_at w' (k + 1))))
    (ap (λ q. stale_by (newest w') (member_at w' q)) (back x u.some) ∙ ap (λ n. stale_by n (member_at w' x)) top ∙ ap (stale_by v) m.here ∙ fresh))
  where
    back : (x : ℕ) → 1 ≤ x → x - 1 + 1 ≡ x
    back x h = omega arith

    most : (b : Bool) → (if b then 1 else 0) ≤ 1
    most true = omega arith
    most false = omega arith

-- the newest view becomes v, in which one change less is left to the entries
module _ (w : World) (x : ℕ) (v : Group) (f : IsFit w) (u : IsRunning w x) (many : length v.entries ≡ length (view_in w (newest w)).entries) (changed : sum_by changes_of v.entries ≡ sum_by changes_of (view_in w (newest w)).entries + 1) where
  abbrev vs : List Group
  vs = w.views ++ v ∷ []

  more : length vs ≡ length w.views + 1
  more = length_push w.views v

  view_pays : Pays w vs x 1 0 (size w - 2)
  view_pays = record {
    marks =
        let top : length w.views ≡ length vs - 1 = omega (arith, more) in
        let left : sum_by entry_left (get_or vs (length vs - 1) no_group).entries + 1 ≡ marks_left w =
        ap (λ (k : Group). sum_by entry_left k.entries + 1) (view_new w v (length vs - 1) top) ∙ entries_left (view_in w (newest w)).entries v.entries many changed in
        omega (arith, left);
    few =
        let top : length w.views ≡ length vs - 1 = omega (arith, more) in
        let is : length (get_or vs (length vs - 1) no_group).entries ≡ length (view_in w (newest w)).entries = ap (λ (g : Group). length g.entries) (view_new w v (length vs - 1) top) ∙ many in
        omega (arith, is, (newest_is w f.good.views).few);
    old = λ q. get_or_append_left w.views (v ∷ []) no_group (member_at w q).version (let held : (member_at w q).version ≤ newest w = f.good.inv.is_ring.held q in omega (arith, held, f.good.inv.is_ring.some));
    stale = λ w' y k top fresh. let most : stale w' + 1 ≤ size w - 1 = view_stale w w' x y (length vs - 1) u k top fresh in omega (arith, most, u.some, u.lt);
    falls = inl (omega arith, refl);
    enough = omega (arith, few_members w f.good);
  }

  -- x reads it
  pub view_falls : LowersThen w (refreshed (with_view w v) x (newest w + 1))
  view_falls = refresh_falls w vs x (newest w + 1) 1 0 (size w - 2) f u (let top : newest w + 1 ≡ length vs - 1 = omega (arith, more, f.good.inv.is_ring.some) in top) view_pays

-- an entry is marked that has seen one change less
remarked_falls : (w : World) (x d : ℕ) (m : Mark) (v : Group) → IsFit w → IsRunning w x → v.entries ≡ (remarked m (view_in w (newest w)) d).entries → is_in d (ring w) ≡ true → changes_of_mark m ≡ changes_of_mark (entry_in (view_in w (newest w)).entries d).mark + 1
    → LowersThen w (refreshed (with_view w v) x (newest w + 1))
remarked_falls w x d m v f u entries i changes =
    let g : Group = view_in w (newest w) in
    view_falls w x v f u (ap length entries ∙ length-remarked_group m g d)
    (ap (sum_by changes_of) entries ∙ changes-remarked_group m g d (f.good.inv.is_ring.distinct (newest w) (omega arith)) i changes)

-- one that is live dies
pub mark_falls : (w : World) (x d : ℕ) → IsFit w → IsRunning w x → MayMark w x d → LowersThen w (refreshed (with_view w (marked (view_in w (newest w)) d)) x (newest w + 1))
mark_falls w x d f u m = remarked_falls w x d Dead (marked (view_in w (newest w)) d) f u refl (live_in (view_in w (newest w)).entries d m.lives) (live_changes (entry_in (view_in w (newest w)).entries d).mark m.lives)

-- one that is dead is erased; an election changes no entry
pub erase_falls : (w : World) (x p : ℕ) → IsFit w → IsRunning w x → MayErase w x p → LowersThen w (refreshed (with_view w (erased_view w p)) x (newest w + 1))
erase_falls w x p f u m = remarked_falls w x p Erased (erased_view w p) f u refl (dead_in (view_in w (newest w)).entries p m.dead) (dead_changes (entry_in (view_in w (newest w)).entries p).mark m.dead)

-- one that wasn't registered is; an election changes no entry
pub sync_falls : (w : World) (x : ℕ) → IsFit w → IsRunning w x → MaySync w x → LowersThen w (refreshed (with_view w (synced_view w x)) x (newest w + 1))
sync_falls w x f u m =
    view_falls w x (synced_view w x) f u (length-registered (view_in w (newest w)) x) (changes-registered (view_in w (newest w)) x (f.good.inv.is_ring.distinct (newest w) (omega arith)) (sync_there w x m f.good))
