-- A link that its receiver left is over or fails the test at the door, and stays so: no place has to be kept with it.
use Rattle.std.proofs.Common.{◌≡◌, ℕ, ◌+◌, ◌<◌, ◌≤◌, Bool, true, false, length, Some, None, refl, sym, ap, ◌∙◌, arith, List}
use Rattle.std.proofs.lemmas.Bool.{false≢true}
use Rattle.std.proofs.lemmas.List.{length-set, length_push}
use Rattle.group_view.specs.View.{Group}
use Rattle.group_view.specs.Change.{marked}
use Rattle.ring_rules.specs.View.{right_of}
use Rattle.ring_rules.specs.Machine.{Member, Ending, Moved, Halted, Link, World, oldest, member_at, link_at, view_in, newest, left, is_kept, no_member}
use Rattle.ring_rules.specs.Step.{copied, begun, begin_from, published, pushed, popped, next_packet, taker, take_from, current_is, with_current, leave_link, finished, ended, stop_at, stopped, end_out, with_member, with_link, with_view, look_at, moved_to, open_to, opened_link, size, admitted_view, come_to}
use Rattle.ring_rules.specs.Event.{refreshed, erased_view, synced_view}
use Rattle.ring_rules.specs.Act.{Act, refusal, effect}
use Rattle.ring_rules.specs.OpenLinks.{version_of, passes}
use Rattle.ring_rules.proofs.events.Leaves.{come_member, member_leaves, link_leaves, with_opened, new_link_leaves}
use Rattle.ring_rules.proofs.rings.Lists.{get_or_beyond}
use Rattle.ring_rules.proofs.invariants.Good.{Kept, kept_true, true_kept}
use Rattle.ring_rules.proofs.invariants.Shape.{SameEnds}
use Rattle.ring_rules.proofs.walks.Views.{left_is, view_old}
use Rattle.ring_rules.proofs.events.Cases.{each_act}
use Rattle.ring_rules.proofs.events.Composed.{end_composed, refresh_composed}
use Rattle.ring_rules.proofs.invariants.Happens.{IsGood}
use Rattle.ring_rules.proofs.walks.OpenWalk.{passes_is}

-- ---- what a later state has of an earlier one

-- its views and its links, with nobody's view older; and a link that was taken to its end stays so
pub record IsLater (w w' : World) : Type 0 where
  pub many : length w.views ≤ length w'.views
  pub views : (u : ℕ) → u < length w.views → view_in w' u ≡ view_in w u
  pub links : length w.links ≤ length w'.links
  pub ends : (s : ℕ) → s < length w.links → SameEnds (link_at w s) (link_at w' s)
  pub over : (s : ℕ) → s < length w.links → (link_at w s).over ≡ true → (link_at w' s).over ≡ true
  pub version : (y : ℕ) → version_of w y ≤ version_of w' y

-- a link goes the way it goes
same_ends : (l : Link) → SameEnds l l
same_ends l = record { sender = refl; receiver = refl; opened = refl }

-- nothing happens
pub later_same : (w : World) → IsLater w w
later_same w = record { many = omega arith; views = λ u l. refl; links = omega arith; ends = λ s l. same_ends (link_at w s); over = λ s l o. o; version = λ y. omega arith }

-- one thing after another
pub later_then : (u v w : World) → IsLater u v → IsLater v w → IsLater u w
later_then u v w a b = record {
  many = omega (arith, a.many, b.many);
  views = λ k l. b.views k (omega (arith, a.many)) ∙ a.views k l;
  links = omega (arith, a.links, b.links);
  ends = λ s l. let x = a.ends s l in let y = b.ends s (omega (arith, a.links)) in record { sender = y.sender ∙ x.sender; receiver = y.receiver ∙ x.receiver; opened = y.opened ∙ x.opened };
  over = λ s l o. b.over s (omega (arith, a.links)) (a.over s l o);
  version = λ y. omega (arith, a.version y, b.version y);
}

-- a member is written
pub later_member : (w : World) (x : ℕ) (y : Member) → version_of w x ≤ y.version → IsLater w (with_member w x y)
later_member w x y le = record {
  many = omega arith;
  views = λ u l. refl;
  links = omega arith;
  ends = λ s l. same_ends (link_at w s);
  over = λ s l o. o;
  version = λ q. member_leaves (λ _ a b. a.version ≤ b.version) w x y le (λ _. omega arith) q;
}

-- a link is written
later_link : (w : World) (s : ℕ) (l : Link) → SameEnds (link_at w s) l → ((link_at w s).over ≡ true → l.over ≡ true) → IsLater w (with_link w s l)
later_link w s l e o = record {
  many = omega arith;
  views = λ u k. refl;
  links = omega (arith, length-set w.links s l);
  ends = λ j _. link_leaves (λ _ a b. SameEnds a b) w s l e (λ k. same_ends (link_at w k)) j;
  over = λ j _. link_leaves (λ _ a b. a.over ≡ true → b.over ≡ true) w s l o (λ _ h. h) j;
  version = λ y. omega arith;
}

-- a link opens
later_push : (w : World) (l : Link) → IsLater w (with_opened w l)
later_push w l = record {
  many = omega arith;
  views = λ u k. refl;
  links = omega (arith, length_push w.links l);
  ends = λ j lt. new_link_leaves (λ _ a b. SameEnds a b) w l (λ k. same_ends (link_at w k)) j lt;
  over = λ j lt. new_link_leaves (λ _ a b. a.over ≡ true → b.over ≡ true) w l (λ _ h. h) j lt;
  version = λ y. omega arith;
}

-- a view is added
later_view : (w : World) (v : Group) → IsLater w (with_view w v)
later_view w v = record {
  many = omega (arith, length_push w.views v);
  views = λ u l. view_old w v u l;
  links = omega arith;
  ends = λ s l. same_ends (link_at w s);
  over = λ s l o. o;
  version = λ y. omega arith;
}

-- one comes
later_come : (w : World) (m : ℕ) (name : List ℕ) → IsLater w (come_to w m name)
later_come w m name = record {
  many = omega (arith, length_push w.views (admitted_view w m name));
  views = λ u l. view_old w (admitted_view w m name) u l;
  links = omega arith;
  ends = λ s l. same_ends (link_at w s);
  over = λ s l o. o;
  version = λ y. come_member w m name y (λ i a. version_of w i ≤ a.version) (omega (arith, ap (λ (a : Member). a.version) (get_or_beyond w.members (size w) no_member (omega arith)))) (omega arith);
}

-- ---- events

-- a link ends
later_end : (w : World) (why : Ending) (o : ℕ) → IsLater w (with_link w o (ended why (link_at w o)))
later_end w why o = later_link w o (ended why (link_at w o)) (record { sender = refl; receiver = refl; opened = refl }) (λ h. h)

-- a link opens, and its sender sends on it
later_open : (w : World) (x z : ℕ) → IsLater w (open_to w x z)
later_open w x z =
    let w1 : World = with_opened w (opened_link w x z) in
    later_then w w1 (open_to w x z) (later_push w (opened_link w x z)) (later_member w1 x (record (member_at w x) { out = Some (length w.links) }) (omega arith))

-- a refresh
later_refresh : (w : World) (x v : ℕ) → version_of w x ≤ v → IsLater w (refreshed w x v)
later_refresh w x v le = refresh_composed (IsLater w) w x v
    (λ k _ h. later_then w (look_at w x v) (with_link (look_at w x v) k (ended Moved (link_at w k))) h (later_end (look_at w x v) Moved k))
    (λ u _ h. let z : ℕ = right_of (view_in w v) x in later_then w u (open_to u x z) h (later_open u x z))
    (later_member w x (moved_to w x v) le)

-- who adds a view looks at it
later_newer : (w : World) (x : ℕ) (v : Group) → IsGood w → IsLater w (refreshed (with_view w v) x (newest w + 1))
later_newer w x v h = later_then w (with_view w v) (refreshed (with_view w v) x (newest w + 1)) (later_view w v) (later_refresh (with_view w v) x (newest w + 1) (omega (arith, h.inv.is_ring.held x)))

-- one event more
pub act_later : (w : World) (e : Act) → IsGood w → refusal w e ≡ None → IsLater w (effect w e)
act_later w e h = each_act (IsLater w) w e h (record {
  casts = λ x m u _. later_member w x (published x m (member_at w x)) (omega arith);
  puts = λ x o u out k. later_link w o (pushed (link_at w o) (next_packet (member_at w x) (link_at w o).sending)) (record { sender = refl; receiver = refl; opened = refl }) (λ b. b);
  takes = λ y s u m.
      let z : Member = taker w y s in
      later_then w (with_member w y z) (take_from w y s) (later_member w y z (omega arith)) (later_link (with_member w y z) s (popped (link_at w s)) (record { sender = refl; receiver = refl; opened = refl }) (λ o. o));
  begins = λ y s u m.
      let z : Member = begun (size w) (member_at w y) (oldest (link_at w s)) in
      later_then w (with_member w y z) (begin_from w y s) (later_member w y z (omega arith)) (later_link (with_member w y z) s (popped (link_at w s)) (record { sender = refl; receiver = refl; opened = refl }) (λ o. o));
  leaves = λ y s u current k. later_then w (current_is w y None) (leave_link w y s) (later_member w y (with_current None (member_at w y)) (omega arith))
      (later_link (current_is w y None) s (finished (link_at w s)) (record { sender = refl; receiver = refl; opened = refl }) (λ _. refl));
  gains = λ x o u out k. later_link w o _ (record { sender = refl; receiver = refl; opened = refl }) (λ b. b);
  stops = λ x u. later_then w (stop_at w x) (end_out Halted (stop_at w x) (member_at w x).out) (later_member w x (stopped (member_at w x)) (omega arith)) (end_composed (IsLater (stop_at w x)) Halted (stop_at w x) (member_at w x).out (λ k _ _. later_end (stop_at w x) Halted k) (later_same (stop_at w x)));
  marks = λ x d u m. later_newer w x (marked (view_in w (newest w)) d) h;
  erases = λ x d u m. later_newer w x (erased_view w d) h;
  syncs = λ x u m. later_newer w x (synced_view w x) h;
  admits = λ x name u k.
      later_then w (come_to w x name) (refreshed (come_to w x name) x (newest w + 1)) (later_come w x name)
      (later_refresh (come_to w x name) x (newest w + 1) (come_member w x name x (λ i a. a.version ≤ newest w + 1) (omega (arith, h.inv.is_ring.some)) (omega (arith, h.inv.is_ring.held x))));
  refreshes = λ x v u m. later_refresh w x v m.later;
  picks = λ y s u none e upto. later_member w y (with_current (Some s) (member_at w y)) (omega arith);
  refuses = later_same w;
}) (λ x m u _. later_member w x (copied m (member_at w x)) (omega arith))

-- ---- the test fails for good

-- in a later state
pub fails_later : (w w' : World) (y s : ℕ) → IsGood w → IsGood w' → IsLater w w' → s < length w.links → (link_at w s).receiver ≡ y → passes w y (link_at w s) ≡ false → passes w' y (link_at w' s) ≡ false
fails_later w w' y s h h' k there to fails = passes_is w' y s h' (omega (arith, k.links)) (e.receiver ∙ to) ∙ by_kept (is_kept w' l' (version_of w' y)) refl
  where
    l : Link
    l = link_at w s

    l' : Link
    l' = link_at w' s

    e : SameEnds l l'
    e = k.ends s there

    stays : Kept w' l' (version_of w' y) → Kept w l (version_of w y)
    stays kept u a b =
        let in_time : u < length w.views = omega (arith, h.inv.is_ring.held y, h.inv.is_ring.some) in
        left_is w u l.receiver (view_in w u) refl ∙ sym (left_is w' u l.receiver (view_in w u) (k.views u in_time)) ∙ ap (left w' u) (sym e.receiver)
        ∙ kept u (omega (arith, e.opened)) (omega (arith, k.version y)) ∙ e.sender

    by_kept : (b : Bool) → is_kept w' l' (version_of w' y) ≡ b → b ≡ false
    by_kept true q = absurd (false≢true (sym fails ∙ passes_is w y s h there to ∙ kept_true w l (version_of w y) (stays (true_kept w' l' (version_of w' y) q))))
    by_kept false q = refl
