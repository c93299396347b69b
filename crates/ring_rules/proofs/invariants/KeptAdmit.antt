-- An admission keeps the whole invariant.
use Rattle.std.proofs.Common.{◌≡◌, ◌≢◌, ◌⊎◌, ℕ, zero, suc, ◌<◌, ◌≤◌, ◌+◌, Bool, true, false, cond, List, [], ◌∷◌, ◌++◌, length, map, get_or, refl, sym, ap, subst, ◌∙◌, arith, nat_eq, ⊎_elim, Option, Some, None, is_some}
use Rattle.std.specs.Prelude.{◌&&◌}
use Rattle.std.specs.List.{filter, range_with_len}
use Rattle.std.proofs.lemmas.Bool.{cases_lt, cases_eq, false≢true}
use Rattle.std.proofs.lemmas.List.{length-set, length_push, get_or_append_left, get_or_push, get_or-set_same}
use Rattle.group_view.specs.Ring.{is_in, AreDistinct, before, others, rotated}
use Rattle.group_view.specs.View.{Group}
use Rattle.group_view.proofs.Joining.{one_after, with_after, MayAdmit, ids-admitted, live_old, live_new, stays_in, comes_in, left_in_new, right_in_new, left_in_old, distinct_after, others-with_after}
use Rattle.group_view.proofs.Neighbours.{left_is_left, IsLeft, itself, other}
use Rattle.ring_rules.specs.declared.numbers.Numbers.{Numbers}
use Rattle.ring_rules.specs.Rows.{Row, no_row, born_row}
use Rattle.ring_rules.specs.Refusal.{is_empty}
use Rattle.ring_rules.specs.View.{ids, is_live, left_of, right_of, between}
use Rattle.ring_rules.specs.Machine.{Phase, Waiting, Up, Stopped, Packet, Member, Link, World, no_member, no_link, no_packet, no_sending, row_at, numbers_at, member_at, link_at, view_in, newest, ring, left, right, runs, runs_phase, is_kept, is_waiting, oldest}
use Rattle.ring_rules.specs.Step.{size, log_of, with_member, with_view, look_at, moved_to, kept_current, next_packet, opened_link, open_to, joiner, admitted_view, come_to}
use Rattle.ring_rules.proofs.rings.Lists.{at_set, at_push, get_or_beyond}
use Rattle.ring_rules.proofs.rings.Weakens.{Weakens, then}
use Rattle.ring_rules.proofs.walks.Links.{IsOr, kept, AllZero}
use Rattle.ring_rules.proofs.rings.Rounds.{nat_eq-same, nat_eq-not}
use Rattle.ring_rules.proofs.invariants.Good.{Kept, IsRing, IsLinked, kept_true, never_rises_still}
use Rattle.ring_rules.proofs.walks.Back.{Closes, closes_walk}
use Rattle.ring_rules.proofs.walks.Twice.{Edits, edits_then, closes_edits}
use Rattle.group_view.proofs.Passing.{are_mutual}
use Rattle.group_view.proofs.Marks.{left_is as left_of_entry, right_is as right_of_entry}
use Rattle.ring_rules.proofs.walks.Views.{left_in_view, view_old, view_new, left_is, left_old, right_is, right_old, kept_old}
use Rattle.ring_rules.proofs.invariants.Period.{IsHistory}
use Rattle.ring_rules.proofs.invariants.Standing.{knows, IsOrdered}
use Rattle.ring_rules.proofs.invariants.Ordered.{ordered_more}
use Rattle.ring_rules.proofs.invariants.Marked.{Ages, history_more}
use Rattle.ring_rules.proofs.walks.OwnerStops.{AllPackets, IsPacket, IsPacked, IsRetiredRight, AllZero-past, AllZero-when, AllPackets-AllZero}
use Rattle.ring_rules.proofs.walks.Refresh.{blind, later_counts}
use Rattle.ring_rules.proofs.walks.Open.{with_opened, within_links}
use Rattle.ring_rules.proofs.walks.Put.{runs_phase-Up}
use Rattle.ring_rules.proofs.walks.Packets.{Reads, reads_got, reads_forgot, line_of_packet}
use Rattle.ring_rules.proofs.invariants.Kept.{Inv, AllPackets-map, AllPackets-first}
use Rattle.ring_rules.proofs.invariants.KeptLook.{kept_current-Some}
use Rattle.ring_rules.proofs.invariants.KeptOpen.{out_member, out_number}
use Rattle.ring_rules.proofs.walks.Comes.{AllBelow, in_one_after, filter-with_after, rotated-with_after, below_rotated}
use Rattle.ring_rules.proofs.walks.Admit.{come_with, CanAdmit, come_walk, come_edits}
use Rattle.ring_rules.proofs.walks.Joined.{ring_joined, order_after}
use Rattle.ring_rules.proofs.walks.ZeroWalk.{IsUnsaid, unsaid_walk}
use Rattle.ring_rules.specs.OpenLinks.{NeverRises, own_number, number, first_packet}
use Rattle.ring_rules.proofs.walks.CountedWalk.{counted_by, walk, running_from, counted}
use Rattle.group_view.proofs.Rings.{distinct_others}
use Rattle.group_view.proofs.Truth.{later_true}

-- a member that has a later version, and the same rows
pub later_own : (g : Numbers → ℕ) (r : Row → ℕ) (w : World) (x p : ℕ) (y : Member) → (member_at w x).phase ≡ Up → y.phase ≡ Up → y.rows ≡ (member_at w x).rows → own_number g r w p y.phase y ≡ number g r w p x
later_own g r w x p y up yup same =
    ap (λ f. own_number g r w p f y) yup ∙ ap (λ rs. r (get_or rs p no_row)) same ∙ sym (ap (λ f. own_number g r w p f (member_at w x)) up)

pub later_closes : (w : World) (x p : ℕ) (y : Member) → x < size w → (member_at w x).phase ≡ Up → y.phase ≡ Up → (member_at w x).version ≤ y.version → y.rows ≡ (member_at w x).rows → Closes w (with_member w x y) p
later_closes w x p y l up yup le same =
    record {
      many = refl;
      senders = λ j. refl;
      is_ring = refl;
      runs_same = λ q. at_set (λ k z. runs_phase z.phase ≡ runs w k) w.members x q y no_member l (ap runs_phase (yup ∙ sym up)) (λ _. refl);
      counts = λ q j. at_set (λ k z. IsOr (counted_by (is_kept w) k z (link_at w j)) (counted w k (link_at w j))) w.members x q y no_member l
          (later_counts w x j y up yup le) (λ _. kept refl);
      own_got = λ q. at_set (λ k z. own_number (λ k. k.got) (λ r. r.got) w p z.phase z ≡ number (λ k. k.got) (λ r. r.got) w p k) w.members x q y no_member l (later_own (λ k. k.got) (λ r. r.got) w x p y up yup same) (λ _. refl);
      own_forgot = λ q. at_set (λ k z. own_number (λ k. k.forgot) (λ r. r.forgot) w p z.phase z ≡ number (λ k. k.forgot) (λ r. r.forgot) w p k) w.members x q y no_member l (later_own (λ k. k.forgot) (λ r. r.forgot) w x p y up yup same) (λ _. refl);
      retires = λ q. at_set (λ k z. (row_at z p).retired ≡ (row_at (member_at w k) p).retired) w.members x q y no_member l (ap (λ rs. (get_or rs p no_row).retired) same) (λ _. refl);
    }

pub later_walk : (w : World) (x p : ℕ) (y : Member) → x < size w → (member_at w x).phase ≡ Up → y.phase ≡ Up → (member_at w x).version ≤ y.version → y.rows ≡ (member_at w x).rows → Weakens (walk w p) (walk (with_member w x y) p)
later_walk w x p y l up yup le same = closes_walk w (with_member w x y) p (later_closes w x p y l up yup le same)

-- what is known where m admits
pub record CanJoin (w : World) (m : ℕ) : Type 0 where
  pub is_member : m < size w
  pub up : (member_at w m).phase ≡ Up
  pub inv : Inv w
  pub may : MayAdmit (view_in w (newest w)) m
  pub new_id : (view_in w (newest w)).next_id ≡ size w
  pub below : (q : ℕ) → is_in q (ring w) ≡ true → q < size w

all_below : (n : ℕ) (xs : List ℕ) → ((q : ℕ) → is_in q xs ≡ true → q < n) → AllBelow n xs
all_below n [] h = tt
all_below n (x ∷ xs) h = (h x (rw (nat_eq-same x) refl), all_below n xs (λ q i. h q (later_true (nat_eq q x) i)))

-- the state after m has admitted one of this name, before the earlier out link of m ends
abbrev pub joined_state : World → ℕ → List ℕ → World
joined_state w m name = open_to (look_at (come_to w m name) m (newest w + 1)) m (size w)

-- what a member that waits afterwards takes first: the new one the packet of m, the others what they took
pub data JoinFirst (w : World) (m : ℕ) (name : List ℕ) (q s : ℕ) : Type 0 where
  came : q ≡ size w → ((p : ℕ) → (numbers_at (oldest (link_at (joined_state w m name) s)) p).got ≡ (row_at (member_at w m) p).got) → JoinFirst w m name q s
  was : q ≢ size w → (member_at w q).phase ≡ Waiting → (member_at w q).current ≡ Some s → oldest (link_at (joined_state w m name) s) ≡ oldest (link_at w s) → JoinFirst w m name q s

module _ (w : World) (m : ℕ) (name : List ℕ) (h : CanJoin w m) where
  abbrev n : ℕ
  n = size w

  abbrev v : ℕ
  v = newest w + 1

  abbrev g : Group
  g = admitted_view w m name

  abbrev wc : World
  wc = come_to w m name

  abbrev wl : World
  wl = look_at wc m v

  abbrev l : Link
  l = opened_link wl m n

  abbrev joined : World
  joined = joined_state w m name

  abbrev new_view : World
  new_view = with_view w g

  -- ---- views

  some_views : 0 < length w.views
  some_views = h.inv.is_ring.some

  is_new : length w.views ≡ v
  is_new = omega (arith, some_views)

  newest_now : newest joined ≡ v
  newest_now = omega (arith, length_push w.views g, is_new)

  old_view : (u : ℕ) → u ≤ newest w → u < length w.views
  old_view u a = omega (arith, some_views)

  view_now : view_in joined v ≡ g
  view_now = view_new w g v is_new

  view_was : (u : ℕ) → u ≤ newest w → view_in joined u ≡ view_in w u
  view_was u a = view_old w g u (old_view u a)

  left_was : (u y : ℕ) → u ≤ newest w → left joined u y ≡ left w u y
  left_was u y a = left_old w g u y (old_view u a)

  right_was : (u y : ℕ) → u ≤ newest w → right joined u y ≡ right w u y
  right_was u y a = right_old w g u y (old_view u a)

  left_now : (y : ℕ) → left joined v y ≡ left_of g y
  left_now y = left_is new_view v y g view_now

  right_now : (y : ℕ) → right joined v y ≡ right_of g y
  right_now y = right_is new_view v y g view_now

  m_stands : is_in m (ring w) ≡ true
  m_stands = h.inv.is_ring.stands m (newest w) (runs_phase-Up w m h.up) (h.inv.is_ring.held m) (omega arith)

  left_of_new : left_of g n ≡ m
  left_of_new = ap (left_of g) (sym h.new_id) ∙ left_of_entry g.entries (view_in w (newest w)).next_id (comes_in (view_in w (newest w)) m name h.may) ∙ left_in_new (view_in w (newest w)) m name h.may

  pub right_of_m : right_of g m ≡ n
  right_of_m = right_of_entry g.entries m (stays_in (view_in w (newest w)) m name h.may m m_stands) ∙ right_in_new (view_in w (newest w)) m name h.may ∙ h.new_id

  ids_now : ids g ≡ with_after m n (ring w)
  ids_now = ids-admitted (view_in w (newest w)) m name h.may ∙ ap (λ k. with_after m k (ring w)) h.new_id

  pub there_still : (y : ℕ) → is_in y (ring w) ≡ true → is_in y (ids g) ≡ true
  there_still y i = stays_in (view_in w (newest w)) m name h.may y i

  there_now : is_in n (ids g) ≡ true
  there_now = ap (λ k. is_in k (ids g)) (sym h.new_id) ∙ comes_in (view_in w (newest w)) m name h.may

  live_still : (q : ℕ) → q ≢ n → is_live g q ≡ is_live (view_in w (newest w)) q
  live_still q d = live_old (view_in w (newest w)) m name h.may q (λ e. d (e ∙ h.new_id))

  pub live_in_new : is_live g n ≡ true
  live_in_new = ap (is_live g) (sym h.new_id) ∙ live_new (view_in w (newest w)) m name h.may

  below_all : (u q : ℕ) → u ≤ newest w → knows w u q ≡ true → q < n
  below_all u q a i = h.below q (h.inv.history.grows q u (newest w) i a (omega arith))

  fresh : (u : ℕ) → u ≤ newest w → knows w u n ≡ false
  fresh u a = by_test (knows w u n) refl
    where
      by_test : (b : Bool) → knows w u n ≡ b → b ≡ false
      by_test false e = refl
      by_test true e = absurd (let lt : n < n = below_all u n a e in omega arith)

  pub receivers : (s : ℕ) → s < length w.links → (link_at w s).receiver < n
  receivers s lt = below_all (link_at w s).opened (link_at w s).receiver (h.inv.linked.opened s lt) (h.inv.history.known s lt)

  -- a left neighbour is somebody
  senders : (s : ℕ) → s < length w.links → (link_at w s).sender < n
  senders s lt = by_left (left_is_left (is_live (view_in w o)) (link_at w s).sender r (ids (view_in w o)) (distinct_others r (ids (view_in w o)) (h.inv.is_ring.distinct o upto) here) here (sym (left_in_view w o r here) ∙ h.inv.linked.from_left s lt))
    where
      o : ℕ
      o = (link_at w s).opened

      r : ℕ
      r = (link_at w s).receiver

      upto : o ≤ newest w
      upto = h.inv.linked.opened s lt

      here : knows w o r ≡ true
      here = h.inv.history.known s lt

      by_left : IsLeft (is_live (view_in w o)) (link_at w s).sender r (ids (view_in w o)) → (link_at w s).sender < n
      by_left (itself e) = subst (λ q. q < n) (sym e) (receivers s lt)
      by_left (other _ i) = below_all o (link_at w s).sender upto i

  -- ---- members

  -- m afterwards
  b : Member
  b = record (member_at w m) { version = v; current = kept_current (λ s. is_kept wc (link_at wc s) v) (member_at w m).current; out = Some (length w.links) }

  was_m : member_at wc m ≡ member_at w m
  was_m = get_or_append_left w.members (joiner w name ∷ []) no_member m h.is_member

  in_wc : m < size wc
  in_wc = omega (arith, h.is_member, length_push w.members (joiner w name))

  looks : member_at wl m ≡ moved_to wc m v
  looks = get_or-set_same wc.members m (moved_to wc m v) no_member in_wc

  in_wl : m < size wl
  in_wl = omega (arith, in_wc, length-set wc.members m (moved_to wc m v))

  out_is : out_member wl m ≡ b
  unfolding b
  out_is =
      ap (λ (a : Member). record a { out = Some (length w.links) }) looks
      ∙ ap (λ (a : Member). record a { version = v; current = kept_current (λ s. is_kept wc (link_at wc s) v) a.current; out = Some (length w.links) }) was_m

  mem : (q : ℕ) (P : ℕ → Member → Type 0) → P m b → P n (joiner w name) → (q ≢ m → q < n → P q (member_at w q)) → (n < q → P q no_member) → P q (member_at joined q)
  mem q P here new old beyond =
      at_set P wl.members m q (out_member wl m) no_member in_wl (subst (P m) (sym out_is) here)
      (λ d. at_set (λ i a. i ≢ m → P i a) wc.members m q (moved_to wc m v) no_member in_wc (λ k. absurd (k refl)) (λ _ d2. come d2) d)
    where
      come : q ≢ m → P q (member_at wc q)
      come d = ⊎_elim
          (λ (lt : q < n). subst (P q) (sym (get_or_append_left w.members (joiner w name ∷ []) no_member q lt)) (old d lt))
          (λ (ge : n ≤ q). ⊎_elim
          (λ (is : q ≡ n). subst (λ k. P k (member_at wc k)) (sym is) (subst (P n) (sym (get_or_push w.members (joiner w name) no_member n refl)) new))
          (λ (d2 : q ≢ n). subst (P q) (sym (get_or_beyond wc.members q no_member (omega (arith, length_push w.members (joiner w name))))) (beyond (omega arith)))
          (cases_eq q n))
          (cases_lt q n)

  -- what is known of the members afterwards, without m's exact state
  pub join_member : (q : ℕ) (P : ℕ → Member → Type 0) → ((a : Member) → a.out ≡ Some (length w.links) → ((s : ℕ) → a.current ≡ Some s → (member_at w m).current ≡ Some s) → P m a) → P n (joiner w name) → (q ≢ m → q < n → P q (member_at w q)) → (n < q → P q no_member) → P q (member_at joined q)
  unfolding b
  join_member q P here new old beyond = mem q P (here b refl (λ s e. (kept_current-Some (λ s. is_kept wc (link_at wc s) v) (member_at w m).current s e).0)) new old beyond

  pub many : size joined ≡ n + 1
  many = omega (arith, length_push w.members (joiner w name), length-set wc.members m (moved_to wc m v), length-set wl.members m (out_member wl m))

  apart : m ≢ n
  apart e = let lt : m < size w = h.is_member in omega arith

  up_b : b.phase ≡ Up
  unfolding b
  up_b = h.up

  version_b : b.version ≡ v
  unfolding b
  version_b = refl

  rows_b : b.rows ≡ (member_at w m).rows
  unfolding b
  rows_b = refl

  out_b : b.out ≡ Some (length w.links)
  unfolding b
  out_b = refl

  current_b : (s : ℕ) → b.current ≡ Some s → ((member_at w m).current ≡ Some s) × (is_kept wc (link_at wc s) v ≡ true)
  unfolding b
  current_b s e = kept_current-Some (λ s. is_kept wc (link_at wc s) v) (member_at w m).current s e

  joiner_row : (p : ℕ) → ((row_at (joiner w name) p).got ≡ 0) × (((row_at (joiner w name) p).forgot ≡ 0) × ((row_at (joiner w name) p).retired ≡ 0))
  joiner_row p = by_list (range_with_len 0 (n + 1)) p
    where
      by_list : (xs : List ℕ) (p : ℕ) → ((get_or (map (λ p. born_row (log_of w p)) xs) p no_row).got ≡ 0) × (((get_or (map (λ p. born_row (log_of w p)) xs) p no_row).forgot ≡ 0) × ((get_or (map (λ p. born_row (log_of w p)) xs) p no_row).retired ≡ 0))
      by_list [] p = (refl, (refl, refl))
      by_list (x ∷ xs) zero = (refl, (refl, refl))
      by_list (x ∷ xs) (suc p) = by_list xs p

  -- ---- the link

  rows_l : (member_at wl m).rows ≡ (member_at w m).rows
  rows_l = ap (λ a. a.rows) looks ∙ ap (λ a. a.rows) was_m

  version_l : (member_at wl m).version ≡ v
  version_l = ap (λ a. a.version) looks

  opened_l : l.opened ≡ v
  opened_l = version_l

  k : Packet
  k = next_packet (member_at wl m) no_sending

  reads_l : (f : Numbers → ℕ) (r : Row → ℕ) → Reads f r → (p : ℕ) → f (numbers_at k p) ≡ r (row_at (member_at w m) p)
  unfolding k
  reads_l f r fr p = line_of_packet f r (member_at wl m) no_sending p fr ∙ ap (λ rs. r (get_or rs p no_row)) rows_l

  within : (s : ℕ) → s < length joined.links → s < length w.links + 1
  within s lt = omega (arith, length_push w.links l)

  link_was : (s : ℕ) → s < length w.links → link_at joined s ≡ link_at w s
  link_was s lt = get_or_append_left w.links (l ∷ []) no_link s lt

  link_now : link_at joined (length w.links) ≡ l
  link_now = get_or_push w.links l no_link (length w.links) refl

  -- what m doesn't know of the new view it knows nothing of
  unknown_m : (p : ℕ) → knows joined v p ≡ false → ((row_at (member_at w m) p).got ≡ 0) × ((row_at (member_at w m) p).forgot ≡ 0)
  unknown_m p e = h.inv.numbered.zero m p (by_test (knows w (member_at w m).version p) refl)
    where
      by_test : (c : Bool) → knows w (member_at w m).version p ≡ c → c ≡ false
      by_test false _ = refl
      by_test true i = absurd (false≢true (sym e ∙ ap (λ a. is_in p (ids a)) view_now ∙ there_still p (h.inv.history.grows p (member_at w m).version (newest w) i (h.inv.is_ring.held m) (omega arith))))

  -- ---- the ring, its order and its history

  left_kept : (x z : ℕ) → x ≢ m → is_in z (ring w) ≡ true → left w (newest w) z ≡ x → left_of g z ≡ x
  left_kept x z d i e = left_of_entry g.entries z (there_still z i) ∙ left_in_old (view_in w (newest w)) m name h.may x z d i (sym (left_in_view w (newest w) z i) ∙ e)

  is_ring_now : IsRing joined
  is_ring_now = ring_joined w joined m n g h.inv.is_ring h.inv.history (record {
    views = refl;
    distinct = subst AreDistinct (sym ids_now) (distinct_after m n (ring w) (h.inv.is_ring.distinct (newest w) (omega arith)) (fresh (newest w) (omega arith)));
    held = λ x. mem x (λ i a. a.version ≤ length w.views) (omega (arith, version_b, is_new)) (omega arith) (λ _ _. omega (arith, h.inv.is_ring.held x)) (λ _. omega arith);
    old_runs = λ x r dm dn. mem x (λ i a. i ≢ m → i ≢ n → runs_phase a.phase ≡ true → runs w i ≡ true) (λ d _ _. absurd (d refl)) (λ _ d _. absurd (d refl)) (λ _ _ _ _ r2. r2) (λ _ _ _ r2. absurd (false≢true r2)) dm dn r;
    old_view = λ x r dm dn. mem x (λ i a. i ≢ m → i ≢ n → runs_phase a.phase ≡ true → a.version ≡ (member_at w i).version) (λ d _ _. absurd (d refl)) (λ _ d _. absurd (d refl)) (λ _ _ _ _ _. refl) (λ _ _ _ r2. absurd (false≢true r2)) dm dn r;
    m_view = mem m (λ i a. i ≡ m → a.version ≡ length w.views) (λ _. version_b ∙ sym is_new) (λ e. absurd (apart (sym e))) (λ d _ e. absurd (d e)) (λ lt e. absurd (omega (arith, lt, h.is_member))) refl;
    n_view = mem n (λ i a. i ≡ n → a.version ≡ length w.views) (λ e. absurd (apart e)) (λ _. refl) (λ _ lt _. absurd (omega arith)) (λ lt _. absurd (omega arith)) refl;
    stands = λ x. mem x (λ i a. runs_phase a.phase ≡ true → is_in i (ids g) ≡ true) (λ _. there_still m m_stands) (λ _. there_now) (λ _ _ r. there_still x (h.inv.is_ring.stands x (newest w) r (h.inv.is_ring.held x) (omega arith))) (λ _ r. absurd (false≢true r));
    lives = λ x. mem x (λ i a. runs_phase a.phase ≡ true → is_live g i ≡ true) (λ _. live_still m apart ∙ h.may.lives) (λ _. live_in_new)
        (λ _ lt r. live_still x (λ e. omega (arith, e, lt)) ∙ h.inv.is_ring.lives x (newest w) r (h.inv.is_ring.held x) (omega arith)) (λ _ r. absurd (false≢true r));
    front = λ x z r d i e. left_kept x z d i e;
  })

  ages : Ages w g
  ages = record {
    grows = λ z i. there_still z i;
    dies = λ z i lv. sym (live_still z (λ e. let lt : z < n = h.below z i in omega arith)) ∙ lv;
  }

  history_view : IsHistory new_view
  history_view = history_more w g h.inv.is_ring h.inv.linked h.inv.history ages

  history_now : IsHistory joined
  history_now = record {
    grows = history_view.grows;
    dies = history_view.dies;
    known = λ s lt. at_push (λ i a. is_in a.receiver (ids (view_in joined a.opened)) ≡ true) w.links s l no_link (within s lt)
        (ap (λ u. is_in n (ids (view_in joined u))) opened_l ∙ ap (λ a. is_in n (ids a)) view_now ∙ there_now) (λ old. history_view.known s old);
  }

  ordered_view : IsOrdered new_view
  ordered_view = ordered_more w g h.inv.is_ring (order_after w m n g ids_now h.inv.is_ring h.inv.history h.inv.ordered h.may.lives fresh)

  ordered_now : IsOrdered joined
  ordered_now = record { part = ordered_view.part; order = ordered_view.order }

  -- ---- links

  new_left : left joined l.opened n ≡ m
  new_left = ap (λ u. left joined u n) opened_l ∙ left_now n ∙ left_of_new

  later : (q : ℕ) → (member_at w q).version ≤ (member_at joined q).version
  later q = mem q (λ i a. (member_at w i).version ≤ a.version) (omega (arith, version_b, h.inv.is_ring.held m)) (omega (arith, ap (λ a. a.version) (get_or_beyond w.members n no_member (omega arith)))) (λ _ _. omega arith)
      (λ lt. omega (arith, ap (λ a. a.version) (get_or_beyond w.members q no_member (omega arith))))

  -- what is said of the out link of a running member
  by_out : (q o : ℕ) (P : ℕ → ℕ → ℕ → Type 0) → P m v (length w.links) → (q ≢ m → q < n → runs w q ≡ true → (member_at w q).out ≡ Some o → P q (member_at w q).version o) → runs joined q ≡ true → (member_at joined q).out ≡ Some o → P q (member_at joined q).version o
  by_out q o P here old = mem q (λ i a. runs_phase a.phase ≡ true → a.out ≡ Some o → P i a.version o)
      (λ _ e. let is : length w.links ≡ o = (let both : Some (length w.links) ≡ Some o = sym out_b ∙ e in cc) in subst (λ c. P m c o) (sym version_b) (subst (P m v) is here))
      (λ _ e. cc) (λ d lt r e. old d lt r e) (λ _ r _. absurd (false≢true r))

  linked_now : IsLinked joined
  linked_now = record {
    opened = λ s lt. at_push (λ i a. a.opened ≤ newest joined) w.links s l no_link (within s lt) (omega (arith, opened_l, newest_now)) (λ old. omega (arith, h.inv.linked.opened s old, newest_now));
    from_left = λ s lt. at_push (λ i a. left joined a.opened a.receiver ≡ a.sender) w.links s l no_link (within s lt) new_left (λ old. left_was (link_at w s).opened (link_at w s).receiver (h.inv.linked.opened s old) ∙ h.inv.linked.from_left s old);
    seen = λ s lt. at_push (λ i a. a.opened ≤ (member_at joined a.sender).version) w.links s l no_link (within s lt)
        (mem m (λ i a. i ≡ m → l.opened ≤ a.version) (λ _. omega (arith, opened_l, version_b)) (λ e. absurd (apart (sym e))) (λ d _ e. absurd (d e)) (λ lt2 e. absurd (omega (arith, lt2, h.is_member))) refl)
        (λ old. omega (arith, h.inv.linked.seen s old, later (link_at w s).sender));
    period = λ i j ij jl e.
        let il : i < length w.links = omega (arith, within j jl) in
        let was_i : link_at joined i ≡ link_at w i = link_was i il in
        subst (λ a. is_kept joined a (link_at joined j).opened ≡ false) (sym was_i)
        (at_push (λ c a. i < c → (link_at w i).receiver ≡ a.receiver → is_kept joined (link_at w i) a.opened ≡ false) w.links j l no_link (within j jl)
        (λ _ same. absurd (let lt : (link_at w i).receiver < n = receivers i il in omega (arith, same, lt)))
        (λ old lt same. kept_old w g (link_at w i) (link_at w j).opened (old_view (link_at w j).opened (h.inv.linked.opened j old)) ∙ h.inv.linked.period i j lt old same)
        ij (ap (λ a. a.receiver) (sym was_i) ∙ e));
    out_lt = λ q o r e. by_out q o (λ i u c. c < length joined.links) (omega (arith, length_push w.links l)) (λ d lt r2 e2. omega (arith, length_push w.links l, h.inv.linked.out_lt q o r2 e2)) r e;
    out_from = λ q o r e. by_out q o (λ i u c. (link_at joined c).sender ≡ i) (ap (λ a. a.sender) link_now) (λ d lt r2 e2. ap (λ a. a.sender) (link_was o (h.inv.linked.out_lt q o r2 e2)) ∙ h.inv.linked.out_from q o r2 e2) r e;
    out_to = λ q o r e. by_out q o (λ i u c. (link_at joined c).receiver ≡ right joined u i) (ap (λ a. a.receiver) link_now ∙ sym (right_now m ∙ right_of_m))
        (λ d lt r2 e2. ap (λ a. a.receiver) (link_was o (h.inv.linked.out_lt q o r2 e2)) ∙ h.inv.linked.out_to q o r2 e2 ∙ sym (right_was (member_at w q).version q (h.inv.is_ring.held q))) r e;
    out_kept = λ q o r e. by_out q o (λ i u c. Kept joined (link_at joined c) u)
        (subst (λ a. Kept joined a v) (sym link_now) (λ u a c. let now : u ≡ l.opened = omega (arith, opened_l, a, c) in ap (λ t. left joined t n) now ∙ new_left))
        (λ d lt r2 e2. subst (λ a. Kept joined a (member_at w q).version) (sym (link_was o (h.inv.linked.out_lt q o r2 e2)))
        (λ u a c. left_was u (link_at w o).receiver (omega (arith, c, h.inv.is_ring.held q)) ∙ h.inv.linked.out_kept q o r2 e2 u a c)) r e;
    is_out = λ s lt. at_push (λ i a. runs joined a.sender ≡ true → Kept joined a (member_at joined a.sender).version → is_live (view_in joined (member_at joined a.sender).version) a.receiver ≡ true → (member_at joined a.sender).out ≡ Some i) w.links s l no_link (within s lt)
        (λ _ _ _. mem m (λ i a. i ≡ m → a.out ≡ Some (length w.links)) (λ _. out_b) (λ e. absurd (apart (sym e))) (λ d _ e. absurd (d e)) (λ lt2 e. absurd (omega (arith, lt2, h.is_member))) refl)
        (λ old. old_out s old);
  }
    where
      old_out : (s : ℕ) → s < length w.links → runs joined (link_at w s).sender ≡ true → Kept joined (link_at w s) (member_at joined (link_at w s).sender).version → is_live (view_in joined (member_at joined (link_at w s).sender).version) (link_at w s).receiver ≡ true → (member_at joined (link_at w s).sender).out ≡ Some s
      old_out s lt = mem (link_at w s).sender
          (λ i a. i ≡ (link_at w s).sender → runs_phase a.phase ≡ true → Kept joined (link_at w s) a.version → is_live (view_in joined a.version) (link_at w s).receiver ≡ true → a.out ≡ Some s)
          (λ is r kp lv. absurd (not_m s lt (sym is) (subst (Kept joined (link_at w s)) version_b kp) (subst (λ u. is_live (view_in joined u) (link_at w s).receiver ≡ true) version_b lv)))
          (λ is r kp lv. absurd (let lt2 : (link_at w s).sender < n = senders s lt in omega (arith, is, lt2)))
          (λ d lt2 is r kp lv.
          let held : (member_at w (link_at w s).sender).version ≤ newest w = h.inv.is_ring.held (link_at w s).sender in
          h.inv.linked.is_out s lt r (λ u a c. sym (left_was u (link_at w s).receiver (omega (arith, c, held))) ∙ kp u a c)
          (subst (λ a. is_live a (link_at w s).receiver ≡ true) (view_was (member_at w (link_at w s).sender).version held) lv))
          (λ _ _ r _ _. absurd (false≢true r)) refl
        where
          -- m's old links aren't kept up to the new version
          not_m : (s : ℕ) → s < length w.links → (link_at w s).sender ≡ m → Kept joined (link_at w s) v → is_live (view_in joined v) (link_at w s).receiver ≡ true → ⊥
          not_m s lt is kp lv =
              let z : ℕ = (link_at w s).receiver in
              let lz : left_of g z ≡ m = sym (left_now z) ∙ kp v (omega (arith, h.inv.linked.opened s lt)) (omega arith) ∙ is in
              let live : is_live g z ≡ true = sym (ap (λ a. is_live a z) view_now) ∙ lv in
              let dis : AreDistinct (ids g) = subst (λ a. AreDistinct (ids a)) view_now (is_ring_now.distinct v (omega (arith, newest_now))) in
              let rz : right_of g m ≡ z = ap (right_of g) (sym lz) ∙ (are_mutual g.entries z dis live).right_of_left in
              let same : n ≡ z = sym right_of_m ∙ rz in
              let less : z < n = receivers s lt in
              omega (arith, same, less)

  -- ---- numbers

  new_packet : IsPacket joined l k
  unfolding k
  new_packet = record {
    from = omega arith;
    upto = omega (arith, version_l, newest_now);
    kept = λ u a c. let now : u ≡ l.opened = omega (arith, a, c) in ap (λ t. left joined t n) now ∙ new_left;
    zero = λ p e.
        let z = unknown_m p (ap (λ u. knows joined u p) (sym version_l) ∙ e) in
        (reads_l (λ k. k.got) (λ r. r.got) reads_got p ∙ z.0, reads_l (λ k. k.forgot) (λ r. r.forgot) reads_forgot p ∙ z.1);
  }

  packed_now : IsPacked joined
  unfolding k
  packed_now = record {
    packets = λ s lt. at_push (λ i a. AllPackets (IsPacket joined a) a.packets) w.links s l no_link (within s lt) (new_packet, tt)
        (λ old. AllPackets-map (IsPacket w (link_at w s)) (IsPacket joined (link_at w s)) (link_at w s).packets
        (λ j q. record {
          from = q.from;
          upto = omega (arith, q.upto, newest_now);
          kept = λ u a c. left_was u (link_at w s).receiver (omega (arith, c, q.upto)) ∙ q.kept u a c;
          zero = λ p e. q.zero p (sym (ap (λ a. is_in p (ids a)) (view_was j.version q.upto)) ∙ e);
        }) (h.inv.packed.packets s old));
  }

  -- the others have the rows that they had, and it those with which it joined
  pub join_old : (q p : ℕ) → q ≢ n → row_at (member_at joined q) p ≡ row_at (member_at w q) p
  join_old q p d = mem q (λ i a. i ≢ n → row_at a p ≡ row_at (member_at w i) p) (λ _. ap (λ rs. get_or rs p no_row) rows_b) (λ d2. absurd (d2 refl)) (λ _ _ _. refl)
      (λ lt _. ap (λ a. row_at a p) (sym (get_or_beyond w.members q no_member (omega arith)))) d

  pub join_row : (p : ℕ) → row_at (member_at joined n) p ≡ row_at (joiner w name) p
  join_row p = mem n (λ i a. i ≡ n → row_at a p ≡ row_at (joiner w name) p) (λ e. absurd (apart e)) (λ _. refl) (λ _ lt _. absurd (omega arith)) (λ lt _. absurd (omega arith)) refl

  beyond_now : (q p : ℕ) → n ≤ p → (row_at (member_at joined q) p).retired ≡ 0
  beyond_now q p ge = ⊎_elim
      (λ (is : q ≡ n). ap (λ i. (row_at (member_at joined i) p).retired) is ∙ ap (λ a. a.retired) (join_row p) ∙ (joiner_row p).1.1)
      (λ (d : q ≢ n). ap (λ a. a.retired) (join_old q p d) ∙ h.inv.numbered.beyond q p ge)
      (cases_eq q n)

  running_now : (p : ℕ) → p < n → running_from joined p ≡ with_after m n (running_from w p)
  running_now p lt =
      ap (λ us. filter (runs joined) (rotated p us)) (ap ids (ap (view_in joined) newest_now ∙ view_now) ∙ ids_now)
      ∙ ap (filter (runs joined)) (rotated-with_after p m n (ring w) (nat_eq-not n p (λ e. omega (arith, e, lt))))
      ∙ filter-with_after (runs w) (runs joined) m n (rotated p (ring w)) (below_rotated n p (ring w) (all_below n (ring w) h.below)) runs_old runs_new (runs_phase-Up w m h.up)
    where
      runs_old : (q : ℕ) → q < n → runs joined q ≡ runs w q
      runs_old q ql = mem q (λ i a. i < n → runs_phase a.phase ≡ runs w i) (λ _. ap runs_phase (up_b ∙ sym h.up)) (λ bad. absurd (omega arith)) (λ _ _ _. refl) (λ lt2 bad. absurd (omega arith)) ql

      runs_new : runs joined n ≡ true
      runs_new = mem n (λ i a. i ≡ n → runs_phase a.phase ≡ true) (λ e. absurd (apart e)) (λ _. refl) (λ _ lt2 _. absurd (omega arith)) (λ lt2 _. absurd (omega arith)) refl

  retired_now : IsRetiredRight joined
  retired_now = record { none = λ p a c us r e i. by_origin p a c us r e i (cases_lt p n) }
    where
      old_ring : (p : ℕ) → p < n → is_in p (ring joined) ≡ true → is_in p (ring w) ≡ true
      old_ring p lt r = in_one_after m n p p (ring w) (nat_eq-not p n (λ e. omega (arith, e, lt))) (by_case (nat_eq p m) (sym (ap (is_in p) (ap ids (ap (view_in joined) newest_now ∙ view_now) ∙ ids_now)) ∙ r))
        where
          by_case : (c : Bool) → is_in p (with_after m n (ring w)) ≡ true → is_in p (cond c (n ∷ []) [] ++ with_after m n (ring w)) ≡ true
          by_case true t = rw (nat_eq-not p n (λ e. omega (arith, e, lt))) t
          by_case false t = t

      by_list : (p a c : ℕ) (us ys : List ℕ) → p < n → is_in p (ring joined) ≡ true → running_from w p ≡ ys → with_after m n ys ≡ a ∷ us → is_in c us ≡ true → c ≢ n → (row_at (member_at w c) p).retired ≡ 0
      by_list p a c us [] lt r e f i d = cc
      by_list p a c us (y ∷ ys) lt r e f i d =
          let tail : one_after m n y ++ with_after m n ys ≡ us = cc in
          h.inv.retired.none p y c ys (old_ring p lt r) e (in_one_after m n c y ys (nat_eq-not c n d) (ap (is_in c) tail ∙ i))

      by_origin : (p a c : ℕ) (us : List ℕ) → is_in p (ring joined) ≡ true → running_from joined p ≡ a ∷ us → is_in c us ≡ true → (p < n) ⊎ (n ≤ p) → (row_at (member_at joined c) p).retired ≡ 0
      by_origin p a c us r e i t = ⊎_elim
          (λ (lt : p < n). ⊎_elim
          (λ (is : c ≡ n). ap (λ q. (row_at (member_at joined q) p).retired) is ∙ ap (λ q. q.retired) (join_row p) ∙ (joiner_row p).1.1)
          (λ (d : c ≢ n). ap (λ q. q.retired) (join_old c p d) ∙ by_list p a c us (running_from w p) lt r refl (sym (running_now p lt) ∙ e) i d)
          (cases_eq c n))
          (λ (ge : n ≤ p). beyond_now c p ge)
          t

  -- who doesn't run afterwards was there before, and didn't run, and its rows are as they were
  pub join_rests : (q : ℕ) → q < size joined → runs joined q ≡ false → (q < n) × ((runs w q ≡ false) × (member_at joined q ≡ member_at w q))
  join_rests q lt = mem q (λ i a. i ≡ q → runs_phase a.phase ≡ false → (i < n) × ((runs w i ≡ false) × (a ≡ member_at w i)))
      (λ _ r. absurd (false≢true (sym r ∙ ap runs_phase up_b))) (λ _ r. absurd (false≢true (sym r))) (λ _ ql _ r. (ql, (r, refl))) (λ bad _ _. absurd (omega (arith, many, lt, bad))) refl

  -- its views have one more
  pub join_view : view_in joined (newest joined) ≡ g
  join_view = ap (view_in joined) newest_now ∙ view_now

  pub join_log : (p : ℕ) → log_of joined p ≡ log_of w p
  unfolding b
  join_log p = mem p (λ i a. i ≡ p → a.log ≡ log_of w p) (λ is. ap (λ i. log_of w i) is) (λ is. sym (ap (λ a. a.log) (get_or_beyond w.members p no_member (omega (arith, is))))) (λ _ _ _. refl)
      (λ lt _. sym (ap (λ a. a.log) (get_or_beyond w.members p no_member (omega arith)))) refl

  pub join_first : (q s : ℕ) → (member_at joined q).phase ≡ Waiting → (member_at joined q).current ≡ Some s → JoinFirst w m name q s
  unfolding k
  join_first q s = mem q (λ i a. i ≡ q → a.phase ≡ Waiting → a.current ≡ Some s → JoinFirst w m name i s)
      (λ _ e. absurd (let bad : Up ≡ Waiting = sym up_b ∙ e in cc))
      (λ _ _ c. let is : length w.links ≡ s = cc in came refl (λ p. ap (λ j. (numbers_at (oldest (link_at joined j)) p).got) (sym is) ∙ ap (λ a. (numbers_at (oldest a) p).got) link_now ∙ reads_l (λ i. i.got) (λ r. r.got) reads_got p))
      (λ _ lt _ e c. was (λ is. omega (arith, is, lt)) e c (ap oldest (link_was s (h.inv.current.lt q s (ap runs_phase e) c))))
      (λ _ _ e. cc) refl

  -- nobody stands between m and the one that comes
  nobody_between : before n (others m (ids g)) ≡ []
  nobody_between =
      ap (λ us. before n (others m us)) ids_now
      ∙ ap (before n) (others-with_after m m n (ring w) (nat_eq-not n m (λ e. omega (arith, e, h.is_member))) m_stands)
      ∙ rw (nat_eq-same m, nat_eq-same n) refl

  -- so where nobody stood between the others that wait and the senders of their links
  pub join_beside : ((q s : ℕ) → (member_at w q).phase ≡ Waiting → (member_at w q).current ≡ Some s → between (view_in w (member_at w q).version) (link_at w s).sender q ≡ [])
      → (q s : ℕ) → (member_at joined q).phase ≡ Waiting → (member_at joined q).current ≡ Some s → between (view_in joined (member_at joined q).version) (link_at joined s).sender q ≡ []
  unfolding k
  join_beside old q s = mem q (λ i a. a.phase ≡ Waiting → a.current ≡ Some s → between (view_in joined a.version) (link_at joined s).sender i ≡ [])
      (λ e. absurd (let bad : Up ≡ Waiting = sym up_b ∙ e in cc))
      (λ _ c. let is : length w.links ≡ s = cc in
      ap (λ u. between u (link_at joined s).sender n) (ap (view_in joined) is_new ∙ view_now)
      ∙ ap (λ i. between g (link_at joined i).sender n) (sym is)
      ∙ ap (λ (a : Link). between g a.sender n) link_now
      ∙ nobody_between)
      (λ _ _ e c.
      ap (λ u. between u (link_at joined s).sender q) (view_was (member_at w q).version (h.inv.is_ring.held q))
      ∙ ap (λ (a : Link). between (view_in w (member_at w q).version) a.sender q) (link_was s (h.inv.current.lt q s (ap runs_phase e) c))
      ∙ old q s e c)
      (λ _ e. cc)

  -- the first packet of one that waits isn't newer than its view
  pub join_version : ((q s : ℕ) → (member_at w q).phase ≡ Waiting → (member_at w q).current ≡ Some s → (oldest (link_at w s)).version ≤ (member_at w q).version)
      → (q s : ℕ) → (member_at joined q).phase ≡ Waiting → (member_at joined q).current ≡ Some s → (oldest (link_at joined s)).version ≤ (member_at joined q).version
  unfolding k
  join_version old q s = mem q (λ i a. a.phase ≡ Waiting → a.current ≡ Some s → (oldest (link_at joined s)).version ≤ a.version)
      (λ e. absurd (let bad : Up ≡ Waiting = sym up_b ∙ e in cc))
      (λ _ c. let is : length w.links ≡ s = cc in
      let now : (oldest (link_at joined s)).version ≡ l.opened = ap (λ i. (oldest (link_at joined i)).version) (sym is) ∙ ap (λ (a : Link). (oldest a).version) link_now in
      omega (arith, now, opened_l, is_new))
      (λ _ _ e c. omega (arith, ap (λ (a : Link). (oldest a).version) (link_was s (h.inv.current.lt q s (ap runs_phase e) c)), old q s e c))
      (λ _ e. cc)

  -- ---- the walk

  can : CanAdmit name l w m
  unfolding k
  can = record {
    is_member = h.is_member;
    up = h.up;
    is_ring = h.inv.is_ring;
    waiting = h.inv.waiting;
    below = all_below n (ring w) h.below;
    receivers = receivers;
    may = h.may;
    new_id = h.new_id;
    receiver = refl;
    opened = opened_l ∙ sym is_new;
    single = refl;
    reads = reads_l;
  }

  -- m with its view, and then with its out link
  pub old_walk : (p : ℕ) → p < n → Weakens (walk w p) (walk joined p)
  old_walk p lt =
      then (walk w p) (walk (come_with name l w m) p) (walk joined p) (come_walk name l w m p can lt)
      (then (walk (come_with name l w m) p) (walk (with_opened wl l) p) (walk joined p)
      (later_walk (come_with name l w m) m p (moved_to wc m v) in_wc (ap (λ a. a.phase) was_m ∙ h.up) (ap (λ a. a.phase) was_m ∙ h.up) (omega (arith, ap (λ a. a.version) was_m, h.inv.is_ring.held m)) refl)
      (closes_walk (with_opened wl l) joined p (blind (with_opened wl l) m p (out_member wl m) in_wl refl refl refl (λ f r. out_number f r (with_opened wl l) wl m p))))

  -- the same of the two rounds alone
  pub join_edits : (p : ℕ) → p < n → Edits w joined p
  join_edits p lt =
      edits_then w (come_with name l w m) joined p (come_edits name l w m p can lt)
      (edits_then (come_with name l w m) (with_opened wl l) joined p
      (closes_edits (come_with name l w m) (with_opened wl l) p (later_closes (come_with name l w m) m p (moved_to wc m v) in_wc (ap (λ a. a.phase) was_m ∙ h.up) (ap (λ a. a.phase) was_m ∙ h.up) (omega (arith, ap (λ a. a.version) was_m, h.inv.is_ring.held m)) refl))
      (closes_edits (with_opened wl l) joined p (blind (with_opened wl l) m p (out_member wl m) in_wl refl refl refl (λ f r. out_number f r (with_opened wl l) wl m p))))

  -- nothing is said of the one that comes
  zero_packets : (f : Packet → ℕ) → ((s : ℕ) (a : Link) → (j : Packet) → IsPacket w a j → f j ≡ 0) → f k ≡ 0 → (s : ℕ) → s < length joined.links → AllZero f (link_at joined s).packets
  unfolding k
  zero_packets f old new s lt = at_push (λ i a. AllZero f a.packets) w.links s l no_link (within s lt) (new, tt)
      (λ o. AllPackets-AllZero (IsPacket w (link_at w s)) f (link_at w s).packets (λ j q. old s (link_at w s) j q) (h.inv.packed.packets s o))

  unsaid : IsUnsaid joined n
  unfolding k
  unsaid = record {
    got = λ q j lt. counted_zero (λ i. (numbers_at i n).got) q j lt (zero_packets (λ i. (numbers_at i n).got) (λ s a i z. (z.zero n (fresh i.version z.upto)).0) (reads_l (λ i. i.got) (λ r. r.got) reads_got n ∙ (h.inv.numbered.zero m n (fresh (member_at w m).version (h.inv.is_ring.held m))).0) j lt);
    forgot = λ q j lt. counted_zero (λ i. (numbers_at i n).forgot) q j lt (zero_packets (λ i. (numbers_at i n).forgot) (λ s a i z. (z.zero n (fresh i.version z.upto)).1) (reads_l (λ i. i.forgot) (λ r. r.forgot) reads_forgot n ∙ (h.inv.numbered.zero m n (fresh (member_at w m).version (h.inv.is_ring.held m))).1) j lt);
    own_got = λ q. own_zero (λ i. i.got) (λ r. r.got) q reads_got (λ x. (h.inv.numbered.zero x n (fresh (member_at w x).version (h.inv.is_ring.held x))).0) (λ i u z. (z.zero n (fresh i.version z.upto)).0);
    own_forgot = λ q. own_zero (λ i. i.forgot) (λ r. r.forgot) q reads_forgot (λ x. (h.inv.numbered.zero x n (fresh (member_at w x).version (h.inv.is_ring.held x))).1) (λ i u z. (z.zero n (fresh i.version z.upto)).1);
    own_retired = λ q. beyond_now q n (omega arith);
  }
    where
      counted_zero : (f : Packet → ℕ) (q j : ℕ) → j < length joined.links → AllZero f (link_at joined j).packets → AllZero f (counted joined q (link_at joined j))
      counted_zero f q j lt a =
          AllZero-when f (nat_eq (link_at joined j).receiver q && is_kept joined (link_at joined j) (member_at joined q).version) _
          (AllZero-past f (is_waiting (member_at joined q).phase && nat_eq (link_at joined j).opened (member_at joined q).version) (link_at joined j).packets a)

      own_zero : (f : Numbers → ℕ) (r : Row → ℕ) (q : ℕ) → Reads f r → ((x : ℕ) → r (row_at (member_at w x) n) ≡ 0) → ((i : Packet) (u : Link) → IsPacket w u i → f (numbers_at i n) ≡ 0) → number f r joined n q ≡ 0
      own_zero f r q fr own said = mem q (λ i a. own_number f r joined n a.phase a ≡ 0)
          (ap (λ c. own_number f r joined n c b) up_b ∙ ap (λ rs. r (get_or rs n no_row)) rows_b ∙ own m)
          (ap (λ a. f (numbers_at (oldest a) n)) link_now ∙ reads_l f r fr n ∙ own m)
          (λ d lt. by_phase (member_at w q).phase refl)
          (λ _. sym fr.none ∙ f_none)
        where
          f_none : f (numbers_at no_packet n) ≡ 0
          f_none = fr.none ∙ sym (ap (λ a. r (row_at a n)) (get_or_beyond w.members (size w) no_member (omega arith))) ∙ own (size w)

          by_current : (c : Option ℕ) → ((s : ℕ) → c ≡ Some s → (s < length w.links) × (is_empty (link_at w s).packets ≡ false)) → f (numbers_at (first_packet joined c) n) ≡ 0
          by_current None e = f_none
          by_current (Some s) e =
              let t = e s refl in
              ap (λ a. f (numbers_at (oldest a) n)) (link_was s t.0)
              ∙ said (oldest (link_at w s)) (link_at w s) (AllPackets-first (IsPacket w (link_at w s)) (link_at w s).packets no_packet t.1 (h.inv.packed.packets s t.0))

          by_phase : (c : Phase) → (member_at w q).phase ≡ c → own_number f r joined n c (member_at w q) ≡ 0
          by_phase Waiting e = by_current (member_at w q).current (λ s t. (h.inv.current.lt q s (ap runs_phase e) t, h.inv.waiting.first q s e t))
          by_phase Up e = own q
          by_phase Stopped e = own q

  -- ---- the whole invariant

  pub join_keeps : Inv joined
  unfolding k
  join_keeps = record {
    is_ring = is_ring_now;
    linked = linked_now;
    history = history_now;
    ordered = ordered_now;
    packed = packed_now;
    numbered = record {
      zero = λ q p. mem q (λ i a. knows joined a.version p ≡ false → ((row_at a p).got ≡ 0) × ((row_at a p).forgot ≡ 0))
          (λ e. let z = unknown_m p (ap (λ u. knows joined u p) (sym version_b) ∙ e) in (ap (λ rs. (get_or rs p no_row).got) rows_b ∙ z.0, ap (λ rs. (get_or rs p no_row).forgot) rows_b ∙ z.1))
          (λ _. ((joiner_row p).0, (joiner_row p).1.0))
          (λ _ _ e. h.inv.numbered.zero q p (sym (ap (λ a. is_in p (ids a)) (view_was (member_at w q).version (h.inv.is_ring.held q))) ∙ e))
          (λ _ _. (refl, refl));
      beyond = λ q p ge. beyond_now q p (omega (arith, many, ge));
    };
    retired = retired_now;
    waiting = record {
      first = λ y s. mem y (λ i a. a.phase ≡ Waiting → a.current ≡ Some s → is_empty (link_at joined s).packets ≡ false)
          (λ e. absurd (not_b e))
          (λ _ e. let is : length w.links ≡ s = cc in ap (λ c. is_empty (link_at joined c).packets) (sym is) ∙ ap (λ a. is_empty a.packets) link_now)
          (λ _ _ e c. let was = h.inv.waiting.first y s e c in ap (λ a. is_empty a.packets) (link_was s (within_links w s was)) ∙ was)
          (λ _ e. cc);
      mine = λ y s. mem y (λ i a. a.phase ≡ Waiting → a.current ≡ Some s → (link_at joined s).receiver ≡ i)
          (λ e. absurd (not_b e))
          (λ _ e. let is : length w.links ≡ s = cc in ap (λ c. (link_at joined c).receiver) (sym is) ∙ ap (λ a. a.receiver) link_now)
          (λ _ _ e c. let was = h.inv.waiting.first y s e c in ap (λ a. a.receiver) (link_was s (within_links w s was)) ∙ h.inv.waiting.mine y s e c)
          (λ _ e. cc);
      admission = λ y s e lt. at_push (λ i a. a.receiver ≡ y → a.opened ≡ (member_at joined y).version → is_empty a.packets ≡ false) w.links s l no_link (within s lt)
          (λ _ _. refl)
          (λ old to. mem y (λ i a. i ≡ (link_at w s).receiver → a.phase ≡ Waiting → (link_at w s).opened ≡ a.version → is_empty (link_at w s).packets ≡ false)
          (λ _ e2. absurd (not_b e2))
          (λ is _ _. absurd (let lt2 : (link_at w s).receiver < n = receivers s old in omega (arith, is, lt2)))
          (λ _ _ is e2 o. h.inv.waiting.admission y s e2 old (sym is) o)
          (λ _ _ e2. cc) (sym to) e);
    };
    joining = record {
      some = λ y. mem y (λ i a. a.phase ≡ Waiting → is_some a.current ≡ true) (λ e. absurd (not_b e)) (λ _. refl) (λ _ _. h.inv.joining.some y) (λ _ e. cc);
      opened = λ y s. mem y (λ i a. a.phase ≡ Waiting → a.current ≡ Some s → (link_at joined s).opened ≡ a.version)
          (λ e. absurd (not_b e))
          (λ _ e. let is : length w.links ≡ s = cc in ap (λ c. (link_at joined c).opened) (sym is) ∙ ap (λ a. a.opened) link_now ∙ opened_l ∙ sym is_new)
          (λ _ _ e c. ap (λ a. a.opened) (link_was s (h.inv.current.lt y s (ap runs_phase e) c)) ∙ h.inv.joining.opened y s e c)
          (λ _ e. cc);
      rows = λ y p. mem y (λ i a. a.phase ≡ Waiting → ((row_at a p).got ≡ 0) × ((row_at a p).forgot ≡ 0)) (λ e. absurd (not_b e)) (λ _. ((joiner_row p).0, (joiner_row p).1.0)) (λ _ _ e. h.inv.joining.rows y p e) (λ _ e. cc);
    };
    current = record {
      lt = λ y s. mem y (λ i a. runs_phase a.phase ≡ true → a.current ≡ Some s → s < length joined.links)
          (λ _ e. omega (arith, length_push w.links l, h.inv.current.lt m s rm (current_b s e).0))
          (λ _ e. let is : length w.links ≡ s = cc in omega (arith, length_push w.links l))
          (λ _ _ r e. omega (arith, length_push w.links l, h.inv.current.lt y s r e))
          (λ _ r. absurd (false≢true r));
      receiver = λ y s. mem y (λ i a. runs_phase a.phase ≡ true → a.current ≡ Some s → (link_at joined s).receiver ≡ i)
          (λ _ e. let c = (current_b s e).0 in ap (λ a. a.receiver) (link_was s (h.inv.current.lt m s rm c)) ∙ h.inv.current.receiver m s rm c)
          (λ _ e. let is : length w.links ≡ s = cc in ap (λ c. (link_at joined c).receiver) (sym is) ∙ ap (λ a. a.receiver) link_now)
          (λ _ _ r e. ap (λ a. a.receiver) (link_was s (h.inv.current.lt y s r e)) ∙ h.inv.current.receiver y s r e)
          (λ _ r. absurd (false≢true r));
      kept_yet = λ y s. mem y (λ i a. runs_phase a.phase ≡ true → a.current ≡ Some s → is_kept joined (link_at joined s) a.version ≡ true)
          (λ _ e. let c = current_b s e in ap (λ a. is_kept joined a b.version) (link_was s (h.inv.current.lt m s rm c.0)) ∙ ap (is_kept joined (link_at w s)) version_b ∙ c.1)
          (λ _ e. let is : length w.links ≡ s = cc in
          ap (λ c. is_kept joined (link_at joined c) (length w.views)) (sym is) ∙ ap (λ a. is_kept joined a (length w.views)) link_now
          ∙ kept_true joined l (length w.views) (λ u a c. let now : u ≡ l.opened = omega (arith, opened_l, is_new, a, c) in ap (λ t. left joined t n) now ∙ new_left))
          (λ _ _ r e. ap (λ a. is_kept joined a (member_at w y).version) (link_was s (h.inv.current.lt y s r e)) ∙ kept_old w g (link_at w s) (member_at w y).version (old_view (member_at w y).version (h.inv.is_ring.held y)) ∙ h.inv.current.kept_yet y s r e)
          (λ _ r. absurd (false≢true r));
      opened = λ y s. mem y (λ i a. runs_phase a.phase ≡ true → a.current ≡ Some s → (link_at joined s).opened ≤ a.version)
          (λ _ e. let c = (current_b s e).0 in omega (arith, version_b, ap (λ a. a.opened) (link_was s (h.inv.current.lt m s rm c)), h.inv.current.opened m s rm c, h.inv.is_ring.held m))
          (λ _ e. let is : length w.links ≡ s = cc in omega (arith, ap (λ c. (link_at joined c).opened) is, ap (λ a. a.opened) link_now, opened_l, is_new))
          (λ _ _ r e. omega (arith, ap (λ a. a.opened) (link_was s (h.inv.current.lt y s r e)), h.inv.current.opened y s r e))
          (λ _ r. absurd (false≢true r));
    };
    origins = λ p some lt. ap (is_in p) (ap ids (ap (view_in joined) newest_now ∙ view_now)) ∙ ⊎_elim
        (λ (old : p < n). there_still p (h.inv.origins p some old))
        (λ (ge : n ≤ p). let is : p ≡ n = omega (arith, many, lt) in ap (λ q. is_in q (ids g)) is ∙ there_now)
        (cases_lt p n);
    walks = λ p some lt. ⊎_elim
        (λ (old : p < n). never_rises_still (walk w p) (walk joined p) (old_walk p old) (h.inv.walks p some old))
        (λ (ge : n ≤ p). let is : n ≡ p = omega (arith, many, lt) in subst (λ q. NeverRises (walk joined q)) is (unsaid_walk joined n unsaid))
        (cases_lt p n);
  }
    where
      rm : runs w m ≡ true
      rm = runs_phase-Up w m h.up

      not_b : b.phase ≡ Waiting → ⊥
      not_b e = let bad : Up ≡ Waiting = sym up_b ∙ e in cc
