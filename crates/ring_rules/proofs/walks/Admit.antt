-- An admission repeats the admitter's number as the new member's.
use Rattle.std.proofs.Common.{◌≡◌, ℕ, ◌<◌, ◌+◌, Bool, true, false, cond, List, [], ◌∷◌, ◌++◌, length, drop, refl, sym, ap, subst, ◌∙◌, arith, nat_eq, Option, Some, None}
use Rattle.std.specs.Prelude.{◌&&◌}
use Rattle.std.specs.List.{filter}
use Rattle.std.proofs.lemmas.List.{get_or_append_left, get_or_push, length_push}
use Rattle.group_view.specs.Ring.{rotated}
use Rattle.group_view.proofs.Joining.{with_after, MayAdmit, ids-admitted}
use Rattle.ring_rules.specs.declared.numbers.Numbers.{Numbers}
use Rattle.ring_rules.specs.Refusal.{is_empty}
use Rattle.ring_rules.specs.Rows.{Row}
use Rattle.ring_rules.specs.View.{ids}
use Rattle.ring_rules.specs.Machine.{Phase, Waiting, Up, Stopped, Packet, Link, World, no_link, no_member, row_at, numbers_at, member_at, link_at, view_in, newest, ring, runs, is_kept, is_waiting, runs_phase, oldest}
use Rattle.ring_rules.specs.Step.{size, joiner, admitted_view}
use Rattle.ring_rules.proofs.rings.Weakens.{Weakens, same, equal, joined}
use Rattle.ring_rules.proofs.walks.Links.{numbers_agree, numbers_none}
use Rattle.ring_rules.proofs.rings.Rounds.{nat_eq-same, nat_eq-not}
use Rattle.ring_rules.proofs.walks.Comes.{AllBelow, AllBelow-filter, round_came, rotated-with_after, filter-with_after, prefix-with_after, below_rotated}
use Rattle.ring_rules.proofs.walks.Packets.{Reads, reads_got, reads_forgot}
use Rattle.ring_rules.proofs.walks.Views.{kept_old, view_new}
use Rattle.ring_rules.proofs.walks.Twice.{one_round, Edits, edits_of}
use Rattle.ring_rules.proofs.invariants.Good.{IsRing, IsWaitingRight}
use Rattle.ring_rules.proofs.walks.Open.{opened_none, within_links}
use Rattle.ring_rules.proofs.walks.Put.{counted_other, number_up, runs_phase-Up}
use Rattle.ring_rules.proofs.walks.CountedWalk.{when, only, no_but, past_first, counted_by, is_early, round_of, retired_by, running_from, stopped_prefix, walk_over, walk, counted, numbers, stopped_from}
use Rattle.ring_rules.specs.OpenLinks.{first_packet, own_number, number}
use Rattle.group_view.proofs.Lists.{cond_empty_late}

-- its view, the member and the link, before m itself looks at it
abbrev pub come_with : List ℕ → Link → World → ℕ → World
come_with name l w m = record w { members = w.members ++ joiner w name ∷ []; links = w.links ++ l ∷ []; views = w.views ++ admitted_view w m name ∷ [] }

module _ (name : List ℕ) (l : Link) where
  -- ---- members and links

  pub come_member : (w : World) (m q : ℕ) → q < size w → member_at (come_with name l w m) q ≡ member_at w q
  come_member w m q l = get_or_append_left w.members (joiner w name ∷ []) no_member q l

  pub come_joiner : (w : World) (m : ℕ) → member_at (come_with name l w m) (size w) ≡ joiner w name
  come_joiner w m = get_or_push w.members (joiner w name) no_member (size w) refl

  -- what is known where m admits, and of the link that opens
  pub record CanAdmit (w : World) (m : ℕ) : Type 0 where
    pub is_member : m < size w
    pub up : (member_at w m).phase ≡ Up
    pub is_ring : IsRing w
    pub waiting : IsWaitingRight w
    -- ids of the ring and receivers of links are members
    pub below : AllBelow (size w) (ring w)
    pub receivers : (j : ℕ) → j < length w.links → (link_at w j).receiver < size w
    pub may : MayAdmit (view_in w (newest w)) m
    pub new_id : (view_in w (newest w)).next_id ≡ size w
    pub receiver : l.receiver ≡ size w
    pub opened : l.opened ≡ length w.views
    pub single : drop 1 l.packets ≡ []
    pub reads : (g : Numbers → ℕ) (r : Row → ℕ) → Reads g r → (p : ℕ) → g (numbers_at (oldest l) p) ≡ r (row_at (member_at w m) p)

  pub come_kept : (w : World) (m q : ℕ) (k : Link) → IsRing w → is_kept (come_with name l w m) k (member_at w q).version ≡ is_kept w k (member_at w q).version
  come_kept w m q k h = kept_old w (admitted_view w m name) k (member_at w q).version (let some : 0 < length w.views = h.some in omega (arith, h.held q))

  -- of an old member the same packets count
  pub come_counted : (w : World) (m q : ℕ) (k : Link) → IsRing w → q < size w → counted (come_with name l w m) q k ≡ counted w q k
  come_counted w m q k h lt =
      ap (λ y. counted_by (is_kept (come_with name l w m)) q y k) (come_member w m q lt)
      ∙ ap (λ b. when (nat_eq k.receiver q && b) (past_first (is_waiting (member_at w q).phase && nat_eq k.opened (member_at w q).version) k.packets)) (come_kept w m q k h)

  pub come_numbers : (f : Packet → ℕ) (w : World) (m q : ℕ) → IsRing w → l.receiver ≡ size w → q < size w → numbers f (counted (come_with name l w m) q) (come_with name l w m).links ≡ numbers f (counted w q) w.links
  come_numbers f w m q h to lt =
      opened_none f (counted (come_with name l w m) q) w (l) (counted_other (come_with name l w m) q (l) (λ e. omega (arith, e, to, lt)))
      ∙ numbers_agree f (counted (come_with name l w m) q) (counted w q) w.links (λ j _. come_counted w m q (link_at w j) h lt)

  pub come_early : (f : Packet → ℕ) (early : Link → Bool) (w : World) (m q : ℕ) → IsRing w → l.receiver ≡ size w → q < size w → numbers f (only early (counted (come_with name l w m) q)) (come_with name l w m).links ≡ numbers f (only early (counted w q)) w.links
  come_early f early w m q h to lt =
      opened_none f (only early (counted (come_with name l w m) q)) w (l) (none_early (early (l)) (counted_other (come_with name l w m) q (l) (λ e. omega (arith, e, to, lt))))
      ∙ numbers_agree f (only early (counted (come_with name l w m) q)) (only early (counted w q)) w.links (λ j _. ap (λ c. cond (early (link_at w j)) c []) (come_counted w m q (link_at w j) h lt))
    where
      none_early : {c : List Packet} (b : Bool) → c ≡ [] → cond b c [] ≡ []
      none_early true e = e
      none_early false e = refl

  pub come_late : (f : Packet → ℕ) (early : Link → Bool) (w : World) (m q : ℕ) → IsRing w → l.receiver ≡ size w → q < size w → numbers f (no_but early (counted (come_with name l w m) q)) (come_with name l w m).links ≡ numbers f (no_but early (counted w q)) w.links
  come_late f early w m q h to lt =
      opened_none f (no_but early (counted (come_with name l w m) q)) w (l) (cond_empty_late (early l) _ (counted_other (come_with name l w m) q (l) (λ e. omega (arith, e, to, lt))))
      ∙ numbers_agree f (no_but early (counted (come_with name l w m) q)) (no_but early (counted w q)) w.links (λ j _. ap (λ c. cond (early (link_at w j)) [] c) (come_counted w m q (link_at w j) h lt))

  -- and to the new one nothing comes but its first packet
  pub come_nothing : (f : Packet → ℕ) (w : World) (m : ℕ) → CanAdmit w m → numbers f (counted (come_with name l w m) (size w)) (come_with name l w m).links ≡ []
  come_nothing f w m h =
      opened_none f (counted (come_with name l w m) (size w)) w l
      (ap (λ y. counted_by (is_kept (come_with name l w m)) (size w) y l) (come_joiner w m) ∙ rw (ap (λ v. nat_eq v (length w.views)) h.opened ∙ nat_eq-same (length w.views)) (by_kept (nat_eq l.receiver (size w) && is_kept (come_with name l w m) l (length w.views))))
      ∙ numbers_none f (counted (come_with name l w m) (size w)) w.links (λ j lt. counted_other (come_with name l w m) (size w) (link_at w j) (λ e. omega (arith, h.receivers j lt, e)))
    where
      by_kept : (a : Bool) → when a (drop 1 l.packets) ≡ []
      by_kept true = h.single
      by_kept false = refl

  -- ---- numbers

  pub come_number : (g : Numbers → ℕ) (r : Row → ℕ) (w : World) (m p q : ℕ) → IsWaitingRight w → q < size w → number g r (come_with name l w m) p q ≡ number g r w p q
  come_number g r w m p q h lt = ap (λ y. own_number g r (come_with name l w m) p y.phase y) (come_member w m q lt) ∙ by_phase (member_at w q).phase refl
    where
      by_current : (c : Option ℕ) → ((s : ℕ) → c ≡ Some s → is_empty (link_at w s).packets ≡ false) → first_packet (come_with name l w m) c ≡ first_packet w c
      by_current None e = refl
      by_current (Some s) e = ap oldest (get_or_append_left w.links (l ∷ []) no_link s (within_links w s (e s refl)))

      by_phase : (f : Phase) → (member_at w q).phase ≡ f → own_number g r (come_with name l w m) p f (member_at w q) ≡ own_number g r w p f (member_at w q)
      by_phase Waiting e = ap (λ j. g (numbers_at j p)) (by_current (member_at w q).current (λ s c. h.first q s e c))
      by_phase Up e = refl
      by_phase Stopped e = refl

  pub come_own : (g : Numbers → ℕ) (r : Row → ℕ) (w : World) (m p : ℕ) → Reads g r → CanAdmit w m → number g r (come_with name l w m) p (size w) ≡ number g r w p m
  come_own g r w m p gr h =
      ap (λ y. own_number g r (come_with name l w m) p y.phase y) (come_joiner w m)
      ∙ ap (λ k. g (numbers_at (oldest k) p)) (get_or_push w.links l no_link (length w.links) refl)
      ∙ h.reads g r gr p
      ∙ sym (number_up g r w p m h.up)

  pub come_runs : (w : World) (m q : ℕ) → q < size w → runs (come_with name l w m) q ≡ runs w q
  come_runs w m q lt = ap (λ y. runs_phase y.phase) (come_member w m q lt)

  -- ---- the walk of an old origin

  pub come_ring : (w : World) (m : ℕ) → CanAdmit w m → ring (come_with name l w m) ≡ with_after m (size w) (ring w)
  come_ring w m h =
      let some : 0 < length w.views = h.is_ring.some in
      let more : length (w.views ++ admitted_view w m name ∷ []) ≡ length w.views + 1 = length_push w.views _ in
      ap ids (view_new w (admitted_view w m name) (newest (come_with name l w m)) (omega arith))
      ∙ ids-admitted (view_in w (newest w)) m name h.may ∙ ap (λ n. with_after m n (ring w)) h.new_id

  pub come_round : (g : Numbers → ℕ) (r : Row → ℕ) (w : World) (m p y : ℕ) (st ys : List ℕ) → Reads g r → CanAdmit w m → AllBelow (size w) (y ∷ ys) → Weakens (round_of g r w p st (y ∷ ys)) (round_of g r (come_with name l w m) p st (with_after m (size w) (y ∷ ys)))
  come_round g r w m p y st ys gr h al =
      let f : Packet → ℕ = λ k. g (numbers_at k p) in
      round_came (λ q. numbers f (only (is_early st) (counted w q)) w.links) (λ q. numbers f (only (is_early st) (counted (come_with name l w m) q)) (come_with name l w m).links)
      (λ q. numbers f (counted w q) w.links) (λ q. numbers f (counted (come_with name l w m) q) (come_with name l w m).links)
      (λ q. numbers f (no_but (is_early st) (counted w q)) w.links) (λ q. numbers f (no_but (is_early st) (counted (come_with name l w m) q)) (come_with name l w m).links)
      (number g r w p) (number g r (come_with name l w m) p) m (size w) y ys
      (λ q lt. come_numbers f w m q h.is_ring h.receiver lt)
      (λ q lt. come_number g r w m p q h.waiting lt)
      (come_nothing f w m h)
      (come_own g r w m p gr h)
      (come_early f (is_early st) w m y h.is_ring h.receiver al.0)
      (come_late f (is_early st) w m y h.is_ring h.receiver al.0)
      al.0 al.1

  -- the ring from an origin on, those of it that run, and those that have stopped before them
  come_turn : (w : World) (m p : ℕ) → CanAdmit w m → p < size w → rotated p (ring (come_with name l w m)) ≡ with_after m (size w) (rotated p (ring w))
  come_turn w m p h pl = ap (rotated p) (come_ring w m h) ∙ rotated-with_after p m (size w) (ring w) (nat_eq-not (size w) p (λ e. omega arith))

  come_running : (w : World) (m p : ℕ) → CanAdmit w m → p < size w → running_from (come_with name l w m) p ≡ with_after m (size w) (running_from w p)
  come_running w m p h pl = ap (filter (runs (come_with name l w m))) (come_turn w m p h pl)
      ∙ filter-with_after (runs w) (runs (come_with name l w m)) m (size w) (rotated p (ring w)) (below_rotated (size w) p (ring w) h.below) (λ q lt. come_runs w m q lt) (ap (λ y. runs_phase y.phase) (come_joiner w m)) (runs_phase-Up w m h.up)

  come_prefix : (w : World) (m p : ℕ) → CanAdmit w m → p < size w → stopped_from (come_with name l w m) p ≡ stopped_from w p
  come_prefix w m p h pl = ap (stopped_prefix (runs (come_with name l w m))) (come_turn w m p h pl)
      ∙ prefix-with_after (runs w) (runs (come_with name l w m)) m (size w) (rotated p (ring w)) (below_rotated (size w) p (ring w) h.below) (λ q lt. come_runs w m q lt) (runs_phase-Up w m h.up)

  pub come_walk : (w : World) (m p : ℕ) → CanAdmit w m → p < size w → Weakens (walk w p) (walk (come_with name l w m) p)
  come_walk w m p h pl =
      subst (λ st. Weakens (walk w p) (walk_over (come_with name l w m) p st (running_from (come_with name l w m) p))) (sym (come_prefix w m p h pl))
      (subst (λ us. Weakens (walk w p) (walk_over (come_with name l w m) p (stopped_from w p) us)) (sym (come_running w m p h pl))
      (by_running (running_from w p) (AllBelow-filter (runs w) (size w) (rotated p (ring w)) below)))
    where
      below : AllBelow (size w) (rotated p (ring w))
      below = below_rotated (size w) p (ring w) h.below

      by_running : (us : List ℕ) → AllBelow (size w) us → Weakens (walk_over w p (stopped_from w p) us) (walk_over (come_with name l w m) p (stopped_from w p) (with_after m (size w) us))
      by_running [] al = same []
      by_running (y ∷ ys) al =
          joined (round_of (λ k. k.got) (λ r. r.got) w p (stopped_from w p) (y ∷ ys)) (round_of (λ k. k.got) (λ r. r.got) (come_with name l w m) p (stopped_from w p) (with_after m (size w) (y ∷ ys))) _ _
          (come_round (λ k. k.got) (λ r. r.got) w m p y (stopped_from w p) ys reads_got h al)
          (joined (round_of (λ k. k.forgot) (λ r. r.forgot) w p (stopped_from w p) (y ∷ ys)) (round_of (λ k. k.forgot) (λ r. r.forgot) (come_with name l w m) p (stopped_from w p) (with_after m (size w) (y ∷ ys))) (retired_by w p (y ∷ ys)) (retired_by (come_with name l w m) p (with_after m (size w) (y ∷ ys)))
          (come_round (λ k. k.forgot) (λ r. r.forgot) w m p y (stopped_from w p) ys reads_forgot h al)
          (equal _ _ (ap (λ z. (row_at z p).retired ∷ []) (sym (come_member w m y al.0)))))

  -- the same of the two rounds
  pub come_edits : (w : World) (m p : ℕ) → CanAdmit w m → p < size w → Edits w (come_with name l w m) p
  come_edits w m p h pl = edits_of w (come_with name l w m) p (one (λ k. k.got) (λ r. r.got) reads_got) (one (λ k. k.forgot) (λ r. r.forgot) reads_forgot)
    where
      below : AllBelow (size w) (rotated p (ring w))
      below = below_rotated (size w) p (ring w) h.below

      by_running : (g : Numbers → ℕ) (r : Row → ℕ) → Reads g r → (us : List ℕ) → AllBelow (size w) us → Weakens (round_of g r w p (stopped_from w p) us) (round_of g r (come_with name l w m) p (stopped_from w p) (with_after m (size w) us))
      by_running g r gr [] al = same []
      by_running g r gr (y ∷ ys) al = come_round g r w m p y (stopped_from w p) ys gr h al

      one : (g : Numbers → ℕ) (r : Row → ℕ) → Reads g r → Weakens (one_round g r w p) (one_round g r (come_with name l w m) p)
      one g r gr =
          subst (λ st. Weakens (one_round g r w p) (round_of g r (come_with name l w m) p st (running_from (come_with name l w m) p))) (sym (come_prefix w m p h pl))
          (subst (λ us. Weakens (one_round g r w p) (round_of g r (come_with name l w m) p (stopped_from w p) us)) (sym (come_running w m p h pl))
          (by_running g r gr (running_from w p) (AllBelow-filter (runs w) (size w) (rotated p (ring w)) below)))
