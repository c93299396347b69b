-- A take loses the taker's old number.
use Rattle.std.proofs.Common.{◌≡◌, ◌≢◌, ℕ, ◌<◌, Bool, true, false, cond, List, [], ◌∷◌, ◌++◌, length, drop, get_or, set, refl, sym, ap, subst, ◌∙◌, arith, nat_eq, Option, Some, None, append_assoc}
use Rattle.std.specs.List.{filter, flat_map}
use Rattle.std.proofs.lemmas.Bool.{false≢true}
use Rattle.std.proofs.lemmas.List.FromFn.{get_or-map-range_with_len}
use Rattle.ring_rules.specs.Refusal.{is_empty}
use Rattle.group_view.specs.Ring.{rotated, is_in, AreDistinct, before, after}
use Rattle.ring_rules.specs.Machine.{Phase, Waiting, Up, Stopped, Packet, Link, World, no_link, no_packet, no_member, row_at, numbers_at, member_at, link_at, view_in, ring, runs, is_kept, runs_phase, oldest}
use Rattle.ring_rules.specs.Rows.{Row, no_row, taken_row}
use Rattle.ring_rules.specs.declared.numbers.Numbers.{Numbers}
use Rattle.ring_rules.proofs.walks.CountedWalk.{numbers, only, no_but, counted_by, counted, block, is_early, round_of, stopped_from, running_from, walk_over, walk}
use Rattle.ring_rules.specs.OpenLinks.{first_packet, own_number, number}
use Rattle.ring_rules.specs.Step.{size, popped, is_owned, taker, take_from, log_of}
use Rattle.ring_rules.proofs.rings.Lists.{at_set}
use Rattle.ring_rules.proofs.rings.Weakens.{Weakens, equal, joined}
use Rattle.ring_rules.proofs.walks.Links.{numbers_take, numbers_set, numbers_agree, numbers_none}
use Rattle.ring_rules.proofs.walks.Edits.{round_take, round_take_early, round_take_nothing, walk_take_round}
use Rattle.ring_rules.proofs.rings.Ring.{filter-split}
use Rattle.group_view.proofs.Lists.{cond_empty, cond_empty_late}
use Rattle.group_view.proofs.Rings.{not_in_before, not_in_first, not_in_others, others-rotated, is_in-rotated, nat_eq-same}
use Rattle.group_view.proofs.Neighbours.{not_in_filter}
use Rattle.ring_rules.proofs.walks.Back.{same_runners}
use Rattle.ring_rules.proofs.invariants.Good.{IsWaitingRight}
use Rattle.ring_rules.proofs.walks.Put.{counted_other, runs_phase-Up}
use Rattle.queue_core.specs.declared.message.Message.{Message}

-- what is known where y takes from its current link s
pub record CanTake (w : World) (y s : ℕ) : Type 0 where
  pub is_member : y < size w
  pub up : (member_at w y).phase ≡ Up
  pub is_link : s < length w.links
  pub receiver : (link_at w s).receiver ≡ y
  pub is_kept_so_far : is_kept w (link_at w s) (member_at w y).version ≡ true
  pub has : is_empty (link_at w s).packets ≡ false
  -- no earlier link has a packet that counts
  pub is_oldest : (j : ℕ) → j < s → counted w y (link_at w j) ≡ []
  pub waiting : IsWaitingRight w

abbrev pub taken_packet : World → ℕ → Packet
taken_packet w s = oldest (link_at w s)

pub first_of_packets : (ks : List Packet) → is_empty ks ≡ false → ks ≡ get_or ks 0 no_packet ∷ drop 1 ks
first_of_packets [] h = absurd (false≢true (sym h))
first_of_packets (k ∷ ks) h = refl

-- what counts is as before
pub take_counted : (w : World) (y s q : ℕ) (l : Link) → y < size w → counted (take_from w y s) q l ≡ counted w q l
take_counted w y s q l lt = at_set (λ k z. counted_by (is_kept w) k z l ≡ counted w k l) w.members y q (taker w y s) no_member lt refl (λ _. refl)

pub counted_taken : (w : World) (y s : ℕ) → CanTake w y s → counted w y (link_at w s) ≡ taken_packet w s ∷ counted w y (popped (link_at w s))
counted_taken w y s h =
    let t : nat_eq (link_at w s).receiver y ≡ true = subst (λ q. nat_eq q y ≡ true) (sym h.receiver) (nat_eq-same y) in
    rw (t, h.is_kept_so_far, h.up) (first_of_packets (link_at w s).packets h.has)

abbrev pub links_after : World → ℕ → List Link
links_after w s = set w.links s (popped (link_at w s))

pub take_numbers_other : (f : Packet → ℕ) (w : World) (y s q : ℕ) → CanTake w y s → q ≢ y → numbers f (counted (take_from w y s) q) (links_after w s) ≡ numbers f (counted w q) w.links
take_numbers_other f w y s q h differs =
    numbers_agree f (counted (take_from w y s) q) (counted w q) (links_after w s) (λ j _. take_counted w y s q (get_or (links_after w s) j no_link) h.is_member)
    ∙ numbers_set f (counted w q) w.links s (popped (link_at w s))
    (counted_other w q (popped (link_at w s)) (λ e. differs (sym e ∙ h.receiver)) ∙ sym (counted_other w q (link_at w s) (λ e. differs (sym e ∙ h.receiver))))

pub take_numbers : (f : Packet → ℕ) (w : World) (y s : ℕ) → CanTake w y s → numbers f (counted w y) w.links ≡ numbers f (counted (take_from w y s) y) (links_after w s) ++ f (taken_packet w s) ∷ []
take_numbers f w y s h =
    numbers_take f (counted w y) w.links s (popped (link_at w s)) (taken_packet w s) h.is_link (counted_taken w y s h) h.is_oldest
    ∙ ap (λ xs. xs ++ f (taken_packet w s) ∷ []) (sym (numbers_agree f (counted (take_from w y s) y) (counted w y) (links_after w s) (λ j _. take_counted w y s y (get_or (links_after w s) j no_link) h.is_member)))

-- the same of the early and of the late ones
pub take_early_other : (f : Packet → ℕ) (st : List ℕ) (w : World) (y s q : ℕ) → CanTake w y s → q ≢ y → numbers f (only (is_early st) (counted (take_from w y s) q)) (links_after w s) ≡ numbers f (only (is_early st) (counted w q)) w.links
take_early_other f st w y s q h differs =
    numbers_agree f (only (is_early st) (counted (take_from w y s) q)) (only (is_early st) (counted w q)) (links_after w s)
    (λ j _. ap (λ c. cond (is_early st (get_or (links_after w s) j no_link)) c []) (take_counted w y s q (get_or (links_after w s) j no_link) h.is_member))
    ∙ numbers_set f (only (is_early st) (counted w q)) w.links s (popped (link_at w s))
    (cond_empty (is_early st (link_at w s)) _ (counted_other w q (popped (link_at w s)) (λ e. differs (sym e ∙ h.receiver))) ∙ sym (cond_empty (is_early st (link_at w s)) _ (counted_other w q (link_at w s) (λ e. differs (sym e ∙ h.receiver)))))

pub take_late_other : (f : Packet → ℕ) (st : List ℕ) (w : World) (y s q : ℕ) → CanTake w y s → q ≢ y → numbers f (no_but (is_early st) (counted (take_from w y s) q)) (links_after w s) ≡ numbers f (no_but (is_early st) (counted w q)) w.links
take_late_other f st w y s q h differs =
    numbers_agree f (no_but (is_early st) (counted (take_from w y s) q)) (no_but (is_early st) (counted w q)) (links_after w s)
    (λ j _. ap (λ c. cond (is_early st (get_or (links_after w s) j no_link)) [] c) (take_counted w y s q (get_or (links_after w s) j no_link) h.is_member))
    ∙ numbers_set f (no_but (is_early st) (counted w q)) w.links s (popped (link_at w s))
    (cond_empty_late (is_early st (link_at w s)) _ (counted_other w q (popped (link_at w s)) (λ e. differs (sym e ∙ h.receiver))) ∙ sym (cond_empty_late (is_early st (link_at w s)) _ (counted_other w q (link_at w s) (λ e. differs (sym e ∙ h.receiver)))))

-- the link's packets are early
pub take_early : (f : Packet → ℕ) (st : List ℕ) (w : World) (y s : ℕ) → CanTake w y s → is_early st (link_at w s) ≡ true → numbers f (only (is_early st) (counted w y)) w.links ≡ numbers f (only (is_early st) (counted (take_from w y s) y)) (links_after w s) ++ f (taken_packet w s) ∷ []
take_early f st w y s h e =
    numbers_take f (only (is_early st) (counted w y)) w.links s (popped (link_at w s)) (taken_packet w s) h.is_link (rw e (counted_taken w y s h)) (λ j lt. cond_empty (is_early st (link_at w j)) _ (h.is_oldest j lt))
    ∙ ap (λ xs. xs ++ f (taken_packet w s) ∷ []) (sym (numbers_agree f (only (is_early st) (counted (take_from w y s) y)) (only (is_early st) (counted w y)) (links_after w s) (λ j _. ap (λ c. cond (is_early st (get_or (links_after w s) j no_link)) c []) (take_counted w y s y (get_or (links_after w s) j no_link) h.is_member))))

pub take_early_late : (f : Packet → ℕ) (st : List ℕ) (w : World) (y s : ℕ) → CanTake w y s → is_early st (link_at w s) ≡ true → numbers f (no_but (is_early st) (counted (take_from w y s) y)) (links_after w s) ≡ numbers f (no_but (is_early st) (counted w y)) w.links
take_early_late f st w y s h e =
    numbers_agree f (no_but (is_early st) (counted (take_from w y s) y)) (no_but (is_early st) (counted w y)) (links_after w s) (λ j _. ap (λ c. cond (is_early st (get_or (links_after w s) j no_link)) [] c) (take_counted w y s y (get_or (links_after w s) j no_link) h.is_member))
    ∙ numbers_set f (no_but (is_early st) (counted w y)) w.links s (popped (link_at w s)) (rw e refl)

-- or late
pub take_late : (f : Packet → ℕ) (st : List ℕ) (w : World) (y s : ℕ) → CanTake w y s → is_early st (link_at w s) ≡ false → numbers f (no_but (is_early st) (counted w y)) w.links ≡ numbers f (no_but (is_early st) (counted (take_from w y s) y)) (links_after w s) ++ f (taken_packet w s) ∷ []
take_late f st w y s h e =
    numbers_take f (no_but (is_early st) (counted w y)) w.links s (popped (link_at w s)) (taken_packet w s) h.is_link (rw e (counted_taken w y s h)) (λ j lt. cond_empty_late (is_early st (link_at w j)) _ (h.is_oldest j lt))
    ∙ ap (λ xs. xs ++ f (taken_packet w s) ∷ []) (sym (numbers_agree f (no_but (is_early st) (counted (take_from w y s) y)) (no_but (is_early st) (counted w y)) (links_after w s) (λ j _. ap (λ c. cond (is_early st (get_or (links_after w s) j no_link)) [] c) (take_counted w y s y (get_or (links_after w s) j no_link) h.is_member))))

pub take_late_early : (f : Packet → ℕ) (st : List ℕ) (w : World) (y s : ℕ) → CanTake w y s → is_early st (link_at w s) ≡ false → numbers f (only (is_early st) (counted (take_from w y s) y)) (links_after w s) ≡ numbers f (only (is_early st) (counted w y)) w.links
take_late_early f st w y s h e =
    numbers_agree f (only (is_early st) (counted (take_from w y s) y)) (only (is_early st) (counted w y)) (links_after w s) (λ j _. ap (λ c. cond (is_early st (get_or (links_after w s) j no_link)) c []) (take_counted w y s y (get_or (links_after w s) j no_link) h.is_member))
    ∙ numbers_set f (only (is_early st) (counted w y)) w.links s (popped (link_at w s)) (rw e refl)

-- ---- numbers of members

pub take_runs : (w : World) (y s q : ℕ) → y < size w → runs (take_from w y s) q ≡ runs w q
take_runs w y s q lt = at_set (λ k z. runs_phase z.phase ≡ runs w k) w.members y q (taker w y s) no_member lt refl (λ _. refl)

pub take_number_other : (g : Numbers → ℕ) (r : Row → ℕ) (w : World) (y s p q : ℕ) → CanTake w y s → q ≢ y → number g r (take_from w y s) p q ≡ number g r w p q
take_number_other g r w y s p q h differs =
    at_set (λ k z. k ≢ y → own_number g r (take_from w y s) p z.phase z ≡ number g r w p k) w.members y q (taker w y s) no_member h.is_member
    (λ same. absurd (same refl)) (λ _ _. by_phase (member_at w q).phase refl) differs
  where
    by_current : (c : Option ℕ) → ((t : ℕ) → c ≡ Some t → t ≢ s) → first_packet (take_from w y s) c ≡ first_packet w c
    by_current None e = refl
    by_current (Some t) e =
        at_set (λ j l. j ≢ s → oldest l ≡ oldest (link_at w j)) w.links s t (popped (link_at w s)) no_link h.is_link (λ n. absurd (n refl)) (λ _ _. refl) (e t refl)

    by_phase : (f : Phase) → (member_at w q).phase ≡ f → own_number g r (take_from w y s) p f (member_at w q) ≡ own_number g r w p f (member_at w q)
    by_phase Waiting e = ap (λ j. g (numbers_at j p)) (by_current (member_at w q).current (λ t c is. differs (sym (h.waiting.mine q t e c) ∙ ap (λ j. (link_at w j).receiver) is ∙ h.receiver)))
    by_phase Up e = refl
    by_phase Stopped e = refl

pub row_at-taker : (w : World) (y s p : ℕ) → p < size w → row_at (taker w y s) p ≡ taken_row (is_owned (view_in w (member_at w y).version) y (link_at w s).sender p) (log_of w p) (row_at (member_at w y) p) (numbers_at (taken_packet w s) p)
row_at-taker w y s p lt =
    get_or-map-range_with_len (λ p. taken_row (is_owned (view_in w (member_at w y).version) y (link_at w s).sender p) (log_of w p) (row_at (member_at w y) p) (numbers_at (taken_packet w s) p)) 0 (size w) p p no_row lt (omega arith)

pub take_row : (w : World) (y s p : ℕ) → y < size w → p < size w → row_at (member_at (take_from w y s) y) p ≡ taken_row (is_owned (view_in w (member_at w y).version) y (link_at w s).sender p) (log_of w p) (row_at (member_at w y) p) (numbers_at (taken_packet w s) p)
take_row w y s p lt pl = at_set (λ k z. k ≡ y → row_at z p ≡ taken_row (is_owned (view_in w (member_at w y).version) y (link_at w s).sender p) (log_of w p) (row_at (member_at w y) p) (numbers_at (taken_packet w s) p)) w.members y y (taker w y s) no_member lt (λ _. row_at-taker w y s p pl) (λ ne e. absurd (ne e)) refl

pub take_phase : (w : World) (y s : ℕ) → y < size w → (member_at (take_from w y s) y).phase ≡ (member_at w y).phase
take_phase w y s lt = at_set (λ k z. z.phase ≡ (member_at w k).phase) w.members y y (taker w y s) no_member lt refl (λ _. refl)

pub take_number : (g : Numbers → ℕ) (r : Row → ℕ) (w : World) (y s p : ℕ) → CanTake w y s → p < size w → number g r (take_from w y s) p y ≡ r (taken_row (is_owned (view_in w (member_at w y).version) y (link_at w s).sender p) (log_of w p) (row_at (member_at w y) p) (numbers_at (taken_packet w s) p))
take_number g r w y s p h pl =
    ap (λ f. own_number g r (take_from w y s) p f (member_at (take_from w y s) y)) (take_phase w y s h.is_member ∙ h.up)
    ∙ ap r (take_row w y s p h.is_member pl)

-- where it doesn't own the origin, that is what the packet says
pub take_number_elsewhere : (g : Numbers → ℕ) (r : Row → ℕ) (w : World) (y s p : ℕ) → ((a : Row) (k : Numbers) (l : List Message) → r (taken_row false l a k) ≡ g k) → CanTake w y s → p < size w → is_owned (view_in w (member_at w y).version) y (link_at w s).sender p ≡ false → number g r (take_from w y s) p y ≡ g (numbers_at (taken_packet w s) p)
take_number_elsewhere g r w y s p gr h pl no_own =
    take_number g r w y s p h pl
    ∙ ap (λ b. r (taken_row b (log_of w p) (row_at (member_at w y) p) (numbers_at (taken_packet w s) p))) no_own
    ∙ gr (row_at (member_at w y) p) (numbers_at (taken_packet w s) p) (log_of w p)

-- ---- the walk

-- how origin p stands to the taker y of link s
pub data Standing (w : World) (y s p : ℕ) : Type 0 where
  -- y isn't its owner, and what y owns doesn't hold it
  elsewhere : (q : ℕ) (qs : List ℕ) → running_from w p ≡ q ∷ qs → q ≢ y → is_owned (view_in w (member_at w y).version) y (link_at w s).sender p ≡ false → Standing w y s p
  -- y is its owner, and the packet hasn't come round
  first_time : (qs : List ℕ) → running_from w p ≡ y ∷ qs → is_early (stopped_from w p) (link_at w s) ≡ true → is_owned (view_in w (member_at w y).version) y (link_at w s).sender p ≡ false → Standing w y s p
  -- y is its owner, and neither y's view nor the packet's knows it
  unknown : (qs : List ℕ) → running_from w p ≡ y ∷ qs → is_early (stopped_from w p) (link_at w s) ≡ false → is_owned (view_in w (member_at w y).version) y (link_at w s).sender p ≡ false → (numbers_at (taken_packet w s) p).got ≡ (row_at (member_at w y) p).got → (numbers_at (taken_packet w s) p).forgot ≡ (row_at (member_at w y) p).forgot → Standing w y s p
  -- y is its owner, and the packet has come round
  come_round : (qs : List ℕ) → running_from w p ≡ y ∷ qs → is_owned (view_in w (member_at w y).version) y (link_at w s).sender p ≡ true → ((j : ℕ) → only (is_early (stopped_from w p)) (counted w y) (link_at w j) ≡ []) → is_early (stopped_from w p) (link_at w s) ≡ false → Standing w y s p

-- ---- a round where y doesn't own the origin in its view

module _ (g : Numbers → ℕ) (r : Row → ℕ) (w : World) (y s p : ℕ) (says : (a : Row) (k : Numbers) (l : List Message) → r (taken_row false l a k) ≡ g k) (h : CanTake w y s) (pl : p < size w) (no_own : is_owned (view_in w (member_at w y).version) y (link_at w s).sender p ≡ false) where
  -- what a packet says of the origin
  abbrev said : Packet → ℕ
  said k = g (numbers_at k p)

  -- what counts at a member, of a state with these links: of the early packets, of all, and of the late ones
  abbrev early_at : World → List Link → ℕ → List ℕ
  early_at v ls q = numbers said (only (is_early (stopped_from w p)) (counted v q)) ls

  abbrev all_at : World → List Link → ℕ → List ℕ
  all_at v ls q = numbers said (counted v q) ls

  abbrev late_at : World → List Link → ℕ → List ℕ
  late_at v ls q = numbers said (no_but (is_early (stopped_from w p)) (counted v q)) ls

  -- y's own number is then what the packet says
  own_says : number g r (take_from w y s) p y ≡ said (taken_packet w s)
  own_says = take_number_elsewhere g r w y s p says h pl no_own

  -- y isn't the owner
  pub take_round_elsewhere : (q : ℕ) (qs : List ℕ) → q ≢ y → Weakens (round_of g r w p (stopped_from w p) (q ∷ qs)) (round_of g r (take_from w y s) p (stopped_from w p) (q ∷ qs))
  take_round_elsewhere q qs differs =
      round_take (early_at w w.links) (early_at (take_from w y s) (links_after w s)) (all_at w w.links) (all_at (take_from w y s) (links_after w s)) (late_at w w.links) (late_at (take_from w y s) (links_after w s))
      (number g r w p) (number g r (take_from w y s) p) y (said (taken_packet w s)) q qs differs (λ x d. take_number_other g r w y s p x h d) own_says
      (λ x d. take_numbers_other said w y s x h d) (take_numbers said w y s h)
      (λ x d. take_early_other said (stopped_from w p) w y s x h d) (λ x d. take_late_other said (stopped_from w p) w y s x h d)

  -- it is the owner, and the packet is early
  pub take_round_early : (qs : List ℕ) → is_early (stopped_from w p) (link_at w s) ≡ true → Weakens (round_of g r w p (stopped_from w p) (y ∷ qs)) (round_of g r (take_from w y s) p (stopped_from w p) (y ∷ qs))
  take_round_early qs e =
      round_take_early (early_at w w.links) (early_at (take_from w y s) (links_after w s)) (all_at w w.links) (all_at (take_from w y s) (links_after w s)) (late_at w w.links) (late_at (take_from w y s) (links_after w s))
      (number g r w p) (number g r (take_from w y s) p) y (said (taken_packet w s)) qs (λ x d. take_number_other g r w y s p x h d) own_says
      (λ x d. take_numbers_other said w y s x h d) (take_numbers said w y s h)
      (take_early said (stopped_from w p) w y s h e) (take_early_late said (stopped_from w p) w y s h e)

  -- or it is late, and says what y has already
  pub take_round_unknown : (qs : List ℕ) → is_early (stopped_from w p) (link_at w s) ≡ false → said (taken_packet w s) ≡ r (row_at (member_at w y) p) → Weakens (round_of g r w p (stopped_from w p) (y ∷ qs)) (round_of g r (take_from w y s) p (stopped_from w p) (y ∷ qs))
  take_round_unknown qs e was =
      round_take_nothing (early_at w w.links) (early_at (take_from w y s) (links_after w s)) (all_at w w.links) (all_at (take_from w y s) (links_after w s)) (late_at w w.links) (late_at (take_from w y s) (links_after w s))
      (number g r w p) (number g r (take_from w y s) p) y (said (taken_packet w s)) qs (λ x d. take_number_other g r w y s p x h d) own_says
      (ap (λ b. own_number g r w p b (member_at w y)) h.up ∙ sym was)
      (λ x d. take_numbers_other said w y s x h d) (take_numbers said w y s h)
      (take_late_early said (stopped_from w p) w y s h e) (take_late said (stopped_from w p) w y s h e)

-- retired of the first running member
pub take_retired_other : (w : World) (y s p q : ℕ) → y < size w → q ≢ y → (row_at (member_at (take_from w y s) q) p).retired ≡ (row_at (member_at w q) p).retired
take_retired_other w y s p q lt differs = at_set (λ k z. k ≢ y → (row_at z p).retired ≡ (row_at (member_at w k) p).retired) w.members y q (taker w y s) no_member lt (λ n. absurd (n refl)) (λ _ _. refl) differs

pub take_retired : (w : World) (y s p : ℕ) → y < size w → p < size w → is_owned (view_in w (member_at w y).version) y (link_at w s).sender p ≡ false → (row_at (member_at (take_from w y s) y) p).retired ≡ (row_at (member_at w y) p).retired
take_retired w y s p lt pl no_own = ap (λ a. a.retired) (take_row w y s p lt pl) ∙ ap (λ b. (taken_row b (log_of w p) (row_at (member_at w y) p) (numbers_at (taken_packet w s) p)).retired) no_own

-- a running member stands once among those that run
pub head_once : (r : ℕ → Bool) (y p : ℕ) (qs xs : List ℕ) → AreDistinct xs → is_in y xs ≡ true → r y ≡ true → filter r (rotated p xs) ≡ y ∷ qs → is_in y qs ≡ false
head_once r y p qs xs d h ry e =
    let c : List ℕ = rotated p xs in
    let out : is_in y (after y c) ≡ false = not_in_first y (after y c) (before y c) (ap (is_in y) (others-rotated y p xs d h) ∙ not_in_others y xs d) in
    by_front (filter r (before y c)) (not_in_filter r y (before y c) (not_in_before y c)) (sym (filter-split r y c (is_in-rotated y p xs ∙ h) ry) ∙ e) (not_in_filter r y (after y c) out)
  where
    by_front : (us : List ℕ) → is_in y us ≡ false → us ++ y ∷ filter r (after y (rotated p xs)) ≡ y ∷ qs → is_in y (filter r (after y (rotated p xs))) ≡ false → is_in y qs ≡ false
    by_front [] n q o = let t : filter r (after y (rotated p xs)) ≡ qs = cc in ap (is_in y) (sym t) ∙ o
    by_front (u ∷ us) n q o =
        let t : u ≡ y = cc in
        absurd (false≢true (sym n ∙ ap (λ v. cond (nat_eq y v) true (is_in y us)) t ∙ rw (nat_eq-same y) refl))

pub blocks_same : (m m' : ℕ → List ℕ) (f f' : ℕ → ℕ) (y : ℕ) (qs : List ℕ) → is_in y qs ≡ false → ((q : ℕ) → q ≢ y → m' q ≡ m q) → ((q : ℕ) → q ≢ y → f' q ≡ f q) → flat_map (block m' f') qs ≡ flat_map (block m f) qs
blocks_same m m' f f' y [] n hm hf = refl
blocks_same m m' f f' y (q ∷ qs) n hm hf = by_case (nat_eq y q) refl n (λ k. blocks_same m m' f f' y qs k hm hf)
  where
    by_case : (b : Bool) → nat_eq y q ≡ b → cond b true (is_in y qs) ≡ false → (is_in y qs ≡ false → flat_map (block m' f') qs ≡ flat_map (block m f) qs) → block m' f' q ++ flat_map (block m' f') qs ≡ block m f q ++ flat_map (block m f) qs
    by_case true e k ih = absurd (false≢true (sym k))
    by_case false e k ih =
        let d : q ≢ y = λ is. false≢true (sym e ∙ rw is (nat_eq-same y)) in
        rw (hm q d, hf q d, ih k) refl

-- the lists of a round at the owner, where nothing is early
pub take_list_before : (g : Numbers → ℕ) (r : Row → ℕ) (w : World) (y s p : ℕ) (qs : List ℕ) → CanTake w y s → ((j : ℕ) → only (is_early (stopped_from w p)) (counted w y) (link_at w j) ≡ []) → is_early (stopped_from w p) (link_at w s) ≡ false → round_of g r w p (stopped_from w p) (y ∷ qs) ≡ number g r w p y ∷ ((flat_map (block (λ q. numbers (λ k. g (numbers_at k p)) (counted w q) w.links) (number g r w p)) qs ++ numbers (λ k. g (numbers_at k p)) (no_but (is_early (stopped_from w p)) (counted (take_from w y s) y)) (links_after w s)) ++ g (numbers_at (taken_packet w s) p) ∷ [])
take_list_before g r w y s p qs h none e =
    let f : Packet → ℕ = λ k. g (numbers_at k p) in
    let b : List ℕ = flat_map (block (λ q. numbers f (counted w q) w.links) (number g r w p)) qs in
    let l' : List ℕ = numbers f (no_but (is_early (stopped_from w p)) (counted (take_from w y s) y)) (links_after w s) in
    ap (λ xs. xs ++ (number g r w p y ∷ (b ++ numbers f (no_but (is_early (stopped_from w p)) (counted w y)) w.links))) (numbers_none f (only (is_early (stopped_from w p)) (counted w y)) w.links (λ j _. none j))
    ∙ ap (λ xs. number g r w p y ∷ (b ++ xs)) (take_late f (stopped_from w p) w y s h e)
    ∙ ap (λ xs. number g r w p y ∷ xs) (sym (append_assoc b l' (g (numbers_at (taken_packet w s) p) ∷ [])))

pub take_list_after : (g : Numbers → ℕ) (r : Row → ℕ) (w : World) (y s p : ℕ) (qs : List ℕ) → CanTake w y s → is_in y qs ≡ false → ((j : ℕ) → only (is_early (stopped_from w p)) (counted w y) (link_at w j) ≡ []) → is_early (stopped_from w p) (link_at w s) ≡ false → round_of g r (take_from w y s) p (stopped_from w p) (y ∷ qs) ≡ number g r (take_from w y s) p y ∷ (flat_map (block (λ q. numbers (λ k. g (numbers_at k p)) (counted w q) w.links) (number g r w p)) qs ++ numbers (λ k. g (numbers_at k p)) (no_but (is_early (stopped_from w p)) (counted (take_from w y s) y)) (links_after w s))
take_list_after g r w y s p qs h once none e =
    let f : Packet → ℕ = λ k. g (numbers_at k p) in
    let w' : World = take_from w y s in
    let st : List ℕ = stopped_from w p in
    let l' : List ℕ = numbers f (no_but (is_early st) (counted w' y)) (links_after w s) in
    ap (λ xs. xs ++ (number g r w' p y ∷ (flat_map (block (λ q. numbers f (counted w' q) (links_after w s)) (number g r w' p)) qs ++ l'))) (take_late_early f st w y s h e ∙ numbers_none f (only (is_early st) (counted w y)) w.links (λ j _. none j))
    ∙ ap (λ xs. number g r w' p y ∷ (xs ++ l'))
    (blocks_same (λ q. numbers f (counted w q) w.links) (λ q. numbers f (counted w' q) (links_after w s)) (number g r w p) (number g r w' p) y qs once
    (λ q d. take_numbers_other f w y s q h d) (λ q d. take_number_other g r w y s p q h d))

pub come_round_edit : (a a' b b' kg kf r r' : ℕ) (bg bf : List ℕ) → a' ≡ a → b' ≡ kg → r' ≡ kf → Weakens ((a ∷ (bg ++ kg ∷ [])) ++ ((b ∷ (bf ++ kf ∷ [])) ++ r ∷ [])) ((a' ∷ bg) ++ ((b' ∷ bf) ++ r' ∷ []))
come_round_edit a a' b b' kg kf r r' bg bf ea eb er =
    rw (ea, eb, er) (walk_take_round (a ∷ (bg ++ kg ∷ [])) (a ∷ bg) (bf ++ kf ∷ []) bf kg kf b r refl refl)

pub take_over : (w : World) (y s p : ℕ) → CanTake w y s → p < size w → AreDistinct (ring w) → is_in y (ring w) ≡ true → Standing w y s p → Weakens (walk_over w p (stopped_from w p) (running_from w p)) (walk_over (take_from w y s) p (stopped_from w p) (running_from w p))
take_over w y s p h pl d inring (elsewhere q qs e differs no_own) =
    subst (λ ys. Weakens (walk_over w p (stopped_from w p) ys) (walk_over (take_from w y s) p (stopped_from w p) ys)) (sym e)
    (joined _ _ _ _
    (take_round_elsewhere (λ k. k.got) (λ a. a.got) w y s p (λ a k l. refl) h pl no_own q qs differs)
    (joined _ _ _ _ (take_round_elsewhere (λ k. k.forgot) (λ a. a.forgot) w y s p (λ a k l. refl) h pl no_own q qs differs)
    (equal _ _ (ap (λ a. a ∷ []) (sym (take_retired_other w y s p q h.is_member differs))))))
take_over w y s p h pl d inring (first_time qs e was no_own) =
    subst (λ ys. Weakens (walk_over w p (stopped_from w p) ys) (walk_over (take_from w y s) p (stopped_from w p) ys)) (sym e)
    (joined _ _ _ _
    (take_round_early (λ k. k.got) (λ a. a.got) w y s p (λ a k l. refl) h pl no_own qs was)
    (joined _ _ _ _ (take_round_early (λ k. k.forgot) (λ a. a.forgot) w y s p (λ a k l. refl) h pl no_own qs was)
    (equal _ _ (ap (λ a. a ∷ []) (sym (take_retired w y s p h.is_member pl no_own))))))
take_over w y s p h pl d inring (unknown qs e was no_own gg gf) =
    subst (λ ys. Weakens (walk_over w p (stopped_from w p) ys) (walk_over (take_from w y s) p (stopped_from w p) ys)) (sym e)
    (joined _ _ _ _
    (take_round_unknown (λ k. k.got) (λ a. a.got) w y s p (λ a k l. refl) h pl no_own qs was gg)
    (joined _ _ _ _ (take_round_unknown (λ k. k.forgot) (λ a. a.forgot) w y s p (λ a k l. refl) h pl no_own qs was gf)
    (equal _ _ (ap (λ a. a ∷ []) (sym (take_retired w y s p h.is_member pl no_own))))))
take_over w y s p h pl d inring (come_round qs e own none late) =
    let st : List ℕ = stopped_from w p in
    let w' : World = take_from w y s in
    let k : Numbers = numbers_at (taken_packet w s) p in
    let once : is_in y qs ≡ false = head_once (runs w) y p qs (ring w) d inring (runs_phase-Up w y h.up) e in
    let bg : List ℕ = flat_map (block (λ q. numbers (λ k. (numbers_at k p).got) (counted w q) w.links) (number (λ k. k.got) (λ a. a.got) w p)) qs ++ numbers (λ k. (numbers_at k p).got) (no_but (is_early st) (counted w' y)) (links_after w s) in
    let bf : List ℕ = flat_map (block (λ q. numbers (λ k. (numbers_at k p).forgot) (counted w q) w.links) (number (λ k. k.forgot) (λ a. a.forgot) w p)) qs ++ numbers (λ k. (numbers_at k p).forgot) (no_but (is_early st) (counted w' y)) (links_after w s) in
    let ng : number (λ k. k.got) (λ a. a.got) w' p y ≡ number (λ k. k.got) (λ a. a.got) w p y =
    take_number (λ k. k.got) (λ a. a.got) w y s p h pl ∙ ap (λ b. (taken_row b (log_of w p) (row_at (member_at w y) p) k).got) own ∙ sym (ap (λ b. own_number (λ k. k.got) (λ a. a.got) w p b (member_at w y)) h.up) in
    let nf : number (λ k. k.forgot) (λ a. a.forgot) w' p y ≡ k.got =
    take_number (λ k. k.forgot) (λ a. a.forgot) w y s p h pl ∙ ap (λ b. (taken_row b (log_of w p) (row_at (member_at w y) p) k).forgot) own in
    let nr : (row_at (member_at w' y) p).retired ≡ k.forgot = ap (λ a. a.retired) (take_row w y s p h.is_member pl) ∙ ap (λ b. (taken_row b (log_of w p) (row_at (member_at w y) p) k).retired) own in
    subst (λ ys. Weakens (walk_over w p st ys) (walk_over w' p st ys)) (sym e)
    (rw (
      take_list_before (λ k. k.got) (λ a. a.got) w y s p qs h none late,
      take_list_before (λ k. k.forgot) (λ a. a.forgot) w y s p qs h none late,
      take_list_after (λ k. k.got) (λ a. a.got) w y s p qs h once none late,
      take_list_after (λ k. k.forgot) (λ a. a.forgot) w y s p qs h once none late,
    )
    (come_round_edit (number (λ k. k.got) (λ a. a.got) w p y) (number (λ k. k.got) (λ a. a.got) w' p y) (number (λ k. k.forgot) (λ a. a.forgot) w p y) (number (λ k. k.forgot) (λ a. a.forgot) w' p y) k.got k.forgot (row_at (member_at w y) p).retired (row_at (member_at w' y) p).retired bg bf ng nf nr))

pub take_walk : (w : World) (y s p : ℕ) → CanTake w y s → p < size w → AreDistinct (ring w) → is_in y (ring w) ≡ true → Standing w y s p → Weakens (walk w p) (walk (take_from w y s) p)
take_walk w y s p h pl d inring k =
    subst (λ xs. Weakens (walk w p) xs) (same_runners w (take_from w y s) p refl (λ q. take_runs w y s q h.is_member)) (take_over w y s p h pl d inring k)
