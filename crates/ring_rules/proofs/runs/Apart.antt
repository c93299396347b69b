-- What a running member has forgotten, and what a packet that counts says was forgotten, no running member has still to receive.
use Rattle.std.proofs.Common.{◌≡◌, ℕ, zero, suc, ◌<◌, ◌≤◌, Bool, true, false, cond, List, [], ◌∷◌, ◌++◌, length, get_or, refl, sym, ap, subst, ◌∙◌, arith, nat_eq, ◌⊎◌, inl, inr, Some}
use Rattle.std.specs.List.{flat_map}
use Rattle.std.proofs.lemmas.Bool.{false≢true}
use Rattle.group_view.specs.Ring.{is_in, rotated}
use Rattle.group_view.proofs.Rings.{is_in-rotated, nat_eq-is, nat_eq-same, in_first, in_second, in_head, in_tail}
use Rattle.group_view.proofs.Neighbours.{in-filter}
use Rattle.ring_rules.specs.declared.numbers.Numbers.{Numbers}
use Rattle.ring_rules.specs.Rows.{Row}
use Rattle.ring_rules.specs.Machine.{Waiting, Up, runs_phase, oldest, World, Packet, Link, no_link, member_at, link_at, row_at, numbers_at, newest, ring, runs, is_kept, is_waiting}
use Rattle.ring_rules.specs.OpenLinks.{NeverRises, first_packet, own_number, number}
use Rattle.ring_rules.proofs.walks.CountedWalk.{newest_first, numbers, only, no_but, counted, is_early, block, round, round_of, retired_by, stopped_from, running_from, walk}
use Rattle.ring_rules.proofs.invariants.Good.{IsRing}
use Rattle.ring_rules.proofs.walks.Put.{number_up, runs_phase-Up}
use Rattle.ring_rules.proofs.rings.Falling.{falls_across, in_blocks, each_in_round}

-- ---- what stands in a round

-- each number of its packets
pub packet_in_round : (e m l : ℕ → List ℕ) (f : ℕ → ℕ) (q a : ℕ) (ys : List ℕ) → is_in q ys ≡ true → is_in a (m q) ≡ true → (is_in a (e q) ≡ true) ⊎ (is_in a (l q) ≡ true) → is_in a (round e f m l ys) ≡ true
packet_in_round e m l f q a [] i j k = absurd (false≢true i)
packet_in_round e m l f q a (y ∷ ys) i j k = by_case (nat_eq q y) refl i k
  where
    rest : is_in a (flat_map (block m f) ys ++ l y) ≡ true → is_in a (round e f m l (y ∷ ys)) ≡ true
    rest h = in_second a (e y) (f y ∷ (flat_map (block m f) ys ++ l y)) (in_tail a (f y) (flat_map (block m f) ys ++ l y) h)

    by_case : (t : Bool) → nat_eq q y ≡ t → cond t true (is_in q ys) ≡ true → (is_in a (e q) ≡ true) ⊎ (is_in a (l q) ≡ true) → is_in a (round e f m l (y ∷ ys)) ≡ true
    by_case true t h (inl c) = in_first a (e y) (f y ∷ (flat_map (block m f) ys ++ l y)) (ap (λ z. is_in a (e z)) (sym (nat_eq-is q y t)) ∙ c)
    by_case true t h (inr c) = rest (in_second a (flat_map (block m f) ys) (l y) (ap (λ z. is_in a (l z)) (sym (nat_eq-is q y t)) ∙ c))
    by_case false t h c = rest (in_first a (flat_map (block m f) ys) (l y) (in_blocks m f q a ys h (in_first a (m q) (f q ∷ []) j)))

-- ---- the oldest packet of a link that counts

-- its number stands among those of all links
pub in_numbers : (f : Packet → ℕ) (c : Link → List Packet) (ls : List Link) (j : ℕ) (k : Packet) (ks : List Packet) → j < length ls → c (get_or ls j no_link) ≡ k ∷ ks → is_in (f k) (numbers f c ls) ≡ true
in_numbers f c [] j k ks lt e = absurd (omega arith)
in_numbers f c (l ∷ ls) zero k ks lt e =
    in_second (f k) (numbers f c ls) (newest_first f (c l))
    (ap (λ us. is_in (f k) (newest_first f us)) e ∙ in_second (f k) (newest_first f ks) (f k ∷ []) (in_head (f k) []))
in_numbers f c (l ∷ ls) (suc j) k ks lt e = in_first (f k) (numbers f c ls) (newest_first f (c l)) (in_numbers f c ls j k ks (omega arith) e)

-- all packets of a kept link to a member that doesn't wait count
pub counted_all : (w : World) (q : ℕ) (l : Link) → l.receiver ≡ q → is_kept w l (member_at w q).version ≡ true → is_waiting (member_at w q).phase ≡ false → counted w q l ≡ l.packets
counted_all w q l to kept up =
    let same : nat_eq l.receiver q ≡ true = ap (λ z. nat_eq z q) to ∙ nat_eq-same q in
    rw (same, kept, up) refl

-- ---- the two rounds of the walk

-- what stands in the second round isn't above what stands in the first
apart : (w : World) (p a b : ℕ) → NeverRises (walk w p) → is_in a (round_of (λ k. k.got) (λ r. r.got) w p (stopped_from w p) (running_from w p)) ≡ true → is_in b (round_of (λ k. k.forgot) (λ r. r.forgot) w p (stopped_from w p) (running_from w p)) ≡ true → b ≤ a
apart w p a b h i j = falls_across a b _ _ h i (in_first b _ (retired_by w p (running_from w p)) j)

-- who is up stands among those that run
pub runner : (w : World) (p q : ℕ) → IsRing w → (member_at w q).phase ≡ Up → is_in q (running_from w p) ≡ true
runner w p q h up =
    let r : runs w q ≡ true = runs_phase-Up w q up in
    in-filter (runs w) q (rotated p (ring w)) (is_in-rotated q p (ring w) ∙ h.stands q (newest w) r (h.held q) (omega arith)) r

-- an up member's number stands in the round
own_in : (g : Numbers → ℕ) (r : Row → ℕ) (w : World) (p q : ℕ) → IsRing w → (member_at w q).phase ≡ Up → is_in (r (row_at (member_at w q) p)) (round_of g r w p (stopped_from w p) (running_from w p)) ≡ true
own_in g r w p q h up =
    subst (λ a. is_in a (round_of g r w p (stopped_from w p) (running_from w p)) ≡ true) (number_up g r w p q up)
    (each_in_round _ _ _ (number g r w p) q (running_from w p) (runner w p q h up))

-- what one has forgotten the other has received
pub forgot_below : (w : World) (x y p : ℕ) → IsRing w → NeverRises (walk w p) → (member_at w x).phase ≡ Up → (member_at w y).phase ≡ Up → (row_at (member_at w x) p).forgot ≤ (row_at (member_at w y) p).got
forgot_below w x y p h falls ux uy =
    apart w p (row_at (member_at w y) p).got (row_at (member_at w x) p).forgot falls (own_in (λ k. k.got) (λ r. r.got) w p y h uy) (own_in (λ k. k.forgot) (λ r. r.forgot) w p x h ux)

-- a number of the oldest packet of a kept link stands in its round
oldest_in : (g : Numbers → ℕ) (r : Row → ℕ) (w : World) (y s p : ℕ) (k : Packet) (ks : List Packet) → IsRing w → (member_at w y).phase ≡ Up → s < length w.links → (link_at w s).receiver ≡ y → is_kept w (link_at w s) (member_at w y).version ≡ true → (link_at w s).packets ≡ k ∷ ks
    → is_in (g (numbers_at k p)) (round_of g r w p (stopped_from w p) (running_from w p)) ≡ true
oldest_in g r w y s p k ks h up lt to kept e =
    packet_in_round _ (λ q. numbers f (counted w q) w.links) _ (number g r w p) y (f k) (running_from w p) (runner w p y h up)
    (in_numbers f (counted w y) w.links s k ks lt all)
    (by_early (is_early (stopped_from w p) (link_at w s)) refl)
  where
    f : Packet → ℕ
    f j = g (numbers_at j p)

    all : counted w y (link_at w s) ≡ k ∷ ks
    all = counted_all w y (link_at w s) to kept (ap is_waiting up) ∙ e

    by_early : (b : Bool) → is_early (stopped_from w p) (link_at w s) ≡ b → (is_in (f k) (numbers f (only (is_early (stopped_from w p)) (counted w y)) w.links) ≡ true) ⊎ (is_in (f k) (numbers f (no_but (is_early (stopped_from w p)) (counted w y)) w.links) ≡ true)
    by_early true b = inl (in_numbers f (only (is_early (stopped_from w p)) (counted w y)) w.links s k ks lt (ap (λ t. cond t (counted w y (link_at w s)) []) b ∙ all))
    by_early false b = inr (in_numbers f (no_but (is_early (stopped_from w p)) (counted w y)) w.links s k ks lt (ap (λ t. cond t [] (counted w y (link_at w s))) b ∙ all))

-- what the oldest packet of a kept link says was forgotten its receiver has received
pub first_below : (w : World) (y s p : ℕ) (k : Packet) (ks : List Packet) → IsRing w → NeverRises (walk w p) → (member_at w y).phase ≡ Up → s < length w.links → (link_at w s).receiver ≡ y → is_kept w (link_at w s) (member_at w y).version ≡ true → (link_at w s).packets ≡ k ∷ ks → (numbers_at k p).forgot ≤ (row_at (member_at w y) p).got
first_below w y s p k ks h falls up lt to kept e =
    apart w p (row_at (member_at w y) p).got (numbers_at k p).forgot falls (own_in (λ j. j.got) (λ a. a.got) w p y h up) (oldest_in (λ j. j.forgot) (λ a. a.forgot) w y s p k ks h up lt to kept e)

-- and that packet says was received
pub oldest_below : (w : World) (y s p : ℕ) (k : Packet) (ks : List Packet) → IsRing w → NeverRises (walk w p) → (member_at w y).phase ≡ Up → s < length w.links → (link_at w s).receiver ≡ y → is_kept w (link_at w s) (member_at w y).version ≡ true → (link_at w s).packets ≡ k ∷ ks → (numbers_at k p).forgot ≤ (numbers_at k p).got
oldest_below w y s p k ks h falls up lt to kept e =
    apart w p (numbers_at k p).got (numbers_at k p).forgot falls (oldest_in (λ j. j.got) (λ a. a.got) w y s p k ks h up lt to kept e) (oldest_in (λ j. j.forgot) (λ a. a.forgot) w y s p k ks h up lt to kept e)

-- what the first packet of a waiting member says was forgotten it says was received
pub first_packet_below : (w : World) (y s p : ℕ) → IsRing w → NeverRises (walk w p) → (member_at w y).phase ≡ Waiting → (member_at w y).current ≡ Some s → (numbers_at (oldest (link_at w s)) p).forgot ≤ (numbers_at (oldest (link_at w s)) p).got
first_packet_below w y s p h falls waits current =
    apart w p (numbers_at (oldest (link_at w s)) p).got (numbers_at (oldest (link_at w s)) p).forgot falls (stands (λ k. k.got) (λ r. r.got)) (stands (λ k. k.forgot) (λ r. r.forgot))
  where
    ry : runs w y ≡ true
    ry = ap runs_phase waits

    there : is_in y (running_from w p) ≡ true
    there = in-filter (runs w) y (rotated p (ring w)) (is_in-rotated y p (ring w) ∙ h.stands y (newest w) ry (h.held y) (omega arith)) ry

    stands : (g : Numbers → ℕ) (r : Row → ℕ) → is_in (g (numbers_at (oldest (link_at w s)) p)) (round_of g r w p (stopped_from w p) (running_from w p)) ≡ true
    stands g r =
        subst (λ a. is_in a (round_of g r w p (stopped_from w p) (running_from w p)) ≡ true)
        (ap (λ f. own_number g r w p f (member_at w y)) waits ∙ ap (λ c. g (numbers_at (first_packet w c) p)) current)
        (each_in_round _ _ _ (number g r w p) y (running_from w p) there)
