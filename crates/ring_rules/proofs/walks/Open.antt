-- A link that opens repeats its sender's number.
use Rattle.std.proofs.Common.{◌≡◌, ◌≢◌, ℕ, zero, suc, ◌<◌, Bool, true, false, List, [], ◌∷◌, ◌++◌, length, get_or, refl, sym, ap, subst, ◌∙◌, arith, nat_eq, Option, Some, None, ⊎_elim}
use Rattle.std.specs.Prelude.{◌&&◌}
use Rattle.std.proofs.lemmas.Bool.{cases_eq, false≢true}
use Rattle.std.proofs.lemmas.List.{get_or_append_left}
pub use Rattle.ring_rules.proofs.events.Leaves.{with_opened}
use Rattle.ring_rules.specs.Refusal.{is_empty}
use Rattle.group_view.specs.Ring.{rotated, is_in}
use Rattle.ring_rules.specs.Machine.{Phase, Waiting, Up, Stopped, Packet, Link, World, no_link, numbers_at, member_at, link_at, newest, ring, left, runs, is_kept, is_waiting, no_sending, oldest}
use Rattle.ring_rules.specs.Rows.{Row}
use Rattle.ring_rules.specs.declared.numbers.Numbers.{Numbers}
use Rattle.ring_rules.proofs.walks.CountedWalk.{newest_first, numbers, only, no_but, counted, is_early, round_of, retired_by, stopped_from, running_from, walk_over, walk}
use Rattle.ring_rules.specs.OpenLinks.{first_packet, own_number, number}
use Rattle.ring_rules.specs.Step.{next_packet, opened_link}
use Rattle.ring_rules.proofs.rings.Weakens.{Weakens, same, joined, joined_left}
use Rattle.ring_rules.proofs.walks.Links.{numbers_open}
use Rattle.group_view.proofs.Lists.{cond_empty_late}
use Rattle.group_view.proofs.Rings.{nat_eq-same}
use Rattle.ring_rules.proofs.rings.Rounds.{round_back}
use Rattle.ring_rules.proofs.walks.Edits.{round_front}
use Rattle.ring_rules.proofs.invariants.Good.{IsRing, IsWaitingRight}
use Rattle.ring_rules.proofs.walks.Put.{counted_other, counted_not_kept, number_up, not_in_prefix, receiver_follows, runs_phase-Up}
use Rattle.ring_rules.proofs.walks.Packets.{Reads, reads_got, reads_forgot, line_of_packet}

pub within_links : (w : World) (s : ℕ) → is_empty (link_at w s).packets ≡ false → s < length w.links
within_links w s h = by_list w.links s h
  where
    by_list : (ls : List Link) (s : ℕ) → is_empty (get_or ls s no_link).packets ≡ false → s < length ls
    by_list [] s e = absurd (false≢true (sym e))
    by_list (l ∷ ls) zero e = omega arith
    by_list (l ∷ ls) (suc t) e = omega (arith, by_list ls t e)

pub number_opened : (g : Numbers → ℕ) (r : Row → ℕ) (w : World) (p q : ℕ) (l : Link) → IsWaitingRight w → number g r (with_opened w l) p q ≡ number g r w p q
number_opened g r w p q l h = by_phase (member_at w q).phase refl
  where
    by_current : (c : Option ℕ) → ((s : ℕ) → c ≡ Some s → is_empty (link_at w s).packets ≡ false) → first_packet (with_opened w l) c ≡ first_packet w c
    by_current None e = refl
    by_current (Some s) e = ap oldest (get_or_append_left w.links (l ∷ []) no_link s (within_links w s (e s refl)))

    by_phase : (f : Phase) → (member_at w q).phase ≡ f → own_number g r (with_opened w l) p f (member_at w q) ≡ own_number g r w p f (member_at w q)
    by_phase Waiting e = ap (λ j. g (numbers_at j p)) (by_current (member_at w q).current (λ s c. h.first q s e c))
    by_phase Up e = refl
    by_phase Stopped e = refl

pub opened_none : (f : Packet → ℕ) (c : Link → List Packet) (w : World) (l : Link) → c l ≡ [] → numbers f c (w.links ++ l ∷ []) ≡ numbers f c w.links
opened_none f c w l e = numbers_open f c w.links l ∙ ap (λ ks. newest_first f ks ++ numbers f c w.links) e

pub opened_one : (f : Packet → ℕ) (c : Link → List Packet) (w : World) (l : Link) (k : Packet) → c l ≡ k ∷ [] → numbers f c (w.links ++ l ∷ []) ≡ f k ∷ numbers f c w.links
opened_one f c w l k e = numbers_open f c w.links l ∙ ap (λ ks. newest_first f ks ++ numbers f c w.links) e

pub open_round : (g : Numbers → ℕ) (r : Row → ℕ) (w : World) (x z p y : ℕ) (ys : List ℕ) → Reads g r → IsRing w → IsWaitingRight w → (member_at w x).phase ≡ Up → left w (newest w) z ≡ x → (is_waiting (member_at w z).phase && nat_eq (member_at w x).version (member_at w z).version) ≡ false → running_from w p ≡ y ∷ ys → (b : Bool) → is_kept w (opened_link w x z) (member_at w z).version ≡ b → Weakens (round_of g r w p (stopped_from w p) (y ∷ ys)) (round_of g r (with_opened w (opened_link w x z)) p (stopped_from w p) (y ∷ ys))
open_round g r w x z p y ys gr hr hw up lz fresh e true kept =
    let f : Packet → ℕ = λ k. g (numbers_at k p) in
    let k : Packet = next_packet (member_at w x) no_sending in
    let l : Link = opened_link w x z in
    let st : List ℕ = stopped_from w p in
    let rx : runs w x ≡ true = runs_phase-Up w x up in
    let is : f k ≡ number g r w p x = line_of_packet g r (member_at w x) no_sending p gr ∙ sym (number_up g r w p x up) in
    let late : is_in x st ≡ false = not_in_prefix (runs w) x (rotated p (ring w)) rx in
    let one : counted w z l ≡ k ∷ [] = rw (nat_eq-same z, kept, fresh) refl in
    round_front (λ q. numbers f (only (is_early st) (counted w q)) w.links) (λ q. numbers f (only (is_early st) (counted w q)) (w.links ++ l ∷ []))
    (λ q. numbers f (counted w q) w.links) (λ q. numbers f (counted w q) (w.links ++ l ∷ []))
    (λ q. numbers f (no_but (is_early st) (counted w q)) w.links) (λ q. numbers f (no_but (is_early st) (counted w q)) (w.links ++ l ∷ []))
    (number g r w p) (number g r (with_opened w l) p) x z y ys
    (λ q. number_opened g r w p q l hw)
    (λ q. opened_none f (only (is_early st) (counted w q)) w l (rw late refl))
    (λ q differs. opened_none f (counted w q) w l (counted_other w q l (λ s. differs (sym s))))
    (opened_one f (counted w z) w l k one ∙ ap (λ a. a ∷ numbers f (counted w z) w.links) is)
    (λ q differs. opened_none f (no_but (is_early st) (counted w q)) w l (cond_empty_late (is_early st l) _ (counted_other w q l (λ s. differs (sym s)))))
    (opened_one f (no_but (is_early st) (counted w z)) w l k (rw late one) ∙ ap (λ a. a ∷ numbers f (no_but (is_early st) (counted w z)) w.links) is)
    (receiver_follows w x z p y ys hr rx lz e)
open_round g r w x z p y ys gr hr hw up lz fresh e false kept =
    let f : Packet → ℕ = λ k. g (numbers_at k p) in
    let l : Link = opened_link w x z in
    let st : List ℕ = stopped_from w p in
    let rx : runs w x ≡ true = runs_phase-Up w x up in
    let late : is_in x st ≡ false = not_in_prefix (runs w) x (rotated p (ring w)) rx in
    let none : (q : ℕ) → counted w q l ≡ [] = λ q.
    ⊎_elim (λ (is : q ≡ z). subst (λ s. counted w s l ≡ []) (sym is) (counted_not_kept w z l kept)) (λ (differs : q ≢ z). counted_other w q l (λ s. differs (sym s))) (cases_eq q z) in
    round_back (λ q. numbers f (only (is_early st) (counted w q)) w.links) (λ q. numbers f (only (is_early st) (counted w q)) (w.links ++ l ∷ []))
    (λ q. numbers f (counted w q) w.links) (λ q. numbers f (counted w q) (w.links ++ l ∷ []))
    (λ q. numbers f (no_but (is_early st) (counted w q)) w.links) (λ q. numbers f (no_but (is_early st) (counted w q)) (w.links ++ l ∷ []))
    (number g r w p) (number g r (with_opened w l) p) y ys
    (λ q. rw (opened_none f (counted w q) w l (none q), number_opened g r w p q l hw) (same _))
    (rw (opened_none f (only (is_early st) (counted w y)) w l (rw late refl), number_opened g r w p y l hw) (same _))
    (rw (opened_none f (no_but (is_early st) (counted w y)) w l (cond_empty_late (is_early st l) _ (none y))) (same _))

-- the walk of an opened link, before its sender knows it as its out link
pub open_walk : (w : World) (x z p : ℕ) → IsRing w → IsWaitingRight w → (member_at w x).phase ≡ Up → left w (newest w) z ≡ x → (is_waiting (member_at w z).phase && nat_eq (member_at w x).version (member_at w z).version) ≡ false → Weakens (walk w p) (walk (with_opened w (opened_link w x z)) p)
open_walk w x z p hr hw up lz fresh = by_running (running_from w p) refl
  where
    w' : World
    w' = with_opened w (opened_link w x z)

    by_running : (ys : List ℕ) → running_from w p ≡ ys → Weakens (walk_over w p (stopped_from w p) ys) (walk_over w' p (stopped_from w p) ys)
    by_running [] e = same []
    by_running (y ∷ ys) e =
        joined (round_of (λ k. k.got) (λ r. r.got) w p (stopped_from w p) (y ∷ ys)) (round_of (λ k. k.got) (λ r. r.got) w' p (stopped_from w p) (y ∷ ys))
        (round_of (λ k. k.forgot) (λ r. r.forgot) w p (stopped_from w p) (y ∷ ys) ++ retired_by w p (y ∷ ys)) (round_of (λ k. k.forgot) (λ r. r.forgot) w' p (stopped_from w p) (y ∷ ys) ++ retired_by w p (y ∷ ys))
        (open_round (λ k. k.got) (λ r. r.got) w x z p y ys reads_got hr hw up lz fresh e _ refl)
        (joined_left (round_of (λ k. k.forgot) (λ r. r.forgot) w p (stopped_from w p) (y ∷ ys)) (round_of (λ k. k.forgot) (λ r. r.forgot) w' p (stopped_from w p) (y ∷ ys)) (retired_by w p (y ∷ ys))
        (open_round (λ k. k.forgot) (λ r. r.forgot) w x z p y ys reads_forgot hr hw up lz fresh e _ refl))
