-- The walk of an origin of which nothing is said yet.
use Rattle.std.proofs.Common.{◌≡◌, ℕ, suc, ◌<◌, Bool, true, false, cond, List, [], ◌∷◌, ◌++◌, length, get_or, arith}
use Rattle.ring_rules.specs.declared.numbers.Numbers.{Numbers}
use Rattle.ring_rules.specs.Rows.{Row}
use Rattle.ring_rules.specs.Machine.{World, Packet, Link, no_link, member_at, link_at, row_at, numbers_at}
use Rattle.ring_rules.proofs.walks.Links.{AllZero}
use Rattle.ring_rules.proofs.invariants.Opening.{Zeros, zeros_append, zeros_round, zeros_never_rise}
use Rattle.ring_rules.specs.OpenLinks.{NeverRises, number}
use Rattle.ring_rules.proofs.walks.CountedWalk.{is_early, only, no_but, newest_first, round_of, retired_by, walk, running_from, counted, numbers, stopped_from}

pub zeros_packets : (f : Packet → ℕ) (ks : List Packet) → AllZero f ks → Zeros (newest_first f ks)
zeros_packets f [] h = tt
zeros_packets f (k ∷ ks) h = zeros_append (newest_first f ks) (f k ∷ []) (zeros_packets f ks h.1) (h.0, tt)

pub zeros_numbers : (f : Packet → ℕ) (c : Link → List Packet) (ls : List Link) → ((j : ℕ) → j < length ls → AllZero f (c (get_or ls j no_link))) → Zeros (numbers f c ls)
zeros_numbers f c [] h = tt
zeros_numbers f c (l ∷ ls) h = zeros_append (numbers f c ls) (newest_first f (c l)) (zeros_numbers f c ls (λ j lt. h (suc j) (omega arith))) (zeros_packets f (c l) (h 0 (omega arith)))

pub AllZero-cond : (f : Packet → ℕ) (b : Bool) (ks : List Packet) → AllZero f ks → AllZero f (cond b ks [])
AllZero-cond f true ks h = h
AllZero-cond f false ks h = tt

pub AllZero-but : (f : Packet → ℕ) (b : Bool) (ks : List Packet) → AllZero f ks → AllZero f (cond b [] ks)
AllZero-but f true ks h = tt
AllZero-but f false ks h = h

-- for origin p all is 0
pub record IsUnsaid (w : World) (p : ℕ) : Type 0 where
  pub got : (q j : ℕ) → j < length w.links → AllZero (λ k. (numbers_at k p).got) (counted w q (link_at w j))
  pub forgot : (q j : ℕ) → j < length w.links → AllZero (λ k. (numbers_at k p).forgot) (counted w q (link_at w j))
  pub own_got : (q : ℕ) → number (λ k. k.got) (λ r. r.got) w p q ≡ 0
  pub own_forgot : (q : ℕ) → number (λ k. k.forgot) (λ r. r.forgot) w p q ≡ 0
  pub own_retired : (q : ℕ) → (row_at (member_at w q) p).retired ≡ 0

pub zeros_of_round : (g : Numbers → ℕ) (r : Row → ℕ) (w : World) (p : ℕ) (st ys : List ℕ) → ((q j : ℕ) → j < length w.links → AllZero (λ k. g (numbers_at k p)) (counted w q (link_at w j))) → ((q : ℕ) → number g r w p q ≡ 0) → Zeros (round_of g r w p st ys)
zeros_of_round g r w p st ys h hn =
    zeros_round (λ q. numbers (λ k. g (numbers_at k p)) (only (is_early st) (counted w q)) w.links) (λ q. numbers (λ k. g (numbers_at k p)) (counted w q) w.links) (λ q. numbers (λ k. g (numbers_at k p)) (no_but (is_early st) (counted w q)) w.links) (number g r w p) ys
    (λ q. zeros_numbers (λ k. g (numbers_at k p)) (only (is_early st) (counted w q)) w.links (λ j lt. AllZero-cond (λ k. g (numbers_at k p)) (is_early st (link_at w j)) (counted w q (link_at w j)) (h q j lt)))
    (λ q. zeros_numbers (λ k. g (numbers_at k p)) (counted w q) w.links (λ j lt. h q j lt))
    (λ q. zeros_numbers (λ k. g (numbers_at k p)) (no_but (is_early st) (counted w q)) w.links (λ j lt. AllZero-but (λ k. g (numbers_at k p)) (is_early st (link_at w j)) (counted w q (link_at w j)) (h q j lt)))
    hn

pub unsaid_walk : (w : World) (p : ℕ) → IsUnsaid w p → NeverRises (walk w p)
unsaid_walk w p h =
    zeros_never_rise (walk w p)
    (zeros_append (round_of (λ k. k.got) (λ r. r.got) w p (stopped_from w p) (running_from w p)) (round_of (λ k. k.forgot) (λ r. r.forgot) w p (stopped_from w p) (running_from w p) ++ retired_by w p (running_from w p))
    (zeros_of_round (λ k. k.got) (λ r. r.got) w p (stopped_from w p) (running_from w p) h.got h.own_got)
    (zeros_append (round_of (λ k. k.forgot) (λ r. r.forgot) w p (stopped_from w p) (running_from w p)) (retired_by w p (running_from w p))
    (zeros_of_round (λ k. k.forgot) (λ r. r.forgot) w p (stopped_from w p) (running_from w p) h.forgot h.own_forgot)
    (by_list (running_from w p))))
  where
    by_list : (ys : List ℕ) → Zeros (retired_by w p ys)
    by_list [] = tt
    by_list (y ∷ ys) = (h.own_retired y, tt)
