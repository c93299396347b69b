-- The numbers last sent, once a packet is put.
use Rattle.std.proofs.Common.{◌≡◌, ℕ, ◌+◌, ◌-◌, ◌≤◌, Bool, true, false, cond, not, nat_eq, List, [], ◌∷◌, length, drop, map, max, Option, Some, None, refl, sym, ap, ◌∙◌, arith}
use Rattle.std.specs.Prelude.{◌&&◌, option_map}
use Rattle.std.proofs.lemmas.Bool.{and_parts}
use Rattle.std.proofs.lemmas.List.{length-drop}
use Rattle.activity.specs.Kept.{Kept, got_of}
use Rattle.activity.specs.LastSent.{LastSent, never_sent}
use Rattle.activity.specs.Packets.{LineSeen, got_in, line_of, last_sent_in, noted, origins}
use Rattle.activity.specs.Diff.{line_from, next_line}
use Rattle.ring_rules.proofs.rings.Rounds.{nat_eq-is}
use Rattle.gm_member.specs.Packets.{last_sent_now, emptied}

-- ---- one origin

-- a line tells the number of the last message that is kept
line_last_sent : (lo : ℕ) (k : Kept) → k.forgot ≤ lo → lo ≤ got_of k → lo + length (drop (lo - k.forgot) k.messages) ≡ got_of k
line_last_sent lo k a b = ap (λ n. lo + n) (length-drop (lo - k.forgot) k.messages) ∙ omega (arith, a, b)

same_last_sent : (k : Kept) (t : LastSent) → got_of k ≡ t.got → k.forgot ≡ t.forgot → t ≡ last_sent_now k
same_last_sent k t g f = ap (λ n. record { got = n; forgot = t.forgot }) (sym g) ∙ ap (λ n. record { got = got_of k; forgot = n }) (sym f)

-- after a packet with its line, or without one, the numbers last sent are those that are kept
pub noted_now : (first : Bool) (p : ℕ) (k : Kept) (t : LastSent) → t.got ≤ got_of k → (first ≡ true → t ≡ never_sent) → noted (next_line first p k t) t ≡ last_sent_now k
noted_now true p k t below fresh = by_line (nat_eq (got_of k) 0) refl
  where
    by_line : (b : Bool) → nat_eq (got_of k) 0 ≡ b → noted (cond (not b) (Some (line_from k.forgot (record { 0 = p }) k)) None) t ≡ last_sent_now k
    by_line false e = ap (λ n. record { got = n; forgot = k.forgot }) (line_last_sent k.forgot k (omega arith) (omega arith))
    by_line true e =
        let none : got_of k ≡ 0 = nat_eq-is (got_of k) 0 e in
        let nothing : k.forgot ≡ 0 = omega (arith, none) in
        fresh refl ∙ same_last_sent k never_sent none nothing
noted_now false p k t below fresh = by_line (nat_eq (got_of k) t.got && nat_eq k.forgot t.forgot) refl
  where
    by_line : (b : Bool) → (nat_eq (got_of k) t.got && nat_eq k.forgot t.forgot) ≡ b → noted (cond (not b) (Some (line_from (max k.forgot t.got) (record { 0 = p }) k)) None) t ≡ last_sent_now k
    by_line false e = ap (λ n. record { got = n; forgot = k.forgot }) (line_last_sent (max k.forgot t.got) k (omega arith) (omega (arith, below)))
    by_line true e =
        let parts = and_parts (nat_eq (got_of k) t.got) (nat_eq k.forgot t.forgot) e in
        same_last_sent k t (nat_eq-is (got_of k) t.got parts.0) (nat_eq-is k.forgot t.forgot parts.1)

-- ---- lines without messages

-- they tell the same
pub emptied_last_sent : (c : LineSeen) → last_sent_in (emptied c) ≡ last_sent_in c
emptied_last_sent c = let same : got_in c + 0 ≡ got_in c = omega arith in ap (λ n. record { got = n; forgot = c.forgot }) same

pub line_of_emptied : (lines : List LineSeen) (p : ℕ) → line_of (map emptied lines) p ≡ option_map emptied (line_of lines p)
line_of_emptied [] p = refl
line_of_emptied (c ∷ lines) p = by_here (nat_eq p c.origin.0) (line_of_emptied lines p)
  where
    by_here : (b : Bool) → line_of (map emptied lines) p ≡ option_map emptied (line_of lines p) → cond b (Some (emptied c)) (line_of (map emptied lines) p) ≡ option_map emptied (cond b (Some c) (line_of lines p))
    by_here true h = refl
    by_here false h = h

pub noted_emptied : (lines : List LineSeen) (p : ℕ) (t : LastSent) → noted (line_of (map emptied lines) p) t ≡ noted (line_of lines p) t
noted_emptied lines p t = ap (λ o. noted o t) (line_of_emptied lines p) ∙ by_line (line_of lines p)
  where
    by_line : (o : Option LineSeen) → noted (option_map emptied o) t ≡ noted o t
    by_line None = refl
    by_line (Some c) = emptied_last_sent c

pub origins_emptied : (lines : List LineSeen) → origins (map emptied lines) ≡ origins lines
origins_emptied [] = refl
origins_emptied (c ∷ lines) = ap (λ ps. c.origin.0 ∷ ps) (origins_emptied lines)
