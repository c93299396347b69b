-- The next packet of a member, and its rows.
use Rattle.std.proofs.Common.{◌≡◌, ℕ, zero, suc, Bool, List, [], ◌∷◌, get_or, refl}
use Rattle.ring_rules.specs.declared.numbers.Numbers.{Numbers}
use Rattle.ring_rules.specs.Rows.{Row, no_row, no_numbers, next_numbers}
use Rattle.ring_rules.specs.Machine.{Member, Sending, row_at, numbers_at}
use Rattle.ring_rules.specs.Step.{next_lines, next_packet}

-- a number of a row goes as this number of a packet
pub record Reads (g : Numbers → ℕ) (r : Row → ℕ) : Type 0 where
  pub line : (fresh : Bool) (a : Row) (k : Numbers) → g (next_numbers fresh a k) ≡ r a
  pub none : g no_numbers ≡ r no_row

pub reads_got : Reads (λ k. k.got) (λ r. r.got)
reads_got = record { line = λ fresh a k. refl; none = refl }

pub reads_forgot : Reads (λ k. k.forgot) (λ r. r.forgot)
reads_forgot = record { line = λ fresh a k. refl; none = refl }

lines_read : (g : Numbers → ℕ) (r : Row → ℕ) (fresh : Bool) (rows : List Row) (last : List Numbers) (p : ℕ) → Reads g r → g (get_or (next_lines fresh rows last) p no_numbers) ≡ r (get_or rows p no_row)
lines_read g r fresh [] last p h = h.none
lines_read g r fresh (a ∷ rows) [] zero h = h.line fresh a no_numbers
lines_read g r fresh (a ∷ rows) (k ∷ last) zero h = h.line fresh a k
lines_read g r fresh (a ∷ rows) [] (suc p) h = lines_read g r fresh rows [] p h
lines_read g r fresh (a ∷ rows) (k ∷ last) (suc p) h = lines_read g r fresh rows last p h

pub line_of_packet : (g : Numbers → ℕ) (r : Row → ℕ) (y : Member) (s : Sending) (p : ℕ) → Reads g r → g (numbers_at (next_packet y s) p) ≡ r (row_at y p)
line_of_packet g r y s p h = lines_read g r s.fresh y.rows s.sent.numbers p h
