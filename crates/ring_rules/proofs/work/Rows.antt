-- Lists of grants and packets, and a row beside what was sent of it.
use Rattle.std.proofs.Common.{◌≡◌, ℕ, ◌<◌, ◌≤◌, true, false, arith, nat_eq, ◌+◌, Option, Some, None, List, length, drop, sym, [], ◌∷◌}
use Rattle.std.proofs.lemmas.Bool.Decides.{nat_tests}
use Rattle.std.proofs.lemmas.List.{length_push}
use Rattle.credit_flow.specs.Link.{with_grant}
use Rattle.std.proofs.lemmas.Bool.{false≢true, and_parts}
use Rattle.group_view.proofs.Rings.{nat_eq-is}
use Rattle.ring_rules.specs.declared.numbers.Numbers.{Numbers}
use Rattle.ring_rules.specs.Refusal.{is_empty}
use Rattle.ring_rules.specs.Rows.{Row, is_sent}

-- at most one grant comes
pub with_grant-most : (grants : List ℕ) (grant : Option ℕ) → length (with_grant grants grant) ≤ length grants + 1
with_grant-most grants None = omega arith
with_grant-most grants (Some grant) = omega (arith, length_push grants grant)

-- what was last sent
pub sent_got : (r : Row) (last : Numbers) → is_sent r last ≡ true → r.got ≡ last.got
sent_got r last e = nat_eq-is r.got last.got (and_parts (nat_eq r.got last.got) (nat_eq r.forgot last.forgot) e).0

pub sent_forgot : (r : Row) (last : Numbers) → is_sent r last ≡ true → r.forgot ≡ last.forgot
sent_forgot r last e = nat_eq-is r.forgot last.forgot (and_parts (nat_eq r.got last.got) (nat_eq r.forgot last.forgot) e).1

-- a row whose numbers had been sent and are not any more has risen
pub risen : (r r' : Row) (last : Numbers) → is_sent r last ≡ true → is_sent r' last ≡ false → r.got ≤ r'.got → r.forgot ≤ r'.forgot → r.got + r.forgot < r'.got + r'.forgot
risen r r' last before after got forgot = grind (arith, nat_tests)

-- on a list with an element, one fewer is left when the first goes
pub length-rest : {A : Type 0} (xs : List A) → is_empty xs ≡ false → length (drop 1 xs) + 1 ≡ length xs
length-rest [] e = absurd (false≢true (sym e))
length-rest (x ∷ xs) e = omega arith
