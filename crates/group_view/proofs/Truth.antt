-- Tests that stand one behind another, and of what is there.
use Rattle.std.proofs.Common.{◌≡◌, Bool, true, false, cond, Option, Some, None, is_some, sym, refl}
use Rattle.std.proofs.lemmas.Bool.{false≢true}

-- a test that passes passes behind any other
pub later_true : {c : Bool} (b : Bool) → c ≡ true → cond b true c ≡ true
later_true true e = refl
later_true false e = e

-- where neither of two passes, the first doesn't
pub first_false : (b c : Bool) → cond b true c ≡ false → b ≡ false
first_false true c e = e
first_false false c e = refl

-- nor does the second
pub later_false : (b c : Bool) → cond b true c ≡ false → c ≡ false
later_false true c e = absurd (false≢true (sym e))
later_false false c e = e

-- what passes only where another fails passes
pub other_true : (b c : Bool) → cond b false c ≡ true → c ≡ true
other_true true c e = absurd (false≢true e)
other_true false c e = e

-- a test by its outcome
pub cond_itself : (b : Bool) → cond b true false ≡ b
cond_itself true = refl
cond_itself false = refl

-- what isn't there is nothing
pub none_there : {A : Type 0} (o : Option A) → is_some o ≡ false → o ≡ None
none_there None h = refl
none_there (Some x) h = cc
