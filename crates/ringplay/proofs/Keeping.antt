-- What is told with a journal behind it, or without one.
use Rattle.std.proofs.Common.{◌≡◌, ℕ, Bool, true, false, List, [], ◌++◌, refl, sym, subst}
use Rattle.std.proofs.lemmas.Bool.{false≢true}
use Rattle.std.proofs.lemmas.List.{append-nil}
use Rattle.ring_names.specs.declared.numbers.CreditSpec.{CreditSpec}
use Rattle.ring_rules.specs.declared.event.Event.{Event}
use Rattle.ringplay.specs.Performed.{IsJournalText, Tells}

-- a text alone
pub tells_alone : (kept : Bool) (credit : CreditSpec) (names : List (List ℕ)) (journal : List Event) (text : List ℕ) → kept ≡ false → Tells kept credit names journal (λ first. first ≡ text) text
tells_alone false credit names journal text e = record { first = text; behind = []; says_so = refl; keeps = refl; whole = sym (append-nil text) }
tells_alone true credit names journal text e = absurd (false≢true (sym e))

-- and a text with the journal behind it
pub tells_both : (kept : Bool) (credit : CreditSpec) (names : List (List ℕ)) (journal : List Event) (text written whole : List ℕ) → kept ≡ true → IsJournalText credit names journal written → whole ≡ text ++ written
    → Tells kept credit names journal (λ first. first ≡ text) whole
tells_both true credit names journal text written whole e is so = record { first = text; behind = written; says_so = refl; keeps = is; whole = so }
tells_both false credit names journal text written whole e is so = absurd (false≢true e)

-- a text that says something
pub tells_so : (kept : Bool) (credit : CreditSpec) (names : List (List ℕ)) (journal : List Event) (says : List ℕ → Type 0) (text whole : List ℕ) → Tells kept credit names journal (λ first. first ≡ text) whole → says text
    → Tells kept credit names journal says whole
tells_so kept credit names journal says text whole t so = record { first = t.first; behind = t.behind; says_so = subst says (sym t.says_so) so; keeps = t.keeps; whole = t.whole }
