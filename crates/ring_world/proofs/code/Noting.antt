-- What a World notes of an event.
use Rattle.std.proofs.Common.{◌≡◌, true, false, List, [], ◌∷◌, ◌++◌, Option, Some, None, ℕ, refl, sym}
use Rattle.std.proofs.lemmas.Bool.{false≢true}
use Rattle.std.proofs.lemmas.List.{append-nil}
use Rattle.ring_rules.specs.Machine.{World}
use Rattle.ring_rules.specs.Event.{is_refusal, refusals_of, effect, at_found, id_of, by_of}
use Rattle.ring_rules.specs.declared.event.Event.TheVariants.{Refuse}
use Rattle.ring_rules.specs.declared.event.Event.{Event}

-- a refusal is noted
pub refusal_noted : (es : List Event) (e : Event) → is_refusal e ≡ true → es ++ e ∷ [] ≡ es ++ refusals_of (e ∷ [])
refusal_noted es e h = rw h refl

-- no other event is
pub not_noted : (es : List Event) (e : Event) → is_refusal e ≡ false → es ≡ es ++ refusals_of (e ∷ [])
not_noted es e h = rw h (sym (append-nil es))
