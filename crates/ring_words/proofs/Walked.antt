-- What the words behind a subcommand leave, where no word of its own takes a value: no option, and no place.
use Rattle.std.proofs.Common.{◌≡◌, ℕ, zero, suc, Bool, true, false, cond, List, [], ◌∷◌, length, Option, Some, None, refl, sym, ap, subst}
use Rattle.std.specs.Prelude.{fold, slice_get}
use Rattle.std.specs.Str.{bytes_eq, chars}
use Rattle.clap.specs.Lexer.{long_of, short_of}
use Rattle.clap.specs.Walk.{Held, Outcome, Row, Rule, Step, Text, Waiting, Walk, done, waits, plain, refused, idle, next, trailing, subcommand, value, after_flag, after_step, arg_by_index, arg_by_long, arg_by_short, bundle_met, bundle_step, long_met, long_or_other, nothing_held, settled, settled_rows, short_or_plain, walk, walk_from, walked, walked_from, word_met}

-- no value is being read, and the rows are as R says
abbrev pub IsQuiet : (List Row → Type 0) → Held → Type 0
IsQuiet R h = (h.pending ≡ None) × R h.rows

-- no option waits for a value
abbrev NeverWaits : Outcome → Type 0
NeverWaits (waits id) = ⊥
NeverWaits _ = Unit {0}

-- nothing waits for the next word
abbrev StaysIdle : Step → Type 0
StaysIdle (next waiting) = waiting ≡ idle
StaysIdle _ = Unit {0}

-- what a flag leaves
abbrev pub IsStill : (List Row → Type 0) → Held × Outcome → Type 0
IsStill R met = IsQuiet R met.0 × NeverWaits met.1

module _ (c : List Rule) (R : List Row → Type 0) (no_short : (x : ℕ) → arg_by_short c x ≡ None) (no_place : (i : ℕ) → arg_by_index c i ≡ None)
    (long : (name : Text) (v : Option Text) (h : Held) → IsQuiet R h → IsStill R (long_met c (arg_by_long c name) v h)) where
  -- what a word leaves
  abbrev IsStep : Held × Step → Type 0
  IsStep met = IsQuiet R met.0 × StaysIdle met.1

  -- what the walk leaves
  abbrev IsIdle : Walk → Type 0
  IsIdle w = IsQuiet R w.held × (w.waiting ≡ idle)

  -- one hyphen begins no flag, so such a word leaves all as it is
  bundled : (k : ℕ) (flags : Text) (skip : ℕ) (h : Held) → IsQuiet R h → IsStill R (bundle_met c k flags skip plain h)
  unfolding bundle_met
  bundled zero flags skip h q = (q, tt)
  bundled (suc k) flags skip h q = first (λ t n. bundled k t n h q) (slice_get (chars flags) 0) skip
    where
      first : ((t : Text) (n : ℕ) → IsStill R (bundle_met c k t n plain h)) → (o : Option ℕ) (n : ℕ) → IsStill R (bundle_step c o flags n plain h (bundle_met c k))
      first rest None n = (q, tt)
      first rest (Some x) zero = rw (no_short x) (q, tt)
      first rest (Some x) (suc n) = rest _ n

  -- behind a flag no value is awaited
  behind_flag : (word : Text) (h : Held) (x : Outcome) → IsQuiet R h → NeverWaits x → IsStep (after_flag c idle word h x)
  behind_flag word h done q e = (q, refl)
  behind_flag word h (waits id) q e = absurd e
  behind_flag word h plain q e = (q, tt)
  behind_flag word h refused q e = (q, tt)

  -- a word
  met : (word : Text) (h : Held) → IsQuiet R h → (position : ℕ) (is_trailing : Bool) → IsStep (word_met c [] is_trailing idle position word h)
  met word h q position true = (q, tt)
  met word h q position false = dashes (bytes_eq word (45 ∷ 45 ∷ []))
    where
      shorts : (o : Option Text) → IsStep (short_or_plain c idle word o h)
      shorts None = (q, tt)
      shorts (Some flags) =
          let s = bundled (length flags) flags h.skip (record h { skip = 0 }) q in
          behind_flag word _ _ s.0 s.1

      longs : (o : Option (Text × Option Text)) → IsStep (long_or_other c idle word o h)
      longs None = shorts (short_of word)
      longs (Some p) =
          let s = long p.0 p.1 h q in
          behind_flag word _ _ s.0 s.1

      dashes : (b : Bool) → IsStep (cond b (h, trailing position) (long_or_other c idle word (long_of word) h))
      dashes true = (q, tt)
      dashes false = longs (long_of word)

  -- the walk over one more word
  walks : (w : Walk) (word : Text) → IsIdle w → IsIdle (walked c [] w word)
  unfolding walked
  walks w word q = go w.stopped
    where
      after : (h : Held) (s : Step) → IsQuiet R h → StaysIdle s → IsIdle (after_step c word w h s)
      after h (next waiting) k e = (k, e)
      after h (trailing position) k e = (k, q.1)
      after h (subcommand name) k e = (k, q.1)
      after h value k e = rw (no_place w.position) (k, q.1)

      go : (o : Option (Text × List Text)) → IsIdle (walked_from c [] o w word)
      go (Some p) = q
      go None =
          let s = subst (λ (v : Waiting). IsStep (word_met c [] w.is_trailing v w.position word w.held)) (sym q.1) (met word w.held q.0 w.position w.is_trailing) in
          after _ _ s.0 s.1

  -- and over all words
  all : (words : List Text) (w : Walk) → IsIdle w → IsIdle (fold (walked c []) w words)
  all [] w q = q
  all (x ∷ xs) w q = all xs (walked c [] w x) (walks w x q)

  -- the rows before the defaults
  pub rows_at_end : R [] → (words : List Text) → R (settled c (walk c [] nothing_held words).held).rows
  rows_at_end none words =
      let end = (walk c [] nothing_held words).held in
      let q = all words (walk_from nothing_held) ((refl, none), refl) in
      subst R (sym (ap (λ p. settled_rows c p end.rows) q.0.0)) q.0.1
