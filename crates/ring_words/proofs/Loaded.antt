-- What the words behind `load` leave, where the command takes them: its two numbers, each in its range.
use Rattle.std.proofs.Common.{◌≡◌, ◌∙◌, ◌⊎◌, ℕ, zero, suc, Bool, true, false, cond, ◌||◌, List, [], ◌∷◌, length, Option, Some, None, codes, refl, sym, ap, subst, inl, inr}
use Rattle.std.specs.Prelude.{⊤, fold, pos, slice_get}
use Rattle.std.specs.Option.{option_map_or}
use Rattle.std.specs.Str.{bytes_eq, chars}
use Rattle.clap.specs.Faults.{bundle_step_fault, check_fault, defaults_fault, flag_word_fault, flags_fault, level_fault, settle_fault, step_fault, turn_fault, walk_fault, word_fault}
use Rattle.clap.specs.Kinds.{Kinds, or_else}
use Rattle.clap.specs.Lexer.{long_of, short_of}
use Rattle.clap.specs.Simple.{Shape, built, built_leaf, filled, inherited, with_index}
use Rattle.clap.specs.Values.{IsSignedIn, refused_kind}
use Rattle.clap.specs.ValueTests.{accepts}
use Rattle.clap.specs.Walk.{Held, Row, Rule, Step, Text, Walk, idle, plain, trailing, value, after_step, bundle_met, bundle_step, finished, long_or_other, nothing_held, rows_after, settled, short_or_plain, walked, word_met}
use Rattle.clap.specs.declared.builder.value_parser.Reading.TheVariants.{WithoutMinus}
use Rattle.clap.specs.declared.builder.value_parser.ValueParser.TheVariants.{Signed}
use Rattle.clap.specs.declared.error.kind.ErrorKind.{ErrorKind}
use Rattle.clap.specs.declared.error.kind.ErrorKind.TheVariants.{MissingRequiredArgument}
use Rattle.clap.specs.declared.parser.matches.ValueSource.TheVariants.{CommandLine}
use Rattle.clap.proofs.ValueTestLemmas.{accepts-Accepts}
use Rattle.ring_words.specs.Words.{loading, number_rule, ringplay}

-- the first number, once built
abbrev size : Rule
size = with_index 1 (filled (number_rule (codes "SIZE") 2 3900))

-- and the second
abbrev seed : Rule
seed = with_index 2 (filled (number_rule (codes "SEED") 0 1000000))

-- the arguments of `load`
abbrev numbers : List Rule
numbers = size ∷ seed ∷ []

-- `load`, once built
abbrev pub loader : Shape
loader = built_leaf (inherited (built ringplay).top loading.top)

-- the row of a number
abbrev pub number_row : Text → Text → Row
number_row id text = record { id = id; values = text ∷ []; count = None; source = Some CommandLine; reading = WithoutMinus }

-- how many of the numbers were met
data Progress : Type 0 where
  none : Progress
  one : Text → Progress
  two : Text → Text → Progress

-- the rows then
abbrev rows_at : Progress → List Row
rows_at none = []
rows_at (one t) = []
rows_at (two t u) = number_row (codes "SIZE") t ∷ []

-- the number that is being read
abbrev pending_at : Progress → Option (Text × List Text)
pending_at none = None
pending_at (one t) = Some (codes "SIZE", t ∷ [])
pending_at (two t u) = Some (codes "SEED", u ∷ [])

-- the place of the next
abbrev position_at : Progress → ℕ
position_at none = 1
position_at (one t) = 2
position_at (two t u) = 3

-- what is held then
abbrev held_at : Progress → Held
held_at p = record { rows = rows_at p; pending = pending_at p; skip = 0 }

-- where the walk stands then
abbrev walk_at : Progress → Bool → Walk
walk_at p is_trailing = record { held = held_at p; waiting = idle; position = position_at p; is_trailing = is_trailing; stopped = None }

-- a number that was read is in its range
abbrev IsSound : Progress → Type 0
IsSound (two t u) = IsSignedIn (pos 2) (pos 3900) t
IsSound _ = ⊤

-- where no step has a fault, the first has none
pub first_step : (a b : Kinds) → or_else a b ≡ [] → a ≡ []
first_step [] b e = refl
first_step (k ∷ ks) b e = cc

-- and the next has none
pub second_step : (a b : Kinds) → or_else a b ≡ [] → b ≡ []
second_step [] b e = e
second_step (k ∷ ks) b e = cc

module _ (rows : List Row) (pending : Option (Text × List Text)) where
  -- what is held
  abbrev h : Held
  h = record { rows = rows; pending = pending; skip = 0 }

  -- one hyphen begins no flag
  bundled : (k : ℕ) (flags : Text) → flags_fault numbers false k flags 0 h ≡ [] → bundle_met numbers k flags 0 plain h ≡ (h, plain)
  unfolding bundle_met flags_fault
  bundled zero flags e = refl
  bundled (suc k) flags e = go (slice_get (chars flags) 0) e
    where
      go : (o : Option ℕ) → bundle_step_fault numbers false o flags 0 h (flags_fault numbers false k) ≡ [] → bundle_step numbers o flags 0 plain h (bundle_met numbers k) ≡ (h, plain)
      go None e = refl
      go (Some x) e = cc

  -- a word leaves what is held as it is, and is a value or two hyphens
  abbrev IsMet : ℕ → Held × Step → Type 0
  IsMet position met = (met ≡ (h, value)) ⊎ (met ≡ (h, trailing position))

  -- so it is of each word with no fault
  met : (word : Text) (position : ℕ) (is_trailing : Bool) → word_fault loader [] is_trailing idle word h ≡ [] → IsMet position (word_met numbers [] is_trailing idle position word h)
  met word position true e = inl refl
  met word position false e = dashes (bytes_eq word (45 ∷ 45 ∷ [])) e
    where
      shorts : (o : Option Text) → option_map_or (λ flags. flags_fault numbers false (length flags) flags 0 h) o [] ≡ [] → IsMet position (short_or_plain numbers idle word o h)
      shorts None e = inl refl
      shorts (Some flags) e = inl (rw (bundled (length flags) flags e) refl)

      longs : (o : Option (Text × Option Text)) → flag_word_fault numbers false o word h ≡ [] → IsMet position (long_or_other numbers idle word o h)
      longs None e = shorts (short_of word) e
      longs (Some p) e = cc

      dashes : (b : Bool) → cond b [] (flag_word_fault numbers false (long_of word) word h) ≡ [] → IsMet position (cond b (h, trailing position) (long_or_other numbers idle word (long_of word) h))
      dashes true e = inr refl
      dashes false e = longs (long_of word) e

-- a value of an argument that passed is in the range
passed : (least most : ℕ) (t : Text) → or_else (cond (accepts false (Signed (pos least) (pos most)) t) [] (refused_kind (Signed (pos least) (pos most)) ∷ [])) [] ≡ [] → IsSignedIn (pos least) (pos most) t
passed least most t e = accepts-Accepts false (Signed (pos least) (pos most)) t (go (accepts false (Signed (pos least) (pos most)) t) e)
  where
    go : (b : Bool) → or_else (cond b [] (refused_kind (Signed (pos least) (pos most)) ∷ [])) [] ≡ [] → b ≡ true
    go true e = refl
    go false e = cc

-- a value goes to the next number
valued : (p : Progress) (is_trailing : Bool) (word : Text) → IsSound p → step_fault loader (position_at p) (held_at p) value ≡ []
    → (q : Progress) × (b : Bool) × (after_step numbers word (walk_at p is_trailing) (held_at p) value ≡ walk_at q b) × IsSound q
valued none is_trailing word sound e = (one word, is_trailing || false, refl, tt)
valued (one t) is_trailing word sound e = (two t word, is_trailing || false, refl, passed 2 3900 t e)
valued (two t u) is_trailing word sound e = cc

-- one more word
stepped : (p : Progress) (is_trailing : Bool) (word : Text) → IsSound p → turn_fault loader [] (walk_at p is_trailing) word ≡ []
    → (q : Progress) × (b : Bool) × (walked numbers [] (walk_at p is_trailing) word ≡ walk_at q b) × IsSound q
unfolding walked
stepped p is_trailing word sound e = go (met (rows_at p) (pending_at p) word (position_at p) is_trailing (first_step _ _ e)) (second_step _ _ e)
  where
    go : {m : Held × Step} → IsMet (rows_at p) (pending_at p) (position_at p) m → step_fault loader (position_at p) m.0 m.1 ≡ []
        → (q : Progress) × (b : Bool) × (after_step numbers word (walk_at p is_trailing) m.0 m.1 ≡ walk_at q b) × IsSound q
    go {m} (inl is) e =
        let v = valued p is_trailing word sound (subst (λ (x : Held × Step). step_fault loader (position_at p) x.0 x.1 ≡ []) is e) in
        (v.0, v.1, ap (λ (x : Held × Step). after_step numbers word (walk_at p is_trailing) x.0 x.1) is ∙ v.2, v.3)
    go {m} (inr is) e = (p, true, ap (λ (x : Held × Step). after_step numbers word (walk_at p is_trailing) x.0 x.1) is, sound)

-- all words
all : (words : List Text) (p : Progress) (is_trailing : Bool) → IsSound p → walk_fault loader [] (walk_at p is_trailing) words ≡ []
    → (q : Progress) × (b : Bool) × (fold (walked numbers []) (walk_at p is_trailing) words ≡ walk_at q b) × IsSound q
unfolding walk_fault
all [] p is_trailing sound e = (p, is_trailing, refl, sound)
all (x ∷ xs) p is_trailing sound e =
    let s = stepped p is_trailing x sound (first_step _ _ e) in
    let rest = all xs s.0 s.1 s.3 (subst (λ (w : Walk). walk_fault loader [] w xs ≡ []) s.2 (second_step _ _ e)) in
    (rest.0, rest.1, ap (λ (w : Walk). fold (walked numbers []) w xs) s.2 ∙ rest.2, rest.3)

-- what follows the walk
abbrev behind : Held → Kinds
behind end = or_else (settle_fault numbers false end) (or_else (defaults_fault (settled numbers end).rows numbers) (check_fault loader (finished numbers end) false))

-- the rows are those of the two numbers
abbrev IsLoaded : List Row → Type 0
IsLoaded rows = (t : Text) × (u : Text) × (rows ≡ number_row (codes "SIZE") t ∷ number_row (codes "SEED") u ∷ []) × IsSignedIn (pos 2) (pos 3900) t × IsSignedIn (pos 0) (pos 1000000) u

-- a fault is not none
some_fault : (k : ErrorKind) (ks : Kinds) → k ∷ ks ≡ [] → ⊥
some_fault k ks e = cc

-- both numbers are wanted
ended : (p : Progress) → IsSound p → behind (held_at p) ≡ [] → IsLoaded (finished numbers (held_at p))
unfolding defaults_fault
ended none sound e = absurd (some_fault MissingRequiredArgument [] e)
ended (one t) sound e =
    let checked : MissingRequiredArgument ∷ [] ≡ [] = second_step (settle_fault numbers false (held_at (one t))) (MissingRequiredArgument ∷ []) e in
    absurd (some_fault MissingRequiredArgument [] checked)
ended (two t u) sound e = (t, u, refl, sound, passed 0 1000000 u (first_step _ _ e))

-- whatever words follow, they are the two numbers
pub loaded : (words : List Text) → level_fault loader [] nothing_held words false [] ≡ [] → IsLoaded (rows_after numbers [] words)
loaded words taken =
    let end = all words none false tt (first_step _ _ taken) in
    let held = ap (λ (w : Walk). w.held) end.2 in
    subst (λ (h : Held). IsLoaded (finished numbers h)) (sym held) (ended end.0 end.3 (subst (λ (h : Held). behind h ≡ []) held (second_step _ _ taken)))
