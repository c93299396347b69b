-- The load can be played.
use Rattle.std.proofs.Common.{◌≡◌, ℕ, zero, suc, ◌+◌, ◌-◌, ◌%◌, ◌<◌, ◌≤◌, ◌==◌, Bool, true, false, nat_le, List, [], ◌∷◌, ◌++◌, Result, Ok, Err, IfOk, length, map, refl, sym, ap, subst, ◌∙◌, if◌then◌else◌, arith}
use Rattle.std.specs.List.{AllByRecursion, Contains, flat_map, enumerate_from, range_with_len}
use Rattle.std.proofs.lemmas.List.{append-nil}
use Rattle.std.proofs.lemmas.List.FromFn.{length-map-range_with_len}
use Rattle.ring_script.specs.declared.command.Command.{Command}
use Rattle.ring_script.specs.declared.command.Command.TheVariants as command
use Rattle.ring_script.specs.declared.text.Text.{Text}
use Rattle.ring_script.specs.Script.{joined_by, joined}
use Rattle.ring_script.specs.Reading.{MayBeGiven, MayEachBeGiven, CanOpen, commands_of, IsPlayable}
use Rattle.ring_script.specs.Load.{openers, name_at, caster, half, leader, asked_in, settled_at, turn, turned_at, block_of, load_commands, IsLoad}
use Rattle.ring_script.proofs.LoadParts.{cast_fits, first_fits, second_fits, openers_few, caster_place, names_to, place_in, names_open}

-- ---- commands by which nobody joins

-- a command may be given where these names are known, and nobody joins by it
abbrev IsPlain : List (List ℕ) → Command → Type 0
IsPlain names x = (joined_by x ≡ []) × MayBeGiven names x

module _ (names : List (List ℕ)) where
  -- where all commands are so, each may be given after the others, and nobody joins
  plain_given : (xs : List Command) → AllByRecursion (IsPlain names) xs → MayEachBeGiven names xs × (joined xs ≡ [])
  plain_given [] h = (tt, refl)
  plain_given (x ∷ xs) h =
      let rest = plain_given xs h.1 in
      let same : names ++ joined_by x ≡ names = ap (λ ns. names ++ ns) h.0.0 ∙ append-nil names in
      ((h.0.1, subst (λ ns. MayEachBeGiven ns xs) (sym same) rest.0), ap (λ ns. ns ++ joined xs) h.0.0 ∙ rest.1)

  -- two lists of such commands make one
  plain_both : (xs ys : List Command) → AllByRecursion (IsPlain names) xs → AllByRecursion (IsPlain names) ys → AllByRecursion (IsPlain names) (xs ++ ys)
  plain_both [] ys h k = k
  plain_both (x ∷ xs) ys h k = (h.0, plain_both xs ys h.1 k)

  -- and so do those that each number of a range has
  plain_range : (f : ℕ → List Command) (from n : ℕ) → ((j : ℕ) → from ≤ j → j < from + n → AllByRecursion (IsPlain names) (f j)) → AllByRecursion (IsPlain names) (flat_map f (range_with_len from n))
  plain_range f from zero h = tt
  plain_range f from (suc n) h =
      plain_both (f from) (flat_map f (range_with_len (from + 1) n)) (h from (omega arith) (omega arith)) (plain_range f (from + 1) n (λ j a b. h j (omega arith) (omega arith)))

-- ---- the commands of the load

module _ (blocks seed : ℕ) (few : blocks ≤ 3900) where
  -- the members
  abbrev names : List (List ℕ)
  names = names_to (openers seed)

  -- who casts is one of them
  caster_in : (j : ℕ) → Contains names (caster seed j)
  caster_in j = place_in (openers seed) (1 + (j + seed) % (openers seed - 1)) (caster_place seed j)

  -- and so is each master
  leader_by : (b : Bool) → Contains names (if b then name_at 0 else name_at 1)
  leader_by true = let some = openers_few seed in place_in (openers seed) 0 (omega arith)
  leader_by false = let some = openers_few seed in place_in (openers seed) 1 (omega arith)

  -- what is asked in a block
  asked_plain : (j : ℕ) → 1 ≤ j → j ≤ 3900 → AllByRecursion (IsPlain names) (asked_in blocks seed j)
  asked_plain j low high =
      let by : Contains names (leader blocks j) = leader_by (nat_le j (half blocks)) in
      ((refl, (caster_in j, cast_fits j (omega arith))), ((refl, (by, first_fits j (omega arith))), ((refl, (by, second_fits j (omega arith))), ((refl, by), ((refl, (by, (low, omega arith))), tt)))))

  -- that the ring settles, or not
  settled_by : (b : Bool) → AllByRecursion (IsPlain names) (if b then command.Settle ∷ [] else [])
  settled_by true = ((refl, tt), tt)
  settled_by false = tt

  -- that the first master ends, or not
  turned_by : (b : Bool) → AllByRecursion (IsPlain names) (if b then turn else [])
  turned_by true = let first : Contains names (name_at 0) = leader_by true in ((refl, first), ((refl, tt), ((refl, first), ((refl, tt), tt))))
  turned_by false = tt

  -- all of a block
  block_plain : (j : ℕ) → 1 ≤ j → j < 1 + blocks → AllByRecursion (IsPlain names) (block_of blocks seed j)
  block_plain j low high =
      plain_both names (asked_in blocks seed j) (settled_at j ++ turned_at blocks j) (asked_plain j low (omega arith))
      (plain_both names (settled_at j) (turned_at blocks j) (settled_by (j % 50 == 0)) (turned_by (j == half blocks)))

  -- and of all blocks
  load_given : MayEachBeGiven names (load_commands blocks seed) × (joined (load_commands blocks seed) ≡ [])
  load_given = plain_given names (load_commands blocks seed) (plain_range names (block_of blocks seed) 1 blocks block_plain)

-- the commands of numbered lines
commands_numbered : (n : ℕ) (xs : List Command) → map (λ (l : ℕ × Command). l.1) (enumerate_from n xs) ≡ xs
commands_numbered n [] = refl
commands_numbered n (x ∷ xs) = ap (λ zs. x ∷ zs) (commands_numbered (n + 1) xs)

-- a script that is the load can be played
load_playable : (blocks seed : ℕ) (script : Text Command) → blocks ≤ 3900 → IsLoad blocks seed script → IsPlayable script
load_playable blocks seed script few load =
    let commands : commands_of script ≡ load_commands blocks seed = ap (map (λ (l : ℕ × Command). l.1)) load.lines ∙ commands_numbered 2 (load_commands blocks seed) in
    let given = load_given blocks seed few in
    let count = openers_few seed in
    let none : joined (commands_of script) ≡ [] = ap joined commands ∙ given.1 in
    let all : length (names_to (openers seed)) ≡ openers seed = length-map-range_with_len name_at 0 (openers seed) in
    let long : length (script.members ++ joined (commands_of script)) ≡ openers seed = ap (λ ns. length (script.members ++ ns)) none ∙ ap length (append-nil script.members) ∙ ap length load.members ∙ all in
    record {
      opens = subst CanOpen (sym load.members) (names_open (openers seed) count.0 count.1);
      commands = subst (λ ns. MayEachBeGiven ns (commands_of script)) (sym load.members) (subst (MayEachBeGiven (names_to (openers seed))) (sym commands) given.0);
      few = omega arith;
    }

-- and so can the one that is made
pub made_playable : {E : Type 0} (blocks seed : ℕ) (made : Result (Text Command) E) → blocks ≤ 3900 → IfOk made (IsLoad blocks seed) → IfOk made IsPlayable
made_playable blocks seed (Ok script) few load = load_playable blocks seed script few load
made_playable blocks seed (Err fault) few load = tt
