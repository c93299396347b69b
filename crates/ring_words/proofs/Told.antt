-- What matches tell of the subcommand of words that the command takes.
use Rattle.std.proofs.Common.{◌≡◌, ◌∙◌, ℕ, Bool, true, false, List, [], ◌∷◌, Option, Some, None, option_map, codes, slice_index, refl, sym, ap, ap₂, subst, arith, ◌≤◌}
use Rattle.std.specs.Prelude.{Box}
use Rattle.std.specs.Box.{box_value}
use Rattle.std.specs.Borrow.{Bor}
use Rattle.clap.specs.Matches.{found_of, one_text, subcommand_name_of}
use Rattle.clap.specs.Simple.{subcommand_rows, subcommand_rows_of}
use Rattle.clap.specs.Walk.{Row, Text, one_of, rows_of}
use Rattle.clap.specs.Words.{without_minus}
use Rattle.clap.specs.declared.parser.matches.ArgMatches.{ArgMatches}
use Rattle.clap.specs.declared.parser.matches.ArgMatches.TheViews.{out-ArgMatches, out-SubCommand}
use Rattle.clap.specs.declared.parser.matches.SubCommand.{SubCommand}
use Rattle.clap.proofs.WalkLemmas.{one_text-rows}
use Rattle.ring_words.specs.Words.{IsInRange, IsOfTaken, Named, WritesNumber, flag_text, means, named, number_of}
use Rattle.ring_words.specs.declared.asked.Asked.TheVariants.{Check, Load}
use Rattle.ring_words.proofs.Numbers.{IsRead, number_read}
use Rattle.ring_words.proofs.Taken.{Entered, IsSound, checks, entered_by, entry_of, journal_row, loads, plays, steps}

-- a subcommand, as `subcommand` gives it
abbrev Given : Type 0
Given = Option (Bor Text × Bor ArgMatches)

-- the name of a subcommand is that of its rows
name_told : {Z : Type 0} (sub : Option (Box SubCommand Z)) → option_map (λ b. (out-SubCommand (box_value b)).name.now) sub ≡ option_map (λ p. p.0) (subcommand_rows sub)
name_told None = refl
name_told (Some b) = refl

-- a subcommand, as its name and its rows
abbrev entry : Bor Text × Bor ArgMatches → Text × List Row
entry p = (p.0.now, rows_of (found_of p.1.now))

-- a subcommand with a flag and no numbers
abbrev pub flagged : Text → Bool → Named
flagged name flag = record { name = name; flag = Some (flag_text flag); size = None; seed = None }

-- the flag is what the rows have
flag_of : (x : Entered) (name : Text) (rows : List Row) (flag : Bool) → Some (name, rows) ≡ Some (entry_of x) → (name ≡ codes "check" → ⊥) → (name ≡ codes "load" → ⊥)
    → (one_of (codes "journal") rows ≡ Some (codes "true") → flag ≡ true) → (one_of (codes "journal") rows ≡ Some (codes "false") → flag ≡ false)
    → named (Some (entry_of x)) ≡ Some (flagged name flag)
flag_of x name rows flag same check load set unset = go x (let e : name ≡ (entry_of x).0 = cc in e) (let e : rows ≡ (entry_of x).1 = cc in e)
  where
    is : (journal : Bool) → rows ≡ journal_row journal ∷ [] → journal ≡ flag
    is true e = sym (set (ap (one_of (codes "journal")) e))
    is false e = sym (unset (ap (one_of (codes "journal")) e))

    go : (x : Entered) → name ≡ (entry_of x).0 → rows ≡ (entry_of x).1 → named (Some (entry_of x)) ≡ Some (flagged name flag)
    go (plays true) e f = ap₂ (λ (n : Text) (b : Bool). Some (flagged n b)) (sym e) (is true f)
    go (plays false) e f = ap₂ (λ (n : Text) (b : Bool). Some (flagged n b)) (sym e) (is false f)
    go (steps true) e f = ap₂ (λ (n : Text) (b : Bool). Some (flagged n b)) (sym e) (is true f)
    go (steps false) e f = ap₂ (λ (n : Text) (b : Bool). Some (flagged n b)) (sym e) (is false f)
    go checks e f = absurd (check e)
    go (loads size seed) e f = absurd (load e)

-- `check` has no flag, and no number
none_of : (x : Entered) → (entry_of x).0 ≡ codes "check" → named (Some (entry_of x)) ≡ Some (means Check)
none_of (plays journal) e = cc
none_of (steps journal) e = cc
none_of checks e = refl
none_of (loads size seed) e = cc

-- there are four names
name_of : (x : Entered) → ((entry_of x).0 ≡ codes "play" → ⊥) → ((entry_of x).0 ≡ codes "step" → ⊥) → ((entry_of x).0 ≡ codes "check" → ⊥) → ((entry_of x).0 ≡ codes "load" → ⊥) → ⊥
name_of (plays journal) p s c l = p refl
name_of (steps journal) p s c l = s refl
name_of checks p s c l = c refl
name_of (loads size seed) p s c l = l refl

-- `load` is another name than `play`
pub play_apart : codes "play" ≡ codes "load" → ⊥
play_apart e =
    let first : ◌≡◌ {A = ℕ} 112 108 = ap (λ t. slice_index t 0) e in
    absurd (omega arith)

-- and than `step`
pub step_apart : codes "step" ≡ codes "load" → ⊥
step_apart e =
    let first : ◌≡◌ {A = ℕ} 115 108 = ap (λ t. slice_index t 0) e in
    absurd (omega arith)

-- and than `check`
check_apart : codes "check" ≡ codes "load" → ⊥
check_apart e =
    let first : ◌≡◌ {A = ℕ} 99 108 = ap (λ t. slice_index t 0) e in
    absurd (omega arith)

-- `load` was entered, with two numbers in their ranges
record IsLoad (x : Entered) : Type 0 where
  size : Text
  seed : Text
  is : entry_of x ≡ entry_of (loads size seed)
  size_read : IsRead 2 3900 (without_minus size)
  seed_read : IsRead 0 1000000 (without_minus seed)

-- so it is what was entered by that name
load_of : (x : Entered) → IsSound x → (entry_of x).0 ≡ codes "load" → IsLoad x
load_of (plays journal) sound e = absurd (play_apart e)
load_of (steps journal) sound e = absurd (step_apart e)
load_of checks sound e = absurd (check_apart e)
load_of (loads size seed) sound e = record {
  size = size;
  seed = seed;
  is = refl;
  size_read = number_read 2 3900 size (omega arith) sound.0;
  seed_read = number_read 0 1000000 seed (omega arith) sound.1;
}

module _ (m : ArgMatches) (given : Given) (taken : IsOfTaken (subcommand_rows_of m)) (names : option_map (λ p. p.0.now) given ≡ subcommand_name_of m)
    (rows : option_map (λ p. rows_of (found_of p.1.now)) given ≡ option_map (λ p. p.1) (subcommand_rows_of m)) where
  -- what the matches have entered
  entered : (x : Entered) × (subcommand_rows_of m ≡ Some (entry_of x)) × IsSound x
  entered =
      let x = entered_by taken.0 taken.1 in
      (x.0, taken.2 ∙ x.1, x.2)

  -- and give
  told : option_map entry given ≡ Some (entry_of entered.0)
  told = go given (entry_of entered.0) (names ∙ name_told (out-ArgMatches m).subcommand ∙ ap (option_map (λ p. p.0)) entered.1) (rows ∙ ap (option_map (λ p. p.1)) entered.1)
    where
      go : (given : Given) (e : Text × List Row) → option_map (λ p. p.0.now) given ≡ Some e.0 → option_map (λ p. rows_of (found_of p.1.now)) given ≡ Some e.1
          → option_map entry given ≡ Some e
      go None e n r = cc
      go (Some g) e n r =
          let name : g.0.now ≡ e.0 = cc in
          let own : rows_of (found_of g.1.now) ≡ e.1 = cc in
          ap₂ (λ (t : Text) (rs : List Row). Some (t, rs)) name own

  -- a subcommand is given
  pub some_told : given ≡ None → ⊥
  some_told is =
      let none : None ≡ Some (entry_of entered.0) = sym (ap (option_map entry) is) ∙ told in
      cc

  module _ (p : Bor Text × Bor ArgMatches) (is : given ≡ Some p) where
    -- it is the one that was entered
    same : Some (entry p) ≡ Some (entry_of entered.0)
    same = sym (ap (option_map entry) is) ∙ told

    -- by name too
    same_name : p.0.now ≡ (entry_of entered.0).0
    same_name = cc same

    -- and by its rows
    same_rows : rows_of (found_of p.1.now) ≡ (entry_of entered.0).1
    same_rows = cc same

    -- so its flag is what the rows have
    pub flag_told : (word : Text) (flag : Bool) → p.0.now ≡ word → (word ≡ codes "check" → ⊥) → (word ≡ codes "load" → ⊥)
        → (one_text (found_of p.1.now) (codes "journal") ≡ Some (codes "true") → flag ≡ true)
        → (one_text (found_of p.1.now) (codes "journal") ≡ Some (codes "false") → flag ≡ false) → named (subcommand_rows_of m) ≡ Some (flagged word flag)
    flag_told word flag name check load set unset =
        let by_rows = one_text-rows (found_of p.1.now) (codes "journal") in
        ap named entered.1
        ∙ flag_of entered.0 p.0.now (rows_of (found_of p.1.now)) flag same (λ e. check (sym name ∙ e)) (λ e. load (sym name ∙ e)) (λ e. set (by_rows ∙ e)) (λ e. unset (by_rows ∙ e))
        ∙ ap (λ n. Some (flagged n flag)) name

    -- and `check` has none
    pub check_told : p.0.now ≡ codes "check" → named (subcommand_rows_of m) ≡ Some (means Check)
    check_told name = ap named entered.1 ∙ none_of entered.0 (sym same_name ∙ name)

    -- no further name comes
    pub one_told : (p.0.now ≡ codes "play" → ⊥) → (p.0.now ≡ codes "step" → ⊥) → (p.0.now ≡ codes "check" → ⊥) → (p.0.now ≡ codes "load" → ⊥) → ⊥
    one_told play step check load = name_of entered.0 (λ e. play (same_name ∙ e)) (λ e. step (same_name ∙ e)) (λ e. check (same_name ∙ e)) (λ e. load (same_name ∙ e))

    module _ (name : p.0.now ≡ codes "load") where
      -- what `load` was entered with
      load : IsLoad entered.0
      load = load_of entered.0 entered.2 (sym same_name ∙ name)

      -- the rows of its numbers
      load_rows : rows_of (found_of p.1.now) ≡ (entry_of (loads load.size load.seed)).1
      load_rows = same_rows ∙ ap (λ (e : Text × List Row). e.1) load.is

      -- the text of its size, as it is read
      size_text : one_text (found_of p.1.now) (codes "SIZE") ≡ Some (without_minus load.size)
      size_text = one_text-rows (found_of p.1.now) (codes "SIZE") ∙ ap (one_of (codes "SIZE")) load_rows

      -- and that of its seed
      seed_text : one_text (found_of p.1.now) (codes "SEED") ≡ Some (without_minus load.seed)
      seed_text = one_text-rows (found_of p.1.now) (codes "SEED") ∙ ap (one_of (codes "SEED")) load_rows

      -- the first writes a number
      pub size_told : WritesNumber (one_text (found_of p.1.now) (codes "SIZE"))
      size_told = subst WritesNumber (sym size_text) (load.size_read.0, load.size_read.1)

      -- and so does the second
      pub seed_told : WritesNumber (one_text (found_of p.1.now) (codes "SEED"))
      seed_told = subst WritesNumber (sym seed_text) (load.seed_read.0, load.seed_read.1)

      module _ (blocks seed : ℕ) (size_is : option_map number_of (one_text (found_of p.1.now) (codes "SIZE")) ≡ Some blocks)
          (seed_is : option_map number_of (one_text (found_of p.1.now) (codes "SEED")) ≡ Some seed) where
        -- the number that the text of the size writes
        blocks_is : number_of (without_minus load.size) ≡ blocks
        blocks_is =
            let e : Some (number_of (without_minus load.size)) ≡ Some blocks = sym (ap (option_map number_of) size_text) ∙ size_is in
            cc

        -- and that of the seed
        draws_is : number_of (without_minus load.seed) ≡ seed
        draws_is =
            let e : Some (number_of (without_minus load.seed)) ≡ Some seed = sym (ap (option_map number_of) seed_text) ∙ seed_is in
            cc

        -- they are what is named
        pub load_told : named (subcommand_rows_of m) ≡ Some (means (Load blocks seed))
        load_told = ap named (entered.1 ∙ ap Some load.is) ∙ ap₂ (λ (b s : ℕ). Some (means (Load b s))) blocks_is draws_is

        -- and are in their ranges
        pub range_told : IsInRange (Load blocks seed)
        range_told =
            (subst (λ n. 2 ≤ n) blocks_is load.size_read.2, subst (λ n. n ≤ 3900) blocks_is load.size_read.3, subst (λ n. n ≤ 1000000) draws_is load.seed_read.3)
