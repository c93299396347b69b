-- What a store keeps of an origin's log.
use Rattle.std.specs.Prelude.{◌≡◌, ℕ, ◌+◌, ◌-◌, ◌≤◌, List, ◌∷◌, [], ◌++◌, length, take, drop}

-- how many messages of the log were forgotten, those behind them, and for how many more there is room
pub record Pending (T : Type 0) : Type 0 where
  pub forgot : ℕ
  pub messages : List T
  pub spare : ℕ

module _ {T : Type 0} where
  -- the number of the last message
  abbrev pub got_of : Pending T → ℕ
  got_of s = s.forgot + length s.messages

  -- messages lo + 1 to hi of a log
  abbrev pub messages_between : ℕ → ℕ → List T → List T
  messages_between lo hi log = drop lo (take hi log)

  -- messages lo + 1 to hi, of those that the store keeps
  abbrev pub kept_between : ℕ → ℕ → Pending T → List T
  kept_between lo hi s = messages_between (lo - s.forgot) (hi - s.forgot) s.messages

  -- it keeps nothing, and goes on behind this number
  pub record StartsAt (at : ℕ) (s : Pending T) : Type 0 where
    pub forgot : s.forgot ≡ at
    pub messages : s.messages ≡ []

  -- it keeps what it kept
  pub record KeepsAll (a b : Pending T) : Type 0 where
    pub forgot : b.forgot ≡ a.forgot
    pub messages : b.messages ≡ a.messages

  -- the message joins the end
  pub record Gains (a : Pending T) (message : T) (b : Pending T) : Type 0 where
    pub forgot : b.forgot ≡ a.forgot
    pub messages : b.messages ≡ a.messages ++ message ∷ []

  -- the messages up to this number leave
  pub record ForgetsTo (a : Pending T) (to : ℕ) (b : Pending T) : Type 0 where
    pub forgot : b.forgot ≡ to
    pub messages : b.messages ≡ drop (to - a.forgot) a.messages

  -- what it keeps is the slice of the log between its numbers, which the log has reached
  pub record IsSliceOf (log : List T) (s : Pending T) : Type 0 where
    pub reached : got_of s ≤ length log
    pub messages : s.messages ≡ messages_between s.forgot (got_of s) log

  -- the message is the next one of the log behind this number
  abbrev pub IsNext : List T → ℕ → T → Type 0
  IsNext log got message = (rest : List T) × (drop got log ≡ message ∷ rest)
