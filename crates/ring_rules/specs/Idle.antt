-- When the members of a ring have nothing to do: none of the events that repair is enabled at any of them.
use Rattle.std.specs.Prelude.{◌≡◌, ◌≢◌, ℕ, ◌<◌, true, Some, None}
use Rattle.ring_rules.specs.Machine.{Up, World, member_at, newest as the_newest, right, runs}
use Rattle.ring_rules.specs.Step.{size}
use Rattle.ring_rules.specs.Work.{owed_at}
use Rattle.ring_rules.specs.Event.{take_refusal, end_refusal, gain_refusal, put_refusal, pick_refusal, mark_refusal, erase_refusal, synced_refusal}

-- ---- on their links

-- Of one that is up: it has the newest view and sends on a link, and it can pick no link, gain no credit and put no packet.
pub record HasSentAll (w : World) (y : ℕ) : Type 0 where
  pub newest : (member_at w y).version ≡ the_newest w
  pub sends : (member_at w y).out ≢ None
  pub pick : (member_at w y).current ≡ None → pick_refusal w y ≢ None
  pub gain : (o : ℕ) → (member_at w y).out ≡ Some o → gain_refusal w o ≢ None
  pub put : (o : ℕ) → (member_at w y).out ≡ Some o → put_refusal w y o ≢ None

-- of one that runs: it can take no packet and no end; and where it is up, this holds
pub record HasNoStep (w : World) (y : ℕ) : Type 0 where
  pub take : (s : ℕ) → (member_at w y).current ≡ Some s → take_refusal w y s ≢ None
  pub take_end : (s : ℕ) → (member_at w y).current ≡ Some s → end_refusal w s ≢ None
  pub up : (member_at w y).phase ≡ Up → HasSentAll w y

-- no running member has a step to do on its links
abbrev pub NobodySteps : World → Type 0
NobodySteps w = (y : ℕ) → runs w y ≡ true → HasNoStep w y

-- ---- of the others

-- no running member can have its right neighbour in the newest view marked dead
abbrev pub MarksNobody : World → Type 0
MarksNobody w = (x : ℕ) → runs w x ≡ true → mark_refusal w x (right w (the_newest w) x) ≢ None

-- none can have anybody erased
abbrev pub ErasesNobody : World → Type 0
ErasesNobody w = (x : ℕ) → runs w x ≡ true → (p : ℕ) → p < size w → erase_refusal w x p ≢ None

-- one that is up can have nobody marked dead, and nobody erased
pub record HasNobodyGone (w : World) (y : ℕ) : Type 0 where
  pub mark : (d : ℕ) → d < size w → mark_refusal w y d ≢ None
  pub erase : (p : ℕ) → p < size w → erase_refusal w y p ≢ None

-- it can't be registered as synchronised, and owes nothing as a master
pub record OwesNothing (w : World) (y : ℕ) : Type 0 where
  pub sync : synced_refusal w y ≢ None
  pub owes : owed_at w y ≡ 0

-- ---- all of it

-- of one that runs
pub record HasNothingToDo (w : World) (y : ℕ) : Type 0 where
  pub steps : HasNoStep w y
  pub up : (member_at w y).phase ≡ Up → HasNobodyGone w y
  pub queue : (member_at w y).phase ≡ Up → OwesNothing w y

-- no running member has anything to do
abbrev pub IsIdle : World → Type 0
IsIdle w = (y : ℕ) → runs w y ≡ true → HasNothingToDo w y
