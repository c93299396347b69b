-- When a ring rests.
use Rattle.std.specs.Prelude.{◌≡◌, ◌≢◌, ◌⊎◌, ℕ, ◌<◌, true, false, length, All, Some, None}
use Rattle.group_view.specs.View.{entry_in}
use Rattle.group_view.specs.declared.entry.Entry.{Entry}
use Rattle.group_view.specs.declared.entry.Mark.TheVariants.{Live, Dead}
use Rattle.ring_rules.specs.Machine.{Up, World, member_at, link_at, view_in, newest as the_newest, row_at, runs as runs_at}
use Rattle.ring_rules.specs.OpenLinks.{is_open}
use Rattle.ring_rules.specs.Step.{log_of}
use Rattle.ring_rules.specs.Work.{is_led, is_late}
use Rattle.ring_rules.specs.Event.{holds_nothing}

-- A member rests: it is up and has the newest view; all that it published has come round to it, and the acknowledgement too;
-- and no link that is open to it holds an item.
pub record IsResting (w : World) (y : ℕ) : Type 0 where
  pub up : (member_at w y).phase ≡ Up
  pub newest : (member_at w y).version ≡ the_newest w
  pub come_round : (row_at (member_at w y) y).retired ≡ length (log_of w y)
  pub empty : (s : ℕ) → s < length w.links → is_open w y s ≡ true → holds_nothing (link_at w s) ≡ true

-- An entry is settled: it isn't dead, and its member runs where it is live.
pub record IsSettled (w : World) (e : Entry) : Type 0 where
  pub not_dead : e.mark ≢ Dead
  pub runs : e.mark ≡ Live → runs_at w e.id.0 ≡ true

-- every running member rests, and every entry of the newest view is settled
pub record IsAtRest (w : World) : Type 0 where
  pub members : (y : ℕ) → runs_at w y ≡ true → IsResting w y
  pub entries : All (IsSettled w) (view_in w (the_newest w)).entries

-- A ring rests where no member runs any more, or where all of it does.
abbrev pub RingRests : World → Type 0
RingRests w = ((y : ℕ) → runs_at w y ≡ false) ⊎ IsAtRest w

-- where a running member leads in the newest view, every running member knows how many messages its mirror lacks
abbrev pub EveryoneKnows : World → Type 0
EveryoneKnows w = (m n : ℕ) → runs_at w m ≡ true → is_led (view_in w (the_newest w)).master m ≡ true → runs_at w n ≡ true → (member_at w n).mirror.missing ≢ None

-- The queue rests: whoever runs and misses nothing is registered as synchronised; and where the master runs, it has started if it
-- leads in a later term, and every running member knows what it misses.
pub record QueueRests (w : World) : Type 0 where
  pub registered : (y : ℕ) → runs_at w y ≡ true → (member_at w y).mirror.missing ≡ Some 0 → (entry_in (view_in w (the_newest w)).entries y).synced ≡ true
  pub started : (m : ℕ) → runs_at w m ≡ true → is_led (view_in w (the_newest w)).master m ≡ true → is_late (view_in w (the_newest w)) (member_at w m).started ≡ false
  pub known : EveryoneKnows w

-- A ring is quiet where it rests, and its queue does.
pub record IsQuiet (w : World) : Type 0 where
  pub rests : RingRests w
  pub queue : QueueRests w
