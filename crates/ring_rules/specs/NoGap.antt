-- No gap at a take: a packet begins no later than where its taker stands.
use Rattle.std.specs.Prelude.{◌≡◌, ℕ, ◌<◌, ◌≤◌, false, List, Some, None}
use Rattle.ring_rules.specs.Machine.{Up, World, row_at, numbers_at, member_at, link_at, view_in, oldest}
use Rattle.ring_rules.specs.Step.{size, is_owned}
use Rattle.ring_rules.specs.Event.{Take, id_of, refusal}

-- Where an up member may take the oldest packet of its current link, that packet begins, for each origin that the member
-- doesn't answer for against the sender, at a message that the member has received, or at the next one.
abbrev pub NoGapAtTake : World → Type 0
NoGapAtTake w =
    (by : List ℕ) (y s p : ℕ) → id_of w by ≡ Some y → (member_at w y).phase ≡ Up → (member_at w y).current ≡ Some s → refusal w (Take by) ≡ None
    → 1 ≤ p → p < size w → is_owned (view_in w (member_at w y).version) y (link_at w s).sender p ≡ false
    → (numbers_at (oldest (link_at w s)) p).lo ≤ (row_at (member_at w y) p).got
