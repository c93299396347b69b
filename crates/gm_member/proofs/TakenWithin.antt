-- What was last sent stays within what is kept, where a packet is taken.
use Rattle.std.proofs.Common.{◌≡◌, ℕ, ◌≤◌, Bool, List, sym, subst}
use Rattle.activity.specs.Kept.{Kept, KeptRow, got_of, kept_of, KeepsRows}
use Rattle.activity.specs.LastSent.{LastSent}
use Rattle.activity.specs.Packets.{LineSeen, line_of}
use Rattle.activity.specs.Plan.{accepted}
use Rattle.activity.proofs.Above.{got_raised}
use Rattle.gm_member.specs.Within.{IsWithin}
use Rattle.gm_member.proofs.Within.{grows_within, keeps_within}

-- where a packet comes in
pub applied_within : (last_sent : ℕ → LastSent) (own : ℕ → Bool) (old new : List KeptRow) (lines : List LineSeen) → ((p : ℕ) → kept_of new p ≡ accepted (own p) (kept_of old p) (line_of lines p)) → IsWithin last_sent old → IsWithin last_sent new
applied_within last_sent own old new lines h below =
    grows_within last_sent old new
    (λ p. subst (λ (r : Kept). (got_of (kept_of old p) ≤ got_of r) × ((kept_of old p).forgot ≤ r.forgot)) (sym (h p)) (got_raised (own p) (kept_of old p) (line_of lines p)))
    below

-- where room is made for it first
pub taken_within : (last_sent : ℕ → LastSent) (own : ℕ → Bool) (old mid new : List KeptRow) (lines : List LineSeen) → KeepsRows old mid → ((p : ℕ) → kept_of new p ≡ accepted (own p) (kept_of mid p) (line_of lines p)) → IsWithin last_sent old → IsWithin last_sent new
taken_within last_sent own old mid new lines k h below = applied_within last_sent own mid new lines h (keeps_within last_sent old mid k below)
