-- What an enabled event has, for the code.
use Rattle.std.proofs.Common.{◌≡◌, ℕ, true, false, not, Option, None}
use Rattle.ring_names.specs.declared.reason.Reason.{Reason}
use Rattle.ring_names.specs.declared.reason.Reason.TheVariants as reason
use Rattle.group_view.specs.View.{is_dead, entry_in}
use Rattle.ring_rules.specs.Machine.{World, member_at, view_in, newest, runs}
use Rattle.ring_rules.specs.Event.{is_stopped, running_refusal, erase_refusal, synced_refusal}
use Rattle.ring_rules.proofs.events.Refusals.{none_of, not_false, runs_from}

pub running_runs : (w : World) (x : ℕ) (later : Option Reason) → running_refusal w x later ≡ None → runs w x ≡ true
running_runs w x later h = runs_from (member_at w x).phase (none_of (is_stopped (member_at w x).phase) reason.Stopped later h).0

-- an origin that may be erased
pub erase_dead : (w : World) (x p : ℕ) → erase_refusal w x p ≡ None → is_dead (view_in w (newest w)).entries p ≡ true
erase_dead w x p h = not_false _ (none_of (not (is_dead (view_in w (newest w)).entries p)) reason.NotDead _ h).0

-- a member that may be registered isn't yet
pub sync_unsynced : (w : World) (x : ℕ) → synced_refusal w x ≡ None → (entry_in (view_in w (newest w)).entries x).synced ≡ false
sync_unsynced w x h = (none_of (entry_in (view_in w (newest w)).entries x).synced reason.AlreadySynced _ h).0
