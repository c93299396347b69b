-- When a ring settles: it goes on by events of repair alone, until none is left.
use Rattle.std.specs.Prelude.{ℕ, ◌≡◌, ◌≢◌, Bool, true, false, ◌&&◌, not, nat_eq, nat_lt, List, [], ◌∷◌, Option, Some, None, ⊤}
use Rattle.ring_rules.specs.Machine.{World, member_at, view_in, newest}
use Rattle.ring_rules.specs.declared.event.Event.{Event}
use Rattle.ring_rules.specs.declared.event.Event.TheVariants.{Refresh, Depth}
use Rattle.ring_rules.specs.Event.{is_asked, id_of, refusal, effect, last}
use Rattle.ring_rules.specs.Quiet.{IsQuiet}
use Rattle.ring_rules.specs.Work.{is_stale, untold, LeavesLess}

-- whether the member of an id is stale
abbrev pub stale_one : World → Option ℕ → Bool
stale_one w None = false
stale_one w (Some x) = is_stale (newest w) (member_at w x)

-- whether the member of an id has entries in its view to tell how many messages there are
abbrev pub owes_telling : World → Option ℕ → Bool
owes_telling w None = false
owes_telling w (Some x) = nat_lt 0 (untold (view_in w (member_at w x).version) (member_at w x))

-- whether an event is one of repair: one that a member does by itself; of refreshes only that of a stale member to the newest
-- view, and of tellings only where there is somebody to tell
abbrev pub is_repair : World → Event → Bool
is_repair w (Refresh by version) = nat_eq version (newest w) && stale_one w (id_of w by)
is_repair w (Depth by) = owes_telling w (id_of w by)
is_repair w e = not (is_asked e)

-- each event of repair leaves less to do, where it is enabled
abbrev pub EachRepairLeavesLess : World → Type 0
EachRepairLeavesLess w = (e : Event) → is_repair w e ≡ true → LeavesLess w e

-- each event is one of repair, and enabled where the earlier ones leave the ring
abbrev pub AreRepairs : World → List Event → Type 0
AreRepairs w [] = ⊤
AreRepairs w (e ∷ es) = (is_repair w e ≡ true) × ((refusal w e ≡ None) × AreRepairs (effect w e) es)

-- no event of repair is enabled
abbrev pub NothingLeft : World → Type 0
NothingLeft w = (e : Event) → is_repair w e ≡ true → refusal w e ≢ None

-- a ring becomes quiet by events of repair
pub record Settles (w : World) : Type 0 where
  pub steps : List Event
  pub repairs : AreRepairs w steps
  pub quiet : IsQuiet (last w steps)
