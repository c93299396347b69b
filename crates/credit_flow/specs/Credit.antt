-- The two ends of a link's credit, and what each call makes of them.
use Rattle.std.specs.Prelude.{ℕ, ◌+◌, ◌-◌, ◌==◌, min, Bool, true, false, ◌&&◌, not, if◌then◌else◌, Option, Some, None}

-- a sender: the numbers of its specification, and how many loads it may still send
pub record Credit : Type 0 where
  pub initial : ℕ
  pub more : ℕ
  pub credit : ℕ

-- a receiver: the numbers of its specification, the loads taken since the last grant, whether it holds grants back, and the sum of those
pub record Counted : Type 0 where
  pub initial : ℕ
  pub more : ℕ
  pub taken : ℕ
  pub holding : Bool
  pub held : ℕ

-- a sender that has spent nothing
abbrev pub full_credit : ℕ → ℕ → Credit
full_credit initial more = record { initial = initial; more = more; credit = initial }

-- whether the sender has nothing left to spend
abbrev pub is_blocked : Credit → Bool
is_blocked c = c.credit == 0

-- a load is sent
abbrev pub sent : Credit → Credit
sent c = record c { credit = c.credit - 1 }

-- a grant comes; no credit is above the initial one
abbrev pub gained : Credit → ℕ → Credit
gained c amount = record c { credit = min (c.credit + amount) c.initial }

-- the peer is dead, and what was spent on it is forgotten
abbrev pub cleared : Credit → Credit
cleared c = record c { credit = c.initial }

-- a receiver that has taken nothing
abbrev pub none_taken : ℕ → ℕ → Counted
none_taken initial more = record { initial = initial; more = more; taken = 0; holding = false; held = 0 }

-- whether the next load brings a grant
abbrev pub is_grant_next : Counted → Bool
is_grant_next c = c.taken + 1 == c.more

-- the sum held back after the next load
abbrev pub held_next : Counted → ℕ
held_next c = if is_grant_next c && c.holding then min (c.held + c.more) c.initial else c.held

-- a load is taken: the one that brings a grant begins the count anew
abbrev pub took : Counted → Counted
took c = record c { taken = if is_grant_next c then 0 else c.taken + 1; held = held_next c }

-- the grant that goes back at the next load
abbrev pub grant_due : Counted → Option ℕ
grant_due c = if is_grant_next c && not c.holding then Some c.more else None

-- grants are held back from now on
abbrev pub holding_back : Counted → Counted
holding_back c = record c { holding = true }

-- nothing is held back from now on
abbrev pub released : Counted → Counted
released c = record c { holding = false; held = 0 }
