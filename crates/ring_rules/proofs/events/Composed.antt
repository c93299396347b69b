-- Steps that consist of smaller ones, for whatever holds after these.
use Rattle.std.proofs.Common.{◌≡◌, ℕ, Bool, true, false, nat_eq, Option, Some, None, if◌then◌else◌, refl}
use Rattle.ring_rules.specs.View.{right_of}
use Rattle.ring_rules.specs.Machine.{Ending, Moved, World, member_at, link_at, view_in}
use Rattle.ring_rules.specs.Step.{with_link, ended, end_out, look_at, open_to}
use Rattle.ring_rules.specs.Event.{send_to, refreshed}

-- an out link ends, where there is one
pub end_composed : (P : World → Type 0) (why : Ending) (w : World) (o : Option ℕ) → ((k : ℕ) → o ≡ Some k → P w → P (with_link w k (ended why (link_at w k)))) → P w → P (end_out why w o)
end_composed P why w None ends h = h
end_composed P why w (Some o) ends h = ends o refl h

-- a link opens where it must, behind the end of another
pub send_composed : (P : World → Type 0) (w : World) (x z : ℕ) (o : Option ℕ)
    → ((k : ℕ) → o ≡ Some k → P w → P (with_link w k (ended Moved (link_at w k))))
    → ((u : World) → u.members ≡ w.members → P u → P (open_to u x z))
    → P w → P (send_to w x z o)
send_composed P w x z None ends opens h = opens w refl h
send_composed P w x z (Some o) ends opens h = by_receiver (nat_eq (link_at w o).receiver z)
  where
    by_receiver : (b : Bool) → P (if b then w else open_to (with_link w o (ended Moved (link_at w o))) x z)
    by_receiver true = h
    by_receiver false = opens (with_link w o (ended Moved (link_at w o))) refl (ends o refl h)

-- a refresh: x looks, and sends to its right neighbour
pub refresh_composed : (P : World → Type 0) (w : World) (x v : ℕ)
    → ((k : ℕ) → (member_at w x).out ≡ Some k → P (look_at w x v) → P (with_link (look_at w x v) k (ended Moved (link_at w k))))
    → ((u : World) → u.members ≡ (look_at w x v).members → P u → P (open_to u x (right_of (view_in w v) x)))
    → P (look_at w x v) → P (refreshed w x v)
refresh_composed P w x v ends opens h = send_composed P (look_at w x v) x (right_of (view_in w v) x) (member_at w x).out ends opens h
