-- An event of the member that its name finds.
use Rattle.std.proofs.Common.{◌≡◌, ℕ, Some, ap}
use Rattle.ring_rules.specs.declared.event.Event.{Event}
use Rattle.ring_rules.specs.Machine.{World}
use Rattle.ring_rules.specs.Event.{id_of, by_of, of_member, at_found, refused_at, done_at, refusal, effect}

-- it is refused as this member's
pub refused_there : (w : World) (x : ℕ) (e : Event) → id_of w (by_of e) ≡ Some x → refusal w e ≡ refused_at w e x
refused_there w x e named = ap (λ o. of_member o (refused_at w e)) named

-- and done as this member's
pub done_there : (w : World) (x : ℕ) (e : Event) → id_of w (by_of e) ≡ Some x → effect w e ≡ done_at w e x
done_there w x e named = ap (λ o. at_found o w (done_at w e)) named
