-- What an enabled event has.
use Rattle.std.proofs.Common.{◌≡◌, ◌≢◌, ℕ, ◌≤◌, Bool, true, false, not, nat_lt, Option, Some, None, ap, subst, ◌∙◌}
use Rattle.std.proofs.lemmas.Bool.{ltb-false}
use Rattle.ring_names.specs.declared.reason.Reason.{Reason}
use Rattle.ring_names.specs.declared.reason.Reason.TheVariants as reason
use Rattle.credit_flow.specs.Credit.{is_blocked}
use Rattle.ring_rules.specs.Refusal.{refuse_if, or_else, is_empty}
use Rattle.ring_rules.specs.View.{is_live}
use Rattle.ring_rules.specs.Machine.{Phase, Up, Stopped, World, member_at, link_at, view_in, newest, is_waiting, oldest}
use Rattle.ring_rules.specs.Event.{is_stopped, on_link, running_refusal, up_refusal, put_refusal, take_refusal, end_refusal, gain_refusal, holds_nothing, is_neighbour, mark_refusal, refresh_refusal, at_found, taken_by}
use Rattle.ring_rules.specs.Step.{take_from}
use Rattle.ring_rules.proofs.events.Refusals.{none_of, refuse_none, up_from, stopped_from, or_false, not_false, not_less}

-- a member that is up, and what else is asked
pub up_none : (w : World) (x : ℕ) (later : Option Reason) → up_refusal w x later ≡ None → ((member_at w x).phase ≡ Up) × (later ≡ None)
up_none w x later h =
    let a = none_of (is_stopped (member_at w x).phase) reason.Stopped _ h in
    let b = none_of (is_waiting (member_at w x).phase) reason.Waiting later a.1 in
    (up_from (member_at w x).phase a.0 b.0, b.1)

pub up_phase : (w : World) (x : ℕ) (later : Option Reason) → up_refusal w x later ≡ None → (member_at w x).phase ≡ Up
up_phase w x later h = (up_none w x later h).0

pub up_later : (w : World) (x : ℕ) (later : Option Reason) → up_refusal w x later ≡ None → later ≡ None
up_later w x later h = (up_none w x later h).1

pub running_later : (w : World) (x : ℕ) (later : Option Reason) → running_refusal w x later ≡ None → later ≡ None
running_later w x later h = (none_of (is_stopped (member_at w x).phase) reason.Stopped later h).1

-- a link that is asked for
pub link_there : (o : Option ℕ) (missing : Reason) (later : ℕ → Option Reason) → on_link o missing later ≡ None → o ≢ None
link_there None missing later h = λ e. cc
link_there (Some s) missing later h = λ e. cc

pub link_later : (o : Option ℕ) (missing : Reason) (later : ℕ → Option Reason) (s : ℕ) → on_link o missing later ≡ None → o ≡ Some s → later s ≡ None
link_later o missing later s h e = subst (λ p. on_link p missing later ≡ None) e h

pub put_credit : (w : World) (x o : ℕ) → put_refusal w x o ≡ None → is_blocked (link_at w o).flow.sender ≡ false
put_credit w x o h = (none_of (is_blocked (link_at w o).flow.sender) reason.NoCredit _ h).0

pub take_some : (w : World) (y s : ℕ) → take_refusal w y s ≡ None → is_empty (link_at w s).packets ≡ false
take_some w y s h = (none_of (is_empty (link_at w s).packets) reason.EndNext _ (none_of (holds_nothing (link_at w s)) reason.NothingToTake _ h).1).0

pub take_version : (w : World) (y s : ℕ) → take_refusal w y s ≡ None → (oldest (link_at w s)).version ≤ (member_at w y).version
take_version w y s h = not_less (member_at w y).version (oldest (link_at w s)).version _ (none_of (is_empty (link_at w s).packets) reason.EndNext _ (none_of (holds_nothing (link_at w s)) reason.NothingToTake _ h).1).1

-- an end that may be taken stands behind no packet
pub end_empty : (w : World) (s : ℕ) → end_refusal w s ≡ None → is_empty (link_at w s).packets ≡ true
end_empty w s h = not_false _ (refuse_none (not (is_empty (link_at w s).packets)) reason.PacketNext (none_of (holds_nothing (link_at w s)) reason.NothingToTake _ h).1)

pub gain_some : (w : World) (o : ℕ) → gain_refusal w o ≡ None → is_empty (link_at w o).flow.grants ≡ false
gain_some w o h = refuse_none (is_empty (link_at w o).flow.grants) reason.NoGrant h

pub mark_lives : (w : World) (x d : ℕ) → mark_refusal w x d ≡ None → is_live (view_in w (newest w)) d ≡ true
mark_lives w x d h =
    let a = none_of (not (is_neighbour w x d)) reason.NotNeighbour _ h in
    not_false _ (none_of (not (is_live (view_in w (newest w)) d)) reason.AlreadyDead _ a.1).0

pub mark_stops : (w : World) (x d : ℕ) → mark_refusal w x d ≡ None → (member_at w d).phase ≡ Stopped
mark_stops w x d h =
    let a = none_of (not (is_neighbour w x d)) reason.NotNeighbour _ h in
    let b = none_of (not (is_live (view_in w (newest w)) d)) reason.AlreadyDead _ a.1 in
    stopped_from (member_at w d).phase (not_false _ (none_of (not (is_stopped (member_at w d).phase)) reason.NotStopped _ b.1).0)

pub refresh_later : (w : World) (x v : ℕ) → refresh_refusal w x v ≡ None → (member_at w x).version ≤ v
refresh_later w x v h = ltb-false v (member_at w x).version (or_false (nat_lt v (member_at w x).version) (nat_lt (newest w) v) (refuse_none _ _ h)).0

pub refresh_upto : (w : World) (x v : ℕ) → refresh_refusal w x v ≡ None → v ≤ newest w
refresh_upto w x v h = ltb-false (newest w) v (or_false (nat_lt v (member_at w x).version) (nat_lt (newest w) v) (refuse_none _ _ h)).1

pub first_none : (b : Bool) (r : Reason) (later : Option Reason) → or_else (refuse_if b r) later ≡ None → later ≡ None
first_none b r later h = (none_of b r later h).1

-- a take of a member that is up
pub take_effect : (w : World) (x s : ℕ) (o : Option ℕ) (f : Phase) → o ≡ Some s → f ≡ Up → at_found o w (taken_by f w x) ≡ take_from w x s
take_effect w x s o f e up = ap (λ k. at_found k w (taken_by f w x)) e ∙ ap (λ g. taken_by g w x s) up
