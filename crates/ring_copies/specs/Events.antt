-- The events of a ring with copies of its queue: when one may happen, and what it does.
use Rattle.std.specs.Prelude.{◌≡◌, ℕ, Bool, true, false, ◌&&◌, ◌||◌, not, nat_eq, nat_lt, List, [], ◌∷◌, ◌++◌, map, slice_set, is_some, Option, Some, None, ⊤}
use Rattle.std.specs.List.{list_any}
use Rattle.ring_names.specs.declared.reason.Reason.{Reason}
use Rattle.ring_names.specs.declared.reason.Reason.TheVariants as reason
use Rattle.queue_core.specs.declared.message.Message.TheVariants as message
use Rattle.queue_core.specs.declared.op.Op.{Op}
use Rattle.queue_core.specs.declared.op.Op.TheVariants as op
use Rattle.queue_mirror.specs.Master.{lead_refusal}
use Rattle.queue_sync.specs.Copy.{Load, OneItem, Done}
use Rattle.queue_laws.specs.Part.{ops}
use Rattle.credit_flow.specs.Credit.{is_blocked}
use Rattle.group_view.specs.Ring.{is_in}
use Rattle.group_view.specs.View.{Group, as_id, ids, entry_in}
use Rattle.ring_rules.specs.View.{is_live}
use Rattle.ring_rules.specs.Refusal.{refuse_if, or_else, is_empty}
use Rattle.ring_rules.specs.Machine.{World, member_at, view_in, row_at}
use Rattle.ring_rules.specs.Step.{log_of, publish_at, copied_at}
use Rattle.ring_rules.specs.Kind.{Kind, Copying, Changes, Stops, Reads, Tells, kind_of}
use Rattle.ring_rules.specs.declared.kind.CopyStep.{CopyStep}
use Rattle.ring_rules.specs.declared.kind.CopyStep.TheVariants as copying
use Rattle.ring_rules.specs.declared.event.Client.TheVariants as client
use Rattle.ring_rules.specs.Event as ring
use Rattle.ring_rules.specs.declared.event.Event.{Event}
use Rattle.ring_rules.specs.Event.{id_of, of_member, on_link, version_refusal, up_refusal, is_told, refused_at, done_as}
use Rattle.ring_copies.specs.Copies.{CopyLink, CopyWorld, copy_link_at, copy_out, copy_in, new_copy, copy_put, copy_gained, is_blocked_at, let_go, item_taken, done_taken, dropped, copied_mirror, halted_one, looked_one}

-- what an event is beside the copies: one of the ring; a step on a copy, by the member of a name; or a client is refused with
-- this number that the member of the first name opens a copy to that of the second
pub data CopyEvent : Type 0 where
  OfRing : Event → CopyEvent
  OnCopy : List ℕ → CopyStep → CopyEvent
  RefusesCopy : ℕ → List ℕ → List ℕ → CopyEvent

-- an event of this kind
abbrev pub sorted : Event → Kind → CopyEvent
sorted e (Copying s) = OnCopy (ring.by_of e) s
sorted e (Tells code (client.Sync by target)) = RefusesCopy code by target
sorted e k = OfRing e

-- any event
abbrev pub sort_of : Event → CopyEvent
sort_of e = sorted e (kind_of e)

-- the name of who acts
abbrev pub by_of : CopyEvent → List ℕ
by_of (OfRing e) = ring.by_of e
by_of (OnCopy by s) = by
by_of (RefusesCopy code by target) = by

-- ---- conditions

-- an operation that marks a copy to n
abbrev pub is_mark_of : ℕ → Op → Bool
is_mark_of n (op.SyncMark target) = nat_eq target.0 n
is_mark_of n o = false

-- whether x has marked a copy to n before
abbrev pub has_marked : World → ℕ → ℕ → Bool
has_marked w x n = list_any (is_mark_of n) (ops (log_of w x))

-- x opens a copy to n only where n is live in x's view and isn't registered as synchronised there, where x puts on no copy,
-- and where it has opened none to n before
abbrev pub target_refusal : CopyWorld → ℕ → Group → ℕ → Option Reason
target_refusal W x g n =
    or_else (refuse_if (not (is_in n (ids g.entries))) reason.UnknownMember)
    (or_else (refuse_if (not (is_live g n)) reason.AlreadyDead)
    (or_else (refuse_if (entry_in g.entries n).synced reason.AlreadySynced)
    (refuse_if (is_some (copy_out W.copies x) || has_marked W.ring x n) reason.AlreadySyncing)))

-- a load is put only where the copy has credit
abbrev pub copy_put_refusal : CopyLink → Option Reason
copy_put_refusal c = refuse_if (is_blocked c.flow.sender) reason.NoCredit

-- and credit is gained only where a grant is under way
abbrev pub copy_gain_refusal : CopyLink → Option Reason
copy_gain_refusal c = refuse_if (is_empty c.flow.grants) reason.NoGrant

-- whether the last load is next
abbrev pub is_done_next : List Load → Bool
is_done_next [] = false
is_done_next (OneItem i ∷ ls) = false
is_done_next (Done ∷ ls) = true

-- y takes from a copy only where it has the version at which that was opened, where an item stands there, and where the
-- mark has come, if all is taken
abbrev pub copy_take_refusal : World → ℕ → CopyLink → Option Reason
copy_take_refusal w y c =
    or_else (version_refusal c.opened (member_at w y).version)
    (or_else (refuse_if (is_empty c.loads && not c.ended) reason.NothingToTake)
    (refuse_if (is_done_next c.loads && nat_lt (row_at (member_at w y) c.sender).got c.mark) reason.MarkNotSeen))

-- the conditions on a step on a copy, behind those on the phase of member x
abbrev pub step_refusal : CopyWorld → ℕ → CopyStep → Option Reason
step_refusal W x (copying.Open target) =
    or_else (lead_refusal (view_in W.ring (member_at W.ring x).version) x (member_at W.ring x).started)
    (of_member (id_of W.ring target) (target_refusal W x (view_in W.ring (member_at W.ring x).version)))
step_refusal W x copying.Put = on_link (copy_out W.copies x) reason.NoSyncLink (λ i. copy_put_refusal (copy_link_at W.copies i))
step_refusal W x copying.Take = on_link (copy_in W.copies x) reason.NoSyncLink (λ i. copy_take_refusal W.ring x (copy_link_at W.copies i))
step_refusal W x copying.Gain = on_link (copy_out W.copies x) reason.NoSyncLink (λ i. copy_gain_refusal (copy_link_at W.copies i))

-- the first failing condition of an event of member x: only one that is up does a step on a copy, and a refusal is told only
-- where what the client asked for is refused with its number
abbrev pub refused_in : CopyWorld → CopyEvent → ℕ → Option Reason
refused_in W (OfRing e) x = refused_at W.ring e x
refused_in W (OnCopy by s) x = up_refusal W.ring x (step_refusal W x s)
refused_in W (RefusesCopy code by target) x = refuse_if (not (is_told code (up_refusal W.ring x (step_refusal W x (copying.Open target))))) reason.NotRefused

-- of an event, if one fails
abbrev pub refusal : CopyWorld → CopyEvent → Option Reason
refusal W e = of_member (id_of W.ring (by_of e)) (refused_in W e)

-- ---- effects

-- what happens at an id or a copy that was found; nothing where none was
abbrev pub where_found : Option ℕ → CopyWorld → (ℕ → CopyWorld) → CopyWorld
where_found None W f = W
where_found (Some x) W f = f x

-- the copy at place i is another
abbrev pub with_copy : CopyWorld → ℕ → CopyLink → CopyWorld
with_copy W i c = record W { copies = slice_set W.copies i c }

-- x opens a copy to n: its log gains the mark
abbrev pub open_copy : CopyWorld → ℕ → ℕ → CopyWorld
open_copy W x n = record { ring = publish_at W.ring x (message.Queue (op.SyncMark (as_id n))); copies = W.copies ++ new_copy W.ring x n ∷ [] }

-- y takes the next load of copy i: an item is kept aside; with the last load y's mirror is what the copy makes of it; and the
-- end drops all
abbrev pub take_load : CopyWorld → ℕ → ℕ → CopyLink → List Load → CopyWorld
take_load W y i c [] = with_copy W i (dropped c)
take_load W y i c (OneItem a ∷ ls) = with_copy W i (item_taken (is_blocked_at W.ring y) a c)
take_load W y i c (Done ∷ ls) = record { ring = copied_at W.ring y (copied_mirror W.ring y c); copies = slice_set W.copies i (done_taken (is_blocked_at W.ring y) c) }

abbrev pub take_copy : CopyWorld → ℕ → ℕ → CopyWorld
take_copy W y i = take_load W y i (copy_link_at W.copies i) (copy_link_at W.copies i).loads

-- the copies, where x has done an event of this kind that leaves the ring so: it may have stopped, or read a view
abbrev pub copies_after : Kind → World → ℕ → List CopyLink → List CopyLink
copies_after Stops w x cs = map (halted_one x) cs
copies_after (Changes c) w x cs = map (looked_one (view_in w (member_at w x).version) x) cs
copies_after (Reads v) w x cs = map (looked_one (view_in w (member_at w x).version) x) cs
copies_after k w x cs = cs

-- an event of the ring of this kind
abbrev pub ring_done : CopyWorld → ℕ → Kind → CopyWorld
ring_done W x k = record { ring = done_as W.ring x k; copies = copies_after k (done_as W.ring x k) x W.copies }

-- a step on a copy
abbrev pub step_done : CopyWorld → ℕ → CopyStep → CopyWorld
step_done W x (copying.Open target) = where_found (id_of W.ring target) W (open_copy W x)
step_done W x copying.Put = where_found (copy_out W.copies x) W (λ i. with_copy W i (copy_put (copy_link_at W.copies i)))
step_done W x copying.Take = where_found (copy_in W.copies x) W (take_copy W x)
step_done W x copying.Gain = where_found (copy_out W.copies x) W (λ i. with_copy W i (copy_gained (copy_link_at W.copies i)))

-- what member x does
abbrev pub done_in : CopyWorld → CopyEvent → ℕ → CopyWorld
done_in W (OfRing e) x = ring_done W x (kind_of e)
done_in W (OnCopy by s) x = step_done W x s
done_in W (RefusesCopy code by target) x = W

-- and then, where it isn't blocked, the grants that it held back go under way
abbrev pub let_go_by : ℕ → CopyWorld → CopyWorld
let_go_by x W = record W { copies = let_go (is_blocked_at W.ring x) x W.copies }

-- the state after an event
abbrev pub effect : CopyWorld → CopyEvent → CopyWorld
effect W e = where_found (id_of W.ring (by_of e)) W (λ x. let_go_by x (done_in W e x))

-- each event is enabled where the earlier ones leave the ring and its copies
abbrev pub IsRun : CopyWorld → List CopyEvent → Type 0
IsRun W [] = ⊤
IsRun W (e ∷ es) = (refusal W e ≡ None) × IsRun (effect W e) es

-- the state after all of them
abbrev pub last : CopyWorld → List CopyEvent → CopyWorld
last W [] = W
last W (e ∷ es) = last (effect W e) es

-- a ring in which nobody copies yet
abbrev pub without_copies : World → CopyWorld
without_copies w = record { ring = w; copies = [] }
