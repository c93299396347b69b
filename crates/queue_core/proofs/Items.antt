-- What an operation does to the items, one by one.
use Rattle.std.proofs.Common.{◌≡◌, ℕ, Bool, true, false, List, [], ◌∷◌, refl, sym, ap, ◌∙◌, ⊎_elim}
use Rattle.std.specs.Prelude.{◌⊎◌}
use Rattle.std.specs.List.{list_any}
use Rattle.std.proofs.lemmas.Bool.{or_parts}
use Rattle.std.proofs.lemmas.List.{append-nil}
use Rattle.ring_names.specs.declared.numbers.Position.{Position}
use Rattle.ring_names.specs.declared.numbers.MemberId.{MemberId}
use Rattle.queue_core.specs.declared.op.Op.{Op}
use Rattle.queue_core.specs.declared.op.Op.TheVariants.{Publish, Deliver, Drop, Ack, Requeue, Depth, SyncMark}
use Rattle.queue_core.specs.Queue.{Item, QueueState, is_ready_at, is_unacked_at, stays, state_after, changed, kept, takes, apply}

-- where no item passes a test, and the operation leaves those that don't, it leaves all
pub kept_same : (t : Item → Bool) (op : Op) → ((i : Item) → t i ≡ false → (stays op i ≡ true) × (state_after op i ≡ i.state)) → (xs : List Item) → list_any t xs ≡ false → kept op xs ≡ xs
kept_same t op h [] none = refl
kept_same t op h (i ∷ xs) none =
    let p = or_parts (t i) (list_any t xs) none in
    let q = h i p.0 in
    let e : changed op i ≡ i = ap (λ s. record i { state = s }) q.1 in
    rw (q.0) (ap (λ j. j ∷ kept op xs) e ∙ ap (λ ys. i ∷ ys) (kept_same t op h xs p.1))

-- an operation that takes nothing away and changes nothing
pub kept_all : (op : Op) → ((i : Item) → (stays op i ≡ true) × (state_after op i ≡ i.state)) → (xs : List Item) → kept op xs ≡ xs
kept_all op h [] = refl
kept_all op h (i ∷ xs) =
    let q = h i in
    let e : changed op i ≡ i = ap (λ s. record i { state = s }) q.1 in
    rw (q.0) (ap (λ j. j ∷ kept op xs) e ∙ ap (λ ys. i ∷ ys) (kept_all op h xs))

-- a queue is its next position and its items
same_items : (q : QueueState) (xs : List Item) → xs ≡ q.items → record q { items = xs } ≡ q
same_items q xs e = ap (λ ys. record q { items = ys }) e

-- a message that the queue doesn't take
pub publish_nothing : (at : Position) (body : List ℕ) (q : QueueState) → takes at.0 q.items ≡ false → apply (Publish at body) q ≡ q
publish_nothing at body q none = rw (none, append-nil (kept (Publish at body) q.items)) (same_items q _ (kept_all (Publish at body) (λ i. (refl, refl)) q.items))

-- nothing ready at the position: a hand-out and a drop change nothing
pub deliver_nothing : (at : Position) (q : QueueState) → list_any (is_ready_at at.0) q.items ≡ false → apply (Deliver at) q ≡ q
deliver_nothing at q none = same_items q _ (append-nil (kept (Deliver at) q.items) ∙ kept_same (is_ready_at at.0) (Deliver at) (λ i e. (refl, rw e refl)) q.items none)

pub drop_nothing : (at : Position) (q : QueueState) → list_any (is_ready_at at.0) q.items ≡ false → apply (Drop at) q ≡ q
drop_nothing at q none = same_items q _ (append-nil (kept (Drop at) q.items) ∙ kept_same (is_ready_at at.0) (Drop at) (λ i e. (rw e refl, refl)) q.items none)

-- nothing handed out at the position: an acknowledgement and a return change nothing
pub ack_nothing : (at : Position) (q : QueueState) → list_any (is_unacked_at at.0) q.items ≡ false → apply (Ack at) q ≡ q
ack_nothing at q none = same_items q _ (append-nil (kept (Ack at) q.items) ∙ kept_same (is_unacked_at at.0) (Ack at) (λ i e. (rw e refl, refl)) q.items none)

pub requeue_nothing : (at : Position) (q : QueueState) → list_any (is_unacked_at at.0) q.items ≡ false → apply (Requeue at) q ≡ q
requeue_nothing at q none = same_items q _ (append-nil (kept (Requeue at) q.items) ∙ kept_same (is_unacked_at at.0) (Requeue at) (λ i e. (refl, rw e refl)) q.items none)

-- the number of items, and a mark
depth_nothing : (d : ℕ) (q : QueueState) → apply (Depth d) q ≡ q
depth_nothing d q = same_items q _ (append-nil (kept (Depth d) q.items) ∙ kept_all (Depth d) (λ i. (refl, refl)) q.items)

mark_nothing : (target : MemberId) (q : QueueState) → apply (SyncMark target) q ≡ q
mark_nothing target q = same_items q _ (append-nil (kept (SyncMark target) q.items) ∙ kept_all (SyncMark target) (λ i. (refl, refl)) q.items)

pub quiet_nothing : (op : Op) (q : QueueState) → ((d : ℕ) × (op ≡ Depth d)) ⊎ ((target : MemberId) × (op ≡ SyncMark target)) → q ≡ apply op q
quiet_nothing op q is = ⊎_elim
    (λ d. sym (ap (λ o. apply o q) d.1 ∙ depth_nothing d.0 q))
    (λ m. sym (ap (λ o. apply o q) m.1 ∙ mark_nothing m.0 q)) is
