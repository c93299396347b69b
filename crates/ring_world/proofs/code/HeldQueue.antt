-- What the laws of the queue say of each state that a World holds.
use Rattle.std.proofs.Common.{◌≡◌, ℕ, ◌<◌, ◌+◌, ◌^◌, Bool, List, [], ◌∷◌, ◌++◌, length, map, ◌∙◌, Option, None, refl, sym, subst, lit<, arith}
use Rattle.std.specs.Coded.{le_prop}
use Rattle.std.proofs.Math.Logic.{∥∥₁_elim}
use Rattle.std.proofs.Props.{props}
use Rattle.queue_core.specs.declared.op.Op.{Op}
use Rattle.queue_core.specs.Queue.{Item, greatest}
use Rattle.queue_laws.specs.Laws.{MirrorsAgree, ConfirmedStands}
use Rattle.ring_rules.specs.Machine.{World}
use Rattle.ring_rules.specs.Event.{refusals_of}
use Rattle.ring_copies.specs.Copies.{CopyWorld}
use Rattle.ring_copies.specs.Events.{sort_of}
use Rattle.ring_copies.specs.Runs.{refusal, effect}
use Rattle.ring_copies.proofs.Runs.{queue_right_with_copies}
use Rattle.std.proofs.lemmas.List.{length-map}
use Rattle.ring_rules.specs.declared.event.Event.{Event}
use Rattle.ring_rules.specs.QueuePart.{part_of}
use Rattle.ring_rules.specs.QueueLaws.{QueueIsRight}
use Rattle.ring_world.specs.Reached.{WorldSeen, IsReachedIn, with_copies}
use Rattle.ring_world.proofs.code.Running.{reached_more}

bools_set : (a b : Bool) → IsProp (a ≡ b)
bools_set a b = hlevel props

operations_set : (a b : List Op) → IsProp (a ≡ b)
operations_set a b = hlevel props

items_set : (a b : List Item) → IsProp (a ≡ b)
items_set a b = hlevel props

numbers_set : (a b : Option ℕ) → IsProp (a ≡ b)
numbers_set a b = hlevel props

module _ (seen : WorldSeen) (n : ℕ) (v : World) (r : ∥ IsReachedIn seen n ∥₁) (f : IsReachedIn seen n → QueueIsRight (n + 1) v) where
  -- what is known of some run is known
  pub mirrors_from : MirrorsAgree (part_of v)
  mirrors_from = record {
    prefix = λ q o a b. ∥∥₁_elim r (operations_set _ _) (λ h. (f h).agree.prefix q o a b);
    legal = λ q a. ∥∥₁_elim r (bools_set _ _) (λ h. (f h).agree.legal q a);
    within = λ q a. ∥∥₁_elim r le_prop (λ h. (f h).agree.within q a);
    content = λ q a. ∥∥₁_elim r (items_set _ _) (λ h. (f h).agree.content q a);
    missing = λ q a. ∥∥₁_elim r (numbers_set _ _) (λ h. (f h).agree.missing q a);
    both = λ q a. ∥∥₁_elim r (items_set _ _) (λ h. (f h).agree.both q a);
    whole = λ q a b. ∥∥₁_elim r (items_set _ _) (λ h. (f h).agree.whole q a b);
    queue = λ q a b. ∥∥₁_elim r (items_set _ _) (λ h. (f h).agree.queue q a b);
    same = λ q o a b c d e. ∥∥₁_elim r (items_set _ _) (λ h. (f h).agree.same q o a b c d e);
  }

  pub confirmed_from : ConfirmedStands (part_of v)
  confirmed_from = λ i q a b c d e. ∥∥₁_elim r (bools_set _ _) (λ h. (f h).stands i q a b c d e)

-- the state after one more event
right_after : (seen : WorldSeen) (W : CopyWorld) (n : ℕ) (e : Event) → n < 2 ^ 59 → refusal (with_copies seen) e ≡ None → W ≡ effect (with_copies seen) e → IsReachedIn seen n → QueueIsRight (n + 1) W.ring
right_after seen W n e few x is h =
    let after : WorldSeen = record { ring = W.ring; copies = W.copies; refusals = seen.refusals ++ refusals_of (e ∷ []) } in
    let m : IsReachedIn after (n + 1) = reached_more seen after n (n + 1) e h x is refl refl in
    let small : 2 ^ 59 + 1 < greatest = lit< tt in
    let many : length (map sort_of m.events) ≡ n + 1 = length-map m.events sort_of ∙ m.count in
    subst (λ k. QueueIsRight k W.ring) many (subst (λ (V : CopyWorld). QueueIsRight (length (map sort_of m.events)) V.ring) (sym m.is) (queue_right_with_copies m.credit m.names m.are (map sort_of m.events) (omega (arith, many, few, small)) m.run))

-- all mirrors agree in it
pub mirrors_more : (seen : WorldSeen) (W : CopyWorld) (n : ℕ) (e : Event) → ∥ IsReachedIn seen n ∥₁ → n < 2 ^ 59 → refusal (with_copies seen) e ≡ None → W ≡ effect (with_copies seen) e → MirrorsAgree (part_of W.ring)
mirrors_more seen W n e r few x is = mirrors_from seen n W.ring r (right_after seen W n e few x is)

-- and what is confirmed stands
pub confirmed_more : (seen : WorldSeen) (W : CopyWorld) (n : ℕ) (e : Event) → ∥ IsReachedIn seen n ∥₁ → n < 2 ^ 59 → refusal (with_copies seen) e ≡ None → W ≡ effect (with_copies seen) e → ConfirmedStands (part_of W.ring)
confirmed_more seen W n e r few x is = confirmed_from seen n W.ring r (right_after seen W n e few x is)
