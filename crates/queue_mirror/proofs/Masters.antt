-- A master answers what it may publish.
use Rattle.std.proofs.Common.{◌≡◌, ℕ, ◌<◌, Bool, true, false, cond, List, length, refl, sym, ap, ◌∙◌, Option, Some, None}
use Rattle.std.specs.Prelude.{Result, Ok, Err, nat_eq, nat_lt}
use Rattle.std.specs.List.{list_any}
use Rattle.std.proofs.lemmas.Bool.{and_from, eq-eqb, lt-ltb}
use Rattle.ring_names.specs.declared.numbers.Position.{Position}
use Rattle.ring_names.specs.declared.reason.Reason.{Reason}
use Rattle.ring_names.specs.declared.reason.Reason.TheVariants.{NotDelivered, UnknownPosition}
use Rattle.group_view.specs.View.{Group}
use Rattle.queue_core.specs.declared.op.Op.{Op}
use Rattle.queue_core.specs.declared.op.Op.TheVariants.{Publish, Deliver, Drop, Ack, Requeue, Depth, Start}
use Rattle.queue_core.specs.Queue.{Item, greatest, is_above, is_at, is_unacked_at}
use Rattle.queue_core.specs.Legal.{least_ready, is_found, is_legal}
use Rattle.queue_core.specs.Shown.{as_position, or_empty, least_of, delivery_of}
use Rattle.queue_mirror.specs.Mirror.{MirrorState}
use Rattle.queue_mirror.specs.Master.{or_refused, on_position, if_delivered, published, lead_refusal, start_refusal, AnswersLegal}

-- the answer of one that may speak
may_speak : {A : Type 0} (refusal : Option Reason) (answer : Result A Reason) (a : A) → or_refused refusal answer ≡ Ok a → answer ≡ Ok a
may_speak None answer a e = e
may_speak (Some reason) answer a e = cc

-- what is found first is legal to hand out, or to take off
found_legal : (make : Position → Op) (xs : List Item) → ((at : Position) → is_legal (make at) xs ≡ is_found (least_ready xs) at.0) → (o : Option ℕ) → least_ready xs ≡ o → (op : Op) → on_position make (or_empty o) ≡ Ok op → is_legal op xs ≡ true
found_legal make xs h None is op e = cc
found_legal make xs h (Some a) is op e =
    let same : make (as_position a) ≡ op = cc in
    ap (λ o. is_legal o xs) (sym same) ∙ h (as_position a) ∙ ap (λ o. is_found o a) is ∙ eq-eqb a a refl

-- what is handed out is legal to acknowledge, or to hand back
handed_legal : (b c : Bool) (made op : Op) → if_delivered made (cond b (Ok tt) (Err (cond c NotDelivered UnknownPosition))) ≡ Ok op → (b ≡ true) × (made ≡ op)
handed_legal true c made op e = (refl, cc)
handed_legal false c made op e = cc

-- the number of items is legal to tell
tells_legal : (make : ℕ → Op) (xs : List Item) → ((n : ℕ) → is_legal (make n) xs ≡ nat_eq n (length xs)) → (refusal : Option Reason) (op : Op) → or_refused refusal (Ok (make (length xs))) ≡ Ok op → is_legal op xs ≡ true
tells_legal make xs h refusal op e =
    let is : ◌≡◌ {A = Result Op Reason} (Ok (make (length xs))) (Ok op) = may_speak refusal (Ok (make (length xs))) op e in
    let same : make (length xs) ≡ op = cc in
    ap (λ o. is_legal o xs) (sym same) ∙ h (length xs) ∙ eq-eqb (length xs) (length xs) refl

pub answers_legal : (m : MirrorState) (g : Group) (me : ℕ) (started : Bool) → is_above m.queue.next m.queue.items ≡ true → AnswersLegal m g me started
answers_legal m g me started above = record {
  publish = λ body op lt e. publishes (lead_refusal g me started) body op lt e;
  get = λ op e. found_legal Deliver m.queue.items (λ at. refl) (least_ready m.queue.items) refl op (may_speak (lead_refusal g me started) (on_position Deliver (least_of m.queue.items)) op e);
  pop = λ op e. found_legal Drop m.queue.items (λ at. refl) (least_ready m.queue.items) refl op (may_speak (lead_refusal g me started) (on_position Drop (least_of m.queue.items)) op e);
  ack = λ at op e.
      let p = handed_legal (list_any (is_unacked_at at.0) m.queue.items) (list_any (is_at at.0) m.queue.items) (Ack at) op (may_speak (lead_refusal g me started) (if_delivered (Ack at) (delivery_of at.0 m.queue.items)) op e) in
      ap (λ o. is_legal o m.queue.items) (sym p.1) ∙ p.0;
  requeue = λ at op e.
      let p = handed_legal (list_any (is_unacked_at at.0) m.queue.items) (list_any (is_at at.0) m.queue.items) (Requeue at) op (may_speak (lead_refusal g me started) (if_delivered (Requeue at) (delivery_of at.0 m.queue.items)) op e) in
      ap (λ o. is_legal o m.queue.items) (sym p.1) ∙ p.0;
  depth = λ op e. tells_legal Depth m.queue.items (λ n. refl) (lead_refusal g me started) op e;
  start = λ op e. tells_legal Start m.queue.items (λ n. refl) (start_refusal g me started) op e;
}
  where
    publishes : (refusal : Option Reason) (body : List ℕ) (op : Op) → m.queue.next < greatest → published refusal m.queue.next body ≡ Ok op → is_legal op m.queue.items ≡ true
    publishes None body op lt e =
        let same : Publish (as_position m.queue.next) body ≡ op = cc in
        ap (λ o. is_legal o m.queue.items) (sym same) ∙ and_from (is_above m.queue.next m.queue.items) (nat_lt m.queue.next greatest) above (lt-ltb m.queue.next greatest lt)
    publishes (Some reason) body op lt e = cc
