-- The items of each copy rise, as those of each mirror do.
use Rattle.std.proofs.Common.{◌≡◌, ℕ, ◌+◌, ◌<◌, ◌≤◌, Bool, true, false, cond, max, List, [], ◌∷◌, ◌++◌, length, refl, sym, ap, subst, ◌∙◌, arith, ⊎_elim, Option, Some, None, Result, Ok, Err}
use Rattle.std.specs.Prelude.{nat_lt, take, drop}
use Rattle.std.specs.List.{list_all}
use Rattle.std.proofs.lemmas.Bool.{cases_Bool, and_parts, and_from, ltb-true}
use Rattle.std.proofs.lemmas.List.{append_assoc, take-append-drop}
use Rattle.std.proofs.lemmas.List.Quantifiers.{position-Some}
use Rattle.std.proofs.lemmas.List.Folds.{list_all-append}
use Rattle.ring_names.specs.declared.numbers.CreditSpec.{CreditSpec}
use Rattle.ring_names.specs.declared.reason.Reason.{Reason}
use Rattle.group_view.specs.Change.{AreOpeningNames, marked}
use Rattle.group_view.specs.View.{as_id}
use Rattle.queue_core.specs.declared.op.Op.{Op}
use Rattle.queue_core.specs.declared.op.Op.TheVariants as op
use Rattle.queue_core.specs.declared.op.Op.TheVariants.{Publish}
use Rattle.queue_core.specs.declared.message.Message.{Message}
use Rattle.queue_core.specs.declared.message.Message.TheVariants as message
use Rattle.queue_core.specs.Queue.{Item, QueueState, greatest, is_above, rises, takes, next_after, step, apply, no_items}
use Rattle.queue_core.specs.Legal.{run}
use Rattle.queue_core.specs.Kept.{IsQueue}
use Rattle.queue_core.proofs.Rises.{run_rises, above_more, apply_keeps}
use Rattle.queue_mirror.specs.Mirror.{MirrorState, apply_op, apply_ops}
use Rattle.queue_sync.specs.Copy.{Load, OneItem, Done, loads_of}
use Rattle.queue_laws.specs.Part.{ops_of}
use Rattle.queue_laws.specs.Copies.{high, next_run}
use Rattle.queue_laws.proofs.High.{high_above, next_run_above}
use Rattle.ring_rules.specs.declared.phase.Phase.{Phase}
use Rattle.ring_rules.specs.declared.phase.Phase.TheVariants.{Waiting, Up, Stopped}
use Rattle.ring_rules.specs.declared.phase.Ending.TheVariants.{Halted}
use Rattle.ring_rules.specs.declared.kind.LinkStep.TheVariants as step
use Rattle.ring_rules.specs.declared.kind.ViewChange.TheVariants as change
use Rattle.ring_rules.specs.declared.kind.CopyStep.{CopyStep}
use Rattle.ring_rules.specs.declared.kind.CopyStep.TheVariants as copying
use Rattle.ring_rules.specs.View.{right_of}
use Rattle.ring_rules.specs.Machine.{Member, World, member_at, link_at, view_in, newest, oldest}
use Rattle.ring_rules.specs.Step.{size, log_of, publish_at, published, put_on, gain_on, is_owned, news_of, taker, begun, leave_link, with_current, stop_at, stopped, with_member, with_view, moved_to, opened_link, come_to, copied, copied_at, opening}
use Rattle.ring_rules.specs.Kind.{Kind, Says, Steps, Copying, Changes, Stops, Reads, Tells, Saying, Own, OfQueue, kind_of}
use Rattle.ring_rules.specs.Event.{id_of, at_found, at_door, op_as, op_done, said, taken_by, done_as, refreshed, erased_view, synced_view}
use Rattle.ring_rules.proofs.events.Composed.{end_composed, refresh_composed}
use Rattle.ring_rules.proofs.events.First.{first_each}
use Rattle.ring_rules.proofs.events.Leaves.{member_leaves, come_member}
use Rattle.ring_copies.specs.Copies.{CopyLink, CopyWorld, no_copy_link, copy_link_at, copy_in, copy_out, is_taken_by, copy_put, item_taken, done_taken, copied_queue, copied_mirror, since_copy}
use Rattle.ring_copies.specs.Events.{CopyEvent, OfRing, OnCopy, RefusesCopy, by_of, refusal, effect, step_done, done_in, let_go_by, where_found, open_copy, take_load, take_copy, IsRun, last, without_copies}
use Rattle.ring_copies.specs.Laws.{items_in, items_of, CopiesRise}
use Rattle.ring_copies.proofs.Seen.{found_ring}
use Rattle.ring_copies.proofs.EachCopy.{EachKept, OfAll, effect_kept}

-- ---- items that rise, below the greatest position

abbrev pub AreRising : List Item → Type 0
AreRising xs = (rises xs ≡ true) × (is_above greatest xs ≡ true)

front_rises : (xs ys : List Item) → rises (xs ++ ys) ≡ true → rises xs ≡ true
front_rises [] ys h = refl
front_rises (i ∷ xs) ys h =
    let p = and_parts (list_all (λ j. nat_lt i.at j.at) (xs ++ ys)) (rises (xs ++ ys)) h in
    let above = and_parts (list_all (λ j. nat_lt i.at j.at) xs) (list_all (λ j. nat_lt i.at j.at) ys) (sym (list_all-append (λ (j : Item). nat_lt i.at j.at) xs ys) ∙ p.0) in
    and_from (list_all (λ j. nat_lt i.at j.at) xs) (rises xs) above.0 (front_rises xs ys p.1)

back_rises : (xs ys : List Item) → rises (xs ++ ys) ≡ true → rises ys ≡ true
back_rises [] ys h = h
back_rises (i ∷ xs) ys h = back_rises xs ys (and_parts (list_all (λ j. nat_lt i.at j.at) (xs ++ ys)) (rises (xs ++ ys)) h).1

both_above : (xs ys : List Item) → is_above greatest (xs ++ ys) ≡ true → (is_above greatest xs ≡ true) × (is_above greatest ys ≡ true)
both_above xs ys h = and_parts (is_above greatest xs) (is_above greatest ys) (sym (list_all-append (λ (i : Item). nat_lt i.at greatest) xs ys) ∙ h)

-- of two lists behind one another each does, where both together do
pub front_rising : (xs ys : List Item) → AreRising (xs ++ ys) → AreRising xs
front_rising xs ys h = (front_rises xs ys h.0, (both_above xs ys h.1).0)

pub back_rising : (xs ys : List Item) → AreRising (xs ++ ys) → AreRising ys
back_rising xs ys h = (back_rises xs ys h.0, (both_above xs ys h.1).1)

-- ---- queues

-- a queue, whose next position isn't 0
pub record IsBegun (q : QueueState) : Type 0 where
  pub is_queue : IsQueue q
  pub some : 1 ≤ q.next

pub queue_rising : (q : QueueState) → IsQueue q → AreRising q.items
queue_rising q h = (h.rises, above_more q.next greatest h.fits q.items h.below)

none_begun : IsBegun no_items
none_begun = record { is_queue = record { rises = refl; below = refl; fits = omega arith }; some = omega arith }

next_some : (o : Op) (xs : List Item) (n : ℕ) → 1 ≤ n → 1 ≤ next_after o xs n
next_some (Publish at b) xs n le = elim (takes at.0 xs) as (λ t. 1 ≤ cond t (at.0 + 1) n) [ true ↦ omega arith | false ↦ le ]
next_some o xs n le = le

apply_begun : (o : Op) (q : QueueState) → IsBegun q → IsBegun (apply o q)
apply_begun o q h = record { is_queue = apply_keeps o q h.is_queue; some = next_some o q.items q.next h.some }

ops_begun : (m : MirrorState) (l : List Op) → IsBegun m.queue → IsBegun (apply_ops m l).queue
ops_begun m [] h = h
ops_begun m (o ∷ l) h = ops_begun (apply_op m o) l (apply_begun o m.queue h)

-- ---- what a copy makes of one

next_fits : (o : Op) (xs : List Item) (n : ℕ) → n ≤ greatest → next_after o xs n ≤ greatest
next_fits (Publish at b) xs n le = ⊎_elim
    (λ (yes : takes at.0 xs ≡ true). rw yes (omega (arith, ltb-true at.0 greatest (and_parts (is_above at.0 xs) (nat_lt at.0 greatest) yes).1)))
    (λ (none : takes at.0 xs ≡ false). rw none le)
    (cases_Bool (takes at.0 xs))
next_fits o xs n le = le

next_run_fits : (xs : List Item) (l : List Op) (n : ℕ) → n ≤ greatest → next_run xs l n ≤ greatest
next_run_fits xs [] n le = le
next_run_fits xs (o ∷ l) n le = next_run_fits (step o xs) l (next_after o xs n) (next_fits o xs n le)

pub high_fits : (n : ℕ) (xs : List Item) → is_above n xs ≡ true → high xs ≤ n
high_fits n [] h = omega arith
high_fits n (i ∷ xs) h =
    let p = and_parts (nat_lt i.at n) (is_above n xs) h in
    omega (arith, ltb-true i.at n p.0, high_fits n xs p.1)

copied_begun : (q : QueueState) (aside : List Item) (l : List Op) → IsBegun q → AreRising aside → IsBegun (copied_queue q aside l)
copied_begun q aside l h k =
    let low : high aside ≤ greatest = high_fits greatest aside k.1 in
    let n : ℕ = next_run aside l (high aside) in
    record {
      is_queue = record {
        rises = run_rises aside l k.0;
        below = above_more n (max q.next (max (high aside) n)) (omega arith) (run aside l) (next_run_above aside l (high aside) (high_above aside));
        fits = omega (arith, h.is_queue.fits, low, next_run_fits aside l (high aside) low);
      };
      some = omega (arith, h.some);
    }

-- ---- each mirror is one

abbrev pub HaveQueues : World → Type 0
HaveQueues w = (q : ℕ) → IsBegun (member_at w q).mirror.queue

-- where one member is written
written : (w : World) (x : ℕ) (y : Member) → IsBegun y.mirror.queue → HaveQueues w → HaveQueues (with_member w x y)
written w x y new h q = member_leaves (λ _ _ b. IsBegun b.mirror.queue) w x y new h q

publish_queues : (w : World) (x : ℕ) (m : Message) → HaveQueues w → HaveQueues (publish_at w x m)
publish_queues w x m h = written w x (published x m (member_at w x)) (ops_begun (member_at w x).mirror (ops_of m) (h x)) h

refreshed_queues : (u : World) (x v : ℕ) → HaveQueues u → HaveQueues (refreshed u x v)
refreshed_queues u x v h = refresh_composed HaveQueues u x v
    (λ o e k. k)
    (λ t e k. written (record t { links = t.links ++ opened_link t x (right_of (view_in u v) x) ∷ [] }) x (record (member_at t x) { out = Some (length t.links) }) (k x) k)
    (written u x (moved_to u x v) (h x) h)

found_queues : (w : World) (o : Option ℕ) (f : ℕ → World) → ((s : ℕ) → HaveQueues (f s)) → HaveQueues w → HaveQueues (at_found o w f)
found_queues w None f k h = h
found_queues w (Some s) f k h = k s

said_queues : (w : World) (x : ℕ) (s : Saying) → HaveQueues w → HaveQueues (said w x s)
said_queues w x (Own body) h = publish_queues w x (message.Cast body) h
said_queues w x (OfQueue q) h = by_op (op_as w x q)
  where
    by_op : (o : Result Op Reason) → HaveQueues (op_done w x o)
    by_op (Ok o) = publish_queues w x (message.Queue o) h
    by_op (Err r) = h

-- an event of the ring
kind_queues : (w : World) (x : ℕ) (k : Kind) → HaveQueues w → HaveQueues (done_as w x k)
kind_queues w x (Says s) h = said_queues w x s h
kind_queues w x (Steps step.Put) h = found_queues w (member_at w x).out (put_on w x) (λ o. h) h
kind_queues w x (Steps step.Take) h = found_queues w (member_at w x).current (taken_by (member_at w x).phase w x) (λ s. by_phase s (member_at w x).phase) h
  where
    by_phase : (s : ℕ) (f : Phase) → HaveQueues (taken_by f w x s)
    by_phase s Waiting = written w x (begun (size w) (member_at w x) (oldest (link_at w s))) (h x) h
    by_phase s Up = written w x (taker w x s) (ops_begun (member_at w x).mirror (news_of (size w) (is_owned (view_in w (member_at w x).version) x (link_at w s).sender) (log_of w) (member_at w x) (oldest (link_at w s))) (h x)) h
    by_phase s Stopped = h
kind_queues w x (Steps step.TakeEnd) h = found_queues w (member_at w x).current (leave_link w x) (λ s. written w x (with_current None (member_at w x)) (h x) h) h
kind_queues w x (Steps step.Gain) h = found_queues w (member_at w x).out (gain_on w) (λ o. h) h
kind_queues w x (Steps step.Pick) h = found_queues w (at_door w x) _ (λ s. written w x (with_current (Some s) (member_at w x)) (h x) h) h
kind_queues w x (Changes (change.Mark dead)) h = found_queues w (id_of w dead) _ (λ d. refreshed_queues (with_view w (marked (view_in w (newest w)) d)) x (newest w + 1) h) h
kind_queues w x (Changes (change.Erase origin)) h = found_queues w (id_of w origin) _ (λ p. refreshed_queues (with_view w (erased_view w p)) x (newest w + 1) h) h
kind_queues w x (Changes (change.Admit name)) h = refreshed_queues (come_to w x name) x (newest w + 1) (λ q. come_member w x name q (λ _ a. IsBegun a.mirror.queue) none_begun (h q))
kind_queues w x (Changes change.Register) h = refreshed_queues (with_view w (synced_view w x)) x (newest w + 1) h
kind_queues w x Stops h = end_composed HaveQueues Halted (stop_at w x) (member_at w x).out (λ o e k. k) (written w x (stopped (member_at w x)) (h x) h)
kind_queues w x (Reads version) h = refreshed_queues w x version h
kind_queues w x (Copying s) h = h
kind_queues w x (Tells code inner) h = h

-- a copy that is done
copied_queues : (w : World) (x : ℕ) (c : CopyLink) → AreRising c.aside → HaveQueues w → HaveQueues (copied_at w x (copied_mirror w x c))
copied_queues w x c k h = written w x (copied (copied_mirror w x c) (member_at w x)) (copied_begun (member_at w x).mirror.queue c.aside (since_copy w x c) (h x) k) h

-- the opening
opening_queues : (credit : CreditSpec) (names : List (List ℕ)) → HaveQueues (opening credit names)
opening_queues credit names q = first_each credit names q (λ a. IsBegun a.mirror.queue) (λ _ _. none_begun) none_begun

-- ---- the items of a copy

abbrev pub Rises : CopyLink → Type 0
Rises c = AreRising (items_of c)

-- a copy opens with the items of a mirror
pub items_back : (xs : List Item) → items_in (loads_of xs) ≡ xs
items_back [] = refl
items_back (i ∷ xs) = ap (λ ys. i ∷ ys) (items_back xs)

pub put_items : (c : CopyLink) → items_of (copy_put c) ≡ items_of c
put_items c = ap (λ ls. c.aside ++ items_in ls) (append_assoc c.loads (take 1 c.to_put) (drop 1 c.to_put) ∙ ap (λ ls. c.loads ++ ls) (take-append-drop 1 c.to_put))

pub taken_items : (b : Bool) (a : Item) (c : CopyLink) (ls : List Load) → c.loads ≡ OneItem a ∷ ls → items_of (item_taken b a c) ≡ items_of c
taken_items b a c ls e =
    ap (λ ks. (c.aside ++ a ∷ []) ++ items_in (drop 1 ks ++ c.to_put)) e ∙ append_assoc c.aside (a ∷ []) (items_in (ls ++ c.to_put)) ∙ sym (ap (λ ks. c.aside ++ items_in (ks ++ c.to_put)) e)

done_items : (b : Bool) (c : CopyLink) (ls : List Load) → c.loads ≡ Done ∷ ls → items_in (c.loads ++ c.to_put) ≡ items_of (done_taken b c)
done_items b c ls e = ap (λ ks. items_in (ks ++ c.to_put)) e ∙ sym (ap (λ ks. items_in (drop 1 ks ++ c.to_put)) e)

rises_each : EachKept HaveQueues Rises
rises_each = record {
  opens = λ w x n h. subst AreRising (sym (items_back (member_at w x).mirror.queue.items)) (queue_rising (member_at w x).mirror.queue (h x).is_queue);
  steps = record {
    puts = λ c some can h. subst AreRising (sym (put_items c)) h;
    gains = λ c some h. h;
    items = λ b a c ls e h. subst AreRising (sym (taken_items b a c ls e)) h;
    done = λ b c ls e h. subst AreRising (done_items b c ls e) (back_rising c.aside (items_in (c.loads ++ c.to_put)) h);
    drops = λ c h. back_rising c.aside (items_in (c.loads ++ c.to_put)) h;
    halts = λ c h. h;
    closes = λ c h. h;
    frees = λ c h. h;
  };
}

-- ---- every state

pub record AreOrdered (W : CopyWorld) : Type 0 where
  pub queues : HaveQueues W.ring
  pub copies : OfAll Rises W.copies

load_queues : (W : CopyWorld) (x i : ℕ) (c : CopyLink) → Rises c → HaveQueues W.ring → (ls : List Load) → HaveQueues (take_load W x i c ls).ring
load_queues W x i c k h [] = h
load_queues W x i c k h (OneItem a ∷ ls) = h
load_queues W x i c k h (Done ∷ ls) = copied_queues W.ring x c (front_rising c.aside (items_in (c.loads ++ c.to_put)) k) h

step_queues : (W : CopyWorld) (x : ℕ) (s : CopyStep) → AreOrdered W → HaveQueues (step_done W x s).ring
step_queues W x (copying.Open target) h = by_target (id_of W.ring target)
  where
    by_target : (t : Option ℕ) → HaveQueues (where_found t W (open_copy W x)).ring
    by_target None = h.queues
    by_target (Some n) = publish_queues W.ring x (message.Queue (op.SyncMark (as_id n))) h.queues
step_queues W x copying.Put h = subst HaveQueues (sym (found_ring W (copy_out W.copies x) _ (λ i. refl))) h.queues
step_queues W x copying.Take h = by_copy (copy_in W.copies x) refl
  where
    by_copy : (o : Option ℕ) → copy_in W.copies x ≡ o → HaveQueues (where_found o W (take_copy W x)).ring
    by_copy None is = h.queues
    by_copy (Some i) is = load_queues W x i (copy_link_at W.copies i) (h.copies i (position-Some (is_taken_by x) W.copies i no_copy_link is).0) h.queues (copy_link_at W.copies i).loads
step_queues W x copying.Gain h = subst HaveQueues (sym (found_ring W (copy_out W.copies x) _ (λ i. refl))) h.queues

done_queues : (W : CopyWorld) (e : CopyEvent) (x : ℕ) → AreOrdered W → HaveQueues (done_in W e x).ring
done_queues W (OfRing e) x h = kind_queues W.ring x (kind_of e) h.queues
done_queues W (OnCopy by s) x h = step_queues W x s h
done_queues W (RefusesCopy code by target) x h = h.queues

pub event_ordered : (W : CopyWorld) (e : CopyEvent) → refusal W e ≡ None → AreOrdered W → AreOrdered (effect W e)
event_ordered W e r h = record { queues = by_id (id_of W.ring (by_of e)); copies = effect_kept HaveQueues Rises rises_each W e h.queues r h.copies }
  where
    by_id : (o : Option ℕ) → HaveQueues (where_found o W (λ x. let_go_by x (done_in W e x))).ring
    by_id None = h.queues
    by_id (Some x) = done_queues W e x h

run_ordered : (W : CopyWorld) (es : List CopyEvent) → IsRun W es → AreOrdered W → AreOrdered (last W es)
run_ordered W [] r h = h
run_ordered W (e ∷ es) r h = run_ordered (effect W e) es r.1 (event_ordered W e r.0 h)

-- of every run
pub reached_ordered : (credit : CreditSpec) (names : List (List ℕ)) (es : List CopyEvent) → IsRun (without_copies (opening credit names)) es → AreOrdered (last (without_copies (opening credit names)) es)
reached_ordered credit names es r = run_ordered (without_copies (opening credit names)) es r (record { queues = opening_queues credit names; copies = λ i bad. absurd (omega arith) })

-- so the items of its copies rise
pub copies_rise : (credit : CreditSpec) (names : List (List ℕ)) (es : List CopyEvent) → AreOpeningNames names → length es < greatest → IsRun (without_copies (opening credit names)) es → CopiesRise (last (without_copies (opening credit names)) es)
copies_rise credit names es are few r = (reached_ordered credit names es r).copies
