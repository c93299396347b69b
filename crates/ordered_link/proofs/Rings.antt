-- What every list of steps keeps of a ring pair.
use Rattle.std.proofs.Common.{◌≡◌, ℕ, ◌+◌, true, false, List, [], ◌∷◌, ◌++◌, Some, sym, ap, ◌∙◌, append_assoc, arith, inl, inr}
use Rattle.std.specs.List.{flat_map}
use Rattle.std.proofs.lemmas.List.{append-nil}
use Rattle.rtrb.specs.Ends.{SameRing}
use Rattle.rtrb.specs.Ring.{sent, received, known_items, producer_capacity, SameProducer, SameConsumer}
use Rattle.rtrb.specs.declared.end.End.{End as RingEnd}
use Rattle.rtrb.specs.declared.producer.Producer.{Producer}
use Rattle.rtrb.specs.declared.consumer.Consumer.{Consumer}
use Rattle.ordered_link.specs.declared.grant.Grant.{Grant}
use Rattle.ordered_link.specs.declared.ring.RingOut.{RingOut}
use Rattle.ordered_link.specs.declared.ring.RingIn.{RingIn}
use Rattle.ordered_link.specs.Form.{is_in_form}
use Rattle.ordered_link.specs.Names.{PairName, out_pair, in_pair}
use Rattle.ordered_link.specs.Runs.{Step, put, taken, gained, granted, looked, met, put_by, taken_by, gained_by, granted_by, puts_of, takes_of, gains_of, grants_of, list_of, AreLoads, AreLoadsThenEnd}
use Rattle.ordered_link.specs.RingSteps.{AreRingEnds, IsFreshRingPair}
use Rattle.ordered_link.specs.RingRuns.{RingDoes, AreRingSteps, RingKeepsOrder}
use Rattle.ordered_link.proofs.Order.{sent_list}
use Rattle.ordered_link.proofs.Forms.{form_loads, form_ended}

-- from nothing
from_none : {A : Type 0} (xs ys zs : List A) → xs ≡ ys ++ zs → ys ≡ [] → xs ≡ zs
from_none xs ys zs h none = h ∙ ap (λ l. l ++ zs) none

module _ {T A P : Type 0} where
  -- two ends of one ring, after steps of each
  moved : (a b c d : RingEnd T A P) → SameRing a b → SameRing a c → SameRing b d → SameRing c d
  moved a b c d (w, s, n, h) (w1, s1, n1, h1) (w2, s2, n2, h2) = (w2 ∙ w ∙ sym w1, s2 ∙ s ∙ sym s1, n2 ∙ n ∙ sym n1, h2 ∙ h ∙ sym h1)

  -- an end that is as it was
  kept_producer : (a b : Producer T A P) → b ≡ a → SameProducer a b
  kept_producer a b e = ((ap (λ x. x.end.words) e, ap (λ x. x.end.slots) e, ap (λ x. x.end.names) e, ap (λ x. x.end.heap) e), ap (λ x. x.capacity) e)

  kept_consumer : (a b : Consumer T A P) → b ≡ a → SameConsumer a b
  kept_consumer a b e = ((ap (λ x. x.end.words) e, ap (λ x. x.end.slots) e, ap (λ x. x.end.names) e, ap (λ x. x.end.heap) e), ap (λ x. x.capacity) e)

module _ {T : Type 0} where
  -- what an out end is by, and an in end
  abbrev pub OutKept : RingOut T → RingOut T → Type 0
  OutKept a b = SameProducer a.items b.items × SameConsumer a.back b.back × (b.initial ≡ a.initial)

  abbrev pub InKept : RingIn T → RingIn T → Type 0
  InKept a b = SameConsumer a.items b.items × SameProducer a.back b.back × (b.initial ≡ a.initial)

  out_same : (a b : RingOut T) → b ≡ a → OutKept a b
  out_same a b e = (kept_producer a.items b.items (ap (λ x. x.items) e), kept_consumer a.back b.back (ap (λ x. x.back) e), ap (λ x. x.initial) e)

  in_same : (a b : RingIn T) → b ≡ a → InKept a b
  in_same a b e = (kept_consumer a.items b.items (ap (λ x. x.items) e), kept_producer a.back b.back (ap (λ x. x.back) e), ap (λ x. x.initial) e)

  -- ends that are what they were stay the ends of one link
  pub ends_stay : (o o' : RingOut T) (i i' : RingIn T) → OutKept o o' → InKept i i' → AreRingEnds o i → AreRingEnds o' i'
  ends_stay o o' i i' ((p, pc), (c, cc1), n) ((c2, cc2), (p2, pc2), n2) e = record {
    there = moved o.items.end i.items.end o'.items.end i'.items.end e.there p c2;
    back = moved i.back.end o.back.end i'.back.end o'.back.end e.back p2 c;
    initial = n2 ∙ e.initial ∙ sym n;
    slots = pc ∙ e.slots ∙ ap (λ k. k + 1) (sym n);
    room = pc2 ∙ e.room ∙ sym n2;
  }

  -- one step leaves each end what it was
  step_kept : (s : Step T) (o o' : RingOut T) (i i' : RingIn T) → RingDoes s o i o' i' → OutKept o o' × InKept i i'
  step_kept (put x) o o' i i' (is_open, (p, more, free, back, n, ended), same) = ((p, kept_consumer o.back o'.back back, n), in_same i i' same)
  step_kept (taken x) o o' i i' (same, (c, more, known, (p, sends, count, n))) = (out_same o o' same, (c, p, n))
  step_kept (gained x) o o' i i' ((items, c, more, known, n, ended), same) = ((kept_producer o.items o'.items items, c, n), in_same i i' same)
  step_kept (granted x) o o' i i' (same, late, (items, p, sends, count, now, n)) = (out_same o o' same, (kept_consumer i.items i'.items items, p, n))
  step_kept looked o o' i i' (inl (((p, sent_same, free), (c, got, known), n, ended), ((c2, got2, known2), (p2, sent2, free2), late, n2))) = ((p, c, n), (c2, p2, n2))
  step_kept looked o o' i i' (inr (same, (items, (p, sends, count, n)))) = (out_same o o' same, (kept_consumer i.items i'.items items, p, n))
  step_kept met o o' i i' h = ((h.out.0, h.out.1, h.out.5), (h.link.0, h.link.2, h.link.4))

  pub run_ends : (steps : List (Step T)) (o o' : RingOut T) (i i' : RingIn T) → AreRingSteps steps o i o' i' → AreRingEnds o i → AreRingEnds o' i'
  run_ends [] o o' i i' (out, link) e = ends_stay o o' i i' (out_same o o' out) (in_same i i' link) e
  run_ends (s ∷ rest) o o' i i' (p, q, does, are) e = let (out, link) = step_kept s o p i q does in run_ends rest p o' q i' are (ends_stay o p i q out link e)

  -- an end that is what it was has its name
  pub out_named : (a b : RingOut T) → OutKept a b → out_pair b ≡ out_pair a
  out_named a b (((w, s, n, h), c), ((w1, s1, n1, h1), c1), size) =
      let slots : producer_capacity b.items ≡ producer_capacity a.items = c in
      cc

  pub in_named : (a b : RingIn T) → InKept a b → in_pair b ≡ in_pair a
  in_named a b (((w, s, n, h), c), ((w1, s1, n1, h1), c1), size) =
      let slots : producer_capacity b.back + 1 ≡ producer_capacity a.back + 1 = ap (λ k. k + 1) c1 in
      cc

  pub run_named : (steps : List (Step T)) (o o' : RingOut T) (i i' : RingIn T) → AreRingSteps steps o i o' i' → (out_pair o' ≡ out_pair o) × (in_pair i' ≡ in_pair i)
  run_named [] o o' i i' (out, link) = (ap out_pair out, ap in_pair link)
  run_named (s ∷ rest) o o' i i' (p, q, does, are) =
      let (out, link) = step_kept s o p i q does in
      let (outs, links) = run_named rest p o' q i' are in
      (outs ∙ out_named o p out, links ∙ in_named i q link)

  -- ends of one link have one name
  pub ends_named : (o : RingOut T) (i : RingIn T) → AreRingEnds o i → in_pair i ≡ out_pair o
  ends_named o i e =
      let (w, s, n, h) = e.there in
      let (w1, s1, n1, h1) = e.back in
      let slots : producer_capacity i.back + 1 ≡ producer_capacity o.items = ap (λ k. k + 1) (e.room ∙ e.initial) ∙ sym e.slots in
      cc

  -- and ends of one name and one size are ends of one link
  pub named_ends : (o : RingOut T) (i : RingIn T) → in_pair i ≡ out_pair o → i.initial ≡ o.initial → producer_capacity o.items ≡ o.initial + 1 → AreRingEnds o i
  named_ends o i name size slots = record {
    there = (ap (λ (r : PairName). r.there.words) name, ap (λ (r : PairName). r.there.slots) name, ap (λ (r : PairName). r.there.names) name, ap (λ (r : PairName). r.there.heap) name);
    back = (sym (ap (λ (r : PairName). r.back.words) name), sym (ap (λ (r : PairName). r.back.slots) name), sym (ap (λ (r : PairName). r.back.names) name), sym (ap (λ (r : PairName). r.back.heap) name));
    initial = size;
    slots = slots;
    room = (let same : producer_capacity i.back + 1 ≡ producer_capacity o.items = ap (λ (r : PairName). r.slots) name in omega (arith, same, slots, size));
  }

  -- one step adds what it put to all that was put
  step_put : (s : Step T) (o o' : RingOut T) (i i' : RingIn T) → RingDoes s o i o' i' → sent o'.items ≡ sent o.items ++ put_by s
  step_put (put x) o o' i i' h = h.1.1
  step_put (taken x) o o' i i' h = ap (λ e. sent e.items) h.0 ∙ sym (append-nil _)
  step_put (gained x) o o' i i' h = ap sent h.0.0 ∙ sym (append-nil _)
  step_put (granted x) o o' i i' h = ap (λ e. sent e.items) h.0 ∙ sym (append-nil _)
  step_put looked o o' i i' (inl h) = h.0.0.1 ∙ sym (append-nil _)
  step_put looked o o' i i' (inr h) = ap (λ e. sent e.items) h.0 ∙ sym (append-nil _)
  step_put met o o' i i' h = h.out.2 ∙ sym (append-nil _)

  -- what it took
  step_taken : (s : Step T) (o o' : RingOut T) (i i' : RingIn T) → RingDoes s o i o' i' → received i'.items ≡ received i.items ++ taken_by s
  step_taken (put x) o o' i i' h = ap (λ e. received e.items) h.2 ∙ sym (append-nil _)
  step_taken (taken x) o o' i i' h = h.1.1
  step_taken (gained x) o o' i i' h = ap (λ e. received e.items) h.1 ∙ sym (append-nil _)
  step_taken (granted x) o o' i i' h = ap received h.2.0 ∙ sym (append-nil _)
  step_taken looked o o' i i' (inl h) = h.1.0.1 ∙ sym (append-nil _)
  step_taken looked o o' i i' (inr h) = ap received h.1.0 ∙ sym (append-nil _)
  step_taken met o o' i i' h = h.link.1 ∙ sym (append-nil _)

  -- the grant that it took
  step_gained : (s : Step T) (o o' : RingOut T) (i i' : RingIn T) → RingDoes s o i o' i' → received o'.back ≡ received o.back ++ gained_by s
  step_gained (put x) o o' i i' h = ap received h.1.3 ∙ sym (append-nil _)
  step_gained (taken x) o o' i i' h = ap (λ e. received e.back) h.0 ∙ sym (append-nil _)
  step_gained (gained x) o o' i i' h = h.0.2
  step_gained (granted x) o o' i i' h = ap (λ e. received e.back) h.0 ∙ sym (append-nil _)
  step_gained looked o o' i i' (inl h) = h.0.1.1 ∙ sym (append-nil _)
  step_gained looked o o' i i' (inr h) = ap (λ e. received e.back) h.0 ∙ sym (append-nil _)
  step_gained met o o' i i' h = h.out.3 ∙ sym (append-nil _)

  -- the grants that were given: those that were sent, and the one that waits
  abbrev given : RingIn T → List Grant
  given i = sent i.back ++ list_of i.late

  -- the grant that it gave
  step_granted : (s : Step T) (o o' : RingOut T) (i i' : RingIn T) → RingDoes s o i o' i' → given i' ≡ given i ++ granted_by s
  step_granted (put x) o o' i i' h = ap given h.2 ∙ sym (append-nil _)
  step_granted (taken x) o o' i i' h = sent_list [] (sent i.back) (sent i'.back) i.late i'.late h.1.3.1 ∙ sym (append-nil _)
  step_granted (gained x) o o' i i' h = ap given h.1 ∙ sym (append-nil _)
  step_granted (granted x) o o' i i' (same, late, h) =
      sent_list [] (sent i.back) (sent i'.back) (Some x) i'.late h.2 ∙ ap (λ xs. xs ++ x ∷ []) (sym (append-nil (sent i.back)) ∙ ap (λ l. sent i.back ++ list_of l) (sym late))
  step_granted looked o o' i i' (inl h) = ap (λ xs. xs ++ list_of i'.late) h.1.1.1 ∙ ap (λ l. sent i.back ++ list_of l) h.1.2 ∙ sym (append-nil _)
  step_granted looked o o' i i' (inr h) = sent_list [] (sent i.back) (sent i'.back) i.late i'.late h.1.1.1 ∙ sym (append-nil _)
  step_granted met o o' i i' h = sent_list [] (sent i.back) (sent i'.back) i.late i'.late h.link.3 ∙ sym (append-nil _)

  -- what each step adds, any list of them adds
  run_grows : {A : Type 0} (view : RingOut T → RingIn T → List A) (by : Step T → List A)
      → ((s : Step T) (o o' : RingOut T) (i i' : RingIn T) → RingDoes s o i o' i' → view o' i' ≡ view o i ++ by s)
      → (steps : List (Step T)) (o o' : RingOut T) (i i' : RingIn T) → AreRingSteps steps o i o' i' → view o' i' ≡ view o i ++ flat_map by steps
  run_grows view by grows [] o o' i i' (out, link) = ap (λ e. view e i') out ∙ ap (view o) link ∙ sym (append-nil _)
  run_grows view by grows (s ∷ rest) o o' i i' (p, q, does, are) =
      run_grows view by grows rest p o' q i' are ∙ ap (λ xs. xs ++ flat_map by rest) (grows s o p i q does) ∙ append_assoc (view o i) (by s) (flat_map by rest)

  -- what was put while the link is open, and once it has ended
  pub loads_put : (o : RingOut T) → o.ended ≡ false → AreLoads (sent o.items)
  loads_put o is = form_loads (sent o.items) (ap (λ e. is_in_form e (sent o.items)) (sym is) ∙ o.in_form)

  pub ended_put : (o : RingOut T) → o.ended ≡ true → AreLoadsThenEnd (sent o.items)
  ended_put o is = form_ended (sent o.items) (ap (λ e. is_in_form e (sent o.items)) (sym is) ∙ o.in_form)

  -- what a ring pair keeps that was fresh
  pub fresh_ring_keeps : (n : ℕ) (o o' : RingOut T) (i i' : RingIn T) (steps : List (Step T)) → IsFreshRingPair n o i → AreRingSteps steps o i o' i' → RingKeepsOrder steps o' i'
  fresh_ring_keeps n o o' i i' steps f h =
      let put_all : sent o'.items ≡ puts_of steps = from_none _ _ _ (run_grows (λ a b. sent a.items) put_by step_put steps o o' i i' h) f.items.0 in
      let took_all : received i'.items ≡ takes_of steps = from_none _ _ _ (run_grows (λ a b. received b.items) taken_by step_taken steps o o' i i' h) f.items.1 in
      let gained_all : received o'.back ≡ gains_of steps = from_none _ _ _ (run_grows (λ a b. received a.back) gained_by step_gained steps o o' i i' h) f.grants.1 in
      let given_all : given i' ≡ grants_of steps = from_none _ _ _ (run_grows (λ a b. given b) granted_by step_granted steps o o' i i' h) (ap (λ xs. xs ++ list_of i.late) f.grants.0 ∙ ap list_of f.grants.2) in
      record {
        ends = run_ends steps o o' i i' h f.ends;
        history = (put_all, took_all);
        items = λ m. ap (λ xs. xs ++ known_items i'.items) (sym took_all) ∙ m.items ∙ put_all;
        grants = λ m. ap (λ xs. xs ++ (known_items o'.back ++ list_of i'.late)) (sym gained_all) ∙ sym (append_assoc (received o'.back) (known_items o'.back) (list_of i'.late)) ∙ ap (λ xs. xs ++ list_of i'.late) m.grants ∙ given_all;
        loads = λ is. rw (sym put_all) (loads_put o' is);
        ended = λ is. rw (sym put_all) (ended_put o' is);
      }
