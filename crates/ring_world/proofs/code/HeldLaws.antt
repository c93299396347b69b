-- What the laws say of each state that a World holds.
use Rattle.std.proofs.Common.{◌≡◌, ℕ, Bool, ◌<◌, ◌≤◌, List, [], ◌∷◌, ◌++◌, length, map, ap, ◌∙◌, ◌+◌, Option, Some, None, refl, sym, subst}
use Rattle.std.specs.Coded.{le_prop}
use Rattle.std.proofs.Math.Logic.{∥∥₁_elim}
use Rattle.ring_rules.specs.Machine.{Packet, World, member_at, link_at, row_at}
use Rattle.ring_rules.specs.Step.{size, log_of, opening}
use Rattle.ring_rules.specs.declared.phase.Ending.{Ending}
use Rattle.ring_rules.specs.Rows.{messages_between}
use Rattle.ring_rules.specs.Lawful.{PacketsAreWithin}
use Rattle.ring_rules.specs.Laws.{IsLawful}
use Rattle.ring_rules.specs.LinksStand.{LinksStand, longer_walk}
use Rattle.ring_rules.specs.OpenLinks.{the_walk, walk_named, FallsFrom, NeverRises}
use Rattle.ring_rules.specs.Event.{id_of, refusals_of}
use Rattle.ring_rules.specs.declared.event.Event.{Event}
use Rattle.ring_world.specs.Reached.{WorldSeen, IsReachedIn, IsRunning, with_copies, state_of, seen_of}
use Rattle.ring_world.specs.declared.world.World.TheInside.{Inside}
use Rattle.ring_rules.proofs.runs.LinkCredit.{run_credited}
use Rattle.ring_rules.proofs.invariants.Named.{AreNamed, reached_named}
use Rattle.ring_copies.specs.Copies.{CopyWorld}
use Rattle.ring_copies.specs.Events.{sort_of}
use Rattle.ring_copies.specs.Runs.{refusal, effect, without_copies}
use Rattle.ring_copies.specs.Laws.{IsLawfulWithCopies, CopiesKeepCredit}
use Rattle.ring_copies.proofs.Seen.{RingRuns}
use Rattle.ring_copies.proofs.Runs.{lawful_with_copies}
use Rattle.ring_world.proofs.code.Agreed.{agreed_from}
use Rattle.ring_world.proofs.code.Running.{reached_more, reached_runs, reached_ring}
use Rattle.ring_rules.proofs.events.Refusals.{id_within}
use Rattle.ring_rules.proofs.invariants.Named.{named_found}
use Rattle.std.proofs.Math.Nat.{ℕ_set}
use Rattle.std.proofs.Props.{props}
use Rattle.queue_core.specs.declared.message.Message.{Message}
use Rattle.ring_rules.specs.Asked.{heard_at, got_at, base_at, log_at}

-- what is known of some run is known
falls_from : (seen : WorldSeen) (n : ℕ) → ∥ IsReachedIn seen n ∥₁ → (a : ℕ) (xs : List ℕ) → (IsReachedIn seen n → FallsFrom a xs) → FallsFrom a xs
falls_from seen n r a [] f = tt
falls_from seen n r a (x ∷ xs) f = (∥∥₁_elim r le_prop (λ h. (f h).0), falls_from seen n r x xs (λ h. (f h).1))

never_rises : (seen : WorldSeen) (n : ℕ) → ∥ IsReachedIn seen n ∥₁ → (xs : List ℕ) → (IsReachedIn seen n → NeverRises xs) → NeverRises xs
never_rises seen n r [] f = tt
never_rises seen n r (x ∷ xs) f = falls_from seen n r x xs f

-- all of them
reached_laws : (seen : WorldSeen) (n : ℕ) (r : IsReachedIn seen n) → IsLawfulWithCopies r.credit.initial (with_copies seen)
reached_laws seen n r = subst (IsLawfulWithCopies r.credit.initial) (sym r.is) (lawful_with_copies r.credit r.names r.are (map sort_of r.events) r.run)

reached_falls : (seen : WorldSeen) (n p : ℕ) → 1 ≤ p → p < size seen.ring → IsReachedIn seen n → NeverRises (the_walk seen.ring p)
reached_falls seen n p some within r =
    (reached_laws seen n r).ring.walks p some within

pub named_falls : (a : Inside) (name walk : List ℕ) → IsRunning a → walk ≡ walk_named (state_of a) (id_of (state_of a) name) → NeverRises walk
named_falls a name walk r e = subst NeverRises (sym e) (by_id (id_of (state_of a) name) refl)
  where
    by_id : (o : Option ℕ) → id_of (state_of a) name ≡ o → NeverRises (walk_named (state_of a) o)
    by_id None k = tt
    by_id (Some p) k =
        let within = id_within (state_of a) name p k in
        never_rises (seen_of a) a.applied r.reached (the_walk (state_of a) p) (reached_falls (seen_of a) a.applied p within.0 within.1)

-- ---- what was heard

lists_set : (xs ys : List Message) → IsProp (xs ≡ ys)
lists_set xs ys = hlevel props

messages_set : (m k : Message) → IsProp (m ≡ k)
messages_set m k = hlevel props

tests_set : (a b : Bool) → IsProp (a ≡ b)
tests_set a b = hlevel props

endings_set : (a b : Option Ending) → IsProp (a ≡ b)
endings_set a b = hlevel props

outs_set : (a b : Option ℕ) → IsProp (a ≡ b)
outs_set a b = hlevel props

never_prop : IsProp ⊥
never_prop a b = absurd a

reached_hears : (seen : WorldSeen) (n q p : ℕ) → IsReachedIn seen n → (row_at (member_at seen.ring q) p).heard ≡ messages_between (row_at (member_at seen.ring q) p).base (row_at (member_at seen.ring q) p).got (log_of seen.ring p)
reached_hears seen n q p r = (reached_laws seen n r).ring.in_order q p

pub heard_in_order : (a : Inside) (q p : Option ℕ) → IsRunning a → heard_at (state_of a) q p ≡ messages_between (base_at (state_of a) q p) (got_at (state_of a) q p) (log_at (state_of a) p)
heard_in_order a (Some q) (Some p) r = ∥∥₁_elim r.reached (lists_set _ _) (reached_hears (seen_of a) a.applied q p)
heard_in_order a (Some q) None r = refl
heard_in_order a None (Some p) r = nothing_heard (log_at (state_of a) (Some p))
  where
    nothing_heard : (log : List Message) → [] ≡ messages_between 0 0 log
    nothing_heard [] = refl
    nothing_heard (m ∷ log) = refl
heard_in_order a None None r = refl

-- ---- all the laws

packets_from : (seen : WorldSeen) (n : ℕ) → ∥ IsReachedIn seen n ∥₁ → (m p : ℕ) (ks : List Packet) → (IsReachedIn seen n → PacketsAreWithin m p ks) → PacketsAreWithin m p ks
packets_from seen n r m p [] f = tt
packets_from seen n r m p (k ∷ ks) f =
    (record { lo = ∥∥₁_elim r le_prop (λ h. (f h).0.lo); got = ∥∥₁_elim r le_prop (λ h. (f h).0.got); forgot = ∥∥₁_elim r le_prop (λ h. (f h).0.forgot) }, packets_from seen n r m p ks (λ h. (f h).1))

-- the links stand as they do
links_from : (seen : WorldSeen) (n : ℕ) (v : World) → ∥ IsReachedIn seen n ∥₁ → (IsReachedIn seen n → LinksStand v) → LinksStand v
links_from seen n v r f = record {
  current = λ y s a b. record {
    there = ∥∥₁_elim r le_prop (λ h. ((f h).current y s a b).there);
    receiver = ∥∥₁_elim r (ℕ_set _ _) (λ h. ((f h).current y s a b).receiver);
    sender = ∥∥₁_elim r (ℕ_set _ _) (λ h. ((f h).current y s a b).sender);
    since = ∥∥₁_elim r le_prop (λ h. ((f h).current y s a b).since);
    upto = ∥∥₁_elim r le_prop (λ h. ((f h).current y s a b).upto);
    goes_on = ∥∥₁_elim r (tests_set _ _) (λ h. ((f h).current y s a b).goes_on);
  };
  waits = λ y a. record {
    some = ∥∥₁_elim r (tests_set _ _) (λ h. ((f h).waits y a).some);
    opened = λ s b. ∥∥₁_elim r (ℕ_set _ _) (λ h. ((f h).waits y a).opened s b);
    first = λ s b. ∥∥₁_elim r (tests_set _ _) (λ h. ((f h).waits y a).first s b);
  };
  out = λ x o a b. record {
    there = ∥∥₁_elim r le_prop (λ h. ((f h).out x o a b).there);
    sender = ∥∥₁_elim r (ℕ_set _ _) (λ h. ((f h).out x o a b).sender);
    receiver = ∥∥₁_elim r (ℕ_set _ _) (λ h. ((f h).out x o a b).receiver);
    goes_on = ∥∥₁_elim r (endings_set _ _) (λ h. ((f h).out x o a b).goes_on);
  };
  nowhere = λ x a b. record {
    joined = ∥∥₁_elim r le_prop (λ h. ((f h).nowhere x a b).joined);
    version = ∥∥₁_elim r (ℕ_set _ _) (λ h. ((f h).nowhere x a b).version);
    none = λ s l is. ∥∥₁_elim r never_prop (λ h. ((f h).nowhere x a b).none s l is);
  };
  silent = λ x a. ∥∥₁_elim r (outs_set _ _) (λ h. (f h).silent x a);
  periods = record {
    sender = λ s l. ∥∥₁_elim r (ℕ_set _ _) (λ h. (f h).periods.sender s l);
    since = λ s l. ∥∥₁_elim r le_prop (λ h. (f h).periods.since s l);
    rising = λ i j a b c. ∥∥₁_elim r le_prop (λ h. (f h).periods.rising i j a b c);
    apart = λ i j a b c. ∥∥₁_elim r le_prop (λ h. (f h).periods.apart i j a b c);
  };
  longer = λ p a b. never_rises seen n r (longer_walk v p) (λ h. (f h).longer p a b);
  door = λ y s a b c d. record {
    untaken = ∥∥₁_elim r (tests_set _ _) (λ h. ((f h).door y s a b c d).untaken);
    some = ∥∥₁_elim r (tests_set _ _) (λ h. ((f h).door y s a b c d).some);
    lo = λ p e g. ∥∥₁_elim r le_prop (λ h. ((f h).door y s a b c d).lo p e g);
  };
  between_gone = λ y p a b. record {
    stands = ∥∥₁_elim r (tests_set _ _) (λ h. ((f h).between_gone y p a b).stands);
    gone = ∥∥₁_elim r (tests_set _ _) (λ h. ((f h).between_gone y p a b).gone);
  };
  retired = λ y p a b c d. ∥∥₁_elim r (ℕ_set _ _) (λ h. (f h).retired y p a b c d);
}

-- what is known of some run is known
lawful_from : (seen : WorldSeen) (n i : ℕ) (v : World) → ∥ IsReachedIn seen n ∥₁ → (IsReachedIn seen n → IsLawful i v) → IsLawful i v
lawful_from seen n i v r f = record {
  walks = λ origin some within. never_rises seen n r (the_walk v origin) (λ h. (f h).walks origin some within);
  no_gap = λ by y s p a b c d e g j. ∥∥₁_elim r le_prop (λ h. (f h).no_gap by y s p a b c d e g j);
  in_order = λ q p. ∥∥₁_elim r (lists_set _ _) (λ h. (f h).in_order q p);
  all_since = λ q p k a b. record {
    there = ∥∥₁_elim r le_prop (λ h. ((f h).all_since q p k a b).there);
    same = λ m. ∥∥₁_elim r (messages_set _ _) (λ h. ((f h).all_since q p k a b).same m);
  };
  heard = λ q p k a b c d e. record {
    there = ∥∥₁_elim r le_prop (λ h. ((f h).heard q p k a b c d e).there);
    same = λ m. ∥∥₁_elim r (messages_set _ _) (λ h. ((f h).heard q p k a b c d e).same m);
  };
  since = λ u y a b c. record {
    first = ∥∥₁_elim r le_prop (λ h. ((f h).since u y a b c).first);
    upto = ∥∥₁_elim r le_prop (λ h. ((f h).since u y a b c).upto);
    same = λ k d e. ∥∥₁_elim r (ℕ_set _ _) (λ h. ((f h).since u y a b c).same k d e);
    least = λ k d e. ∥∥₁_elim r le_prop (λ h. ((f h).since u y a b c).least k d e);
  };
  within = record {
    rows = λ q p. record { got = ∥∥₁_elim r le_prop (λ h. ((f h).within.rows q p).got); forgot = ∥∥₁_elim r le_prop (λ h. ((f h).within.rows q p).forgot); retired = ∥∥₁_elim r le_prop (λ h. ((f h).within.rows q p).retired) };
    packets = λ s p. packets_from seen n r (length (log_of v p)) p (link_at v s).packets (λ h. (f h).within.packets s p);
    sent = λ s p. record { lo = ∥∥₁_elim r le_prop (λ h. ((f h).within.sent s p).lo); got = ∥∥₁_elim r le_prop (λ h. ((f h).within.sent s p).got); forgot = ∥∥₁_elim r le_prop (λ h. ((f h).within.sent s p).forgot) };
    had = λ s p. record { lo = ∥∥₁_elim r le_prop (λ h. ((f h).within.had s p).lo); got = ∥∥₁_elim r le_prop (λ h. ((f h).within.had s p).got); forgot = ∥∥₁_elim r le_prop (λ h. ((f h).within.had s p).forgot) };
  };
  own = λ p a. ∥∥₁_elim r (ℕ_set _ _) (λ h. (f h).own p a);
  confirmed = record {
    up = λ q p a b c. ∥∥₁_elim r le_prop (λ h. (f h).confirmed.up q p a b c);
    waits = λ q p s a b c d. ∥∥₁_elim r le_prop (λ h. (f h).confirmed.waits q p s a b c d);
  };
  credit = λ s l. record {
    kept = ∥∥₁_elim r (ℕ_set _ _) (λ h. ((f h).credit s l).kept);
    few = ∥∥₁_elim r le_prop (λ h. ((f h).credit s l).few);
    whole = ∥∥₁_elim r (ℕ_set _ _) (λ h. ((f h).credit s l).whole);
  };
  erased = λ p a b c. agreed_from seen n v p r (λ h. (f h).erased p a b c);
  joins = record {
    base = λ q p. ∥∥₁_elim r le_prop (λ h. (f h).joins.base q p);
    born = λ q p. ∥∥₁_elim r le_prop (λ h. (f h).joins.born q p);
    first = λ q p s a b. ∥∥₁_elim r le_prop (λ h. (f h).joins.first q p s a b);
  };
  links = links_from seen n v r (λ h. (f h).links);
}

-- and the copies keep their credit
copies_from : (seen : WorldSeen) (n i : ℕ) (W : CopyWorld) → ∥ IsReachedIn seen n ∥₁ → (IsReachedIn seen n → CopiesKeepCredit i W) → CopiesKeepCredit i W
copies_from seen n i W r f k l = record {
  kept = ∥∥₁_elim r (ℕ_set _ _) (λ h. (f h k l).kept);
  few = ∥∥₁_elim r le_prop (λ h. (f h k l).few);
  within = ∥∥₁_elim r le_prop (λ h. (f h k l).within);
  whole = ∥∥₁_elim r (ℕ_set _ _) (λ h. (f h k l).whole);
  held_whole = λ a b. ∥∥₁_elim r le_prop (λ h. (f h k l).held_whole a b);
  waits = λ a b c. (∥∥₁_elim r (tests_set _ _) (λ h. ((f h k l).waits a b c).0), ∥∥₁_elim r le_prop (λ h. ((f h k l).waits a b c).1));
}

reached_lawful : (seen : WorldSeen) (n : ℕ) → IsReachedIn seen n → IsLawfulWithCopies seen.ring.initial (with_copies seen)
reached_lawful seen n r =
    let k : RingRuns (without_copies (opening r.credit r.names)) (map sort_of r.events) = reached_runs seen n r in
    let same : seen.ring.initial ≡ r.credit.initial = ap (λ (w : World). w.initial) (sym (reached_ring seen n r)) ∙ (run_credited r.credit r.names k.acts r.are k.run).initial_is in
    subst (λ i. IsLawfulWithCopies i (with_copies seen)) (sym same) (reached_laws seen n r)

-- and so is the state after one more event
pub lawful_more : (seen : WorldSeen) (W : CopyWorld) (n : ℕ) (e : Event) → ∥ IsReachedIn seen n ∥₁ → refusal (with_copies seen) e ≡ None → W ≡ effect (with_copies seen) e → IsLawfulWithCopies W.ring.initial W
lawful_more seen W n e r x is =
    let after : WorldSeen = record { ring = W.ring; copies = W.copies; refusals = seen.refusals ++ refusals_of (e ∷ []) } in
    let held : IsReachedIn seen n → IsLawfulWithCopies W.ring.initial W = λ h. reached_lawful after (n + 1) (reached_more seen after n (n + 1) e h x is refl refl) in
    record { ring = lawful_from seen n W.ring.initial W.ring r (λ h. (held h).ring); credit = copies_from seen n W.ring.initial W r (λ h. (held h).credit) }

-- ---- names

places_set : (p q : Option ℕ) → IsProp (p ≡ q)
places_set p q = hlevel props

reached_found : (seen : WorldSeen) (n x : ℕ) → 1 ≤ x → x < size seen.ring → IsReachedIn seen n → id_of seen.ring (member_at seen.ring x).name ≡ Some x
reached_found seen n x some lt r =
    let k : RingRuns (without_copies (opening r.credit r.names)) (map sort_of r.events) = reached_runs seen n r in
    named_found seen.ring x (subst AreNamed (reached_ring seen n r) (reached_named r.credit r.names k.acts r.are k.run)) some lt

-- each member is the one that its name finds
pub name_found : (a : Inside) (x : ℕ) → IsRunning a → 1 ≤ x → x < size (state_of a) → id_of (state_of a) (member_at (state_of a) x).name ≡ Some x
name_found a x r some lt = ∥∥₁_elim r.reached (places_set _ _) (reached_found (seen_of a) a.applied x some lt)
