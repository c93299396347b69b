-- What the entries of a member's log do to links: those on which it sends, and those from which it takes.
use Rattle.std.proofs.Common.{◌≡◌, ◌≢◌, ⊎_elim, ℕ, zero, suc, ◌+◌, ◌<◌, ◌≤◌, Bool, true, false, cond, List, [], ◌∷◌, ◌++◌, length, take, drop, get_or, Option, Some, None, refl, sym, ap, subst, ◌∙◌, arith}
use Rattle.std.specs.List.{flat_map, filter}
use Rattle.std.proofs.lemmas.Bool.{false≢true, cases_eq}
use Rattle.ring_rules.specs.declared.kind.LinkStep.TheVariants as step
use Rattle.ring_rules.specs.Kind.{Kind, Says, Steps, Copying, Changes, Stops, Reads, Tells, kind_of}
use Rattle.gm_member.specs.Held.{at_some}
use Rattle.ring_parties.specs.Acting.{due_of}
use Rattle.ring_parties.specs.RoundActs.{Stamped, Act, push, pop, acts_at, timed, puts, takes}
use Rattle.ring_parties.specs.Round.{Seat, Deed, Did, IsLocalRun}
use Rattle.ring_parties.proofs.rounds.Acts.{AreStamped, at_same, at_other}
use Rattle.ring_parties.proofs.rounds.Parts.{Each, IsStamped, item_puts, item_takes, grant_puts, grant_takes}

-- ---- what one act does to a link

module _ {X : Type 0} where
  -- whichever link it is
  pub at_one : (P : List (Act X) → Type 0) (s k : ℕ) (a : Act X) → P [] → P (a ∷ []) → P (acts_at k ((s, a) ∷ []))
  at_one P s k a none one = ⊎_elim
      (λ (is : k ≡ s). subst (λ i. P (acts_at i ((s, a) ∷ []))) (sym is) (subst P (sym (at_same s a)) one))
      (λ (ne : k ≢ s). subst P (sym (at_other s k a ne)) none)
      (cases_eq k s)

  -- the stamp of a push is right, and of a pop
  push_stamped : (t s k : ℕ) (x : Stamped X) (did : List (ℕ × Act X)) → did ≡ (s, push x) ∷ [] → t ≤ x.stamp → AreStamped (timed t (acts_at k did))
  push_stamped t s k x did e l = subst (λ (more : List (ℕ × Act X)). AreStamped (timed t (acts_at k more))) (sym e) (at_one (λ (acts : List (Act X)). AreStamped (timed t acts)) s k (push x) tt (l, tt))

  pop_stamped : (t s k : ℕ) (x : Stamped X) (did : List (ℕ × Act X)) → did ≡ (s, pop x) ∷ [] → x.stamp < t → AreStamped (timed t (acts_at k did))
  pop_stamped t s k x did e l = subst (λ (more : List (ℕ × Act X)). AreStamped (timed t (acts_at k more))) (sym e) (at_one (λ (acts : List (Act X)). AreStamped (timed t acts)) s k (pop x) tt (l, tt))

  -- where nothing is done, nothing is to be shown
  none_stamped : (t k : ℕ) (did : List (ℕ × Act X)) → did ≡ [] → AreStamped (timed t (acts_at k did))
  none_stamped t k did e = subst (λ (more : List (ℕ × Act X)). AreStamped (timed t (acts_at k more))) (sym e) tt

  -- it puts nothing elsewhere
  push_apart : (t s k : ℕ) (x : Stamped X) (did : List (ℕ × Act X)) → did ≡ (s, push x) ∷ [] → k ≢ s → puts (timed t (acts_at k did)) ≡ []
  push_apart t s k x did e ne = ap (λ acts. puts (timed t acts)) (ap (acts_at k) e ∙ at_other s k (push x) ne)

  -- a pop puts nothing
  pop_puts : (t s k : ℕ) (x : Stamped X) (did : List (ℕ × Act X)) → did ≡ (s, pop x) ∷ [] → puts (timed t (acts_at k did)) ≡ []
  pop_puts t s k x did e = subst (λ (more : List (ℕ × Act X)). puts (timed t (acts_at k more)) ≡ []) (sym e) (at_one (λ (acts : List (Act X)). puts (timed t acts) ≡ []) s k (pop x) refl refl)

  -- and a push takes nothing
  pub push_takes : (t s k : ℕ) (x : Stamped X) (did : List (ℕ × Act X)) → did ≡ (s, push x) ∷ [] → takes (timed t (acts_at k did)) ≡ []
  push_takes t s k x did e = subst (λ (more : List (ℕ × Act X)). takes (timed t (acts_at k more)) ≡ []) (sym e) (at_one (λ (acts : List (Act X)). takes (timed t acts) ≡ []) s k (push x) refl refl)

  -- a pop takes nothing elsewhere
  pub pop_apart : (t s k : ℕ) (x : Stamped X) (did : List (ℕ × Act X)) → did ≡ (s, pop x) ∷ [] → k ≢ s → takes (timed t (acts_at k did)) ≡ []
  pop_apart t s k x did e ne = ap (λ acts. takes (timed t acts)) (ap (acts_at k) e ∙ at_other s k (pop x) ne)

  -- and where nothing is done, nothing is put or taken
  none_puts : (t k : ℕ) (did : List (ℕ × Act X)) → did ≡ [] → puts (timed t (acts_at k did)) ≡ []
  none_puts t k did e = ap (λ more. puts (timed t (acts_at k more))) e

  pub none_takes : (t k : ℕ) (did : List (ℕ × Act X)) → did ≡ [] → takes (timed t (acts_at k did)) ≡ []
  none_takes t k did e = ap (λ more. takes (timed t (acts_at k more))) e

-- ---- whose a link is

-- none of these places is s
abbrev pub AllBut : ℕ → List ℕ → Type 0
AllBut s [] = Unit {0}
AllBut s (k ∷ ks) = (k ≢ s) × AllBut s ks

pub but_at : (s i : ℕ) (ks : List ℕ) → AllBut s ks → i < length ks → get_or ks i 0 ≢ s
but_at s i [] h l = absurd (omega (arith, l))
but_at s zero (k ∷ ks) h l = h.0
but_at s (suc i) (k ∷ ks) h l = but_at s i ks h.1 (omega (arith, l))

pub but_append : (s : ℕ) (ks js : List ℕ) → AllBut s ks → AllBut s js → AllBut s (ks ++ js)
but_append s [] js h g = g
but_append s (k ∷ ks) js h g = (h.0, but_append s ks js h.1 g)

pub but_first : (s : ℕ) (ks js : List ℕ) → AllBut s (ks ++ js) → AllBut s ks
but_first s [] js h = tt
but_first s (k ∷ ks) js h = (h.0, but_first s ks js h.1)

pub but_take : (s i : ℕ) (ks : List ℕ) → AllBut s ks → AllBut s (take i ks)
but_take s zero ks h = tt
but_take s (suc i) [] h = tt
but_take s (suc i) (k ∷ ks) h = (h.0, but_take s i ks h.1)

pub but_drop : (s i : ℕ) (ks : List ℕ) → AllBut s ks → AllBut s (drop i ks)
but_drop s zero ks h = h
but_drop s (suc i) [] h = tt
but_drop s (suc i) (k ∷ ks) h = but_drop s i ks h.1

pub but_filter : (s : ℕ) (t : ℕ → Bool) (ks : List ℕ) → t s ≡ false → AllBut s (filter t ks)
but_filter s t [] e = tt
but_filter s t (k ∷ ks) e = by_case (but_filter s t ks e) (t k) refl
  where
    by_case : AllBut s (filter t ks) → (b : Bool) → t k ≡ b → AllBut s (cond (t k) (k ∷ filter t ks) (filter t ks))
    by_case later true is = subst (λ c. AllBut s (cond c (k ∷ filter t ks) (filter t ks))) (sym is) ((λ (same : k ≡ s). false≢true (sym e ∙ ap t (sym same) ∙ is)), later)
    by_case later false is = subst (λ c. AllBut s (cond c (k ∷ filter t ks) (filter t ks))) (sym is) later

-- a member doesn't take from a link, and has it not at its door
abbrev pub IsApart : ℕ → Seat → Type 0
IsApart s m = (m.current ≢ Some s) × AllBut s m.door

-- ---- what a log does to links

-- the stamps of one entry are right
did_stamped : (s : ℕ) (kind : Kind) (t : ℕ) (d : Deed) (a b : Seat) → Did kind t d a b → AreStamped (timed t (acts_at s d.there)) × AreStamped (timed t (acts_at s d.back))
did_stamped s (Says y) t d a b (m, ok, says, is, none) = (none_stamped t s d.there none.0, none_stamped t s d.back none.1)
did_stamped s (Steps step.Put) t d a b (out, k, stamp, held_out, on, ok, after, is, there, back) = (push_stamped t k s _ d.there there after, none_stamped t s d.back back)
did_stamped s (Steps step.Take) t d a b (q, k, stamp, given, on, ok, later, after, is, there, back) = (pop_stamped t k s _ d.there there later, by_due (due_of a.held) back)
  where
    by_due : (due : Option ℕ) → d.back ≡ at_some due [] (λ g. (k, push (record { stamp = given; it = g })) ∷ []) → AreStamped (timed t (acts_at s d.back))
    by_due None e = none_stamped t s d.back e
    by_due (Some g) e = push_stamped t k s _ d.back e after
did_stamped s (Steps step.TakeEnd) t d a b (k, stamp, on, ok, later, is, there, back) = (pop_stamped t k s _ d.there there later, none_stamped t s d.back back)
did_stamped s (Steps step.Gain) t d a b (k, stamp, g, on, ok, later, is, there, back) = (none_stamped t s d.there there, pop_stamped t k s _ d.back back later)
did_stamped s Stops t d a b (stamp, ok, after, is, there, back) = (by_out a.out there, none_stamped t s d.back back)
  where
    by_out : (out : Option ℕ) → d.there ≡ at_some out [] (λ k. (k, push (record { stamp = stamp; it = None })) ∷ []) → AreStamped (timed t (acts_at s d.there))
    by_out None e = none_stamped t s d.there e
    by_out (Some k) e = push_stamped t k s _ d.there e after
did_stamped s (Steps step.Pick) t d a b (i, inside, first, ok, is, none) = (none_stamped t s d.there none.0, none_stamped t s d.back none.1)
did_stamped s (Tells code inner) t d a b (ok, is, none) = (none_stamped t s d.there none.0, none_stamped t s d.back none.1)
did_stamped s (Copying c) t d a b did = absurd did
did_stamped s (Changes c) t d a b did = absurd did
did_stamped s (Reads version) t d a b did = absurd did

pub local_stamped : (s : ℕ) (es : List (ℕ × Deed)) (a b : Seat) → IsLocalRun es a b → Each (IsStamped s) es
local_stamped s [] a b l = tt
local_stamped s (e ∷ es) a b (c, does, later) = (did_stamped s (kind_of e.1.event) e.0 e.1 a c does.1, local_stamped s es c b later)

-- a member sends on the link on which it did
did_out : (kind : Kind) (t : ℕ) (d : Deed) (a b : Seat) → Did kind t d a b → b.out ≡ a.out
did_out (Says y) t d a b (m, ok, says, is, none) = ap (λ (m : Seat). m.out) is
did_out (Steps step.Put) t d a b (out, k, stamp, held_out, on, ok, after, is, there, back) = ap (λ (m : Seat). m.out) is
did_out (Steps step.Take) t d a b (q, k, stamp, given, on, ok, later, after, is, there, back) = ap (λ (m : Seat). m.out) is
did_out (Steps step.TakeEnd) t d a b (k, stamp, on, ok, later, is, there, back) = ap (λ (m : Seat). m.out) is
did_out (Steps step.Gain) t d a b (k, stamp, g, on, ok, later, is, there, back) = ap (λ (m : Seat). m.out) is
did_out Stops t d a b (stamp, ok, after, is, there, back) = ap (λ (m : Seat). m.out) is
did_out (Steps step.Pick) t d a b (i, inside, first, ok, is, none) = ap (λ (m : Seat). m.out) is
did_out (Tells code inner) t d a b (ok, is, none) = ap (λ (m : Seat). m.out) is
did_out (Copying c) t d a b did = absurd did
did_out (Changes c) t d a b did = absurd did
did_out (Reads version) t d a b did = absurd did

-- another place
other_place : (s k : ℕ) (o : Option ℕ) → o ≢ Some s → o ≡ Some k → s ≢ k
other_place s k o ne e same = ne (e ∙ ap Some (sym same))

-- Who doesn't send on a link puts nothing there, and gains nothing.
did_sends : (s : ℕ) (kind : Kind) (t : ℕ) (d : Deed) (a b : Seat) → a.out ≢ Some s → Did kind t d a b → (puts (timed t (acts_at s d.there)) ≡ []) × (takes (timed t (acts_at s d.back)) ≡ [])
did_sends s (Says y) t d a b ne (m, ok, says, is, none) = (none_puts t s d.there none.0, none_takes t s d.back none.1)
did_sends s (Steps step.Put) t d a b ne (out, k, stamp, held_out, on, ok, after, is, there, back) = (push_apart t k s _ d.there there (other_place s k a.out ne on), none_takes t s d.back back)
did_sends s (Steps step.Take) t d a b ne (q, k, stamp, given, on, ok, later, after, is, there, back) = (pop_puts t k s _ d.there there, by_due (due_of a.held) back)
  where
    by_due : (due : Option ℕ) → d.back ≡ at_some due [] (λ g. (k, push (record { stamp = given; it = g })) ∷ []) → takes (timed t (acts_at s d.back)) ≡ []
    by_due None e = none_takes t s d.back e
    by_due (Some g) e = push_takes t k s _ d.back e
did_sends s (Steps step.TakeEnd) t d a b ne (k, stamp, on, ok, later, is, there, back) = (pop_puts t k s _ d.there there, none_takes t s d.back back)
did_sends s (Steps step.Gain) t d a b ne (k, stamp, g, on, ok, later, is, there, back) = (none_puts t s d.there there, pop_apart t k s _ d.back back (other_place s k a.out ne on))
did_sends s Stops t d a b ne (stamp, ok, after, is, there, back) = (by_out a.out ne there, none_takes t s d.back back)
  where
    by_out : (out : Option ℕ) → out ≢ Some s → d.there ≡ at_some out [] (λ k. (k, push (record { stamp = stamp; it = None })) ∷ []) → puts (timed t (acts_at s d.there)) ≡ []
    by_out None apart e = none_puts t s d.there e
    by_out (Some k) apart e = push_apart t k s _ d.there e (other_place s k (Some k) apart refl)
did_sends s (Steps step.Pick) t d a b ne (i, inside, first, ok, is, none) = (none_puts t s d.there none.0, none_takes t s d.back none.1)
did_sends s (Tells code inner) t d a b ne (ok, is, none) = (none_puts t s d.there none.0, none_takes t s d.back none.1)
did_sends s (Copying c) t d a b ne did = absurd did
did_sends s (Changes c) t d a b ne did = absurd did
did_sends s (Reads version) t d a b ne did = absurd did

both_none : {Y : Type 0} (xs ys : List Y) → xs ≡ [] → ys ≡ [] → xs ++ ys ≡ []
both_none xs ys e f = ap (λ zs. zs ++ ys) e ∙ f

pub local_sends : (s : ℕ) (es : List (ℕ × Deed)) (a b : Seat) → a.out ≢ Some s → IsLocalRun es a b → (flat_map (item_puts s) es ≡ []) × (flat_map (grant_takes s) es ≡ [])
local_sends s [] a b ne l = (refl, refl)
local_sends s (e ∷ es) a b ne (c, does, later) =
    let here = did_sends s (kind_of e.1.event) e.0 e.1 a c ne does.1 in
    let there = local_sends s es c b (λ (k : c.out ≡ Some s). ne (sym (did_out (kind_of e.1.event) e.0 e.1 a c does.1) ∙ k)) later in
    (both_none _ _ here.0 there.0, both_none _ _ here.1 there.1)

-- Who is apart from a link stays so.
did_apart : (s : ℕ) (kind : Kind) (t : ℕ) (d : Deed) (a b : Seat) → IsApart s a → Did kind t d a b → IsApart s b
did_apart s (Says y) t d a b h (m, ok, says, is, none) = subst (IsApart s) (sym is) h
did_apart s (Steps step.Put) t d a b h (out, k, stamp, held_out, on, ok, after, is, there, back) = subst (IsApart s) (sym is) h
did_apart s (Steps step.Take) t d a b h (q, k, stamp, given, on, ok, later, after, is, there, back) = subst (IsApart s) (sym is) h
did_apart s (Steps step.TakeEnd) t d a b h (k, stamp, on, ok, later, is, there, back) = subst (IsApart s) (sym is) ((λ (e : None ≡ Some s). cc), h.1)
did_apart s (Steps step.Gain) t d a b h (k, stamp, g, on, ok, later, is, there, back) = subst (IsApart s) (sym is) h
did_apart s Stops t d a b h (stamp, ok, after, is, there, back) = subst (IsApart s) (sym is) h
did_apart s (Steps step.Pick) t d a b h (i, inside, first, ok, is, none) = subst (IsApart s) (sym is) ((λ (e : Some (get_or a.door i 0) ≡ Some s). but_at s i a.door h.1 inside (let same : get_or a.door i 0 ≡ s = cc in same)), but_append s (take i a.door) (drop (i + 1) a.door) (but_take s i a.door h.1) (but_drop s (i + 1) a.door h.1))
did_apart s (Tells code inner) t d a b h (ok, is, none) = subst (IsApart s) (sym is) h
did_apart s (Copying c) t d a b h did = absurd did
did_apart s (Changes c) t d a b h did = absurd did
did_apart s (Reads version) t d a b h did = absurd did

pub local_apart : (s : ℕ) (es : List (ℕ × Deed)) (a b : Seat) → IsApart s a → IsLocalRun es a b → IsApart s b
local_apart s [] a b h l = subst (IsApart s) (sym l) h
local_apart s (e ∷ es) a b h (c, does, later) = local_apart s es c b (did_apart s (kind_of e.1.event) e.0 e.1 a c h does.1) later

-- It takes nothing there, and grants nothing.
did_takes : (s : ℕ) (kind : Kind) (t : ℕ) (d : Deed) (a b : Seat) → IsApart s a → Did kind t d a b → (takes (timed t (acts_at s d.there)) ≡ []) × (puts (timed t (acts_at s d.back)) ≡ [])
did_takes s (Says y) t d a b h (m, ok, says, is, none) = (none_takes t s d.there none.0, none_puts t s d.back none.1)
did_takes s (Steps step.Put) t d a b h (out, k, stamp, held_out, on, ok, after, is, there, back) = (push_takes t k s _ d.there there, none_puts t s d.back back)
did_takes s (Steps step.Take) t d a b h (q, k, stamp, given, on, ok, later, after, is, there, back) = (pop_apart t k s _ d.there there (other_place s k a.current h.0 on), by_due (due_of a.held) back)
  where
    by_due : (due : Option ℕ) → d.back ≡ at_some due [] (λ g. (k, push (record { stamp = given; it = g })) ∷ []) → puts (timed t (acts_at s d.back)) ≡ []
    by_due None e = none_puts t s d.back e
    by_due (Some g) e = push_apart t k s _ d.back e (other_place s k a.current h.0 on)
did_takes s (Steps step.TakeEnd) t d a b h (k, stamp, on, ok, later, is, there, back) = (pop_apart t k s _ d.there there (other_place s k a.current h.0 on), none_puts t s d.back back)
did_takes s (Steps step.Gain) t d a b h (k, stamp, g, on, ok, later, is, there, back) = (none_takes t s d.there there, pop_puts t k s _ d.back back)
did_takes s Stops t d a b h (stamp, ok, after, is, there, back) = (by_out a.out there, none_puts t s d.back back)
  where
    by_out : (out : Option ℕ) → d.there ≡ at_some out [] (λ k. (k, push (record { stamp = stamp; it = None })) ∷ []) → takes (timed t (acts_at s d.there)) ≡ []
    by_out None e = none_takes t s d.there e
    by_out (Some k) e = push_takes t k s _ d.there e
did_takes s (Steps step.Pick) t d a b h (i, inside, first, ok, is, none) = (none_takes t s d.there none.0, none_puts t s d.back none.1)
did_takes s (Tells code inner) t d a b h (ok, is, none) = (none_takes t s d.there none.0, none_puts t s d.back none.1)
did_takes s (Copying c) t d a b h did = absurd did
did_takes s (Changes c) t d a b h did = absurd did
did_takes s (Reads version) t d a b h did = absurd did

pub local_takes : (s : ℕ) (es : List (ℕ × Deed)) (a b : Seat) → IsApart s a → IsLocalRun es a b → (flat_map (item_takes s) es ≡ []) × (flat_map (grant_puts s) es ≡ [])
local_takes s [] a b h l = (refl, refl)
local_takes s (e ∷ es) a b h (c, does, later) =
    let here = did_takes s (kind_of e.1.event) e.0 e.1 a c h does.1 in
    let there = local_takes s es c b (did_apart s (kind_of e.1.event) e.0 e.1 a c h does.1) later in
    (both_none _ _ here.0 there.0, both_none _ _ here.1 there.1)
