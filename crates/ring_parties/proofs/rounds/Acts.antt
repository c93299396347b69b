-- What is done to one link, in the order of a merge.
use Rattle.std.proofs.Common.{◌≡◌, ◌≢◌, ℕ, ◌<◌, ◌≤◌, cond, List, [], ◌∷◌, ◌++◌, refl, sym, ap, subst, ◌∙◌, arith, append_assoc, append-nil}
use Rattle.std.proofs.lemmas.Bool.{eq-eqb, ne_eqb}
use Rattle.ring_parties.specs.RoundActs.{Stamped, Act, push, pop, things, early, acts_at, timed, puts, takes}

module _ {X : Type 0} where
  -- a link that holds q holds r after these acts
  abbrev pub Replays : List (Stamped X) → List (ℕ × Act X) → List (Stamped X) → Type 0
  Replays q [] r = r ≡ q
  Replays q ((t, push x) ∷ m) r = Replays (q ++ x ∷ []) m r
  Replays [] ((t, pop x) ∷ m) r = ⊥
  Replays (y ∷ q) ((t, pop x) ∷ m) r = (x ≡ y) × Replays q m r

  -- the times never fall, and are at least the first one given
  abbrev pub Rises : ℕ → List (ℕ × Act X) → Type 0
  Rises low [] = Unit {0}
  Rises low ((t, a) ∷ m) = (low ≤ t) × Rises t m

  -- a thing is put under a stamp of its entry's time or a later one, and taken later than its stamp
  abbrev pub AreStamped : List (ℕ × Act X) → Type 0
  AreStamped [] = Unit {0}
  AreStamped ((t, push x) ∷ m) = (t ≤ x.stamp) × AreStamped m
  AreStamped ((t, pop x) ∷ m) = (x.stamp < t) × AreStamped m

  -- nothing that is put later has an earlier stamp
  put_late : (low : ℕ) (m : List (ℕ × Act X)) (x : Stamped X) (z : List (Stamped X)) → Rises low m → AreStamped m → puts m ≡ x ∷ z → low ≤ x.stamp
  put_late low [] x z r s e = cc
  put_late low ((t, push y) ∷ m) x z r s e =
      let h : y ≡ x = cc in
      let k : y.stamp ≡ x.stamp = ap (λ (a : Stamped X). a.stamp) h in
      omega (arith, r.0, s.0, k)
  put_late low ((t, pop y) ∷ m) x z r s e =
      let h = put_late t m x z r.1 s.1 e in omega (arith, r.0, h)

  -- Acts in the order of time, each taking later than the stamp of what it takes, replay on the link where what is taken is the beginning of
  -- what it held and what was put.
  pub link_replays : (low : ℕ) (q : List (Stamped X)) (m : List (ℕ × Act X)) (r : List (Stamped X)) → Rises low m → AreStamped m → q ++ puts m ≡ takes m ++ r → Replays q m r
  link_replays low q [] r h s e = sym e ∙ append-nil q
  link_replays low q ((t, push x) ∷ m) r h s e = link_replays t (q ++ x ∷ []) m r h.1 s.1 (append_assoc q (x ∷ []) (puts m) ∙ e)
  link_replays low [] ((t, pop x) ∷ m) r h s e =
      let g = put_late t m x (takes m ++ r) h.1 s.1 e in absurd (omega (arith, g, s.0))
  link_replays low (y ∷ q) ((t, pop x) ∷ m) r h s e = (cc, link_replays t q m r h.1 s.1 cc)

  -- those of two parts, one after the other
  pub replays_parts : (q : List (Stamped X)) (m n : List (ℕ × Act X)) (r : List (Stamped X)) → Replays q (m ++ n) r → (w : List (Stamped X)) × Replays q m w × Replays w n r
  replays_parts q [] n r h = (q, refl, h)
  replays_parts q ((t, push x) ∷ m) n r h = replays_parts (q ++ x ∷ []) m n r h
  replays_parts [] ((t, pop x) ∷ m) n r h = absurd h
  replays_parts (y ∷ q) ((t, pop x) ∷ m) n r h = let g = replays_parts q m n r h.1 in (g.0, (h.0, g.1), g.2)

  -- ---- one act

  -- at its place
  pub at_same : (s : ℕ) (a : Act X) → acts_at s ((s, a) ∷ []) ≡ a ∷ []
  at_same s a = ap (λ b. cond b (a ∷ []) []) (eq-eqb s s refl)

  -- and elsewhere
  pub at_other : (s k : ℕ) (a : Act X) → k ≢ s → acts_at k ((s, a) ∷ []) ≡ []
  at_other s k a ne = ap (λ b. cond b (a ∷ []) []) (ne_eqb s k (λ e. ne (sym e)))

  -- nothing is done to a link
  pub none_done : (t k : ℕ) (did : List (ℕ × Act X)) (q r : List (Stamped X)) → did ≡ [] → Replays q (timed t (acts_at k did)) r → r ≡ q
  none_done t k did q r e h = subst (λ (more : List (ℕ × Act X)). Replays q (timed t (acts_at k more)) r) e h

  -- one act is done to another
  pub done_other : (t s k : ℕ) (a : Act X) (did : List (ℕ × Act X)) (q r : List (Stamped X)) → did ≡ (s, a) ∷ [] → k ≢ s → Replays q (timed t (acts_at k did)) r → r ≡ q
  done_other t s k a did q r e ne h = subst (λ (more : List (Act X)). Replays q (timed t more) r) (ap (acts_at k) e ∙ at_other s k a ne) h

  -- a thing is put on it
  pub pushed_there : (t s : ℕ) (x : Stamped X) (did : List (ℕ × Act X)) (q r : List (Stamped X)) → did ≡ (s, push x) ∷ [] → Replays q (timed t (acts_at s did)) r → r ≡ q ++ x ∷ []
  pushed_there t s x did q r e h = subst (λ (more : List (Act X)). Replays q (timed t more) r) (ap (acts_at s) e ∙ at_same s (push x)) h

  -- the first one is taken
  popped_one : (t : ℕ) (x : Stamped X) (q r : List (Stamped X)) → Replays q ((t, pop x) ∷ []) r → q ≡ x ∷ r
  popped_one t x [] r h = absurd h
  popped_one t x (y ∷ q) r h = ap (λ z. z ∷ q) (sym h.0) ∙ ap (λ zs. x ∷ zs) (sym h.1)

  pub popped_there : (t s : ℕ) (x : Stamped X) (did : List (ℕ × Act X)) (q r : List (Stamped X)) → did ≡ (s, pop x) ∷ [] → Replays q (timed t (acts_at s did)) r → q ≡ x ∷ r
  popped_there t s x did q r e h = popped_one t x q r (subst (λ (more : List (Act X)). Replays q (timed t more) r) (ap (acts_at s) e ∙ at_same s (pop x)) h)

  -- ---- things

  -- one more
  pub things-push : (q : List (Stamped X)) (x : Stamped X) → things (q ++ x ∷ []) ≡ things q ++ x.it ∷ []
  things-push [] x = refl
  things-push (y ∷ q) x = ap (λ zs. y.it ∷ zs) (things-push q x)

  -- those of earlier rounds
  pub things-early : (xs : List X) → things (early xs) ≡ xs
  things-early [] = refl
  things-early (x ∷ xs) = ap (λ ys. x ∷ ys) (things-early xs)

  -- ---- acts of more entries

  -- what they put
  pub puts-append : (m n : List (ℕ × Act X)) → puts (m ++ n) ≡ puts m ++ puts n
  puts-append [] n = refl
  puts-append ((t, push x) ∷ m) n = ap (λ zs. x ∷ zs) (puts-append m n)
  puts-append ((t, pop x) ∷ m) n = puts-append m n

  -- what they take
  pub takes-append : (m n : List (ℕ × Act X)) → takes (m ++ n) ≡ takes m ++ takes n
  takes-append [] n = refl
  takes-append ((t, push x) ∷ m) n = takes-append m n
  takes-append ((t, pop x) ∷ m) n = ap (λ zs. x ∷ zs) (takes-append m n)

  -- their stamps are right
  pub stamped-append : (m n : List (ℕ × Act X)) → AreStamped m → AreStamped n → AreStamped (m ++ n)
  stamped-append [] n a b = b
  stamped-append ((t, push x) ∷ m) n a b = (a.0, stamped-append m n a.1 b)
  stamped-append ((t, pop x) ∷ m) n a b = (a.0, stamped-append m n a.1 b)

  -- and those of one entry, before later ones
  pub rises-timed : (low t : ℕ) (xs : List (Act X)) (m : List (ℕ × Act X)) → low ≤ t → Rises t m → Rises low (timed t xs ++ m)
  rises-timed low t [] m l h = rises_from low t m l h
    where
      rises_from : (low t : ℕ) (m : List (ℕ × Act X)) → low ≤ t → Rises t m → Rises low m
      rises_from low t [] l h = tt
      rises_from low t ((u, a) ∷ m) l h = (omega (arith, l, h.0), h.1)
  rises-timed low t (a ∷ xs) m l h = (l, rises-timed t t xs m (omega arith) h)
