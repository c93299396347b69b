-- The merge keeps each log, and its times never fall.
use Rattle.std.proofs.Common.{◌≡◌, ◌≢◌, ⊎_elim, ℕ, ◌<◌, ◌≤◌, Bool, true, false, cond, nat_lt, nat_eq, List, [], ◌∷◌, ◌++◌, map, refl, sym, ap, subst, ◌∙◌, arith}
use Rattle.std.specs.Prelude.{◌&&◌, ◌||◌}
use Rattle.std.specs.List.{flat_map}
use Rattle.std.proofs.lemmas.Bool.{ltb-true, ltb-false, eqb-true, le-ltb, eq-eqb, ne_eqb, false≢true, or_parts, cases_eq}
use Rattle.lamport_merge.specs.Merge.{Entry, Log, is_before, inserted, in_order, entries_of, entries_in, merged, own, RiseAbove, NeverFall, IsNoneOf, AreLogs, KeepsEach}

module _ {E : Type 0} where
  -- what stands before something is of no later time
  pub before_time : (a b : Entry E) → is_before a b ≡ true → a.time ≤ b.time
  before_time a b e = by_case (nat_lt a.time b.time) refl (nat_eq a.time b.time) refl e
    where
      by_case : (c : Bool) → nat_lt a.time b.time ≡ c → (d : Bool) → nat_eq a.time b.time ≡ d → (c || (d && nat_lt a.party b.party)) ≡ true → a.time ≤ b.time
      by_case true ec d ed k = let l : a.time < b.time = ltb-true a.time b.time ec in omega (arith, l)
      by_case false ec true ed k = let l : a.time ≡ b.time = eqb-true a.time b.time ed in omega (arith, l)
      by_case false ec false ed k = absurd (false≢true k)

  -- what doesn't is of no earlier one
  not_before_time : (a b : Entry E) → is_before a b ≡ false → b.time ≤ a.time
  not_before_time a b e = ltb-false a.time b.time (or_parts (nat_lt a.time b.time) _ e).0

  -- what is of a later time doesn't stand before something
  pub later_not_before : (a b : Entry E) → b.time < a.time → is_before a b ≡ false
  later_not_before a b lt =
      let c : nat_lt a.time b.time ≡ false = le-ltb a.time b.time (omega (arith, lt)) in
      let d : nat_eq a.time b.time ≡ false = ne_eqb a.time b.time (λ e. absurd (omega (arith, e, lt))) in
      ap (λ z. z || (nat_eq a.time b.time && nat_lt a.party b.party)) c ∙ ap (λ z. z && nat_lt a.party b.party) d

  -- ---- times

  inserted_falls : (low : ℕ) (e : Entry E) (es : List (Entry E)) → low ≤ e.time → NeverFall low es → NeverFall low (inserted e es)
  inserted_falls low e [] l h = (l, tt)
  inserted_falls low e (f ∷ fs) l h = by_case (λ k. inserted_falls f.time e fs k h.1) (is_before f e) refl
    where
      by_case : (f.time ≤ e.time → NeverFall f.time (inserted e fs)) → (b : Bool) → is_before f e ≡ b → NeverFall low (cond b (f ∷ inserted e fs) (e ∷ f ∷ fs))
      by_case later true c = (h.0, later (before_time f e c))
      by_case later false c = (l, (not_before_time f e c, h.1))

  pub in_order_falls : (es : List (Entry E)) → NeverFall 0 (in_order es)
  in_order_falls [] = tt
  in_order_falls (e ∷ es) = inserted_falls 0 e (in_order es) (omega arith) (in_order_falls es)

  -- ---- the entries of one party

  -- one of another party
  pub own_past : (p : ℕ) (e : Entry E) (es : List (Entry E)) → e.party ≢ p → own p (e ∷ es) ≡ own p es
  own_past p e es ne = ap (λ b. cond b ((e.time, e.event) ∷ own p es) (own p es)) (ne_eqb e.party p ne)

  pub own_here : (p : ℕ) (e : Entry E) (es : List (Entry E)) → e.party ≡ p → own p (e ∷ es) ≡ (e.time, e.event) ∷ own p es
  own_here p e es is = ap (λ b. cond b ((e.time, e.event) ∷ own p es) (own p es)) (eq-eqb e.party p is)

  own_inserted_other : (p : ℕ) (e : Entry E) (es : List (Entry E)) → e.party ≢ p → own p (inserted e es) ≡ own p es
  own_inserted_other p e [] ne = own_past p e [] ne
  own_inserted_other p e (f ∷ fs) ne = by_case (own_inserted_other p e fs ne) (is_before f e)
    where
      by_case : own p (inserted e fs) ≡ own p fs → (b : Bool) → own p (cond b (f ∷ inserted e fs) (e ∷ f ∷ fs)) ≡ own p (f ∷ fs)
      by_case later true = ap (λ xs. cond (nat_eq f.party p) ((f.time, f.event) ∷ xs) xs) later
      by_case later false = own_past p e (f ∷ fs) ne

  own_inserted : (p : ℕ) (e : Entry E) (es : List (Entry E)) → e.party ≡ p → RiseAbove e.time (own p es) → own p (inserted e es) ≡ (e.time, e.event) ∷ own p es
  own_inserted p e [] is h = own_here p e [] is
  own_inserted p e (f ∷ fs) is h = ⊎_elim mine (another (own_inserted p e fs is)) (cases_eq f.party p)
    where
      mine : f.party ≡ p → own p (inserted e (f ∷ fs)) ≡ (e.time, e.event) ∷ own p (f ∷ fs)
      mine same =
          let rises : RiseAbove e.time ((f.time, f.event) ∷ own p fs) = subst (RiseAbove e.time) (own_here p f fs same) h in
          ap (λ b. own p (cond b (f ∷ inserted e fs) (e ∷ f ∷ fs))) (later_not_before f e rises.0) ∙ own_here p e (f ∷ fs) is

      by_case : (RiseAbove e.time (own p fs) → own p (inserted e fs) ≡ (e.time, e.event) ∷ own p fs) → f.party ≢ p → (b : Bool) → own p (cond b (f ∷ inserted e fs) (e ∷ f ∷ fs)) ≡ (e.time, e.event) ∷ own p (f ∷ fs)
      by_case later ne true = own_past p f (inserted e fs) ne ∙ later (subst (RiseAbove e.time) (own_past p f fs ne) h) ∙ ap (λ xs. (e.time, e.event) ∷ xs) (sym (own_past p f fs ne))
      by_case later ne false = own_here p e (f ∷ fs) is

      another : (RiseAbove e.time (own p fs) → own p (inserted e fs) ≡ (e.time, e.event) ∷ own p fs) → f.party ≢ p → own p (inserted e (f ∷ fs)) ≡ (e.time, e.event) ∷ own p (f ∷ fs)
      another later ne = by_case later ne (is_before f e)

  -- a log of the party, before entries of others
  pub own_log : (p low : ℕ) (es : List (ℕ × E)) (rest : List (Entry E)) → RiseAbove low es → own p (in_order rest) ≡ [] → own p (in_order (entries_of p es ++ rest)) ≡ es
  own_log p low [] rest h none = none
  own_log p low ((t, v) ∷ es) rest h none =
      let later : own p (in_order (entries_of p es ++ rest)) ≡ es = own_log p t es rest h.1 none in
      own_inserted p (record { time = t; party = p; event = v }) (in_order (entries_of p es ++ rest)) refl (subst (RiseAbove t) (sym later) h.1)
      ∙ ap (λ xs. (t, v) ∷ xs) later

  -- a log of another
  pub own_other : (p q : ℕ) (es : List (ℕ × E)) (rest : List (Entry E)) → q ≢ p → own p (in_order (entries_of q es ++ rest)) ≡ own p (in_order rest)
  own_other p q [] rest ne = refl
  own_other p q ((t, v) ∷ es) rest ne = own_inserted_other p (record { time = t; party = q; event = v }) (in_order (entries_of q es ++ rest)) ne ∙ own_other p q es rest ne

  -- no entry is of a party that has no log
  pub own_none : (p : ℕ) (logs : List (Log E)) → IsNoneOf p logs → own p (merged logs) ≡ []
  own_none p [] h = refl
  own_none p (l ∷ ls) h = own_other p l.party l.entries (flat_map entries_in ls) h.0 ∙ own_none p ls h.1

  keeps_more : (l : Log E) (ls others : List (Log E)) → IsNoneOf l.party others → KeepsEach others (merged ls) → KeepsEach others (merged (l ∷ ls))
  keeps_more l ls [] ne h = tt
  keeps_more l ls (o ∷ os) ne h = (own_other o.party l.party l.entries (flat_map entries_in ls) (λ e. ne.0 (sym e)) ∙ h.0, keeps_more l ls os ne.1 h.1)

  pub keeps_each : (logs : List (Log E)) → AreLogs logs → KeepsEach logs (merged logs)
  keeps_each [] h = tt
  keeps_each (l ∷ ls) h = (own_log l.party 0 l.entries (flat_map entries_in ls) h.0 (own_none l.party ls h.1), keeps_more l ls ls h.1 (keeps_each ls h.2))

  pub merged_falls : (logs : List (Log E)) → NeverFall 0 (merged logs)
  merged_falls logs = in_order_falls (flat_map entries_in logs)

  -- ---- the least comes first

  -- it stands before all of these
  abbrev pub IsFirst : Entry E → List (Entry E) → Type 0
  IsFirst x [] = Unit {0}
  IsFirst x (e ∷ es) = (is_before x e ≡ true) × IsFirst x es

  first_inserted : (x e : Entry E) (es : List (Entry E)) → is_before x e ≡ true → IsFirst x es → IsFirst x (inserted e es)
  first_inserted x e [] k h = (k, tt)
  first_inserted x e (f ∷ fs) k h = by_case (first_inserted x e fs k h.1) (is_before f e)
    where
      by_case : IsFirst x (inserted e fs) → (b : Bool) → IsFirst x (cond b (f ∷ inserted e fs) (e ∷ f ∷ fs))
      by_case later true = (h.0, later)
      by_case later false = (k, h)

  first_in_order : (x : Entry E) (es : List (Entry E)) → IsFirst x es → IsFirst x (in_order es)
  first_in_order x [] h = tt
  first_in_order x (e ∷ es) h = first_inserted x e (in_order es) h.0 (first_in_order x es h.1)

  -- of two one alone stands before the other
  not_back : (a b : Entry E) → is_before a b ≡ true → is_before b a ≡ false
  not_back a b e = by_case (nat_lt a.time b.time) refl (nat_eq a.time b.time) refl e
    where
      never : (b : Bool) → (b && false) ≡ false
      never true = refl
      never false = refl

      by_case : (c : Bool) → nat_lt a.time b.time ≡ c → (d : Bool) → nat_eq a.time b.time ≡ d → (c || (d && nat_lt a.party b.party)) ≡ true → is_before b a ≡ false
      by_case true ec d ed k = later_not_before b a (ltb-true a.time b.time ec)
      by_case false ec true ed k =
          let same : a.time ≡ b.time = eqb-true a.time b.time ed in
          let less : a.party < b.party = ltb-true a.party b.party k in
          let c : nat_lt b.time a.time ≡ false = le-ltb b.time a.time (omega (arith, same)) in
          let d : nat_lt b.party a.party ≡ false = le-ltb b.party a.party (omega (arith, less)) in
          ap (λ z. z || (nat_eq b.time a.time && nat_lt b.party a.party)) c ∙ ap (λ z. nat_eq b.time a.time && z) d ∙ never (nat_eq b.time a.time)
      by_case false ec false ed k = absurd (false≢true k)

  inserted_first : (x : Entry E) (es : List (Entry E)) → IsFirst x es → inserted x es ≡ x ∷ es
  inserted_first x [] h = refl
  inserted_first x (e ∷ es) h = ap (λ b. cond b (e ∷ inserted x es) (x ∷ e ∷ es)) (not_back x e h.0)

  pub least_first : (x : Entry E) (before behind : List (Entry E)) → IsFirst x before → IsFirst x behind → in_order (before ++ x ∷ behind) ≡ x ∷ in_order (before ++ behind)
  least_first x [] behind h k = inserted_first x (in_order behind) (first_in_order x behind k)
  least_first x (a ∷ es) behind h k =
      ap (inserted a) (least_first x es behind h.1 k)
      ∙ ap (λ b. cond b (x ∷ inserted a (in_order (es ++ behind))) (a ∷ x ∷ in_order (es ++ behind))) h.0

-- ---- less of what happened

module _ {D E : Type 0} (f : D → E) where
  -- the same entry, by what is made of what happened
  abbrev pub strip : Entry D → Entry E
  strip e = record { time = e.time; party = e.party; event = f e.event }

  strip_inserted : (e : Entry D) (es : List (Entry D)) → map strip (inserted e es) ≡ inserted (strip e) (map strip es)
  strip_inserted e [] = refl
  strip_inserted e (d ∷ ds) = by_case (strip_inserted e ds) (is_before d e)
    where
      by_case : map strip (inserted e ds) ≡ inserted (strip e) (map strip ds) → (b : Bool) → map strip (cond b (d ∷ inserted e ds) (e ∷ d ∷ ds)) ≡ cond b (strip d ∷ inserted (strip e) (map strip ds)) (strip e ∷ strip d ∷ map strip ds)
      by_case later true = ap (λ xs. strip d ∷ xs) later
      by_case later false = refl

  pub strip_in_order : (es : List (Entry D)) → map strip (in_order es) ≡ in_order (map strip es)
  strip_in_order [] = refl
  strip_in_order (e ∷ es) = strip_inserted e (in_order es) ∙ ap (inserted (strip e)) (strip_in_order es)
