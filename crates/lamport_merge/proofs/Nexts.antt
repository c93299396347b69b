-- What comes next in a merge: the first entry of some log.
use Rattle.std.proofs.Common.{◌≡◌, ◌≢◌, ◌⊎◌, inl, inr, ⊎_elim, ℕ, zero, suc, ◌<◌, ◌≤◌, ◌+◌, Bool, true, false, nat_lt, nat_eq, List, [], ◌∷◌, ◌++◌, length, drop, set, get_or, refl, sym, ap, subst, ◌∙◌, arith, append_assoc}
use Rattle.std.specs.Prelude.{◌&&◌, ◌||◌, slice_get, Some}
use Rattle.std.specs.List.{flat_map}
use Rattle.std.proofs.lemmas.Bool.{cases_lt, ltb-true, ltb-false, eqb-true, lt-ltb, eq-eqb, false≢true, or_parts}
use Rattle.std.proofs.lemmas.List.{length-append, drop-drop, drop_more, drop_all}
use Rattle.std.proofs.lemmas.Option.{slice_get_within, get_or_from_slice_get}
use Rattle.lamport_merge.specs.Merge.{Entry, Log, is_before, in_order, entries_of, entries_in, merged, RiseAbove, IsNoneOf, AreLogs}
use Rattle.lamport_merge.specs.Next.{rests, IsBehind, AllBehind, NothingIsLeft, IsFirstAt, dropped}
use Rattle.lamport_merge.proofs.Merging.{before_time, IsFirst, least_first}

module _ {E : Type 0} where
  -- ---- the order

  sooner_before : (a b : Entry E) → a.time < b.time → is_before a b ≡ true
  sooner_before a b l = ap (λ c. c || (nat_eq a.time b.time && nat_lt a.party b.party)) (lt-ltb a.time b.time l)

  same_before : (a b : Entry E) → a.time ≡ b.time → a.party < b.party → is_before a b ≡ true
  same_before a b e l =
      ap (λ c. nat_lt a.time b.time || (c && nat_lt a.party b.party)) (eq-eqb a.time b.time e) ∙ ap (λ c. nat_lt a.time b.time || c) (lt-ltb a.party b.party l) ∙ always (nat_lt a.time b.time)
    where
      always : (c : Bool) → (c || true) ≡ true
      always true = refl
      always false = refl

  -- how one stands before another
  before_how : (a b : Entry E) → is_before a b ≡ true → (a.time < b.time) ⊎ ((a.time ≡ b.time) × (a.party < b.party))
  before_how a b e = by_case (nat_lt a.time b.time) refl (nat_eq a.time b.time) refl e
    where
      by_case : (c : Bool) → nat_lt a.time b.time ≡ c → (d : Bool) → nat_eq a.time b.time ≡ d → (c || (d && nat_lt a.party b.party)) ≡ true → (a.time < b.time) ⊎ ((a.time ≡ b.time) × (a.party < b.party))
      by_case true ec d ed k = inl (ltb-true a.time b.time ec)
      by_case false ec true ed k = inr (eqb-true a.time b.time ed, ltb-true a.party b.party k)
      by_case false ec false ed k = absurd (false≢true k)

  before_trans : (a b c : Entry E) → is_before a b ≡ true → is_before b c ≡ true → is_before a c ≡ true
  before_trans a b c e f = by_how (before_how a b e) (before_how b c f)
    where
      by_how : (a.time < b.time) ⊎ ((a.time ≡ b.time) × (a.party < b.party)) → (b.time < c.time) ⊎ ((b.time ≡ c.time) × (b.party < c.party)) → is_before a c ≡ true
      by_how (inl l) (inl m) = sooner_before a c (omega (arith, l, m))
      by_how (inl l) (inr m) = sooner_before a c (omega (arith, l, m.0))
      by_how (inr l) (inl m) = sooner_before a c (omega (arith, l.0, m))
      by_how (inr l) (inr m) = same_before a c (l.0 ∙ m.0) (omega (arith, l.1, m.1))

  -- of two parties one stands before the other
  before_back : (a b : Entry E) → a.party ≢ b.party → is_before a b ≡ false → is_before b a ≡ true
  before_back a b ne e = by_time (cases_lt b.time a.time)
    where
      not_sooner : b.time ≤ a.time
      not_sooner = ltb-false a.time b.time (or_parts (nat_lt a.time b.time) _ e).0

      by_party : a.time ≡ b.time → (b.party < a.party) ⊎ (a.party ≤ b.party) → is_before b a ≡ true
      by_party same (inl l) = same_before b a (sym same) l
      by_party same (inr g) = absurd (false≢true (sym e ∙ same_before a b same (omega (arith, g, (λ (k : a.party ≡ b.party). ne k)))))

      by_time : (b.time < a.time) ⊎ (a.time ≤ b.time) → is_before b a ≡ true
      by_time (inl l) = sooner_before b a l
      by_time (inr g) = by_party (omega (arith, g, not_sooner)) (cases_lt b.party a.party)

  -- ---- what comes next

  -- what stands before the next one of some logs stands before the first ones of all
  pub first_behind : (x y : Entry E) (i : ℕ) (ls : List (Log E)) → is_before x y ≡ true → IsFirstAt i y ls → AllBehind x ls
  first_behind x y i [] k h = absurd h
  first_behind x y zero (l ∷ ls) k (rest, e, p, later) =
      let first : Entry E = record { time = y.time; party = l.party; event = y.event } in
      let same : is_before x first ≡ true = ap (λ q. is_before x (record { time = y.time; party = q; event = y.event })) p ∙ k in
      (subst (λ es. IsBehind x (entries_of l.party es)) (sym e) same, all_behind x y ls k later)
    where
      head_behind : (x y : Entry E) (es : List (Entry E)) → is_before x y ≡ true → IsBehind y es → IsBehind x es
      head_behind x y [] k h = tt
      head_behind x y (f ∷ es) k h = before_trans x y f k h

      all_behind : (x y : Entry E) (ls : List (Log E)) → is_before x y ≡ true → AllBehind y ls → AllBehind x ls
      all_behind x y [] k h = tt
      all_behind x y (m ∷ ms) k h = (head_behind x y (entries_in m) k h.0, all_behind x y ms k h.1)
  first_behind x y (suc i) (l ∷ ls) k h = (head_behind (entries_in l) h.0, first_behind x y i ls k h.1)
    where
      head_behind : (es : List (Entry E)) → IsBehind y es → IsBehind x es
      head_behind [] g = tt
      head_behind (f ∷ es) g = before_trans x y f k g

  -- it is of a party that has a log there
  pub first_differs : (p i : ℕ) (y : Entry E) (ls : List (Log E)) → IsNoneOf p ls → IsFirstAt i y ls → y.party ≢ p
  first_differs p i y [] h f = absurd f
  first_differs p zero y (l ∷ ls) h (rest, e, same, later) = λ k. h.0 (same ∙ k)
  first_differs p (suc i) y (l ∷ ls) h f = first_differs p i y ls h.1 f.1

  -- where nothing is left, all stand behind
  pub nothing_behind : (x : Entry E) (ls : List (Log E)) → NothingIsLeft ls → AllBehind x ls
  nothing_behind x [] h = tt
  nothing_behind x (l ∷ ls) h = (subst (λ es. IsBehind x (entries_of l.party es)) (sym h.0) tt, nothing_behind x ls h.1)

  -- one more log: its first entry comes next, or what came next among the others does
  pub sooner_first : (l : Log E) (ls : List (Log E)) (i t : ℕ) (v : E) (rest : List (ℕ × E)) (y : Entry E) → l.entries ≡ (t, v) ∷ rest → IsFirstAt i y ls → is_before (record { time = t; party = l.party; event = v }) y ≡ true → IsFirstAt 0 (record { time = t; party = l.party; event = v }) (l ∷ ls)
  sooner_first l ls i t v rest y e f k = (rest, e, refl, first_behind (record { time = t; party = l.party; event = v }) y i ls k f)

  pub later_first : (l : Log E) (ls : List (Log E)) (i t : ℕ) (v : E) (rest : List (ℕ × E)) (y : Entry E) → l.entries ≡ (t, v) ∷ rest → IsNoneOf l.party ls → IsFirstAt i y ls → is_before (record { time = t; party = l.party; event = v }) y ≡ false → IsFirstAt (suc i) y (l ∷ ls)
  later_first l ls i t v rest y e none f k =
      let x : Entry E = record { time = t; party = l.party; event = v } in
      let back : is_before y x ≡ true = before_back x y (λ (s : l.party ≡ y.party). first_differs l.party i y ls none f (sym s)) k in
      (subst (λ es. IsBehind y (entries_of l.party es)) (sym e) back, f)

  -- ---- the whole merge

  -- a log whose first entry stands behind x has none before it
  rest_first : (x : Entry E) (p low : ℕ) (es : List (ℕ × E)) → x.time ≤ low → RiseAbove low es → IsFirst x (entries_of p es)
  rest_first x p low [] l h = tt
  rest_first x p low (e ∷ es) l h =
      let sooner : x.time < e.0 = omega (arith, l, h.0) in
      (sooner_before x (record { time = e.0; party = p; event = e.1 }) sooner, rest_first x p e.0 es (omega (arith, sooner)) h.1)

  log_first : (x : Entry E) (p low : ℕ) (es : List (ℕ × E)) → RiseAbove low es → IsBehind x (entries_of p es) → IsFirst x (entries_of p es)
  log_first x p low [] h k = tt
  log_first x p low (e ∷ es) h k = (k, rest_first x p e.0 es (before_time x (record { time = e.0; party = p; event = e.1 }) k) h.1)

  first_append : (x : Entry E) (es fs : List (Entry E)) → IsFirst x es → IsFirst x fs → IsFirst x (es ++ fs)
  first_append x [] fs h g = g
  first_append x (e ∷ es) fs h g = (h.0, first_append x es fs h.1 g)

  logs_first : (x : Entry E) (ls : List (Log E)) → AreLogs ls → AllBehind x ls → IsFirst x (flat_map entries_in ls)
  logs_first x [] are h = tt
  logs_first x (l ∷ ls) are h = first_append x (entries_in l) (flat_map entries_in ls) (log_first x l.party 0 l.entries are.0 h.0) (logs_first x ls are.2 h.1)

  -- The entries of all logs, about the one that comes next.
  record Parts (i : ℕ) (x : Entry E) (ls : List (Log E)) : Type 0 where
    before : List (Entry E)
    behind : List (Entry E)
    all : flat_map entries_in ls ≡ before ++ x ∷ behind
    rest : flat_map entries_in (dropped i ls) ≡ before ++ behind
    first : IsFirst x before
    last : IsFirst x behind

  parts : (i : ℕ) (x : Entry E) (ls : List (Log E)) → AreLogs ls → IsFirstAt i x ls → Parts i x ls
  parts i x [] are h = absurd h
  parts zero x (l ∷ ls) are (rest, e, p, later) =
      let rises : RiseAbove x.time rest = (subst (RiseAbove 0) e are.0).1 in
      let it : record { time = x.time; party = l.party; event = x.event } ≡ x = ap (λ q. record x { party = q }) p in
      record {
        before = [];
        behind = entries_of l.party rest ++ flat_map entries_in ls;
        all = ap (λ es. entries_of l.party es ++ flat_map entries_in ls) e ∙ ap (λ f. f ∷ (entries_of l.party rest ++ flat_map entries_in ls)) it;
        rest = ap (λ es. entries_of l.party (drop 1 es) ++ flat_map entries_in ls) e;
        first = tt;
        last = first_append x (entries_of l.party rest) (flat_map entries_in ls) (rest_first x l.party x.time rest (omega arith) rises) (logs_first x ls are.2 later);
      }
  parts (suc i) x (l ∷ ls) are h =
      let k : Parts i x ls = parts i x ls are.2 h.1 in
      record {
        before = entries_in l ++ k.before;
        behind = k.behind;
        all = ap (λ es. entries_in l ++ es) k.all ∙ sym (append_assoc (entries_in l) k.before (x ∷ k.behind));
        rest = ap (λ es. entries_in l ++ es) k.rest ∙ sym (append_assoc (entries_in l) k.before k.behind);
        first = first_append x (entries_in l) k.before (log_first x l.party 0 l.entries are.0 h.0) k.first;
        last = k.last;
      }

  -- what comes next is the first of the merge, and then comes the merge of what is left
  pub next_merged : (i : ℕ) (x : Entry E) (ls : List (Log E)) → AreLogs ls → IsFirstAt i x ls → merged ls ≡ x ∷ merged (dropped i ls)
  next_merged i x ls are h =
      let k : Parts i x ls = parts i x ls are h in
      ap in_order k.all ∙ least_first x k.before k.behind k.first k.last ∙ ap (λ es. x ∷ in_order es) (sym k.rest)

  -- and that is less
  pub next_less : (i : ℕ) (x : Entry E) (ls : List (Log E)) → AreLogs ls → IsFirstAt i x ls → length (flat_map entries_in (dropped i ls)) < length (flat_map entries_in ls)
  next_less i x ls are h =
      let k : Parts i x ls = parts i x ls are h in
      omega (arith, ap length k.all, ap length k.rest, length-append k.before (x ∷ k.behind), length-append k.before k.behind)

  pub nothing_merged : (ls : List (Log E)) → NothingIsLeft ls → merged ls ≡ []
  nothing_merged ls h = ap in_order (no_entries ls h)
    where
      no_entries : (ls : List (Log E)) → NothingIsLeft ls → flat_map entries_in ls ≡ []
      no_entries [] h = refl
      no_entries (l ∷ ls) h = ap (λ es. entries_of l.party es ++ flat_map entries_in ls) h.0 ∙ no_entries ls h.1

  -- ---- logs that are left are logs

  none_dropped : (p i : ℕ) (ls : List (Log E)) → IsNoneOf p ls → IsNoneOf p (dropped i ls)
  none_dropped p i [] h = tt
  none_dropped p zero (l ∷ ls) h = h
  none_dropped p (suc i) (l ∷ ls) h = (h.0, none_dropped p i ls h.1)

  rise_on : (es : List (ℕ × E)) → RiseAbove 0 es → RiseAbove 0 (drop 1 es)
  rise_on [] h = tt
  rise_on (e ∷ []) h = tt
  rise_on (e ∷ f ∷ es) h = (omega (arith, h.1.0), h.1.1)

  pub dropped_are : (i : ℕ) (ls : List (Log E)) → AreLogs ls → AreLogs (dropped i ls)
  dropped_are i [] h = tt
  dropped_are zero (l ∷ ls) h = (rise_on l.entries h.0, h.1, h.2)
  dropped_are (suc i) (l ∷ ls) h = (h.0, none_dropped l.party i ls h.1, dropped_are i ls h.2)

  -- one place further on in one of them
  pub rests_on : (ls : List (Log E)) (ns : List ℕ) (i : ℕ) → i < length ns → length ns ≡ length ls → rests ls (set ns i (get_or ns i 0 + 1)) ≡ dropped i (rests ls ns)
  rests_on [] [] i l e = absurd (omega (arith, l))
  rests_on [] (n ∷ ns) i l e = absurd (omega (arith, e))
  rests_on (m ∷ ls) [] i l e = absurd (omega (arith, e))
  rests_on (m ∷ ls) (n ∷ ns) zero l e = ap (λ es. record { party = m.party; entries = es } ∷ rests ls ns) (sym (drop-drop 1 n m.entries ∙ ap (λ k. drop k m.entries) (omega arith)))
  rests_on (m ∷ ls) (n ∷ ns) (suc i) l e = ap (λ ks. record { party = m.party; entries = drop n m.entries } ∷ ks) (rests_on ls ns i (omega (arith, l)) (omega (arith, e)))

-- an entry that is looked up is the first of those from its place on
pub get_left : {E : Type 0} (xs : List (ℕ × E)) (n : ℕ) (y : ℕ × E) → slice_get xs n ≡ Some y → (v : E) × (rest : List (ℕ × E)) × (drop n xs ≡ (y.0, v) ∷ rest)
get_left xs n y e =
    let inside : n < length xs = slice_get_within xs n y e in
    (y.1, drop (n + 1) xs, drop_more xs n y inside ∙ ap (λ z. z ∷ drop (n + 1) xs) (get_or_from_slice_get xs n y y e))

-- where nothing is left of the others, the first entry of one more log comes next
pub only_first : {E : Type 0} (l : Log E) (ls : List (Log E)) (t : ℕ) (v : E) (rest : List (ℕ × E)) → l.entries ≡ (t, v) ∷ rest → NothingIsLeft ls → IsFirstAt 0 (record { time = t; party = l.party; event = v }) (l ∷ ls)
only_first l ls t v rest e h = (rest, e, refl, nothing_behind (record { time = t; party = l.party; event = v }) ls h)

pub read_left : {E : Type 0} (xs : List (ℕ × E)) (n : ℕ) (y : ℕ × E) → n < length xs → y ≡ get_or xs n y → (v : E) × (rest : List (ℕ × E)) × (drop n xs ≡ (y.0, v) ∷ rest)
read_left xs n y inside e = (y.1, drop (n + 1) xs, drop_more xs n y inside ∙ ap (λ z. z ∷ drop (n + 1) xs) (sym e))

-- the place of a log from which the next entry comes is within its entries, and that entry stands there
pub first_there : {E : Type 0} (ls : List (Log E)) (ns : List ℕ) (i : ℕ) (x : Entry E) (d : Log E) → IsFirstAt i x (rests ls ns) → length ns ≡ length ls → (rest : List (ℕ × E)) × (drop (get_or ns i 0) (get_or ls i d).entries ≡ (x.time, x.event) ∷ rest)
first_there [] ns i x d h e = absurd h
first_there (l ∷ ls) [] i x d h e = absurd (omega (arith, e))
first_there (l ∷ ls) (n ∷ ns) zero x d h e = (h.0, h.1)
first_there (l ∷ ls) (n ∷ ns) (suc i) x d h e = first_there ls ns i x d h.1 (omega (arith, e))

-- so what stands there is its event
pub there_within : {E : Type 0} (xs rest : List (ℕ × E)) (n t : ℕ) (v : E) → drop n xs ≡ (t, v) ∷ rest → n < length xs
there_within xs rest n t v e = ⊎_elim (λ (l : n < length xs). l) (λ (g : length xs ≤ n). absurd (nil_cons (sym (drop_all n xs g) ∙ e))) (cases_lt n (length xs))
  where
    nil_cons : [] ≡ (t, v) ∷ rest → ⊥
    nil_cons k = cc

pub there_event : {E : Type 0} (xs rest : List (ℕ × E)) (n t : ℕ) (v : E) (y : ℕ × E) → drop n xs ≡ (t, v) ∷ rest → y ≡ get_or xs n y → y.1 ≡ v
there_event xs rest n t v y e is =
    let same : get_or xs n y ∷ drop (n + 1) xs ≡ (t, v) ∷ rest = sym (drop_more xs n y (there_within xs rest n t v e)) ∙ e in
    let head : get_or xs n y ≡ (t, v) = cc in
    ap (λ (z : ℕ × _). z.1) (is ∙ head)
