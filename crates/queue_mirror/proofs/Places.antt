-- What a mirror holds is what was published since its member joined.
use Rattle.std.proofs.Common.{◌≡◌, ℕ, ◌<◌, ◌≤◌, ◌+◌, Bool, true, false, cond, List, [], ◌∷◌, ◌++◌, length, map, take, drop, refl, sym, ap, ◌∙◌, arith, append_assoc}
use Rattle.std.specs.Prelude.{nat_lt, nat_le}
use Rattle.std.specs.List.{filter, list_all}
use Rattle.std.proofs.lemmas.Bool.{and_parts, and_from, lt-ltb, ltb-true, le-ltb, le-leb, lt-leb, leb-true}
use Rattle.std.proofs.lemmas.List.{append-nil, map-append, take-append-drop, length-take-le}
use Rattle.std.proofs.lemmas.List.Elements.{filter-append}
use Rattle.std.proofs.lemmas.List.Folds.{list_all-append}
use Rattle.queue_core.specs.declared.op.Op.{Op}
use Rattle.queue_core.specs.Queue.{Item, stays, changed, kept, born, step}
use Rattle.queue_core.specs.Legal.{run, remains, queue_of, is_legal, are_legal}
use Rattle.queue_mirror.specs.Mirror.{content, left_out}
use Rattle.queue_mirror.specs.Placed.{Placed, changed_at, stays_at, put_at, items_of, placed_kept, placed_born, placed, published_since, published_before}
use Rattle.queue_core.proofs.Split.{born-split, legal_back}

-- ---- the items

items_kept : (op : Op) (ps : List Placed) → items_of (placed_kept op ps) ≡ kept op (items_of ps)
items_kept op [] = refl
items_kept op (p ∷ ps) = elim (stays op p.item) as (λ b. items_of (map (changed_at op) (cond b (p ∷ filter (stays_at op) ps) (filter (stays_at op) ps))) ≡ map (changed op) (cond b (p.item ∷ filter (stays op) (items_of ps)) (filter (stays op) (items_of ps))))
    [ true ↦ ap (λ xs. changed op p.item ∷ xs) (items_kept op ps) | false ↦ items_kept op ps ]

items_there : (n : ℕ) (xs : List Item) → items_of (map (put_at n) xs) ≡ xs
items_there n [] = refl
items_there n (x ∷ xs) = ap (λ ys. x ∷ ys) (items_there n xs)

items_step : (n : ℕ) (op : Op) (ps : List Placed) → items_of (placed_kept op ps ++ placed_born n op ps) ≡ step op (items_of ps)
items_step n op ps = map-append (λ p. p.item) (placed_kept op ps) (placed_born n op ps) ∙ rw (items_kept op ps, items_there n (born op (items_of ps))) refl

pub items_placed : (n : ℕ) (ps : List Placed) (l : List Op) → items_of (placed n ps l) ≡ run (items_of ps) l
items_placed n ps [] = refl
items_placed n ps (op ∷ l) = items_placed (n + 1) (placed_kept op ps ++ placed_born n op ps) l ∙ ap (λ xs. run xs l) (items_step n op ps)

-- ---- the two parts

abbrev pub placed_remains : List Op → List Placed → List Placed
placed_remains [] ps = ps
placed_remains (op ∷ l) ps = placed_remains l (placed_kept op ps)

items_remain : (l : List Op) (ps : List Placed) → items_of (placed_remains l ps) ≡ remains l (items_of ps)
items_remain [] ps = refl
items_remain (op ∷ l) ps = items_remain l (placed_kept op ps) ∙ ap (remains l) (items_kept op ps)

kept-append_placed : (op : Op) (ps qs : List Placed) → placed_kept op (ps ++ qs) ≡ placed_kept op ps ++ placed_kept op qs
kept-append_placed op ps qs = ap (map (changed_at op)) (filter-append (stays_at op) ps qs) ∙ map-append (changed_at op) (filter (stays_at op) ps) (filter (stays_at op) qs)

pub placed-split : (n : ℕ) (ps qs : List Placed) (l : List Op) → are_legal (items_of (ps ++ qs)) l ≡ true → placed n (ps ++ qs) l ≡ placed_remains l ps ++ placed n qs l
placed-split n ps qs [] h = refl
placed-split n ps qs (op ∷ l) h =
    let a = and_parts (is_legal op (items_of (ps ++ qs))) (are_legal (step op (items_of (ps ++ qs))) l) h in
    let cut : items_of (ps ++ qs) ≡ items_of ps ++ items_of qs = map-append (λ p. p.item) ps qs in
    let new : born op (items_of (ps ++ qs)) ≡ born op (items_of qs) = ap (born op) cut ∙ born-split op (items_of ps) (items_of qs) (ap (is_legal op) (sym cut) ∙ a.0) in
    let e : placed_kept op (ps ++ qs) ++ placed_born n op (ps ++ qs) ≡ placed_kept op ps ++ (placed_kept op qs ++ placed_born n op qs) =
    rw (kept-append_placed op ps qs, new) (append_assoc (placed_kept op ps) (placed_kept op qs) (placed_born n op qs)) in
    ap (λ zs. placed (n + 1) zs l) e
    ∙ placed-split (n + 1) (placed_kept op ps) (placed_kept op qs ++ placed_born n op qs) l
    (ap (λ zs. are_legal (items_of zs) l) (sym e) ∙ ap (λ zs. are_legal zs l) (items_step n op (ps ++ qs)) ∙ a.1)

pub placed-append : (n : ℕ) (ps : List Placed) (l m : List Op) → placed n ps (l ++ m) ≡ placed (n + length l) (placed n ps l) m
placed-append n ps [] m = ap (λ k. placed k ps m) (omega arith)
placed-append n ps (op ∷ l) m = placed-append (n + 1) (placed_kept op ps ++ placed_born n op ps) l m ∙ ap (λ k. placed k (placed (n + 1) (placed_kept op ps ++ placed_born n op ps) l) m) (omega arith)

-- ---- their places

-- a test of places alone
kept_places : (t : ℕ → Bool) (op : Op) (ps : List Placed) → list_all (λ p. t p.place) ps ≡ true → list_all (λ p. t p.place) (placed_kept op ps) ≡ true
kept_places t op [] h = h
kept_places t op (p ∷ ps) h =
    let a = and_parts (t p.place) (list_all (λ p. t p.place) ps) h in
    elim (stays op p.item) as (λ b. list_all (λ p. t p.place) (map (changed_at op) (cond b (p ∷ filter (stays_at op) ps) (filter (stays_at op) ps))) ≡ true)
    [ true ↦ and_from (t p.place) (list_all (λ p. t p.place) (placed_kept op ps)) a.0 (kept_places t op ps a.1) | false ↦ kept_places t op ps a.1 ]

there_places : (t : ℕ → Bool) (n : ℕ) (xs : List Item) → t n ≡ true → list_all (λ (p : Placed). t p.place) (map (put_at n) xs) ≡ true
there_places t n [] h = refl
there_places t n (x ∷ xs) h = and_from (t n) (list_all (λ (p : Placed). t p.place) (map (put_at n) xs)) h (there_places t n xs h)

-- where the test holds of the places from n on
pub run_places : (t : ℕ → Bool) (n : ℕ) (ps : List Placed) (l : List Op) → ((k : ℕ) → n ≤ k → k < n + length l → t k ≡ true) → list_all (λ p. t p.place) ps ≡ true → list_all (λ p. t p.place) (placed n ps l) ≡ true
run_places t n ps [] f h = h
run_places t n ps (op ∷ l) f h =
    run_places t (n + 1) (placed_kept op ps ++ placed_born n op ps) l (λ k a b. f k (omega arith) (omega arith))
    (list_all-append (λ (p : Placed). t p.place) (placed_kept op ps) (placed_born n op ps)
    ∙ and_from (list_all (λ p. t p.place) (placed_kept op ps)) (list_all (λ p. t p.place) (placed_born n op ps)) (kept_places t op ps h) (there_places t n (born op (items_of ps)) (f n (omega arith) (omega arith))))

remain_places : (t : ℕ → Bool) (l : List Op) (ps : List Placed) → list_all (λ p. t p.place) ps ≡ true → list_all (λ p. t p.place) (placed_remains l ps) ≡ true
remain_places t [] ps h = h
remain_places t (op ∷ l) ps h = remain_places t l (placed_kept op ps) (kept_places t op ps h)

filter_all_places : (t : ℕ → Bool) (ps : List Placed) → list_all (λ p. t p.place) ps ≡ true → filter (λ p. t p.place) ps ≡ ps
filter_all_places t [] h = refl
filter_all_places t (p ∷ ps) h = let a = and_parts (t p.place) (list_all (λ p. t p.place) ps) h in rw a.0 (ap (λ qs. p ∷ qs) (filter_all_places t ps a.1))

filter_no_places : (t s : ℕ → Bool) → ((k : ℕ) → s k ≡ true → t k ≡ false) → (ps : List Placed) → list_all (λ p. s p.place) ps ≡ true → filter (λ p. t p.place) ps ≡ []
filter_no_places t s d [] h = refl
filter_no_places t s d (p ∷ ps) h = let a = and_parts (s p.place) (list_all (λ p. s p.place) ps) h in rw (d p.place a.0) (filter_no_places t s d ps a.1)

-- ---- together

module _ (f : ℕ) (l : List Op) (within : f ≤ length l) (legal : are_legal [] l ≡ true) where
  abbrev early : List Placed
  early = placed_remains (drop f l) (placed 0 [] (take f l))

  abbrev late : List Placed
  late = placed f [] (drop f l)

  whole : placed 0 [] l ≡ early ++ late
  whole =
      let cut : take f l ++ drop f l ≡ l = take-append-drop f l in
      let back : are_legal (queue_of (take f l)) (drop f l) ≡ true = legal_back (take f l) (drop f l) (ap (are_legal []) cut ∙ legal) in
      ap (placed 0 []) (sym cut) ∙ placed-append 0 [] (take f l) (drop f l)
      ∙ ap (λ k. placed k (placed 0 [] (take f l)) (drop f l)) (omega (arith, length-take-le f l within))
      ∙ ap (λ ps. placed f ps (drop f l)) (sym (append-nil (placed 0 [] (take f l))))
      ∙ placed-split f (placed 0 [] (take f l)) [] (drop f l)
      (ap (λ ps. are_legal (items_of ps) (drop f l)) (append-nil (placed 0 [] (take f l))) ∙ ap (λ xs. are_legal xs (drop f l)) (items_placed 0 [] (take f l)) ∙ back)

  early_below : list_all (λ p. nat_lt p.place f) early ≡ true
  early_below = remain_places (λ k. nat_lt k f) (drop f l) (placed 0 [] (take f l)) (run_places (λ k. nat_lt k f) 0 [] (take f l) (λ k a b. lt-ltb k f (omega (arith, length-take-le f l within))) refl)

  late_above : list_all (λ p. nat_le f p.place) late ≡ true
  late_above = run_places (λ k. nat_le f k) f [] (drop f l) (λ k a b. le-leb f k a) refl

  pub since_is : published_since f l ≡ content f l
  since_is = ap items_of (ap (filter (λ p. nat_le f p.place)) whole ∙ filter-append (λ (p : Placed). nat_le f p.place) early late
      ∙ rw (filter_no_places (λ k. nat_le f k) (λ k. nat_lt k f) (λ k e. lt-leb f k (ltb-true k f e)) early early_below, filter_all_places (λ k. nat_le f k) late late_above) refl)
      ∙ items_placed f [] (drop f l)

  pub before_is : published_before f l ≡ left_out f l
  before_is = ap items_of (ap (filter (λ p. nat_lt p.place f)) whole ∙ filter-append (λ (p : Placed). nat_lt p.place f) early late
      ∙ rw (filter_all_places (λ k. nat_lt k f) early early_below, filter_no_places (λ k. nat_lt k f) (λ k. nat_le f k) (λ k e. le-ltb k f (leb-true f k e)) late late_above) (append-nil early))
      ∙ items_remain (drop f l) (placed 0 [] (take f l)) ∙ ap (remains (drop f l)) (items_placed 0 [] (take f l))
