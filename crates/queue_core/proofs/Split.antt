-- A queue in two parts: what stood there before, and what came since.
use Rattle.std.proofs.Common.{◌≡◌, ℕ, ◌≤◌, true, false, cond, List, [], ◌∷◌, ◌++◌, map, refl, sym, ap, ◌∙◌, subst, arith, ⊎_elim, append_assoc, nat_eq}
use Rattle.std.specs.Prelude.{◌&&◌, nat_lt}
use Rattle.std.specs.List.{filter}
use Rattle.std.proofs.lemmas.Bool.{cases_Bool, and_parts, and_from, ltb-true, eqb-true}
use Rattle.std.proofs.lemmas.List.{append-nil, map-append}
use Rattle.std.proofs.lemmas.List.Elements.{filter-append}
use Rattle.std.proofs.lemmas.List.Folds.{list_all-append}
use Rattle.queue_core.specs.declared.op.Op.{Op}
use Rattle.queue_core.specs.declared.op.Op.TheVariants.{Publish, Deliver, Drop, Ack, Requeue, Depth, Start, SyncMark}
use Rattle.queue_core.specs.Queue.{Item, is_at, is_above, takes, stays, changed, kept, born, step, new_item, greatest}
use Rattle.queue_core.specs.Legal.{run, remains, queue_of, is_legal, are_legal}
use Rattle.queue_core.proofs.Lists.{number, number-append}

pub kept-append : (op : Op) (xs ys : List Item) → kept op (xs ++ ys) ≡ kept op xs ++ kept op ys
kept-append op xs ys = ap (map (changed op)) (filter-append (stays op) xs ys) ∙ map-append (changed op) (filter (stays op) xs) (filter (stays op) ys)

pub takes_right : (a : ℕ) (xs ys : List Item) → takes a (xs ++ ys) ≡ true → takes a ys ≡ true
takes_right a xs ys h =
    let p = and_parts (is_above a (xs ++ ys)) (nat_lt a greatest) h in
    let q = and_parts (is_above a xs) (is_above a ys) (sym (list_all-append (λ (i : Item). nat_lt i.at a) xs ys) ∙ p.0) in
    and_from (is_above a ys) (nat_lt a greatest) q.1 p.1

-- a legal operation brings the same to the second part as to the whole
pub born-split : (op : Op) (xs ys : List Item) → is_legal op (xs ++ ys) ≡ true → born op (xs ++ ys) ≡ born op ys
born-split (Publish at b) xs ys h = rw (h, takes_right at.0 xs ys h)
born-split (Deliver a) xs ys h = refl
born-split (Drop a) xs ys h = refl
born-split (Ack a) xs ys h = refl
born-split (Requeue a) xs ys h = refl
born-split (Depth d) xs ys h = refl
born-split (Start d) xs ys h = refl
born-split (SyncMark n) xs ys h = refl

pub step-split : (op : Op) (xs ys : List Item) → is_legal op (xs ++ ys) ≡ true → step op (xs ++ ys) ≡ kept op xs ++ step op ys
step-split op xs ys h = rw (kept-append op xs ys, born-split op xs ys h) (append_assoc (kept op xs) (kept op ys) (born op ys))

-- the two parts run as two queues
pub run-split : (xs ys : List Item) (l : List Op) → are_legal (xs ++ ys) l ≡ true → run (xs ++ ys) l ≡ remains l xs ++ run ys l
run-split xs ys [] h = refl
run-split xs ys (op ∷ l) h =
    let p = and_parts (is_legal op (xs ++ ys)) (are_legal (step op (xs ++ ys)) l) h in
    let e = step-split op xs ys p.0 in
    ap (λ zs. run zs l) e ∙ run-split (kept op xs) (step op ys) l (ap (λ zs. are_legal zs l) (sym e) ∙ p.1)

pub run-append : (xs : List Item) (l m : List Op) → run xs (l ++ m) ≡ run (run xs l) m
run-append xs [] m = refl
run-append xs (op ∷ l) m = run-append (step op xs) l m

pub remains-append : (xs : List Item) (l m : List Op) → remains (l ++ m) xs ≡ remains m (remains l xs)
remains-append xs [] m = refl
remains-append xs (op ∷ l) m = remains-append (kept op xs) l m

-- a list of operations is legal where its first part is, and the rest is behind it
pub legal-append : (xs : List Item) (l m : List Op) → are_legal xs (l ++ m) ≡ (are_legal xs l && are_legal (run xs l) m)
legal-append xs [] m = refl
legal-append xs (op ∷ l) m = elim (is_legal op xs) as (λ b. (b && are_legal (step op xs) (l ++ m)) ≡ ((b && are_legal (step op xs) l) && are_legal (run (step op xs) l) m))
    [ true ↦ legal-append (step op xs) l m | false ↦ refl ]

pub legal_front : (l m : List Op) → are_legal [] (l ++ m) ≡ true → are_legal [] l ≡ true
legal_front l m h = (and_parts (are_legal [] l) (are_legal (queue_of l) m) (sym (legal-append [] l m) ∙ h)).0

pub legal_back : (l m : List Op) → are_legal [] (l ++ m) ≡ true → are_legal (queue_of l) m ≡ true
legal_back l m h = (and_parts (are_legal [] l) (are_legal (queue_of l) m) (sym (legal-append [] l m) ∙ h)).1

-- nothing stays of nothing
pub remains_nothing : (l : List Op) → remains l [] ≡ []
remains_nothing [] = refl
remains_nothing (op ∷ l) = remains_nothing l

-- ---- no position is held twice

pub number-kept : (a : ℕ) (op : Op) (xs : List Item) → number (is_at a) (kept op xs) ≤ number (is_at a) xs
number-kept a op [] = omega arith
number-kept a op (i ∷ xs) = elim (stays op i) as (λ b. number (is_at a) (map (changed op) (cond b (i ∷ filter (stays op) xs) (filter (stays op) xs))) ≤ number (is_at a) (i ∷ xs))
    [ true ↦ omega (arith, number-kept a op xs) | false ↦ omega (arith, number-kept a op xs) ]

pub none_above : (a : ℕ) (xs : List Item) → is_above a xs ≡ true → number (is_at a) xs ≡ 0
none_above a [] h = refl
none_above a (i ∷ xs) h =
    let p = and_parts (nat_lt i.at a) (is_above a xs) h in
    ⊎_elim
    (λ (yes : is_at a i ≡ true). absurd (omega (arith, ltb-true i.at a p.0, eqb-true i.at a yes)))
    (λ (no : is_at a i ≡ false). rw no (omega (arith, none_above a xs p.1)))
    (cases_Bool (is_at a i))

-- no position is held twice
abbrev pub IsSingle : List Item → Type 0
IsSingle xs = (a : ℕ) → number (is_at a) xs ≤ 1

pub step-single : (op : Op) (xs : List Item) → IsSingle xs → IsSingle (step op xs)
step-single (Publish at b) xs h c =
    let k : number (is_at c) (kept (Publish at b) xs) ≤ number (is_at c) xs = number-kept c (Publish at b) xs in
    ⊎_elim
    (λ (yes : takes at.0 xs ≡ true). rw yes (
    let p = and_parts (is_above at.0 xs) (nat_lt at.0 greatest) yes in
    rw (number-append (is_at c) (kept (Publish at b) xs) (new_item at.0 b ∷ []))
    (⊎_elim
    (λ (same : nat_eq at.0 c ≡ true). let z : number (is_at c) xs ≡ 0 = none_above c xs (subst (λ d. is_above d xs ≡ true) (eqb-true at.0 c same) p.0) in rw same (omega arith))
    (λ (other : nat_eq at.0 c ≡ false). rw other (omega (arith, h c)))
    (cases_Bool (nat_eq at.0 c)))))
    (λ (no : takes at.0 xs ≡ false). rw (no, append-nil (kept (Publish at b) xs)) (omega (arith, h c)))
    (cases_Bool (takes at.0 xs))
step-single (Deliver a) xs h c = rw append-nil (omega (arith, h c, number-kept c (Deliver a) xs))
step-single (Drop a) xs h c = rw append-nil (omega (arith, h c, number-kept c (Drop a) xs))
step-single (Ack a) xs h c = rw append-nil (omega (arith, h c, number-kept c (Ack a) xs))
step-single (Requeue a) xs h c = rw append-nil (omega (arith, h c, number-kept c (Requeue a) xs))
step-single (Depth d) xs h c = rw append-nil (omega (arith, h c, number-kept c (Depth d) xs))
step-single (Start d) xs h c = rw append-nil (omega (arith, h c, number-kept c (Start d) xs))
step-single (SyncMark n) xs h c = rw append-nil (omega (arith, h c, number-kept c (SyncMark n) xs))

pub run-single : (xs : List Item) (l : List Op) → IsSingle xs → IsSingle (run xs l)
run-single xs [] h = h
run-single xs (op ∷ l) h = run-single (step op xs) l (step-single op xs h)

pub queue-single : (l : List Op) → IsSingle (queue_of l)
queue-single l = run-single [] l (λ a. omega arith)
