-- The numbers of the packets on the links to one member.
use Rattle.std.proofs.Common.{◌≡◌, ℕ, zero, suc, ◌<◌, Bool, true, false, cond, List, [], ◌∷◌, ◌++◌, length, drop, get_or, set, refl, sym, ap, subst, ◌∙◌, append_assoc, arith}
use Rattle.std.proofs.lemmas.List.{append-nil}
use Rattle.ring_rules.specs.Machine.{Packet, Link, no_link}
use Rattle.ring_rules.proofs.walks.CountedWalk.{when, past_first, newest_first, numbers, only, no_but}
use Rattle.ring_rules.proofs.rings.Weakens.{Weakens, same, equal, then, joined, joined_right, lose, lose_second, zero_moves_in}

pub newest_push : (f : Packet → ℕ) (ks : List Packet) (k : Packet) → newest_first f (ks ++ k ∷ []) ≡ f k ∷ newest_first f ks
newest_push f [] k = refl
newest_push f (j ∷ js) k = ap (λ xs. xs ++ f j ∷ []) (newest_push f js k)

-- of no packets none count
pub past_nothing : (a b : Bool) (ks : List Packet) → ks ≡ [] → when a (past_first b ks) ≡ []
past_nothing true true ks e = ap (drop 1) e
past_nothing true false ks e = e
past_nothing false b ks e = refl

-- where nothing counts
pub numbers_none : (f : Packet → ℕ) (c : Link → List Packet) (ls : List Link) → ((j : ℕ) → j < length ls → c (get_or ls j no_link) ≡ []) → numbers f c ls ≡ []
numbers_none f c [] h = refl
numbers_none f c (l ∷ ls) h =
    rw (numbers_none f c ls (λ j lt. h (suc j) (omega arith))) (ap (newest_first f) (h 0 (omega arith)))

-- the same packets count
pub numbers_agree : (f : Packet → ℕ) (c c' : Link → List Packet) (ls : List Link) → ((j : ℕ) → j < length ls → c (get_or ls j no_link) ≡ c' (get_or ls j no_link)) → numbers f c ls ≡ numbers f c' ls
numbers_agree f c c' [] h = refl
numbers_agree f c c' (l ∷ ls) h =
    rw (numbers_agree f c c' ls (λ j lt. h (suc j) (omega arith)), h 0 (omega arith)) refl

-- a link is written, and the packets that count are its old ones
pub numbers_set : (f : Packet → ℕ) (c : Link → List Packet) (ls : List Link) (s : ℕ) (l' : Link) → c l' ≡ c (get_or ls s no_link) → numbers f c (set ls s l') ≡ numbers f c ls
numbers_set f c [] s l' e = refl
numbers_set f c (l ∷ ls) zero l' e = ap (λ ks. numbers f c ls ++ newest_first f ks) e
numbers_set f c (l ∷ ls) (suc s) l' e = ap (λ xs. xs ++ newest_first f (c l)) (numbers_set f c ls s l' e)

-- a packet goes on a link, and no later link has one that counts
pub numbers_put : (f : Packet → ℕ) (c : Link → List Packet) (ls : List Link) (s : ℕ) (l' : Link) (k : Packet) → s < length ls → c l' ≡ c (get_or ls s no_link) ++ k ∷ [] → ((j : ℕ) → s < j → j < length ls → c (get_or ls j no_link) ≡ []) → numbers f c (set ls s l') ≡ f k ∷ numbers f c ls
numbers_put f c [] s l' k lt e h = absurd (omega arith)
numbers_put f c (l ∷ ls) zero l' k lt e h =
    rw (numbers_none f c ls (λ j m. h (suc j) (omega arith) (omega arith)), e) (newest_push f (c l) k)
numbers_put f c (l ∷ ls) (suc s) l' k lt e h =
    ap (λ xs. xs ++ newest_first f (c l)) (numbers_put f c ls s l' k (omega arith) e (λ j a b. h (suc j) (omega arith) (omega arith)))

-- the oldest packet leaves a link, and no earlier link has one that counts
pub numbers_take : (f : Packet → ℕ) (c : Link → List Packet) (ls : List Link) (s : ℕ) (l' : Link) (k : Packet) → s < length ls → c (get_or ls s no_link) ≡ k ∷ c l' → ((j : ℕ) → j < s → c (get_or ls j no_link) ≡ []) → numbers f c ls ≡ numbers f c (set ls s l') ++ f k ∷ []
numbers_take f c [] s l' k lt e h = absurd (omega arith)
numbers_take f c (l ∷ ls) zero l' k lt e h =
    ap (λ ks. numbers f c ls ++ newest_first f ks) e ∙ sym (append_assoc (numbers f c ls) (newest_first f (c l')) (f k ∷ []))
numbers_take f c (l ∷ ls) (suc s) l' k lt e h =
    rw (h 0 (omega arith))
    (append-nil (numbers f c ls) ∙ numbers_take f c ls s l' k (omega arith) e (λ j a. h (suc j) (omega arith)) ∙ ap (λ xs. xs ++ f k ∷ []) (sym (append-nil (numbers f c (set ls s l')))))

-- a link opens
pub numbers_open : (f : Packet → ℕ) (c : Link → List Packet) (ls : List Link) (l : Link) → numbers f c (ls ++ l ∷ []) ≡ newest_first f (c l) ++ numbers f c ls
numbers_open f c [] l = sym (append-nil (newest_first f (c l)))
numbers_open f c (j ∷ js) l = ap (λ xs. xs ++ newest_first f (c j)) (numbers_open f c js l) ∙ append_assoc (newest_first f (c l)) (numbers f c js) (newest_first f (c j))

-- links stop counting, or their oldest packet does
pub data IsOr (c' c : List Packet) : Type 0 where
  kept : c' ≡ c → IsOr c' c
  gone : c' ≡ [] → IsOr c' c
  less : c' ≡ drop 1 c → IsOr c' c

-- without its oldest packet
oldest_gone : (f : Packet → ℕ) (c : List Packet) → Weakens (newest_first f c) (newest_first f (drop 1 c))
oldest_gone f [] = same []
oldest_gone f (k ∷ ks) = lose_second (newest_first f ks) (f k ∷ [])

pub part_closed : (f : Packet → ℕ) (c' c : List Packet) → IsOr c' c → Weakens (newest_first f c) (newest_first f c')
part_closed f c' c (kept e) = equal (newest_first f c) (newest_first f c') (ap (newest_first f) (sym e))
part_closed f c' c (gone e) = subst (λ ks. Weakens (newest_first f c) (newest_first f ks)) (sym e) (lose (newest_first f c))
part_closed f c' c (less e) = subst (λ ks. Weakens (newest_first f c) (newest_first f ks)) (sym e) (oldest_gone f c)

pub numbers_closed : (f : Packet → ℕ) (c c' : Link → List Packet) (ls ls' : List Link) → length ls' ≡ length ls → ((j : ℕ) → j < length ls → IsOr (c' (get_or ls' j no_link)) (c (get_or ls j no_link))) → Weakens (numbers f c ls) (numbers f c' ls')
numbers_closed f c c' [] [] e h = same []
numbers_closed f c c' [] (l' ∷ ls') e h = absurd (omega arith)
numbers_closed f c c' (l ∷ ls) [] e h = absurd (omega arith)
numbers_closed f c c' (l ∷ ls) (l' ∷ ls') e h =
    joined (numbers f c ls) (numbers f c' ls') (newest_first f (c l)) (newest_first f (c' l')) (numbers_closed f c c' ls ls' (omega arith) (λ j lt. h (suc j) (omega arith))) (part_closed f (c' l') (c l) (h 0 (omega arith)))

-- ---- early and late

-- each number of a list is 0
abbrev pub AllZero : (Packet → ℕ) → List Packet → Type 0
AllZero f [] = Unit {0}
AllZero f (k ∷ ks) = (f k ≡ 0) × AllZero f ks

pub zeros_move : (f : Packet → ℕ) (ks : List Packet) (xs ys : List ℕ) → AllZero f ks → Weakens (newest_first f ks ++ (xs ++ ys)) (xs ++ (newest_first f ks ++ ys))
zeros_move f [] xs ys h = same (xs ++ ys)
zeros_move f (k ∷ ks) xs ys h =
    then ((newest_first f ks ++ f k ∷ []) ++ (xs ++ ys)) (newest_first f ks ++ (xs ++ f k ∷ ys)) (xs ++ ((newest_first f ks ++ f k ∷ []) ++ ys))
    (then ((newest_first f ks ++ f k ∷ []) ++ (xs ++ ys)) (newest_first f ks ++ (f k ∷ (xs ++ ys))) (newest_first f ks ++ (xs ++ f k ∷ ys))
    (equal _ _ (append_assoc (newest_first f ks) (f k ∷ []) (xs ++ ys)))
    (joined_right (newest_first f ks) (f k ∷ (xs ++ ys)) (xs ++ f k ∷ ys) (zero_moves_in (f k) xs ys h.0)))
    (then (newest_first f ks ++ (xs ++ f k ∷ ys)) (xs ++ (newest_first f ks ++ f k ∷ ys)) (xs ++ ((newest_first f ks ++ f k ∷ []) ++ ys))
    (zeros_move f ks xs (f k ∷ ys) h.1)
    (equal _ _ (ap (λ zs. xs ++ zs) (sym (append_assoc (newest_first f ks) (f k ∷ []) ys)))))

-- where all the late ones are 0 they may stand at the end
pub numbers_split : (f : Packet → ℕ) (e : Link → Bool) (c : Link → List Packet) (ls : List Link) (rest ys : List ℕ) → ((j : ℕ) → j < length ls → e (get_or ls j no_link) ≡ false → AllZero f (c (get_or ls j no_link))) → Weakens (numbers f c ls ++ (rest ++ ys)) (numbers f (only e c) ls ++ (rest ++ (numbers f (no_but e c) ls ++ ys)))
numbers_split f e c [] rest ys h = same (rest ++ ys)
numbers_split f e c (l ∷ ls) rest ys h = by_case (e l) refl (λ xs zs. numbers_split f e c ls xs zs (λ j lt. h (suc j) (omega arith)))
  where
    N : List ℕ
    N = newest_first f (c l)

    E : List ℕ
    E = numbers f (only e c) ls

    Z : List ℕ
    Z = numbers f (no_but e c) ls

    by_case : (b : Bool) → e l ≡ b → ((xs zs : List ℕ) → Weakens (numbers f c ls ++ (xs ++ zs)) (numbers f (only e c) ls ++ (xs ++ (numbers f (no_but e c) ls ++ zs)))) → Weakens ((numbers f c ls ++ N) ++ (rest ++ ys)) ((E ++ newest_first f (cond (e l) (c l) [])) ++ (rest ++ ((Z ++ newest_first f (cond (e l) [] (c l))) ++ ys)))
    by_case true is more =
        rw is
        (then ((numbers f c ls ++ N) ++ (rest ++ ys)) (E ++ ((N ++ rest) ++ (Z ++ ys))) ((E ++ N) ++ (rest ++ ((Z ++ []) ++ ys)))
        (then ((numbers f c ls ++ N) ++ (rest ++ ys)) (numbers f c ls ++ ((N ++ rest) ++ ys)) (E ++ ((N ++ rest) ++ (Z ++ ys)))
        (equal _ _ (simp append_assoc))
        (more (N ++ rest) ys))
        (equal _ _ (simp (append_assoc, append-nil))))
    by_case false is more =
        rw is
        (then ((numbers f c ls ++ N) ++ (rest ++ ys)) (numbers f c ls ++ (rest ++ (N ++ ys))) ((E ++ []) ++ (rest ++ ((Z ++ N) ++ ys)))
        (then ((numbers f c ls ++ N) ++ (rest ++ ys)) (numbers f c ls ++ (N ++ (rest ++ ys))) (numbers f c ls ++ (rest ++ (N ++ ys)))
        (equal _ _ (append_assoc (numbers f c ls) N (rest ++ ys)))
        (joined_right (numbers f c ls) (N ++ (rest ++ ys)) (rest ++ (N ++ ys)) (zeros_move f (c l) rest ys (h 0 (omega arith) is))))
        (then (numbers f c ls ++ (rest ++ (N ++ ys))) (E ++ (rest ++ (Z ++ (N ++ ys)))) ((E ++ []) ++ (rest ++ ((Z ++ N) ++ ys)))
        (more rest (N ++ ys))
        (equal _ _ (simp (append_assoc, append-nil)))))
