-- A stop loses a member's block; where the owner stops, the next one's packets are told apart anew.
use Rattle.std.proofs.Common.{◌≡◌, ◌≢◌, ℕ, ◌<◌, Bool, true, false, cond, List, [], ◌∷◌, ◌++◌, length, refl, sym, ap, subst, ◌∙◌, arith, nat_eq, append_assoc}
use Rattle.std.specs.List.{filter, flat_map}
use Rattle.group_view.specs.Ring.{rotated, is_in, AreDistinct}
use Rattle.ring_rules.specs.Rows.{Row}
use Rattle.ring_rules.specs.declared.numbers.Numbers.{Numbers}
use Rattle.ring_rules.specs.Machine.{Packet, Link, World, no_member, row_at, numbers_at, member_at, link_at, ring, runs, is_kept, runs_phase}
use Rattle.ring_rules.proofs.walks.CountedWalk.{numbers, only, no_but, counted_by, counted, block, is_early, round_of, stopped_from, running_from, stopped_prefix, walk_over, walk}
use Rattle.ring_rules.specs.OpenLinks.{own_number, number}
use Rattle.ring_rules.specs.Step.{size, stopped, stop_at}
use Rattle.ring_rules.proofs.rings.Lists.{at_set}
use Rattle.ring_rules.proofs.rings.Weakens.{FallsTo, FallsTo-append, Weakens, equal, joined, then, lose_second}
use Rattle.ring_rules.proofs.walks.Links.{numbers_agree, AllZero}
use Rattle.group_view.proofs.Rings.{nat_eq-same, nat_eq-not, head_differs, tail_lacks}
use Rattle.ring_rules.proofs.walks.Edits.{round_lost, round_owner}
use Rattle.ring_rules.proofs.rings.Ring.{not_among}
use Rattle.ring_rules.proofs.walks.Take.{blocks_same, head_once}

abbrev pub is_not : ℕ → ℕ → Bool
is_not x q = cond (nat_eq q x) false true

pub stop_runs : (w : World) (x q : ℕ) → x < size w → runs (stop_at w x) q ≡ cond (nat_eq q x) false (runs w q)
stop_runs w x q lt =
    at_set (λ k z. runs_phase z.phase ≡ cond (nat_eq k x) false (runs w k)) w.members x q (stopped (member_at w x)) no_member lt
    (rw (nat_eq-same x) refl) (λ differs. rw (nat_eq-not q x differs) refl)

-- those that still run
pub filter_less : (r r' : ℕ → Bool) (x : ℕ) (c : List ℕ) → ((q : ℕ) → r' q ≡ cond (nat_eq q x) false (r q)) → filter r' c ≡ filter (is_not x) (filter r c)
filter_less r r' x [] h = refl
filter_less r r' x (q ∷ qs) h = rw (h q) (by_case (nat_eq q x) (r q) refl (filter_less r r' x qs h))
  where
    by_case : (a b : Bool) → nat_eq q x ≡ a → filter r' qs ≡ filter (is_not x) (filter r qs) → cond (cond a false b) (q ∷ filter r' qs) (filter r' qs) ≡ filter (is_not x) (cond b (q ∷ filter r qs) (filter r qs))
    by_case true true ea ih = rw ea ih
    by_case true false ea ih = ih
    by_case false true ea ih = rw ea (ap (λ us. q ∷ us) ih)
    by_case false false ea ih = ih

pub filter_lacks : (x : ℕ) (ys : List ℕ) → is_in x ys ≡ false → filter (is_not x) ys ≡ ys
filter_lacks x [] h = refl
filter_lacks x (y ∷ ys) h =
    rw (nat_eq-not y x (head_differs x y ys h)) (ap (λ us. y ∷ us) (filter_lacks x ys (tail_lacks x y ys h)))

-- the stopped ones before the owner are the same where another stops
pub prefix_stays : (r r' : ℕ → Bool) (x y : ℕ) (ys c : List ℕ) → ((q : ℕ) → r' q ≡ cond (nat_eq q x) false (r q)) → filter r c ≡ y ∷ ys → y ≢ x → stopped_prefix r' c ≡ stopped_prefix r c
prefix_stays r r' x y ys [] h e d = refl
prefix_stays r r' x y ys (q ∷ qs) h e d = rw (h q) (by_case (r q) refl e (λ k. prefix_stays r r' x y ys qs h k d))
  where
    by_case : (b : Bool) → r q ≡ b → cond b (q ∷ filter r qs) (filter r qs) ≡ y ∷ ys → (filter r qs ≡ y ∷ ys → stopped_prefix r' qs ≡ stopped_prefix r qs) → cond (cond (nat_eq q x) false b) [] (q ∷ stopped_prefix r' qs) ≡ cond b [] (q ∷ stopped_prefix r qs)
    by_case true eb k ih =
        let is : q ≡ y = cc in
        rw (nat_eq-not q x (λ z. d (sym is ∙ z))) refl
    by_case false eb k ih = in_case (nat_eq q x)
      where
        in_case : (a : Bool) → cond (cond a false false) [] (q ∷ stopped_prefix r' qs) ≡ q ∷ stopped_prefix r qs
        in_case true = ap (λ us. q ∷ us) (ih k)
        in_case false = ap (λ us. q ∷ us) (ih k)

-- ---- the others are as before

pub stop_counted : (w : World) (x q : ℕ) (l : Link) → x < size w → q ≢ x → counted (stop_at w x) q l ≡ counted w q l
stop_counted w x q l lt d = at_set (λ k z. k ≢ x → counted_by (is_kept w) k z l ≡ counted w k l) w.members x q (stopped (member_at w x)) no_member lt (λ n. absurd (n refl)) (λ _ _. refl) d

pub stop_number : (g : Numbers → ℕ) (r : Row → ℕ) (w : World) (x p q : ℕ) → x < size w → q ≢ x → number g r (stop_at w x) p q ≡ number g r w p q
stop_number g r w x p q lt d = at_set (λ k z. k ≢ x → own_number g r w p z.phase z ≡ number g r w p k) w.members x q (stopped (member_at w x)) no_member lt (λ n. absurd (n refl)) (λ _ _. refl) d

pub stop_retired : (w : World) (x p q : ℕ) → x < size w → (row_at (member_at (stop_at w x) q) p).retired ≡ (row_at (member_at w q) p).retired
stop_retired w x p q lt = at_set (λ k z. (row_at z p).retired ≡ (row_at (member_at w k) p).retired) w.members x q (stopped (member_at w x)) no_member lt refl (λ _. refl)

pub stop_numbers : (f : Packet → ℕ) (w : World) (x q : ℕ) → x < size w → q ≢ x → numbers f (counted (stop_at w x) q) w.links ≡ numbers f (counted w q) w.links
stop_numbers f w x q lt d = numbers_agree f (counted (stop_at w x) q) (counted w q) w.links (λ j _. stop_counted w x q (link_at w j) lt d)

pub stop_numbers_early : (f : Packet → ℕ) (early : Link → Bool) (w : World) (x q : ℕ) → x < size w → q ≢ x → numbers f (only early (counted (stop_at w x) q)) w.links ≡ numbers f (only early (counted w q)) w.links
stop_numbers_early f early w x q lt d = numbers_agree f (only early (counted (stop_at w x) q)) (only early (counted w q)) w.links (λ j _. ap (λ c. cond (early (link_at w j)) c []) (stop_counted w x q (link_at w j) lt d))

pub stop_numbers_late : (f : Packet → ℕ) (early : Link → Bool) (w : World) (x q : ℕ) → x < size w → q ≢ x → numbers f (no_but early (counted (stop_at w x) q)) w.links ≡ numbers f (no_but early (counted w q)) w.links
stop_numbers_late f early w x q lt d = numbers_agree f (no_but early (counted (stop_at w x) q)) (no_but early (counted w q)) w.links (λ j _. ap (λ c. cond (early (link_at w j)) [] c) (stop_counted w x q (link_at w j) lt d))

-- a round over members of which none stops
pub stop_round_same : (g : Numbers → ℕ) (r : Row → ℕ) (w : World) (x p y : ℕ) (st ys : List ℕ) → x < size w → y ≢ x → is_in x ys ≡ false → round_of g r (stop_at w x) p st (y ∷ ys) ≡ round_of g r w p st (y ∷ ys)
stop_round_same g r w x p y st ys lt d n =
    let f : Packet → ℕ = λ k. g (numbers_at k p) in
    let w' : World = stop_at w x in
    let b : flat_map (block (λ q. numbers f (counted w' q) w.links) (number g r w' p)) ys ≡ flat_map (block (λ q. numbers f (counted w q) w.links) (number g r w p)) ys =
    blocks_same (λ q. numbers f (counted w q) w.links) (λ q. numbers f (counted w' q) w.links) (number g r w p) (number g r w' p) x ys n (λ q e. stop_numbers f w x q lt e) (λ q e. stop_number g r w x p q lt e) in
    rw (stop_numbers_early f (is_early st) w x y lt d, stop_numbers_late f (is_early st) w x y lt d, stop_number g r w x p y lt d, b) refl

-- ---- another than the owner stops

pub stop_round_other : (g : Numbers → ℕ) (r : Row → ℕ) (w : World) (x p y : ℕ) (st ys : List ℕ) → x < size w → y ≢ x → Weakens (round_of g r w p st (y ∷ ys)) (round_of g r (stop_at w x) p st (y ∷ filter (is_not x) ys))
stop_round_other g r w x p y st ys lt d =
    let f : Packet → ℕ = λ k. g (numbers_at k p) in
    let none : is_in x (filter (is_not x) ys) ≡ false = not_among (is_not x) x ys (rw (nat_eq-same x) refl) in
    then (round_of g r w p st (y ∷ ys)) (round_of g r w p st (y ∷ filter (is_not x) ys)) (round_of g r (stop_at w x) p st (y ∷ filter (is_not x) ys))
    (round_lost (λ q. numbers f (only (is_early st) (counted w q)) w.links) (λ q. numbers f (counted w q) w.links) (λ q. numbers f (no_but (is_early st) (counted w q)) w.links) (number g r w p) (is_not x) y ys)
    (equal _ _ (sym (stop_round_same g r w x p y st (filter (is_not x) ys) lt d none)))

pub stop_running : (w : World) (x p : ℕ) → x < size w → running_from (stop_at w x) p ≡ filter (is_not x) (running_from w p)
stop_running w x p lt = filter_less (runs w) (runs (stop_at w x)) x (rotated p (ring w)) (λ q. stop_runs w x q lt)

pub stop_walk_other : (w : World) (x p y : ℕ) (ys : List ℕ) → x < size w → running_from w p ≡ y ∷ ys → y ≢ x → Weakens (walk w p) (walk (stop_at w x) p)
stop_walk_other w x p y ys lt e d =
    let w' : World = stop_at w x in
    let st : List ℕ = stopped_from w p in
    let es : stopped_from w' p ≡ st = prefix_stays (runs w) (runs w') x y ys (rotated p (ring w)) (λ q. stop_runs w x q lt) e d in
    let er : running_from w' p ≡ y ∷ filter (is_not x) ys = stop_running w x p lt ∙ ap (filter (is_not x)) e ∙ rw (nat_eq-not y x d) refl in
    subst (λ us. Weakens (walk_over w p st us) (walk_over w' p (stopped_from w' p) (running_from w' p))) (sym e)
    (subst (λ vs. Weakens (walk_over w p st (y ∷ ys)) (walk_over w' p vs (running_from w' p))) (sym es)
    (subst (λ us. Weakens (walk_over w p st (y ∷ ys)) (walk_over w' p st us)) (sym er)
    (joined _ _ _ _
    (stop_round_other (λ k. k.got) (λ a. a.got) w x p y st ys lt d)
    (joined _ _ _ _ (stop_round_other (λ k. k.forgot) (λ a. a.forgot) w x p y st ys lt d)
    (equal _ _ (ap (λ a. a ∷ []) (sym (stop_retired w x p y lt))))))))

-- ---- the owner stops

-- what the next member holds of links that aren't early now says nothing of the origin
abbrev pub LateIsZero : World → ℕ → ℕ → List ℕ → Type 0
LateIsZero w p y st = (j : ℕ) → j < length w.links → is_early st (link_at w j) ≡ false → AllZero (λ k. (numbers_at k p).got) (counted w y (link_at w j)) × AllZero (λ k. (numbers_at k p).forgot) (counted w y (link_at w j))

pub stop_round_owner : (g : Numbers → ℕ) (r : Row → ℕ) (w : World) (x p y : ℕ) (st st' ys : List ℕ) → x < size w → y ≢ x → is_in x ys ≡ false → ((j : ℕ) → j < length w.links → is_early st' (link_at w j) ≡ false → AllZero (λ k. g (numbers_at k p)) (counted w y (link_at w j))) → Weakens (round_of g r w p st (x ∷ (y ∷ ys))) (round_of g r (stop_at w x) p st' (y ∷ ys))
stop_round_owner g r w x p y st st' ys lt d n zeros =
    let f : Packet → ℕ = λ k. g (numbers_at k p) in
    then (round_of g r w p st (x ∷ (y ∷ ys))) (round_of g r w p st' (y ∷ ys)) (round_of g r (stop_at w x) p st' (y ∷ ys))
    (round_owner (λ q. numbers f (only (is_early st) (counted w q)) w.links) (λ q. numbers f (counted w q) w.links) (λ q. numbers f (no_but (is_early st) (counted w q)) w.links) (number g r w p) x y ys f (counted w y) (is_early st') w.links refl zeros)
    (equal _ _ (sym (stop_round_same g r w x p y st' ys lt d n)))

pub zero_ends : (a : ℕ) (xs : List ℕ) → FallsTo a xs 0 → FallsTo a (xs ++ 0 ∷ []) 0
zero_ends a xs h = FallsTo-append a xs 0 (0 ∷ []) 0 h (omega arith, omega arith)

pub stop_walk_owner : (w : World) (x p : ℕ) (ys : List ℕ) (a : ℕ) → x < size w → AreDistinct (ring w) → is_in x (ring w) ≡ true → runs w x ≡ true → running_from w p ≡ x ∷ ys → ((y : ℕ) (us : List ℕ) → ys ≡ y ∷ us → (LateIsZero w p y (stopped_from (stop_at w x) p)) × ((row_at (member_at w y) p).retired ≡ 0)) → FallsTo a (walk w p) 0 → FallsTo a (walk (stop_at w x) p) 0
stop_walk_owner w x p ys a lt dis inring rx e known h =
    let once : is_in x ys ≡ false = head_once (runs w) x p ys (ring w) dis inring rx e in
    let er : running_from (stop_at w x) p ≡ ys = stop_running w x p lt ∙ ap (filter (is_not x)) e ∙ rw (nat_eq-same x) (filter_lacks x ys once) in
    subst (λ us. FallsTo a (walk_over (stop_at w x) p (stopped_from (stop_at w x) p) us) 0) (sym er)
    (by_rest ys once known (subst (λ us. FallsTo a (walk_over w p (stopped_from w p) us) 0) e h))
  where
    by_rest : (ys : List ℕ) → is_in x ys ≡ false → ((y : ℕ) (us : List ℕ) → ys ≡ y ∷ us → (LateIsZero w p y (stopped_from (stop_at w x) p)) × ((row_at (member_at w y) p).retired ≡ 0)) → FallsTo a (walk_over w p (stopped_from w p) (x ∷ ys)) 0 → FallsTo a (walk_over (stop_at w x) p (stopped_from (stop_at w x) p) ys) 0
    by_rest [] n k f = omega arith
    by_rest (y ∷ us) n k f =
        let w' : World = stop_at w x in
        let st : List ℕ = stopped_from w p in
        let st' : List ℕ = stopped_from w' p in
        let d : y ≢ x = head_differs x y us n in
        let nu : is_in x us ≡ false = tail_lacks x y us n in
        let old : List ℕ = round_of (λ k. k.got) (λ r. r.got) w p st (x ∷ (y ∷ us)) ++ round_of (λ k. k.forgot) (λ r. r.forgot) w p st (x ∷ (y ∷ us)) in
        let new : List ℕ = round_of (λ k. k.got) (λ r. r.got) w' p st' (y ∷ us) ++ round_of (λ k. k.forgot) (λ r. r.forgot) w' p st' (y ∷ us) in
        let weak : Weakens old new =
        joined _ _ _ _
        (stop_round_owner (λ k. k.got) (λ r. r.got) w x p y st st' us lt d nu (λ j l c. ((k y us refl).0 j l c).0))
        (stop_round_owner (λ k. k.forgot) (λ r. r.forgot) w x p y st st' us lt d nu (λ j l c. ((k y us refl).0 j l c).1)) in
        let zero_now : (row_at (member_at w' y) p).retired ≡ 0 = stop_retired w x p y lt ∙ (k y us refl).1 in
        let cut : FallsTo a old 0 =
        lose_second old ((row_at (member_at w x) p).retired ∷ []) a 0
        (subst (λ xs. FallsTo a xs 0) (sym (append_assoc (round_of (λ k. k.got) (λ r. r.got) w p st (x ∷ (y ∷ us))) (round_of (λ k. k.forgot) (λ r. r.forgot) w p st (x ∷ (y ∷ us))) ((row_at (member_at w x) p).retired ∷ []))) f) in
        subst (λ xs. FallsTo a xs 0) (append_assoc (round_of (λ k. k.got) (λ r. r.got) w' p st' (y ∷ us)) (round_of (λ k. k.forgot) (λ r. r.forgot) w' p st' (y ∷ us)) ((row_at (member_at w' y) p).retired ∷ []))
        (subst (λ z. FallsTo a (new ++ z ∷ []) 0) (sym zero_now) (zero_ends a new (weak a 0 cut)))
