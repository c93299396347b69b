-- What each kind of event does to a round.
use Rattle.std.proofs.Common.{◌≡◌, ◌≢◌, ℕ, ◌<◌, Bool, false, List, [], ◌∷◌, ◌++◌, length, get_or, sym, append_assoc, ⊎_elim}
use Rattle.std.specs.List.{filter, flat_map}
use Rattle.std.proofs.lemmas.List.{append-nil}
use Rattle.std.proofs.lemmas.Bool.{cases_eq}
use Rattle.group_view.specs.Ring.{last_or}
use Rattle.ring_rules.specs.Machine.{Packet, Link, no_link}
use Rattle.ring_rules.proofs.walks.CountedWalk.{block, round, numbers, only, no_but}
use Rattle.ring_rules.proofs.rings.Weakens.{Weakens, same, equal, then, joined, joined_right, joined_left, under, lose_one, lose_second, repeat}
use Rattle.ring_rules.proofs.walks.Links.{numbers_split, AllZero}
use Rattle.ring_rules.proofs.rings.Rounds.{Steps-map, front, round_back, blocks_lost, owner_lost}
use Rattle.ring_rules.proofs.rings.Ring.{Follows, IsBefore}

-- ---- a packet goes on a link of the running x to z: its number stands directly after x's own

pub front_step : (m m' : ℕ → List ℕ) (f f' : ℕ → ℕ) (x z a b : ℕ) → ((q : ℕ) → f' q ≡ f q) → ((q : ℕ) → q ≢ z → m' q ≡ m q) → m' z ≡ f x ∷ m z → IsBefore x z a b → Weakens (f a ∷ m b) (f' a ∷ m' b)
front_step m m' f f' x z a b hf hm mz h =
    ⊎_elim
    (λ (is : b ≡ z). rw (hf a, is, mz, h is) (repeat (f x) (m z)))
    (λ (no : b ≢ z). rw (hf a, hm b no) (same (f a ∷ m b)))
    (cases_eq b z)

pub round_front : (e e' m m' l l' : ℕ → List ℕ) (f f' : ℕ → ℕ) (x z y : ℕ) (ys : List ℕ) → ((q : ℕ) → f' q ≡ f q) → ((q : ℕ) → e' q ≡ e q) → ((q : ℕ) → q ≢ z → m' q ≡ m q) → m' z ≡ f x ∷ m z → ((q : ℕ) → q ≢ z → l' q ≡ l q) → l' z ≡ f x ∷ l z → Follows x z y ys → Weakens (round e f m l (y ∷ ys)) (round e' f' m' l' (y ∷ ys))
round_front e e' m m' l l' f f' x z y ys hf he hm mz hl lz h =
    joined (e y) (e' y) (f y ∷ (flat_map (block m f) ys ++ l y)) (f' y ∷ (flat_map (block m' f') ys ++ l' y))
    (equal (e y) (e' y) (sym (he y)))
    (front m m' f f' (l y) (l' y) y ys
    (Steps-map (IsBefore x z) (λ a b. Weakens (f a ∷ m b) (f' a ∷ m' b)) y ys (λ a b k. front_step m m' f f' x z a b hf hm mz k) h.steps)
    (front_step l l' f f' x z (last_or y ys) y hf hl lz h.round))

-- ---- a take by y, of a packet whose number is k

-- its block loses its old number
pub take_block : (m m' : ℕ → List ℕ) (f f' : ℕ → ℕ) (y k : ℕ) → ((x : ℕ) → x ≢ y → f' x ≡ f x) → f' y ≡ k → ((x : ℕ) → x ≢ y → m' x ≡ m x) → m y ≡ m' y ++ k ∷ [] → (q : ℕ) → Weakens (block m f q) (block m' f' q)
take_block m m' f f' y k hf fy hm my q =
    ⊎_elim
    (λ (is : q ≡ y). rw (is, my, fy) (lose_second (m' y ++ k ∷ []) (f y ∷ [])))
    (λ (no : q ≢ y). rw (hm q no, hf q no) (same (block m f q)))
    (cases_eq q y)

-- at a member that isn't the owner
pub round_take : (e e' m m' l l' : ℕ → List ℕ) (f f' : ℕ → ℕ) (y k q : ℕ) (qs : List ℕ) → q ≢ y → ((x : ℕ) → x ≢ y → f' x ≡ f x) → f' y ≡ k → ((x : ℕ) → x ≢ y → m' x ≡ m x) → m y ≡ m' y ++ k ∷ [] → ((x : ℕ) → x ≢ y → e' x ≡ e x) → ((x : ℕ) → x ≢ y → l' x ≡ l x) → Weakens (round e f m l (q ∷ qs)) (round e' f' m' l' (q ∷ qs))
round_take e e' m m' l l' f f' y k q qs qy hf fy hm my he hl =
    round_back e e' m m' l l' f f' q qs (take_block m m' f f' y k hf fy hm my)
    (rw (he q qy, hf q qy) (same (block e f q)))
    (rw (hl q qy) (same (l q)))

-- at the owner, of an early packet
pub round_take_early : (e e' m m' l l' : ℕ → List ℕ) (f f' : ℕ → ℕ) (y k : ℕ) (qs : List ℕ) → ((x : ℕ) → x ≢ y → f' x ≡ f x) → f' y ≡ k → ((x : ℕ) → x ≢ y → m' x ≡ m x) → m y ≡ m' y ++ k ∷ [] → e y ≡ e' y ++ k ∷ [] → l' y ≡ l y → Weakens (round e f m l (y ∷ qs)) (round e' f' m' l' (y ∷ qs))
round_take_early e e' m m' l l' f f' y k qs hf fy hm my ey ly =
    round_back e e' m m' l l' f f' y qs (take_block m m' f f' y k hf fy hm my)
    (rw (ey, fy) (lose_second (e' y ++ k ∷ []) (f y ∷ [])))
    (rw ly (same (l y)))

-- at the owner, of a late packet that says nothing of the origin
pub round_take_nothing : (e e' m m' l l' : ℕ → List ℕ) (f f' : ℕ → ℕ) (y k : ℕ) (qs : List ℕ) → ((x : ℕ) → x ≢ y → f' x ≡ f x) → f' y ≡ k → f y ≡ k → ((x : ℕ) → x ≢ y → m' x ≡ m x) → m y ≡ m' y ++ k ∷ [] → e' y ≡ e y → l y ≡ l' y ++ k ∷ [] → Weakens (round e f m l (y ∷ qs)) (round e' f' m' l' (y ∷ qs))
round_take_nothing e e' m m' l l' f f' y k qs hf fy was hm my ey ly =
    round_back e e' m m' l l' f f' y qs (take_block m m' f f' y k hf fy hm my)
    (rw (ey, fy, was) (same (e y ++ k ∷ [])))
    (rw ly (lose_second (l' y) (k ∷ [])))

-- at the owner, where the packet has come round: got's last number takes the place of forgot's first, and forgot's last that of retired
pub walk_take_round : (g g' h h' : List ℕ) (k kf y r : ℕ) → g ≡ g' ++ k ∷ [] → h ≡ h' ++ kf ∷ [] → Weakens (g ++ ((y ∷ h) ++ r ∷ [])) (g' ++ ((k ∷ h') ++ kf ∷ []))
walk_take_round g g' h h' k kf y r eg eh =
    then (g ++ ((y ∷ h) ++ r ∷ [])) (g' ++ (k ∷ ((h' ++ kf ∷ []) ++ r ∷ []))) (g' ++ ((k ∷ h') ++ kf ∷ []))
    (rw (eg, eh)
    (then ((g' ++ k ∷ []) ++ (y ∷ ((h' ++ kf ∷ []) ++ r ∷ []))) (g' ++ (k ∷ (y ∷ ((h' ++ kf ∷ []) ++ r ∷ [])))) (g' ++ (k ∷ ((h' ++ kf ∷ []) ++ r ∷ [])))
    (equal _ _ (append_assoc g' (k ∷ []) (y ∷ ((h' ++ kf ∷ []) ++ r ∷ []))))
    (joined_right g' (k ∷ (y ∷ ((h' ++ kf ∷ []) ++ r ∷ []))) (k ∷ ((h' ++ kf ∷ []) ++ r ∷ []))
    (under k (y ∷ ((h' ++ kf ∷ []) ++ r ∷ [])) ((h' ++ kf ∷ []) ++ r ∷ []) (lose_one y ((h' ++ kf ∷ []) ++ r ∷ []))))))
    (joined_right g' (k ∷ ((h' ++ kf ∷ []) ++ r ∷ [])) (k ∷ (h' ++ kf ∷ []))
    (under k ((h' ++ kf ∷ []) ++ r ∷ []) (h' ++ kf ∷ []) (lose_second (h' ++ kf ∷ []) (r ∷ []))))

-- ---- a stop

-- of a member that isn't the owner, where the others' blocks stay
pub round_lost : (e m l : ℕ → List ℕ) (f : ℕ → ℕ) (t : ℕ → Bool) (y : ℕ) (ys : List ℕ) → Weakens (round e f m l (y ∷ ys)) (round e f m l (y ∷ filter t ys))
round_lost e m l f t y ys =
    joined_right (e y) (f y ∷ (flat_map (block m f) ys ++ l y)) (f y ∷ (flat_map (block m f) (filter t ys) ++ l y))
    (under (f y) (flat_map (block m f) ys ++ l y) (flat_map (block m f) (filter t ys) ++ l y)
    (joined_left (flat_map (block m f) ys) (flat_map (block m f) (filter t ys)) (l y) (blocks_lost m f t ys)))

-- of the owner: the next one's packets are told apart anew, and those that are late now say nothing of the origin
pub round_owner : (e m l : ℕ → List ℕ) (f : ℕ → ℕ) (x y : ℕ) (ys : List ℕ) (g : Packet → ℕ) (c : Link → List Packet) (early : Link → Bool) (ls : List Link) → m y ≡ numbers g c ls → ((j : ℕ) → j < length ls → early (get_or ls j no_link) ≡ false → AllZero g (c (get_or ls j no_link))) → Weakens (round e f m l (x ∷ (y ∷ ys))) (numbers g (only early c) ls ++ (f y ∷ (flat_map (block m f) ys ++ numbers g (no_but early c) ls)))
round_owner e m l f x y ys g c early ls my h =
    then (round e f m l (x ∷ (y ∷ ys))) ((m y ++ f y ∷ []) ++ flat_map (block m f) ys) (numbers g (only early c) ls ++ (f y ∷ (flat_map (block m f) ys ++ numbers g (no_but early c) ls)))
    (owner_lost e m l f x (y ∷ ys))
    (then ((m y ++ f y ∷ []) ++ flat_map (block m f) ys) (numbers g c ls ++ ((f y ∷ flat_map (block m f) ys) ++ [])) (numbers g (only early c) ls ++ (f y ∷ (flat_map (block m f) ys ++ numbers g (no_but early c) ls)))
    (equal _ _ (rw my (simp (append_assoc, append-nil))))
    (then (numbers g c ls ++ ((f y ∷ flat_map (block m f) ys) ++ [])) (numbers g (only early c) ls ++ ((f y ∷ flat_map (block m f) ys) ++ (numbers g (no_but early c) ls ++ []))) (numbers g (only early c) ls ++ (f y ∷ (flat_map (block m f) ys ++ numbers g (no_but early c) ls)))
    (numbers_split g early c ls (f y ∷ flat_map (block m f) ys) [] h)
    (equal _ _ (simp append-nil))))
