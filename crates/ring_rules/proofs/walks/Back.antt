-- Steps that keep the running members and edit each block by itself.
use Rattle.std.proofs.Common.{◌≡◌, ℕ, Bool, true, false, cond, List, [], ◌∷◌, length, refl, sym, ap, subst, ◌∙◌}
use Rattle.std.specs.List.{filter}
use Rattle.std.proofs.lemmas.List.Elements.{filter_agree}
use Rattle.group_view.specs.Ring.{rotated, is_in}
use Rattle.ring_rules.specs.Rows.{Row}
use Rattle.ring_rules.specs.declared.numbers.Numbers.{Numbers}
use Rattle.ring_rules.specs.Machine.{Packet, Link, World, row_at, numbers_at, member_at, link_at, ring, runs}
use Rattle.ring_rules.proofs.walks.CountedWalk.{numbers, only, no_but, counted, is_early, round_of, retired_by, stopped_from, running_from, stopped_prefix, walk_over, walk}
use Rattle.ring_rules.specs.OpenLinks.{number}
use Rattle.ring_rules.proofs.rings.Weakens.{Weakens, same, equal, joined}
use Rattle.ring_rules.proofs.walks.Links.{IsOr, kept, numbers_closed}
use Rattle.ring_rules.proofs.rings.Rounds.{round_back}

pub prefix_agree : (r r' : ℕ → Bool) (xs : List ℕ) → ((q : ℕ) → r' q ≡ r q) → stopped_prefix r' xs ≡ stopped_prefix r xs
prefix_agree r r' [] h = refl
prefix_agree r r' (x ∷ xs) h = rw (h x, prefix_agree r r' xs h) refl

-- the walk of w' over the members that run in w
pub same_runners : (w w' : World) (p : ℕ) → ring w' ≡ ring w → ((q : ℕ) → runs w' q ≡ runs w q) → walk_over w' p (stopped_from w p) (running_from w p) ≡ walk w' p
same_runners w w' p hr h =
    let s : stopped_from w p ≡ stopped_from w' p = sym (ap (λ c. stopped_prefix (runs w') (rotated p c)) hr ∙ prefix_agree (runs w) (runs w') (rotated p (ring w)) h) in
    let r : running_from w p ≡ running_from w' p = sym (ap (λ c. filter (runs w') (rotated p c)) hr ∙ filter_agree (runs w') (runs w) h (rotated p (ring w))) in
    ap (λ st. walk_over w' p st (running_from w p)) s ∙ ap (λ ys. walk_over w' p (stopped_from w' p) ys) r

pub IsOr-only : (b : Bool) (c' c : List Packet) → IsOr c' c → IsOr (cond b c' []) (cond b c [])
IsOr-only true c' c h = h
IsOr-only false c' c h = kept refl

pub IsOr-no_but : (b : Bool) (c' c : List Packet) → IsOr c' c → IsOr (cond b [] c') (cond b [] c)
IsOr-no_but true c' c h = kept refl
IsOr-no_but false c' c h = h

-- for origin p: the links stay, and of each either the same packets count as before or none
pub record Closes (w w' : World) (p : ℕ) : Type 0 where
  pub many : length w'.links ≡ length w.links
  pub senders : (j : ℕ) → (link_at w' j).sender ≡ (link_at w j).sender
  pub is_ring : ring w' ≡ ring w
  pub runs_same : (q : ℕ) → runs w' q ≡ runs w q
  pub counts : (q j : ℕ) → IsOr (counted w' q (link_at w' j)) (counted w q (link_at w j))
  pub own_got : (q : ℕ) → number (λ k. k.got) (λ r. r.got) w' p q ≡ number (λ k. k.got) (λ r. r.got) w p q
  pub own_forgot : (q : ℕ) → number (λ k. k.forgot) (λ r. r.forgot) w' p q ≡ number (λ k. k.forgot) (λ r. r.forgot) w p q
  pub retires : (q : ℕ) → (row_at (member_at w' q) p).retired ≡ (row_at (member_at w q) p).retired

pub early_same : (st : List ℕ) (l l' : Link) → l'.sender ≡ l.sender → is_early st l' ≡ is_early st l
early_same st l l' e = ap (λ s. is_in s st) e

pub closes_round : (g : Numbers → ℕ) (r : Row → ℕ) (w w' : World) (p : ℕ) (st ys : List ℕ) → Closes w w' p → ((q : ℕ) → number g r w' p q ≡ number g r w p q) → Weakens (round_of g r w p st ys) (round_of g r w' p st ys)
closes_round g r w w' p st [] h hn = same []
closes_round g r w w' p st (y ∷ ys) h hn =
    let f : Packet → ℕ = λ k. g (numbers_at k p) in
    let e : ℕ → List ℕ = λ q. numbers f (only (is_early st) (counted w q)) w.links in
    let m : ℕ → List ℕ = λ q. numbers f (counted w q) w.links in
    let l : ℕ → List ℕ = λ q. numbers f (no_but (is_early st) (counted w q)) w.links in
    let e' : ℕ → List ℕ = λ q. numbers f (only (is_early st) (counted w' q)) w'.links in
    let m' : ℕ → List ℕ = λ q. numbers f (counted w' q) w'.links in
    let l' : ℕ → List ℕ = λ q. numbers f (no_but (is_early st) (counted w' q)) w'.links in
    let he : (q : ℕ) → Weakens (e q) (e' q) = λ q.
    numbers_closed f (only (is_early st) (counted w q)) (only (is_early st) (counted w' q)) w.links w'.links h.many
    (λ j lt. subst (λ b. IsOr (cond b (counted w' q (link_at w' j)) []) (cond (is_early st (link_at w j)) (counted w q (link_at w j)) [])) (sym (early_same st (link_at w j) (link_at w' j) (h.senders j)))
    (IsOr-only (is_early st (link_at w j)) _ _ (h.counts q j))) in
    let hm : (q : ℕ) → Weakens (m q) (m' q) = λ q. numbers_closed f (counted w q) (counted w' q) w.links w'.links h.many (λ j lt. h.counts q j) in
    let hl : (q : ℕ) → Weakens (l q) (l' q) = λ q.
    numbers_closed f (no_but (is_early st) (counted w q)) (no_but (is_early st) (counted w' q)) w.links w'.links h.many
    (λ j lt. subst (λ b. IsOr (cond b [] (counted w' q (link_at w' j))) (cond (is_early st (link_at w j)) [] (counted w q (link_at w j)))) (sym (early_same st (link_at w j) (link_at w' j) (h.senders j)))
    (IsOr-no_but (is_early st (link_at w j)) _ _ (h.counts q j))) in
    let own : (q : ℕ) → Weakens (number g r w p q ∷ []) (number g r w' p q ∷ []) = λ q. equal _ _ (ap (λ a. a ∷ []) (sym (hn q))) in
    round_back e e' m m' l l' (number g r w p) (number g r w' p) y ys
    (λ q. joined (m q) (m' q) (number g r w p q ∷ []) (number g r w' p q ∷ []) (hm q) (own q))
    (joined (e y) (e' y) (number g r w p y ∷ []) (number g r w' p y ∷ []) (he y) (own y))
    (hl y)

pub retired_agree : (w w' : World) (p : ℕ) (ys : List ℕ) → Closes w w' p → retired_by w p ys ≡ retired_by w' p ys
retired_agree w w' p [] h = refl
retired_agree w w' p (y ∷ ys) h = ap (λ a. a ∷ []) (sym (h.retires y))

pub closes_walk : (w w' : World) (p : ℕ) → Closes w w' p → Weakens (walk w p) (walk w' p)
closes_walk w w' p h =
    let st : List ℕ = stopped_from w p in
    let ys : List ℕ = running_from w p in
    subst (λ xs. Weakens (walk w p) xs) (same_runners w w' p h.is_ring h.runs_same)
    (joined (round_of (λ k. k.got) (λ r. r.got) w p st ys) (round_of (λ k. k.got) (λ r. r.got) w' p st ys) _ _
    (closes_round (λ k. k.got) (λ r. r.got) w w' p st ys h h.own_got)
    (joined (round_of (λ k. k.forgot) (λ r. r.forgot) w p st ys) (round_of (λ k. k.forgot) (λ r. r.forgot) w' p st ys) (retired_by w p ys) (retired_by w' p ys)
    (closes_round (λ k. k.forgot) (λ r. r.forgot) w w' p st ys h h.own_forgot)
    (equal _ _ (retired_agree w w' p ys h))))
