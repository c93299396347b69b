-- Links that come to a member, one after another.
use Rattle.std.proofs.Common.{◌≡◌, ℕ, ◌++◌, ◌∷◌, [], List, Bool, true, false, cond, map, refl, sym, ap, ◌∙◌, append_assoc}
use Rattle.std.specs.Prelude.{◌&&◌}
use Rattle.std.specs.List.{filter}
use Rattle.ring_names.specs.declared.numbers.CreditSpec.{CreditSpec}
use Rattle.group_view.specs.Link.{is_ring}
use Rattle.group_view.specs.View.{Group}
use Rattle.group_view.specs.declared.request.Deposited.{Deposited}
use Rattle.gm_member.specs.Held.{Incoming, fresh_in, stays}
use Rattle.gm_member.specs.View.{in_of, end_of}
use Rattle.gm_member.specs.Arrivals.{is_ring_link, joins, arrived_link, joined_links, given_end}

-- one more of those that a test lets through
pub came_more : {A B : Type 0} (p : A → Bool) (f : A → B) (x : A) (rest : List A) (zs : List B) → (zs ++ cond (p x) (f x ∷ []) []) ++ map f (filter p rest) ≡ zs ++ map f (filter p (x ∷ rest))
came_more p f x rest zs = append_assoc zs (cond (p x) (f x ∷ []) []) (map f (filter p rest)) ∙ ap (λ ys. zs ++ ys) (by_case (p x))
  where
    by_case : (b : Bool) → cond b (f x ∷ []) [] ++ map f (filter p rest) ≡ map f (cond b (x ∷ filter p rest) (filter p rest))
    by_case true = refl
    by_case false = refl

module _ {I : Type 0} where
  -- a link that has come, by the credit with which links open
  abbrev fresh_of : CreditSpec → Deposited I → Incoming
  fresh_of credit d = fresh_in credit.initial credit.more d.from.0 d.view

  -- what is shown of the links that join the door
  pub arrived_seen : (v : Group) (y : ℕ) (credit : CreditSpec) (links : List (Deposited I)) → map in_of (joined_links v y credit links) ≡ filter (stays v y) (map (fresh_of credit) (filter is_ring_link links))
  arrived_seen v y credit [] = refl
  arrived_seen v y credit (d ∷ ds) = one (is_ring d.kind) (stays v y (fresh_of credit d)) (arrived_seen v y credit ds) ∙ sym (seen (is_ring d.kind))
    where
      one : (b s : Bool) → map in_of (joined_links v y credit ds) ≡ filter (stays v y) (map (fresh_of credit) (filter is_ring_link ds))
          → map in_of (map (arrived_link credit) (cond (b && s) (d ∷ filter (joins v y) ds) (filter (joins v y) ds)))
          ≡ cond b (cond s (fresh_of credit d ∷ filter (stays v y) (map (fresh_of credit) (filter is_ring_link ds))) (filter (stays v y) (map (fresh_of credit) (filter is_ring_link ds)))) (filter (stays v y) (map (fresh_of credit) (filter is_ring_link ds)))
      one true true h = ap (λ zs. fresh_of credit d ∷ zs) h
      one true false h = h
      one false s h = h

      seen : (b : Bool) → filter (stays v y) (map (fresh_of credit) (cond b (d ∷ filter is_ring_link ds) (filter is_ring_link ds)))
          ≡ cond b (cond (stays v y (fresh_of credit d)) (fresh_of credit d ∷ filter (stays v y) (map (fresh_of credit) (filter is_ring_link ds))) (filter (stays v y) (map (fresh_of credit) (filter is_ring_link ds)))) (filter (stays v y) (map (fresh_of credit) (filter is_ring_link ds)))
      seen true = refl
      seen false = refl

  -- and their ends
  given_seen : (credit : CreditSpec) (links : List (Deposited I)) → map end_of (map (arrived_link credit) links) ≡ map given_end links
  given_seen credit [] = refl
  given_seen credit (d ∷ ds) = ap (λ zs. given_end d ∷ zs) (given_seen credit ds)

  pub ends_seen : (v : Group) (y : ℕ) (credit : CreditSpec) (links : List (Deposited I)) → map end_of (joined_links v y credit links) ≡ map given_end (filter (joins v y) links)
  ends_seen v y credit links = given_seen credit (filter (joins v y) links)
