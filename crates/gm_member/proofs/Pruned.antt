-- A door that is gone through link by link.
use Rattle.std.proofs.Common.{◌≡◌, ℕ, zero, suc, ◌+◌, ◌<◌, true, false, cond, List, [], ◌∷◌, ◌++◌, map, take, drop, length, refl, sym, ap, ◌∙◌, append_assoc, arith}
use Rattle.std.proofs.lemmas.List.{append-nil}
use Rattle.std.proofs.lemmas.List.Elements.{filter-append}
use Rattle.std.proofs.lemmas.Grind.{flat_map-append}
use Rattle.group_view.specs.View.{Group}
use Rattle.group_view.specs.declared.link.LinkName.{LinkName}
use Rattle.gm_member.specs.declared.links.InLink.{InLink}
use Rattle.gm_member.specs.Held.{stays, kept_door}
use Rattle.gm_member.specs.View.{in_of, stays_at, kept_one, left_one, kept_links, left_links}

-- the element at a place, with those before it and those behind it
record CutAt {A : Type 0} (xs : List A) (i : ℕ) : Type 0 where
  pub it : A
  pub behind : drop i xs ≡ it ∷ drop (suc i) xs
  pub before : take (suc i) xs ≡ take i xs ++ it ∷ []

cut_at : {A : Type 0} (xs : List A) (i : ℕ) → i < length xs → CutAt xs i
cut_at [] i l = absurd (omega (arith, l))
cut_at (x ∷ xs) zero l = record { it = x; behind = refl; before = refl }
cut_at (x ∷ xs) (suc i) l =
    let k : CutAt xs i = cut_at xs i (omega (arith, l)) in
    record { it = k.it; behind = k.behind; before = ap (λ zs. x ∷ zs) k.before }

module _ {I : Type 0} where
  -- what one more link does
  pub record Judged (v : Group) (y i : ℕ) (old door' : List (InLink I)) (left left' : List (LinkName × I)) : Type 0 where
    pub door : door' ≡ drop (i + 1) old ++ kept_links v y (take (i + 1) old)
    pub gone : left' ≡ left ++ left_links v y (take (i + 1) old)

  pub judged_more : (v : Group) (y i : ℕ) (old door door' : List (InLink I)) (first left left' : List (LinkName × I)) → i < length old
      → door ≡ drop i old ++ kept_links v y (take i old) → left ≡ first ++ left_links v y (take i old)
      → ((x : InLink I) (rest : List (InLink I)) → door ≡ x ∷ rest → (door' ≡ rest ++ kept_one v y x) × (left' ≡ left ++ left_one v y x))
      → Judged v y i old door' first left'
  judged_more v y i old door door' first left left' l ed el h =
      let k : CutAt old i = cut_at old i l in
      let next : suc i ≡ i + 1 = omega arith in
      let behind : drop i old ≡ k.it ∷ drop (i + 1) old = k.behind ∙ ap (λ n. k.it ∷ drop n old) next in
      let before : take (i + 1) old ≡ take i old ++ k.it ∷ [] = ap (λ n. take n old) (sym next) ∙ k.before in
      let j = h k.it (drop (i + 1) old ++ kept_links v y (take i old)) (ed ∙ ap (λ zs. zs ++ kept_links v y (take i old)) behind) in
      record {
        door =
            j.0 ∙ append_assoc (drop (i + 1) old) (kept_links v y (take i old)) (kept_one v y k.it)
            ∙ ap (λ zs. drop (i + 1) old ++ zs) (sym (filter-append (stays_at v y) (take i old) (k.it ∷ [])) ∙ ap (kept_links v y) (sym before));
        gone =
            j.1 ∙ ap (λ zs. zs ++ left_one v y k.it) el ∙ append_assoc first (left_links v y (take i old)) (left_one v y k.it)
            ∙ ap (λ zs. first ++ zs)
            (ap (λ zs. left_links v y (take i old) ++ zs) (sym (append-nil (left_one v y k.it)))
            ∙ sym (flat_map-append (left_one v y) (take i old) (k.it ∷ [])) ∙ ap (left_links v y) (sym before));
      }

  -- what is shown of the links that stay
  pub door_seen : (v : Group) (y : ℕ) (links : List (InLink I)) → map in_of (kept_links v y links) ≡ kept_door v y (map in_of links)
  door_seen v y [] = refl
  door_seen v y (l ∷ ls) =
      elim (stays v y (in_of l)) as (λ b. map in_of (cond b (l ∷ kept_links v y ls) (kept_links v y ls)) ≡ cond b (in_of l ∷ kept_door v y (map in_of ls)) (kept_door v y (map in_of ls)))
      [ true ↦ ap (λ zs. in_of l ∷ zs) (door_seen v y ls) | false ↦ door_seen v y ls ]
