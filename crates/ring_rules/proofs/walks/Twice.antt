-- The two rounds of a walk, without what is retired.
use Rattle.std.proofs.Common.{◌≡◌, ℕ, List, [], ◌∷◌, ◌++◌, sym, ap, subst, ◌∙◌, append_assoc}
use Rattle.std.specs.List.{filter}
use Rattle.std.proofs.lemmas.List.Elements.{filter_agree}
use Rattle.group_view.specs.Ring.{rotated}
use Rattle.ring_rules.specs.declared.numbers.Numbers.{Numbers}
use Rattle.ring_rules.specs.Rows.{Row}
use Rattle.ring_rules.specs.Machine.{World, ring, runs}
use Rattle.ring_rules.proofs.rings.Weakens.{Weakens, equal, then, joined, joined_right, under, lose_one, lose_second}
use Rattle.ring_rules.proofs.walks.Back.{Closes, closes_round, prefix_agree}
use Rattle.ring_rules.proofs.walks.CountedWalk.{round_of, running_from, stopped_prefix, stopped_from}

-- one round, from the owner on
abbrev pub one_round : (Numbers → ℕ) → (Row → ℕ) → World → ℕ → List ℕ
one_round g r w p = round_of g r w p (stopped_from w p) (running_from w p)

-- what everybody got, and what everybody forgot
abbrev pub gots : World → ℕ → List ℕ
gots w p = one_round (λ k. k.got) (λ r. r.got) w p

abbrev pub forgots : World → ℕ → List ℕ
forgots w p = one_round (λ k. k.forgot) (λ r. r.forgot) w p

-- what a step does to the first round, and to both together
pub record Edits (w w' : World) (p : ℕ) : Type 0 where
  pub first : Weakens (gots w p) (gots w' p)
  pub both : Weakens (gots w p ++ forgots w p) (gots w' p ++ forgots w' p)

pub edits_then : (w w' w'' : World) (p : ℕ) → Edits w w' p → Edits w' w'' p → Edits w w'' p
edits_then w w' w'' p a b = record {
  first = then (gots w p) (gots w' p) (gots w'' p) a.first b.first;
  both = then (gots w p ++ forgots w p) (gots w' p ++ forgots w' p) (gots w'' p ++ forgots w'' p) a.both b.both;
}

-- each round by itself
pub edits_of : (w w' : World) (p : ℕ) → Weakens (gots w p) (gots w' p) → Weakens (forgots w p) (forgots w' p) → Edits w w' p
edits_of w w' p a b = record { first = a; both = joined (gots w p) (gots w' p) (forgots w p) (forgots w' p) a b }

-- the same members run
pub same_round_runners : (g : Numbers → ℕ) (r : Row → ℕ) (w w' : World) (p : ℕ) → ring w' ≡ ring w → ((q : ℕ) → runs w' q ≡ runs w q) → round_of g r w' p (stopped_from w p) (running_from w p) ≡ one_round g r w' p
same_round_runners g r w w' p hr h =
    let s : stopped_from w p ≡ stopped_from w' p = sym (ap (λ c. stopped_prefix (runs w') (rotated p c)) hr ∙ prefix_agree (runs w) (runs w') (rotated p (ring w)) h) in
    let k : running_from w p ≡ running_from w' p = sym (ap (λ c. filter (runs w') (rotated p c)) hr ∙ filter_agree (runs w') (runs w) h (rotated p (ring w))) in
    ap (λ st. round_of g r w' p st (running_from w p)) s ∙ ap (λ ys. round_of g r w' p (stopped_from w' p) ys) k

pub closes_edits : (w w' : World) (p : ℕ) → Closes w w' p → Edits w w' p
closes_edits w w' p h = edits_of w w' p
    (subst (Weakens (gots w p)) (same_round_runners (λ k. k.got) (λ r. r.got) w w' p h.is_ring h.runs_same) (closes_round (λ k. k.got) (λ r. r.got) w w' p (stopped_from w p) (running_from w p) h h.own_got))
    (subst (Weakens (forgots w p)) (same_round_runners (λ k. k.forgot) (λ r. r.forgot) w w' p h.is_ring h.runs_same) (closes_round (λ k. k.forgot) (λ r. r.forgot) w w' p (stopped_from w p) (running_from w p) h h.own_forgot))

-- the packet that has come round: what it says was got takes the place of what the owner had forgotten
pub both_come_round : (g h : List ℕ) (kg kf y : ℕ) → Weakens ((g ++ kg ∷ []) ++ (y ∷ (h ++ kf ∷ []))) (g ++ (kg ∷ h))
both_come_round g h kg kf y =
    then ((g ++ kg ∷ []) ++ (y ∷ (h ++ kf ∷ []))) (g ++ (kg ∷ (y ∷ (h ++ kf ∷ [])))) (g ++ (kg ∷ h))
    (equal _ _ (append_assoc g (kg ∷ []) (y ∷ (h ++ kf ∷ []))))
    (joined_right g (kg ∷ (y ∷ (h ++ kf ∷ []))) (kg ∷ h)
    (under kg (y ∷ (h ++ kf ∷ [])) h
    (then (y ∷ (h ++ kf ∷ [])) (h ++ kf ∷ []) h (lose_one y (h ++ kf ∷ [])) (lose_second h (kf ∷ [])))))
