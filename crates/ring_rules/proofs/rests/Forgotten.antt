-- What has come round twice was forgotten by its publisher.
use Rattle.std.proofs.Common.{◌≡◌, ℕ, ◌≤◌, true, List, [], ◌∷◌, ◌++◌, refl, sym, ap, subst, ◌∙◌}
use Rattle.std.specs.List.{filter}
use Rattle.group_view.specs.Ring.{is_in, others}
use Rattle.group_view.proofs.Rings.{rotated_is}
use Rattle.ring_rules.specs.declared.phase.Phase.TheVariants.{Up}
use Rattle.ring_rules.specs.Machine.{World, numbers_at, member_at, ring, runs}
use Rattle.ring_rules.specs.OpenLinks.{NeverRises, number}
use Rattle.ring_rules.specs.Lawful.{row_of}
use Rattle.ring_rules.proofs.walks.CountedWalk.{numbers, counted, only, no_but, is_early, round_of, retired_by, stopped_from, running_from}
use Rattle.ring_rules.proofs.walks.Put.{number_up}
use Rattle.ring_rules.proofs.rings.Falling.{falls_across, each_in_round, in_head, rises_second}
use Rattle.ring_rules.proofs.invariants.Happens.{IsGood}
use Rattle.ring_rules.proofs.runs.Confirmed.{runs_in_walk}
use Rattle.ring_rules.proofs.walks.Ended.{runs_lt}

module _ (w : World) (p : ℕ) (g : IsGood w) (up : (member_at w p).phase ≡ Up) (some : 1 ≤ p) (rp : runs w p ≡ true) where
  -- the round of what was forgotten
  abbrev second_round : List ℕ
  second_round = round_of (λ k. k.forgot) (λ r. r.forgot) w p (stopped_from w p) (running_from w p)

  -- the publisher's own number stands in it
  forgot_there : is_in (number (λ k. k.forgot) (λ r. r.forgot) w p p) second_round ≡ true
  forgot_there =
      each_in_round (λ q. numbers (λ k. (numbers_at k p).forgot) (only (is_early (stopped_from w p)) (counted w q)) w.links)
      (λ q. numbers (λ k. (numbers_at k p).forgot) (counted w q) w.links)
      (λ q. numbers (λ k. (numbers_at k p).forgot) (no_but (is_early (stopped_from w p)) (counted w q)) w.links)
      (number (λ k. k.forgot) (λ r. r.forgot) w p) p (running_from w p) (runs_in_walk w p p g.inv rp)

  -- the publisher owns what it published
  own_running : running_from w p ≡ p ∷ filter (runs w) (others p (ring w))
  own_running = ap (filter (runs w)) (rotated_is p (ring w) (g.inv.origins p some (runs_lt w p rp))) ∙ rw rp refl

  -- so what it has retired ends the walk
  retired_there : is_in (row_of w p p).retired (retired_by w p (running_from w p)) ≡ true
  retired_there = subst (λ ys. is_in (row_of w p p).retired (retired_by w p ys) ≡ true) (sym own_running) (in_head (row_of w p p).retired [])

  -- and isn't greater than what it has forgotten
  pub retired_is_forgotten : (row_of w p p).retired ≤ (row_of w p p).forgot
  retired_is_forgotten =
      let first : List ℕ = round_of (λ k. k.got) (λ r. r.got) w p (stopped_from w p) (running_from w p) in
      let falls : NeverRises (second_round ++ retired_by w p (running_from w p)) = rises_second first (second_round ++ retired_by w p (running_from w p)) (g.inv.walks p some (runs_lt w p rp)) in
      subst (λ a. (row_of w p p).retired ≤ a) (number_up (λ k. k.forgot) (λ r. r.forgot) w p p up)
      (falls_across (number (λ k. k.forgot) (λ r. r.forgot) w p p) (row_of w p p).retired second_round (retired_by w p (running_from w p)) falls forgot_there retired_there)
