-- A cast raises the head of its own walk.
use Rattle.std.proofs.Common.{◌≡◌, ◌≢◌, ℕ, ◌<◌, refl, ap}
use Rattle.std.proofs.lemmas.List.{get_or-set_other}
use Rattle.ring_rules.specs.Machine.{Up, World, row_at, member_at}
use Rattle.ring_rules.specs.Rows.{no_row, published_row}
use Rattle.ring_rules.proofs.walks.CountedWalk.{walk}
use Rattle.ring_rules.specs.Step.{size, published, publish_at}
use Rattle.ring_rules.proofs.rings.Weakens.{Weakens}
use Rattle.ring_rules.proofs.walks.Back.{Closes, closes_walk}
use Rattle.ring_rules.proofs.walks.Refresh.{blind}
use Rattle.queue_core.specs.declared.message.Message.{Message}

-- of a message
module _ (m : Message) where
  pub cast_closes : (w : World) (x p : ℕ) → x < size w → (member_at w x).phase ≡ Up → p ≢ x → Closes w (publish_at w x m) p
  cast_closes w x p l up d =
      let e : row_at (published x m (member_at w x)) p ≡ row_at (member_at w x) p = get_or-set_other (member_at w x).rows x p (published_row (row_at (member_at w x) x) m) no_row d in
      blind w x p (published x m (member_at w x)) l refl refl e (λ g r. rw up (ap r e))

  pub cast_walk_other : (w : World) (x p : ℕ) → x < size w → (member_at w x).phase ≡ Up → p ≢ x → Weakens (walk w p) (walk (publish_at w x m) p)
  cast_walk_other w x p l up d = closes_walk w (publish_at w x m) p (cast_closes w x p l up d)
