-- A member that stops stands where the ring's stop leaves it.
use Rattle.std.proofs.Common.{◌≡◌, ℕ, ◌<◌, refl, sym, ◌∙◌}
use Rattle.ring_rules.specs.declared.phase.Ending.TheVariants.{Halted}
use Rattle.ring_rules.specs.Machine.{World, member_at}
use Rattle.ring_rules.specs.Step.{size, stop_at, stopped, end_out}
use Rattle.gm_member.specs.Held.{stopped_held}
use Rattle.gm_member.specs.Stands.{held_in}
use Rattle.gm_member.proofs.Fit.{IsFit}
use Rattle.gm_member.proofs.Parts.{known_same, log_written, written_held, still_held}

pub stop_stands : (w : World) (x : ℕ) → IsFit w → x < size w → stopped_held (held_in w x) ≡ held_in (end_out Halted (stop_at w x) (member_at w x).out) x
stop_stands w x f lt =
    sym (written_held w x (stopped (member_at w x)) (held_in w x).known lt (known_same w (stop_at w x) (stopped (member_at w x)) (log_written w x (stopped (member_at w x)) refl)) refl refl)
    ∙ still_held Halted (stop_at w x) (member_at w x).out x (λ o e. (f.own_ends.out x o e).0)
