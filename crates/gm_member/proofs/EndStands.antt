-- A member that takes its link to its end stands where the ring leaves it.
use Rattle.std.proofs.Common.{◌≡◌, ◌≢◌, ℕ, ◌<◌, not, nat_eq, nat_le, max, List, length, Some, None, refl, sym, ap, ◌∙◌}
use Rattle.std.specs.Prelude.{◌&&◌, slice_index_or}
use Rattle.std.proofs.lemmas.List.{length-set, get_or-set_same, get_or-set_other}
use Rattle.group_view.specs.Since.{no_group}
use Rattle.group_view.specs.View.{Group, entry_in}
use Rattle.ring_rules.specs.View.{left_by}
use Rattle.ring_rules.specs.Machine.{World, Member, Link, no_link, no_member, member_at, link_at}
use Rattle.ring_rules.specs.Step.{size, with_current, current_is, finished, leave_link}
use Rattle.ring_rules.proofs.rings.Rounds.{nat_eq-not}
use Rattle.gm_member.specs.Held.{Held, ended_held}
use Rattle.gm_member.specs.Stands.{held_in, outgoing_in}
use Rattle.gm_member.proofs.Fit.{IsFit}
use Rattle.gm_member.proofs.Parts.{held_is, known_same, log_written, seen, Seen, waits_seen, incoming_seen, outgoing_same, there_same, door_but, current_waits_not, over_waits_not}

-- the end leaves each other link as it was
pub end_other : (w : World) (x s j : ℕ) → j ≢ s → link_at (leave_link w x s) j ≡ link_at w j
end_other w x s j ne = get_or-set_other w.links s j (finished (link_at w s)) no_link ne

-- whether another link waits, no matter whether the member takes from s or from none
pub waits_without : (vs : List Group) (v x s j : ℕ) (a : Seen) → j ≢ s → waits_seen vs None v x j a ≡ waits_seen vs (Some s) v x j a
waits_without vs v x s j a ne =
    ap (λ b. (nat_eq a.to x && (not b && not a.over)) && (nat_eq a.from (left_by vs (max v a.opened) x) && nat_le (entry_in (slice_index_or vs (max v a.opened) no_group).entries x).since a.opened))
    (sym (nat_eq-not s j (λ e. ne (sym e))))

pub end_stands : (w : World) (x s : ℕ) → IsFit w → x < size w → (member_at w x).current ≡ Some s → ended_held (held_in w x) ≡ held_in (leave_link w x s) x
end_stands w x s f lt is =
    let w' : World = leave_link w x s in
    let h : Held = held_in w x in
    let y : Member = member_at w x in
    let sl : s < length w.links = (f.own_ends.current x s is).0 in
    let now : member_at w' x ≡ with_current None y = get_or-set_same w.members x (with_current None y) no_member lt in
    sym (held_is w' x (with_current None y) h.known h.out None h.door now
    (known_same w w' (with_current None y) (log_written w x (with_current None y) refl))
    (there_same (outgoing_in w') (outgoing_in w) y.out (λ j _. outgoing_same (current_is w x None) s j (finished (link_at w s)) sl refl))
    refl
    (door_but w w' x s (length-set w.links s (finished (link_at w s))) (current_waits_not w x s is)
    (over_waits_not w' x s (ap (λ (l : Link). l.over) (get_or-set_same w.links s (finished (link_at w s)) no_link sl)))
    (λ j ne. (
      ap (λ (z : Member). waits_seen w.views z.current z.version x j (seen (link_at w' j))) now
          ∙ ap (λ l. waits_seen w.views None y.version x j (seen l)) (end_other w x s j ne)
          ∙ waits_without w.views y.version x s j (seen (link_at w j)) ne
          ∙ ap (λ c. waits_seen w.views c y.version x j (seen (link_at w j))) (sym is),
      ap (λ l. incoming_seen (seen l)) (end_other w x s j ne),
    ))))
