-- A member that gains the oldest grant on its link stands where the ring's gain leaves it.
use Rattle.std.proofs.Common.{◌≡◌, ℕ, ◌<◌, length, Some, None, refl, sym, ap, ◌∙◌}
use Rattle.std.specs.Prelude.{option_map}
use Rattle.std.proofs.lemmas.List.{length-set, get_or-set_same}
use Rattle.ring_names.specs.declared.reason.Reason.TheVariants as reason
use Rattle.credit_flow.specs.Link.{oldest as oldest_grant}
use Rattle.ring_rules.specs.Rows.{regained}
use Rattle.ring_rules.specs.Machine.{World, Link, no_link, member_at, link_at}
use Rattle.ring_rules.specs.Step.{gain_on}
use Rattle.ring_rules.specs.Event.{on_link, up_refusal}
use Rattle.gm_member.specs.Held.{Held, gain_refused, gained_on, gained_held}
use Rattle.gm_member.specs.Stands.{held_in, outgoing_in}
use Rattle.gm_member.proofs.Fit.{IsFit}
use Rattle.gm_member.proofs.Parts.{held_is, seen, seen_same, current_same, door_still, outgoing_of}
use Rattle.gm_member.proofs.PutStands.{on_some_link}

pub gain_refuses : (w : World) (x : ℕ) → gain_refused (held_in w x) ≡ up_refusal w x (on_link (member_at w x).out reason.NoOutLink (λ _. None))
gain_refuses w x = ap (up_refusal w x) (on_some_link (outgoing_in w) (member_at w x).out reason.NoOutLink (λ _. None) (λ _. None) (λ _. refl))

-- the link with its grant become credit
abbrev pub regained_on : World → ℕ → Link
regained_on w o = record (link_at w o) { flow = regained (link_at w o).flow }

-- what a gain leaves of each link to its receiver
pub gain_seen : (w : World) (o j : ℕ) → o < length w.links → seen (link_at (gain_on w o) j) ≡ seen (link_at w j)
gain_seen w o j lt = seen_same w o j (regained_on w o) lt refl

pub gain_stands : (w : World) (x o : ℕ) → IsFit w → (member_at w x).out ≡ Some o → gained_held (held_in w x) (oldest_grant (link_at w o).flow.grants) ≡ held_in (gain_on w o) x
gain_stands w x o f is =
    let w' : World = gain_on w o in
    let h : Held = held_in w x in
    let ol : o < length w.links = (f.own_ends.out x o is).0 in
    ap (λ k. record h { out = option_map (gained_on (oldest_grant (link_at w o).flow.grants)) (option_map (outgoing_in w) k) }) is
    ∙ ap (λ l. record h { out = Some (outgoing_of l) }) (sym (get_or-set_same w.links o (regained_on w o) no_link ol))
    ∙ sym (held_is w' x (member_at w x) h.known (Some (outgoing_in w' o)) h.current h.door refl refl
    (ap (option_map (outgoing_in w')) is)
    (current_same w w' (member_at w x).current (λ j. gain_seen w o j ol))
    (door_still w w' x (length-set w.links o (regained_on w o)) refl refl refl (λ j. gain_seen w o j ol)))
