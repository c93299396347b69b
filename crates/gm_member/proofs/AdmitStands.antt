-- The state with the one that a member admits, before the member looks at the new view.
use Rattle.std.proofs.Common.{◌≡◌, ℕ, ◌+◌, ◌<◌, ◌≤◌, true, List, [], ◌∷◌, length, max, Some, None, refl, sym, ap, subst, ◌∙◌, arith}
use Rattle.std.proofs.lemmas.List.{length_push, get_or_append_left}
use Rattle.ring_rules.specs.declared.event.Event.{Event}
use Rattle.ring_rules.specs.declared.event.Event.TheVariants.{Admit}
use Rattle.ring_rules.specs.View.{right_of}
use Rattle.ring_rules.specs.Machine.{Link, Member, World, no_link, row_at, member_at, link_at, view_in, newest, runs, runs_phase, is_kept}
use Rattle.ring_rules.specs.OpenLinks.{comes_from_left}
use Rattle.ring_rules.specs.Step.{size, log_of, with_view, look_at, opened_link, joiner, admitted_view, come_to}
use Rattle.ring_rules.specs.Event.{admit_refusal, refusal}
use Rattle.ring_rules.proofs.events.Enabled.{up_none}
use Rattle.ring_rules.proofs.events.Leaves.{come_member}
use Rattle.ring_rules.proofs.rings.Rounds.{nat_eq-is}
use Rattle.ring_rules.proofs.invariants.KeptAdmit.{CanJoin, joined_state}
use Rattle.ring_rules.proofs.invariants.Happens.{IsGood, can_join, join_good, joined_links, right_in_come}
pub use Rattle.ring_rules.proofs.runs.OwnLogs.{come_log}
use Rattle.gm_member.specs.Held.{Held, stays}
use Rattle.gm_member.specs.Stands.{held_in}
use Rattle.gm_member.proofs.Fit.{IsFit}
use Rattle.gm_member.proofs.Facts.{refused_there}
use Rattle.gm_member.proofs.Knowing.{IsRight}
use Rattle.gm_member.proofs.Doors.{view_version, arrived, stays_kept, comes_stays}
use Rattle.gm_member.proofs.Parts.{known_same, held_is, door_still}
use Rattle.gm_member.proofs.MarkStands.{view_held}
use Rattle.gm_member.proofs.OpenDoors.{SeesLinks}
use Rattle.gm_member.proofs.RefreshStands.{RowsAreRight}

-- who isn't refused it may admit
pub admit_can : (w : World) (x : ℕ) (newcomer : List ℕ) → IsFit w → 1 ≤ x → x < size w → refusal w (Admit (member_at w x).name newcomer) ≡ None → CanJoin w x
admit_can w x newcomer f some lt r =
    let e : Event = Admit (member_at w x).name newcomer in
    let a = up_none w x (admit_refusal w newcomer) (sym (refused_there w x e (f.named x some lt)) ∙ r) in
    can_join w x newcomer lt a.0 a.1 f.good

-- ---- one more member

-- the others are as they were
pub come_same : (w : World) (m : ℕ) (name : List ℕ) (x : ℕ) → x < size w → member_at (come_to w m name) x ≡ member_at w x
come_same w m name x lt = come_member w m name x (λ q y. q < size w → y ≡ member_at w q) (λ l. absurd (omega arith)) (λ _. refl) lt

-- and hold what they held
pub come_held : (w : World) (m : ℕ) (name : List ℕ) (x : ℕ) → x < size w → IsGood w → held_in w x ≡ held_in (come_to w m name) x
come_held w m name x lt h =
    let u : World = with_view w (admitted_view w m name) in
    let c : World = come_to w m name in
    let k : Held = held_in u x in
    let same : member_at c x ≡ member_at w x = come_same w m name x lt in
    view_held w (admitted_view w m name) x h
    ∙ sym (held_is c x (member_at w x) k.known k.out k.current k.door same (known_same u c (member_at w x) (λ p. come_log w m name p)) refl refl
    (door_still u c x refl refl (ap (λ (y : Member). y.current) same) (ap (λ (y : Member). y.version) same) (λ j. refl)))

-- of rows that were right
pub come_right : (w : World) (m : ℕ) (name : List ℕ) (x : ℕ) → x < size w → RowsAreRight w x → RowsAreRight (come_to w m name) x
come_right w m name x lt h p =
    subst (λ (y : Member). IsRight (log_of (come_to w m name) p) (row_at y p)) (sym (come_same w m name x lt))
    (subst (λ log. IsRight log (row_at (member_at w x) p)) (sym (come_log w m name p)) (h p))

-- ---- the look

-- the views are those of the state after the admission, and the links those before it
pub come_sees : (w : World) (x : ℕ) (name : List ℕ) → CanJoin w x → IsGood w → SeesLinks (come_to w x name) x (newest w + 1)
come_sees w x name j h = record {
  may = record { is_member = omega (arith, j.is_member, length_push w.members (joiner w name)); up = ap (λ (y : Member). y.phase) same ∙ j.up; later = omega (arith, version, h.inv.is_ring.held x); upto = upto };
  numbered = view_version after n good upto;
  current = λ s e.
      let is : (member_at w x).current ≡ Some s = sym (ap (λ (y : Member). y.current) same) ∙ e in
      (h.inv.current.lt x s rx is, h.inv.current.receiver x s rx is, omega (arith, version, h.inv.current.opened x s rx is));
  stays_kept = λ s u there to up.
      subst (λ (k : Link). stays (view_in c u) x (arrived k) ≡ is_kept c k u) (old s there) (stays_kept after x s u good (there_then s there) (to_then s there to) up);
  comes_stays = λ s u there to up.
      subst (λ (k : Link). comes_from_left c x k (max u k.opened) ≡ stays (view_in c u) x (arrived k)) (old s there) (comes_stays after x s u good (there_then s there) (to_then s there to) up);
  own = λ e. absurd (omega (arith, nat_eq-is (right_of (view_in c n) x) x e, right_in_come w x name j, j.is_member));
}
  where
    c : World
    c = come_to w x name

    after : World
    after = joined_state w x name

    n : ℕ
    n = newest w + 1

    good : IsGood after
    good = join_good w x name j h

    rx : runs w x ≡ true
    rx = ap runs_phase j.up

    same : member_at c x ≡ member_at w x
    same = come_same w x name x j.is_member

    version : (member_at c x).version ≡ (member_at w x).version
    version = ap (λ (y : Member). y.version) same

    upto : n ≤ newest c
    upto = omega (arith, h.inv.is_ring.some, length_push w.views (admitted_view w x name))

    old : (s : ℕ) → s < length w.links → link_at after s ≡ link_at w s
    old s there = get_or_append_left w.links (opened_link (look_at c x n) x (size w) ∷ []) no_link s there

    there_then : (s : ℕ) → s < length w.links → s < length after.links
    there_then s there = omega (arith, joined_links w x name)

    to_then : (s : ℕ) → s < length w.links → (link_at w s).receiver ≡ x → (link_at after s).receiver ≡ x
    to_then s there to = ap (λ (k : Link). k.receiver) (old s there) ∙ to
