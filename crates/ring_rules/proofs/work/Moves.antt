-- A taken end and a pick leave less to do.
use Rattle.std.proofs.Common.{◌≡◌, ℕ, ◌+◌, ◌*◌, ◌≤◌, false, not, length, Some, None, is_some, if◌then◌else◌, refl, ap, arith}
use Rattle.std.specs.Prelude.{◌&&◌}
use Rattle.std.proofs.lemmas.Bool.{and_right}
use Rattle.ring_rules.proofs.events.Cases.{IsRunning}
use Rattle.ring_rules.specs.Machine.{Member, Link, World, no_link, member_at, link_at}
use Rattle.ring_rules.specs.Step.{with_current, current_is, leave_link, finished}
use Rattle.ring_rules.specs.Event.{at_door}
use Rattle.ring_rules.proofs.walks.Ended.{TakesOn, door_link}
use Rattle.ring_rules.proofs.rings.Lists.{at_set}
use Rattle.ring_rules.proofs.work.Fit.{IsFit}
use Rattle.ring_rules.specs.Work.{items, place_at}
use Rattle.ring_rules.proofs.work.Falls.{current_falls}
use Rattle.ring_rules.proofs.work.Parts.{links_written, link_set, LowersThen}
use Rattle.ring_rules.proofs.work.Places.{IsWritten, written, place_left, place_taken, place_door, leave_places, pick_places}

-- a link is over that was taken from: there is less to do
pub end_falls : (w : World) (x s : ℕ) → IsFit w → IsRunning w x → (member_at w x).current ≡ Some s → LowersThen w (leave_link w x s)
end_falls w x s f u e k =
    current_falls w x None w'.members w'.links u m
    (λ j. at_set (λ i a. a.sending ≡ (link_at w i).sending) w.links s j new no_link takes.lt refl (λ _. refl))
    (link_set w w'.members s new 1 0 takes.lt (leave_places w x s f.good u e k.good k.later)
    (less (length l.packets) (if is_some l.ending && not l.over then 1 else 0) (if is_some l.ending && false then 1 else 0) (place_at w' s) (place_at w s) (length l.flow.grants)
    (ap (λ b. if b then 1 else 0) (and_right (is_some l.ending) false refl)) (place_left w x s takes.lt) (place_taken w x s takes e)))
  where
    w' : World
    w' = leave_link w x s

    l : Link
    l = link_at w s

    new : Link
    new = finished l

    takes : TakesOn w.links x s
    takes = f.ends.takes x s u.runs_on e

    m : IsWritten w w' x (with_current None (member_at w x))
    m = written w w.views x (with_current None (member_at w x)) w'.links u.lt

    less : (p e e' c' c g : ℕ) → e' ≡ 0 → c' ≡ 0 → c ≡ 1 → (2 * (p + e') + c' + g) + 1 ≤ (2 * (p + e) + c + g) + 0
    less p e e' c' c g h i j = omega arith

-- a link is taken from that stood at the door
pub pick_falls : (w : World) (x s : ℕ) → IsFit w → IsRunning w x → (member_at w x).current ≡ None → at_door w x ≡ Some s → (link_at w s).opened ≤ (member_at w x).version → LowersThen w (current_is w x (Some s))
pick_falls w x s f u none at upto k =
    current_falls w x (Some s) w'.members w.links u m (λ j. refl)
    (links_written w w' s l 1 0 door.lt refl refl (λ t _. refl) (pick_places w x s f.good u.lt none at upto k.good k.later)
    (less (2 * items l) (place_at w' s) (place_at w s) (length l.flow.grants) (place_taken w' x s door (ap (λ (z : Member). z.current) m.here)) (place_door w x s f.good none at upto)))
  where
    y : Member
    y = with_current (Some s) (member_at w x)

    w' : World
    w' = current_is w x (Some s)

    l : Link
    l = link_at w s

    m : IsWritten w w' x y
    m = written w w.views x y w.links u.lt

    door : TakesOn w.links x s
    door = door_link w x s at

    less : (i c' c g : ℕ) → c' ≡ 1 → c ≡ 2 → (i + c' + g) + 1 ≤ (i + c + g) + 0
    less i c' c g h j = omega arith
