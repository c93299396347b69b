-- The laws of the queue over the ring.
use Rattle.std.specs.Prelude.{◌≡◌, ◌≢◌, ℕ, ◌+◌, ◌≤◌, true, List, [], ◌∷◌, Some, ⊤}
use Rattle.queue_core.specs.Queue.{is_above}
use Rattle.queue_laws.specs.Laws.{MirrorsAgree, ConfirmedStands}
use Rattle.ring_rules.specs.Machine.{Up, World, member_at}
use Rattle.ring_rules.specs.Step.{log_of}
use Rattle.queue_core.specs.Legal.{queue_of}
use Rattle.queue_mirror.specs.Mirror.{MirrorState}
use Rattle.queue_laws.specs.Part.{ops, seen}
use Rattle.queue_laws.specs.Standing.{are_low}
use Rattle.ring_rules.specs.Event.{id_of}
use Rattle.ring_rules.specs.Act.{Act, DeedIs, effect}
use Rattle.queue_laws.specs.Starting.{starts}
use Rattle.ring_rules.specs.QueuePart.{part_of}

-- whatever any but member 1, the master of the first term, has published to the queue begins with Start
abbrev pub LaterMastersStart : World → Type 0
LaterMastersStart w = (x : ℕ) → x ≢ 1 → starts (ops (log_of w x)) ≡ true

-- In a state after n events: of what two members have seen of the queue one is the beginning of the other, each operation is
-- legal where it stands, and each mirror holds what was published since its member joined, and knows how many messages it
-- lacks; each message that has come round, and that nobody has acknowledged, stands in every synchronised mirror of a member
-- that is up; and each mirror's next position is above all that it holds, and no higher than the events allow.
pub record QueueIsRight (n : ℕ) (w : World) : Type 0 where
  pub agree : MirrorsAgree (part_of w)
  pub stands : ConfirmedStands (part_of w)
  pub above : (q : ℕ) → (member_at w q).phase ≡ Up → is_above (member_at w q).mirror.queue.next (member_at w q).mirror.queue.items ≡ true
  pub few : (q : ℕ) → (member_at w q).mirror.queue.next ≤ n + 1

-- A copy makes of x's mirror the queue of all that x has seen; its next position is above all that it holds, and no higher
-- than x's mirror and what x has seen allow.
pub record IsCopyOf (w : World) (x : ℕ) (m : MirrorState) : Type 0 where
  pub items : m.queue.items ≡ queue_of (seen (part_of w) x)
  pub above : is_above m.queue.next m.queue.items ≡ true
  pub bounded : (n : ℕ) → (member_at w x).mirror.queue.next ≤ n + 1 → are_low n (seen (part_of w) x) ≡ true → m.queue.next ≤ n + 1

-- it does, where an act tells of a copy
abbrev pub CopyIsRight : World → Act → Type 0
CopyIsRight w a = (x : ℕ) → id_of w a.by ≡ Some x → DeedIs (IsCopyOf w) x a.deed

-- and at all acts of a run
abbrev pub CopiesAreRight : World → List Act → Type 0
CopiesAreRight w [] = ⊤
CopiesAreRight w (a ∷ acts) = CopyIsRight w a × CopiesAreRight (effect w a) acts
