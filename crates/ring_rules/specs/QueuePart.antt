-- What the laws of the mirrored queue read of a ring.
use Rattle.std.specs.Prelude.{ℕ, ◌+◌, ◌&&◌, cond, List, [], ◌∷◌, length, Option, Some, None, option_map}
use Rattle.queue_core.specs.declared.message.Message.{Message}
use Rattle.queue_core.specs.declared.op.Op.{Op}
use Rattle.group_view.specs.Ring.{is_in}
use Rattle.group_view.specs.View.{Group, number as id_number, ids, entry_in, is_erased}
use Rattle.ring_rules.specs.Machine.{World, member_at, view_in, newest}
use Rattle.ring_rules.specs.declared.phase.Phase as ring
use Rattle.ring_rules.specs.declared.phase.Phase.TheVariants as machine
use Rattle.ring_rules.specs.Step.{size, log_of}
use Rattle.ring_rules.specs.Lawful.{row_of}
use Rattle.ring_rules.specs.OpenLinks.{number}
use Rattle.ring_rules.specs.Masters.{masters_of, earlier_of, last_of}
use Rattle.queue_laws.specs.Part.{Phase, Waiting, Up, Stopped, Sight, Sent, Part, past_of}
use Rattle.queue_laws.specs.Moves.{sent_after}

-- a phase, as they read it
abbrev pub phase_of : ring.Phase → Phase
phase_of machine.Waiting = Waiting
phase_of machine.Up = Up
phase_of machine.Stopped = Stopped

-- a view; who has no entry isn't erased
abbrev pub sight_of : Group → Sight
sight_of g = record {
  is_erased = λ q. is_in q (ids g.entries) && is_erased g.entries q;
  is_registered = λ q. (entry_in g.entries q).synced;
  master = option_map id_number g.master;
}

-- up to which number a member has received of an origin, where one that waits counts with the first packet of its link
abbrev pub got_of : World → ℕ → ℕ → ℕ
got_of w q p = number (λ k. k.got) (λ r. r.got) w p q

-- the masters so far
abbrev pub masters_in : World → List ℕ
masters_in w = masters_of w.views

-- what a member's first packet counted as received of the queue's operations: of each master those up to its base
abbrev pub based : World → ℕ → List Op
based w q = past_of (log_of w) (λ p. (row_of w q p).base) (masters_in w)

-- how many these are; nothing of a member whose mirror is whole
abbrev pub since_of : World → ℕ → Option ℕ
since_of w q = cond (member_at w q).whole None (Some (length (based w q)))

-- the records of the messages to the queue after p has published these messages behind its first n
abbrev pub sent_of : ℕ → ℕ → List Message → List Sent → List Sent
sent_of p n [] rs = rs
sent_of p n (m ∷ ms) rs = sent_of p (n + 1) ms (sent_after p (n + 1) m rs)

-- after all that these members have published, one after the other
abbrev pub sent_by : (ℕ → List Message) → List ℕ → List Sent → List Sent
sent_by log [] rs = rs
sent_by log (p ∷ ps) rs = sent_by log ps (sent_of p 0 (log p) rs)

-- of a state: an operation of a later master stands behind all of an earlier one's
abbrev pub sent_in : World → List Sent
sent_in w = sent_by (log_of w) (masters_in w) []

-- all of it
abbrev pub part_of : World → Part
part_of w = record {
  size = size w;
  log = log_of w;
  phase = λ q. phase_of (member_at w q).phase;
  got = got_of w;
  round = λ p. (row_of w p p).forgot;
  newest = newest w;
  view = λ v. sight_of (view_in w v);
  earlier = earlier_of (masters_in w);
  last = last_of (masters_in w);
  mirror = λ q. (member_at w q).mirror;
  since = since_of w;
  sent = sent_in w;
}
