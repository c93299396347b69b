-- A member hears all that is published since its admission, up to what it has got.
use Rattle.std.proofs.Common.{◌≡◌, ℕ, ◌+◌, ◌-◌, ◌<◌, ◌≤◌, List, length, take, get_or, ap, ◌∙◌, arith}
use Rattle.std.proofs.lemmas.List.{get_or-drop, get_or-take, length-drop, length-take-le}
use Rattle.queue_core.specs.declared.message.Message.{Message}
use Rattle.ring_rules.specs.Rows.{messages_between}
use Rattle.ring_rules.specs.Machine.{World}
use Rattle.ring_rules.specs.Step.{log_of}
use Rattle.ring_rules.specs.Lawful.{row_of, StaysWithinLogs, ConfirmedEverywhere, JoinsInTime, HearsInOrder, StandsAt, HearsAllSince, ConfirmedIsHeard}

-- a message of a part of a log
between_at : (log : List Message) (lo hi k : ℕ) → lo ≤ k → k < hi → hi ≤ length log → StandsAt (messages_between lo hi log) log lo k
between_at log lo hi k from to whole = record {
  there = omega (arith, length-drop lo (take hi log), length-take-le hi log whole);
  same = λ m.
      get_or-drop lo (take hi log) (k - lo) m
      ∙ ap (λ i. get_or (take hi log) i m) back
      ∙ get_or-take hi log k m to;
}
  where
    back : lo + (k - lo) ≡ k
    back = omega (arith, from)

pub hears_all_since : (w : World) → HearsInOrder w → StaysWithinLogs w → JoinsInTime w → HearsAllSince w
hears_all_since w order within joins q p k from to = rw (order q p) (between_at (log_of w p) (row_of w q p).base (row_of w q p).got k (omega (arith, joins.base q p)) to (within.rows q p).got)

-- so what has come round, which it has got
pub hears_confirmed : (w : World) → ConfirmedEverywhere w → HearsAllSince w → ConfirmedIsHeard w
hears_confirmed w confirmed since q p k some lt up from to = since q p k from (omega (arith, to, confirmed.up q p some lt up))
