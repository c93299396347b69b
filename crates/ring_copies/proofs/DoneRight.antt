-- Where a copy is done, the mirror that it makes is right.
use Rattle.std.proofs.Common.{◌≡◌, ℕ, zero, suc, ◌+◌, ◌<◌, ◌≤◌, cond, max, [], ◌∷◌, length, take, drop, refl, sym, ap, ◌∙◌, subst, arith, Some, None}
use Rattle.queue_core.specs.Queue.{is_above}
use Rattle.queue_core.specs.Legal.{run}
use Rattle.queue_mirror.specs.Mirror.{MirrorState}
use Rattle.queue_laws.specs.Part.{ops, is_up}
use Rattle.queue_laws.specs.Moves.{Finishes}
use Rattle.queue_laws.specs.Copies.{Copying, copy_at, TakesDone, high, next_run, since_mark}
use Rattle.queue_laws.proofs.Copied.{IsCopied, IsCopyGood}
use Rattle.queue_laws.proofs.CopyMoves.{done_finishes}
use Rattle.ring_rules.specs.declared.phase.Phase.TheVariants.{Up}
use Rattle.ring_rules.specs.Machine.{World, Member, member_at}
use Rattle.ring_rules.specs.Step.{size, log_of, copied_at}
use Rattle.ring_rules.specs.Lawful.{row_of}
use Rattle.ring_rules.specs.QueuePart.{phase_of, got_of, based, part_of}
use Rattle.ring_rules.specs.QueueLaws.{IsCopyOf}
use Rattle.ring_rules.proofs.walks.Put.{number_up}
use Rattle.ring_rules.proofs.queue.CopySteps.{me, other, log, phase, got, since}
use Rattle.ring_rules.proofs.queue.Steps.{logs_same, same_views, same_masters, logs_sent}
use Rattle.ring_copies.specs.Copies.{CopyLink, copied_mirror, since_copy}
use Rattle.ring_copies.proofs.Sights.{AreSighted, copying, copying_good}

module _ (w : World) (x : ℕ) (m : MirrorState) (lt : x < size w) where
  abbrev done : World
  done = copied_at w x m

  -- where what was to be seen at the mark is known of the copy, and the mark has come, Done is right
  pub done_right : (c : CopyLink) → m ≡ copied_mirror w x c → (member_at w x).phase ≡ Up → c.receiver ≡ x → c.mark ≤ (row_of w x c.sender).got → AreSighted w
      → IsCopied (copying w) (record { from = c.sender; to = c.receiver; mark = c.mark; aside = c.aside; rest = [] }) → IsCopyOf w x m
  done_right c is up to marked h copy =
      let f : Finishes x (part_of w) (part_of done) = done_finishes x 0 C C' taken good in
      record {
        items = sym (ap (λ (a : Member). a.mirror.queue.items) (me w x m lt)) ∙ f.items;
        above = sym (ap (λ (a : Member). is_above a.mirror.queue.next a.mirror.queue.items) (me w x m lt)) ∙ f.above;
        bounded = λ n a b. subst (λ k. k ≤ n + 1) (ap (λ (k : Member). k.mirror.queue.next) (me w x m lt)) (f.bounded n a b);
      }
    where
      C : Copying
      C = record { part = part_of w; version = λ q. (member_at w q).version; parcels = []; copies = record { from = c.sender; to = c.receiver; mark = c.mark; aside = c.aside; rest = [] } ∷ [] }

      C' : Copying
      C' = record { part = part_of done; version = λ q. (member_at w q).version; parcels = []; copies = [] }

      good : IsCopyGood C
      good =
          let k : IsCopyGood (copying w) = copying_good w h in
          record { distinct = k.distinct; seen_gone = k.seen_gone; members = k.members; parcels = k.parcels; copied = only }
        where
          only : (i : ℕ) → i < 1 → IsCopied C (copy_at C i)
          only zero il = record { origin = copy.origin; unseen = copy.unseen; mark = copy.mark; content = copy.content }
          only (suc i) il = absurd (omega arith)

      counted : got_of w x c.sender ≡ (row_of w x c.sender).got
      counted = number_up (λ k. k.got) (λ r. r.got) w c.sender x up

      ops_since : since_copy w x c ≡ since_mark (part_of w) x (record { from = c.sender; to = c.receiver; mark = c.mark; aside = c.aside; rest = [] })
      ops_since = ap (λ n. ops (drop c.mark (take n (log_of w c.sender)))) (sym counted)

      now : (member_at done x).mirror ≡ copied_mirror w x c
      now = ap (λ (a : Member). a.mirror) (me w x m lt) ∙ is

      taken : TakesDone x 0 C C'
      taken = record {
        is_up = ap (λ f. is_up (phase_of f)) up;
        there = omega arith;
        to = to;
        all = refl;
        marked = omega (arith, marked, counted);
        items = ap (λ (a : MirrorState). a.queue.items) now ∙ ap (run c.aside) ops_since;
        next = ap (λ (a : MirrorState). a.queue.next) now ∙ ap (λ l. max (member_at w x).mirror.queue.next (max (high c.aside) (next_run c.aside l (high c.aside)))) ops_since;
        missing = ap (λ (a : MirrorState). a.missing) now;
        since = ap (λ (a : Member). cond a.whole None (Some (length (based done x)))) (me w x m lt);
        others_mirror = λ q ne. ap (λ (a : Member). a.mirror) (other w x m lt q ne);
        others_since = since w x m lt;
        got = record { got = λ q p _. got w x m lt q p };
        sent = logs_sent w done refl (log w x m lt);
        masters = same_masters w done refl;
        views = same_views w done refl;
        logs = logs_same w done (log w x m lt);
        phases = record { phase = λ q. ap phase_of (phase w x m lt q) };
        beside = record { version = λ q _. refl; parcels = refl; copies = λ i il. absurd (omega arith) };
      }
