-- A copy that is done is a move of the queue's laws.
use Rattle.std.proofs.Common.{◌≡◌, ◌≢◌, ℕ, ◌<◌, ◌≤◌, ◌+◌, cond, length, refl, sym, ap, ◌∙◌, subst, arith, Some, None}
use Rattle.std.proofs.lemmas.List.{length-set, get_or-set_same, get_or-set_other}
use Rattle.queue_core.specs.Queue.{is_above}
use Rattle.queue_mirror.specs.Mirror.{MirrorState}
use Rattle.queue_laws.specs.Part.{is_up}
use Rattle.queue_laws.specs.Moves.{finish}
use Rattle.ring_rules.specs.Rows.{Row}
use Rattle.ring_rules.specs.Machine.{Up, World, Member, no_member, member_at}
use Rattle.ring_rules.specs.Step.{size, log_of, copied, copied_at}
use Rattle.ring_rules.specs.QueuePart.{phase_of, got_of, based, since_of}
use Rattle.ring_rules.specs.QueueLaws.{IsCopyOf}
use Rattle.ring_rules.proofs.events.Leaves.{member_leaves}
use Rattle.ring_rules.proofs.queue.Sent.{since_kept}
use Rattle.ring_rules.proofs.queue.Likes.{number_alike, same_row}
use Rattle.ring_rules.proofs.queue.Facts.{HasMasters}
use Rattle.ring_rules.proofs.queue.Steps.{Result, logs_same, same_views, same_masters, logs_sent, masters_stay, same_front}

module _ (w : World) (x : ℕ) (m : MirrorState) (lt : x < size w) where
  abbrev done : World
  done = copied_at w x m

  pub me : member_at done x ≡ copied m (member_at w x)
  me = get_or-set_same w.members x (copied m (member_at w x)) no_member lt

  pub other : (q : ℕ) → q ≢ x → member_at done q ≡ member_at w q
  other q ne = get_or-set_other w.members x q (copied m (member_at w x)) no_member ne

  pub log : (q : ℕ) → log_of done q ≡ log_of w q
  log q = member_leaves (λ _ a b. b.log ≡ a.log) w x (copied m (member_at w x)) refl (λ _. refl) q

  pub rows : (q : ℕ) → (member_at done q).rows ≡ (member_at w q).rows
  rows q = member_leaves (λ _ a b. b.rows ≡ a.rows) w x (copied m (member_at w x)) refl (λ _. refl) q

  pub phase : (q : ℕ) → (member_at done q).phase ≡ (member_at w q).phase
  phase q = member_leaves (λ _ a b. b.phase ≡ a.phase) w x (copied m (member_at w x)) refl (λ _. refl) q

  pub current : (q : ℕ) → (member_at done q).current ≡ (member_at w q).current
  current q = member_leaves (λ _ a b. b.current ≡ a.current) w x (copied m (member_at w x)) refl (λ _. refl) q

  pub got : (q p : ℕ) → got_of done q p ≡ got_of w q p
  got q p = number_alike (λ k. k.got) (λ r. r.got) w done p q (phase q) (rows q) (λ _. current q) (λ s _ _. refl)

  pub since : (q : ℕ) → q ≢ x → since_of done q ≡ since_of w q
  since q ne = since_kept w done q (ap (λ (a : Member). a.whole) (other q ne)) refl (λ p. same_front w done q p (ap (λ (r : Row). r.base) (same_row w done q p (rows q))) (log p))

  -- a copy that is done is a move
  pub finishes : (member_at w x).phase ≡ Up → m.missing ≡ Some 0 → IsCopyOf w x m → HasMasters w → Result w done
  finishes up none c h = record {
    move = finish x (record {
      is_up = ap (λ f. is_up (phase_of f)) up;
      items = ap (λ (a : Member). a.mirror.queue.items) me ∙ c.items;
      none_missing = ap (λ (a : Member). a.mirror.missing) me ∙ none;
      above = ap (λ (a : Member). is_above a.mirror.queue.next a.mirror.queue.items) me ∙ c.above;
      bounded = λ n a b. subst (λ k. k ≤ n + 1) (sym (ap (λ (k : Member). k.mirror.queue.next) me)) (c.bounded n a b);
      since = ap (λ (a : Member). cond a.whole None (Some (length (based done x)))) me;
      others_mirror = λ q ne. ap (λ (a : Member). a.mirror) (other q ne);
      others_since = since;
      got = record { got = λ q p _. got q p };
      sent = logs_sent w done refl log;
      masters = same_masters w done refl;
      views = same_views w done refl;
      logs = logs_same w done log;
      phases = record { phase = λ q. ap phase_of (phase q) };
    });
    rises = λ q p _ _. omega (arith, got q p);
    masters = masters_stay w done (length-set w.members x (copied m (member_at w x))) refl h;
  }
