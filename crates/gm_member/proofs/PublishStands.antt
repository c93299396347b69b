-- A member that publishes stands where the ring's publish leaves it.
use Rattle.std.proofs.Common.{◌≡◌, ℕ, ◌+◌, ◌-◌, ◌<◌, ◌≤◌, List, [], ◌∷◌, ◌++◌, length, set, None, Result, Ok, Err, refl, sym, ap, ◌∙◌, arith}
use Rattle.std.proofs.lemmas.List.{get_or-set_same, get_or-set_other}
use Rattle.queue_core.specs.declared.message.Message.{Message}
use Rattle.queue_core.specs.declared.message.Message.TheVariants as message
use Rattle.queue_core.specs.declared.op.Op.{Op}
use Rattle.ring_names.specs.declared.reason.Reason.{Reason}
use Rattle.activity.specs.Kept.{no_kept, got_of, joined}
use Rattle.ring_rules.specs.declared.event.Event.{Event}
use Rattle.ring_rules.specs.Rows.{no_row, published_row}
use Rattle.ring_rules.specs.Machine.{World, Member, row_at, member_at}
use Rattle.ring_rules.specs.Step.{size, log_of, published, publish_at}
use Rattle.ring_rules.specs.Event.{Saying, Own, OfQueue, up_refusal, op_as, op_refusal, op_done, queue_message, message_of, saying_refusal, said, refused_as, refused_at, done_as, done_at}
use Rattle.ring_rules.specs.Lawful.{row_of}
use Rattle.ring_rules.proofs.runs.OwnLogs.{cast_log, cast_log_other}
use Rattle.gm_member.specs.Packets.{places, known_at}
use Rattle.gm_member.specs.Held.{published_held}
use Rattle.gm_member.specs.Stands.{kept_by, held_in, SaysIn}
use Rattle.gm_member.proofs.Places.{tabled_set}
use Rattle.gm_member.proofs.Fit.{IsFit}
use Rattle.gm_member.proofs.Knowing.{kept_published}
use Rattle.gm_member.proofs.Facts.{place_few, held_known, own_row, right_row}
use Rattle.gm_member.proofs.Parts.{known_by, written_held}

pub published_known_is : (w : World) (x : ℕ) (m : Message) → IsFit w → 1 ≤ x → x < size w → set (held_in w x).known (x - 1) (joined m (known_at (held_in w x).known (x - 1))) ≡ known_by (publish_at w x m) (published x m (member_at w x))
unfolding places
published_known_is w x m f some lt =
    let y : Member = member_at w x in
    let y' : Member = published x m y in
    let back : x - 1 + 1 ≡ x = omega arith in
    let few : x - 1 < 64 = place_few w x f some lt in
    tabled_set (λ p. kept_by (log_of w (p + 1)) (row_at y (p + 1))) (λ p. kept_by (log_of (publish_at w x m) (p + 1)) (row_at y' (p + 1))) 64 (x - 1) (joined m (known_at (held_in w x).known (x - 1))) no_kept few
    (ap (joined m) (held_known w x (x - 1) few)
    ∙ ap (λ p. joined m (kept_by (log_of w p) (row_of w x p))) back
    ∙ sym (kept_published (log_of w x) (row_of w x x) m (f.own x) (right_row w x x f).forgot)
    ∙ ap (kept_by (log_of w x ++ m ∷ [])) (sym (get_or-set_same y.rows x (published_row (row_at y x) m) no_row (f.logged.sized x some lt)))
    ∙ ap (λ ms. kept_by ms (row_at y' x)) (sym (cast_log w x m lt))
    ∙ ap (λ p. kept_by (log_of (publish_at w x m) p) (row_at y' p)) (sym back))
    (λ k kl ne.
    ap (λ ms. kept_by ms (row_at y (k + 1))) (sym (cast_log_other w x (k + 1) m (λ e. ne (omega arith))))
    ∙ ap (kept_by (log_of (publish_at w x m) (k + 1))) (sym (get_or-set_other y.rows x (k + 1) (published_row (row_at y x) m) no_row (λ e. ne (omega arith)))))

pub publish_stands : (w : World) (x : ℕ) (m : Message) → IsFit w → 1 ≤ x → x < size w → published_held (held_in w x) m ≡ held_in (publish_at w x m) x
publish_stands w x m f some lt =
    ap (λ ks. record (held_in w x) { known = ks }) (published_known_is w x m f some lt)
    ∙ sym (written_held w x (published x m (member_at w x)) (known_by (publish_at w x m) (published x m (member_at w x))) lt refl refl refl)

-- the number that a publish answers
pub publish_number : (w : World) (x : ℕ) → IsFit w → 1 ≤ x → x < size w → got_of (known_at (held_in w x).known (x - 1)) + 1 ≡ length (log_of w x) + 1
publish_number w x f some lt = ap (λ n. n + 1) (own_row w x f some lt)

-- ---- the event

-- what a member says that may say it
said_there : (w : World) (x : ℕ) (m : Message) (s : Saying) → message_of w x s ≡ Ok m → (saying_refusal w x s ≡ None) × (said w x s ≡ publish_at w x m)
said_there w x m (Own body) is = let same : message.Cast body ≡ m = cc in (refl, ap (publish_at w x) same)
said_there w x m (OfQueue q) is = by_op (op_as w x q) is
  where
    by_op : (o : Result Op Reason) → queue_message o ≡ Ok m → (op_refusal o ≡ None) × (op_done w x o ≡ publish_at w x m)
    by_op (Ok o) k = let same : message.Queue o ≡ m = cc in (refl, ap (publish_at w x) same)
    by_op (Err r) k = cc

-- An event by which member x says a message is refused by x's phase alone, and publishes the message.
pub record IsPublished (w : World) (x : ℕ) (m : Message) (e : Event) : Type 0 where
  pub refused : refused_at w e x ≡ up_refusal w x None
  pub done : done_at w e x ≡ publish_at w x m

pub published_there : (w : World) (x : ℕ) (name : List ℕ) (m : Message) (e : Event) → SaysIn w x name m e → IsPublished w x m e
published_there w x name m e says =
    let may = said_there w x m says.saying says.message in
    record {
      refused = ap (refused_as w x) says.kind ∙ ap (up_refusal w x) may.0;
      done = ap (done_as w x) says.kind ∙ may.1;
    }
