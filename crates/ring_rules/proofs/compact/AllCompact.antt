-- The laws of compact packets hold in every state of every run.
use Rattle.std.proofs.Common.{◌≡◌, ℕ, ◌≤◌, Bool, true, false, List, [], ◌∷◌, refl, sym, ap, ◌∙◌, arith}
use Rattle.ring_names.specs.declared.numbers.CreditSpec.{CreditSpec}
use Rattle.group_view.specs.Change.{AreOpeningNames}
use Rattle.ring_rules.specs.Rows.{lo_of}
use Rattle.ring_rules.specs.Machine.{Packet, Sending, World, row_at, numbers_at, member_at, link_at, runs_phase}
use Rattle.ring_rules.specs.Step.{next_packet, opening}
use Rattle.ring_rules.specs.Act.{Act, IsRun, last}
use Rattle.ring_rules.specs.Compact.{passed, IsInTurn, before_next, HasSentForgot, HoldsNext, IsCompact}
use Rattle.ring_rules.proofs.walks.Packets.{reads_forgot, line_of_packet}
use Rattle.ring_rules.proofs.runs.HasSent.{taken_last, reached_has}
use Rattle.ring_rules.proofs.compact.InTurn.{IsTurned, next_goes_on, reached_turned}
use Rattle.ring_rules.proofs.compact.SentForgot.{reached_sent_forgot}
use Rattle.ring_rules.proofs.compact.FirstByLines.{reached_first_by_lines}
use Rattle.ring_rules.proofs.compact.ByLines.{reached_by_lines}

-- where packets go in turn, what stands before the next one was put last
turn_before : (b : Sending) (ks : List Packet) (s : Sending) → IsInTurn b ks s → before_next b ks ≡ s
turn_before b [] s h = sym h
turn_before b (k ∷ ks) s h = turn_before (passed k) ks s h.1

-- the next packet begins where its sender has forgotten, or where what was sent last ended
next_held : (w : World) → IsTurned w → HasSentForgot w → HoldsNext w
next_held w t h x o p up out some lt = by_fresh (link_at w o).sending.fresh refl
  where
    s : Sending
    s = (link_at w o).sending

    k : Packet
    k = next_packet (member_at w x) s

    goes_on : (numbers_at k p).lo ≡ lo_of s.fresh (numbers_at k p).forgot (numbers_at s.sent p)
    goes_on = next_goes_on (member_at w x) s (λ q. t.behind x o q (ap runs_phase up) out) p

    says : (numbers_at k p).forgot ≡ (row_at (member_at w x) p).forgot
    says = line_of_packet (λ j. j.forgot) (λ r. r.forgot) (member_at w x) s p reads_forgot

    by_fresh : (b : Bool) → s.fresh ≡ b → (row_at (member_at w x) p).forgot ≤ (numbers_at k p).lo
    by_fresh true e = let is : (numbers_at k p).lo ≡ (numbers_at k p).forgot = goes_on ∙ ap (λ b. lo_of b (numbers_at k p).forgot (numbers_at s.sent p)) e in omega (arith, is, says)
    by_fresh false e = let is : (numbers_at k p).lo ≡ (numbers_at s.sent p).got = goes_on ∙ ap (λ b. lo_of b (numbers_at k p).forgot (numbers_at s.sent p)) e in omega (arith, is, h x o p up out e some lt)

-- in every state of every run of a ring with these names
pub reached_compact : (credit : CreditSpec) (names : List (List ℕ)) (es : List Act) → AreOpeningNames names → IsRun (opening credit names) es → IsCompact (last (opening credit names) es)
reached_compact credit names es are r =
    let w : World = last (opening credit names) es in
    let t : IsTurned w = reached_turned credit names es are r in
    let h : HasSentForgot w = reached_sent_forgot credit names es are r in
    record { turn = t.turn; before = λ s. turn_before (link_at w s).had (link_at w s).packets (link_at w s).sending (t.turn s); next = λ x o rx out. next_goes_on (member_at w x) (link_at w o).sending (λ p. t.behind x o p rx out); sent = h; holds = next_held w t h; taken = reached_has taken_last credit names es are r; lines = reached_by_lines credit names es are r; first = reached_first_by_lines credit names es are r }
