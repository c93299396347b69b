-- What was sent of an origin is never above what is kept of it.
use Rattle.std.proofs.Common.{◌≡◌, ℕ, ◌+◌, ◌≤◌, Bool, true, false, cond, nat_eq, List, [], ◌∷◌, length, max, Option, Some, None, refl, sym, ap, subst, ◌∙◌, arith, length-append}
use Rattle.queue_core.specs.declared.message.Message.{Message}
use Rattle.activity.specs.Kept.{Kept, KeptRow, got_of, kept_of, joined, KeepsRows}
use Rattle.activity.specs.LastSent.{LastSentRow, sent_of, KeepsSent}
use Rattle.activity.specs.Packets.{LineSeen, got_in, line_of, noted}
use Rattle.activity.specs.Diff.{next_line, lo_of, IsNotAbove}
use Rattle.activity.specs.Plan.{fits, accepted}
use Rattle.activity.proofs.Marks.{lo_within, next_is, line_got, accepted_passed, planned, marks_kept}
use Rattle.activity.proofs.Fits.{IsReceived, WentRound, received, went_round}

-- nothing was sent
pub above_none : (rows : List KeptRow) → IsNotAbove [] rows
above_none rows = record { got = λ p. omega arith; forgot = λ p. omega arith }

-- where no number falls
pub above_raised : (sent : List LastSentRow) (old new : List KeptRow) → ((p : ℕ) → got_of (kept_of old p) ≤ got_of (kept_of new p)) → ((p : ℕ) → (kept_of old p).forgot ≤ (kept_of new p).forgot)
    → IsNotAbove sent old → IsNotAbove sent new
above_raised sent old new got forgot h = record {
  got = λ p. let a = h.got p in let b = got p in omega arith;
  forgot = λ p. let a = h.forgot p in let b = forgot p in omega arith;
}

-- where the tables keep what they kept
pub above_kept : (sent : List LastSentRow) (old new : List KeptRow) → KeepsRows old new → IsNotAbove sent old → IsNotAbove sent new
above_kept sent old new k h = record {
  got = λ p. subst (λ x. (sent_of sent p).got ≤ got_of x) (sym (k.kept p)) (h.got p);
  forgot = λ p. subst (λ x. (sent_of sent p).forgot ≤ x.forgot) (sym (k.kept p)) (h.forgot p);
}

-- where the same was sent
pub above_same : (old new : List LastSentRow) (rows : List KeptRow) → KeepsSent old new → IsNotAbove old rows → IsNotAbove new rows
above_same old new rows k h = record {
  got = λ p. subst (λ t. t.got ≤ got_of (kept_of rows p)) (sym (k.sent p)) (h.got p);
  forgot = λ p. subst (λ t. t.forgot ≤ (kept_of rows p).forgot) (sym (k.sent p)) (h.forgot p);
}

-- where a message joins the log of an origin
pub above_joined : (sent : List LastSentRow) (old new : List KeptRow) (id : ℕ) (m : Message) → ((p : ℕ) → kept_of new p ≡ cond (nat_eq p id) (joined m (kept_of old p)) (kept_of old p))
    → IsNotAbove sent old → IsNotAbove sent new
above_joined sent old new id m made h = above_raised sent old new
    (λ p. subst (λ k. got_of (kept_of old p) ≤ got_of k) (sym (made p)) (more p (nat_eq p id)))
    (λ p. subst (λ k. (kept_of old p).forgot ≤ k.forgot) (sym (made p)) (same p (nat_eq p id))) h
  where
    more : (p : ℕ) (b : Bool) → got_of (kept_of old p) ≤ got_of (cond b (joined m (kept_of old p)) (kept_of old p))
    more p true = omega (arith, length-append (kept_of old p).messages (m ∷ []))
    more p false = omega arith

    same : (p : ℕ) (b : Bool) → (kept_of old p).forgot ≤ (cond b (joined m (kept_of old p)) (kept_of old p)).forgot
    same p true = omega arith
    same p false = omega arith

-- no number falls by a line
pub got_raised : (own : Bool) (k : Kept) (o : Option LineSeen) → (got_of k ≤ got_of (accepted own k o)) × (k.forgot ≤ (accepted own k o).forgot)
got_raised own k None = (omega arith, omega arith)
got_raised own k (Some c) = by own (fits own k c) refl
  where
    by : (own b : Bool) → fits own k c ≡ b → (got_of k ≤ got_of (accepted own k (Some c))) × (k.forgot ≤ (accepted own k (Some c)).forgot)
    by own false h = subst (λ x. (got_of k ≤ got_of x) × (k.forgot ≤ x.forgot)) (sym (accepted_passed own k c h)) (omega arith, omega arith)
    by true true h =
        let r : WentRound k c (got_in c) c.forgot = went_round true k c c.origin (got_in c) c.forgot (planned true k c h) in
        let m = marks_kept true k c h in
        let g : got_of (accepted true k (Some c)) ≡ got_of k = ap (λ x. x.got) m in
        let f : (accepted true k (Some c)).forgot ≡ got_in c = ap (λ x. x.forgot) m in
        (subst (λ n. got_of k ≤ n) (sym g) (omega arith), subst (λ n. k.forgot ≤ n) (sym f) r.forgot)
    by false true h =
        let r : IsReceived k c (max c.lo (got_of k)) (got_in c) c.forgot = received false k c c.origin (max c.lo (got_of k)) (got_in c) c.forgot (planned false k c h) in
        let m = marks_kept false k c h in
        let g : got_of (accepted false k (Some c)) ≡ got_in c = ap (λ x. x.got) m in
        let f : (accepted false k (Some c)).forgot ≡ c.forgot = ap (λ x. x.forgot) m in
        (subst (λ n. got_of k ≤ n) (sym g) r.got, subst (λ n. k.forgot ≤ n) (sym f) r.forgot)

-- once its packet is noted, no more was sent than is there
pub above_noted : (first : Bool) (old new : List LastSentRow) (rows : List KeptRow) (lines : List LineSeen) → IsNotAbove old rows
    → ((p : ℕ) → line_of lines p ≡ next_line first p (kept_of rows p) (sent_of old p)) → ((p : ℕ) → sent_of new p ≡ noted (line_of lines p) (sent_of old p)) → IsNotAbove new rows
above_noted first old new rows lines h next note = record {
  got = λ p. subst (λ t. t.got ≤ got_of (kept_of rows p)) (sym (note p)) (of_got p (line_of lines p) (sym (next p)));
  forgot = λ p. subst (λ t. t.forgot ≤ (kept_of rows p).forgot) (sym (note p)) (of_forgot p (line_of lines p) (sym (next p)));
}
  where
    of_got : (p : ℕ) (o : Option LineSeen) → next_line first p (kept_of rows p) (sent_of old p) ≡ o → (noted o (sent_of old p)).got ≤ got_of (kept_of rows p)
    of_got p None e = h.got p
    of_got p (Some c) e =
        let w = lo_within first (kept_of rows p) (sent_of old p) (h.got p) in
        let g = ap (λ x. x.lo + length x.messages) (next_is first p (kept_of rows p) (sent_of old p) c e) ∙ line_got (lo_of first (kept_of rows p) (sent_of old p)) p (kept_of rows p) w.0 w.1 in
        omega arith

    of_forgot : (p : ℕ) (o : Option LineSeen) → next_line first p (kept_of rows p) (sent_of old p) ≡ o → (noted o (sent_of old p)).forgot ≤ (kept_of rows p).forgot
    of_forgot p None e = h.forgot p
    of_forgot p (Some c) e = let g : c.forgot ≡ (kept_of rows p).forgot = ap (λ x. x.forgot) (next_is first p (kept_of rows p) (sent_of old p) c e) in omega arith

-- once a packet is applied
pub above_applied : (sent : List LastSentRow) (old new : List KeptRow) (own : ℕ → Bool) (lines : List LineSeen)
    → ((p : ℕ) → kept_of new p ≡ accepted (own p) (kept_of old p) (line_of lines p)) → IsNotAbove sent old → IsNotAbove sent new
above_applied sent old new own lines made h = above_raised sent old new
    (λ p. subst (λ k. got_of (kept_of old p) ≤ got_of k) (sym (made p)) (got_raised (own p) (kept_of old p) (line_of lines p)).0)
    (λ p. subst (λ k. (kept_of old p).forgot ≤ k.forgot) (sym (made p)) (got_raised (own p) (kept_of old p) (line_of lines p)).1) h
