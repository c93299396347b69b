-- What a state records of the messages to its queue, and what it says of when a member joined.
use Rattle.std.proofs.Common.{◌≡◌, ℕ, ◌+◌, Bool, true, false, cond, List, [], ◌∷◌, ◌++◌, length, take, nat_eq, refl, ap, ◌∙◌, arith, Some, None}
use Rattle.std.proofs.lemmas.List.{append-nil}
use Rattle.std.proofs.lemmas.List.Concat.{flat_map-append}
use Rattle.group_view.proofs.Rings.{nat_eq-same}
use Rattle.queue_core.specs.declared.message.Message.{Message}
use Rattle.queue_core.specs.declared.message.Message.TheVariants.{Cast, Queue}
use Rattle.queue_laws.specs.Part.{ops, Sent, past_of, is_in}
use Rattle.queue_laws.specs.Moves.{sent_after}
use Rattle.queue_laws.proofs.Seen.{past_same, no_ops_front}
use Rattle.ring_rules.specs.Machine.{World, member_at}
use Rattle.ring_rules.specs.Step.{log_of}
use Rattle.ring_rules.specs.Lawful.{row_of}
use Rattle.ring_rules.specs.QueuePart.{masters_in, based, since_of, sent_of, sent_by}

-- ---- the records

-- one message more
pub sent_push : (p n : ℕ) (l : List Message) (m : Message) (rs : List Sent) → sent_of p n (l ++ m ∷ []) rs ≡ sent_after p (n + length l + 1) m (sent_of p n l rs)
sent_push p n [] m rs = ap (λ k. sent_after p k m rs) (let e : n + 1 ≡ n + 0 + 1 = omega arith in e)
sent_push p n (k ∷ l) m rs = sent_push p (n + 1) l m (sent_after p (n + 1) k rs) ∙ ap (λ k2. sent_after p k2 m (sent_of p (n + 1) l (sent_after p (n + 1) k rs))) (let e : n + 1 + length l + 1 ≡ n + length (k ∷ l) + 1 = omega arith in e)

-- casts leave them as they are
pub sent_casts : (p n : ℕ) (l : List Message) (rs : List Sent) → ops l ≡ [] → sent_of p n l rs ≡ rs
sent_casts p n [] rs h = refl
sent_casts p n (Cast b ∷ l) rs h = sent_casts p (n + 1) l rs h
sent_casts p n (Queue o ∷ l) rs h = cc

-- of several members that published the same
pub sent_same : (log log' : ℕ → List Message) (ms : List ℕ) (rs : List Sent) → ((p : ℕ) (xs : List Sent) → is_in p ms ≡ true → sent_of p 0 (log' p) xs ≡ sent_of p 0 (log p) xs) → sent_by log' ms rs ≡ sent_by log ms rs
sent_same log log' [] rs h = refl
sent_same log log' (m ∷ ms) rs h = ap (λ xs. sent_by log' ms xs) (h m rs (first m ms)) ∙ sent_same log log' ms (sent_of m 0 (log m) rs) (λ p xs i. h p xs (later p m ms i))
  where
    first : (m : ℕ) (ms : List ℕ) → is_in m (m ∷ ms) ≡ true
    first m ms = rw (nat_eq-same m) refl

    later : (p m : ℕ) (ms : List ℕ) → is_in p ms ≡ true → is_in p (m ∷ ms) ≡ true
    later p m ms i = by_case (nat_eq p m)
      where
        by_case : (b : Bool) → cond b true (is_in p ms) ≡ true
        by_case true = refl
        by_case false = i

-- and of one more behind them
pub sent_more : (log : ℕ → List Message) (ms : List ℕ) (p : ℕ) (rs : List Sent) → sent_by log (ms ++ p ∷ []) rs ≡ sent_of p 0 (log p) (sent_by log ms rs)
sent_more log [] p rs = refl
sent_more log (m ∷ ms) p rs = sent_more log ms p (sent_of m 0 (log m) rs)

-- ---- when a member joined

pub past_push : (log : ℕ → List Message) (g : ℕ → ℕ) (ms : List ℕ) (m : ℕ) → past_of log g (ms ++ m ∷ []) ≡ past_of log g ms ++ ops (take (g m) (log m))
past_push log g ms m = flat_map-append (λ p. ops (take (g p) (log p))) ms (m ∷ []) ∙ ap (λ os. past_of log g ms ++ os) (append-nil (ops (take (g m) (log m))))

-- the same where its base counts the same of each master
pub since_kept : (w w' : World) (q : ℕ) → (member_at w' q).whole ≡ (member_at w q).whole → masters_in w' ≡ masters_in w
    → ((p : ℕ) → ops (take (row_of w' q p).base (log_of w' p)) ≡ ops (take (row_of w q p).base (log_of w p))) → since_of w' q ≡ since_of w q
since_kept w w' q whole ms same =
    ap (λ b. cond b None (Some (length (based w' q)))) whole
    ∙ ap (λ xs. cond (member_at w q).whole None (Some (length (past_of (log_of w') (λ p. (row_of w' q p).base) xs)))) ms
    ∙ ap (λ os. cond (member_at w q).whole None (Some (length os))) (past_same (log_of w) (log_of w') (λ p. (row_of w q p).base) (λ p. (row_of w' q p).base) (masters_in w) (λ p _. same p))

-- and where one more is a master who has published nothing to the queue
pub since_more : (w w' : World) (q m : ℕ) → (member_at w' q).whole ≡ (member_at w q).whole → masters_in w' ≡ masters_in w ++ m ∷ []
    → ((p : ℕ) → ops (take (row_of w' q p).base (log_of w' p)) ≡ ops (take (row_of w q p).base (log_of w p))) → ops (log_of w' m) ≡ [] → since_of w' q ≡ since_of w q
since_more w w' q m whole ms same none =
    ap (λ b. cond b None (Some (length (based w' q)))) whole
    ∙ ap (λ xs. cond (member_at w q).whole None (Some (length (past_of (log_of w') (λ p. (row_of w' q p).base) xs)))) ms
    ∙ ap (λ os. cond (member_at w q).whole None (Some (length os)))
    (past_push (log_of w') (λ p. (row_of w' q p).base) (masters_in w) m
    ∙ ap (λ os. past_of (log_of w') (λ p. (row_of w' q p).base) (masters_in w) ++ os) (no_ops_front (row_of w' q m).base (log_of w' m) none)
    ∙ append-nil (past_of (log_of w') (λ p. (row_of w' q p).base) (masters_in w))
    ∙ past_same (log_of w) (log_of w') (λ p. (row_of w q p).base) (λ p. (row_of w' q p).base) (masters_in w) (λ p _. same p))
