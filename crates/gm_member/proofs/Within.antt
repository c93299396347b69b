-- What was last sent of an origin stays within what is kept of it.
use Rattle.std.proofs.Common.{◌≡◌, ◌≤◌, ℕ, Bool, true, false, cond, nat_eq, List, [], ◌∷◌, ap, arith, length-append}
use Rattle.queue_core.specs.declared.message.Message.{Message}
use Rattle.activity.specs.Kept.{Kept, KeptRow, got_of, kept_of, joined, KeepsRows}
use Rattle.activity.specs.LastSent.{LastSent, LastSentRow, never_sent, sent_of}
use Rattle.activity.specs.Diff.{IsNotAbove}
use Rattle.gm_member.specs.Within.{IsWithin}

-- nothing was sent
pub none_within : (rows : List KeptRow) → IsWithin (λ _. never_sent) rows
unfolding IsWithin
none_within rows = λ p. (omega arith, omega arith)

-- what a record of sent rows says, and what was last sent of them
pub above_within : (sent : List LastSentRow) (rows : List KeptRow) → IsNotAbove sent rows → IsWithin (λ p. sent_of sent p) rows
unfolding IsWithin
above_within sent rows h = λ p. (h.got p, h.forgot p)

pub within_above : (sent : List LastSentRow) (rows : List KeptRow) → IsWithin (λ p. sent_of sent p) rows → IsNotAbove sent rows
unfolding IsWithin
within_above sent rows h = record { got = λ p. (h p).0; forgot = λ p. (h p).1 }

-- what is kept grows
pub grows_within : (last_sent : ℕ → LastSent) (old new : List KeptRow) → ((p : ℕ) → (got_of (kept_of old p) ≤ got_of (kept_of new p)) × ((kept_of old p).forgot ≤ (kept_of new p).forgot)) → IsWithin last_sent old → IsWithin last_sent new
unfolding IsWithin
grows_within last_sent old new rises h = λ p. let a = rises p in let b = h p in (omega (arith, a.0, b.0), omega (arith, a.1, b.1))

-- the same is kept
pub keeps_within : (last_sent : ℕ → LastSent) (old new : List KeptRow) → KeepsRows old new → IsWithin last_sent old → IsWithin last_sent new
keeps_within last_sent old new k = grows_within last_sent old new (λ p. (omega (arith, ap got_of (k.kept p)), omega (arith, ap (λ (s : Kept). s.forgot) (k.kept p))))

-- a message joins what is kept of one
joined_rises : (b : Bool) (m : Message) (k : Kept) → (got_of k ≤ got_of (cond b (joined m k) k)) × (k.forgot ≤ (cond b (joined m k) k).forgot)
joined_rises true m k = (omega (arith, length-append k.messages (m ∷ [])), omega arith)
joined_rises false m k = (omega arith, omega arith)

pub joined_within : (last_sent : ℕ → LastSent) (old mid new : List KeptRow) (id : ℕ) (m : Message) → KeepsRows old mid → ((p : ℕ) → kept_of new p ≡ cond (nat_eq p id) (joined m (kept_of mid p)) (kept_of mid p)) → IsWithin last_sent old → IsWithin last_sent new
joined_within last_sent old mid new id m k h w =
    grows_within last_sent mid new
    (λ p. let r = joined_rises (nat_eq p id) m (kept_of mid p) in (omega (arith, r.0, ap got_of (h p)), omega (arith, r.1, ap (λ (s : Kept). s.forgot) (h p))))
    (keeps_within last_sent old mid k w)
