-- The logs of all members are gathered, one after another.
use Rattle.std.proofs.Common.{◌≡◌, ℕ, ◌+◌, List, [], ◌∷◌, ◌++◌, length, map, take, set, sym, ap, ◌∙◌, append_assoc, arith, rules}
use Rattle.std.proofs.lemmas.List.{take_all, take_more, map-append}
use Rattle.lamport_merge.specs.Logs.{GatheredSeen}
use Rattle.ring_parties.specs.declared.party.Party.{Party}
use Rattle.ring_parties.specs.Pairing.{IsAt}
use Rattle.ring_parties.specs.Turns.{SameShown, log_by}
use Rattle.ring_parties.proofs.pairs.Each.{within, read_at}
use Rattle.ring_parties.proofs.pairs.Done.{Done, done_none, done_next, was_at}

-- Those below a place have given their logs.
pub record LogsBelow (k : ℕ) (old new : List Party) (before now : GatheredSeen) : Type 0 where
  pub shown : Done (λ _ p q. SameShown p q) k old new
  pub logs : now.logs ≡ before.logs ++ map log_by (take k old)
  pub room : before.room ≡ now.room + k

pub no_logs : (old : List Party) (before : GatheredSeen) → LogsBelow 0 old old before before
no_logs old before = record {
  shown = done_none (λ _ p q. SameShown p q) old;
  logs = search rules;
  room = omega arith;
}

-- the logs of one more
log_more : (old : List Party) (k : ℕ) (x : Party) → IsAt old k x → map log_by (take (k + 1) old) ≡ map log_by (take k old) ++ log_by x ∷ []
log_more old k x at =
    ap (map log_by) (take_more old k x (within old k x at) ∙ ap (λ z. take k old ++ z ∷ []) (read_at old k x x at))
    ∙ map-append log_by (take k old) (x ∷ [])

pub logs_next : (k : ℕ) (old xs : List Party) (before now then_ : GatheredSeen) (x y : Party) → LogsBelow k old xs before now → IsAt xs k x → SameShown x y
    → then_.logs ≡ now.logs ++ log_by x ∷ [] → now.room ≡ then_.room + 1 → LogsBelow (k + 1) old (set xs k y) before then_
logs_next k old xs before now then_ x y b at same logs room = record {
  shown = done_next (λ _ p q. SameShown p q) k old xs x y b.shown at same;
  logs = logs ∙ ap (λ ls. ls ++ log_by x ∷ []) b.logs ∙ append_assoc before.logs (map log_by (take k old)) (log_by x ∷ [])
      ∙ ap (λ ls. before.logs ++ ls) (sym (log_more old k x (was_at (λ _ p q. SameShown p q) k old xs x b.shown at)));
  room = (let r = b.room in omega (arith, r, room));
}

pub logs_all : (k : ℕ) (old new : List Party) (before now : GatheredSeen) → k ≡ length new → LogsBelow k old new before now → now.logs ≡ before.logs ++ map log_by old
logs_all k old new before now all b =
    let count = b.shown.count in
    b.logs ∙ ap (λ ps. before.logs ++ map log_by ps) (take_all k old (omega (arith, count, all)))
