-- A party that tries to do one event in a round.
use Rattle.std.proofs.Common.{Bool, true, false, [], ◌∷◌}
use Rattle.std.specs.Prelude.{Result, Ok, Err}
use Rattle.std.specs.Result.{IsErrAnd}
use Rattle.ring_names.specs.declared.memory.OutOfMemory.{OutOfMemory}
use Rattle.ring_rules.specs.declared.event.Event.{Event}
use Rattle.ring_parties.specs.declared.party.Party.{Party}
use Rattle.ring_parties.specs.Turn.{Acted, TriesTurn}
use Rattle.ring_parties.proofs.turns.Passing.{acted_trans}

-- it did
pub tries_did : (P : Event → Type 0) (p q : Party) (e : Event) → P e → Acted (e ∷ []) p q → TriesTurn P p q (Ok true)
tries_did P p q e is acted = record { did = λ _. (e, is, acted); did_not = λ no. cc; err = tt }

-- it did nothing
pub tries_not : (P : Event → Type 0) (p q : Party) → Acted [] p q → TriesTurn P p q (Ok false)
tries_not P p q acted = record { did = λ no. cc; did_not = λ _. acted; err = tt }

-- memory was wanted
pub tries_in_vain : (P : Event → Type 0) (p q : Party) (fault : OutOfMemory) → Acted [] p q → TriesTurn P p q (Err fault)
tries_in_vain P p q fault acted = record { did = tt; did_not = tt; err = acted }

pub tries_failed : (P : Event → Type 0) (Q : OutOfMemory → Type 0) (p q : Party) (result : Result Bool OutOfMemory) → IsErrAnd result Q → Acted [] p q → TriesTurn P p q result
tries_failed P Q p q (Ok b) is acted = absurd is
tries_failed P Q p q (Err fault) is acted = tries_in_vain P p q fault acted

-- it did nothing before
pub tries_then : (P Q : Event → Type 0) (p m q : Party) (result : Result Bool OutOfMemory) → ((e : Event) → P e → Q e) → Acted [] p m → TriesTurn P m q result → TriesTurn Q p q result
tries_then P Q p m q (Ok b) f acted tries = record {
  did = λ is. (let x = tries.did is in (x.0, f x.0 x.1, acted_trans [] (x.0 ∷ []) p m q acted x.2));
  did_not = λ is. acted_trans [] [] p m q acted (tries.did_not is);
  err = tt;
}
tries_then P Q p m q (Err fault) f acted tries = record { did = tt; did_not = tt; err = acted_trans [] [] p m q acted tries.err }
