-- What comes of a turn.
use Rattle.std.proofs.Common.{◌≡◌, inl, ℕ, Bool, true, false, List, [], ◌∷◌, Option, Some, None, refl, sym, ap, subst, ◌∙◌}
use Rattle.std.specs.Prelude.{Result, Ok, Err}
use Rattle.std.specs.Result.{IsErrAnd}
use Rattle.ring_names.specs.declared.memory.OutOfMemory.{OutOfMemory}
use Rattle.ring_rules.specs.declared.event.Event.{Event}
use Rattle.ring_rules.specs.declared.event.Event.TheVariants as event
use Rattle.ring_rules.specs.declared.event.Client.{Client}
use Rattle.ring_rules.specs.Kind.{kind_of}
use Rattle.ring_rules.specs.Event.{is_asked, event_of}
use Rattle.ring_parties.specs.declared.party.Party.{Party}
use Rattle.ring_parties.specs.declared.turn.Turn.{Turn}
use Rattle.ring_parties.specs.declared.turn.Turn.TheVariants as turn
use Rattle.ring_parties.specs.Turn.{Acted, TriesTurn}
use Rattle.ring_parties.specs.Turns.{TookTurn, IsTurn, BeginsIf, answered_by, is_by_itself, is_saying}
use Rattle.ring_parties.proofs.turns.Passing.{acted_trans}
use Rattle.ring_parties.proofs.turns.Saying.{asked_client, answered_client, itself_client}

-- it has done something of its own
is_own : (next : Option Client) (e : Event) → is_asked e ≡ false → IsTurn next turn.Own (e ∷ [])
is_own None e own = (e, refl, own)
is_own (Some t) e own = (e, refl, own)

-- or nothing
is_nothing : (next : Option Client) → IsTurn next turn.Nothing []
is_nothing None = refl
is_nothing (Some t) = refl

none_begins : (first : Bool) (next : Option Client) → BeginsIf first next []
none_begins true None = tt
none_begins true (Some t) = tt
none_begins false next = tt

-- where it needn't begin with its task, it begins with whatever it does
pub begins_not : (next : Option Client) (es : List Event) → BeginsIf false next es
begins_not next es = tt

-- and so where there is no task
pub begins_alone : (first : Bool) (es : List Event) → BeginsIf first None es
begins_alone true es = tt
begins_alone false es = tt

-- it did something of its own, or nothing
pub took_own : (P : Event → Type 0) (first : Bool) (next : Option Client) (p q : Party) (did : Bool) (t : Turn) → (did ≡ true → t ≡ turn.Own) → (did ≡ false → t ≡ turn.Nothing) → ((e : Event) → P e → (is_asked e ≡ false) × BeginsIf first next (e ∷ [])) → TriesTurn P p q (Ok did)
    → TookTurn first next p q (Ok t)
took_own P first next p q true t own nothing such tries =
    let x = tries.did refl in
    record {
      ok = subst (λ (u : Turn). (es : List Event) × Acted es p q × IsTurn next u es × BeginsIf first next es) (sym (own refl)) (x.0 ∷ [], x.2, is_own next x.0 (such x.0 x.1).0, (such x.0 x.1).1);
      err = tt;
    }
took_own P first next p q false t own nothing such tries = record {
  ok = subst (λ (u : Turn). (es : List Event) × Acted es p q × IsTurn next u es × BeginsIf first next es) (sym (nothing refl)) ([], tries.did_not refl, is_nothing next, none_begins first next);
  err = tt;
}

-- an event answers a task by itself
abbrev pub Answers : Client → Event → Type 0
Answers t e = (is_asked e ≡ true) × (answered_by e ≡ event_of t) × (is_by_itself e ≡ true)

-- what it says that its client asks
pub said_answers : (t : Client) (e : Event) → e ≡ event_of t → is_saying (kind_of e) ≡ true → Answers t e
said_answers t e is says = (
  ap is_asked is ∙ asked_client t,
  ap answered_by is ∙ answered_client t,
  ap is_by_itself is ∙ itself_client t ∙ sym (ap (λ (x : Event). is_saying (kind_of x)) is) ∙ says,
)

-- and a refusal of that
pub refused_answers : (code : ℕ) (t : Client) (e : Event) → e ≡ event_of t → is_saying (kind_of e) ≡ true → Answers t (event.Refuse code t)
refused_answers code t e is says = (refl, refl, sym (ap (λ (x : Event). is_saying (kind_of x)) is) ∙ says)

-- it answered its task
pub took_task : (first : Bool) (task : Client) (p q : Party) → TriesTurn (Answers task) p q (Ok true) → TookTurn first (Some task) p q (Ok turn.Task)
took_task first task p q tries =
    let x = tries.did refl in
    record { ok = (x.0 ∷ [], x.2, (x.0, refl, x.1.0, x.1.1, x.1.2), begun first x.0 x.1.0); err = tt }
  where
    begun : (b : Bool) (e : Event) → is_asked e ≡ true → BeginsIf b (Some task) (e ∷ [])
    begun true e asked = inl asked
    begun false e asked = tt

-- it did nothing
pub took_nothing : (first : Bool) (next : Option Client) (p q : Party) → Acted [] p q → TookTurn first next p q (Ok turn.Nothing)
took_nothing first next p q acted = record { ok = ([], acted, is_nothing next, none_begins first next); err = tt }

-- memory was wanted
pub took_none : (first : Bool) (next : Option Client) (p q : Party) (fault : OutOfMemory) → Acted [] p q → TookTurn first next p q (Err fault)
took_none first next p q fault acted = record { ok = tt; err = acted }

pub took_failed : (Q : OutOfMemory → Type 0) (first : Bool) (next : Option Client) (p q : Party) (result : Result Turn OutOfMemory) → IsErrAnd result Q → Acted [] p q → TookTurn first next p q result
took_failed Q first next p q (Ok t) is acted = absurd is
took_failed Q first next p q (Err fault) is acted = took_none first next p q fault acted

-- it had done nothing before
pub took_then : (first : Bool) (next : Option Client) (p m q : Party) (result : Result Turn OutOfMemory) → Acted [] p m → TookTurn first next m q result → TookTurn first next p q result
took_then first next p m q (Ok t) acted took =
    let x = took.ok in
    record { ok = (x.0, acted_trans [] x.0 p m q acted x.1, x.2, x.3); err = tt }
took_then first next p m q (Err fault) acted took = record { ok = tt; err = acted_trans [] [] p m q acted took.err }

-- a turn that begins with its task may be any
pub took_either : (first : Bool) (next : Option Client) (p q : Party) (result : Result Turn OutOfMemory) → TookTurn true next p q result → TookTurn first next p q result
took_either true next p q result took = took
took_either false next p q (Ok t) took =
    let x = took.ok in
    record { ok = (x.0, x.1, x.2, tt); err = tt }
took_either false next p q (Err fault) took = record { ok = tt; err = took.err }
