-- Who is elected lives, and is registered as synchronised.
use Rattle.std.proofs.Common.{◌≡◌, ℕ, Bool, true, false, cond, nat_eq, List, [], ◌∷◌, Some, refl, sym, ap, subst, ◌∙◌}
use Rattle.std.specs.List.{filter}
use Rattle.std.proofs.lemmas.Bool.{false≢true, and_parts}
use Rattle.ring_names.specs.declared.numbers.MemberId.{MemberId}
use Rattle.group_view.specs.declared.entry.Entry.{Entry}
use Rattle.group_view.specs.Ring.{is_in, AreDistinct}
use Rattle.group_view.specs.View.{ids, entry_in, is_live_mark, is_erased}
use Rattle.group_view.proofs.Rings.{nat_eq-is, sym_test}
use Rattle.group_view.proofs.Groups.{live_not_erased}
use Rattle.promotion.specs.Elect.{may_lead, elected, IsElected, IsLeader}
use Rattle.promotion.proofs.Elected.{is_elected}

-- who is among those that may lead is there
leads_there : (es : List Entry) (n : ℕ) → is_in n (ids (filter may_lead es)) ≡ true → is_in n (ids es) ≡ true
leads_there [] n h = h
leads_there (e ∷ es) n h = by_case (may_lead e) (nat_eq n e.id.0) refl h (λ k. leads_there es n k)
  where
    by_case : (a b : Bool) → nat_eq n e.id.0 ≡ b → is_in n (ids (cond a (e ∷ filter may_lead es) (filter may_lead es))) ≡ true → (is_in n (ids (filter may_lead es)) ≡ true → is_in n (ids es) ≡ true) → cond b true (is_in n (ids es)) ≡ true
    by_case a true eb k ih = refl
    by_case true false eb k ih = ih (rw eb at k)
    by_case false false eb k ih = ih k

-- and its entry may lead
leader_may : (es : List Entry) (n : ℕ) → AreDistinct (ids es) → is_in n (ids (filter may_lead es)) ≡ true → may_lead (entry_in es n) ≡ true
leader_may [] n d h = absurd (false≢true h)
leader_may (e ∷ es) n d h = by_case (nat_eq e.id.0 n) refl (may_lead e) refl h (λ k. leader_may es n d.1 k)
  where
    here : e.id.0 ≡ n → is_in n (ids (filter may_lead es)) ≡ true → may_lead e ≡ true
    here is k = absurd (false≢true (sym d.0 ∙ ap (λ q. is_in q (ids es)) is ∙ leads_there es n k))

    by_case : (b : Bool) → nat_eq e.id.0 n ≡ b → (a : Bool) → may_lead e ≡ a → is_in n (ids (cond a (e ∷ filter may_lead es) (filter may_lead es))) ≡ true → (is_in n (ids (filter may_lead es)) ≡ true → may_lead (entry_in es n) ≡ true) → may_lead (cond b e (entry_in es n)) ≡ true
    by_case true eb true ea k ih = ea
    by_case true eb false ea k ih = here (nat_eq-is e.id.0 n eb) k
    by_case false eb true ea k ih = ih (rw (sym_test e.id.0 n false eb) at k)
    by_case false eb false ea k ih = ih k

-- who is elected
pub elected_leads : (es : List Entry) (id : MemberId) → AreDistinct (ids es) → elected es ≡ Some id → IsLeader es id.0
elected_leads es id d e =
    let is : IsElected es (Some id) = subst (IsElected es) e (is_elected es) in
    let both = and_parts (is_live_mark (entry_in es id.0).mark) (entry_in es id.0).synced (leader_may es id.0 d is.there) in
    record { lives = both.0; enrolled = both.1 }

-- and it isn't erased
pub leader_stands : (es : List Entry) (n : ℕ) → IsLeader es n → is_erased es n ≡ false
leader_stands es n h = live_not_erased (entry_in es n).mark h.lives
