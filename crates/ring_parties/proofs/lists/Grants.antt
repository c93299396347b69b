-- Each grant under way is of some credit, so there are never more grants than the credit of a link.
use Rattle.std.proofs.Common.{◌≡◌, ℕ, ◌+◌, ◌<◌, Option, Some, None, List, [], ◌∷◌, ◌++◌, refl, sym, ◌∙◌, append_assoc, ◌≤◌, Bool, true, false, if◌then◌else◌, length, sum, suc, arith, ap, ⊎_elim}
use Rattle.credit_flow.specs.Link.{with_grant}
use Rattle.std.specs.Prelude.{All}
use Rattle.std.proofs.lemmas.Grind.{common_steps}
use Rattle.std.proofs.lemmas.List.Elements.{All-push}
use Rattle.std.proofs.lemmas.List.{map-append}
use Rattle.ring_names.specs.declared.numbers.Stamp.{Stamp}
use Rattle.ordered_link.specs.declared.grant.Grant.{Grant}
use Rattle.ordered_link.specs.declared.ring.RingIn.{RingIn}
use Rattle.rtrb.specs.Ring.{sent, known_free, SameProducer}
use Rattle.ordered_link.specs.Waiting.{Sends}
use Rattle.ordered_link.specs.RingSteps.{RingSends}
use Rattle.activity.specs.declared.packet.Load.{Load}
use Rattle.gm_member.specs.Loads.{GrantsIf}
use Rattle.ring_parties.specs.Parties.{amounts}

-- a grant is given after those that are under way
pub append-with_grant : (xs ys : List ℕ) (grant : Option ℕ) → xs ++ with_grant ys grant ≡ with_grant (xs ++ ys) grant
append-with_grant xs ys None = refl
append-with_grant xs ys (Some grant) = sym (append_assoc xs ys (grant ∷ []))

-- ---- lists of grants

-- each is of some credit
abbrev pub ArePositive : List ℕ → Type 0
ArePositive = All (λ g. 0 < g)

-- so there are no more of them than their credit together
pub ArePositive-count : (gs : List ℕ) → ArePositive gs → length gs ≤ sum gs
ArePositive-count [] h = omega arith
ArePositive-count (g ∷ gs) h =
    let l : 0 < g = h 0 0 (omega arith) in
    let k : length gs ≤ sum gs = ArePositive-count gs (λ j d lt. h (suc j) d (omega arith)) in
    grind (arith, common_steps)

pub ArePositive-with_grant : (b : Bool) (more : ℕ) (gs : List ℕ) → 0 < more → ArePositive gs → ArePositive (with_grant gs (if b then Some more else None))
ArePositive-with_grant true more gs l h = All-push (λ g. 0 < g) gs more h l
ArePositive-with_grant false more gs l h = h

-- ---- a take

-- nothing waited, so the way back is as it was
pub nothing_sent : (given given' : List Grant) (late late' : Option Grant) → late ≡ None → Sends given late given' late' → (given' ≡ given) × (late' ≡ None)
nothing_sent given given' late late' e s = ⊎_elim
    (λ (x : (given' ≡ given) × (late' ≡ late)). (x.0, x.1 ∙ e))
    (λ (x : (late' ≡ None) × (g : Grant) × (late ≡ Some g) × (given' ≡ given ++ g ∷ [])). absurd (cc (sym e ∙ x.2)))
    s

-- where nothing waits afterwards, the grant has gone
pub one_sent : (given given' : List Grant) (late' : Option Grant) (g : Grant) → late' ≡ None → Sends given (Some g) given' late' → given' ≡ given ++ g ∷ []
one_sent given given' late' g e s = ⊎_elim
    (λ (x : (given' ≡ given) × (late' ≡ Some g)). absurd (cc (sym e ∙ x.1)))
    (λ (x : (late' ≡ None) × (d : Grant) × (Some g ≡ Some d) × (given' ≡ given ++ d ∷ [])). let d : x.1 ≡ g = cc (x.2) in x.3 ∙ ap (λ k. given ++ k ∷ []) d)
    s

pub granted : (due : Option ℕ) (stamp : Stamp) (a b : RingIn Load) → 0 < known_free a.back → a.late ≡ None → GrantsIf due stamp RingSends a b → (b.items ≡ a.items) × (amounts (sent b.back) ≡ with_grant (amounts (sent a.back)) due) × (b.late ≡ None) × (length (sent b.back) + known_free b.back ≡ length (sent a.back) + known_free a.back) × (b.initial ≡ a.initial) × SameProducer a.back b.back
granted None stamp a b free late e = (
  ap (λ x. x.items) e,
  ap (λ x. amounts (sent x.back)) e,
  ap (λ x. x.late) e ∙ late,
  ap (λ x. length (sent x.back) + known_free x.back) e,
  ap (λ x. x.initial) e,
  ((ap (λ x. x.back.end.words) e, ap (λ x. x.back.end.slots) e, ap (λ x. x.back.end.names) e, ap (λ x. x.back.end.heap) e), ap (λ x. x.back.capacity) e),
)
granted (Some g) stamp a b free late (items, same, sends, room, gone, initial) =
    let grant : Grant = record { amount = g; stamp = stamp } in
    (items, ap amounts (one_sent (sent a.back) (sent b.back) b.late grant (gone free) sends) ∙ map-append (λ (x : Grant). x.amount) (sent a.back) (grant ∷ []), gone free, room, initial, same)
