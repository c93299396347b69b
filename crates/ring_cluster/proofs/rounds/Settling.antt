-- When a cluster has nothing left to do.
use Rattle.std.proofs.Common.{◌≡◌, ◌≢◌, ℕ, suc, ◌<◌, ◌≤◌, Bool, true, false, cond, nat_eq, List, [], ◌∷◌, get_or, None, refl, sym, ap, subst, ◌∙◌, arith}
use Rattle.std.specs.Prelude.{All, Contains}
use Rattle.std.proofs.lemmas.List.Elements.{All-contains}
use Rattle.std.proofs.lemmas.Bool.{false≢true}
use Rattle.group_view.specs.declared.entry.Entry.{Entry}
use Rattle.group_view.specs.Ring.{is_in}
use Rattle.group_view.specs.View.{entry_in, is_dead_mark, ids as ids_of, right_of as right_of_entries}
use Rattle.group_view.proofs.Passing.{live_in, dead_in}
use Rattle.group_view.proofs.Rings.{nat_eq-is}
use Rattle.ring_rules.specs.View.{is_live}
use Rattle.ring_rules.specs.Machine.{World, view_in, newest, right, runs}
use Rattle.ring_rules.specs.Step.{size}
use Rattle.ring_rules.specs.Quiet.{RingRests}
use Rattle.ring_rules.proofs.invariants.Period.{right_lives}
use Rattle.ring_rules.proofs.walks.Views.{right_is}
use Rattle.ring_rules.specs.Event.{erase_refusal}
use Rattle.ring_rules.proofs.code.Enables.{erase_dead}
use Rattle.ring_rules.proofs.rests.Rests.{id_in, entry_at}
use Rattle.ring_rules.proofs.runs.OfEvents.{run_worked_rests}
use Rattle.ring_rules.specs.Idle.{NobodySteps, MarksNobody, ErasesNobody}
use Rattle.ring_rules.proofs.work.Fit as ring
use Rattle.ring_rules.proofs.work.Nobody.{ring_members}
use Rattle.ring_cluster.specs.Seen.{Seen, state_of, IsGoing}
use Rattle.ring_cluster.specs.Turns.{ErasesNoneAt}

-- ---- the right neighbour of a member that runs

-- it is one of the members
pub right_there : (w : World) (x : ℕ) → ring.IsFit w → runs w x ≡ true → (1 ≤ right w (newest w) x) × (right w (newest w) x < size w)
right_there w x f r =
    let lives : is_live (view_in w (newest w)) x ≡ true = f.good.inv.is_ring.lives x (newest w) r (f.good.inv.is_ring.held x) (omega arith) in
    ring_members w f.good f.nobody (right w (newest w) x) (live_in (view_in w (newest w)).entries (right w (newest w) x) (right_lives w (newest w) x lives))

-- the view finds it
pub right_found : (w : World) (x : ℕ) → right_of_entries (view_in w (newest w)).entries x ≡ right w (newest w) x
right_found w x = sym (right_is w (newest w) x (view_in w (newest w)) refl)

-- ---- who may be erased

-- an entry of the newest view is one of the members
pub entry_there : (w : World) (e : Entry) → ring.IsFit w → Contains (view_in w (newest w)).entries e → (1 ≤ e.id.0) × (e.id.0 < size w)
entry_there w e f h =
    let es : List Entry = (view_in w (newest w)).entries in
    All-contains (λ (x : Entry). (1 ≤ x.id.0) × (x.id.0 < size w)) es e (λ k d l. ring_members w f.good f.nobody (get_or es k d).id.0 (id_in es k d l)) h

-- only the dead are erased, and so no other entry
pub not_dead_stays : (w : World) (y : ℕ) (e : Entry) → ring.IsFit w → Contains (view_in w (newest w)).entries e → is_dead_mark e.mark ≡ false → erase_refusal w y e.id.0 ≢ None
not_dead_stays w y e f h lives none =
    let es : List Entry = (view_in w (newest w)).entries in
    let is : entry_in es e.id.0 ≡ e = All-contains (λ (x : Entry). entry_in es x.id.0 ≡ x) es e (λ k d l. entry_at es k d (f.good.inv.is_ring.distinct (newest w) (omega arith)) l) h in
    false≢true (sym lives ∙ ap (λ (x : Entry). is_dead_mark x.mark) (sym is) ∙ erase_dead w y e.id.0 none)

-- what holds of each entry's id holds of the id of any
pub at_id : (P : ℕ → Type 0) (es : List Entry) (p : ℕ) → All (λ (e : Entry). P e.id.0) es → is_in p (ids_of es) ≡ true → P p
at_id P [] p h i = absurd (false≢true i)
at_id P (e ∷ es) p h i = by_test (nat_eq p e.id.0) refl i (λ k. at_id P es p (λ j d l. h (suc j) d (omega arith)) k)
  where
    by_test : (b : Bool) → nat_eq p e.id.0 ≡ b → cond b true (is_in p (ids_of es)) ≡ true → (is_in p (ids_of es) ≡ true → P p) → P p
    by_test true t k later = subst P (sym (nat_eq-is p e.id.0 t)) (h 0 e (omega arith))
    by_test false t k later = later k

-- where none of the entries may be erased, nobody may
pub erases_none : (w : World) (y : ℕ) → All (λ (e : Entry). erase_refusal w y e.id.0 ≢ None) (view_in w (newest w)).entries → ErasesNoneAt w y
erases_none w y h p lt none =
    let es : List Entry = (view_in w (newest w)).entries in
    at_id (λ k. erase_refusal w y k ≢ None) es p h (dead_in es p (erase_dead w y p none)) none

-- where nobody has anything to do any more, the ring rests
pub worked_rests : (c : Seen) → IsGoing c → NobodySteps (state_of c) → MarksNobody (state_of c) → ErasesNobody (state_of c) → RingRests (state_of c)
worked_rests c g = run_worked_rests c.credit c.names c.events g.are g.run
