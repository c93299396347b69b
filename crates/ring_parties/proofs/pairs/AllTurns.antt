-- All members take their turns, one after another.
use Rattle.std.proofs.Common.{◌≡◌, ◌≢◌, ℕ, ◌+◌, ◌<◌, ◌≤◌, List, length, map, get_or, set, Some, sym, ap, subst, ◌∙◌, arith}
use Rattle.std.specs.Prelude.{slice_get, option_map, All}
use Rattle.std.proofs.lemmas.Option.{same_Some, slice_get_within, get_or_from_slice_get, slice_get-get_or, slice_get-map}
use Rattle.std.proofs.lemmas.List.{length-set, get_or-set_same, get_or-set_other}
use Rattle.ring_rules.specs.declared.event.Client.{Client}
use Rattle.ring_parties.specs.declared.party.Party.{Party}
use Rattle.ring_parties.specs.Pairing.{IsAt}
use Rattle.ring_parties.specs.Turns.{TakesItsRound}
use Rattle.ring_parties.specs.Played.{TakesRoundAt, TakeTheirTurns}
use Rattle.ring_parties.proofs.pairs.Each.{each_so}
use Rattle.ring_parties.proofs.pairs.Done.{Done, was_at, done_none, done_next, done_all}

put_here : {X : Type 0} (xs : List X) (i : ℕ) (y p : X) → i < length xs → slice_get (set xs i y) i ≡ Some p → p ≡ y
put_here xs i y p l at = sym (get_or_from_slice_get (set xs i y) i p y at) ∙ get_or-set_same xs i y y l

put_there : {X : Type 0} (xs : List X) (i k : ℕ) (y p : X) → k ≢ i → slice_get (set xs i y) k ≡ Some p → slice_get xs k ≡ Some p
put_there xs i k y p n at =
    let l : k < length (set xs i y) = slice_get_within (set xs i y) k p at in
    slice_get-get_or xs k y (omega (arith, l, length-set xs i y))
    ∙ ap Some (sym (get_or-set_other xs i k y y n) ∙ get_or_from_slice_get (set xs i y) k p y at)

-- Those below a place have taken their turns, and of the others nothing is done.
pub record TurnsBelow (turns : ℕ) (tasks : List (List Client)) (k : ℕ) (old new : List Party) (done : List ℕ) : Type 0 where
  pub taken : Done (TakesRoundAt turns tasks done) k old new
  pub none : (i d : ℕ) → k ≤ i → slice_get done i ≡ Some d → d ≡ 0
  pub count : length done ≡ length old

pub no_turns : (turns : ℕ) (tasks : List (List Client)) (old : List Party) (done : List ℕ) → All (λ n. n ≡ 0) done → length done ≡ length old → TurnsBelow turns tasks 0 old old done
no_turns turns tasks old done none count = record {
  taken = done_none (TakesRoundAt turns tasks done) old;
  none = λ i d _ at. sym (get_or_from_slice_get done i d 0 at) ∙ none i 0 (slice_get_within done i d at);
  count = count;
}

-- one whose turn it isn't yet
pub turn_at : (turns : ℕ) (tasks : List (List Client)) (k : ℕ) (old new : List Party) (done : List ℕ) (x : Party) → TurnsBelow turns tasks k old new done → IsAt new k x → IsAt old k x
turn_at turns tasks k old new done x t at = was_at (TakesRoundAt turns tasks done) k old new x t.taken at

-- the tasks that were read there
pub task_there : {A : Type 0} (v : A → List Client) (xs : List A) (k : ℕ) (x : A) → k < length xs → x ≡ get_or xs k x → slice_get (map v xs) k ≡ Some (v x)
task_there v xs k x l e = slice_get-map v xs k ∙ ap (option_map v) (slice_get-get_or xs k x l ∙ ap Some (sym e))

pub turns_next : (turns : ℕ) (tasks : List (List Client)) (k : ℕ) (old xs : List Party) (done : List ℕ) (x y : Party) (ts : List Client) (n : ℕ)
    → TurnsBelow turns tasks k old xs done → IsAt xs k x → slice_get tasks k ≡ Some ts → k < length done → TakesItsRound turns ts n x y
    → TurnsBelow turns tasks (k + 1) old (set xs k y) (set done k n)
turns_next turns tasks k old xs done x y ts n t at of l r = record {
  taken = done_next (TakesRoundAt turns tasks (set done k n)) k old xs x y
      (each_so (λ i p q. (i < k → TakesRoundAt turns tasks done i p q) × (k ≤ i → q ≡ p)) (λ i p q. (i < k → TakesRoundAt turns tasks (set done k n) i p q) × (k ≤ i → q ≡ p)) old xs t.taken
      (λ i p q _ _ a. (λ less us d us_at d_at. a.0 less us d us_at (put_there done k i n d (λ (e : i ≡ k). absurd (omega (arith, e, less))) d_at), a.1)))
      at
      (λ us d us_at d_at. subst (λ z. TakesItsRound turns z d x y) (same_Some ts us (sym of ∙ us_at)) (subst (λ z. TakesItsRound turns ts z x y) (sym (put_here done k n d l d_at)) r));
  none = λ i d less d_at. t.none i d (omega (arith, less)) (put_there done k i n d (λ (e : i ≡ k). absurd (omega (arith, e, less))) d_at);
  count = length-set done k n ∙ t.count;
}

pub turns_all : (turns : ℕ) (tasks : List (List Client)) (k : ℕ) (old new : List Party) (done : List ℕ) → k ≡ length new → TurnsBelow turns tasks k old new done
    → TakeTheirTurns turns tasks done old new
turns_all turns tasks k old new done all t = record { all = done_all (TakesRoundAt turns tasks done) k old new all t.taken }
