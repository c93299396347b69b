-- Halves of the list of members take their turns.
use Rattle.std.proofs.Common.{◌≡◌, ℕ, ◌+◌, ◌-◌, ◌<◌, ◌≤◌, List, ◌++◌, length, get_or, Some, refl, sym, ap, subst, ◌∙◌, ⊎_elim, arith}
use Rattle.std.specs.Prelude.{slice_get, All}
use Rattle.std.proofs.lemmas.Bool.{cases_lt}
use Rattle.std.proofs.lemmas.Option.{slice_get_within, slice_get-get_or, get_or_from_slice_get}
use Rattle.std.proofs.lemmas.List.{length-append, get_or_append_left, get_or-append_right}
use Rattle.ring_rules.specs.declared.event.Client.{Client}
use Rattle.ring_parties.specs.declared.party.Party.{Party}
use Rattle.ring_parties.specs.Played.{MayTakeTurns, TakeTheirTurns}

-- ---- what stands in two lists, one behind the other

in_front : {X : Type 0} (xs ys : List X) (i : ℕ) (x : X) → i < length xs → slice_get (xs ++ ys) i ≡ Some x → slice_get xs i ≡ Some x
in_front xs ys i x l at = slice_get-get_or xs i x l ∙ ap Some (sym (get_or_append_left xs ys x i l) ∙ get_or_from_slice_get (xs ++ ys) i x x at)

behind : {X : Type 0} (xs ys : List X) (i : ℕ) (x : X) → length xs ≤ i → slice_get (xs ++ ys) i ≡ Some x → slice_get ys (i - length xs) ≡ Some x
behind xs ys i x l at =
    let k : i < length (xs ++ ys) = slice_get_within (xs ++ ys) i x at in
    slice_get-get_or ys (i - length xs) x (omega (arith, k, l, length-append xs ys))
    ∙ ap Some (sym (get_or-append_right xs ys (length xs) i x refl l) ∙ get_or_from_slice_get (xs ++ ys) i x x at)

still_in_front : {X : Type 0} (xs ys : List X) (i : ℕ) (x : X) → slice_get xs i ≡ Some x → slice_get (xs ++ ys) i ≡ Some x
still_in_front xs ys i x at =
    let l : i < length xs = slice_get_within xs i x at in
    slice_get-get_or (xs ++ ys) i x (omega (arith, l, length-append xs ys)) ∙ ap Some (get_or_append_left xs ys x i l ∙ get_or_from_slice_get xs i x x at)

then_behind : {X : Type 0} (xs ys : List X) (i : ℕ) (x : X) → slice_get ys i ≡ Some x → slice_get (xs ++ ys) (length xs + i) ≡ Some x
then_behind xs ys i x at =
    let l : i < length ys = slice_get_within ys i x at in
    let back : length xs + i - length xs ≡ i = omega arith in
    slice_get-get_or (xs ++ ys) (length xs + i) x (omega (arith, l, length-append xs ys))
    ∙ ap Some (get_or-append_right xs ys (length xs) (length xs + i) x refl (omega arith) ∙ ap (λ k. get_or ys k x) back ∙ get_or_from_slice_get ys i x x at)

pub all_in_front : {X : Type 0} (P : X → Type 0) (zs xs ys : List X) → zs ≡ xs ++ ys → All P zs → All P xs
all_in_front P zs xs ys e h =
    let k : All P (xs ++ ys) = subst (All P) e h in
    λ i d l. subst P (get_or_append_left xs ys d i l) (k i d (omega (arith, l, length-append xs ys)))

pub all_behind : {X : Type 0} (P : X → Type 0) (zs xs ys : List X) → zs ≡ xs ++ ys → All P zs → All P ys
all_behind P zs xs ys e h =
    let k : All P (xs ++ ys) = subst (All P) e h in
    λ i d l. (let back : length xs + i - length xs ≡ i = omega arith in
    subst P (get_or-append_right xs ys (length xs) (length xs + i) d refl (omega arith) ∙ ap (λ j. get_or ys j d) back) (k (length xs + i) d (omega (arith, l, length-append xs ys))))

-- ---- members that may take turns

pub may_in_front : (turns : ℕ) (tasks front_tasks back_tasks : List (List Client)) (ps front back : List Party) → tasks ≡ front_tasks ++ back_tasks → ps ≡ front ++ back
    → MayTakeTurns turns tasks ps → MayTakeTurns turns front_tasks front
may_in_front turns tasks front_tasks back_tasks ps front back t e h =
    let m : MayTakeTurns turns (front_tasks ++ back_tasks) (front ++ back) = subst (λ ts. MayTakeTurns turns ts (front ++ back)) t (subst (MayTakeTurns turns tasks) e h) in
    record {
      may = λ i p at. m.may i p (still_in_front front back i p at);
      room = λ i p at. m.room i p (still_in_front front back i p at);
      own = λ i p ts at there. m.own i p ts (still_in_front front back i p at) (still_in_front front_tasks back_tasks i ts there);
    }

pub may_behind : (turns : ℕ) (tasks front_tasks back_tasks : List (List Client)) (ps front back : List Party) → tasks ≡ front_tasks ++ back_tasks → ps ≡ front ++ back
    → length front_tasks ≡ length front → MayTakeTurns turns tasks ps → MayTakeTurns turns back_tasks back
may_behind turns tasks front_tasks back_tasks ps front back t e many h =
    let m : MayTakeTurns turns (front_tasks ++ back_tasks) (front ++ back) = subst (λ ts. MayTakeTurns turns ts (front ++ back)) t (subst (MayTakeTurns turns tasks) e h) in
    record {
      may = λ i p at. m.may (length front + i) p (then_behind front back i p at);
      room = λ i p at. m.room (length front + i) p (then_behind front back i p at);
      own = λ i p ts at there.
          m.own (length front + i) p ts (then_behind front back i p at)
          (subst (λ n. slice_get (front_tasks ++ back_tasks) (n + i) ≡ Some ts) many (then_behind front_tasks back_tasks i ts there));
    }

-- ---- turns that they have taken

pub turns_of_halves : (turns : ℕ) (front_tasks back_tasks : List (List Client)) (front_done back_done : List ℕ) (front back front' back' : List Party)
    → length front_tasks ≡ length front → length front_done ≡ length front
    → TakeTheirTurns turns front_tasks front_done front front' → TakeTheirTurns turns back_tasks back_done back back'
    → TakeTheirTurns turns (front_tasks ++ back_tasks) (front_done ++ back_done) (front ++ back) (front' ++ back')
turns_of_halves turns front_tasks back_tasks front_done back_done front back front' back' many counts f b = record {
  all = record {
    count = omega (arith, length-append front back, length-append front' back', f.all.count, b.all.count);
    each = λ i p p' at at' ts d there counted.
        ⊎_elim
        (λ (l : i < length front).
        f.all.each i p p' (in_front front back i p l at) (in_front front' back' i p' (omega (arith, l, f.all.count)) at') ts d
        (in_front front_tasks back_tasks i ts (omega (arith, l, many)) there) (in_front front_done back_done i d (omega (arith, l, counts)) counted))
        (λ (l : length front ≤ i).
        b.all.each (i - length front) p p' (behind front back i p l at)
        (subst (λ n. slice_get back' (i - n) ≡ Some p') f.all.count (behind front' back' i p' (omega (arith, l, f.all.count)) at')) ts d
        (subst (λ n. slice_get back_tasks (i - n) ≡ Some ts) many (behind front_tasks back_tasks i ts (omega (arith, l, many)) there))
        (subst (λ n. slice_get back_done (i - n) ≡ Some d) counts (behind front_done back_done i d (omega (arith, l, counts)) counted)))
        (cases_lt i (length front));
  };
}

-- the same of lists that are equal to these
pub turns_read : (turns : ℕ) (tasks ts : List (List Client)) (done ds : List ℕ) (old ps new qs : List Party) → tasks ≡ ts → done ≡ ds → old ≡ ps → new ≡ qs
    → TakeTheirTurns turns ts ds ps qs → TakeTheirTurns turns tasks done old new
turns_read turns tasks ts done ds old ps new qs t d o n h =
    subst (λ x. TakeTheirTurns turns x done old new) (sym t)
    (subst (λ x. TakeTheirTurns turns ts x old new) (sym d)
    (subst (λ x. TakeTheirTurns turns ts ds x new) (sym o)
    (subst (λ x. TakeTheirTurns turns ts ds ps x) (sym n) h)))
