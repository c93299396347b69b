-- What each member has done and refused of what clients asked, as more happens and more is asked.
use Rattle.std.proofs.Common.{◌≡◌, ⊎_elim, ℕ, zero, suc, ◌+◌, ◌-◌, ◌<◌, ◌≤◌, Bool, true, false, not, List, [], ◌∷◌, ◌++◌, length, map, take, drop, refl, sym, ap, subst, ◌∙◌, arith, append_assoc, append-nil}
use Rattle.std.specs.List.{filter}
use Rattle.std.proofs.lemmas.Bool.{cases_lt}
use Rattle.std.proofs.lemmas.List.{length-map, length-append, map-append, take-append-le, take-append-drop}
use Rattle.std.proofs.lemmas.List.Elements.{filter-append}
use Rattle.ring_script.specs.declared.command.Command.{Command}
use Rattle.ring_rules.specs.declared.event.Event.{Event}
use Rattle.ring_rules.specs.Machine.{World}
use Rattle.ring_rules.specs.Event.{last}
use Rattle.ring_cluster.specs.Handed.{handed}
use Rattle.ring_cluster.specs.Plays.{client_event, client_events, asked, marked_of, unmarked_of, Serves}
use Rattle.ring_parties.proofs.lists.Lists.{flat_map-append}
use Rattle.ring_cluster.proofs.rounds.Heirs.{handed_append}

-- ---- marks

pub marked_append : (xs ys : List (Bool × Event)) → marked_of (xs ++ ys) ≡ marked_of xs ++ marked_of ys
marked_append xs ys = ap (map (λ e. e.1)) (filter-append (λ e. e.0) xs ys) ∙ map-append (λ e. e.1) (filter (λ e. e.0) xs) (filter (λ e. e.0) ys)

pub unmarked_append : (xs ys : List (Bool × Event)) → unmarked_of (xs ++ ys) ≡ unmarked_of xs ++ unmarked_of ys
unmarked_append xs ys = ap (map (λ e. e.1)) (filter-append (λ e. not e.0) xs ys) ∙ map-append (λ e. e.1) (filter (λ e. not e.0) xs) (filter (λ e. not e.0) ys)

-- events with one mark
abbrev as_marked : Bool → List Event → List (Bool × Event)
as_marked b events = map (λ e. (b, e)) events

events_as : (b : Bool) (events : List Event) → map (λ e. e.1) (as_marked b events) ≡ events
events_as b [] = refl
events_as b (e ∷ es) = ap (λ zs. e ∷ zs) (events_as b es)

marked_all : (events : List Event) → marked_of (as_marked true events) ≡ events
marked_all [] = refl
marked_all (e ∷ es) = ap (λ zs. e ∷ zs) (marked_all es)

marked_none : (events : List Event) → marked_of (as_marked false events) ≡ []
marked_none [] = refl
marked_none (e ∷ es) = marked_none es

unmarked_all : (events : List Event) → unmarked_of (as_marked false events) ≡ events
unmarked_all [] = refl
unmarked_all (e ∷ es) = ap (λ zs. e ∷ zs) (unmarked_all es)

unmarked_none : (events : List Event) → unmarked_of (as_marked true events) ≡ []
unmarked_none [] = refl
unmarked_none (e ∷ es) = unmarked_none es

-- of the first n of two lists there are at most as many marked as in the first, and as many more as lie behind that
marked_few : (n : ℕ) (xs ys : List (Bool × Event)) → length (marked_of (take n (xs ++ ys))) ≤ length (marked_of xs) + (n - length xs)
marked_few zero xs ys = omega arith
marked_few (suc n) [] [] = omega arith
marked_few (suc n) [] ((true, e) ∷ ys) = omega (arith, marked_few n [] ys)
marked_few (suc n) [] ((false, e) ∷ ys) = omega (arith, marked_few n [] ys)
marked_few (suc n) ((true, e) ∷ xs) ys = omega (arith, marked_few n xs ys)
marked_few (suc n) ((false, e) ∷ xs) ys = omega (arith, marked_few n xs ys)

-- ---- what clients asked for, in the first events

pub asked_first : (name : List ℕ) (count : ℕ) (events : List Event) → length (client_events name (take count events)) ≤ length (client_events name events)
asked_first name count events =
    omega (arith, ap (λ es. length (client_events name es)) (take-append-drop count events), ap length (flat_map-append (client_event name) (take count events) (drop count events)), length-append (client_events name (take count events)) (client_events name (drop count events)))

-- the first of two lists that are put together
pub take_both : {X : Type 0} (count : ℕ) (xs ys : List X) → length xs ≤ count → take count (xs ++ ys) ≡ xs ++ take (count - length xs) ys
take_both count [] ys l = let none : count ≡ count - 0 = omega arith in ap (λ n. take n ys) none
take_both zero (x ∷ xs) ys l = absurd (omega (arith, l))
take_both (suc count) (x ∷ xs) ys l =
    let same : count - length xs ≡ suc count - suc (length xs) = omega arith in
    ap (λ zs. x ∷ zs) (take_both count xs ys (omega (arith, l))) ∙ ap (λ n. x ∷ (xs ++ take n ys)) same

-- ---- more events

module _ (w : World) (name : List ℕ) (events : List Event) (commands : List Command) (left : List Event) (s : Serves w name events commands left) where
  many : length s.marked ≡ length (client_events name events) + length left
  many = omega (arith, length-map s.marked (λ e. e.1), ap length s.all, length-append (client_events name events) left)

  -- behind the events so far nothing changes of them
  first_stays : (more : List (Bool × Event)) (count : ℕ) → count ≤ length events → length (marked_of (take (length (client_events name (take count events))) (s.marked ++ more))) ≤ length (handed w name (take count events))
  first_stays more count le =
      let n : ℕ = length (client_events name (take count events)) in
      omega (arith, s.later count le, ap (λ zs. length (marked_of zs)) (take-append-le n s.marked more (omega (arith, many, asked_first name count events))))

  pub serves_on : (more left' : List Event)
      → client_events name more ++ left' ≡ left ++ handed (last w events) name more
      → ((count : ℕ) → count ≤ length more → length (client_events name (take count more)) ≤ length left + length (handed (last w events) name (take count more)))
      → Serves w name (events ++ more) commands left'
  serves_on more left' is later = record {
    marked = s.marked ++ as_marked true new;
    all =
        map-append (λ e. e.1) s.marked (as_marked true new)
        ∙ ap (λ zs. map (λ e. e.1) s.marked ++ zs) (events_as true new)
        ∙ ap (λ zs. zs ++ new) s.all
        ∙ append_assoc (client_events name events) left new
        ∙ ap (λ zs. client_events name events ++ zs) (sym is)
        ∙ sym (append_assoc (client_events name events) (client_events name more) left')
        ∙ ap (λ zs. zs ++ left') (sym (flat_map-append (client_event name) events more));
    own =
        unmarked_append s.marked (as_marked true new)
        ∙ ap (λ zs. unmarked_of s.marked ++ zs) (unmarked_none new)
        ∙ append-nil (unmarked_of s.marked)
        ∙ s.own;
    handed_on =
        marked_append s.marked (as_marked true new)
        ∙ ap (λ zs. marked_of s.marked ++ zs) (marked_all new)
        ∙ ap (λ zs. zs ++ new) s.handed_on
        ∙ sym (handed_append w name events more);
    later = λ count le. ⊎_elim
        (λ (behind : length events < count). behind_later count le (omega (arith, behind)))
        (λ (first : count ≤ length events).
        subst (λ es. length (marked_of (take (length (client_events name es)) (s.marked ++ as_marked true new))) ≤ length (handed w name es))
        (sym (take-append-le count events more first)) (first_stays (as_marked true new) count first))
        (cases_lt (length events) count);
  }
    where
      new : List Event
      new = handed (last w events) name more

      behind_later : (count : ℕ) → count ≤ length (events ++ more) → length events ≤ count → length (marked_of (take (length (client_events name (take count (events ++ more)))) (s.marked ++ as_marked true new))) ≤ length (handed w name (take count (events ++ more)))
      behind_later count le ge =
          let j : ℕ = count - length events in
          let within : j ≤ length more = omega (arith, le, length-append events more) in
          let so : length (client_events name (events ++ take j more)) ≡ length (client_events name events) + length (client_events name (take j more)) =
          ap length (flat_map-append (client_event name) events (take j more)) ∙ length-append (client_events name events) (client_events name (take j more)) in
          let theirs : length (handed w name (events ++ take j more)) ≡ length (handed w name events) + length (handed (last w events) name (take j more)) =
          ap length (handed_append w name events (take j more)) ∙ length-append (handed w name events) (handed (last w events) name (take j more)) in
          let n : ℕ = length (client_events name (events ++ take j more)) in
          let h : length (marked_of (take n (s.marked ++ as_marked true new))) ≤ length (handed w name (events ++ take j more)) =
          omega (arith, marked_few n s.marked (as_marked true new), many, so, theirs, later j within, ap length s.handed_on) in
          subst (λ es. length (marked_of (take (length (client_events name es)) (s.marked ++ as_marked true new))) ≤ length (handed w name es)) (sym (take_both count events more ge)) h

  -- ---- more commands

  -- what is asked more is left
  pub serves_more : (commands' : List Command) (new : List Event) → asked name commands' ≡ asked name commands ++ new → Serves w name events commands' (left ++ new)
  serves_more commands' new is = record {
    marked = s.marked ++ as_marked false new;
    all =
        map-append (λ e. e.1) s.marked (as_marked false new)
        ∙ ap (λ zs. map (λ e. e.1) s.marked ++ zs) (events_as false new)
        ∙ ap (λ zs. zs ++ new) s.all
        ∙ append_assoc (client_events name events) left new;
    own =
        unmarked_append s.marked (as_marked false new)
        ∙ ap (λ zs. unmarked_of s.marked ++ zs) (unmarked_all new)
        ∙ ap (λ zs. zs ++ new) s.own
        ∙ sym is;
    handed_on =
        marked_append s.marked (as_marked false new)
        ∙ ap (λ zs. marked_of s.marked ++ zs) (marked_none new)
        ∙ append-nil (marked_of s.marked)
        ∙ s.handed_on;
    later = first_stays (as_marked false new);
  }

  -- where nothing is asked more
  pub serves_still : (commands' : List Command) → asked name commands' ≡ asked name commands → Serves w name events commands' left
  serves_still commands' is = record { marked = s.marked; all = s.all; own = s.own ∙ sym is; handed_on = s.handed_on; later = s.later }

-- nothing was asked of nobody by no events
pub none_first : (name : List ℕ) (count : ℕ) → client_events name (take count []) ≡ []
none_first name zero = refl
none_first name (suc count) = refl

-- nothing has happened, and nothing was asked
pub serves_none : (w : World) (name : List ℕ) → Serves w name [] [] []
serves_none w name = record {
  marked = [];
  all = refl;
  own = refl;
  handed_on = refl;
  later = λ count le. omega (arith, ap (λ es. length (marked_of (take (length es) []))) (none_first name count));
}
