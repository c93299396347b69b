-- What the events of a journal publish of each name.
use Rattle.std.proofs.Common.{◌≡◌, if◌then◌else◌, ◌≢◌, ℕ, zero, suc, ◌<◌, Bool, true, false, List, [], ◌∷◌, ◌++◌, length, map, set, get_or, bytes_eq, Option, Some, None, refl, sym, ap, ◌∙◌, IsSome, subst, arith, Bor}
use Rattle.std.specs.List.{position}
use Rattle.std.specs.Prelude.{MatchOption}
use Rattle.std.proofs.lemmas.Bool.{false≢true}
use Rattle.std.proofs.lemmas.List.{append-nil, flat_map_more}
use Rattle.std.proofs.lemmas.List.Quantifiers.{position-Some}
use Rattle.group_view.specs.Change.{AreDifferent}
use Rattle.ring_rules.specs.declared.event.Event.{Event}
use Rattle.ring_rules.specs.declared.kind.Kind.TheVariants as shown
use Rattle.ring_rules.specs.Kind.{Saying, Own, OfQueue, Kind, Says, kind_of, own_body_of, shown_kind}
use Rattle.ring_rules.specs.Event.{by_of}
use Rattle.ring_rules.specs.Published.{told_of_saying, published_as, published_by, published_in}
use Rattle.ring_rules.proofs.events.Names.{same_bytes, own_bytes}
use Rattle.ring_parties.proofs.lists.Places.{position_there}
use Rattle.ring_cluster.specs.Published.{told_by}

-- ---- lists alone

-- what is the same of each
same_each : {X Y : Type 0} (f g : X → Y) (xs : List X) (d : X) → ((j : ℕ) → j < length xs → g (get_or xs j d) ≡ f (get_or xs j d)) → map f xs ≡ map g xs
same_each f g [] d h = refl
same_each f g (x ∷ xs) d h =
    ap (λ y. y ∷ map f xs) (sym (h zero (omega arith))) ∙ ap (λ ys. g x ∷ ys) (same_each f g xs d (λ j l. h (suc j) (omega arith)))

-- and what is more of one
more_at : {X A : Type 0} (f g : X → List A) (more : List A) (xs : List X) (i : ℕ) (d : X) → i < length xs → g (get_or xs i d) ≡ f (get_or xs i d) ++ more
    → ((j : ℕ) → j < length xs → j ≢ i → g (get_or xs j d) ≡ f (get_or xs j d)) → set (map f xs) i (get_or (map f xs) i [] ++ more) ≡ map g xs
more_at f g more [] i d lt here others = absurd (omega arith)
more_at f g more (x ∷ xs) zero d lt here others =
    ap (λ y. y ∷ map f xs) (sym here) ∙ ap (λ ys. g x ∷ ys) (same_each f g xs d (λ j l. others (suc j) (omega arith) (λ e. absurd (omega arith))))
more_at f g more (x ∷ xs) (suc i) d lt here others =
    ap (λ y. y ∷ set (map f xs) i (get_or (map f xs) i [] ++ more)) (sym (others zero (omega arith) (λ e. absurd (omega arith))))
    ∙ ap (λ ys. g x ∷ ys) (more_at f g more xs i d (omega arith) here (λ j l ne. others (suc j) (omega arith) (λ e. ne (omega arith))))

-- who isn't found stands nowhere
stands_nowhere : {X : Type 0} (p : X → Bool) (xs : List X) (k : ℕ) (d : X) → position p xs ≡ None → k < length xs → p (get_or xs k d) ≡ true → ⊥
stands_nowhere p xs k d none l e = false≢true (subst IsSome none (position_there p xs k d l e))

-- ---- one event more

module _ (names : List (List ℕ)) (before : List Event) (e : Event) where
  -- what is published of a name
  abbrev then_published : List ℕ → List (Option (List ℕ))
  then_published name = published_in name (before ++ e ∷ [])

  grows : (name : List ℕ) (ms : List (Option (List ℕ))) → published_by name e ≡ ms → then_published name ≡ published_in name before ++ ms
  grows name ms is = sym (flat_map_more (published_by name) [] before e) ∙ ap (λ ks. published_in name before ++ ks) is

  stays : (name : List ℕ) → published_by name e ≡ [] → then_published name ≡ published_in name before
  stays name is = grows name [] is ∙ append-nil (published_in name before)

-- it says nothing
silent : (name by : List ℕ) (k : Kind) → (shown_kind k ≡ shown.Says → ⊥) → published_as name by k ≡ []
silent name by (Says s) none = absurd (none refl)
silent name by k none = refl

pub saying_nothing : (names : List (List ℕ)) (before : List Event) (e : Event) → (shown_kind (kind_of e) ≡ shown.Says → ⊥) → map (λ name. published_in name before) names ≡ map (λ name. published_in name (before ++ e ∷ [])) names
saying_nothing names before e none =
    same_each (λ name. published_in name before) (λ name. published_in name (before ++ e ∷ [])) names []
    (λ j l. stays names before e (get_or names j []) (silent (get_or names j []) (by_of e) (kind_of e) none))

-- it says something
module _ (e : Event) (s : Saying) (says : kind_of e ≡ Says s) where
  by_test : (name : List ℕ) (b : Bool) → bytes_eq (by_of e) name ≡ b → published_by name e ≡ (if b then told_of_saying s ∷ [] else [])
  by_test name b h = ap (published_as name (by_of e)) says ∙ ap (λ t. if t then told_of_saying s ∷ [] else []) h

  of_other : (name : List ℕ) (b : Bool) → bytes_eq (by_of e) name ≡ b → (by_of e ≡ name → ⊥) → published_by name e ≡ []
  of_other name true h differ = absurd (differ (same_bytes (by_of e) name h))
  of_other name false h differ = by_test name false h

  -- the member isn't among these
  pub saying_of_none : (names : List (List ℕ)) (before : List Event) → position (λ n. bytes_eq n (by_of e)) names ≡ None
      → map (λ name. published_in name before) names ≡ map (λ name. published_in name (before ++ e ∷ [])) names
  saying_of_none names before none =
      same_each (λ name. published_in name before) (λ name. published_in name (before ++ e ∷ [])) names []
      (λ j l. stays names before e (get_or names j [])
      (of_other (get_or names j []) _ refl (λ is. stands_nowhere (λ n. bytes_eq n (by_of e)) names j [] none l (ap (λ n. bytes_eq n (by_of e)) (sym is) ∙ own_bytes (by_of e)))))

  -- it is one of them
  pub saying_of_one : (names : List (List ℕ)) (before : List Event) (i : ℕ) → AreDifferent names → position (λ n. bytes_eq n (by_of e)) names ≡ Some i
      → set (map (λ name. published_in name before) names) i (get_or (map (λ name. published_in name before) names) i [] ++ told_of_saying s ∷ [])
      ≡ map (λ name. published_in name (before ++ e ∷ [])) names
  saying_of_one names before i differ found =
      let there = position-Some (λ n. bytes_eq n (by_of e)) names i [] found in
      let is : get_or names i [] ≡ by_of e = same_bytes (get_or names i []) (by_of e) there.1 in
      more_at (λ name. published_in name before) (λ name. published_in name (before ++ e ∷ [])) (told_of_saying s ∷ []) names i [] there.0
      (grows names before e (get_or names i []) (told_of_saying s ∷ []) (by_test (get_or names i []) true (ap (bytes_eq (by_of e)) is ∙ own_bytes (by_of e))))
      (λ j l ne. stays names before e (get_or names j [])
      (of_other (get_or names j []) _ refl (λ same. ne (differ j i l there.0 (sym same ∙ sym is)))))

-- ---- what is told of it

-- the body of a message of one's own, and nothing of an operation of the queue
pub own_told : (s : Saying) (o : Option (Bor (List ℕ))) → MatchOption o (own_body_of (Says s) ≡ None) (λ b. own_body_of (Says s) ≡ Some b.now) → told_by o ≡ told_of_saying s
own_told (Own body) None h = cc
own_told (Own body) (Some b) h = sym h
own_told (OfQueue q) None h = refl
own_told (OfQueue q) (Some b) h = cc
