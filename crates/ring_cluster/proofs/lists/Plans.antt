-- Agendas by their names.
use Rattle.std.proofs.Common.{◌≡◌, ◌≢◌, ℕ, zero, suc, ◌+◌, ◌<◌, Bool, true, false, List, [], ◌∷◌, ◌++◌, length, get_or, set, Option, Some, None, IsSome, is_some, bytes_eq, refl, sym, ap, subst, ◌∙◌, arith, append-nil, if◌then◌else◌}
use Rattle.std.specs.List.{position}
use Rattle.std.proofs.lemmas.Bool.{false≢true}
use Rattle.std.proofs.lemmas.List.{length-map, map-append, get_or-map, map-set, get_or-set_same, get_or-set_other, set-get_or, get_or_default, get_or_append_left, get_or_push}
use Rattle.std.proofs.lemmas.List.Quantifiers.{position-Some}
use Rattle.std.proofs.lemmas.List.Sums.{sum_by-set}
use Rattle.ring_rules.specs.declared.event.Client.{Client}
use Rattle.ring_rules.specs.Event.{event_of, asked_of}
use Rattle.ring_rules.proofs.rings.Maps.{position_map}
use Rattle.ring_rules.proofs.events.Names.{same_bytes, own_bytes}
use Rattle.ring_cluster.specs.Agendas.{Plan, names_of, place_among, plan_at, tasks_found, tasks_in, tasks_on_all, with_found, with_tasks, with_more, with_task, with_asked}
use Rattle.ring_cluster.specs.Handed.{given_to}
use Rattle.ring_cluster.specs.Plays.{todo}
use Rattle.ring_parties.proofs.lists.Places.{position_before, position_behind, position_still}

-- ---- where they stand

-- a name that was found
pub found_at : (plans : List Plan) (name : List ℕ) (i : ℕ) → place_among (names_of plans) name ≡ Some i → (i < length plans) × ((plan_at plans i).name ≡ name)
found_at plans name i e =
    let there = position-Some (λ n. bytes_eq n name) (names_of plans) i [] e in
    let within : i < length plans = subst (λ n. i < n) (length-map plans (λ (a : Plan). a.name)) there.0 in (
      within,
      sym (get_or-map (λ (a : Plan). a.name) plans i (plan_at [] 0) [] within) ∙ same_bytes (get_or (names_of plans) i []) name there.1,
    )

-- the place of its agenda
pub place_is : (plans : List Plan) (name : List ℕ) (o : Option ℕ) → o ≡ position (λ (a : Plan). bytes_eq a.name name) plans → place_among (names_of plans) name ≡ o
place_is plans name o is = position_map (λ n. bytes_eq n name) (λ (a : Plan). a.name) plans ∙ sym is

-- what is on it, and what it is with other tasks
pub found_tasks : (plans : List Plan) (name : List ℕ) (o : Option ℕ) → o ≡ position (λ (a : Plan). bytes_eq a.name name) plans → tasks_in plans name ≡ tasks_found plans o
found_tasks plans name o is = ap (tasks_found plans) (place_is plans name o is)

pub found_with : (plans : List Plan) (name : List ℕ) (ts : List Client) (o : Option ℕ) → o ≡ position (λ (a : Plan). bytes_eq a.name name) plans → with_tasks plans name ts ≡ with_found plans o ts
found_with plans name ts o is = ap (λ p. with_found plans p ts) (place_is plans name o is)

module _ (plans : List Plan) (name : List ℕ) (i : ℕ) (a : Plan) (at : Some i ≡ position (λ (b : Plan). bytes_eq b.name name) plans) (read : a ≡ get_or plans i a) where
  -- the one that is read there
  plan_is : plan_at plans i ≡ a
  plan_is = get_or_default plans i (plan_at [] 0) a (found_at plans name i (place_is plans name (Some i) at)).0 ∙ sym read

  pub found_name : a.name ≡ name
  found_name = ap (λ (b : Plan). b.name) (sym plan_is) ∙ (found_at plans name i (place_is plans name (Some i) at)).1

  pub found_plan : tasks_in plans name ≡ a.tasks
  found_plan = found_tasks plans name (Some i) at ∙ ap (λ (b : Plan). b.tasks) plan_is

  -- written with other tasks
  pub found_written : (b : Plan) (f : List Client → List Client) → b ≡ record a { tasks = f a.tasks } → set plans i b ≡ with_tasks plans name (f (tasks_in plans name))
  found_written b f is =
      ap (set plans i) is
      ∙ ap (λ ts. set plans i (record a { tasks = f ts })) (sym found_plan)
      ∙ ap (λ c. set plans i (record c { tasks = f (tasks_in plans name) })) (sym plan_is)
      ∙ sym (found_with plans name (f (tasks_in plans name)) (Some i) at)

-- who has a task is among them
pub tasked_there : (plans : List Plan) (name : List ℕ) → tasks_in plans name ≢ [] → IsSome (place_among (names_of plans) name)
tasked_there plans name some = by_place (place_among (names_of plans) name) some
  where
    by_place : (o : Option ℕ) → tasks_found plans o ≢ [] → IsSome o
    by_place None h = absurd (h refl)
    by_place (Some i) h = refl

-- ---- other tasks

-- the names stay
pub names_stay : (plans : List Plan) (name : List ℕ) (ts : List Client) → names_of (with_tasks plans name ts) ≡ names_of plans
names_stay plans name ts = by_place (place_among (names_of plans) name) refl
  where
    by_place : (o : Option ℕ) → place_among (names_of plans) name ≡ o → names_of (with_found plans o ts) ≡ names_of plans
    by_place None e = refl
    by_place (Some i) e =
        let l : i < length plans = (found_at plans name i e).0 in
        map-set (λ (a : Plan). a.name) plans i (record (plan_at plans i) { tasks = ts })
        ∙ ap (set (names_of plans) i) (sym (get_or-map (λ (a : Plan). a.name) plans i (plan_at [] 0) [] l))
        ∙ set-get_or (names_of plans) i []

-- written twice
pub set_twice : {X : Type 0} (xs : List X) (i : ℕ) (y z : X) → set (set xs i y) i z ≡ set xs i z
set_twice [] i y z = refl
set_twice (x ∷ xs) zero y z = refl
set_twice (x ∷ xs) (suc i) y z = ap (λ zs. x ∷ zs) (set_twice xs i y z)

-- these tasks stand there then
pub tasks_new : (plans : List Plan) (name : List ℕ) (ts : List Client) → IsSome (place_among (names_of plans) name) → tasks_in (with_tasks plans name ts) name ≡ ts
tasks_new plans name ts there = ap (λ ns. tasks_found (with_tasks plans name ts) (place_among ns name)) (names_stay plans name ts) ∙ by_place (place_among (names_of plans) name) refl there
  where
    by_place : (o : Option ℕ) → place_among (names_of plans) name ≡ o → IsSome o → tasks_found (with_found plans o ts) o ≡ ts
    by_place None e k = absurd (false≢true k)
    by_place (Some i) e k = ap (λ (a : Plan). a.tasks) (get_or-set_same plans i (record (plan_at plans i) { tasks = ts }) (plan_at [] 0) (found_at plans name i e).0)

-- and on the agenda of every other name what stood there
pub tasks_other : (plans : List Plan) (name other : List ℕ) (ts : List Client) → name ≢ other → tasks_in (with_tasks plans name ts) other ≡ tasks_in plans other
tasks_other plans name other ts differ =
    ap (λ ns. tasks_found (with_tasks plans name ts) (place_among ns other)) (names_stay plans name ts)
    ∙ by_place (place_among (names_of plans) name) refl (place_among (names_of plans) other) refl
  where
    by_place : (o : Option ℕ) → place_among (names_of plans) name ≡ o → (p : Option ℕ) → place_among (names_of plans) other ≡ p → tasks_found (with_found plans o ts) p ≡ tasks_found plans p
    by_place None e p f = refl
    by_place (Some i) e None f = refl
    by_place (Some i) e (Some j) f =
        ap (λ (a : Plan). a.tasks) (get_or-set_other plans i j (record (plan_at plans i) { tasks = ts }) (plan_at [] 0)
        (λ (same : j ≡ i). differ (sym (found_at plans name i e).1 ∙ ap (λ k. (plan_at plans k).name) (sym same) ∙ (found_at plans other j f).1)))

-- ---- one more task

-- an agenda of no other name is found behind them
behind_names : (plans : List Plan) (a : Plan) → names_of (plans ++ a ∷ []) ≡ names_of plans ++ a.name ∷ []
behind_names plans a = map-append (λ (b : Plan). b.name) plans (a ∷ [])

-- where there is one it has the task behind the others
pub given_with : (plans : List Plan) (t : Client) → IsSome (place_among (names_of plans) (asked_of t)) → with_task plans t ≡ with_tasks plans (asked_of t) (tasks_in plans (asked_of t) ++ t ∷ [])
given_with plans t there = by_place (place_among (names_of plans) (asked_of t)) there
  where
    by_place : (o : Option ℕ) → IsSome o → with_more plans o t ≡ with_found plans o (tasks_found plans o ++ t ∷ [])
    by_place None k = absurd (false≢true k)
    by_place (Some i) k = refl

-- where there is none it begins one
pub given_begins : (plans : List Plan) (t : Client) → place_among (names_of plans) (asked_of t) ≡ None → with_task plans t ≡ plans ++ record { name = asked_of t; tasks = t ∷ [] } ∷ []
given_begins plans t none = ap (λ o. with_more plans o t) none

-- it stands at the end of the agenda of its member
pub given_new : (plans : List Plan) (t : Client) → tasks_in (with_task plans t) (asked_of t) ≡ tasks_in plans (asked_of t) ++ t ∷ []
given_new plans t = by_place (place_among (names_of plans) (asked_of t)) refl
  where
    by_place : (o : Option ℕ) → place_among (names_of plans) (asked_of t) ≡ o → tasks_in (with_more plans o t) (asked_of t) ≡ tasks_found plans o ++ t ∷ []
    by_place None e =
        let a : Plan = record { name = asked_of t; tasks = t ∷ [] } in
        let is : place_among (names_of (plans ++ a ∷ [])) (asked_of t) ≡ Some (length plans) =
        ap (λ ns. place_among ns (asked_of t)) (behind_names plans a)
        ∙ position_behind (λ n. bytes_eq n (asked_of t)) (names_of plans) (asked_of t) e (own_bytes (asked_of t))
        ∙ ap Some (length-map plans (λ (b : Plan). b.name)) in
        ap (tasks_found (plans ++ a ∷ [])) is ∙ ap (λ (b : Plan). b.tasks) (get_or_push plans a (plan_at [] 0) (length plans) refl)
    by_place (Some i) e =
        ap (λ o. tasks_in (with_found plans o ((plan_at plans i).tasks ++ t ∷ [])) (asked_of t)) (sym e)
        ∙ tasks_new plans (asked_of t) ((plan_at plans i).tasks ++ t ∷ []) (ap is_some e)

-- another name
pub other_name : (name other : List ℕ) → name ≢ other → bytes_eq name other ≡ false
other_name name other differ = by_test (bytes_eq name other) refl
  where
    by_test : (b : Bool) → bytes_eq name other ≡ b → bytes_eq name other ≡ false
    by_test false e = e
    by_test true e = absurd (differ (same_bytes name other e))

pub names_apart : (name other : List ℕ) → bytes_eq name other ≡ false → name ≢ other
names_apart name other b same = false≢true (sym b ∙ ap (bytes_eq name) (sym same) ∙ own_bytes name)

-- and on the agenda of every other name stands what stood there
pub given_other : (plans : List Plan) (t : Client) (other : List ℕ) → asked_of t ≢ other → tasks_in (with_task plans t) other ≡ tasks_in plans other
given_other plans t other differs = by_place (place_among (names_of plans) (asked_of t)) refl
  where
    behind : (a : Plan) → a.name ≡ asked_of t → (o : Option ℕ) → place_among (names_of plans) other ≡ o → tasks_found (plans ++ a ∷ []) (place_among (names_of plans ++ a.name ∷ []) other) ≡ tasks_found plans o
    behind a is None f = ap (tasks_found (plans ++ a ∷ [])) (position_still (λ n. bytes_eq n other) (names_of plans) a.name f (ap (λ n. bytes_eq n other) is ∙ other_name (asked_of t) other differs))
    behind a is (Some j) f =
        ap (tasks_found (plans ++ a ∷ [])) (position_before (λ n. bytes_eq n other) (names_of plans) a.name j f)
        ∙ ap (λ (b : Plan). b.tasks) (get_or_append_left plans (a ∷ []) (plan_at [] 0) j (found_at plans other j f).0)

    by_place : (o : Option ℕ) → place_among (names_of plans) (asked_of t) ≡ o → tasks_in (with_more plans o t) other ≡ tasks_in plans other
    by_place None e =
        let a : Plan = record { name = asked_of t; tasks = t ∷ [] } in
        ap (λ ns. tasks_found (plans ++ a ∷ []) (place_among ns other)) (behind_names plans a) ∙ behind a refl (place_among (names_of plans) other) refl
    by_place (Some i) e =
        ap (λ o. tasks_in (with_found plans o ((plan_at plans i).tasks ++ t ∷ [])) other) (sym e)
        ∙ tasks_other plans (asked_of t) other ((plan_at plans i).tasks ++ t ∷ []) differs

-- with what was asked each has its events to do, and those of what was asked of it
pub asked_todo : (plans : List Plan) (name : List ℕ) (o : Option Client) → todo (tasks_in (with_asked plans o) name) ≡ todo (tasks_in plans name) ++ given_to name o
asked_todo plans name None = sym (append-nil (todo (tasks_in plans name)))
asked_todo plans name (Some t) = by_name (bytes_eq (asked_of t) name) refl
  where
    by_name : (b : Bool) → bytes_eq (asked_of t) name ≡ b → todo (tasks_in (with_task plans t) name) ≡ todo (tasks_in plans name) ++ (if b then event_of t ∷ [] else [])
    by_name true h =
        subst (λ n. todo (tasks_in (with_task plans t) n) ≡ todo (tasks_in plans n) ++ event_of t ∷ []) (same_bytes (asked_of t) name h)
        (ap todo (given_new plans t) ∙ map-append event_of (tasks_in plans (asked_of t)) (t ∷ []))
    by_name false h = ap todo (given_other plans t name (names_apart (asked_of t) name h)) ∙ sym (append-nil (todo (tasks_in plans name)))

-- ---- a task that is taken back

-- where there was one the names are the same
given_names : (plans all : List Plan) (t : Client) → all ≡ with_task plans t → IsSome (place_among (names_of plans) (asked_of t)) → names_of all ≡ names_of plans
given_names plans all t is there = ap names_of is ∙ ap names_of (given_with plans t there) ∙ names_stay plans (asked_of t) (tasks_in plans (asked_of t) ++ t ∷ [])

-- the agenda to which it was given is again what it was
pub taken_back : (plans all : List Plan) (t : Client) (j : ℕ) (a b : Plan) → all ≡ with_task plans t → IsSome (place_among (names_of plans) (asked_of t)) → Some j ≡ position (λ (p : Plan). bytes_eq p.name (asked_of t)) all → a ≡ get_or all j a
    → ((ts : List Client) (u : Client) → a.tasks ≡ ts ++ u ∷ [] → b ≡ record a { tasks = ts }) → set all j b ≡ plans
taken_back plans all t j a b is there at read back = by_place (place_among (names_of plans) (asked_of t)) refl there
  where
    by_place : (o : Option ℕ) → place_among (names_of plans) (asked_of t) ≡ o → IsSome o → set all j b ≡ plans
    by_place None e k = absurd (false≢true k)
    by_place (Some i) e k =
        let p : Plan = plan_at plans i in
        let x : Plan = record p { tasks = p.tasks ++ t ∷ [] } in
        let within : i < length plans = (found_at plans (asked_of t) i e).0 in
        let same : all ≡ set plans i x = is ∙ ap (λ o. with_more plans o t) e in
        let names : names_of all ≡ names_of plans = given_names plans all t is there in
        let places : Some j ≡ Some i = sym (place_is all (asked_of t) (Some j) at) ∙ ap (λ ns. place_among ns (asked_of t)) names ∙ e in
        let place : j ≡ i = cc in
        let here : a ≡ x = read ∙ ap (λ k. get_or all k a) place ∙ ap (λ ps. get_or ps i a) same ∙ get_or-set_same plans i x a within in
        let old : b ≡ p = back p.tasks t (ap (λ (q : Plan). q.tasks) here) ∙ ap (λ (q : Plan). record q { tasks = p.tasks }) here in
        ap (λ k. set all k b) place
        ∙ ap (λ ps. set ps i b) same
        ∙ ap (set (set plans i x) i) old
        ∙ set_twice plans i x p
        ∙ set-get_or plans i (plan_at [] 0)

-- where there was one, it is found
pub given_found : (plans all : List Plan) (t : Client) → all ≡ with_task plans t → IsSome (place_among (names_of plans) (asked_of t)) → None ≡ position (λ (p : Plan). bytes_eq p.name (asked_of t)) all → ⊥
given_found plans all t is there at =
    false≢true (subst IsSome (sym (ap (λ ns. place_among ns (asked_of t)) (given_names plans all t is there)) ∙ place_is all (asked_of t) None at) there)

-- ---- how many tasks are left

-- with so many fewer on the agenda at a place there are so many fewer on all
pub set_less : (all : List Plan) (j n : ℕ) (a b : Plan) (name : List ℕ) → Some j ≡ position (λ (p : Plan). bytes_eq p.name name) all → a ≡ get_or all j a → length b.tasks + n ≡ length a.tasks → tasks_on_all (set all j b) + n ≡ tasks_on_all all
set_less all j n a b name at read few =
    omega (arith, sum_by-set (λ (p : Plan). length p.tasks) all j b a (found_at all name j (place_is all name (Some j) at)).0, ap (λ (p : Plan). length p.tasks) read, few)
