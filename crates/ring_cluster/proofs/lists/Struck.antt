-- The first tasks of agendas, and agendas of which several are struck off.
use Rattle.std.proofs.Common.{◌≡◌, ◌≢◌, ⊎_elim, ℕ, zero, suc, ◌+◌, ◌<◌, ◌≤◌, List, [], ◌∷◌, ◌++◌, length, take, drop, get_or, set, Option, Some, None, is_some, refl, sym, ap, subst, ◌∙◌, arith}
use Rattle.std.proofs.Math.Seq.{drop-nil}
use Rattle.std.proofs.lemmas.Bool.{cases_eq, cases_lt}
use Rattle.std.proofs.lemmas.List.{length-append, take-append-le, take_all, get_or-set_same, set-get_or, get_or_append_left, get_or_push}
use Rattle.std.proofs.lemmas.List.Elements.{All-nil}
use Rattle.group_view.specs.Change.{AreDifferent}
use Rattle.ring_parties.specs.Turns.{AreAskedOf}
use Rattle.ring_rules.specs.declared.event.Client.{Client}
use Rattle.ring_cluster.specs.Agendas.{Plan, IsAskedOf, IsFront, AreFronts, names_of, place_among, plan_at, tasks_found, tasks_in, with_found, with_tasks, struck_off}
use Rattle.ring_cluster.proofs.lists.Plans.{found_at, names_stay, set_twice, tasks_other, tasks_new}

-- ---- the first tasks

pub front_none : (name : List ℕ) (tasks : List Client) → tasks ≡ [] → IsFront name tasks []
front_none name tasks none = record { first = ([], none); some = λ _. none; asked = All-nil (IsAskedOf name) }

-- they were asked of their members
pub fronts_asked : (plans : List Plan) (names : List (List ℕ)) (fronts : List (List Client)) → AreFronts plans names fronts → AreAskedOf names fronts
fronts_asked plans names fronts h i l = (h.each i l).asked

pub fronts_none : (plans : List Plan) → AreFronts plans [] []
fronts_none plans = record { many = refl; each = λ i l. absurd (omega (arith, l)) }

pub fronts_more : (plans : List Plan) (names : List (List ℕ)) (fronts : List (List Client)) (name : List ℕ) (front : List Client) → AreFronts plans names fronts → IsFront name (tasks_in plans name) front → AreFronts plans (names ++ name ∷ []) (fronts ++ front ∷ [])
fronts_more plans names fronts name front h f = record {
  many = omega (arith, h.many, length-append names (name ∷ []), length-append fronts (front ∷ []));
  each = λ i l. ⊎_elim
      (λ (old : i < length names).
      subst (λ n. IsFront n (tasks_in plans n) (get_or (fronts ++ front ∷ []) i [])) (sym (get_or_append_left names (name ∷ []) [] i old))
      (subst (IsFront (get_or names i []) (tasks_in plans (get_or names i []))) (sym (get_or_append_left fronts (front ∷ []) [] i (omega (arith, old, h.many)))) (h.each i old)))
      (λ (new : length names ≤ i).
      let at : length names ≡ i = omega (arith, new, l, length-append names (name ∷ [])) in
      subst (λ n. IsFront n (tasks_in plans n) (get_or (fronts ++ front ∷ []) i [])) (sym (get_or_push names name [] i at))
      (subst (IsFront name (tasks_in plans name)) (sym (get_or_push fronts front [] i (h.many ∙ at))) f))
      (cases_lt i (length names));
}

-- all of a list that was written over another one of its length
pub written_all : {X : Type 0} (n : ℕ) (xs ys : List X) → length xs ≡ n → take n (xs ++ drop (length xs) ys) ≡ xs
written_all n xs ys many = take-append-le n xs (drop (length xs) ys) (omega (arith, many)) ∙ take_all n xs (omega (arith, many))

-- ---- several of one agenda

-- with other tasks twice
with_twice : (plans : List Plan) (name : List ℕ) (ts us : List Client) → with_tasks (with_tasks plans name ts) name us ≡ with_tasks plans name us
with_twice plans name ts us = ap (λ ns. with_found (with_tasks plans name ts) (place_among ns name) us) (names_stay plans name ts) ∙ by_place (place_among (names_of plans) name) refl
  where
    by_place : (o : Option ℕ) → place_among (names_of plans) name ≡ o → with_found (with_found plans o ts) o us ≡ with_found plans o us
    by_place None e = refl
    by_place (Some i) e =
        let x : Plan = record (plan_at plans i) { tasks = ts } in
        ap (λ (p : Plan). set (set plans i x) i (record p { tasks = us })) (get_or-set_same plans i x (plan_at [] 0) (found_at plans name i e).0)
        ∙ set_twice plans i x (record (plan_at plans i) { tasks = us })

-- with those that it has
with_same : (plans : List Plan) (name : List ℕ) → with_tasks plans name (tasks_in plans name) ≡ plans
with_same plans name = by_place (place_among (names_of plans) name)
  where
    by_place : (o : Option ℕ) → with_found plans o (tasks_found plans o) ≡ plans
    by_place None = refl
    by_place (Some i) = set-get_or plans i (plan_at [] 0)

tasks_dropped : (plans : List Plan) (name : List ℕ) (k : ℕ) → tasks_in (with_tasks plans name (drop k (tasks_in plans name))) name ≡ drop k (tasks_in plans name)
tasks_dropped plans name k = by_place (place_among (names_of plans) name) refl
  where
    by_place : (o : Option ℕ) → place_among (names_of plans) name ≡ o → tasks_in (with_tasks plans name (drop k (tasks_in plans name))) name ≡ drop k (tasks_in plans name)
    by_place None e =
        let none : drop k (tasks_in plans name) ≡ [] = ap (λ o. drop k (tasks_found plans o)) e ∙ drop-nil k in
        ap (λ ns. tasks_found (with_tasks plans name (drop k (tasks_in plans name))) (place_among ns name)) (names_stay plans name (drop k (tasks_in plans name)))
        ∙ ap (tasks_found (with_tasks plans name (drop k (tasks_in plans name)))) e
        ∙ sym none
    by_place (Some i) e = tasks_new plans name (drop k (tasks_in plans name)) (ap is_some e)

drop_next : {X : Type 0} (k : ℕ) (xs : List X) → drop 1 (drop k xs) ≡ drop (suc k) xs
drop_next zero xs = refl
drop_next (suc k) [] = refl
drop_next (suc k) (x ∷ xs) = drop_next k xs

pub strike_none : (plans : List Plan) (name : List ℕ) → plans ≡ with_tasks plans name (drop 0 (tasks_in plans name))
strike_none plans name = sym (with_same plans name)

pub strike_next : (plans cur new : List Plan) (name : List ℕ) (k : ℕ) → cur ≡ with_tasks plans name (drop k (tasks_in plans name)) → new ≡ with_tasks cur name (drop 1 (tasks_in cur name)) → new ≡ with_tasks plans name (drop (k + 1) (tasks_in plans name))
strike_next plans cur new name k was is =
    let next : suc k ≡ k + 1 = omega arith in
    is
    ∙ ap (λ ps. with_tasks ps name (drop 1 (tasks_in ps name))) was
    ∙ with_twice plans name (drop k (tasks_in plans name)) (drop 1 (tasks_in (with_tasks plans name (drop k (tasks_in plans name))) name))
    ∙ ap (λ ts. with_tasks plans name (drop 1 ts)) (tasks_dropped plans name k)
    ∙ ap (with_tasks plans name) (drop_next k (tasks_in plans name))
    ∙ ap (λ n. with_tasks plans name (drop n (tasks_in plans name))) next

-- ---- several of each

module _ (names : List (List ℕ)) (counts : List ℕ) (plans : List Plan) where
  pub struck_next : (k : ℕ) (cur new : List Plan) (name : List ℕ) (count : ℕ) → cur ≡ struck_off k names counts plans → name ≡ get_or names k [] → count ≡ get_or counts k 0 → new ≡ with_tasks cur name (drop count (tasks_in cur name)) → new ≡ struck_off (k + 1) names counts plans
  struck_next k cur new name count was named counted is =
      let next : suc k ≡ k + 1 = omega arith in
      is
      ∙ ap (λ ps. with_tasks ps name (drop count (tasks_in ps name))) was
      ∙ ap (λ n. with_tasks (struck_off k names counts plans) n (drop count (tasks_in (struck_off k names counts plans) n))) named
      ∙ ap (λ n. with_tasks (struck_off k names counts plans) (get_or names k []) (drop n (tasks_in (struck_off k names counts plans) (get_or names k [])))) counted
      ∙ ap (λ n. struck_off n names counts plans) next

  -- who isn't among the names has its tasks still
  pub struck_other : (k : ℕ) (name : List ℕ) → ((i : ℕ) → i < k → get_or names i [] ≢ name) → tasks_in (struck_off k names counts plans) name ≡ tasks_in plans name
  struck_other zero name none = refl
  struck_other (suc k) name none =
      tasks_other (struck_off k names counts plans) (get_or names k []) name (drop (get_or counts k 0) (tasks_in (struck_off k names counts plans) (get_or names k []))) (none k (omega arith))
      ∙ struck_other k name (λ i l. none i (omega (arith, l)))

  -- and who is has those behind the ones that were struck off
  pub struck_mine : (k i : ℕ) → AreDifferent names → k ≤ length names → i < k → tasks_in (struck_off k names counts plans) (get_or names i []) ≡ drop (get_or counts i 0) (tasks_in plans (get_or names i []))
  struck_mine zero i d le l = absurd (omega (arith, l))
  struck_mine (suc k) i d le l = ⊎_elim
      (λ (same : i ≡ k).
      subst (λ j. tasks_in (struck_off (suc k) names counts plans) (get_or names j []) ≡ drop (get_or counts j 0) (tasks_in plans (get_or names j []))) (sym same)
      (tasks_dropped (struck_off k names counts plans) (get_or names k []) (get_or counts k 0)
      ∙ ap (drop (get_or counts k 0)) (struck_other k (get_or names k []) (λ j jl is. let at : j ≡ k = d j k (omega (arith, jl, le)) (omega (arith, le)) is in absurd (omega (arith, jl, at))))))
      (λ (ne : i ≢ k).
      tasks_other (struck_off k names counts plans) (get_or names k []) (get_or names i []) (drop (get_or counts k 0) (tasks_in (struck_off k names counts plans) (get_or names k [])))
      (λ is. ne (d i k (omega (arith, l, le)) (omega (arith, le)) (sym is)))
      ∙ struck_mine k i d (omega (arith, le)) (omega (arith, l, ne)))
      (cases_eq i k)
