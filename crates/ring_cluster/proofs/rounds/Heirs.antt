-- Who is the running member of least id, what is handed on to it, and that by this less is left of what clients asked.
use Rattle.std.proofs.Common.{◌≡◌, ◌≢◌, ◌⊎◌, inl, inr, ⊎_elim, ℕ, ◌+◌, ◌-◌, ◌*◌, ◌<◌, ◌≤◌, Bool, true, false, List, [], ◌∷◌, ◌++◌, length, get_or, option_map, Option, Some, None, bytes_eq, nat_eq, nat_le, if◌then◌else◌, refl, sym, ap, subst, ◌∙◌, arith, append_assoc}
use Rattle.std.specs.List.{range_with_len, sum_by}
use Rattle.std.proofs.lemmas.Bool.{false≢true, cases_lt, cases_eq}
use Rattle.std.proofs.lemmas.List.FromFn.{length-range_with_len, get_or-range_with_len}
use Rattle.std.proofs.lemmas.List.Quantifiers.{position-Some}
use Rattle.std.proofs.lemmas.List.Sums.{sum_by-cons, sum_by_push, sum_by-set}
use Rattle.ring_names.specs.declared.reason.Reason.{Reason}
use Rattle.ring_names.specs.declared.reason.Reason.TheVariants as reason
use Rattle.ring_names.specs.Reason.{code_of}
use Rattle.group_view.specs.Change.{is_taken, most_entries}
use Rattle.ring_rules.specs.declared.event.Event.{Event}
use Rattle.ring_rules.specs.declared.event.Event.TheVariants.{Admit, Refuse}
use Rattle.ring_rules.specs.declared.event.Client.{Client}
use Rattle.ring_rules.specs.declared.event.Client.TheVariants as client
use Rattle.ring_rules.specs.declared.phase.Phase.{Phase}
use Rattle.ring_rules.specs.declared.phase.Phase.TheVariants.{Waiting, Up, Stopped}
use Rattle.ring_rules.specs.Refusal.{refuse_if, or_else}
use Rattle.ring_rules.specs.Machine.{World, member_at, view_in, newest, runs, runs_phase, is_waiting}
use Rattle.ring_rules.specs.Step.{size}
use Rattle.ring_rules.specs.Event.{id_of, of_member, event_of, asked_of, is_asked, is_stopped, admit_refusal, up_refusal, refused_at, refusal, effect, last}
use Rattle.ring_rules.proofs.events.Names.{own_bytes}
use Rattle.ring_cluster.specs.Agendas.{Plan, names_of, place_among, plan_at, tasks_found, tasks_in, with_found, with_tasks, with_more, with_task, with_asked}
use Rattle.ring_cluster.specs.Handed.{least_running, handing, given_to, handed}
use Rattle.ring_cluster.specs.Plays.{answer_by, answer_to}
use Rattle.ring_cluster.specs.Seen.{IsMemberIn}
use Rattle.ring_cluster.specs.Backlog.{heirs_from, is_no_heir, cost, left_on, backlog}
use Rattle.ring_parties.proofs.lists.Places.{position_is, position_none, passes_nowhere}
use Rattle.ring_cluster.proofs.lists.Plans.{found_at, other_name, given_other}
use Rattle.ring_cluster.proofs.work.Staying.{KeepsNames, ran_before}

-- ---- what is handed on by more events

pub handed_append : (w : World) (name : List ℕ) (xs ys : List Event) → handed w name (xs ++ ys) ≡ handed w name xs ++ handed (last w xs) name ys
handed_append w name [] ys = refl
handed_append w name (x ∷ xs) ys =
    ap (λ zs. given_to name (handing w x) ++ zs) (handed_append (effect w x) name xs ys)
    ∙ sym (append_assoc (given_to name (handing w x)) (handed (effect w x) name xs) (handed (last (effect w x) xs) name ys))

-- what a member does by itself hands nothing on
pub own_hands_none : (w : World) (e : Event) → is_asked e ≡ false → handing w e ≡ None
own_hands_none w (Refuse code inner) own = absurd (false≢true (sym own))
own_hands_none w e own = refl

-- ---- the running member of least id

-- the places of a state
many_places : (w : World) → length (range_with_len 0 (size w - 1)) ≡ size w - 1
many_places w = length-range_with_len 0 (size w - 1)

place_there : (w : World) (k : ℕ) → k < size w - 1 → get_or (range_with_len 0 (size w - 1)) k 0 ≡ k
place_there w k lt = let same : 0 + k ≡ k = omega arith in get_or-range_with_len 0 (size w - 1) k 0 lt ∙ same

-- it runs, and nobody before it
pub least_runs : (w : World) (i : ℕ) → least_running w ≡ Some i → (i + 1 < size w) × (runs w (i + 1) ≡ true) × ((k : ℕ) → k < i → runs w (k + 1) ≡ false)
least_runs w i e =
    let at = position-Some (λ k. runs w (k + 1)) (range_with_len 0 (size w - 1)) i 0 e in
    let lt : i < size w - 1 = omega (arith, at.0, many_places w) in (
      omega (arith, lt),
      ap (λ k. runs w (k + 1)) (sym (place_there w i lt)) ∙ at.1,
      λ k before. ap (λ j. runs w (j + 1)) (sym (place_there w k (omega (arith, before, lt)))) ∙ at.2 k before,
    )

-- where one runs and nobody before it, it is that one
pub least_is : (w : World) (i : ℕ) → i + 1 < size w → runs w (i + 1) ≡ true → ((k : ℕ) → k < i → runs w (k + 1) ≡ false) → least_running w ≡ Some i
least_is w i lt r none =
    position_is (λ k. runs w (k + 1)) (range_with_len 0 (size w - 1)) i 0 (omega (arith, lt, many_places w))
    (ap (λ k. runs w (k + 1)) (place_there w i (omega (arith, lt))) ∙ r)
    (λ k before. ap (λ j. runs w (j + 1)) (place_there w k (omega (arith, before, lt))) ∙ none k before)

-- where nobody runs there is none
pub least_none : (w : World) → ((k : ℕ) → k + 1 < size w → runs w (k + 1) ≡ false) → least_running w ≡ None
least_none w none =
    position_none (λ k. runs w (k + 1)) (range_with_len 0 (size w - 1)) 0
    (λ k l. ap (λ j. runs w (j + 1)) (place_there w k (omega (arith, l, many_places w))) ∙ none k (omega (arith, l, many_places w)))

-- where one runs there is one, no later
least_there : (w : World) (j : ℕ) (o : Option ℕ) → least_running w ≡ o → j + 1 < size w → runs w (j + 1) ≡ true → (i : ℕ) × (o ≡ Some i) × (i ≤ j)
least_there w j None e lt r =
    absurd (false≢true (sym (ap (λ k. runs w (k + 1)) (sym (place_there w j (omega (arith, lt))))
    ∙ passes_nowhere (λ k. runs w (k + 1)) (range_with_len 0 (size w - 1)) j 0 e (omega (arith, lt, many_places w))) ∙ r))
least_there w j (Some i) e lt r = (
  i,
  refl,
  ⊎_elim
      (λ (before : j < i). absurd (false≢true (sym ((least_runs w i e).2 j before) ∙ r)))
      (λ (le : i ≤ j). le)
      (cases_lt j i),
)

-- ---- the same after an event

-- it is the same, or a later one, or nobody runs any more
abbrev pub IsNext : Option ℕ → Option ℕ → Type 0
IsNext o p = (p ≡ o) ⊎ (heirs_from p < heirs_from o)

pub next_heir : (w w' : World) → KeepsNames w w' → size w ≤ 65 → size w' ≤ 65 → (size w < size w' → (x : ℕ) × (x + 1 < size w) × (runs w (x + 1) ≡ true)) → IsNext (least_running w) (least_running w')
next_heir w w' k few few' new = by_both (least_running w) (least_running w') refl refl
  where
    by_later : (i j : ℕ) → least_running w ≡ Some i → i ≤ j → j + 1 < size w' → IsNext (Some i) (Some j)
    by_later i j e le lt =
        ⊎_elim (λ (same : j ≡ i). inl (ap Some same)) (λ (ne : j ≢ i). inr (omega (arith, le, ne, lt, few'))) (cases_eq j i)

    by_both : (o p : Option ℕ) → least_running w ≡ o → least_running w' ≡ p → IsNext o p
    by_both None None e f = inl refl
    by_both (Some i) None e f = let at = least_runs w i e in inr (omega (arith, at.0, few))
    by_both o (Some j) e f =
        let at = least_runs w' j f in
        let before : (i : ℕ) × (o ≡ Some i) × (i ≤ j) =
        ⊎_elim
        (λ (old : j + 1 < size w). least_there w j o e old (ran_before (member_at w (j + 1)).phase (member_at w' (j + 1)).phase (k.phase (j + 1) old) at.1))
        (λ (ge : size w ≤ j + 1).
        let who = new (omega (arith, ge, at.0)) in
        let h = least_there w who.0 o e who.1 who.2 in
        (h.0, h.1, omega (arith, h.2, who.1, ge)))
        (cases_lt (j + 1) (size w)) in
        subst (λ q. IsNext q (Some j)) (sym before.1) (by_later before.0 j (e ∙ before.1) before.2 at.0)

-- ---- what is left by one task

no_heir_few : (w : World) (o : Option ℕ) (name : List ℕ) → is_no_heir w o name ≤ 1
no_heir_few w None name = omega arith
no_heir_few w (Some i) name = by_test (bytes_eq (member_at w (i + 1)).name name)
  where
    by_test : (b : Bool) → (if b then 0 else 1) ≤ 1
    by_test true = omega arith
    by_test false = omega arith

-- it is no more after an event
pub cost_later : (w w' : World) → KeepsNames w w' → IsNext (least_running w) (least_running w') → (t : Client) → cost w' t ≤ cost w t
cost_later w w' k n (client.Admit by newcomer) = ⊎_elim
    (λ (same : least_running w' ≡ least_running w).
    let still : is_no_heir w' (least_running w) by ≡ is_no_heir w (least_running w) by = by_heir (least_running w) refl in
    omega (arith, ap heirs_from same, ap (λ o. is_no_heir w' o by) same, still))
    (λ (later : heirs_from (least_running w') < heirs_from (least_running w)). omega (arith, later, no_heir_few w' (least_running w') by))
    n
  where
    by_heir : (o : Option ℕ) → least_running w ≡ o → is_no_heir w' o by ≡ is_no_heir w o by
    by_heir None e = refl
    by_heir (Some i) e = ap (λ n. if bytes_eq n by then 0 else 1) (k.name (i + 1) (least_runs w i e).0)
cost_later w w' k n t = omega arith

some_cost : (w : World) (t : Client) → 1 ≤ cost w t
some_cost w (client.Admit by newcomer) = omega arith
some_cost w t = omega arith

-- ---- by all of them

pub sum_less : {X : Type 0} (f g : X → ℕ) (xs : List X) → ((x : X) → f x ≤ g x) → sum_by f xs ≤ sum_by g xs
sum_less f g [] h = omega arith
sum_less f g (x ∷ xs) h = omega (arith, sum_by-cons f x xs, sum_by-cons g x xs, h x, sum_less f g xs h)

pub backlog_later : (w w' : World) (plans : List Plan) → KeepsNames w w' → IsNext (least_running w) (least_running w') → backlog w' plans ≤ backlog w plans
backlog_later w w' plans k n = sum_less (left_on w') (left_on w) plans (λ a. sum_less (cost w') (cost w) a.tasks (cost_later w w' k n))

-- with other tasks on the agenda of a name
pub tasks_left : (w : World) (plans : List Plan) (name : List ℕ) (ts : List Client) (i : ℕ) → place_among (names_of plans) name ≡ Some i → backlog w (with_found plans (Some i) ts) + sum_by (cost w) (tasks_found plans (Some i)) ≡ backlog w plans + sum_by (cost w) ts
tasks_left w plans name ts i e =
    let b : Plan = record (plan_at plans i) { tasks = ts } in
    omega (arith, sum_by-set (left_on w) plans i b (plan_at [] 0) (found_at plans name i e).0)

-- with one task more
task_left : (w : World) (plans : List Plan) (t : Client) → backlog w (with_task plans t) ≡ backlog w plans + cost w t
task_left w plans t = by_place (place_among (names_of plans) (asked_of t)) refl
  where
    by_place : (o : Option ℕ) → place_among (names_of plans) (asked_of t) ≡ o → backlog w (with_more plans o t) ≡ backlog w plans + cost w t
    by_place None e =
        omega (arith, sum_by_push (left_on w) plans (record { name = asked_of t; tasks = t ∷ [] }), sum_by-cons (cost w) t [])
    by_place (Some i) e =
        omega (arith, tasks_left w plans (asked_of t) ((plan_at plans i).tasks ++ t ∷ []) i e, sum_by_push (cost w) (plan_at plans i).tasks t)

-- ---- a task that is answered

-- who refuses a join with this number has stopped
refused_stopped : (w : World) (i : ℕ) (newcomer : List ℕ) (r : Reason) (phase : Phase) → (member_at w (i + 1)).phase ≡ phase → up_refusal w (i + 1) (admit_refusal w newcomer) ≡ Some r → nat_eq (code_of r) (code_of reason.Stopped) ≡ true → runs w (i + 1) ≡ false
refused_stopped w i newcomer r Stopped e is n = ap runs_phase e
refused_stopped w i newcomer r Waiting e is n =
    let told : or_else (refuse_if (is_stopped Waiting) reason.Stopped) (or_else (refuse_if (is_waiting Waiting) reason.Waiting) (admit_refusal w newcomer)) ≡ Some r =
    ap (λ f. or_else (refuse_if (is_stopped f) reason.Stopped) (or_else (refuse_if (is_waiting f) reason.Waiting) (admit_refusal w newcomer))) (sym e) ∙ is in
    let same : reason.Waiting ≡ r = cc in
    absurd (false≢true (ap (λ k. nat_eq (code_of k) (code_of reason.Stopped)) same ∙ n))
refused_stopped w i newcomer r Up e is n =
    by_tests (is_taken (view_in w (newest w)).entries newcomer) (nat_le_most w)
    (ap (λ f. or_else (refuse_if (is_stopped f) reason.Stopped) (or_else (refuse_if (is_waiting f) reason.Waiting) (admit_refusal w newcomer))) (sym e) ∙ is)
  where
    nat_le_most : World → Bool
    nat_le_most u = nat_le most_entries (length (view_in u (newest u)).entries)

    by_tests : (a b : Bool) → or_else (refuse_if a reason.NameTaken) (refuse_if b reason.TooManyMembers) ≡ Some r → runs w (i + 1) ≡ false
    by_tests true b is = let same : reason.NameTaken ≡ r = cc in absurd (false≢true (ap (λ k. nat_eq (code_of k) (code_of reason.Stopped)) same ∙ n))
    by_tests false true is = let same : reason.TooManyMembers ≡ r = cc in absurd (false≢true (ap (λ k. nat_eq (code_of k) (code_of reason.Stopped)) same ∙ n))
    by_tests false false is = cc

-- so a join isn't handed on to the member that refuses it: of a state in which names find their members
module _ (w : World) (i : ℕ) (name : List ℕ) (named : (k : ℕ) → k + 1 < size w → id_of w (member_at w (k + 1)).name ≡ Some (k + 1)) (at : IsMemberIn w i name) where
  found : id_of w name ≡ Some (i + 1)
  found = ap (id_of w) (sym at.1) ∙ named i at.0

  -- the join h is handed on by the answer to the join t: h is asked of the running member of least id
  abbrev pub IsHandedOn : Client → Client → Type 0
  IsHandedOn t h = (j : ℕ) × (newcomer : List ℕ) × (least_running w ≡ Some j) × (h ≡ client.Admit (member_at w (j + 1)).name newcomer) × (t ≡ client.Admit name newcomer) × (runs w (i + 1) ≡ false)

  -- what is done hands nothing on
  done_hands_none : (t : Client) → handing w (event_of t) ≡ None
  done_hands_none (client.Cast by body) = refl
  done_hands_none t = refl

  -- what the answer to what it was asked hands on
  pub answer_hands : (t h : Client) → asked_of t ≡ name → handing w (answer_to w t) ≡ Some h → IsHandedOn t h
  answer_hands t h asks e = by_refusal (refusal w (event_of t)) refl t refl e
    where
      by_refusal : (o : Option Reason) → refusal w (event_of t) ≡ o → (u : Client) → t ≡ u → handing w (answer_by u o) ≡ Some h → IsHandedOn t h
      by_refusal None r u is e = let none : None ≡ Some h = sym (done_hands_none u) ∙ e in cc
      by_refusal (Some r) told (client.Admit by newcomer) is e = by_code (nat_eq (code_of r) (code_of reason.Stopped)) refl (least_running w) refl e
        where
          by_code : (b : Bool) → nat_eq (code_of r) (code_of reason.Stopped) ≡ b → (o : Option ℕ) → least_running w ≡ o
              → (if b then option_map (λ to. client.Admit to newcomer) (option_map (λ k. (member_at w (k + 1)).name) o) else None) ≡ Some h
              → IsHandedOn t h
          by_code false n o l e = cc
          by_code true n None l e = cc
          by_code true n (Some j) l e =
              let both : client.Admit (member_at w (j + 1)).name newcomer ≡ h = cc in
              let mine : t ≡ client.Admit name newcomer = is ∙ ap (λ n. client.Admit n newcomer) (ap asked_of (sym is) ∙ asks) in
              let refused : up_refusal w (i + 1) (admit_refusal w newcomer) ≡ Some r =
              sym (ap (λ o. of_member o (refused_at w (Admit name newcomer))) found) ∙ ap (λ u. refusal w (event_of u)) (sym mine) ∙ told in
              (j, newcomer, l, sym both, mine, refused_stopped w i newcomer r (member_at w (i + 1)).phase refl refused n)
      by_refusal (Some r) told u is e = cc

  -- so it is asked of another
  pub answer_differs : (t h : Client) → asked_of t ≡ name → handing w (answer_to w t) ≡ Some h → asked_of h ≢ name
  answer_differs t h asks e same =
      let a = answer_hands t h asks e in
      let r = least_runs w a.0 a.2 in
      let one : Some (a.0 + 1) ≡ Some (i + 1) = sym (named a.0 r.0) ∙ ap (id_of w) (sym (ap asked_of a.3) ∙ same) ∙ found in
      let is : a.0 + 1 ≡ i + 1 = cc in
      false≢true (sym a.5 ∙ ap (runs w) (sym is) ∙ r.1)

  -- the agenda without the task that it has answered, and what that hands on on the agenda of its member
  pub answered_less : (plans : List Plan) (t : Client) (ts : List Client) → asked_of t ≡ name → tasks_in plans name ≡ t ∷ ts → backlog w (with_tasks (with_asked plans (handing w (answer_to w t))) name ts) < backlog w plans
  answered_less plans t ts asks a = by_handing (handing w (answer_to w t)) refl
    where
      -- where these tasks stand on the agenda of that name
      taken : (all : List Plan) → tasks_in all name ≡ t ∷ ts → backlog w (with_tasks all name ts) + cost w t ≡ backlog w all
      taken all k = by_place (place_among (names_of all) name) refl
        where
          by_place : (o : Option ℕ) → place_among (names_of all) name ≡ o → backlog w (with_found all o ts) + cost w t ≡ backlog w all
          by_place None e = let none : t ∷ ts ≡ [] = sym k ∙ ap (tasks_found all) e in cc
          by_place (Some p) e =
              omega (arith, tasks_left w all name ts p e, ap (sum_by (cost w)) (sym (ap (tasks_found all) e) ∙ k), sum_by-cons (cost w) t ts)

      by_handing : (o : Option Client) → handing w (answer_to w t) ≡ o → backlog w (with_tasks (with_asked plans o) name ts) < backlog w plans
      by_handing None e = omega (arith, taken plans a, some_cost w t)
      by_handing (Some h) e =
          let k = answer_hands t h asks e in
          let differs = answer_differs t h asks e in
          let heir : List ℕ = (member_at w (k.0 + 1)).name in
          let still : tasks_in (with_task plans h) name ≡ t ∷ ts = given_other plans h name differs ∙ a in
          let mine : cost w t ≡ 1 + 2 * heirs_from (least_running w) + 1 =
          ap (cost w) k.4
          ∙ ap (λ o. 1 + 2 * heirs_from (least_running w) + is_no_heir w o name) k.2
          ∙ ap (λ b. 1 + 2 * heirs_from (least_running w) + (if b then 0 else 1)) (other_name heir name (λ same. differs (ap asked_of k.3 ∙ same))) in
          let theirs : cost w h ≡ 1 + 2 * heirs_from (least_running w) + 0 =
          ap (cost w) k.3
          ∙ ap (λ o. 1 + 2 * heirs_from (least_running w) + is_no_heir w o heir) k.2
          ∙ ap (λ b. 1 + 2 * heirs_from (least_running w) + (if b then 0 else 1)) (own_bytes heir) in
          omega (arith, taken (with_task plans h) still, task_left w plans h, mine, theirs)
