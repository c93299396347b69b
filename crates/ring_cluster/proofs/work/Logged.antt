-- The names of the members of a state, and that what is told of their logs is what the events published of these.
use Rattle.std.proofs.Common.{◌≡◌, ⊎_elim, ℕ, ◌+◌, ◌-◌, ◌<◌, ◌≤◌, Bool, true, false, List, [], ◌∷◌, ◌++◌, length, map, drop, get_or, bytes_eq, option_map, Option, Some, None, if◌then◌else◌, refl, sym, ap, subst, ◌∙◌, arith}
use Rattle.std.proofs.lemmas.Bool.{cases_lt}
use Rattle.std.proofs.lemmas.List.{append-nil, append_assoc, flat_map_more, same_lists, length-map, length-drop, get_or-map, get_or-drop}
use Rattle.std.proofs.lemmas.List.FromFn.{length-map-range_with_len, get_or-map-range_with_len}
use Rattle.ring_names.specs.declared.numbers.CreditSpec.{CreditSpec}
use Rattle.group_view.specs.Change.{AreOpeningNames, AreDifferent}
use Rattle.ring_rules.specs.declared.event.Event.{Event}
use Rattle.ring_rules.specs.declared.event.Event.TheVariants.{Admit}
use Rattle.ring_rules.specs.Kind.{Kind, Says, kind_of}
use Rattle.ring_rules.specs.Published.{told_of, told_of_saying, one_of, published_as, published_by, published_in}
use Rattle.ring_rules.specs.Machine.{Member, World, no_member, member_at}
use Rattle.ring_rules.specs.Step.{size, log_of, opening}
use Rattle.ring_rules.specs.Event.{by_of, id_of, of_member, refused_at, refusal, effect, IsRun, last}
use Rattle.ring_rules.proofs.events.First.{first_log}
use Rattle.ring_rules.proofs.events.Names.{same_bytes}
use Rattle.ring_rules.proofs.events.Refusals.{id_within}
use Rattle.ring_rules.proofs.rings.Maps.{position_map}
use Rattle.ring_rules.proofs.invariants.Happens.{IsGood, opening_good}
use Rattle.ring_rules.proofs.runs.OfEvents.{event_good, reached_named}
use Rattle.ring_rules.specs.Act.{act_of}
use Rattle.ring_rules.proofs.invariants.Named.{AreNamed, act_named}
use Rattle.ring_rules.proofs.runs.Published.{run_grows, found_name}
use Rattle.ring_cluster.specs.Agendas.{place_among}
use Rattle.ring_cluster.specs.Published.{names_in, told_of_each}
use Rattle.ring_cluster.proofs.work.Staying.{Joins, KeepsNames, is_admission, event_same, admit_joins, event_keeps}

-- ---- names

-- there are as many names as members
pub names_in_many : (w : World) → length (names_in w) ≡ size w - 1
names_in_many w = length-map (drop 1 w.members) (λ (y : Member). y.name) ∙ length-drop 1 w.members

-- each is its member's
pub name_in_at : (w : World) (i : ℕ) (d : List ℕ) → i + 1 < size w → get_or (names_in w) i d ≡ (member_at w (i + 1)).name
name_in_at w i d l =
    let next : 1 + i ≡ i + 1 = omega arith in
    get_or-map (λ (y : Member). y.name) (drop 1 w.members) i no_member d (omega (arith, l, length-drop 1 w.members))
    ∙ ap (λ (y : Member). y.name) (get_or-drop 1 w.members i no_member ∙ ap (member_at w) next)

-- they are different in every state
pub names_in_different : (w : World) → AreNamed w → AreDifferent (names_in w)
names_in_different w h i j il jl e =
    let ii : i + 1 < size w = omega (arith, il, names_in_many w) in
    let jj : j + 1 < size w = omega (arith, jl, names_in_many w) in
    let same : i + 1 ≡ j + 1 = h.different (i + 1) (j + 1) (omega arith) ii (omega arith) jj (sym (name_in_at w i [] ii) ∙ e ∙ name_in_at w j [] jj) in
    omega (arith, same)

pub reached_different : (credit : CreditSpec) (names : List (List ℕ)) (events : List Event) → AreOpeningNames names → IsRun (opening credit names) events → AreDifferent (names_in (last (opening credit names) events))
reached_different credit names events are r = names_in_different (last (opening credit names) events) (reached_named credit names events are r)

-- a name has the id of its place among them
pub id_in : (w : World) (name : List ℕ) → id_of w name ≡ option_map (λ i. i + 1) (place_among (names_in w) name)
id_in w name = ap (option_map (λ i. i + 1)) (sym (position_map (λ n. bytes_eq n name) (λ (y : Member). y.name) (drop 1 w.members)))

-- ---- logs

-- no member has this name
abbrev IsUnknown : World → List ℕ → Type 0
IsUnknown w name = (x : ℕ) → 1 ≤ x → x < size w → (member_at w x).name ≡ name → ⊥

-- what is told of each member's log is what the events published of its name, and of a name that nobody has they published nothing
record LogsAre (events : List Event) (w : World) : Type 0 where
  known : (x : ℕ) → 1 ≤ x → x < size w → map told_of (log_of w x) ≡ published_in (member_at w x).name events
  unknown : (name : List ℕ) → IsUnknown w name → published_in name events ≡ []

-- what one event more publishes
published_more : (name : List ℕ) (before : List Event) (e : Event) → published_in name (before ++ e ∷ []) ≡ published_in name before ++ published_by name e
published_more name before e = sym (flat_map_more (published_by name) [] before e)

-- alone
published_alone : (name : List ℕ) (e : Event) → published_in name (e ∷ []) ≡ published_by name e
published_alone name e = append-nil (published_by name e)

-- an event that may happen publishes of members alone
by_test : (name by : List ℕ) (m : Option (List ℕ)) (b : Bool) → bytes_eq by name ≡ b → (b ≡ true → ⊥) → one_of name by m ≡ []
by_test name by m true e none = absurd (none refl)
by_test name by m false e none = ap (λ t. if t then m ∷ [] else []) e

stranger_one : (w : World) (name : List ℕ) (e : Event) (m : Option (List ℕ)) → refusal w e ≡ None → IsUnknown w name → one_of name (by_of e) m ≡ []
stranger_one w name e m r none = by_test name (by_of e) m _ refl (λ same. by_id (id_of w (by_of e)) refl r (same_bytes (by_of e) name same))
  where
    by_id : (o : Option ℕ) → id_of w (by_of e) ≡ o → of_member o (refused_at w e) ≡ None → by_of e ≡ name → ⊥
    by_id None at k is = cc
    by_id (Some x) at k is = let i = id_within w (by_of e) x at in none x i.0 i.1 (found_name w (by_of e) x at ∙ is)

stranger_by : (w : World) (name : List ℕ) (e : Event) → refusal w e ≡ None → IsUnknown w name → published_by name e ≡ []
stranger_by w name e r none = by_kind (kind_of e)
  where
    by_kind : (k : Kind) → published_as name (by_of e) k ≡ []
    by_kind (Says s) = stranger_one w name e (told_of_saying s) r none
    by_kind k = refl

module _ (w : World) (before : List Event) (e : Event) (g : IsGood w) (n : AreNamed w) (r : refusal w e ≡ None) (h : LogsAre before w) where
  abbrev w' : World
  w' = effect w e

  keeps : KeepsNames w w'
  keeps = event_keeps w e r

  -- of a member that was there
  known_before : (x : ℕ) → 1 ≤ x → x < size w → map told_of (log_of w' x) ≡ published_in (member_at w' x).name (before ++ e ∷ [])
  known_before x some lt =
      run_grows w (e ∷ []) x g n (r, tt) some lt
      ∙ ap (λ ms. ms ++ published_in (member_at w x).name (e ∷ [])) (h.known x some lt)
      ∙ ap (λ ms. published_in (member_at w x).name before ++ ms) (published_alone (member_at w x).name e)
      ∙ sym (published_more (member_at w x).name before e)
      ∙ ap (λ name. published_in name (before ++ e ∷ [])) (sym (keeps.name x lt))

  -- nobody that is unknown then was known before
  unknown_before : (name : List ℕ) → IsUnknown w' name → IsUnknown w name
  unknown_before name none x some lt is = none x some (omega (arith, lt, keeps.many)) (keeps.name x lt ∙ is)

  nothing_of : (name : List ℕ) → IsUnknown w name → published_in name (before ++ e ∷ []) ≡ []
  nothing_of name none = published_more name before e ∙ ap (λ ms. ms ++ published_by name e) (h.unknown name none) ∙ stranger_by w name e r none

  -- of one that joins: it has a name that nobody had
  known_new : (name : List ℕ) → Joins w name w' → (x : ℕ) → x ≡ size w → 1 ≤ x → map told_of (log_of w' x) ≡ published_in (member_at w' x).name (before ++ e ∷ [])
  known_new name k x is some =
      ap (λ y. map told_of (log_of w' y)) is ∙ ap (map told_of) k.nothing
      ∙ sym (nothing_of name (λ y first lt same.
      let both : y ≡ size w = (act_named w (act_of e) g r n).different y (size w) first (omega (arith, lt, k.many)) (omega (arith, is, some)) (omega (arith, k.many)) (k.keeps.name y lt ∙ same ∙ sym k.new) in
      absurd (omega (arith, both, lt))))
      ∙ ap (λ a. published_in a (before ++ e ∷ [])) (sym k.new ∙ ap (λ y. (member_at w' y).name) (sym is))

  event_logs : LogsAre (before ++ e ∷ []) w'
  event_logs = record {
    known = λ x some lt. ⊎_elim
        (λ (old : x < size w). known_before x some old)
        (λ (ge : size w ≤ x). ⊎_elim
        (λ (a : (by : List ℕ) × (name : List ℕ) × (e ≡ Admit by name)).
        let k : Joins w a.1 w' = subst (λ (y : Event). Joins w a.1 (effect w y)) (sym a.2) (admit_joins w a.0 a.1 (subst (λ (y : Event). refusal w y ≡ None) a.2 r)) in
        known_new a.1 k x (omega (arith, ge, lt, k.many)) some)
        (λ (none : (by name : List ℕ) → e ≡ Admit by name → ⊥). absurd (let k = (event_same w e none).many in omega (arith, ge, lt, k)))
        (is_admission e))
        (cases_lt x (size w));
    unknown = λ name none. nothing_of name (unknown_before name none);
  }

-- ---- runs

run_logs : (w : World) (before events : List Event) → IsGood w → AreNamed w → IsRun w events → LogsAre before w → LogsAre (before ++ events) (last w events)
run_logs w before [] g n r h = subst (λ es. LogsAre es w) (sym (append-nil before)) h
run_logs w before (e ∷ es) g n r h =
    subst (λ xs. LogsAre xs (last (effect w e) es)) (append_assoc before (e ∷ []) es)
    (run_logs (effect w e) (before ++ e ∷ []) es (event_good w e g r.0) (act_named w (act_of e) g r.0 n) r.1 (event_logs w before e g n r.0 h))

-- what is told of each member's log, of the opening or joined, is what the events have published of its name
pub run_publishes : (credit : CreditSpec) (names : List (List ℕ)) (events : List Event) (x : ℕ) → AreOpeningNames names → IsRun (opening credit names) events → 1 ≤ x → x < size (last (opening credit names) events)
    → map told_of (log_of (last (opening credit names) events) x) ≡ published_in (member_at (last (opening credit names) events) x).name events
run_publishes credit names events x are r some lt =
    (run_logs (opening credit names) [] events (opening_good credit names are) (reached_named credit names [] are tt) r (record { known = λ y _ _. ap (map told_of) (first_log credit names y); unknown = λ name _. refl })).known x some lt

-- so what is told of the logs of a state, by places, is what was published of its members' names
pub run_all_logs : (credit : CreditSpec) (names : List (List ℕ)) (events : List Event) → AreOpeningNames names → IsRun (opening credit names) events
    → map (λ name. published_in name events) (names_in (last (opening credit names) events)) ≡ told_of_each (last (opening credit names) events)
run_all_logs credit names events are r = same_lists _ _ many each
  where
    w : World
    w = last (opening credit names) events

    many : length (map (λ name. published_in name events) (names_in w)) ≡ length (told_of_each w)
    many = omega (arith, length-map (names_in w) (λ name. published_in name events), length-map-range_with_len (λ x. map told_of (log_of w x)) 1 (size w - 1), names_in_many w)

    each : (k : ℕ) (d : List (Option (List ℕ))) → k < length (map (λ name. published_in name events) (names_in w)) → get_or (map (λ name. published_in name events) (names_in w)) k d ≡ get_or (told_of_each w) k d
    each k d l =
        let lt : k < length (names_in w) = omega (arith, length-map (names_in w) (λ name. published_in name events)) in
        let inside : k + 1 < size w = omega (arith, lt, names_in_many w) in
        get_or-map (λ name. published_in name events) (names_in w) k [] d lt
        ∙ ap (λ name. published_in name events) (name_in_at w k [] inside)
        ∙ sym (run_publishes credit names events (k + 1) are r (omega arith) inside)
        ∙ sym (get_or-map-range_with_len (λ x. map told_of (log_of w x)) 1 (size w - 1) k (k + 1) d (omega (arith, inside)) (omega arith))
