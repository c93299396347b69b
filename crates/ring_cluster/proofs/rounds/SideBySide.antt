-- What members do side by side in a round: what it answers, and what it leaves.
use Rattle.std.proofs.Common.{◌≡◌, ◌≢◌, ◌⊎◌, inl, inr, ⊎_elim, ℕ, zero, suc, ◌+◌, ◌<◌, ◌≤◌, Bool, true, false, cond, List, [], ◌∷◌, ◌++◌, length, map, take, drop, get_or, Option, Some, None, bytes_eq, if◌then◌else◌, refl, sym, ap, subst, ◌∙◌, arith, append-nil}
use Rattle.std.specs.Prelude.{◌&&◌}
use Rattle.std.specs.List.{All, filter, position}
use Rattle.std.proofs.lemmas.Bool.{false≢true}
use Rattle.std.proofs.lemmas.List.{length-append, length-map, map-append, take-append-le, take-append-drop}
use Rattle.std.proofs.lemmas.List.Elements.{All-nil, All-cons, All-head, All-tail, All-get_or}
use Rattle.std.proofs.lemmas.List.Quantifiers.{position-Some}
use Rattle.std.proofs.lemmas.List.Sums.{sum_by-take-drop}
use Rattle.group_view.specs.Change.{AreDifferent}
use Rattle.ring_rules.specs.declared.event.Event.{Event}
use Rattle.ring_rules.specs.declared.event.Event.TheVariants.{Refuse, Admit}
use Rattle.ring_rules.specs.declared.event.Client.{Client}
use Rattle.ring_rules.specs.declared.event.Client.TheVariants as client
use Rattle.ring_rules.specs.Machine.{World}
use Rattle.ring_rules.specs.Step.{size}
use Rattle.ring_rules.specs.Event.{by_of, event_of, is_asked, effect, last}
use Rattle.ring_rules.proofs.events.Names.{same_bytes, own_bytes}
use Rattle.ring_parties.specs.Turns.{IsOfRound, HaveTaken, answered_by, answers_in, tasks_at}
use Rattle.ring_parties.proofs.lists.Places.{passes_nowhere}
use Rattle.ring_cluster.specs.Agendas.{Plan, AreFronts, names_of, place_among, tasks_found, tasks_in, with_found, with_tasks, struck_off}
use Rattle.ring_cluster.specs.Backlog.{cost, backlog}
use Rattle.ring_cluster.specs.Handed.{least_running, handing, given_to, handed}
use Rattle.ring_cluster.specs.Plays.{asked_event, client_events, todo, agenda_of}
use Rattle.ring_cluster.specs.Published.{names_in}
use Rattle.ring_cluster.specs.Seen.{Seen, state_of, IsGoing, SameButOwed}
use Rattle.ring_cluster.specs.Turns.{TakesRound, EachDoesAtMost, TakesTurns, events_of}
use Rattle.ring_cluster.proofs.lists.Plans.{names_apart}
use Rattle.ring_cluster.proofs.lists.Struck.{struck_other, struck_mine}
use Rattle.ring_cluster.proofs.work.Staying.{KeepsNames, event_same, waits_not_again}
use Rattle.ring_cluster.proofs.rounds.Heirs.{IsNext, tasks_left, next_heir, backlog_later}
use Rattle.ring_cluster.proofs.rounds.Members.{members_few, going_different, names_stay}
use Rattle.ring_cluster.proofs.rounds.Playing.{gone_state}
use Rattle.ring_cluster.proofs.rounds.Serving.{asked_first}

-- ---- whose events they are

-- a name is among some, or none of them is it
pub among : (names : List (List ℕ)) (name : List ℕ) → ((i : ℕ) × (i < length names) × (get_or names i [] ≡ name)) ⊎ ((i : ℕ) → i < length names → get_or names i [] ≢ name)
among names name = by_place (position (λ n. bytes_eq n name) names) refl
  where
    by_place : (o : Option ℕ) → position (λ n. bytes_eq n name) names ≡ o → ((i : ℕ) × (i < length names) × (get_or names i [] ≡ name)) ⊎ ((i : ℕ) → i < length names → get_or names i [] ≢ name)
    by_place None e = inr (λ i l. names_apart (get_or names i []) name (passes_nowhere (λ n. bytes_eq n name) names i [] e l))
    by_place (Some i) e = let at = position-Some (λ n. bytes_eq n name) names i [] e in inl (i, at.0, same_bytes (get_or names i []) name at.1)

-- what holds of all events of each of them, and there are no others, holds of all
all_of_each : (P : Event → Type 0) (names : List (List ℕ)) (events : List Event) → ((i : ℕ) → i < length names → All P (events_of (get_or names i []) events))
    → ((name : List ℕ) → ((i : ℕ) → i < length names → get_or names i [] ≢ name) → events_of name events ≡ []) → All P events
all_of_each P names [] each none = All-nil P
all_of_each P names (e ∷ es) each none =
    All-cons P e es (by_name (among names (by_of e)))
    (all_of_each P names es (λ i l. rest (bytes_eq (by_of e) (get_or names i [])) (events_of (get_or names i []) es) (each i l)) (λ name others. rest_none (bytes_eq (by_of e) name) (events_of name es) (none name others)))
  where
    rest : (b : Bool) (xs : List Event) → All P (cond b (e ∷ xs) xs) → All P xs
    rest true xs h = All-tail P e xs h
    rest false xs h = h

    rest_none : (b : Bool) (xs : List Event) → cond b (e ∷ xs) xs ≡ [] → xs ≡ []
    rest_none true xs h = cc
    rest_none false xs h = h

    first : (b : Bool) (xs : List Event) → b ≡ true → All P (cond b (e ∷ xs) xs) → P e
    first true xs is h = All-head P e xs h
    first false xs is h = absurd (false≢true is)

    first_some : (b : Bool) (xs : List Event) → b ≡ true → cond b (e ∷ xs) xs ≡ [] → ⊥
    first_some true xs is h = cc
    first_some false xs is h = false≢true is

    by_name : ((i : ℕ) × (i < length names) × (get_or names i [] ≡ by_of e)) ⊎ ((i : ℕ) → i < length names → get_or names i [] ≢ by_of e) → P e
    by_name (inl (i, l, is)) =
        first (bytes_eq (by_of e) (get_or names i [])) (events_of (get_or names i []) es) (ap (bytes_eq (by_of e)) is ∙ own_bytes (by_of e)) (each i l)
    by_name (inr others) = absurd (first_some (bytes_eq (by_of e) (by_of e)) (events_of (by_of e) es) (own_bytes (by_of e)) (none (by_of e) others))

-- ---- what they answer

same_answer : (e : Event) → asked_event e ≡ answered_by e
same_answer (Refuse code inner) = refl
same_answer e = refl

-- of a member by its events
asked_answers : (name : List ℕ) (events : List Event) → client_events name events ≡ answers_in (events_of name events)
asked_answers name [] = refl
asked_answers name (e ∷ es) = by_tests (is_asked e) (bytes_eq (by_of e) name) refl (asked_answers name es)
  where
    by_tests : (a b : Bool) → is_asked e ≡ a → client_events name es ≡ answers_in (events_of name es)
        → (if a && b then asked_event e ∷ [] else []) ++ client_events name es ≡ answers_in (cond b (e ∷ events_of name es) (events_of name es))
    by_tests true true is h =
        ap (λ x. x ∷ client_events name es) (same_answer e)
        ∙ ap (λ xs. answered_by e ∷ xs) h
        ∙ ap (λ a. map answered_by (cond a (e ∷ filter is_asked (events_of name es)) (filter is_asked (events_of name es)))) (sym is)
    by_tests false true is h = h ∙ ap (λ a. map answered_by (cond a (e ∷ filter is_asked (events_of name es)) (filter is_asked (events_of name es)))) (sym is)
    by_tests true false is h = h
    by_tests false false is h = h

-- nothing is handed on, and nobody joins
of_round_hands : (w : World) (e : Event) → IsOfRound e → handing w e ≡ None
of_round_hands w (Refuse code (client.Admit by newcomer)) h = ⊎_elim (λ own. absurd (false≢true (sym own))) (λ mine. absurd (false≢true mine)) h
of_round_hands w (Refuse code inner) h = refl
of_round_hands w e h = refl

round_hands : (w : World) (name : List ℕ) (events : List Event) → All IsOfRound events → handed w name events ≡ []
round_hands w name [] h = refl
round_hands w name (e ∷ es) h =
    ap (λ o. given_to name o ++ handed (effect w e) name es) (of_round_hands w e (All-head IsOfRound e es h)) ∙ round_hands (effect w e) name es (All-tail IsOfRound e es h)

round_admits : (by name : List ℕ) → IsOfRound (Admit by name) → ⊥
round_admits by name h = ⊎_elim (λ own. false≢true (sym own)) (λ mine. false≢true mine) h

round_many : (w : World) (events : List Event) → All IsOfRound events → size (last w events) ≡ size w
round_many w [] h = refl
round_many w (e ∷ es) h =
    round_many (effect w e) es (All-tail IsOfRound e es h)
    ∙ (event_same w e (λ by name is. round_admits by name (subst IsOfRound is (All-head IsOfRound e es h)))).many

-- ---- what parties have taken

pub turns_taken : (turns : ℕ) (names : List (List ℕ)) (fronts : List (List Client)) (done : List ℕ) (c d : Seen) (more : List Event) → AreFronts c.agendas names fronts → HaveTaken turns names fronts done more → SameButOwed (record c { events = c.events ++ more }) d → TakesTurns turns names done c d
turns_taken turns names fronts done c d more f h s = record {
  more = more;
  seen = s;
  few = λ name. few_by name (among names name);
  each = all_of_each IsOfRound names more (λ i l. (h.each i l).each) h.nobody_else;
  within = λ i l. let first = (f.each i l).first in omega (arith, (h.each i l).within, ap length first.1, length-append (tasks_at fronts i) first.0);
  answered = λ i l.
      let first = (f.each i l).first in
      asked_answers (get_or names i []) more
      ∙ (h.each i l).answers
      ∙ ap todo (sym (take-append-le (get_or done i 0) (tasks_at fronts i) first.0 (h.each i l).within))
      ∙ ap (λ ts. todo (take (get_or done i 0) ts)) (sym first.1);
  nobody_else = λ name others. asked_answers name more ∙ ap answers_in (h.nobody_else name others);
}
  where
    few_by : (name : List ℕ) → ((i : ℕ) × (i < length names) × (get_or names i [] ≡ name)) ⊎ ((i : ℕ) → i < length names → get_or names i [] ≢ name) → length (events_of name more) ≤ turns
    few_by name (inl (i, l, is)) = subst (λ n. length (events_of n more) ≤ turns) is (h.each i l).few
    few_by name (inr others) = omega (arith, ap length (h.nobody_else name others))

-- none has taken any
pub none_taken : (turns : ℕ) (names : List (List ℕ)) (done : List ℕ) (c : Seen) → length done ≡ length names → All (λ n. n ≡ 0) done → TakesTurns turns names done c c
none_taken turns names done c many none = record {
  more = [];
  seen = ((c.owes, c.collected), ap (λ es. record c { events = es }) (sym (append-nil c.events)));
  few = λ name. omega arith;
  each = All-nil IsOfRound;
  within = λ i l. omega (arith, nothing i l);
  answered = λ i l. ap (λ n. todo (take n (agenda_of c (get_or names i [])))) (sym (nothing i l));
  nobody_else = λ name others. refl;
}
  where
    nothing : (i : ℕ) → i < length names → get_or done i 0 ≡ 0
    nothing i l = All-get_or (λ n. n ≡ 0) done i 0 (omega (arith, l, many)) none

-- ---- what is left

-- of what clients asked
dropped_less : (w : World) (plans : List Plan) (name : List ℕ) (k : ℕ) → backlog w (with_tasks plans name (drop k (tasks_in plans name))) ≤ backlog w plans
dropped_less w plans name k = by_place (place_among (names_of plans) name) refl
  where
    by_place : (o : Option ℕ) → place_among (names_of plans) name ≡ o → backlog w (with_found plans o (drop k (tasks_found plans o))) ≤ backlog w plans
    by_place None e = omega arith
    by_place (Some i) e = omega (arith, tasks_left w plans name (drop k (tasks_found plans (Some i))) i e, sum_by-take-drop (cost w) (tasks_found plans (Some i)) k)

struck_less : (w : World) (names : List (List ℕ)) (counts : List ℕ) (plans : List Plan) (k : ℕ) → backlog w (struck_off k names counts plans) ≤ backlog w plans
struck_less w names counts plans zero = omega arith
struck_less w names counts plans (suc k) = omega (arith, struck_less w names counts plans k, dropped_less w (struck_off k names counts plans) (get_or names k []) (get_or counts k 0))

-- ---- the first part of a round

module _ (turns : ℕ) (names : List (List ℕ)) (done : List ℕ) (c c1 d : Seen) (g : IsGoing c) (going : IsGoing d) (are : names ≡ names_in (state_of c)) (t : TakesTurns turns names done c c1) (is : d ≡ record c1 { agendas = struck_off (length names) names done c1.agendas }) where
  credit : d.credit ≡ c.credit
  credit = ap (λ x. x.credit) is ∙ ap (λ x. x.credit) t.seen.1

  ring : d.names ≡ c.names
  ring = ap (λ x. x.names) is ∙ ap (λ x. x.names) t.seen.1

  events : d.events ≡ c.events ++ t.more
  events = ap (λ x. x.events) is ∙ ap (λ x. x.events) t.seen.1

  agendas : d.agendas ≡ struck_off (length names) names done c.agendas
  agendas = ap (λ x. x.agendas) is ∙ ap (λ x. struck_off (length names) names done x.agendas) t.seen.1

  different : AreDifferent names
  different = subst AreDifferent (sym are) (going_different c g)

  keeps : KeepsNames (state_of c) (state_of d)
  keeps = names_stay c d t.more going credit ring events

  next : IsNext (least_running (state_of c)) (least_running (state_of d))
  next =
      let many : size (state_of d) ≡ size (state_of c) = ap size (gone_state c d t.more credit ring events) ∙ round_many (state_of c) t.more t.each in
      next_heir (state_of c) (state_of d) keeps (members_few c g) (members_few d going) (λ grew. absurd (omega (arith, grew, many)))

  -- each has answered the first ones of its tasks, and the others are left
  serves : (name : List ℕ) → ((i : ℕ) × (i < length names) × (get_or names i [] ≡ name)) ⊎ ((i : ℕ) → i < length names → get_or names i [] ≢ name) → client_events name t.more ++ todo (agenda_of d name) ≡ todo (agenda_of c name)
  serves name (inl (i, l, at)) =
      subst (λ n. client_events n t.more ++ todo (agenda_of d n) ≡ todo (agenda_of c n)) at (
      ap (λ zs. zs ++ todo (agenda_of d (get_or names i []))) (t.answered i l)
      ∙ ap (λ ps. todo (take (get_or done i 0) (agenda_of c (get_or names i []))) ++ todo (tasks_in ps (get_or names i []))) agendas
      ∙ ap (λ ts. todo (take (get_or done i 0) (agenda_of c (get_or names i []))) ++ todo ts) (struck_mine names done c.agendas (length names) i different (omega arith) l)
      ∙ sym (map-append event_of (take (get_or done i 0) (agenda_of c (get_or names i []))) (drop (get_or done i 0) (agenda_of c (get_or names i []))))
      ∙ ap todo (take-append-drop (get_or done i 0) (agenda_of c (get_or names i [])))
      )
  serves name (inr others) =
      ap (λ zs. zs ++ todo (agenda_of d name)) (t.nobody_else name others)
      ∙ ap (λ ps. todo (tasks_in ps name)) agendas
      ∙ ap todo (struck_other names done c.agendas (length names) name others)

  many_asked : (name : List ℕ) → length (client_events name t.more) ≤ length (agenda_of c name)
  many_asked name =
      omega (arith, ap length (serves name (among names name)), length-append (client_events name t.more) (todo (agenda_of d name)), length-map (agenda_of c name) event_of)

  pub taken_round : TakesRound c d
  taken_round = record {
    goes = (
      t.more,
      record {
        credit = credit;
        names = ring;
        events = events;
        serves = λ name.
            serves name (among names name)
            ∙ sym (append-nil (todo (agenda_of c name)))
            ∙ ap (λ zs. todo (agenda_of c name) ++ zs) (sym (round_hands (state_of c) name t.more t.each));
        later = λ name count le. omega (arith, asked_first name count t.more, many_asked name);
      },
    );
    given = (ap (λ x. x.given) is ∙ ap (λ x. x.given) t.seen.1, ap (λ x. x.rounds) is ∙ ap (λ x. x.rounds) t.seen.1);
    stay = λ i name at. (omega (arith, at.0, keeps.many), keeps.name (i + 1) at.0 ∙ at.1);
    begun = λ i l. waits_not_again _ _ (keeps.phase (i + 1) l);
    less = omega (
      arith,
      ap (backlog (state_of d)) agendas,
      backlog_later (state_of c) (state_of d) (struck_off (length names) names done c.agendas) keeps next,
      struck_less (state_of c) names done c.agendas (length names),
    );
  }

  pub taken_few : EachDoesAtMost turns c d
  taken_few = (t.more, events, t.few)
