-- Playing what was given: how it goes on.
use Rattle.std.proofs.Common.{◌≡◌, ℕ, zero, suc, ◌+◌, ◌-◌, ◌<◌, ◌≤◌, Bool, List, [], ◌∷◌, ◌++◌, length, take, None, refl, sym, ap, subst, ◌∙◌, ⊎_elim, arith, append_assoc, append-nil}
use Rattle.std.proofs.lemmas.Bool.{cases_lt}
use Rattle.std.proofs.lemmas.List.{length-append, length-map, take-append-le, take_all}
use Rattle.ring_script.specs.declared.command.Command.{Command}
use Rattle.ring_script.specs.declared.command.Command.TheVariants as command
use Rattle.ring_names.specs.declared.numbers.CreditSpec.{CreditSpec}
use Rattle.ring_rules.specs.declared.event.Event.{Event}
use Rattle.ring_rules.specs.Quiet.{IsQuiet}
use Rattle.ring_rules.specs.Machine.{World}
use Rattle.ring_rules.specs.Step.{opening}
use Rattle.ring_rules.specs.Event.{event_of, last}
use Rattle.ring_rules.proofs.runs.OfEvents.{last_append}
use Rattle.ring_cluster.specs.Seen.{Seen, state_of, IsGoing, collecting, with_event, opening_seen}
use Rattle.ring_parties.specs.States.{state}
use Rattle.ring_cluster.specs.Agendas.{tasks_in}
use Rattle.ring_cluster.specs.Handed.{handing, given_to, handed}
use Rattle.ring_cluster.specs.Plays.{client_event, client_events, asked_by, asked, todo, agenda_of, Serves, HaveServed, HasSettled, HasSettledEach, Plays, PlaysSoFar, GoesOn, HasGoneOn, AgendasAreEmpty}
use Rattle.ring_parties.proofs.lists.Lists.{flat_map-append, slice_get_within, slice_get_front, slice_get_last, some_injective}
use Rattle.ring_cluster.proofs.rounds.Heirs.{handed_append}
use Rattle.ring_cluster.proofs.rounds.Members.{strangers_ask_nothing}
use Rattle.ring_cluster.proofs.rounds.Serving.{serves_on, serves_still, serves_none, none_first, take_both}

-- ---- going on

-- the state that is reached
pub gone_state : (c d : Seen) (xs : List Event) → d.credit ≡ c.credit → d.names ≡ c.names → d.events ≡ c.events ++ xs → state_of d ≡ last (state_of c) xs
gone_state c d xs credit names events =
    ap (λ a. state a d.names d.events) credit ∙ ap (λ a. state c.credit a d.events) names ∙ ap (state c.credit c.names) events
    ∙ last_append (opening c.credit c.names) c.events xs

-- how many tasks an agenda has
todo_many : (c : Seen) (name : List ℕ) → length (todo (agenda_of c name)) ≡ length (agenda_of c name)
todo_many c name = length-map (agenda_of c name) event_of

-- what is done by one event was there, or is handed on by it
pub one_later : (w : World) (e : Event) (name : List ℕ) (old new : List Event) (many : ℕ) → length old ≡ many → client_events name (e ∷ []) ++ new ≡ old ++ handed w name (e ∷ [])
    → (count : ℕ) → count ≤ 1 → length (client_events name (take count (e ∷ []))) ≤ many + length (handed w name (take count (e ∷ [])))
one_later w e name old new many is h zero l = omega arith
one_later w e name old new many is h (suc zero) l = omega (arith, is, ap length h, length-append (client_events name (e ∷ [])) new, length-append old (handed w name (e ∷ [])))
one_later w e name old new many is h (suc (suc n)) l = absurd (omega (arith, l))

pub GoesOn-trans : (c d e : Seen) (xs ys : List Event) → GoesOn c d xs → GoesOn d e ys → GoesOn c e (xs ++ ys)
GoesOn-trans c d e xs ys a b = record {
  credit = b.credit ∙ a.credit;
  names = b.names ∙ a.names;
  events = b.events ∙ ap (λ zs. zs ++ ys) a.events ∙ append_assoc c.events xs ys;
  serves = λ name.
      ap (λ zs. zs ++ todo (agenda_of e name)) (flat_map-append (client_event name) xs ys)
      ∙ append_assoc (client_events name xs) (client_events name ys) (todo (agenda_of e name))
      ∙ ap (λ zs. client_events name xs ++ zs) (b.serves name)
      ∙ sym (append_assoc (client_events name xs) (todo (agenda_of d name)) (handed (state_of d) name ys))
      ∙ ap (λ zs. zs ++ handed (state_of d) name ys) (a.serves name)
      ∙ append_assoc (todo (agenda_of c name)) (handed (state_of c) name xs) (handed (state_of d) name ys)
      ∙ ap (λ zs. todo (agenda_of c name) ++ zs) (sym (both name ys));
  later = λ name count le. ⊎_elim
      (λ (behind : length xs < count). behind_later name count le (omega (arith, behind)))
      (λ (first : count ≤ length xs).
      subst (λ es. length (client_events name es) ≤ length (agenda_of c name) + length (handed (state_of c) name es)) (sym (take-append-le count xs ys first)) (a.later name count first))
      (cases_lt (length xs) count);
}
  where
    both : (name : List ℕ) (zs : List Event) → handed (state_of c) name (xs ++ zs) ≡ handed (state_of c) name xs ++ handed (state_of d) name zs
    both name zs = handed_append (state_of c) name xs zs ∙ ap (λ w. handed (state_of c) name xs ++ handed w name zs) (sym (gone_state c d xs a.credit a.names a.events))

    behind_later : (name : List ℕ) (count : ℕ) → count ≤ length (xs ++ ys) → length xs ≤ count → length (client_events name (take count (xs ++ ys))) ≤ length (agenda_of c name) + length (handed (state_of c) name (take count (xs ++ ys)))
    behind_later name count le ge =
        let j : ℕ = count - length xs in
        let within : j ≤ length ys = omega (arith, le, length-append xs ys) in
        let so : length (client_events name (xs ++ take j ys)) ≡ length (client_events name xs) + length (client_events name (take j ys)) =
        ap length (flat_map-append (client_event name) xs (take j ys)) ∙ length-append (client_events name xs) (client_events name (take j ys)) in
        let theirs : length (handed (state_of c) name (xs ++ take j ys)) ≡ length (handed (state_of c) name xs) + length (handed (state_of d) name (take j ys)) =
        ap length (both name (take j ys)) ∙ length-append (handed (state_of c) name xs) (handed (state_of d) name (take j ys)) in
        let before : length (client_events name xs) + length (agenda_of d name) ≡ length (agenda_of c name) + length (handed (state_of c) name xs) =
        omega (arith, ap length (a.serves name), length-append (client_events name xs) (todo (agenda_of d name)), length-append (todo (agenda_of c name)) (handed (state_of c) name xs), todo_many c name, todo_many d name) in
        let h : length (client_events name (xs ++ take j ys)) ≤ length (agenda_of c name) + length (handed (state_of c) name (xs ++ take j ys)) =
        omega (arith, so, theirs, before, b.later name j within) in
        subst (λ es. length (client_events name es) ≤ length (agenda_of c name) + length (handed (state_of c) name es)) (sym (take_both count xs ys ge)) h

pub HasGoneOn-collecting : (c : Seen) (x : Bool × List ℕ) → HasGoneOn c (collecting x c)
HasGoneOn-collecting c x = (
  [],
  record {
    credit = refl;
    names = refl;
    events = sym (append-nil c.events);
    serves = λ name. sym (append-nil (todo (agenda_of c name)));
    later = λ name count le. omega (arith, ap length (none_first name count));
  },
)

pub HasGoneOn-refl : (c : Seen) → HasGoneOn c c
HasGoneOn-refl c = HasGoneOn-collecting c (c.owes, c.collected)

pub HasGoneOn-trans : (c d e : Seen) → HasGoneOn c d → HasGoneOn d e → HasGoneOn c e
HasGoneOn-trans c d e a b = (a.0 ++ b.0, GoesOn-trans c d e a.0 b.0 a.1 b.1)

-- the same but for what was given and the rounds
pub GoesOn-given : (c d e : Seen) (xs : List Event) → e.credit ≡ d.credit → e.names ≡ d.names → e.events ≡ d.events → e.agendas ≡ d.agendas → GoesOn c d xs → GoesOn c e xs
GoesOn-given c d e xs ec en ee ea h = record {
  credit = ec ∙ h.credit;
  names = en ∙ h.names;
  events = ee ∙ h.events;
  serves = λ name. ap (λ ags. client_events name xs ++ todo (tasks_in ags name)) ea ∙ h.serves name;
  later = h.later;
}

-- one event
pub by_one : (c d : Seen) (e : Event) → d.credit ≡ c.credit → d.names ≡ c.names → d.events ≡ c.events ++ e ∷ []
    → ((name : List ℕ) → client_events name (e ∷ []) ++ todo (agenda_of d name) ≡ todo (agenda_of c name) ++ handed (state_of c) name (e ∷ []))
    → GoesOn c d (e ∷ [])
by_one c d e credit names events h = record {
  credit = credit;
  names = names;
  events = events;
  serves = h;
  later = λ name. one_later (state_of c) e name (todo (agenda_of c name)) (todo (agenda_of d name)) (length (agenda_of c name)) (todo_many c name) (h name);
}

-- a step of a member of its own
pub is_own : (e : Event) → ((name : List ℕ) → client_event name e ≡ []) → (c d : Seen) → handing (state_of c) e ≡ None → (x : Bool × List ℕ) → d ≡ collecting x (with_event c e) → GoesOn c d (e ∷ [])
is_own e own c d none x is = subst (λ y. GoesOn c y (e ∷ [])) (sym is) (by_one c (collecting x (with_event c e)) e refl refl refl (λ name.
    ap (λ zs. (zs ++ []) ++ todo (agenda_of c name)) (own name)
    ∙ sym (append-nil (todo (agenda_of c name)))
    ∙ ap (λ o. todo (agenda_of c name) ++ (given_to name o ++ [])) (sym none)))

-- ---- settling

pub settled_later : (credit : CreditSpec) (names : List (List ℕ)) (events more : List Event) (commands : List Command) → HasSettled credit names events commands → HasSettled credit names (events ++ more) commands
settled_later credit names events more commands h =
    let same : take h.count (events ++ more) ≡ take h.count events = take-append-le h.count events more h.within in
    record {
      count = h.count;
      within = omega (arith, length-append events more, h.within);
      quiet = subst (λ es. IsQuiet (state credit names es)) (sym same) h.quiet;
      served = subst (λ es. HaveServed (opening credit names) es commands) (sym same) h.served;
    }

pub settled_now : (credit : CreditSpec) (names : List (List ℕ)) (events : List Event) (commands : List Command) → IsQuiet (state credit names events) → HaveServed (opening credit names) events commands → HasSettled credit names events commands
settled_now credit names events commands quiet served =
    let all : take (length events) events ≡ events = take_all (length events) events (omega arith) in
    record {
      count = length events;
      within = omega arith;
      quiet = subst (λ es. IsQuiet (state credit names es)) (sym all) quiet;
      served = subst (λ es. HaveServed (opening credit names) es commands) (sym all) served;
    }

-- one more command
pub settled_each_more : (credit : CreditSpec) (names : List (List ℕ)) (events : List Event) (given : List Command) (x : Command) → HasSettledEach credit names events given → (x ≡ command.Settle → HasSettled credit names events given) → HasSettledEach credit names events (given ++ x ∷ [])
settled_each_more credit names events given x h now k e =
    ⊎_elim
    (λ (lt : k < length given).
    subst (HasSettled credit names events) (sym (take-append-le k given (x ∷ []) (omega arith))) (h k (sym (slice_get_front given (x ∷ []) k lt) ∙ e)))
    (λ (ge : length given ≤ k).
    let kl : k < length (given ++ x ∷ []) = slice_get_within (given ++ x ∷ []) k command.Settle e in
    let same : k ≡ length given = omega (arith, length-append given (x ∷ [])) in
    let is : x ≡ command.Settle = some_injective x command.Settle (sym (slice_get_last given x k same) ∙ e) in
    subst (HasSettled credit names events) (sym (ap (λ n. take n (given ++ x ∷ [])) same ∙ take-append-le (length given) given (x ∷ []) (omega arith) ∙ take_all (length given) given (omega arith))) (now is))
    (cases_lt k (length given))

pub settled_each_later : (credit : CreditSpec) (names : List (List ℕ)) (events more : List Event) (given : List Command) → HasSettledEach credit names events given → HasSettledEach credit names (events ++ more) given
settled_each_later credit names events more given h k e = settled_later credit names events more (take k given) (h k e)

-- ---- what is played

-- where the ring, the events and what was given are these
serves_moved : (c d : Seen) (name : List ℕ) (events : List Event) (given : List Command) (left : List Event) → d.credit ≡ c.credit → d.names ≡ c.names → d.events ≡ events → d.given ≡ given → Serves (opening c.credit c.names) name events given left → Serves (opening d.credit d.names) name d.events d.given left
serves_moved c d name events given left ec en ee eg s =
    subst (λ x. Serves (opening x d.names) name d.events d.given left) (sym ec) (subst (λ x. Serves (opening c.credit x) name d.events d.given left) (sym en) (subst (λ x. Serves (opening c.credit c.names) name x d.given left) (sym ee) (subst (λ x. Serves (opening c.credit c.names) name events x left) (sym eg) s)))

settled_moved : (c d : Seen) (events : List Event) (given : List Command) → d.credit ≡ c.credit → d.names ≡ c.names → d.events ≡ events → d.given ≡ given → HasSettledEach c.credit c.names events given → HasSettledEach d.credit d.names d.events d.given
settled_moved c d events given ec en ee eg h =
    subst (λ x. HasSettledEach x d.names d.events d.given) (sym ec) (subst (λ x. HasSettledEach c.credit x d.events d.given) (sym en) (subst (λ x. HasSettledEach c.credit c.names x d.given) (sym ee) (subst (λ x. HasSettledEach c.credit c.names events x) (sym eg) h)))

pub plays_on : (c d : Seen) (more : List Event) → GoesOn c d more → d.given ≡ c.given → PlaysSoFar c → PlaysSoFar d
plays_on c d more g e h = record {
  serves = λ name.
      serves_moved c d name (c.events ++ more) c.given (todo (agenda_of d name)) g.credit g.names g.events e
      (serves_on (opening c.credit c.names) name c.events c.given (todo (agenda_of c name)) (h.serves name) more (todo (agenda_of d name)) (g.serves name)
      (λ count le. omega (arith, g.later name count le, todo_many c name)));
  settled = settled_moved c d (c.events ++ more) c.given g.credit g.names g.events e (settled_each_later c.credit c.names c.events more c.given h.settled);
}

pub asked_push : (name : List ℕ) (given : List Command) (x : Command) → asked name (given ++ x ∷ []) ≡ asked name given ++ asked_by name x
asked_push name given x = flat_map-append (asked_by name) given (x ∷ []) ∙ ap (λ zs. asked name given ++ zs) (append-nil (asked_by name x))

-- something that asks nothing of anybody was given
pub plays_noted : (c d : Seen) (x : Command) → ((name : List ℕ) → asked_by name x ≡ []) → (x ≡ command.Settle → HasSettled c.credit c.names c.events c.given) → d.credit ≡ c.credit → d.names ≡ c.names → d.events ≡ c.events → d.agendas ≡ c.agendas → d.given ≡ c.given ++ x ∷ [] → PlaysSoFar c → PlaysSoFar d
plays_noted c d x none now ec en ee ea eg h = record {
  serves = λ name.
      let left : List Event = todo (agenda_of c name) in
      let same : asked name (c.given ++ x ∷ []) ≡ asked name c.given = asked_push name c.given x ∙ ap (λ zs. asked name c.given ++ zs) (none name) ∙ append-nil (asked name c.given) in
      let still : Serves (opening c.credit c.names) name c.events (c.given ++ x ∷ []) left = serves_still (opening c.credit c.names) name c.events c.given left (h.serves name) (c.given ++ x ∷ []) same in
      subst (λ ags. Serves (opening d.credit d.names) name d.events d.given (todo (tasks_in ags name))) (sym ea) (serves_moved c d name c.events (c.given ++ x ∷ []) left ec en ee eg still);
  settled = settled_moved c d c.events (c.given ++ x ∷ []) ec en ee eg (settled_each_more c.credit c.names c.events c.given x h.settled now);
}

-- ---- when nobody has anything to do

pub all_served : (c : Seen) → IsGoing c → AgendasAreEmpty c → PlaysSoFar c → HaveServed (opening c.credit c.names) c.events c.given
all_served c g empty h = record {
  members = λ i name at. subst (λ ts. Serves (opening c.credit c.names) name c.events c.given (todo ts)) (empty i name at) (h.serves name);
  nobody_else = strangers_ask_nothing (opening c.credit c.names) c.events g.run;
}

pub settled_plays : (c : Seen) → IsGoing c → AgendasAreEmpty c → PlaysSoFar c → Plays c.credit c.names c.events c.given
settled_plays c g empty h = record { served = all_served c g empty h; settled = h.settled }

-- a cluster that has just opened
pub opened_plays : (credit : CreditSpec) (names : List (List ℕ)) → PlaysSoFar (opening_seen credit names)
opened_plays credit names = record {
  serves = serves_none (opening credit names);
  settled = λ k e. absurd (let l : k < 0 = slice_get_within [] k command.Settle e in omega (arith, l));
}
