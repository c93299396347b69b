-- The events of a played script, and those of a step file, name positions that a line can name.
use Rattle.std.proofs.Common.{◌≡◌, ℕ, ◌+◌, ◌-◌, Bool, true, false, not, List, [], ◌∷◌, ◌++◌, map, option_map, Option, Some, None, bytes_eq, nat_eq, if◌then◌else◌, refl, sym, ap, subst, ◌∙◌, arith}
use Rattle.std.specs.List.{All, filter}
use Rattle.std.proofs.lemmas.Bool.{false≢true}
use Rattle.std.proofs.lemmas.List.{append-nil}
use Rattle.std.proofs.lemmas.List.Elements.{All-nil, All-cons, All-head, All-tail, All-append}
use Rattle.ring_names.specs.declared.numbers.CreditSpec.{CreditSpec}
use Rattle.ring_names.specs.declared.reason.Reason.{Reason}
use Rattle.ring_names.specs.declared.reason.Reason.TheVariants as reason
use Rattle.ring_names.specs.Reason.{code_of}
use Rattle.group_view.specs.Change.{AreOpeningNames}
use Rattle.ring_rules.specs.declared.event.Client.{Client}
use Rattle.ring_rules.specs.declared.event.Client.TheVariants as client
use Rattle.ring_rules.specs.declared.event.Event.{Event}
use Rattle.ring_rules.specs.declared.event.Event.TheVariants as event
use Rattle.ring_rules.specs.Machine.{World, member_at}
use Rattle.ring_rules.specs.Step.{opening}
use Rattle.ring_rules.specs.Event.{IsRun, by_of, id_of, asked_of, event_of, is_asked, refusal, effect, last}
use Rattle.ring_rules.proofs.events.Names.{own_bytes}
use Rattle.ring_rules.proofs.events.Refusals.{id_within}
use Rattle.ring_rules.proofs.runs.Published.{found_name}
use Rattle.gm_member.proofs.Fit.{IsFit, reached_fit}
use Rattle.ring_script.specs.declared.command.Command.{Command}
use Rattle.ring_script.specs.declared.command.Command.TheVariants as command
use Rattle.ring_script.specs.Vocabulary.{asked_phrase, IsFitPosition, HasNameablePositions}
use Rattle.ring_script.specs.declared.text.Text.{Text}
use Rattle.ring_script.specs.Script.{joined_by}
use Rattle.ring_script.specs.Reading.{HaveNameablePositions, MayBeGiven, MayEachBeGiven, IsPlayable}
use Rattle.ring_cluster.specs.Seen.{Seen, IsGoing, IsMemberIn, state_of, opening_seen}
use Rattle.ring_cluster.specs.Handed.{heir, handing, given_to, handed}
use Rattle.ring_cluster.specs.Plays.{asked_event, client_event, client_events, client_of, asked, Serves, HaveServed}
use Rattle.ringplay.specs.Step.{if_enabled, happens, enabled_of, HasStepped}
use Rattle.ringplay.specs.Performed.{commands_on, given_of}

-- ---- lists alone

-- what holds of all, of those behind
all_behind : {X : Type 0} (P : X → Type 0) (xs ys : List X) → All P (xs ++ ys) → All P ys
all_behind P [] ys h = h
all_behind P (x ∷ xs) ys h = all_behind P xs ys (All-tail P x (xs ++ ys) h)

-- what holds of those that are marked, and of those that aren't
of_both : {X : Type 0} (P : X → Type 0) (ms : List (Bool × X)) → All P (map (λ m. m.1) (filter (λ m. m.0) ms)) → All P (map (λ m. m.1) (filter (λ m. not m.0) ms)) → All P (map (λ m. m.1) ms)
of_both P [] a b = All-nil P
of_both P ((true, x) ∷ ms) a b = All-cons P x (map (λ m. m.1) ms) (All-head P x _ a) (of_both P ms (All-tail P x _ a) b)
of_both P ((false, x) ∷ ms) a b = All-cons P x (map (λ m. m.1) ms) (All-head P x _ b) (of_both P ms a (All-tail P x _ b))

-- ---- one event

-- what is asked names what its event does
client_names : (c : Client) → HasNameablePositions (event_of c) → IsFitPosition (asked_phrase c).further
client_names (client.Ack by at) h = h
client_names (client.Requeue by at) h = h
client_names c h = tt

event_names : (c : Client) → IsFitPosition (asked_phrase c).further → HasNameablePositions (event_of c)
event_names (client.Ack by at) h = h
event_names (client.Requeue by at) h = h
event_names c h = tt

-- what a member does by itself names none
own_names : (e : Event) → is_asked e ≡ false → HasNameablePositions e
own_names (event.Ack by at) own = absurd (false≢true (sym own))
own_names (event.Requeue by at) own = absurd (false≢true (sym own))
own_names (event.Refuse code inner) own = absurd (false≢true (sym own))
own_names e own = tt

asked_names : (e : Event) → HasNameablePositions (asked_event e) → HasNameablePositions e
asked_names (event.Refuse code inner) h = client_names inner h
asked_names (event.Cast by body) h = h
asked_names e h = h

-- ---- events of which each member's were asked of it

by_asked : (e : Event) (b : Bool) → is_asked e ≡ b → All HasNameablePositions (client_event (by_of e) e) → HasNameablePositions e
by_asked e false own h = own_names e own
by_asked e true is h =
    let one : client_event (by_of e) e ≡ asked_event e ∷ [] = rw (is, own_bytes (by_of e)) refl in
    asked_names e (All-head HasNameablePositions (asked_event e) [] (subst (All HasNameablePositions) one h))

from_each : (events : List Event) → ((name : List ℕ) → All HasNameablePositions (client_events name events)) → All HasNameablePositions events
from_each [] h = All-nil HasNameablePositions
from_each (e ∷ es) h =
    All-cons HasNameablePositions e es (by_asked e (is_asked e) refl (front (client_event (by_of e) e) (client_events (by_of e) es) (h (by_of e))))
    (from_each es (λ name. all_behind HasNameablePositions (client_event name e) (client_events name es) (h name)))
  where
    front : (xs ys : List Event) → All HasNameablePositions (xs ++ ys) → All HasNameablePositions xs
    front [] ys k = All-nil HasNameablePositions
    front (x ∷ xs) ys k = All-cons HasNameablePositions x xs (All-head HasNameablePositions x (xs ++ ys) k) (front xs ys (All-tail HasNameablePositions x (xs ++ ys) k))

-- ---- what is asked by commands, and what is handed on

given_names : (name : List ℕ) (o : Option Client) → ((t : Client) → o ≡ Some t → IsFitPosition (asked_phrase t).further) → All HasNameablePositions (given_to name o)
given_names name None h = All-nil HasNameablePositions
given_names name (Some t) h = by_test (bytes_eq (asked_of t) name)
  where
    by_test : (b : Bool) → All HasNameablePositions (if b then event_of t ∷ [] else [])
    by_test true = All-cons HasNameablePositions (event_of t) [] (event_names t (h t refl)) (All-nil HasNameablePositions)
    by_test false = All-nil HasNameablePositions

-- what a command asks does
abbrev AsksNameable : Command → Type 0
AsksNameable x = (t : Client) → client_of x ≡ Some t → IsFitPosition (asked_phrase t).further

asks_that : (c t : Client) → Some c ≡ Some t → IsFitPosition (asked_phrase c).further → IsFitPosition (asked_phrase t).further
asks_that c t e h = let same : c ≡ t = cc in subst (λ x. IsFitPosition (asked_phrase x).further) same h

command_names : (known : List (List ℕ)) (x : Command) → MayBeGiven known x → AsksNameable x
command_names known (command.Cast by body) may t e = asks_that (client.Cast by body) t e tt
command_names known (command.Publish by body) may t e = asks_that (client.Publish by body) t e tt
command_names known (command.Get by) may t e = asks_that (client.Get by) t e tt
command_names known (command.Pop by) may t e = asks_that (client.Pop by) t e tt
command_names known (command.Ack by at) may t e = asks_that (client.Ack by at) t e may.1
command_names known (command.Requeue by at) may t e = asks_that (client.Requeue by at) t e may.1
command_names known (command.Join by newcomer) may t e = asks_that (client.Admit by newcomer) t e tt
command_names known (command.Kill by) may t e = asks_that (client.Stop by) t e tt
command_names known (command.Go turns) may t e = cc
command_names known command.Settle may t e = cc

-- those of a script do, and the settling at its end
all_commands : (known : List (List ℕ)) (commands : List Command) → MayEachBeGiven known commands → All AsksNameable commands
all_commands known [] may = All-nil AsksNameable
all_commands known (x ∷ xs) may = All-cons AsksNameable x xs (command_names known x may.0) (all_commands (known ++ joined_by x) xs may.1)

script_names : (script : Text Command) → IsPlayable script → All AsksNameable (given_of script)
script_names script playable =
    All-append AsksNameable (commands_on script.lines) (command.Settle ∷ []) (all_commands script.members (commands_on script.lines) playable.commands)
    (All-cons AsksNameable command.Settle [] (command_names [] command.Settle tt) (All-nil AsksNameable))

commands_name : (name : List ℕ) (commands : List Command) → All AsksNameable commands → All HasNameablePositions (asked name commands)
commands_name name [] h = All-nil HasNameablePositions
commands_name name (x ∷ xs) h =
    All-append HasNameablePositions (given_to name (client_of x)) (asked name xs) (given_names name (client_of x) (All-head AsksNameable x xs h)) (commands_name name xs (All-tail AsksNameable x xs h))

-- a join alone is handed on
join_names : (newcomer : List ℕ) (b : Bool) (o : Option (List ℕ)) (t : Client) → (if b then option_map (λ to. client.Admit to newcomer) o else None) ≡ Some t → IsFitPosition (asked_phrase t).further
join_names newcomer true (Some to) t e = let same : client.Admit to newcomer ≡ t = cc in subst (λ c. IsFitPosition (asked_phrase c).further) same tt
join_names newcomer true None t e = cc
join_names newcomer false o t e = cc

handing_names : (w : World) (e : Event) (t : Client) → handing w e ≡ Some t → IsFitPosition (asked_phrase t).further
handing_names w (event.Refuse code (client.Admit by newcomer)) t e = join_names newcomer (nat_eq code (code_of reason.Stopped)) (heir w) t e
handing_names w (event.Refuse code inner) t e = cc
handing_names w x t e = cc

handed_name : (w : World) (name : List ℕ) (events : List Event) → All HasNameablePositions (handed w name events)
handed_name w name [] = All-nil HasNameablePositions
handed_name w name (e ∷ es) = All-append HasNameablePositions (given_to name (handing w e)) (handed (effect w e) name es) (given_names name (handing w e) (handing_names w e)) (handed_name (effect w e) name es)

-- ---- a played script

serves_names : (w : World) (name : List ℕ) (events : List Event) (commands : List Command) → All AsksNameable commands → Serves w name events commands [] → All HasNameablePositions (client_events name events)
serves_names w name events commands all s =
    subst (All HasNameablePositions) (s.all ∙ append-nil (client_events name events))
    (of_both HasNameablePositions s.marked
    (subst (All HasNameablePositions) (sym s.handed_on) (handed_name w name events))
    (subst (All HasNameablePositions) (sym s.own) (commands_name name commands all)))

-- the events of a run that has served commands
served_names : (credit : CreditSpec) (names : List (List ℕ)) (events : List Event) (commands : List Command) → AreOpeningNames names → IsRun (opening credit names) events
    → All AsksNameable commands → HaveServed (opening credit names) events commands → All HasNameablePositions events
served_names credit names events commands are run all served = from_each events (λ name. by_id name (id_of w name) refl)
  where
    w : World
    w = last (opening credit names) events

    fit : IsFit w
    fit = reached_fit credit names events are run

    by_id : (name : List ℕ) (o : Option ℕ) → id_of w name ≡ o → All HasNameablePositions (client_events name events)
    by_id name (Some x) is =
        let at = id_within w name x is in
        let back : x - 1 + 1 ≡ x = omega (arith, at.0) in
        serves_names (opening credit names) name events commands all
        (served.members (x - 1) name (omega (arith, at.0, at.1), ap (λ k. (member_at w k).name) back ∙ found_name w name x is))
    by_id name None is =
        let nobody : (i : ℕ) → IsMemberIn w i name → ⊥ = λ i m. (let both = sym (ap (id_of w) m.1 ∙ is) ∙ fit.named (i + 1) (omega arith) m.0 in cc) in
        subst (All HasNameablePositions) (sym (served.nobody_else name nobody)) (All-nil HasNameablePositions)

-- the journal of a cluster that has served all that it was given by a script
pub played_names : (script : Text Command) (c : Seen) (journal : List Event) → IsPlayable script → c.given ≡ given_of script → IsGoing c → HaveServed (opening c.credit c.names) c.events c.given → journal ≡ c.events
    → All HasNameablePositions journal
played_names script c journal playable given going served is =
    subst (All HasNameablePositions) (sym is) (served_names c.credit c.names c.events c.given going.are going.run (subst (All AsksNameable) (sym given) (script_names script playable)) served)

-- ---- a step file

enabled_name : (o : Option Reason) (e : Event) → HasNameablePositions e → All HasNameablePositions (if_enabled o e)
enabled_name None e h = All-cons HasNameablePositions e [] h (All-nil HasNameablePositions)
enabled_name (Some r) e h = All-nil HasNameablePositions

-- the events that happen of its lines
stepped_names : (w : World) (lines : List (ℕ × Event)) → HaveNameablePositions lines → All HasNameablePositions (enabled_of w lines)
stepped_names w [] h = All-nil HasNameablePositions
stepped_names w (line ∷ lines) h =
    All-append HasNameablePositions (happens w line.1) (enabled_of (last w (happens w line.1)) lines)
    (enabled_name (refusal w line.1) line.1 (All-head (λ (l : ℕ × Event). HasNameablePositions l.1) line lines h))
    (stepped_names (last w (happens w line.1)) lines (All-tail (λ (l : ℕ × Event). HasNameablePositions l.1) line lines h))

-- the journal of a cluster that opened as a and in which they have happened to b
pub stepped_journal : (credit : CreditSpec) (names : List (List ℕ)) (a b : Seen) (lines : List (ℕ × Event)) (journal : List Event) → a ≡ opening_seen credit names
    → HasStepped a b (enabled_of (state_of a) lines) → HaveNameablePositions lines → journal ≡ b.events → All HasNameablePositions journal
stepped_journal credit names a b lines journal opens h all is =
    subst (All HasNameablePositions) (sym (is ∙ h.events ∙ ap (λ s. s.events ++ enabled_of (state_of a) lines) opens)) (stepped_names (state_of a) lines all)
