-- What the journal of a played script has.
use Rattle.std.proofs.Common.{◌≡◌, ℕ, zero, suc, ◌<◌, ◌≤◌, ◌^◌, List, [], ◌∷◌, ◌++◌, length, map, min, take, drop, Some, refl, sym, ap, subst, ◌∙◌, arith}
use Rattle.std.proofs.lemmas.List.{take-take, length-map, length-take}
use Rattle.ring_names.specs.declared.numbers.CreditSpec.{CreditSpec}
use Rattle.ring_script.specs.declared.command.Command.{Command}
use Rattle.ring_script.specs.declared.command.Command.TheVariants as command
use Rattle.group_view.specs.Change.{AreOpeningNames}
use Rattle.ring_rules.specs.declared.event.Event.{Event}
use Rattle.ring_rules.specs.Machine.{World}
use Rattle.ring_rules.specs.Step.{opening}
use Rattle.ring_rules.specs.Event as ring
use Rattle.ring_copies.specs.Copies.{CopyWorld}
use Rattle.ring_copies.specs.Events.{sort_of}
use Rattle.ring_copies.specs.Runs.{IsRun, effect, last, without_copies}
use Rattle.ring_copies.proofs.Alone.{runs_with_copies}
use Rattle.ring_copies.proofs.Seen.{RingRuns, ring_runs}
use Rattle.ring_copies.proofs.Runs.{lawful_with_copies, goes_on_with_copies, starts_with_copies, queue_right_with_copies}
use Rattle.ring_rules.specs.Laws.{IsLawful, GoesOn}
use Rattle.ring_rules.specs.QueueLaws.{QueueIsRight, LaterMastersStart}
use Rattle.ring_rules.specs.Quiet.{IsQuiet}
use Rattle.ring_cluster.specs.Seen.{Seen, IsGoing, state_of, opening_seen}
use Rattle.ring_cluster.specs.Plays.{IsOfMember, HasGoneOn}
use Rattle.ring_cluster.specs.Heard.{OpenersHaveNoBase}
use Rattle.ring_cluster.proofs.work.Bases.{acts_bases}
use Rattle.ring_cluster.proofs.work.Heard.{run_quiet_has_heard}
use Rattle.std.specs.List.{All}
use Rattle.ring_script.specs.declared.text.Text.{Text}
use Rattle.ring_script.specs.Script.{joined_by}
use Rattle.ring_script.specs.Reading.{MayBeGiven, MayEachBeGiven}
use Rattle.ringplay.specs.Due.{HasPlayed}
use Rattle.ringplay.specs.Performed.{state_after, IsLawfulRun, SameRing, HasTurns, commands_on, given_of, IsPlayedBy}

-- ---- commands

-- a command of a script, but for rounds and settlings, is one of a member
pub member_command : (x : Command) → ((turns : ℕ) → x ≡ command.Go turns → ⊥) → (x ≡ command.Settle → ⊥) → IsOfMember x
member_command (command.Cast by body) ng ns = refl
member_command (command.Publish by body) ng ns = refl
member_command (command.Get by) ng ns = refl
member_command (command.Pop by) ng ns = refl
member_command (command.Ack by at) ng ns = refl
member_command (command.Requeue by at) ng ns = refl
member_command (command.Join by newcomer) ng ns = refl
member_command (command.Kill by) ng ns = refl
member_command (command.Go turns) ng ns = absurd (ng turns refl)
member_command command.Settle ng ns = absurd (ns refl)

-- a round of a script has turns
one_turns : (names : List (List ℕ)) (x : Command) → MayBeGiven names x → HasTurns x
one_turns names (command.Go turns) may = may
one_turns names x may = tt

-- and so has each
pub all_turns : (names : List (List ℕ)) (lines : List (ℕ × Command)) → MayEachBeGiven names (commands_on lines) → All (λ line. HasTurns line.1) lines
all_turns names [] may k d l = absurd (omega (arith, l))
all_turns names (line ∷ lines) may zero d l = one_turns names line.1 may.0
all_turns names (line ∷ lines) may (suc k) d l = all_turns (names ++ joined_by line.1) lines may.1 k d (omega (arith, l))

-- ---- runs in two parts

-- its first events are a run
run_front : (W : CopyWorld) (k : ℕ) (events : List Event) → IsRun W events → IsRun W (take k events)
run_front W zero events r = tt
run_front W (suc k) [] r = tt
run_front W (suc k) (e ∷ es) r = (r.0, run_front (effect W e) k es r.1)

-- and so are the others, from the state after these
run_back : (W : CopyWorld) (k : ℕ) (events : List Event) → IsRun W events → IsRun (last W (take k events)) (drop k events)
run_back W zero events r = r
run_back W (suc k) [] r = tt
run_back W (suc k) (e ∷ es) r = run_back (effect W e) k es r.1

-- after both stands the whole
whole_run : (W : CopyWorld) (k : ℕ) (events : List Event) → last (last W (take k events)) (drop k events) ≡ last W events
whole_run W zero events = refl
whole_run W (suc k) [] = refl
whole_run W (suc k) (e ∷ es) = whole_run (effect W e) k es

-- ---- the laws after each prefix

module _ (credit : CreditSpec) (names : List (List ℕ)) (journal : List Event) (are : AreOpeningNames names) (run : IsRun (without_copies (opening credit names)) journal) where
  -- the ring as it opened
  abbrev opened : CopyWorld
  opened = without_copies (opening credit names)

  lawful_after : (k : ℕ) → IsLawful credit.initial (state_after credit names journal k)
  lawful_after k = (lawful_with_copies credit names are (map sort_of (take k journal)) (run_front opened k journal run)).ring

  bases_after : (k : ℕ) → OpenersHaveNoBase names (state_after credit names journal k)
  bases_after k =
      let r : RingRuns opened (map sort_of (take k journal)) = ring_runs opened (map sort_of (take k journal)) (run_front opened k journal run) in
      subst (OpenersHaveNoBase names) r.ends (acts_bases credit names r.acts are r.run)

  queue_after : length journal < 2 ^ 59 → (k : ℕ) → QueueIsRight k (state_after credit names journal k)
  queue_after few k =
      let len : length (map sort_of (take k journal)) ≡ min k (length journal) = length-map (take k journal) sort_of ∙ length-take k journal in
      let right : QueueIsRight (length (map sort_of (take k journal))) (state_after credit names journal k) =
      queue_right_with_copies credit names are (map sort_of (take k journal)) (omega (arith, len, few)) (run_front opened k journal run) in
      record { agree = right.agree; stands = right.stands; above = right.above; few = λ q. omega (arith, len, right.few q) }

  starts_after : (k : ℕ) → LaterMastersStart (state_after credit names journal k)
  starts_after k = starts_with_copies credit names are (map sort_of (take k journal)) (run_front opened k journal run)

  goes_on_after : (j k : ℕ) → j ≤ k → GoesOn (state_after credit names journal j) (state_after credit names journal k)
  goes_on_after j k l =
      let first : List Event = take k journal in
      let r : IsRun opened first = run_front opened k journal run in
      let same : take j first ≡ take j journal = take-take j k journal l in
      subst (λ es. GoesOn (last opened es).ring (last opened first).ring) same
      (subst (λ (W : CopyWorld). GoesOn (last opened (take j first)).ring W.ring) (whole_run opened j first)
      (goes_on_with_copies credit names are (map sort_of (take j first)) (map sort_of (drop j first)) (run_front opened j first r) (run_back opened j first r)))

  -- each run is lawful
  pub lawful_run : length journal < 2 ^ 59 → IsLawfulRun credit names journal
  lawful_run few = record { run = run; few = few; lawful = lawful_after; bases = bases_after; queues = queue_after few; starts = starts_after; goes_on = goes_on_after }

-- ---- a cluster and what happened in it

-- What a cluster has that opened with this credit and these members and in which these events have happened.
pub record HasRun (credit : CreditSpec) (names : List (List ℕ)) (journal : List Event) (c : Seen) : Type 0 where
  pub are : AreOpeningNames names
  pub alone : ring.IsRun (opening credit names) journal
  pub run : IsLawfulRun credit names journal
  pub state : state_of c ≡ ring.last (opening credit names) journal

pub has_run : (credit : CreditSpec) (names : List (List ℕ)) (journal : List Event) (c : Seen) → c.credit ≡ credit → c.names ≡ names → journal ≡ c.events → IsGoing c → HasRun credit names journal c
has_run credit names journal c ec en ej going =
    let are : AreOpeningNames names = subst AreOpeningNames en going.are in
    let run : ring.IsRun (opening credit names) journal = rw (sym ec, sym en, ej) going.run in
    record { are = are; alone = run; run = lawful_run credit names journal are (runs_with_copies (without_copies (opening credit names)) journal run).0 (rw ej going.few); state = rw (ec, en, sym ej) refl }

-- ---- a played script

-- A cluster's ring opened with this credit and these members.
pub record IsOf (initial : CreditSpec) (members : List (List ℕ)) (c : Seen) : Type 0 where
  pub credit : c.credit ≡ initial
  pub names : c.names ≡ members

-- what opened as a, performed commands to b and went on to c
pub performed_of : (credit : CreditSpec) (names : List (List ℕ)) (a b c : Seen) → a ≡ opening_seen credit names → SameRing a b → HasGoneOn b c → IsOf credit names c
performed_of credit names a b c ea ring goes = record {
  credit = goes.1.credit ∙ ring.1 ∙ ap (λ s. s.credit) ea;
  names = goes.1.names ∙ ring.0 ∙ ap (λ s. s.names) ea;
}

-- what opened as a, was given the commands of lines to b, and a settling to c, was given both
pub given_all : (credit : CreditSpec) (names : List (List ℕ)) (a b c : Seen) (commands : List Command) → a ≡ opening_seen credit names → b.given ≡ a.given ++ commands
    → c.given ≡ b.given ++ command.Settle ∷ [] → c.given ≡ commands ++ command.Settle ∷ []
given_all credit names a b c commands ea given settled = settled ∙ ap (λ xs. xs ++ command.Settle ∷ []) (given ∙ ap (λ s. s.given ++ commands) ea)

-- what has played the commands of a script's lines has played what its ring is given
pub has_played : (script : Text Command) (names : List (List ℕ)) (lines : List (ℕ × Command)) (c : Seen) → names ≡ script.members → lines ≡ script.lines
    → HasPlayed script.credit names (commands_on lines ++ command.Settle ∷ []) c → HasPlayed script.credit script.members (given_of script) c
has_played script names lines c en el h =
    subst (λ ns. HasPlayed script.credit ns (given_of script) c) en
    (subst (λ ls. HasPlayed script.credit names (commands_on ls ++ command.Settle ∷ []) c) el h)

-- its journal
pub played_run : (script : Text Command) (journal : List Event) (c : Seen) → HasPlayed script.credit script.members (given_of script) c → journal ≡ c.events → HasRun script.credit script.members journal c
played_run script journal c h ej = has_run script.credit script.members journal c h.credit h.names ej h.going

-- it has played the script, where this is told of its state
pub played_by : (says : World → List Event → List ℕ) (script : Text Command) (c : Seen) (journal : List Event) (text : List ℕ) → HasPlayed script.credit script.members (given_of script) c
    → journal ≡ c.events → text ≡ says (state_of c) c.events → IsPlayedBy says script journal text (Some c)
played_by says script c journal text h ej et =
    let ran = played_run script journal c h ej in
    let quiet : IsQuiet (ring.last (opening script.credit script.members) journal) = subst IsQuiet ran.state h.quiet in
    record {
      played = record {
        run = ran.run;
        plays = rw (sym h.credit, sym h.names, ej, sym h.given) h.plays;
        quiet = quiet;
        heard_all = run_quiet_has_heard script.credit script.members journal ran.are ran.alone quiet.rests;
        says_so = et ∙ ap (λ w. says w c.events) ran.state ∙ ap (says (ring.last (opening script.credit script.members) journal)) (sym ej);
      };
      by = record { seen = c; is = refl; names = h.names; credit = h.credit; events = sym ej; given = h.given; empty = h.empty };
    }
