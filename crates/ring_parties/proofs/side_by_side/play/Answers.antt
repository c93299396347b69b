use Rattle.std.proofs.Common.{ℕ, ◌+◌, ◌*◌, ◌<◌, ◌≤◌, ◌^◌, List, [], ◌++◌, length, map, Bor, sym, ap, subst, ◌∙◌, arith, vec_len, vec_capacity}
use Rattle.std.specs.List.{sum_by}
use Rattle.std.proofs.lemmas.List.{length-map, append-nil}
use Rattle.lamport_merge.specs.Merge.{Log, AreLogs, PartiesDiffer, merged, events_of}
use Rattle.ring_rules.specs.declared.event.Event.{Event}
use Rattle.ring_rules.specs.declared.event.Client.{Client}
use Rattle.ring_parties.specs.Parties.{keeps_in}
use Rattle.ring_parties.specs.Keeps.{KeepsStand}
use Rattle.ring_parties.specs.States.{state}
use Rattle.ring_parties.specs.Standing.{StandAfter}
use Rattle.ring_parties.specs.Turns.{log_by}
use Rattle.ring_parties.specs.Played.{name_by, with_nodes}
use Rattle.ring_parties.proofs.turns.Nothing.{nothing_taken}
use Rattle.ring_parties.proofs.turns.Playing.{all_shown, all_keep, all_named_still, may_meet_begun, may_begun, room_begun, tasks_begun, room_for_all, parties_differ, stand_after, have_taken, names_last, few_in_all}
use Rattle.ring_parties.proofs.side_by_side.play.Goals as goal

pub returns-in_err-begin_all-clause-standing : goal.returns-in_err-begin_all-clause-standing
returns-in_err-begin_all-clause-standing g c = λ rest h.
    subst (λ ns. StandAfter c.args.credit c.args.names.now c.args.journal.now.items (record rest { nodes = ns })) (sym (all_shown c.args.members.now c.begin_all.new.members c.in_err-begin_all.ensures.same)) h

pub returns-in_err-begin_all-clause-keeps : goal.returns-in_err-begin_all-clause-keeps
returns-in_err-begin_all-clause-keeps g c = subst (KeepsStand (state c.args.credit c.args.names.now c.args.journal.now.items)) (sym (all_keep c.args.members.now c.begin_all.new.members c.in_err-begin_all.ensures.same)) c.requires.keeps

pub returns-in_err-begin_all-clause-taken : goal.returns-in_err-begin_all-clause-taken
returns-in_err-begin_all-clause-taken g c = (
  [],
  sym (append-nil c.args.journal.now.items),
  nothing_taken c.args.round.turns (map name_by c.args.members.now) (map (λ (t : Bor (List Client)). t.now) c.args.tasks.now) c.args.done.now (c.requires.done ∙ sym (length-map c.args.members.now name_by)) c.requires.none,
)

pub returns-in_err-begin_all-clause-names : goal.returns-in_err-begin_all-clause-names
returns-in_err-begin_all-clause-names g c = all_named_still c.args.members.now c.begin_all.new.members c.in_err-begin_all.ensures.same

pub meet_and_turn-outcome-requires-clause-meet : goal.meet_and_turn-outcome-requires-clause-meet
meet_and_turn-outcome-requires-clause-meet g c κs within = may_meet_begun c.args.credit c.args.names.now c.args.journal.now.items c.requires.standing.0 c.args.members.now c.requires.standing.1 c.requires.keeps c.args.round.number c.args.round.turns c.begin_all.new.members c.in_ok-begin_all.ensures.begun

pub meet_and_turn-outcome-requires-clause-may : goal.meet_and_turn-outcome-requires-clause-may
meet_and_turn-outcome-requires-clause-may g c κs within = may_begun c.args.credit c.args.names.now c.args.journal.now.items c.requires.standing.0 c.args.members.now c.requires.standing.1 c.requires.keeps c.args.round.number c.args.round.turns c.begin_all.new.members c.in_ok-begin_all.ensures.begun

pub meet_and_turn-outcome-requires-clause-room : goal.meet_and_turn-outcome-requires-clause-room
meet_and_turn-outcome-requires-clause-room g c κs within = room_begun c.args.credit c.args.names.now c.args.journal.now.items c.requires.standing.0 c.args.members.now c.requires.standing.1 c.requires.keeps c.args.round.number c.args.round.turns c.begin_all.new.members c.in_ok-begin_all.ensures.begun

pub meet_and_turn-outcome-requires-clause-own : goal.meet_and_turn-outcome-requires-clause-own
meet_and_turn-outcome-requires-clause-own g c κs within = tasks_begun c.args.credit c.args.names.now c.args.journal.now.items c.requires.standing.0 c.args.members.now c.requires.standing.1 c.requires.keeps c.args.round.number c.args.round.turns c.begin_all.new.members c.in_ok-begin_all.ensures.begun (map (λ (t : Bor (List Client)). t.now) c.args.tasks.now) c.requires.asked

pub merge_behind-requires-clause-parties : goal.merge_behind-requires-clause-parties
merge_behind-requires-clause-parties g c =
    subst PartiesDiffer (sym (c.gather.ensures.logs ∙ ap (λ ls. ls ++ map log_by c.meet_and_turn-outcome.new.members) c.requires.logs.0))
    (parties_differ c.args.credit c.args.names.now c.args.journal.now.items c.requires.standing.0 c.args.members.now c.requires.standing.1 c.requires.keeps c.args.round.number c.args.round.turns c.begin_all.new.members c.in_ok-begin_all.ensures.begun (map (λ (t : Bor (List Client)). t.now) c.args.tasks.now) c.meet_and_turn-outcome.new.done c.meet_and_turn-outcome.new.members (length-map c.args.tasks.now (λ (t : Bor (List Client)). t.now) ∙ c.requires.tasks) (c.meet_and_turn-outcome.ensures.count ∙ c.requires.done) c.meet_and_turn-outcome.ensures.played)

pub merge_behind-requires-clause-room : goal.merge_behind-requires-clause-room
merge_behind-requires-clause-room g c =
    subst (λ ls. vec_len c.args.journal.now + sum_by (λ (l : Log Event). length l.entries) ls ≤ vec_capacity c.args.journal.now) (sym (c.gather.ensures.logs ∙ ap (λ ls. ls ++ map log_by c.meet_and_turn-outcome.new.members) c.requires.logs.0))
    (within (vec_len c.args.journal.now) (sum_by (λ (l : Log Event). length l.entries) (map log_by c.meet_and_turn-outcome.new.members)) (length c.args.members.now * c.args.round.turns) (vec_capacity c.args.journal.now)
    (room_for_all c.args.credit c.args.names.now c.args.journal.now.items c.requires.standing.0 c.args.members.now c.requires.standing.1 c.requires.keeps c.args.round.number c.args.round.turns c.begin_all.new.members c.in_ok-begin_all.ensures.begun (map (λ (t : Bor (List Client)). t.now) c.args.tasks.now) c.meet_and_turn-outcome.new.done c.meet_and_turn-outcome.new.members (length-map c.args.tasks.now (λ (t : Bor (List Client)). t.now) ∙ c.requires.tasks) (c.meet_and_turn-outcome.ensures.count ∙ c.requires.done) c.meet_and_turn-outcome.ensures.played) c.requires.room)
  where
    within : (a b m k : ℕ) → b ≤ m → a + m ≤ k → a + b ≤ k
    within a b m k l h = omega (arith, l, h)

pub returns-clause-standing : goal.returns-clause-standing
returns-clause-standing g c = λ rest h.
    let are : AreLogs (map log_by c.meet_and_turn-outcome.new.members) = subst AreLogs (c.gather.ensures.logs ∙ ap (λ ls. ls ++ map log_by c.meet_and_turn-outcome.new.members) c.requires.logs.0) c.merge_behind.ensures.logs in
    let few : length (c.args.journal.now.items ++ events_of (merged (map log_by c.meet_and_turn-outcome.new.members))) < 2 ^ 59 = few_in_all c.args.credit c.args.names.now c.args.journal.now.items rest c.args.members.now h c.requires.keeps c.args.round.number c.args.round.turns c.begin_all.new.members c.in_ok-begin_all.ensures.begun (map (λ (t : Bor (List Client)). t.now) c.args.tasks.now) c.meet_and_turn-outcome.new.done c.meet_and_turn-outcome.new.members (length-map c.args.tasks.now (λ (t : Bor (List Client)). t.now) ∙ c.requires.tasks) (c.meet_and_turn-outcome.ensures.count ∙ c.requires.done) c.meet_and_turn-outcome.ensures.played c.requires.few in
    subst (λ ns. StandAfter c.args.credit c.args.names.now c.merge_behind.new.events.items (record rest { nodes = ns })) (sym (all_shown c.meet_and_turn-outcome.new.members c.gather.new.members c.gather.ensures.same))
    (subst (λ es. StandAfter c.args.credit c.args.names.now es (with_nodes rest c.meet_and_turn-outcome.new.members)) (sym (c.merge_behind.ensures.merged ∙ ap (λ ls. c.args.journal.now.items ++ events_of (merged ls)) (c.gather.ensures.logs ∙ ap (λ ls. ls ++ map log_by c.meet_and_turn-outcome.new.members) c.requires.logs.0)))
    (stand_after c.args.credit c.args.names.now c.args.journal.now.items rest c.args.members.now h c.requires.keeps c.args.round.number c.args.round.turns c.begin_all.new.members c.in_ok-begin_all.ensures.begun (map (λ (t : Bor (List Client)). t.now) c.args.tasks.now) c.meet_and_turn-outcome.new.done c.meet_and_turn-outcome.new.members (length-map c.args.tasks.now (λ (t : Bor (List Client)). t.now) ∙ c.requires.tasks) (c.meet_and_turn-outcome.ensures.count ∙ c.requires.done) c.meet_and_turn-outcome.ensures.played are few).0)

pub returns-clause-keeps : goal.returns-clause-keeps
returns-clause-keeps g c =
    let are : AreLogs (map log_by c.meet_and_turn-outcome.new.members) = subst AreLogs (c.gather.ensures.logs ∙ ap (λ ls. ls ++ map log_by c.meet_and_turn-outcome.new.members) c.requires.logs.0) c.merge_behind.ensures.logs in
    let few : length (c.args.journal.now.items ++ events_of (merged (map log_by c.meet_and_turn-outcome.new.members))) < 2 ^ 59 = few_in_all c.args.credit c.args.names.now c.args.journal.now.items c.requires.standing.0 c.args.members.now c.requires.standing.1 c.requires.keeps c.args.round.number c.args.round.turns c.begin_all.new.members c.in_ok-begin_all.ensures.begun (map (λ (t : Bor (List Client)). t.now) c.args.tasks.now) c.meet_and_turn-outcome.new.done c.meet_and_turn-outcome.new.members (length-map c.args.tasks.now (λ (t : Bor (List Client)). t.now) ∙ c.requires.tasks) (c.meet_and_turn-outcome.ensures.count ∙ c.requires.done) c.meet_and_turn-outcome.ensures.played c.requires.few in
    subst (λ ks. KeepsStand (state c.args.credit c.args.names.now c.merge_behind.new.events.items) ks) (sym (all_keep c.meet_and_turn-outcome.new.members c.gather.new.members c.gather.ensures.same))
    (subst (λ es. KeepsStand (state c.args.credit c.args.names.now es) (map keeps_in c.meet_and_turn-outcome.new.members)) (sym (c.merge_behind.ensures.merged ∙ ap (λ ls. c.args.journal.now.items ++ events_of (merged ls)) (c.gather.ensures.logs ∙ ap (λ ls. ls ++ map log_by c.meet_and_turn-outcome.new.members) c.requires.logs.0)))
    (stand_after c.args.credit c.args.names.now c.args.journal.now.items c.requires.standing.0 c.args.members.now c.requires.standing.1 c.requires.keeps c.args.round.number c.args.round.turns c.begin_all.new.members c.in_ok-begin_all.ensures.begun (map (λ (t : Bor (List Client)). t.now) c.args.tasks.now) c.meet_and_turn-outcome.new.done c.meet_and_turn-outcome.new.members (length-map c.args.tasks.now (λ (t : Bor (List Client)). t.now) ∙ c.requires.tasks) (c.meet_and_turn-outcome.ensures.count ∙ c.requires.done) c.meet_and_turn-outcome.ensures.played are few).1)

pub returns-clause-taken : goal.returns-clause-taken
returns-clause-taken g c = (
  events_of (merged (map log_by c.meet_and_turn-outcome.new.members)),
  c.merge_behind.ensures.merged ∙ ap (λ ls. c.args.journal.now.items ++ events_of (merged ls)) (c.gather.ensures.logs ∙ ap (λ ls. ls ++ map log_by c.meet_and_turn-outcome.new.members) c.requires.logs.0),
  have_taken c.args.credit c.args.names.now c.args.journal.now.items c.requires.standing.0 c.args.members.now c.requires.standing.1 c.requires.keeps c.args.round.number c.args.round.turns c.begin_all.new.members c.in_ok-begin_all.ensures.begun (map (λ (t : Bor (List Client)). t.now) c.args.tasks.now) c.meet_and_turn-outcome.new.done c.meet_and_turn-outcome.new.members (length-map c.args.tasks.now (λ (t : Bor (List Client)). t.now) ∙ c.requires.tasks) (c.meet_and_turn-outcome.ensures.count ∙ c.requires.done) c.meet_and_turn-outcome.ensures.played (subst AreLogs (c.gather.ensures.logs ∙ ap (λ ls. ls ++ map log_by c.meet_and_turn-outcome.new.members) c.requires.logs.0) c.merge_behind.ensures.logs),
)

pub returns-clause-names : goal.returns-clause-names
returns-clause-names g c =
    all_named_still c.meet_and_turn-outcome.new.members c.gather.new.members c.gather.ensures.same
    ∙ names_last c.args.credit c.args.names.now c.args.journal.now.items c.requires.standing.0 c.args.members.now c.requires.standing.1 c.requires.keeps c.args.round.number c.args.round.turns c.begin_all.new.members c.in_ok-begin_all.ensures.begun (map (λ (t : Bor (List Client)). t.now) c.args.tasks.now) c.meet_and_turn-outcome.new.done c.meet_and_turn-outcome.new.members (length-map c.args.tasks.now (λ (t : Bor (List Client)). t.now) ∙ c.requires.tasks) (c.meet_and_turn-outcome.ensures.count ∙ c.requires.done) c.meet_and_turn-outcome.ensures.played
