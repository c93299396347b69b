use Rattle.std.proofs.Common.{◌≡◌, refl, ap, ◌∙◌, arith}
use Rattle.lamport_merge.specs.Recorder.{given}
use Rattle.queue_mirror.specs.Mirror.{MirrorState, apply_ops}
use Rattle.gm_member.specs.Packets.{packet_by_id}
use Rattle.gm_member.specs.Shown.{held_of, recorded_of}
use Rattle.ring_rules.specs.declared.event.Event.TheVariants.{Take}
use Rattle.ring_parties.specs.declared.party.Party.{Party}
use Rattle.ring_parties.specs.Acting.{sent_of}
use Rattle.ring_parties.specs.Keeps.{ops_taken}
use Rattle.ring_parties.specs.Parties.{Keeps, keeps_in}
use Rattle.ring_parties.proofs.standing.Takes.{take_few}
use Rattle.ring_parties.proofs.turns.Links.{acted_same}
use Rattle.ring_parties.proofs.turns.Takes.{take_not, took_there, taken_keeps, taken_within, first_taken}
use Rattle.ring_parties.proofs.turns.Tries.{tries_did, tries_not, tries_in_vain, tries_failed}
use Rattle.ring_parties.proofs.turn.take_known.Goals as goal

pub returns-in_err-reserve : goal.returns-in_err-reserve
returns-in_err-reserve c =
    let old : Party = c.args.party.now in
    let new : Party = record c.args.party.now { mirror = c.reserve.new.self } in
    tries_failed _ _ old new c.from_residual.result c.from_residual.ensures.1 (acted_same old new c.requires.may refl (ap (λ (m : MirrorState). record (keeps_in old) { mirror = m }) c.reserve.ensures.kept))

pub hear_round-requires : goal.hear_round-requires
hear_round-requires c =
    let ok = c.in-Ok.ensures.takes.ok in
    taken_within c.args.party.now c.take.new.self (given (recorded_of c.take.new.self)) ok.0 c.requires.may ok.4 ok.2

pub apply_taken-requires : goal.apply_taken-requires
apply_taken-requires c =
    let old : Party = c.args.party.now in
    let ok = c.in-Ok.ensures.takes.ok in
    let first = first_taken old c.take.new.self (given (recorded_of c.take.new.self)) ok.0 ok.4 in
    let few = take_few old.node (packet_by_id ok.0) first.0 c.in-Ok.taken.items first.1 ok.3 (sent_of (packet_by_id ok.0)) first.0 first.1 in
    omega (arith, few, c.carried-coming.ensures (sent_of (packet_by_id ok.0)) first.0 first.1, c.in_ok-reserve.ensures.ok, c.in-Ok.taken.ok.0, c.in-Ok.taken.small, ap (λ m. m.room) c.hear_round.ensures.mirror)

pub returns-in-Ok : goal.returns-in-Ok
returns-in-Ok c =
    let old : Party = c.args.party.now in
    let new : Party = record c.hear_round.new.self { mirror = c.apply_taken.new.mirror } in
    let takes = c.in-Ok.ensures.takes in
    let ok = takes.ok in
    let mirror : MirrorState = c.apply_taken.new.mirror.mirror in
    let ops : mirror ≡ apply_ops (keeps_in old).mirror (ops_taken c.in-Ok.taken.items) =
    c.apply_taken.ensures ∙ ap (λ (m : MirrorState). apply_ops m (ops_taken c.in-Ok.taken.items)) (ap (λ m. m.mirror) c.hear_round.ensures.mirror ∙ c.reserve.ensures.kept) in
    let keeps = taken_keeps ok.0 (held_of old.node) (held_of c.take.new.self) (keeps_in old) (keeps_in new) mirror c.in-Ok.taken.items ok.2 ok.3 ops (ap (λ (k : Keeps). record k { mirror = mirror }) c.hear_round.ensures.keeps) in
    tries_did _ old new (Take old.node.name) refl
    (took_there ok.0 old c.take.new.self new c.hear_round.ensures.node c.requires.may c.requires.room ok.4 ok.2 ok.1 c.in-Ok.ensures.heeds.enabled ok.5 takes.spare keeps)

pub returns-in-Err-Refused : goal.returns-in-Err-Refused
returns-in-Err-Refused c =
    let old : Party = c.args.party.now in
    let new : Party = record c.args.party.now { node = c.take.new.self; mirror = c.reserve.new.self } in
    let takes = c.in-Err-Refused.ensures.takes in
    tries_not _ old new (take_not old new c.requires.may takes.looks takes.err takes.unrecorded (ap (λ (m : MirrorState). record (keeps_in old) { mirror = m }) c.reserve.ensures.kept) takes.spare)

pub returns-in-Err-OutOfMemory : goal.returns-in-Err-OutOfMemory
returns-in-Err-OutOfMemory c =
    let old : Party = c.args.party.now in
    let new : Party = record c.args.party.now { node = c.take.new.self; mirror = c.reserve.new.self } in
    let takes = c.in-Err-OutOfMemory.ensures.takes in
    tries_in_vain _ old new _ (take_not old new c.requires.may takes.looks takes.err takes.unrecorded (ap (λ (m : MirrorState). record (keeps_in old) { mirror = m }) c.reserve.ensures.kept) takes.spare)
