use Rattle.std.proofs.Common.{rules}
use Rattle.gm_member.specs.Packets.{packet_by_id}
use Rattle.ring_parties.specs.Acting.{sent_of}
use Rattle.ring_rules.proofs.code.Errors.{OnErr_of}
use Rattle.ring_parties.proofs.standing.Takes.{takes_shown, take_enabled, take_refusal, not_judged, take_first, take_ops, take_round, take_few}
use Rattle.ring_parties.proofs.node.take.Goals as goal

pub returns-clause-judged : goal.returns-clause-judged
returns-clause-judged c =
    let ok = c.in_ok-taken.ensures.takes.ok in
    record { enabled = take_enabled c.args.node.now c.take.new.self _ ok.0 ok.4 ok.1 c.in_ok-taken.ensures.heeds.enabled; reason = search rules }

pub returns-clause-ok : goal.returns-clause-ok
returns-clause-ok c =
    let ok = c.in_ok-taken.ensures.takes.ok in
    takes_shown c.args.node.now c.take.new.self _ ok.0 c.requires.ready ok.4 ok.2

pub returns-clause-ops : goal.returns-clause-ops
returns-clause-ops c =
    let ok = c.in_ok-taken.ensures.takes.ok in
    let first = take_first c.args.node.now c.take.new.self _ ok.0 c.requires.ready ok.4 in
    take_ops c.args.node.now (packet_by_id ok.0) first.0 _ first.1 ok.3

pub returns-clause-round : goal.returns-clause-round
returns-clause-round c =
    let ok = c.in_ok-taken.ensures.takes.ok in
    let first = take_first c.args.node.now c.take.new.self _ ok.0 c.requires.ready ok.4 in
    take_round c.args.node.now c.take.new.self (packet_by_id ok.0) first.0 first.1 ok.2

pub returns-clause-few : goal.returns-clause-few
returns-clause-few c =
    let ok = c.in_ok-taken.ensures.takes.ok in
    let first = take_first c.args.node.now c.take.new.self _ ok.0 c.requires.ready ok.4 in
    take_few c.args.node.now (packet_by_id ok.0) first.0 _ first.1 ok.3

pub returns-clause-there : goal.returns-clause-there
returns-clause-there c =
    let ok = c.in_ok-taken.ensures.takes.ok in
    let first = take_first c.args.node.now c.take.new.self _ ok.0 c.requires.ready ok.4 in
    (sent_of (packet_by_id ok.0), first.0, first.1)

pub returns-in_err-taken-clause-judged : goal.returns-in_err-taken-clause-judged
returns-in_err-taken-clause-judged c = not_judged _ c.in_err-taken.field-0.0 c.from_residual.result c.from_residual.ensures.1
    (λ r x. take_refusal c.args.node.now c.take.new.self c.in_err-taken.field-0.0 r x c.requires.ready c.requires.alone.alone c.in_err-taken.ensures.takes.looks c.in_err-taken.ensures.takes.fault)

pub returns-in_err-taken-clause-err : goal.returns-in_err-taken-clause-err
returns-in_err-taken-clause-err c = OnErr_of c.from_residual.result (search rules)
