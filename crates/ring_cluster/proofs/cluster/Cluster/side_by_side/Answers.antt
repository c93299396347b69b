use Rattle.std.proofs.Common.{◌≡◌, length, sym, ap, subst, ◌∙◌, arith}
use Rattle.ring_parties.specs.Parties.{names_shown}
use Rattle.ring_cluster.specs.Agendas.{struck_off}
use Rattle.ring_cluster.specs.Published.{names_in}
use Rattle.ring_cluster.specs.Seen.{Seen, state_of}
use Rattle.ring_cluster.proofs.rounds.Holding.{names_are}
use Rattle.ring_cluster.proofs.lists.Struck.{written_all}
use Rattle.ring_cluster.proofs.rounds.SideBySide.{taken_round}
use Rattle.ring_cluster.proofs.cluster.Cluster.side_by_side.Goals as goal

pub take_turns-took-requires-clause-names : goal.take_turns-took-requires-clause-names
take_turns-took-requires-clause-names g c κs within =
    let q = (c.self.inside.parties).all in
    c.deref.ensures.value ∙ c.in_ok-names.ensures
    ∙ subst (λ (x : Seen). names_shown q ≡ names_in (state_of x)) c.self.view_is (names_are c.self.inside.credit c.self.inside.names.items c.self.inside.journal.items q c.self.invariant.standing)

pub returns-clause-round : goal.returns-clause-round
returns-clause-round g c =
    let q = (c.self.inside.parties).all in
    let names = c.deref.result.now in
    let done = c.take_turns-took.new.done in
    let are : names ≡ names_in (state_of c.args.self.now) =
    c.deref.ensures.value ∙ c.in_ok-names.ensures
    ∙ subst (λ (x : Seen). names_shown q ≡ names_in (state_of x)) c.self.view_is (names_are c.self.inside.credit c.self.inside.names.items c.self.inside.journal.items q c.self.invariant.standing) in
    let same : c.deref-2.result.now ≡ names = c.deref-2.ensures.value ∙ sym c.deref.ensures.value in
    let all : c.deref-3.result.now ≡ done =
    c.deref-3.ensures.value ∙ written_all c.in_ok-done.done.len done c.in_ok-done.done.items (omega (arith, c.take_turns-took.ensures.done, ap length c.deref.ensures.value, c.in_ok-done.ensures.len, c.len.ensures)) in
    let cur = c.take_turns-took.new.self in
    taken_round c.args.turns names done c.args.self.now cur c.strike_off_done.new.self c.is_going.ensures c.is_going-2.ensures are c.take_turns-took.ensures.taken
    (c.strike_off_done.ensures
    ∙ ap (λ ns. record cur { agendas = struck_off (length ns) ns c.deref-3.result.now cur.agendas }) same
    ∙ ap (λ ds. record cur { agendas = struck_off (length names) names ds cur.agendas }) all)
