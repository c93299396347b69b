use Rattle.std.proofs.Common.{◌≡◌, false, [], map}
use Rattle.ring_cluster.specs.Seen.{collected_by}
use Rattle.ring_cluster.proofs.rounds.Holding.{none_collected}
use Rattle.ring_cluster.proofs.cluster.Cluster.founding.Goals as goal

pub returns : goal.returns
returns c =
    let collected : collected_by c.in_ok-parties.parties.all ≡ map (λ _. 0) c.args.members.now = none_collected c.args.credit c.args.members.now c.in_ok-parties.parties.all c.in_ok-parties.ensures.opened in
    let names : c.in_ok-names.names.items ≡ c.args.members.now = c.in_ok-names.ensures in
    let events : c.new.result.items ≡ [] = c.new.ensures.items in
    let given : c.new-2.result.items ≡ [] = c.new-2.ensures.items in
    let owes : c.in_ok-parties.parties.owes ≡ false = c.in_ok-parties.ensures.delivered in
    let agendas = c.none.ensures in
    let rounds = c.none-2.ensures in
    cc
