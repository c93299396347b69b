use Rattle.std.proofs.Common.{◌≡◌, sym, subst}
use Rattle.ring_rules.specs.Event.{refusal}
use Rattle.ring_parties.specs.States.{IsEventIn}
use Rattle.ring_cluster.specs.Seen.{state_of}
use Rattle.ring_cluster.proofs.cluster.Cluster.refusal.Goals as goal

pub returns : goal.returns
returns c =
    let at = subst (λ x. IsEventIn (state_of x) c.args.place c.args.event.now) (sym c.self.view_is) c.requires in
    subst (λ x. c.refusal.result ≡ refusal (state_of x) c.args.event.now) c.self.view_is
    (c.refusal.ensures c.self.inside.credit c.self.inside.names.items c.self.inside.journal.items c.self.invariant.standing c.self.invariant.keeps at)
