use Rattle.std.proofs.Common.{ap, ◌∙◌}
use Rattle.gm_member.specs.Held.{Held}
use Rattle.gm_member.specs.Shown.{recorded_of}
use Rattle.ring_parties.proofs.pairs.AllShown.{shown_by}
use Rattle.ring_parties.proofs.turning.take_log.Goals as goal

pub returns-clause-log : goal.returns-clause-log
returns-clause-log c =
    ap (λ es. record { party = c.id.result.0; entries = es }) (ap (λ v. v.entries) c.log.view_is ∙ ap (λ g. g.entries) c.give_log-log.ensures.log)
    ∙ ap (λ i. record { party = i; entries = (recorded_of c.args.party.now.node).entries }) (c.id.ensures ∙ ap (λ (g : Held). g.id) c.give_log-log.ensures.held)

pub returns-clause-same : goal.returns-clause-same
returns-clause-same c = shown_by c.args.party.now c.give_log-log.new.self c.give_log-log.ensures.held c.give_log-log.ensures.ends
