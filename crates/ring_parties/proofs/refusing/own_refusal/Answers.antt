use Rattle.std.proofs.Common.{sym, ap, ◌∙◌}
use Rattle.ring_rules.specs.declared.kind.Kind.TheVariants as shown
use Rattle.ring_rules.specs.Kind.{kind_of}
use Rattle.ring_rules.proofs.events.Kinds.{kind_read}
use Rattle.ring_parties.specs.Parties.{shown_in, keeps_in}
use Rattle.ring_parties.specs.Acting.{look_refused}
use Rattle.ring_parties.specs.Refused.{own_refused}
use Rattle.ring_parties.proofs.refusing.own_refusal.Goals as goal

pub returns-in-Reads : goal.returns-in-Reads
returns-in-Reads c =
    c.look_refusal.ensures
    ∙ ap (λ g. look_refused g.version (shown_in c.args.party.now) c.in-Reads.version) c.view.view_is
    ∙ ap (λ k. own_refused c.args.view.now (keeps_in c.args.party.now) k (shown_in c.args.party.now)) (sym (kind_read (kind_of c.args.event.now) (shown.Reads c.in-Reads.version) (sym c.in-Reads.is ∙ c.kind.ensures)))
