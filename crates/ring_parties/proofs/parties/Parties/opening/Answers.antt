use Rattle.std.proofs.Common.{[], ap, sym, subst, ◌∙◌}
use Rattle.ring_parties.specs.Parties.{parties}
use Rattle.ring_parties.specs.Opened.{opened_parties}
use Rattle.ring_parties.specs.Standing.{StandAfter}
use Rattle.ring_parties.proofs.standing.Begins.{opened_stand, opened_keeps}
use Rattle.ring_parties.proofs.parties.Parties.opening.Goals as goal

pub returns-clause-opened : goal.returns-clause-opened
returns-clause-opened c =
    let shown = c.in_ok-members.ensures.shown in (
      shown.0,
      ap (λ r. parties c.in_ok-members.members.items r []) c.in_ok-registrar.ensures.founded
          ∙ ap (λ xs. record (opened_parties shown.0 c.args.credit c.args.names.now) { nodes = xs }) shown.2,
    )

pub returns-clause-standing : goal.returns-clause-standing
unfolding returns-clause-opened
returns-clause-standing c =
    let shown = c.in_ok-members.ensures.shown in
    subst (StandAfter c.args.credit c.args.names.now []) (sym (returns-clause-opened c).1)
    (opened_stand shown.0 c.args.credit c.args.names.now (record { some = c.requires.some; few = c.requires.few; different = c.requires.different }) shown.1)

pub returns-clause-keeps : goal.returns-clause-keeps
returns-clause-keeps c =
    let shown = c.in_ok-members.ensures.shown in
    opened_keeps shown.0 c.args.credit c.args.names.now (record { some = c.requires.some; few = c.requires.few; different = c.requires.different }) shown.1 _ c.in_ok-members.ensures.keeps
