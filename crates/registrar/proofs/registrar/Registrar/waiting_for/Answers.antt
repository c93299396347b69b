use Rattle.std.proofs.Common.{◌≤◌, ◌∙◌, length, ap, sym, subst}
use Rattle.std.specs.List.{filter}
use Rattle.registrar.specs.Registry.{is_for}
use Rattle.registrar.specs.Handled.{links_for}
use Rattle.registrar.proofs.Counts.{covered}
use Rattle.registrar.proofs.registrar.Registrar.waiting_for.Goals as goal

pub returns-clause-covers : goal.returns-clause-covers
returns-clause-covers g c =
    subst (λ n. length (links_for c.args.id.0 c.args.self.now.links) ≤ n)
    (sym (c.count_named.ensures ∙ ap (λ ls. length (filter (is_for c.args.id.0) ls)) c.deref.ensures.value
    ∙ ap (λ r. length (filter (is_for c.args.id.0) r.links)) c.self.view_is))
    (covered c.args.id.0 c.args.self.now.links)
