use Rattle.std.proofs.Common.{◌∙◌, ap, nat_eq}
use Rattle.std.specs.List.{list_any}
use Rattle.group_view.specs.Ring.{is_in}
use Rattle.registrar.proofs.Entries.{any_is}
use Rattle.registrar.proofs.registrar.Registrar.has_noted.Goals as goal

pub returns : goal.returns
returns g = λ c.
    c.is_among.ensures ∙ ap (list_any (λ i. nat_eq c.args.id.0 i.0)) c.deref.ensures.value
    ∙ any_is c.self.inside.stopped.items c.args.id.0
    ∙ ap (λ r. is_in c.args.id.0 r.stopped) c.self.view_is
