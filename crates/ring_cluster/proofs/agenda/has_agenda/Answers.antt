use Rattle.std.proofs.Common.{is_some, sym, ap, ◌∙◌}
use Rattle.ring_cluster.proofs.lists.Plans.{place_is}
use Rattle.ring_cluster.proofs.agenda.has_agenda.Goals as goal

pub returns : goal.returns
returns c = c.is_some.ensures ∙ ap is_some (sym (place_is c.args.agendas.now c.args.name.now c.place_of.result c.place_of.ensures.place))
