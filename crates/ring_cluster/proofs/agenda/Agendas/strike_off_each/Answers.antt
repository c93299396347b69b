use Rattle.std.proofs.Common.{refl, get_or, [], ◌∙◌}
use Rattle.std.proofs.lemmas.List.{get_or_default}
use Rattle.ring_cluster.proofs.lists.Struck.{struck_next}
use Rattle.ring_cluster.proofs.agenda.Agendas.strike_off_each.Goals as goal

pub loop-place-preserved : goal.loop-place-preserved
loop-place-preserved c =
    struck_next c.args.names.now c.args.counts.now c.args.self.now c.loop-place.place c.loop-place.self c.strike_off_many.new.self c.index-names-place.result (get_or c.args.counts.now c.loop-place.place 0) c.loop-place.invariant
    (c.index-names-place.is ∙ get_or_default c.args.names.now c.loop-place.place c.index-names-place.result [] c.loop-place-test.true) refl c.strike_off_many.ensures
