use Rattle.ring_world.proofs.dispatch.change_view.Goals as goal

pub returns-in-Admit-clause-ok : goal.returns-in-Admit-clause-ok
returns-in-Admit-clause-ok c = rw (c.in-Admit.is) c.admit.ensures.ok
