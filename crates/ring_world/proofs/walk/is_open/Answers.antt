use Rattle.std.proofs.Common.{◌≤◌, subst, ap, arith}
use Rattle.std.proofs.lemmas.List.{length-map}
use Rattle.ring_rules.specs.Machine.{newest}
use Rattle.ring_world.specs.Shows.{world_of, link_of}
use Rattle.ring_world.proofs.code.ShownParts.{read_link}
use Rattle.ring_world.proofs.walk.is_open.Goals as goal

pub passes-requires-clause-opened : goal.passes-requires-clause-opened
passes-requires-clause-opened c =
    subst (λ n. n ≤ newest (world_of c.args.ring.now)) (ap (λ l. l.opened) (read_link c.args.ring.now.links.items c.args.s c.index-link.result.now c.requires.link c.index-link.ensures))
    (c.requires.runs.placed.upto c.args.s (omega (arith, length-map c.args.ring.now.links.items link_of, c.requires.link)))
