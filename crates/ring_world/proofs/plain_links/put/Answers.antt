use Rattle.std.proofs.Common.{◌≡◌, sym, subst}
use Rattle.ring_rules.specs.Step.{pushed, next_packet}
use Rattle.ring_world.specs.Shows.{member_of, link_of}
use Rattle.ring_world.proofs.code.ShownParts.{pushed_links}
use Rattle.ring_world.proofs.plain_links.put.Goals as goal

pub returns-clause-ok : goal.returns-clause-ok
returns-clause-ok c =
    let x = c.index-links-out.result in
    let m = member_of c.args.sender.now in
    pushed_links c.args.links.now c.args.out x c.put.new.self m c.requires.out c.index-links-out.is
    (subst (λ y. link_of c.put.new.self ≡ pushed (link_of y) (next_packet m (link_of y).sending)) (sym c.index-links-out.is) c.in_ok-put.ensures.ok)
