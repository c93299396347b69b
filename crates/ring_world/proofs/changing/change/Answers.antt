use Rattle.std.proofs.Common.{suc, ap, arith}
use Rattle.ring_rules.specs.Machine.{member_at}
use Rattle.ring_world.proofs.changing.change.Goals as goal

pub refresh-requires-clause-later : goal.refresh-requires-clause-later
refresh-requires-clause-later c =
    let same = ap (λ w. (member_at w (suc c.args.place)).version) c.in_ok-push_view.ensures.ok in
    omega (arith, same, c.newest-version.ensures, c.requires.up.placed.held (suc c.args.place))
