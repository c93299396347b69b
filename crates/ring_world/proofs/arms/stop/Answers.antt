use Rattle.std.proofs.Common.{◌≡◌, ◌<◌, suc, length, None, ap, sym, subst, ◌∙◌}
use Rattle.ring_world.specs.Shows.{world_of, member_of, member_in}
use Rattle.ring_world.proofs.code.ShownParts.{read_member}
use Rattle.ring_rules.proofs.code.Enables.{running_runs}
use Rattle.ring_world.proofs.code.Found.{out_running}
use Rattle.ring_world.proofs.arms.stop.Goals as goal

pub end-requires : goal.end-requires
end-requires c =
    let r = c.args.ring.now in
    let place = c.args.place in
    let runs = running_runs (world_of r) (suc place) None c.requires.enabled in
    let same : member_in r.members.items place ≡ member_of c.index.result.now = read_member r.members.items place c.index.result.now c.requires.placed.place c.index.ensures in
    subst (λ ws. c.in-Some.out < length ws) (sym c.deref_mut-in-Some.ensures.value) (out_running r place c.in-Some.out c.requires.placed.placed runs (ap (λ m. m.out) same ∙ c.in-Some.is))
