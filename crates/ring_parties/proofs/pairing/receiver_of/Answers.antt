use Rattle.std.proofs.Common.{◌<◌, ◌-◌, length, get_or, refl, sym, ap, ◌∙◌, arith}
use Rattle.gm_member.specs.Shown.{held_of, in_name_of}
use Rattle.ring_parties.specs.declared.party.Party.{Party}
use Rattle.ring_parties.proofs.pairs.Each.{at_here, same_at}
use Rattle.ring_parties.proofs.pairs.Names.{none_takes}
use Rattle.ring_parties.proofs.pairing.receiver_of.Goals as goal

pub returns-then-takes_from-clause-some : goal.returns-then-takes_from-clause-some
returns-then-takes_from-clause-some c =
    let lr : c.in_ok-name.name.to.0 - 1 < length c.args.members.now = omega (arith, c.if-receiver-members.false) in
    record {
      sender = get_or c.args.members.now c.args.place c.index-members-place.result;
      receiver = get_or c.args.members.now (c.in_ok-name.name.to.0 - 1) c.index-members-receiver.result;
      sends = at_here c.args.members.now c.args.place c.index-members-place.result c.requires.within;
      takes = at_here c.args.members.now (c.in_ok-name.name.to.0 - 1) c.index-members-receiver.result lr;
      paired = (c.in_ok-name.name, sym c.out_name.ensures ∙ c.in_ok-name.was, c.takes_from.ensures.takes c.if-takes_from.true);
    }

pub returns-clause-none : goal.returns-clause-none
returns-clause-none c =
    let lr : c.in_ok-name.name.to.0 - 1 < length c.args.members.now = omega (arith, c.if-receiver-members.false) in
    let at_x = at_here c.args.members.now c.args.place c.index-members-place.result c.requires.within in
    let at_r = at_here c.args.members.now (c.in_ok-name.name.to.0 - 1) c.index-members-receiver.result lr in
    none_takes c.args.members.now c.args.place (c.in_ok-name.name.to.0 - 1) (get_or c.args.members.now c.args.place c.index-members-place.result) c.in_ok-name.name c.requires.may at_x
    (sym c.out_name.ensures ∙ c.in_ok-name.was) refl
    (λ q at_q e. c.takes_from.ensures.other c.if-takes_from.false
    (ap (λ (p : Party). in_name_of (held_of p.node) 0) (same_at c.args.members.now (c.in_ok-name.name.to.0 - 1) (get_or c.args.members.now (c.in_ok-name.name.to.0 - 1) c.index-members-receiver.result) q at_r at_q) ∙ e))
