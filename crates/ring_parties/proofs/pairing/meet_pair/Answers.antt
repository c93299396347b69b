use Rattle.std.proofs.Common.{◌<◌, List, length, get_or, set, Some, None, sym, ap, ◌∙◌, arith}
use Rattle.ring_parties.specs.declared.party.Party.{Party}
use Rattle.gm_member.specs.Shown.{held_of}
use Rattle.ring_rules.specs.Machine.{runs_phase}
use Rattle.ring_parties.proofs.pairs.Each.{within, at_here, same_at}
use Rattle.ring_parties.proofs.pairs.Meeting.{node_moved, out_there, link_there, two_fit, takes_still, link_lent, back_at, sends_still, both_met}
use Rattle.ring_parties.proofs.pairing.meet_pair.Goals as goal

pub unreachable-requires : goal.unreachable-requires
unreachable-requires c =
    let x = get_or c.args.members.now c.args.place c.index-members-place.result in
    let at_x = at_here c.args.members.now c.args.place c.index-members-place.result c.requires.within in
    out_there c.args.members.now c.args.place c.in-Some.receiver c.requires.may c.in-Some.ensures.some x at_x (sym c.in_default-lend_out.ensures.lends.lent)

pub bounds-members-receiver : goal.bounds-members-receiver
bounds-members-receiver c =
    let x = get_or c.args.members.now c.args.place c.index-members-place.result in
    let at_x = at_here c.args.members.now c.args.place c.index-members-place.result c.requires.within in
    let ys : List Party = set c.args.members.now c.args.place (record x { node = c.lend_out.new.self }) in
    let a = node_moved c.args.members.now c.args.place c.index-members-place.result c.lend_out.new.self (λ e. record e { out = None }) c.requires.within
    c.lend_out.ensures.lends.ends c.lend_out.ensures.lends.held c.lend_out.ensures.lends.recorder in
    let l = within c.args.members.now c.in-Some.receiver c.in-Some.ensures.some.receiver c.in-Some.ensures.some.takes in
    let ly : c.in-Some.receiver < length ys = omega (arith, l, a.count) in
    ly

pub unreachable-requires-in_default-lend_in : goal.unreachable-requires-in_default-lend_in
unreachable-requires-in_default-lend_in c =
    let x = get_or c.args.members.now c.args.place c.index-members-place.result in
    let at_x = at_here c.args.members.now c.args.place c.index-members-place.result c.requires.within in
    let ys : List Party = set c.args.members.now c.args.place (record x { node = c.lend_out.new.self }) in
    let a = node_moved c.args.members.now c.args.place c.index-members-place.result c.lend_out.new.self (λ e. record e { out = None }) c.requires.within
    c.lend_out.ensures.lends.ends c.lend_out.ensures.lends.held c.lend_out.ensures.lends.recorder in
    let l = within c.args.members.now c.in-Some.receiver c.in-Some.ensures.some.receiver c.in-Some.ensures.some.takes in
    let ly : c.in-Some.receiver < length ys = omega (arith, l, a.count) in
    let y = get_or ys c.in-Some.receiver c.index-members-receiver.result in
    let at_y = at_here ys c.in-Some.receiver c.index-members-receiver.result ly in
    link_there c.args.members.now c.args.place c.in-Some.receiver c.requires.may c.in-Some.ensures.some ys a y at_y (sym c.in_default-lend_in.ensures.lent)

pub ring_meet-requires : goal.ring_meet-requires
ring_meet-requires c =
    let x = get_or c.args.members.now c.args.place c.index-members-place.result in
    let at_x = at_here c.args.members.now c.args.place c.index-members-place.result c.requires.within in
    let ys : List Party = set c.args.members.now c.args.place (record x { node = c.lend_out.new.self }) in
    let a = node_moved c.args.members.now c.args.place c.index-members-place.result c.lend_out.new.self (λ e. record e { out = None }) c.requires.within
    c.lend_out.ensures.lends.ends c.lend_out.ensures.lends.held c.lend_out.ensures.lends.recorder in
    let l = within c.args.members.now c.in-Some.receiver c.in-Some.ensures.some.receiver c.in-Some.ensures.some.takes in
    let ly : c.in-Some.receiver < length ys = omega (arith, l, a.count) in
    let y = get_or ys c.in-Some.receiver c.index-members-receiver.result in
    let at_y = at_here ys c.in-Some.receiver c.index-members-receiver.result ly in
    two_fit c.args.members.now c.args.place c.in-Some.receiver c.requires.may c.in-Some.ensures.some ys a x y c.in-Some-lend_out.out c.in-Some-lend_in.link at_x at_y (sym c.in-Some-lend_out.ensures.lends.lent) (sym c.in-Some-lend_in.ensures.lent)

pub bounds-members-receiver-2 : goal.bounds-members-receiver-2
bounds-members-receiver-2 c =
    let x = get_or c.args.members.now c.args.place c.index-members-place.result in
    let at_x = at_here c.args.members.now c.args.place c.index-members-place.result c.requires.within in
    let ys : List Party = set c.args.members.now c.args.place (record x { node = c.lend_out.new.self }) in
    let a = node_moved c.args.members.now c.args.place c.index-members-place.result c.lend_out.new.self (λ e. record e { out = None }) c.requires.within
    c.lend_out.ensures.lends.ends c.lend_out.ensures.lends.held c.lend_out.ensures.lends.recorder in
    let l = within c.args.members.now c.in-Some.receiver c.in-Some.ensures.some.receiver c.in-Some.ensures.some.takes in
    let ly : c.in-Some.receiver < length ys = omega (arith, l, a.count) in
    let y = get_or ys c.in-Some.receiver c.index-members-receiver.result in
    let at_y = at_here ys c.in-Some.receiver c.index-members-receiver.result ly in
    let zs : List Party = set ys c.in-Some.receiver (record y { node = c.lend_in.new.self }) in
    let b = node_moved ys c.in-Some.receiver c.index-members-receiver.result c.lend_in.new.self (λ e. record e { link = None }) ly
    c.lend_in.ensures.ends c.lend_in.ensures.held c.lend_in.ensures.recorder in
    let lz : c.in-Some.receiver < length zs = omega (arith, ly, b.count) in
    lz

pub give_in-requires-clause-there : goal.give_in-requires-clause-there
give_in-requires-clause-there c =
    let x = get_or c.args.members.now c.args.place c.index-members-place.result in
    let at_x = at_here c.args.members.now c.args.place c.index-members-place.result c.requires.within in
    let ys : List Party = set c.args.members.now c.args.place (record x { node = c.lend_out.new.self }) in
    let a = node_moved c.args.members.now c.args.place c.index-members-place.result c.lend_out.new.self (λ e. record e { out = None }) c.requires.within
    c.lend_out.ensures.lends.ends c.lend_out.ensures.lends.held c.lend_out.ensures.lends.recorder in
    let l = within c.args.members.now c.in-Some.receiver c.in-Some.ensures.some.receiver c.in-Some.ensures.some.takes in
    let ly : c.in-Some.receiver < length ys = omega (arith, l, a.count) in
    let y = get_or ys c.in-Some.receiver c.index-members-receiver.result in
    let at_y = at_here ys c.in-Some.receiver c.index-members-receiver.result ly in
    let zs : List Party = set ys c.in-Some.receiver (record y { node = c.lend_in.new.self }) in
    let b = node_moved ys c.in-Some.receiver c.index-members-receiver.result c.lend_in.new.self (λ e. record e { link = None }) ly
    c.lend_in.ensures.ends c.lend_in.ensures.held c.lend_in.ensures.recorder in
    let lz : c.in-Some.receiver < length zs = omega (arith, ly, b.count) in
    let z = get_or zs c.in-Some.receiver c.index-members-receiver-2.result in
    let at_z = at_here zs c.in-Some.receiver c.index-members-receiver-2.result lz in
    takes_still c.args.members.now c.args.place c.in-Some.receiver c.requires.may c.in-Some.ensures.some ys a zs b z at_z

pub give_in-requires-clause-lent : goal.give_in-requires-clause-lent
give_in-requires-clause-lent c =
    let x = get_or c.args.members.now c.args.place c.index-members-place.result in
    let at_x = at_here c.args.members.now c.args.place c.index-members-place.result c.requires.within in
    let ys : List Party = set c.args.members.now c.args.place (record x { node = c.lend_out.new.self }) in
    let a = node_moved c.args.members.now c.args.place c.index-members-place.result c.lend_out.new.self (λ e. record e { out = None }) c.requires.within
    c.lend_out.ensures.lends.ends c.lend_out.ensures.lends.held c.lend_out.ensures.lends.recorder in
    let l = within c.args.members.now c.in-Some.receiver c.in-Some.ensures.some.receiver c.in-Some.ensures.some.takes in
    let ly : c.in-Some.receiver < length ys = omega (arith, l, a.count) in
    let y = get_or ys c.in-Some.receiver c.index-members-receiver.result in
    let at_y = at_here ys c.in-Some.receiver c.index-members-receiver.result ly in
    let zs : List Party = set ys c.in-Some.receiver (record y { node = c.lend_in.new.self }) in
    let b = node_moved ys c.in-Some.receiver c.index-members-receiver.result c.lend_in.new.self (λ e. record e { link = None }) ly
    c.lend_in.ensures.ends c.lend_in.ensures.held c.lend_in.ensures.recorder in
    let lz : c.in-Some.receiver < length zs = omega (arith, ly, b.count) in
    let z = get_or zs c.in-Some.receiver c.index-members-receiver-2.result in
    let at_z = at_here zs c.in-Some.receiver c.index-members-receiver-2.result lz in
    link_lent c.args.members.now c.args.place c.in-Some.receiver c.requires.may c.in-Some.ensures.some ys a zs b z at_z

pub give_out-requires-clause-lent : goal.give_out-requires-clause-lent
give_out-requires-clause-lent c =
    let x = get_or c.args.members.now c.args.place c.index-members-place.result in
    let at_x = at_here c.args.members.now c.args.place c.index-members-place.result c.requires.within in
    let ys : List Party = set c.args.members.now c.args.place (record x { node = c.lend_out.new.self }) in
    let a = node_moved c.args.members.now c.args.place c.index-members-place.result c.lend_out.new.self (λ e. record e { out = None }) c.requires.within
    c.lend_out.ensures.lends.ends c.lend_out.ensures.lends.held c.lend_out.ensures.lends.recorder in
    let l = within c.args.members.now c.in-Some.receiver c.in-Some.ensures.some.receiver c.in-Some.ensures.some.takes in
    let ly : c.in-Some.receiver < length ys = omega (arith, l, a.count) in
    let y = get_or ys c.in-Some.receiver c.index-members-receiver.result in
    let at_y = at_here ys c.in-Some.receiver c.index-members-receiver.result ly in
    let zs : List Party = set ys c.in-Some.receiver (record y { node = c.lend_in.new.self }) in
    let b = node_moved ys c.in-Some.receiver c.index-members-receiver.result c.lend_in.new.self (λ e. record e { link = None }) ly
    c.lend_in.ensures.ends c.lend_in.ensures.held c.lend_in.ensures.recorder in
    let lz : c.in-Some.receiver < length zs = omega (arith, ly, b.count) in
    let z = get_or zs c.in-Some.receiver c.index-members-receiver-2.result in
    let at_z = at_here zs c.in-Some.receiver c.index-members-receiver-2.result lz in
    let us : List Party = set zs c.in-Some.receiver (record z { node = c.give_in.new.self }) in
    let g = node_moved zs c.in-Some.receiver c.index-members-receiver-2.result c.give_in.new.self (λ e. record e { link = Some c.ring_meet.new.link }) lz
    c.give_in.ensures.ends c.give_in.ensures.held c.give_in.ensures.recorder in
    let w = c.requires.within in
    let lu : c.args.place < length us = omega (arith, w, a.count, b.count, g.count) in
    let u = get_or us c.args.place c.index-members-place-2.result in
    let at_u = at_here us c.args.place c.index-members-place-2.result lu in
    (back_at c.args.members.now c.args.place c.in-Some.receiver c.requires.may c.in-Some.ensures.some ys a zs b c.ring_meet.new.link us g u at_u).3

pub give_out-requires-clause-sends : goal.give_out-requires-clause-sends
give_out-requires-clause-sends c =
    let x = get_or c.args.members.now c.args.place c.index-members-place.result in
    let at_x = at_here c.args.members.now c.args.place c.index-members-place.result c.requires.within in
    let ys : List Party = set c.args.members.now c.args.place (record x { node = c.lend_out.new.self }) in
    let a = node_moved c.args.members.now c.args.place c.index-members-place.result c.lend_out.new.self (λ e. record e { out = None }) c.requires.within
    c.lend_out.ensures.lends.ends c.lend_out.ensures.lends.held c.lend_out.ensures.lends.recorder in
    let l = within c.args.members.now c.in-Some.receiver c.in-Some.ensures.some.receiver c.in-Some.ensures.some.takes in
    let ly : c.in-Some.receiver < length ys = omega (arith, l, a.count) in
    let y = get_or ys c.in-Some.receiver c.index-members-receiver.result in
    let at_y = at_here ys c.in-Some.receiver c.index-members-receiver.result ly in
    let zs : List Party = set ys c.in-Some.receiver (record y { node = c.lend_in.new.self }) in
    let b = node_moved ys c.in-Some.receiver c.index-members-receiver.result c.lend_in.new.self (λ e. record e { link = None }) ly
    c.lend_in.ensures.ends c.lend_in.ensures.held c.lend_in.ensures.recorder in
    let lz : c.in-Some.receiver < length zs = omega (arith, ly, b.count) in
    let z = get_or zs c.in-Some.receiver c.index-members-receiver-2.result in
    let at_z = at_here zs c.in-Some.receiver c.index-members-receiver-2.result lz in
    let us : List Party = set zs c.in-Some.receiver (record z { node = c.give_in.new.self }) in
    let g = node_moved zs c.in-Some.receiver c.index-members-receiver-2.result c.give_in.new.self (λ e. record e { link = Some c.ring_meet.new.link }) lz
    c.give_in.ensures.ends c.give_in.ensures.held c.give_in.ensures.recorder in
    let w = c.requires.within in
    let lu : c.args.place < length us = omega (arith, w, a.count, b.count, g.count) in
    let u = get_or us c.args.place c.index-members-place-2.result in
    let at_u = at_here us c.args.place c.index-members-place-2.result lu in
    sends_still c.args.members.now c.args.place c.in-Some.receiver c.requires.may c.in-Some.ensures.some ys a zs b c.ring_meet.new.link us g u at_u

pub give_out-requires-clause-unended : goal.give_out-requires-clause-unended
give_out-requires-clause-unended c =
    let x = get_or c.args.members.now c.args.place c.index-members-place.result in
    let at_x = at_here c.args.members.now c.args.place c.index-members-place.result c.requires.within in
    let ys : List Party = set c.args.members.now c.args.place (record x { node = c.lend_out.new.self }) in
    let a = node_moved c.args.members.now c.args.place c.index-members-place.result c.lend_out.new.self (λ e. record e { out = None }) c.requires.within
    c.lend_out.ensures.lends.ends c.lend_out.ensures.lends.held c.lend_out.ensures.lends.recorder in
    let l = within c.args.members.now c.in-Some.receiver c.in-Some.ensures.some.receiver c.in-Some.ensures.some.takes in
    let ly : c.in-Some.receiver < length ys = omega (arith, l, a.count) in
    let y = get_or ys c.in-Some.receiver c.index-members-receiver.result in
    let at_y = at_here ys c.in-Some.receiver c.index-members-receiver.result ly in
    let zs : List Party = set ys c.in-Some.receiver (record y { node = c.lend_in.new.self }) in
    let b = node_moved ys c.in-Some.receiver c.index-members-receiver.result c.lend_in.new.self (λ e. record e { link = None }) ly
    c.lend_in.ensures.ends c.lend_in.ensures.held c.lend_in.ensures.recorder in
    let lz : c.in-Some.receiver < length zs = omega (arith, ly, b.count) in
    let z = get_or zs c.in-Some.receiver c.index-members-receiver-2.result in
    let at_z = at_here zs c.in-Some.receiver c.index-members-receiver-2.result lz in
    let us : List Party = set zs c.in-Some.receiver (record z { node = c.give_in.new.self }) in
    let g = node_moved zs c.in-Some.receiver c.index-members-receiver-2.result c.give_in.new.self (λ e. record e { link = Some c.ring_meet.new.link }) lz
    c.give_in.ensures.ends c.give_in.ensures.held c.give_in.ensures.recorder in
    let w = c.requires.within in
    let lu : c.args.place < length us = omega (arith, w, a.count, b.count, g.count) in
    let u = get_or us c.args.place c.index-members-place-2.result in
    let at_u = at_here us c.args.place c.index-members-place-2.result lu in
    let back = back_at c.args.members.now c.args.place c.in-Some.receiver c.requires.may c.in-Some.ensures.some ys a zs b c.ring_meet.new.link us g u at_u in
    let same = same_at c.args.members.now c.args.place back.0 x back.1 at_x in
    λ runs. c.ring_meet.ensures.out.4 ∙ c.in-Some-lend_out.ensures.unended (ap (λ h. runs_phase h.phase) (sym (back.2 ∙ ap (λ (p : Party). held_of p.node) same)) ∙ runs)

pub returns : goal.returns
returns c =
    let x = get_or c.args.members.now c.args.place c.index-members-place.result in
    let at_x = at_here c.args.members.now c.args.place c.index-members-place.result c.requires.within in
    let ys : List Party = set c.args.members.now c.args.place (record x { node = c.lend_out.new.self }) in
    let a = node_moved c.args.members.now c.args.place c.index-members-place.result c.lend_out.new.self (λ e. record e { out = None }) c.requires.within
    c.lend_out.ensures.lends.ends c.lend_out.ensures.lends.held c.lend_out.ensures.lends.recorder in
    let l = within c.args.members.now c.in-Some.receiver c.in-Some.ensures.some.receiver c.in-Some.ensures.some.takes in
    let ly : c.in-Some.receiver < length ys = omega (arith, l, a.count) in
    let y = get_or ys c.in-Some.receiver c.index-members-receiver.result in
    let at_y = at_here ys c.in-Some.receiver c.index-members-receiver.result ly in
    let zs : List Party = set ys c.in-Some.receiver (record y { node = c.lend_in.new.self }) in
    let b = node_moved ys c.in-Some.receiver c.index-members-receiver.result c.lend_in.new.self (λ e. record e { link = None }) ly
    c.lend_in.ensures.ends c.lend_in.ensures.held c.lend_in.ensures.recorder in
    let lz : c.in-Some.receiver < length zs = omega (arith, ly, b.count) in
    let z = get_or zs c.in-Some.receiver c.index-members-receiver-2.result in
    let at_z = at_here zs c.in-Some.receiver c.index-members-receiver-2.result lz in
    let us : List Party = set zs c.in-Some.receiver (record z { node = c.give_in.new.self }) in
    let g = node_moved zs c.in-Some.receiver c.index-members-receiver-2.result c.give_in.new.self (λ e. record e { link = Some c.ring_meet.new.link }) lz
    c.give_in.ensures.ends c.give_in.ensures.held c.give_in.ensures.recorder in
    let w = c.requires.within in
    let lu : c.args.place < length us = omega (arith, w, a.count, b.count, g.count) in
    let u = get_or us c.args.place c.index-members-place-2.result in
    let at_u = at_here us c.args.place c.index-members-place-2.result lu in
    let e = node_moved us c.args.place c.index-members-place-2.result c.give_out.new.self (λ e. record e { out = Some c.ring_meet.new.out }) lu
    c.give_out.ensures.ends c.give_out.ensures.held c.give_out.ensures.recorder in
    both_met c.args.members.now c.args.place c.in-Some.receiver c.requires.may c.in-Some.ensures.some ys a zs b c.ring_meet.new.link us g x y c.in-Some-lend_out.out c.ring_meet.new.out c.in-Some-lend_in.link _ at_x at_y
    (sym c.in-Some-lend_out.ensures.lends.lent) (sym c.in-Some-lend_in.ensures.lent) c.ring_meet.ensures e
