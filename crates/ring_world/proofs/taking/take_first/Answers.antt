use Rattle.std.proofs.Common.{◌≡◌, suc, ◌+◌, length, map, get_or, set, ap, ◌∙◌, arith}
use Rattle.std.proofs.lemmas.List.{get_or_default}
use Rattle.ring_rules.specs.Machine.{oldest}
use Rattle.ring_rules.specs.Step.{begun}
use Rattle.ring_world.specs.Shows.{member_of, member_in, link_of, packet_of}
use Rattle.ring_world.proofs.code.ShownParts.{begun_members}
use Rattle.ring_world.proofs.taking.take_first.Goals as goal

pub returns-clause-members : goal.returns-clause-members
returns-clause-members c =
    let members = c.args.members.now in
    let place = c.args.place in
    let old = get_or members place c.index-members-place.result in
    let first : packet_of c.oldest.result.now ≡ oldest (link_of c.args.link.now) = c.oldest.ensures ∙ ap oldest c.reserve_grant.ensures.same in
    begun_members members place _ (suc (length members)) old c.begin.new.self (packet_of c.oldest.result.now) c.requires.within
    (get_or_default members place c.index-members-place.result old c.requires.within)
    (let more : length members + 1 ≡ suc (length members) = omega arith in more) c.in_ok-begin.ensures.ok
    ∙ ap (λ k. set (map member_of members) place (begun (suc (length members)) (member_in members place) k)) first
