use Rattle.std.proofs.Common.{◌≡◌, suc, ◌+◌, length, map, get_or, set, ap, sym, ◌∙◌, arith}
use Rattle.std.specs.List.{range_with_len}
use Rattle.std.proofs.lemmas.List.{length-map, get_or-map, get_or_default}
use Rattle.ring_rules.specs.Machine.{no_member, oldest}
use Rattle.ring_rules.specs.Step.{taken, is_owned}
use Rattle.ring_world.specs.Shows.{news_of, news_at, member_of, row_of, link_of, packet_of, member_in}
use Rattle.ring_world.proofs.code.Taken.{taken_members, news_count, all_of, logs_of}
use Rattle.ring_world.proofs.taking.take_packet.Goals as goal

pub take-requires : goal.take-requires
take-requires c =
    let members = c.args.members.now in
    let en : map news_of c.deref_mut.result.now ≡ map (news_at c.args.view.now (all_of members) (suc c.args.place) c.reserve_grant.new.self.sender (packet_of c.oldest-packet.result.now)) (range_with_len 0 (length members + 1)) = rw c.deref_mut.ensures.value c.in_ok-news.ensures in
    let count = news_count members c.args.view.now (suc c.args.place) c.reserve_grant.new.self.sender (packet_of c.oldest-packet.result.now) (length members + 1) c.deref_mut.result.now en in
    let old = get_or members c.args.place c.index-members-place.result in
    let rows : length old.rows.items ≡ length (member_in members c.args.place).rows = sym (length-map old.rows.items row_of) ∙ ap (λ y. length y.rows) (sym (get_or-map member_of members c.args.place c.index-members-place.result no_member c.requires.within)) in
    omega (arith, rows, c.requires.rows, count)

pub returns-clause-members : goal.returns-clause-members
returns-clause-members c =
    let members = c.args.members.now in
    let place = c.args.place in
    let v = c.args.view.now in
    let old = get_or members place c.index-members-place.result in
    let same_sender : c.reserve_grant.new.self.sender ≡ c.args.link.now.sender = ap (λ l. l.sender) c.reserve_grant.ensures.same in
    let first : packet_of c.oldest-packet.result.now ≡ oldest (link_of c.args.link.now) = c.oldest-packet.ensures ∙ ap oldest c.reserve_grant.ensures.same in
    let more : length members + 1 ≡ suc (length members) = omega arith in
    let en1 : map news_of c.deref_mut.result.now ≡ map (news_at v (all_of members) (suc place) c.reserve_grant.new.self.sender (packet_of c.oldest-packet.result.now)) (range_with_len 0 (length members + 1)) = rw c.deref_mut.ensures.value c.in_ok-news.ensures in
    let en2 : map news_of c.deref_mut.result.now ≡ map (news_at v (all_of members) (suc place) c.args.link.now.sender (packet_of c.oldest-packet.result.now)) (range_with_len 0 (suc (length members))) = en1 ∙ ap (λ s. map (news_at v (all_of members) (suc place) s (packet_of c.oldest-packet.result.now)) (range_with_len 0 (length members + 1))) same_sender ∙ ap (λ n. map (news_at v (all_of members) (suc place) c.args.link.now.sender (packet_of c.oldest-packet.result.now)) (range_with_len 0 n)) more in
    taken_members members place c.args.link.now.sender _ (suc (length members)) v old c.take.new.self (packet_of c.oldest-packet.result.now) c.deref_mut.result.now c.requires.within
    (get_or_default members place c.index-members-place.result old c.requires.within)
    en2 (news_count members v (suc place) c.args.link.now.sender (packet_of c.oldest-packet.result.now) (suc (length members)) c.deref_mut.result.now en2) c.in_ok-take.ensures.ok
    ∙ ap (λ k. set (map member_of members) place (taken (suc (length members)) (is_owned v (suc place) c.args.link.now.sender) (logs_of members) (member_in members place) k)) first
