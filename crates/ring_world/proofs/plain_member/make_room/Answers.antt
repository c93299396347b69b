use Rattle.std.proofs.Common.{◌≡◌, ℕ, ◌<◌, ◌≤◌, length, ap, arith}
use Rattle.std.proofs.lemmas.Grind.{common_steps}
use Rattle.ring_world.specs.Shows.{room_of, news_of, no_news, news_in}
use Rattle.ring_world.proofs.code.ShownParts.{at_mapped_set, mapped_read, rewrite_row}
use Rattle.ring_world.proofs.plain_member.make_room.Goals as goal

pub loop-k-preserved : goal.loop-k-preserved
loop-k-preserved c = record {
  same = grind (arith, common_steps, rewrite_row);
  room = λ j l.
      let k : ℕ = c.loop-k.k in
      let kl : k < length c.loop-k.rows = omega (arith, c.loop-k.auto.rows) in
      let read : news_of c.index-news-k.result ≡ news_in c.args.news.now k = mapped_read news_of c.args.news.now k c.index-news-k.result no_news (omega (arith, c.requires)) c.index-news-k.is in
      let count : length c.index-news-k.result.messages.items ≡ length (news_in c.args.news.now k).messages = ap (λ n. length n.messages) read in
      let here : length (news_in c.args.news.now k).messages ≤ room_of c.reserve.new.self = omega (arith, count, c.in_ok-reserve.ensures.room, c.count.ensures) in
      at_mapped_set (λ j r. length (news_in c.args.news.now j).messages ≤ r) room_of c.loop-k.rows k j c.reserve.new.self 0 kl here (λ ne. c.loop-k.invariant.room j (omega arith));
}
