use Rattle.std.proofs.Common.{◌≡◌, ℕ, ◌<◌, map, length, get_or, ◌∙◌, ap, arith}
use Rattle.ring_rules.specs.Rows.{no_row, taken_with}
use Rattle.ring_rules.specs.Machine.{numbers_at}
use Rattle.ring_world.specs.Shows.{packet_of, row_of, room_of, news_of, no_news, row_in, news_in}
use Rattle.ring_world.proofs.code.ShownParts.{at_mapped_set, mapped_read}
use Rattle.std.proofs.lemmas.List.{length-map}
use Rattle.std.proofs.lemmas.List.FromFn.{fill_by_all}
use Rattle.ring_world.proofs.plain_member.take_rows.Goals as goal

pub loop-k-preserved : goal.loop-k-preserved
loop-k-preserved c =
    let k : ℕ = c.loop-k.k in
    let kl : k < length c.loop-k.rows = omega (arith, c.loop-k.auto.rows) in
    let nl : k < length c.loop-k.news = omega (arith, c.loop-k.auto.rows, c.loop-k.auto.news, c.requires.lengths) in
    let row : row_of c.index-rows-k.result ≡ row_in c.args.rows.now k = mapped_read row_of c.loop-k.rows k c.index-rows-k.result no_row kl c.index-rows-k.is ∙ c.loop-k.invariant.rows k (omega arith) in
    let news : news_of c.index-news-k.result ≡ news_in c.args.news.now k = mapped_read news_of c.loop-k.news k c.index-news-k.result no_news nl c.index-news-k.is ∙ c.loop-k.invariant.news k (omega arith) in
    let here : row_of c.take.new.self ≡ taken_with (news_in c.args.news.now k).own (row_in c.args.rows.now k) (numbers_at (packet_of c.args.packet.now) k) (news_in c.args.news.now k).messages = cc (c.take.ensures, row, ap (λ n. n.own) news, ap (λ n. n.messages) news, c.numbers_at.ensures, c.index-rows-k.is, c.index-news-k.is) in
    record {
      done = λ j l. at_mapped_set (λ j r. r ≡ taken_with (news_in c.args.news.now j).own (row_in c.args.rows.now j) (numbers_at (packet_of c.args.packet.now) j) (news_in c.args.news.now j).messages) row_of c.loop-k.rows k j c.take.new.self no_row kl here (λ ne. c.loop-k.invariant.done j (omega arith));
      rows = λ j l. at_mapped_set (λ j r. k < j → r ≡ row_in c.args.rows.now j) row_of c.loop-k.rows k j c.take.new.self no_row kl (λ x. absurd (omega arith)) (λ _ x. c.loop-k.invariant.rows j (omega arith)) (omega arith);
      room = λ j l. at_mapped_set (λ j r. k < j → r ≡ get_or (map room_of c.args.rows.now) j 0) room_of c.loop-k.rows k j c.take.new.self 0 kl (λ x. absurd (omega arith)) (λ _ x. c.loop-k.invariant.room j (omega arith)) (omega arith);
      news = λ j l. at_mapped_set (λ j r. k < j → r ≡ news_in c.args.news.now j) news_of c.loop-k.news k j c.take.new.news no_news nl (λ x. absurd (omega arith)) (λ _ x. c.loop-k.invariant.news j (omega arith)) (omega arith);
    }

pub returns : goal.returns
returns c = fill_by_all _ (map row_of c.loop-k.rows) (length c.args.rows.now) no_row (length-map c.loop-k.rows row_of ∙ c.loop-k.auto.rows) (λ j l. c.loop-k.invariant.done j (omega (arith, c.loop-k.auto.rows)))
