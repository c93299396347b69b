use Rattle.std.proofs.Common.{◌≡◌, ℕ, ◌<◌, map, length, ◌∙◌, arith}
use Rattle.ring_rules.specs.Rows.{no_row}
use Rattle.ring_rules.specs.Machine.{numbers_at}
use Rattle.ring_rules.specs.Step.{begun_row}
use Rattle.ring_world.specs.Shows.{packet_of, row_of, row_in}
use Rattle.ring_world.proofs.code.ShownParts.{at_mapped_set, mapped_read}
use Rattle.std.proofs.lemmas.List.{length-map}
use Rattle.std.proofs.lemmas.List.FromFn.{fill_by_all}
use Rattle.ring_world.proofs.plain_member.begin_rows.Goals as goal

pub loop-k-preserved : goal.loop-k-preserved
loop-k-preserved c =
    let k : ℕ = c.loop-k.k in
    let kl : k < length c.loop-k.rows = omega (arith, c.loop-k.auto.rows) in
    let row : row_of c.index-rows-k.result ≡ row_in c.args.rows.now k = mapped_read row_of c.loop-k.rows k c.index-rows-k.result no_row kl c.index-rows-k.is ∙ c.loop-k.invariant.rows k (omega arith) in
    let here : row_of c.begin.new.self ≡ begun_row (row_in c.args.rows.now k) (numbers_at (packet_of c.args.packet.now) k) = cc (c.begin.ensures, row, c.numbers_at.ensures, c.index-rows-k.is) in
    record {
      done = λ j l. at_mapped_set (λ j r. r ≡ begun_row (row_in c.args.rows.now j) (numbers_at (packet_of c.args.packet.now) j)) row_of c.loop-k.rows k j c.begin.new.self no_row kl here (λ ne. c.loop-k.invariant.done j (omega arith));
      rows = λ j l. at_mapped_set (λ j r. k < j → r ≡ row_in c.args.rows.now j) row_of c.loop-k.rows k j c.begin.new.self no_row kl (λ x. absurd (omega arith)) (λ _ x. c.loop-k.invariant.rows j (omega arith)) (omega arith);
    }

pub returns : goal.returns
returns c = fill_by_all _ (map row_of c.loop-k.rows) (length c.args.rows.now) no_row (length-map c.loop-k.rows row_of ∙ c.loop-k.auto.rows) (λ j l. c.loop-k.invariant.done j (omega (arith, c.loop-k.auto.rows)))
