use Rattle.std.proofs.lemmas.Grind.{common_steps}
use Rattle.std.proofs.Common.{arith}
use Rattle.confirm_book.proofs.Counting.{length-kinds}
use Rattle.confirm_book.proofs.Keeping.{published_kept, published_told}
use Rattle.confirm_book.proofs.book.Book.published.Goals as goal

pub with-self-inside-requires : goal.with-self-inside-requires
with-self-inside-requires c = grind (arith, common_steps, length-kinds)

pub invariant_of-self : goal.invariant_of-self
invariant_of-self c =
    published_kept c.self.inside.last c.args.number c.self.inside.published c.with-self-inside.result c.self.inside.confirmed c.self.inside.marks c.push.new.self
    c.args.kind c.args.self.now c.self.invariant c.self.view_is c.requires.next c.with-self-inside.ensures c.push.ensures.counts c.push.ensures.spare

pub returns : goal.returns
returns c =
    published_told c.self.inside.last c.args.number c.self.inside.published c.with-self-inside.result c.self.inside.confirmed c.self.inside.marks c.push.new.self
    c.args.kind c.args.self.now c.self.invariant c.self.view_is c.requires.next c.with-self-inside.ensures c.push.ensures.counts c.push.ensures.spare
