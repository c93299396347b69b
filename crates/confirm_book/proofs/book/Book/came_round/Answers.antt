use Rattle.std.proofs.lemmas.Grind.{common_steps}
use Rattle.std.proofs.Common.{◌≡◌, ◌-◌, ap, arith}
use Rattle.confirm_book.specs.Book.{newly}
use Rattle.confirm_book.specs.Counts.{with_kinds}
use Rattle.confirm_book.proofs.Counting.{length-kinds}
use Rattle.confirm_book.proofs.Keeping.{came_round_count, came_round_kept, came_round_told}
use Rattle.confirm_book.proofs.book.Book.came_round.Goals as goal

pub advance-self-inside-requires-clause-there : goal.advance-self-inside-requires-clause-there
advance-self-inside-requires-clause-there c = grind (arith, common_steps, length-kinds)

pub overflow_sub-result : goal.overflow_sub-result
overflow_sub-result c =
    let new : c.advance-self-inside.result ≡ with_kinds (newly c.args.to c.args.self.now) c.self.inside.confirmed = came_round_count
    c.self.inside.last c.args.to (c.args.to - (c.self.inside.last - c.len.result)) c.self.inside.published c.self.inside.confirmed c.advance-self-inside.result
    c.self.inside.marks c.advance-self-inside.new.self c.args.self.now c.self.invariant c.self.view_is c.requires (omega (arith, c.if-to-round.false))
    (ap (λ n. c.args.to - (c.self.inside.last - n)) c.len.ensures) c.advance-self-inside.ensures.last c.advance-self-inside.ensures.counts c.advance-self-inside.ensures.spare in
    omega (arith, ap (λ d. d.casts) new)

pub overflow_sub-result-2 : goal.overflow_sub-result-2
overflow_sub-result-2 c =
    let new : c.advance-self-inside.result ≡ with_kinds (newly c.args.to c.args.self.now) c.self.inside.confirmed = came_round_count
    c.self.inside.last c.args.to (c.args.to - (c.self.inside.last - c.len.result)) c.self.inside.published c.self.inside.confirmed c.advance-self-inside.result
    c.self.inside.marks c.advance-self-inside.new.self c.args.self.now c.self.invariant c.self.view_is c.requires (omega (arith, c.if-to-round.false))
    (ap (λ n. c.args.to - (c.self.inside.last - n)) c.len.ensures) c.advance-self-inside.ensures.last c.advance-self-inside.ensures.counts c.advance-self-inside.ensures.spare in
    omega (arith, ap (λ d. d.publishes) new)

pub returns-clause-casts : goal.returns-clause-casts
returns-clause-casts c =
    let new : c.advance-self-inside.result ≡ with_kinds (newly c.args.to c.args.self.now) c.self.inside.confirmed = came_round_count
    c.self.inside.last c.args.to (c.args.to - (c.self.inside.last - c.len.result)) c.self.inside.published c.self.inside.confirmed c.advance-self-inside.result
    c.self.inside.marks c.advance-self-inside.new.self c.args.self.now c.self.invariant c.self.view_is c.requires (omega (arith, c.if-to-round.false))
    (ap (λ n. c.args.to - (c.self.inside.last - n)) c.len.ensures) c.advance-self-inside.ensures.last c.advance-self-inside.ensures.counts c.advance-self-inside.ensures.spare in
    omega (arith, ap (λ d. d.casts) new)

pub returns-clause-publishes : goal.returns-clause-publishes
returns-clause-publishes c =
    let new : c.advance-self-inside.result ≡ with_kinds (newly c.args.to c.args.self.now) c.self.inside.confirmed = came_round_count
    c.self.inside.last c.args.to (c.args.to - (c.self.inside.last - c.len.result)) c.self.inside.published c.self.inside.confirmed c.advance-self-inside.result
    c.self.inside.marks c.advance-self-inside.new.self c.args.self.now c.self.invariant c.self.view_is c.requires (omega (arith, c.if-to-round.false))
    (ap (λ n. c.args.to - (c.self.inside.last - n)) c.len.ensures) c.advance-self-inside.ensures.last c.advance-self-inside.ensures.counts c.advance-self-inside.ensures.spare in
    omega (arith, ap (λ d. d.publishes) new)

pub invariant_of-self : goal.invariant_of-self
invariant_of-self c = came_round_kept
    c.self.inside.last c.args.to (c.args.to - (c.self.inside.last - c.len.result)) c.self.inside.published c.self.inside.confirmed c.advance-self-inside.result
    c.self.inside.marks c.advance-self-inside.new.self c.args.self.now c.self.invariant c.self.view_is c.requires (omega (arith, c.if-to-round.false))
    (ap (λ n. c.args.to - (c.self.inside.last - n)) c.len.ensures) c.advance-self-inside.ensures.last c.advance-self-inside.ensures.counts c.advance-self-inside.ensures.spare

pub returns-clause-round : goal.returns-clause-round
returns-clause-round c = came_round_told
    c.self.inside.last c.args.to (c.args.to - (c.self.inside.last - c.len.result)) c.self.inside.published c.self.inside.confirmed c.advance-self-inside.result
    c.self.inside.marks c.advance-self-inside.new.self c.args.self.now c.self.invariant c.self.view_is c.requires (omega (arith, c.if-to-round.false))
    (ap (λ n. c.args.to - (c.self.inside.last - n)) c.len.ensures) c.advance-self-inside.ensures.last c.advance-self-inside.ensures.counts c.advance-self-inside.ensures.spare
