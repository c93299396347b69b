use Rattle.std.proofs.Common.{◌≡◌, [], sym, subst, arith}
use Rattle.std.proofs.lemmas.Grind.{common_steps}
use Rattle.std.proofs.lemmas.List.{nil_from_length}
use Rattle.ring_script.proofs.Walk.{IsReadUpTo, used_before, read_more, first_fault, text_read}
use Rattle.ring_script.proofs.text.read_text.Goals as goal

pub returns-in-Err-clause-fault : goal.returns-in-Err-clause-fault
returns-in-Err-clause-fault g c = λ line kind same.
    let told = rw c.at.ensures at same in
    let wrong = rw c.in-Err.is at (c.read.ensures.fault (used_before c.lines.invariant) c.lines.invariant.read) in
    first_fault c.lines.invariant c.next_line.result.0.now c.next_line.result.1.now c.in-Err.fault line kind c.next_line.ensures.lines wrong cc

pub lines-preserved : goal.lines-preserved
lines-preserved g c =
    let right = rw c.in-Ok.is at (c.read.ensures.fault (used_before c.lines.invariant) c.lines.invariant.read) in
    let read = rw c.in-Ok.is at (c.read.ensures.read (used_before c.lines.invariant) c.lines.invariant.read) in
    subst (λ n. IsReadUpTo g.S.Statement.grammar g.S.Statement.says c.args.bytes.now c.next_line.result.1.now n c.read.new.self) (sym (c.in-Some.ensures.1))
    (read_more c.lines.invariant c.next_line.result.0.now c.next_line.result.1.now c.read.new.self c.next_line.ensures.lines right read)

pub returns-in-Ok-finish-clause-spells : goal.returns-in-Ok-finish-clause-spells
returns-in-Ok-finish-clause-spells g c =
    let none : c.lines.rest.now ≡ [] = nil_from_length c.lines.rest.now (grind (arith, common_steps, c.is_empty.ensures, c.lines-test.false)) in
    text_read c.lines.invariant c.in-Ok-finish.text none c.in-Ok-finish.ensures.some c.in-Ok-finish.ensures.members c.in-Ok-finish.ensures.credit c.in-Ok-finish.ensures.lines
