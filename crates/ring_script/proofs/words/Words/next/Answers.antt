use Rattle.std.proofs.Common.{rules}
use Rattle.ring_script.proofs.FirstWord.{AreRuns-from, IsNextWord-from, line_ends, no_word_left, words_of_next}
use Rattle.ring_script.proofs.words.Words.next.Goals as goal

pub returns-then-start-end-clause-place : goal.returns-then-start-end-clause-place
returns-then-start-end-clause-place c =
    IsNextWord-from (AreRuns-from c.args.self.now.line.now c.args.self.now.at c.run_of_spaces.result c.run_of_inner.result (search rules) c.run_of_spaces.ensures.run c.run_of_inner.ensures.run) c.if-start-end.true

pub returns-then-start-end-clause-word : goal.returns-then-start-end-clause-word
returns-then-start-end-clause-word c =
    words_of_next (IsNextWord-from (AreRuns-from c.args.self.now.line.now c.args.self.now.at c.run_of_spaces.result c.run_of_inner.result (search rules) c.run_of_spaces.ensures.run c.run_of_inner.ensures.run) c.if-start-end.true)

pub returns-else-start-end-clause-none : goal.returns-else-start-end-clause-none
returns-else-start-end-clause-none c =
    no_word_left (AreRuns-from c.args.self.now.line.now c.args.self.now.at c.run_of_spaces.result c.run_of_inner.result (search rules) c.run_of_spaces.ensures.run c.run_of_inner.ensures.run) c.if-start-end.false

pub returns-else-start-end-clause-end : goal.returns-else-start-end-clause-end
returns-else-start-end-clause-end c =
    line_ends (AreRuns-from c.args.self.now.line.now c.args.self.now.at c.run_of_spaces.result c.run_of_inner.result (search rules) c.run_of_spaces.ensures.run c.run_of_inner.ensures.run) c.if-start-end.false
