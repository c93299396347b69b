use Rattle.std.proofs.Common.{◌-◌, length, take, drop, sym, ap, ◌∙◌, arith}
use Rattle.std.proofs.lemmas.List.{drop_all}
use Rattle.ring_script.proofs.FirstWord.{first_word_at, behind_word_at, behind_none, first_none}
use Rattle.ring_script.proofs.words.Words.next_word.Goals as goal

pub returns-in_err-start-clause-left : goal.returns-in_err-start-clause-left
returns-in_err-start-clause-left c =
    ap (λ k. drop k c.next.new.self.line.now) c.in_err-start.ensures.end
    ∙ ap (drop (length c.args.self.now.line.now)) c.in_err-start.ensures.line
    ∙ drop_all (length c.args.self.now.line.now) c.args.self.now.line.now (omega arith)
    ∙ sym (behind_none (drop c.args.self.now.at c.args.self.now.line.now) c.in_err-start.ensures.none)

pub returns-clause-word : goal.returns-clause-word
returns-clause-word c =
    ap (λ line. take (c.in_ok-start.end - c.in_ok-start.start) (drop c.in_ok-start.start line)) c.in_ok-start.ensures.line
    ∙ sym (first_word_at c.in_ok-start.ensures.place)

pub returns-clause-left : goal.returns-clause-left
returns-clause-left c =
    ap (λ k. drop k c.next.new.self.line.now) c.in_ok-start.ensures.read
    ∙ ap (drop c.in_ok-start.end) c.in_ok-start.ensures.line
    ∙ sym (behind_word_at c.in_ok-start.ensures.place)

pub returns-in_err-start-clause-missing : goal.returns-in_err-start-clause-missing
returns-in_err-start-clause-missing c =
    let none = first_none (drop c.args.self.now.at c.args.self.now.line.now) c.in_err-start.ensures.none in
    grind (arith, none)
