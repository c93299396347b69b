use Rattle.std.proofs.Common.{◌≡◌, arith, sym, ◌∙◌}
use Rattle.std.proofs.lemmas.Grind.{common_steps}
use Rattle.ring_script.proofs.Numbers.{number_is_text, none_where_unread}
use Rattle.ring_script.proofs.words.number.Goals as goal

pub returns-in_err-text : goal.returns-in_err-text
returns-in_err-text c =
    let text = number_is_text c.args.word.now (sym c.if-not-is_numeral.ensures) in
    grind (arith, common_steps)

pub returns-in_err-value : goal.returns-in_err-value
returns-in_err-value c =
    let same : c.in_ok-text.text.now ≡ c.args.word.now = grind (arith, common_steps) in
    c.from_residual-in_err-value.ensures
    ∙ sym (none_where_unread c.args.word.now c.args.most c.parse.result (sym c.if-not-is_numeral.ensures) (omega arith) (rw same at c.parse.ensures.value.0) c.in_err-value.ensures.value)
