use Rattle.std.proofs.Common.{Err, rules, refl, ap, ◌∙◌}
use Rattle.ring_io.specs.Count.{Rose}
use Rattle.ringplay.specs.declared.cause.Cause.TheVariants as causes
use Rattle.ringplay.specs.Call.{input_told, most_bytes}
use Rattle.ringplay.proofs.Dues.{input_due, line_is_due, bytes_large}
use Rattle.ringplay.proofs.call.due_for.Goals as goal

pub returns-in-Ok-clause-due : goal.returns-in-Ok-clause-due
returns-in-Ok-clause-due g c =
    input_due c.args.words.now (g.S.Source.remaining c.args.source.now) (Rose (g.S.Source.faults c.args.source.now) (g.S.Source.faults c.input_of.new.source)) c.in-Ok-Some.asked
    c.in-Ok.bytes.items c.due_to_input.result (search rules) c.in-Ok.ensures.within c.in-Ok.ensures.bytes c.due_to_input.ensures

pub returns-in-Err-TooLarge-clause-due : goal.returns-in-Err-TooLarge-clause-due
returns-in-Err-TooLarge-clause-due g c =
    let asked = c.in-Ok-Some.asked in
    let told = g.S.Source.remaining c.args.source.now in
    line_is_due c.args.words.now told (Rose (g.S.Source.faults c.args.source.now) (g.S.Source.faults c.input_of.new.source)) causes.TooLarge c.line_due-in-Err-TooLarge.result c.line_due-in-Err-TooLarge.ensures
    (asked, search rules, bytes_large asked (input_told asked told) (most_bytes asked) refl (c.input_of.ensures.large (c.in-Err-TooLarge.is ∙ ap Err c.in-Err-TooLarge.field-0-is)))
