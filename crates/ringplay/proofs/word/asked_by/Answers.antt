use Rattle.std.proofs.Common.{map, ap, ◌∙◌}
use Rattle.ringplay.proofs.Dues.{asks_so}
use Rattle.ringplay.proofs.word.asked_by.Goals as goal

pub returns-clause-asks : goal.returns-clause-asks
returns-clause-asks c =
    asks_so (map (λ word. word.now) c.as_slice.result.now) c.args.words.now c.read_words.result
    (ap (map (λ word. word.now)) c.as_slice.ensures.value ∙ c.in_ok-texts.ensures) c.read_words.ensures.usage c.read_words.ensures.asked
