use Rattle.std.proofs.Common.{sym, subst}
use Rattle.std.specs.Str.{IsUtf8}
use Rattle.ring_journal.proofs.Ascii.{IsUtf8-word}
use Rattle.ring_journal.proofs.write.word_text.Goals as goal

pub unreachable-requires : goal.unreachable-requires
unreachable-requires c = c.in-Err.ensures.cases.0 (subst IsUtf8 (sym c.text.ensures) (IsUtf8-word c.args.word))
