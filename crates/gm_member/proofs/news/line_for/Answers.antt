use Rattle.std.proofs.Common.{rules, ◌∙◌, nat_eq}
use borrow.Author.Tests.{tests}
use Rattle.std.proofs.lemmas.Iterator.{YieldsList-from_slice}
use Rattle.std.proofs.lemmas.Iterator.Search.{find_from_yields_List}
use Rattle.gm_member.proofs.Packets.{line_found}
use Rattle.gm_member.proofs.news.line_for.Goals as goal

pub returns-clause-line : goal.returns-clause-line
returns-clause-line c =
    find_from_yields_List (λ l. nat_eq l.origin.0 c.args.origin.0) _ _ c.find.result c.find.ensures.ran (YieldsList-from_slice c.args.lines.now cc) (λ x b q k. search (rules, tests))
    ∙ line_found c.args.origin.0 c.args.lines.now
