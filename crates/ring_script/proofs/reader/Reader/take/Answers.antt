use Rattle.std.proofs.Common.{◌∙◌, sym, ap, ◌∷◌, ◌++◌, [], length}
use Rattle.std.specs.Option.{option_to_list}
use Rattle.std.proofs.lemmas.Result.{on_ok_weaker}
use Rattle.ring_script.specs.Words.{first_word, behind_word}
use Rattle.ring_script.specs.Reading.{known_of, statements_of}
use Rattle.ring_script.proofs.Taking.{statement_taken}
use Rattle.ring_script.proofs.reader.Reader.take.Goals as goal

pub returns-in_ok-push_name-in-Statement-clause-taken : goal.returns-in_ok-push_name-in-Statement-clause-taken
returns-in_ok-push_name-in-Statement-clause-taken g c = λ used line read right says.
    let said = rw c.in-Statement.is at says in
    let adds = statement_taken g.S.Statement.grammar g.S.Statement.says used c.args.number line said.0 right in
    let joins = c.joined.ensures (first_word line) (behind_word line) said.1 in
    on_ok_weaker c.push_line.result
    (λ pushed. record {
      next = sym adds.next;
      known = c.in_ok-push_name-in-Statement.ensures.ok ∙ ap (λ ns. ns ++ option_to_list c.joined.result) read.known ∙ ap (λ ns. known_of g.S.Statement.grammar used ++ ns) joins ∙ sym adds.known;
      opening = read.opening ∙ ap length (sym adds.members);
      credit = read.credit ∙ sym adds.credit;
      lines = pushed ∙ ap (λ xs. xs ++ (c.args.number, c.in-Statement.statement) ∷ []) read.lines
          ∙ ap (λ x. statements_of g.S.Statement.says used ++ (c.args.number, x) ∷ []) said.1 ∙ sym adds.lines;
    })
    c.push_line.ensures.ok
