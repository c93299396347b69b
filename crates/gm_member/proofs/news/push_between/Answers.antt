use Rattle.std.proofs.Common.{◌++◌, ◌∷◌, [], ap, sym, ◌∙◌, append_assoc, arith}
use Rattle.gm_member.specs.News.{taken_at, taken_between}
use Rattle.gm_member.proofs.Fresh.{taken_more}
use Rattle.gm_member.proofs.news.push_between.Goals as goal

pub loop-k-preserved : goal.loop-k-preserved
loop-k-preserved c =
    let line = c.args.line.now in
    let before = taken_between c.args.p line.lo line.messages c.args.from c.loop-k.k in
    let one = taken_at c.args.p line.lo line.messages c.loop-k.k in
    c.in_ok-push_news.ensures
    ∙ ap (λ xs. c.loop-k.out.items ++ taken_at c.args.p c.line.inside.lo xs c.loop-k.k ∷ []) c.as_slice.ensures
    ∙ ap (λ l. c.loop-k.out.items ++ taken_at c.args.p l.lo l.messages c.loop-k.k ∷ []) c.line.view_is
    ∙ ap (λ xs. xs ++ one ∷ []) c.loop-k.invariant
    ∙ append_assoc c.args.out.now.items before (one ∷ [])
    ∙ ap (λ xs. c.args.out.now.items ++ xs) (sym (taken_more c.args.p line.lo line.messages c.args.from c.loop-k.k (omega (arith, c.loop-k.auto.k))))
