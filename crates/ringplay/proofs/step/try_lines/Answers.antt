use Rattle.std.proofs.Common.{◌≡◌, ◌+◌, ◌∷◌, ◌∙◌, suc, drop, drop-cons, refl, sym, ap, arith}
use Rattle.ringplay.proofs.Stepping.{tried_more}
use Rattle.ringplay.proofs.step.try_lines.Goals as goal

pub loop-number-preserved : goal.loop-number-preserved
loop-number-preserved c =
    let k = c.loop-number.number-index in
    let lines = c.args.lines.now in
    let line = c.loop-number-item.result in
    let further : suc k ≡ k + 1 = omega arith in
    let here : drop k lines ≡ line ∷ drop (k + 1) lines =
    drop-cons lines k line c.loop-number-test.true ∙ ap (λ first. first ∷ drop (suc k) lines) (sym c.loop-number-item.is) ∙ ap (λ n. line ∷ drop n lines) further in
    tried_more c.loop-number.invariant line (drop (k + 1) lines) c.try_line.new.text.items here refl c.in_ok-try_line.ensures.stepped c.in_ok-try_line.ensures.told
