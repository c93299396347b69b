use Rattle.std.proofs.Common.{◌≡◌, ◌+◌, ◌∷◌, ◌++◌, [], ℕ, List, map, take, get_or, sym, ap, ◌∙◌, Bor, Option}
use Rattle.std.proofs.lemmas.List.{take_more, map-append}
use Rattle.std.specs.declared.vec.Vec.{Vec}
use Rattle.std.specs.declared.alloc.Global.{Global}
use Rattle.ring_rules.specs.Published.{published_in}
use Rattle.ring_cluster.specs.Published.{told_with, told_in}
use Rattle.ring_cluster.proofs.published.nothing_of.Goals as goal

pub loop-place-preserved : goal.loop-place-preserved
loop-place-preserved c =
    let names = c.args.names.now in
    let k = c.loop-place._place in
    let nothing = λ (name : List ℕ). published_in name [] in
    let more : map nothing (take (k + 1) names) ≡ map nothing (take k names) ++ [] ∷ [] =
    ap (map nothing) (take_more names k [] c.loop-place-test.true) ∙ map-append nothing (take k names) (get_or names k [] ∷ []) in
    ap told_in c.in_ok-push.ensures.items
    ∙ map-append (λ (v : Vec (Option (Bor (List ℕ))) Global). told_with v.items) c.loop-place.all.items (c.new.result ∷ [])
    ∙ ap (λ logs. logs ++ told_with c.new.result.items ∷ []) c.loop-place.invariant
    ∙ ap (λ messages. map nothing (take k names) ++ told_with messages ∷ []) c.new.ensures.items
    ∙ sym more
