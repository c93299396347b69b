use Rattle.std.proofs.Common.{◌≡◌, ◌∷◌, ◌++◌, [], set, get_or, sym, ap, ◌∙◌}
use Rattle.std.proofs.lemmas.List.{map-append, map-set, get_or-map}
use Rattle.ring_cluster.specs.Published.{told_by, told_with, told_in}
use Rattle.ring_cluster.proofs.published.push_at.Goals as goal

pub returns : goal.returns
returns c =
    let all = c.args.all.now.items in
    let old = c.index_mut-messages.result.now in
    let m = told_by c.args.told ∷ [] in
    let same : told_with old.items ≡ get_or (told_in all) c.args.place [] =
    ap (λ v. told_with v.items) c.index_mut-messages.ensures.value ∙ sym (get_or-map (λ v. told_with v.items) all c.args.place old [] c.requires) in
    map-set (λ v. told_with v.items) all c.args.place c.push.new.self
    ∙ ap (set (told_in all) c.args.place)
    (ap told_with c.in_ok-push.ensures.items ∙ map-append told_by old.items (c.args.told ∷ []) ∙ ap (λ ms. ms ++ m) same)
