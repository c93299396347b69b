use Rattle.std.proofs.Common.{◌≡◌, ◌+◌, ◌∷◌, ◌++◌, [], List, map, take, sym, ap, subst, ◌∙◌, Bor}
use Rattle.std.proofs.lemmas.List.{take_more, map-append}
use Rattle.ring_rules.specs.declared.event.Client.{Client}
use Rattle.ring_cluster.specs.Agendas.{AreFronts}
use Rattle.ring_cluster.proofs.lists.Struck.{fronts_more}
use Rattle.ring_cluster.proofs.agenda.Agendas.fronts.Goals as goal

pub loop-name-preserved : goal.loop-name-preserved
loop-name-preserved c =
    let k = c.loop-name.name-index in
    let names = c.args.names.now in
    let fronts = map (λ (t : Bor (List Client)). t.now) c.loop-name.fronts.items in
    let now : map (λ (t : Bor (List Client)). t.now) c.push.new.self.items ≡ fronts ++ c.front.result.now ∷ [] =
    ap (map (λ (t : Bor (List Client)). t.now)) c.in_ok-push.ensures.items ∙ map-append (λ (t : Bor (List Client)). t.now) c.loop-name.fronts.items (c.front.result ∷ []) in
    subst (AreFronts c.args.self.now (take (k + 1) names)) (sym now)
    (subst (λ ns. AreFronts c.args.self.now ns (fronts ++ c.front.result.now ∷ []))
    (ap (λ n. take k names ++ n ∷ []) c.name-item.is ∙ sym (take_more names k c.name-item.result c.loop-name-test.true))
    (fronts_more c.args.self.now (take k names) fronts c.name-item.result c.front.result.now c.loop-name.invariant c.front.ensures))
