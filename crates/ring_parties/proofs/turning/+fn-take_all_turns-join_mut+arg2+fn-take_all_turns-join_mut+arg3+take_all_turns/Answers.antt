use Rattle.std.proofs.Common.{rules, ◌≡◌, ◌++◌, List, length, map, Bor, refl, sym, ap, ◌∙◌, arith}
use Rattle.std.proofs.lemmas.List.{length-map, map-append}
use Rattle.ring_rules.specs.declared.event.Client.{Client}
use Rattle.ring_parties.specs.Played.{TakeTheirTurns}
use Rattle.ring_parties.proofs.pairs.Halves.{may_in_front, may_behind, all_in_front, all_behind, turns_of_halves, turns_read}
use Rattle.ring_parties.proofs.turning.+fn-take_all_turns-join_mut+arg2+fn-take_all_turns-join_mut+arg3+take_all_turns.Goals as goal

pub join_mut-first-requires-after_bounds : goal.join_mut-first-requires-after_bounds
join_mut-first-requires-after_bounds g t c κs within =
    let tasks = map (λ (t' : Bor (List Client)). t'.now) c.args.tasks.now in
    let front_tasks = map (λ (t' : Bor (List Client)). t'.now) c.split_at.result.0.now in
    let back_tasks = map (λ (t' : Bor (List Client)). t'.now) c.split_at.result.1.now in
    let m = c.split_at_mut-front in
    let d = c.split_at_mut-front_done in
    let cut : c.args.tasks.now ≡ c.split_at.result.0.now ++ c.split_at.result.1.now = search rules in
    let cut_tasks : tasks ≡ front_tasks ++ back_tasks = ap (map (λ (t' : Bor (List Client)). t'.now)) cut ∙ map-append (λ (t' : Bor (List Client)). t'.now) c.split_at.result.0.now c.split_at.result.1.now in
    let many : length c.split_at.result.0.now ≡ length m.result.0.now = search rules in
    let many_tasks : length front_tasks ≡ length m.result.0.now = length-map c.split_at.result.0.now (λ (t' : Bor (List Client)). t'.now) ∙ many in (
      (search rules, (λ a n. n, (λ a n. n, ((search rules, search rules), (may_in_front c.args.turns tasks front_tasks back_tasks c.args.members.now m.result.0.now m.result.1.now cut_tasks m.ensures.value c.requires.may, (many, (search rules, (all_in_front (λ n. n ≡ 0) c.args.done.now d.result.0.now d.result.1.now d.ensures.value c.requires.none, (search rules, (search rules)))))))))),
      (search rules, (λ a n. n, (λ a n. n, ((search rules, search rules), (may_behind c.args.turns tasks front_tasks back_tasks c.args.members.now m.result.0.now m.result.1.now cut_tasks m.ensures.value many_tasks c.requires.may, (search rules, (search rules, (all_behind (λ n. n ≡ 0) c.args.done.now d.result.0.now d.result.1.now d.ensures.value c.requires.none, (search rules, (search rules)))))))))),
    )

pub returns-clause-turns : goal.returns-clause-turns
returns-clause-turns g t c =
    let tasks = map (λ (t' : Bor (List Client)). t'.now) c.args.tasks.now in
    let front_tasks = map (λ (t' : Bor (List Client)). t'.now) c.split_at.result.0.now in
    let back_tasks = map (λ (t' : Bor (List Client)). t'.now) c.split_at.result.1.now in
    let m = c.split_at_mut-front in
    let f = c.join_mut-first.ensures.0.met in
    let b = c.join_mut-first.ensures.1.met in
    let cut : c.args.tasks.now ≡ c.split_at.result.0.now ++ c.split_at.result.1.now = search rules in
    let cut_tasks : tasks ≡ front_tasks ++ back_tasks = ap (map (λ (t' : Bor (List Client)). t'.now)) cut ∙ map-append (λ (t' : Bor (List Client)). t'.now) c.split_at.result.0.now c.split_at.result.1.now in
    let many : length c.split_at.result.0.now ≡ length m.result.0.now = search rules in
    let many_tasks : length front_tasks ≡ length m.result.0.now = length-map c.split_at.result.0.now (λ (t' : Bor (List Client)). t'.now) ∙ many in
    let front : TakeTheirTurns c.args.turns front_tasks c.front_done-1.given.0 m.result.0.now c.front-1.given.0 =
    turns_read c.args.turns front_tasks _ c.front_done-1.given.0 _ m.result.0.now _ c.front-1.given.0 _ refl (c.front_done-1.given.1.1 (sym f.0.6)) refl (c.front-1.given.1.1 (sym f.0.5)) f.1.1 in
    let back : TakeTheirTurns c.args.turns back_tasks c.back_done-1.given.0 m.result.1.now c.back-1.given.0 =
    turns_read c.args.turns back_tasks _ c.back_done-1.given.0 _ m.result.1.now _ c.back-1.given.0 _ refl (c.back_done-1.given.1.1 (sym b.0.6)) refl (c.back-1.given.1.1 (sym b.0.5)) b.1.1 in
    let counts : length c.front_done-1.given.0 ≡ length m.result.0.now = omega (arith, f.1.0, ap length (c.front_done-1.given.1.1 (sym f.0.6)), m.ensures.front_len, c.split_at_mut-front_done.ensures.front_len) in
    turns_read c.args.turns tasks (front_tasks ++ back_tasks) (c.front_done-1.given.0 ++ c.back_done-1.given.0) (c.front_done-1.given.0 ++ c.back_done-1.given.0)
    c.args.members.now (m.result.0.now ++ m.result.1.now) (c.front-1.given.0 ++ c.back-1.given.0) (c.front-1.given.0 ++ c.back-1.given.0)
    cut_tasks refl m.ensures.value refl
    (turns_of_halves c.args.turns front_tasks back_tasks c.front_done-1.given.0 c.back_done-1.given.0 m.result.0.now m.result.1.now c.front-1.given.0 c.back-1.given.0 many_tasks counts front back)
