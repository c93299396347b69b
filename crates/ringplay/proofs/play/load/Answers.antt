use Rattle.std.proofs.Common.{◌≡◌, ◌∙◌, sym, subst}
use Rattle.std.specs.List.{All}
use Rattle.group_view.specs.Change.{AreOpeningNames}
use Rattle.ring_rules.specs.Step.{opening}
use Rattle.ringplay.specs.Performed.{HasTurns, summed}
use Rattle.ringplay.proofs.Playing.{all_turns, has_played, played_by}
use Rattle.ringplay.proofs.play.load.Goals as goal

pub play_lines-requires-clause-opens : goal.play_lines-requires-clause-opens
play_lines-requires-clause-opens g c κs within =
    subst AreOpeningNames (sym (c.deref.ensures.value ∙ c.into_vec-names.ensures)) c.in_ok-script.ensures.playable.opens.0

pub play_lines-requires-clause-turns : goal.play_lines-requires-clause-turns
play_lines-requires-clause-turns g c κs within =
    let s = c.in_ok-script.script in
    subst (All (λ line. HasTurns line.1)) (sym c.into_vec.ensures) (all_turns s.members s.lines c.in_ok-script.ensures.playable.commands)

pub returns : goal.returns
returns g c =
    let s = c.in_ok-script.script in
    let played = has_played s c.deref.result.now c.into_vec.result.items c.in_ok-cluster.cluster (c.deref.ensures.value ∙ c.into_vec-names.ensures) c.into_vec.ensures c.in_ok-cluster.ensures in
    (s, c.in_ok-script.ensures.load, played_by (summed c.args.blocks) s c.in_ok-cluster.cluster c.in_ok-journal.journal.items c.in_ok-text.text.items played c.in_ok-journal.ensures c.in_ok-text.ensures)
