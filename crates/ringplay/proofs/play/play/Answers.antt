use Rattle.std.proofs.Common.{◌≡◌, Some, ◌∙◌, sym, subst}
use Rattle.std.specs.List.{All}
use Rattle.group_view.specs.Change.{AreOpeningNames}
use Rattle.ring_rules.specs.Step.{opening}
use Rattle.ring_copies.specs.Runs.{IsRun, without_copies}
use Rattle.ring_journal.specs.Written.{IsWithin}
use Rattle.ringplay.specs.Performed.{HasTurns, IsPlayedBy, Tells, reported}
use Rattle.ringplay.proofs.Playing.{all_turns, has_played, played_run, played_by}
use Rattle.ringplay.proofs.Positions.{played_names}
use Rattle.ringplay.proofs.Keeping.{tells_so}
use Rattle.ringplay.proofs.play.play.Goals as goal

pub play_lines-requires-clause-opens : goal.play_lines-requires-clause-opens
play_lines-requires-clause-opens g c κs within = subst AreOpeningNames (sym (c.deref.ensures.value ∙ c.into_vec-names.ensures)) c.requires.opens.0

pub play_lines-requires-clause-turns : goal.play_lines-requires-clause-turns
play_lines-requires-clause-turns g c κs within =
    subst (All (λ line. HasTurns line.1)) (sym c.into_vec-lines.ensures) (all_turns c.args.script.members c.args.script.lines c.requires.commands)

pub with_journal-requires-clause-members : goal.with_journal-requires-clause-members
with_journal-requires-clause-members g c = subst AreOpeningNames (sym (c.deref-2.ensures.value ∙ c.into_vec-names.ensures)) c.requires.opens.0

pub with_journal-requires-clause-within : goal.with_journal-requires-clause-within
with_journal-requires-clause-within g c =
    let s = c.args.script in
    let journal = c.in_ok-journal.journal.items in
    let played = has_played s c.deref.result.now c.into_vec-lines.result.items c.in_ok-cluster.cluster (c.deref.ensures.value ∙ c.into_vec-names.ensures) c.into_vec-lines.ensures c.in_ok-cluster.ensures in
    let ran = played_run s journal c.in_ok-cluster.cluster played c.in_ok-journal.ensures in
    subst (All IsWithin) (sym c.deref-3.ensures.value) (c.a_run_is_within.ensures s.credit s.members journal ran.are ran.alone
    (played_names s c.in_ok-cluster.cluster journal c.requires played.given played.going played.plays.served c.in_ok-journal.ensures))

pub with_journal-requires-clause-run : goal.with_journal-requires-clause-run
with_journal-requires-clause-run g c =
    let s = c.args.script in
    let journal = c.in_ok-journal.journal.items in
    let played = has_played s c.deref.result.now c.into_vec-lines.result.items c.in_ok-cluster.cluster (c.deref.ensures.value ∙ c.into_vec-names.ensures) c.into_vec-lines.ensures c.in_ok-cluster.ensures in
    let ran = played_run s journal c.in_ok-cluster.cluster played c.in_ok-journal.ensures in
    subst (IsRun (without_copies (opening s.credit c.deref-2.result.now))) (sym c.deref-3.ensures.value)
    (subst (λ names. IsRun (without_copies (opening s.credit names)) journal) (sym (c.deref-2.ensures.value ∙ c.into_vec-names.ensures)) ran.run.run)

pub returns : goal.returns
returns g c =
    let s = c.args.script in
    let journal = c.in_ok-journal.journal.items in
    let report = c.in_ok-report.report.items in
    let whole = c.in_ok-text.text.items in
    let played = has_played s c.deref.result.now c.into_vec-lines.result.items c.in_ok-cluster.cluster (c.deref.ensures.value ∙ c.into_vec-names.ensures) c.into_vec-lines.ensures c.in_ok-cluster.ensures in
    let told : Tells c.args.kept s.credit s.members journal (λ first. first ≡ report) whole =
    subst (λ names. Tells c.args.kept s.credit names journal (λ first. first ≡ report) whole) (c.deref-2.ensures.value ∙ c.into_vec-names.ensures)
    (subst (λ events. Tells c.args.kept s.credit c.deref-2.result.now events (λ first. first ≡ report) whole) c.deref-3.ensures.value c.in_ok-text.ensures) in
    tells_so c.args.kept s.credit s.members journal (λ first. IsPlayedBy reported s journal first (Some c.in_ok-cluster.cluster)) report whole told
    (played_by reported s c.in_ok-cluster.cluster journal report played c.in_ok-journal.ensures c.in_ok-report.ensures)
