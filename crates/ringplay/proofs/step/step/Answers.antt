use Rattle.std.proofs.Common.{◌≡◌, ◌++◌, Some, ◌∙◌, sym, ap, subst}
use Rattle.std.specs.List.{All}
use Rattle.group_view.specs.Change.{AreOpeningNames}
use Rattle.ring_rules.specs.Step.{opening}
use Rattle.ring_copies.specs.Runs.{IsRun, without_copies}
use Rattle.ring_journal.specs.Written.{IsWithin}
use Rattle.ring_script.specs.Reading.{HaveNameablePositions}
use Rattle.ring_cluster.specs.Seen.{state_of, opening_seen}
use Rattle.ringplay.specs.Step.{enabled_of, refused_lines, HasStepped}
use Rattle.ringplay.specs.Performed.{AreSteppedBy, Tells}
use Rattle.ringplay.proofs.Playing.{has_run}
use Rattle.ringplay.proofs.Positions.{stepped_journal}
use Rattle.ringplay.proofs.Stepping.{stepped_of, stepped_all}
use Rattle.ringplay.proofs.Keeping.{tells_so}
use Rattle.ringplay.proofs.step.step.Goals as goal

pub with_journal-requires-clause-members : goal.with_journal-requires-clause-members
with_journal-requires-clause-members c =
    let s = c.args.steps in
    let a = c.in_ok-cluster.cluster in
    let b = c.try_lines.new.cluster in
    let of = stepped_of s.credit s.members a b (enabled_of (state_of a) c.as_slice.result.now)
    (c.in_ok-cluster.ensures.opens ∙ ap (opening_seen s.credit) (c.deref.ensures.value ∙ c.into_vec-names.ensures)) c.in_ok-try_lines.ensures.stepped in
    let ran = has_run s.credit s.members c.in_ok-journal.journal.items b of.credit of.names c.in_ok-journal.ensures c.is_going.ensures in
    subst AreOpeningNames (sym (c.deref-2.ensures.value ∙ c.into_vec-names.ensures)) ran.are

pub with_journal-requires-clause-within : goal.with_journal-requires-clause-within
with_journal-requires-clause-within c =
    let s = c.args.steps in
    let a = c.in_ok-cluster.cluster in
    let b = c.try_lines.new.cluster in
    let opens : a ≡ opening_seen s.credit s.members =
    c.in_ok-cluster.ensures.opens ∙ ap (opening_seen s.credit) (c.deref.ensures.value ∙ c.into_vec-names.ensures) in
    let of = stepped_of s.credit s.members a b (enabled_of (state_of a) c.as_slice.result.now) opens c.in_ok-try_lines.ensures.stepped in
    let ran = has_run s.credit s.members c.in_ok-journal.journal.items b of.credit of.names c.in_ok-journal.ensures c.is_going.ensures in
    subst (All IsWithin) (sym c.deref-3.ensures.value) (c.a_run_is_within.ensures s.credit s.members c.in_ok-journal.journal.items ran.are ran.alone
    (stepped_journal s.credit s.members a b c.as_slice.result.now c.in_ok-journal.journal.items opens c.in_ok-try_lines.ensures.stepped
    (subst HaveNameablePositions (sym c.as_slice.ensures) c.requires.positions) c.in_ok-journal.ensures))

pub with_journal-requires-clause-run : goal.with_journal-requires-clause-run
with_journal-requires-clause-run c =
    let s = c.args.steps in
    let a = c.in_ok-cluster.cluster in
    let b = c.try_lines.new.cluster in
    let of = stepped_of s.credit s.members a b (enabled_of (state_of a) c.as_slice.result.now)
    (c.in_ok-cluster.ensures.opens ∙ ap (opening_seen s.credit) (c.deref.ensures.value ∙ c.into_vec-names.ensures)) c.in_ok-try_lines.ensures.stepped in
    let ran = has_run s.credit s.members c.in_ok-journal.journal.items b of.credit of.names c.in_ok-journal.ensures c.is_going.ensures in
    subst (IsRun (without_copies (opening s.credit c.deref-2.result.now))) (sym c.deref-3.ensures.value)
    (subst (λ names. IsRun (without_copies (opening s.credit names)) c.in_ok-journal.journal.items) (sym (c.deref-2.ensures.value ∙ c.into_vec-names.ensures)) ran.run.run)

pub returns : goal.returns
returns c =
    let s = c.args.steps in
    let a = c.in_ok-cluster.cluster in
    let b = c.try_lines.new.cluster in
    let journal = c.in_ok-journal.journal.items in
    let report = c.push_report.new.out.items in
    let whole = c.in_ok-text.text.items in
    let opens : a ≡ opening_seen s.credit s.members =
    c.in_ok-cluster.ensures.opens ∙ ap (opening_seen s.credit) (c.deref.ensures.value ∙ c.into_vec-names.ensures) in
    let lines : c.try_lines.new.text.items ≡ refused_lines (state_of a) s.lines =
    c.in_ok-try_lines.ensures.told ∙ ap (λ ls. c.new-report.result.items ++ refused_lines (state_of a) ls) c.as_slice.ensures ∙ ap (λ t. t ++ refused_lines (state_of a) s.lines) c.new-report.ensures.items in
    let told : Tells c.args.kept s.credit s.members journal (λ first. first ≡ report) whole =
    subst (λ names. Tells c.args.kept s.credit names journal (λ first. first ≡ report) whole) (c.deref-2.ensures.value ∙ c.into_vec-names.ensures)
    (subst (λ events. Tells c.args.kept s.credit c.deref-2.result.now events (λ first. first ≡ report) whole) c.deref-3.ensures.value c.in_ok-text.ensures) in
    tells_so c.args.kept s.credit s.members journal (λ first. AreSteppedBy s journal first (Some b)) report whole told
    (stepped_all s a b journal report c.try_lines.new.text.items
    opens c.is_going.ensures (subst (λ ls. HasStepped a b (enabled_of (state_of a) ls)) c.as_slice.ensures c.in_ok-try_lines.ensures.stepped)
    lines c.in_ok-push_report.ensures c.in_ok-journal.ensures)
