use Rattle.std.proofs.Common.{length, sym, ap, subst, ◌∙◌}
use Rattle.ring_rules.specs.Step.{opening}
use Rattle.ring_rules.specs.Laws.{GoesOn}
use Rattle.ring_copies.specs.Copies.{CopyWorld}
use Rattle.ring_copies.specs.Runs.{IsRun, last, without_copies}
use Rattle.ring_copies.specs.Laws.{IsLawfulWithCopies}
use Rattle.ring_journal.specs.Laws.{KeepsLaws}
use Rattle.ring_journal.proofs.Legal.{legal_is_run, parted}
use Rattle.ring_journal.proofs.laws.a_legal_journal_is_a_run.Goals as goal

pub returns : goal.returns
returns c = λ bytes w events h.
    let e = legal_is_run bytes w events h in
    let start = without_copies (opening e.credit e.names) in
    let are = e.left.are in
    let run = e.left.run in
    let lawful : IsLawfulWithCopies e.credit.initial (last start events) = c.every_state_is_lawful_with_copies.ensures e.credit e.names events are run in
    let kept : KeepsLaws e.credit.initial (length events) (last start events).ring = record {
      lawful = lawful.ring;
      queue = λ few. c.every_queue_is_right_with_copies.ensures e.credit e.names events are few run;
      starts = c.later_masters_start_first_with_copies.ensures e.credit e.names events are run;
      idle = λ few. c.a_ring_settles_beside_copies.ensures.idle e.credit e.names events are few run;
      repair = c.a_ring_settles_beside_copies.ensures.repair e.credit e.names events are run;
      ends = λ steps repairs. c.a_ring_settles_beside_copies.ensures.ends e.credit e.names events steps are run repairs;
      settles = λ few. c.a_ring_settles_beside_copies.ensures.settles e.credit e.names events are few run;
    } in
    record {
      credit = e.credit;
      names = e.names;
      left = e.left;
      laws = subst (λ (W : CopyWorld). KeepsLaws e.credit.initial (length events) W.ring) (sym e.left.ring) kept;
      copies = subst (IsLawfulWithCopies e.credit.initial) (sym e.left.ring) lawful;
      bounded = c.every_number_is_bounded_with_copies.ensures e.credit e.names events are run;
      goes_on = λ earlier later same.
          let p = parted start earlier later (subst (IsRun start) same run) in
          subst (λ (W : CopyWorld). GoesOn (last start earlier).ring W.ring) (sym (e.left.ring ∙ ap (last start) same ∙ p.2)) (c.nothing_falls_with_copies.ensures e.credit e.names earlier later are p.0 p.1);
    }
