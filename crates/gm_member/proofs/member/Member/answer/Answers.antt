use Rattle.std.proofs.Common.{subst}
use Rattle.gm_member.specs.Shown.{held_of, OutIsBack}
use Rattle.gm_member.specs.Questions.{OfView}
use Rattle.gm_member.proofs.AnswerLifts.{asks_up, answer_lifts, mark_lifts, erase_lifts, register_lifts, admit_lifts, of_view, of_admitted}
use Rattle.gm_member.proofs.Ready.{is_ready}
use Rattle.gm_member.proofs.member.Member.answer.Goals as goal

pub read_answer-requires-clause-ready : goal.read_answer-requires-clause-ready
read_answer-requires-clause-ready g c = is_ready c.args.self.now (subst (λ a. OfView a (λ _. OutIsBack c.args.self.now)) c.in-Viewed.is c.requires.out)

pub returns-in-Ok-clause-steps : goal.returns-in-Ok-clause-steps
returns-in-Ok-clause-steps g c sound =
    let m = c.args.self.now in
    of_view c.args.answer c.in-Viewed.view _ c.in-Viewed.is
    (answer_lifts (held_of m) (held_of c.read_answer.new.self) c.in-Viewed.view (asks_up m.asked m.phase c.requires.open m.up) (c.in-Ok.ensures.reads sound).ok)

pub returns-in-Ok-clause-marks : goal.returns-in-Ok-clause-marks
returns-in-Ok-clause-marks g c sound =
    of_view c.args.answer c.in-Viewed.view _ c.in-Viewed.is
    (mark_lifts (held_of c.args.self.now) (held_of c.read_answer.new.self) c.in-Viewed.view (c.in-Ok.ensures.reads sound).ok)

pub returns-in-Ok-clause-erases : goal.returns-in-Ok-clause-erases
returns-in-Ok-clause-erases g c sound =
    of_view c.args.answer c.in-Viewed.view _ c.in-Viewed.is
    (erase_lifts (held_of c.args.self.now) (held_of c.read_answer.new.self) c.in-Viewed.view (c.in-Ok.ensures.reads sound).ok)

pub returns-in-Ok-clause-registers : goal.returns-in-Ok-clause-registers
returns-in-Ok-clause-registers g c sound =
    of_view c.args.answer c.in-Viewed.view _ c.in-Viewed.is
    (register_lifts (held_of c.args.self.now) (held_of c.read_answer.new.self) c.in-Viewed.view (c.in-Ok.ensures.reads sound).ok)

pub returns-in-Ok-clause-admits : goal.returns-in-Ok-clause-admits
returns-in-Ok-clause-admits g c sound =
    of_view c.args.answer c.in-Viewed.view _ c.in-Viewed.is
    (admit_lifts (held_of c.args.self.now) (held_of c.read_answer.new.self) c.in-Viewed.view (c.in-Ok.ensures.reads sound).ok)

pub returns-in-Ok-read_answer-clause-steps : goal.returns-in-Ok-read_answer-clause-steps
returns-in-Ok-read_answer-clause-steps g c sound =
    let m = c.args.self.now in
    of_admitted c.args.answer c.in-Admitted.view c.in-Admitted.id _ c.in-Admitted.is
    (answer_lifts (held_of m) (held_of c.read_answer-in-Admitted.new.self) c.in-Admitted.view (asks_up m.asked m.phase c.requires.open m.up) (c.in-Ok-read_answer.ensures.reads sound).ok)

pub returns-in-Ok-read_answer-clause-marks : goal.returns-in-Ok-read_answer-clause-marks
returns-in-Ok-read_answer-clause-marks g c sound =
    of_admitted c.args.answer c.in-Admitted.view c.in-Admitted.id _ c.in-Admitted.is
    (mark_lifts (held_of c.args.self.now) (held_of c.read_answer-in-Admitted.new.self) c.in-Admitted.view (c.in-Ok-read_answer.ensures.reads sound).ok)

pub returns-in-Ok-read_answer-clause-erases : goal.returns-in-Ok-read_answer-clause-erases
returns-in-Ok-read_answer-clause-erases g c sound =
    of_admitted c.args.answer c.in-Admitted.view c.in-Admitted.id _ c.in-Admitted.is
    (erase_lifts (held_of c.args.self.now) (held_of c.read_answer-in-Admitted.new.self) c.in-Admitted.view (c.in-Ok-read_answer.ensures.reads sound).ok)

pub returns-in-Ok-read_answer-clause-registers : goal.returns-in-Ok-read_answer-clause-registers
returns-in-Ok-read_answer-clause-registers g c sound =
    of_admitted c.args.answer c.in-Admitted.view c.in-Admitted.id _ c.in-Admitted.is
    (register_lifts (held_of c.args.self.now) (held_of c.read_answer-in-Admitted.new.self) c.in-Admitted.view (c.in-Ok-read_answer.ensures.reads sound).ok)

pub returns-in-Ok-read_answer-clause-admits : goal.returns-in-Ok-read_answer-clause-admits
returns-in-Ok-read_answer-clause-admits g c sound =
    of_admitted c.args.answer c.in-Admitted.view c.in-Admitted.id _ c.in-Admitted.is
    (admit_lifts (held_of c.args.self.now) (held_of c.read_answer-in-Admitted.new.self) c.in-Admitted.view (c.in-Ok-read_answer.ensures.reads sound).ok)
