use Rattle.std.proofs.Common.{◌∙◌, ap, sym, length, nat_lt}
use Rattle.std.specs.Prelude.{is_some}
use Rattle.std.proofs.lemmas.Bool.{false≢true}
use Rattle.group_view.specs.Parts.{place_of}
use Rattle.group_view.proofs.Cuts.{found_some, place_in}
use Rattle.group_view.proofs.ring.place_right_of.Goals as goal

pub returns-in-None-clause-place : goal.returns-in-None-clause-place
returns-in-None-clause-place c = λ there. absurd (false≢true (ap is_some (sym c.in-None.is ∙ c.place_of.ensures)
    ∙ found_some (nat_lt (place_of c.args.entries.now c.args.id.0) (length c.args.entries.now)) (place_of c.args.entries.now c.args.id.0)
    ∙ place_in c.args.entries.now c.args.id.0 ∙ there))
