use Rattle.std.proofs.Common.{◌∙◌, ap, length, nat_lt}
use Rattle.std.specs.Prelude.{is_some}
use Rattle.group_view.specs.Parts.{place_of}
use Rattle.group_view.proofs.Cuts.{found_some, place_in}
use Rattle.group_view.proofs.ring.has_entry.Goals as goal

pub returns : goal.returns
returns c =
    c.is_some.ensures ∙ ap is_some c.place_of.ensures
    ∙ found_some (nat_lt (place_of c.args.entries.now c.args.id.0) (length c.args.entries.now)) (place_of c.args.entries.now c.args.id.0)
    ∙ place_in c.args.entries.now c.args.id.0
