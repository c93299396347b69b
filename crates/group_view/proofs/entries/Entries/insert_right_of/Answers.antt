use Rattle.std.proofs.Common.{◌≡◌, ◌∙◌, ◌+◌, List, ap, sym}
use Rattle.std.specs.List.{insert}
use Rattle.group_view.specs.declared.entry.Entry.{Entry}
use Rattle.group_view.specs.Ring.{is_in}
use Rattle.group_view.specs.View.{ids}
use Rattle.group_view.specs.Parts.{place_of}
use Rattle.group_view.proofs.Joining.{with_entry-insert}
use Rattle.group_view.proofs.entries.Entries.insert_right_of.Goals as goal

pub returns-clause-ok : goal.returns-clause-ok
returns-clause-ok c =
    let seen : c.deref.result.now ≡ c.args.self.now = c.deref.ensures.value ∙ c.self.view_is in
    let place : c.place_right_of-place.result ≡ place_of c.args.self.now c.args.left.0 + 1 =
    c.place_right_of-place.ensures.place (ap (λ es. is_in c.args.left.0 (ids es)) seen ∙ c.requires.there) ∙ ap (λ es. place_of es c.args.left.0 + 1) seen in
    c.in_ok-insert.ensures.items
    ∙ ap (λ (es : List Entry). insert es c.place_right_of-place.result c.args.entry) c.self.view_is
    ∙ ap (λ k. insert c.args.self.now k c.args.entry) place
    ∙ sym (with_entry-insert c.args.left.0 c.args.entry c.args.self.now c.requires.distinct c.requires.there)
