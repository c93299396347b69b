use Rattle.std.proofs.Common.{◌≡◌, ap, sym, ◌∙◌}
use Rattle.std.specs.List.{list_any}
use Rattle.ring_rules.specs.Machine.{Member}
use Rattle.ring_world.specs.Shows.{member_in}
use Rattle.ring_world.specs.Copied.{marks_copy}
use Rattle.ring_world.proofs.code.ShownParts.{read_member}
use Rattle.ring_world.proofs.code.OfCopies.{marked}
use Rattle.ring_world.proofs.copying.has_marked.Goals as goal

pub returns : goal.returns
returns c =
    let ms = c.args.ring.now.members.items in
    c.any_marks.ensures
    ∙ ap (list_any (marks_copy c.args.id)) c.deref.ensures.value
    ∙ ap (λ (m : Member). list_any (marks_copy c.args.id) m.log) (sym (read_member ms c.args.place c.index.result.now c.requires c.index.ensures))
    ∙ marked c.args.id (member_in ms c.args.place).log
