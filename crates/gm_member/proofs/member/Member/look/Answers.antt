use Rattle.std.proofs.Common.{List, map, ap, ◌∙◌}
use Rattle.gm_member.specs.Held.{Held, Incoming, kept_door}
use Rattle.gm_member.specs.View.{in_of}
use Rattle.gm_member.specs.Shown.{held_of}
use Rattle.gm_member.proofs.Pruned.{door_seen}
use Rattle.gm_member.proofs.member.Member.look.Goals as goal

pub returns-clause-held : goal.returns-clause-held
returns-clause-held g c =
    ap (λ (d : List Incoming). record (held_of c.keep_current.new.self) { view = c.args.view; door = d })
    (ap (map in_of) c.prune.ensures.door ∙ door_seen c.args.view c.keep_current.new.self.id.0 c.keep_current.new.self.door.items)
    ∙ ap (λ (h : Held). record h { view = c.args.view; door = kept_door c.args.view h.id h.door }) c.keep_current.ensures.held
