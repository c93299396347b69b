use Rattle.std.proofs.Common.{List, Some, map, ap, sym, ◌∙◌}
use Rattle.gm_member.specs.Held.{Incoming, door_at}
use Rattle.gm_member.specs.View.{in_of}
use Rattle.gm_member.specs.Shown.{held_of}
use Rattle.gm_member.proofs.DoorParts.{without_made}
use Rattle.gm_member.proofs.Moving.{door_seen_at, removed}
use Rattle.gm_member.proofs.member.Member.pick_at.Goals as goal

pub returns-clause-held : goal.returns-clause-held
returns-clause-held g c =
    ap (λ (l : Incoming). record (held_of c.args.self.now) { current = Some l; door = map in_of c.remove.new.self.items })
    (door_seen_at c.remove.result c.args.self.now.door.items c.args.place c.requires.within c.remove.ensures.value)
    ∙ ap (λ (ls : List Incoming). record (held_of c.args.self.now) { current = Some (door_at (map in_of c.args.self.now.door.items) c.args.place); door = ls })
    (ap (map in_of) (c.remove.ensures.items ∙ removed c.args.place c.args.self.now.door.items) ∙ sym (without_made in_of c.args.place c.args.self.now.door.items))
