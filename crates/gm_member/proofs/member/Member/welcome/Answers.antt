use Rattle.std.proofs.Common.{List, map, ap, ◌++◌, ◌∙◌}
use Rattle.std.specs.List.{filter}
use Rattle.std.proofs.lemmas.List.{map-append}
use Rattle.gm_member.specs.Held.{Incoming}
use Rattle.gm_member.specs.View.{in_of, end_of}
use Rattle.gm_member.specs.Shown.{held_of, ends_of}
use Rattle.gm_member.specs.Arrivals.{joins, joined_links, given_end}
use Rattle.gm_member.proofs.Arriving.{arrived_seen, ends_seen}
use Rattle.gm_member.proofs.member.Member.welcome.Goals as goal

pub returns-clause-held : goal.returns-clause-held
returns-clause-held g c =
    let m = c.args.self.now in
    let came = joined_links m.view m.id.0 m.credit c.args.links.items in
    ap (λ (d : List Incoming). record (held_of m) { door = d })
    (ap (map in_of) c.arrive_all.ensures.door ∙ map-append in_of m.door.items came
    ∙ ap (λ zs. map in_of m.door.items ++ zs) (arrived_seen m.view m.id.0 m.credit c.args.links.items))

pub returns-clause-ends : goal.returns-clause-ends
returns-clause-ends g c =
    let m = c.args.self.now in
    let came = joined_links m.view m.id.0 m.credit c.args.links.items in
    ap (λ d. record (ends_of m) { door = d; old_ins = c.arrive_all.new.left.items })
    (ap (map end_of) c.arrive_all.ensures.door ∙ map-append end_of m.door.items came
    ∙ ap (λ zs. map end_of m.door.items ++ zs) (ends_seen m.view m.id.0 m.credit c.args.links.items))
    ∙ ap (λ xs. record (ends_of m) { door = map end_of m.door.items ++ map given_end (filter (joins m.view m.id.0) c.args.links.items); old_ins = xs }) c.arrive_all.ensures.left
