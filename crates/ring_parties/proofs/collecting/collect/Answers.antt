use Rattle.std.proofs.Common.{◌≡◌, length, sym, ap, subst, ◌∙◌}
use Rattle.std.specs.List.{filter}
use Rattle.std.specs.Prelude.{map}
use Rattle.registrar.specs.Registry.{is_for}
use Rattle.registrar.specs.Handled.{answered, links_for}
use Rattle.ring_parties.specs.Parties.{shown_of, deposit_shown}
use Rattle.ring_parties.specs.Acting.{waits_at, Collects}
use Rattle.ring_parties.specs.Collecting.{given_links}
use Rattle.ring_parties.proofs.standing.Collected.{collects_none, registrar_same, collects_all}
use Rattle.ring_parties.proofs.collecting.collect.Goals as goal

pub returns-then-waiting-eq0-clause-ok : goal.returns-then-waiting-eq0-clause-ok
returns-then-waiting-eq0-clause-ok c =
    let none : length (filter (is_for c.args.node.now.id.0) c.args.registrar.now.links) ≡ 0 = ap (λ x. length (filter (is_for x) c.args.registrar.now.links)) (sym c.id.ensures) ∙ sym c.waiting_for-waiting.ensures.count ∙ c.if-waiting-eq0.true in
    collects_none (shown_of c.args.node.now) c.args.registrar.now none

pub returns-then-waiting-eq0-clause-registrar : goal.returns-then-waiting-eq0-clause-registrar
returns-then-waiting-eq0-clause-registrar c =
    let none : length (filter (is_for c.args.node.now.id.0) c.args.registrar.now.links) ≡ 0 = ap (λ x. length (filter (is_for x) c.args.registrar.now.links)) (sym c.id.ensures) ∙ sym c.waiting_for-waiting.ensures.count ∙ c.if-waiting-eq0.true in
    registrar_same c.args.node.now.id.0 c.args.registrar.now none

pub ask_for_links-requires-clause-links : goal.ask_for_links-requires-clause-links
ask_for_links-requires-clause-links c = (links_for c.args.node.now.id.0 c.args.registrar.now.links, ap (answered c.args.registrar.now) c.in_ok-request.ensures.request)

pub returns-in-Ok-clause-ok : goal.returns-in-Ok-clause-ok
returns-in-Ok-clause-ok c =
    let all : links_for c.args.node.now.id.0 c.args.registrar.now.links ≡ c.in-Ok.links = cc (sym (ap (answered c.args.registrar.now) c.in_ok-request.ensures.request) ∙ c.in-Ok.ensures.links) in
    subst (λ b. Collects (shown_of c.args.node.now) b (filter (waits_at c.args.node.now.id.0) (map deposit_shown c.args.registrar.now.links)))
    (ap (given_links c.ask_to_collect.new.node) all ∙ sym c.receive.ensures)
    (collects_all c.args.node.now c.ask_to_collect.new.node c.args.registrar.now c.requires.free c.requires.ready.old_ins c.requires.ring c.requires.here c.in_ok-request.ensures.held c.in_ok-request.ensures.ends)
