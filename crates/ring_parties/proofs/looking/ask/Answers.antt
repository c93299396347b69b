use Rattle.std.proofs.Common.{◌≡◌, true, false, None, sym, ap, subst, ◌∙◌}
use Rattle.group_view.specs.Ring.{is_in}
use Rattle.ring_rules.specs.View.{ids}
use Rattle.registrar.specs.Registry.{newest}
use Rattle.registrar.specs.Asked.{request_refusal}
use Rattle.registrar.specs.Handled.{handled, answered}
use Rattle.gm_member.specs.Held.{Held, answered_held}
use Rattle.gm_member.specs.Shown.{held_of, ends_of}
use Rattle.gm_member.proofs.DoorParts.{up_refused_none}
use Rattle.ring_parties.specs.Parties.{shown_of, ends_seen}
use Rattle.ring_parties.specs.Looking.{HasLooked, pending_shown, replaced_seen, without_question, view_for, brought}
use Rattle.ring_parties.proofs.events.Questioned.{made_brings, made_answered, made_handled, made_stands, asker_known}
use Rattle.ring_parties.proofs.looking.ask.Goals as goal

pub ask_for_view-requires-clause-view : goal.ask_for_view-requires-clause-view
ask_for_view-requires-clause-view c =
    (view_for c.args.registrar.now c.args.node.now.id.0 c.args.what, ap (λ q. brought (answered c.args.registrar.now q)) c.in_ok-request.ensures.request ∙ made_answered c.args.registrar.now (held_of c.args.node.now) c.args.what c.requires.makes)

pub read_answer-requires-clause-stands : goal.read_answer-requires-clause-stands
read_answer-requires-clause-stands c =
    let r = c.args.registrar.now in
    let view : view_for r c.args.node.now.id.0 c.args.what ≡ c.in-Ok.view = cc (sym (ap (λ q. brought (answered r q)) c.in_ok-request.ensures.request ∙ made_answered r (held_of c.args.node.now) c.args.what c.requires.makes) ∙ c.in-Ok.ensures.view) in
    let known : is_in c.args.node.now.id.0 (ids (newest r)) ≡ true = asker_known r (held_of c.args.node.now) c.args.what (sym (ap (request_refusal r) c.in_ok-request.ensures.request) ∙ c.in-Ok.ensures.judged.enabled) c.requires.makes in
    let same : c.ask.new.self.id.0 ≡ c.args.node.now.id.0 = ap (λ h. h.id) c.in_ok-request.ensures.ok in
    ap (λ g. is_in c.ask.new.self.id.0 (ids g)) (sym view) ∙ ap (λ x. is_in x (ids (view_for r c.args.node.now.id.0 c.args.what))) same ∙ made_stands r c.args.node.now.id.0 c.args.what known

pub read_answer-requires-clause-spare : goal.read_answer-requires-clause-spare
read_answer-requires-clause-spare c = made_brings c.args.what _ c.requires.makes c.in_ok-request.ensures.spare

pub returns-in-Ok-clause-ok : goal.returns-in-Ok-clause-ok
returns-in-Ok-clause-ok c =
    let m = c.args.node.now in
    let r = c.args.registrar.now in
    let view : view_for r c.args.node.now.id.0 c.args.what ≡ c.in-Ok.view = cc (sym (ap (λ q. brought (answered r q)) c.in_ok-request.ensures.request ∙ made_answered r (held_of m) c.args.what c.requires.makes) ∙ c.in-Ok.ensures.view) in
    let free : (held_of m).asks ≡ false = (up_refused_none (held_of m) None c.in_ok-request.ensures.heeds.enabled).1 in
    let closed : without_question (shown_of c.ask.new.self) ≡ shown_of m =
    ap (λ (h : Held). record { held = answered_held h; ends = ends_seen (ends_of c.ask.new.self) }) c.in_ok-request.ensures.ok
    ∙ ap (λ e. record { held = answered_held (held_of m); ends = ends_seen e }) c.in_ok-request.ensures.ends
    ∙ ap (λ b. record { held = record (held_of m) { asks = b }; ends = ends_seen (ends_of m) }) (sym free) in
    subst (λ a. HasLooked (view_for r c.args.node.now.id.0 c.args.what) a (shown_of c.read_answer.new.node) (pending_shown c.read_answer.result.opened) (replaced_seen c.read_answer.result.replaced)) closed
    (subst (λ v. HasLooked v (without_question (shown_of c.ask.new.self)) (shown_of c.read_answer.new.node) (pending_shown c.read_answer.result.opened) (replaced_seen c.read_answer.result.replaced)) (sym view) c.read_answer.ensures)

pub returns-in-Ok-clause-registrar : goal.returns-in-Ok-clause-registrar
returns-in-Ok-clause-registrar c =
    c.in-Ok.ensures.registrar
    ∙ ap (handled c.args.registrar.now) c.in_ok-request.ensures.request
    ∙ made_handled c.args.registrar.now (held_of c.args.node.now) c.args.what c.requires.makes
