use Rattle.std.proofs.Common.{◌≡◌, Some, ap, subst, sym, ◌∙◌}
use Rattle.std.specs.Prelude.{option_map}
use Rattle.group_view.specs.Change.{marked}
use Rattle.group_view.specs.View.{number}
use Rattle.ring_parties.specs.Keeps.{keeps_at}
use Rattle.ring_parties.specs.Looking.{replaced_seen}
use Rattle.ring_parties.specs.Parties.{node_at}
use Rattle.ring_parties.specs.Acting.{newest_of, viewing, LooksAt}
use Rattle.ring_parties.specs.Tried.{IsJudged}
use Rattle.ring_parties.specs.Refused.{id_named, mark_refused, office_of}
use Rattle.ring_parties.proofs.events.Acted.{ok_also, mark_acts}
use Rattle.ring_parties.proofs.deposits.Delivered.{asks_nothing}
use Rattle.ring_parties.proofs.parties.Parties.act_mark.Goals as goal

pub unknown-requires : goal.unknown-requires
unknown-requires c = asks_nothing c.self.inside c.args.self.now c.self.view_is c.requires.standing c.args.i c.requires.within c.index.result.now c.index.ensures

pub returns-clause-judged : goal.returns-clause-judged
returns-clause-judged c =
    let q = (c.args.self.now).all in
    let named : id_named q c.args.dead.now ≡ Some c.in-Some.id.0 = c.id_named.ensures.id ∙ ap (option_map number) c.in-Some.is in
    subst (λ o. IsJudged (mark_refused (office_of q) (node_at q c.args.i) o) c.act_ask.result) (sym named) c.act_ask.ensures.judged

pub returns-clause-ok : goal.returns-clause-ok
returns-clause-ok c =
    let q = (c.args.self.now).all in
    let id = c.in-Some.id.0 in
    let named : id_named q c.args.dead.now ≡ Some id = c.id_named.ensures.id ∙ ap (option_map number) c.in-Some.is in
    ok_also c.act_ask.result (λ replaced. LooksAt (marked (newest_of q) id) c.args.i (viewing (marked (newest_of q) id) q) (c.act_ask.new.self).all (replaced_seen replaced)) _
    (λ replaced looks. mark_acts (keeps_at (c.args.self.now).keeps c.args.i) c.args.dead.now c.args.i id q (c.act_ask.new.self).all (replaced_seen replaced) named looks) c.act_ask.ensures.ok
