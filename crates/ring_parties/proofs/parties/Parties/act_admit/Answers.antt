use Rattle.std.proofs.Common.{◌≡◌, ◌+◌, ◌∷◌, ◌++◌, [], None, map, get_or, set, refl, sym, ap, subst, ◌∙◌, arith, rules}
use Rattle.std.proofs.lemmas.Option.{none-some}
use Rattle.std.proofs.lemmas.List.{map-append}
use Rattle.group_view.specs.Change.{admitted, admit_refusal as group_refusal}
use Rattle.group_view.specs.Ring.{is_in}
use Rattle.ring_rules.specs.View.{ids}
use Rattle.registrar.specs.Registry.{newest}
use Rattle.registrar.specs.Handled.{with_view}
use Rattle.gm_member.specs.declared.questions.Ask.TheVariants.{Admit}
use Rattle.gm_member.specs.Held.{at_some, up_refused}
use Rattle.ring_parties.specs.Behind.{behind}
use Rattle.ring_parties.specs.Parties.{Deposit, Shown, parties, node_at, shown_of, shown_in, keeps_in}
use Rattle.ring_parties.specs.Looking.{HasLooked, pending_shown, replaced_seen, ask_refused}
use Rattle.ring_parties.specs.Acting.{joined, HasCredit, AdmitsAt}
use Rattle.ring_parties.specs.Refused.{admission_refused}
use Rattle.ring_parties.proofs.standing.Nodes.{at_read, written_shown}
use Rattle.ring_parties.proofs.events.Acted.{lets_in}
use Rattle.ring_parties.proofs.events.Closing.{up_later}
use Rattle.ring_parties.proofs.deposits.Delivered.{still_kept, inside, none_behind, bare, shown_is, here, few, asks_nothing, id_is, is_ready, may_join, unchanged, seen_as}
use Rattle.ring_parties.proofs.parties.Parties.act_admit.Goals as goal

pub admit_refusal-requires : goal.admit_refusal-requires
admit_refusal-requires c = asks_nothing c.self.inside c.args.self.now c.self.view_is c.requires.may.standing c.args.i c.requires.may.within c.index.result.now c.index.ensures

pub overflow_cast-i : goal.overflow_cast-i
overflow_cast-i c = omega (arith, few c.self.inside c.args.self.now c.self.view_is c.requires.may.standing, inside c.self.inside c.args.self.now c.self.view_is c.args.i c.requires.may.within)

pub overflow_add-i : goal.overflow_add-i
overflow_add-i c = omega (arith, few c.self.inside c.args.self.now c.self.view_is c.requires.may.standing, inside c.self.inside c.args.self.now c.self.view_is c.args.i c.requires.may.within)

pub joining_node-requires-clause-allowed : goal.joining_node-requires-clause-allowed
joining_node-requires-clause-allowed c =
    let is = c.view-view.ensures.newest in
    let none = sym (ap (λ g. up_refused (shown_in c.index.result.now).held (admission_refused g c.args.name.now)) is) ∙ sym c.admit_refusal.ensures ∙ c.in_default.is in
    let may = may_join c.self.inside c.args.self.now c.self.view_is c.requires.may.delivered c.requires.may.standing c.args.i c.requires.may.within c.index.result.now c.index.ensures c.args.name.now none in
    ap (λ g. group_refusal g.entries (c.args.i + 1) c.args.name.now) is ∙ may.allowed

pub joining_node-requires-clause-from_one : goal.joining_node-requires-clause-from_one
joining_node-requires-clause-from_one c =
    let is = c.view-view.ensures.newest in
    let none = sym (ap (λ g. up_refused (shown_in c.index.result.now).held (admission_refused g c.args.name.now)) is) ∙ sym c.admit_refusal.ensures ∙ c.in_default.is in
    let may = may_join c.self.inside c.args.self.now c.self.view_is c.requires.may.delivered c.requires.may.standing c.args.i c.requires.may.within c.index.result.now c.index.ensures c.args.name.now none in
    omega (arith, ap (λ g. g.next_id) is, may.from_one)

pub joining_node-requires-clause-few : goal.joining_node-requires-clause-few
joining_node-requires-clause-few c =
    let is = c.view-view.ensures.newest in
    let none = sym (ap (λ g. up_refused (shown_in c.index.result.now).held (admission_refused g c.args.name.now)) is) ∙ sym c.admit_refusal.ensures ∙ c.in_default.is in
    let may = may_join c.self.inside c.args.self.now c.self.view_is c.requires.may.delivered c.requires.may.standing c.args.i c.requires.may.within c.index.result.now c.index.ensures c.args.name.now none in
    omega (arith, ap (λ g. g.next_id) is, may.few)

pub joining_node-requires-clause-stands : goal.joining_node-requires-clause-stands
joining_node-requires-clause-stands c =
    let is = c.view-view.ensures.newest in
    let none = sym (ap (λ g. up_refused (shown_in c.index.result.now).held (admission_refused g c.args.name.now)) is) ∙ sym c.admit_refusal.ensures ∙ c.in_default.is in
    let may = may_join c.self.inside c.args.self.now c.self.view_is c.requires.may.delivered c.requires.may.standing c.args.i c.requires.may.within c.index.result.now c.index.ensures c.args.name.now none in
    ap (λ g. is_in g.next_id (ids (admitted g (c.args.i + 1) c.args.name.now))) is ∙ may.stands

pub ask-requires-clause-ready : goal.ask-requires-clause-ready
ask-requires-clause-ready c =
    is_ready c.self.inside c.args.self.now c.self.view_is c.requires.may.standing c.args.i c.requires.may.within c.index_mut-party.result.now
    (c.index_mut-party.ensures.value ∙ ap (λ ms. get_or ms c.args.i c.index_mut-party.result.now) c.reserve.ensures.items)

pub ask-requires-clause-here : goal.ask-requires-clause-here
ask-requires-clause-here c = here c.self.inside c.args.self.now c.self.view_is c.requires.may.standing

pub returns-in-Err-clause-judged : goal.returns-in-Err-clause-judged
returns-in-Err-clause-judged c =
    let is = c.view-view.ensures.newest in
    let none = sym (ap (λ g. up_refused (shown_in c.index.result.now).held (admission_refused g c.args.name.now)) is) ∙ sym c.admit_refusal.ensures ∙ c.in_default.is in
    let may = may_join c.self.inside c.args.self.now c.self.view_is c.requires.may.delivered c.requires.may.standing c.args.i c.requires.may.within c.index.result.now c.index.ensures c.args.name.now none in
    let value = c.index_mut-party.ensures.value ∙ ap (λ ms. get_or ms c.args.i c.index_mut-party.result.now) c.reserve.ensures.items in
    let id : c.index_mut-party.result.now.node.id.0 ≡ c.args.i + 1 = id_is c.self.inside c.args.self.now c.self.view_is c.requires.may.standing c.args.i c.requires.may.within c.index_mut-party.result.now value in
    let same : shown_in c.index.result.now ≡ shown_in c.index_mut-party.result.now =
    shown_is c.self.inside c.args.self.now c.self.view_is c.args.i c.requires.may.within c.index.result.now c.index.ensures
    ∙ sym (shown_is c.self.inside c.args.self.now c.self.view_is c.args.i c.requires.may.within c.index_mut-party.result.now value) in
    let asks : ask_refused c.self.inside.registrar (shown_in c.index_mut-party.result.now) (Admit c.args.name.now) ≡ None =
    up_later (shown_in c.index_mut-party.result.now).held (admission_refused (newest c.self.inside.registrar) c.args.name.now) (group_refusal (newest c.self.inside.registrar).entries c.index_mut-party.result.now.node.id.0 c.args.name.now)
    (sym (ap (λ (m : Shown). up_refused m.held (admission_refused (newest c.self.inside.registrar) c.args.name.now)) same) ∙ none)
    (ap (λ x. group_refusal (newest c.self.inside.registrar).entries x c.args.name.now) id ∙ may.allowed) in
    record { enabled = search rules; reason = λ r x. absurd (none-some r (sym asks ∙ c.in-Err.ensures.judged.reason r x)) }

pub returns-in-Err-clause-err : goal.returns-in-Err-clause-err
returns-in-Err-clause-err c =
    let value = c.index_mut-party.ensures.value ∙ ap (λ ms. get_or ms c.args.i c.index_mut-party.result.now) c.reserve.ensures.items in
    ap (λ ms. seen_as (set ms c.args.i (record c.index_mut-party.result.now { node = c.ask.new.node })) c.ask.new.registrar c.self.inside.pending_deposit) c.reserve.ensures.items
    ∙ ap (λ r. seen_as (set c.self.inside.members.items c.args.i (record c.index_mut-party.result.now { node = c.ask.new.node })) r c.self.inside.pending_deposit) c.in-Err.ensures.err.1
    ∙ unchanged c.self.inside c.args.self.now c.self.view_is c.args.i c.requires.may.within c.index_mut-party.result.now c.ask.new.node value c.in-Err.ensures.err.0

pub returns-clause-ok : goal.returns-clause-ok
returns-clause-ok c =
    let looked = c.in-Ok-ask.looked in
    let value = c.index_mut-party.ensures.value ∙ ap (λ ms. get_or ms c.args.i c.index_mut-party.result.now) c.reserve.ensures.items in
    let l = inside c.self.inside c.args.self.now c.self.view_is c.args.i c.requires.may.within in
    let old = bare c.self.inside c.args.self.now c.self.view_is c.requires.may.delivered in
    let ns = c.self.inside.members.items in
    let party = record c.index_mut-party.result.now { node = c.ask.new.node } in
    let ns' = set ns c.args.i party in
    let r = c.self.inside.registrar in
    let name = c.args.name.now in
    let v = admitted (newest r) (c.args.i + 1) name in
    let id : c.index_mut-party.result.now.node.id.0 ≡ c.args.i + 1 = id_is c.self.inside c.args.self.now c.self.view_is c.requires.may.standing c.args.i c.requires.may.within c.index_mut-party.result.now value in
    let has_looked = subst (λ x. HasLooked (admitted (newest r) x name) (shown_in c.index_mut-party.result.now) (shown_of c.ask.new.node) (pending_shown looked.opened) (replaced_seen looked.replaced)) id c.in-Ok-ask.ensures.ok in
    let follows = c.in-Ok-ask.ensures.registrar ∙ ap (λ x. with_view r (admitted (newest r) x name)) id in
    let made = c.in-Ok.ensures ∙ ap (λ g. joined c.args.credit name g.next_id (admitted g (c.args.i + 1) name) (shown_of c.in-Ok.node).ends.link) c.view-view.ensures.newest in
    let seated = c.seat.ensures ∙ ap (λ (m : Shown). record m { ends = record m.ends { link = at_some (pending_shown looked.opened) None (λ (d : Deposit). d.end) } }) made in
    let members = c.push_reserved.ensures ∙ ap (λ ms. set ms c.args.i party ++ c.joining.result ∷ []) c.reserve.ensures.items in
    subst (λ p. AdmitsAt name c.args.i p (parties c.push_reserved.new.members.items c.ask.new.registrar (behind c.self.inside.pending_deposit)) (replaced_seen looked.replaced)) (sym old)
    (subst (λ p. AdmitsAt name c.args.i (parties ns r []) p (replaced_seen looked.replaced)) (sym (none_behind c.self.inside c.args.self.now c.self.view_is c.requires.may.delivered c.push_reserved.new.members.items c.ask.new.registrar))
    (subst (λ ms. AdmitsAt name c.args.i (parties ns r []) (parties ms c.ask.new.registrar []) (replaced_seen looked.replaced)) (sym members) (
      c.args.credit,
      subst (λ q. HasCredit c.args.credit (node_at q c.args.i).held) old c.requires.credit,
      lets_in v c.args.credit name (newest r).next_id c.args.i ns ns' c.joining.result r c.ask.new.registrar looked.opened (replaced_seen looked.replaced)
          (at_read (λ a b. HasLooked v a b (pending_shown looked.opened) (replaced_seen looked.replaced)) ns c.args.i c.index_mut-party.result.now party l value has_looked)
          (written_shown ns c.args.i party l) (c.joining.ensures.shown ∙ seated) follows,
    )))

pub returns-clause-keeps : goal.returns-clause-keeps
returns-clause-keeps c =
    let value = c.index_mut-party.ensures.value ∙ ap (λ ms. get_or ms c.args.i c.index_mut-party.result.now) c.reserve.ensures.items in
    let party = record c.index_mut-party.result.now { node = c.ask.new.node } in
    let ns' = set c.self.inside.members.items c.args.i party in
    let members = c.push_reserved.ensures ∙ ap (λ ms. set ms c.args.i party ++ c.joining.result ∷ []) c.reserve.ensures.items in
    ap (map keeps_in) members
    ∙ map-append keeps_in ns' (c.joining.result ∷ [])
    ∙ ap (λ ks. ks ++ keeps_in c.joining.result ∷ []) (still_kept c.self.inside c.args.self.now c.self.view_is c.args.i c.requires.may.within c.index_mut-party.result.now party value refl)
    ∙ ap (λ k. (c.args.self.now).keeps ++ k ∷ []) c.joining.ensures.keeps
