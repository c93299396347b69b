use Rattle.std.proofs.Common.{◌≡◌, ◌-◌, None, Some, sym, ap, ◌∙◌}
use Rattle.std.specs.Prelude.{option_map}
use Rattle.ring_names.specs.declared.reason.Reason.TheVariants as reason
use Rattle.group_view.specs.View.{number}
use Rattle.ring_rules.specs.declared.event.Event.TheVariants.{Erase}
use Rattle.registrar.specs.Asked.{erase_refusal}
use Rattle.activity.specs.Kept.{got_of}
use Rattle.gm_member.specs.Packets.{known_at}
use Rattle.gm_member.specs.Held.{up_refused}
use Rattle.gm_member.proofs.DoorParts.{up_past}
use Rattle.ring_parties.specs.Behind.{behind}
use Rattle.ring_parties.specs.Parties.{PartiesSeen, Shown, node_at}
use Rattle.ring_parties.specs.Refused.{id_named}
use Rattle.ring_parties.proofs.events.Kinds.{told_as}
use Rattle.ring_parties.proofs.events.Reads.{up_first, erase_reads, erase_reads_unknown}
use Rattle.ring_parties.proofs.deposits.Delivered.{shown_is, asks_nothing}
use Rattle.ring_parties.proofs.parties.Parties.erase_refusal.Goals as goal

pub unknown-requires : goal.unknown-requires
unknown-requires c = asks_nothing c.self.inside c.args.self.now c.self.view_is c.requires.standing c.args.i c.requires.within c.index.result.now c.index.ensures

pub returns-in_default : goal.returns-in_default
returns-in_default c = λ by. told_as c.args.i (Erase by c.args.origin.now) (c.args.self.now).all _ (λ credit names events s lt.
    let shown = shown_is c.self.inside c.args.self.now c.self.view_is c.args.i c.requires.within c.index.result.now c.index.ensures in
    sym c.unknown.ensures
    ∙ ap (λ (m : Shown). up_refused m.held (Some reason.UnknownMember)) shown
    ∙ erase_reads_unknown credit names events (c.args.self.now).all s c.args.i lt c.args.origin.now (c.id_named.ensures.id ∙ ap (option_map number) c.in_default.is))

pub up_refusal-requires : goal.up_refusal-requires
up_refusal-requires c = asks_nothing c.self.inside c.args.self.now c.self.view_is c.requires.standing c.args.i c.requires.within c.index.result.now c.index.ensures

pub returns-in-Some-up_refusal : goal.returns-in-Some-up_refusal
returns-in-Some-up_refusal c = λ by. told_as c.args.i (Erase by c.args.origin.now) (c.args.self.now).all _ (λ credit names events s lt.
    let q = (c.args.self.now).all in
    let named : id_named q c.args.origin.now ≡ Some c.in-Some.id.0 = c.id_named.ensures.id ∙ ap (option_map number) c.in-Some.is in
    let shown = shown_is c.self.inside c.args.self.now c.self.view_is c.args.i c.requires.within c.index.result.now c.index.ensures in
    let h = (node_at q c.args.i).held in
    let p = c.in-Some.id.0 in
    let refused : up_refused h None ≡ Some c.in-Some-up_refusal.reason = ap (λ (m : Shown). up_refused m.held None) (sym shown) ∙ sym c.up_refusal.ensures ∙ c.in-Some-up_refusal.is in
    sym (up_first h (erase_refusal c.self.inside.registrar h.id p (got_of (known_at h.known (p - 1))) (known_at h.known (p - 1)).retired h.view.version) c.in-Some-up_refusal.reason refused)
    ∙ erase_reads credit names events q s c.args.i lt c.self.inside.members.items c.self.inside.registrar (behind c.self.inside.pending_deposit) (sym (ap (λ (x : PartiesSeen). x.all) c.self.view_is)) c.args.origin.now p named)

pub returns : goal.returns
returns c = λ by. told_as c.args.i (Erase by c.args.origin.now) (c.args.self.now).all _ (λ credit names events s lt.
    let q = (c.args.self.now).all in
    let named : id_named q c.args.origin.now ≡ Some c.in-Some.id.0 = c.id_named.ensures.id ∙ ap (option_map number) c.in-Some.is in
    let shown = shown_is c.self.inside c.args.self.now c.self.view_is c.args.i c.requires.within c.index.result.now c.index.ensures in
    let h = (node_at q c.args.i).held in
    let r = c.self.inside.registrar in
    let p = c.in-Some.id.0 in
    let up : up_refused h None ≡ None = ap (λ (m : Shown). up_refused m.held None) (sym shown) ∙ sym c.up_refusal.ensures ∙ c.in_default-up_refusal.is in
    let id : c.id.result.0 ≡ h.id = c.id.ensures ∙ ap (λ (m : Shown). m.held.id) shown in
    let version : c.behind-node.inside.version ≡ h.view.version = ap (λ g. g.version) (c.behind-node.view_is ∙ c.view.ensures) ∙ ap (λ (m : Shown). m.held.view.version) shown in
    c.refusal.ensures
    ∙ ap (λ x. erase_refusal r x p c.numbers_of-kept.result.got c.numbers_of-kept.result.retired c.behind-node.inside.version) id
    ∙ ap (λ n. erase_refusal r h.id p n c.numbers_of-kept.result.retired c.behind-node.inside.version) (c.numbers_of-kept.ensures.got ∙ ap (λ (m : Shown). got_of (known_at m.held.known (p - 1))) shown)
    ∙ ap (λ n. erase_refusal r h.id p (got_of (known_at h.known (p - 1))) n c.behind-node.inside.version) (c.numbers_of-kept.ensures.retired ∙ ap (λ (m : Shown). (known_at m.held.known (p - 1)).retired) shown)
    ∙ ap (erase_refusal r h.id p (got_of (known_at h.known (p - 1))) (known_at h.known (p - 1)).retired) version
    ∙ sym (up_past h (erase_refusal r h.id p (got_of (known_at h.known (p - 1))) (known_at h.known (p - 1)).retired h.view.version) up)
    ∙ erase_reads credit names events q s c.args.i lt c.self.inside.members.items r (behind c.self.inside.pending_deposit) (sym (ap (λ (x : PartiesSeen). x.all) c.self.view_is)) c.args.origin.now p named)
