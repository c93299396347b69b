use Rattle.std.proofs.Common.{◌≡◌, None, Some, sym, ap, ◌∙◌}
use Rattle.ring_rules.specs.declared.event.Event.TheVariants.{Synced}
use Rattle.registrar.specs.Asked.{synced_refusal}
use Rattle.gm_member.specs.Held.{up_refused}
use Rattle.gm_member.proofs.DoorParts.{up_past}
use Rattle.ring_parties.specs.Behind.{behind}
use Rattle.ring_parties.specs.Keeps.{keeps_at}
use Rattle.ring_parties.specs.Parties.{PartiesSeen, Shown, Keeps, node_at}
use Rattle.ring_parties.specs.States.{state}
use Rattle.ring_parties.proofs.events.After.{kept_there}
use Rattle.ring_parties.proofs.events.Kinds.{told_by}
use Rattle.ring_parties.proofs.events.Reads.{up_first, synced_reads}
use Rattle.ring_parties.proofs.deposits.Delivered.{shown_is, keeps_is, asks_nothing}
use Rattle.ring_parties.proofs.parties.Parties.register_refusal.Goals as goal

pub up_refusal-requires : goal.up_refusal-requires
up_refusal-requires c = asks_nothing c.self.inside c.args.self.now c.self.view_is c.requires.standing c.args.i c.requires.within c.index-party.result.now c.index-party.ensures

pub returns-in-Some : goal.returns-in-Some
returns-in-Some c = λ by. told_by c.args.i (Synced by) c.args.self.now _ (λ credit names events s keeps lt.
    let q = (c.args.self.now).all in
    let ks = (c.args.self.now).keeps in
    let shown = shown_is c.self.inside c.args.self.now c.self.view_is c.args.i c.requires.within c.index-party.result.now c.index-party.ensures in
    let h = (node_at q c.args.i).held in
    let r = c.self.inside.registrar in
    let refused : up_refused h None ≡ Some c.in-Some.reason = ap (λ (m : Shown). up_refused m.held None) (sym shown) ∙ sym c.up_refusal.ensures ∙ c.in-Some.is in
    sym (up_first h (synced_refusal r h.id (keeps_at ks c.args.i).mirror.missing) c.in-Some.reason refused)
    ∙ synced_reads credit names events q s c.args.i lt c.self.inside.members.items r (behind c.self.inside.pending_deposit) (sym (ap (λ (x : PartiesSeen). x.all) c.self.view_is)) (keeps_at ks c.args.i) (kept_there (state credit names events) ks c.args.i keeps lt))

pub returns : goal.returns
returns c = λ by. told_by c.args.i (Synced by) c.args.self.now _ (λ credit names events s keeps lt.
    let q = (c.args.self.now).all in
    let ks = (c.args.self.now).keeps in
    let shown = shown_is c.self.inside c.args.self.now c.self.view_is c.args.i c.requires.within c.index-party.result.now c.index-party.ensures in
    let kept = keeps_is c.self.inside c.args.self.now c.self.view_is c.args.i c.requires.within c.index-party.result.now c.index-party.ensures in
    let h = (node_at q c.args.i).held in
    let r = c.self.inside.registrar in
    let up : up_refused h None ≡ None = ap (λ (m : Shown). up_refused m.held None) (sym shown) ∙ sym c.up_refusal.ensures ∙ c.in_default.is in
    let id : c.id.result.0 ≡ h.id = c.id.ensures ∙ ap (λ (m : Shown). m.held.id) shown in
    let missing : c.missing.result ≡ (keeps_at ks c.args.i).mirror.missing = c.missing.ensures ∙ ap (λ (k : Keeps). k.mirror.missing) kept in
    c.refusal.ensures
    ∙ ap (λ x. synced_refusal r x c.missing.result) id
    ∙ ap (synced_refusal r h.id) missing
    ∙ sym (up_past h (synced_refusal r h.id (keeps_at ks c.args.i).mirror.missing) up)
    ∙ synced_reads credit names events q s c.args.i lt c.self.inside.members.items r (behind c.self.inside.pending_deposit) (sym (ap (λ (x : PartiesSeen). x.all) c.self.view_is)) (keeps_at ks c.args.i) (kept_there (state credit names events) ks c.args.i keeps lt))
