use Rattle.std.proofs.Common.{refl, sym, ap, subst, ◌∙◌}
use Rattle.ring_rules.specs.declared.event.Event.TheVariants.{Mark, Erase, Synced}
use Rattle.ring_rules.specs.declared.kind.ViewChange.TheVariants as change
use Rattle.ring_rules.specs.Kind.{Changes}
use Rattle.gm_member.specs.Held.{up_refused}
use Rattle.ring_parties.specs.Parties.{PartiesSeen, Shown, shown_in}
use Rattle.ring_parties.specs.Acting.{newest_of}
use Rattle.ring_parties.specs.Refused.{admission_refused, IsRefusedBy}
use Rattle.ring_parties.proofs.events.Kinds.{as_told, told_anyhow}
use Rattle.ring_parties.proofs.events.Reads.{admit_reads}
use Rattle.ring_parties.proofs.deposits.Delivered.{shown_is, asks_nothing}
use Rattle.ring_parties.proofs.parties.Parties.change_refusal.Goals as goal

pub returns-in-Mark : goal.returns-in-Mark
returns-in-Mark c =
    let dead = c.in-Mark.dead in
    subst (λ k. IsRefusedBy c.args.i (Changes k) c.args.self.now c.mark_refusal.result) (sym c.in-Mark.is)
    (as_told c.args.i (λ by. Mark by dead) (Changes (change.Mark dead)) c.args.self.now c.mark_refusal.result (λ by. (refl, refl))
    (λ by. told_anyhow c.args.i (Mark by dead) c.args.self.now c.mark_refusal.result (c.mark_refusal.ensures by)))

pub returns-in-Erase : goal.returns-in-Erase
returns-in-Erase c =
    let origin = c.in-Erase.origin in
    subst (λ k. IsRefusedBy c.args.i (Changes k) c.args.self.now c.erase_refusal.result) (sym c.in-Erase.is)
    (as_told c.args.i (λ by. Erase by origin) (Changes (change.Erase origin)) c.args.self.now c.erase_refusal.result (λ by. (refl, refl))
    (λ by. told_anyhow c.args.i (Erase by origin) c.args.self.now c.erase_refusal.result (c.erase_refusal.ensures by)))

pub admit_refusal-requires : goal.admit_refusal-requires
admit_refusal-requires c = asks_nothing c.self.inside c.args.self.now c.self.view_is c.requires.standing c.args.i c.requires.within c.index.result.now c.index.ensures

pub returns-in-Admit : goal.returns-in-Admit
returns-in-Admit c =
    let q = (c.args.self.now).all in
    let name = c.in-Admit.name in
    subst (λ k. IsRefusedBy c.args.i (Changes k) c.args.self.now c.admit_refusal.result) (sym c.in-Admit.is) (λ credit names events s keeps lt.
    c.admit_refusal.ensures
    ∙ ap (λ g. up_refused (shown_in c.index.result.now).held (admission_refused g name)) (c.view.ensures.newest ∙ ap (λ (x : PartiesSeen). newest_of x.all) c.self.view_is)
    ∙ ap (λ (m : Shown). up_refused m.held (admission_refused (newest_of q) name)) (shown_is c.self.inside c.args.self.now c.self.view_is c.args.i c.requires.within c.index.result.now c.index.ensures)
    ∙ admit_reads credit names events q s c.args.i lt name)

pub returns-in-Register : goal.returns-in-Register
returns-in-Register c =
    subst (λ k. IsRefusedBy c.args.i (Changes k) c.args.self.now c.register_refusal.result) (sym c.in-Register.is)
    (as_told c.args.i (λ by. Synced by) (Changes change.Register) c.args.self.now c.register_refusal.result (λ by. (refl, refl)) c.register_refusal.ensures)
