use Rattle.std.proofs.Common.{◌≡◌, ◌+◌, ℕ, refl, sym, ap, subst, ◌∙◌}
use Rattle.ring_rules.specs.declared.kind.LinkStep.{LinkStep}
use Rattle.ring_rules.specs.declared.kind.ViewChange.{ViewChange}
use Rattle.ring_rules.specs.declared.kind.Kind.TheVariants as shown
use Rattle.ring_rules.specs.Kind.{Kind, Steps, Changes, kind_of, shown_kind, step_event}
use Rattle.ring_rules.proofs.events.Kinds.{kind_read, step_by, step_kind}
use Rattle.ring_parties.specs.States.{state}
use Rattle.ring_parties.specs.Keeps.{keeps_at}
use Rattle.ring_parties.specs.Parties.{PartiesSeen, Parties, shown_in, keeps_in, node_at}
use Rattle.ring_parties.specs.Acting.{newest_of}
use Rattle.ring_parties.specs.Refused.{own_refused, IsRefusedBy}
use Rattle.ring_parties.proofs.events.Kinds.{as_told, told_by, told_anyhow}
use Rattle.ring_parties.proofs.events.After.{kept_there}
use Rattle.ring_parties.proofs.events.Refusals.{IsOwn}
use Rattle.ring_parties.proofs.events.Reads.{own_reads}
use Rattle.ring_parties.proofs.deposits.Delivered.{shown_is, keeps_is, asks_nothing}
use Rattle.ring_parties.proofs.parties.Parties.refusal.Goals as goal

-- what is neither a step nor a change needs no more
others_own : (k : Kind) (x : ℕ) (q : Parties) → ((c : ViewChange) → shown_kind k ≡ shown.Changes c → ⊥) → ((s : LinkStep) → shown_kind k ≡ shown.Links s → ⊥) → IsOwn k x q
others_own (Changes c) x q changes links = absurd (changes c refl)
others_own (Steps s) x q changes links = absurd (links s refl)
others_own k x q changes links = tt

pub returns-in-Changes : goal.returns-in-Changes
returns-in-Changes c = told_by c.args.i c.args.event.now c.args.self.now _
    (subst (λ k. IsRefusedBy c.args.i k c.args.self.now c.change_refusal.result) (sym (kind_read (kind_of c.args.event.now) (shown.Changes c.in-Changes.change) (sym c.in-Changes.is ∙ c.kind.ensures))) c.change_refusal.ensures)

pub returns-in-Links : goal.returns-in-Links
returns-in-Links c = told_by c.args.i c.args.event.now c.args.self.now _
    (subst (λ k. IsRefusedBy c.args.i k c.args.self.now c.step_refusal.result) (sym (kind_read (kind_of c.args.event.now) (shown.Links c.in-Links.step) (sym c.in-Links.is ∙ c.kind.ensures)))
    (as_told c.args.i (step_event c.in-Links.step) (Steps c.in-Links.step) c.args.self.now c.step_refusal.result (λ by. (step_by c.in-Links.step by, step_kind c.in-Links.step by))
    (λ by. told_anyhow c.args.i (step_event c.in-Links.step by) c.args.self.now c.step_refusal.result (c.step_refusal.ensures by))))

pub own_refusal-requires : goal.own_refusal-requires
own_refusal-requires c = asks_nothing c.self.inside c.args.self.now c.self.view_is c.requires.standing c.args.i c.requires.within c.index.result.now c.index.ensures

pub returns-in_default : goal.returns-in_default
returns-in_default c = told_by c.args.i c.args.event.now c.args.self.now _ (λ credit names events s keeps lt.
    let q = (c.args.self.now).all in
    let ks = (c.args.self.now).keeps in
    let k = kind_of c.args.event.now in
    c.own_refusal.ensures
    ∙ ap (λ g. own_refused g (keeps_in c.index.result.now) k (shown_in c.index.result.now)) (c.view.ensures.newest ∙ ap (λ (x : PartiesSeen). newest_of x.all) c.self.view_is)
    ∙ ap (λ m. own_refused (newest_of q) (keeps_in c.index.result.now) k m) (shown_is c.self.inside c.args.self.now c.self.view_is c.args.i c.requires.within c.index.result.now c.index.ensures)
    ∙ ap (λ m. own_refused (newest_of q) m k (node_at q c.args.i)) (keeps_is c.self.inside c.args.self.now c.self.view_is c.args.i c.requires.within c.index.result.now c.index.ensures)
    ∙ own_reads credit names events q s c.args.i lt (keeps_at ks c.args.i) k (kept_there (state credit names events) ks c.args.i keeps lt) (others_own k (c.args.i + 1) q (λ x e. c.in_default.not-Changes x (c.kind.ensures ∙ e)) (λ x e. c.in_default.not-Links x (c.kind.ensures ∙ e))))
