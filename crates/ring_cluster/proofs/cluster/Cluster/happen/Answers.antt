use Rattle.std.proofs.Common.{◌≡◌, ap, sym, subst, ◌∙◌}
use Rattle.std.specs.Prelude.{OnErr}
use Rattle.std.proofs.lemmas.Result.{on_ok_weaker}
use Rattle.ring_rules.specs.Event.{refusal}
use Rattle.ring_cluster.specs.Kept.{seen_of}
use Rattle.ring_parties.specs.Parties.{PartiesSeen}
use Rattle.ring_cluster.specs.Seen.{state_of, collected_by, collecting, with_event}
use Rattle.ring_parties.specs.States.{state, IsEventIn}
use Rattle.ring_cluster.proofs.deposits.Owed.{on_err_both}
use Rattle.ring_cluster.proofs.cluster.Cluster.happen.Goals as goal

pub step-requires-clause-at : goal.step-requires-clause-at
step-requires-clause-at c =
    subst (λ ns. IsEventIn (state c.self.inside.credit ns c.self.inside.journal.items) c.args.place c.args.event.now) (sym c.deref.ensures.value)
    (subst (λ x. IsEventIn (state_of x) c.args.place c.args.event.now) (sym c.self.view_is) c.requires)

pub returns-clause-refused : goal.returns-clause-refused
returns-clause-refused c = λ r e.
    let told = c.step.ensures.refused r
    (ap (λ ns. refusal (state c.self.inside.credit ns c.self.inside.journal.items) c.args.event.now) c.deref.ensures.value ∙ ap (λ x. refusal (state_of x) c.args.event.now) c.self.view_is ∙ e) in
    let journal = subst (λ x. OnErr x (c.step.new.journal.items ≡ c.self.inside.journal.items)) told.0 c.step.ensures.err in (
      told.0,
      ap (λ (p : PartiesSeen). record (seen_of c.self.inside) { events = c.step.new.journal.items; owes = p.owes; collected = collected_by p.all }) told.1
          ∙ ap (λ es. record (seen_of c.self.inside) { events = es }) journal
          ∙ c.self.view_is,
    )

pub returns-clause-ok : goal.returns-clause-ok
returns-clause-ok c =
    let q = c.step.new.self in
    on_ok_weaker c.step.result
    (λ is. (
      (q.owes, collected_by q.all),
      ap (λ es. collecting (q.owes, collected_by q.all) (record (seen_of c.self.inside) { events = es })) is
          ∙ ap (λ x. collecting (q.owes, collected_by q.all) (with_event x c.args.event.now)) c.self.view_is,
    ))
    c.step.ensures.ok

pub returns-clause-err : goal.returns-clause-err
returns-clause-err c =
    let q = c.step.new.self in
    on_err_both c.step.result
    (λ is mono. (
      (q.owes, collected_by q.all),
      ap (λ es. collecting (q.owes, collected_by q.all) (record (seen_of c.self.inside) { events = es })) is
          ∙ ap (collecting (q.owes, collected_by q.all)) c.self.view_is,
      λ e. sym (ap (λ x. x.owes) c.self.view_is) ∙ mono e,
    ))
    c.step.ensures.err c.step.ensures.owes
