use Rattle.std.proofs.Common.{sym, ap, subst, ⊎_elim, ◌∙◌}
use Rattle.std.specs.Prelude.{IfOk}
use Rattle.ring_rules.specs.declared.kind.Kind.TheVariants as shown
use Rattle.ring_rules.specs.Kind.{kind_of}
use Rattle.ring_rules.proofs.events.Kinds.{kind_read}
use Rattle.ring_parties.specs.Keeps.{keeps_at}
use Rattle.ring_parties.specs.Looking.{replaced_seen}
use Rattle.ring_parties.specs.Acting.{is_alone, Acts}
use Rattle.ring_parties.specs.Refused.{marked_in}
use Rattle.ring_parties.proofs.deposits.Delivered.{asks_nothing}
use Rattle.ring_parties.proofs.parties.Parties.act.Goals as goal

pub act_alone-requires-clause-alone : goal.act_alone-requires-clause-alone
act_alone-requires-clause-alone c = ⊎_elim (λ e. ap is_alone (sym c.kind.ensures ∙ e)) (λ w. ap is_alone (sym c.kind.ensures ∙ w.1)) c.in-Says.is

pub returns-in-Changes-clause-ok : goal.returns-in-Changes-clause-ok
returns-in-Changes-clause-ok c =
    let q = (c.args.self.now).all in
    subst (λ k. IfOk c.act_change.result (λ replaced. Acts k (keeps_at (c.args.self.now).keeps c.args.i) c.args.i (marked_in k q) q (c.act_change.new.self).all (replaced_seen replaced)))
    (sym (kind_read (kind_of c.args.event.now) (shown.Changes c.in-Changes.change) (sym c.in-Changes.is ∙ c.kind.ensures))) c.act_change.ensures.ok

pub no_copy-requires : goal.no_copy-requires
no_copy-requires c = asks_nothing c.self.inside c.args.self.now c.self.view_is c.requires.may.standing c.args.i c.requires.may.within c.index.result.now c.index.ensures
