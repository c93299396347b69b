use Rattle.std.proofs.Common.{sym, subst}
use Rattle.std.specs.Prelude.{IfOk}
use Rattle.ring_rules.specs.Kind.{Changes}
use Rattle.ring_parties.specs.Keeps.{keeps_at}
use Rattle.ring_parties.specs.Looking.{replaced_seen}
use Rattle.ring_parties.specs.Acting.{Acts}
use Rattle.ring_parties.specs.Refused.{marked_in}
use Rattle.ring_parties.proofs.parties.Parties.act_change.Goals as goal

pub returns-in-Mark-clause-ok : goal.returns-in-Mark-clause-ok
returns-in-Mark-clause-ok c =
    let q = (c.args.self.now).all in
    subst (λ k. IfOk c.act_mark.result (λ replaced. Acts (Changes k) (keeps_at (c.args.self.now).keeps c.args.i) c.args.i (marked_in (Changes k) q) q (c.act_mark.new.self).all (replaced_seen replaced))) (sym c.in-Mark.is) c.act_mark.ensures.ok

pub returns-in-Erase-clause-ok : goal.returns-in-Erase-clause-ok
returns-in-Erase-clause-ok c =
    let q = (c.args.self.now).all in
    subst (λ k. IfOk c.act_erase.result (λ replaced. Acts (Changes k) (keeps_at (c.args.self.now).keeps c.args.i) c.args.i (marked_in (Changes k) q) q (c.act_erase.new.self).all (replaced_seen replaced))) (sym c.in-Erase.is) c.act_erase.ensures.ok

pub returns-in-Register-clause-ok : goal.returns-in-Register-clause-ok
returns-in-Register-clause-ok c =
    let q = (c.args.self.now).all in
    subst (λ k. IfOk c.act_register.result (λ replaced. Acts (Changes k) (keeps_at (c.args.self.now).keeps c.args.i) c.args.i (marked_in (Changes k) q) q (c.act_register.new.self).all (replaced_seen replaced))) (sym c.in-Register.is) c.act_register.ensures.ok
