use Rattle.std.proofs.Common.{Some, ap, subst, ◌∙◌}
use Rattle.gm_member.specs.Held.{Held, first_out}
use Rattle.gm_member.specs.Shown.{SendsOn}
use Rattle.gm_member.proofs.Moving.{sends_from}
use Rattle.gm_member.proofs.Ready.{keeps_same, keeps_ready}
use Rattle.gm_member.proofs.member.Member.read.Goals as goal

pub returns-clause-held : goal.returns-clause-held
returns-clause-held g c r =
    c.send_to.ensures.held (keeps_ready g.O.LinkPair.are_fresh g.O.LinkOut.free g.O.LinkOut.ended c.args.self.now c.look.new.self
    (keeps_same c.args.self.now c.look.new.self c.look.ensures.same c.look.ensures.others c.look.ensures.kept) r)
    ∙ ap (λ (h : Held). record h { out = Some (first_out h c.args.to.0) }) c.look.ensures.held

pub returns-clause-sends : goal.returns-clause-sends
returns-clause-sends g c r =
    let same = c.look.ensures.same in
    subst (λ v. SendsOn g.O.LinkPair.are_fresh g.O.LinkOut.free g.O.LinkOut.ended g.O.LinkOut.puts v.version c.args.to c.args.self.now c.send_to.new.self c.send_to.result.items) c.look.ensures.view
    (sends_from g.O.LinkPair.are_fresh g.O.LinkOut.free g.O.LinkOut.ended g.O.LinkOut.puts c.look.new.self.view.version c.args.to c.args.self.now c.look.new.self c.send_to.new.self c.send_to.result.items
    same.0 same.1 same.2 c.look.ensures.others.0 (ap (λ xs. xs.items) c.look.ensures.others.1)
    (c.send_to.ensures.sends (keeps_ready g.O.LinkPair.are_fresh g.O.LinkOut.free g.O.LinkOut.ended c.args.self.now c.look.new.self (keeps_same c.args.self.now c.look.new.self same c.look.ensures.others c.look.ensures.kept) r)))
