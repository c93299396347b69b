use Rattle.std.proofs.Common.{◌≡◌, false, Some, refl, sym, ap, ◌∙◌, rules}
use Rattle.ring_rules.specs.View.{right_of}
use Rattle.ring_rules.specs.Machine.{runs_phase}
use Rattle.gm_member.specs.Held.{Held, answered_held, looked_held, first_out, sends_to}
use Rattle.gm_member.specs.declared.member.Member.{Member}
use Rattle.gm_member.specs.Shown.{held_of}
use Rattle.gm_member.specs.Calls.{SameSelf, KeepsOuts}
use Rattle.gm_member.proofs.Moving.{refreshed_moves, sends_from, when_not, when_so}
use Rattle.gm_member.proofs.Ready.{keeps_same, keeps_ready}
use Rattle.gm_member.proofs.member.Member.read_answer.Goals as goal

pub returns-clause-reads : goal.returns-clause-reads
returns-clause-reads g c sound =
    let elsewhere : sends_to (held_of c.args.self.now).out (right_of c.args.view c.args.self.now.id.0) ≡ false =
    ap (sends_to (held_of c.args.self.now).out) (sym c.right-to.ensures) ∙ sym c.sends_to.ensures ∙ c.if-sends_to.false in
    let same = c.be_ready.ensures.same in
    let ready = λ (n : Member g.row.O.Denot g.row.I.Denot g.O.LinkOut) (k : SameSelf c.be_ready.new.self n) (outs : KeepsOuts c.be_ready.new.self n) (e : n.spare ≡ c.be_ready.new.self.spare).
    keeps_ready g.O.LinkPair.are_fresh g.O.LinkOut.free g.O.LinkOut.ended c.be_ready.new.self n (keeps_same c.be_ready.new.self n k outs e) (c.in-Ok.ensures.ready sound) in
    record {
      ok =
          c.read.ensures.held (ready _ (refl, refl, refl, refl) (refl, refl) refl)
          ∙ ap (λ (h : Held). record (looked_held (answered_held h) c.args.view) { out = Some (first_out (looked_held h c.args.view) c.right-to.result.0) }) c.be_ready.ensures.held
          ∙ refreshed_moves (answered_held (held_of c.args.self.now)) c.args.view c.right-to.result.0 elsewhere c.right-to.ensures;
      links = search rules;
      moves = when_not _ _ _ elsewhere (
        c.right-to.result,
        c.right-to.ensures,
        sends_from g.O.LinkPair.are_fresh g.O.LinkOut.free g.O.LinkOut.ended g.O.LinkOut.puts c.args.view.version c.right-to.result c.args.self.now _ c.read.new.self c.read.result.items
            same.0 same.1 same.2 c.be_ready.ensures.ends.0 c.be_ready.ensures.ends.3 (c.read.ensures.sends (ready _ (refl, refl, refl, refl) (refl, refl) refl)),
      );
      err = tt;
      err_ends = tt;
      ready = when_so (runs_phase c.read.new.self.phase) _ c.read.ensures.open;
      kept = tt;
    }
