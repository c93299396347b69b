use Rattle.std.proofs.Common.{◌≡◌, false, Some, sym, ap, ◌∙◌, rules}
use Rattle.ring_rules.specs.View.{right_of}
use Rattle.ring_rules.specs.Machine.{runs_phase}
use Rattle.gm_member.specs.Held.{Held, looked_held, first_out, sends_to}
use Rattle.gm_member.specs.Shown.{held_of}
use Rattle.gm_member.proofs.Moving.{refreshed_moves, sends_from, when_not, when_so}
use Rattle.gm_member.proofs.member.Member.refresh_next.Goals as goal

pub returns-clause-reads : goal.returns-clause-reads
returns-clause-reads g c =
    let elsewhere : sends_to (held_of c.args.self.now).out (right_of c.args.view c.args.self.now.id.0) ≡ false =
    ap (sends_to (held_of c.args.self.now).out) (sym c.right-to.ensures) ∙ sym c.sends_to.ensures ∙ c.if-sends_to.false in
    let same = c.prepare.ensures.same in
    record {
      ok =
          c.read-requests.ensures.held c.in-Ok.ensures.ready
          ∙ ap (λ (h : Held). record (looked_held h c.args.view) { out = Some (first_out (looked_held h c.args.view) c.right-to.result.0) }) c.prepare.ensures.held
          ∙ refreshed_moves (held_of c.args.self.now) c.args.view c.right-to.result.0 elsewhere c.right-to.ensures;
      links = search rules;
      moves = when_not _ _ _ elsewhere (
        c.right-to.result,
        c.right-to.ensures,
        sends_from g.O.LinkPair.are_fresh g.O.LinkOut.free g.O.LinkOut.ended g.O.LinkOut.puts c.args.view.version c.right-to.result c.args.self.now c.prepare.new.self c.read-requests.new.self c.read-requests.result.items
            same.0 same.1 same.2 c.prepare.ensures.ends.0 c.prepare.ensures.ends.3 (c.read-requests.ensures.sends c.in-Ok.ensures.ready),
      );
      err = tt;
      err_ends = tt;
      ready = when_so (runs_phase c.read-requests.new.self.phase) _ c.read-requests.ensures.open;
      kept = tt;
    }
