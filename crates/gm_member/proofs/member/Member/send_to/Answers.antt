use Rattle.std.proofs.Common.{refl, sym, ap, subst, ◌∙◌, Option, Some}
use Rattle.gm_member.specs.View.{all_kept, out_of}
use Rattle.gm_member.specs.Held.{Held, Outgoing}
use Rattle.activity.specs.LastSent.{sent_of}
use Rattle.gm_member.specs.Spares.{IsSpareFor, OpensOn, last_sent_by_spare}
use Rattle.gm_member.specs.Shown.{IsReadyToMove, held_of}
use Rattle.gm_member.proofs.Moving.{sends_out}
use Rattle.gm_member.proofs.Putting.{last_sent_by_places}
use Rattle.gm_member.proofs.Ready.{ready_there}
use Rattle.gm_member.specs.Within.{IsWithin}
use Rattle.gm_member.proofs.Within.{none_within, within_above}
use Rattle.gm_member.proofs.member.Member.send_to.Goals as goal

pub invariant_of-self-clause-spared : goal.invariant_of-self-clause-spared
invariant_of-self-clause-spared g c = subst (λ o. IsWithin (last_sent_by_spare o) c.args.self.now.tables) (sym c.take.ensures.after) (none_within c.args.self.now.tables)

pub invariant_of-self-2-clause-sent : goal.invariant_of-self-2-clause-sent
invariant_of-self-2-clause-sent g c =
    subst (λ s. IsWithin (λ p. sent_of s p) c.move_on.new.self.tables) (sym c.open-link.ensures.sent)
    (subst (IsWithin (λ p. sent_of c.in-Some.spare.sent p)) (sym c.move_on.ensures.tables)
    (subst (λ o. IsWithin (last_sent_by_spare o) c.args.self.now.tables) (sym c.take.ensures.value ∙ c.in-Some.is) c.args.self.now.spared))

pub says_all-self-requires : goal.says_all-self-requires
says_all-self-requires g c =
    within_above c.open-link.result.0.sent c.move_on.new.self.tables
    (subst (λ s. IsWithin (λ p. sent_of s p) c.move_on.new.self.tables) (sym c.open-link.ensures.sent)
    (subst (IsWithin (λ p. sent_of c.in-Some.spare.sent p)) (sym c.move_on.ensures.tables)
    (subst (λ o. IsWithin (last_sent_by_spare o) c.args.self.now.tables) (sym c.take.ensures.value ∙ c.in-Some.is) c.args.self.now.spared)))

pub invariant_of-self-2-clause-says_all_is_sent : goal.invariant_of-self-2-clause-says_all_is_sent
invariant_of-self-2-clause-says_all_is_sent g c = c.says_all-self.ensures ∙ last_sent_by_places c.move_on.new.self.tables c.open-link.result.0.sent

pub returns-clause-sends : goal.returns-clause-sends
returns-clause-sends g c r =
    let known = all_kept c.args.self.now.tables in
    let same = c.move_on.ensures.same in
    let ready : IsReadyToMove g.O.LinkPair.are_fresh g.O.LinkOut.free g.O.LinkOut.ended c.args.self.now c.in-Some.spare =
    ready_there g.O.LinkPair.are_fresh g.O.LinkOut.free g.O.LinkOut.ended c.args.self.now c.in-Some.spare (sym c.take.ensures.value ∙ c.in-Some.is) r in
    let spare : IsSpareFor g.O.LinkPair.are_fresh g.O.LinkOut.free g.O.LinkOut.ended c.move_on.new.self.credit.initial known c.in-Some.spare =
    subst (λ k. IsSpareFor g.O.LinkPair.are_fresh g.O.LinkOut.free g.O.LinkOut.ended k.initial known c.in-Some.spare) (sym same.2) ready.spare in
    record {
      spare = c.in-Some.spare;
      ready = ready.spare;
      link = c.open-link.result.0;
      out = refl;
      opens =
          subst (λ k. OpensOn g.O.LinkOut.puts k known c.args.self.now.id c.args.to c.args.self.now.view.version c.in-Some.spare c.open-link.result.0 c.open-link.result.1.items) same.2
          (subst (λ i. OpensOn g.O.LinkOut.puts c.move_on.new.self.credit known i c.args.to c.args.self.now.view.version c.in-Some.spare c.open-link.result.0 c.open-link.result.1.items) same.0
          (subst (λ v. OpensOn g.O.LinkOut.puts c.move_on.new.self.credit known c.move_on.new.self.id c.args.to v c.in-Some.spare c.open-link.result.0 c.open-link.result.1.items) (c.version.ensures ∙ ap (λ v. v.version) same.1)
          (c.open-link.ensures.opens known spare)));
      old_outs = c.move_on.ensures.old_outs;
    }

pub returns-clause-held : goal.returns-clause-held
returns-clause-held g c r =
    ap (λ (h : Held). record h { out = Some (out_of c.open-link.result.0) }) c.move_on.ensures.held
    ∙ ap (λ (o : Option Outgoing). record (held_of c.args.self.now) { out = o }) (sends_out g.O.LinkPair.are_fresh g.O.LinkOut.free g.O.LinkOut.ended g.O.LinkOut.puts c.args.to c.args.self.now _ c.open-link.result.1.items (returns-clause-sends g c r))
