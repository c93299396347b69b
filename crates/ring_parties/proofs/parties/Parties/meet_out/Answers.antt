use Rattle.std.proofs.Common.{◌≡◌, true, None, get_or, set, sym, ap, subst, ◌∙◌, refl, ◌<◌, length, arith}
use Rattle.ring_rules.specs.Machine.{runs_phase}
use Rattle.std.proofs.lemmas.List.{length-map, length-set}
use Rattle.ring_parties.proofs.standing.Nodes.{same_keeps}
use Rattle.ring_parties.specs.Behind.{behind}
use Rattle.ring_parties.specs.Parties.{PartiesSeen, out_seen, parties, shown_in, keeps_in, with_out}
use Rattle.ring_parties.specs.Meeting.{MayMeetOut, MeetsIn, MeetsOut}
use Rattle.ring_parties.proofs.meetings.MeetsOut.{has_lent, out_may, out_away, out_sends, met_ended, out_met, out_none}
use Rattle.ring_parties.proofs.deposits.Delivered.{still_kept, inside}
use Rattle.ring_parties.proofs.parties.Parties.meet_out.Goals as goal

pub returns-in_default-clause-meets : goal.returns-in_default-clause-meets
returns-in_default-clause-meets c =
    let l = inside c.self.inside c.args.self.now c.self.view_is c.args.i c.requires.within in
    let y = record c.index_mut.result.now { node = c.lend_out.new.node } in
    let none = subst (λ z. (shown_in z).ends.out ≡ None) c.index_mut.ensures.value c.in_default.ensures.none in
    let still = subst (λ z. shown_in y ≡ shown_in z) c.index_mut.ensures.value c.in_default.ensures.still in
    subst (λ q. MeetsOut c.args.i q.all (parties (set c.self.inside.members.items c.args.i y) c.self.inside.registrar (behind c.self.inside.pending_deposit))) c.self.view_is
    (out_none c.self.inside.members.items c.args.i c.index_mut.result.now y c.self.inside.registrar (behind c.self.inside.pending_deposit) l none still)

pub meet_in-requires : goal.meet_in-requires
meet_in-requires c =
    let l = inside c.self.inside c.args.self.now c.self.view_is c.args.i c.requires.within in
    let h = has_lent c.self.inside.members.items c.args.i c.index_mut.result.now (record c.index_mut.result.now { node = c.lend_out.new.node }) c.in-Some.name (out_seen c.in-Some.out) l c.index_mut.ensures.value c.in-Some.ensures.named c.in-Some.ensures.there c.in-Some.ensures.lent in
    out_may c.self.inside.members.items c.args.i c.index_mut.result.now (record c.index_mut.result.now { node = c.lend_out.new.node }) c.self.inside.registrar (behind c.self.inside.pending_deposit) c.in-Some.name (out_seen c.in-Some.out) (subst (λ q. MayMeetOut q.all c.args.i) (sym c.self.view_is) c.requires.may) h

pub give_out-requires : goal.give_out-requires
give_out-requires c =
    let l = inside c.self.inside c.args.self.now c.self.view_is c.args.i c.requires.within in
    let h = has_lent c.self.inside.members.items c.args.i c.index_mut.result.now (record c.index_mut.result.now { node = c.lend_out.new.node }) c.in-Some.name (out_seen c.in-Some.out) l c.index_mut.ensures.value c.in-Some.ensures.named c.in-Some.ensures.there c.in-Some.ensures.lent in
    let here = parties (set c.self.inside.members.items c.args.i (record c.index_mut.result.now { node = c.lend_out.new.node })) c.self.inside.registrar (behind c.self.inside.pending_deposit) in
    let met = subst (λ q. MeetsIn here c.in-Some.name (out_seen c.in-Some.out) here q.all (out_seen c.meet_in.new.out)) (sym c.self-2.view_is) c.meet_in.ensures.meets in
    let away = out_away c.self.inside.members.items c.self-2.inside.members.items c.args.i c.index_mut.result.now (record c.index_mut.result.now { node = c.lend_out.new.node }) c.index_mut-2.result.now c.self.inside.registrar c.self-2.inside.registrar (behind c.self.inside.pending_deposit) (behind c.self-2.inside.pending_deposit) c.in-Some.name (out_seen c.in-Some.out) (out_seen c.meet_in.new.out) h met in
    let same = ap (λ z. (shown_in z).held) c.index_mut-2.ensures.value ∙ away.0 in
    record {
      lent = subst (λ z. (shown_in z).ends.out ≡ None) (sym c.index_mut-2.ensures.value) away.1;
      sends = out_sends (shown_in (get_or c.self.inside.members.items c.args.i c.index_mut.result.now)).held (shown_in c.index_mut-2.result.now).held c.in-Some.name same h.named;
      unended = λ runs. met_ended here _ c.in-Some.name (out_seen c.in-Some.out) (out_seen c.meet_in.new.out) met
          ∙ c.in-Some.ensures.unended (subst (λ k. runs_phase k.phase ≡ true) (same ∙ ap (λ z. (shown_in z).held) (sym c.index_mut.ensures.value)) runs);
    }

pub returns-clause-meets : goal.returns-clause-meets
returns-clause-meets c =
    let l = inside c.self.inside c.args.self.now c.self.view_is c.args.i c.requires.within in
    let h = has_lent c.self.inside.members.items c.args.i c.index_mut.result.now (record c.index_mut.result.now { node = c.lend_out.new.node }) c.in-Some.name (out_seen c.in-Some.out) l c.index_mut.ensures.value c.in-Some.ensures.named c.in-Some.ensures.there c.in-Some.ensures.lent in
    let here = parties (set c.self.inside.members.items c.args.i (record c.index_mut.result.now { node = c.lend_out.new.node })) c.self.inside.registrar (behind c.self.inside.pending_deposit) in
    let met = subst (λ q. MeetsIn here c.in-Some.name (out_seen c.in-Some.out) here q.all (out_seen c.meet_in.new.out)) (sym c.self-2.view_is) c.meet_in.ensures.meets in
    let given = subst (λ z. shown_in (record c.index_mut-2.result.now { node = c.give_out.new.node }) ≡ with_out (shown_in z) (out_seen c.meet_in.new.out)) c.index_mut-2.ensures.value c.give_out.ensures in
    subst (λ q. MeetsOut c.args.i q.all (parties (set c.self-2.inside.members.items c.args.i (record c.index_mut-2.result.now { node = c.give_out.new.node })) c.self-2.inside.registrar (behind c.self-2.inside.pending_deposit))) c.self.view_is
    (out_met c.self.inside.members.items c.self-2.inside.members.items c.args.i c.index_mut.result.now (record c.index_mut.result.now { node = c.lend_out.new.node }) c.index_mut-2.result.now (record c.index_mut-2.result.now { node = c.give_out.new.node }) c.self.inside.registrar c.self-2.inside.registrar (behind c.self.inside.pending_deposit) (behind c.self-2.inside.pending_deposit) c.in-Some.name (out_seen c.in-Some.out) (out_seen c.meet_in.new.out) h met given)

pub returns-in_default-clause-keeps : goal.returns-in_default-clause-keeps
returns-in_default-clause-keeps c = still_kept c.self.inside c.args.self.now c.self.view_is c.args.i c.requires.within c.index_mut.result.now (record c.index_mut.result.now { node = c.lend_out.new.node }) c.index_mut.ensures.value refl

pub returns-clause-keeps : goal.returns-clause-keeps
returns-clause-keeps c =
    let l = inside c.self.inside c.args.self.now c.self.view_is c.args.i c.requires.within in
    let lent = set c.self.inside.members.items c.args.i (record c.index_mut.result.now { node = c.lend_out.new.node }) in
    let met = ap (λ (x : PartiesSeen). x.keeps) c.self-2.view_is ∙ c.meet_in.ensures.keeps in
    let many : c.args.i < length c.self-2.inside.members.items = omega (arith, l, ap length met, length-map c.self-2.inside.members.items keeps_in, length-map lent keeps_in, length-set c.self.inside.members.items c.args.i (record c.index_mut.result.now { node = c.lend_out.new.node })) in
    same_keeps c.self-2.inside.members.items c.args.i c.index_mut-2.result.now (record c.index_mut-2.result.now { node = c.give_out.new.node }) many c.index_mut-2.ensures.value refl
    ∙ met
    ∙ still_kept c.self.inside c.args.self.now c.self.view_is c.args.i c.requires.within c.index_mut.result.now (record c.index_mut.result.now { node = c.lend_out.new.node }) c.index_mut.ensures.value refl
