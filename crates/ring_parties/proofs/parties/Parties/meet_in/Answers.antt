use Rattle.std.proofs.Common.{◌≡◌, ◌-◌, length, map, get_or, sym, ap, subst, ◌∙◌, arith}
use Rattle.std.proofs.lemmas.List.{with_items_is}
use Rattle.ring_parties.specs.Behind.{behind}
use Rattle.ring_parties.specs.Parties.{out_seen, parties, shown_in, no_shown}
use Rattle.ring_parties.specs.Meeting.{MayMeet, MeetsIn, HasNone}
use Rattle.ring_parties.proofs.meetings.Meets.{registrar_met, pending_may, pending_met}
use Rattle.ring_parties.proofs.parties.Parties.meet_in.Goals as goal

pub returns-then-meet_deposit-clause-meets : goal.returns-then-meet_deposit-clause-meets
returns-then-meet_deposit-clause-meets c =
    let many : length c.meet_member.new.members ≡ c.self.inside.members.len = omega (arith, c.meet_member.auto.members, c.deref_mut.ensures.len, ap length c.deref_mut.ensures.value, c.self.inside.members.ok.0) in
    let still : map shown_in c.meet_member.new.members ≡ map shown_in c.self.inside.members.items = c.meet_member.ensures.still c.if-meet_member.false ∙ ap (map shown_in) c.deref_mut.ensures.value in
    rw (with_items_is c.self.inside.members c.meet_member.new.members many)
    (subst (λ q. MeetsIn q.all c.args.name.now (out_seen c.args.out.now) q.all (parties c.meet_member.new.members c.meet_deposit.new.registrar (behind c.self.inside.pending_deposit)) (out_seen c.meet_deposit.new.out)) c.self.view_is
    (registrar_met c.self.inside.members.items c.meet_member.new.members c.self.inside.registrar c.meet_deposit.new.registrar (behind c.self.inside.pending_deposit) c.args.name.now (out_seen c.args.out.now) (out_seen c.meet_member.new.out) (out_seen c.meet_deposit.new.out) still (c.meet_member.ensures.out c.if-meet_member.false) c.meet_deposit.ensures.same (c.meet_deposit.ensures.met c.if-meet_deposit.true)))

pub meet_pending-requires : goal.meet_pending-requires
meet_pending-requires c =
    pending_may c.self.inside.members.items c.self.inside.registrar (behind c.self.inside.pending_deposit) c.args.name.now (out_seen c.args.out.now) (out_seen c.meet_member.new.out) (out_seen c.meet_deposit.new.out)
    (subst (λ q. MayMeet q.all c.args.name.now (out_seen c.args.out.now)) (sym c.self.view_is) c.requires) (c.meet_member.ensures.out c.if-meet_member.false) (c.meet_deposit.ensures.out c.if-meet_deposit.false)

pub returns-clause-meets : goal.returns-clause-meets
returns-clause-meets c =
    let many : length c.meet_member.new.members ≡ c.self.inside.members.len = omega (arith, c.meet_member.auto.members, c.deref_mut.ensures.len, ap length c.deref_mut.ensures.value, c.self.inside.members.ok.0) in
    let still : map shown_in c.meet_member.new.members ≡ map shown_in c.self.inside.members.items = c.meet_member.ensures.still c.if-meet_member.false ∙ ap (map shown_in) c.deref_mut.ensures.value in
    let none = subst (λ ns. HasNone (get_or (map shown_in ns) (c.args.name.now.to.0 - 1) no_shown).held c.args.name.now) c.deref_mut.ensures.value (c.meet_member.ensures.none c.if-meet_member.false) in
    rw (with_items_is c.self.inside.members c.meet_member.new.members many)
    (subst (λ q. MeetsIn q.all c.args.name.now (out_seen c.args.out.now) q.all (parties c.meet_member.new.members c.meet_deposit.new.registrar (behind c.meet_pending.new.pending_deposit)) (out_seen c.meet_pending.new.out)) c.self.view_is
    (pending_met c.meet_pending.result c.self.inside.members.items c.meet_member.new.members c.self.inside.registrar c.meet_deposit.new.registrar (behind c.self.inside.pending_deposit) (behind c.meet_pending.new.pending_deposit) c.args.name.now (out_seen c.args.out.now) (out_seen c.meet_member.new.out) (out_seen c.meet_deposit.new.out) (out_seen c.meet_pending.new.out)
    still (c.meet_deposit.ensures.still c.if-meet_deposit.false) (c.meet_member.ensures.out c.if-meet_member.false) (c.meet_deposit.ensures.out c.if-meet_deposit.false)
    none (c.meet_deposit.ensures.none c.if-meet_deposit.false)
    c.meet_pending.ensures.met c.meet_pending.ensures.none c.meet_pending.ensures.still c.meet_pending.ensures.out))
