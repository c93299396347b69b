use Rattle.std.proofs.Common.{◌≡◌, suc, None, sym, ap, subst, ◌∙◌}
use Rattle.ring_rules.specs.Kind.{kind_of, shown_kind}
use Rattle.ring_copies.specs.Events.{CopyEvent, refused_in, done_in}
use Rattle.ring_world.specs.Shows.{world_of}
use Rattle.ring_world.specs.Copied.{state_in, reads_kind, HaveRoom, IsThen}
use Rattle.ring_world.proofs.code.Steps.{ring_sort}
use Rattle.ring_world.proofs.stepping.step_at.Goals as goal

pub step_ring-requires : goal.step_ring-requires
step_ring-requires c =
    let e = c.args.event.now in
    let W = state_in c.args.ring.now c.args.copies.now.items in
    let x = suc c.args.place in
    let sort = ring_sort e (sym c.if-is_refusal.ensures) (λ s k. c.in_default.not-Copies s (c.kind.ensures ∙ ap shown_kind k)) in
    record {
      ready = c.requires.ready;
      enabled = subst (λ t. refused_in W t x ≡ None) sort c.requires.enabled;
      then = subst (λ t. IsThen (done_in W t x).ring x (reads_kind (shown_kind (kind_of e)))) sort c.requires.then;
      room = subst (λ cs. HaveRoom 3 cs) (sym c.deref_mut-2.ensures.value) c.requires.room;
    }
