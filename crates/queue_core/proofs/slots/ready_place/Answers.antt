use Rattle.std.proofs.Common.{◌≡◌, true, get_or, nat_eq, ap, sym, ◌∙◌}
use Rattle.std.proofs.lemmas.Bool.{and_right, not_from_true, eqb-true}
use Rattle.queue_core.specs.Queue.{Item, is_at, is_ready, is_unacked, is_ready_at}
use Rattle.queue_core.proofs.Places.{none_narrow, not_ready_at, one_any}
use Rattle.queue_core.proofs.slots.ready_place.Goals as goal

pub returns-in_err-place : goal.returns-in_err-place
returns-in_err-place c = rw c.from_residual.ensures (none_narrow (is_at c.args.at) (is_ready_at c.args.at) (not_ready_at c.args.at) c.args.slots.now.items c.in_err-place.ensures)

pub returns-then-is_handed : goal.returns-then-is_handed
returns-then-is_handed c =
    let i : Item = get_or c.args.slots.now.items c.in_ok-place.place c.index.result.now in
    let handed : is_unacked i ≡ true = ap is_unacked (sym c.index.ensures) ∙ sym c.is_handed.ensures ∙ c.if-is_handed.true in
    one_any c.args.at (is_ready_at c.args.at) (not_ready_at c.args.at) c.args.slots.now.items c.requires c.in_ok-place.place c.index.result.now c.in_ok-place.ensures.within
    (eqb-true i.at c.args.at (c.in_ok-place.ensures.passes c.index.result.now))
    ∙ and_right (nat_eq i.at c.args.at) (is_ready i) (not_from_true (is_unacked i) handed)
