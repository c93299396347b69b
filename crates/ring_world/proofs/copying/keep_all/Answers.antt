use Rattle.std.proofs.Common.{◌≡◌, refl, sym, ap, map, take, ◌∙◌}
use Rattle.queue_core.specs.Queue.{QueueState}
use Rattle.queue_sync.specs.Seen.{Taking}
use Rattle.queue_sync.specs.Copy.{item_of, kept_aside}
use Rattle.ring_copies.specs.Copies.{all_kept}
use Rattle.ring_world.proofs.code.OfCopies.{kept_more}
use Rattle.ring_world.proofs.copying.keep_all.Goals as goal

pub loop-item-init : goal.loop-item-init
loop-item-init c = refl

pub loop-item-preserved : goal.loop-item-preserved
loop-item-preserved c =
    c.in-Ok.ensures.ok
    ∙ ap (λ (t : Taking). record t { aside = kept_aside (item_of c.in_ok-item_copied.field-0) t.aside }) c.loop-item.invariant
    ∙ ap (λ (q : QueueState). record c.begin-taken.result { aside = q })
    (ap (λ i. kept_aside (item_of i) (all_kept (map item_of (take c.loop-item.item-index c.args.items.now)) c.begin-taken.result.aside)) c.in_ok-item_copied.ensures
    ∙ sym (kept_more c.args.items.now c.loop-item.item-index c.item-item.result c.begin-taken.result.aside c.loop-item-test.true c.item-item.is))
