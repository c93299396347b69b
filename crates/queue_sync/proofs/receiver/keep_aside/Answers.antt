use Rattle.std.proofs.Common.{ap, sym, ◌∙◌, ◌≡◌, true}
use Rattle.queue_core.specs.Queue.{takes}
use Rattle.queue_sync.specs.Copy.{item_of, kept_aside}
use Rattle.queue_sync.proofs.Aside.{ready_kept, unacked_kept, again_kept}
use Rattle.queue_sync.proofs.receiver.keep_aside.Goals as goal

pub returns-in-Ready : goal.returns-in-Ready
returns-in-Ready c =
    let i = c.args.item in
    let may : takes i.at.0 c.args.aside.now.queue.items ≡ true = sym c.is_behind_all.ensures ∙ c.if-not-is_behind_all.false in
    ready_kept i.at i.body c.args.aside.now.queue c.apply_reserved.new.self.queue may c.apply_reserved.ensures.queue
    ∙ ap (λ s. kept_aside (item_of (record i { state = s })) c.args.aside.now.queue) (sym c.in-Ready.is)

pub returns-in-Unacked : goal.returns-in-Unacked
returns-in-Unacked c =
    let i = c.args.item in
    let may : takes i.at.0 c.args.aside.now.queue.items ≡ true = sym c.is_behind_all.ensures ∙ c.if-not-is_behind_all.false in
    unacked_kept i.at i.body c.args.aside.now.queue c.apply_reserved.new.self.queue c.apply_reserved-in-Unacked.new.self.queue may c.apply_reserved.ensures.queue c.apply_reserved-in-Unacked.ensures.queue
    ∙ ap (λ s. kept_aside (item_of (record i { state = s })) c.args.aside.now.queue) (sym c.in-Unacked.is)

pub returns-in-Again : goal.returns-in-Again
returns-in-Again c =
    let i = c.args.item in
    let may : takes i.at.0 c.args.aside.now.queue.items ≡ true = sym c.is_behind_all.ensures ∙ c.if-not-is_behind_all.false in
    again_kept i.at i.body c.args.aside.now.queue c.apply_reserved.new.self.queue c.apply_reserved-in-Again.new.self.queue c.apply_reserved-in-Again-2.new.self.queue may c.apply_reserved.ensures.queue c.apply_reserved-in-Again.ensures.queue c.apply_reserved-in-Again-2.ensures.queue
    ∙ ap (λ s. kept_aside (item_of (record i { state = s })) c.args.aside.now.queue) (sym c.in-Again.is)
