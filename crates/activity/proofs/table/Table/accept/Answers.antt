use Rattle.std.proofs.Common.{◌≡◌, ◌+◌, ◌-◌, Some, length, drop, ap, ◌∙◌, arith, length-append, length-drop}
use Rattle.activity.specs.Shown.{kept_in}
use Rattle.activity.proofs.Fits.{IsReceived, received}
use Rattle.activity.proofs.table.Table.accept.Goals as goal

pub forget_to-requires-clause-got : goal.forget_to-requires-clause-got
forget_to-requires-clause-got c =
    let r : IsReceived (kept_in c.args.self.now) c.args.line c.in-Receive.from c.in-Receive.to c.in-Receive.forgot =
    received c.requires.planned.0 (kept_in c.args.self.now) c.args.line c.in-Receive.origin c.in-Receive.from c.in-Receive.to c.in-Receive.forgot (c.requires.planned.1 ∙ ap Some c.in-Receive.is) in
    let lo : c.line.inside.lo ≡ c.args.line.lo = ap (λ l. l.lo) c.line.view_is in
    let ms : length c.into_vec.result.items ≡ length c.args.line.messages = ap length c.into_vec.ensures ∙ ap (λ l. length l.messages) c.line.view_is in
    let more : length c.push_behind.new.store.messages ≡ length c.args.self.now.store.messages + (length c.into_vec.result.items - (c.in-Receive.from - c.line.inside.lo)) =
    ap length c.push_behind.ensures.messages ∙ length-append c.args.self.now.store.messages (drop (c.in-Receive.from - c.line.inside.lo) c.into_vec.result.items)
    ∙ ap (λ n. length c.args.self.now.store.messages + n) (length-drop (c.in-Receive.from - c.line.inside.lo) c.into_vec.result.items) in
    omega (arith, r.lo, r.from, r.forgot_is, r.within, c.push_behind.ensures.forgot)
