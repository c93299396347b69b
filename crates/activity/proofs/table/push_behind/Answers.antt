use Rattle.std.proofs.Common.{◌≡◌, ◌+◌, ◌-◌, ◌≤◌, ◌^◌, ◌++◌, ◌∷◌, [], drop, length, sym, ap, subst, ◌∙◌, arith}
use Rattle.std.proofs.lemmas.List.{nil_from_length}
use Rattle.activity.proofs.Lists.{pass_kept, pass_room, pass_few, drop_empty}
use Rattle.activity.proofs.table.push_behind.Goals as goal

pub loop-message-preserved : goal.loop-message-preserved
loop-message-preserved c =
    let inv = c.loop-message.invariant in
    let step : c.loop-message.message-iterator.rest.items ≡ c.in-Some.message ∷ c.next.new.self.rest.items = c.in-Some.ensures.steps.0 in
    let e = c.push_if.ensures in
    let l : length c.loop-message.message-iterator.rest.items ≡ length c.next.new.self.rest.items + 1 = omega (arith, ap length step) in
    record {
      runs = tt;
      ends = tt;
      place = omega (arith, inv.place);
      forgot = e.forgot ∙ inv.forgot;
      messages = pass_kept c.args.n c.loop-message.place c.loop-message.store.messages c.push_if.new.store.messages c.in-Some.message c.next.new.self.rest.items e.messages (c.args.store.now.messages ++ drop c.args.n c.args.messages.items)
          (subst (λ rest. c.loop-message.store.messages ++ drop (c.args.n - c.loop-message.place) rest ≡ c.args.store.now.messages ++ drop c.args.n c.args.messages.items) step inv.messages);
      room = pass_room c.args.n c.loop-message.place c.loop-message.store.messages c.push_if.new.store.messages c.in-Some.message c.next.new.self.rest.items e.messages c.loop-message.store.spare c.push_if.new.store.spare
          (subst (λ rest. length rest - (c.args.n - c.loop-message.place) ≤ c.loop-message.store.spare) step inv.room) e.spare;
      few = pass_few c.args.n c.loop-message.place c.loop-message.store.messages c.push_if.new.store.messages c.in-Some.message c.next.new.self.rest.items e.messages (2 ^ 63 - c.args.store.now.forgot)
          (subst (λ rest. length c.loop-message.store.messages + (length rest - (c.args.n - c.loop-message.place)) ≤ 2 ^ 63 - c.args.store.now.forgot) step inv.few);
    }

pub returns-clause-messages : goal.returns-clause-messages
returns-clause-messages c =
    let gone : c.loop-message.message-iterator.rest.items ≡ [] = nil_from_length c.loop-message.message-iterator.rest.items (sym c.loop-message.message-iterator.rest.ok.0 ∙ c.in-None.ensures.steps.0) in
    sym (ap (λ rest. c.loop-message.store.messages ++ drop (c.args.n - c.loop-message.place) rest) gone ∙ drop_empty c.loop-message.store.messages (c.args.n - c.loop-message.place)) ∙ c.loop-message.invariant.messages
