use Rattle.std.proofs.Common.{◌≡◌, ◌<◌, length, drop, refl, sym, ap, subst, ◌∙◌}
use Rattle.lamport_merge.specs.Logs.{LogSeen}
use Rattle.lamport_merge.proofs.Rising.{rise_same}
use Rattle.lamport_merge.proofs.Moves.{taken}
use Rattle.lamport_merge.proofs.log.LocalLog.take_next.Goals as goal

pub invariant_of-self : goal.invariant_of-self
invariant_of-self c = rise_same 0 c.self.inside.entries.items c.args.next.now c.index_mut-entry.result.now (c.index_mut-entry.result.now.0, c.replace.new.dest) c.index_mut-entry.ensures.value refl c.self.invariant

pub returns-clause-event : goal.returns-clause-event
returns-clause-event c =
    let seen : c.self.inside.entries.items ≡ c.args.self.now.entries = ap (λ (l : LogSeen). l.entries) c.self.view_is in
    let inside : c.args.next.now < length c.self.inside.entries.items = subst (λ es. c.args.next.now < length es) (sym seen) c.requires in
    (c.index_mut-entry.result.now.0, ap (drop c.args.next.now) (sym seen) ∙ taken c.self.inside.entries.items c.args.next.now c.index_mut-entry.result.now (c.index_mut-entry.result.now.0, c.replace.new.dest) c.replace.result inside c.index_mut-entry.ensures.value c.replace.ensures.value)
