use Rattle.std.proofs.Common.{◌≡◌, ◌≢◌, None, ap, subst, arith, ◌∙◌}
use Rattle.std.specs.Prelude.{All}
use Rattle.group_view.specs.declared.entry.Entry.{Entry}
use Rattle.ring_rules.specs.Machine.{view_in, newest}
use Rattle.ring_rules.specs.Event.{erase_refusal}
use Rattle.ring_cluster.specs.Seen.{state_of}
use Rattle.ring_cluster.proofs.rounds.Settling.{erases_none}
use Rattle.ring_cluster.proofs.driver.next_erasable.Goals as goal

pub returns : goal.returns
returns c =
    let w = state_of c.args.cluster.now in
    let y = c.args.id.0 in
    let is : c.as_slice-entry-items.result.now ≡ (view_in w (newest w)).entries = c.as_slice-entry-items.ensures ∙ ap (λ g. g.entries) (c.behind-cluster.view_is ∙ c.view.ensures) in
    erases_none w y (subst (All (λ (e : Entry). erase_refusal w y e.id.0 ≢ None)) is (λ k d l. c.loop-entry.invariant k d (omega (arith, l, c.loop-entry-test.false))))
