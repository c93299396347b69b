use Rattle.std.proofs.Common.{◌≡◌, false, map, sym, ap, subst, ◌∙◌}
use Rattle.ring_rules.specs.Refusal.{is_empty}
use Rattle.ring_copies.specs.Copies.{copy_out}
use Rattle.ring_world.specs.Copied.{copy_of, copy_in_list}
use Rattle.ring_world.proofs.code.OfCopies.{puts_there}
use Rattle.ring_world.proofs.copying.do_step.Goals as goal

pub put_on-requires-clause-some : goal.put_on-requires-clause-some
put_on-requires-clause-some c =
    let i = c.in-Some-copy_out.i in
    subst (λ cs. is_empty (copy_in_list cs i).to_put ≡ false) (sym c.deref_mut.ensures.value)
    (puts_there (map copy_of c.args.copies.now.items) c.id_at.result i (sym (c.in-Some-copy_out.ensures.found ∙ ap (λ cs. copy_out (map copy_of cs) c.id_at.result) c.deref.ensures.value)))
