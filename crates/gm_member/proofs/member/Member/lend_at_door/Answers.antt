use Rattle.std.proofs.Common.{◌<◌, length, None, ap, refl, arith, rules}
use Rattle.std.proofs.lemmas.Grind.{common_steps}
use Rattle.gm_member.specs.Shown.{held_of, ends_of}
use Rattle.gm_member.specs.View.{in_of, end_of}
use Rattle.ring_rules.proofs.rings.Maps.{mapped_rewrite, mapped_write}
use Rattle.gm_member.proofs.member.Member.lend_at_door.Goals as goal

pub returns : goal.returns
returns g c =
    let m = c.args.self.now in
    let l : c.args.place < length m.door.items = omega (arith, c.len.ensures, m.door.ok.0, c.if-place-len.false) in
    record {
      lent = grind (arith, common_steps);
      ends = ap (λ d. record (ends_of m) { door = d }) (mapped_write end_of (λ _. None) m.door.items c.args.place c.index_mut-link.result.now _ None l c.index_mut-link.ensures.value c.take.ensures.after);
      held = ap (λ d. record (held_of m) { door = d }) (mapped_rewrite in_of m.door.items c.args.place c.index_mut-link.result.now _ l c.index_mut-link.ensures.value refl);
      kept = search rules;
      recorder = refl;
    }
