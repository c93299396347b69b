use Rattle.std.proofs.Common.{◌<◌, length, Some, ap, refl, subst, rules}
use Rattle.std.proofs.lemmas.Bool.{ltb-true}
use Rattle.std.proofs.lemmas.List.{length-map}
use Rattle.gm_member.specs.Shown.{held_of, ends_of}
use Rattle.gm_member.specs.View.{in_of, end_of}
use Rattle.ring_rules.proofs.rings.Maps.{mapped_rewrite, mapped_write}
use Rattle.gm_member.proofs.member.Member.give_at_door.Goals as goal

pub returns : goal.returns
returns g c =
    let m = c.args.self.now in
    let l : c.args.place < length m.door.items = subst (λ n. c.args.place < n) (length-map m.door.items in_of) (ltb-true c.args.place _ c.requires.there) in
    record {
      ends = ap (λ d. record (ends_of m) { door = d }) (mapped_write end_of (λ _. Some c.args.link) m.door.items c.args.place c.index_mut-waiting.result.now _ (Some c.args.link) l c.index_mut-waiting.ensures.value refl);
      held = ap (λ d. record (held_of m) { door = d }) (mapped_rewrite in_of m.door.items c.args.place c.index_mut-waiting.result.now _ l c.index_mut-waiting.ensures.value refl);
      kept = search rules;
      recorder = refl;
    }
