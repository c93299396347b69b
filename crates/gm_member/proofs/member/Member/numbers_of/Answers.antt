use Rattle.std.proofs.Common.{◌≡◌, ◌-◌, ap, sym, ◌∙◌, arith}
use Rattle.activity.specs.Kept.{Kept, no_kept, got_of}
use Rattle.gm_member.specs.Shown.{held_of}
use Rattle.gm_member.specs.Packets.{known_at}
use Rattle.gm_member.proofs.Accepting.{kept_by_id, kept_nowhere}
use Rattle.gm_member.proofs.member.Member.numbers_of.Goals as goal

pub returns-then-of : goal.returns-then-of
returns-then-of g c =
    let beyond = c.if-of.true in
    let none : known_at (held_of c.args.self.now).known (c.args.of.0 - 1) ≡ no_kept = kept_nowhere (c.args.self.now).tables (c.args.of.0 - 1) (omega (arith, beyond)) in
    record { got = sym (ap got_of none); forgot = sym (ap (λ (k : Kept). k.forgot) none); retired = sym (ap (λ (k : Kept). k.retired) none); base = sym (ap (λ (k : Kept). k.base) none) }

pub returns : goal.returns
returns g c =
    let few = c.if-of.false in
    let same = sym (kept_by_id (c.args.self.now).tables c.args.of.0 c.requires (omega (arith, few))) in
    record { got = c.numbers.ensures.got ∙ ap got_of same; forgot = c.numbers.ensures.forgot ∙ ap (λ (k : Kept). k.forgot) same; retired = c.numbers.ensures.retired ∙ ap (λ (k : Kept). k.retired) same; base = c.numbers.ensures.base ∙ ap (λ (k : Kept). k.base) same }
