use Rattle.std.proofs.Common.{sym, ap, ◌∙◌}
use Rattle.activity.specs.Kept.{Kept}
use Rattle.gm_member.proofs.Accepting.{kept_by_id}
use Rattle.gm_member.proofs.member.Member.confirmed.Goals as goal

pub returns : goal.returns
returns g c =
    let m = c.args.self.now in
    c.numbers.ensures.forgot ∙ ap (λ (k : Kept). k.forgot) (sym (kept_by_id m.tables m.id.0 m.own.0 m.own.1))
