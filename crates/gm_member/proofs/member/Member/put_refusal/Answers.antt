use Rattle.std.proofs.Common.{option_map, sym, ap, subst, ◌∙◌}
use Rattle.ring_names.specs.declared.reason.Reason.TheVariants as reason
use Rattle.gm_member.specs.Held.{on_some, out_refused}
use Rattle.gm_member.specs.View.{all_kept, out_of}
use Rattle.gm_member.specs.Shown.{held_of}
use Rattle.gm_member.specs.Telling.{SaysAllIsSent}
use Rattle.gm_member.proofs.DoorParts.{up_past}
use Rattle.gm_member.proofs.member.Member.put_refusal.Goals as goal

pub returns-in-Some-out : goal.returns-in-Some-out
returns-in-Some-out g c =
    let m = c.args.self.now in
    let known = all_kept m.tables in
    c.put_refusal.ensures known (subst (λ o. SaysAllIsSent m.all_is_sent o m.tables) c.in-Some-out.is m.says_all_is_sent)
    ∙ sym
    (up_past (held_of m) (on_some (option_map out_of m.out) reason.NoOutLink (out_refused known)) (sym c.up_refusal.ensures ∙ c.in_default.is)
    ∙ ap (λ o. on_some (option_map out_of o) reason.NoOutLink (out_refused known)) c.in-Some-out.is)
