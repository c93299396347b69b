use Rattle.std.proofs.Common.{◌∙◌, ap, sym, take, drop}
use Rattle.std.specs.Prelude.{option_map}
use Rattle.group_view.specs.Ring.{first}
use Rattle.group_view.specs.View.{number}
use Rattle.group_view.specs.Parts.{place_of, live_ids}
use Rattle.group_view.proofs.Cuts.{nearest_owner, live_rotated}
use Rattle.group_view.proofs.ring.owner_of.Goals as goal

pub returns : goal.returns
returns c =
    ap (option_map number) c.or.ensures
    ∙ nearest_owner c.first_live.result c.first_live-2.result (live_ids (drop (place_of c.args.entries.now c.args.id.0) c.args.entries.now)) (live_ids (take (place_of c.args.entries.now c.args.id.0) c.args.entries.now))
    (c.first_live.ensures ∙ ap (λ es. first (live_ids es)) c.cut_at.ensures.from)
    (c.first_live-2.ensures ∙ ap (λ es. first (live_ids es)) c.cut_at.ensures.before)
    ∙ ap first (sym (live_rotated c.args.entries.now c.args.id.0 c.requires))
