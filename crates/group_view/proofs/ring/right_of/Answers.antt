use Rattle.std.proofs.Common.{◌≡◌, ◌∙◌, ap, sym, refl, true, ◌+◌, take, drop}
use Rattle.std.specs.Prelude.{unwrap_or}
use Rattle.group_view.specs.Ring.{is_in, first_or, first}
use Rattle.group_view.specs.View.{ids}
use Rattle.group_view.specs.Parts.{place_of, live_ids}
use Rattle.group_view.proofs.Cuts.{nearest_right, live_others}
use Rattle.group_view.proofs.ring.right_of.Goals as goal

pub returns : goal.returns
returns c =
    let here : is_in c.args.id.0 (ids c.args.entries.now) ≡ true = sym c.has_entry.ensures ∙ c.if-not-has_entry.false in
    ap (λ m. m.0) (c.unwrap_or.ensures ∙ ap (λ o. unwrap_or o c.args.id) c.or.ensures)
    ∙ nearest_right c.first_live.result c.first_live-2.result (live_ids (drop (place_of c.args.entries.now c.args.id.0 + 1) c.args.entries.now)) (live_ids (take (place_of c.args.entries.now c.args.id.0) c.args.entries.now)) c.args.id
    (c.first_live.ensures ∙ ap (λ es. first (live_ids es)) c.others.ensures.after)
    (c.first_live-2.ensures ∙ ap (λ es. first (live_ids es)) c.others.ensures.before)
    ∙ ap (first_or c.args.id.0) (sym (live_others c.args.entries.now c.args.id.0 c.requires))
    ∙ rw here refl
