use Rattle.std.proofs.Common.{◌≡◌, ◌+◌, ◌++◌, drop, map, ap, ◌∙◌, arith}
use Rattle.std.specs.List.{flat_map}
use Rattle.ring_rules.specs.Machine.{row_at, member_at}
use Rattle.ring_rules.specs.Published.{told_of}
use Rattle.ring_rules.specs.Step.{log_of}
use Rattle.ring_cluster.specs.Published.{told_with, told_in}
use Rattle.ring_cluster.specs.Seen.{state_of}
use Rattle.ring_cluster.proofs.rounds.Named.{going_fit}
use Rattle.ring_report.specs.Report.{name_of, cast_line}
use Rattle.ringplay.proofs.Reports.{told_at_place, told_many, heard_tells}
use Rattle.ringplay.proofs.report.push_heard_of.Goals as goal

pub bodies_at-requires : goal.bodies_at-requires
bodies_at-requires c =
    let k = c.args.cluster.now in
    omega (arith, c.requires.origin, told_many (state_of k) c.args.published.now c.requires.told)

pub returns : goal.returns
returns c =
    let k = c.args.cluster.now in
    let w = state_of k in
    let p = c.args.place + 1 in
    let x = c.args.id.0 in
    let out = c.args.out.now.items in
    let bodies = c.bodies_at.result.now in
    let origin = c.bytes.result.now in
    let log : told_with bodies ≡ map told_of (log_of w p) = c.bodies_at.ensures ∙ told_at_place w (told_in c.args.published.now) c.args.place c.requires.told c.requires.origin in
    let named : origin ≡ name_of w p = c.bytes.ensures.bytes ∙ c.name.ensures ∙ c.member_at.ensures.name in
    let all : c.got-got.result ≡ (row_at (member_at w x) p).got = c.got-got.ensures ∙ ap (λ o. (row_at (member_at w x) o).got) c.id_at-origin.ensures in
    let from : c.base-base.result ≡ (row_at (member_at w x) p).base = c.base-base.ensures ∙ ap (λ o. (row_at (member_at w x) o).base) c.id_at-origin.ensures in
    c.in_ok-push_casts.ensures
    ∙ ap (λ bs. out ++ flat_map (cast_line origin) (told_with bs)) (c.behind-bodies.ensures ∙ ap (drop c.base-base.result) c.first_of.ensures)
    ∙ ap (λ t. out ++ t) (heard_tells w x p c.base-base.result c.got-got.result origin bodies (going_fit k c.is_going.ensures) named log from all)
