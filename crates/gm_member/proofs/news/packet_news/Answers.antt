use Rattle.std.proofs.Common.{◌≡◌, ℕ, ◌+◌, ◌++◌, ap, sym, ◌∙◌, arith}
use Rattle.ring_rules.specs.Step.{is_owned}
use Rattle.activity.specs.Kept.{kept_of}
use Rattle.activity.specs.Packets.{line_of}
use Rattle.gm_member.specs.Packets.{packet_by_id}
use Rattle.gm_member.specs.View.{all_kept}
use Rattle.gm_member.specs.News.{line_news, news_below}
use Rattle.gm_member.proofs.Fresh.{news_more}
use Rattle.gm_member.proofs.news.packet_news.Goals as goal

pub loop-p-init : goal.loop-p-init
loop-p-init c = c.new-out.ensures.items

pub loop-p-preserved : goal.loop-p-preserved
loop-p-preserved c =
    let own = λ (q : ℕ). is_owned c.args.view.now c.args.id.0 c.args.from.0 (q + 1) in
    let p = c.loop-p.p in
    c.in_ok-push_origin.ensures
    ∙ ap (λ xs. xs ++ line_news (own p) p (kept_of c.args.tables.now (p + 1)) (line_of (c.args.packet.now).lines (p + 1))) c.loop-p.invariant
    ∙ sym (news_more own c.args.tables.now c.args.packet.now p c.loop-p-test.true)

pub returns : goal.returns
returns c =
    let end : c.loop-p.p ≡ 64 = omega (arith, c.loop-p-test.false, c.loop-p.auto.p-end) in
    c.loop-p.invariant ∙ ap (λ n. news_below n (λ q. is_owned c.args.view.now c.args.id.0 c.args.from.0 (q + 1)) (all_kept c.args.tables.now) (packet_by_id c.args.packet.now).lines) end
