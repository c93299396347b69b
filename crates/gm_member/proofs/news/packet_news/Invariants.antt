use Rattle.std.proofs.Common.{◌≡◌, ◌+◌}
use Rattle.ring_rules.specs.Step.{is_owned}
use Rattle.gm_member.specs.Packets.{packet_by_id}
use Rattle.gm_member.specs.View.{all_kept}
use Rattle.gm_member.specs.News.{news_below}
use Rattle.gm_member.proofs.news.packet_news.Given as goal

abbrev pub invariant-loop-p : goal.invariant-loop-p
invariant-loop-p l = l.out.items ≡ news_below l.p (λ q. is_owned l.view l.id.0 l.from.0 (q + 1)) (all_kept l.tables) (packet_by_id l.packet).lines
