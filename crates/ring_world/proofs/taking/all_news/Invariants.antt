use Rattle.std.proofs.Common.{◌≡◌, suc, ◌∷◌, map}
use Rattle.std.specs.List.{range_with_len}
use Rattle.ring_rules.specs.Machine.{no_member}
use Rattle.ring_world.specs.Shows.{member_of, packet_of, news_of, news_at}
use Rattle.ring_world.proofs.taking.all_news.Given as goal

abbrev pub invariant-loop-origin : goal.invariant-loop-origin
invariant-loop-origin l = map news_of l.all.items ≡ map (news_at l.view (no_member ∷ map member_of l.members) (suc l.place) l.sender (packet_of l.packet)) (range_with_len 0 l.origin)
