-- The messages that a packet brings, one more at a time.
use Rattle.std.proofs.Common.{◌≡◌, ℕ, suc, ◌+◌, ◌-◌, ◌<◌, ◌≤◌, Bool, List, [], ◌∷◌, ◌++◌, map, ap, ◌∙◌, arith}
use Rattle.std.specs.List.{range_with_len}
use Rattle.std.proofs.lemmas.List.FromFn.{map-range_with_len_more}
use Rattle.queue_core.specs.declared.message.Message.{Message}
use Rattle.activity.specs.Kept.{KeptRow, kept_of}
use Rattle.activity.specs.Packets.{PacketSeen, line_of}
use Rattle.gm_member.specs.Packets.{line_at, packet_by_id}
use Rattle.gm_member.specs.View.{all_kept}
use Rattle.gm_member.specs.News.{taken_at, taken_between, line_news, news_below}
use Rattle.gm_member.proofs.Accepting.{kept_there}
use Rattle.gm_member.proofs.Packets.{line_there}

pub taken_more : (p lo : ℕ) (all : List Message) (a k : ℕ) → a ≤ k → taken_between p lo all a (k + 1) ≡ taken_between p lo all a k ++ taken_at p lo all k ∷ []
taken_more p lo all a k l =
    let e : (k + 1) - a ≡ (k - a) + 1 = omega arith in
    ap (λ n. map (taken_at p lo all) (range_with_len a n)) e ∙ map-range_with_len_more (taken_at p lo all) a (k - a) k (omega arith)

-- what the origins at the places below n bring, and the next one
pub news_more : (own : ℕ → Bool) (rows : List KeptRow) (k : PacketSeen) (p : ℕ) → p < 64
    → news_below (p + 1) own (all_kept rows) (packet_by_id k).lines ≡ news_below p own (all_kept rows) (packet_by_id k).lines ++ line_news (own p) p (kept_of rows (p + 1)) (line_of k.lines (p + 1))
news_more own rows k p l =
    let next : p + 1 ≡ suc p = omega arith in
    let before = news_below p own (all_kept rows) (packet_by_id k).lines in
    ap (λ n. news_below n own (all_kept rows) (packet_by_id k).lines) next
    ∙ ap (λ x. before ++ line_news (own p) p x (line_at (packet_by_id k).lines p)) (kept_there rows p l)
    ∙ ap (λ x. before ++ line_news (own p) p (kept_of rows (p + 1)) x) (line_there k p l)
