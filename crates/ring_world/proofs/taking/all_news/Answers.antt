use Rattle.std.proofs.Common.{◌≡◌, ℕ, suc, List, [], map, ◌++◌, ◌∷◌, ◌+◌, ap, ◌∙◌, arith}
use Rattle.std.proofs.lemmas.Grind.{common_steps}
use Rattle.std.specs.List.{range_with_len}
use Rattle.std.proofs.lemmas.List.FromFn.{map-range_with_len_more}
use Rattle.std.proofs.lemmas.List.{map-append}
use Rattle.ring_world.specs.declared.plain_member.Brought.{Brought}
use Rattle.ring_rules.specs.Machine.{Packet, Member, no_member, numbers_at}
use Rattle.ring_rules.specs.Step.{is_owned}
use Rattle.ring_world.specs.Shows.{News, member_of, packet_of, news_of, news_at}
use Rattle.ring_world.proofs.code.Taken.{brought_news}
use Rattle.ring_world.proofs.taking.all_news.Goals as goal

pub loop-origin-preserved : goal.loop-origin-preserved
loop-origin-preserved c =
    let y : ℕ = suc c.args.place in
    let p : ℕ = c.loop-origin.origin in
    let k : Packet = packet_of c.args.packet.now in
    let members : List Member = no_member ∷ map member_of c.args.members.now in
    let f : ℕ → News = news_at c.args.view.now members y c.args.sender k in
    let e : map f (range_with_len 0 (p + 1)) ≡ map f (range_with_len 0 p) ++ f p ∷ [] = map-range_with_len_more f 0 p p (omega arith) in
    let own : c.is_owned-own.result ≡ is_owned c.args.view.now y c.args.sender p = c.is_owned-own.ensures ∙ ap (λ i. is_owned c.args.view.now i c.args.sender p) c.id_at-id.ensures in
    let numbers : c.numbers_at-numbers.result ≡ numbers_at k p = grind (arith, common_steps) in
    let b : Brought = record { own = c.is_owned-own.result; messages = c.in_ok-messages.messages } in
    let here : news_of b ≡ f p = brought_news c.args.view.now members y c.args.sender k p b c.numbers_at-numbers.result own numbers c.in_ok-messages.ensures in
    grind (arith, common_steps, map-append, here)
