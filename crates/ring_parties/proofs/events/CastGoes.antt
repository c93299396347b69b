-- Where a member has said something, the parties stand in the state in which its message is published.
use Rattle.gm_member.specs.Packets.{places}
use Rattle.std.proofs.Common.{◌≡◌, ℕ, ◌+◌, ◌<◌, ◌≤◌, Bool, List, [], ◌∷◌, length, Option, Some, refl, ap, ◌∙◌, arith, sym}
use Rattle.queue_core.specs.declared.message.Message.{Message}
use Rattle.ring_names.specs.declared.numbers.CreditSpec.{CreditSpec}
use Rattle.group_view.specs.declared.link.LinkName.{LinkName}
use Rattle.ring_rules.specs.Kind.{Saying, Says}
use Rattle.ring_rules.specs.Machine.{World, Packet, Sending, no_member, numbers_at, member_at, link_at}
use Rattle.ring_rules.specs.Step.{size, log_of, published, publish_at}
use Rattle.ring_rules.specs.Event.{done_as, said}
use Rattle.ring_rules.specs.Compact.{passed}
use Rattle.ring_rules.specs.Lawful.{PacketsAreWithin}
use Rattle.ring_rules.specs.declared.numbers.Numbers.{Numbers}
use Rattle.ring_rules.proofs.rings.Lists.{at_set}
use Rattle.gm_member.specs.Held.{Held, published_held}
use Rattle.gm_member.specs.Stands.{line_for, lines_in}
use Rattle.gm_member.proofs.Knowing.{line_grown}
use Rattle.gm_member.proofs.Places.{map-range_same}
use Rattle.gm_member.proofs.PublishStands.{publish_stands}
use Rattle.gm_member.proofs.Others.{publish_others}
use Rattle.ring_parties.specs.Ends.{OutSeen, packet_in, packets_in}
use Rattle.ring_parties.specs.Parties.{Keeps, Parties, node_at, with_node}
use Rattle.ring_parties.specs.Keeps.{keeps_of}
use Rattle.ring_parties.specs.Standing.{Places, MemberStands, Stand}
use Rattle.ring_parties.specs.Acting.{Acts}
use Rattle.ring_parties.proofs.work.Lawful.{IsLawfulAt}
use Rattle.ring_parties.proofs.standing.Frames.{SameWays, member_ways, carries_still, Does, StandMoved}
use Rattle.ring_parties.proofs.events.OneEvent.{stands_at}
use Rattle.ring_parties.proofs.events.Says.{said_same, said_is}
use Rattle.ring_parties.proofs.events.Steps.{goes_so, ways_leave, same_phases, steps, ways_stand}

-- ---- packets

-- one line, where the packet says no more than the log has
cast_line : (w : World) (x : ℕ) (m : Message) (fresh : Bool) (p a : ℕ) (k : Packet) (last : Numbers) → x < size w → (numbers_at k p).got ≤ length (log_of w p) → line_for fresh (log_of (publish_at w x m) p) a (numbers_at k p) last ≡ line_for fresh (log_of w p) a (numbers_at k p) last
cast_line w x m fresh p a k last lt l =
    at_set (λ j y. (numbers_at k j).got ≤ length (log_of w j) → line_for fresh y.log a (numbers_at k j) last ≡ line_for fresh (log_of w j) a (numbers_at k j) last) w.members x p (published x m (member_at w x)) no_member lt
    (λ h. line_grown fresh (log_of w x) (m ∷ []) a (numbers_at k x) last h) (λ _ _. refl) l

cast_lines : (w : World) (x : ℕ) (m : Message) (before : Sending) (k : Packet) → x < size w → ((p : ℕ) → (numbers_at k p).got ≤ length (log_of w p)) → lines_in (publish_at w x m) before k ≡ lines_in w before k
unfolding places
cast_lines w x m before k lt h = map-range_same (λ p. line_for before.fresh (log_of (publish_at w x m) (p + 1)) p (numbers_at k (p + 1)) (numbers_at before.sent (p + 1))) (λ p. line_for before.fresh (log_of w (p + 1)) p (numbers_at k (p + 1)) (numbers_at before.sent (p + 1))) 64
    (λ p _. cast_line w x m before.fresh (p + 1) p k (numbers_at before.sent (p + 1)) lt (h (p + 1)))

pub cast_packets : (w : World) (x : ℕ) (m : Message) (before : Sending) (ks : List Packet) → x < size w → ((p : ℕ) → PacketsAreWithin (length (log_of w p)) p ks) → packets_in (publish_at w x m) before ks ≡ packets_in w before ks
cast_packets w x m before [] lt h = refl
cast_packets w x m before (k ∷ ks) lt h =
    ap (λ ls. Some (record { view = k.version; lines = ls }) ∷ packets_in (publish_at w x m) (passed k) ks) (cast_lines w x m before k lt (λ p. (h p).0.got))
    ∙ ap (λ xs. packet_in w before k ∷ xs) (cast_packets w x m (passed k) ks lt (λ p. (h p).1))

-- ---- the parties

pub cast_goes : (credit : CreditSpec) (w : World) (s : Saying) (keeps : Keeps) (i d : ℕ) (q q' : Parties) (replaced : Option (LinkName × OutSeen)) → IsLawfulAt credit w → keeps ≡ keeps_of w (i + 1) → i + 1 < size w → Stand credit.initial w q → Acts (Says s) keeps i d q q' replaced → StandMoved credit.initial (i + 1) (done_as w (i + 1) (Says s)) q' replaced
cast_goes credit w s keeps i d q q' replaced h kept lt st (b, (m, says, casts), is, none) =
    let x : ℕ = i + 1 in
    let w' : World = publish_at w x m in
    let p : Places = st.places in
    let ways : SameWays w w' = member_ways w x (published x m (member_at w x)) lt refl refl refl in
    let its : Does w w' x (node_at q i) b (node_at q i).ends.out (node_at q i).ends.link = record {
      does = λ (g : Held). published_held g m;
      but_door = λ g ds. refl;
      stands = publish_stands w x m h.fit (omega arith) lt;
      is = casts;
    } in
    let a : MemberStands w p x (node_at q i) = stands_at credit.initial w q p i st.stand lt in
    let same : said w x s ≡ w' = said_is w x m s (sym (said_same w x (node_at q i).held keeps (record { view = ap (λ (g : Held). g.view) a.held; id = ap (λ (g : Held). g.id) a.held; keeps = kept }) s) ∙ says) in
    goes_so credit.initial x w' (done_as w x (Says s)) (with_node q i b) q' replaced same is none
    (steps credit w w' q q.stopped p i b st h lt (record {
      leaves = ways_leave w w' x ways;
      deposits = refl;
      it = ways_stand w w' p p x (node_at q i) b (node_at q i).ends.out (node_at q i).ends.link ways refl (λ s _. refl) its a.out a.link a;
      held = λ y ne. publish_others w x y m h.fit lt ne;
      notices = record { told = same_phases w x (published x m (member_at w x)) q.stopped lt refl; none_told = λ y _ r. r };
      outs = λ s _. refl;
      ins = λ s _. refl;
      carry = λ s _ c. carries_still credit.initial w w' (link_at w s) (link_at w s) (p.outs s) (p.ins s) (cast_packets w x m (link_at w s).had (link_at w s).packets lt (λ r. h.fit.lawful.within.packets s r)) refl refl c;
      rests = λ s o r. r;
      knows = λ s _. (refl, refl);
    }))
