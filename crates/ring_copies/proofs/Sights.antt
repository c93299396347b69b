-- Who has seen which erasures: each running member by its own view, and each packet by its version.
use Rattle.std.proofs.Common.{◌≡◌, ℕ, ◌<◌, ◌≤◌, true, false, [], length, get_or, sym, ap, ◌∙◌, subst, arith, ⊎_elim}
use Rattle.std.proofs.lemmas.Bool.{both_ways, cases_Bool}
use Rattle.queue_laws.specs.Part.{Part, masters, is_in}
use Rattle.queue_laws.specs.Part as part
use Rattle.queue_laws.specs.Moves.{RingGives, RingKeeps, Move, rest, publish, grow, join, leave, see, elect, enter, finish}
use Rattle.queue_laws.specs.Copies.{Copying, CopyGives}
use Rattle.queue_laws.proofs.Good.{HaveTerms, AreInPlace}
use Rattle.queue_laws.proofs.Copied.{SeesErasures, IsCopyGood, Onward, sees_onward, sees_got, sees_later}
use Rattle.ring_rules.specs.declared.phase.Phase.TheVariants.{Up}
use Rattle.ring_rules.specs.Machine.{Packet, World, no_packet, member_at, link_at, row_at, numbers_at, newest, runs, runs_phase}
use Rattle.ring_rules.specs.Step.{size, log_of}
use Rattle.ring_rules.specs.QueuePart.{got_of, part_of}
use Rattle.ring_rules.proofs.queue.Facts.{running_is}
use Rattle.ring_rules.proofs.walks.Put.{number_up}
use Rattle.ring_copies.proofs.Parts.{AreOrdered, move_onward, move_ordered}

-- who runs in the ring runs in its part
pub part_runs : (w : World) (q : ℕ) → part.runs (part_of w) q ≡ runs w q
part_runs w q = running_is (member_at w q).phase

-- a packet is dated, its numbers are within the logs, and it has seen erasures as of its version
pub record PacketSees (w : World) (k : Packet) : Type 0 where
  pub dated : k.version ≤ newest w
  pub within : (p : ℕ) → (numbers_at k p).got ≤ length (log_of w p)
  pub sees : SeesErasures (part_of w) k.version (λ p. (numbers_at k p).got)

-- what is known of a state
pub record AreSighted (w : World) : Type 0 where
  pub ordered : AreOrdered (part_of w)
  pub members : (q : ℕ) → runs w q ≡ true → SeesErasures (part_of w) (member_at w q).version (got_of w q)
  pub packets : (s j : ℕ) → s < length w.links → j < length (link_at w s).packets → PacketSees w (get_or (link_at w s).packets j no_packet)

-- and of a step from one to another
pub record Around (w w' : World) : Type 0 where
  pub gives : RingGives (part_of w)
  pub terms : HaveTerms (part_of w)
  pub placed : AreInPlace (part_of w)
  pub gives_then : RingGives (part_of w')
  pub terms_then : HaveTerms (part_of w')
  pub keeps : RingKeeps (part_of w) (part_of w')
  pub move : Move (part_of w) (part_of w')
  pub held : (q : ℕ) → (member_at w q).version ≤ newest w
  pub held_then : (q : ℕ) → (member_at w' q).version ≤ newest w'
  pub more : size w ≤ size w'

-- the newest view gets no older
pub newest_rises : (P P' : Part) → Move P P' → P.newest ≤ P'.newest
newest_rises P P' (rest k) = omega (arith, k.views.newest)
newest_rises P P' (publish x m k) = omega (arith, k.views.newest)
newest_rises P P' (grow y k) = omega (arith, k.views.newest)
newest_rises P P' (join y k) = omega (arith, k.views.newest)
newest_rises P P' (leave y k) = omega (arith, k.views.newest)
newest_rises P P' (see k) = omega (arith, k.next.newest)
newest_rises P P' (elect m k) = omega (arith, k.next.newest)
newest_rises P P' (enter n x k) = omega (arith, k.next.newest)
newest_rises P P' (finish y k) = omega (arith, k.views.newest)

-- who is erased stays so, so what isn't erased in a later view isn't in an earlier one
pub later_erased : (P : Part) (u v r : ℕ) → AreOrdered P → u ≤ v → v ≤ P.newest → (P.view v).is_erased r ≡ false → (P.view u).is_erased r ≡ false
later_erased P u v r h le upto e = ⊎_elim
    (λ (yes : (P.view u).is_erased r ≡ true). absurd (both_ways ((P.view v).is_erased r) e (h.stays u v r le upto yes)))
    (λ (none : (P.view u).is_erased r ≡ false). none)
    (cases_Bool ((P.view u).is_erased r))

-- ---- where a member's numbers come from: from some member's, by a view that isn't older; or else they have seen what they must

pub data From (w w' : World) (q : ℕ) : Type 0 where
  as_of : (z : ℕ) → runs w z ≡ true → (member_at w z).version ≤ (member_at w' q).version → ((p : ℕ) → got_of w' q p ≡ got_of w z p) → From w w' q
  anew : SeesErasures (part_of w') (member_at w' q).version (got_of w' q) → From w w' q

-- and a packet: it was on a link, or a member has put its own numbers
pub data PacketFrom (w w' : World) (k : Packet) : Type 0 where
  there : (s j : ℕ) → s < length w.links → j < length (link_at w s).packets → k ≡ get_or (link_at w s).packets j no_packet → PacketFrom w w' k
  put_by : (x : ℕ) → (member_at w' x).phase ≡ Up → k.version ≡ (member_at w' x).version → ((p : ℕ) → (numbers_at k p).got ≡ (row_at (member_at w' x) p).got) → PacketFrom w w' k

module _ (w w' : World) (a : Around w w') (h : AreSighted w) where
  pub onward : Onward (part_of w) (part_of w')
  onward = move_onward (part_of w) (part_of w') a.move a.terms a.placed a.keeps

  ordered_then : AreOrdered (part_of w')
  ordered_then = move_ordered (part_of w) (part_of w') a.move a.terms a.terms_then h.ordered

  -- the numbers of one that ran, by a later view
  pub numbers_later : (z v : ℕ) → runs w z ≡ true → (member_at w z).version ≤ v → v ≤ newest w' → SeesErasures (part_of w') v (got_of w z)
  numbers_later z v rz le upto =
      let pz : part.runs (part_of w) z ≡ true = part_runs w z ∙ rz in
      sees_later (part_of w') (member_at w z).version v (got_of w z) (λ r. later_erased (part_of w') (member_at w z).version v r ordered_then le upto)
      (sees_onward (part_of w) (part_of w') (member_at w z).version (got_of w z) onward (a.held z) (λ p. a.gives.within z p pz) (h.members z rz))

  from_sees : (q : ℕ) → From w w' q → SeesErasures (part_of w') (member_at w' q).version (got_of w' q)
  from_sees q (as_of z rz le same) = sees_got (part_of w') (member_at w' q).version (got_of w z) (got_of w' q) same (numbers_later z (member_at w' q).version rz le (a.held_then q))
  from_sees q (anew k) = k

  -- a packet that was there
  pub packet_stays : (k : Packet) → PacketSees w k → PacketSees w' k
  packet_stays k p = record {
    dated = omega (arith, p.dated, newest_rises (part_of w) (part_of w') a.move);
    within = λ q. omega (arith, p.within q, onward.longer q);
    sees = sees_onward (part_of w) (part_of w') k.version (λ p. (numbers_at k p).got) onward p.dated p.within p.sees;
  }

  -- what is known goes on
  pub sighted_then : ((q : ℕ) → runs w' q ≡ true → From w w' q) → ((s j : ℕ) → s < length w'.links → j < length (link_at w' s).packets → PacketFrom w w' (get_or (link_at w' s).packets j no_packet)) → AreSighted w'
  sighted_then each packet = record {
    ordered = ordered_then;
    members = members;
    packets = λ s j sl jl. by_packet (get_or (link_at w' s).packets j no_packet) (packet s j sl jl);
  }
    where
      members : (q : ℕ) → runs w' q ≡ true → SeesErasures (part_of w') (member_at w' q).version (got_of w' q)
      members q r = from_sees q (each q r)

      by_packet : (k : Packet) → PacketFrom w w' k → PacketSees w' k
      by_packet k (there s j sl jl is) = packet_stays k (subst (PacketSees w) (sym is) (h.packets s j sl jl))
      by_packet k (put_by x up version got) =
          let rx : runs w' x ≡ true = ap runs_phase up in
          let px : part.runs (part_of w') x ≡ true = part_runs w' x ∙ rx in
          let same : (p : ℕ) → (numbers_at k p).got ≡ got_of w' x p = λ p. got p ∙ sym (number_up (λ k. k.got) (λ r. r.got) w' p x up) in
          record {
            dated = omega (arith, version, a.held_then x);
            within = λ p. omega (arith, same p, a.gives_then.within x p px);
            sees = subst (λ v. SeesErasures (part_of w') v (λ p. (numbers_at k p).got)) (sym version) (sees_got (part_of w') (member_at w' x).version (got_of w' x) (λ p. (numbers_at k p).got) same (members x rx));
          }

-- ---- the same for the laws of the queue

abbrev pub copying : World → Copying
copying w = record { part = part_of w; version = λ q. (member_at w q).version; parcels = []; copies = [] }

pub copying_good : (w : World) → AreSighted w → IsCopyGood (copying w)
copying_good w h = record {
  distinct = h.ordered.distinct;
  seen_gone = h.ordered.seen_gone;
  members = λ q r. h.members q (sym (part_runs w q) ∙ r);
  parcels = λ j lt. absurd (omega arith);
  copied = λ i lt. absurd (omega arith);
}

pub copying_gives : (w : World) → ((q : ℕ) → (member_at w q).version ≤ newest w) → AreSighted w → CopyGives (copying w)
copying_gives w held h = record {
  held = λ q r. held q;
  dated = λ j lt. absurd (omega arith);
  within = λ j p lt. absurd (omega arith);
  stays = λ u v q le upto e. h.ordered.stays u v q le upto e;
}
