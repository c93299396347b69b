-- The whole invariant, and how single events keep it.
use Rattle.std.proofs.Common.{◌≡◌, ℕ, ◌<◌, ◌≤◌, true, false, List, [], ◌∷◌, ◌++◌, length, drop, get_or, refl, sym, ap, subst, ◌∙◌, arith, Some, is_some}
use Rattle.std.proofs.lemmas.Bool.{false≢true}
use Rattle.std.proofs.lemmas.List.{length-set}
use Rattle.ring_rules.specs.Refusal.{is_empty}
use Rattle.ring_rules.specs.Machine.{Waiting, Up, World, Packet, Member, Link, no_member, runs_phase, is_waiting, no_link, member_at, link_at, row_at, ring, runs, is_kept}
use Rattle.group_view.specs.Ring.{is_in}
use Rattle.ring_rules.proofs.walks.CountedWalk.{walk}
use Rattle.ring_rules.specs.OpenLinks.{NeverRises}
use Rattle.ring_rules.specs.Step.{size, pushed, next_packet, put_on, with_member}
use Rattle.ring_rules.proofs.rings.Lists.{at_set}
use Rattle.ring_rules.proofs.invariants.Good.{IsRing, IsLinked, IsWaitingRight, IsJoining, never_rises_still}
use Rattle.ring_rules.proofs.invariants.Period.{IsHistory}
use Rattle.ring_rules.proofs.invariants.Standing.{knows, IsOrdered}
use Rattle.ring_rules.proofs.walks.OwnerStops.{AllPackets, IsPacket, IsPacked, IsRetiredRight}
use Rattle.ring_rules.proofs.invariants.Shape.{SameEnds, IsShaped, shaped, shaped_ring, shaped_history, shaped_ordered, shaped_linked, shaped_Kept, shaped_kept}
use Rattle.ring_rules.proofs.walks.Put.{put_walk, runs_phase-Up}
use Rattle.ring_rules.proofs.walks.Packets.{reads_got, reads_forgot, line_of_packet}

pub record IsCurrent (w : World) : Type 0 where
  pub lt : (y s : ℕ) → runs w y ≡ true → (member_at w y).current ≡ Some s → s < length w.links
  pub receiver : (y s : ℕ) → runs w y ≡ true → (member_at w y).current ≡ Some s → (link_at w s).receiver ≡ y
  pub kept_yet : (y s : ℕ) → runs w y ≡ true → (member_at w y).current ≡ Some s → is_kept w (link_at w s) (member_at w y).version ≡ true
  pub opened : (y s : ℕ) → runs w y ≡ true → (member_at w y).current ≡ Some s → (link_at w s).opened ≤ (member_at w y).version

pub record IsNumbered (w : World) : Type 0 where
  pub zero : (x p : ℕ) → knows w (member_at w x).version p ≡ false → ((row_at (member_at w x) p).got ≡ 0) × ((row_at (member_at w x) p).forgot ≡ 0)
  -- nothing is retired of one who isn't there yet
  pub beyond : (x p : ℕ) → size w ≤ p → (row_at (member_at w x) p).retired ≡ 0

-- what holds in every state, with this said of its links
pub record Holds (Links : Type 0) (w : World) : Type 0 where
  pub is_ring : IsRing w
  pub linked : Links
  pub history : IsHistory w
  pub ordered : IsOrdered w
  pub packed : IsPacked w
  pub numbered : IsNumbered w
  pub retired : IsRetiredRight w
  pub waiting : IsWaitingRight w
  pub joining : IsJoining w
  pub current : IsCurrent w
  pub origins : (p : ℕ) → 1 ≤ p → p < size w → is_in p (ring w) ≡ true
  pub walks : (p : ℕ) → 1 ≤ p → p < size w → NeverRises (walk w p)

-- all of it
abbrev pub Inv : World → Type 0
Inv w = Holds (IsLinked w) w

-- ---- packets

pub AllPackets-map : (P Q : Packet → Type 0) (ks : List Packet) → ((k : Packet) → P k → Q k) → AllPackets P ks → AllPackets Q ks
AllPackets-map P Q [] h a = tt
AllPackets-map P Q (k ∷ ks) h a = (h k a.0, AllPackets-map P Q ks h a.1)

pub AllPackets-push : (P : Packet → Type 0) (ks : List Packet) (k : Packet) → AllPackets P ks → P k → AllPackets P (ks ++ k ∷ [])
AllPackets-push P [] k a h = (h, tt)
AllPackets-push P (j ∷ js) k a h = (a.0, AllPackets-push P js k a.1 h)

pub AllPackets-drop : (P : Packet → Type 0) (ks : List Packet) → AllPackets P ks → AllPackets P (drop 1 ks)
AllPackets-drop P [] a = a
AllPackets-drop P (k ∷ ks) a = a.1

pub AllPackets-first : (P : Packet → Type 0) (ks : List Packet) (d : Packet) → is_empty ks ≡ false → AllPackets P ks → P (get_or ks 0 d)
AllPackets-first P [] d e a = absurd (false≢true (sym e))
AllPackets-first P (k ∷ ks) d e a = a.0

pub shaped_packed : (w : World) (ms : List Member) (ls : List Link) → IsShaped w ms ls → ((s : ℕ) → s < length w.links → AllPackets (IsPacket w (link_at w s)) (link_at (shaped w ms ls) s).packets) → IsPacked (shaped w ms ls)
shaped_packed w ms ls h a = record {
  packets = λ s l. AllPackets-map (IsPacket w (link_at w s)) (IsPacket (shaped w ms ls) (link_at (shaped w ms ls) s)) (link_at (shaped w ms ls) s).packets
      (λ k q. record {
        from = omega (arith, q.from, (h.ends s).opened);
        upto = q.upto;
        kept = shaped_Kept w (link_at w s) (link_at (shaped w ms ls) s) k.version (h.ends s) q.kept;
        zero = q.zero;
      }) (a s (omega (arith, h.many)));
}

pub shaped_current : (w : World) (ms : List Member) (ls : List Link) → IsShaped w ms ls → ((q : ℕ) → (member_at (shaped w ms ls) q).current ≡ (member_at w q).current) → IsCurrent w → IsCurrent (shaped w ms ls)
shaped_current w ms ls h same c = record {
  lt = λ y s r e. omega (arith, h.many, c.lt y s (h.runs_less y r) (sym (same y) ∙ e));
  receiver = λ y s r e. (h.ends s).receiver ∙ c.receiver y s (h.runs_less y r) (sym (same y) ∙ e);
  kept_yet = λ y s r e. shaped_kept w (link_at w s) (link_at (shaped w ms ls) s) (member_at (shaped w ms ls) y).version (h.ends s) ∙ ap (is_kept w (link_at w s)) (h.version y) ∙ c.kept_yet y s (h.runs_less y r) (sym (same y) ∙ e);
  opened = λ y s r e. omega (arith, (h.ends s).opened, h.version y, c.opened y s (h.runs_less y r) (sym (same y) ∙ e));
}

-- what is said of packets stays so where the views stay
pub packets_stay : (w : World) (ms : List Member) (ls : List Link) (l : Link) (ks : List Packet) → AllPackets (IsPacket w l) ks → AllPackets (IsPacket (shaped w ms ls) l) ks
packets_stay w ms ls l ks a = AllPackets-map (IsPacket w l) (IsPacket (shaped w ms ls) l) ks (λ k q. record { from = q.from; upto = q.upto; kept = q.kept; zero = q.zero }) a

-- what is left to show of a state with other members and links: the views, the ends of the links and who runs keep the rest
pub record Remaining (w : World) (ms : List Member) (ls : List Link) : Type 0 where
  pub many : size (shaped w ms ls) ≡ size w
  pub packed : IsPacked (shaped w ms ls)
  pub numbered : IsNumbered (shaped w ms ls)
  pub retired : IsRetiredRight (shaped w ms ls)
  pub waiting : IsWaitingRight (shaped w ms ls)
  pub joining : IsJoining (shaped w ms ls)
  pub current : IsCurrent (shaped w ms ls)
  pub walks : (p : ℕ) → 1 ≤ p → p < size w → NeverRises (walk (shaped w ms ls) p)

pub shaped_keeps : (w : World) (ms : List Member) (ls : List Link) → IsShaped w ms ls → Remaining w ms ls → Inv w → Inv (shaped w ms ls)
shaped_keeps w ms ls sh r h = record {
  is_ring = shaped_ring w ms ls sh h.is_ring;
  linked = shaped_linked w ms ls sh h.linked;
  history = shaped_history w ms ls sh h.history;
  ordered = shaped_ordered w ms ls h.ordered;
  packed = r.packed;
  numbered = r.numbered;
  retired = r.retired;
  waiting = r.waiting;
  joining = r.joining;
  current = r.current;
  origins = λ p some l. h.origins p some (omega (arith, r.many));
  walks = λ p some l. r.walks p some (omega (arith, r.many));
}

-- ---- members that wait

-- a member that is written, and doesn't wait then, is none of them
pub set_alike : (w : World) (y z : ℕ) (m : Member) → y < size w → is_waiting m.phase ≡ false → (member_at (with_member w y m) z).phase ≡ Waiting → member_at (with_member w y m) z ≡ member_at w z
set_alike w y z m lt e = at_set (λ i a. a.phase ≡ Waiting → a ≡ member_at w i) w.members y z m no_member lt (λ k. absurd (false≢true (sym e ∙ ap is_waiting k))) (λ _ _. refl)

-- they stay as they are
abbrev pub WaitersStay : World → World → Type 0
WaitersStay w w' = (q : ℕ) → (member_at w' q).phase ≡ Waiting → member_at w' q ≡ member_at w q

-- and their links too
pub waits_alike : (w w' : World) → WaitersStay w w' → ((s : ℕ) → s < length w.links → (link_at w' s).opened ≡ (link_at w s).opened) → IsCurrent w → IsJoining w → IsJoining w'
waits_alike w w' same links c h = record {
  some = λ y e. let k = same y e in ap (λ a. is_some a.current) k ∙ h.some y (sym (ap (λ a. a.phase) k) ∙ e);
  opened = λ y s e f.
      let k = same y e in
      let waits : (member_at w y).phase ≡ Waiting = sym (ap (λ a. a.phase) k) ∙ e in
      let takes : (member_at w y).current ≡ Some s = sym (ap (λ a. a.current) k) ∙ f in
      links s (c.lt y s (ap runs_phase waits) takes) ∙ h.opened y s waits takes ∙ sym (ap (λ a. a.version) k);
  rows = λ y p e. let k = same y e in let z = h.rows y p (sym (ap (λ a. a.phase) k) ∙ e) in (ap (λ a. (row_at a p).got) k ∙ z.0, ap (λ a. (row_at a p).forgot) k ∙ z.1);
}

-- ---- put

pub put_shape : (w : World) (x o : ℕ) → o < length w.links → IsShaped w w.members (put_on w x o).links
put_shape w x o lt = record {
  many = length-set w.links o (pushed (link_at w o) (next_packet (member_at w x) (link_at w o).sending));
  ends = λ j. at_set (λ i l. SameEnds (link_at w i) l) w.links o j (pushed (link_at w o) (next_packet (member_at w x) (link_at w o).sending)) no_link lt
      (record { sender = refl; receiver = refl; opened = refl }) (λ _. record { sender = refl; receiver = refl; opened = refl });
  runs_less = λ q r. r;
  version = λ q. refl;
  out = λ q. refl;
}

pub not_empty_push : (ks : List Packet) (k : Packet) → is_empty (ks ++ k ∷ []) ≡ false
not_empty_push [] k = refl
not_empty_push (j ∷ js) k = refl

pub put_keeps : (w : World) (x o : ℕ) → (member_at w x).phase ≡ Up → (member_at w x).out ≡ Some o → Inv w → Inv (put_on w x o)
put_keeps w x o up out h =
    let rx : runs w x ≡ true = runs_phase-Up w x up in
    let lt : o < length w.links = h.linked.out_lt x o rx out in
    let k : Packet = next_packet (member_at w x) (link_at w o).sending in
    let sh : IsShaped w w.members (put_on w x o).links = put_shape w x o lt in
    let stays : (s : ℕ) → is_empty (link_at w s).packets ≡ false → is_empty (link_at (put_on w x o) s).packets ≡ false = λ s e.
    at_set (λ i l. is_empty (link_at w i).packets ≡ false → is_empty l.packets ≡ false) w.links o s (pushed (link_at w o) k) no_link lt
    (λ _. not_empty_push (link_at w o).packets k) (λ _ e2. e2) e in
    shaped_keeps w w.members (put_on w x o).links sh
    (record {
      many = refl;
      packed = shaped_packed w w.members (put_on w x o).links sh
          (λ s l. at_set (λ i a. i < length w.links → AllPackets (IsPacket w (link_at w i)) a.packets) w.links o s (pushed (link_at w o) k) no_link lt
          (λ _. AllPackets-push (IsPacket w (link_at w o)) (link_at w o).packets k (h.packed.packets o lt) (record {
            from = subst (λ q. (link_at w o).opened ≤ (member_at w q).version) (h.linked.out_from x o rx out) (h.linked.seen o lt);
            upto = h.is_ring.held x;
            kept = h.linked.out_kept x o rx out;
            zero = λ p e.
                (line_of_packet (λ k. k.got) (λ r. r.got) (member_at w x) (link_at w o).sending p reads_got ∙ (h.numbered.zero x p e).0, line_of_packet (λ k. k.forgot) (λ r. r.forgot) (member_at w x) (link_at w o).sending p reads_forgot ∙ (h.numbered.zero x p e).1);
          }))
          (λ _ l2. h.packed.packets s l2) l);
      numbered = record { zero = h.numbered.zero; beyond = h.numbered.beyond };
      retired = record { none = h.retired.none };
      waiting = record {
        first = λ y s e c. stays s (h.waiting.first y s e c);
        mine = λ y s e c. (sh.ends s).receiver ∙ h.waiting.mine y s e c;
        admission = λ y s e l t v. stays s (h.waiting.admission y s e (omega (arith, sh.many)) (sym (sh.ends s).receiver ∙ t) (sym (sh.ends s).opened ∙ v));
      };
      joining = waits_alike w (put_on w x o) (λ z e. refl) (λ s l. (sh.ends s).opened) h.current h.joining;
      current = shaped_current w w.members (put_on w x o).links sh (λ q. refl) h.current;
      walks = λ p some l. never_rises_still (walk w p) (walk (put_on w x o) p) (put_walk w x o p h.is_ring h.linked h.waiting up out) (h.walks p some l);
    })
    h
