-- Every act keeps who has seen which erasures.
use Rattle.std.proofs.Common.{◌≡◌, ◌≢◌, ℕ, zero, suc, ◌+◌, ◌<◌, ◌≤◌, Bool, true, false, List, [], ◌∷◌, ◌++◌, length, get_or, take, drop, refl, sym, ap, ◌∙◌, subst, arith, ⊎_elim, inl, inr, Some, None}
use Rattle.std.specs.Prelude.{◌⊎◌}
use Rattle.std.proofs.lemmas.Bool.{cases_eq, cases_lt, false≢true}
use Rattle.std.proofs.lemmas.List.{length-set, length_push, get_or-set_same, get_or-set_other, get_or_push, take_all}
use Rattle.queue_core.specs.declared.message.Message.{Message}
use Rattle.queue_mirror.specs.Mirror.{MirrorState}
use Rattle.group_view.specs.View.{Group}
use Rattle.group_view.specs.Change.{marked}
use Rattle.queue_laws.specs.Part.{ops}
use Rattle.queue_laws.specs.Moves.{Publishes, Enters}
use Rattle.queue_laws.specs.Copies.{ActsByItself}
use Rattle.queue_laws.proofs.Copied.{SeesErasures, sees_own, sees_later}
use Rattle.ring_rules.specs.declared.phase.Phase.{Phase}
use Rattle.ring_rules.specs.declared.phase.Phase.TheVariants.{Waiting, Up, Stopped}
use Rattle.ring_rules.specs.declared.phase.Ending.TheVariants.{Moved, Halted}
use Rattle.ring_rules.specs.Rows.{Row, taken_row, no_row}
use Rattle.ring_rules.specs.Refusal.{is_empty}
use Rattle.ring_rules.specs.View.{right_of}
use Rattle.ring_rules.specs.Machine.{Packet, Member, Link, World, no_packet, no_member, no_link, no_sending, member_at, link_at, row_at, numbers_at, view_in, newest, runs, runs_phase, oldest}
use Rattle.ring_rules.specs.Step.{size, log_of, publish_at, published, put_on, pushed, next_packet, take_from, taker, popped, is_owned, begin_from, begun, leave_link, finished, current_is, with_current, gain_on, stop_at, stopped, end_out, ended, with_member, with_link, look_at, moved_to, open_to, opened_link, come_to, joiner, copied, copied_at}
use Rattle.ring_rules.specs.Act.{Act, refusal, effect}
use Rattle.ring_rules.specs.Event.{MayPublish, refreshed, erased_view, synced_view}
use Rattle.ring_rules.specs.QueuePart.{phase_of, got_of, part_of}
use Rattle.ring_rules.proofs.rings.Lists.{at_set, at_push, get_or_beyond}
use Rattle.ring_rules.proofs.events.Cases.{IsUp, IsRunning, each_act}
use Rattle.ring_rules.proofs.events.Composed.{end_composed, refresh_composed}
use Rattle.ring_rules.proofs.events.Leaves.{member_leaves, come_member}
use Rattle.ring_rules.proofs.events.WhatRefuses.{MayTake, MayBegin}
use Rattle.ring_rules.proofs.invariants.Happens.{IsGood}
use Rattle.ring_rules.proofs.invariants.KeptTake.{can_take}
use Rattle.ring_rules.proofs.walks.Packets.{reads_got, line_of_packet}
use Rattle.ring_rules.proofs.walks.Put.{number_up}
use Rattle.ring_rules.proofs.walks.Take.{take_number_other, row_at-taker}
use Rattle.ring_rules.proofs.runs.LinesKept.{come_was}
use Rattle.ring_rules.proofs.runs.OwnLogs.{cast_log}
use Rattle.ring_rules.proofs.queue.Asked.{leads_itself}
use Rattle.ring_rules.proofs.queue.Facts.{Facts}
use Rattle.ring_rules.proofs.queue.Likes.{put_quiet, gain_quiet, current_quiet, leave_quiet, refreshed_quiet}
use Rattle.ring_rules.proofs.queue.CopySteps as copy_step
use Rattle.ring_copies.proofs.Parts.{move_ordered, publishes_of, same_got_of, enters_of}
use Rattle.ring_copies.proofs.Sights.{PacketSees, AreSighted, Around, From, as_of, anew, PacketFrom, there, put_by, part_runs, later_erased, numbers_later, packet_stays, sighted_then, copying, copying_good, copying_gives}

-- ---- packets

-- all packets of the links of w' are from w
abbrev PacketsFrom : World → World → List Link → Type 0
PacketsFrom w w' ls = (s j : ℕ) → s < length ls → j < length (get_or ls s no_link).packets → PacketFrom w w' (get_or (get_or ls s no_link).packets j no_packet)

-- one link is another, of whose packets this is known
set_from : (w w' : World) (o : ℕ) (l : Link) → o < length w.links → ((j : ℕ) → j < length l.packets → PacketFrom w w' (get_or l.packets j no_packet)) → PacketsFrom w w' (with_link w o l).links
set_from w w' o l lt here s j sl jl =
    at_set (λ k a. k < length w.links → j < length a.packets → PacketFrom w w' (get_or a.packets j no_packet)) w.links o s l no_link lt (λ _. here j) (λ _ kl il. there s j kl il refl) (omega (arith, sl, length-set w.links o l)) jl

-- the same packets, or without the first
same_packets : (w w' : World) (o : ℕ) (l : Link) → o < length w.links → l.packets ≡ (link_at w o).packets → PacketsFrom w w' (with_link w o l).links
same_packets w w' o l lt e = set_from w w' o l lt (λ j jl. there o j lt (subst (λ ks. j < length ks) e jl) (ap (λ ks. get_or ks j no_packet) e))

without_first : (w w' : World) (o : ℕ) (l : Link) → o < length w.links → l.packets ≡ drop 1 (link_at w o).packets → PacketsFrom w w' (with_link w o l).links
without_first w w' o l lt e = set_from w w' o l lt (λ j jl. by_packets j (link_at w o).packets refl (subst (λ ks. j < length ks) e jl) (ap (λ ks. get_or ks j no_packet) e))
  where
    by_packets : (j : ℕ) (ks : List Packet) → (link_at w o).packets ≡ ks → j < length (drop 1 (link_at w o).packets) → get_or l.packets j no_packet ≡ get_or (drop 1 (link_at w o).packets) j no_packet → PacketFrom w w' (get_or l.packets j no_packet)
    by_packets j [] k jl is = absurd (omega (arith, jl, ap (λ ks. length (drop 1 ks)) k))
    by_packets j (a ∷ ks) k jl is = there o (suc j) lt (omega (arith, ap length k, ap (λ ks. length (drop 1 ks)) k, jl)) (is ∙ ap (λ ks. get_or (drop 1 ks) j no_packet) k ∙ sym (ap (λ ks. get_or ks (suc j) no_packet) k))

module _ (w : World) (f : Facts w) (h : AreSighted w) where
  abbrev g : IsGood w
  g = f.good

  -- what goes on where members and what they received are as they were
  quiet : (w' : World) → ((q : ℕ) → (member_at w' q).phase ≡ (member_at w q).phase) → ((q : ℕ) → (member_at w' q).version ≡ (member_at w q).version) → ((q p : ℕ) → got_of w' q p ≡ got_of w q p)
      → PacketsFrom w w' w'.links → Around w w' → AreSighted w'
  quiet w' phase version got packets a = sighted_then w w' a h (λ q r. as_of q (ap runs_phase (sym (phase q)) ∙ r) (omega (arith, version q)) (got q)) packets

  no_links : (w' : World) → PacketsFrom w w' w.links
  no_links w' s j sl jl = there s j sl jl refl

  -- ---- what a member publishes

  casts : (x : ℕ) (m : Message) → IsUp w x → MayPublish w x m → Around w (publish_at w x m) → AreSighted (publish_at w x m)
  casts x m u may a = sighted_then w w' a h each (no_links w')
    where
      w' : World
      w' = publish_at w x m

      k : Publishes x m (part_of w) (part_of w')
      k = publishes_of (part_of w) (part_of w') x m a.move (cast_log w x m u.lt)

      phase : (q : ℕ) → (member_at w' q).phase ≡ (member_at w q).phase
      phase q = member_leaves (λ _ a b. b.phase ≡ a.phase) w x (published x m (member_at w x)) refl (λ _. refl) q

      version : (q : ℕ) → (member_at w' q).version ≡ (member_at w q).version
      version q = member_leaves (λ _ a b. b.version ≡ a.version) w x (published x m (member_at w x)) refl (λ _. refl) q

      acts : ActsByItself (copying w) x m
      acts o is = leads_itself w x m may o is

      each : (q : ℕ) → runs w' q ≡ true → From w w' q
      each q r = ⊎_elim
          (λ (is : q ≡ x). subst (From w w') (sym is) (anew (subst (λ v. SeesErasures (part_of w') v (got_of w' x)) (sym (version x))
          (sees_own x m (copying w) (copying w') k acts a.gives a.gives_then (copying_gives w a.held h) a.terms (copying_good w h)))))
          (λ (ne : q ≢ x). as_of q (ap runs_phase (sym (phase q)) ∙ r) (omega (arith, version q)) (λ p. k.others_got q p (λ is. absurd (ne is))))
          (cases_eq q x)

  -- ---- what a member puts

  puts : (x o : ℕ) → IsUp w x → (member_at w x).out ≡ Some o → Around w (put_on w x o) → AreSighted (put_on w x o)
  puts x o u out a =
      let lt : o < length w.links = g.inv.linked.out_lt x o (ap runs_phase u.up) out in
      let k : Packet = next_packet (member_at w x) (link_at w o).sending in
      let w' : World = put_on w x o in
      quiet w' (λ q. refl) (λ q. refl) (put_quiet w x o g lt).like.got
      (set_from w w' o (pushed (link_at w o) k) lt (λ j jl. at_push (λ i b. PacketFrom w w' b) (link_at w o).packets j k no_packet (omega (arith, jl, length_push (link_at w o).packets k))
      (put_by x u.up refl (λ p. line_of_packet (λ n. n.got) (λ r. r.got) (member_at w x) (link_at w o).sending p reads_got))
      (λ il. there o j lt il refl))) a

  -- ---- what a member takes

  takes : (y s : ℕ) → IsUp w y → MayTake w y s → Around w (take_from w y s) → AreSighted (take_from w y s)
  takes y s u m a = sighted_then w w' a h each (without_first w w' s (popped (link_at w s)) sl refl)
    where
      w' : World
      w' = take_from w y s

      sl : s < length w.links
      sl = g.inv.current.lt y s (ap runs_phase u.up) m.current

      k : Packet
      k = oldest (link_at w s)

      phase : (q : ℕ) → (member_at w' q).phase ≡ (member_at w q).phase
      phase q = member_leaves (λ _ a b. b.phase ≡ a.phase) w y (taker w y s) refl (λ _. refl) q

      version : (q : ℕ) → (member_at w' q).version ≡ (member_at w q).version
      version q = member_leaves (λ _ a b. b.version ≡ a.version) w y (taker w y s) refl (λ _. refl) q

      me : member_at w' y ≡ taker w y s
      me = get_or-set_same w.members y (taker w y s) no_member u.lt

      own : SeesErasures (part_of w') (member_at w y).version (got_of w y)
      own = numbers_later w w' a h y (member_at w y).version (ap runs_phase u.up) (omega arith) (subst (λ v. v ≤ newest w') (version y) (a.held_then y))

      some : (ks : List Packet) → is_empty ks ≡ false → 0 < length ks
      some [] e = absurd (false≢true (sym e))
      some (k ∷ ks) e = omega arith

      first : PacketSees w' k
      first = packet_stays w w' a h k (h.packets s 0 sl (some (link_at w s).packets m.has))

      brought : SeesErasures (part_of w') (member_at w y).version (λ p. (numbers_at k p).got)
      brought = sees_later (part_of w') k.version (member_at w y).version (λ p. (numbers_at k p).got)
          (λ r. later_erased (part_of w') k.version (member_at w y).version r (move_ordered (part_of w) (part_of w') a.move a.terms a.terms_then h.ordered) m.version (subst (λ v. v ≤ newest w') (version y) (a.held_then y))) first.sees

      now : (p : ℕ) → got_of w' y p ≡ (row_at (taker w y s) p).got
      now p = number_up (λ k. k.got) (λ r. r.got) w' p y (phase y ∙ u.up) ∙ ap (λ b. (row_at b p).got) me

      either : (p : ℕ) → p < size w → (got_of w' y p ≡ got_of w y p) ⊎ (got_of w' y p ≡ (numbers_at k p).got)
      either p pl =
          let is : got_of w' y p ≡ (taken_row (is_owned (view_in w (member_at w y).version) y (link_at w s).sender p) (log_of w p) (row_at (member_at w y) p) (numbers_at k p)).got = now p ∙ ap (λ (r : Row). r.got) (row_at-taker w y s p pl) in
          by_own (is_owned (view_in w (member_at w y).version) y (link_at w s).sender p) is
        where
          by_own : (b : Bool) → got_of w' y p ≡ (taken_row b (log_of w p) (row_at (member_at w y) p) (numbers_at k p)).got → (got_of w' y p ≡ got_of w y p) ⊎ (got_of w' y p ≡ (numbers_at k p).got)
          by_own true is = inl (is ∙ sym (number_up (λ k. k.got) (λ r. r.got) w p y u.up))
          by_own false is = inr is

      sees : SeesErasures (part_of w') (member_at w y).version (got_of w' y)
      sees p r i b e = ⊎_elim
          (λ (pl : p < size w). ⊎_elim
          (λ (same : got_of w' y p ≡ got_of w y p). ap (λ n. ops (take n (log_of w' p))) same ∙ own p r i b e)
          (λ (new : got_of w' y p ≡ (numbers_at k p).got). ap (λ n. ops (take n (log_of w' p))) new ∙ brought p r i b e)
          (either p pl))
          (λ (ge : size w ≤ p). ap (λ ms. ops (take (got_of w' y p) ms)) (ap (λ (b : Member). b.log) (get_or_beyond w'.members p no_member (omega (arith, ge, length-set w.members y (taker w y s))))) ∙ ap ops (take_all (got_of w' y p) [] (omega arith)))
          (cases_lt p (size w))

      each : (q : ℕ) → runs w' q ≡ true → From w w' q
      each q r = ⊎_elim
          (λ (is : q ≡ y). subst (From w w') (sym is) (anew (subst (λ v. SeesErasures (part_of w') v (got_of w' y)) (sym (version y)) sees)))
          (λ (ne : q ≢ y). as_of q (ap runs_phase (sym (phase q)) ∙ r) (omega (arith, version q)) (λ p. take_number_other (λ k. k.got) (λ r. r.got) w y s p q (can_take w y s g.inv m) ne))
          (cases_eq q y)

  -- the first take of one that waits
  begins : (y s : ℕ) → IsRunning w y → MayBegin w y s → Around w (begin_from w y s) → AreSighted (begin_from w y s)
  begins y s u m a = sighted_then w w' a h each (without_first w w' s (popped (link_at w s)) sl refl)
    where
      w' : World
      w' = begin_from w y s

      b : Member
      b = begun (size w) (member_at w y) (oldest (link_at w s))

      sl : s < length w.links
      sl = g.inv.current.lt y s (ap runs_phase m.waits) m.current

      up_then : (member_at w' y).phase ≡ Up
      up_then = ap (λ (a : Member). a.phase) (get_or-set_same w.members y b no_member u.lt)

      version : (q : ℕ) → (member_at w' q).version ≡ (member_at w q).version
      version q = member_leaves (λ _ a b. b.version ≡ a.version) w y b refl (λ _. refl) q

      ran : (q : ℕ) → runs w' q ≡ true → runs w q ≡ true
      ran q = member_leaves (λ _ a b. runs_phase b.phase ≡ true → runs_phase a.phase ≡ true) w y b (λ _. u.runs_on) (λ _ r. r) q

      each : (q : ℕ) → runs w' q ≡ true → From w w' q
      each q r = as_of q (ran q r) (omega (arith, version q)) (λ p. (same_got_of (part_of w) (part_of w') y a.move
          (λ is. let bad : phase_of Up ≡ phase_of Waiting = sym (ap phase_of up_then) ∙ is ∙ ap phase_of m.waits in cc)
          (λ is. let bad : phase_of Up ≡ phase_of Waiting = sym (ap phase_of up_then) ∙ is in cc)).got q p (part_runs w' q ∙ r))

  -- ---- what leaves members and packets as they are

  leaves : (y s : ℕ) → IsUp w y → (member_at w y).current ≡ Some s → Around w (leave_link w y s) → AreSighted (leave_link w y s)
  leaves y s u current a = quiet (leave_link w y s)
      (λ q. member_leaves (λ _ a b. b.phase ≡ a.phase) w y (with_current None (member_at w y)) refl (λ _. refl) q)
      (λ q. member_leaves (λ _ a b. b.version ≡ a.version) w y (with_current None (member_at w y)) refl (λ _. refl) q)
      (leave_quiet w y s u.lt u.up).like.got
      (same_packets w (leave_link w y s) s (finished (link_at w s)) (g.inv.current.lt y s (ap runs_phase u.up) current) refl) a

  gains : (x o : ℕ) → IsUp w x → (member_at w x).out ≡ Some o → Around w (gain_on w o) → AreSighted (gain_on w o)
  gains x o u out a = quiet (gain_on w o) (λ q. refl) (λ q. refl) (gain_quiet w o).like.got (same_packets w (gain_on w o) o _ (g.inv.linked.out_lt x o (ap runs_phase u.up) out) refl) a

  picks : (y s : ℕ) → IsUp w y → Around w (current_is w y (Some s)) → AreSighted (current_is w y (Some s))
  picks y s u a = quiet (current_is w y (Some s))
      (λ q. member_leaves (λ _ a b. b.phase ≡ a.phase) w y (with_current (Some s) (member_at w y)) refl (λ _. refl) q)
      (λ q. member_leaves (λ _ a b. b.version ≡ a.version) w y (with_current (Some s) (member_at w y)) refl (λ _. refl) q)
      (current_quiet w y (Some s) u.lt u.up).like.got (no_links (current_is w y (Some s))) a

  copies : (x : ℕ) (m : MirrorState) → IsUp w x → Around w (copied_at w x m) → AreSighted (copied_at w x m)
  copies x m u a = quiet (copied_at w x m)
      (copy_step.phase w x m u.lt)
      (λ q. member_leaves (λ _ a b. b.version ≡ a.version) w x (copied m (member_at w x)) refl (λ _. refl) q)
      (copy_step.got w x m u.lt) (no_links (copied_at w x m)) a

  -- ---- a stop

  stops : (x : ℕ) → IsRunning w x → Around w (end_out Halted (stop_at w x) (member_at w x).out) → AreSighted (end_out Halted (stop_at w x) (member_at w x).out)
  stops x u a = sighted_then w w' a h each packets
    where
      w' : World
      w' = end_out Halted (stop_at w x) (member_at w x).out

      members : w'.members ≡ (stop_at w x).members
      members = end_composed (λ v. v.members ≡ (stop_at w x).members) Halted (stop_at w x) (member_at w x).out (λ o e k. refl) refl

      stopped_then : (member_at w' x).phase ≡ Stopped
      stopped_then = ap (λ ms. (get_or ms x no_member).phase) members ∙ ap (λ (a : Member). a.phase) (get_or-set_same w.members x (stopped (member_at w x)) no_member u.lt)

      version : (q : ℕ) → (member_at w' q).version ≡ (member_at w q).version
      version q = ap (λ ms. (get_or ms q no_member).version) members ∙ member_leaves (λ _ a b. b.version ≡ a.version) w x (stopped (member_at w x)) refl (λ _. refl) q

      ran : (q : ℕ) → runs w' q ≡ true → runs w q ≡ true
      ran q r = member_leaves (λ _ a b. runs_phase b.phase ≡ true → runs_phase a.phase ≡ true) w x (stopped (member_at w x)) (λ k. absurd (false≢true k)) (λ _ k. k) q (ap (λ ms. runs_phase (get_or ms q no_member).phase) (sym members) ∙ r)

      moves : (f : Phase) → (member_at w x).phase ≡ f → runs_phase f ≡ true → phase_of (member_at w' x).phase ≢ phase_of (member_at w x).phase
      moves Waiting e r is = let bad : phase_of Stopped ≡ phase_of Waiting = sym (ap phase_of stopped_then) ∙ is ∙ ap phase_of e in cc
      moves Up e r is = let bad : phase_of Stopped ≡ phase_of Up = sym (ap phase_of stopped_then) ∙ is ∙ ap phase_of e in cc
      moves Stopped e r is = false≢true r

      each : (q : ℕ) → runs w' q ≡ true → From w w' q
      each q r = as_of q (ran q r) (omega (arith, version q)) (λ p. (same_got_of (part_of w) (part_of w') x a.move
          (moves (member_at w x).phase refl u.runs_on)
          (λ is. let bad : phase_of Stopped ≡ phase_of Waiting = sym (ap phase_of stopped_then) ∙ is in cc)).got q p (part_runs w' q ∙ r))

      packets : PacketsFrom w w' w'.links
      packets = end_composed (λ v. PacketsFrom w w' v.links) Halted (stop_at w x) (member_at w x).out
          (λ o e _. same_packets w w' o (ended Halted (link_at w o)) (g.inv.linked.out_lt x o u.runs_on e) refl) (no_links w')

  -- ---- a refresh of x to v, from a state u with the links of w

  module _ (u : World) (x v : ℕ) (lt : x < size u) (up : (member_at u x).phase ≡ Up) (same : u.links ≡ w.links) where
    abbrev looked : World
    looked = refreshed u x v

    -- what is so on the way
    record OnWay (t : World) : Type 0 where
      pub phase : (q : ℕ) → (member_at t q).phase ≡ (member_at u q).phase
      pub others : (q : ℕ) → q ≢ x → (member_at t q).version ≡ (member_at u q).version
      pub mine : (member_at t x).version ≡ v
      pub rows : (member_at t x).rows ≡ (member_at u x).rows
      pub within : x < size t

    member_way : (t : World) (y : Member) → OnWay t → y.phase ≡ (member_at t x).phase → y.version ≡ v → y.rows ≡ (member_at t x).rows → OnWay (with_member t x y)
    member_way t y k phase version rows = record {
      phase = λ q. member_leaves (λ _ a b. b.phase ≡ a.phase) t x y phase (λ _. refl) q ∙ k.phase q;
      others = λ q ne. ap (λ (a : Member). a.version) (other q ne) ∙ k.others q ne;
      mine = ap (λ (a : Member). a.version) here ∙ version;
      rows = ap (λ (a : Member). a.rows) here ∙ rows ∙ k.rows;
      within = omega (arith, k.within, length-set t.members x y);
    }
      where
        here : member_at (with_member t x y) x ≡ y
        here = get_or-set_same t.members x y no_member k.within

        other : (q : ℕ) → q ≢ x → member_at (with_member t x y) q ≡ member_at t q
        other q ne = get_or-set_other t.members x q y no_member ne

    way : OnWay looked
    way = refresh_composed OnWay u x v
        (λ o e k. record { phase = k.phase; others = k.others; mine = k.mine; rows = k.rows; within = k.within })
        (λ t e k. member_way (record t { links = t.links ++ opened_link t x (right_of (view_in u v) x) ∷ [] }) (record (member_at t x) { out = Some (length t.links) })
        (record { phase = k.phase; others = k.others; mine = k.mine; rows = k.rows; within = k.within }) refl k.mine refl)
        first
      where
        first : OnWay (look_at u x v)
        first = record {
          phase = λ q. member_leaves (λ _ a b. b.phase ≡ a.phase) u x (moved_to u x v) refl (λ _. refl) q;
          others = λ q ne. ap (λ (a : Member). a.version) (get_or-set_other u.members x q (moved_to u x v) no_member ne);
          mine = ap (λ (a : Member). a.version) (get_or-set_same u.members x (moved_to u x v) no_member lt);
          rows = ap (λ (a : Member). a.rows) (get_or-set_same u.members x (moved_to u x v) no_member lt);
          within = omega (arith, lt, length-set u.members x (moved_to u x v));
        }

    -- the packets are those that were there, but for the first one on a link that opens
    packets_way : ((o : ℕ) → (member_at u x).out ≡ Some o → o < length w.links) → PacketsFrom w looked looked.links
    packets_way outs = refresh_composed (λ t. PacketsFrom w looked t.links) u x v
        (λ o e k. ended_from o (outs o e))
        (λ t e k. opened_from t e k)
        (subst (PacketsFrom w looked) (sym same) (no_links looked))
      where
        ended_from : (o : ℕ) → o < length w.links → PacketsFrom w looked (with_link (look_at u x v) o (ended Moved (link_at u o))).links
        ended_from o ol = subst (λ ls. PacketsFrom w looked (with_link (record w { links = ls }) o (ended Moved (get_or ls o no_link))).links) (sym same) (same_packets w looked o (ended Moved (link_at w o)) ol refl)

        opened_from : (t : World) → t.members ≡ (look_at u x v).members → PacketsFrom w looked t.links → PacketsFrom w looked (open_to t x (right_of (view_in u v) x)).links
        opened_from t e k s j sl jl =
            at_push (λ i (l : Link). i < length t.links + 1 → j < length l.packets → PacketFrom w looked (get_or l.packets j no_packet)) t.links s (opened_link t x (right_of (view_in u v) x)) no_link
            (omega (arith, sl, length_push t.links (opened_link t x (right_of (view_in u v) x))))
            (λ _ jl. new j jl) (λ il _ jl. k s j il jl) (omega (arith, sl, length_push t.links (opened_link t x (right_of (view_in u v) x)))) jl
          where
            me : member_at t x ≡ moved_to u x v
            me = ap (λ ms. get_or ms x no_member) e ∙ get_or-set_same u.members x (moved_to u x v) no_member lt

            new : (j : ℕ) → j < length (opened_link t x (right_of (view_in u v) x)).packets → PacketFrom w looked (get_or (opened_link t x (right_of (view_in u v) x)).packets j no_packet)
            new zero jl = put_by x (way.phase x ∙ up) (ap (λ (a : Member). a.version) me ∙ sym way.mine)
                (λ p. line_of_packet (λ n. n.got) (λ r. r.got) (member_at t x) no_sending p reads_got ∙ ap (λ (a : Member). (row_at a p).got) me ∙ ap (λ rs. (get_or rs p no_row).got) (sym way.rows))
            new (suc j) jl = absurd (omega (arith, jl))

  -- x looks where members and what they received are as in w
  looks : (vs : List Group) (x v : ℕ) → x < size w → (member_at w x).phase ≡ Up → (member_at w x).version ≤ v → Around w (refreshed (record w { views = vs }) x v) → AreSighted (refreshed (record w { views = vs }) x v)
  looks vs x v lt up later a = sighted_then w w' a h each (packets_way u x v lt up refl (λ o e. g.inv.linked.out_lt x o (ap runs_phase up) e))
    where
      u : World
      u = record w { views = vs }

      w' : World
      w' = refreshed u x v

      way_here : OnWay u x v lt up refl w'
      way_here = way u x v lt up refl

      got : (q p : ℕ) → got_of w' q p ≡ got_of w q p
      got q p = (refreshed_quiet u x v (record { lt = lt; up = up; there = λ q s e c. g.inv.current.lt q s (ap runs_phase e) c })).like.got q p

      version : (q : ℕ) → (member_at w q).version ≤ (member_at w' q).version
      version q = ⊎_elim
          (λ (is : q ≡ x). subst (λ z. (member_at w z).version ≤ (member_at w' z).version) (sym is) (omega (arith, later, way_here.mine)))
          (λ (ne : q ≢ x). omega (arith, way_here.others q ne))
          (cases_eq q x)

      each : (q : ℕ) → runs w' q ≡ true → From w w' q
      each q r = as_of q (ap runs_phase (sym (way_here.phase q)) ∙ r) (version q) (got q)

  -- ---- an admission

  admits : (x : ℕ) (name : List ℕ) → IsUp w x → Around w (refreshed (come_to w x name) x (newest w + 1)) → AreSighted (refreshed (come_to w x name) x (newest w + 1))
  admits x name u a = sighted_then w w' a h each (packets_way c x (newest w + 1) lt up refl (λ o e. g.inv.linked.out_lt x o (ap runs_phase u.up) (sym (ap (λ (b : Member). b.out) was) ∙ e)))
    where
      c : World
      c = come_to w x name

      w' : World
      w' = refreshed c x (newest w + 1)

      n : ℕ
      n = size w

      was : member_at c x ≡ member_at w x
      was = come_was w x name u.lt

      lt : x < size c
      lt = omega (arith, u.lt, length_push w.members (joiner w name))

      up : (member_at c x).phase ≡ Up
      up = ap (λ (b : Member). b.phase) was ∙ u.up

      way_here : OnWay c x (newest w + 1) lt up refl w'
      way_here = way c x (newest w + 1) lt up refl

      came : member_at c n ≡ joiner w name
      came = get_or_push w.members (joiner w name) no_member n refl

      other : n ≢ x
      other is = omega (arith, is, u.lt)

      comes : (y : ℕ) × Enters n y (part_of w) (part_of w')
      comes = enters_of (part_of w) (part_of w') n a.move (ap (λ (b : Member). phase_of b.phase) (get_or_beyond w.members n no_member (omega arith))) (ap phase_of (way_here.phase n ∙ ap (λ (b : Member). b.phase) came))

      late : (member_at w' n).version ≡ length w.views
      late = way_here.others n other ∙ ap (λ (b : Member). b.version) came

      held : (z : ℕ) → (member_at w z).version ≤ length w.views
      held z = omega (arith, a.held z)

      old : (q : ℕ) → q ≢ n → member_at c q ≡ member_at w q
      old q ne = come_member w x name q (λ y b. y ≢ n → b ≡ member_at w y) (λ no. absurd (no refl)) (λ _. refl) ne

      version : (q : ℕ) → q ≢ n → (member_at w q).version ≤ (member_at w' q).version
      version q ne = ⊎_elim
          (λ (is : q ≡ x). subst (λ z. (member_at w z).version ≤ (member_at w' z).version) (sym is) (omega (arith, a.held x, way_here.mine)))
          (λ (d : q ≢ x). omega (arith, way_here.others q d, ap (λ (b : Member). b.version) (old q ne)))
          (cases_eq q x)

      each : (q : ℕ) → runs w' q ≡ true → From w w' q
      each q r = ⊎_elim
          (λ (is : q ≡ n). subst (From w w') (sym is) (as_of comes.0 (sym (part_runs w comes.0) ∙ comes.1.admitter) (omega (arith, held comes.0, late)) comes.1.got))
          (λ (ne : q ≢ n). as_of q (ap (λ (b : Member). runs_phase b.phase) (sym (old q ne)) ∙ ap runs_phase (sym (way_here.phase q)) ∙ r) (version q ne) (λ p. comes.1.others_got q p ne (part_runs w' q ∙ r)))
          (cases_eq q n)

  -- ---- every act

  pub act_sighted : (e : Act) → refusal w e ≡ None → Around w (effect w e) → AreSighted (effect w e)
  act_sighted e r = each_act (λ w'. Around w w' → AreSighted w') w e g (record {
    casts = λ x m u may a. casts x m u may a;
    puts = λ x o u out k a. puts x o u out a;
    takes = λ y s u m a. takes y s u m a;
    begins = λ y s u m a. begins y s u m a;
    leaves = λ y s u current k a. leaves y s u current a;
    gains = λ x o u out k a. gains x o u out a;
    stops = λ x u a. stops x u a;
    marks = λ x d u m a. looks (w.views ++ marked (view_in w (newest w)) d ∷ []) x (newest w + 1) u.lt u.up (omega (arith, g.inv.is_ring.held x)) a;
    erases = λ x d u m a. looks (w.views ++ erased_view w d ∷ []) x (newest w + 1) u.lt u.up (omega (arith, g.inv.is_ring.held x)) a;
    syncs = λ x u m a. looks (w.views ++ synced_view w x ∷ []) x (newest w + 1) u.lt u.up (omega (arith, g.inv.is_ring.held x)) a;
    admits = λ x name u k a. admits x name u a;
    refreshes = λ x v u m a. looks w.views x v u.lt u.up m.later a;
    picks = λ y s u none door upto a. picks y s u a;
    refuses = λ a. h;
  }) (λ x m u none a. copies x m u a) r
