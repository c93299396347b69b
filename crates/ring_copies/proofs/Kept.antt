-- In every state that a run with copies reaches, each copy under way brings the queue as of its mark; so where one is done, it is right.
use Rattle.std.proofs.Common.{◌≡◌, ◌≢◌, ℕ, ◌+◌, ◌-◌, ◌<◌, ◌≤◌, Bool, true, false, not, cond, nat_eq, nat_lt, List, [], ◌∷◌, ◌++◌, length, refl, sym, ap, ◌∙◌, subst, arith, ⊎_elim, Option, Some, None}
use Rattle.std.specs.Prelude.{◌&&◌, Ok, ⊤}
use Rattle.std.proofs.lemmas.Bool.{cases_eq, cases_lt, false≢true, lt-ltb}
use Rattle.std.proofs.lemmas.List.Quantifiers.{position-Some}
use Rattle.ring_names.specs.declared.numbers.CreditSpec.{CreditSpec}
use Rattle.ring_names.specs.declared.reason.Reason.{Reason}
use Rattle.ring_names.specs.declared.reason.Reason.TheVariants as reason
use Rattle.group_view.specs.Change.{AreOpeningNames}
use Rattle.group_view.specs.View.{Group, as_id}
use Rattle.group_view.proofs.Rings.{nat_eq-is, nat_eq-same}
use Rattle.queue_core.specs.Queue.{greatest}
use Rattle.queue_core.specs.declared.message.Message.{Message}
use Rattle.queue_core.specs.declared.message.Message.TheVariants as message
use Rattle.queue_core.specs.declared.op.Op.TheVariants as op
use Rattle.queue_mirror.specs.Mirror.{MirrorState}
use Rattle.queue_mirror.specs.Master.{lead_refusal, or_refused}
use Rattle.queue_sync.specs.Copy.{Load, OneItem, Done}
use Rattle.queue_laws.specs.Part as part
use Rattle.queue_laws.specs.Moves.{Publishes}
use Rattle.queue_laws.specs.Copies.{Copy, Copying}
use Rattle.queue_laws.proofs.Copied.{IsCopied, IsCopyGood}
use Rattle.queue_laws.proofs.CopyMoves.{opens_copied}
use Rattle.ring_rules.specs.declared.phase.Phase.TheVariants.{Up}
use Rattle.ring_rules.specs.declared.event.Event.{Event}
use Rattle.ring_rules.specs.View.{is_live}
use Rattle.ring_rules.specs.Refusal.{or_else, is_empty}
use Rattle.ring_rules.specs.Machine.{World, member_at, row_at, view_in, runs, runs_phase}
use Rattle.ring_rules.specs.Step.{size, log_of, publish_at, published, copied, copied_at, opening}
use Rattle.ring_rules.specs.Kind.{Kind, Says, Steps, Copying as OnItsCopy, Changes, Stops, Reads, Tells, OfQueue, Marks, kind_of}
use Rattle.ring_rules.specs.Event.{id_of, of_member, on_link, version_refusal, up_refusal, op_refusal, op_as, op_done, queue_message, at_found, done_as, done_at}
use Rattle.ring_rules.specs.Act as ring
use Rattle.ring_rules.specs.Act.{Act, OfKind, Copies, act_of, deed_refusal, deed_done}
use Rattle.ring_rules.specs.QueueLaws.{IsCopyOf, CopyIsRight}
use Rattle.ring_rules.specs.QueuePart.{part_of}
use Rattle.ring_rules.proofs.events.Refusals.{id_within, none_of, refuse_none}
use Rattle.ring_rules.proofs.events.Enabled.{up_none}
use Rattle.ring_rules.proofs.events.Leaves.{member_leaves}
use Rattle.ring_rules.proofs.runs.OwnLogs.{cast_log}
use Rattle.ring_rules.proofs.queue.Asked.{leads_itself}
use Rattle.ring_rules.proofs.queue.Runs.{IsKnown}
use Rattle.ring_rules.proofs.queue.CopySteps as copy_step
use Rattle.ring_rules.specs.declared.kind.CopyStep.{CopyStep}
use Rattle.ring_rules.specs.declared.kind.CopyStep.TheVariants as copying
use Rattle.ring_copies.specs.Copies.{CopyLink, CopyWorld, no_copy_link, copy_link_at, copy_in, copy_out, is_put_by, is_taken_by, is_gone, is_blocked_at, new_copy, dropped, item_taken, done_taken, copied_mirror, halted_one, looked_one, let_go}
use Rattle.ring_copies.specs.Events.{CopyEvent, OfRing, OnCopy, RefusesCopy, by_of, is_done_next, copy_take_refusal, target_refusal, step_refusal, refused_in, refusal, effect, copies_after, ring_done, step_done, done_in, let_go_by, where_found, open_copy, take_load, take_copy, IsRun, last, without_copies}
use Rattle.ring_copies.specs.Laws.{items_in}
use Rattle.ring_copies.proofs.Seen.{found_ring}
use Rattle.ring_copies.proofs.EachCopy.{StepKept, OfAll, map_to, push_kept, halted_kept, set_kept, let_go_kept, puts_kept, gains_kept, effect_kept}
use Rattle.ring_copies.proofs.Ends.{Closes, closes_each, done_last}
use Rattle.ring_copies.proofs.Rise.{items_back}
use Rattle.ring_copies.proofs.Parts.{publishes_of}
use Rattle.ring_copies.proofs.Sights.{AreSighted, Around, copying, copying_good, copying_gives, part_runs}
use Rattle.ring_copies.proofs.SightSteps.{act_sighted}
use Rattle.ring_copies.proofs.Stays.{Stays, reads_view, kind_stays}
use Rattle.ring_copies.proofs.Reached.{IsCome, come_facts, come_known, one_more, act_around, opening_come, opening_sighted}
use Rattle.ring_copies.proofs.DoneRight.{done_right}
use Rattle.ring_copies.proofs.Standing.{CopyStands, to_come, put_stands, item_stands, all_come, stands_then, same_view}

-- a copy that isn't over stands
abbrev pub Stands : World → CopyLink → Type 0
Stands w c = c.over ≡ false → CopyStands w c

-- a copy that is over
over_stands : (w : World) (c : CopyLink) → c.over ≡ true → Stands w c
over_stands w c e o = absurd (false≢true (sym o ∙ e))

steps_stand : (w : World) → StepKept (Stands w)
steps_stand w = record {
  puts = λ c some can h o. put_stands w c (h o);
  gains = λ c some h o. let s = h o in record { receiver = s.receiver; copied = s.copied };
  items = λ b a c ls e h o. item_stands w b a c ls e (h o);
  done = λ b c ls e h. over_stands w _ refl;
  drops = λ c h. over_stands w _ refl;
  halts = λ c h o. let s = h o in record { receiver = s.receiver; copied = s.copied };
  closes = λ c h. over_stands w _ refl;
  frees = λ c h o. let s = h o in record { receiver = s.receiver; copied = s.copied };
}

-- ---- an event of the ring

module _ (w : World) (x : ℕ) (w' : World) (a : Around w w') (h : AreSighted w) where
  -- a copy whose receiver has the view that it had
  keeps_view : (b : Bool) → Stays w x b w' → x < size w → b ≡ false → (c : CopyLink) → Stands w c → Stands w' c
  keeps_view b st lt unread c s o =
      let k : CopyStands w c = s o in
      stands_then w w' a h c (st.ran c.receiver k.receiver)
      (λ r. same_view w w' a h c (st.ran c.receiver k.receiver r) (⊎_elim
      (λ (is : c.receiver ≡ x). subst (λ q. (member_at w' q).version ≡ (member_at w q).version) (sym is) (st.mine unread lt))
      (λ (ne : c.receiver ≢ x). st.others c.receiver k.receiver ne)
      (cases_eq c.receiver x)) k) k

  -- one whose receiver may have looked
  abbrev seen_by : Group
  seen_by = view_in w' (member_at w' x).version

  looks : (b : Bool) → Stays w x b w' → (c : CopyLink) → Stands w c → Stands w' (looked_one seen_by x c)
  looks b st c s = by_test (is_taken_by x c && is_gone seen_by c.sender) refl
    where
      by_second : (t : Bool) → (is_taken_by x c && is_gone seen_by c.sender) ≡ false → Stands w' (cond t (record c { over = true }) c)
      by_second true e = over_stands w' _ refl
      by_second false e = λ o.
          let k : CopyStands w c = s o in
          stands_then w w' a h c (st.ran c.receiver k.receiver)
          (λ r. ⊎_elim
          (λ (is : c.receiver ≡ x). subst (λ q. is_gone (view_in w' (member_at w' q).version) c.sender ≡ false) (sym is) (unseen o is e))
          (λ (ne : c.receiver ≢ x). same_view w w' a h c (st.ran c.receiver k.receiver r) (st.others c.receiver k.receiver ne) k)
          (cases_eq c.receiver x)) k
        where
          unseen : c.over ≡ false → c.receiver ≡ x → (is_taken_by x c && is_gone seen_by c.sender) ≡ false → is_gone seen_by c.sender ≡ false
          unseen o is e = sym (ap (λ t. t && is_gone seen_by c.sender) taken) ∙ e
            where
              taken : is_taken_by x c ≡ true
              taken = ap (λ q. nat_eq c.receiver q && not c.over) (sym is) ∙ ap (λ t. t && not c.over) (nat_eq-same c.receiver) ∙ ap not o

      by_test : (t : Bool) → (is_taken_by x c && is_gone seen_by c.sender) ≡ t → Stands w' (cond t (dropped c) (cond (is_put_by x c && not (is_live seen_by c.receiver)) (record c { over = true }) c))
      by_test true e = over_stands w' _ refl
      by_test false e = by_second (is_put_by x c && not (is_live seen_by c.receiver)) e

  after : (k : Kind) → Stays w x (reads_view k) w' → x < size w → (cs : List CopyLink) → OfAll (Stands w) cs → OfAll (Stands w') (copies_after k w' x cs)
  after Stops st lt cs s = map_to (Stands w) (Stands w') (halted_one x) (λ c k. halted_kept (Stands w') (steps_stand w') x c (keeps_view false st lt refl c k)) cs s
  after (Changes c) st lt cs s = map_to (Stands w) (Stands w') (looked_one seen_by x) (looks true st) cs s
  after (Reads v) st lt cs s = map_to (Stands w) (Stands w') (looked_one seen_by x) (looks true st) cs s
  after (Says m) st lt cs s = λ i il. keeps_view false st lt refl (copy_link_at cs i) (s i il)
  after (Steps m) st lt cs s = λ i il. keeps_view false st lt refl (copy_link_at cs i) (s i il)
  after (OnItsCopy step) st lt cs s = λ i il. keeps_view false st lt refl (copy_link_at cs i) (s i il)
  after (Tells code inner) st lt cs s = λ i il. keeps_view false st lt refl (copy_link_at cs i) (s i il)

-- ---- what is known of every state

module _ (credit : CreditSpec) (names : List (List ℕ)) (are : AreOpeningNames names) where
  pub record IsCopying (n : ℕ) (W : CopyWorld) : Type 0 where
    pub come : IsCome credit names are n W.ring
    pub sighted : AreSighted W.ring
    pub closed : OfAll Closes W.copies
    pub stands : OfAll (Stands W.ring) W.copies

  later_come : (n : ℕ) (w : World) → IsCome credit names are n w → IsCome credit names are (n + 1) w
  later_come n w c = record { acts = c.acts; run = c.run; right = c.right; is = c.is; few = omega (arith, c.few) }

  -- a step on a copy that leaves the ring as it is
  ring_stays : (n : ℕ) (W V : CopyWorld) (b : Bool) (x : ℕ) → IsCopying n W → V.ring ≡ W.ring → OfAll Closes (let_go b x V.copies) → OfAll (Stands W.ring) V.copies → IsCopying (n + 1) (record V { copies = let_go b x V.copies })
  ring_stays n W V b x k e closed stands = record {
    come = subst (IsCome credit names are (n + 1)) (sym e) (later_come n W.ring k.come);
    sighted = subst AreSighted (sym e) k.sighted;
    closed = closed;
    stands = subst (λ w. OfAll (Stands w) (let_go b x V.copies)) (sym e) (let_go_kept (Stands W.ring) (steps_stand W.ring) b x V.copies stands);
  }

  -- an act by which the ring comes to w'
  record ActIs (n : ℕ) (w w' : World) : Type 0 where
    pub come : IsCome credit names are (n + 1) w'
    pub around : Around w w'
    pub sighted : AreSighted w'

  act_is : (n : ℕ) (w w' : World) (a : Act) → n < greatest - 1 → IsCome credit names are n w → AreSighted w → ring.refusal w a ≡ None → CopyIsRight w a → ring.effect w a ≡ w' → ActIs n w w'
  act_is n w w' a few c h r right e = subst (ActIs n w) e (record {
    come = one_more credit names are n w a c r right;
    around = around;
    sighted = act_sighted w (come_facts credit names are n w c) h a r around;
  })
    where
      around : Around w (ring.effect w a)
      around = act_around credit names are n w a few c r right

  ring_goes : (n : ℕ) (w : World) (V : CopyWorld) (b : Bool) (x : ℕ) → ActIs n w V.ring → OfAll Closes (let_go b x V.copies) → OfAll (Stands V.ring) V.copies → IsCopying (n + 1) (record V { copies = let_go b x V.copies })
  ring_goes n w V b x a closed stands = record { come = a.come; sighted = a.sighted; closed = closed; stands = let_go_kept (Stands V.ring) (steps_stand V.ring) b x V.copies stands }

  -- ---- events of the ring

  ring_event : (n : ℕ) (W : CopyWorld) (e : Event) → n < greatest - 1 → IsCopying n W → refusal W (OfRing e) ≡ None → IsCopying (n + 1) (effect W (OfRing e))
  ring_event n W e few k r = by_member (id_of W.ring (by_of (OfRing e))) refl r (effect_kept (λ w. ⊤) Closes closes_each W (OfRing e) tt r k.closed)
    where
      w : World
      w = W.ring

      by_member : (o : Option ℕ) → id_of w (by_of (OfRing e)) ≡ o → of_member o (refused_in W (OfRing e)) ≡ None → OfAll Closes (where_found o W (λ x. let_go_by x (done_in W (OfRing e) x))).copies
          → IsCopying (n + 1) (where_found o W (λ x. let_go_by x (done_in W (OfRing e) x)))
      by_member None is h closed = cc
      by_member (Some x) is h closed =
          let a : ActIs n w (done_as w x (kind_of e)) = act_is n w (done_as w x (kind_of e)) (act_of e) few k.come k.sighted r (λ y named. tt) (ap (λ o. at_found o w (done_at w e)) is) in
          ring_goes n w (ring_done W x (kind_of e)) _ x a closed (after w x (done_as w x (kind_of e)) a.around k.sighted (kind_of e) (kind_stays w x (kind_of e)) (id_within w (by_of (OfRing e)) x is).1 W.copies k.stands)

  -- ---- steps on copies, of the member x

  module _ (n : ℕ) (W : CopyWorld) (few : n < greatest - 1) (k : IsCopying n W) (by : List ℕ) (x : ℕ) (is : id_of W.ring by ≡ Some x) where
    abbrev w : World
    w = W.ring

    there : x < size w
    there = (id_within w by x is).1

    -- an act of x at which phases and versions stay
    keeps_all : (w' : World) → ActIs n w w' → ((q : ℕ) → (member_at w' q).phase ≡ (member_at w q).phase) → ((q : ℕ) → (member_at w' q).version ≡ (member_at w q).version) → OfAll (Stands w) W.copies → OfAll (Stands w') W.copies
    keeps_all w' a phase version s i il =
        keeps_view w x w' a.around k.sighted false (record {
          ran = λ q lt r. ap runs_phase (sym (phase q)) ∙ r;
          others = λ q lt ne. version q;
          mine = λ _ lt. version x;
        }) there refl (copy_link_at W.copies i) (s i il)

    -- ---- an opening

    module _ (t : ℕ) (up : (member_at w x).phase ≡ Up) (leads : lead_refusal (view_in w (member_at w x).version) x (member_at w x).started ≡ None) (target : t < size w) where
      abbrev mark : Message
      mark = message.Queue (op.SyncMark (as_id t))

      abbrev marked : World
      marked = publish_at w x mark

      asked : op_as w x (Marks (as_id t)) ≡ Ok (op.SyncMark (as_id t))
      asked = ap (λ l. or_refused l (Ok (op.SyncMark (as_id t)))) leads

      act : ActIs n w marked
      act =
          let a : Act = record { by = by; deed = OfKind (Says (OfQueue (Marks (as_id t)))) } in
          act_is n w marked a few k.come k.sighted
          (ap (λ o. of_member o (λ y. deed_refusal w y a.deed)) is ∙ ap (λ o. up_refusal w x (op_refusal o)) asked ∙ (rw up refl))
          (λ y named. tt)
          (ap (λ o. at_found o w (λ y. deed_done w y a.deed)) is ∙ ap (op_done w x) asked)

      phase : (q : ℕ) → (member_at marked q).phase ≡ (member_at w q).phase
      phase q = member_leaves (λ _ a b. b.phase ≡ a.phase) w x (published x mark (member_at w x)) refl (λ _. refl) q

      version : (q : ℕ) → (member_at marked q).version ≡ (member_at w q).version
      version q = member_leaves (λ _ a b. b.version ≡ a.version) w x (published x mark (member_at w x)) refl (λ _. refl) q

      publishes : Publishes x mark (part_of w) (part_of marked)
      publishes = publishes_of (part_of w) (part_of marked) x mark act.around.move (cast_log w x mark there)

      -- the copy as it opens, to whoever runs
      abbrev fresh : ℕ → Copy
      fresh q = record { from = x; to = q; mark = length (log_of w x) + 1; aside = []; rest = (member_at w x).mirror.queue.items }

      opened : (q : ℕ) → runs w q ≡ true → IsCopied (copying marked) (fresh q)
      opened q rq = record { origin = one.origin; unseen = one.unseen; mark = one.mark; content = one.content }
        where
          C' : Copying
          C' = record (copying marked) { copies = fresh q ∷ [] }

          known : IsKnown (0 + length k.come.acts) w
          known = come_known credit names are n w k.come (omega (arith, few))

          good : IsCopyGood C'
          good = opens_copied (copying w) C' act.around.gives act.around.gives_then act.around.keeps (copying_gives w act.around.held k.sighted)
              (let g = copying_gives marked act.around.held_then act.sighted in record { held = g.held; dated = g.dated; within = g.within; stays = g.stays })
              known.holds act.around.terms_then (copying_good w k.sighted) x q (as_id t) (omega (arith, known.low.next x, k.come.few, few))
              (record {
                publishes = publishes;
                acts = λ o e. leads_itself w x mark (OfQueue (Marks (as_id t)), ap queue_message asked) o e;
                runs_n = part_runs w q ∙ rq;
                version = version;
                parcels = refl;
                copies = refl;
              })

          one : IsCopied C' (fresh q)
          one = good.copied 0 (omega arith)

      new_stands : CopyStands marked (new_copy w x t)
      new_stands = record {
        receiver = omega (arith, target, act.around.more);
        copied = subst (λ xs. IsCopied (copying marked) (record (fresh t) { rest = xs })) (sym (items_back (member_at w x).mirror.queue.items)) (by_running (runs w t) refl);
      }
        where
          by_running : (r : Bool) → runs w t ≡ r → IsCopied (copying marked) (fresh t)
          by_running true r = opened t r
          by_running false r =
              let mine : IsCopied (copying marked) (fresh x) = opened x (ap runs_phase up) in
              let none : part.runs (part_of marked) t ≡ false = part_runs marked t ∙ ap runs_phase (phase t) ∙ r in
              record { origin = mine.origin; unseen = λ e. absurd (false≢true (sym none ∙ e)); mark = mine.mark; content = λ e. absurd (false≢true (sym none ∙ e)) }

      opens_known : (b : Bool) → OfAll Closes (let_go b x (open_copy W x t).copies) → IsCopying (n + 1) (record (open_copy W x t) { copies = let_go b x (open_copy W x t).copies })
      opens_known b closed = ring_goes n w (open_copy W x t) b x act closed
          (push_kept (Stands marked) W.copies (new_copy w x t) (λ o. new_stands) (keeps_all marked act phase version k.stands))

    -- ---- Done is taken from copy i

    module _ (i : ℕ) (il : i < length W.copies) (up : (member_at w x).phase ≡ Up) (taken : is_taken_by x (copy_link_at W.copies i) ≡ true) (may : copy_take_refusal w x (copy_link_at W.copies i) ≡ None) (ls : List Load) (next : (copy_link_at W.copies i).loads ≡ Done ∷ ls) where
      abbrev c : CopyLink
      c = copy_link_at W.copies i

      abbrev m : MirrorState
      m = copied_mirror w x c

      parts : (a b : Bool) → (a && not b) ≡ true → (a ≡ true) × (b ≡ false)
      parts true true e = absurd (false≢true e)
      parts true false e = (refl, refl)
      parts false b e = absurd (false≢true e)

      to_x : c.receiver ≡ x
      to_x = nat_eq-is c.receiver x (parts (nat_eq c.receiver x) c.over taken).0

      open_yet : c.over ≡ false
      open_yet = (parts (nat_eq c.receiver x) c.over taken).1

      marked_yet : c.mark ≤ (row_at (member_at w x) c.sender).got
      marked_yet = ⊎_elim
          (λ (early : (row_at (member_at w x) c.sender).got < c.mark). absurd (false≢true (sym last_one ∙ lt-ltb (row_at (member_at w x) c.sender).got c.mark early)))
          (λ (ge : c.mark ≤ (row_at (member_at w x) c.sender).got). ge)
          (cases_lt (row_at (member_at w x) c.sender).got c.mark)
        where
          second : (a b : Option Reason) → or_else a b ≡ None → b ≡ None
          second None b h = h
          second (Some r) b h = cc

          last_one : nat_lt (row_at (member_at w x) c.sender).got c.mark ≡ false
          last_one =
              let b = second (version_refusal c.opened (member_at w x).version) _ may in
              let d = (none_of (is_empty c.loads && not c.ended) reason.NothingToTake _ b).1 in
              sym (ap (λ ks. is_done_next ks && nat_lt (row_at (member_at w x) c.sender).got c.mark) next) ∙ refuse_none (is_done_next c.loads && nat_lt (row_at (member_at w x) c.sender).got c.mark) reason.MarkNotSeen d

      all_here : to_come c ≡ []
      all_here = ap (λ ks. items_in (ks ++ c.to_put)) next ∙ ap items_in (done_last c ls (k.closed i il) next)

      right : IsCopyOf w x m
      right = done_right w x m there c refl up to_x marked_yet k.sighted (all_come w c all_here (k.stands i il open_yet))

      done_is : ActIs n w (copied_at w x m)
      done_is =
          let a : Act = record { by = by; deed = Copies m } in
          act_is n w (copied_at w x m) a few k.come k.sighted
          (ap (λ o. of_member o (λ y. deed_refusal w y a.deed)) is ∙ (rw up refl))
          (λ y named. let same : Some x ≡ Some y = sym is ∙ named in let xy : x ≡ y = cc in subst (λ q. IsCopyOf w q m) xy right)
          (ap (λ o. at_found o w (λ y. deed_done w y a.deed)) is)

      done_known : (b : Bool) → OfAll Closes (let_go b x (take_load W x i c (Done ∷ ls)).copies) → IsCopying (n + 1) (record (take_load W x i c (Done ∷ ls)) { copies = let_go b x (take_load W x i c (Done ∷ ls)).copies })
      done_known b closed = ring_goes n w (take_load W x i c (Done ∷ ls)) b x done_is closed
          (set_kept (Stands (copied_at w x m)) (steps_stand (copied_at w x m)) W.copies i (done_taken (is_blocked_at w x) c) il (over_stands (copied_at w x m) _ refl)
          (keeps_all (copied_at w x m) done_is (copy_step.phase w x m there) (λ q. member_leaves (λ _ a b. b.version ≡ a.version) w x (copied m (member_at w x)) refl (λ _. refl) q) k.stands))

    -- ---- each step

    abbrev After : CopyWorld → Type 0
    After V = OfAll Closes (let_go_by x V).copies → IsCopying (n + 1) (let_go_by x V)

    opens : (target : List ℕ) → up_refusal w x (step_refusal W x (copying.Open target)) ≡ None → After (step_done W x (copying.Open target))
    opens target r =
        let u = up_none w x _ r in
        by_lead (lead_refusal (view_in w (member_at w x).version) x (member_at w x).started) refl (id_of w target) refl u.0 u.1
      where
        by_lead : (l : Option Reason) → lead_refusal (view_in w (member_at w x).version) x (member_at w x).started ≡ l → (t : Option ℕ) → id_of w target ≡ t → (member_at w x).phase ≡ Up
            → or_else l (of_member t (target_refusal W x (view_in w (member_at w x).version))) ≡ None → After (where_found t W (open_copy W x))
        by_lead (Some why) leads t at up h = cc
        by_lead None leads None at up h = cc
        by_lead None leads (Some t) at up h = λ closed. opens_known t up leads (id_within w target t at).1 _ closed

    takes : up_refusal w x (step_refusal W x copying.Take) ≡ None → After (step_done W x copying.Take)
    takes r = let u = up_none w x _ r in by_copy (copy_in W.copies x) refl u.0 u.1
      where
        by_load : (i : ℕ) → i < length W.copies → (member_at w x).phase ≡ Up → is_taken_by x (copy_link_at W.copies i) ≡ true → copy_take_refusal w x (copy_link_at W.copies i) ≡ None → (ls : List Load) → (copy_link_at W.copies i).loads ≡ ls
            → After (take_load W x i (copy_link_at W.copies i) ls)
        by_load i il up t may [] e = λ closed. ring_stays n W (take_load W x i (copy_link_at W.copies i) []) _ x k refl closed
            (set_kept (Stands w) (steps_stand w) W.copies i (dropped (copy_link_at W.copies i)) il (over_stands w _ refl) k.stands)
        by_load i il up t may (OneItem a ∷ ls) e = λ closed. ring_stays n W (take_load W x i (copy_link_at W.copies i) (OneItem a ∷ ls)) _ x k refl closed
            (set_kept (Stands w) (steps_stand w) W.copies i (item_taken (is_blocked_at w x) a (copy_link_at W.copies i)) il (λ o. item_stands w (is_blocked_at w x) a (copy_link_at W.copies i) ls e (k.stands i il o)) k.stands)
        by_load i il up t may (Done ∷ ls) e = λ closed. done_known i il up t may ls e _ closed

        by_copy : (o : Option ℕ) → copy_in W.copies x ≡ o → (member_at w x).phase ≡ Up → on_link o reason.NoSyncLink (λ i. copy_take_refusal w x (copy_link_at W.copies i)) ≡ None → After (where_found o W (take_copy W x))
        by_copy None at up h = cc
        by_copy (Some i) at up h =
            let p = position-Some (is_taken_by x) W.copies i no_copy_link at in
            by_load i p.0 up p.1 h (copy_link_at W.copies i).loads refl

    step_known : (s : CopyStep) → up_refusal w x (step_refusal W x s) ≡ None → After (step_done W x s)
    step_known (copying.Open target) r = opens target r
    step_known copying.Put r = λ closed. ring_stays n W (step_done W x copying.Put) _ x k (found_ring W (copy_out W.copies x) _ (λ i. refl)) closed (puts_kept (Stands w) (steps_stand w) W x (up_none w x _ r).1 k.stands)
    step_known copying.Take r = takes r
    step_known copying.Gain r = λ closed. ring_stays n W (step_done W x copying.Gain) _ x k (found_ring W (copy_out W.copies x) _ (λ i. refl)) closed (gains_kept (Stands w) (steps_stand w) W x (up_none w x _ r).1 k.stands)

  -- ---- every event, and every run

  pub event_known : (n : ℕ) (W : CopyWorld) (e : CopyEvent) → n < greatest - 1 → IsCopying n W → refusal W e ≡ None → IsCopying (n + 1) (effect W e)
  event_known n W (OfRing e) few k r = ring_event n W e few k r
  event_known n W (OnCopy by s) few k r = by_member (id_of W.ring by) refl r (effect_kept (λ w. ⊤) Closes closes_each W (OnCopy by s) tt r k.closed)
    where
      by_member : (o : Option ℕ) → id_of W.ring by ≡ o → of_member o (refused_in W (OnCopy by s)) ≡ None → OfAll Closes (where_found o W (λ x. let_go_by x (done_in W (OnCopy by s) x))).copies
          → IsCopying (n + 1) (where_found o W (λ x. let_go_by x (done_in W (OnCopy by s) x)))
      by_member None is h closed = cc
      by_member (Some x) is h closed = step_known n W few k by x is s h closed
  event_known n W (RefusesCopy code by target) few k r = by_member (id_of W.ring by) r (effect_kept (λ w. ⊤) Closes closes_each W (RefusesCopy code by target) tt r k.closed)
    where
      by_member : (o : Option ℕ) → of_member o (refused_in W (RefusesCopy code by target)) ≡ None → OfAll Closes (where_found o W (λ x. let_go_by x W)).copies → IsCopying (n + 1) (where_found o W (λ x. let_go_by x W))
      by_member None h closed = cc
      by_member (Some x) h closed = ring_stays n W W _ x k refl closed k.stands

  run_known : (n : ℕ) (W : CopyWorld) (es : List CopyEvent) → n + length es < greatest → IsCopying n W → IsRun W es → IsCopying (n + length es) (last W es)
  run_known n W [] few k r = subst (λ m. IsCopying m W) (let e : n ≡ n + 0 = omega arith in e) k
  run_known n W (e ∷ es) few k r =
      subst (λ m. IsCopying m (last (effect W e) es)) (let same : n + 1 + length es ≡ n + length (e ∷ es) = omega arith in same)
      (run_known (n + 1) (effect W e) es (omega (arith, few)) (event_known n W e (omega (arith, few)) k r.0) r.1)

  pub opening_copying : IsCopying 0 (without_copies (opening credit names))
  opening_copying = record {
    come = opening_come credit names are;
    sighted = opening_sighted credit names are;
    closed = λ i il. absurd (omega arith);
    stands = λ i il. absurd (omega arith);
  }

  -- in every state of every run
  pub copying_reached : (es : List CopyEvent) → length es < greatest → IsRun (without_copies (opening credit names)) es → IsCopying (0 + length es) (last (without_copies (opening credit names)) es)
  copying_reached es few r = run_known 0 (without_copies (opening credit names)) es (omega (arith, few)) opening_copying r
