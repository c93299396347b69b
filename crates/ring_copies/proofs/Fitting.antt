-- In every state that a run with copies reaches, each copy under way has what it needs to go on.
use Rattle.std.proofs.Common.{◌≡◌, ℕ, ◌+◌, ◌<◌, ◌≤◌, Bool, true, false, not, List, [], ◌∷◌, length, refl, sym, ap, ◌∙◌, subst, arith, Option, Some, None}
use Rattle.std.specs.Prelude.{◌&&◌, Ok, slice_set}
use Rattle.std.proofs.lemmas.Bool.{false≢true}
use Rattle.std.proofs.lemmas.List.{length-set}
use Rattle.std.proofs.lemmas.List.Quantifiers.{position-Some}
use Rattle.ring_names.specs.declared.numbers.CreditSpec.{CreditSpec}
use Rattle.ring_names.specs.declared.reason.Reason.{Reason}
use Rattle.ring_names.specs.declared.reason.Reason.TheVariants as reason
use Rattle.queue_core.specs.Queue.{greatest}
use Rattle.queue_core.specs.declared.message.Message.TheVariants as message
use Rattle.queue_core.specs.declared.op.Op.TheVariants as op
use Rattle.queue_mirror.specs.Master.{lead_refusal, or_refused}
use Rattle.queue_sync.specs.Copy.{Load, OneItem, Done}
use Rattle.group_view.specs.Change.{AreOpeningNames}
use Rattle.group_view.specs.View.{Group, as_id, ids}
use Rattle.group_view.specs.Ring.{is_in}
use Rattle.group_view.proofs.Rings.{nat_eq-is}
use Rattle.ring_rules.specs.declared.phase.Phase.TheVariants.{Up}
use Rattle.ring_rules.specs.declared.event.Event.{Event}
use Rattle.ring_rules.specs.Refusal.{or_else}
use Rattle.ring_rules.specs.View.{is_live}
use Rattle.ring_rules.specs.Machine.{World, member_at, view_in, runs_phase}
use Rattle.ring_rules.specs.Step.{size, publish_at, copied_at, opening}
use Rattle.ring_rules.specs.Kind.{Kind, Says, Own, OfQueue, Marks, kind_of}
use Rattle.ring_rules.specs.Event.{id_of, of_member, on_link, op_as, op_done, done_as}
use Rattle.ring_rules.specs.Act as ring
use Rattle.ring_rules.specs.Laws.{GoesOn}
use Rattle.ring_rules.proofs.rings.Lists.{at_set}
use Rattle.ring_rules.proofs.events.Refusals.{id_within, none_of}
use Rattle.ring_rules.proofs.events.Enabled.{up_none}
use Rattle.ring_rules.proofs.runs.AllRuns.{every_run_goes_on}
use Rattle.ring_rules.proofs.queue.Facts.{Facts}
use Rattle.ring_rules.proofs.work.OwnEnds.{OwnEnds, reached_owns}
use Rattle.ring_rules.specs.declared.kind.CopyStep.{CopyStep}
use Rattle.ring_rules.specs.declared.kind.CopyStep.TheVariants as copying
use Rattle.ring_copies.specs.Copies.{CopyLink, CopyWorld, no_copy_link, copy_link_at, copy_in, copy_out, is_put_by, is_taken_by, is_blocked_at, new_copy, copy_put, copy_gained, item_taken, done_taken, dropped, copied_mirror}
use Rattle.ring_copies.specs.Events.{CopyEvent, OfRing, OnCopy, RefusesCopy, by_of, copy_put_refusal, copy_gain_refusal, copy_take_refusal, target_refusal, step_refusal, refused_in, refusal, effect, step_done, done_in, let_go_by, where_found, with_copy, open_copy, take_load, take_copy, IsRun, last, without_copies}
use Rattle.ring_copies.proofs.Seen.{Sees, sees}
use Rattle.ring_copies.proofs.EachCopy.{OfAll, push_kept}
use Rattle.ring_copies.proofs.Reached.{come_facts}
use Rattle.ring_copies.proofs.Stays.{Stays, kind_stays, copied_stays}
use Rattle.ring_copies.proofs.Others.{Leaves, kind_leaves, copied_leaves}
use Rattle.ring_copies.proofs.Fits.{items_done, MayFit, over_fits, put_fits, gain_fits, item_fits, MayAlmost, almost, let_go_fits, after_fits}
use Rattle.ring_copies.proofs.Kept.{IsCopying, event_known, opening_copying}

-- one copy is another
set_all : (Q : CopyLink → Type 0) (cs : List CopyLink) (o : ℕ) (c : CopyLink) → o < length cs → Q c → OfAll Q cs → OfAll Q (slice_set cs o c)
set_all Q cs o c lt k h i il = at_set (λ j a. Q a) cs o i c no_copy_link lt k (λ _. h i (omega (arith, il, length-set cs o c)))

-- who isn't refused as a target is live
target_lives : (W : CopyWorld) (x : ℕ) (g : Group) (n : ℕ) → target_refusal W x g n ≡ None → is_live g n ≡ true
target_lives W x g n h =
    let a = none_of (not (is_in n (ids g.entries))) reason.UnknownMember _ h in
    let b = none_of (not (is_live g n)) reason.AlreadyDead _ a.1 in
    back (is_live g n) b.0
  where
    back : (b : Bool) → not b ≡ false → b ≡ true
    back true e = refl
    back false e = absurd (false≢true (sym e))

-- a step that leaves the ring, and then what is let go
goes_same : (W V : CopyWorld) (x : ℕ) → V.ring ≡ W.ring → OfAll (MayFit W.ring) V.copies → OfAll (MayFit (let_go_by x V).ring) (let_go_by x V).copies
goes_same W V x e h = let_go_fits V.ring x (is_blocked_at V.ring x) V.copies refl (λ i il. almost V.ring x (copy_link_at V.copies i) (subst (λ w. MayFit w (copy_link_at V.copies i)) (sym e) (h i il)))

module _ (credit : CreditSpec) (names : List (List ℕ)) (are : AreOpeningNames names) where
  module _ (n : ℕ) (W : CopyWorld) (k : IsCopying credit names are n W) (h : OfAll (MayFit W.ring) W.copies) where
    abbrev w : World
    w = W.ring

    f : Facts w
    f = come_facts credit names are n w k.come

    own : OwnEnds w
    own = subst OwnEnds k.come.is (reached_owns credit names k.come.acts are k.come.run)

    held : (q : ℕ) → (member_at w q).version < length w.views
    held q = omega (arith, f.good.inv.is_ring.held q, f.good.inv.is_ring.some)

    grown : (e : CopyEvent) → refusal W e ≡ None → size w ≤ size (effect W e).ring
    grown e r =
        let s : Sees w (effect W e).ring = sees W e r in
        let on : GoesOn w (effect W e).ring = subst (GoesOn w) s.ends
        (subst (λ u. GoesOn u (ring.last u s.acts)) k.come.is (every_run_goes_on credit names k.come.acts s.acts are k.come.run (subst (λ u. ring.IsRun u s.acts) (sym k.come.is) s.run))) in
        on.never_falls.more

    -- ---- an event of the ring

    ring_fits : (e : Event) → refusal W (OfRing e) ≡ None → OfAll (MayFit (effect W (OfRing e)).ring) (effect W (OfRing e)).copies
    ring_fits e r = by_member (id_of w (by_of (OfRing e))) refl r (grown (OfRing e) r)
      where
        by_member : (o : Option ℕ) → id_of w (by_of (OfRing e)) ≡ o → of_member o (refused_in W (OfRing e)) ≡ None → size w ≤ size (where_found o W (λ x. let_go_by x (done_in W (OfRing e) x))).ring
            → OfAll (MayFit (where_found o W (λ x. let_go_by x (done_in W (OfRing e) x))).ring) (where_found o W (λ x. let_go_by x (done_in W (OfRing e) x))).copies
        by_member None is r more = cc
        by_member (Some x) is r more =
            let w' : World = done_as w x (kind_of e) in
            let le = kind_leaves w x (kind_of e) own in
            let_go_fits w' x (is_blocked_at w' x) _ refl
            (after_fits w x w' (kind_of e) (kind_stays w x (kind_of e)) le (id_within w (by_of (OfRing e)) x is).1 more (omega (arith, le.longer)) held W.copies h)

    -- ---- a step on a copy, by x

    module _ (by : List ℕ) (x : ℕ) (is : id_of w by ≡ Some x) where
      abbrev Then : CopyWorld → Type 0
      Then V = size w ≤ size V.ring → OfAll (MayFit (let_go_by x V).ring) (let_go_by x V).copies

      some : 1 ≤ x
      some = (id_within w by x is).0

      there : x < size w
      there = (id_within w by x is).1

      puts : step_refusal W x copying.Put ≡ None → Then (step_done W x copying.Put)
      puts r = by_copy (copy_out W.copies x) refl r
        where
          by_copy : (o : Option ℕ) → copy_out W.copies x ≡ o → on_link o reason.NoSyncLink (λ i. copy_put_refusal (copy_link_at W.copies i)) ≡ None → Then (where_found o W (λ i. with_copy W i (copy_put (copy_link_at W.copies i))))
          by_copy None at r = cc
          by_copy (Some i) at r = λ _. goes_same W (with_copy W i (copy_put (copy_link_at W.copies i))) x refl
              (set_all (MayFit w) W.copies i (copy_put (copy_link_at W.copies i)) (position-Some (is_put_by x) W.copies i no_copy_link at).0 (put_fits w (copy_link_at W.copies i) (h i (position-Some (is_put_by x) W.copies i no_copy_link at).0)) h)

      gains : step_refusal W x copying.Gain ≡ None → Then (step_done W x copying.Gain)
      gains r = by_copy (copy_out W.copies x) refl r
        where
          by_copy : (o : Option ℕ) → copy_out W.copies x ≡ o → on_link o reason.NoSyncLink (λ i. copy_gain_refusal (copy_link_at W.copies i)) ≡ None → Then (where_found o W (λ i. with_copy W i (copy_gained (copy_link_at W.copies i))))
          by_copy None at r = cc
          by_copy (Some i) at r = λ _. goes_same W (with_copy W i (copy_gained (copy_link_at W.copies i))) x refl
              (set_all (MayFit w) W.copies i (copy_gained (copy_link_at W.copies i)) (position-Some (is_put_by x) W.copies i no_copy_link at).0 (gain_fits w (copy_link_at W.copies i) (h i (position-Some (is_put_by x) W.copies i no_copy_link at).0)) h)

      takes : step_refusal W x copying.Take ≡ None → Then (step_done W x copying.Take)
      takes r = by_copy (copy_in W.copies x) refl r
        where
          to_me : (a b : Bool) → (a && b) ≡ true → a ≡ true
          to_me true b e = refl
          to_me false b e = absurd (false≢true e)

          by_load : (i : ℕ) → i < length W.copies → is_taken_by x (copy_link_at W.copies i) ≡ true → (ls : List Load) → (copy_link_at W.copies i).loads ≡ ls → Then (take_load W x i (copy_link_at W.copies i) ls)
          by_load i il t [] e = λ _. goes_same W (take_load W x i (copy_link_at W.copies i) []) x refl (set_all (MayFit w) W.copies i (dropped (copy_link_at W.copies i)) il (over_fits w _ refl) h)
          by_load i il t (OneItem a ∷ ls) e = λ _. goes_same W (take_load W x i (copy_link_at W.copies i) (OneItem a ∷ ls)) x refl
              (set_all (MayFit w) W.copies i (item_taken (is_blocked_at w x) a (copy_link_at W.copies i)) il
              (item_fits w (is_blocked_at w x) a (copy_link_at W.copies i) ls e (ap (is_blocked_at w) (sym (nat_eq-is (copy_link_at W.copies i).receiver x (to_me _ _ t)))) (h i il)) h)
          by_load i il t (Done ∷ ls) e = λ more.
              let c : CopyLink = copy_link_at W.copies i in
              let w' : World = copied_at w x (copied_mirror w x c) in
              let le = copied_leaves w x (copied_mirror w x c) in
              let_go_fits w' x (is_blocked_at w' x) _ refl
              (set_all (MayAlmost w' x) W.copies i (done_taken (is_blocked_at w x) c) il (almost w' x (done_taken (is_blocked_at w x) c) (over_fits w' _ refl))
              (after_fits w x w' (Says (Own [])) (copied_stays w x (copied_mirror w x c)) le there more (omega (arith, le.longer)) held W.copies h))

          by_copy : (o : Option ℕ) → copy_in W.copies x ≡ o → on_link o reason.NoSyncLink (λ i. copy_take_refusal w x (copy_link_at W.copies i)) ≡ None → Then (where_found o W (take_copy W x))
          by_copy None at r = cc
          by_copy (Some i) at r = let p = position-Some (is_taken_by x) W.copies i no_copy_link at in by_load i p.0 p.1 (copy_link_at W.copies i).loads refl

      opens : (target : List ℕ) → (member_at w x).phase ≡ Up → step_refusal W x (copying.Open target) ≡ None → Then (step_done W x (copying.Open target))
      opens target up r = by_lead (lead_refusal (view_in w (member_at w x).version) x (member_at w x).started) refl (id_of w target) refl r
        where
          by_lead : (l : Option Reason) → lead_refusal (view_in w (member_at w x).version) x (member_at w x).started ≡ l → (t : Option ℕ) → id_of w target ≡ t
              → or_else l (of_member t (target_refusal W x (view_in w (member_at w x).version))) ≡ None → Then (where_found t W (open_copy W x))
          by_lead (Some why) leads t at r = cc
          by_lead None leads None at r = cc
          by_lead None leads (Some t) at r = λ more.
              let kind : Kind = Says (OfQueue (Marks (as_id t))) in
              let asked : op_as w x (Marks (as_id t)) ≡ Ok (op.SyncMark (as_id t)) = ap (λ l. or_refused l (Ok (op.SyncMark (as_id t)))) leads in
              let w' : World = publish_at w x (message.Queue (op.SyncMark (as_id t))) in
              let done : done_as w x kind ≡ w' = ap (op_done w x) asked in
              let le : Leaves w x false w' = subst (Leaves w x false) done (kind_leaves w x kind own) in
              let st : Stays w x false w' = subst (Stays w x false) done (kind_stays w x kind) in
              let_go_fits w' x (is_blocked_at w' x) (open_copy W x t).copies refl
              (push_kept (MayAlmost w' x) W.copies (new_copy w x t)
              (almost w' x (new_copy w x t) (λ o. record {
                going = record {
                  some = some;
                  sender = omega (arith, there, more);
                  least = (id_within w target t at).0;
                  receiver = omega (arith, (id_within w target t at).1, more);
                  opened = omega (arith, f.good.inv.is_ring.held x, le.longer);
                  finishes = items_done (member_at w x).mirror.queue.items;
                  halted = λ n _. absurd (false≢true (sym n ∙ le.alive x there (λ _. refl) (ap runs_phase up)));
                  live = λ _ _. ap (λ v. is_live (view_in w' v) t) (st.mine refl there) ∙ ap (λ g. is_live g t) (le.views (member_at w x).version (held x)) ∙ target_lives W x (view_in w (member_at w x).version) t r;
                };
                blocked = λ b. absurd (omega (arith, b));
              }))
              (after_fits w x w' kind st le there more (omega (arith, le.longer)) held W.copies h))

      steps : (s : CopyStep) → (member_at w x).phase ≡ Up → step_refusal W x s ≡ None → Then (step_done W x s)
      steps (copying.Open target) up r = opens target up r
      steps copying.Put up r = puts r
      steps copying.Take up r = takes r
      steps copying.Gain up r = gains r

    event_fits : (e : CopyEvent) → refusal W e ≡ None → OfAll (MayFit (effect W e).ring) (effect W e).copies
    event_fits (OfRing e) r = ring_fits e r
    event_fits (OnCopy by s) r = by_member (id_of w by) refl r (grown (OnCopy by s) r)
      where
        by_member : (o : Option ℕ) → id_of w by ≡ o → of_member o (refused_in W (OnCopy by s)) ≡ None → size w ≤ size (where_found o W (λ x. let_go_by x (step_done W x s))).ring
            → OfAll (MayFit (where_found o W (λ x. let_go_by x (step_done W x s))).ring) (where_found o W (λ x. let_go_by x (step_done W x s))).copies
        by_member None is r more = cc
        by_member (Some x) is r more = let u = up_none w x _ r in steps by x is s u.0 u.1 more
    event_fits (RefusesCopy code by target) r = by_member (id_of w by) r
      where
        by_member : (o : Option ℕ) → of_member o (refused_in W (RefusesCopy code by target)) ≡ None → OfAll (MayFit (where_found o W (λ x. let_go_by x W)).ring) (where_found o W (λ x. let_go_by x W)).copies
        by_member None r = cc
        by_member (Some x) r = goes_same W W x refl h

  -- ---- every run

  run_fits : (n : ℕ) (W : CopyWorld) (es : List CopyEvent) → n + length es < greatest → IsCopying credit names are n W → IsRun W es → OfAll (MayFit W.ring) W.copies → OfAll (MayFit (last W es).ring) (last W es).copies
  run_fits n W [] few k r h = h
  run_fits n W (e ∷ es) few k r h = run_fits (n + 1) (effect W e) es (omega (arith, few)) (event_known credit names are n W e (omega (arith, few)) k r.0) r.1 (event_fits n W k h e r.0)

  pub fits_reached : (es : List CopyEvent) → length es < greatest → IsRun (without_copies (opening credit names)) es → OfAll (MayFit (last (without_copies (opening credit names)) es).ring) (last (without_copies (opening credit names)) es).copies
  fits_reached es few r = run_fits 0 (without_copies (opening credit names)) es (omega (arith, few)) (opening_copying credit names are) r (λ i il. absurd (omega arith))
