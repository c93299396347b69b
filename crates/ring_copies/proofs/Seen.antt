-- What the ring sees of an event with copies: nothing, or one act of its own. So each run with copies is one of the ring.
use Rattle.std.proofs.Common.{◌≡◌, ℕ, ◌≤◌, List, [], ◌∷◌, ◌++◌, length, refl, sym, ap, subst, ◌∙◌, arith, Option, Some, None}
use Rattle.std.specs.Prelude.{Ok}
use Rattle.std.proofs.lemmas.List.{length-append}
use Rattle.ring_names.specs.declared.reason.Reason.{Reason}
use Rattle.queue_core.specs.declared.op.Op.TheVariants as op
use Rattle.queue_mirror.specs.Master.{lead_refusal, or_refused}
use Rattle.queue_sync.specs.Copy.{Load, OneItem, Done}
use Rattle.group_view.specs.View.{as_id}
use Rattle.ring_rules.specs.Refusal.{or_else}
use Rattle.ring_rules.specs.declared.phase.Phase.TheVariants.{Up}
use Rattle.ring_rules.specs.Machine.{World, member_at, view_in}
use Rattle.ring_rules.specs.Kind.{Marks, OfQueue, Says}
use Rattle.ring_rules.specs.Event.{id_of, of_member, up_refusal, op_refusal, op_as, op_done, at_found, done_at}
use Rattle.ring_rules.specs.Act as ring
use Rattle.ring_rules.specs.Act.{Act, OfKind, Copies, act_of, deed_refusal, deed_done}
use Rattle.ring_rules.proofs.runs.InOrder.{run_append, last_append}
use Rattle.ring_rules.proofs.events.Enabled.{up_none}
use Rattle.ring_rules.specs.declared.kind.CopyStep.{CopyStep}
use Rattle.ring_rules.specs.declared.kind.CopyStep.TheVariants as copying
use Rattle.ring_copies.specs.Copies.{CopyLink, CopyWorld, copy_link_at, copy_in, copy_out, copied_mirror}
use Rattle.ring_copies.specs.Events.{CopyEvent, OfRing, OnCopy, RefusesCopy, by_of, step_refusal, refused_in, refusal, effect, done_in, step_done, let_go_by, where_found, open_copy, take_load, take_copy, target_refusal, IsRun, last}

-- acts of a ring after which it is so
pub record Sees (w w' : World) : Type 0 where
  pub acts : List Act
  pub few : length acts ≤ 1
  pub run : ring.IsRun w acts
  pub ends : ring.last w acts ≡ w'

nothing : (w w' : World) → w ≡ w' → Sees w w'
nothing w w' e = record { acts = []; few = omega arith; run = tt; ends = e }

-- one act of its own
one : (w w' : World) (a : Act) → ring.refusal w a ≡ None → ring.effect w a ≡ w' → Sees w w'
one w w' a r k = record { acts = a ∷ []; few = omega arith; run = (r, tt); ends = k }

-- what happens at a place that may be there leaves the ring
pub found_ring : (W : CopyWorld) (o : Option ℕ) (f : ℕ → CopyWorld) → ((i : ℕ) → (f i).ring ≡ W.ring) → (where_found o W f).ring ≡ W.ring
found_ring W None f h = refl
found_ring W (Some i) f h = h i

-- an event of the ring leaves the ring as without copies
pub rings_effect : (W : CopyWorld) (e : CopyEvent) (f : ℕ → World) (g : ℕ → CopyWorld) → ((x : ℕ) → f x ≡ (g x).ring) → (o : Option ℕ) → at_found o W.ring f ≡ (where_found o W (λ x. let_go_by x (g x))).ring
rings_effect W e f g same None = refl
rings_effect W e f g same (Some x) = same x

-- ---- steps on a copy, of the member x

module _ (W : CopyWorld) (by : List ℕ) (x : ℕ) (is : id_of W.ring by ≡ Some x) where
  abbrev w : World
  w = W.ring

  marks : (target : List ℕ) → up_refusal w x (step_refusal W x (copying.Open target)) ≡ None → Sees w (step_done W x (copying.Open target)).ring
  marks target k =
      let u = up_none w x _ k in
      by_lead (lead_refusal (view_in w (member_at w x).version) x (member_at w x).started) refl (id_of w target) u.1
    where
      up : (member_at w x).phase ≡ Up
      up = (up_none w x _ k).0

      by_lead : (l : Option Reason) → lead_refusal (view_in w (member_at w x).version) x (member_at w x).started ≡ l → (t : Option ℕ)
          → or_else l (of_member t (target_refusal W x (view_in w (member_at w x).version))) ≡ None → Sees w (where_found t W (open_copy W x)).ring
      by_lead (Some why) leads t h = cc
      by_lead None leads None h = cc
      by_lead None leads (Some n) h =
          let a : Act = record { by = by; deed = OfKind (Says (OfQueue (Marks (as_id n)))) } in
          let asked : op_as w x (Marks (as_id n)) ≡ Ok (op.SyncMark (as_id n)) = ap (λ l. or_refused l (Ok (op.SyncMark (as_id n)))) leads in
          one w _ a
          (ap (λ o. of_member o (λ y. deed_refusal w y a.deed)) is ∙ ap (λ o. up_refusal w x (op_refusal o)) asked ∙ (rw up refl))
          (ap (λ o. at_found o w (λ y. deed_done w y a.deed)) is ∙ ap (op_done w x) asked)

  takes : up_refusal w x (step_refusal W x copying.Take) ≡ None → Sees w (step_done W x copying.Take).ring
  takes k = by_copy (copy_in W.copies x)
    where
      up : (member_at w x).phase ≡ Up
      up = (up_none w x _ k).0

      by_load : (i : ℕ) (c : CopyLink) (ls : List Load) → Sees w (take_load W x i c ls).ring
      by_load i c [] = nothing w _ refl
      by_load i c (OneItem a ∷ ls) = nothing w _ refl
      by_load i c (Done ∷ ls) =
          let a : Act = record { by = by; deed = Copies (copied_mirror w x c) } in
          one w _ a (ap (λ o. of_member o (λ y. deed_refusal w y a.deed)) is ∙ (rw up refl)) (ap (λ o. at_found o w (λ y. deed_done w y a.deed)) is)

      by_copy : (o : Option ℕ) → Sees w (where_found o W (take_copy W x)).ring
      by_copy None = nothing w _ refl
      by_copy (Some i) = by_load i (copy_link_at W.copies i) (copy_link_at W.copies i).loads

  steps : (s : CopyStep) → up_refusal w x (step_refusal W x s) ≡ None → Sees w (step_done W x s).ring
  steps (copying.Open target) k = marks target k
  steps copying.Put k = nothing w _ (sym (found_ring W (copy_out W.copies x) _ (λ i. refl)))
  steps copying.Take k = takes k
  steps copying.Gain k = nothing w _ (sym (found_ring W (copy_out W.copies x) _ (λ i. refl)))

-- ---- each event

pub sees : (W : CopyWorld) (e : CopyEvent) → refusal W e ≡ None → Sees W.ring (effect W e).ring
sees W (OfRing e) r = one W.ring _ (act_of e) r (rings_effect W (OfRing e) (done_at W.ring e) (done_in W (OfRing e)) (λ x. refl) (id_of W.ring (by_of (OfRing e))))
sees W (OnCopy by s) r = by_member (id_of W.ring by) refl r
  where
    by_member : (o : Option ℕ) → id_of W.ring by ≡ o → of_member o (refused_in W (OnCopy by s)) ≡ None → Sees W.ring (where_found o W (λ x. let_go_by x (done_in W (OnCopy by s) x))).ring
    by_member None is k = cc
    by_member (Some x) is k = steps W by x is s k
sees W (RefusesCopy code by target) r = nothing W.ring _ (sym (found_ring W (id_of W.ring by) (λ x. let_go_by x W) (λ x. refl)))

-- ---- runs

-- a run of the ring, no longer than that with copies, which leaves the ring so
pub record RingRuns (W : CopyWorld) (es : List CopyEvent) : Type 0 where
  pub acts : List Act
  pub few : length acts ≤ length es
  pub run : ring.IsRun W.ring acts
  pub ends : ring.last W.ring acts ≡ (last W es).ring

pub ring_runs : (W : CopyWorld) (es : List CopyEvent) → IsRun W es → RingRuns W es
ring_runs W [] r = record { acts = []; few = omega arith; run = tt; ends = refl }
ring_runs W (e ∷ es) r =
    let s : Sees W.ring (effect W e).ring = sees W e r.0 in
    let k : RingRuns (effect W e) es = ring_runs (effect W e) es r.1 in
    record {
      acts = s.acts ++ k.acts;
      few = omega (arith, s.few, k.few, length-append s.acts k.acts);
      run = run_append W.ring s.acts k.acts s.run (subst (λ u. ring.IsRun u k.acts) (sym s.ends) k.run);
      ends = last_append W.ring s.acts k.acts ∙ ap (λ u. ring.last u k.acts) s.ends ∙ k.ends;
    }
