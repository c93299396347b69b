-- A later master publishes Start before anything else.
use Rattle.std.proofs.Common.{◌≡◌, ◌≢◌, ℕ, zero, suc, ◌+◌, ◌<◌, ◌≤◌, Bool, true, false, not, nat_lt, List, [], ◌∷◌, ◌++◌, length, get_or, refl, sym, ap, subst, ◌∙◌, ⊎_elim, ◌⊎◌, inl, inr, arith, Option, Some, None, Result, Ok, append-nil}
use Rattle.std.specs.Prelude.{◌&&◌, ◌||◌}
use Rattle.std.specs.List.{list_any}
use Rattle.std.proofs.lemmas.Bool.{cases_eq, cases_lt, false≢true}
use Rattle.std.proofs.lemmas.Bool.Decides.{nat_tests}
use Rattle.std.proofs.lemmas.List.{length_push, get_or_append_left, get_or-set_same, get_or-set_other}
use Rattle.std.proofs.Math.Bool.{or-false}
use Rattle.ring_names.specs.declared.numbers.CreditSpec.{CreditSpec}
use Rattle.ring_names.specs.declared.numbers.MemberId.{MemberId}
use Rattle.ring_names.specs.declared.reason.Reason.{Reason}
use Rattle.queue_core.specs.declared.message.Message.{Message}
use Rattle.queue_core.specs.declared.message.Message.TheVariants as message
use Rattle.queue_core.specs.declared.op.Op.{Op}
use Rattle.queue_core.specs.declared.op.Op.TheVariants as op
use Rattle.queue_mirror.specs.Mirror.{MirrorState}
use Rattle.queue_mirror.specs.Master.{lead_refusal, or_refused}
use Rattle.queue_laws.specs.Part.{ops_of, ops}
use Rattle.queue_laws.specs.Starting.{is_start, starts}
use Rattle.queue_laws.proofs.Seen.{ops_push}
use Rattle.group_view.specs.View.{Group}
use Rattle.group_view.specs.Since.{no_group}
use Rattle.group_view.proofs.Rings.{nat_eq-is}
use Rattle.group_view.specs.Change.{AreOpeningNames, marked}
use Rattle.ring_rules.specs.Act.{Act, refusal, effect, IsRun, last}
use Rattle.ring_rules.specs.declared.phase.Ending.TheVariants.{Halted}
use Rattle.ring_rules.specs.Refusal.{or_else}
use Rattle.ring_rules.specs.Machine.{World, Member, no_member, member_at, view_in, newest}
use Rattle.ring_rules.specs.Step.{size, log_of, published, publish_at, with_view, come_to, admitted_view, opening, stop_at}
use Rattle.ring_rules.specs.declared.kind.Asking.TheVariants as asking
use Rattle.ring_rules.specs.Event.{Marks, QueueSaying, Publishes, Does, MayPublish, asked_op, start_refusal, refreshed, erased_view, synced_view}
use Rattle.ring_rules.specs.Laws.{GoesOn}
use Rattle.ring_rules.specs.Work.{is_led, is_late}
use Rattle.ring_rules.specs.QueueLaws.{LaterMastersStart}
use Rattle.ring_rules.proofs.rings.Lists.{get_or_beyond}
use Rattle.ring_rules.proofs.events.Cases.{each_act}
use Rattle.ring_rules.proofs.events.Composed.{end_composed, refresh_composed}
use Rattle.ring_rules.proofs.events.First.{first_each, first_log}
use Rattle.ring_rules.proofs.invariants.FromLeft.{IsGood}
use Rattle.ring_rules.proofs.invariants.Happens.{reached_good}
use Rattle.ring_rules.proofs.runs.AllRuns.{every_run_goes_on}
use Rattle.ring_rules.proofs.runs.OwnLogs.{cast_log, cast_log_other}
use Rattle.ring_rules.proofs.runs.Published.{KeepsLogs}
use Rattle.ring_rules.proofs.work.TellFalls.{led_parts}
use Rattle.ring_rules.proofs.queue.Asked.{operation_asked}
use Rattle.ring_rules.proofs.queue.Told.{ToldStep, told_stays, told_now, act_told}
use Rattle.ring_rules.proofs.runs.InOrder.{run_append, last_append}

-- ---- what may be published

refused_none : (r : Option Reason) (a : Result Op Reason) (o : Op) → or_refused r a ≡ Ok o → r ≡ None
refused_none None a o h = refl
refused_none (Some r) a o h = cc

-- a Start, or by a master that has started where it has to
starts_or_on_time : (m : MirrorState) (g : Group) (x : ℕ) (started : Bool) (q : QueueSaying) (o : Op) → asked_op m g x started q ≡ Ok o → (is_start o ≡ true) ⊎ (lead_refusal g x started ≡ None)
starts_or_on_time m g x started (Publishes body) o h = inr (refused_none (lead_refusal g x started) _ o h)
starts_or_on_time m g x started (Does asking.Get) o h = inr (refused_none (lead_refusal g x started) _ o h)
starts_or_on_time m g x started (Does asking.Pop) o h = inr (refused_none (lead_refusal g x started) _ o h)
starts_or_on_time m g x started (Does (asking.Ack at)) o h = inr (refused_none (lead_refusal g x started) _ o h)
starts_or_on_time m g x started (Does (asking.Requeue at)) o h = inr (refused_none (lead_refusal g x started) _ o h)
starts_or_on_time m g x started (Marks target) o h = inr (refused_none (lead_refusal g x started) _ o h)
starts_or_on_time m g x started (Does asking.Depth) o h = inr (refused_none (lead_refusal g x started) _ o h)
starts_or_on_time m g x started (Does asking.Start) o h = by_refusal (start_refusal g x started) h
  where
    by_refusal : (r : Option Reason) → or_refused r (Ok (op.Start (length m.queue.items))) ≡ Ok o → (is_start o ≡ true) ⊎ (lead_refusal g x started ≡ None)
    by_refusal None k = let is : op.Start (length m.queue.items) ≡ o = cc in inl (ap is_start (sym is))
    by_refusal (Some r) k = cc

-- ---- views

refreshed_views : (w : World) (x v : ℕ) → (refreshed w x v).views ≡ w.views
refreshed_views w x v = refresh_composed (λ u. u.views ≡ w.views) w x v (λ k e h. h) (λ u e h. h) refl

-- an event makes at most one
abbrev MakesView : World → World → Type 0
MakesView w w' = (w'.views ≡ w.views) ⊎ ((g : Group) × (w'.views ≡ w.views ++ g ∷ []))

act_views : (w : World) (e : Act) → IsGood w → refusal w e ≡ None → MakesView w (effect w e)
act_views w e g r = each_act (MakesView w) w e g (record {
  casts = λ x m u _. inl refl;
  puts = λ x o u out k. inl refl;
  takes = λ y s u m. inl refl;
  begins = λ y s u m. inl refl;
  leaves = λ y s u current k. inl refl;
  gains = λ x o u out k. inl refl;
  stops = λ x u. inl (end_composed (λ a. a.views ≡ w.views) Halted (stop_at w x) (member_at w x).out (λ o _ h. h) refl);
  marks = λ x d u m. inr (marked (view_in w (newest w)) d, refreshed_views (with_view w (marked (view_in w (newest w)) d)) x (newest w + 1));
  erases = λ x d u m. inr (erased_view w d, refreshed_views (with_view w (erased_view w d)) x (newest w + 1));
  syncs = λ x u m. inr (synced_view w x, refreshed_views (with_view w (synced_view w x)) x (newest w + 1));
  admits = λ x name u k. inr (admitted_view w x name, refreshed_views (come_to w x name) x (newest w + 1));
  refreshes = λ x v u m. inl (refreshed_views w x v);
  picks = λ y s u none door upto. inl refl;
  refuses = inl refl;
}) (λ x m u _. inl refl) r

-- ---- the invariant

-- by the views of the first term only member 1 leads; who has started has published something; and whoever else has
-- published began with Start
pub record Starts (w : World) : Type 0 where
  pub some : 0 < length w.views
  pub term : 1 ≤ (view_in w (newest w)).term
  pub first : (u m : ℕ) → (view_in w u).term ≤ 1 → is_led (view_in w u).master m ≡ true → m ≡ 1
  pub started : (x : ℕ) → (member_at w x).started ≡ true → ops (log_of w x) ≢ []
  pub starts : (x : ℕ) → x ≢ 1 → starts (ops (log_of w x)) ≡ true

not_nothing : (l more : List Op) → l ≢ [] → l ++ more ≢ []
not_nothing [] more ne = absurd (ne refl)
not_nothing (o ∷ l) more ne = λ e. cc

module _ (w : World) (e : Act) (g : IsGood w) (r : refusal w e ≡ None) (on : GoesOn w (effect w e)) (h : Starts w) where
  abbrev w' : World
  w' = effect w e

  first_now : (u m : ℕ) → (view_in w' u).term ≤ 1 → is_led (view_in w' u).master m ≡ true → m ≡ 1
  first_now u m le led = by_views (act_views w e g r)
    where
      by_views : MakesView w w' → m ≡ 1
      by_views (inl same) =
          let is : view_in w' u ≡ view_in w u = ap (λ vs. get_or vs u no_group) same in
          h.first u m (subst (λ (k : Group). k.term ≤ 1) is le) (ap (λ (k : Group). is_led k.master m) (sym is) ∙ led)
      by_views (inr more) = ⊎_elim
          (λ (lt : u < length w.views).
          let is : view_in w' u ≡ view_in w u = ap (λ vs. get_or vs u no_group) more.1 ∙ get_or_append_left w.views (more.0 ∷ []) no_group u lt in
          h.first u m (subst (λ (k : Group). k.term ≤ 1) is le) (ap (λ (k : Group). is_led k.master m) (sym is) ∙ led))
          (λ (ge : length w.views ≤ u). ⊎_elim
          (λ (top : u ≡ newest w').
          let t : (view_in w' (newest w')).term ≤ 1 = subst (λ k. (view_in w' k).term ≤ 1) top le in
          let same : (view_in w' (newest w')).term ≡ (view_in w (newest w)).term = omega (arith, t, on.leads.rises, h.term) in
          by_master (view_in w' (newest w')).master (ap (λ k. is_led (view_in w' k).master m) (sym top) ∙ led) (on.leads.stays same) (omega (arith, same, t)))
          (λ (past : u ≢ newest w').
          let many : length w'.views ≡ length w.views + 1 = ap length more.1 ∙ length_push w.views more.0 in
          absurd (false≢true (ap (λ (k : Group). is_led k.master m) (sym (get_or_beyond w'.views u no_group (omega (arith, many, ge, past)))) ∙ led)))
          (cases_eq u (newest w')))
          (cases_lt u (length w.views))
        where
          by_master : (o : Option MemberId) → is_led o m ≡ true → (o ≡ (view_in w (newest w)).master) ⊎ (o ≡ None) → (view_in w (newest w)).term ≤ 1 → m ≡ 1
          by_master o l (inl same) le2 = h.first (newest w) m le2 (ap (λ k. is_led k m) (sym same) ∙ l)
          by_master o l (inr none) le2 = absurd (false≢true (ap (λ k. is_led k m) (sym none) ∙ l))

  -- what a member publishes goes on as it began
  record Goes (x : ℕ) : Type 0 where
    pub started : (member_at w' x).started ≡ true → ops (log_of w' x) ≢ []
    pub starts : x ≢ 1 → starts (ops (log_of w' x)) ≡ true

  goes_same : (x : ℕ) → (member_at w' x).started ≡ (member_at w x).started → log_of w' x ≡ log_of w x → Goes x
  goes_same x st log = record {
    started = λ e2. subst (λ l. ops l ≢ []) (sym log) (h.started x (sym st ∙ e2));
    starts = λ ne. ap (λ l. starts (ops l)) log ∙ h.starts x ne;
  }

  goes : (x : ℕ) → Goes x
  goes x = by_step (act_told w e r)
    where
      kept : KeepsLogs w w' → Goes x
      kept k = goes_same x (k.started x) (k.log x)

      by_step : ToldStep w w' → Goes x
      by_step (told_stays k) = kept k
      by_step (told_now y m some lt may is) = ⊎_elim
          (λ (here : y ≡ x). publishes here)
          (λ (ne : y ≢ x). goes_same x
          (ap (λ u. (member_at u x).started) is ∙ ap (λ (a : Member). a.started) (get_or-set_other w.members y x (published y m (member_at w y)) no_member (λ q. ne (sym q))))
          (ap (λ u. log_of u x) is ∙ cast_log_other w y x m (λ q. ne (sym q))))
          (cases_eq y x)
        where
          publishes : y ≡ x → Goes x
          publishes here = by_message m may is
            where
              xl : x < size w
              xl = omega (arith, here, lt)

              log_is : (m : Message) → w' ≡ publish_at w y m → ops (log_of w' x) ≡ ops (log_of w x) ++ ops_of m
              log_is m is = ap (λ u. ops (log_of u x)) is ∙ ap (λ q. ops (log_of (publish_at w q m) x)) here ∙ ap ops (cast_log w x m xl) ∙ ops_push (log_of w x) m

              started_is : (m : Message) → w' ≡ publish_at w y m → (member_at w' x).started ≡ ((member_at w x).started || list_any is_start (ops_of m))
              started_is m is = ap (λ u. (member_at u x).started) is ∙ ap (λ q. (member_at (publish_at w q m) x).started) here ∙ ap (λ (a : Member). a.started) (get_or-set_same w.members x (published x m (member_at w x)) no_member xl)

              by_message : (m : Message) → MayPublish w y m → w' ≡ publish_at w y m → Goes x
              by_message (message.Cast body) may is =
                  let same : ops (log_of w' x) ≡ ops (log_of w x) = log_is (message.Cast body) is ∙ append-nil (ops (log_of w x)) in
                  record {
                    started = λ e2. subst (λ l. l ≢ []) (sym same) (h.started x (sym (started_is (message.Cast body) is ∙ or-false (member_at w x).started) ∙ e2));
                    starts = λ ne. ap starts same ∙ h.starts x ne;
                  }
              by_message (message.Queue o) may is =
                  let grown : ops (log_of w' x) ≡ ops (log_of w x) ++ o ∷ [] = log_is (message.Queue o) is in
                  let asked = operation_asked w y o may.0 may.1 in
                  record {
                    started = λ _. subst (λ l. l ≢ []) (sym grown) (last_there (ops (log_of w x)) o);
                    starts = λ ne. ap starts grown ∙ by_op ne (ops (log_of w x)) (h.starts x ne) (h.started x)
                        (starts_or_on_time (member_at w y).mirror (view_in w (member_at w y).version) y (member_at w y).started asked.0 o asked.1);
                  }
                where
                  last_there : (l : List Op) (o : Op) → l ++ o ∷ [] ≢ []
                  last_there [] o = λ e. cc
                  last_there (p ∷ l) o = λ e. cc

                  by_op : x ≢ 1 → (l : List Op) → starts l ≡ true → ((member_at w x).started ≡ true → l ≢ []) → (is_start o ≡ true) ⊎ (lead_refusal (view_in w (member_at w y).version) y (member_at w y).started ≡ None) → starts (l ++ o ∷ []) ≡ true
                  by_op ne (p ∷ l) s st k = s
                  by_op ne [] s st (inl start) = start
                  by_op ne [] s st (inr on_time) =
                      let parts = led_parts (view_in w (member_at w y).version).master y (is_late (view_in w (member_at w y).version) (member_at w y).started) None (then_none (lead_refusal (view_in w (member_at w y).version) y (member_at w y).started) on_time) in
                      absurd (by_late (nat_lt 1 (view_in w (member_at w y).version).term) refl (member_at w y).started refl parts.1.0 parts.0)
                    where
                      then_none : (q : Option Reason) → q ≡ None → or_else q None ≡ None
                      then_none None e2 = refl
                      then_none (Some a) e2 = e2

                      by_late : (a : Bool) → nat_lt 1 (view_in w (member_at w y).version).term ≡ a → (b : Bool) → (member_at w y).started ≡ b → (a && not b) ≡ false → is_led (view_in w (member_at w y).version).master y ≡ true → ⊥
                      by_late false ea b eb late led = ne (sym here ∙ h.first (member_at w y).version y (let l : (view_in w (member_at w y).version).term ≤ 1 = grind (arith, nat_tests, ea) in l) led)
                      by_late true ea true eb late led = st (ap (λ q. (member_at w q).started) (sym here) ∙ eb) refl
                      by_late true ea false eb late led = false≢true (sym late)

  pub act_starts : Starts w'
  act_starts = record {
    some = by_views (act_views w e g r);
    term = omega (arith, h.term, on.leads.rises);
    first = first_now;
    started = λ x. (goes x).started;
    starts = λ x. (goes x).starts;
  }
    where
      by_views : MakesView w w' → 0 < length w'.views
      by_views (inl same) = let n : length w'.views ≡ length w.views = ap length same in omega (arith, n, h.some)
      by_views (inr more) = let n : length w'.views ≡ length w.views + 1 = ap length more.1 ∙ length_push w.views more.0 in omega (arith, n)

-- ---- every state of every run

opening_starts : (credit : CreditSpec) (names : List (List ℕ)) → Starts (opening credit names)
opening_starts credit names = record {
  some = omega arith;
  term = omega arith;
  first = first;
  started = λ x e. absurd (false≢true (sym (first_each credit names x (λ a. a.started ≡ false) (λ _ _. refl) refl) ∙ e));
  starts = λ x _. ap (λ l. starts (ops l)) (first_log credit names x);
}
  where
    first : (u m : ℕ) → (view_in (opening credit names) u).term ≤ 1 → is_led (view_in (opening credit names) u).master m ≡ true → m ≡ 1
    first zero m le led = absurd (false≢true led)
    first (suc zero) m le led = sym (nat_eq-is 1 m led)
    first (suc (suc u)) m le led = absurd (false≢true led)

module _ (credit : CreditSpec) (names : List (List ℕ)) (are : AreOpeningNames names) where
  run_starts_from : (done : List Act) (w : World) (es : List Act) → IsRun (opening credit names) done → w ≡ last (opening credit names) done → IsRun w es → Starts w → Starts (last w es)
  run_starts_from done w [] run is q k = k
  run_starts_from done w (e ∷ es) run is q k =
      let more : IsRun (opening credit names) (done ++ e ∷ []) = run_append (opening credit names) done (e ∷ []) run (subst (λ u. refusal u e ≡ None) is q.0, tt) in
      run_starts_from (done ++ e ∷ []) (effect w e) es more (ap (λ u. effect u e) is ∙ sym (last_append (opening credit names) done (e ∷ []))) q.1
      (act_starts w e (subst IsGood (sym is) (reached_good credit names done are run)) q.0
      (subst (λ u. GoesOn u (effect u e)) (sym is) (every_run_goes_on credit names done (e ∷ []) are run (subst (λ u. refusal u e ≡ None) is q.0, tt))) k)

  pub run_starts : (events : List Act) → IsRun (opening credit names) events → LaterMastersStart (last (opening credit names) events)
  run_starts events r = (run_starts_from [] (opening credit names) events tt refl r (opening_starts credit names)).starts
