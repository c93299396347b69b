-- A ring whose members have nothing to do rests, whoever stopped and joined before.
use Rattle.ring_rules.proofs.invariants.Good.{stands_now, lives_now}
use Rattle.std.proofs.Common.{◌≡◌, ◌⊎◌, inl, inr, ℕ, zero, suc, ◌<◌, ◌≤◌, Bool, true, false, nat_eq, List, [], ◌∷◌, length, get_or, is_some, refl, sym, ap, subst, ◌∙◌, ⊎_elim, arith}
use Rattle.std.specs.Prelude.{◌||◌, ◌&&◌}
use Rattle.std.proofs.lemmas.Bool.{false≢true, cases_lt}
use Rattle.ring_names.specs.declared.numbers.CreditSpec.{CreditSpec}
use Rattle.group_view.specs.declared.entry.Entry.{Entry}
use Rattle.group_view.specs.Ring.{is_in, AreDistinct, left_in}
use Rattle.group_view.specs.View.{Group, entry_in, is_live_mark, is_dead_mark, is_dead, found_is, owner_of, ids as ids_of}
use Rattle.group_view.specs.Change.{AreOpeningNames}
use Rattle.group_view.proofs.Marks.{left_is as left_of_entry}
use Rattle.group_view.proofs.Passing.{live_in, are_mutual}
use Rattle.group_view.proofs.Arcs.{owner_is}
use Rattle.group_view.proofs.Rings.{sym_test, not_equal_in}
use Rattle.ring_rules.specs.View.{is_live, left_of, right_of}
use Rattle.ring_rules.specs.Machine.{Phase, Waiting, Up, Stopped, World, no_member, member_at, view_in, newest, ring, left, right, runs, runs_phase}
use Rattle.ring_rules.specs.Step.{size, log_of, opening}
use Rattle.ring_rules.specs.Event.{is_stopped, left_neighbour, is_neighbour, is_still_taken, at_door, mark_refusal}
use Rattle.ring_rules.specs.Act.{Act, IsRun, last}
use Rattle.ring_rules.specs.Lawful.{row_of}
use Rattle.ring_rules.specs.Idle.{NobodySteps, MarksNobody, ErasesNobody, HasNobodyGone, IsIdle}
use Rattle.ring_rules.specs.Quiet.{IsAtRest, RingRests}
use Rattle.ring_rules.proofs.rings.Lists.{get_or_beyond}
use Rattle.ring_rules.proofs.rings.Rounds.{nat_eq-is, nat_eq-same}
use Rattle.ring_rules.proofs.walks.Views.{left_is, right_is}
use Rattle.ring_rules.proofs.invariants.Period.{right_lives}
use Rattle.ring_rules.proofs.walks.Ended.{runs_lt}
use Rattle.ring_rules.proofs.invariants.Happens.{reached_good}
use Rattle.ring_rules.proofs.invariants.Happens.{ring_below}
use Rattle.group_view.proofs.Truth.{later_true}
use Rattle.std.proofs.lemmas.Bool.{or_right}
use Rattle.ring_rules.proofs.walks.OpenWalk.{reached_ends}
use Rattle.ring_rules.proofs.runs.LinkCredit.{run_credited}
use Rattle.ring_rules.proofs.runs.OwnLogs.{IsLogged, run_logged}
use Rattle.ring_rules.proofs.runs.HasSent.{put_last, reached_has}
use Rattle.ring_rules.proofs.rests.Going.{reached_goes}
use Rattle.ring_rules.proofs.invariants.FirstVersion.{reached_old}
use Rattle.ring_rules.proofs.rests.Round.{round}
use Rattle.ring_rules.proofs.rests.Erasable.{HasCalmed, HasOwner, owner_there, has_come_round, may_erase}
use Rattle.ring_rules.proofs.rests.IdleLinks.{IsReached, up_there, done, no_current, no_door, neighbours_agree, open_holds_nothing}

-- ---- entries

-- an entry's id is among the ids
pub id_in : (es : List Entry) (k : ℕ) (d : Entry) → k < length es → is_in (get_or es k d).id.0 (ids_of es) ≡ true
id_in [] k d l = absurd (omega arith)
id_in (e ∷ es) zero d l = rw (nat_eq-same e.id.0) refl
id_in (e ∷ es) (suc k) d l = later_true (nat_eq (get_or es k d).id.0 e.id.0) (id_in es k d (omega arith))

-- and the entry of that id
pub entry_at : (es : List Entry) (k : ℕ) (d : Entry) → AreDistinct (ids_of es) → k < length es → entry_in es (get_or es k d).id.0 ≡ get_or es k d
entry_at [] k d dx l = absurd (omega arith)
entry_at (e ∷ es) zero d dx l = rw (nat_eq-same e.id.0) refl
entry_at (e ∷ es) (suc k) d dx l =
    let apart : nat_eq e.id.0 (get_or es k d).id.0 ≡ false = sym_test (get_or es k d).id.0 e.id.0 false (not_equal_in (get_or es k d).id.0 e.id.0 (ids_of es) (id_in es k d (omega arith)) dx.0) in
    rw apart (entry_at es k d dx.1 (omega arith))

-- ---- where nobody has a step to do, or somebody at its right to have marked

stopped_is : (f : Phase) → runs_phase f ≡ false → is_stopped f ≡ true
stopped_is Waiting e = absurd (false≢true (sym e))
stopped_is Up e = absurd (false≢true (sym e))
stopped_is Stopped e = refl

module _ (w : World) (h : IsReached w) (lg : IsLogged w) (idle : NobodySteps w) (marks : MarksNobody w) (y0 : ℕ) (r0 : runs w y0 ≡ true) where
  abbrev v : Group
  v = view_in w (newest w)

  distinct : AreDistinct (ring w)
  distinct = h.good.inv.is_ring.distinct (newest w) (omega arith)

  -- where a member runs, its right neighbour does, else it could have it marked
  goes_right : (y : ℕ) → is_in y (ring w) ≡ true → is_live v y ≡ true → runs w (left_in (is_live v) y (ring w)) ≡ true → runs w y ≡ true
  goes_right y iy ly rx = by_runs (runs w y) refl
    where
      x : ℕ
      x = left_in (is_live v) y (ring w)

      right_now : right_of v x ≡ y
      right_now = ap (right_of v) (sym (left_of_entry v.entries y iy)) ∙ (are_mutual v.entries y distinct ly).right_of_left

      there : right_of (view_in w (member_at w x).version) x ≡ y
      there = ap (λ u. right_of (view_in w u) x) (done w h idle x rx).newest ∙ right_now

      neighbour : is_neighbour w x y ≡ true
      neighbour = or_right (nat_eq y (left_neighbour w x)) _ (ap (nat_eq y) there ∙ nat_eq-same y)

      still : runs w y ≡ false → (b : Bool) → nat_eq y (left_neighbour w x) ≡ b → (b && (is_some (member_at w x).current || is_some (at_door w x))) ≡ false
      still rests false e = refl
      still rests true e =
          let is : left w (newest w) x ≡ y = left_is w (newest w) x v refl ∙ ap (λ u. left_of (view_in w u) x) (sym (done w h idle x rx).newest) ∙ sym (nat_eq-is y (left_neighbour w x) e) in
          let gone : runs w (left w (newest w) x) ≡ false = ap (runs w) is ∙ rests in
          rw (no_current w h idle x rx gone, no_door w h idle x rx gone) refl

      by_runs : (b : Bool) → runs w y ≡ b → runs w y ≡ true
      by_runs true e = e
      by_runs false e =
          let taken : is_still_taken w x y ≡ false = still e (nat_eq y (left_neighbour w x)) refl in
          absurd (marks x rx (ap (mark_refusal w x) (right_is w (newest w) x v refl ∙ right_now) ∙ rw (neighbour, ly, stopped_is (member_at w y).phase e, taken) refl))

  -- so every live entry runs
  pub all_run : (y : ℕ) → is_live v y ≡ true → runs w y ≡ true
  all_run y ly = round (is_live v) y0 (ring w) distinct (stands_now w h.good.inv.is_ring y0 r0) (lives_now w h.good.inv.is_ring y0 r0) (λ k. runs w k ≡ true) r0 (λ k ik lk ne e. goes_right k ik lk e) y (live_in v.entries y ly) ly

  calm : HasCalmed w
  calm = record {
    lives = all_run;
    up = up_there w h idle;
    has = λ y r. (done w h idle y r).newest;
    even = λ y p r rx pl. neighbours_agree w h idle y p r rx pl;
  }

  -- all that a member published has come round to it, and the acknowledgement too
  pub all_come_round : (p : ℕ) → runs w p ≡ true → (row_of w p p).retired ≡ length (log_of w p)
  all_come_round p rp =
      let ip : is_in p (ring w) ≡ true = stands_now w h.good.inv.is_ring p rp in
      let o : HasOwner w h.good.inv calm p = owner_there w h.good.inv calm y0 p r0 in
      let owns : found_is (owner_of v.entries p) p ≡ true = owner_is v.entries p p distinct (lives_now w h.good.inv.is_ring p rp) ip ∙ rw (nat_eq-same p) refl in
      let is : o.one ≡ p = nat_eq-is o.one p (sym (ap (λ a. found_is a p) o.is) ∙ owns) in
      subst (λ k. (row_of w k p).retired ≡ (row_of w k p).got) is (sym (has_come_round w h.good.inv calm p (runs_lt w p rp) ip o)) ∙ lg.own p

  -- so where no entry is dead, the ring rests
  pub calm_rests : ((p : ℕ) → is_in p (ring w) ≡ true → is_dead v.entries p ≡ false) → IsAtRest w
  calm_rests none_dead = record {
    members = λ y ry. record {
      up = up_there w h idle y ry;
      newest = (done w h idle y ry).newest;
      come_round = all_come_round y ry;
      empty = λ s sl opens. open_holds_nothing w h idle y s ry sl opens;
    };
    entries = λ k d lt.
        let e = get_or v.entries k d in
        let same : entry_in v.entries e.id.0 ≡ e = entry_at v.entries k d distinct lt in
        record {
          not_dead = λ dead. false≢true (sym (none_dead e.id.0 (id_in v.entries k d lt)) ∙ ap (λ (a : Entry). is_dead_mark a.mark) same ∙ ap is_dead_mark dead);
          runs = λ live. all_run e.id.0 (ap (λ (a : Entry). is_live_mark a.mark) same ∙ ap is_live_mark live);
        };
  }

-- ---- and nobody to have erased

module _ (w : World) (h : IsReached w) (lg : IsLogged w) (steps : NobodySteps w) (marks : MarksNobody w) (erases : ErasesNobody w) (y0 : ℕ) (r0 : runs w y0 ≡ true) where
  -- no entry is dead: its owner could have it erased
  none_dead : (p : ℕ) → is_in p (ring w) ≡ true → is_dead (view_in w (newest w)).entries p ≡ false
  none_dead p ip = by_dead (is_dead (view_in w (newest w)).entries p) refl
    where
      still : HasCalmed w
      still = calm w h lg steps marks y0 r0

      o : HasOwner w h.good.inv still p
      o = owner_there w h.good.inv still y0 p r0

      by_dead : (b : Bool) → is_dead (view_in w (newest w)).entries p ≡ b → is_dead (view_in w (newest w)).entries p ≡ false
      by_dead false e = e
      by_dead true e = absurd (erases o.one o.runs_on p (ring_below w h.good p ip) (may_erase w h.good.inv still p (ring_below w h.good p ip) ip o e))

  pub worked_rests : IsAtRest w
  worked_rests = calm_rests w h lg steps marks y0 r0 none_dead

-- ---- in an idle ring

module _ (w : World) (h : IsReached w) (lg : IsLogged w) (idle : IsIdle w) (y0 : ℕ) (r0 : runs w y0 ≡ true) where
  idle_steps : NobodySteps w
  idle_steps y ry = (idle y ry).steps

  others : (y : ℕ) → runs w y ≡ true → HasNobodyGone w y
  others y ry = (idle y ry).up (up_there w h idle_steps y ry)

  idle_marks : MarksNobody w
  idle_marks x rx = (others x rx).mark (right w (newest w) x) (ring_below w h.good (right w (newest w) x) (live_in (view_in w (newest w)).entries (right w (newest w) x) (right_lives w (newest w) x (lives_now w h.good.inv.is_ring x rx))))

  pub idle_rests : IsAtRest w
  idle_rests = worked_rests w h lg idle_steps idle_marks (λ x rx p pl. (others x rx).erase p pl) y0 r0

-- ---- every state of every run

-- somebody runs, or nobody
somebody : (w : World) (n : ℕ) → ((y : ℕ) → y < n → runs w y ≡ false) ⊎ ((y : ℕ) × (runs w y ≡ true))
somebody w zero = inl (λ y lt. absurd (omega arith))
somebody w (suc n) = by_runs (runs w n) refl (somebody w n)
  where
    by_runs : (b : Bool) → runs w n ≡ b → ((y : ℕ) → y < n → runs w y ≡ false) ⊎ ((y : ℕ) × (runs w y ≡ true)) → ((y : ℕ) → y < suc n → runs w y ≡ false) ⊎ ((y : ℕ) × (runs w y ≡ true))
    by_runs true e k = inr (n, e)
    by_runs false e (inr k) = inr k
    by_runs false e (inl k) = inl (λ y lt. ⊎_elim (λ (l : y < n). k y l) (λ (ge : n ≤ y). let is : y ≡ n = omega arith in ap (runs w) is ∙ e) (cases_lt y n))

-- a ring rests where all of it does if somebody runs
pub rests_where : (w : World) → ((y : ℕ) → runs w y ≡ true → IsAtRest w) → RingRests w
rests_where w rests = by_one (somebody w (size w))
  where
    by_one : ((y : ℕ) → y < size w → runs w y ≡ false) ⊎ ((y : ℕ) × (runs w y ≡ true)) → RingRests w
    by_one (inl none) = inl (λ y. ⊎_elim (λ (l : y < size w). none y l) (λ (ge : size w ≤ y). ap (λ a. runs_phase a.phase) (get_or_beyond w.members y no_member ge)) (cases_lt y (size w)))
    by_one (inr k) = inr (rests k.0 k.1)

-- what holds in every state of every run
pub reached : (credit : CreditSpec) (names : List (List ℕ)) (events : List Act) → AreOpeningNames names → IsRun (opening credit names) events → IsReached (last (opening credit names) events)
reached credit names events are r = record {
  good = reached_good credit names events are r;
  ends = reached_ends credit names events are r;
  sent = reached_has put_last credit names events are r;
  credit = credit;
  credited = run_credited credit names events are r;
  goes = reached_goes credit names events are r;
  old = reached_old credit names events are r;
}

-- in each of them, an idle ring rests
pub run_idle_rests : (credit : CreditSpec) (names : List (List ℕ)) (events : List Act) → AreOpeningNames names → IsRun (opening credit names) events → IsIdle (last (opening credit names) events) → RingRests (last (opening credit names) events)
run_idle_rests credit names events are r idle =
    let w : World = last (opening credit names) events in
    rests_where w (λ y ry. idle_rests w (reached credit names events are r) (run_logged credit names events are r) idle y ry)

-- and one rests in which nobody has a step to do, somebody at its right to have marked, or somebody to have erased
pub run_worked_rests : (credit : CreditSpec) (names : List (List ℕ)) (events : List Act) → AreOpeningNames names → IsRun (opening credit names) events
    → NobodySteps (last (opening credit names) events) → MarksNobody (last (opening credit names) events) → ErasesNobody (last (opening credit names) events) → RingRests (last (opening credit names) events)
run_worked_rests credit names events are r steps marks erases =
    let w : World = last (opening credit names) events in
    rests_where w (λ y ry. worked_rests w (reached credit names events are r) (run_logged credit names events are r) steps marks erases y ry)
