-- No take leaves a gap, in any state of any run.
use Rattle.std.proofs.Common.{◌≡◌, ℕ, ◌+◌, ◌-◌, ◌<◌, ◌≤◌, true, false, List, [], ◌∷◌, length, get_or, Some, None, is_some, refl, sym, ap, subst, ◌∙◌, arith}
use Rattle.std.proofs.lemmas.Bool.{false≢true}
use Rattle.ring_names.specs.declared.numbers.CreditSpec.{CreditSpec}
use Rattle.group_view.specs.Change.{AreOpeningNames, marked, opening as opening_group}
use Rattle.ring_rules.specs.View.{left_of}
use Rattle.ring_rules.specs.Machine.{Packet, World, no_packet, row_at, numbers_at, member_at, link_at, view_in, left, runs, runs_phase, oldest, Waiting, Up, newest}
use Rattle.ring_rules.specs.Step.{copied_at, size, gain_on, publish_at, is_owned, leave_link, opening}
use Rattle.ring_rules.specs.Event.{erased_view, synced_view}
use Rattle.ring_rules.specs.Act.{Act, refusal, effect, IsRun, last}
use Rattle.ring_rules.specs.NoGap.{NoGapAtTake}
use Rattle.ring_rules.proofs.events.First.{first_each, first_link_is}
use Rattle.ring_rules.proofs.walks.Views.{left_is}
use Rattle.ring_rules.proofs.invariants.Kept.{Inv}
use Rattle.ring_rules.proofs.invariants.Happens.{IsGood, opening_good, can_join, mark_good, erase_good, sync_there, sync_good}
use Rattle.ring_rules.proofs.events.Cases.{each_act}
use Rattle.ring_rules.proofs.runs.LinesKept.{copied_still, cast_still, gain_still, leave_still, stop_lines, put_lines, take_lines, pick_lines, begin_lines, takes_within, admit_lines, refresh_lines, owned_stays, mark_lines}
use Rattle.ring_rules.proofs.runs.OwnLogs.{IsLogged, opening_logged, run_knowing}
use Rattle.ring_rules.proofs.runs.Lines.{IsChain, BeginsBy, LinesRight, lines_still}

-- ---- the opening

module _ (credit : CreditSpec) (names : List (List ℕ)) where
  abbrev first_world : World
  first_world = opening credit names

  -- each runs with the link from its left neighbour as its current one
  first_current : (y : ℕ) → runs first_world y ≡ true → (member_at first_world y).current ≡ Some (left_of (opening_group names) y - 1)
  first_current y = first_each credit names y (λ a. runs_phase a.phase ≡ true → a.current ≡ Some (left_of (opening_group names) y - 1)) (λ some l r. refl) (λ r. absurd (false≢true r))

  -- nothing is on the links, and each is current
  first_lines : Inv first_world → LinesRight first_world
  first_lines inv = record {
    begun = λ s l e. ap (λ a. a.packets) (first_link_is credit names s l);
    chain = λ s l. subst (λ a. IsChain a.packets a.sending.sent) (sym (first_link_is credit names s l)) tt;
    untouched = λ y s l r to over kept c.
        let opened : (link_at first_world s).opened ≡ 1 = ap (λ a. a.opened) (first_link_is credit names s l) in
        let sender : (link_at first_world s).sender ≡ s + 1 = ap (λ a. a.sender) (first_link_is credit names s l) in
        let left_is_sender : left_of (opening_group names) y ≡ s + 1 =
        sym (left_is first_world 1 y (opening_group names) refl) ∙ ap (left first_world 1) (sym to) ∙ ap (λ v. left first_world v (link_at first_world s).receiver) (sym opened) ∙ inv.linked.from_left s l ∙ sender in
        let place : left_of (opening_group names) y - 1 ≡ s = omega arith in
        absurd (c (first_current y r ∙ ap (λ j. Some j) place));
    waits = λ y s e c. absurd (first_each credit names y (λ a. a.phase ≡ Waiting → ⊥) (λ _ _ k. cc) (λ k. cc) e);
    current = λ y s p r e some l own.
        let lt : s < length first_world.links = inv.current.lt y s (ap runs_phase r) e in
        subst (λ a. BeginsBy a.packets a.sending p (row_at (member_at first_world y) p).got) (sym (first_link_is credit names s lt)) (λ bad. absurd (false≢true (sym bad)));
  }

-- ---- events

-- one event more
pub act_lines : (w : World) (e : Act) → IsGood w → refusal w e ≡ None → IsLogged w → LinesRight w → LinesRight (effect w e)
act_lines w e g r lg h = each_act LinesRight w e g (record {
  casts = λ x m u _. lines_still w (publish_at w x m) (cast_still w x m u.lt) h;
  puts = λ x o u out k. put_lines w x o u.up out g.inv h;
  takes = λ y s u m. take_lines w y s m g.inv h;
  begins = λ y s u m. begin_lines w y s m g.inv h;
  leaves = λ y s u current k. lines_still w (leave_link w y s) (leave_still w y s u.lt (g.inv.current.lt y s (ap runs_phase u.up) current) current) h;
  gains = λ x o u out k. lines_still w (gain_on w o) (gain_still w o (g.inv.linked.out_lt x o (ap runs_phase u.up) out)) h;
  stops = λ x u. stop_lines w x u.lt u.runs_on g.inv h;
  marks = λ x d u m. mark_lines w x (marked (view_in w (newest w)) d) u.lt u.up g (mark_good w d m.rests m.lives g) h;
  erases = λ x p u m. mark_lines w x (erased_view w p) u.lt u.up g (erase_good w p m.dead g) h;
  syncs = λ x u m. mark_lines w x (synced_view w x) u.lt u.up g (sync_good w x (sync_there w x m g) g) h;
  admits = λ x name u k. admit_lines w x name (can_join w x name u.lt u.up k g) g lg h;
  refreshes = λ x v u m.
      let rx : runs w x ≡ true = ap runs_phase u.up in
      refresh_lines w x v u.lt m.later (owned_stays w x v g rx m.later m.upto) (takes_within w g.inv) (λ o e2. g.inv.linked.out_lt x o rx e2) h;
  picks = λ y s u none door upto. pick_lines w y s u.lt u.up (ap is_some none) door upto g h;
  refuses = h;
}) (λ x m u _. lines_still w (copied_at w x m) (copied_still w x m u.lt) h) r

-- so in every state of every run of a ring with these names
pub reached_lines : (credit : CreditSpec) (names : List (List ℕ)) (es : List Act) → AreOpeningNames names → IsRun (opening credit names) es → LinesRight (last (opening credit names) es)
reached_lines credit names es are r =
    let good : IsGood (opening credit names) = opening_good credit names are in
    run_knowing LinesRight act_lines (opening credit names) es good r (opening_logged credit names) (first_lines credit names good.inv)

-- ---- no gap

-- a current link's oldest packet, where there is one, leaves no gap
pub no_gap : (w : World) (y s p : ℕ) → LinesRight w → (member_at w y).phase ≡ Up → (member_at w y).current ≡ Some s → 1 ≤ p → p < size w → is_owned (view_in w (member_at w y).version) y (link_at w s).sender p ≡ false → (numbers_at (oldest (link_at w s)) p).lo ≤ (row_at (member_at w y) p).got
no_gap w y s p h r c some l own = by_packets (link_at w s).packets (h.current y s p r c some l own)
  where
    by_packets : (ks : List Packet) → BeginsBy ks (link_at w s).sending p (row_at (member_at w y) p).got → (numbers_at (get_or ks 0 no_packet) p).lo ≤ (row_at (member_at w y) p).got
    by_packets [] b = omega arith
    by_packets (k ∷ ks) b = b

-- so no take leaves one
pub lines_no_gap : (w : World) → LinesRight w → NoGapAtTake w
lines_no_gap w h by y s p id up c may some l own = no_gap w y s p h up c some l own

-- in every state of every run no take leaves a gap
pub no_gap_in_runs : (credit : CreditSpec) (names : List (List ℕ)) (es : List Act) → AreOpeningNames names → IsRun (opening credit names) es → NoGapAtTake (last (opening credit names) es)
no_gap_in_runs credit names es are r = lines_no_gap (last (opening credit names) es) (reached_lines credit names es are r)
