-- The parts of an event, as the laws of logs, credit and numbers see them: what it does to rows, logs, packets and credit.
use Rattle.std.proofs.Common.{◌≡◌, ℕ, ◌+◌, ◌<◌, ◌≤◌, false, List, length, set, Some, None, refl, ap}
use Rattle.std.proofs.lemmas.List.{length-set}
use Rattle.queue_core.specs.declared.message.Message.{Message}
use Rattle.credit_flow.specs.Credit.{is_blocked}
use Rattle.ring_rules.specs.Refusal.{is_empty}
use Rattle.group_view.specs.Change.{marked}
use Rattle.group_view.specs.View.{Group}
use Rattle.ring_rules.specs.View.{right_of}
use Rattle.ring_rules.specs.Machine.{Member, Ending, Moved, Halted, Link, World, member_at, link_at, view_in, newest, runs_phase, row_at}
use Rattle.ring_rules.specs.Step.{copied, copied_at, size, publish_at, put_on, gain_on, take_from, current_is, with_current, leave_link, finished, ended, stop_at, with_member, with_link, with_view, look_at, moved_to, open_to, begin_from, come_to}
use Rattle.ring_rules.specs.Event.{refreshed, erased_view, synced_view}
use Rattle.ring_rules.specs.Act.{Act, refusal, effect, IsRun, last}
use Rattle.ring_rules.proofs.events.WhatRefuses.{MayTake, MayBegin}
use Rattle.ring_rules.proofs.events.Leaves.{member_leaves, link_leaves}
use Rattle.ring_rules.proofs.events.Enabled.{put_credit, gain_some}
use Rattle.ring_rules.proofs.events.Cases.{each_act}
use Rattle.ring_rules.proofs.events.Composed.{end_composed, refresh_composed}
use Rattle.ring_rules.proofs.invariants.Happens.{IsGood, run_acts}

-- the members' rows and logs are as before
pub record IsSameRows (w w' : World) : Type 0 where
  pub many : size w' ≡ size w
  pub rows : (q : ℕ) → (member_at w' q).rows ≡ (member_at w q).rows
  pub log : (q : ℕ) → (member_at w' q).log ≡ (member_at w q).log

-- and so are their phases, and packets, both sides and credit of the links
pub record IsStill (w w' : World) : Type 0 where
  pub same : IsSameRows w w'
  pub links_many : length w'.links ≡ length w.links
  pub initial : w'.initial ≡ w.initial
  pub more : w'.more ≡ w.more
  pub phase : (q : ℕ) → (member_at w' q).phase ≡ (member_at w q).phase
  pub packets : (s : ℕ) → (link_at w' s).packets ≡ (link_at w s).packets
  pub sending : (s : ℕ) → (link_at w' s).sending ≡ (link_at w s).sending
  pub had : (s : ℕ) → (link_at w' s).had ≡ (link_at w s).had
  pub flow : (s : ℕ) → (link_at w' s).flow ≡ (link_at w s).flow

-- a member has received nothing yet
abbrev pub KnowsNothing : Member → Type 0
KnowsNothing y = (p : ℕ) → ((row_at y p).got ≡ 0) × ((row_at y p).forgot ≡ 0)

-- a part of an event; where a take happens, G is known of the state before
pub data Part (G : World → Type 0) (w w' : World) : Type 0 where
  cast_part : (x : ℕ) (m : Message) → 1 ≤ x → x < size w → w' ≡ publish_at w x m → Part G w w'
  put_part : (x o : ℕ) → o < length w.links → is_blocked (link_at w o).flow.sender ≡ false → w' ≡ put_on w x o → Part G w w'
  take_part : (y s : ℕ) → 1 ≤ y → MayTake w y s → s < length w.links → G w → w' ≡ take_from w y s → Part G w w'
  begin_part : (y s : ℕ) → 1 ≤ y → MayBegin w y s → s < length w.links → KnowsNothing (member_at w y) → w' ≡ begin_from w y s → Part G w w'
  come_part : (m : ℕ) (name : List ℕ) → w' ≡ come_to w m name → Part G w w'
  gain_part : (o : ℕ) → o < length w.links → is_empty (link_at w o).flow.grants ≡ false → w' ≡ gain_on w o → Part G w w'
  stop_part : (x : ℕ) → x < size w → w' ≡ stop_at w x → Part G w w'
  open_part : (x z : ℕ) → w' ≡ open_to w x z → Part G w w'
  still_part : IsStill w w' → Part G w w'

-- ---- what leaves all still

-- what leaves the members
pub links_same : (w : World) (ls : List Link) → IsSameRows w (record w { links = ls })
links_same w ls = record { many = refl; rows = λ q. refl; log = λ q. refl }

-- a member written with the same rows and log
pub member_same : (w : World) (x : ℕ) (y : Member) → y.rows ≡ (member_at w x).rows → y.log ≡ (member_at w x).log → IsSameRows w (with_member w x y)
member_same w x y r l = record {
  many = length-set w.members x y;
  rows = λ q. member_leaves (λ _ a b. b.rows ≡ a.rows) w x y r (λ _. refl) q;
  log = λ q. member_leaves (λ _ a b. b.log ≡ a.log) w x y l (λ _. refl) q;
}

-- and with the same phase
pub member_still : (w : World) (x : ℕ) (y : Member) → y.rows ≡ (member_at w x).rows → y.log ≡ (member_at w x).log → y.phase ≡ (member_at w x).phase → IsStill w (with_member w x y)
member_still w x y r l f = record {
  same = member_same w x y r l;
  links_many = refl;
  initial = refl;
  more = refl;
  phase = λ q. member_leaves (λ _ a b. b.phase ≡ a.phase) w x y f (λ _. refl) q;
  packets = λ s. refl;
  sending = λ s. refl;
  had = λ s. refl;
  flow = λ s. refl;
}

-- a link written with the same packets, both sides and credit
pub link_still : (w : World) (o : ℕ) (k : Link) → k.packets ≡ (link_at w o).packets → k.sending ≡ (link_at w o).sending → k.had ≡ (link_at w o).had → k.flow ≡ (link_at w o).flow → IsStill w (with_link w o k)
link_still w o k p s d f = record {
  same = links_same w (set w.links o k);
  links_many = length-set w.links o k;
  initial = refl;
  more = refl;
  phase = λ q. refl;
  packets = λ j. link_leaves (λ _ a b. b.packets ≡ a.packets) w o k p (λ _. refl) j;
  sending = λ j. link_leaves (λ _ a b. b.sending ≡ a.sending) w o k s (λ _. refl) j;
  had = λ j. link_leaves (λ _ a b. b.had ≡ a.had) w o k d (λ _. refl) j;
  flow = λ j. link_leaves (λ _ a b. b.flow ≡ a.flow) w o k f (λ _. refl) j;
}

-- a new view
pub view_still : (w : World) (v : Group) → IsStill w (with_view w v)
view_still w v = record {
  same = record { many = refl; rows = λ q. refl; log = λ q. refl };
  links_many = refl;
  initial = refl;
  more = refl;
  phase = λ q. refl;
  packets = λ s. refl;
  sending = λ s. refl;
  had = λ s. refl;
  flow = λ s. refl;
}

-- ---- what each part keeps, events keep

module _ (G P : World → Type 0) (keeps : (w w' : World) → Part G w w' → P w → P w') where
  -- what leaves all still
  pub still_keeps : (w w' : World) → IsStill w w' → P w → P w'
  still_keeps w w' k = keeps w w' (still_part k)

  -- a link ends
  ends_keeps : (why : Ending) (w : World) (o : ℕ) → P w → P (with_link w o (ended why (link_at w o)))
  ends_keeps why w o h = still_keeps w (with_link w o (ended why (link_at w o))) (link_still w o (ended why (link_at w o)) refl refl refl refl) h

  -- a refresh
  refreshed_keeps : (w : World) (x v : ℕ) → P w → P (refreshed w x v)
  refreshed_keeps w x v h = refresh_composed P w x v
      (λ k _. ends_keeps Moved (look_at w x v) k)
      (λ u _. keeps u (open_to u x (right_of (view_in w v) x)) (open_part x (right_of (view_in w v) x) refl))
      (still_keeps w (look_at w x v) (member_still w x (moved_to w x v) refl refl refl) h)

  -- a new view, which x reads
  view_keeps : (w : World) (x : ℕ) (v : Group) → P w → P (refreshed (with_view w v) x (newest w + 1))
  view_keeps w x v h = refreshed_keeps (with_view w v) x (newest w + 1) (still_keeps w (with_view w v) (view_still w v) h)

  -- an event of a state that is good
  pub act_keeps : (w : World) (e : Act) → IsGood w → G w → refusal w e ≡ None → P w → P (effect w e)
  act_keeps w e g gw r h = each_act P w e g (record {
    casts = λ x m u _. keeps w _ (cast_part x m u.some u.lt refl) h;
    puts = λ x o u out k. keeps w _ (put_part x o (g.inv.linked.out_lt x o (ap runs_phase u.up) out) (put_credit w x o k) refl) h;
    takes = λ y s u m. keeps w _ (take_part y s u.some m (g.inv.current.lt y s (ap runs_phase u.up) m.current) gw refl) h;
    begins = λ y s u m. keeps w _ (begin_part y s u.some m (g.inv.current.lt y s (ap runs_phase m.waits) m.current) (λ p. g.inv.joining.rows y p m.waits) refl) h;
    leaves = λ y s u current k.
        still_keeps (current_is w y None) (leave_link w y s) (link_still (current_is w y None) s (finished (link_at w s)) refl refl refl refl)
        (still_keeps w (current_is w y None) (member_still w y (with_current None (member_at w y)) refl refl refl) h);
    gains = λ x o u out k. keeps w _ (gain_part o (g.inv.linked.out_lt x o (ap runs_phase u.up) out) (gain_some w o k) refl) h;
    stops = λ x u. end_composed P Halted (stop_at w x) (member_at w x).out (λ o _. ends_keeps Halted (stop_at w x) o) (keeps w _ (stop_part x u.lt refl) h);
    marks = λ x d u m. view_keeps w x (marked (view_in w (newest w)) d) h;
    erases = λ x p u m. view_keeps w x (erased_view w p) h;
    syncs = λ x u m. view_keeps w x (synced_view w x) h;
    admits = λ x name u k. refreshed_keeps (come_to w x name) x (newest w + 1) (keeps w (come_to w x name) (come_part x name refl) h);
    refreshes = λ x v u m. refreshed_keeps w x v h;
    picks = λ y s u none e upto. still_keeps w (current_is w y (Some s)) (member_still w y (with_current (Some s) (member_at w y)) refl refl refl) h;
    refuses = h;
  }) (λ x m u _. still_keeps w (copied_at w x m) (member_still w x (copied m (member_at w x)) refl refl refl) h) r

-- ---- runs

-- what the parts of every event keep, every run keeps
pub run_keeps : (P : World → Type 0) → ((w w' : World) → Part IsGood w w' → P w → P w') → (w : World) (es : List Act) → IsGood w → IsRun w es → P w → P (last w es)
run_keeps P keeps w es = run_acts P (λ v e g r h. act_keeps IsGood P keeps v e g g r h) w es
