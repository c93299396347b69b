-- The links of a ring in which nobody has a step to do: which of them are open, that they hold nothing, and that neighbours agree.
use Rattle.group_view.proofs.Lists.{at_range}
use Rattle.group_view.proofs.Truth.{none_there}
use Rattle.std.proofs.Common.{◌≡◌, ◌≢◌, ℕ, ◌<◌, Bool, true, false, not, nat_eq, nat_le, max, [], length, sum, Option, Some, None, is_some, refl, sym, ap, subst, ◌∙◌, arith}
use Rattle.std.specs.Prelude.{◌&&◌, ◌||◌}
use Rattle.std.proofs.lemmas.Bool.{false≢true, and_parts, and_from, not-true, false_from_ne_true}
use Rattle.std.proofs.lemmas.Bool.Decides.{nat_tests}
use Rattle.ring_names.specs.declared.numbers.CreditSpec.{CreditSpec}
use Rattle.ring_names.specs.declared.reason.Reason.TheVariants as reason
use Rattle.credit_flow.specs.Credit.{is_blocked}
use Rattle.group_view.proofs.Passing.{are_mutual}
use Rattle.ring_rules.specs.Rows.{is_sent}
use Rattle.ring_rules.specs.Refusal.{is_empty}
use Rattle.ring_rules.specs.Machine.{oldest, Phase, Waiting, Up, Stopped, World, Link, runs_phase, numbers_at, member_at, link_at, view_in, newest, left, right, runs, is_kept}
use Rattle.ring_rules.specs.declared.numbers.Numbers.{Numbers}
use Rattle.ring_rules.specs.View.{is_live, right_of}
use Rattle.ring_rules.specs.Step.{size, is_owned}
use Rattle.ring_rules.specs.OpenLinks.{version_of, comes_from_left, passes, is_current, is_open}
use Rattle.ring_rules.specs.Lawful.{row_of}
use Rattle.ring_rules.specs.Event.{version_refusal, has_nothing_new, holds_nothing, left_neighbour, since, is_at_door, at_door}
use Rattle.ring_rules.proofs.invariants.Good.{Kept, kept_true, true_kept, out_stays, lives_now}
use Rattle.ring_rules.proofs.rings.Rounds.{nat_eq-is, nat_eq-same}
use Rattle.ring_rules.proofs.walks.Views.{left_is, right_is}
use Rattle.ring_rules.proofs.invariants.Happens.{IsGood}
use Rattle.ring_rules.proofs.walks.Ended.{SendsOn, EndsRight}
use Rattle.ring_rules.proofs.runs.LinkCredit.{LinkIsKept, IsCredited}
use Rattle.ring_rules.proofs.walks.OpenWalk.{passes_is, place_is}
use Rattle.ring_rules.specs.Idle.{HasSentAll, NobodySteps}
use Rattle.ring_rules.specs.Compact.{Has}
use Rattle.ring_rules.proofs.work.Rows.{sent_got, sent_forgot}
use Rattle.ring_rules.proofs.runs.HasSent.{HasSent}
use Rattle.ring_rules.proofs.rests.Going.{GoOn}
use Rattle.ring_rules.proofs.invariants.FirstVersion.{IsFirstOld}
use Rattle.ring_rules.proofs.rests.Erasable.{RunnersAreUp, NeighboursAreEven}
use Rattle.ring_rules.proofs.rests.Asked.{is_refused, later_refused, takes_nothing, none_left, nothing_held, not_ended, no_version, door_is_empty, none_passes}

-- ---- small steps

-- what isn't none is some
some_of : {A : Type 0} (o : Option A) → o ≢ None → (a : A) × (o ≡ Some a)
some_of None h = absurd (h refl)
some_of (Some a) h = (a, refl)

-- where the first of two fails, the second passes
or_second : (a b : Bool) → a ≡ false → (a || b) ≡ true → b ≡ true
or_second true b e h = absurd (false≢true (sym e))
or_second false b e h = h

-- a link that keeps its credit has some where it has neither packets nor grants
pub kept_is_free : (credit : CreditSpec) (l : Link) → LinkIsKept credit.initial credit.more l → l.packets ≡ [] → l.flow.grants ≡ [] → is_blocked l.flow.sender ≡ false
kept_is_free credit l h packets grants =
    let some : 0 < l.flow.sender.credit = omega (arith, h.kept.kept, h.kept.below, h.kept.none h.prompt, credit.covered, ap length packets, ap sum grants) in
    grind (arith, nat_tests)

-- what holds in every state of every run
pub record IsReached (w : World) : Type 0 where
  pub good : IsGood w
  pub ends : EndsRight w
  pub sent : HasSent w
  pub credit : CreditSpec
  pub credited : IsCredited credit.initial credit.more w
  pub goes : GoOn w
  pub old : IsFirstOld w

-- the link o goes from the left neighbour of y to y: the one sends on it, and the other takes from it
pub record IsTie (w : World) (y o : ℕ) : Type 0 where
  pub out : (member_at w (left w (newest w) y)).out ≡ Some o
  pub current : (member_at w y).current ≡ Some o
  pub lt : o < length w.links
  pub sender : (link_at w o).sender ≡ left w (newest w) y
  pub receiver : (link_at w o).receiver ≡ y

-- the link s goes to y, which hasn't taken its end, and is kept up to the newest view
pub record IsKeptTo (w : World) (y s : ℕ) : Type 0 where
  pub receiver : (link_at w s).receiver ≡ y
  pub goes_on : (link_at w s).over ≡ false
  pub kept : is_kept w (link_at w s) (newest w) ≡ true

-- ---- in a state in which no running member has a step to do
module _ (w : World) (h : IsReached w) (idle : NobodySteps w) where
  -- what holds of members, links and views
  good : IsGood w
  good = h.good

  -- nobody waits: who waited could take its first packet
  pub up_there : RunnersAreUp w
  up_there y r = by_phase (member_at w y).phase refl
    where
      by_current : (member_at w y).phase ≡ Waiting → (c : Option ℕ) → (member_at w y).current ≡ c → ⊥
      by_current e None k = false≢true (sym (ap is_some k) ∙ good.inv.joining.some y e)
      by_current e (Some s) k =
          let some : is_empty (link_at w s).packets ≡ false = good.inv.waiting.first y s e k in
          let fits : version_refusal (oldest (link_at w s)).version (member_at w y).version ≡ None = no_version (oldest (link_at w s)).version (member_at w y).version (h.old y s e k) in
          (idle y r).take s k (rw (some, fits) refl)

      by_phase : (f : Phase) → (member_at w y).phase ≡ f → (member_at w y).phase ≡ Up
      by_phase Waiting e = absurd (by_current e (member_at w y).current refl)
      by_phase Up e = e
      by_phase Stopped e = absurd (false≢true (sym (ap runs_phase e) ∙ r))

  -- so all have sent all
  pub done : (y : ℕ) → runs w y ≡ true → HasSentAll w y
  done y r = (idle y r).up (up_there y r)

  -- a current link holds nothing
  pub current_holds_nothing : (y s : ℕ) → runs w y ≡ true → (member_at w y).current ≡ Some s → holds_nothing (link_at w s) ≡ true
  current_holds_nothing y s r e = takes_nothing w y s good (good.inv.current.lt y s r e) (done y r).newest ((idle y r).take s e) ((idle y r).take_end s e)

  -- who takes from no link has none at its door
  pub nothing_at_door : (y : ℕ) → runs w y ≡ true → (member_at w y).current ≡ None → at_door w y ≡ None
  nothing_at_door y r e = door_is_empty w y good (done y r).newest ((done y r).pick e)

  -- a link that is kept stands at the door of its receiver until it is over
  pub kept_at_door : (y s : ℕ) → runs w y ≡ true → s < length w.links → (link_at w s).receiver ≡ y → (link_at w s).over ≡ false → is_kept w (link_at w s) (newest w) ≡ true → is_at_door w y (link_at w s) ≡ true
  kept_at_door y s r sl to goes_on kept =
      let l : Link = link_at w s in
      let v : ℕ = version_of w y in
      let new : v ≡ newest w = (done y r).newest in
      let test : passes w y l ≡ true = passes_is w y s good sl to ∙ ap (is_kept w l) new ∙ kept in
      let late : max v l.opened ≡ v = omega (arith, good.inv.linked.opened s sl) in
      let comes : comes_from_left w y l v ≡ true = ap (comes_from_left w y l) (sym late) ∙ test in
      let passed : (nat_eq l.sender (left_neighbour w y) && nat_le (since w y) l.opened) ≡ true = ap (λ q. nat_eq l.sender q && nat_le (since w y) l.opened) (sym (left_is w v y (view_in w v) refl)) ∙ comes in
      and_from (nat_eq l.receiver y) (not l.over && (nat_eq l.sender (left_neighbour w y) && nat_le (since w y) l.opened)) (ap (λ q. nat_eq q y) to ∙ nat_eq-same y)
      (and_from (not l.over) (nat_eq l.sender (left_neighbour w y) && nat_le (since w y) l.opened) (ap not goes_on) passed)

  -- the sender of a link that is kept is its receiver's left neighbour
  pub kept_from_left : (y s : ℕ) → s < length w.links → (link_at w s).receiver ≡ y → is_kept w (link_at w s) (newest w) ≡ true → left w (newest w) y ≡ (link_at w s).sender
  kept_from_left y s sl to kept = ap (left w (newest w)) (sym to) ∙ true_kept w (link_at w s) (newest w) kept (newest w) (good.inv.linked.opened s sl) (omega arith)

  -- where that one runs, it sends on the link
  pub kept_is_out : (y s : ℕ) → runs w y ≡ true → runs w (left w (newest w) y) ≡ true → s < length w.links → (link_at w s).receiver ≡ y → is_kept w (link_at w s) (newest w) ≡ true → (member_at w (left w (newest w) y)).out ≡ Some s
  kept_is_out y s ry rx sl to kept =
      let l : Link = link_at w s in
      let from : left w (newest w) y ≡ l.sender = kept_from_left y s sl to kept in
      let rs : runs w l.sender ≡ true = subst (λ q. runs w q ≡ true) from rx in
      let new : (member_at w l.sender).version ≡ newest w = (done l.sender rs).newest in
      let out : (member_at w l.sender).out ≡ Some s =
      good.inv.linked.is_out s sl rs (subst (Kept w l) (sym new) (true_kept w l (newest w) kept))
      (subst (λ u. is_live (view_in w u) l.receiver ≡ true) (sym new) (subst (λ q. is_live (view_in w (newest w)) q ≡ true) (sym to) (lives_now w good.inv.is_ring y ry))) in
      subst (λ q. (member_at w q).out ≡ Some s) (sym from) out

  -- the current link is kept up to the newest view
  pub current_is_kept : (y s : ℕ) → runs w y ≡ true → (member_at w y).current ≡ Some s → is_kept w (link_at w s) (newest w) ≡ true
  current_is_kept y s r e = ap (is_kept w (link_at w s)) (sym (done y r).newest) ∙ good.inv.current.kept_yet y s r e

  -- where the left neighbour runs, its out link is the current link
  pub current_is_out : (y : ℕ) → runs w y ≡ true → runs w (left w (newest w) y) ≡ true → (o : ℕ) × IsTie w y o
  current_is_out y ry rx = (o, record { out = e; current = by_current (member_at w y).current refl; lt = lt; sender = sends.sender; receiver = to })
    where
      v : ℕ
      v = newest w

      x : ℕ
      x = left w v y

      found : (o : ℕ) × ((member_at w x).out ≡ Some o)
      found = some_of (member_at w x).out (done x rx).sends

      o : ℕ
      o = found.0

      e : (member_at w x).out ≡ Some o
      e = found.1

      sends : SendsOn w.links x o
      sends = h.ends.sends x o rx e

      lt : o < length w.links
      lt = sends.lt

      to : (link_at w o).receiver ≡ y
      to =
          good.inv.linked.out_to x o rx e ∙ ap (λ u. right w u x) (done x rx).newest ∙ right_is w v x (view_in w v) refl
          ∙ ap (right_of (view_in w v)) (left_is w v y (view_in w v) refl) ∙ (are_mutual (view_in w v).entries y (good.inv.is_ring.distinct v (omega arith)) (lives_now w good.inv.is_ring y ry)).right_of_left

      kept : is_kept w (link_at w o) v ≡ true
      kept = kept_true w (link_at w o) v (out_stays w x o good.inv.is_ring good.inv.linked rx e)

      goes_on : (link_at w o).over ≡ false
      goes_on = false_from_ne_true (link_at w o).over (λ over. false≢true (sym (ap is_some sends.goes_on) ∙ h.ends.ended o over))

      by_current : (c : Option ℕ) → (member_at w y).current ≡ c → (member_at w y).current ≡ Some o
      by_current None k =
          absurd (false≢true (sym (none_passes w y o lt (nothing_at_door y ry k)) ∙ kept_at_door y o ry lt to goes_on kept))
      by_current (Some c) k =
          let out : (member_at w x).out ≡ Some c = kept_is_out y c ry rx (good.inv.current.lt y c ry k) (good.inv.current.receiver y c ry k) (current_is_kept y c ry k) in
          k ∙ sym out ∙ e

  -- a link that is open to y goes to y, isn't over, and is kept up to the newest view
  pub open_is_kept : (y s : ℕ) → runs w y ≡ true → s < length w.links → is_open w y s ≡ true → IsKeptTo w y s
  open_is_kept y s ry sl opens = by_current (is_current w y s) refl
    where
      l : Link
      l = link_at w s

      by_current : (b : Bool) → is_current w y s ≡ b → IsKeptTo w y s
      by_current true e =
          let c = place_is (member_at w y).current s e in
          record { receiver = good.inv.current.receiver y s ry c; goes_on = (h.ends.takes y s ry c).goes_on; kept = current_is_kept y s ry c }
      by_current false e =
          let door : ((nat_eq l.receiver y && (not (is_current w y s) && not l.over)) && passes w y l) ≡ true = or_second (is_current w y s) ((nat_eq l.receiver y && (not (is_current w y s) && not l.over)) && passes w y l) e opens in
          let a = and_parts (nat_eq l.receiver y && (not (is_current w y s) && not l.over)) (passes w y l) door in
          let b = and_parts (nat_eq l.receiver y) (not (is_current w y s) && not l.over) a.0 in
          let to : l.receiver ≡ y = nat_eq-is l.receiver y b.0 in
          record {
            receiver = to;
            goes_on = not-true l.over (and_parts (not (is_current w y s)) (not l.over) b.1).1;
            kept = ap (is_kept w l) (sym (done y ry).newest) ∙ sym (passes_is w y s good sl to) ∙ a.1;
          }

  -- so where the left neighbour runs, no other link is open to y
  pub open_is_current : (y s : ℕ) → runs w y ≡ true → runs w (left w (newest w) y) ≡ true → s < length w.links → is_open w y s ≡ true → (member_at w y).current ≡ Some s
  open_is_current y s ry rx sl opens =
      let k : IsKeptTo w y s = open_is_kept y s ry sl opens in
      let tie = current_is_out y ry rx in
      tie.1.current ∙ sym tie.1.out ∙ kept_is_out y s ry rx sl k.receiver k.kept

  -- where the left neighbour has stopped, y takes from no link
  pub no_current : (y : ℕ) → runs w y ≡ true → runs w (left w (newest w) y) ≡ false → (member_at w y).current ≡ None
  no_current y ry rests = by_current (member_at w y).current refl
    where
      by_current : (c : Option ℕ) → (member_at w y).current ≡ c → c ≡ None
      by_current None e = refl
      by_current (Some s) e =
          let sl : s < length w.links = good.inv.current.lt y s ry e in
          let from : left w (newest w) y ≡ (link_at w s).sender = kept_from_left y s sl (good.inv.current.receiver y s ry e) (current_is_kept y s ry e) in
          let goes : (link_at w s).ending ≡ None = none_there (link_at w s).ending (not_ended (link_at w s) (current_holds_nothing y s ry e)) in
          absurd (false≢true (sym rests ∙ ap (runs w) from ∙ (h.goes s sl goes).0))

  -- and can pick none
  pub no_door : (y : ℕ) → runs w y ≡ true → runs w (left w (newest w) y) ≡ false → at_door w y ≡ None
  no_door y ry rests = nothing_at_door y ry (no_current y ry rests)

  -- so no link is open to y
  pub none_is_open : (y s : ℕ) → runs w y ≡ true → runs w (left w (newest w) y) ≡ false → s < length w.links → is_open w y s ≡ false
  none_is_open y s ry rests sl = false_from_ne_true (is_open w y s) (λ opens.
      let k : IsKeptTo w y s = open_is_kept y s ry sl opens in
      false≢true (sym (none_passes w y s sl (no_door y ry rests)) ∙ kept_at_door y s ry sl k.receiver k.goes_on k.kept))

  -- no link that is open to a running member holds anything
  pub open_holds_nothing : (y s : ℕ) → runs w y ≡ true → s < length w.links → is_open w y s ≡ true → holds_nothing (link_at w s) ≡ true
  open_holds_nothing y s ry sl opens = by_left (runs w (left w (newest w) y)) refl
    where
      by_left : (b : Bool) → runs w (left w (newest w) y) ≡ b → holds_nothing (link_at w s) ≡ true
      by_left true e = current_holds_nothing y s ry (open_is_current y s ry e sl opens)
      by_left false e = absurd (false≢true (sym (none_is_open y s ry e sl) ∙ opens))

  -- ---- between two that run

  -- the left neighbour has credit
  pub left_has_credit : (y o : ℕ) → runs w y ≡ true → runs w (left w (newest w) y) ≡ true → IsTie w y o → is_blocked (link_at w o).flow.sender ≡ false
  left_has_credit y o ry rx t =
      let grants : (link_at w o).flow.grants ≡ [] = none_left (link_at w o).flow.grants (is_refused _ reason.NoGrant ((done (left w (newest w) y) rx).gain o t.out)) in
      kept_is_free h.credit (link_at w o) (h.credited.links o t.lt) (nothing_held (link_at w o) (current_holds_nothing y o ry t.current)) grants

  -- and so it has sent all its numbers
  pub left_has_sent : (y o p : ℕ) → runs w y ≡ true → runs w (left w (newest w) y) ≡ true → IsTie w y o → p < size w → is_sent (row_of w (left w (newest w) y) p) (numbers_at (link_at w o).sending.sent p) ≡ true
  left_has_sent y o p ry rx t pl =
      let x : ℕ = left w (newest w) y in
      let old : has_nothing_new (size w) (member_at w x) (link_at w o).sending ≡ true = is_refused _ reason.NothingNew (later_refused _ reason.NoCredit _ (left_has_credit y o ry rx t) ((done x rx).put o t.out)) in
      at_range (λ k. is_sent (row_of w x k) (numbers_at (link_at w o).sending.sent k)) 0 (size w) p old (omega arith) (omega arith)

  -- neighbours agree
  pub neighbours_agree : NeighboursAreEven w
  neighbours_agree y p ry rx pl =
      let tie = current_is_out y ry rx in
      let o : ℕ = tie.0 in
      let x : ℕ = left w (newest w) y in
      let last : Numbers = numbers_at (link_at w o).sending.sent p in
      let sent : is_sent (row_of w x p) last ≡ true = left_has_sent y o p ry rx tie.1 pl in
      let has : Has (is_owned (view_in w (member_at w y).version) y (link_at w o).sender p) (row_of w y p) last = h.sent y o p (up_there y ry) tie.1.current pl (nothing_held (link_at w o) (current_holds_nothing y o ry tie.1.current)) in
      let now : Has (is_owned (view_in w (newest w)) y x p) (row_of w y p) last = subst (λ u. Has (is_owned (view_in w u) y x p) (row_of w y p) last) (done y ry).newest (subst (λ q. Has (is_owned (view_in w (member_at w y).version) y q p) (row_of w y p) last) tie.1.sender has) in
      record {
        got = now.got ∙ sym (sent_got (row_of w x p) last sent);
        forgot = now.forgot ∙ sym (sent_forgot (row_of w x p) last sent);
      }
