-- A take leaves less to do.
use Rattle.std.proofs.Common.{◌≡◌, ℕ, ◌+◌, ◌-◌, ◌*◌, ◌<◌, ◌≤◌, Bool, true, false, not, drop, length, Option, Some, None, is_some, if◌then◌else◌, refl, ap, subst, ◌∙◌, arith, inl, inr}
use Rattle.std.specs.Prelude.{◌&&◌}
use Rattle.credit_flow.specs.Credit.{grant_due}
use Rattle.ring_rules.proofs.events.Cases.{IsRunning}
use Rattle.ring_rules.specs.declared.numbers.Numbers.{Numbers}
use Rattle.ring_rules.specs.Rows.{Row, is_sent}
use Rattle.ring_rules.specs.Machine.{Member, Sending, Link, World, no_link, row_at, numbers_at, member_at, link_at, view_in, newest}
use Rattle.ring_rules.specs.Step.{size, log_of, popped}
use Rattle.ring_rules.specs.Lawful.{RowIsWithin, row_of}
use Rattle.ring_rules.specs.Event.{has_nothing_new}
use Rattle.ring_rules.proofs.rings.Lists.{at_set}
use Rattle.group_view.proofs.Lists.{at_range}
use Rattle.ring_rules.proofs.work.Fit.{IsFit}
use Rattle.ring_rules.specs.Work.{dirty_on, dirty_at, lag_at, lag_by, place_at, lag_row, stale_by, owed_by, owed_at}
use Rattle.ring_rules.proofs.work.Sums.{one_fails, sum_le, sum_at}
use Rattle.ring_rules.proofs.work.Rows.{with_grant-most, risen, length-rest}
use Rattle.ring_rules.proofs.work.Parts.{nothing, stale_written, lag_with, Follows, Lowers, link_set, step_lowers}
use Rattle.ring_rules.proofs.work.Places.{IsWritten, written, NoneRises, written_places}
use Rattle.ring_rules.specs.Refusal.{is_empty}
use Rattle.ring_rules.proofs.runs.OwnLogs.{pop_log}
use Rattle.ring_rules.proofs.runs.LinesKept.{popped_at}

-- ---- a row that comes less behind

-- what is left up to n falls as a number rises
less_left : (n g g' : ℕ) → g ≤ g' → n - g' ≤ n - g
less_left n g g' h = omega arith

-- where no number falls, a row is no more behind
pub row_less : (n : ℕ) (r r' : Row) → r.got ≤ r'.got → r.forgot ≤ r'.forgot → r.retired ≤ r'.retired → lag_row n r' ≤ lag_row n r
row_less n r r' a b c = omega (arith, less_left n r.got r'.got a, less_left n r.forgot r'.forgot b, less_left n r.retired r'.retired c)

-- and less where one rises of those that are sent
row_falls : (n : ℕ) (r r' : Row) → r.got ≤ r'.got → r.forgot ≤ r'.forgot → r.retired ≤ r'.retired → r'.got ≤ n → r'.forgot ≤ n → r.got + r.forgot < r'.got + r'.forgot → lag_row n r' + 1 ≤ lag_row n r + 0
row_falls n r r' a b c ga fo rise =
    sum (n - r.got) (n - r'.got) (n - r.forgot) (n - r'.forgot) (n - r.retired) (n - r'.retired)
    (let k : (n - r'.got) + (n - r'.forgot) + 1 ≤ (n - r.got) + (n - r.forgot) = omega arith in k)
    (less_left n r.retired r'.retired c)
  where
    sum : (a a' b b' c c' : ℕ) → a' + b' + 1 ≤ a + b → c' ≤ c → (a' + b' + c') + 1 ≤ (a + b + c) + 0
    sum a a' b b' c c' h k = omega arith

-- ---- a take, the first or another

-- what is asked of the taker b, that was a: its view, its links and its log are as they were
pub record IsTaker (a b : Member) : Type 0 where
  pub version : b.version ≡ a.version
  pub out : b.out ≡ a.out
  pub current : b.current ≡ a.current
  pub log : b.log ≡ a.log
  pub started : b.started ≡ a.started
  pub told : b.told ≡ a.told

-- y becomes new, and the oldest packet of its current link s is gone; no number has fallen, and none is above the length of the log
module _ (w : World) (y s : ℕ) (new : Member) (f : IsFit w) (u : IsRunning w y) (takes : (member_at w y).current ≡ Some s) (has : is_empty (link_at w s).packets ≡ false) (same : IsTaker (member_at w y) new) (k : Follows w (popped_at w y s new)) where
  -- the state afterwards
  abbrev after : World
  after = popped_at w y s new

  -- the link is there
  there : s < length w.links
  there = (f.own_ends.current y s takes).0

  -- it is there in the place of what it was
  member : IsWritten w after y new
  member = written w w.views y new after.links u.lt

  -- what was last sent on each link stays
  sending : (j : ℕ) → (link_at after j).sending ≡ (link_at w j).sending
  sending j = at_set (λ i l. l.sending ≡ (link_at w i).sending) w.links s j (popped (link_at w s)) no_link there refl (λ _. refl)

  -- the taker's row of an origin, as it was
  abbrev row : ℕ → Row
  row p = row_at (member_at w y) p

  -- what it is
  abbrev row' : ℕ → Row
  row' p = row_at new p

  -- no number of it has fallen
  got : (p : ℕ) → (row p).got ≤ (row' p).got
  got p = subst (λ (m : Member). (row p).got ≤ (row_at m p).got) member.here (k.goes.never_falls.got y p)

  forgot : (p : ℕ) → (row p).forgot ≤ (row' p).forgot
  forgot p = subst (λ (m : Member). (row p).forgot ≤ (row_at m p).forgot) member.here (k.goes.never_falls.forgot y p)

  retired : (p : ℕ) → (row p).retired ≤ (row' p).retired
  retired p = subst (λ (m : Member). (row p).retired ≤ (row_at m p).retired) member.here (k.goes.never_falls.retired y p)

  -- how far the taker is behind with an origin
  abbrev lag' : ℕ → ℕ
  lag' p = lag_row (length (log_of w p)) (row' p)

  -- no further than it was
  lag_less : (p : ℕ) → lag' p ≤ lag_at w y p
  lag_less p = row_less (length (log_of w p)) (row p) (row' p) (got p) (forgot p) (retired p)

  -- no number of the taker's is above the length of the log
  within : (p : ℕ) → RowIsWithin (length (log_of w p)) (row' p)
  within p = subst (λ (m : Member). RowIsWithin (length (log_of w p)) (row_at m p)) member.here (subst (λ n. RowIsWithin n (row_of after y p)) (ap length (pop_log w y s new p u.lt same.log)) (k.within.rows y p))

  -- so where the taker has numbers to send that had been sent before, it came less behind
  lag_falls : (p : ℕ) (last : Numbers) → p < size w → is_sent (row p) last ≡ true → is_sent (row' p) last ≡ false → lag_with w new + 1 ≤ lag_by w y + 0
  lag_falls p last pl before now =
      sum_at (size w) (size w) (lag_at w y) lag' p 1 0 refl pl (λ q _ _. lag_less q)
      (row_falls (length (log_of w p)) (row p) (row' p) (got p) (forgot p) (retired p) (within p).got (within p).forgot (risen (row p) (row' p) last before now (got p) (forgot p)))

  -- a packet goes, and a grant may come; the taker has more to send only where it came less behind
  leaves : (a b : ℕ) → dirty_on (size w) after new new.out + 0 ≤ dirty_at (size w) w y + a → lag_with w new + b ≤ lag_by w y + 0 → a ≤ b → Lowers w after
  leaves a b dirty lag pays =
      step_lowers w after y new (record nothing { lag = b; links = 1 }) (record nothing { dirty = a }) u
      (record {
        member = member;
        log = same.log;
        sent = λ q j _ _. sending j;
        marks = omega arith;
        stale = stale_written w after y new 0 0 u.some u.lt refl member (let as_stale : stale_by (newest w) new ≡ stale_by (newest w) (member_at w y) = rw (same.version, same.out) refl in omega (arith, as_stale));
        views = λ q _. refl;
        owed = (let as_owed : owed_by (view_in w new.version) y new ≡ owed_at w y = rw (same.version, same.started, same.told) refl in omega (arith, as_owed));
        dirty = dirty;
        lag = lag;
        links = link_set w after.members s (popped l) 1 0 there places
            (goes (length l.packets) (length (drop 1 l.packets)) (if is_some l.ending && not l.over then 1 else 0) (place_at after s) (place_at w s) (length l.flow.grants) (length (popped l).flow.grants)
            (places s there) (length-rest l.packets has) (with_grant-most l.flow.grants (grant_due l.flow.receiver)));
      }) (inr (omega arith, inr (omega arith, inr (omega arith, inl (omega (arith, pays), refl))))) (omega (arith, pays))
    where
      l : Link
      l = link_at w s

      places : NoneRises w after
      places = written_places w after y new f.good member same.current k.good k.later

      goes : (p p' e c' c g g' : ℕ) → c' ≤ c → p' + 1 ≡ p → g' ≤ g + 1 → (2 * (p' + e) + c' + g') + 1 ≤ (2 * (p + e) + c + g) + 0
      goes p p' e c' c g g' i j h = omega arith

  -- no more behind
  lag_stays : lag_with w new + 0 ≤ lag_by w y + 0
  lag_stays = let all : lag_with w new ≤ lag_by w y = sum_le (size w) (size w) (lag_at w y) lag' refl (λ p _. lag_less p) in omega (arith, all)

  -- so there is less to do
  pub take_falls : Lowers w after
  take_falls = by_out (member_at w y).out refl
    where
      n : ℕ
      n = size w

      by_tests : (o : ℕ) (before now : Bool) → has_nothing_new n (member_at w y) (link_at w o).sending ≡ before → has_nothing_new n new (link_at w o).sending ≡ now → dirty_at n w y ≡ (if before then 0 else 1) → dirty_on n after new new.out ≡ (if now then 0 else 1) → Lowers w after
      by_tests o before true b a was is = leaves 0 0 (omega (arith, is)) lag_stays (omega arith)
      by_tests o false false b a was is = leaves 0 0 (omega (arith, was, is)) lag_stays (omega arith)
      by_tests o true false b a was is =
          let tests : ℕ → Numbers = λ p. numbers_at (link_at w o).sending.sent p in
          let fails : (q : ℕ) × (q < 0 + n) × (is_sent (row' q) (tests q) ≡ false) = one_fails (λ p. is_sent (row' p) (tests p)) 0 n a in
          let ql : fails.0 < n = omega (arith, fails.1) in
          leaves 1 1 (omega (arith, is)) (lag_falls fails.0 (tests fails.0) ql (at_range (λ p. is_sent (row p) (tests p)) 0 n fails.0 b (omega arith) (omega arith)) fails.2) (omega arith)

      by_out : (o : Option ℕ) → (member_at w y).out ≡ o → Lowers w after
      by_out None e = let is : dirty_on n after new new.out ≡ 0 = ap (dirty_on n after new) (same.out ∙ e) in leaves 0 0 (omega (arith, is)) lag_stays (omega arith)
      by_out (Some o) e =
          by_tests o (has_nothing_new n (member_at w y) (link_at w o).sending) (has_nothing_new n new (link_at w o).sending) refl refl (ap (dirty_on n w (member_at w y)) e)
          (ap (dirty_on n after new) (same.out ∙ e) ∙ ap (λ (q : Sending). if has_nothing_new n new q then 0 else 1) (sending o))
