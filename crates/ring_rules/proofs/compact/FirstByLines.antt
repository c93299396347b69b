-- A first take of the lines that the packet has does all that the packet does.
use Rattle.ring_rules.proofs.compact.ByLines.{says_less}
use Rattle.std.proofs.Common.{◌≡◌, ℕ, ◌<◌, ◌≤◌, Bool, true, false, if◌then◌else◌, List, Some, refl, sym, ap, ◌∙◌, arith}
use Rattle.ring_names.specs.declared.numbers.CreditSpec.{CreditSpec}
use Rattle.group_view.specs.Change.{AreOpeningNames}
use Rattle.ring_rules.specs.declared.numbers.Numbers.{Numbers}
use Rattle.ring_rules.specs.Rows.{Row}
use Rattle.ring_rules.specs.Machine.{Waiting, Up, Link, World, row_at, numbers_at, member_at, link_at, oldest}
use Rattle.ring_rules.specs.Step.{size, begun_row, begun, begin_from, with_member, with_link, popped, opening}
use Rattle.ring_rules.specs.Act.{Act, IsRun, last}
use Rattle.ring_rules.specs.Compact.{has_line, line_in, begin_lines_from, BeginsByLines}
use Rattle.ring_rules.proofs.invariants.Kept.{Inv}
use Rattle.ring_rules.proofs.invariants.Happens.{opening_good, reached_good}
use Rattle.ring_rules.proofs.runs.Lines.{LinesRight}
use Rattle.ring_rules.proofs.runs.NoGap.{no_gap, reached_lines}
use Rattle.ring_rules.proofs.runs.OwnLogs.{IsLogged, run_logged}
use Rattle.ring_rules.proofs.runs.InOrder.{EachHasHeard, run_heard, opening_heard}
use Rattle.ring_rules.proofs.runs.Apart.{first_packet_below}
use Rattle.group_view.proofs.Rings.{nat_eq-is}
use Rattle.ring_rules.proofs.events.Refusals.{not_false}
use Rattle.ring_rules.proofs.invariants.KeptBegin.{begin_row}
use Rattle.ring_rules.proofs.rings.Maps.{map-range_same}

-- a row of zeros begins as it was where the packet says nothing
begins_same : (r : Row) (k : Numbers) → k.got ≡ 0 → k.forgot ≤ k.got → r.got ≡ 0 → r.forgot ≡ 0 → r.base ≤ r.got → r ≡ begun_row r k
begins_same r k z f g o b =
    let got : r.got ≡ k.got = g ∙ sym z in
    let forgot : r.forgot ≡ k.forgot = omega (arith, z, f, o) in
    let base : r.base ≡ k.got = omega (arith, z, g, b) in
    ap (λ n. record r { got = n }) got ∙ ap (λ n. record r { got = k.got; forgot = n }) forgot ∙ ap (λ n. record r { got = k.got; forgot = k.forgot; base = n }) base

module _ (w : World) (y s : ℕ) (waits : (member_at w y).phase ≡ Waiting) (current : (member_at w y).current ≡ Some s) (inv : Inv w) (lg : IsLogged w) (lines : LinesRight w) (heard : EachHasHeard w) where
  abbrev l : Link
  l = link_at w s

  same_row : (p : ℕ) → p < size w → (if line_in l.had (oldest l) p then row_at (begun (size w) (member_at w y) (oldest l)) p else row_at (member_at w y) p) ≡ begun_row (row_at (member_at w y) p) (numbers_at (oldest l) p)
  same_row p pl = by_line (line_in l.had (oldest l) p) refl
    where
      r : Row
      r = row_at (member_at w y) p

      k : Numbers
      k = numbers_at (oldest l) p

      by_line : (b : Bool) → line_in l.had (oldest l) p ≡ b → (if b then row_at (begun (size w) (member_at w y) (oldest l)) p else r) ≡ begun_row r k
      by_line true e = begin_row w y s p pl
      by_line false e =
          let first : has_line true k (numbers_at l.had.sent p) ≡ false = ap (λ b. has_line b k (numbers_at l.had.sent p)) (sym (lines.waits y s waits current)) ∙ e in
          let none = inv.joining.rows y p waits in
          begins_same r k (nat_eq-is k.got 0 (not_false _ first)) (says_less w s p lg (λ some. first_packet_below w y s p inv.is_ring (inv.walks p some pl) waits current)) none.0 none.1 (heard y p).base

  -- so the state is the same
  pub same_begin : begin_lines_from w y s ≡ begin_from w y s
  same_begin = ap (λ (rs : List Row). with_link (with_member w y (record (member_at w y) { phase = Up; rows = rs; whole = false })) s (popped l)) (map-range_same _ _ (size w) same_row)

-- in every state of every run of a ring with these names
pub reached_first_by_lines : (credit : CreditSpec) (names : List (List ℕ)) (es : List Act) → AreOpeningNames names → IsRun (opening credit names) es → BeginsByLines (last (opening credit names) es)
reached_first_by_lines credit names es are r y s waits current =
    let w : World = last (opening credit names) es in
    same_begin w y s waits current (reached_good credit names es are r).inv (run_logged credit names es are r) (reached_lines credit names es are r)
    (run_heard (opening credit names) es (opening_good credit names are)
    (λ later k z t m p some within own. no_gap (last (opening credit names) later) z t p (reached_lines credit names later are k) m.up m.current some within own) r (opening_heard credit names)).order
