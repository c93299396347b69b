-- A take of the lines that a packet has does all that the packet does.
use Rattle.std.proofs.Common.{◌≡◌, ℕ, zero, suc, ◌<◌, ◌≤◌, ◌+◌, max, Bool, true, false, nat_eq, List, [], ◌∷◌, ◌++◌, length, get_or, if◌then◌else◌, refl, sym, ap, subst, ◌∙◌, ⊎_elim, arith}
use Rattle.std.proofs.lemmas.Bool.{and_parts, false≢true, cases_eq}
use Rattle.std.proofs.lemmas.List.{append-nil}
use Rattle.queue_core.specs.declared.message.Message.{Message}
use Rattle.queue_mirror.specs.Mirror.{apply_ops}
use Rattle.queue_laws.specs.Part.{ops}
use Rattle.ring_names.specs.declared.numbers.CreditSpec.{CreditSpec}
use Rattle.group_view.specs.Change.{AreOpeningNames}
use Rattle.ring_rules.specs.declared.numbers.Numbers.{Numbers}
use Rattle.ring_rules.specs.Rows.{Row, messages_between, brought, taken_row}
use Rattle.ring_rules.specs.Refusal.{is_empty}
use Rattle.ring_rules.specs.Machine.{Packet, Link, World, no_packet, row_at, numbers_at, member_at, link_at, view_in, runs, runs_phase, oldest}
use Rattle.ring_rules.specs.Step.{size, log_of, brought_at, take_from, taker, is_owned, with_member, with_link, popped, opening}
use Rattle.ring_rules.specs.Act.{Act, IsRun, last}
use Rattle.ring_rules.specs.Lawful.{NumbersAreWithin}
use Rattle.ring_rules.specs.Compact.{has_line, line_in, line_news, take_lines_from, TakesByLines, Has, HasTaken}
use Rattle.ring_rules.proofs.events.WhatRefuses.{MayTake}
use Rattle.ring_rules.proofs.invariants.Kept.{Inv}
use Rattle.ring_rules.proofs.invariants.Happens.{reached_good}
use Rattle.ring_rules.proofs.runs.HasSent.{taken_last, reached_has}
use Rattle.ring_rules.proofs.runs.Apart.{oldest_below}
use Rattle.group_view.proofs.Rings.{nat_eq-is}
use Rattle.ring_rules.proofs.events.Refusals.{not_false}
use Rattle.ring_rules.proofs.walks.Take.{row_at-taker}
use Rattle.ring_rules.proofs.rings.Maps.{map-range_same, flat-range_same}
use Rattle.ring_rules.proofs.runs.NeverFalls.{RowRises, taker_rises_all}
use Rattle.ring_rules.proofs.runs.OwnLogs.{IsLogged, oldest_within, run_logged}

-- ---- a row that has what a packet says

-- no message stands between a number and one that isn't above it
none_between : (lo hi : ℕ) (log : List Message) → hi ≤ lo → messages_between lo hi log ≡ []
none_between zero zero log h = refl
none_between (suc lo) zero log h = refl
none_between zero (suc hi) log h = absurd (omega arith)
none_between (suc lo) (suc hi) [] h = refl
none_between (suc lo) (suc hi) (m ∷ log) h = none_between lo hi log (omega arith)

-- such a row is as it was after the take
pub has_stays : (own : Bool) (log : List Message) (r : Row) (k : Numbers) → Has own r k → taken_row own log r k ≡ r
has_stays true log r k h = rw (sym h.got, sym h.forgot) refl
has_stays false log r k h =
    let none : messages_between (max k.lo r.got) k.got log ≡ [] = none_between (max k.lo r.got) k.got log (omega (arith, h.got)) in
    rw (none, sym h.got, sym h.forgot, append-nil r.heard) refl

-- ---- an origin without a line

-- of a first packet: nothing is said of it, and nothing of it has come
nothing_has : (own : Bool) (log : List Message) (r : Row) (k : Numbers) → k.got ≡ 0 → k.forgot ≤ k.got → RowRises r (taken_row own log r k) → Has own r k
nothing_has true log r k z f h = record { got = omega (arith, z, h.forgot); forgot = omega (arith, z, f, h.retired) }
nothing_has false log r k z f h = record { got = omega (arith, z, h.got); forgot = omega (arith, z, f, h.forgot) }

-- of a later one: it says what the packet before it said
unchanged_has : (own : Bool) (r : Row) (k before : Numbers) → k.got ≡ before.got → k.forgot ≡ before.forgot → Has own r before → Has own r k
unchanged_has own r k before g f h = record { got = h.got ∙ sym g; forgot = h.forgot ∙ sym f }

-- no more was forgotten than received
abbrev pub SaysLess : Numbers → Type 0
SaysLess k = k.forgot ≤ k.got

-- so the oldest packet of a link says, as for origin 0 it says nothing
pub says_less : (w : World) (s p : ℕ) → IsLogged w → (1 ≤ p → SaysLess (numbers_at (oldest (link_at w s)) p)) → SaysLess (numbers_at (oldest (link_at w s)) p)
says_less w s p lg h = ⊎_elim
    (λ (is : p ≡ 0).
    let said : NumbersAreWithin (length (log_of w p)) (numbers_at (oldest (link_at w s)) p) = oldest_within (length (log_of w p)) p (link_at w s).packets (lg.within.packets s p) in
    let none : length (log_of w p) ≡ 0 = ap (λ q. length (log_of w q)) is ∙ ap length lg.nobody in
    omega (arith, said.forgot, none))
    (λ ne. h (omega (arith, ne)))
    (cases_eq p 0)

module _ (w : World) (y s : ℕ) (m : MayTake w y s) (inv : Inv w) (lg : IsLogged w) (taken : HasTaken w) where
  abbrev l : Link
  l = link_at w s

  abbrev own : ℕ → Bool
  own p = is_owned (view_in w (member_at w y).version) y l.sender p

  -- the oldest packet says of no origin that more was forgotten than received
  pub oldest_says : (p : ℕ) → p < size w → SaysLess (numbers_at (oldest l) p)
  oldest_says p pl = says_less w s p lg (λ some. by_packets some l.packets refl)
    where
      ry : runs w y ≡ true
      ry = ap runs_phase m.up

      by_packets : 1 ≤ p → (ks : List Packet) → l.packets ≡ ks → SaysLess (numbers_at (oldest l) p)
      by_packets some [] e = absurd (false≢true (sym m.has ∙ ap is_empty e))
      by_packets some (k ∷ ks) e =
          let first : oldest l ≡ k = ap (λ js. get_or js 0 no_packet) e in
          subst (λ j. SaysLess (numbers_at j p)) (sym first)
          (oldest_below w y s p k ks inv.is_ring (inv.walks p some pl) m.up (inv.current.lt y s ry m.current) (inv.current.receiver y s ry m.current) (inv.current.kept_yet y s ry m.current) e)

  -- so a member that is up has what its current link's oldest packet says of an origin without a line
  pub without_line : (p : ℕ) → p < size w → line_in l.had (oldest l) p ≡ false → Has (own p) (row_at (member_at w y) p) (numbers_at (oldest l) p)
  without_line p pl = by_fresh l.had.fresh refl
    where
      k : Numbers
      k = numbers_at (oldest l) p

      by_fresh : (b : Bool) → l.had.fresh ≡ b → has_line b k (numbers_at l.had.sent p) ≡ false → Has (own p) (row_at (member_at w y) p) k
      by_fresh true e h = nothing_has (own p) (log_of w p) (row_at (member_at w y) p) k (nat_eq-is k.got 0 (not_false _ h)) (oldest_says p pl) (taker_rises_all w y s p inv lg m pl)
      by_fresh false e h =
          let parts = and_parts (nat_eq k.got (numbers_at l.had.sent p).got) _ (not_false _ h) in
          unchanged_has (own p) (row_at (member_at w y) p) k (numbers_at l.had.sent p) (nat_eq-is _ _ parts.0) (nat_eq-is _ _ parts.1) (taken y s p m.up m.current pl e)

  -- each row is the same
  same_row : (p : ℕ) → p < size w → (if line_in l.had (oldest l) p then row_at (taker w y s) p else row_at (member_at w y) p) ≡ taken_row (own p) (log_of w p) (row_at (member_at w y) p) (numbers_at (oldest l) p)
  same_row p pl = by_line (line_in l.had (oldest l) p) refl
    where
      r : Row
      r = row_at (member_at w y) p

      by_line : (b : Bool) → line_in l.had (oldest l) p ≡ b → (if b then row_at (taker w y s) p else r) ≡ taken_row (own p) (log_of w p) r (numbers_at (oldest l) p)
      by_line true e = row_at-taker w y s p pl
      by_line false e = sym (has_stays (own p) (log_of w p) r (numbers_at (oldest l) p) (without_line p pl e))

  -- and an origin without a line brings nothing
  same_news : (p : ℕ) → p < 0 + size w → (if line_in l.had (oldest l) p then brought_at w y s p else []) ≡ brought_at w y s p
  same_news p lt = by_line (line_in l.had (oldest l) p) refl
    where
      r : Row
      r = row_at (member_at w y) p

      k : Numbers
      k = numbers_at (oldest l) p

      none_behind : (xs ys : List Message) → xs ++ ys ≡ xs → ys ≡ []
      none_behind [] ys e = e
      none_behind (x ∷ xs) ys e = none_behind xs ys cc

      nothing : (b : Bool) → taken_row b (log_of w p) r k ≡ r → brought b (log_of w p) r k ≡ []
      nothing true e = refl
      nothing false e = none_behind r.heard _ (ap (λ (a : Row). a.heard) e)

      by_line : (b : Bool) → line_in l.had (oldest l) p ≡ b → (if b then brought_at w y s p else []) ≡ brought_at w y s p
      by_line true e = refl
      by_line false e = sym (ap ops (nothing (own p) (has_stays (own p) (log_of w p) r k (without_line p (omega arith) e))))

  -- and so the state
  pub same_take : take_lines_from w y s ≡ take_from w y s
  same_take =
      ap (λ rs. with_link (with_member w y (record (member_at w y) { rows = rs; mirror = apply_ops (member_at w y).mirror (line_news w y s) })) s (popped l)) (map-range_same _ _ (size w) same_row)
      ∙ ap (λ os. with_link (with_member w y (record (taker w y s) { mirror = apply_ops (member_at w y).mirror os })) s (popped l)) (flat-range_same _ (brought_at w y s) 0 (size w) same_news)

-- ---- every state of every run

-- in every state of every run of a ring with these names
pub reached_by_lines : (credit : CreditSpec) (names : List (List ℕ)) (es : List Act) → AreOpeningNames names → IsRun (opening credit names) es → TakesByLines (last (opening credit names) es)
reached_by_lines credit names es are r y s lt up current has version =
    let w : World = last (opening credit names) es in
    same_take w y s (record { is_member = lt; up = up; current = current; has = has; version = version }) (reached_good credit names es are r).inv (run_logged credit names es are r) (reached_has taken_last credit names es are r)
