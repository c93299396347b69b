-- Each member has a row for no origin beyond the ring, and one that waits has retired nothing and has no base yet.
use Rattle.std.proofs.Common.{◌≡◌, ℕ, zero, suc, ◌+◌, ◌≤◌, List, [], ◌∷◌, ◌++◌, length, map, get_or, Some, None, refl, arith}
use Rattle.std.specs.List.{range_with_len}
use Rattle.std.proofs.lemmas.List.{length-set, length_push}
use Rattle.std.proofs.lemmas.List.FromFn.{length-map-range_with_len}
use Rattle.ring_names.specs.declared.numbers.CreditSpec.{CreditSpec}
use Rattle.group_view.specs.Change.{AreOpeningNames}
use Rattle.ring_rules.specs.declared.event.Event.{Event}
use Rattle.ring_rules.specs.declared.phase.Phase.TheVariants.{Waiting, Up}
use Rattle.ring_rules.specs.Rows.{Row, no_row, born_row, published_row, taken_row}
use Rattle.ring_rules.specs.View.{right_of}
use Rattle.ring_rules.specs.Machine.{Member, World, row_at, numbers_at, member_at, link_at, view_in, newest, oldest}
use Rattle.ring_rules.specs.Step.{size, log_of, is_owned, published, taker, begun, begun_row, with_current, with_member, stop_at, stopped, moved_to, opened_link, joiner, come_to, opening}
use Rattle.ring_rules.specs.Event.{refreshed, refusal, effect, IsRun, last}
use Rattle.ring_rules.proofs.events.Cases.{Cases, each_event}
use Rattle.ring_rules.proofs.events.Composed.{refresh_composed, end_composed}
use Rattle.ring_rules.proofs.events.First.{first_each, first_size}
use Rattle.ring_rules.proofs.events.Leaves.{member_leaves, come_member}
use Rattle.ring_rules.proofs.invariants.Happens.{IsGood, opening_good}
use Rattle.ring_rules.proofs.runs.OfEvents.{run_events}

-- A member has no more rows than this, and has retired nothing and has no base where it waits.
pub record RowsFit (n : ℕ) (y : Member) : Type 0 where
  pub few : length y.rows ≤ n
  pub anew : y.phase ≡ Waiting → (p : ℕ) → (row_at y p).retired ≡ 0
  pub unbased : y.phase ≡ Waiting → (p : ℕ) → (row_at y p).base ≡ 0

-- so is each member
abbrev pub AllRowsFit : World → Type 0
AllRowsFit w = (q : ℕ) → RowsFit (size w) (member_at w q)

-- P of each row that is made of a place
pub mapped_row : (P : Row → Type 0) (f : ℕ → Row) (xs : List ℕ) (p : ℕ) → ((i : ℕ) → P (f i)) → P no_row → P (get_or (map f xs) p no_row)
mapped_row P f [] p h none = none
mapped_row P f (x ∷ xs) zero h none = h x
mapped_row P f (x ∷ xs) (suc p) h none = mapped_row P f xs p h none

-- ---- a member is written

-- one that has such rows
set_rows : (w : World) (x : ℕ) (y : Member) → RowsFit (size w) y → AllRowsFit w → AllRowsFit (with_member w x y)
set_rows w x y here h q =
    let k : RowsFit (size w) (member_at (with_member w x y) q) = member_leaves (λ _ _ b. RowsFit (size w) b) w x y here h q in
    let many : size (with_member w x y) ≡ size w = length-set w.members x y in
    record { few = omega (arith, k.few, many); anew = k.anew; unbased = k.unbased }

-- one that is up has retired what it may
up_rows : (n : ℕ) (y : Member) → y.phase ≡ Up → length y.rows ≤ n → RowsFit n y
up_rows n y up few = record { few = few; anew = λ e p. cc; unbased = λ e p. cc }

-- a refresh
refresh_rows : (w : World) (x v : ℕ) → AllRowsFit w → AllRowsFit (refreshed w x v)
refresh_rows w x v h = refresh_composed AllRowsFit w x v
    (λ k _ g. g)
    (λ u _ g. set_rows (record u { links = u.links ++ opened_link u x (right_of (view_in w v) x) ∷ [] }) x (record (member_at u x) { out = Some (length u.links) }) (record { few = (g x).few; anew = (g x).anew; unbased = (g x).unbased }) g)
    (set_rows w x (moved_to w x v) (record { few = (h x).few; anew = (h x).anew; unbased = (h x).unbased }) h)

-- a member comes
come_rows : (w : World) (m : ℕ) (name : List ℕ) → AllRowsFit w → AllRowsFit (come_to w m name)
come_rows w m name h q = come_member w m name q (λ _ y. RowsFit (size (come_to w m name)) y)
    (record {
      few = omega (arith, many, length-map-range_with_len (λ p. born_row (log_of w p)) 0 (size w + 1));
      anew = λ _ p. mapped_row (λ r. r.retired ≡ 0) (λ i. born_row (log_of w i)) (range_with_len 0 (size w + 1)) p (λ _. refl) refl;
      unbased = λ _ p. mapped_row (λ r. r.base ≡ 0) (λ i. born_row (log_of w i)) (range_with_len 0 (size w + 1)) p (λ _. refl) refl;
    })
    (record { few = omega (arith, many, (h q).few); anew = (h q).anew; unbased = (h q).unbased })
  where
    many : size (come_to w m name) ≡ size w + 1
    many = length_push w.members (joiner w name)

-- ---- events

event_rows : (w : World) (e : Event) → IsGood w → refusal w e ≡ None → AllRowsFit w → AllRowsFit (effect w e)
event_rows w e g r h = each_event AllRowsFit w e g cases r
  where
    taken_few : (y s : ℕ) → length (taker w y s).rows ≡ size w
    taken_few y s = length-map-range_with_len (λ p. taken_row (is_owned (view_in w (member_at w y).version) y (link_at w s).sender p) (log_of w p) (row_at (member_at w y) p) (numbers_at (oldest (link_at w s)) p)) 0 (size w)

    begun_few : (y s : ℕ) → length (begun (size w) (member_at w y) (oldest (link_at w s))).rows ≡ size w
    begun_few y s = length-map-range_with_len (λ p. begun_row (row_at (member_at w y) p) (numbers_at (oldest (link_at w s)) p)) 0 (size w)

    cases : Cases AllRowsFit w
    cases = record {
      casts = λ x m u _. set_rows w x (published x m (member_at w x)) (up_rows (size w) (published x m (member_at w x)) u.up (omega (arith, (h x).few, length-set (member_at w x).rows x (published_row (row_at (member_at w x) x) m)))) h;
      puts = λ x o u out k. h;
      takes = λ y s u m. set_rows w y (taker w y s) (up_rows (size w) (taker w y s) m.up (omega (arith, taken_few y s))) h;
      begins = λ y s u m. set_rows w y (begun (size w) (member_at w y) (oldest (link_at w s))) (up_rows (size w) (begun (size w) (member_at w y) (oldest (link_at w s))) refl (omega (arith, begun_few y s))) h;
      leaves = λ y s u current k. set_rows w y (with_current None (member_at w y)) (record { few = (h y).few; anew = (h y).anew; unbased = (h y).unbased }) h;
      gains = λ x o u out k. h;
      stops = λ x u. end_composed AllRowsFit _ (stop_at w x) (member_at w x).out (λ k _ t. t) (set_rows w x (stopped (member_at w x)) (record { few = (h x).few; anew = λ e p. cc; unbased = λ e p. cc }) h);
      marks = λ x d u m. refresh_rows _ x _ h;
      erases = λ x d u m. refresh_rows _ x _ h;
      syncs = λ x u m. refresh_rows _ x _ h;
      admits = λ x name u k. refresh_rows (come_to w x name) x (newest w + 1) (come_rows w x name h);
      refreshes = λ x v u m. refresh_rows w x v h;
      picks = λ y s u none e upto. set_rows w y (with_current (Some s) (member_at w y)) (record { few = (h y).few; anew = (h y).anew; unbased = (h y).unbased }) h;
      refuses = h;
    }

-- ---- runs

opening_rows : (credit : CreditSpec) (names : List (List ℕ)) → AllRowsFit (opening credit names)
opening_rows credit names q =
    let many = first_size credit names in
    first_each credit names q (RowsFit (size (opening credit names)))
    (λ _ _. record { few = omega (arith, many, length-map-range_with_len (λ (_ : ℕ). no_row) 0 (length names + 1)); anew = λ e p. cc; unbased = λ e p. cc })
    (record { few = omega arith; anew = λ e p. cc; unbased = λ e p. cc })

-- in every state of every run
pub reached_rows : (credit : CreditSpec) (names : List (List ℕ)) (events : List Event) → AreOpeningNames names → IsRun (opening credit names) events → AllRowsFit (last (opening credit names) events)
reached_rows credit names events are r = run_events AllRowsFit event_rows (opening credit names) events (opening_good credit names are) r (opening_rows credit names)
