-- No member has forgotten what it didn't receive, also one that has stopped, or waits.
use Rattle.std.proofs.Common.{◌≡◌, ◌⊎◌, inl, inr, ℕ, ◌+◌, ◌<◌, ◌≤◌, List, [], ◌∷◌, ◌++◌, length, Some, None, refl, sym, ap, subst, ⊎_elim, arith}
use Rattle.std.specs.List.{range_with_len}
use Rattle.std.proofs.lemmas.Bool.{cases_lt}
use Rattle.std.proofs.lemmas.List.{length-set, get_or_past}
use Rattle.ring_names.specs.declared.numbers.CreditSpec.{CreditSpec}
use Rattle.group_view.specs.Change.{AreOpeningNames}
use Rattle.ring_rules.specs.declared.event.Event.{Event}
use Rattle.ring_rules.specs.declared.phase.Phase.TheVariants.{Up}
use Rattle.ring_rules.specs.Rows.{Row, born_row}
use Rattle.ring_rules.specs.View.{right_of}
use Rattle.ring_rules.specs.Machine.{Member, World, no_member, row_at, member_at, link_at, view_in, newest, oldest}
use Rattle.ring_rules.specs.Step.{size, log_of, published, taker, begun, with_current, with_member, stop_at, stopped, moved_to, opened_link, come_to, opening}
use Rattle.ring_rules.specs.Event.{refreshed, refusal, effect, IsRun, last}
use Rattle.ring_rules.specs.Lawful.{row_of}
use Rattle.ring_rules.proofs.events.Cases.{each_event}
use Rattle.ring_rules.proofs.events.Composed.{refresh_composed, end_composed}
use Rattle.ring_rules.proofs.events.First.{first_row}
use Rattle.ring_rules.proofs.events.Leaves.{member_leaves, come_member}
use Rattle.ring_rules.proofs.invariants.Happens.{IsGood, opening_good}
use Rattle.ring_rules.proofs.runs.OfEvents.{event_good, run_knowing}
use Rattle.ring_rules.proofs.runs.Apart.{forgot_below}
use Rattle.ring_rules.proofs.runs.OwnLogs.{IsLogged, opening_logged}
use Rattle.gm_member.proofs.Rows.{mapped_row}

-- a member has forgotten of no origin what it didn't receive
abbrev pub IsOrdered : ℕ → Member → Type 0
IsOrdered n y = (p : ℕ) → 1 ≤ p → p < n → (row_at y p).forgot ≤ (row_at y p).got

-- no member has
abbrev pub AreOrdered : World → Type 0
AreOrdered w = (q : ℕ) → IsOrdered (size w) (member_at w q)

-- none that is up has, whatever ring it is
abbrev pub UpOrdered : World → Type 0
UpOrdered w = (q : ℕ) → (member_at w q).phase ≡ Up → IsOrdered (size w) (member_at w q)

pub up_ordered : (w : World) → IsGood w → UpOrdered w
up_ordered w g q up p some lt = forgot_below w q q p g.inv.is_ring (g.inv.walks p some lt) up up

-- a member is written that is up, or has the rows that it had
written_ordered : (w : World) (x : ℕ) (y : Member) → ((y.phase ≡ Up) ⊎ (y.rows ≡ (member_at w x).rows)) → AreOrdered w → UpOrdered (with_member w x y) → AreOrdered (with_member w x y)
written_ordered w x y now h up q p some lt =
    let many : size (with_member w x y) ≡ size w = length-set w.members x y in
    ⊎_elim
    (λ (u : (member_at (with_member w x y) q).phase ≡ Up). up q u p some lt)
    (λ (e : (member_at (with_member w x y) q).rows ≡ (member_at w q).rows).
    subst (λ rs. (row_at (record (member_at w q) { rows = rs }) p).forgot ≤ (row_at (record (member_at w q) { rows = rs }) p).got) (sym e) (h q p some (omega (arith, many, lt))))
    (member_leaves (λ _ a b. (b.phase ≡ Up) ⊎ (b.rows ≡ a.rows)) w x y now (λ _. inr refl) q)

-- one that has the rows that it had
kept_ordered : (w : World) (x : ℕ) (y : Member) → y.rows ≡ (member_at w x).rows → AreOrdered w → AreOrdered (with_member w x y)
kept_ordered w x y e h q p some lt =
    let many : size (with_member w x y) ≡ size w = length-set w.members x y in
    subst (λ rs. (row_at (record (member_at w q) { rows = rs }) p).forgot ≤ (row_at (record (member_at w q) { rows = rs }) p).got)
    (sym (member_leaves (λ _ a b. b.rows ≡ a.rows) w x y e (λ _. refl) q)) (h q p some (omega (arith, many, lt)))

refresh_ordered : (w : World) (x v : ℕ) → AreOrdered w → AreOrdered (refreshed w x v)
refresh_ordered w x v h = refresh_composed AreOrdered w x v
    (λ k _ g. g)
    (λ u _ g. kept_ordered (record u { links = u.links ++ opened_link u x (right_of (view_in w v) x) ∷ [] }) x (record (member_at u x) { out = Some (length u.links) }) refl g)
    (kept_ordered w x (moved_to w x v) refl h)

-- a member comes, which has received nothing of anyone; nor has anyone of it
come_ordered : (w : World) (m : ℕ) (name : List ℕ) → IsLogged w → AreOrdered w → AreOrdered (come_to w m name)
come_ordered w m name lg h q = come_member w m name q (λ _ y. IsOrdered (size (come_to w m name)) y)
    (λ p some lt. mapped_row (λ r. r.forgot ≤ r.got) (λ i. born_row (log_of w i)) (range_with_len 0 (size w + 1)) p (λ _. omega arith) (omega arith))
    (λ p some lt. ⊎_elim
    (λ (l : p < size w). h q p some l)
    (λ (ge : size w ≤ p).
    let none : length (log_of w p) ≡ 0 = ap (λ (y : Member). length y.log) (get_or_past w.members p no_member ge) in
    omega (arith, none, (lg.within.rows q p).forgot))
    (cases_lt p (size w)))

-- where those that are up haven't, an event leaves none that has
event_ordered : (w : World) (e : Event) → IsGood w → refusal w e ≡ None → IsLogged w → AreOrdered w → AreOrdered (effect w e)
event_ordered w e g r lg h = each_event (λ u. UpOrdered u → AreOrdered u) w e g (record {
  casts = λ x m u _. written_ordered w x (published x m (member_at w x)) (inl u.up) h;
  puts = λ x o u out k _. h;
  takes = λ y s u m up. written_ordered w y (taker w y s) (inl u.up) h up;
  begins = λ y s u m up. written_ordered w y (begun (size w) (member_at w y) (oldest (link_at w s))) (inl refl) h up;
  leaves = λ y s u current k _. kept_ordered w y (with_current None (member_at w y)) refl h;
  gains = λ x o u out k _. h;
  stops = λ x u _. end_composed AreOrdered _ (stop_at w x) (member_at w x).out (λ k _ t. t) (kept_ordered w x (stopped (member_at w x)) refl h);
  marks = λ x d u m _. refresh_ordered _ x _ h;
  erases = λ x d u m _. refresh_ordered _ x _ h;
  syncs = λ x u m _. refresh_ordered _ x _ h;
  admits = λ x name u k _. refresh_ordered (come_to w x name) x (newest w + 1) (come_ordered w x name lg h);
  refreshes = λ x v u m _. refresh_ordered w x v h;
  picks = λ y s u none e upto _. kept_ordered w y (with_current (Some s) (member_at w y)) refl h;
  refuses = λ _. h;
}) r (up_ordered (effect w e) (event_good w e g r))

opening_ordered : (credit : CreditSpec) (names : List (List ℕ)) → AreOrdered (opening credit names)
opening_ordered credit names q p some lt =
    let e = first_row credit names q p in
    let forgot : (row_of (opening credit names) q p).forgot ≡ 0 = ap (λ (r : Row). r.forgot) e in
    omega arith

-- it holds in every state of every run
pub reached_ordered : (credit : CreditSpec) (names : List (List ℕ)) (events : List Event) → AreOpeningNames names → IsRun (opening credit names) events → AreOrdered (last (opening credit names) events)
reached_ordered credit names events are r = run_knowing AreOrdered event_ordered (opening credit names) events (opening_good credit names are) r (opening_logged credit names) (opening_ordered credit names)
