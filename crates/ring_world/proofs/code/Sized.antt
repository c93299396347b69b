-- Members are few, none has more rows than there are members, and each has its own row.
use Rattle.std.proofs.Common.{◌≡◌, ℕ, ◌<◌, ◌≤◌, ◌+◌, List, [], ◌∷◌, length, map, set, Some, None, refl, sym, ap, subst, ◌∙◌, ⊎_elim, arith}
use Rattle.std.specs.List.{range_with_len}
use Rattle.std.proofs.lemmas.Bool.{cases_lt}
use Rattle.std.proofs.lemmas.List.{length-set, length_push, get_or_append_left, get_or_push}
use Rattle.std.proofs.lemmas.List.FromFn.{length-map-range_with_len}
use Rattle.ring_names.specs.declared.numbers.CreditSpec.{CreditSpec}
use Rattle.ring_rules.specs.Rows.{no_row, published_row, taken_row, born_row}
use Rattle.group_view.specs.Change.{AreOpeningNames}
use Rattle.ring_rules.specs.Machine.{Member, Link, World, no_member, member_at, link_at, view_in, row_at, numbers_at, oldest}
use Rattle.ring_rules.specs.Step.{size, published, taker, is_owned, log_of, begun, begun_row, stopped, joiner, come_to, open_to, take_from, begin_from, opening, opening_member}
use Rattle.ring_rules.specs.declared.event.Event.{Event}
use Rattle.ring_rules.proofs.rings.Lists.{at_set}
use Rattle.ring_rules.proofs.events.First.{first_member}
use Rattle.ring_rules.specs.Act.{Act, refusal, effect}
use Rattle.ring_rules.proofs.events.Parts.{Part, IsSameRows, member_same, act_keeps, cast_part, put_part, take_part, begin_part, come_part, gain_part, stop_part, open_part, still_part}
use Rattle.ring_rules.proofs.invariants.Happens.{IsGood}
use Rattle.ring_rules.proofs.runs.OwnLogs.{IsLogged, opening_logged}
use Rattle.ring_rules.proofs.runs.OwnLogs.{act_logged}

-- no member has more rows than there are members
abbrev pub HasFewRows : World → Type 0
HasFewRows w = (q : ℕ) → 1 ≤ q → q < size w → length (member_at w q).rows ≤ size w

pub record IsSized (w : World) : Type 0 where
  pub rows : HasFewRows w
  pub logged : IsLogged w

-- ---- each part of an event

-- the rows are as before
same_few : (w w' : World) → IsSameRows w w' → HasFewRows w → HasFewRows w'
same_few w w' k h = λ q some lt. omega (arith, k.many, ap length (k.rows q), h q some (omega (arith, k.many, lt)))

-- a member is written
written_few : (w : World) (x : ℕ) (y : Member) (ls : List Link) → x < size w → length y.rows ≤ size w → HasFewRows w → HasFewRows (record w { members = set w.members x y; links = ls })
written_few w x y ls lt few h =
    let many : length (set w.members x y) ≡ length w.members = length-set w.members x y in
    λ q some l. at_set (λ k z. 1 ≤ k → length z.rows ≤ length (set w.members x y)) w.members x q y no_member lt (λ _. omega (arith, many, few)) (λ _ s. omega (arith, many, h q s (omega (arith, many, l)))) some

-- one comes
come_few : (w : World) (m : ℕ) (name : List ℕ) → HasFewRows w → HasFewRows (come_to w m name)
come_few w m name h = λ q some l.
    let j : Member = joiner w name in
    let many : size (come_to w m name) ≡ size w + 1 = length_push w.members j in
    let rows : length j.rows ≡ size w + 1 = length-map-range_with_len (λ p. born_row (log_of w p)) 0 (size w + 1) in
    ⊎_elim
    (λ (lt : q < size w).
    let old : member_at (come_to w m name) q ≡ member_at w q = get_or_append_left w.members (j ∷ []) no_member q lt in
    omega (arith, many, ap (λ z. length z.rows) old, h q some lt))
    (λ (ge : size w ≤ q).
    let new : member_at (come_to w m name) q ≡ j = get_or_push w.members j no_member q (omega (arith, many, l)) in
    omega (arith, many, rows, ap (λ z. length z.rows) new))
    (cases_lt q (size w))

-- a link opens
opens_few : (w : World) (x z : ℕ) → HasFewRows w → HasFewRows (open_to w x z)
opens_few w x z h =
    let u : World = record w { links = (open_to w x z).links } in
    same_few u (open_to w x z) (member_same u x (record (member_at w x) { out = Some (length w.links) }) refl refl) h

part_few : (w w' : World) → Part IsGood w w' → HasFewRows w → HasFewRows w'
part_few w w' (cast_part x m some lt e) h = subst HasFewRows (sym e)
    (written_few w x (published x m (member_at w x)) w.links lt (omega (arith, length-set (member_at w x).rows x (published_row (row_at (member_at w x) x) m), h x some lt)) h)
part_few w w' (put_part x o lt free e) h = subst HasFewRows (sym e) h
part_few w w' (take_part y s some t lt g e) h = subst HasFewRows (sym e)
    (written_few w y (taker w y s) (take_from w y s).links t.is_member (omega (arith, length-map-range_with_len (λ p. taken_row (is_owned (view_in w (member_at w y).version) y (link_at w s).sender p) (log_of w p) (row_at (member_at w y) p) (numbers_at (oldest (link_at w s)) p)) 0 (size w))) h)
part_few w w' (begin_part y s some t lt none e) h = subst HasFewRows (sym e)
    (written_few w y (begun (size w) (member_at w y) (oldest (link_at w s))) (begin_from w y s).links t.is_member (omega (arith, length-map-range_with_len (λ p. begun_row (row_at (member_at w y) p) (numbers_at (oldest (link_at w s)) p)) 0 (size w))) h)
part_few w w' (come_part m name e) h = subst HasFewRows (sym e) (come_few w m name h)
part_few w w' (gain_part o lt some e) h = subst HasFewRows (sym e) h
part_few w w' (stop_part x lt e) h = subst HasFewRows (sym e) (same_few w _ (member_same w x (stopped (member_at w x)) refl refl) h)
part_few w w' (open_part x z e) h = subst HasFewRows (sym e) (opens_few w x z h)
part_few w w' (still_part k) h = same_few w w' k.same h

-- ---- events

-- one act more
pub act_sized : (w : World) (a : Act) → IsGood w → refusal w a ≡ None → IsSized w → IsSized (effect w a)
act_sized w a g r h = record { rows = act_keeps IsGood HasFewRows part_few w a g g r h.rows; logged = act_logged w a g r h.logged }

-- the opening
pub opening_sized : (credit : CreditSpec) (names : List (List ℕ)) → AreOpeningNames names → IsSized (opening credit names)
opening_sized credit names are = record { rows = λ x some lt. at_opening x some lt; logged = opening_logged credit names }
  where
    many : length (map (opening_member names) (range_with_len 1 (length names))) ≡ length names
    many = length-map-range_with_len (opening_member names) 1 (length names)

    at_opening : (x : ℕ) → 1 ≤ x → x < size (opening credit names) → length (member_at (opening credit names) x).rows ≤ size (opening credit names)
    at_opening x some lt =
        let rows : length (member_at (opening credit names) x).rows ≡ length names + 1 = ap (λ m. length m.rows) (first_member credit names x some lt) ∙ length-map-range_with_len (λ _. no_row) 0 (length names + 1) in
        omega (arith, rows, many)
