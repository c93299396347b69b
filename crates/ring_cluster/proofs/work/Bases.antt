-- The members of the opening receive each origin from its first message on, whoever joins them.
use Rattle.std.proofs.Common.{◌≡◌, ℕ, zero, suc, ◌<◌, ◌≤◌, Bool, true, false, List, [], ◌∷◌, length, map, set, get_or, Some, refl, sym, ap, subst, ◌∙◌, ⊎_elim, arith}
use Rattle.std.specs.List.{range_with_len}
use Rattle.std.proofs.lemmas.Bool.{false≢true, cases_lt}
use Rattle.std.proofs.lemmas.List.{length-set, length_push, set_past}
use Rattle.queue_core.specs.declared.message.Message.{Message}
use Rattle.ring_names.specs.declared.numbers.CreditSpec.{CreditSpec}
use Rattle.group_view.specs.Change.{AreOpeningNames}
use Rattle.ring_rules.specs.declared.event.Event.{Event}
use Rattle.ring_rules.specs.declared.numbers.Numbers.{Numbers}
use Rattle.ring_rules.specs.Rows.{Row, no_row, published_row, taken_row}
use Rattle.ring_rules.specs.Machine.{Member, Link, World, row_at, numbers_at, member_at, link_at, view_in, is_waiting, oldest}
use Rattle.ring_rules.specs.Step.{size, log_of, is_owned, published, taker, begun, stopped, with_member, opened_link, joiner, opening}
use Rattle.ring_rules.specs.Event.{IsRun, last}
use Rattle.ring_rules.specs.Act as act
use Rattle.ring_rules.specs.Act.{Act}
use Rattle.ring_rules.proofs.events.Parts as parts
use Rattle.ring_rules.proofs.rings.Lists.{at_set}
use Rattle.ring_rules.proofs.events.First.{first_row, first_size}
use Rattle.ring_rules.proofs.events.Leaves.{member_leaves, come_member, with_opened}
use Rattle.ring_rules.proofs.events.Parts.{Part, cast_part, put_part, take_part, begin_part, come_part, gain_part, stop_part, open_part, still_part}
use Rattle.ring_rules.proofs.runs.OfEvents.{run_keeps}
use Rattle.ring_rules.proofs.invariants.Opening.{opening_phase}
use Rattle.ring_rules.proofs.invariants.Happens.{IsGood, opening_good}
use Rattle.ring_cluster.specs.Heard.{OpenersHaveNoBase}

-- a member doesn't wait, and receives from the first message on
record IsWhole (y : Member) : Type 0 where
  ready : is_waiting y.phase ≡ false
  bases : (p : ℕ) → (row_at y p).base ≡ 0

-- each of the first n is such a one
record AreWhole (n : ℕ) (w : World) : Type 0 where
  many : n < size w
  each : (q : ℕ) → q ≤ n → IsWhole (member_at w q)

-- ---- rows

set_bases : (rows : List Row) (x : ℕ) (r : Row) → r.base ≡ 0 → ((p : ℕ) → (get_or rows p no_row).base ≡ 0) → (p : ℕ) → (get_or (set rows x r) p no_row).base ≡ 0
set_bases rows x r e h p = ⊎_elim
    (λ (lt : x < length rows). at_set (λ _ (k : Row). k.base ≡ 0) rows x p r no_row lt e (λ _. h p))
    (λ (ge : length rows ≤ x). ap (λ ks. (get_or ks p no_row).base) (set_past rows x r ge) ∙ h p)
    (cases_lt x (length rows))

taken_base : (own : Bool) (log : List Message) (r : Row) (k : Numbers) → (taken_row own log r k).base ≡ r.base
taken_base true log r k = refl
taken_base false log r k = refl

mapped_bases : (f : ℕ → Row) (xs : List ℕ) (p : ℕ) → ((i : ℕ) → (f i).base ≡ 0) → (get_or (map f xs) p no_row).base ≡ 0
mapped_bases f [] p h = refl
mapped_bases f (x ∷ xs) zero h = h x
mapped_bases f (x ∷ xs) (suc p) h = mapped_bases f xs p h

-- ---- a member is written

set_whole : (n : ℕ) (w : World) (x : ℕ) (y : Member) → (x ≤ n → IsWhole (member_at w x) → IsWhole y) → AreWhole n w → AreWhole n (with_member w x y)
set_whole n w x y here h = record {
  many = omega (arith, h.many, length-set w.members x y);
  each = λ q le. member_leaves (λ k a b. k ≤ n → IsWhole a → IsWhole b) w x y here (λ _ _ k. k) q le (h.each q le);
}

-- it publishes
published_whole : (w : World) (x : ℕ) (m : Message) → IsWhole (member_at w x) → IsWhole (published x m (member_at w x))
published_whole w x m h = record {
  ready = h.ready;
  bases = set_bases (member_at w x).rows x (published_row (row_at (member_at w x) x) m) (h.bases x) h.bases;
}

-- it takes
taken_whole : (w : World) (y s : ℕ) → IsWhole (member_at w y) → IsWhole (taker w y s)
taken_whole w y s h = record {
  ready = h.ready;
  bases = λ p. mapped_bases (λ i. taken_row (is_owned (view_in w (member_at w y).version) y (link_at w s).sender i) (log_of w i) (row_at (member_at w y) i) (numbers_at (oldest (link_at w s)) i)) (range_with_len 0 (size w)) p
      (λ i. taken_base _ (log_of w i) (row_at (member_at w y) i) (numbers_at (oldest (link_at w s)) i) ∙ h.bases i);
}

-- a link is written, or joins the others
same_links : (n : ℕ) (w : World) (ls : List Link) → AreWhole n w → AreWhole n (record w { links = ls })
same_links n w ls h = record { many = h.many; each = h.each }

-- ---- the parts of an event

part_whole : (n : ℕ) (w w' : World) → Part IsGood w w' → AreWhole n w → AreWhole n w'
part_whole n w w' (cast_part x m some lt e) h = subst (AreWhole n) (sym e) (set_whole n w x _ (λ _ k. published_whole w x m k) h)
part_whole n w w' (put_part x o lt free e) h = subst (AreWhole n) (sym e) (same_links n w _ h)
part_whole n w w' (take_part y s some m lt g e) h = subst (AreWhole n) (sym e) (same_links n (with_member w y (taker w y s)) _ (set_whole n w y _ (λ _ k. taken_whole w y s k) h))
part_whole n w w' (begin_part y s some m lt none e) h = subst (AreWhole n) (sym e)
    (same_links n (with_member w y (begun (size w) (member_at w y) (oldest (link_at w s)))) _ (set_whole n w y _ (λ _ k. absurd (false≢true (sym k.ready ∙ ap is_waiting m.waits))) h))
part_whole n w w' (come_part m name e) h = subst (AreWhole n) (sym e) (record {
  many = omega (arith, h.many, length_push w.members (joiner w name));
  each = λ q le. come_member w m name q (λ k a. k ≤ n → IsWhole a) (λ l. absurd (omega (arith, l, h.many))) (λ l. h.each q l) le;
})
part_whole n w w' (gain_part o lt some e) h = subst (AreWhole n) (sym e) (same_links n w _ h)
part_whole n w w' (stop_part x lt e) h = subst (AreWhole n) (sym e) (set_whole n w x (stopped (member_at w x)) (λ _ k. record { ready = refl; bases = k.bases }) h)
part_whole n w w' (open_part x z e) h = subst (AreWhole n) (sym e)
    (set_whole n (with_opened w (opened_link w x z)) x (record (member_at w x) { out = Some (length w.links) }) (λ _ k. record { ready = k.ready; bases = k.bases }) (same_links n w _ h))
part_whole n w w' (still_part k) h = record {
  many = omega (arith, h.many, k.same.many);
  each = λ q le. record {
    ready = ap is_waiting (k.phase q) ∙ (h.each q le).ready;
    bases = λ p. ap (λ rs. (get_or rs p no_row).base) (k.same.rows q) ∙ (h.each q le).bases p;
  };
}

-- ---- runs

opening_whole : (credit : CreditSpec) (names : List (List ℕ)) → AreWhole (length names) (opening credit names)
opening_whole credit names = record {
  many = omega (arith, first_size credit names);
  each = λ q le. record { ready = opening_phase credit names q; bases = λ p. ap (λ (r : Row). r.base) (first_row credit names q p) };
}

-- the same of acts
acts_whole : (credit : CreditSpec) (names : List (List ℕ)) (acts : List Act) → AreOpeningNames names → act.IsRun (opening credit names) acts → AreWhole (length names) (act.last (opening credit names) acts)
acts_whole credit names acts are r = parts.run_keeps (AreWhole (length names)) (part_whole (length names)) (opening credit names) acts (opening_good credit names are) r (opening_whole credit names)

pub acts_bases : (credit : CreditSpec) (names : List (List ℕ)) (acts : List Act) → AreOpeningNames names → act.IsRun (opening credit names) acts → OpenersHaveNoBase names (act.last (opening credit names) acts)
acts_bases credit names acts are r q p some le = ((acts_whole credit names acts are r).each q le).bases p

-- and of events
reached_whole : (credit : CreditSpec) (names : List (List ℕ)) (events : List Event) → AreOpeningNames names → IsRun (opening credit names) events → AreWhole (length names) (last (opening credit names) events)
reached_whole credit names events are r = run_keeps (AreWhole (length names)) (part_whole (length names)) (opening credit names) events (opening_good credit names are) r (opening_whole credit names)

pub reached_bases : (credit : CreditSpec) (names : List (List ℕ)) (events : List Event) → AreOpeningNames names → IsRun (opening credit names) events → OpenersHaveNoBase names (last (opening credit names) events)
reached_bases credit names events are r q p some le = ((reached_whole credit names events are r).each q le).bases p
