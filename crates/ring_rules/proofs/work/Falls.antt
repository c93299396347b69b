-- A gain and a put leave less to do.
use Rattle.ring_rules.proofs.work.OwnEnds.{other_out}
use Rattle.std.proofs.Common.{◌≡◌, ℕ, ◌+◌, ◌*◌, ◌<◌, ◌≤◌, true, false, nat_eq, drop, List, length, not, Option, Some, None, is_some, if◌then◌else◌, refl, ap, ◌∙◌, arith, inl, inr}
use Rattle.std.specs.Prelude.{◌&&◌}
use Rattle.std.proofs.lemmas.List.{length_push, get_or-set_same, get_or-set_other}
use Rattle.ring_names.specs.declared.reason.Reason.TheVariants as reason
use Rattle.credit_flow.specs.Credit.{is_blocked}
use Rattle.ring_rules.proofs.events.Cases.{IsRunning}
use Rattle.ring_rules.specs.Refusal.{refuse_if}
use Rattle.ring_rules.specs.Rows.{is_sent, regained}
use Rattle.ring_rules.specs.Machine.{Member, Sending, Link, World, no_link, row_at, numbers_at, member_at, link_at}
use Rattle.ring_rules.specs.Step.{size, put_on, gain_on, pushed, next_packet, with_current}
use Rattle.ring_rules.specs.Event.{put_refusal, gain_refusal, has_nothing_new}
use Rattle.ring_rules.proofs.rings.Lists.{at_set}
use Rattle.ring_rules.proofs.rings.Rounds.{nat_eq-same}
use Rattle.ring_rules.proofs.walks.Packets.{reads_got, reads_forgot, line_of_packet}
use Rattle.ring_rules.proofs.events.Refusals.{refuse_none}
use Rattle.ring_rules.proofs.events.Enabled.{gain_some, first_none}
use Rattle.group_view.proofs.Lists.{all_range}
use Rattle.ring_rules.proofs.work.Fit.{IsFit}
use Rattle.ring_rules.specs.Work.{items, dirty_on, dirty_at, place_at, on_links}
use Rattle.ring_rules.proofs.work.Rows.{length-rest}
use Rattle.ring_rules.proofs.work.Parts.{nothing, stale_written, dirty_same, link_set, Lowers, LowersThen, step_lowers}
use Rattle.ring_rules.proofs.work.Places.{IsWritten, unwritten, NoneRises, written_places}

-- ---- one of what lies on the links goes

-- a step that takes one of what lies on the links, and leaves to x, but for what it takes from, and to the links what was last sent
pub current_falls : (w : World) (x : ℕ) (c : Option ℕ) (ms : List Member) (ls : List Link) → IsRunning w x → IsWritten w (record w { members = ms; links = ls }) x (with_current c (member_at w x)) → ((j : ℕ) → (link_at (record w { members = ms; links = ls }) j).sending ≡ (link_at w j).sending)
    → on_links (record w { members = ms; links = ls }) + 1 ≤ on_links w + 0 → Lowers w (record w { members = ms; links = ls })
current_falls w x c ms ls u m sending links =
    step_lowers w w' x y (record nothing { links = 1 }) nothing u
    (record {
      member = m;
      log = refl;
      sent = λ q j _ _. sending j;
      marks = omega arith;
      stale = stale_written w w' x y 0 0 u.some u.lt refl m (omega arith);
      views = λ q _. refl;
      owed = omega arith;
      dirty = (let same : dirty_on (size w) w' y y.out ≡ dirty_at (size w) w x = dirty_same (size w) w w' (member_at w x) y y.out refl (λ j _. sending j) in omega (arith, same));
      lag = omega arith;
      links = links;
    }) (inr (omega arith, inr (omega arith, inr (omega arith, inl (omega arith, refl))))) (omega arith)
  where
    w' : World
    w' = record w { members = ms; links = ls }

    y : Member
    y = with_current c (member_at w x)

-- ---- gain

-- one grant fewer is under way
pub gain_falls : (w : World) (x o : ℕ) → IsFit w → IsRunning w x → (member_at w x).out ≡ Some o → gain_refusal w o ≡ None → LowersThen w (gain_on w o)
gain_falls w x o f u e r k =
    current_falls w x (member_at w x).current w.members (gain_on w o).links u (unwritten w x (gain_on w o).links)
    (λ j. at_set (λ i a. a.sending ≡ (link_at w i).sending) w.links o j new no_link ol refl (λ _. refl))
    (link_set w w.members o new 1 0 ol places
    (one_less (2 * items l) (place_at (gain_on w o) o) (place_at w o) (length (drop 1 l.flow.grants)) (length l.flow.grants) (places o ol) (length-rest l.flow.grants (gain_some w o r))))
  where
    l : Link
    l = link_at w o

    new : Link
    new = record l { flow = regained l.flow }

    ol : o < length w.links
    ol = (f.own_ends.out x o e).0

    places : NoneRises w (gain_on w o)
    places = written_places w (gain_on w o) x (member_at w x) f.good (unwritten w x (gain_on w o).links) refl k.good k.later

    one_less : (i c' c g' g : ℕ) → c' ≤ c → g' + 1 ≡ g → (i + c' + g') + 1 ≤ (i + c + g) + 0
    one_less i c' c g' g h k = omega arith

-- ---- put

-- the packet that was put has all numbers of its member
pub next_is_sent : (n : ℕ) (y : Member) (s : Sending) → has_nothing_new n y (record { fresh = false; sent = next_packet y s }) ≡ true
next_is_sent n y s =
    all_range (λ p. is_sent (row_at y p) (numbers_at (next_packet y s) p)) 0 n
    (λ p _ pl.
    ap (λ g. nat_eq (row_at y p).got g && nat_eq (row_at y p).forgot (numbers_at (next_packet y s) p).forgot) (line_of_packet (λ k. k.got) (λ r. r.got) y s p reads_got)
    ∙ ap (λ g. nat_eq (row_at y p).got (row_at y p).got && nat_eq (row_at y p).forgot g) (line_of_packet (λ k. k.forgot) (λ r. r.forgot) y s p reads_forgot)
    ∙ ap (λ b. b && nat_eq (row_at y p).forgot (row_at y p).forgot) (nat_eq-same (row_at y p).got)
    ∙ nat_eq-same (row_at y p).forgot)

-- x has sent all that it has, and one packet more is on its way
pub put_falls : (w : World) (x o : ℕ) → IsFit w → IsRunning w x → (member_at w x).out ≡ Some o → put_refusal w x o ≡ None → LowersThen w (put_on w x o)
put_falls w x o f u e r k =
    step_lowers w w' x y (record nothing { dirty = 1 }) (record nothing { links = 2 }) u
    (record {
      member = unwritten w x w'.links;
      log = refl;
      sent = λ q j ne c. ap (λ (a : Link). a.sending) (get_or-set_other w.links o j new no_link (other_out w x q o j f.own_ends e c ne));
      marks = omega arith;
      stale = omega arith;
      views = λ q _. refl;
      owed = omega arith;
      dirty = omega (arith, before, after);
      lag = omega arith;
      links = link_set w w.members o new 0 2 ol places
          (two_more (length new.packets) (length l.packets) (if is_some l.ending && not l.over then 1 else 0) (place_at w' o) (place_at w o) (length l.flow.grants) (length_push l.packets (next_packet y l.sending)) (places o ol));
    }) (inr (omega arith, inr (omega arith, inr (omega arith, inl (omega arith, refl))))) (omega arith)
  where
    y : Member
    y = member_at w x

    w' : World
    w' = put_on w x o

    l : Link
    l = link_at w o

    new : Link
    new = pushed l (next_packet y l.sending)

    ol : o < length w.links
    ol = (f.own_ends.out x o e).0

    before : dirty_at (size w) w x ≡ 1
    before = ap (dirty_on (size w) w y) e ∙ ap (λ b. if b then 0 else 1) (refuse_none (has_nothing_new (size w) y l.sending) reason.NothingNew (first_none (is_blocked l.flow.sender) reason.NoCredit (refuse_if (has_nothing_new (size w) y l.sending) reason.NothingNew) r))

    after : dirty_on (size w) w' y y.out ≡ 0
    after =
        ap (dirty_on (size w) w' y) e
        ∙ ap (λ (a : Link). if has_nothing_new (size w) y a.sending then 0 else 1) (get_or-set_same w.links o new no_link ol)
        ∙ ap (λ b. if b then 0 else 1) (next_is_sent (size w) y l.sending)

    places : NoneRises w w'
    places = written_places w w' x y f.good (unwritten w x w'.links) refl k.good k.later

    two_more : (p p' e c' c g : ℕ) → p ≡ p' + 1 → c' ≤ c → (2 * (p + e) + c' + g) + 0 ≤ (2 * (p' + e) + c + g) + 2
    two_more p p' e c' c g h i = omega arith
