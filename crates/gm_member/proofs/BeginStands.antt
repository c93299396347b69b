-- A member that waits, and takes its first packet, stands where the ring's first take leaves it.
use Rattle.std.proofs.Common.{◌≡◌, ℕ, ◌+◌, ◌<◌, ◌≤◌, Bool, true, false, List, [], ◌∷◌, get_or, cond, Option, Some, None, refl, sym, ap, subst, ◌∙◌, ⊎_elim, arith}
use Rattle.std.specs.Prelude.{option_map}
use Rattle.std.proofs.lemmas.Bool.{cases_lt, false≢true}
use Rattle.group_view.proofs.Rings.{nat_eq-is}
use Rattle.ring_names.specs.declared.reason.Reason.TheVariants as reason
use Rattle.ring_rules.specs.declared.event.Event.TheVariants as event
use Rattle.ring_rules.specs.declared.phase.Phase.{Phase}
use Rattle.ring_rules.specs.declared.phase.Phase.TheVariants.{Waiting, Up}
use Rattle.ring_rules.specs.Rows.{lo_of}
use Rattle.ring_rules.specs.Refusal.{refuse_if, or_else, is_empty}
use Rattle.ring_rules.specs.Machine.{World, Packet, Member, no_packet, row_at, numbers_at, member_at, link_at, is_waiting, oldest}
use Rattle.ring_rules.specs.Step.{size, log_of, begun as begun_in, begun_row, begin_from}
use Rattle.ring_rules.specs.Event.{on_link, is_stopped, take_refusal, refusal, effect, at_found, taken_by}
use Rattle.ring_rules.specs.Lawful.{row_of}
use Rattle.ring_rules.specs.Compact.{has_line, line_in, IsInTurn}
use Rattle.ring_rules.proofs.events.Refusals.{not_false}
use Rattle.ring_rules.proofs.invariants.KeptBegin.{begin_row, begin_none}
use Rattle.ring_rules.proofs.runs.Apart.{first_packet_below}
use Rattle.activity.specs.Packets.{LineSeen}
use Rattle.activity.specs.Plan.{begun}
use Rattle.gm_member.specs.Packets.{places, PacketById, line_at}
use Rattle.gm_member.specs.declared.taken.Taken.{Taken}
use Rattle.gm_member.specs.News.{news_below, news_of}
use Rattle.gm_member.specs.Held.{Held, Incoming, at_some, owns, all_begun, counted_in, took_from, began_from, took_held}
use Rattle.gm_member.specs.Stands.{kept_by, held_in, incoming_in, lines_in, taken_in, taken_below}
use Rattle.gm_member.proofs.Knowing.{BeginsFirst, whole_line, begun_first, begun_nothing}
use Rattle.gm_member.proofs.Places.{map-range_same}
use Rattle.gm_member.proofs.Fit.{IsFit}
use Rattle.gm_member.proofs.Facts.{log_past, oldest_within, refused_there, done_there}
use Rattle.gm_member.proofs.Parts.{known_by, known_same, log_written}
use Rattle.gm_member.proofs.TakeStands.{packet_may, said, line_of_packet, silent_line, line_there, rows_stand}

-- ---- the event

-- x, that waits, may take the oldest packet of link s
pub record BeginsFrom (w : World) (x s : ℕ) : Type 0 where
  pub some : 1 ≤ x
  pub is_member : x < size w
  pub waits : (member_at w x).phase ≡ Waiting
  pub current : (member_at w x).current ≡ Some s
  pub has : is_empty (link_at w s).packets ≡ false
  pub version : (oldest (link_at w s)).version ≤ (member_at w x).version

pub begin_enabled : (w : World) (x s : ℕ) → IsFit w → BeginsFrom w x s → refusal w (event.Take (member_at w x).name) ≡ None
begin_enabled w x s f b =
    refused_there w x (event.Take (member_at w x).name) (f.named x b.some b.is_member)
    ∙ ap (λ (g : Phase). or_else (refuse_if (is_stopped g) reason.Stopped) (on_link (member_at w x).current reason.NoCurrentLink (take_refusal w x))) b.waits
    ∙ ap (λ c. on_link c reason.NoCurrentLink (take_refusal w x)) b.current
    ∙ packet_may w x s b.has b.version

pub begin_does : (w : World) (x s : ℕ) → IsFit w → BeginsFrom w x s → effect w (event.Take (member_at w x).name) ≡ begin_from w x s
begin_does w x s f b =
    done_there w x (event.Take (member_at w x).name) (f.named x b.some b.is_member)
    ∙ ap (λ c. at_found c w (taken_by (member_at w x).phase w x)) b.current
    ∙ ap (λ (g : Phase). taken_by g w x s) b.waits

-- ---- one origin

-- the first packet begins where its sender has forgotten
first_lo : (w : World) (x s p : ℕ) → IsFit w → BeginsFrom w x s → (said w s p).lo ≡ (said w s p).forgot
first_lo w x s p f b = by_packets (link_at w s).packets refl
  where
    by_packets : (ks : List Packet) → (link_at w s).packets ≡ ks → (said w s p).lo ≡ (said w s p).forgot
    by_packets [] e = absurd (false≢true (sym b.has ∙ ap is_empty e))
    by_packets (j ∷ ks) e =
        let first : oldest (link_at w s) ≡ j = ap (λ js. get_or js 0 no_packet) e in
        let turn = subst (λ js. IsInTurn (link_at w s).had js (link_at w s).sending) e (f.compact.turn s) in
        subst (λ i. (numbers_at i p).lo ≡ (numbers_at i p).forgot) (sym first)
        (turn.0 p ∙ ap (λ t. lo_of t (numbers_at j p).forgot (numbers_at (link_at w s).had.sent p)) (f.lines.waits x s b.waits b.current))

begins_first : (w : World) (x s p : ℕ) → IsFit w → BeginsFrom w x s → 1 ≤ p → p < size w → BeginsFirst (log_of w p) (said w s p)
begins_first w x s p f b some pl = record {
  lo = let e = first_lo w x s p f b in omega (arith, e);
  forgot = first_packet_below w x s p f.good.inv.is_ring (f.good.inv.walks p some pl) b.waits b.current;
  within = (oldest_within w s p f b.has).got;
}

-- what x, that waits, begins with is what the ring's first take gives it: of an origin of the ring
begun_there : (w : World) (x s q p : ℕ) → IsFit w → BeginsFrom w x s → 1 ≤ p → p < size w → begun (line_of_packet w s q p) ≡ kept_by (log_of w p) (begun_row (row_of w x p) (said w s p))
begun_there w x s q p f b some pl = by_line (line_in (link_at w s).had (oldest (link_at w s)) p) refl
  where
    none : (row_of w x p).retired ≡ 0
    none = (f.rows x).anew b.waits p

    by_line : (t : Bool) → line_in (link_at w s).had (oldest (link_at w s)) p ≡ t → begun (cond t (Some (whole_line (log_of w p) q (said w s p))) None) ≡ kept_by (log_of w p) (begun_row (row_of w x p) (said w s p))
    by_line true e = begun_first (log_of w p) q (row_of w x p) (said w s p) none (begins_first w x s p f b some pl)
    by_line false e =
        let first : has_line true (said w s p) (numbers_at (link_at w s).had.sent p) ≡ false = ap (λ t. has_line t (said w s p) (numbers_at (link_at w s).had.sent p)) (sym (f.lines.waits x s b.waits b.current)) ∙ e in
        begun_nothing (log_of w p) (row_of w x p) (said w s p) none (nat_eq-is (said w s p).got 0 (not_false _ first)) (begins_first w x s p f b some pl)

-- what x is then
abbrev pub beginner : World → ℕ → ℕ → Member
beginner w x s = begun_in (size w) (member_at w x) (oldest (link_at w s))

-- and of each
begun_at : (w : World) (x s q p : ℕ) → IsFit w → BeginsFrom w x s → 1 ≤ p → begun (line_of_packet w s q p) ≡ kept_by (log_of w p) (row_at (beginner w x s) p)
begun_at w x s q p f b some = ⊎_elim
    (λ (pl : p < size w). begun_there w x s q p f b some pl ∙ ap (kept_by (log_of w p)) (sym (begin_row w x s p pl)))
    (λ (ge : size w ≤ p). ap begun (silent_line w s q p f b.has (log_past w p ge)) ∙ ap (kept_by (log_of w p)) (sym (begin_none w x s p ge)))
    (cases_lt p (size w))

-- ---- the member

all_begun_are : (w : World) (x s : ℕ) (lines : List (Option LineSeen)) → IsFit w → BeginsFrom w x s → lines ≡ lines_in w (link_at w s).had (oldest (link_at w s)) → all_begun lines ≡ known_by (begin_from w x s) (beginner w x s)
unfolding places
all_begun_are w x s lines f b e =
    ap all_begun e
    ∙ map-range_same (λ p. begun (line_at (lines_in w (link_at w s).had (oldest (link_at w s))) p)) (λ p. kept_by (log_of w (p + 1)) (row_at (beginner w x s) (p + 1))) 64
    (λ p pl. ap begun (line_there w s p pl) ∙ begun_at w x s p (p + 1) f b (omega arith))
    ∙ sym (known_same w (begin_from w x s) (beginner w x s) (λ p. log_written w x (beginner w x s) refl p))

pub begin_stands : (w : World) (x s : ℕ) (k : PacketById) → IsFit w → BeginsFrom w x s → k.lines ≡ lines_in w (link_at w s).had (oldest (link_at w s)) → took_held (held_in w x) k ≡ held_in (begin_from w x s) x
begin_stands w x s k f b e =
    let h : Held = held_in w x in
    ap (λ c. at_some (option_map (incoming_in w) c) h (λ a. cond (is_waiting (member_at w x).phase) (began_from h k a) (took_from h k a))) b.current
    ∙ ap (λ (g : Phase). cond (is_waiting g) (began_from h k (incoming_in w s)) (took_from h k (incoming_in w s))) b.waits
    ∙ ap (λ ks. record h { phase = Up; known = ks; current = Some (counted_in (incoming_in w s)) }) (all_begun_are w x s k.lines f b e)
    ∙ rows_stand w x s (beginner w x s) (known_by (begin_from w x s) (beginner w x s)) f b.is_member b.current refl

-- it is brought nothing
pub begin_brings : (w : World) (x s : ℕ) (k : PacketById) → BeginsFrom w x s → news_of (held_in w x) k ≡ taken_in w (member_at w x).current x
begin_brings w x s k b = by_current (member_at w x).current
  where
    nothing : (xs : List Taken) → cond (is_waiting (member_at w x).phase) [] xs ≡ []
    nothing xs = ap (λ (g : Phase). cond (is_waiting g) [] xs) b.waits

    by_current : (c : Option ℕ) → at_some (option_map (incoming_in w) c) [] (λ (a : Incoming). cond (is_waiting (member_at w x).phase) [] (news_below 64 (owns (held_in w x) a.from) (held_in w x).known k.lines)) ≡ taken_in w c x
    by_current None = refl
    by_current (Some t) = nothing (news_below 64 (owns (held_in w x) (incoming_in w t).from) (held_in w x).known k.lines) ∙ sym (nothing (taken_below 64 w x t))
