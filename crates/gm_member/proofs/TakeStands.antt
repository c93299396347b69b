-- A member that takes the oldest packet of its link stands where the ring's take leaves it.
use Rattle.ring_rules.proofs.invariants.KeptTake.{taker_beyond}
use Rattle.ring_rules.proofs.rests.Asked.{no_version}
use Rattle.std.proofs.Common.{◌≡◌, ◌≢◌, ℕ, zero, suc, ◌+◌, ◌<◌, ◌≤◌, Bool, true, false, not, List, [], ◌∷◌, ◌++◌, length, get_or, cond, Option, Some, None, is_some, refl, sym, ap, subst, ◌∙◌, ⊎_elim, arith}
use Rattle.std.specs.Prelude.{◌&&◌, option_map}
use Rattle.std.proofs.lemmas.Bool.{cases_lt, false≢true}
use Rattle.std.proofs.lemmas.List.{length-set, get_or-set_same, get_or-set_other}
use Rattle.ring_names.specs.declared.reason.Reason.{Reason}
use Rattle.ring_names.specs.declared.reason.Reason.TheVariants as reason
use Rattle.ring_rules.specs.declared.event.Event.TheVariants as event
use Rattle.ring_rules.specs.declared.numbers.Numbers.{Numbers}
use Rattle.ring_rules.specs.declared.phase.Phase.{Phase}
use Rattle.ring_rules.specs.declared.phase.Phase.TheVariants.{Up}
use Rattle.ring_rules.specs.Rows.{Row, no_numbers, lo_of, taken_row}
use Rattle.ring_rules.specs.Refusal.{refuse_if, or_else, is_empty}
use Rattle.ring_rules.specs.Machine.{World, Packet, Member, no_link, no_member, no_packet, row_at, numbers_at, member_at, link_at, view_in, is_waiting, oldest}
use Rattle.ring_rules.specs.Step.{size, with_member, with_link, log_of, is_owned, taker, popped, take_from}
use Rattle.ring_rules.specs.Event.{on_link, is_stopped, running_refusal, take_refusal, end_refusal, version_refusal, refusal, effect}
use Rattle.ring_rules.specs.Lawful.{row_of, NumbersAreWithin}
use Rattle.ring_rules.proofs.walks.Take.{row_at-taker, take_row, take_phase}
use Rattle.ring_rules.proofs.events.Enabled.{take_effect}
use Rattle.activity.specs.Kept.{Kept}
use Rattle.activity.specs.Packets.{LineSeen}
use Rattle.activity.specs.Plan.{accepted}
use Rattle.ring_rules.specs.Compact.{Has, low, line_in, IsInTurn}
use Rattle.ring_rules.proofs.compact.ByLines.{has_stays, oldest_says, without_line}
use Rattle.ring_rules.proofs.events.WhatRefuses.{MayTake}
use Rattle.ring_rules.proofs.invariants.Happens.{IsGood}
use Rattle.ring_rules.proofs.runs.OfEvents.{event_good}
use Rattle.ring_rules.proofs.runs.NeverFalls.{RowRises, taker_rises_all}
use Rattle.gm_member.specs.declared.taken.Taken.{Taken}
use Rattle.gm_member.specs.Packets.{places, PacketById, known_at, line_at}
use Rattle.gm_member.specs.News.{line_news, taken_of, news_below, news_of}
use Rattle.gm_member.specs.Held.{Held, Incoming, at_some, take_refused, owns, all_accepted, counted_in, took_from, began_from, took_held}
use Rattle.gm_member.specs.Stands.{kept_by, line_for, held_in, outgoing_in, incoming_in, lines_in, StandsFor, taken_below, taken_in}
use Rattle.gm_member.proofs.Knowing.{ComesRound, Arrives, whole_line, accepted_round, accepted_arrival, news_arrive, no_round, no_news}
use Rattle.gm_member.proofs.Ordered.{up_ordered}
use Rattle.gm_member.proofs.Places.{map-range_same, tabled_at}
use Rattle.gm_member.proofs.Fit.{IsFit}
use Rattle.gm_member.proofs.Facts.{log_past, row_past, got_zero, no_numbers_within, oldest_within, oldest_nothing, held_known, right_row, refused_there, done_there}
use Rattle.gm_member.proofs.Parts.{held_is, known_by, known_same, log_written, seen, incoming_seen, outgoing_same, there_same, waits_same, door_but, current_waits_not}
use Rattle.gm_member.proofs.PutStands.{on_some_link}

-- ---- the refusal

-- a member that runs and has a link to take from, as the ring has it
pub take_refuses : (w : World) (x : ℕ) (later : Option Reason) → take_refused (held_in w x) later ≡ running_refusal w x (on_link (member_at w x).current reason.NoCurrentLink (λ _. later))
take_refuses w x later = ap (running_refusal w x) (on_some_link (incoming_in w) (member_at w x).current reason.NoCurrentLink (λ _. later) (λ _. later) (λ _. refl))

-- nothing is on the link
pub nothing_to_take : (w : World) (y s : ℕ) → (link_at w s).packets ≡ [] → (link_at w s).ending ≡ None → take_refusal w y s ≡ Some reason.NothingToTake
nothing_to_take w y s e f = ap (λ b. or_else (refuse_if b reason.NothingToTake) (or_else (refuse_if (is_empty (link_at w s).packets) reason.EndNext) (version_refusal (oldest (link_at w s)).version (member_at w y).version)))
    (ap (λ ks. is_empty ks && not (is_some (link_at w s).ending)) e ∙ ap (λ o. not (is_some o)) f)

pub no_end_to_take : (w : World) (s : ℕ) → (link_at w s).packets ≡ [] → (link_at w s).ending ≡ None → end_refusal w s ≡ Some reason.NothingToTake
no_end_to_take w s e f = ap (λ b. or_else (refuse_if b reason.NothingToTake) (refuse_if (not (is_empty (link_at w s).packets)) reason.PacketNext))
    (ap (λ ks. is_empty ks && not (is_some (link_at w s).ending)) e ∙ ap (λ o. not (is_some o)) f)

-- it holds something where it has a packet, or an end
some_held : (b c : Bool) → c ≡ true → (b && not c) ≡ false
some_held true c e = ap not e
some_held false c e = refl

there_is : {A : Type 0} (o : Option A) → (o ≡ None → ⊥) → is_some o ≡ true
there_is None h = absurd (h refl)
there_is (Some a) h = refl

-- the end is next
pub end_is_next : (w : World) (y s : ℕ) → (link_at w s).packets ≡ [] → ((link_at w s).ending ≡ None → ⊥) → take_refusal w y s ≡ Some reason.EndNext
end_is_next w y s e f =
    ap (λ b. or_else (refuse_if b reason.NothingToTake) (or_else (refuse_if (is_empty (link_at w s).packets) reason.EndNext) (version_refusal (oldest (link_at w s)).version (member_at w y).version)))
    (some_held (is_empty (link_at w s).packets) (is_some (link_at w s).ending) (there_is (link_at w s).ending f))
    ∙ ap (λ ks. or_else (refuse_if (is_empty ks) reason.EndNext) (version_refusal (oldest (link_at w s)).version (member_at w y).version)) e

-- and may be taken
pub end_may : (w : World) (s : ℕ) → (link_at w s).packets ≡ [] → ((link_at w s).ending ≡ None → ⊥) → end_refusal w s ≡ None
end_may w s e f =
    ap (λ b. or_else (refuse_if b reason.NothingToTake) (refuse_if (not (is_empty (link_at w s).packets)) reason.PacketNext))
    (some_held (is_empty (link_at w s).packets) (is_some (link_at w s).ending) (there_is (link_at w s).ending f))
    ∙ ap (λ ks. refuse_if (not (is_empty ks)) reason.PacketNext) e

-- a packet is next
pub packet_is_next : (w : World) (s : ℕ) → is_empty (link_at w s).packets ≡ false → end_refusal w s ≡ Some reason.PacketNext
packet_is_next w s e = ap (λ b. or_else (refuse_if (b && not (is_some (link_at w s).ending)) reason.NothingToTake) (refuse_if (not b) reason.PacketNext)) e

-- so its version alone decides
pub packet_by_version : (w : World) (y s : ℕ) → is_empty (link_at w s).packets ≡ false → take_refusal w y s ≡ version_refusal (oldest (link_at w s)).version (member_at w y).version
packet_by_version w y s e =
    ap (λ b. or_else (refuse_if (b && not (is_some (link_at w s).ending)) reason.NothingToTake) (or_else (refuse_if b reason.EndNext) (version_refusal (oldest (link_at w s)).version (member_at w y).version))) e

-- it may be taken
pub packet_may : (w : World) (y s : ℕ) → is_empty (link_at w s).packets ≡ false → (oldest (link_at w s)).version ≤ (member_at w y).version → take_refusal w y s ≡ None
packet_may w y s e l = packet_by_version w y s e ∙ no_version (oldest (link_at w s)).version (member_at w y).version l

-- ---- the event

-- x may take the oldest packet of link s
pub record TakesFrom (w : World) (x s : ℕ) : Type 0 where
  pub some : 1 ≤ x
  pub is_member : x < size w
  pub up : (member_at w x).phase ≡ Up
  pub current : (member_at w x).current ≡ Some s
  pub has : is_empty (link_at w s).packets ≡ false
  pub version : (oldest (link_at w s)).version ≤ (member_at w x).version

pub take_enabled : (w : World) (x s : ℕ) → IsFit w → TakesFrom w x s → refusal w (event.Take (member_at w x).name) ≡ None
take_enabled w x s f t =
    refused_there w x (event.Take (member_at w x).name) (f.named x t.some t.is_member)
    ∙ ap (λ (g : Phase). or_else (refuse_if (is_stopped g) reason.Stopped) (on_link (member_at w x).current reason.NoCurrentLink (take_refusal w x))) t.up
    ∙ ap (λ c. on_link c reason.NoCurrentLink (take_refusal w x)) t.current
    ∙ packet_may w x s t.has t.version

pub take_does : (w : World) (x s : ℕ) → IsFit w → TakesFrom w x s → effect w (event.Take (member_at w x).name) ≡ take_from w x s
take_does w x s f t =
    done_there w x (event.Take (member_at w x).name) (f.named x t.some t.is_member)
    ∙ take_effect w x s (member_at w x).current (member_at w x).phase t.current t.up

-- ---- the packet

-- whether x answers for an origin against the sender of link s
abbrev pub owned : World → ℕ → ℕ → ℕ → Bool
owned w x s p = is_owned (view_in w (member_at w x).version) x (link_at w s).sender p

-- it begins no later than where the member stands
pub arriving_lo : (w : World) (x s p : ℕ) → IsFit w → TakesFrom w x s → 1 ≤ p → p < size w → owned w x s p ≡ false → (numbers_at (oldest (link_at w s)) p).lo ≤ (row_of w x p).got
arriving_lo w x s p f t some lt e = f.lawful.no_gap (member_at w x).name x s p (f.named x t.some t.is_member) t.up t.current (take_enabled w x s f t) some lt e

-- and lowers no number
pub arriving_rises : (w : World) (x s p : ℕ) → IsFit w → TakesFrom w x s → p < size w → owned w x s p ≡ false → (row_of w x p).got ≤ (numbers_at (oldest (link_at w s)) p).got
arriving_rises w x s p f t lt e =
    subst (λ n. (row_of w x p).got ≤ n)
    (ap (λ v. (row_of v x p).got) (take_does w x s f t)
    ∙ ap (λ (r : Row). r.got) (take_row w x s p t.is_member lt)
    ∙ ap (λ b. (taken_row b (log_of w p) (row_of w x p) (numbers_at (oldest (link_at w s)) p)).got) e)
    ((f.goes (event.Take (member_at w x).name) (take_enabled w x s f t)).never_falls.got x p)

-- ---- one origin

-- what the packet says of an origin
abbrev pub said : World → ℕ → ℕ → Numbers
said w s p = numbers_at (oldest (link_at w s)) p

may_take_it : (w : World) (x s : ℕ) → TakesFrom w x s → MayTake w x s
may_take_it w x s t = record { is_member = t.is_member; up = t.up; current = t.current; has = t.has; version = t.version }

-- the state after the take
after_good : (w : World) (x s : ℕ) → IsFit w → TakesFrom w x s → IsGood (take_from w x s)
after_good w x s f t = subst IsGood (take_does w x s f t) (event_good w (event.Take (member_at w x).name) f.good (take_enabled w x s f t))

-- no number of the row falls
row_rises : (w : World) (x s p : ℕ) → IsFit w → TakesFrom w x s → p < size w → (b : Bool) → owned w x s p ≡ b → RowRises (row_of w x p) (taken_row b (log_of w p) (row_of w x p) (said w s p))
row_rises w x s p f t pl b e = subst (λ c. RowRises (row_of w x p) (taken_row c (log_of w p) (row_of w x p) (said w s p))) e (taker_rises_all w x s p f.good.inv f.logged (may_take_it w x s t) pl)

-- and the row has forgotten then nothing that it didn't receive
row_ordered : (w : World) (x s p : ℕ) → IsFit w → TakesFrom w x s → 1 ≤ p → p < size w → (b : Bool) → owned w x s p ≡ b
    → (taken_row b (log_of w p) (row_of w x p) (said w s p)).forgot ≤ (taken_row b (log_of w p) (row_of w x p) (said w s p)).got
row_ordered w x s p f t some pl b e =
    subst (λ r. r.forgot ≤ r.got) (take_row w x s p t.is_member pl ∙ ap (λ c. taken_row c (log_of w p) (row_of w x p) (said w s p)) e)
    (up_ordered (take_from w x s) (after_good w x s f t) x (take_phase w x s t.is_member ∙ t.up) p some (omega (arith, pl, length-set w.members x (taker w x s))))

-- the packet begins nowhere behind its last message
begins_before : (w : World) (x s p : ℕ) → IsFit w → TakesFrom w x s → p < size w → (b : Bool) → owned w x s p ≡ b → (said w s p).lo ≤ (said w s p).got
begins_before w x s p f t pl own is = by_packets (link_at w s).packets refl
  where
    k : Numbers
    k = said w s p

    rises : RowRises (row_of w x p) (taken_row own (log_of w p) (row_of w x p) k)
    rises = row_rises w x s p f t pl own is

    low_rises : (b : Bool) → RowRises (row_of w x p) (taken_row b (log_of w p) (row_of w x p) k) → low b (row_of w x p) ≤ k.got
    low_rises true h = h.forgot
    low_rises false h = h.got

    by_fresh : (b : Bool) → (link_at w s).had.fresh ≡ b → k.lo ≡ lo_of b k.forgot (numbers_at (link_at w s).had.sent p) → k.lo ≤ k.got
    by_fresh true e lo = let less = oldest_says w x s (may_take_it w x s t) f.good.inv f.logged f.compact.taken p pl in omega (arith, lo, less)
    by_fresh false e lo =
        let has = f.compact.taken x s p t.up t.current pl e in
        let up : low own (row_of w x p) ≤ k.got = low_rises own rises in
        let at : low own (row_of w x p) ≡ (numbers_at (link_at w s).had.sent p).got = ap (λ b. low b (row_of w x p)) (sym is) ∙ has.got in
        omega (arith, lo, up, at)

    by_packets : (ks : List Packet) → (link_at w s).packets ≡ ks → k.lo ≤ k.got
    by_packets [] e = absurd (false≢true (sym t.has ∙ ap is_empty e))
    by_packets (j ∷ ks) e =
        let first : oldest (link_at w s) ≡ j = ap (λ js. get_or js 0 no_packet) e in
        let turn = subst (λ js. IsInTurn (link_at w s).had js (link_at w s).sending) e (f.compact.turn s) in
        by_fresh (link_at w s).had.fresh refl (subst (λ i. (numbers_at i p).lo ≡ lo_of (link_at w s).had.fresh (numbers_at i p).forgot (numbers_at (link_at w s).had.sent p)) (sym first) (turn.0 p))

-- of what x answers for, all comes round
comes_round : (w : World) (x s p : ℕ) → IsFit w → TakesFrom w x s → 1 ≤ p → p < size w → owned w x s p ≡ true → ComesRound (log_of w p) (row_of w x p) (said w s p)
comes_round w x s p f t some pl e =
    let rises = row_rises w x s p f t pl true e in
    record {
      lo = begins_before w x s p f t pl true e;
      forgot = rises.forgot;
      retired = rises.retired;
      got = row_ordered w x s p f t some pl true e;
      within = (oldest_within w s p f t.has).got;
    }

-- what it doesn't answer for arrives
arrives : (w : World) (x s p : ℕ) → IsFit w → TakesFrom w x s → 1 ≤ p → p < size w → owned w x s p ≡ false → Arrives (log_of w p) (row_of w x p) (said w s p)
arrives w x s p f t some pl e = record {
  lo = arriving_lo w x s p f t some pl e;
  got = arriving_rises w x s p f t pl e;
  falls_not = (row_rises w x s p f t pl false e).forgot;
  forgot = row_ordered w x s p f t some pl false e;
  within = (oldest_within w s p f t.has).got;
}

-- ---- its line

-- the line that stands for what the packet says
abbrev pub line_of_packet : World → ℕ → ℕ → ℕ → Option LineSeen
line_of_packet w s q p = line_for (link_at w s).had.fresh (log_of w p) q (said w s p) (numbers_at (link_at w s).had.sent p)

-- of an origin that the ring doesn't have there is none
pub silent_line : (w : World) (s q p : ℕ) → IsFit w → is_empty (link_at w s).packets ≡ false → log_of w p ≡ [] → line_of_packet w s q p ≡ None
silent_line w s q p f has e =
    let had : numbers_at (link_at w s).had.sent p ≡ no_numbers = no_numbers_within (numbers_at (link_at w s).had.sent p) (subst (λ n. NumbersAreWithin n (numbers_at (link_at w s).had.sent p)) (ap length e) (f.lawful.within.had s p)) in
    ap (λ k. line_for (link_at w s).had.fresh (log_of w p) q k (numbers_at (link_at w s).had.sent p)) (oldest_nothing w s p f has e)
    ∙ ap (line_for (link_at w s).had.fresh (log_of w p) q no_numbers) had
    ∙ no_line (link_at w s).had.fresh
  where
    no_line : (b : Bool) → line_for b (log_of w p) q no_numbers no_numbers ≡ None
    no_line true = refl
    no_line false = refl

-- the line of an origin of the ring does to what x keeps what the ring's take does to its row
accepted_there : (w : World) (x s q p : ℕ) → IsFit w → TakesFrom w x s → 1 ≤ p → p < size w
    → accepted (owned w x s p) (kept_by (log_of w p) (row_of w x p)) (line_of_packet w s q p) ≡ kept_by (log_of w p) (taken_row (owned w x s p) (log_of w p) (row_of w x p) (said w s p))
accepted_there w x s q p f t some pl = by_line (line_in (link_at w s).had (oldest (link_at w s)) p) refl
  where
    r : Row
    r = row_of w x p

    k : Numbers
    k = said w s p

    by_own : (b : Bool) → owned w x s p ≡ b → accepted b (kept_by (log_of w p) r) (Some (whole_line (log_of w p) q k)) ≡ kept_by (log_of w p) (taken_row b (log_of w p) r k)
    by_own true e = accepted_round (log_of w p) q r k (right_row w x p f) (comes_round w x s p f t some pl e)
    by_own false e = accepted_arrival (log_of w p) q r k (right_row w x p f) (arrives w x s p f t some pl e)

    by_line : (b : Bool) → line_in (link_at w s).had (oldest (link_at w s)) p ≡ b
        → accepted (owned w x s p) (kept_by (log_of w p) r) (cond b (Some (whole_line (log_of w p) q k)) None) ≡ kept_by (log_of w p) (taken_row (owned w x s p) (log_of w p) r k)
    by_line true e = by_own (owned w x s p) refl
    by_line false e = sym (ap (kept_by (log_of w p)) (has_stays (owned w x s p) (log_of w p) r k (without_line w x s (may_take_it w x s t) f.good.inv f.logged f.compact.taken p pl e)))

-- and so of each
pub accepted_at : (w : World) (x s q p : ℕ) → IsFit w → TakesFrom w x s → 1 ≤ p → accepted (owned w x s p) (kept_by (log_of w p) (row_of w x p)) (line_of_packet w s q p) ≡ kept_by (log_of w p) (row_at (taker w x s) p)
accepted_at w x s q p f t some =
    ⊎_elim
    (λ (pl : p < size w). accepted_there w x s q p f t some pl ∙ ap (kept_by (log_of w p)) (sym (row_at-taker w x s p pl)))
    (λ (ge : size w ≤ p).
    ap (accepted (owned w x s p) (kept_by (log_of w p) (row_of w x p))) (silent_line w s q p f t.has (log_past w p ge))
    ∙ ap (kept_by (log_of w p)) (row_past w x p f ge ∙ sym (taker_beyond w x s p ge)))
    (cases_lt p (size w))

-- ---- the member

pub line_there : (w : World) (s p : ℕ) → p < 64 → line_at (lines_in w (link_at w s).had (oldest (link_at w s))) p ≡ line_of_packet w s p (p + 1)
unfolding places
line_there w s p l = tabled_at (λ q. line_of_packet w s q (q + 1)) 64 p None l

-- a take changes no log
take_logs : (w : World) (x s p : ℕ) → log_of (take_from w x s) p ≡ log_of w p
take_logs w x s p = log_written w x (taker w x s) refl p

pub all_accepted_are : (w : World) (x s : ℕ) (lines : List (Option LineSeen)) → IsFit w → TakesFrom w x s → lines ≡ lines_in w (link_at w s).had (oldest (link_at w s))
    → all_accepted (owns (held_in w x) (link_at w s).sender) (held_in w x).known lines ≡ known_by (take_from w x s) (taker w x s)
unfolding places
all_accepted_are w x s lines f t e =
    ap (all_accepted (owns (held_in w x) (link_at w s).sender) (held_in w x).known) e
    ∙ map-range_same (λ p. accepted (owned w x s (p + 1)) (known_at (held_in w x).known p) (line_at (lines_in w (link_at w s).had (oldest (link_at w s))) p)) (λ p. kept_by (log_of w (p + 1)) (row_at (taker w x s) (p + 1))) 64
    (λ p pl. ap (λ k. accepted (owned w x s (p + 1)) k (line_at (lines_in w (link_at w s).had (oldest (link_at w s))) p)) (held_known w x p pl)
    ∙ ap (accepted (owned w x s (p + 1)) (kept_by (log_of w (p + 1)) (row_of w x (p + 1)))) (line_there w s p pl)
    ∙ accepted_at w x s p (p + 1) f t (omega arith))
    ∙ sym (known_same w (take_from w x s) (taker w x s) (take_logs w x s))

-- ---- what is written

-- x with the phase, the rows and the mirror of this one
abbrev pub with_rows : World → ℕ → Member → Member
with_rows w x z = record (member_at w x) { phase = z.phase; rows = z.rows; mirror = z.mirror; whole = z.whole }

-- it has taken the oldest packet of link s
abbrev pub rows_taken : World → ℕ → ℕ → Member → World
rows_taken w x s z = with_link (with_member w x (with_rows w x z)) s (popped (link_at w s))

-- such a take leaves each other link as it was
pub take_other : (w : World) (x s j : ℕ) (z : Member) → j ≢ s → link_at (rows_taken w x s z) j ≡ link_at w j
take_other w x s j z ne = get_or-set_other w.links s j (popped (link_at w s)) no_link ne

-- and the member with what it keeps by these rows
pub rows_stand : (w : World) (x s : ℕ) (z : Member) (known : List Kept) → IsFit w → x < size w → (member_at w x).current ≡ Some s
    → known ≡ known_by (rows_taken w x s z) (with_rows w x z)
    → record (held_in w x) { phase = z.phase; known = known; current = Some (counted_in (incoming_in w s)) } ≡ held_in (rows_taken w x s z) x
rows_stand w x s z known f lt current keeps =
    let y : Member = with_rows w x z in
    let w' : World = rows_taken w x s z in
    let h : Held = held_in w x in
    let sl : s < length w.links = (f.own_ends.current x s current).0 in
    let now : member_at w' x ≡ y = get_or-set_same w.members x y no_member lt in
    sym (held_is w' x y known h.out (Some (counted_in (incoming_in w s))) h.door now (sym keeps)
    (there_same (outgoing_in w') (outgoing_in w) (member_at w x).out (λ j _. outgoing_same (with_member w x y) s j (popped (link_at w s)) sl refl))
    (ap (option_map (incoming_in w')) current ∙ ap (λ l. Some (incoming_seen (seen l))) (get_or-set_same w.links s (popped (link_at w s)) no_link sl))
    (door_but w w' x s (length-set w.links s (popped (link_at w s))) (current_waits_not w x s current) (current_waits_not w' x s (ap (λ (y : Member). y.current) now ∙ current))
    (λ j ne. (
      waits_same w w' x j refl (ap (λ (y : Member). y.current) now) (ap (λ (y : Member). y.version) now) (ap seen (take_other w x s j z ne)),
      ap (λ l. incoming_seen (seen l)) (take_other w x s j z ne),
    ))))

pub take_stands : (w : World) (x s : ℕ) (k : PacketById) → IsFit w → TakesFrom w x s → k.lines ≡ lines_in w (link_at w s).had (oldest (link_at w s)) → took_held (held_in w x) k ≡ held_in (take_from w x s) x
take_stands w x s k f t e =
    let h : Held = held_in w x in
    ap (λ c. at_some (option_map (incoming_in w) c) h (λ a. cond (is_waiting (member_at w x).phase) (began_from h k a) (took_from h k a))) t.current
    ∙ ap (λ (g : Phase). cond (is_waiting g) (began_from h k (incoming_in w s)) (took_from h k (incoming_in w s))) t.up
    ∙ ap (λ ks. record h { known = ks; current = Some (counted_in (incoming_in w s)) }) (all_accepted_are w x s k.lines f t e)
    ∙ rows_stand w x s (taker w x s) (known_by (take_from w x s) (taker w x s)) f t.is_member t.current refl

-- ---- what it brings

-- of one origin of the ring
news_there : (w : World) (x s q p : ℕ) → IsFit w → TakesFrom w x s → 1 ≤ p → p < size w
    → line_news (owned w x s p) q (kept_by (log_of w p) (row_of w x p)) (line_of_packet w s q p) ≡ taken_of (owned w x s p) q (log_of w p) (row_of w x p).got (said w s p)
news_there w x s q p f t some pl = by_line (line_in (link_at w s).had (oldest (link_at w s)) p) refl
  where
    r : Row
    r = row_of w x p

    k : Numbers
    k = said w s p

    by_own : (b : Bool) → owned w x s p ≡ b → line_news b q (kept_by (log_of w p) r) (Some (whole_line (log_of w p) q k)) ≡ taken_of b q (log_of w p) r.got k
    by_own true e = no_round (log_of w p) q r k (right_row w x p f) (comes_round w x s p f t some pl e)
    by_own false e = news_arrive (log_of w p) q r k (right_row w x p f) (arrives w x s p f t some pl e)

    same_got : (b : Bool) → owned w x s p ≡ b → Has (owned w x s p) r k → b ≡ false → r.got ≡ k.got
    same_got b is h e = ap (λ c. low c r) (sym (is ∙ e)) ∙ h.got

    by_line : (b : Bool) → line_in (link_at w s).had (oldest (link_at w s)) p ≡ b
        → line_news (owned w x s p) q (kept_by (log_of w p) r) (cond b (Some (whole_line (log_of w p) q k)) None) ≡ taken_of (owned w x s p) q (log_of w p) r.got k
    by_line true e = by_own (owned w x s p) refl
    by_line false e = sym (no_news (owned w x s p) q (log_of w p) r.got k (same_got (owned w x s p) refl (without_line w x s (may_take_it w x s t) f.good.inv f.logged f.compact.taken p pl e)))

-- and of one that the ring doesn't have
news_past : (w : World) (x s q p : ℕ) → IsFit w → TakesFrom w x s → size w ≤ p
    → line_news (owned w x s p) q (kept_by (log_of w p) (row_of w x p)) (line_of_packet w s q p) ≡ taken_of (owned w x s p) q (log_of w p) (row_of w x p).got (said w s p)
news_past w x s q p f t ge =
    let none : log_of w p ≡ [] = log_past w p ge in
    ap (line_news (owned w x s p) q (kept_by (log_of w p) (row_of w x p))) (silent_line w s q p f t.has none)
    ∙ sym (no_news (owned w x s p) q (log_of w p) (row_of w x p).got (said w s p) (λ _. got_zero w x p f none ∙ sym (ap (λ k. k.got) (oldest_nothing w s p f t.has none))))

news_at : (w : World) (x s q : ℕ) → IsFit w → TakesFrom w x s
    → line_news (owned w x s (q + 1)) q (kept_by (log_of w (q + 1)) (row_of w x (q + 1))) (line_of_packet w s q (q + 1)) ≡ taken_of (owned w x s (q + 1)) q (log_of w (q + 1)) (row_of w x (q + 1)).got (said w s (q + 1))
news_at w x s q f t = ⊎_elim
    (λ (pl : q + 1 < size w). news_there w x s q (q + 1) f t (omega arith) pl)
    (λ (ge : size w ≤ q + 1). news_past w x s q (q + 1) f t ge)
    (cases_lt (q + 1) (size w))

pub news_below_are : (w : World) (x s n : ℕ) (lines : List (Option LineSeen)) → IsFit w → n ≤ 64 → TakesFrom w x s → lines ≡ lines_in w (link_at w s).had (oldest (link_at w s)) → news_below n (owns (held_in w x) (link_at w s).sender) (held_in w x).known lines ≡ taken_below n w x s
news_below_are w x s zero lines f l t e = refl
news_below_are w x s (suc p) lines f l t e =
    let pl : p < 64 = omega arith in
    let own : Bool = owned w x s (p + 1) in
    ap (λ xs. xs ++ line_news own p (known_at (held_in w x).known p) (line_at lines p)) (news_below_are w x s p lines f (omega arith) t e)
    ∙ ap (λ k. taken_below p w x s ++ line_news own p k (line_at lines p)) (held_known w x p pl)
    ∙ ap (λ ls. taken_below p w x s ++ line_news own p (kept_by (log_of w (p + 1)) (row_of w x (p + 1))) (line_at ls p)) e
    ∙ ap (λ c. taken_below p w x s ++ line_news own p (kept_by (log_of w (p + 1)) (row_of w x (p + 1))) c) (line_there w s p pl)
    ∙ ap (λ xs. taken_below p w x s ++ xs) (news_at w x s p f t)

pub news_are : (w : World) (x s : ℕ) (k : PacketById) → IsFit w → TakesFrom w x s → StandsFor w (link_at w s).had k (oldest (link_at w s)) → news_of (held_in w x) k ≡ taken_in w (member_at w x).current x
news_are w x s k f t n =
    ap (λ c. at_some (option_map (incoming_in w) c) [] (λ (a : Incoming). brings a (member_at w x).phase)) t.current
    ∙ ap (brings (incoming_in w s)) t.up
    ∙ news_below_are w x s 64 k.lines f (omega arith) t n.lines
    ∙ sym (ap (λ c. taken_in w c x) t.current ∙ ap (λ (g : Phase). cond (is_waiting g) [] (taken_below 64 w x s)) t.up)
  where
    brings : Incoming → Phase → List Taken
    brings a g = cond (is_waiting g) [] (news_below 64 (owns (held_in w x) a.from) (held_in w x).known k.lines)
