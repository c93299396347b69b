-- A member that puts stands where the ring's put leaves it, and its packet stands for the one that was put.
use Rattle.std.proofs.Common.{◌≡◌, ◌≢◌, ℕ, zero, suc, ◌+◌, ◌<◌, ◌≤◌, Bool, true, false, nat_eq, [], length, map, Option, Some, None, refl, sym, ap, ◌∙◌, ⊎_elim, arith}
use Rattle.std.specs.Prelude.{◌&&◌, option_map}
use Rattle.std.specs.List.{list_all, range_with_len}
use Rattle.std.proofs.lemmas.Bool.{cases_lt, cases_eq}
use Rattle.std.proofs.lemmas.List.{length-set, get_or-set_same}
use Rattle.ring_names.specs.declared.reason.Reason.{Reason}
use Rattle.ring_names.specs.declared.reason.Reason.TheVariants as reason
use Rattle.credit_flow.specs.Credit.{is_blocked, sent}
use Rattle.ring_rules.specs.declared.phase.Phase.TheVariants.{Up}
use Rattle.ring_rules.specs.Rows.{Row, no_numbers, is_sent}
use Rattle.ring_rules.specs.Refusal.{refuse_if, or_else}
use Rattle.ring_rules.specs.Machine.{World, Packet, Member, Sending, no_link, numbers_at, member_at, link_at, runs_phase}
use Rattle.ring_rules.specs.Step.{size, log_of, next_packet, pushed, put_on as put_in}
use Rattle.ring_rules.specs.Event.{on_link, up_refusal, put_refusal, has_nothing_new as nothing_new_in}
use Rattle.ring_rules.specs.Lawful.{row_of}
use Rattle.group_view.proofs.Lists.{all_range_agree}
use Rattle.activity.specs.Diff.{next_line}
use Rattle.gm_member.specs.Packets.{places, known_at, last_sent_at, last_sent_now}
use Rattle.activity.specs.Diff.{is_last_sent}
use Rattle.gm_member.specs.Held.{on_some, put_refused, has_nothing_new, all_last_sent, put_on, put_held, lines_on, packet_on}
use Rattle.gm_member.specs.Stands.{kept_by, last_sent_in, line_for, held_in, outgoing_in, lines_in, StandsFor}
use Rattle.gm_member.proofs.Knowing.{got_kept, last_sent_kept, line_same}
use Rattle.gm_member.proofs.Places.{map-range_same, all-range_longer}
use Rattle.gm_member.proofs.Fit.{IsFit}
use Rattle.gm_member.proofs.Facts.{log_past, got_zero, forgot_zero, sent_nothing, held_known, held_last_sent, right_row, version_is, next_is, next_tells}
use Rattle.gm_member.proofs.Parts.{held_is, seen, seen_same, current_same, door_still, outgoing_of}

-- the packet that x puts next on link o
abbrev pub leaving : World → ℕ → ℕ → Packet
leaving w x o = next_packet (member_at w x) (link_at w o).sending

-- ---- the refusal

-- conditions on a link that is there
pub on_some_link : {A : Type 0} (f : ℕ → A) (o : Option ℕ) (missing : Reason) (later : A → Option Reason) (then : ℕ → Option Reason) → ((k : ℕ) → later (f k) ≡ then k) → on_some (option_map f o) missing later ≡ on_link o missing then
on_some_link f None missing later then h = refl
on_some_link f (Some k) missing later then h = h k

nothing_is_sent : (r : Row) → r.got ≡ 0 → r.forgot ≡ 0 → is_sent r no_numbers ≡ true
nothing_is_sent r a b = ap (λ n. nat_eq n 0 && nat_eq r.forgot 0) a ∙ ap (λ n. nat_eq n 0) b

-- of an origin that publishes nothing, nothing is new
pub silent_is_sent : (w : World) (x o p : ℕ) → IsFit w → log_of w p ≡ [] → is_sent (row_of w x p) (numbers_at (link_at w o).sending.sent p) ≡ true
silent_is_sent w x o p f e = ap (is_sent (row_of w x p)) (sent_nothing w o p f e) ∙ nothing_is_sent (row_of w x p) (got_zero w x p f e) (forgot_zero w x p f e)

-- what is kept tells the numbers that the row has
pub last_sent_row : (w : World) (x o p : ℕ) → IsFit w → p < 64 → is_last_sent (known_at (held_in w x).known p) (last_sent_at (outgoing_in w o).last_sent p) ≡ is_sent (row_of w x (p + 1)) (numbers_at (link_at w o).sending.sent (p + 1))
last_sent_row w x o p f lt =
    ap (λ k. is_last_sent k (last_sent_at (outgoing_in w o).last_sent p)) (held_known w x p lt)
    ∙ ap (is_last_sent (kept_by (log_of w (p + 1)) (row_of w x (p + 1)))) (held_last_sent w o p lt)
    ∙ ap (λ n. nat_eq n (numbers_at (link_at w o).sending.sent (p + 1)).got && nat_eq (row_of w x (p + 1)).forgot (numbers_at (link_at w o).sending.sent (p + 1)).forgot) (got_kept (log_of w (p + 1)) (row_of w x (p + 1)) (right_row w x (p + 1) f))

-- a test of ids from 1 on, told by places from 0 on
all_next : (t : ℕ → Bool) (a n : ℕ) → list_all (λ p. t (p + 1)) (range_with_len a n) ≡ list_all t (range_with_len (a + 1) n)
all_next t a zero = refl
all_next t a (suc n) = ap (λ b. t (a + 1) && b) (all_next t (a + 1) n)

all_from_one : (t : ℕ → Bool) (n : ℕ) → t 0 ≡ true → list_all (λ p. t (p + 1)) (range_with_len 0 n) ≡ list_all t (range_with_len 0 (suc n))
all_from_one t n e = all_next t 0 n ∙ sym (ap (λ b. b && list_all t (range_with_len 1 n)) e)

pub nothing_new : (w : World) (x o : ℕ) → IsFit w → has_nothing_new (held_in w x).known (outgoing_in w o) ≡ nothing_new_in (size w) (member_at w x) (link_at w o).sending
unfolding places
nothing_new w x o f =
    let t : ℕ → Bool = λ p. is_sent (row_of w x p) (numbers_at (link_at w o).sending.sent p) in
    all_range_agree (λ p. is_last_sent (known_at (held_in w x).known p) (last_sent_at (outgoing_in w o).last_sent p)) (λ p. t (p + 1)) 0 64
    (λ p _ l. last_sent_row w x o p f (omega arith))
    ∙ all_from_one t 64 (silent_is_sent w x o 0 f f.nobody)
    ∙ all-range_longer t (size w) 65 f.few (λ p ge. silent_is_sent w x o p f (log_past w p ge))

pub put_refuses : (w : World) (x : ℕ) → IsFit w → put_refused (held_in w x) ≡ up_refusal w x (on_link (member_at w x).out reason.NoOutLink (put_refusal w x))
put_refuses w x f =
    ap (up_refusal w x)
    (on_some_link (outgoing_in w) (member_at w x).out reason.NoOutLink
    (λ o. or_else (refuse_if (is_blocked o.credit) reason.NoCredit) (refuse_if (has_nothing_new (held_in w x).known o) reason.NothingNew)) (put_refusal w x)
    (λ o. ap (λ b. or_else (refuse_if (is_blocked (link_at w o).flow.sender) reason.NoCredit) (refuse_if b reason.NothingNew)) (nothing_new w x o f)))

-- ---- the numbers that are sent

pub all_last_sent_are : (w : World) (x o : ℕ) → IsFit w → 1 ≤ x → x < size w → all_last_sent (held_in w x).known ≡ map (λ p. last_sent_in (numbers_at (leaving w x o) (p + 1))) places
unfolding places
all_last_sent_are w x o f some lt =
    map-range_same (λ p. last_sent_now (known_at (held_in w x).known p)) (λ p. last_sent_in (numbers_at (leaving w x o) (p + 1))) 64
    (λ p pl. ap last_sent_now (held_known w x p pl)
    ∙ last_sent_kept (log_of w (p + 1)) (row_of w x (p + 1)) (right_row w x (p + 1) f)
    ∙ sym (next_tells (member_at w x) (link_at w o).sending (p + 1)))

-- what a put leaves of each link to its receiver
pub put_seen : (w : World) (x o j : ℕ) → o < length w.links → seen (link_at (put_in w x o) j) ≡ seen (link_at w j)
put_seen w x o j lt = seen_same w o j (pushed (link_at w o) (leaving w x o)) lt refl

pub put_out : (w : World) (x o : ℕ) → IsFit w → 1 ≤ x → x < size w → o < length w.links → put_on (held_in w x).known (outgoing_in w o) ≡ outgoing_in (put_in w x o) o
put_out w x o f some lt ol =
    ap (λ ns. record (outgoing_in w o) { fresh = false; last_sent = ns; credit = sent (link_at w o).flow.sender }) (all_last_sent_are w x o f some lt)
    ∙ ap outgoing_of (sym (get_or-set_same w.links o (pushed (link_at w o) (leaving w x o)) no_link ol))

pub put_stands : (w : World) (x o : ℕ) → IsFit w → 1 ≤ x → x < size w → (member_at w x).out ≡ Some o → put_held (held_in w x) ≡ held_in (put_in w x o) x
put_stands w x o f some lt is =
    let w' : World = put_in w x o in
    let y : Member = member_at w x in
    let ol : o < length w.links = (f.own_ends.out x o is).0 in
    ap (λ k. record (held_in w x) { out = option_map (put_on (held_in w x).known) (option_map (outgoing_in w) k) }) is
    ∙ ap (λ k. record (held_in w x) { out = Some k }) (put_out w x o f some lt ol)
    ∙ sym (held_is w' x y (held_in w x).known (Some (outgoing_in w' o)) (held_in w x).current (held_in w x).door refl refl
    (ap (option_map (outgoing_in w')) is)
    (current_same w w' y.current (λ j. put_seen w x o j ol))
    (door_still w w' x (length-set w.links o (pushed (link_at w o) (leaving w x o))) refl refl refl (λ j. put_seen w x o j ol)))

-- ---- the packet

-- on a link on which something was put, the member has forgotten nothing beyond what it sent last
pub sent_forgotten : (w : World) (x o p : ℕ) → IsFit w → 1 ≤ x → x < size w → (member_at w x).phase ≡ Up → (member_at w x).out ≡ Some o → (link_at w o).sending.fresh ≡ false → (row_of w x p).forgot ≤ (numbers_at (link_at w o).sending.sent p).got
sent_forgotten w x o p f some lt up is e =
    ⊎_elim
    (λ (z : p ≡ 0). silent (ap (log_of w) z ∙ f.nobody))
    (λ (ne : p ≢ 0). ⊎_elim (λ (pl : p < size w). f.compact.sent x o p up is e (omega arith) pl) (λ (ge : size w ≤ p). silent (log_past w p ge)) (cases_lt p (size w)))
    (cases_eq p 0)
  where
    silent : log_of w p ≡ [] → (row_of w x p).forgot ≤ (numbers_at (link_at w o).sending.sent p).got
    silent l = let none : (row_of w x p).forgot ≡ 0 = forgot_zero w x p f l in omega arith

pub put_lines : (w : World) (x o : ℕ) → IsFit w → 1 ≤ x → x < size w → (member_at w x).phase ≡ Up → (member_at w x).out ≡ Some o → lines_on (held_in w x).known (outgoing_in w o) ≡ lines_in w (link_at w o).sending (leaving w x o)
unfolding places
put_lines w x o f some lt up is =
    let before : Sending = (link_at w o).sending in
    map-range_same (λ p. next_line before.fresh (p + 1) (known_at (held_in w x).known p) (last_sent_at (outgoing_in w o).last_sent p)) (λ p. line_for before.fresh (log_of w (p + 1)) p (numbers_at (leaving w x o) (p + 1)) (numbers_at before.sent (p + 1))) 64
    (λ p pl. ap (λ k. next_line before.fresh (p + 1) k (last_sent_at (outgoing_in w o).last_sent p)) (held_known w x p pl)
    ∙ ap (next_line before.fresh (p + 1) (kept_by (log_of w (p + 1)) (row_of w x (p + 1)))) (held_last_sent w o p pl)
    ∙ line_same before.fresh p (log_of w (p + 1)) (row_of w x (p + 1)) (numbers_at before.sent (p + 1)) (right_row w x (p + 1) f) (sent_forgotten w x o (p + 1) f some lt up is)
    ∙ ap (λ k. line_for before.fresh (log_of w (p + 1)) p k (numbers_at before.sent (p + 1))) (sym (next_is w x o (p + 1) f (ap runs_phase up) is)))

pub put_packet : (w : World) (x o : ℕ) → IsFit w → 1 ≤ x → x < size w → (member_at w x).phase ≡ Up → (member_at w x).out ≡ Some o → StandsFor w (link_at w o).sending (packet_on (held_in w x).view.version (held_in w x).known (outgoing_in w o)) (leaving w x o)
put_packet w x o f some lt up is = record { view = version_is w x f; lines = put_lines w x o f some lt up is }
