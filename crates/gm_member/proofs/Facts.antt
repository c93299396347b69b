-- What follows for single members, rows and packets.
use Rattle.std.proofs.Common.{◌≡◌, ◌≢◌, ⊎_elim, ℕ, zero, suc, ◌+◌, ◌-◌, ◌<◌, ◌≤◌, List, [], ◌∷◌, length, get_or, true, false, Some, sym, ap, subst, ◌∙◌, arith}
use Rattle.std.proofs.lemmas.Bool.{false≢true, cases_lt, cases_eq}
use Rattle.std.proofs.lemmas.List.{get_or_past}
use Rattle.group_view.specs.Since.{no_group}
use Rattle.ring_rules.specs.declared.numbers.Numbers.{Numbers}
use Rattle.ring_rules.specs.Rows.{no_row, no_numbers, lo_of, next_numbers}
use Rattle.ring_rules.specs.Refusal.{is_empty}
use Rattle.ring_rules.specs.Machine.{World, Packet, Member, Sending, no_packet, no_member, row_at, numbers_at, member_at, link_at, view_in, newest, runs, oldest}
use Rattle.ring_rules.specs.Step.{size, log_of, next_packet}
use Rattle.ring_rules.specs.Lawful.{row_of, NumbersAreWithin, PacketsAreWithin}
pub use Rattle.ring_rules.proofs.events.Found.{refused_there, done_there}
use Rattle.ring_rules.proofs.invariants.Happens.{HasViews}
use Rattle.ring_rules.proofs.walks.Packets.{reads_got, reads_forgot, line_of_packet}
use Rattle.activity.specs.Kept.{no_kept, got_of}
use Rattle.activity.specs.LastSent.{never_sent}
use Rattle.gm_member.specs.Packets.{places, known_at, last_sent_at}
use Rattle.gm_member.specs.Stands.{kept_by, last_sent_in, held_in, outgoing_in}
use Rattle.gm_member.proofs.Knowing.{IsRight, got_kept}
use Rattle.gm_member.proofs.Places.{tabled_at}
use Rattle.gm_member.proofs.Fit.{IsFit}

-- ---- ids that nobody has

pub log_past : (w : World) (p : ℕ) → size w ≤ p → log_of w p ≡ []
log_past w p ge = ap (λ (y : Member). y.log) (get_or_past w.members p no_member ge)

pub row_past : (w : World) (x p : ℕ) → IsFit w → size w ≤ p → row_of w x p ≡ no_row
row_past w x p f ge = get_or_past (member_at w x).rows p no_row (omega (arith, (f.rows x).few))

-- a number of an origin that publishes nothing is 0
pub got_zero : (w : World) (q p : ℕ) → IsFit w → log_of w p ≡ [] → (row_of w q p).got ≡ 0
got_zero w q p f e = omega (arith, (f.lawful.within.rows q p).got, ap length e)

pub forgot_zero : (w : World) (q p : ℕ) → IsFit w → log_of w p ≡ [] → (row_of w q p).forgot ≡ 0
forgot_zero w q p f e = omega (arith, (f.lawful.within.rows q p).forgot, ap length e)

pub no_numbers_within : (k : Numbers) → NumbersAreWithin 0 k → k ≡ no_numbers
no_numbers_within k h =
    let a : k.lo ≡ 0 = omega (arith, h.lo) in
    let b : k.got ≡ 0 = omega (arith, h.got) in
    let c : k.forgot ≡ 0 = omega (arith, h.forgot) in
    ap (λ n. record { lo = n; got = k.got; forgot = k.forgot }) a ∙ ap (λ n. record { lo = 0; got = n; forgot = k.forgot }) b ∙ ap (λ n. record { lo = 0; got = 0; forgot = n }) c

pub sent_nothing : (w : World) (s p : ℕ) → IsFit w → log_of w p ≡ [] → numbers_at (link_at w s).sending.sent p ≡ no_numbers
sent_nothing w s p f e = no_numbers_within (numbers_at (link_at w s).sending.sent p) (subst (λ n. NumbersAreWithin n (numbers_at (link_at w s).sending.sent p)) (ap length e) (f.lawful.within.sent s p))

oldest_of : (n p : ℕ) (ks : List Packet) → PacketsAreWithin n p ks → is_empty ks ≡ false → NumbersAreWithin n (numbers_at (get_or ks 0 no_packet) p)
oldest_of n p [] h e = absurd (false≢true (sym e))
oldest_of n p (k ∷ ks) h e = h.0

-- no number of the oldest packet is above the length of the log
pub oldest_within : (w : World) (s p : ℕ) → IsFit w → is_empty (link_at w s).packets ≡ false → NumbersAreWithin (length (log_of w p)) (numbers_at (oldest (link_at w s)) p)
oldest_within w s p f e = oldest_of (length (log_of w p)) p (link_at w s).packets (f.lawful.within.packets s p) e

pub oldest_nothing : (w : World) (s p : ℕ) → IsFit w → is_empty (link_at w s).packets ≡ false → log_of w p ≡ [] → numbers_at (oldest (link_at w s)) p ≡ no_numbers
oldest_nothing w s p f some e = no_numbers_within (numbers_at (oldest (link_at w s)) p) (subst (λ n. NumbersAreWithin n (numbers_at (oldest (link_at w s)) p)) (ap length e) (oldest_within w s p f some))

-- ---- ids from 1 stand at places from 0

pub place_few : (w : World) (x : ℕ) → IsFit w → 1 ≤ x → x < size w → x - 1 < 64
place_few w x f some lt = omega (arith, f.few)

pub held_known : (w : World) (x p : ℕ) → p < 64 → known_at (held_in w x).known p ≡ kept_by (log_of w (p + 1)) (row_of w x (p + 1))
unfolding places
held_known w x p l = tabled_at (λ q. kept_by (log_of w (q + 1)) (row_at (member_at w x) (q + 1))) 64 p no_kept l

pub held_last_sent : (w : World) (o p : ℕ) → p < 64 → last_sent_at (outgoing_in w o).last_sent p ≡ last_sent_in (numbers_at (link_at w o).sending.sent (p + 1))
unfolding places
held_last_sent w o p l = tabled_at (λ q. last_sent_in (numbers_at (link_at w o).sending.sent (q + 1))) 64 p never_sent l

-- each row is right, of an origin that the ring has or hasn't
pub right_row : (w : World) (q p : ℕ) → IsFit w → IsRight (log_of w p) (row_of w q p)
right_row w q p f = record { forgot = below; got = (f.lawful.within.rows q p).got }
  where
    silent : log_of w p ≡ [] → (row_of w q p).forgot ≤ (row_of w q p).got
    silent e = let none : (row_of w q p).forgot ≡ 0 = forgot_zero w q p f e in omega arith

    below : (row_of w q p).forgot ≤ (row_of w q p).got
    below = ⊎_elim
        (λ (is : p ≡ 0). silent (ap (log_of w) is ∙ f.nobody))
        (λ (ne : p ≢ 0). ⊎_elim (λ (lt : p < size w). f.ordered q p (omega arith) lt) (λ (ge : size w ≤ p). silent (log_past w p ge)) (cases_lt p (size w)))
        (cases_eq p 0)

-- its own row tells how many messages a member has published
pub own_row : (w : World) (x : ℕ) → IsFit w → 1 ≤ x → x < size w → got_of (known_at (held_in w x).known (x - 1)) ≡ length (log_of w x)
own_row w x f some lt =
    let back : x - 1 + 1 ≡ x = omega arith in
    ap got_of (held_known w x (x - 1) (place_few w x f some lt)) ∙ ap (λ p. got_of (kept_by (log_of w p) (row_of w x p))) back ∙ got_kept (log_of w x) (row_of w x x) (right_row w x x f) ∙ f.own x

-- ---- views

-- the view of a version is numbered with it
pub version_of_view : (w : World) (v : ℕ) → HasViews w → v ≤ newest w → (view_in w v).version ≡ v
version_of_view w zero h l = ap (λ vs. (get_or vs 0 no_group).version) h.is
version_of_view w (suc v) h l =
    ap (λ vs. (get_or vs (suc v) no_group).version) h.is
    ∙ h.ends.history.numbered (suc v) (omega arith) (let many = ap length h.is in omega (arith, many))

pub version_is : (w : World) (x : ℕ) → IsFit w → (held_in w x).view.version ≡ (member_at w x).version
version_is w x f = version_of_view w (member_at w x).version f.good.views (f.good.inv.is_ring.held x)

-- ---- packets

-- the numbers of the next packet on the out link of a running member: they go on from what was put last
pub next_is : (w : World) (x o p : ℕ) → IsFit w → runs w x ≡ true → (member_at w x).out ≡ Some o → numbers_at (next_packet (member_at w x) (link_at w o).sending) p ≡ next_numbers (link_at w o).sending.fresh (row_of w x p) (numbers_at (link_at w o).sending.sent p)
next_is w x o p f rx is =
    let s : Sending = (link_at w o).sending in
    let k : Numbers = numbers_at (next_packet (member_at w x) s) p in
    let got : k.got ≡ (row_of w x p).got = line_of_packet (λ j. j.got) (λ r. r.got) (member_at w x) s p reads_got in
    let forgot : k.forgot ≡ (row_of w x p).forgot = line_of_packet (λ j. j.forgot) (λ r. r.forgot) (member_at w x) s p reads_forgot in
    let lo : k.lo ≡ lo_of s.fresh (row_of w x p).forgot (numbers_at s.sent p) = f.compact.next x o rx is p ∙ ap (λ n. lo_of s.fresh n (numbers_at s.sent p)) forgot in
    ap (λ n. record { lo = n; got = k.got; forgot = k.forgot }) lo
    ∙ ap (λ n. record { lo = lo_of s.fresh (row_of w x p).forgot (numbers_at s.sent p); got = n; forgot = k.forgot }) got
    ∙ ap (λ n. record { lo = lo_of s.fresh (row_of w x p).forgot (numbers_at s.sent p); got = (row_of w x p).got; forgot = n }) forgot

-- and what it tells of each origin
pub next_tells : (y : Member) (s : Sending) (p : ℕ) → last_sent_in (numbers_at (next_packet y s) p) ≡ record { got = (row_at y p).got; forgot = (row_at y p).forgot }
next_tells y s p =
    ap (λ n. record { got = n; forgot = (numbers_at (next_packet y s) p).forgot }) (line_of_packet (λ j. j.got) (λ r. r.got) y s p reads_got)
    ∙ ap (λ n. record { got = (row_at y p).got; forgot = n }) (line_of_packet (λ j. j.forgot) (λ r. r.forgot) y s p reads_forgot)
