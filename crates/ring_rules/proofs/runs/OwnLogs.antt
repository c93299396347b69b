-- A publisher has its whole own log, and no number goes beyond a log.
use Rattle.std.proofs.Common.{◌≡◌, ◌≢◌, ℕ, zero, suc, ◌+◌, ◌<◌, ◌≤◌, Bool, true, false, List, [], ◌∷◌, ◌++◌, length, drop, get_or, Some, None, refl, sym, ap, subst, ◌∙◌, ⊎_elim, arith}
use Rattle.std.proofs.lemmas.Bool.{cases_eq, cases_lt}
use Rattle.std.proofs.lemmas.List.{length-set, length_push, get_or-set_same, get_or-set_other, get_or_append_left, get_or_push}
use Rattle.std.proofs.lemmas.List.FromFn.{length-map-range_with_len, get_or-map-range_with_len}
use Rattle.queue_core.specs.declared.message.Message.{Message}
use Rattle.ring_names.specs.declared.numbers.CreditSpec.{CreditSpec}
use Rattle.ring_rules.specs.declared.numbers.Numbers.{Numbers}
use Rattle.ring_rules.specs.Rows.{Row, no_row, no_numbers, published_row, next_numbers, taken_row, born_row}
use Rattle.group_view.specs.Change.{AreOpeningNames}
use Rattle.ring_rules.specs.Machine.{Packet, Member, Sending, Link, World, no_link, no_member, no_sending, no_packet, row_at, numbers_at, member_at, link_at, view_in}
use Rattle.ring_rules.specs.Step.{size, log_of, next_lines, next_packet, pushed, popped, put_on, gain_on, published, publish_at, is_owned, taker, take_from, stopped, stop_at, opened_link, open_to, opening, begun_row, begun, begin_from, joiner, come_to, with_link, with_member}
use Rattle.ring_rules.specs.Act.{Act, refusal, effect, IsRun, last}
use Rattle.ring_rules.specs.Lawful.{row_of, HasOwnLog, RowIsWithin, NumbersAreWithin, PacketsAreWithin, StaysWithinLogs}
use Rattle.ring_rules.proofs.events.Leaves.{with_opened, come_member}
use Rattle.ring_rules.proofs.rings.Lists.{at_set, at_push, get_or_beyond}
use Rattle.group_view.proofs.Rings.{nat_eq-same}
use Rattle.ring_rules.proofs.walks.Take.{row_at-taker, taken_packet}
use Rattle.ring_rules.proofs.invariants.KeptBegin.{begin_row, begin_none}
use Rattle.ring_rules.proofs.invariants.Happens.{IsGood, opening_good, run_acts}
use Rattle.ring_rules.proofs.events.First.{first_link, first_size, first_row, first_log, first_at}
use Rattle.ring_rules.proofs.events.Parts.{act_keeps, IsSameRows, links_same, member_same, IsStill, Part, cast_part, put_part, take_part, gain_part, stop_part, open_part, still_part, member_still, run_keeps, begin_part, come_part, KnowsNothing}

-- each member has received its whole own log, whether it runs or not
abbrev pub HasOwnLogs : World → Type 0
HasOwnLogs w = (p : ℕ) → (row_of w p p).got ≡ length (log_of w p)

-- in every state: each member has a row for itself, and nobody has a log at 0
pub record IsLogged (w : World) : Type 0 where
  pub nobody : log_of w 0 ≡ []
  pub sized : (q : ℕ) → 1 ≤ q → q < size w → q < length (member_at w q).rows
  pub own : HasOwnLogs w
  pub within : StaysWithinLogs w

-- ---- numbers within a length

-- numbers within a length are within a greater one: of a row
pub row_more : (n n' : ℕ) (r : Row) → n ≤ n' → RowIsWithin n r → RowIsWithin n' r
row_more n n' r l h = record { got = omega (arith, h.got); forgot = omega (arith, h.forgot); retired = omega (arith, h.retired) }

-- of a packet, for one origin
pub numbers_more : (n n' : ℕ) (k : Numbers) → n ≤ n' → NumbersAreWithin n k → NumbersAreWithin n' k
numbers_more n n' k l h = record { lo = omega (arith, h.lo); got = omega (arith, h.got); forgot = omega (arith, h.forgot) }

-- of packets
pub packets_more : (n n' p : ℕ) (ks : List Packet) → n ≤ n' → PacketsAreWithin n p ks → PacketsAreWithin n' p ks
packets_more n n' p [] l h = tt
packets_more n n' p (k ∷ ks) l h = (numbers_more n n' (numbers_at k p) l h.0, packets_more n n' p ks l h.1)

-- one packet more
pub packets_push : (n p : ℕ) (ks : List Packet) (k : Packet) → NumbersAreWithin n (numbers_at k p) → PacketsAreWithin n p ks → PacketsAreWithin n p (ks ++ k ∷ [])
packets_push n p [] k h a = (h, tt)
packets_push n p (j ∷ js) k h a = (a.0, packets_push n p js k h a.1)

-- one packet less
pub packets_drop : (n p : ℕ) (ks : List Packet) → PacketsAreWithin n p ks → PacketsAreWithin n p (drop 1 ks)
packets_drop n p [] a = tt
packets_drop n p (k ∷ ks) a = a.1

-- 0 is within every length
pub no_row_within : (n : ℕ) → RowIsWithin n no_row
no_row_within n = record { got = omega arith; forgot = omega arith; retired = omega arith }

-- also where a packet says nothing
pub no_numbers_within : (n : ℕ) → NumbersAreWithin n no_numbers
no_numbers_within n = record { lo = omega arith; got = omega arith; forgot = omega arith }

-- the oldest packet
pub oldest_within : (n p : ℕ) (ks : List Packet) → PacketsAreWithin n p ks → NumbersAreWithin n (numbers_at (get_or ks 0 no_packet) p)
oldest_within n p [] a = no_numbers_within n
oldest_within n p (k ∷ ks) a = a.0

-- the next numbers of a row
pub next_within : (n : ℕ) (fresh : Bool) (r : Row) (k : Numbers) → RowIsWithin n r → NumbersAreWithin n k → NumbersAreWithin n (next_numbers fresh r k)
next_within n true r k h a = record { lo = h.forgot; got = h.got; forgot = h.forgot }
next_within n false r k h a = record { lo = a.got; got = h.got; forgot = h.forgot }

-- of each row
pub lines_within : (n : ℕ) (fresh : Bool) (rows : List Row) (last : List Numbers) (p : ℕ) → RowIsWithin n (get_or rows p no_row) → NumbersAreWithin n (get_or last p no_numbers) → NumbersAreWithin n (get_or (next_lines fresh rows last) p no_numbers)
lines_within n fresh [] last p h a = no_numbers_within n
lines_within n fresh (r ∷ rows) [] zero h a = next_within n fresh r no_numbers h a
lines_within n fresh (r ∷ rows) (k ∷ last) zero h a = next_within n fresh r k h a
lines_within n fresh (r ∷ rows) [] (suc p) h a = lines_within n fresh rows [] p h a
lines_within n fresh (r ∷ rows) (k ∷ last) (suc p) h a = lines_within n fresh rows last p h a

-- the next packet
pub packet_within : (n : ℕ) (y : Member) (s : Sending) (p : ℕ) → RowIsWithin n (row_at y p) → NumbersAreWithin n (numbers_at s.sent p) → NumbersAreWithin n (numbers_at (next_packet y s) p)
packet_within n y s p h a = lines_within n s.fresh y.rows s.sent.numbers p h a

-- the row of a taker
pub taken_within : (n : ℕ) (own : Bool) (log : List Message) (r : Row) (k : Numbers) → RowIsWithin n r → NumbersAreWithin n k → RowIsWithin n (taken_row own log r k)
taken_within n true log r k h a = record { got = h.got; forgot = a.got; retired = a.forgot }
taken_within n false log r k h a = record { got = a.got; forgot = a.forgot; retired = h.retired }

-- ---- parts of events

-- the links of a later state are within the logs of an earlier one
abbrev pub LinksAreWithin : World → World → Type 0
LinksAreWithin w w' = (s p : ℕ) → PacketsAreWithin (length (log_of w p)) p (link_at w' s).packets × (NumbersAreWithin (length (log_of w p)) (numbers_at (link_at w' s).sending.sent p) × NumbersAreWithin (length (log_of w p)) (numbers_at (link_at w' s).had.sent p))

-- what changes links alone
pub links_logged : (w w' : World) → IsSameRows w w' → LinksAreWithin w w' → IsLogged w → IsLogged w'
links_logged w w' k a h = record {
  nobody = k.log 0 ∙ h.nobody;
  sized = λ q some lt. omega (arith, h.sized q some (omega (arith, k.many)), ap length (k.rows q));
  own = λ p. rw (k.rows p, k.log p) (h.own p);
  within = record {
    rows = λ q p. rw (k.rows q, k.log p) (h.within.rows q p);
    packets = λ s p. rw (k.log p) (a s p).0;
    sent = λ s p. rw (k.log p) (a s p).1.0;
    had = λ s p. rw (k.log p) (a s p).1.1;
  };
}

-- what leaves all still
pub still_logged : (w w' : World) → IsStill w w' → IsLogged w → IsLogged w'
still_logged w w' k h =
    links_logged w w' k.same
    (λ s p. (rw (k.packets s) (h.within.packets s p), (rw (k.sending s) (h.within.sent s p), rw (k.had s) (h.within.had s p)))) h

-- a put
pub put_logged : (w : World) (x o : ℕ) → o < length w.links → IsLogged w → IsLogged (put_on w x o)
put_logged w x o lt h =
    links_logged w (put_on w x o) (links_same w (put_on w x o).links)
    (λ s p.
    let n : ℕ = length (log_of w p) in
    let k : Packet = next_packet (member_at w x) (link_at w o).sending in
    let new : NumbersAreWithin n (numbers_at k p) = packet_within n (member_at w x) (link_at w o).sending p (h.within.rows x p) (h.within.sent o p) in
    at_set (λ j l. PacketsAreWithin n p l.packets × (NumbersAreWithin n (numbers_at l.sending.sent p) × NumbersAreWithin n (numbers_at l.had.sent p))) w.links o s (pushed (link_at w o) k) no_link lt
    (packets_push n p (link_at w o).packets k new (h.within.packets o p), (new, h.within.had o p))
    (λ _. (h.within.packets s p, (h.within.sent s p, h.within.had s p))))
    h

-- a gain
pub gain_logged : (w : World) (o : ℕ) → o < length w.links → IsLogged w → IsLogged (gain_on w o)
gain_logged w o lt h =
    links_logged w (gain_on w o) (links_same w (gain_on w o).links)
    (λ s p.
    let n : ℕ = length (log_of w p) in
    at_set (λ j l. PacketsAreWithin n p l.packets × (NumbersAreWithin n (numbers_at l.sending.sent p) × NumbersAreWithin n (numbers_at l.had.sent p))) w.links o s _ no_link lt
    (h.within.packets o p, (h.within.sent o p, h.within.had o p))
    (λ _. (h.within.packets s p, (h.within.sent s p, h.within.had s p))))
    h

-- a stop
pub stop_logged : (w : World) (x : ℕ) → x < size w → IsLogged w → IsLogged (stop_at w x)
stop_logged w x lt h =
    links_logged w (stop_at w x) (member_same w x (stopped (member_at w x)) refl refl)
    (λ s p. (h.within.packets s p, (h.within.sent s p, h.within.had s p))) h

-- a link that opens, with its first packet
pub open_logged : (w : World) (x z : ℕ) → IsLogged w → IsLogged (open_to w x z)
open_logged w x z h =
    let l : Link = opened_link w x z in
    let w1 : World = with_opened w l in
    still_logged w1 (open_to w x z) (member_still w1 x (record (member_at w x) { out = Some (length w.links) }) refl refl refl)
    (links_logged w w1 (links_same w w1.links)
    (λ s p.
    let n : ℕ = length (log_of w p) in
    let new : NumbersAreWithin n (numbers_at (next_packet (member_at w x) no_sending) p) = packet_within n (member_at w x) no_sending p (h.within.rows x p) (no_numbers_within n) in
    ⊎_elim
    (λ (lt : s < length w.links + 1). at_push (λ j a. PacketsAreWithin n p a.packets × (NumbersAreWithin n (numbers_at a.sending.sent p) × NumbersAreWithin n (numbers_at a.had.sent p))) w.links s l no_link lt
    ((new, tt), (new, no_numbers_within n)) (λ _. (h.within.packets s p, (h.within.sent s p, h.within.had s p))))
    (λ (ge : length w.links + 1 ≤ s).
    subst (λ a. PacketsAreWithin n p a.packets × (NumbersAreWithin n (numbers_at a.sending.sent p) × NumbersAreWithin n (numbers_at a.had.sent p)))
    (sym (get_or_beyond (w.links ++ l ∷ []) s no_link (omega (arith, length_push w.links l)))) (tt, (no_numbers_within n, no_numbers_within n)))
    (cases_lt s (length w.links + 1)))
    h)

-- a row of the taker
pub taker_row : (P : Row → Type 0) (w : World) (y s p : ℕ) → (p < size w → P (taken_row (is_owned (view_in w (member_at w y).version) y (link_at w s).sender p) (log_of w p) (row_at (member_at w y) p) (numbers_at (taken_packet w s) p))) → (size w ≤ p → P no_row) → P (row_at (taker w y s) p)
taker_row P w y s p here beyond = ⊎_elim
    (λ (lt : p < size w). subst P (sym (row_at-taker w y s p lt)) (here lt))
    (λ (ge : size w ≤ p). subst P (sym (get_or_beyond (taker w y s).rows p no_row (omega (arith, length-map-range_with_len (λ p. taken_row (is_owned (view_in w (member_at w y).version) y (link_at w s).sender p) (log_of w p) (row_at (member_at w y) p) (numbers_at (taken_packet w s) p)) 0 (size w))))) (beyond ge))
    (cases_lt p (size w))

-- a taker answers for itself
pub owns_itself : (w : World) (y s : ℕ) → is_owned (view_in w (member_at w y).version) y (link_at w s).sender y ≡ true
owns_itself w y s = rw (nat_eq-same y) refl

-- where y becomes b and the oldest packet of link s is gone, the logs are as they were
pub pop_log : (w : World) (y s : ℕ) (b : Member) (q : ℕ) → y < size w → b.log ≡ log_of w y → log_of (with_link (with_member w y b) s (popped (link_at w s))) q ≡ log_of w q
pop_log w y s b q lt e = at_set (λ k z. z.log ≡ (member_at w k).log) w.members y q b no_member lt e (λ _. refl)

pub take_log : (w : World) (y s q : ℕ) → y < size w → log_of (take_from w y s) q ≡ log_of w q
take_log w y s q lt = pop_log w y s (taker w y s) q lt refl

pub begin_log : (w : World) (y s q : ℕ) → y < size w → log_of (begin_from w y s) q ≡ log_of w q
begin_log w y s q lt = pop_log w y s (begun (size w) (member_at w y) (taken_packet w s)) q lt refl

-- what is asked of b
record IsLoggedAs (w : World) (y : ℕ) (b : Member) : Type 0 where
  pub log : b.log ≡ log_of w y
  pub sized : y < length b.rows
  pub own : (row_at b y).got ≡ length (log_of w y)
  pub within : (p : ℕ) → RowIsWithin (length (log_of w p)) (row_at b p)

pop_logged : (w : World) (y s : ℕ) (b : Member) → y < size w → s < length w.links → IsLoggedAs w y b → IsLogged w → IsLogged (with_link (with_member w y b) s (popped (link_at w s)))
pop_logged w y s b lt there k h = record {
  nobody = log 0 ∙ h.nobody;
  sized = λ q some l.
      let l2 : q < size w = omega (arith, length-set w.members y b) in
      at_set (λ i z. 1 ≤ i → i < size w → i < length z.rows) w.members y q b no_member lt (λ _ _. k.sized) (λ _. h.sized q) some l2;
  own = λ p. at_set (λ i z. (row_at z i).got ≡ length (log_of w i)) w.members y p b no_member lt k.own (λ _. h.own p) ∙ ap length (sym (log p));
  within = record {
    rows = λ q p. subst (λ n. RowIsWithin n (row_of w' q p)) (ap length (sym (log p)))
        (at_set (λ i z. RowIsWithin (length (log_of w p)) (row_at z p)) w.members y q b no_member lt (k.within p) (λ _. h.within.rows q p));
    packets = λ j p. subst (λ n. PacketsAreWithin n p (link_at w' j).packets) (ap length (sym (log p)))
        (at_set (λ i l. PacketsAreWithin (length (log_of w p)) p l.packets) w.links s j (popped (link_at w s)) no_link there
        (packets_drop (length (log_of w p)) p (link_at w s).packets (h.within.packets s p)) (λ _. h.within.packets j p));
    sent = λ j p. subst (λ n. NumbersAreWithin n (numbers_at (link_at w' j).sending.sent p)) (ap length (sym (log p)))
        (at_set (λ i l. NumbersAreWithin (length (log_of w p)) (numbers_at l.sending.sent p)) w.links s j (popped (link_at w s)) no_link there
        (h.within.sent s p) (λ _. h.within.sent j p));
    had = λ j p. subst (λ n. NumbersAreWithin n (numbers_at (link_at w' j).had.sent p)) (ap length (sym (log p)))
        (at_set (λ i l. NumbersAreWithin (length (log_of w p)) (numbers_at l.had.sent p)) w.links s j (popped (link_at w s)) no_link there
        (oldest_within (length (log_of w p)) p (link_at w s).packets (h.within.packets s p)) (λ _. h.within.had j p));
  };
}
  where
    w' : World
    w' = with_link (with_member w y b) s (popped (link_at w s))

    log : (p : ℕ) → log_of w' p ≡ log_of w p
    log p = pop_log w y s b p lt k.log

-- a take
pub take_logged : (w : World) (y s : ℕ) → y < size w → s < length w.links → IsLogged w → IsLogged (take_from w y s)
take_logged w y s lt there h = pop_logged w y s (taker w y s) lt there (record {
  log = refl;
  sized = omega (arith, lt, length-map-range_with_len (λ p. taken_row (is_owned (view_in w (member_at w y).version) y (link_at w s).sender p) (log_of w p) (row_at (member_at w y) p) (numbers_at (taken_packet w s) p)) 0 (size w));
  own = ap (λ r. r.got) (row_at-taker w y s y lt)
      ∙ ap (λ b. (taken_row b (log_of w y) (row_at (member_at w y) y) (numbers_at (taken_packet w s) y)).got) (owns_itself w y s)
      ∙ h.own y;
  within = λ p. taker_row (RowIsWithin (length (log_of w p))) w y s p
      (λ _. taken_within (length (log_of w p)) (is_owned (view_in w (member_at w y).version) y (link_at w s).sender p) (log_of w p) (row_at (member_at w y) p) (numbers_at (taken_packet w s) p) (h.within.rows y p) (oldest_within (length (log_of w p)) p (link_at w s).packets (h.within.packets s p)))
      (λ _. no_row_within (length (log_of w p)));
}) h

-- a row of one that begins
pub begun_at : (P : Row → Type 0) (w : World) (y s p : ℕ) → (p < size w → P (begun_row (row_at (member_at w y) p) (numbers_at (taken_packet w s) p))) → (size w ≤ p → P no_row) → P (row_at (begun (size w) (member_at w y) (taken_packet w s)) p)
begun_at P w y s p here beyond = ⊎_elim
    (λ (lt : p < size w). subst P (sym (begin_row w y s p lt)) (here lt))
    (λ (ge : size w ≤ p). subst P (sym (begin_none w y s p ge)) (beyond ge))
    (cases_lt p (size w))

-- a first take, of one who knows nothing yet
pub begin_logged : (w : World) (y s : ℕ) → y < size w → s < length w.links → KnowsNothing (member_at w y) → IsLogged w → IsLogged (begin_from w y s)
begin_logged w y s lt there none h = pop_logged w y s (begun (size w) (member_at w y) (taken_packet w s)) lt there (record {
  log = refl;
  sized = omega (arith, lt, length-map-range_with_len (λ p. begun_row (row_at (member_at w y) p) (numbers_at (taken_packet w s) p)) 0 (size w));
  own =
      let empty : length (log_of w y) ≡ 0 = sym (h.own y) ∙ (none y).0 in
      let is : (numbers_at (taken_packet w s) y).got ≡ length (log_of w y) = omega (arith, (said y).got, empty) in
      ap (λ r. r.got) (begin_row w y s y lt) ∙ is;
  within = λ p. begun_at (RowIsWithin (length (log_of w p))) w y s p
      (λ _. record { got = (said p).got; forgot = (said p).forgot; retired = (h.within.rows y p).retired })
      (λ _. no_row_within (length (log_of w p)));
}) h
  where
    said : (p : ℕ) → NumbersAreWithin (length (log_of w p)) (numbers_at (taken_packet w s) p)
    said p = oldest_within (length (log_of w p)) p (link_at w s).packets (h.within.packets s p)

-- ---- one that comes

-- what it knows of each origin: only how many messages there were
pub joiner_rows : (w : World) (name : List ℕ) (p : ℕ) (P : Row → Type 0) → P (born_row (log_of w p)) → (size w < p → P no_row) → P (row_at (joiner w name) p)
joiner_rows w name p P here none = ⊎_elim
    (λ (lt : p < size w + 1). subst P (sym (get_or-map-range_with_len (λ p. born_row (log_of w p)) 0 (size w + 1) p p no_row lt (omega arith))) here)
    (λ (ge : size w + 1 ≤ p). subst P (sym (get_or_beyond (joiner w name).rows p no_row (omega (arith, length-map-range_with_len (λ p. born_row (log_of w p)) 0 (size w + 1))))) (none (omega arith)))
    (cases_lt p (size w + 1))

-- the logs are as they were
pub come_log : (w : World) (m : ℕ) (name : List ℕ) (p : ℕ) → log_of (come_to w m name) p ≡ log_of w p
come_log w m name p = come_member w m name p (λ i a. i ≡ p → a.log ≡ log_of w p) (λ is. sym (ap (λ a. a.log) (get_or_beyond w.members p no_member (omega (arith, is))))) (λ _. refl) refl

pub come_logged : (w : World) (m : ℕ) (name : List ℕ) → IsLogged w → IsLogged (come_to w m name)
come_logged w m name h = record {
  nobody = come_log w m name 0 ∙ h.nobody;
  sized = λ q some l. ⊎_elim
      (λ (lt : q < size w). subst (λ a. q < length a.rows) (sym (get_or_append_left w.members (joiner w name ∷ []) no_member q lt)) (h.sized q some lt))
      (λ (ge : size w ≤ q). subst (λ a. q < length a.rows) (sym (get_or_push w.members (joiner w name) no_member q (omega (arith, l, length_push w.members (joiner w name)))))
      (omega (arith, l, length_push w.members (joiner w name), length-map-range_with_len (λ p. born_row (log_of w p)) 0 (size w + 1))))
      (cases_lt q (size w));
  own = λ p. come_member w m name p (λ i a. (row_at a i).got ≡ length (log_of w i))
      (joiner_rows w name (size w) (λ r. r.got ≡ length (log_of w (size w))) none (λ _. none))
      (h.own p) ∙ ap length (sym (come_log w m name p));
  within = record {
    rows = λ q p. subst (λ n. RowIsWithin n (row_of (come_to w m name) q p)) (ap length (sym (come_log w m name p)))
        (come_member w m name q (λ i a. RowIsWithin (length (log_of w p)) (row_at a p))
        (joiner_rows w name p (RowIsWithin (length (log_of w p))) (record { got = omega arith; forgot = omega arith; retired = omega arith }) (λ _. no_row_within (length (log_of w p))))
        (h.within.rows q p));
    packets = λ s p. subst (λ n. PacketsAreWithin n p (link_at w s).packets) (ap length (sym (come_log w m name p))) (h.within.packets s p);
    sent = λ s p. subst (λ n. NumbersAreWithin n (numbers_at (link_at w s).sending.sent p)) (ap length (sym (come_log w m name p))) (h.within.sent s p);
    had = λ s p. subst (λ n. NumbersAreWithin n (numbers_at (link_at w s).had.sent p)) (ap length (sym (come_log w m name p))) (h.within.had s p);
  };
}
  where
    none : 0 ≡ length (log_of w (size w))
    none = sym (ap (λ a. length a.log) (get_or_beyond w.members (size w) no_member (omega arith)))

-- the log of who publishes is one longer, and the others as they were
pub cast_log : (w : World) (x : ℕ) (m : Message) → x < size w → log_of (publish_at w x m) x ≡ log_of w x ++ m ∷ []
cast_log w x m lt = ap (λ z. z.log) (get_or-set_same w.members x (published x m (member_at w x)) no_member lt)

-- the others as they were
pub cast_log_other : (w : World) (x p : ℕ) (m : Message) → p ≢ x → log_of (publish_at w x m) p ≡ log_of w p
cast_log_other w x p m d = ap (λ z. z.log) (get_or-set_other w.members x p (published x m (member_at w x)) no_member d)

-- its length
pub cast_log_length : (w : World) (x : ℕ) (m : Message) → x < size w → length (log_of (publish_at w x m) x) ≡ length (log_of w x) + 1
cast_log_length w x m lt = ap length (cast_log w x m lt) ∙ length_push (log_of w x) m

-- no log is shorter
pub cast_log_more : (w : World) (x p : ℕ) (m : Message) → x < size w → length (log_of w p) ≤ length (log_of (publish_at w x m) p)
cast_log_more w x p m lt = ⊎_elim
    (λ (is : p ≡ x). subst (λ k. length (log_of w k) ≤ length (log_of (publish_at w x m) k)) (sym is) (omega (arith, cast_log_length w x m lt)))
    (λ (d : p ≢ x). omega (arith, ap length (cast_log_other w x p m d)))
    (cases_eq p x)

-- a row of who publishes
pub published_at : (P : Row → Type 0) (w : World) (x p : ℕ) (m : Message) → x < length (member_at w x).rows → (p ≡ x → P (published_row (row_of w x x) m)) → (p ≢ x → P (row_of w x p)) → P (row_at (published x m (member_at w x)) p)
published_at P w x p m lt here other = at_set (λ k r. (k ≡ x → P (published_row (row_of w x x) m)) → (k ≢ x → P (row_of w x k)) → P r) (member_at w x).rows x p (published_row (row_of w x x) m) no_row lt
    (λ a b. a refl) (λ d a b. b d) here other

-- a cast
pub cast_logged : (w : World) (x : ℕ) (m : Message) → 1 ≤ x → x < size w → IsLogged w → IsLogged (publish_at w x m)
cast_logged w x m some lt h = record {
  nobody = cast_log_other w x 0 m (λ is. absurd (omega arith)) ∙ h.nobody;
  sized = λ q qs l.
      let l2 : q < size w = omega (arith, many) in
      at_set (λ k z. 1 ≤ k → k < size w → k < length z.rows) w.members x q (published x m (member_at w x)) no_member lt
      (λ _ _. omega (arith, length-set (member_at w x).rows x (published_row (row_of w x x) m), h.sized x some lt))
      (λ _. h.sized q) qs l2;
  own = λ p. ⊎_elim
      (λ (is : p ≡ x). subst (λ k. (row_of (publish_at w x m) k k).got ≡ length (log_of (publish_at w x m) k)) (sym is)
      (at_set (λ k z. k ≡ x → (row_at z x).got ≡ length (log_of (publish_at w x m) x)) w.members x x (published x m (member_at w x)) no_member lt
      (λ _. published_at (λ r. r.got ≡ length (log_of (publish_at w x m) x)) w x x m rows_lt (λ _. omega (arith, h.own x, cast_log_length w x m lt)) (λ d. absurd (d refl)))
      (λ d e. absurd (d e)) refl))
      (λ (d : p ≢ x). ap (λ z. (row_at z p).got) (get_or-set_other w.members x p (published x m (member_at w x)) no_member d) ∙ h.own p ∙ ap length (sym (cast_log_other w x p m d)))
      (cases_eq p x);
  within = record {
    rows = λ q p.
        let n : ℕ = length (log_of w p) in
        let n' : ℕ = length (log_of (publish_at w x m) p) in
        at_set (λ k z. RowIsWithin n' (row_at z p)) w.members x q (published x m (member_at w x)) no_member lt
        (published_at (RowIsWithin n') w x p m rows_lt
        (λ is. let longer : n' ≡ length (log_of w x) + 1 = ap (λ k. length (log_of (publish_at w x m) k)) is ∙ cast_log_length w x m lt in
        record { got = omega (arith, (h.within.rows x x).got); forgot = omega (arith, (h.within.rows x x).forgot); retired = omega (arith, (h.within.rows x x).retired) })
        (λ _. row_more n n' (row_of w x p) (cast_log_more w x p m lt) (h.within.rows x p)))
        (λ _. row_more n n' (row_of w q p) (cast_log_more w x p m lt) (h.within.rows q p));
    packets = λ s p. packets_more _ _ p (link_at w s).packets (cast_log_more w x p m lt) (h.within.packets s p);
    sent = λ s p. numbers_more _ _ (numbers_at (link_at w s).sending.sent p) (cast_log_more w x p m lt) (h.within.sent s p);
    had = λ s p. numbers_more _ _ (numbers_at (link_at w s).had.sent p) (cast_log_more w x p m lt) (h.within.had s p);
  };
}
  where
    many : size (publish_at w x m) ≡ size w
    many = length-set w.members x (published x m (member_at w x))

    rows_lt : x < length (member_at w x).rows
    rows_lt = omega (arith, h.sized x some lt)

-- any part, whatever is known where a take happens
pub part_logged : (G : World → Type 0) (w w' : World) → Part G w w' → IsLogged w → IsLogged w'
part_logged G w w' (cast_part x m some lt e) h = subst IsLogged (sym e) (cast_logged w x m some lt h)
part_logged G w w' (put_part x o lt free e) h = subst IsLogged (sym e) (put_logged w x o lt h)
part_logged G w w' (take_part y s some t lt g e) h = subst IsLogged (sym e) (take_logged w y s t.is_member lt h)
part_logged G w w' (begin_part y s some t lt none e) h = subst IsLogged (sym e) (begin_logged w y s t.is_member lt none h)
part_logged G w w' (come_part m name e) h = subst IsLogged (sym e) (come_logged w m name h)
part_logged G w w' (gain_part o lt some e) h = subst IsLogged (sym e) (gain_logged w o lt h)
part_logged G w w' (stop_part x lt e) h = subst IsLogged (sym e) (stop_logged w x lt h)
part_logged G w w' (open_part x z e) h = subst IsLogged (sym e) (open_logged w x z h)
part_logged G w w' (still_part k) h = still_logged w w' k h

-- one event more
pub act_logged : (w : World) (e : Act) → IsGood w → refusal w e ≡ None → IsLogged w → IsLogged (effect w e)
act_logged w e g r h = act_keeps IsGood IsLogged (part_logged IsGood) w e g g r h

-- what each event keeps where the logs are known, every run keeps
record IsKnown (P : World → Type 0) (w : World) : Type 0 where
  pub logged : IsLogged w
  pub holds : P w

pub run_knowing : (P : World → Type 0) → ((w : World) (e : Act) → IsGood w → refusal w e ≡ None → IsLogged w → P w → P (effect w e)) → (w : World) (es : List Act) → IsGood w → IsRun w es → IsLogged w → P w → P (last w es)
run_knowing P keeps w es g r l h =
    (run_acts (IsKnown P) (λ v e gv q k. record { logged = act_logged v e gv q k.logged; holds = keeps v e gv q k.logged k.holds }) w es g r (record { logged = l; holds = h })).holds

-- ---- the opening, and every state of every run

-- the opening
pub opening_logged : (credit : CreditSpec) (names : List (List ℕ)) → IsLogged (opening credit names)
opening_logged credit names = record {
  nobody = refl;
  sized = λ q some lt.
      let many : length (member_at (opening credit names) q).rows ≡ length names + 1 =
      ap (λ y. length y.rows) (first_at credit names q some (omega (arith, first_size credit names))) ∙ length-map-range_with_len (λ _. no_row) 0 (length names + 1) in
      omega (arith, many, lt, first_size credit names);
  own = λ p. ap (λ r. r.got) (first_row credit names p p) ∙ ap length (sym (first_log credit names p));
  within = record {
    rows = λ q p. subst (RowIsWithin (length (log_of (opening credit names) p))) (sym (first_row credit names q p)) (no_row_within (length (log_of (opening credit names) p)));
    packets = λ s p. first_link credit names s (λ l. PacketsAreWithin (length (log_of (opening credit names) p)) p l.packets) (λ _. tt) tt;
    sent = λ s p. first_link credit names s (λ l. NumbersAreWithin (length (log_of (opening credit names) p)) (numbers_at l.sending.sent p)) (λ _. no_numbers_within _) (no_numbers_within _);
    had = λ s p. first_link credit names s (λ l. NumbersAreWithin (length (log_of (opening credit names) p)) (numbers_at l.had.sent p)) (λ _. no_numbers_within _) (no_numbers_within _);
  };
}

-- every state
pub run_logged : (credit : CreditSpec) (names : List (List ℕ)) (es : List Act) → AreOpeningNames names → IsRun (opening credit names) es → IsLogged (last (opening credit names) es)
run_logged credit names es are r = run_keeps IsLogged (part_logged IsGood) (opening credit names) es (opening_good credit names are) r (opening_logged credit names)

-- in every state of every run a running publisher has its whole own log
pub run_has_own_log : (credit : CreditSpec) (names : List (List ℕ)) (es : List Act) → AreOpeningNames names → IsRun (opening credit names) es → HasOwnLog (last (opening credit names) es)
run_has_own_log credit names es are r = λ p _. (run_logged credit names es are r).own p

-- and no number is greater than the length of its origin's log
pub run_stays_within_logs : (credit : CreditSpec) (names : List (List ℕ)) (es : List Act) → AreOpeningNames names → IsRun (opening credit names) es → StaysWithinLogs (last (opening credit names) es)
run_stays_within_logs credit names es are r = (run_logged credit names es are r).within
