-- What is kept of one origin, against the ring's row of it.
use Rattle.std.proofs.Common.{◌≡◌, ℕ, zero, suc, ◌+◌, ◌-◌, ◌<◌, ◌≤◌, Bool, true, false, cond, not, nat_eq, nat_le, List, [], ◌∷◌, ◌++◌, length, take, drop, get_or, map, max, Some, None, refl, sym, ap, ◌∙◌, arith}
use Rattle.std.specs.Prelude.{◌&&◌}
use Rattle.std.specs.List.{range_with_len}
use Rattle.std.proofs.lemmas.Bool.{and_from}
use Rattle.std.proofs.lemmas.Bool.Decides.{nat_tests}
use Rattle.std.proofs.lemmas.Grind.{common_steps}
use Rattle.std.proofs.lemmas.List.{length-drop, length-take-le, drop-append-le}
use Rattle.queue_core.specs.declared.message.Message.{Message}
use Rattle.ring_rules.specs.declared.numbers.Numbers.{Numbers}
use Rattle.ring_rules.specs.Rows.{Row, published_row, next_numbers, taken_row, messages_between}
use Rattle.ring_rules.specs.Step.{begun_row}
use Rattle.ring_rules.specs.Compact.{has_line as has_line_of}
use Rattle.ring_rules.proofs.rings.Maps.{map-range_same_from}
use Rattle.group_view.proofs.Lists.{between_joined}
use Rattle.group_view.specs.View.{as_id}
use Rattle.activity.specs.Kept.{no_kept, got_of, joined}
use Rattle.activity.specs.Packets.{LineSeen, got_in}
use Rattle.activity.specs.Diff.{next_line}
use Rattle.activity.specs.Plan.{fits, accepted, begins, begun}
use Rattle.activity.proofs.Marks.{drop_between}
use Rattle.gm_member.specs.Packets.{last_sent_now}
use Rattle.gm_member.specs.Stands.{kept_by, last_sent_in, line_for}
use Rattle.gm_member.specs.News.{no_message, taken_at, taken_between, line_news, taken_of}
use Rattle.ring_rules.specs.Shown.{id_of}

-- ---- slices of a log

pub between_length : (lo hi : ℕ) (log : List Message) → hi ≤ length log → length (messages_between lo hi log) ≡ hi - lo
between_length lo hi log l = length-drop lo (take hi log) ∙ ap (λ n. n - lo) (length-take-le hi log l)

-- where a log grows, what stood there stays
pub take_grown : (n : ℕ) (log more : List Message) → n ≤ length log → take n (log ++ more) ≡ take n log
take_grown zero log more l = refl
take_grown (suc n) [] more l = absurd (omega arith)
take_grown (suc n) (m ∷ log) more l = ap (λ ms. m ∷ ms) (take_grown n log more (omega arith))

pub between_grown : (lo hi : ℕ) (log more : List Message) → hi ≤ length log → messages_between lo hi (log ++ more) ≡ messages_between lo hi log
between_grown lo hi log more l = ap (drop lo) (take_grown hi log more l)

take_all : (log : List Message) → take (length log) log ≡ log
take_all [] = refl
take_all (m ∷ log) = ap (λ ms. m ∷ ms) (take_all log)

take_one_more : (log : List Message) (m : Message) → take (length log + 1) (log ++ m ∷ []) ≡ log ++ m ∷ []
take_one_more [] m = refl
take_one_more (k ∷ log) m = let e : suc (length log) + 1 ≡ suc (length log + 1) = omega arith in rw e (ap (λ ms. k ∷ ms) (take_one_more log m))

-- ---- the number of the last message

-- A row of the ring has forgotten nothing that it didn't receive, and received nothing that isn't in the log.
pub record IsRight (log : List Message) (r : Row) : Type 0 where
  pub forgot : r.forgot ≤ r.got
  pub got : r.got ≤ length log

pub got_kept : (log : List Message) (r : Row) → IsRight log r → got_of (kept_by log r) ≡ r.got
got_kept log r h = ap (λ n. r.forgot + n) (between_length r.forgot r.got log h.got) ∙ omega (arith, h.forgot)

pub last_sent_kept : (log : List Message) (r : Row) → IsRight log r → last_sent_now (kept_by log r) ≡ record { got = r.got; forgot = r.forgot }
last_sent_kept log r h = ap (λ n. record { got = n; forgot = r.forgot }) (got_kept log r h)

-- ---- publishing

pub kept_published : (log : List Message) (r : Row) (m : Message) → r.got ≡ length log → r.forgot ≤ r.got → kept_by (log ++ m ∷ []) (published_row r m) ≡ joined m (kept_by log r)
kept_published log r m e l =
    let upto : drop r.forgot (take (r.got + 1) (log ++ m ∷ [])) ≡ drop r.forgot (take r.got log) ++ m ∷ [] =
    ap (λ n. drop r.forgot (take (n + 1) (log ++ m ∷ []))) e
    ∙ ap (drop r.forgot) (take_one_more log m)
    ∙ drop-append-le r.forgot log (m ∷ []) (omega (arith, e))
    ∙ ap (λ ms. drop r.forgot ms ++ m ∷ []) (sym (ap (λ n. take n log) e ∙ take_all log)) in
    ap (λ ms. record { forgot = r.forgot; messages = ms; retired = r.retired; base = r.base }) upto

-- what a member keeps of an origin doesn't change where the log grows
pub kept_grown : (log more : List Message) (r : Row) → r.got ≤ length log → kept_by (log ++ more) r ≡ kept_by log r
kept_grown log more r l = ap (λ ms. record { forgot = r.forgot; messages = ms; retired = r.retired; base = r.base }) (between_grown r.forgot r.got log more l)

-- ---- putting

-- the line of an origin in a member's next packet is the ring's, where what was sent last isn't below what the member has forgotten
pub line_same : (fresh : Bool) (p : ℕ) (log : List Message) (r : Row) (last : Numbers) → IsRight log r → (fresh ≡ false → r.forgot ≤ last.got) → next_line fresh (p + 1) (kept_by log r) (last_sent_in last) ≡ line_for fresh log p (next_numbers fresh r last) last
line_same true p log r last h below =
    let all : drop (r.forgot - r.forgot) (messages_between r.forgot r.got log) ≡ messages_between r.forgot r.got log = drop_between r.forgot r.forgot r.got log (omega arith) in
    ap (λ n. cond (not (nat_eq n 0)) (Some (record { origin = as_id (p + 1); lo = r.forgot; messages = drop (r.forgot - r.forgot) (messages_between r.forgot r.got log); forgot = r.forgot })) None) (got_kept log r h)
    ∙ ap (λ ms. cond (not (nat_eq r.got 0)) (Some (record { origin = as_id (p + 1); lo = r.forgot; messages = ms; forgot = r.forgot })) None) all
line_same false p log r last h below =
    let lo : max r.forgot last.got ≡ last.got = omega (arith, below refl) in
    let rest : drop (last.got - r.forgot) (messages_between r.forgot r.got log) ≡ messages_between last.got r.got log = drop_between r.forgot last.got r.got log (below refl) in
    ap (λ n. cond (not (nat_eq n last.got && nat_eq r.forgot last.forgot)) (Some (record { origin = as_id (p + 1); lo = max r.forgot last.got; messages = drop (max r.forgot last.got - r.forgot) (messages_between r.forgot r.got log); forgot = r.forgot })) None) (got_kept log r h)
    ∙ ap (λ n. cond (not (nat_eq r.got last.got && nat_eq r.forgot last.forgot)) (Some (record { origin = as_id (p + 1); lo = n; messages = drop (n - r.forgot) (messages_between r.forgot r.got log); forgot = r.forgot })) None) lo
    ∙ ap (λ ms. cond (not (nat_eq r.got last.got && nat_eq r.forgot last.forgot)) (Some (record { origin = as_id (p + 1); lo = last.got; messages = ms; forgot = r.forgot })) None) rest

-- a line of the ring stays where the log grows
pub line_grown : (fresh : Bool) (log more : List Message) (p : ℕ) (k last : Numbers) → k.got ≤ length log → line_for fresh (log ++ more) p k last ≡ line_for fresh log p k last
line_grown fresh log more p k last l = ap (λ ms. cond (has_line_of fresh k last) (Some (record { origin = as_id (p + 1); lo = k.lo; messages = ms; forgot = k.forgot })) None) (between_grown k.lo k.got log more l)

-- ---- taking

-- What the numbers of a packet and the row that takes them have: no number falls, nothing is forgotten that wasn't received, and none
-- is above the length of the log. Of an origin that the member answers for:
pub record ComesRound (log : List Message) (r : Row) (k : Numbers) : Type 0 where
  pub lo : k.lo ≤ k.got
  pub forgot : r.forgot ≤ k.got
  pub retired : r.retired ≤ k.forgot
  pub got : k.got ≤ r.got
  pub within : k.got ≤ length log

-- and of another
pub record Arrives (log : List Message) (r : Row) (k : Numbers) : Type 0 where
  pub lo : k.lo ≤ r.got
  pub got : r.got ≤ k.got
  pub falls_not : r.forgot ≤ k.forgot
  pub forgot : k.forgot ≤ k.got
  pub within : k.got ≤ length log

-- the line that stands for numbers
abbrev pub whole_line : List Message → ℕ → Numbers → LineSeen
whole_line log p k = record { origin = as_id (p + 1); lo = k.lo; messages = messages_between k.lo k.got log; forgot = k.forgot }

got_is : (log : List Message) (p : ℕ) (k : Numbers) → k.lo ≤ k.got → k.got ≤ length log → got_in (whole_line log p k) ≡ k.got
got_is log p k l u = ap (λ n. k.lo + n) (between_length k.lo k.got log u) ∙ omega arith

four : (a b c d : Bool) → a ≡ true → b ≡ true → c ≡ true → d ≡ true → (a && b && c && d) ≡ true
four a b c d ea eb ec ed = rw (ea, eb, ec, ed) refl

not_above : (a b : ℕ) → a ≤ b → nat_le a b ≡ true
not_above a b l = grind (arith, nat_tests)

round_fits : (log : List Message) (p : ℕ) (r : Row) (k : Numbers) → IsRight log r → ComesRound log r k → fits true (kept_by log r) (whole_line log p k) ≡ true
round_fits log p r k h f =
    ap (λ n. nat_le k.lo n && nat_le r.forgot (got_in (whole_line log p k)) && nat_le (got_in (whole_line log p k)) n && nat_le r.retired k.forgot) (got_kept log r h)
    ∙ ap (λ n. nat_le k.lo r.got && nat_le r.forgot n && nat_le n r.got && nat_le r.retired k.forgot) (got_is log p k f.lo f.within)
    ∙ four (nat_le k.lo r.got) (nat_le r.forgot k.got) (nat_le k.got r.got) (nat_le r.retired k.forgot) (not_above k.lo r.got (omega (arith, f.lo, f.got))) (not_above r.forgot k.got f.forgot) (not_above k.got r.got f.got) (not_above r.retired k.forgot f.retired)

-- of what the member answers for, the packet's numbers have come round
pub accepted_round : (log : List Message) (p : ℕ) (r : Row) (k : Numbers) → IsRight log r → ComesRound log r k → accepted true (kept_by log r) (Some (whole_line log p k)) ≡ kept_by log (taken_row true log r k)
accepted_round log p r k h f =
    let c : LineSeen = whole_line log p k in
    rw (round_fits log p r k h f)
    (ap (λ n. record { forgot = n; messages = drop (n - r.forgot) (messages_between r.forgot r.got log); retired = k.forgot; base = r.base }) (got_is log p k f.lo f.within)
    ∙ ap (λ ms. record { forgot = k.got; messages = ms; retired = k.forgot; base = r.base }) (drop_between r.forgot k.got r.got log f.forgot))

pub arrival_fits : (log : List Message) (p : ℕ) (r : Row) (k : Numbers) → IsRight log r → Arrives log r k → fits false (kept_by log r) (whole_line log p k) ≡ true
arrival_fits log p r k h f =
    ap (λ n. nat_le k.lo n && nat_le n (got_in (whole_line log p k)) && nat_le r.forgot k.forgot && nat_le k.forgot (got_in (whole_line log p k))) (got_kept log r h)
    ∙ ap (λ n. nat_le k.lo r.got && nat_le r.got n && nat_le r.forgot k.forgot && nat_le k.forgot n) (got_is log p k (omega (arith, f.lo, f.got)) f.within)
    ∙ four (nat_le k.lo r.got) (nat_le r.got k.got) (nat_le r.forgot k.forgot) (nat_le k.forgot k.got) (not_above k.lo r.got f.lo) (not_above r.got k.got f.got) (not_above r.forgot k.forgot f.falls_not) (not_above k.forgot k.got f.forgot)

-- of the rest, what it doesn't have arrives
pub accepted_arrival : (log : List Message) (p : ℕ) (r : Row) (k : Numbers) → IsRight log r → Arrives log r k → accepted false (kept_by log r) (Some (whole_line log p k)) ≡ kept_by log (taken_row false log r k)
accepted_arrival log p r k h f =
    let from : max k.lo (got_of (kept_by log r)) ≡ r.got = ap (λ n. max k.lo n) (got_kept log r h) ∙ omega (arith, f.lo) in
    let both : drop (k.forgot - r.forgot) (messages_between r.forgot r.got log ++ drop (max k.lo (got_of (kept_by log r)) - k.lo) (messages_between k.lo k.got log)) ≡ messages_between k.forgot k.got log =
    ap (λ n. drop (k.forgot - r.forgot) (messages_between r.forgot r.got log ++ drop (n - k.lo) (messages_between k.lo k.got log))) from
    ∙ ap (λ ms. drop (k.forgot - r.forgot) (messages_between r.forgot r.got log ++ ms)) (drop_between k.lo r.got k.got log f.lo)
    ∙ ap (drop (k.forgot - r.forgot)) (between_joined r.forgot r.got k.got log h.forgot f.got f.within)
    ∙ drop_between r.forgot k.forgot k.got log f.falls_not in
    rw (arrival_fits log p r k h f) (ap (λ ms. record { forgot = k.forgot; messages = ms; retired = r.retired; base = r.base }) both)

-- ---- a first packet

-- What the numbers of a first packet have: it begins where its sender has forgotten, nothing is forgotten in it that wasn't received,
-- and none is above the length of the log.
pub record BeginsFirst (log : List Message) (k : Numbers) : Type 0 where
  pub lo : k.lo ≤ k.forgot
  pub forgot : k.forgot ≤ k.got
  pub within : k.got ≤ length log

first_begins : (log : List Message) (p : ℕ) (k : Numbers) → BeginsFirst log k → begins (whole_line log p k) ≡ true
first_begins log p k f =
    ap (λ n. nat_le k.lo k.forgot && nat_le k.forgot n) (got_is log p k (omega (arith, f.lo, f.forgot)) f.within)
    ∙ and_from (nat_le k.lo k.forgot) (nat_le k.forgot k.got) (not_above k.lo k.forgot f.lo) (not_above k.forgot k.got f.forgot)

-- a member that has retired nothing begins with the messages of its line
pub begun_first : (log : List Message) (p : ℕ) (r : Row) (k : Numbers) → r.retired ≡ 0 → BeginsFirst log k → begun (Some (whole_line log p k)) ≡ kept_by log (begun_row r k)
begun_first log p r k none f =
    ap (λ b. cond b (record { forgot = k.forgot; messages = drop (k.forgot - k.lo) (messages_between k.lo k.got log); retired = 0; base = got_in (whole_line log p k) }) no_kept) (first_begins log p k f)
    ∙ ap (λ n. record { forgot = k.forgot; messages = drop (k.forgot - k.lo) (messages_between k.lo k.got log); retired = 0; base = n }) (got_is log p k (omega (arith, f.lo, f.forgot)) f.within)
    ∙ ap (λ ms. record { forgot = k.forgot; messages = ms; retired = 0; base = k.got }) (drop_between k.lo k.forgot k.got log f.lo)
    ∙ ap (λ n. record { forgot = k.forgot; messages = messages_between k.forgot k.got log; retired = n; base = k.got }) (sym none)

-- where it has none, nothing was received of the origin
pub begun_nothing : (log : List Message) (r : Row) (k : Numbers) → r.retired ≡ 0 → k.got ≡ 0 → BeginsFirst log k → begun None ≡ kept_by log (begun_row r k)
begun_nothing log r k none got f =
    let forgot : k.forgot ≡ 0 = omega (arith, f.forgot, got) in
    sym (ap (λ n. kept_by log (record r { got = n; forgot = k.forgot; base = k.got })) got
    ∙ ap (λ n. kept_by log (record r { got = 0; forgot = n; base = k.got })) forgot
    ∙ ap (λ n. record { forgot = 0; messages = []; retired = r.retired; base = n }) got
    ∙ ap (λ n. record { forgot = 0; messages = []; retired = n; base = 0 }) none)

-- ---- what it brings

get_drop : (lo k : ℕ) (ms : List Message) (d : Message) → get_or (drop lo ms) k d ≡ get_or ms (lo + k) d
get_drop lo k ms d = grind (arith, common_steps)

get_take : (n k : ℕ) (ms : List Message) (d : Message) → k < n → get_or (take n ms) k d ≡ get_or ms k d
get_take n k ms d l = grind (arith, common_steps)

-- messages of a line are those of the log
pub taken_same : (p lo hi a b : ℕ) (log : List Message) → lo ≤ a → b ≤ hi → taken_between p lo (messages_between lo hi log) a b ≡ taken_between p 0 log a b
taken_same p lo hi a b log la bh = map-range_same_from _ _ a (b - a)
    (λ k ka kb. ap (λ m. record { origin = id_of p; number = k + 1; message = m })
    (get_drop lo (k - lo) (take hi log) no_message ∙ ap (λ n. get_or (take hi log) n no_message) (omega arith) ∙ get_take hi k log no_message (omega arith) ∙ ap (λ n. get_or log n no_message) here))
  where
    here : {k : ℕ} → k ≡ k - 0
    here = omega arith

pub news_arrive : (log : List Message) (p : ℕ) (r : Row) (k : Numbers) → IsRight log r → Arrives log r k → line_news false p (kept_by log r) (Some (whole_line log p k)) ≡ taken_of false p log r.got k
news_arrive log p r k h f =
    rw (arrival_fits log p r k h f)
    (ap (λ n. taken_between p k.lo (messages_between k.lo k.got log) (max k.lo n) (got_in (whole_line log p k))) (got_kept log r h)
    ∙ ap (λ n. taken_between p k.lo (messages_between k.lo k.got log) (max k.lo r.got) n) (got_is log p k (omega (arith, f.lo, f.got)) f.within)
    ∙ taken_same p k.lo k.got (max k.lo r.got) k.got log (omega arith) (omega arith))

-- what comes round brings nothing
pub no_round : (log : List Message) (p : ℕ) (r : Row) (k : Numbers) → IsRight log r → ComesRound log r k → line_news true p (kept_by log r) (Some (whole_line log p k)) ≡ taken_of true p log r.got k
no_round log p r k h f = rw (round_fits log p r k h f) refl

-- where the packet brings nothing new, there is none
pub no_news : (own : Bool) (p : ℕ) (log : List Message) (got : ℕ) (k : Numbers) → (own ≡ false → got ≡ k.got) → taken_of own p log got k ≡ []
no_news true p log got k e = refl
no_news false p log got k e =
    let none : k.got - max k.lo got ≡ 0 = omega (arith, e refl) in
    ap (λ n. map (taken_at p 0 log) (range_with_len (max k.lo got) n)) none
