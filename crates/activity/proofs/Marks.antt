-- What lines carry and change, in numbers and in messages of a log.
use Rattle.std.proofs.Common.{◌≡◌, ℕ, ◌+◌, ◌-◌, ◌≤◌, Bool, true, false, cond, List, ◌++◌, length, take, drop, max, Some, None, is_some, refl, sym, ap, subst, ◌∙◌, arith, length-append, length-drop}
use Rattle.std.proofs.lemmas.Bool.{false≢true}
use Rattle.std.specs.Option.{option_map_or}
use Rattle.std.proofs.lemmas.List.{drop-drop}
use Rattle.pending_store.specs.Store.{messages_between}
use Rattle.queue_core.specs.declared.message.Message.{Message}
use Rattle.activity.specs.Kept.{Kept, got_of}
use Rattle.activity.specs.LastSent.{LastSent}
use Rattle.activity.specs.Packets.{LineSeen, got_in}
use Rattle.activity.specs.Diff.{has_line, lo_of, line_from, next_line}
use Rattle.activity.specs.Plan.{fits, change_in, change_of, changed, accepted}
use Rattle.activity.specs.Laws.{Marks, marks_of, taken_marks, IsPartOf, IsLineOf}
use Rattle.activity.proofs.Fits.{IsReceived, WentRound, received, went_round}
use Rattle.group_view.specs.View.{as_id}
use Rattle.group_view.proofs.Lists.{between_joined}

-- a line that is used makes its change
pub accepted_used : (own : Bool) (k : Kept) (c : LineSeen) → fits own k c ≡ true → accepted own k (Some c) ≡ changed k c (change_in own k c)
accepted_used own k c h = ap (λ b. option_map_or (changed k c) (cond b (Some (change_in own k c)) None) k) h

pub accepted_passed : (own : Bool) (k : Kept) (c : LineSeen) → fits own k c ≡ false → accepted own k (Some c) ≡ k
accepted_passed own k c h = ap (λ b. option_map_or (changed k c) (cond b (Some (change_in own k c)) None) k) h

pub planned : (own : Bool) (k : Kept) (c : LineSeen) → fits own k c ≡ true → change_of own k c ≡ Some (change_in own k c)
planned own k c h = ap (λ b. cond b (Some (change_in own k c)) None) h

-- where the next line begins
pub lo_within : (first : Bool) (s : Kept) (t : LastSent) → t.got ≤ got_of s → (s.forgot ≤ lo_of first s t) × (lo_of first s t ≤ got_of s)
lo_within true s t h = (omega arith, omega arith)
lo_within false s t h = (omega arith, omega arith)

-- the next line, where there is one
pub next_is : (first : Bool) (p : ℕ) (s : Kept) (t : LastSent) (c : LineSeen) → next_line first p s t ≡ Some c → c ≡ line_from (lo_of first s t) (as_id p) s
next_is first p s t c h = by (has_line first s t) h
  where
    by : (b : Bool) → cond b (Some (line_from (lo_of first s t) (as_id p) s)) None ≡ Some c → c ≡ line_from (lo_of first s t) (as_id p) s
    by true h = ap (λ o. option_map_or (λ x. x) o c) (sym h)
    by false h = absurd (false≢true (ap is_some h))

-- it carries the sender's numbers
pub line_got : (lo p : ℕ) (s : Kept) → s.forgot ≤ lo → lo ≤ got_of s → got_in (line_from lo (as_id p) s) ≡ got_of s
line_got lo p s a b = omega (arith, length-drop (lo - s.forgot) s.messages)

-- the numbers after a line that is used
abbrev pub line_marks : Bool → Kept → LineSeen → Marks
line_marks true k c = record { got = got_of k; forgot = got_in c; retired = c.forgot }
line_marks false k c = record { got = got_in c; forgot = c.forgot; retired = k.retired }

-- what is left of the messages ends with the last number: where a line comes round
left_round : (k : Kept) (c : LineSeen) → fits true k c ≡ true → WentRound k c (got_in c) c.forgot × (got_in c + length (drop (got_in c - k.forgot) k.messages) ≡ got_of k)
left_round k c h =
    let r : WentRound k c (got_in c) c.forgot = went_round true k c c.origin (got_in c) c.forgot (planned true k c h) in
    (r, omega (arith, r.forgot, r.got, length-drop (got_in c - k.forgot) k.messages))

-- and where it is received
left_received : (k : Kept) (c : LineSeen) → fits false k c ≡ true
    → IsReceived k c (max c.lo (got_of k)) (got_in c) c.forgot × (c.forgot + length (drop (c.forgot - k.forgot) (k.messages ++ drop (max c.lo (got_of k) - c.lo) c.messages)) ≡ got_in c)
left_received k c h =
    let r : IsReceived k c (max c.lo (got_of k)) (got_in c) c.forgot = received false k c c.origin (max c.lo (got_of k)) (got_in c) c.forgot (planned false k c h) in (
      r,
      omega (
        arith,
        r.lo,
        r.from,
        r.got,
        r.forgot,
        r.within,
        length-drop (c.forgot - k.forgot) (k.messages ++ drop (max c.lo (got_of k) - c.lo) c.messages),
        length-append k.messages (drop (max c.lo (got_of k) - c.lo) c.messages),
        length-drop (max c.lo (got_of k) - c.lo) c.messages,
      ),
    )

pub marks_kept : (own : Bool) (k : Kept) (c : LineSeen) → fits own k c ≡ true → marks_of (accepted own k (Some c)) ≡ line_marks own k c
marks_kept true k c h = ap marks_of (accepted_used true k c h) ∙ ap (λ m. record { got = m; forgot = got_in c; retired = c.forgot }) (left_round k c h).1
marks_kept false k c h = ap marks_of (accepted_used false k c h) ∙ ap (λ m. record { got = m; forgot = c.forgot; retired = k.retired }) (left_received k c h).1

-- against the sender whose numbers it carries
pub marks_taken : (own : Bool) (k : Kept) (c : LineSeen) (s : Kept) → fits own k c ≡ true → got_in c ≡ got_of s → c.forgot ≡ s.forgot → marks_of (accepted own k (Some c)) ≡ taken_marks own (marks_of k) s
marks_taken true k c s h g f = marks_kept true k c h ∙ (λ i. record { got = got_of k; forgot = g i; retired = f i })
marks_taken false k c s h g f = marks_kept false k c h ∙ (λ i. record { got = g i; forgot = f i; retired = k.retired })

pub marks_sent : (own first : Bool) (p : ℕ) (s k : Kept) (t : LastSent) (c : LineSeen) → next_line first p s t ≡ Some c → t.got ≤ got_of s → fits own k c ≡ true
    → marks_of (accepted own k (Some c)) ≡ taken_marks own (marks_of k) s
marks_sent own first p s k t c h le used =
    let w = lo_within first s t le in
    let is = next_is first p s t c h in
    marks_taken own k c s used (ap got_in is ∙ line_got (lo_of first s t) p s w.0 w.1) (ap (λ x. x.forgot) is)

-- ---- messages of a log

-- what is behind a number, of what is between two
pub drop_between : (lo a hi : ℕ) (log : List Message) → lo ≤ a → drop (a - lo) (messages_between lo hi log) ≡ messages_between a hi log
drop_between lo a hi log h =
    let e : lo + (a - lo) ≡ a = omega arith in
    drop-drop (a - lo) lo (take hi log) ∙ ap (λ n. drop n (take hi log)) e

pub line_part : (log : List Message) (lo p : ℕ) (s : Kept) → s.forgot ≤ lo → lo ≤ got_of s → IsPartOf log s → IsLineOf log (line_from lo (as_id p) s)
line_part log lo p s a b h = record {
  reached = subst (λ n. n ≤ length log) (sym (line_got lo p s a b)) h.reached;
  messages = ap (drop (lo - s.forgot)) h.messages ∙ drop_between s.forgot lo (got_of s) log a ∙ ap (λ n. messages_between lo n log) (sym (line_got lo p s a b));
}

pub line_sent : (log : List Message) (first : Bool) (p : ℕ) (s : Kept) (t : LastSent) (c : LineSeen) → next_line first p s t ≡ Some c → t.got ≤ got_of s → IsPartOf log s → IsLineOf log c
line_sent log first p s t c h le part =
    let w = lo_within first s t le in
    subst (IsLineOf log) (sym (next_is first p s t c h)) (line_part log (lo_of first s t) p s w.0 w.1 part)

-- what is kept of a log stays a part of it
pub part_taken : (log : List Message) (own : Bool) (k : Kept) (c : LineSeen) → IsLineOf log c → IsPartOf log k → IsPartOf log (accepted own k (Some c))
part_taken log own k c line part = by own (fits own k c) refl
  where
    by : (own b : Bool) → fits own k c ≡ b → IsPartOf log (accepted own k (Some c))
    by own false h = subst (IsPartOf log) (sym (accepted_passed own k c h)) part
    by true true h =
        let left = left_round k c h in
        subst (IsPartOf log) (sym (accepted_used true k c h)) (record {
          reached = subst (λ m. m ≤ length log) (sym left.1) part.reached;
          messages = ap (drop (got_in c - k.forgot)) part.messages ∙ drop_between k.forgot (got_in c) (got_of k) log left.0.forgot ∙ ap (λ m. messages_between (got_in c) m log) (sym left.1);
        })
    by false true h =
        let left = left_received k c h in
        let r : IsReceived k c (max c.lo (got_of k)) (got_in c) c.forgot = left.0 in
        let all : k.messages ++ drop (max c.lo (got_of k) - c.lo) c.messages ≡ messages_between k.forgot (got_in c) log =
        ap (λ m. k.messages ++ drop (m - c.lo) c.messages) r.from
        ∙ ap (λ xs. k.messages ++ xs) (ap (drop (got_of k - c.lo)) line.messages ∙ drop_between c.lo (got_of k) (got_in c) log r.lo)
        ∙ ap (λ xs. xs ++ messages_between (got_of k) (got_in c) log) part.messages
        ∙ between_joined k.forgot (got_of k) (got_in c) log (omega arith) r.got line.reached in
        subst (IsPartOf log) (sym (accepted_used false k c h)) (record {
          reached = subst (λ m. m ≤ length log) (sym left.1) line.reached;
          messages = ap (drop (c.forgot - k.forgot)) all ∙ drop_between k.forgot c.forgot (got_in c) log r.forgot ∙ ap (λ m. messages_between c.forgot m log) (sym left.1);
        })
