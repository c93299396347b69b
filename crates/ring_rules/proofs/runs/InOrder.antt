-- What a member hears of a publisher is the publisher's log, in order.
use Rattle.std.proofs.Common.{◌≡◌, ◌≢◌, ℕ, zero, suc, ◌+◌, ◌<◌, ◌≤◌, max, Bool, true, false, List, [], ◌∷◌, ◌++◌, length, take, drop, None, refl, sym, ap, subst, ◌∙◌, ⊎_elim, arith, get_or}
use Rattle.std.proofs.Math.Nat.{max-eq_right}
use Rattle.std.proofs.lemmas.Bool.{cases_eq, cases_lt}
use Rattle.std.proofs.lemmas.List.{take-append-le, drop-append-le, take-take, take_all, length_push, drop_all, length-take-le}
use Rattle.queue_core.specs.declared.message.Message.{Message}
use Rattle.ring_names.specs.declared.numbers.CreditSpec.{CreditSpec}
use Rattle.ring_rules.proofs.events.Leaves.{come_member}
use Rattle.ring_rules.specs.declared.numbers.Numbers.{Numbers}
use Rattle.ring_rules.specs.Rows.{Row, published_row, messages_between, taken_row, no_row}
use Rattle.group_view.specs.Change.{AreOpeningNames}
use Rattle.group_view.proofs.Lists.{between_joined}
use Rattle.ring_rules.specs.Machine.{World, no_member, row_at, numbers_at, member_at, link_at, view_in, oldest}
use Rattle.ring_rules.specs.Step.{size, log_of, put_on, gain_on, published, publish_at, is_owned, taker, take_from, stopped, stop_at, open_to, opening, begun_row, begun, begin_from, come_to}
use Rattle.ring_rules.proofs.events.WhatRefuses.{MayTake}
use Rattle.ring_rules.specs.Act.{Act, refusal, effect, IsRun, last}
use Rattle.ring_rules.specs.Lawful.{row_of, NumbersAreWithin, NeverFalls, HearsInOrder, HearsWhatFollows}
use Rattle.ring_rules.proofs.rings.Lists.{at_set}
use Rattle.ring_rules.proofs.walks.Take.{taken_packet}
use Rattle.ring_rules.proofs.invariants.Happens.{IsGood, opening_good, act_good, reached_good}
use Rattle.ring_rules.proofs.events.First.{first_row}
use Rattle.ring_rules.proofs.events.Parts.{Part, cast_part, put_part, take_part, gain_part, stop_part, open_part, still_part, act_keeps, IsSameRows, member_same, begin_part, come_part, KnowsNothing, links_same}
use Rattle.ring_rules.proofs.runs.OwnLogs.{IsLogged, oldest_within, taker_row, take_log, cast_log, cast_log_other, published_at, part_logged, opening_logged, begin_log, begun_at, come_log, joiner_rows}
use Rattle.ring_rules.proofs.runs.NeverFalls.{taker_rises_all, open_same, run_never_falls}

-- before a take, no packet begins after what the taker has got, of the origins that the taker doesn't answer for
abbrev pub HasNoGap : World → Type 0
HasNoGap w = (y s : ℕ) → MayTake w y s → (p : ℕ) → 1 ≤ p → p < size w → is_owned (view_in w (member_at w y).version) y (link_at w s).sender p ≡ false → (numbers_at (oldest (link_at w s)) p).lo ≤ (row_at (member_at w y) p).got

-- a row has heard this log from its base up to its number
pub record HasHeard (log : List Message) (r : Row) : Type 0 where
  pub heard : r.heard ≡ messages_between r.base r.got log
  pub base : r.base ≤ r.got

-- every row has
abbrev pub EachHasHeard : World → Type 0
EachHasHeard w = (q p : ℕ) → HasHeard (log_of w p) (row_of w q p)

-- ---- lists

-- nothing stands between a number and itself
pub between_none : (n : ℕ) (log : List Message) → n ≤ length log → messages_between n n log ≡ []
between_none n log l = drop_all n (take n log) (omega (arith, length-take-le n log l))

-- what is heard by a later state, of one that had got something or had the base: the log that grew, from the number before to
-- the number after
pub heard_later : (heard heard' log log' : List Message) (base base' got got' : ℕ) → heard ≡ messages_between base got log → heard' ≡ messages_between base' got' log' → base ≤ got → base' ≤ got' → got ≤ length log → got' ≤ length log' → take (length log) log' ≡ log → got ≤ got' → (0 < got → base' ≡ base) → heard' ≡ heard ++ messages_between (max got base') got' log'
heard_later heard heard' log log' base base' got got' e e' b b' l l' grows le keeps = ⊎_elim
    (λ (none : got < 1).
    let zero_is : got ≡ 0 = omega arith in
    let nothing : heard ≡ [] = e ∙ (let same : base ≡ got = omega arith in ap (λ n. messages_between n got log) same ∙ between_none got log l) in
    e' ∙ ap (λ n. messages_between n got' log') (let is : base' ≡ max got base' = omega arith in is) ∙ ap (λ xs. xs ++ messages_between (max got base') got' log') (sym nothing))
    (λ (some : 1 ≤ got).
    let same : base' ≡ base = keeps (omega arith) in
    let front : messages_between base got log' ≡ heard = ap (drop base) (sym (take-take got (length log) log' l) ∙ ap (take got) grows) ∙ sym e in
    e' ∙ ap (λ n. messages_between n got' log') same ∙ sym (between_joined base got got' log' b le l') ∙ ap (λ xs. xs ++ messages_between got got' log') front
    ∙ ap (λ n. heard ++ messages_between n got' log') (let is : got ≡ max got base' = omega arith in is))
    (cases_lt got 1)

-- ---- parts of events

-- what leaves rows and logs
pub same_order : (w w' : World) → IsSameRows w w' → EachHasHeard w → EachHasHeard w'
same_order w w' k h q p = subst (λ rs. HasHeard (log_of w' p) (get_or rs p no_row)) (sym (k.rows q)) (subst (λ log. HasHeard log (row_of w q p)) (sym (k.log p)) (h q p))

-- a publisher has heard its whole log, with the message that it publishes
pub published_heard : (r : Row) (log : List Message) (m : Message) → r.got ≡ length log → HasHeard log r → HasHeard (log ++ m ∷ []) (published_row r m)
published_heard r log m whole h = record {
  heard =
      ap (λ xs. xs ++ m ∷ []) (h.heard ∙ ap (drop r.base) (take_all r.got log (omega arith)))
      ∙ sym (drop-append-le r.base log (m ∷ []) (omega (arith, h.base, whole)))
      ∙ ap (drop r.base) (sym (take_all (r.got + 1) (log ++ m ∷ []) (omega (arith, length_push log m))));
  base = omega (arith, h.base);
}

-- a log that grows
pub longer_heard : (r : Row) (log more : List Message) → r.got ≤ length log → HasHeard log r → HasHeard (log ++ more) r
longer_heard r log more l h = record { heard = h.heard ∙ ap (drop r.base) (sym (take-append-le r.got log more l)); base = h.base }

-- a cast
pub cast_order : (w : World) (x : ℕ) (m : Message) → 1 ≤ x → x < size w → IsLogged w → EachHasHeard w → EachHasHeard (publish_at w x m)
cast_order w x m some lt l h q p =
    let rows_lt : x < length (member_at w x).rows = omega (arith, l.sized x some lt) in
    at_set (λ k z. HasHeard (log_of (publish_at w x m) p) (row_at z p)) w.members x q (published x m (member_at w x)) no_member lt
    (published_at (HasHeard (log_of (publish_at w x m) p)) w x p m rows_lt
    (λ is. subst (λ log. HasHeard log (published_row (row_of w x x) m)) (sym (ap (log_of (publish_at w x m)) is ∙ cast_log w x m lt)) (published_heard (row_of w x x) (log_of w x) m (l.own x) (h x x)))
    (λ _. longer x))
    (λ _. longer q)
  where
    -- a row that stays has heard as much of a log that grew
    longer : (k : ℕ) → HasHeard (log_of (publish_at w x m) p) (row_of w k p)
    longer k = ⊎_elim
        (λ (is : p ≡ x).
        let log : log_of (publish_at w x m) p ≡ log_of w p ++ m ∷ [] = ap (log_of (publish_at w x m)) is ∙ cast_log w x m lt ∙ ap (λ j. log_of w j ++ m ∷ []) (sym is) in
        subst (λ xs. HasHeard xs (row_of w k p)) (sym log) (longer_heard (row_of w k p) (log_of w p) (m ∷ []) (l.within.rows k p).got (h k p)))
        (λ (d : p ≢ x). subst (λ xs. HasHeard xs (row_of w k p)) (sym (cast_log_other w x p m d)) (h k p))
        (cases_eq p x)

-- what a packet brings goes on where the taker is
pub taken_heard : (own : Bool) (log : List Message) (r : Row) (k : Numbers) → (own ≡ false → k.lo ≤ r.got) → r.got ≤ (taken_row own log r k).got → k.got ≤ length log → HasHeard log r → HasHeard log (taken_row own log r k)
taken_heard true log r k gap rises within h = record { heard = h.heard; base = h.base }
taken_heard false log r k gap rises within h =
    let from : max k.lo r.got ≡ r.got = max-eq_right {n = k.lo} {m = r.got} (gap refl) in
    record {
      heard = ap (λ a. r.heard ++ messages_between a k.got log) from ∙ ap (λ xs. xs ++ messages_between r.got k.got log) h.heard ∙ between_joined r.base r.got k.got log h.base rises within;
      base = omega (arith, h.base, rises);
    }

-- the first packet brings nothing
pub begun_heard : (log : List Message) (r : Row) (k : Numbers) → r.got ≡ 0 → k.got ≤ length log → HasHeard log r → HasHeard log (begun_row r k)
begun_heard log r k none within h = record {
  heard = h.heard ∙ ap (drop r.base) (ap (λ n. take n log) none) ∙ nothing r.base ∙ sym (between_none k.got log within);
  base = omega arith;
}
  where
    nothing : (n : ℕ) → drop n (take 0 log) ≡ []
    nothing zero = refl
    nothing (suc n) = refl

-- nobody has heard anything
pub no_row_heard : (log : List Message) → HasHeard log no_row
no_row_heard log = record { heard = refl; base = omega arith }

-- a first take
pub begin_order : (w : World) (y s : ℕ) → y < size w → KnowsNothing (member_at w y) → IsLogged w → EachHasHeard w → EachHasHeard (begin_from w y s)
begin_order w y s lt none l h q p =
    subst (λ log. HasHeard log (row_of (begin_from w y s) q p)) (sym (begin_log w y s p lt))
    (at_set (λ k z. HasHeard (log_of w p) (row_at z p)) w.members y q (begun (size w) (member_at w y) (taken_packet w s)) no_member lt
    (begun_at (HasHeard (log_of w p)) w y s p
    (λ _. begun_heard (log_of w p) (row_of w y p) (numbers_at (taken_packet w s) p) (none p).0 (oldest_within (length (log_of w p)) p (link_at w s).packets (l.within.packets s p)).got (h y p))
    (λ _. no_row_heard (log_of w p)))
    (λ _. h q p))

-- one that comes
pub come_order : (w : World) (m : ℕ) (name : List ℕ) → EachHasHeard w → EachHasHeard (come_to w m name)
come_order w m name h q p =
    subst (λ log. HasHeard log (row_of (come_to w m name) q p)) (sym (come_log w m name p))
    (come_member w m name q (λ i a. HasHeard (log_of w p) (row_at a p))
    (joiner_rows w name p (HasHeard (log_of w p)) (record { heard = refl; base = omega arith }) (λ _. no_row_heard (log_of w p)))
    (h q p))

-- a take, where its packet has no gap
pub take_order : (w : World) (y s : ℕ) → MayTake w y s → IsGood w → HasNoGap w → IsLogged w → EachHasHeard w → EachHasHeard (take_from w y s)
take_order w y s m g gap l h q p =
    subst (λ log. HasHeard log (row_of (take_from w y s) q p)) (sym (take_log w y s p m.is_member))
    (at_set (λ k z. HasHeard (log_of w p) (row_at z p)) w.members y q (taker w y s) no_member m.is_member
    (taker_row (HasHeard (log_of w p)) w y s p
    (λ lt. taken_heard (is_owned (view_in w (member_at w y).version) y (link_at w s).sender p) (log_of w p) (row_of w y p) (numbers_at (taken_packet w s) p)
    (λ own. no_gap p lt own) (taker_rises_all w y s p g.inv l m lt).got (oldest_within (length (log_of w p)) p (link_at w s).packets (l.within.packets s p)).got (h y p))
    (λ ge. no_row_heard (log_of w p)))
    (λ _. h q p))
  where
    no_gap : (p : ℕ) → p < size w → is_owned (view_in w (member_at w y).version) y (link_at w s).sender p ≡ false → (numbers_at (taken_packet w s) p).lo ≤ (row_of w y p).got
    no_gap zero lt own =
        let within : NumbersAreWithin (length (log_of w 0)) (numbers_at (taken_packet w s) 0) = oldest_within (length (log_of w 0)) 0 (link_at w s).packets (l.within.packets s 0) in
        omega (arith, within.lo, ap length l.nobody)
    no_gap (suc p) lt own = gap y s m (suc p) (omega arith) lt own

-- what is known where a take happens
pub record IsGapless (w : World) : Type 0 where
  pub good : IsGood w
  pub no_gap : HasNoGap w

-- logs, and what is heard of them
pub record IsHeard (w : World) : Type 0 where
  pub logged : IsLogged w
  pub order : EachHasHeard w

-- any part of an event
pub part_order : (w w' : World) → Part IsGapless w w' → IsLogged w → EachHasHeard w → EachHasHeard w'
part_order w w' (cast_part x m some lt e) l h = subst EachHasHeard (sym e) (cast_order w x m some lt l h)
part_order w w' (put_part x o lt free e) l h = subst EachHasHeard (sym e) (same_order w (put_on w x o) (links_same w (put_on w x o).links) h)
part_order w w' (take_part y s some m lt g e) l h = subst EachHasHeard (sym e) (take_order w y s m g.good g.no_gap l h)
part_order w w' (begin_part y s some m lt none e) l h = subst EachHasHeard (sym e) (begin_order w y s m.is_member none l h)
part_order w w' (come_part m name e) l h = subst EachHasHeard (sym e) (come_order w m name h)
part_order w w' (gain_part o lt some e) l h = subst EachHasHeard (sym e) (same_order w (gain_on w o) (links_same w (gain_on w o).links) h)
part_order w w' (stop_part x lt e) l h = subst EachHasHeard (sym e) (same_order w (stop_at w x) (member_same w x (stopped (member_at w x)) refl refl) h)
part_order w w' (open_part x z e) l h = subst EachHasHeard (sym e) (same_order w (open_to w x z) (open_same w x z) h)
part_order w w' (still_part k) l h = same_order w w' k.same h

-- and the logs with it
pub part_heard : (w w' : World) → Part IsGapless w w' → IsHeard w → IsHeard w'
part_heard w w' k h = record { logged = part_logged IsGapless w w' k h.logged; order = part_order w w' k h.logged h.order }

-- ---- events and runs, where no take has a gap

-- one event
pub act_heard : (w : World) (e : Act) → IsGood w → HasNoGap w → refusal w e ≡ None → IsHeard w → IsHeard (effect w e)
act_heard w e g gap r h = act_keeps IsGapless IsHeard part_heard w e g (record { good = g; no_gap = gap }) r h

-- all events of a run
pub run_heard : (w : World) (es : List Act) → IsGood w → ((later : List Act) → IsRun w later → HasNoGap (last w later)) → IsRun w es → IsHeard w → IsHeard (last w es)
run_heard w [] g gap r h = h
run_heard w (e ∷ es) g gap r h =
    run_heard (effect w e) es (act_good w e g r.0) (λ later k. gap (e ∷ later) (r.0, k)) r.1 (act_heard w e g (gap [] tt) r.0 h)

-- the opening
pub opening_heard : (credit : CreditSpec) (names : List (List ℕ)) → IsHeard (opening credit names)
opening_heard credit names = record {
  logged = opening_logged credit names;
  order = λ q p. subst (HasHeard (log_of (opening credit names) p)) (sym (first_row credit names q p)) (no_row_heard (log_of (opening credit names) p));
}

-- in every state of every run each member hears in order
pub run_hears_in_order : (credit : CreditSpec) (names : List (List ℕ)) (es : List Act) → AreOpeningNames names → ((later : List Act) → IsRun (opening credit names) later → HasNoGap (last (opening credit names) later)) → IsRun (opening credit names) es → HearsInOrder (last (opening credit names) es)
run_hears_in_order credit names es are gap r q p = ((run_heard (opening credit names) es (opening_good credit names are) gap r (opening_heard credit names)).order q p).heard

-- ---- what follows

-- a run and then another
pub last_append : (w : World) (es more : List Act) → last w (es ++ more) ≡ last (last w es) more
last_append w [] more = refl
last_append w (e ∷ es) more = last_append (effect w e) es more

-- both are one
pub run_append : (w : World) (es more : List Act) → IsRun w es → IsRun (last w es) more → IsRun w (es ++ more)
run_append w [] more r k = k
run_append w (e ∷ es) more r k = (r.0, run_append (effect w e) es more r.1 k)

-- between two states
pub follows_heard : (w w' : World) → IsHeard w → IsHeard w' → NeverFalls w w' → HearsWhatFollows w w'
follows_heard w w' h h' f q p =
    heard_later (row_of w q p).heard (row_of w' q p).heard (log_of w p) (log_of w' p) (row_of w q p).base (row_of w' q p).base (row_of w q p).got (row_of w' q p).got (h.order q p).heard (h'.order q p).heard (h.order q p).base (h'.order q p).base (h.logged.within.rows q p).got (h'.logged.within.rows q p).got (f.logs p) (f.got q p) (f.base q p)

-- and what a member hears later is what follows in the log
pub run_hears_what_follows : (credit : CreditSpec) (names : List (List ℕ)) (es later : List Act) → AreOpeningNames names → ((later : List Act) → IsRun (opening credit names) later → HasNoGap (last (opening credit names) later)) → IsRun (opening credit names) es → IsRun (last (opening credit names) es) later → HearsWhatFollows (last (opening credit names) es) (last (last (opening credit names) es) later)
run_hears_what_follows credit names es later are gap r k =
    let w : World = last (opening credit names) es in
    let now : IsHeard w = run_heard (opening credit names) es (opening_good credit names are) gap r (opening_heard credit names) in
    follows_heard w (last w later) now
    (run_heard w later (reached_good credit names es are r)
    (λ more j. subst HasNoGap (last_append (opening credit names) es more) (gap (es ++ more) (run_append (opening credit names) es more r j))) k now)
    (run_never_falls credit names es later are r k)
