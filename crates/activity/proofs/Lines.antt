-- What a packet does, line by line: its lines have different origins.
use Rattle.std.proofs.Common.{◌≡◌, ℕ, ◌+◌, Bool, true, false, cond, nat_eq, List, [], ◌∷◌, ◌++◌, drop, Option, Some, None, is_some, refl, sym, ap, subst, ◌∙◌}
use Rattle.std.proofs.lemmas.Bool.{false≢true}
use Rattle.std.proofs.lemmas.List.{drop-drop}
use Rattle.std.specs.List.{cons_option}
use Rattle.std.specs.Option.{option_map_or}
use Rattle.group_view.specs.Ring.{is_in, AreDistinct}
use Rattle.group_view.proofs.Truth.{first_false, later_false}
use Rattle.group_view.proofs.Rings.{nat_eq-is, nat_eq-same, sym_test}
use Rattle.activity.specs.declared.change.Change.{Change}
use Rattle.activity.specs.Kept.{Kept, KeptRow, kept_of, has_room, KeepsRows}
use Rattle.activity.specs.LastSent.{LastSentRow, sent_of, has_row, KeepsSent}
use Rattle.activity.specs.Packets.{LineSeen, origins, line_of, last_sent_in, noted, HasRows}
use Rattle.activity.specs.Plan.{fits, change_in, change_of, changes_of, changed, accepted, origin_of, arrivals, AreReady, first_for}

-- ---- lines of different origins

-- an origin that no line has has no line
pub line_absent : (p : ℕ) (lines : List LineSeen) → is_in p (origins lines) ≡ false → line_of lines p ≡ None
line_absent p [] h = refl
line_absent p (c ∷ lines) h =
    ap (λ b. cond b (Some c) (line_of lines p)) (first_false (nat_eq p c.origin.0) (is_in p (origins lines)) h)
    ∙ line_absent p lines (later_false (nat_eq p c.origin.0) (is_in p (origins lines)) h)

-- the first line is done: what holds of the lines from it on holds of those behind it
module _ {K : Type 0} (g : Option LineSeen → K → K) (none : (k : K) → g None k ≡ k) where
  pub line_done : (x : LineSeen) (rest : List LineSeen) (p : ℕ) (k k' t : K) → is_in x.origin.0 (origins rest) ≡ false
      → g (line_of (x ∷ rest) p) k ≡ t → k' ≡ cond (nat_eq p x.origin.0) (g (Some x) k) k → g (line_of rest p) k' ≡ t
  line_done x rest p k k' t apart h e = by (nat_eq p x.origin.0) refl h e
    where
      by : (b : Bool) → nat_eq p x.origin.0 ≡ b → g (cond b (Some x) (line_of rest p)) k ≡ t → k' ≡ cond b (g (Some x) k) k → g (line_of rest p) k' ≡ t
      by true at h e =
          let gone : line_of rest p ≡ None = line_absent p rest (subst (λ q. is_in q (origins rest) ≡ false) (sym (nat_eq-is p x.origin.0 at)) apart) in
          ap (λ o. g o k') gone ∙ none k' ∙ e ∙ h
      by false at h e = ap (g (line_of rest p)) e ∙ h

-- ---- what was sent

pub sent_trans : (a b c : List LastSentRow) → KeepsSent a b → KeepsSent b c → KeepsSent a c
sent_trans a b c h g = record { sent = λ p. g.sent p ∙ h.sent p; rows = λ p there. g.rows p (h.rows p there) }

pub has_rows_kept : (old new : List LastSentRow) (lines : List LineSeen) → ((p : ℕ) → has_row old p ≡ true → has_row new p ≡ true) → HasRows old lines → HasRows new lines
has_rows_kept old new [] k h = tt
has_rows_kept old new (c ∷ lines) k h = (k c.origin.0 h.0, has_rows_kept old new lines k h.1)

pub has_rows_push : (rows : List LastSentRow) (lines : List LineSeen) (c : LineSeen) → HasRows rows lines → has_row rows c.origin.0 ≡ true → HasRows rows (lines ++ c ∷ [])
has_rows_push rows [] c h there = (there, tt)
has_rows_push rows (x ∷ lines) c h there = (h.0, has_rows_push rows lines c h.1 there)

-- how far the rows are, while lines are noted: what is ahead makes of them what all lines make of the first ones
pub record Noting (start cur : List LastSentRow) (all rest : List LineSeen) : Type 0 where
  pub distinct : AreDistinct (origins rest)
  pub rows : HasRows cur rest
  pub ahead : (p : ℕ) → noted (line_of rest p) (sent_of cur p) ≡ noted (line_of all p) (sent_of start p)

pub noted_line : (start cur new : List LastSentRow) (all : List LineSeen) (x : LineSeen) (rest : List LineSeen) → Noting start cur all (x ∷ rest)
    → ((p : ℕ) → sent_of new p ≡ cond (nat_eq p x.origin.0) (last_sent_in x) (sent_of cur p)) → ((p : ℕ) → has_row cur p ≡ true → has_row new p ≡ true)
    → Noting start new all rest
noted_line start cur new all x rest h sent rows = record {
  distinct = h.distinct.1;
  rows = has_rows_kept cur new rest rows h.rows.1;
  ahead = λ p. line_done noted (λ _. refl) x rest p (sent_of cur p) (sent_of new p) (noted (line_of all p) (sent_of start p)) h.distinct.0 (h.ahead p) (sent p);
}

-- ---- what is kept

pub rows_trans : (a b c : List KeptRow) → KeepsRows a b → KeepsRows b c → KeepsRows a c
rows_trans a b c h g = record { kept = λ p. g.kept p ∙ h.kept p; room = λ p n there. g.room p n (h.room p n there) }

pub ready_kept : (old new : List KeptRow) (changes : List Change) → KeepsRows old new → AreReady old changes → AreReady new changes
ready_kept old new [] k h = tt
ready_kept old new (c ∷ changes) k h = (k.room (origin_of c).0 (arrivals c) h.0, ready_kept old new changes k h.1)

pub ready_push : (rows : List KeptRow) (changes : List Change) (c : Change) → AreReady rows changes → has_room rows (origin_of c).0 (arrivals c) ≡ true → AreReady rows (changes ++ c ∷ [])
ready_push rows [] c h there = (there, tt)
ready_push rows (x ∷ changes) c h there = (h.0, ready_push rows changes c h.1 there)

-- ---- the changes of lines

-- a change is of its line's origin
pub change_origin : (own : Bool) (k : Kept) (c : LineSeen) (ch : Change) → change_of own k c ≡ Some ch → origin_of ch ≡ c.origin
change_origin own k c ch h = by (fits own k c) h
  where
    of : (b : Bool) → origin_of (change_in b k c) ≡ c.origin
    of true = refl
    of false = refl

    by : (b : Bool) → cond b (Some (change_in own k c)) None ≡ Some ch → origin_of ch ≡ c.origin
    by true h = ap (λ o. option_map_or origin_of o c.origin) (sym h) ∙ of own
    by false h = absurd (false≢true (ap is_some h))

-- the first change is of no origin that no line has
pub first_absent : (own : ℕ → Bool) (rows : List KeptRow) (p : ℕ) (lines : List LineSeen) → is_in p (origins lines) ≡ false → first_for p (changes_of own rows lines) ≡ None
first_absent own rows p [] h = refl
first_absent own rows p (c ∷ lines) h = by (first_absent own rows p lines (later_false (nat_eq p c.origin.0) (is_in p (origins lines)) h)) (change_of (own c.origin.0) (kept_of rows c.origin.0) c) refl
  where
    by : first_for p (changes_of own rows lines) ≡ None → (o : Option Change) → change_of (own c.origin.0) (kept_of rows c.origin.0) c ≡ o → first_for p (cons_option o (changes_of own rows lines)) ≡ None
    by later None e = later
    by later (Some ch) e =
        let apart : nat_eq c.origin.0 p ≡ false = sym_test p c.origin.0 false (first_false (nat_eq p c.origin.0) (is_in p (origins lines)) h) in
        ap (λ b. cond b (Some ch) None) (ap (λ id. nat_eq id.0 p) (change_origin (own c.origin.0) (kept_of rows c.origin.0) c ch e) ∙ apart)

-- the first change is that of the first line, if it has one
pub first_change : (own : ℕ → Bool) (rows : List KeptRow) (x : LineSeen) (rest : List LineSeen) → is_in x.origin.0 (origins rest) ≡ false
    → first_for x.origin.0 (changes_of own rows (x ∷ rest)) ≡ change_of (own x.origin.0) (kept_of rows x.origin.0) x
first_change own rows x rest apart = by (change_of (own x.origin.0) (kept_of rows x.origin.0) x) refl
  where
    by : (o : Option Change) → change_of (own x.origin.0) (kept_of rows x.origin.0) x ≡ o → first_for x.origin.0 (cons_option o (changes_of own rows rest)) ≡ o
    by None e = first_absent own rows x.origin.0 rest apart
    by (Some ch) e = ap (λ b. cond b (Some ch) None) (ap (λ id. nat_eq id.0 x.origin.0) (change_origin (own x.origin.0) (kept_of rows x.origin.0) x ch e) ∙ nat_eq-same x.origin.0)

-- what is kept of one origin changes no change of the others
pub changes_later : (own : ℕ → Bool) (old new : List KeptRow) (x : ℕ) (lines : List LineSeen) → is_in x (origins lines) ≡ false
    → ((p : ℕ) → nat_eq p x ≡ false → kept_of new p ≡ kept_of old p) → changes_of own new lines ≡ changes_of own old lines
changes_later own old new x [] h same = refl
changes_later own old new x (c ∷ lines) h same =
    let apart : nat_eq c.origin.0 x ≡ false = sym_test x c.origin.0 false (first_false (nat_eq x c.origin.0) (is_in x (origins lines)) h) in
    ap (λ k. cons_option (change_of (own c.origin.0) k c) (changes_of own new lines)) (same c.origin.0 apart)
    ∙ ap (cons_option (change_of (own c.origin.0) (kept_of old c.origin.0) c)) (changes_later own old new x lines (later_false (nat_eq x c.origin.0) (is_in x (origins lines)) h) same)

-- where the same is kept the changes are the same
pub changes_kept : (own : ℕ → Bool) (old new : List KeptRow) (lines : List LineSeen) → KeepsRows old new → changes_of own new lines ≡ changes_of own old lines
changes_kept own old new [] h = refl
changes_kept own old new (c ∷ lines) h =
    ap (λ k. cons_option (change_of (own c.origin.0) k c) (changes_of own new lines)) (h.kept c.origin.0)
    ∙ ap (cons_option (change_of (own c.origin.0) (kept_of old c.origin.0) c)) (changes_kept own old new lines h)

-- nor what room the others have
pub ready_later : (own : ℕ → Bool) (rows old new : List KeptRow) (x : ℕ) (lines : List LineSeen) → is_in x (origins lines) ≡ false
    → ((p n : ℕ) → nat_eq p x ≡ false → has_room new p n ≡ has_room old p n) → AreReady old (changes_of own rows lines) → AreReady new (changes_of own rows lines)
ready_later own rows old new x [] h same ready = tt
ready_later own rows old new x (c ∷ lines) h same ready = by (ready_later own rows old new x lines (later_false (nat_eq x c.origin.0) (is_in x (origins lines)) h) same) (change_of (own c.origin.0) (kept_of rows c.origin.0) c) refl ready
  where
    by : (AreReady old (changes_of own rows lines) → AreReady new (changes_of own rows lines)) → (o : Option Change) → change_of (own c.origin.0) (kept_of rows c.origin.0) c ≡ o
        → AreReady old (cons_option o (changes_of own rows lines)) → AreReady new (cons_option o (changes_of own rows lines))
    by later None e ready = later ready
    by later (Some ch) e ready =
        let apart : nat_eq c.origin.0 x ≡ false = sym_test x c.origin.0 false (first_false (nat_eq x c.origin.0) (is_in x (origins lines)) h) in
        let at : nat_eq (origin_of ch).0 x ≡ false = ap (λ id. nat_eq id.0 x) (change_origin (own c.origin.0) (kept_of rows c.origin.0) c ch e) ∙ apart in
        (same (origin_of ch).0 (arrivals ch) at ∙ ready.0, later ready.1)

-- ---- applying

-- how far the tables are, while lines are applied
pub record Applying (own : ℕ → Bool) (start cur : List KeptRow) (all rest : List LineSeen) (changes : List Change) : Type 0 where
  pub distinct : AreDistinct (origins rest)
  pub planned : changes ≡ changes_of own cur rest
  pub ready : AreReady cur changes
  pub ahead : (p : ℕ) → accepted (own p) (kept_of cur p) (line_of rest p) ≡ accepted (own p) (kept_of start p) (line_of all p)

-- which change is the next line's
pub line_change : (own : ℕ → Bool) (start cur : List KeptRow) (all : List LineSeen) (x : LineSeen) (rest : List LineSeen) (changes : List Change) → Applying own start cur all (x ∷ rest) changes
    → first_for x.origin.0 changes ≡ change_of (own x.origin.0) (kept_of cur x.origin.0) x
line_change own start cur all x rest changes h = ap (first_for x.origin.0) h.planned ∙ first_change own cur x rest h.distinct.0

-- there is room for it
pub line_room : (own : ℕ → Bool) (start cur : List KeptRow) (all : List LineSeen) (x : LineSeen) (rest : List LineSeen) (changes : List Change) (ch : Change) → Applying own start cur all (x ∷ rest) changes
    → change_of (own x.origin.0) (kept_of cur x.origin.0) x ≡ Some ch → has_room cur x.origin.0 (arrivals ch) ≡ true
line_room own start cur all x rest changes ch h e =
    let ready : AreReady cur (ch ∷ changes_of own cur rest) = subst (AreReady cur) (h.planned ∙ ap (λ o. cons_option o (changes_of own cur rest)) e) h.ready in
    ap (λ id. has_room cur id.0 (arrivals ch)) (sym (change_origin (own x.origin.0) (kept_of cur x.origin.0) x ch e)) ∙ ready.0

pub line_passed : (own : ℕ → Bool) (start cur : List KeptRow) (all : List LineSeen) (x : LineSeen) (rest : List LineSeen) (changes : List Change) → Applying own start cur all (x ∷ rest) changes
    → change_of (own x.origin.0) (kept_of cur x.origin.0) x ≡ None → Applying own start cur all rest changes
line_passed own start cur all x rest changes h e = record {
  distinct = h.distinct.1;
  planned = h.planned ∙ ap (λ o. cons_option o (changes_of own cur rest)) e;
  ready = h.ready;
  ahead = λ p. line_done (λ o k. accepted (own p) k o) (λ _. refl) x rest p (kept_of cur p) (kept_of cur p) (accepted (own p) (kept_of start p) (line_of all p)) h.distinct.0 (h.ahead p) (by p (nat_eq p x.origin.0) refl);
}
  where
    by : (p : ℕ) (b : Bool) → nat_eq p x.origin.0 ≡ b → kept_of cur p ≡ cond b (accepted (own p) (kept_of cur p) (Some x)) (kept_of cur p)
    by p false at = refl
    by p true at = sym (subst (λ q. accepted (own q) (kept_of cur q) (Some x) ≡ kept_of cur q) (sym (nat_eq-is p x.origin.0 at)) (ap (λ o. option_map_or (changed (kept_of cur x.origin.0) x) o (kept_of cur x.origin.0)) e))

pub line_applied : (own : ℕ → Bool) (start cur new : List KeptRow) (all : List LineSeen) (x : LineSeen) (rest : List LineSeen) (changes : List Change) (ch : Change) → Applying own start cur all (x ∷ rest) changes
    → change_of (own x.origin.0) (kept_of cur x.origin.0) x ≡ Some ch
    → ((p : ℕ) → kept_of new p ≡ cond (nat_eq p x.origin.0) (changed (kept_of cur p) x ch) (kept_of cur p))
    → ((p n : ℕ) → nat_eq p x.origin.0 ≡ false → has_room new p n ≡ has_room cur p n)
    → Applying own start new all rest (drop 1 changes)
line_applied own start cur new all x rest changes ch h e kept room =
    let others : (p : ℕ) → nat_eq p x.origin.0 ≡ false → kept_of new p ≡ kept_of cur p = λ p apart. kept p ∙ ap (λ b. cond b (changed (kept_of cur p) x ch) (kept_of cur p)) apart in
    let was : changes ≡ ch ∷ changes_of own cur rest = h.planned ∙ ap (λ o. cons_option o (changes_of own cur rest)) e in
    let left : drop 1 changes ≡ changes_of own cur rest = ap (drop 1) was in
    let ready : AreReady cur (ch ∷ changes_of own cur rest) = subst (AreReady cur) was h.ready in
    record {
      distinct = h.distinct.1;
      planned = left ∙ sym (changes_later own cur new x.origin.0 rest h.distinct.0 others);
      ready = subst (AreReady new) (sym left) (ready_later own cur cur new x.origin.0 rest h.distinct.0 room ready.1);
      ahead = λ p. line_done (λ o k. accepted (own p) k o) (λ _. refl) x rest p (kept_of cur p) (kept_of new p) (accepted (own p) (kept_of start p) (line_of all p)) h.distinct.0 (h.ahead p)
          (kept p ∙ by p (nat_eq p x.origin.0) refl);
    }
  where
    by : (p : ℕ) (b : Bool) → nat_eq p x.origin.0 ≡ b → cond b (changed (kept_of cur p) x ch) (kept_of cur p) ≡ cond b (accepted (own p) (kept_of cur p) (Some x)) (kept_of cur p)
    by p false at = refl
    by p true at = sym (subst (λ q. accepted (own q) (kept_of cur q) (Some x) ≡ changed (kept_of cur q) x ch) (sym (nat_eq-is p x.origin.0 at)) (ap (λ o. option_map_or (changed (kept_of cur x.origin.0) x) o (kept_of cur x.origin.0)) e))

-- ---- steps of the loop over the lines, as the code has them

module _ (own : ℕ → Bool) (start cur : List KeptRow) (all its : List LineSeen) (x : LineSeen) (rest : List LineSeen) (changes : List Change) (next id : ℕ)
    (h : Applying own start cur all its (drop next changes)) (step : its ≡ x ∷ rest) (at : id ≡ x.origin.0) where
  pub step_holds : Applying own start cur all (x ∷ rest) (drop next changes)
  step_holds = subst (λ l. Applying own start cur all l (drop next changes)) step h

  pub step_change : (o : Option Change) → o ≡ first_for id (drop next changes) → change_of (own x.origin.0) (kept_of cur x.origin.0) x ≡ o
  step_change o e = sym (line_change own start cur all x rest (drop next changes) step_holds) ∙ ap (λ n. first_for n (drop next changes)) (sym at) ∙ sym e

  pub step_planned : (ch : Change) → Some ch ≡ first_for id (drop next changes) → change_of (own x.origin.0) (kept_of cur id) x ≡ Some ch
  step_planned ch e = ap (λ n. change_of (own x.origin.0) (kept_of cur n) x) at ∙ step_change (Some ch) e

  pub step_room : (ch : Change) → Some ch ≡ first_for id (drop next changes) → has_room cur id (arrivals ch) ≡ true
  step_room ch e = ap (λ n. has_room cur n (arrivals ch)) at ∙ line_room own start cur all x rest (drop next changes) ch step_holds (step_change (Some ch) e)

  pub step_passed : None ≡ first_for id (drop next changes) → Applying own start cur all rest (drop next changes)
  step_passed e = line_passed own start cur all x rest (drop next changes) step_holds (step_change None e)

  pub step_applied : (new : List KeptRow) (ch : Change) → Some ch ≡ first_for id (drop next changes)
      → ((p : ℕ) → kept_of new p ≡ cond (nat_eq p id) (changed (kept_of cur p) x ch) (kept_of cur p))
      → ((p n : ℕ) → nat_eq p id ≡ false → has_room new p n ≡ has_room cur p n)
      → Applying own start new all rest (drop (next + 1) changes)
  step_applied new ch e kept room = subst (Applying own start new all rest) (drop-drop 1 next changes)
      (line_applied own start cur new all x rest (drop next changes) ch step_holds (step_change (Some ch) e)
      (λ p. kept p ∙ ap (λ n. cond (nat_eq p n) (changed (kept_of cur p) x ch) (kept_of cur p)) at)
      (λ p n apart. room p n (ap (nat_eq p) at ∙ apart)))
