-- The order of rows: that in which their origins were first seen.
use Rattle.std.proofs.Common.{Result, Ok, Err, OnOk, OnErr, ◌≡◌, ℕ, ◌+◌, ◌<◌, Bool, true, false, cond, nat_eq, List, [], ◌∷◌, ◌++◌, length, get_or, take, map, Some, None, is_some, refl, sym, ap, ◌∙◌, append-nil}
use Rattle.std.specs.List.{filter}
use Rattle.std.specs.Map.{lookup, set_value}
use Rattle.std.proofs.lemmas.List.{map-append}
use Rattle.std.proofs.lemmas.List.Elements.{filter-append}
use Rattle.group_view.specs.Ring.{is_in}
use Rattle.ring_names.specs.declared.numbers.MemberId.{MemberId}
use Rattle.activity.specs.declared.change.Change.{Change}
use Rattle.activity.specs.declared.table.Table.{Table}
use Rattle.activity.specs.declared.sent.SentRow.{SentRow}
use Rattle.activity.specs.Order.{with_origin, with_origins}
use Rattle.activity.specs.Kept.{origins_of}
use Rattle.activity.specs.LastSent.{origins_sent}
use Rattle.activity.specs.Packets.{LineSeen, origins}
use Rattle.activity.specs.Plan.{origin_of, changed_origins, begins}
use Rattle.activity.specs.Shown.{kept_rows, last_sent_rows}
use Rattle.activity.proofs.Lists.{take_next}
use Rattle.activity.proofs.Rows.{same}

-- ---- lists of origins

with_there : (p : ℕ) (seen : List ℕ) → is_in p seen ≡ true → with_origin p seen ≡ seen
with_there p seen h = ap (λ b. cond b seen (seen ++ p ∷ [])) h

with_absent : (p : ℕ) (seen : List ℕ) → is_in p seen ≡ false → with_origin p seen ≡ seen ++ p ∷ []
with_absent p seen h = ap (λ b. cond b seen (seen ++ p ∷ [])) h

-- one more is seen after the others
with_more : (ids : List ℕ) (p : ℕ) (seen : List ℕ) → with_origins (ids ++ p ∷ []) seen ≡ with_origin p (with_origins ids seen)
with_more [] p seen = refl
with_more (x ∷ ids) p seen = with_more ids p (with_origin x seen)

-- ---- the origins of entries

module _ {X : Type 0} where
  abbrev pub ids_in : List (MemberId × X) → List ℕ
  ids_in es = map (λ e. e.0.0) es

  -- a value that is written moves no entry
  pub ids_set : (k : MemberId) (es : List (MemberId × X)) (w : X) → ids_in (set_value (same k) es w) ≡ ids_in es
  ids_set k [] w = refl
  ids_set k (e ∷ es) w = by (nat_eq k.0 e.0.0) (ids_set k es w)
    where
      by : (b : Bool) → ids_in (set_value (same k) es w) ≡ ids_in es → ids_in (cond b ((e.0, w) ∷ es) (e ∷ set_value (same k) es w)) ≡ e.0.0 ∷ ids_in es
      by true h = refl
      by false h = ap (λ l. e.0.0 ∷ l) h

  -- an origin is among them where the look-up finds something
  pub ids_found : (k : MemberId) (es : List (MemberId × X)) → is_in k.0 (ids_in es) ≡ is_some (lookup (same k) es)
  ids_found k [] = refl
  ids_found k (e ∷ es) = by (nat_eq k.0 e.0.0) (ids_found k es)
    where
      by : (b : Bool) → is_in k.0 (ids_in es) ≡ is_some (lookup (same k) es) → cond b true (is_in k.0 (ids_in es)) ≡ is_some (cond b (Some e.1) (lookup (same k) es))
      by true h = refl
      by false h = h

  pub ids_there : (k : MemberId) (es : List (MemberId × X)) → is_some (lookup (same k) es) ≡ true → ids_in es ≡ with_origin k.0 (ids_in es)
  ids_there k es h = sym (with_there k.0 (ids_in es) (ids_found k es ∙ h))

  pub ids_pushed : (k : MemberId) (es : List (MemberId × X)) (w : X) → ids_in (es ++ (k, w) ∷ []) ≡ ids_in es ++ k.0 ∷ []
  ids_pushed k es w = map-append (λ e. e.0.0) es ((k, w) ∷ [])

  pub ids_added : (k : MemberId) (es : List (MemberId × X)) (w : X) → lookup (same k) es ≡ None → ids_in (es ++ (k, w) ∷ []) ≡ with_origin k.0 (ids_in es)
  ids_added k es w h = ids_pushed k es w ∙ sym (with_absent k.0 (ids_in es) (ids_found k es ∙ ap is_some h))

-- ---- the rows that entries show

pub order_kept : (es : List (MemberId × Table)) → origins_of (kept_rows es) ≡ ids_in es
order_kept [] = refl
order_kept (e ∷ es) = ap (λ l. e.0.0 ∷ l) (order_kept es)

pub order_sent : (es : List (MemberId × SentRow)) → origins_sent (last_sent_rows es) ≡ ids_in es
order_sent [] = refl
order_sent (e ∷ es) = ap (λ l. e.0.0 ∷ l) (order_sent es)

module _ (k : MemberId) (es : List (MemberId × Table)) where
  pub kept_set_order : (w : Table) → origins_of (kept_rows (set_value (same k) es w)) ≡ origins_of (kept_rows es)
  kept_set_order w = order_kept (set_value (same k) es w) ∙ ids_set k es w ∙ sym (order_kept es)

  pub kept_there_order : is_some (lookup (same k) es) ≡ true → origins_of (kept_rows es) ≡ with_origin k.0 (origins_of (kept_rows es))
  kept_there_order h = order_kept es ∙ ids_there k es h ∙ sym (ap (with_origin k.0) (order_kept es))

  pub kept_pushed_order : (w : Table) → origins_of (kept_rows (es ++ (k, w) ∷ [])) ≡ origins_of (kept_rows es) ++ k.0 ∷ []
  kept_pushed_order w = order_kept (es ++ (k, w) ∷ []) ∙ ids_pushed k es w ∙ sym (ap (λ l. l ++ k.0 ∷ []) (order_kept es))

  pub kept_added_order : (w : Table) → lookup (same k) es ≡ None → origins_of (kept_rows (es ++ (k, w) ∷ [])) ≡ with_origin k.0 (origins_of (kept_rows es))
  kept_added_order w h = order_kept (es ++ (k, w) ∷ []) ∙ ids_added k es w h ∙ sym (ap (with_origin k.0) (order_kept es))

module _ (k : MemberId) (es : List (MemberId × SentRow)) where
  pub sent_set_order : (w : SentRow) → origins_sent (last_sent_rows (set_value (same k) es w)) ≡ origins_sent (last_sent_rows es)
  sent_set_order w = order_sent (set_value (same k) es w) ∙ ids_set k es w ∙ sym (order_sent es)

  pub sent_there_order : is_some (lookup (same k) es) ≡ true → origins_sent (last_sent_rows es) ≡ with_origin k.0 (origins_sent (last_sent_rows es))
  sent_there_order h = order_sent es ∙ ids_there k es h ∙ sym (ap (with_origin k.0) (order_sent es))

  pub sent_added_order : (w : SentRow) → lookup (same k) es ≡ None → origins_sent (last_sent_rows (es ++ (k, w) ∷ [])) ≡ with_origin k.0 (origins_sent (last_sent_rows es))
  sent_added_order w h = order_sent (es ++ (k, w) ∷ []) ∙ ids_added k es w h ∙ sym (ap (with_origin k.0) (order_sent es))

-- ---- loops over lines and over changes

-- the origin of one line more is seen
line_seen : (lines : List LineSeen) (c : LineSeen) (id : ℕ) (start cur new : List ℕ) → id ≡ c.origin.0 → cur ≡ with_origins (origins lines) start → new ≡ with_origin id cur
    → new ≡ with_origins (origins (lines ++ c ∷ [])) start
line_seen lines c id start cur new at h step =
    step ∙ (λ i. with_origin (at i) (h i)) ∙ sym (with_more (origins lines) c.origin.0 start)
    ∙ ap (λ ids. with_origins ids start) (sym (map-append (λ x. x.origin.0) lines (c ∷ [])))

pub line_next : (lines : List LineSeen) (place : ℕ) (c : LineSeen) (id : ℕ) (start cur new : List ℕ) → place < length lines → c ≡ get_or lines place c → id ≡ c.origin.0
    → cur ≡ with_origins (origins (take place lines)) start → new ≡ with_origin id cur → new ≡ with_origins (origins (take (place + 1) lines)) start
line_next lines place c id start cur new within is at h step =
    line_seen (take place lines) c id start cur new at h step ∙ ap (λ l. with_origins (origins l) start) (sym (take_next lines place c within is))

-- that of one change more
change_seen : (changes : List Change) (c : Change) (id : ℕ) (start cur new : List ℕ) → id ≡ (origin_of c).0 → cur ≡ with_origins (changed_origins changes) start → new ≡ with_origin id cur
    → new ≡ with_origins (changed_origins (changes ++ c ∷ [])) start
change_seen changes c id start cur new at h step =
    step ∙ (λ i. with_origin (at i) (h i)) ∙ sym (with_more (changed_origins changes) (origin_of c).0 start)
    ∙ ap (λ ids. with_origins ids start) (sym (map-append (λ x. (origin_of x).0) changes (c ∷ [])))

pub change_next : (changes : List Change) (place : ℕ) (c : Change) (id : ℕ) (start cur new : List ℕ) → take (place + 1) changes ≡ take place changes ++ c ∷ [] → id ≡ (origin_of c).0
    → cur ≡ with_origins (changed_origins (take place changes)) start → new ≡ with_origin id cur → new ≡ with_origins (changed_origins (take (place + 1) changes)) start
change_next changes place c id start cur new more at h step =
    change_seen (take place changes) c id start cur new at h step ∙ ap (λ l. with_origins (changed_origins l) start) (sym more)

-- one line more of a first packet has its row
line_opened : (lines : List LineSeen) (c : LineSeen) (cur new : List ℕ) → cur ≡ origins (filter begins lines) → new ≡ cur ++ origins (filter begins (c ∷ []))
    → new ≡ origins (filter begins (lines ++ c ∷ []))
line_opened lines c cur new h step =
    step ∙ ap (λ ids. ids ++ origins (filter begins (c ∷ []))) h
    ∙ sym (map-append (λ x. x.origin.0) (filter begins lines) (filter begins (c ∷ [])))
    ∙ ap origins (sym (filter-append begins lines (c ∷ [])))

pub opened_next : (lines : List LineSeen) (place : ℕ) (c : LineSeen) (cur new : List ℕ) → place < length lines → c ≡ get_or lines place c
    → cur ≡ origins (filter begins (take place lines)) → new ≡ cur ++ origins (filter begins (c ∷ [])) → new ≡ origins (filter begins (take (place + 1) lines))
opened_next lines place c cur new within is h step =
    line_opened (take place lines) c cur new h step ∙ ap (λ l. origins (filter begins l)) (sym (take_next lines place c within is))

pub used_alone : (c : LineSeen) (ids : List ℕ) → begins c ≡ true → ids ++ c.origin.0 ∷ [] ≡ ids ++ origins (filter begins (c ∷ []))
used_alone c ids h = ap (λ b. ids ++ origins (cond b (c ∷ []) [])) (sym h)

pub passed_alone : (c : LineSeen) (ids : List ℕ) → begins c ≡ false → ids ≡ ids ++ origins (filter begins (c ∷ []))
passed_alone c ids h = sym (append-nil ids) ∙ ap (λ b. ids ++ origins (cond b (c ∷ []) [])) (sym h)

-- ---- what holds in any case

pub if_ok : {A E P : Type 0} (r : Result A E) → P → OnOk r P
if_ok (Ok a) p = p
if_ok (Err e) p = tt

pub if_err : {A E P : Type 0} (r : Result A E) → P → OnErr r P
if_err (Ok a) p = tt
if_err (Err e) p = p
