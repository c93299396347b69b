-- The next packet's lines, by their origins.
use Rattle.std.proofs.Common.{◌≡◌, ℕ, ◌≤◌, Bool, true, false, cond, not, ◌&&◌, nat_eq, List, [], ◌∷◌, ◌++◌, map, Some, None, refl, sym, ap, subst, ◌∙◌, arith}
use Rattle.std.specs.List.{filter, IsDistinct, AllByRecursion}
use Rattle.std.specs.Map.{keys_of}
use Rattle.std.specs.Option.{option_map, option_map_or}
use Rattle.std.proofs.lemmas.Bool.{eq-eqb}
use Rattle.std.proofs.lemmas.List.{map-append}
use Rattle.std.proofs.lemmas.List.Elements.{filter-append}
use Rattle.std.proofs.lemmas.Map.Keys.{IsDistinct-head, IsDistinct-tail}
use Rattle.std.proofs.lemmas.Option.{slice_get-map}
use Rattle.std.specs.Prelude.{slice_get}
use Rattle.group_view.specs.Ring.{is_in, AreDistinct}
use Rattle.group_view.specs.View.{as_id}
use Rattle.group_view.proofs.Truth.{first_false, later_false}
use Rattle.group_view.proofs.Rings.{nat_eq-is}
use Rattle.ring_names.specs.declared.numbers.MemberId.{MemberId}
use Rattle.activity.specs.declared.table.Table.{Table}
use Rattle.activity.specs.Kept.{KeptRow, got_of, no_kept, kept_of, origins_of}
use Rattle.activity.specs.LastSent.{LastSent, LastSentRow, sent_of}
use Rattle.activity.specs.Packets.{origins, line_of}
use Rattle.activity.specs.Diff.{lo_of, line_from, next_line, row_has_line, row_line, lines_of, IsNotAbove}
use Rattle.activity.specs.Shown.{kept_row, kept_rows}
use Rattle.activity.proofs.Rows.{same}
use Rattle.activity.proofs.Lines.{line_absent}

-- ---- the ids of rows

absent_id : (k : MemberId) (es : List (MemberId × Table)) → AllByRecursion (λ y. same k y ≡ false) (keys_of es) → is_in k.0 (origins_of (kept_rows es)) ≡ false
absent_id k [] h = refl
absent_id k (e ∷ es) h = ap (λ b. cond b true (is_in k.0 (origins_of (kept_rows es)))) h.0 ∙ absent_id k es h.1

-- the keys of a map are different, so its origins are
pub distinct_ids : (es : List (MemberId × Table)) → IsDistinct same (keys_of es) → AreDistinct (origins_of (kept_rows es))
distinct_ids [] h = tt
distinct_ids (e ∷ es) h = (absent_id e.0 es (IsDistinct-head same e.0 (keys_of es) h), distinct_ids es (IsDistinct-tail same e.0 (keys_of es) h))

-- the row at a place
pub row_at : (es : List (MemberId × Table)) (rows : List KeptRow) (place : ℕ) (k : MemberId) (t : Table) (r : KeptRow) → kept_rows es ≡ rows → Some (k, t) ≡ slice_get es place → slice_get rows place ≡ Some r → kept_row (k, t) ≡ r
row_at es rows place k t r shows at is =
    ap (λ o. option_map_or (λ x. x) o r) (ap (option_map kept_row) at ∙ sym (slice_get-map kept_row es place) ∙ ap (λ l. slice_get l place) shows ∙ is)

-- ---- lines

module _ (first : Bool) (sent : List LastSentRow) where
  -- the line of one row
  pub one_line : (r : KeptRow) → lines_of first sent (r ∷ []) ≡ cond (row_has_line first sent r) (row_line first sent r ∷ []) []
  one_line r = by (row_has_line first sent r)
    where
      by : (b : Bool) → map (row_line first sent) (cond b (r ∷ []) []) ≡ cond b (row_line first sent r ∷ []) []
      by true = refl
      by false = refl

  -- the lines of one row more
  pub lines_more : (rows : List KeptRow) (r : KeptRow) → lines_of first sent (rows ++ r ∷ []) ≡ lines_of first sent rows ++ lines_of first sent (r ∷ [])
  lines_more rows r = ap (map (row_line first sent)) (filter-append (row_has_line first sent) rows (r ∷ []))
      ∙ map-append (row_line first sent) (filter (row_has_line first sent) rows) (filter (row_has_line first sent) (r ∷ []))

  -- an origin without a row has no line
  pub no_line : (x : ℕ) (rows : List KeptRow) → is_in x (origins_of rows) ≡ false → is_in x (origins (lines_of first sent rows)) ≡ false
  no_line x [] h = refl
  no_line x (r ∷ rows) h = by (row_has_line first sent r) (first_false (nat_eq x r.origin.0) (is_in x (origins_of rows)) h) (no_line x rows (later_false (nat_eq x r.origin.0) (is_in x (origins_of rows)) h))
    where
      by : (b : Bool) → nat_eq x r.origin.0 ≡ false → is_in x (origins (lines_of first sent rows)) ≡ false
          → is_in x (origins (map (row_line first sent) (cond b (r ∷ filter (row_has_line first sent) rows) (filter (row_has_line first sent) rows)))) ≡ false
      by true e later = ap (λ c. cond c true (is_in x (origins (lines_of first sent rows)))) e ∙ later
      by false e later = later

  -- the lines have different origins
  pub distinct_lines : (rows : List KeptRow) → AreDistinct (origins_of rows) → AreDistinct (origins (lines_of first sent rows))
  distinct_lines [] h = tt
  distinct_lines (r ∷ rows) h = by (row_has_line first sent r) (no_line r.origin.0 rows h.0) (distinct_lines rows h.1)
    where
      by : (b : Bool) → is_in r.origin.0 (origins (lines_of first sent rows)) ≡ false → AreDistinct (origins (lines_of first sent rows))
          → AreDistinct (origins (map (row_line first sent) (cond b (r ∷ filter (row_has_line first sent) rows) (filter (row_has_line first sent) rows))))
      by true e later = (e, later)
      by false e later = later

  -- the line of a row is the next one of its origin
  own_line : (r : KeptRow) (p : ℕ) → p ≡ r.origin.0 → row_has_line first sent r ≡ true → Some (row_line first sent r) ≡ next_line first p r.kept (sent_of sent p)
  own_line r p e h = subst (λ q. Some (row_line first sent r) ≡ next_line first q r.kept (sent_of sent q)) (sym e) (sym (ap (λ c. cond c (Some (row_line first sent r)) None) h))

  own_none : (r : KeptRow) (p : ℕ) → p ≡ r.origin.0 → row_has_line first sent r ≡ false → None ≡ next_line first p r.kept (sent_of sent p)
  own_none r p e h = subst (λ q. None ≡ next_line first q r.kept (sent_of sent q)) (sym e) (sym (ap (λ c. cond c (Some (row_line first sent r)) None) h))

  found_line : (p : ℕ) (rows : List KeptRow) → AreDistinct (origins_of rows) → (kept_of rows p ≡ no_kept → next_line first p no_kept (sent_of sent p) ≡ None)
      → line_of (lines_of first sent rows) p ≡ next_line first p (kept_of rows p) (sent_of sent p)
  found_line p [] d z = sym (z refl)
  found_line p (r ∷ rows) d z = by (nat_eq p r.origin.0) refl (row_has_line first sent r) refl z (found_line p rows d.1)
    where
      by : (b : Bool) → nat_eq p r.origin.0 ≡ b → (t : Bool) → row_has_line first sent r ≡ t
          → (cond b r.kept (kept_of rows p) ≡ no_kept → next_line first p no_kept (sent_of sent p) ≡ None)
          → ((kept_of rows p ≡ no_kept → next_line first p no_kept (sent_of sent p) ≡ None) → line_of (lines_of first sent rows) p ≡ next_line first p (kept_of rows p) (sent_of sent p))
          → line_of (map (row_line first sent) (cond t (r ∷ filter (row_has_line first sent) rows) (filter (row_has_line first sent) rows))) p ≡ next_line first p (cond b r.kept (kept_of rows p)) (sent_of sent p)
      by true e true h z later = ap (λ c. cond c (Some (row_line first sent r)) (line_of (lines_of first sent rows) p)) e ∙ own_line r p (nat_eq-is p r.origin.0 e) h
      by true e false h z later =
          line_absent p (lines_of first sent rows) (subst (λ q. is_in q (origins (lines_of first sent rows)) ≡ false) (sym (nat_eq-is p r.origin.0 e)) (no_line r.origin.0 rows d.0))
          ∙ own_none r p (nat_eq-is p r.origin.0 e) h
      by false e true h z later = ap (λ c. cond c (Some (row_line first sent r)) (line_of (lines_of first sent rows) p)) e ∙ later z
      by false e false h z later = later z

-- an origin of which nothing is kept, and nothing was sent, has no line
no_next : (first : Bool) (p : ℕ) (t : LastSent) → t.got ≤ 0 → t.forgot ≤ 0 → next_line first p no_kept t ≡ None
no_next true p t g f = refl
no_next false p t g f =
    let a : nat_eq 0 t.got ≡ true = eq-eqb 0 t.got (omega arith) in
    let b : nat_eq 0 t.forgot ≡ true = eq-eqb 0 t.forgot (omega arith) in
    ap (λ c. cond (not c) (Some (line_from (lo_of false no_kept t) (as_id p) no_kept)) None) (λ i. a i && b i)

-- the line of each origin in the next packet
pub next_found : (first : Bool) (sent : List LastSentRow) (rows : List KeptRow) → AreDistinct (origins_of rows) → IsNotAbove sent rows → (p : ℕ)
    → line_of (lines_of first sent rows) p ≡ next_line first p (kept_of rows p) (sent_of sent p)
next_found first sent rows d n p = found_line first sent p rows d
    (λ e. no_next first p (sent_of sent p) (subst (λ k. (sent_of sent p).got ≤ got_of k) e (n.got p)) (subst (λ k. (sent_of sent p).forgot ≤ k.forgot) e (n.forgot p)))
