-- Look-ups of origins in the entries of a map, and in the rows that they show.
use Rattle.std.proofs.Common.{Result, Ok, Err, OnOk, ◌≡◌, ℕ, ◌≤◌, Bool, true, false, cond, nat_eq, nat_le, List, [], ◌∷◌, ◌++◌, Option, Some, None, refl, sym, ap, subst, ◌∙◌, is_some, true≢false, arith}
use Rattle.std.proofs.lemmas.Bool.{false≢true, leb-true, le-leb}
use Rattle.std.specs.Option.{option_map_or}
use Rattle.std.specs.Prelude.{MatchOption}
use Rattle.std.specs.Borrow.{Bor}
use Rattle.std.specs.Option.{option_copied}
use Rattle.pending_store.specs.Store.{Pending, StartsAt, KeepsAll, Gains}
use Rattle.std.specs.Map.{lookup, set_value}
use Rattle.group_view.proofs.Truth.{later_true}
use Rattle.group_view.proofs.Rings.{nat_eq-is, nat_eq-same, sym_test}
use Rattle.queue_core.specs.declared.message.Message.{Message}
use Rattle.ring_names.specs.declared.numbers.MemberId.{MemberId}
use Rattle.activity.specs.declared.table.Table.{Table}
use Rattle.activity.specs.declared.sent.SentRow.{SentRow}
use Rattle.activity.specs.Kept.{Kept, KeptRow, no_kept, kept_of, has_room, KeepsRows, joined}
use Rattle.activity.specs.LastSent.{never_sent, sent_of, has_row, KeepsSent}
use Rattle.activity.specs.Shown.{kept_in, kept_rows, last_sent_of, last_sent_rows}

-- whether a key is this origin
abbrev pub same : MemberId → MemberId → Bool
same a b = nat_eq a.0 b.0

-- of two tests for different numbers either may come first
either_order : {B : Type 0} (k e p : ℕ) (x y z : B) → nat_eq k e ≡ false → cond (nat_eq p e) x (cond (nat_eq p k) y z) ≡ cond (nat_eq p k) y (cond (nat_eq p e) x z)
either_order k e p x y z ne = by (nat_eq p e) refl
  where
    by : (b : Bool) → nat_eq p e ≡ b → cond b x (cond (nat_eq p k) y z) ≡ cond (nat_eq p k) y (cond b x z)
    by false g = refl
    by true g =
        let apart : nat_eq p k ≡ false = subst (λ n. nat_eq n k ≡ false) (sym (nat_eq-is p e g)) (sym_test k e false ne) in
        sym (ap (λ b. cond b y x) apart)

-- what a number has already is written to it
pub same_written : {B : Type 0} (g : ℕ → B) (k : ℕ) (x : B) → x ≡ g k → (p : ℕ) → cond (nat_eq p k) x (g p) ≡ g p
same_written g k x e p = by (nat_eq p k) refl
  where
    by : (b : Bool) → nat_eq p k ≡ b → cond b x (g p) ≡ g p
    by false h = refl
    by true h = e ∙ ap g (sym (nat_eq-is p k h))

-- a number's test is written over, and passes if it did
passes_written : (t : ℕ → Bool) (k : ℕ) (c : Bool) → (t k ≡ true → c ≡ true) → (p : ℕ) → t p ≡ true → cond (nat_eq p k) c (t p) ≡ true
passes_written t k c h p there = by (nat_eq p k) refl
  where
    by : (b : Bool) → nat_eq p k ≡ b → cond b c (t p) ≡ true
    by false e = there
    by true e = h (ap t (sym (nat_eq-is p k e)) ∙ there)

module _ {X B : Type 0} (f : X → B) (d : B) where
  -- what is seen of the origin of an id
  abbrev pub seen : List (MemberId × X) → ℕ → B
  seen [] p = d
  seen (e ∷ es) p = cond (nat_eq p e.0.0) (f e.1) (seen es p)

  -- it is what the look-up finds
  pub seen_lookup : (k : MemberId) (es : List (MemberId × X)) → seen es k.0 ≡ option_map_or f (lookup (same k) es) d
  seen_lookup k [] = refl
  seen_lookup k (e ∷ es) = by (nat_eq k.0 e.0.0) (seen_lookup k es)
    where
      by : (b : Bool) → seen es k.0 ≡ option_map_or f (lookup (same k) es) d → cond b (f e.1) (seen es k.0) ≡ option_map_or f (cond b (Some e.1) (lookup (same k) es)) d
      by true h = refl
      by false h = h

  pub seen_found : (k : MemberId) (es : List (MemberId × X)) (v : X) → lookup (same k) es ≡ Some v → seen es k.0 ≡ f v
  seen_found k es v h = seen_lookup k es ∙ ap (λ o. option_map_or f o d) h

  pub seen_none : (k : MemberId) (es : List (MemberId × X)) → lookup (same k) es ≡ None → seen es k.0 ≡ d
  seen_none k es h = seen_lookup k es ∙ ap (λ o. option_map_or f o d) h

  -- a value is written to the entry of an origin
  pub seen_set : (k : MemberId) (es : List (MemberId × X)) (v w : X) → lookup (same k) es ≡ Some v → (p : ℕ) → seen (set_value (same k) es w) p ≡ cond (nat_eq p k.0) (f w) (seen es p)
  seen_set k [] v w h p = absurd (true≢false (sym (ap is_some h)))
  seen_set k (e ∷ es) v w h p = by (λ l. seen_set k es v w l p) (nat_eq k.0 e.0.0) refl h
    where
      found : (b : Bool) → nat_eq p k.0 ≡ b → cond b (f w) (seen es p) ≡ cond b (f w) (cond b (f e.1) (seen es p))
      found true g = refl
      found false g = refl

      by : (lookup (same k) es ≡ Some v → seen (set_value (same k) es w) p ≡ cond (nat_eq p k.0) (f w) (seen es p)) → (b : Bool) → nat_eq k.0 e.0.0 ≡ b → cond b (Some e.1) (lookup (same k) es) ≡ Some v
          → seen (cond b ((e.0, w) ∷ es) (e ∷ set_value (same k) es w)) p ≡ cond (nat_eq p k.0) (f w) (cond (nat_eq p e.0.0) (f e.1) (seen es p))
      by later true g l =
          let at : nat_eq p e.0.0 ≡ nat_eq p k.0 = ap (nat_eq p) (sym (nat_eq-is k.0 e.0.0 g)) in
          ap (λ b. cond b (f w) (seen es p)) at ∙ found (nat_eq p k.0) refl ∙ ap (λ b. cond (nat_eq p k.0) (f w) (cond b (f e.1) (seen es p))) (sym at)
      by later false g l = ap (cond (nat_eq p e.0.0) (f e.1)) (later l) ∙ either_order k.0 e.0.0 p (f e.1) (f w) (seen es p) g

  -- an origin that has no entry gets one
  pub seen_push : (k : MemberId) (es : List (MemberId × X)) (w : X) → lookup (same k) es ≡ None → (p : ℕ) → seen (es ++ (k, w) ∷ []) p ≡ cond (nat_eq p k.0) (f w) (seen es p)
  seen_push k [] w h p = refl
  seen_push k (e ∷ es) w h p = by (λ l. seen_push k es w l p) (nat_eq k.0 e.0.0) refl h
    where
      by : (lookup (same k) es ≡ None → seen (es ++ (k, w) ∷ []) p ≡ cond (nat_eq p k.0) (f w) (seen es p)) → (b : Bool) → nat_eq k.0 e.0.0 ≡ b → cond b (Some e.1) (lookup (same k) es) ≡ None
          → cond (nat_eq p e.0.0) (f e.1) (seen (es ++ (k, w) ∷ []) p) ≡ cond (nat_eq p k.0) (f w) (cond (nat_eq p e.0.0) (f e.1) (seen es p))
      by later true g l = absurd (true≢false (ap is_some l))
      by later false g l = ap (cond (nat_eq p e.0.0) (f e.1)) (later l) ∙ either_order k.0 e.0.0 p (f e.1) (f w) (seen es p) g

-- ---- the rows that entries show

abbrev pub fits_in : ℕ → Table → Bool
fits_in n t = nat_le n t.store.spare

abbrev pub there : SentRow → Bool
there s = true

pub kept_seen : (es : List (MemberId × Table)) (p : ℕ) → kept_of (kept_rows es) p ≡ seen kept_in no_kept es p
kept_seen [] p = refl
kept_seen (e ∷ es) p = ap (cond (nat_eq p e.0.0) (kept_in e.1)) (kept_seen es p)

pub room_seen : (es : List (MemberId × Table)) (p n : ℕ) → has_room (kept_rows es) p n ≡ seen (fits_in n) false es p
room_seen [] p n = refl
room_seen (e ∷ es) p n = ap (cond (nat_eq p e.0.0) (nat_le n e.1.store.spare)) (room_seen es p n)

pub sent_seen : (es : List (MemberId × SentRow)) (p : ℕ) → sent_of (last_sent_rows es) p ≡ seen last_sent_of never_sent es p
sent_seen [] p = refl
sent_seen (e ∷ es) p = ap (cond (nat_eq p e.0.0) (last_sent_of e.1)) (sent_seen es p)

pub row_seen : (es : List (MemberId × SentRow)) (p : ℕ) → has_row (last_sent_rows es) p ≡ seen there false es p
row_seen [] p = refl
row_seen (e ∷ es) p = ap (cond (nat_eq p e.0.0) true) (row_seen es p)

-- ---- what the map's calls do to rows

module _ (k : MemberId) (es : List (MemberId × Table)) where
  pub kept_found : (t : Table) → lookup (same k) es ≡ Some t → kept_of (kept_rows es) k.0 ≡ kept_in t
  kept_found t h = kept_seen es k.0 ∙ seen_found kept_in no_kept k es t h

  pub kept_none : lookup (same k) es ≡ None → kept_of (kept_rows es) k.0 ≡ no_kept
  kept_none h = kept_seen es k.0 ∙ seen_none kept_in no_kept k es h

  pub room_found : (n : ℕ) (t : Table) → lookup (same k) es ≡ Some t → has_room (kept_rows es) k.0 n ≡ nat_le n t.store.spare
  room_found n t h = room_seen es k.0 n ∙ seen_found (fits_in n) false k es t h

  pub room_none : (n : ℕ) → lookup (same k) es ≡ None → has_room (kept_rows es) k.0 n ≡ false
  room_none n h = room_seen es k.0 n ∙ seen_none (fits_in n) false k es h

  pub kept_set : (v w : Table) → lookup (same k) es ≡ Some v → (p : ℕ) → kept_of (kept_rows (set_value (same k) es w)) p ≡ cond (nat_eq p k.0) (kept_in w) (kept_of (kept_rows es) p)
  kept_set v w h p = kept_seen (set_value (same k) es w) p ∙ seen_set kept_in no_kept k es v w h p ∙ ap (cond (nat_eq p k.0) (kept_in w)) (sym (kept_seen es p))

  pub room_set : (v w : Table) → lookup (same k) es ≡ Some v → (p n : ℕ) → has_room (kept_rows (set_value (same k) es w)) p n ≡ cond (nat_eq p k.0) (nat_le n w.store.spare) (has_room (kept_rows es) p n)
  room_set v w h p n = room_seen (set_value (same k) es w) p n ∙ seen_set (fits_in n) false k es v w h p ∙ ap (cond (nat_eq p k.0) (nat_le n w.store.spare)) (sym (room_seen es p n))

  pub kept_push : (w : Table) → lookup (same k) es ≡ None → (p : ℕ) → kept_of (kept_rows (es ++ (k, w) ∷ [])) p ≡ cond (nat_eq p k.0) (kept_in w) (kept_of (kept_rows es) p)
  kept_push w h p = kept_seen (es ++ (k, w) ∷ []) p ∙ seen_push kept_in no_kept k es w h p ∙ ap (cond (nat_eq p k.0) (kept_in w)) (sym (kept_seen es p))

  pub room_push : (w : Table) → lookup (same k) es ≡ None → (p n : ℕ) → has_room (kept_rows (es ++ (k, w) ∷ [])) p n ≡ cond (nat_eq p k.0) (nat_le n w.store.spare) (has_room (kept_rows es) p n)
  room_push w h p n = room_seen (es ++ (k, w) ∷ []) p n ∙ seen_push (fits_in n) false k es w h p ∙ ap (cond (nat_eq p k.0) (nat_le n w.store.spare)) (sym (room_seen es p n))

module _ (k : MemberId) (es : List (MemberId × SentRow)) where
  pub sent_found : (s : SentRow) → lookup (same k) es ≡ Some s → sent_of (last_sent_rows es) k.0 ≡ last_sent_of s
  sent_found s h = sent_seen es k.0 ∙ seen_found last_sent_of never_sent k es s h

  pub sent_none : lookup (same k) es ≡ None → sent_of (last_sent_rows es) k.0 ≡ never_sent
  sent_none h = sent_seen es k.0 ∙ seen_none last_sent_of never_sent k es h

  pub row_found : (s : SentRow) → lookup (same k) es ≡ Some s → has_row (last_sent_rows es) k.0 ≡ true
  row_found s h = row_seen es k.0 ∙ seen_found there false k es s h

  pub row_none : lookup (same k) es ≡ None → has_row (last_sent_rows es) k.0 ≡ false
  row_none h = row_seen es k.0 ∙ seen_none there false k es h

  pub sent_set : (v w : SentRow) → lookup (same k) es ≡ Some v → (p : ℕ) → sent_of (last_sent_rows (set_value (same k) es w)) p ≡ cond (nat_eq p k.0) (last_sent_of w) (sent_of (last_sent_rows es) p)
  sent_set v w h p = sent_seen (set_value (same k) es w) p ∙ seen_set last_sent_of never_sent k es v w h p ∙ ap (cond (nat_eq p k.0) (last_sent_of w)) (sym (sent_seen es p))

  pub row_set : (v w : SentRow) → lookup (same k) es ≡ Some v → (p : ℕ) → has_row (last_sent_rows (set_value (same k) es w)) p ≡ cond (nat_eq p k.0) true (has_row (last_sent_rows es) p)
  row_set v w h p = row_seen (set_value (same k) es w) p ∙ seen_set there false k es v w h p ∙ ap (cond (nat_eq p k.0) true) (sym (row_seen es p))

  pub sent_push : (w : SentRow) → lookup (same k) es ≡ None → (p : ℕ) → sent_of (last_sent_rows (es ++ (k, w) ∷ [])) p ≡ cond (nat_eq p k.0) (last_sent_of w) (sent_of (last_sent_rows es) p)
  sent_push w h p = sent_seen (es ++ (k, w) ∷ []) p ∙ seen_push last_sent_of never_sent k es w h p ∙ ap (cond (nat_eq p k.0) (last_sent_of w)) (sym (sent_seen es p))

  pub row_push : (w : SentRow) → lookup (same k) es ≡ None → (p : ℕ) → has_row (last_sent_rows (es ++ (k, w) ∷ [])) p ≡ cond (nat_eq p k.0) true (has_row (last_sent_rows es) p)
  row_push w h p = row_seen (es ++ (k, w) ∷ []) p ∙ seen_push there false k es w h p ∙ ap (cond (nat_eq p k.0) true) (sym (row_seen es p))

-- a row is there where the look-up finds something
pub row_there : (k : MemberId) (es : List (MemberId × SentRow)) → is_some (lookup (same k) es) ≡ true → has_row (last_sent_rows es) k.0 ≡ true
row_there k es h = by (lookup (same k) es) refl h
  where
    by : (o : Option SentRow) → lookup (same k) es ≡ o → is_some o ≡ true → has_row (last_sent_rows es) k.0 ≡ true
    by None e h = absurd (false≢true h)
    by (Some s) e h = row_found k es s e

pub room_there : (k : MemberId) (es : List (MemberId × Table)) → is_some (lookup (same k) es) ≡ true → has_room (kept_rows es) k.0 0 ≡ true
room_there k es h = by (lookup (same k) es) refl h
  where
    by : (o : Option Table) → lookup (same k) es ≡ o → is_some o ≡ true → has_room (kept_rows es) k.0 0 ≡ true
    by None e h = absurd (false≢true h)
    by (Some t) e h = room_found k es 0 t e ∙ le-leb 0 t.store.spare (omega arith)

-- a row of zeros is added where there is none: it counts as none, and no row is lost
pub row_added : (k : MemberId) (es : List (MemberId × SentRow)) (w : SentRow) → lookup (same k) es ≡ None → has_row (last_sent_rows (es ++ (k, w) ∷ [])) k.0 ≡ true
row_added k es w h = row_push k es w h k.0 ∙ ap (λ b. cond b true (has_row (last_sent_rows es) k.0)) (nat_eq-same k.0)

pub none_sent : (k : MemberId) (es : List (MemberId × SentRow)) (w : SentRow) → lookup (same k) es ≡ None → last_sent_of w ≡ never_sent → KeepsSent (last_sent_rows es) (last_sent_rows (es ++ (k, w) ∷ []))
none_sent k es w h zero = record {
  sent = λ p. sent_push k es w h p ∙ same_written (sent_of (last_sent_rows es)) k.0 (last_sent_of w) (zero ∙ sym (sent_none k es h)) p;
  rows = λ p there. row_push k es w h p ∙ later_true (nat_eq p k.0) there;
}

pub none_kept : (k : MemberId) (es : List (MemberId × Table)) (w : Table) → lookup (same k) es ≡ None → kept_in w ≡ no_kept → KeepsRows (kept_rows es) (kept_rows (es ++ (k, w) ∷ []))
none_kept k es w h zero = record {
  kept = λ p. kept_push k es w h p ∙ same_written (kept_of (kept_rows es)) k.0 (kept_in w) (zero ∙ sym (kept_none k es h)) p;
  room = λ p n there. room_push k es w h p n ∙ passes_written (λ q. has_room (kept_rows es) q n) k.0 (nat_le n w.store.spare) (λ at. absurd (true≢false (sym at ∙ room_none k es n h))) p there;
}

-- a table that starts
pub started : (at base : ℕ) (t : Table) → StartsAt at t.store → t.retired ≡ 0 → t.base ≡ base → kept_in t ≡ record { forgot = at; messages = []; retired = 0; base = base }
started at base t s r b = λ i. record { forgot = s.forgot i; messages = s.messages i; retired = r i; base = b i }

pub room_added : (k : MemberId) (es : List (MemberId × Table)) (w : Table) → lookup (same k) es ≡ None → has_room (kept_rows (es ++ (k, w) ∷ [])) k.0 0 ≡ true
room_added k es w h = room_push k es w h k.0 0 ∙ ap (λ b. cond b (nat_le 0 w.store.spare) (has_room (kept_rows es) k.0 0)) (nat_eq-same k.0) ∙ le-leb 0 w.store.spare (omega arith)

-- what a look-up shows of what is kept
pub kept_shown : (k : MemberId) (es : List (MemberId × Table)) (rows : List KeptRow) → kept_rows es ≡ rows → (o : Option (Bor Table)) → option_copied o ≡ lookup (same k) es
    → MatchOption o (kept_of rows k.0 ≡ no_kept) (λ t. kept_in t.now ≡ kept_of rows k.0)
kept_shown k es rows shows None h = ap (λ rows. kept_of rows k.0) (sym shows) ∙ kept_none k es (sym h)
kept_shown k es rows shows (Some t) h = sym (kept_found k es t.now (sym h)) ∙ ap (λ rows. kept_of rows k.0) shows

-- how much room a row has
pub room_spare : (k : MemberId) (es : List (MemberId × Table)) (n : ℕ) (t : Table) → lookup (same k) es ≡ Some t → has_room (kept_rows es) k.0 n ≡ true → n ≤ t.store.spare
room_spare k es n t h room = leb-true n t.store.spare (sym (room_found k es n t h) ∙ room)

-- room is made in a row
pub row_reserved : (k : MemberId) (es : List (MemberId × Table)) (n : ℕ) (v w : Table) → lookup (same k) es ≡ Some v → n ≤ w.store.spare → has_room (kept_rows (set_value (same k) es w)) k.0 n ≡ true
row_reserved k es n v w h room = room_set k es v w h k.0 n ∙ ap (λ b. cond b (nat_le n w.store.spare) (has_room (kept_rows es) k.0 n)) (nat_eq-same k.0) ∙ le-leb n w.store.spare room

pub keeps_reserved : (k : MemberId) (es : List (MemberId × Table)) (v w : Table) → lookup (same k) es ≡ Some v → kept_in w ≡ kept_in v → v.store.spare ≤ w.store.spare → KeepsRows (kept_rows es) (kept_rows (set_value (same k) es w))
keeps_reserved k es v w h same_kept more = record {
  kept = λ p. kept_set k es v w h p ∙ same_written (kept_of (kept_rows es)) k.0 (kept_in w) (same_kept ∙ sym (kept_found k es v h)) p;
  room = λ p n there. room_set k es v w h p n
      ∙ passes_written (λ q. has_room (kept_rows es) q n) k.0 (nat_le n w.store.spare) (λ at. le-leb n w.store.spare (omega (arith, more, room_spare k es n v h at))) p there;
}

-- what a store keeps, with the same number beside it
pub kept_again : (v w : Table) → KeepsAll v.store w.store → w.retired ≡ v.retired → w.base ≡ v.base → kept_in w ≡ kept_in v
kept_again v w k r b = λ i. record { forgot = k.forgot i; messages = k.messages i; retired = r i; base = b i }

pub kept_joins : (m : Message) (v w : Table) → Gains v.store m w.store → w.retired ≡ v.retired → w.base ≡ v.base → kept_in w ≡ joined m (kept_in v)
kept_joins m v w g r b = λ i. record { forgot = g.forgot i; messages = g.messages i; retired = r i; base = b i }

-- what is kept of an origin after its row is written, as a change of what was kept
pub kept_written : (k : MemberId) (es : List (MemberId × Table)) (v w : Table) (f : Kept → Kept) → lookup (same k) es ≡ Some v → kept_in w ≡ f (kept_in v) → (p : ℕ)
    → kept_of (kept_rows (set_value (same k) es w)) p ≡ cond (nat_eq p k.0) (f (kept_of (kept_rows es) p)) (kept_of (kept_rows es) p)
kept_written k es v w f h e p = kept_set k es v w h p ∙ by (nat_eq p k.0) refl
  where
    by : (b : Bool) → nat_eq p k.0 ≡ b → cond b (kept_in w) (kept_of (kept_rows es) p) ≡ cond b (f (kept_of (kept_rows es) p)) (kept_of (kept_rows es) p)
    by false g = refl
    by true g = e ∙ ap f (sym (kept_found k es v h) ∙ ap (kept_of (kept_rows es)) (sym (nat_eq-is p k.0 g)))

-- the others' room stays
pub room_others : (k : MemberId) (es : List (MemberId × Table)) (v w : Table) → lookup (same k) es ≡ Some v → (p n : ℕ) → nat_eq p k.0 ≡ false
    → has_room (kept_rows (set_value (same k) es w)) p n ≡ has_room (kept_rows es) p n
room_others k es v w h p n apart = room_set k es v w h p n ∙ ap (λ b. cond b (nat_le n w.store.spare) (has_room (kept_rows es) p n)) apart

-- an origin without a row has no room, and nothing is kept of it
pub row_absent : (k : MemberId) (es : List (MemberId × Table)) → has_room (kept_rows es) k.0 0 ≡ false → lookup (same k) es ≡ None
row_absent k es h = by (lookup (same k) es) refl
  where
    by : (o : Option Table) → lookup (same k) es ≡ o → o ≡ None
    by None e = refl
    by (Some t) e = absurd (true≢false (sym (le-leb 0 t.store.spare (omega arith)) ∙ sym (room_found k es 0 t e) ∙ h))

pub kept_absent : (rows : List KeptRow) (p : ℕ) → has_room rows p 0 ≡ false → kept_of rows p ≡ no_kept
kept_absent [] p h = refl
kept_absent (r ∷ rows) p h = by (nat_eq p r.origin.0) (kept_absent rows p) h
  where
    by : (b : Bool) → (has_room rows p 0 ≡ false → kept_of rows p ≡ no_kept) → cond b (nat_le 0 r.room) (has_room rows p 0) ≡ false → cond b r.kept (kept_of rows p) ≡ no_kept
    by true later h = absurd (true≢false (sym (le-leb 0 r.room (omega arith)) ∙ h))
    by false later h = later h

-- a table that starts, with room
pub reserved_start : (at base : ℕ) (t : Table) (s : Pending Message) → StartsAt at t.store → t.retired ≡ 0 → t.base ≡ base → KeepsAll t.store s → kept_in (record t { store = s }) ≡ record { forgot = at; messages = []; retired = 0; base = base }
reserved_start at base t s h r b k = λ i. record { forgot = (k.forgot ∙ h.forgot) i; messages = (k.messages ∙ h.messages) i; retired = r i; base = b i }

pub room_at_push : (k : MemberId) (es : List (MemberId × Table)) (w : Table) (n : ℕ) → lookup (same k) es ≡ None → n ≤ w.store.spare → has_room (kept_rows (es ++ (k, w) ∷ [])) k.0 n ≡ true
room_at_push k es w n h room = room_push k es w h k.0 n ∙ ap (λ b. cond b (nat_le n w.store.spare) (has_room (kept_rows es) k.0 n)) (nat_eq-same k.0) ∙ le-leb n w.store.spare room

pub room_others_push : (k : MemberId) (es : List (MemberId × Table)) (w : Table) → lookup (same k) es ≡ None → (p n : ℕ) → nat_eq p k.0 ≡ false → has_room (kept_rows (es ++ (k, w) ∷ [])) p n ≡ has_room (kept_rows es) p n
room_others_push k es w h p n apart = room_push k es w h p n ∙ ap (λ b. cond b (nat_le n w.store.spare) (has_room (kept_rows es) p n)) apart

-- what follows from a fact of an answer that is no failure
pub on_ok : {A E P Q : Type 0} (r : Result A E) → (P → Q) → OnOk r P → OnOk r Q
on_ok (Ok a) f h = f h
on_ok (Err e) f h = h
