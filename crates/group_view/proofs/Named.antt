-- The names of the entries under each change.
use Rattle.std.proofs.Common.{◌≡◌, ℕ, ◌+◌, Bool, true, false, cond, List, [], ◌∷◌, map, bytes_eq, refl, sym, ap, ◌∙◌, nat_eq}
use Rattle.std.proofs.lemmas.Bool.{false≢true}
use Rattle.group_view.specs.declared.entry.Entry.{Entry}
use Rattle.group_view.specs.declared.entry.Mark.{Mark}
use Rattle.group_view.specs.Ring.{is_in}
use Rattle.group_view.specs.View.{Group, ids, entry_in, left_of}
use Rattle.group_view.specs.Change.{dated, with_mark, remarked, new_entry, with_entry, admitted, is_taken}
use Rattle.group_view.proofs.Rings.{nat_eq-not, sym_test}
use Rattle.group_view.proofs.Marks.{dated_keeps, ids-marked, with_mark_id}
use Rattle.group_view.proofs.History.{entry-map}
use Rattle.group_view.proofs.Joining.{MayAdmit, not_yet, entry_other, entry_new, ids-with_entry, in_after, new_in_after}

-- a date leaves the name, and a mark too
dated_name : (version : ℕ) (old new : List Entry) (e : Entry) → (dated version old new e).name ≡ e.name
dated_name version old new e = by_case (nat_eq (left_of old e.id.0) (left_of new e.id.0))
  where
    by_case : (b : Bool) → (cond b e (record e { since = version })).name ≡ e.name
    by_case true = refl
    by_case false = refl

marked_name : (m : Mark) (d : ℕ) (e : Entry) → (with_mark m d e).name ≡ e.name
marked_name m d e = by_case (nat_eq e.id.0 d)
  where
    by_case : (b : Bool) → (cond b (record e { mark = m }) e).name ≡ e.name
    by_case true = refl
    by_case false = refl

pub name-remarked : (m : Mark) (g : Group) (d q : ℕ) → is_in q (ids g.entries) ≡ true → (entry_in (remarked m g d).entries q).name ≡ (entry_in g.entries q).name
name-remarked m g d q i =
    ap (λ (e : Entry). e.name) (entry-map (dated (g.version + 1) g.entries new) new q (dated_keeps (g.version + 1) g.entries new).keeps_id there)
    ∙ dated_name (g.version + 1) g.entries new (entry_in new q)
    ∙ ap (λ (e : Entry). e.name) (entry-map (with_mark m d) g.entries q (with_mark_id m d) i)
    ∙ marked_name m d (entry_in g.entries q)
  where
    new : List Entry
    new = map (with_mark m d) g.entries

    there : is_in q (ids new) ≡ true
    there = ap (is_in q) (ids-marked m d g.entries) ∙ i

module _ (g : Group) (m : ℕ) (name : List ℕ) (k : MayAdmit g m) where
  abbrev the_new : Entry
  the_new = new_entry g.next_id name (g.version + 1)

  abbrev new : List Entry
  new = with_entry m the_new g.entries

  dated_there : (q : ℕ) → is_in q (ids new) ≡ true → (entry_in (admitted g m name).entries q).name ≡ (entry_in new q).name
  dated_there q there =
      ap (λ (e : Entry). e.name) (entry-map (dated (g.version + 1) g.entries new) new q (dated_keeps (g.version + 1) g.entries new).keeps_id there)
      ∙ dated_name (g.version + 1) g.entries new (entry_in new q)

  -- who comes changes no name
  pub name-admitted : (q : ℕ) → is_in q (ids g.entries) ≡ true → (entry_in (admitted g m name).entries q).name ≡ (entry_in g.entries q).name
  name-admitted q i =
      dated_there q (ap (is_in q) (ids-with_entry m the_new g.entries) ∙ in_after m g.next_id q (ids g.entries) i)
      ∙ ap (λ (e : Entry). e.name) (entry_other m the_new q g.entries (nat_eq-not g.next_id q (λ e. false≢true (sym (not_yet g m name k) ∙ ap (λ z. is_in z (ids g.entries)) e ∙ i))))

  -- and has its own
  pub name-new : is_in m (ids g.entries) ≡ true → (entry_in (admitted g m name).entries g.next_id).name ≡ name
  name-new there =
      dated_there g.next_id (ap (is_in g.next_id) (ids-with_entry m the_new g.entries) ∙ new_in_after m g.next_id (ids g.entries) there)
      ∙ ap (λ (e : Entry). e.name) (entry_new m the_new g.entries there (not_yet g m name k))

-- a name that an entry has is taken
pub name_taken : (es : List Entry) (q : ℕ) (name : List ℕ) → is_in q (ids es) ≡ true → bytes_eq (entry_in es q).name name ≡ true → is_taken es name ≡ true
name_taken [] q name i e = absurd (false≢true i)
name_taken (a ∷ es) q name i e = by_id (nat_eq a.id.0 q) refl e (λ j h. name_taken es q name j h)
  where
    here : bytes_eq a.name name ≡ true → is_taken (a ∷ es) name ≡ true
    here h = rw h refl

    later : is_taken es name ≡ true → is_taken (a ∷ es) name ≡ true
    later h = by_name (bytes_eq a.name name) refl
      where
        by_name : (b : Bool) → bytes_eq a.name name ≡ b → is_taken (a ∷ es) name ≡ true
        by_name true t = here t
        by_name false t = rw t h

    there : (b : Bool) → nat_eq q a.id.0 ≡ b → nat_eq a.id.0 q ≡ false → cond b true (is_in q (ids es)) ≡ true → is_in q (ids es) ≡ true
    there true t f k = absurd (false≢true (sym f ∙ sym_test q a.id.0 true t))
    there false t f k = k

    by_id : (b : Bool) → nat_eq a.id.0 q ≡ b → bytes_eq (cond b a (entry_in es q)).name name ≡ true → (is_in q (ids es) ≡ true → bytes_eq (entry_in es q).name name ≡ true → is_taken es name ≡ true) → is_taken (a ∷ es) name ≡ true
    by_id true t h ih = here h
    by_id false t h ih = later (ih (there (nat_eq q a.id.0) refl t i) h)
