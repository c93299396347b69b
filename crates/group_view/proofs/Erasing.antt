-- The marks of the entries under each change.
use Rattle.std.proofs.Common.{◌≡◌, ℕ, ◌+◌, Bool, true, false, cond, List, map, refl, sym, ap, ◌∙◌, nat_eq}
use Rattle.std.proofs.lemmas.Bool.{false≢true}
use Rattle.group_view.specs.declared.entry.Entry.{Entry}
use Rattle.group_view.specs.declared.entry.Mark.{Mark}
use Rattle.group_view.specs.Ring.{is_in}
use Rattle.group_view.specs.View.{Group, ids, entry_in, left_of}
use Rattle.group_view.specs.Change.{dated, with_mark, remarked, new_entry, with_entry, admitted}
use Rattle.group_view.proofs.Rings.{nat_eq-not}
use Rattle.group_view.proofs.Marks.{dated_keeps, ids-marked, with_mark_id}
use Rattle.group_view.proofs.History.{entry-map, entry_id}
use Rattle.group_view.proofs.Joining.{MayAdmit, not_yet, entry_other, ids-with_entry, in_after}

-- a date leaves the mark
dated_mark : (version : ℕ) (old new : List Entry) (e : Entry) → (dated version old new e).mark ≡ e.mark
dated_mark version old new e = by_case (nat_eq (left_of old e.id.0) (left_of new e.id.0))
  where
    by_case : (b : Bool) → (cond b e (record e { since = version })).mark ≡ e.mark
    by_case true = refl
    by_case false = refl

-- each entry has the mark that it had, but for the one that got one
pub mark-remarked : (m : Mark) (g : Group) (d q : ℕ) → is_in q (ids g.entries) ≡ true → (entry_in (remarked m g d).entries q).mark ≡ cond (nat_eq q d) m (entry_in g.entries q).mark
mark-remarked m g d q i =
    ap (λ (e : Entry). e.mark) (entry-map (dated (g.version + 1) g.entries new) new q (dated_keeps (g.version + 1) g.entries new).keeps_id there)
    ∙ dated_mark (g.version + 1) g.entries new (entry_in new q)
    ∙ ap (λ (e : Entry). e.mark) (entry-map (with_mark m d) g.entries q (with_mark_id m d) i)
    ∙ on_mark (nat_eq (entry_in g.entries q).id.0 d)
    ∙ ap (λ z. cond (nat_eq z d) m (entry_in g.entries q).mark) (entry_id g.entries q i)
  where
    new : List Entry
    new = map (with_mark m d) g.entries

    there : is_in q (ids new) ≡ true
    there = ap (is_in q) (ids-marked m d g.entries) ∙ i

    on_mark : (b : Bool) → (cond b (record (entry_in g.entries q) { mark = m }) (entry_in g.entries q)).mark ≡ cond b m (entry_in g.entries q).mark
    on_mark true = refl
    on_mark false = refl

-- who comes changes no mark
pub mark-admitted : (g : Group) (m : ℕ) (name : List ℕ) (k : MayAdmit g m) (q : ℕ) → is_in q (ids g.entries) ≡ true → (entry_in (admitted g m name).entries q).mark ≡ (entry_in g.entries q).mark
mark-admitted g m name k q i =
    ap (λ (e : Entry). e.mark) (entry-map (dated (g.version + 1) g.entries new) new q (dated_keeps (g.version + 1) g.entries new).keeps_id there)
    ∙ dated_mark (g.version + 1) g.entries new (entry_in new q)
    ∙ ap (λ (e : Entry). e.mark) (entry_other m the_new q g.entries (nat_eq-not g.next_id q (λ e. false≢true (sym (not_yet g m name k) ∙ ap (λ z. is_in z (ids g.entries)) e ∙ i))))
  where
    the_new : Entry
    the_new = new_entry g.next_id name (g.version + 1)

    new : List Entry
    new = with_entry m the_new g.entries

    there : is_in q (ids new) ≡ true
    there = ap (is_in q) (ids-with_entry m the_new g.entries) ∙ in_after m g.next_id q (ids g.entries) i
